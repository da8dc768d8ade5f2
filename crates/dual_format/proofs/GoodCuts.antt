-- Each cut of an accepted file is good: its section 3, wherever it stands, and its own sections 4 to 7 are those of `Accepted`.
use Prim.Native.Nat.{ℕ, ◌+◌, ◌*◌, ◌/◌, ◌<◌}
use mathlib.Core.Path.{◌≡◌, sym, ◌∙◌, ap, subst}
use mathlib.Core.List.{List}
use mathlib.Core.Bool.{true}
use mathlib.Core.Logic.{◌⊎◌, inl, inr}
use native.Mathlib.Omega.{arith}
use native.Mathlib.Nat.{mul_comm}
use borrow.Author.Tests.{eqb-true}
use lib.ListN.{length, get_or}
use Rattle.rules.specs.Rules.{is, meets}
use Rattle.rules.specs.Fields.{bins_at, rays_at, points_at}
use Rattle.rules.proofs.Chains.{and_true_both}
use Rattle.rules.proofs.Bounds.{nth_rule, within_is, is_exactly, bins_bound, rays_bound}
use Rattle.scaled.specs.Scaled.{finite_single, Packing}
use Rattle.sections.specs.Parts.{bins_in, rays_in}
use Rattle.sections.specs.Verdict.{end_of, default_cut}
use Rattle.sections.specs.Accepted.{Body, section_at}
use Rattle.sections.specs.declared.Context.{Context}
use Rattle.sections.specs.Refused.{AllHold}
use Rattle.sections.specs.declared.Cut.{Cut}
use Rattle.sections.proofs.Order.{either_of}
use Rattle.sections.proofs.Each.{context_for, checked, each_cut}
use Rattle.sections.proofs.There.{AllThere}
use Rattle.dual_format.specs.Rules.{flag_rules, rules3, rules5, width_rule}
use Rattle.dual_format.specs.Fields.{reference_at, binary_scale_at, decimal_scale_at, width_at, length7}
use Rattle.dual_format.specs.Checks.{dual_checks}
use Rattle.dual_format.specs.Parts.{reference_in, binary_scale_in, decimal_scale_in, width_in}
use Rattle.dual_format.specs.Accepted.{Section3, dual_format, Accepted}
use Rattle.dual_format.specs.Good.{GoodCut}
use Rattle.dual_format.proofs.Says.{says}

-- ── section 5 ──

width_is : (s : List ℕ) (at : ℕ) → meets s at width_rule ≡ true → (width_at s at ≡ 8) ⊎ (width_at s at ≡ 16)
unfolding meets width_at
width_is s at h = either_of (meets s at (is 20 1 8)) (meets s at (is 20 1 16)) h (λ e. inl (is_exactly s at 20 1 8 e)) (λ e. inr (is_exactly s at 20 1 16 e))

packing_of : (s : List ℕ) (x : Context) (at : ℕ) → AllHold (dual_checks s x at 5) → Packing (reference_at s at) (binary_scale_at s at) (decimal_scale_at s at) (width_at s at)
unfolding rules5 binary_scale_at decimal_scale_at dual_checks
packing_of s x at a =
    let p = and_true_both (finite_single (reference_at s at)) (meets s at width_rule) a.1.1.0 in
    record {
      reference = p.0;
      binary_scale = (within_is s at 16 2 0 2 (nth_rule s at rules5 (is 0 0 0) a.1.0 1 (omega arith))).1;
      decimal_scale = (within_is s at 18 2 0 4 (nth_rule s at rules5 (is 0 0 0) a.1.0 2 (omega arith))).1;
      cells = width_is s at p.1;
    }

-- ── section 7 ──

-- n cells of 8 or 16 bits are n times one or two octets
whole : (n w : ℕ) → (w ≡ 8) ⊎ (w ≡ 16) → n * w / 8 ≡ n * (w / 8)
whole n w p = elim p [ inl e ↦ rw e (omega arith) | inr e ↦ rw e (omega arith) ]

length_of : (s : List ℕ) (s3 s5 : ℕ) → (width_at s s5 ≡ 8) ⊎ (width_at s s5 ≡ 16) → length7 (points_at s s3) (width_at s s5) ≡ 5 + rays_at s s3 * bins_at s s3 * (width_at s s5 / 8)
unfolding length7 points_at
length_of s s3 s5 w =
    ap (λ (n : ℕ). 5 + n)
    (whole (bins_at s s3 * rays_at s s3) (width_at s s5) w ∙ ap (λ (n : ℕ). n * (width_at s s5 / 8)) (mul_comm (bins_at s s3) (rays_at s s3)))

-- one cut, of the body that starts at `at` under the section 3 at `s3`: by the checks of its sections, which all hold
good_body : (s : List ℕ) (first s3 at : ℕ) (c : Cut) (next : ℕ) → AllThere s s3 → Section3 (section_at s s3)
    → Body dual_format s (end_of s) first s3 at c next → GoodCut s c
unfolding rules3 reference_in binary_scale_in decimal_scale_in width_in bins_in rays_in dual_checks
good_body s first s3 at c next h three b =
    let k = checked dual_checks dual_format says s first s3 at c next h three b in
    let up_to = b.seven.up_to in
    let inside = b.seven.inside in
    let packing = packing_of s (context_for first s3 at b.s5) b.s5 k.five in
    subst (GoodCut s) (sym b.is)
    (record {
      bins_few = (bins_bound s s3 50121 flag_rules k.three.1.0).1;
      rays_few = (rays_bound s s3 50121 flag_rules k.three.1.0).1;
      packing = packing;
      cells = eqb-true _ _ k.seven.0 ∙ length_of s s3 b.s5 packing.cells;
      inside = omega arith;
    })

pub good_accepted : (s : List ℕ) (cs : List Cut) → Accepted s cs → (i : ℕ) → i < length cs → GoodCut s (get_or cs i default_cut)
good_accepted s = each_cut dual_format s (GoodCut s) (good_body s)
