-- The cuts of an accepted file follow each other as `cut_after` says: by induction along the cuts of `Accepted`.
use Prim.Native.Nat.{ℕ, zero, suc, ◌<◌}
use mathlib.Core.Path.{◌≡◌, sym, ◌∙◌, ap}
use mathlib.Core.List.{List, ◌∷◌}
use native.Mathlib.Omega.{arith}
use native.Mathlib.Nat.{not-suc-le-zero, le_of_suc-le-suc}
use borrow.Author.Tests.{eq-eqb, ne_eqb}
use lib.ListN.{length, get_or}
use Rattle.rules.specs.Fields.{number_at}
use Rattle.sections.specs.Verdict.{end_of, default_cut}
use Rattle.sections.specs.Accepted.{Body, Cuts, none, new_3, same_3}
use Rattle.base_format.specs.Accepted.{base_format, Accepted}
use Rattle.sections.specs.declared.Cut.{Cut}
use Rattle.cuts.specs.After.{end_at, body_at, cut_after}

module _ (s : List ℕ) (end first : ℕ) where
  body_is : (s3 at : ℕ) (c : Cut) (next : ℕ) → Body base_format s end first s3 at c next → c ≡ body_at s s3 at
  body_is s3 at c next b =
      let e5 : b.s5 ≡ end_at s at = sym b.four.up_to in
      let e6 : b.s6 ≡ end_at s b.s5 = sym b.five.up_to in
      let e7 : b.s7 ≡ end_at s b.s6 = sym b.six.here.up_to in
      let e : b.s7 ≡ end_at s (end_at s (end_at s at)) = e7 ∙ ap (end_at s) (e6 ∙ ap (end_at s) e5) in
      b.is ∙ (λ i. record { section3 = s3; section4 = at; section5 = e5 i; section7 = e i })

  body_end : (s3 at : ℕ) (c : Cut) (next : ℕ) → Body base_format s end first s3 at c next → end_at s c.section7 ≡ next
  body_end s3 at c next b = ap (λ (x : Cut). end_at s x.section7) b.is ∙ b.seven.up_to

  body_three : (s3 at : ℕ) (c : Cut) (next : ℕ) → Body base_format s end first s3 at c next → c.section3 ≡ s3
  body_three s3 at c next b = ap (λ (x : Cut). x.section3) b.is

  -- the cut after c, where the cuts that follow begin at the place past c
  after_one : (s3 at : ℕ) (c d : Cut) (ds : List Cut) → c.section3 ≡ s3 → end_at s c.section7 ≡ at → Cuts base_format s end first s3 at (d ∷ ds) → d ≡ cut_after s c
  unfolding cut_after
  after_one s3 at c d ds e3 e (new_3 {b = b} {next = next} three is body r) =
      let n : number_at s (end_at s c.section7) ≡ 3 = ap (number_at s) e ∙ three.number in
      let up : b ≡ end_at s at = sym three.up_to in
      rw (eq-eqb _ _ n) (body_is at b d next body ∙ (λ i. body_at s (sym e i) ((up ∙ ap (end_at s) (sym e)) i)))
  after_one s3 at c d ds e3 e (same_3 {next = next} body r) =
      let n : number_at s (end_at s c.section7) ≡ 4 = ap (number_at s) e ∙ body.four.number in
      let ne : number_at s (end_at s c.section7) ≡ 3 → ⊥ = λ z. omega arith in
      rw (ne_eqb _ _ ne) (body_is s3 at d next body ∙ (λ i. body_at s (sym e3 i) (sym e i)))

  chain : (s3 at : ℕ) (c : Cut) (cs : List Cut) → c.section3 ≡ s3 → end_at s c.section7 ≡ at → Cuts base_format s end first s3 at cs
      → (i : ℕ) → suc i < length (c ∷ cs) → get_or (c ∷ cs) (suc i) default_cut ≡ cut_after s (get_or (c ∷ cs) i default_cut)
  chain s3 at c cs e3 e none i lt = absurd (not-suc-le-zero (le_of_suc-le-suc lt))
  chain s3 at c cs e3 e (new_3 {b = b} {next = next} {c = d} {cs = ds} three is body r) zero lt =
      after_one s3 at c d ds e3 e (new_3 three is body r)
  chain s3 at c cs e3 e (new_3 {b = b} {next = next} {c = d} {cs = ds} three is body r) (suc i) lt =
      chain at next d ds (body_three at b d next body) (body_end at b d next body) r i (le_of_suc-le-suc lt)
  chain s3 at c cs e3 e (same_3 {next = next} {c = d} {cs = ds} body r) zero lt =
      after_one s3 at c d ds e3 e (same_3 body r)
  chain s3 at c cs e3 e (same_3 {next = next} {c = d} {cs = ds} body r) (suc i) lt =
      chain s3 next d ds (body_three s3 at d next body) (body_end s3 at d next body) r i (le_of_suc-le-suc lt)

pub next_is : (s : List ℕ) (cs : List Cut) → Accepted s cs → (i : ℕ) → suc i < length cs → get_or cs (suc i) default_cut ≡ cut_after s (get_or cs i default_cut)
next_is s cs a i lt =
    let p = a.past in
    rw p.are
    (chain s (end_of s) p.s4 p.s3 p.next p.cut p.later
    (body_three s (end_of s) p.s4 p.s3 p.s4 p.cut p.next p.body)
    (body_end s (end_of s) p.s4 p.s3 p.s4 p.cut p.next p.body)
    p.cuts i (rw p.are at lt))
