-- Each cut of an accepted file is good, and each of a file that is accepted but for its data is so but for its data: its section 3, wherever it stands, and its own sections 4 to 7 are those of `Accepted`.
use Prim.Native.Nat.{ℕ, ◌*◌, ◌<◌}
use mathlib.Core.Path.{◌≡◌, sym, subst}
use mathlib.Core.List.{List}
use mathlib.Core.Bool.{true}
use native.Mathlib.Omega.{arith}
use native.Mathlib.Nat.{mul_comm}
use borrow.Author.Tests.{leb-true}
use lib.ListN.{length, get_or}
use Rattle.base_format.specs.Rules.{scan_rules, rules3}
use Rattle.rules.specs.Fields.{bins_at, rays_at, points_at}
use Rattle.rules.proofs.Bounds.{bins_bound, rays_bound}
use Rattle.base_format.specs.Ready.{greatest_bound}
use Rattle.runs.specs.Run.{gives}
use Rattle.values.specs.Published.{level_count}
use Rattle.sections.specs.Parts.{bins_in, rays_in}
use Rattle.sections.specs.Verdict.{end_of, default_cut}
use Rattle.sections.specs.Accepted.{Body, section_at}
use Rattle.sections.specs.declared.Cut.{Cut}
use Rattle.sections.proofs.Each.{checked, each_cut}
use Rattle.sections.proofs.There.{AllThere}
use Rattle.base_format.specs.Checks.{base_checks, any_data_checks}
use Rattle.base_format.specs.Parts.{data_at, product_in, greatest_in}
use Rattle.base_format.specs.Accepted.{Section3, base_format, Accepted, any_data_format, AcceptedAnyData}
use Rattle.base_format.specs.Good.{AnyDataCut, GoodCut}
use Rattle.base_format.proofs.Says.{says, any_says}
use Rattle.base_format.proofs.AnyData.{body}

-- one cut, of the body that starts at `at` under the section 3 at `s3`: by the checks of its sections, which all hold
any_body : (s : List ℕ) (first s3 at : ℕ) (c : Cut) (next : ℕ) → AllThere s s3 → Section3 (section_at s s3)
    → Body any_data_format s (end_of s) first s3 at c next → AnyDataCut s c
unfolding rules3 product_in bins_in rays_in greatest_in points_at base_checks any_data_checks
any_body s first s3 at c next h three b =
    let k = checked any_data_checks any_data_format any_says s first s3 at c next h three b in
    let bins = bins_bound s s3 50120 scan_rules k.three.1.0 in
    let rays = rays_bound s s3 50120 scan_rules k.three.1.0 in
    let up_to = b.seven.up_to in
    let inside = b.seven.inside in
    let v = greatest_bound s b.s5 (level_count (product_in s (record { section3 = s3; section4 = at; section5 = b.s5; section7 = b.s7 }))) k.five.1.0 in
    subst (AnyDataCut s) (sym b.is)
    (record {
      bins_some = bins.0;
      bins_few = bins.1;
      rays_some = rays.0;
      rays_few = rays.1;
      greatest_few = v;
      data_some = leb-true _ _ k.seven.0;
      data_inside = omega arith;
    })

good_body : (s : List ℕ) (first s3 at : ℕ) (c : Cut) (next : ℕ) → AllThere s s3 → Section3 (section_at s s3)
    → Body base_format s (end_of s) first s3 at c next → GoodCut s c
unfolding bins_in rays_in greatest_in points_at base_checks
good_body s first s3 at c next h three b =
    let k = checked base_checks base_format says s first s3 at c next h three b in
    let same : bins_at s s3 * rays_at s s3 ≡ rays_at s s3 * bins_at s s3 = mul_comm (bins_at s s3) (rays_at s s3) in
    let exact =
    subst (λ (n : ℕ). gives (greatest_in s (record { section3 = s3; section4 = at; section5 = b.s5; section7 = b.s7 })) n (data_at s b.s7) ≡ true) same
    k.seven.1.0 in
    record {
      any = any_body s first s3 at c next h three (body s (end_of s) b);
      exact = subst (λ (d : Cut). gives (greatest_in s d) (rays_in s d * bins_in s d) (data_at s d.section7) ≡ true) (sym b.is) exact;
    }

pub good_accepted : (s : List ℕ) (cs : List Cut) → Accepted s cs → (i : ℕ) → i < length cs → GoodCut s (get_or cs i default_cut)
good_accepted s = each_cut base_format s (GoodCut s) (good_body s)

pub any_cut_of : (s : List ℕ) (cs : List Cut) → AcceptedAnyData s cs → (i : ℕ) → i < length cs → AnyDataCut s (get_or cs i default_cut)
any_cut_of s = each_cut any_data_format s (AnyDataCut s) (any_body s)
