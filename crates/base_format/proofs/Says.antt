-- The checks of this format's own sections, at a place, ask just what `Accepted` says of the sections' octets, for any context.
use Prim.Native.Nat.{ℕ, ◌+◌, ◌*◌, ◌≤◌}
use mathlib.Core.Path.{◌≡◌, refl, ◌∙◌, ap}
use mathlib.Core.List.{List}
use mathlib.Core.Logic.Iff
use mathlib.Core.Logic.{◌↔◌}
use native.Mathlib.Omega.{arith}
use borrow.Author.Tests.{eqb-true}
use lib.Dec.{eqb}
use lib.ListN.{drop}
use Rattle.rules.specs.Rules.{meets_all}
use Rattle.base_format.specs.Rules.{rules4, rules5}
use Rattle.rules.specs.Fields.{length_at, rays_at, points_at, parameter_at}
use Rattle.base_format.specs.Fields.{site_at, greatest_at, count_at}
use Rattle.runs.specs.Run.{gives}
use Rattle.runs.proofs.Meaning.{gives_exactly, exactly_gives}
use Rattle.values.specs.declared.Product.{Product}
use Rattle.values.specs.Table.{table_right}
use Rattle.values.specs.Published.{level_count}
use Rattle.values.proofs.Octets.{table_right_lem, right_table}
use Rattle.sections.specs.Refusal.{refuse}
use Rattle.sections.specs.declared.Context.{Context}
use Rattle.sections.specs.Refused.{AllHold}
use Rattle.sections.specs.Accepted.{section_at}
use Rattle.sections.proofs.There.{AllThere, Known}
use Rattle.sections.proofs.Alike.{field_alike, rays_alike, points_alike, parameter_alike}
use Rattle.sections.proofs.Asks.{also, alike, equal, lengths, leasts, done, named}
use Rattle.sections.proofs.Says.{Says}
use Rattle.sections.proofs.Inside.{either, OwnInside}
use Rattle.base_format.specs.Parts.{product_of}
use Rattle.base_format.specs.Checks.{base_checks, any_data_checks}
use Rattle.base_format.specs.Accepted.{Section3, Section4, Section5, Section7, base_format, AnyDataSection7, any_data_format}
use Rattle.base_format.proofs.Bounds.{fault_upto}
use Rattle.base_format.proofs.Alike.{site_alike, greatest_alike, count_alike, table_alike, data_alike, rules3_alike, rules4_alike, rules5_alike}

three : (s : List ℕ) (x : Context) (at : ℕ) → AllThere s at → AllHold (base_checks s x at 3) ↔ Section3 (section_at s at)
unfolding base_checks
three s x at h =
    named
    (also (equal h refl) (λ long.
    also (alike (rules3_alike s at (omega arith))) (λ r.
    also (equal (field_alike s at 7 4 (omega arith) (omega arith)) (points_alike s at (omega arith))) (λ p. done))))
    (λ r. record { long = r.0; rules = r.1.0; points = r.1.1.0 })
    (λ k. (k.long, (k.rules, (k.points, tt))))

four : (s : List ℕ) (x : Context) (at : ℕ) → Known base_format s x.first x.section3 → AllThere s at
    → AllHold (base_checks s x at 4) ↔ Section4 (section_at s x.first) (section_at s x.section3) (section_at s at)
unfolding base_checks
four s x at n h =
    let o = section_at s at in
    let first = x.first in
    let l3 = n.three.long in
    named
    (also (equal h (ap (λ (r : ℕ). 60 + 4 * r) (rays_alike s x.section3 (omega arith)))) (λ long.
    also (alike (rules4_alike s at (parameter_at s first) (site_at s first) (omega arith)
    ∙ (λ i. meets_all o 0 (rules4 (parameter_alike s first n.long4 i) (site_alike s first n.long4 i))))) (λ r. done)))
    (λ r. record { long = r.0; rules = r.1.0 })
    (λ k. (k.long, (k.rules, tt)))

five : (s : List ℕ) (x : Context) (at : ℕ) → Known base_format s x.section4 x.section3 → AllThere s at
    → AllHold (base_checks s x at 5) ↔ Section5 (section_at s x.section3) (section_at s x.section4) (section_at s at)
unfolding base_checks
five s x at n h =
    let o = section_at s at in
    let p = product_of (parameter_at s x.section4) in
    let q = product_of (parameter_at (section_at s x.section4) 0) in
    let product : p ≡ q = ap product_of (parameter_alike s x.section4 n.long4) in
    let l3 = n.three.long in
    let points = points_alike s x.section3 (omega arith) in
    named
    (also (lengths s at h 17 (17 + 2 * count_at s at) (17 + 2 * count_at o 0) (omega arith) (omega arith) (λ le. ap (λ (m : ℕ). 17 + 2 * m) (count_alike s at le))) (λ long.
    also (alike (rules5_alike s at (level_count p) (omega arith) ∙ ap (λ (u : Product). meets_all o 0 (rules5 (level_count u))) product)) (λ r.
    also (equal (field_alike s at 6 4 (omega arith) (omega arith)) points) (λ e.
    also (Iff.trans (alike (λ i. table_right (table_alike s at h (omega arith) i) (product i))) (table_right_lem (drop 17 o) q, right_table (drop 17 o) q)) (λ t. done)))))
    (λ r. record { long = r.0; rules = r.1.0; points = r.1.1.0; table = r.1.1.1.0 })
    (λ k. (k.long, (k.rules, (k.points, (k.table, tt)))))

seven : (s : List ℕ) (x : Context) (at s4 : ℕ) → Known base_format s s4 x.section3
    → Section5 (section_at s x.section3) (section_at s s4) (section_at s x.section5) → AllThere s at
    → AllHold (base_checks s x at 7) ↔ Section7 (section_at s x.section3) (section_at s x.section5) (section_at s at)
unfolding base_checks
seven s x at s4 n fifth h =
    let o3 = section_at s x.section3 in
    let o5 = section_at s x.section5 in
    let l3 = n.three.long in
    let l5 = fifth.long in
    let points = points_alike s x.section3 (omega arith) in
    let v : greatest_at s x.section5 ≡ greatest_at o5 0 = greatest_alike s x.section5 (omega arith) in
    let octets = drop 5 (section_at s at) in
    named
    (also (leasts s at h 6 6 6 (omega arith) (omega arith) (λ le. refl)) (λ long.
    also (Iff.trans (alike (λ i. gives (v i) (points i) (data_alike s at h (omega arith) i)))
    (gives_exactly (greatest_at o5 0) (points_at o3 0) octets, exactly_gives (greatest_at o5 0) (points_at o3 0) octets)) (λ g. done)))
    (λ r. record { long = r.0; bins = r.1.0 })
    (λ k. (k.long, (k.bins, tt)))

long_four : (s : List ℕ) (x : Context) (at : ℕ) → AllHold (base_checks s x at 4) → 30 ≤ length_at s at
unfolding base_checks
long_four s x at a = let l = eqb-true (length_at s at) (60 + 4 * rays_at s x.section3) a.0 in omega arith

pub says : Says base_checks base_format
says =
    record {
      three = three;
      four = four;
      five = five;
      seven = seven;
      long_four = long_four;
      four_long = λ first s3 s4 k. let l = k.long in omega arith;
    }

-- and each check names a place of the section, or its end
pub own_inside : OwnInside base_checks
unfolding base_checks refuse
own_inside s x at n five lies =
    let here : at ≤ at + length_at s at = omega arith in
    either (eqb n 3) _ _ _ (here, (here, (here, tt)))
    (either (eqb n 4) _ _ _ (here, (here, tt))
    (either (eqb n 5) _ _ _ (here, (here, (here, (here, tt))))
    (either (eqb n 7) _ _ _ (here, (fault_upto s x at five lies, tt)) tt)))

-- ── every check but 8 ──

any_seven : (s : List ℕ) (x : Context) (at s4 : ℕ) → Known any_data_format s s4 x.section3
    → Section5 (section_at s x.section3) (section_at s s4) (section_at s x.section5) → AllThere s at
    → AllHold (any_data_checks s x at 7) ↔ AnyDataSection7 (section_at s x.section3) (section_at s x.section5) (section_at s at)
unfolding any_data_checks
any_seven s x at s4 n fifth h =
    named
    (also (leasts s at h 6 6 6 (omega arith) (omega arith) (λ le. refl)) (λ long. done))
    (λ r. record { long = r.0 })
    (λ k. (k.long, tt))

any_four : (s : List ℕ) (x : Context) (at : ℕ) → Known any_data_format s x.first x.section3 → AllThere s at
    → AllHold (base_checks s x at 4) ↔ Section4 (section_at s x.first) (section_at s x.section3) (section_at s at)
any_four s x at n = four s x at (record { long4 = n.long4; three = n.three })

any_five : (s : List ℕ) (x : Context) (at : ℕ) → Known any_data_format s x.section4 x.section3 → AllThere s at
    → AllHold (base_checks s x at 5) ↔ Section5 (section_at s x.section3) (section_at s x.section4) (section_at s at)
any_five s x at n = five s x at (record { long4 = n.long4; three = n.three })

pub any_says : Says any_data_checks any_data_format
unfolding any_data_checks
any_says =
    record {
      three = three;
      four = any_four;
      five = any_five;
      seven = any_seven;
      long_four = long_four;
      four_long = λ first s3 s4 k. let l = k.long in omega arith;
    }

pub any_own_inside : OwnInside any_data_checks
unfolding any_data_checks refuse
any_own_inside s x at n five lies =
    let here : at ≤ at + length_at s at = omega arith in
    either (eqb n 7) _ _ _ (here, tt) (own_inside s x at n five lies)
