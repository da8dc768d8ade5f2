-- The checks of this format's own sections, at a place, ask just what `Accepted` says of the sections' octets, for any context.
use Prim.Native.Nat.{ℕ, ◌+◌, ◌≤◌}
use mathlib.Core.Path.{◌≡◌, refl, ◌∙◌, ap}
use mathlib.Core.List.{List}
use mathlib.Core.Logic.{◌↔◌}
use borrow.Author.Tests.{leb-true}
use lib.Dec.{eqb}
use lib.ListN.{length}
use mathlib.Core.Bool.{◌&&◌}
use native.Mathlib.Omega.{arith}
use Rattle.rules.specs.Rules.{meets, meets_all}
use Rattle.rules.specs.Fields.{length_at, rays_at, points_at, parameter_at}
use Rattle.rules.proofs.Chains.{and_true_both, both}
use Rattle.scaled.specs.Scaled.{finite_single}
use Rattle.sections.specs.Refusal.{refuse}
use Rattle.sections.specs.declared.Context.{Context}
use Rattle.sections.specs.Refused.{AllHold}
use Rattle.sections.specs.Accepted.{section_at}
use Rattle.sections.proofs.There.{AllThere, Known}
use Rattle.sections.proofs.Alike.{field_alike, rays_alike, points_alike, parameter_alike}
use Rattle.sections.proofs.Asks.{also, alike, equal, lengths, leasts, done, named}
use Rattle.sections.proofs.Says.{Says}
use Rattle.sections.proofs.Inside.{either, OwnInside}
use Rattle.dual_format.specs.Rules.{rules4, width_rule}
use Rattle.dual_format.specs.Fields.{with_lists, length3, least4, site_at, reference_at, width_at, length7}
use Rattle.dual_format.specs.Checks.{dual_checks}
use Rattle.dual_format.specs.Accepted.{Section3, Section4, Section5, Section7, dual_format}
use Rattle.dual_format.proofs.Alike.{lists_long, lists_alike, site_alike, reference_alike, width_alike, rules3_alike, scan_alike, rules4_alike, rules5_alike, cells_alike}

three : (s : List ℕ) (x : Context) (at : ℕ) → AllThere s at → AllHold (dual_checks s x at 3) ↔ Section3 (section_at s at)
unfolding dual_checks
three s x at h =
    let o = section_at s at in
    let due = lists_long 58 53 54 o 0 (rays_at o 0) in
    let same : 58 ≤ length o → length3 s at ≡ length3 o 0 =
    λ le.
    lists_alike s at 58 53 54 (rays_at s at) (omega arith) (omega arith) (omega arith) (omega arith)
    ∙ ap (with_lists 58 53 54 o 0) (rays_alike s at (omega arith)) in
    named
    (also (lengths s at h 58 (length3 s at) (length3 o 0) (lists_long 58 53 54 s at (rays_at s at)) due same) (λ long.
    also (alike (rules3_alike s at (omega arith))) (λ r.
    also (alike (scan_alike s at (omega arith))) (λ m.
    also (equal (field_alike s at 7 4 (omega arith) (omega arith)) (points_alike s at (omega arith))) (λ p. done)))))
    (λ r. record { long = r.0; rules = r.1.0; scan = r.1.1.0; points = r.1.1.1.0 })
    (λ k. (k.long, (k.rules, (k.scan, (k.points, tt)))))

long3 : (o3 : List ℕ) → Section3 o3 → 58 ≤ length o3
long3 o3 k = let m = k.long in let n = lists_long 58 53 54 o3 0 (rays_at o3 0) in omega arith

four : (s : List ℕ) (x : Context) (at : ℕ) → Known dual_format s x.first x.section3 → AllThere s at
    → AllHold (dual_checks s x at 4) ↔ Section4 (section_at s x.first) (section_at s x.section3) (section_at s at)
unfolding dual_checks
four s x at n h =
    let o = section_at s at in
    let first = x.first in
    let s3 = x.section3 in
    let l3 = long3 _ n.three in
    let rays = rays_alike s s3 (omega arith) in
    let due = lists_long 61 56 57 o 0 (rays_at (section_at s s3) 0) in
    let same : 61 ≤ length o → least4 s at (rays_at s s3) ≡ least4 o 0 (rays_at (section_at s s3) 0) =
    λ le. lists_alike s at 61 56 57 (rays_at s s3) (omega arith) (omega arith) (omega arith) (omega arith) ∙ ap (with_lists 61 56 57 o 0) rays in
    named
    (also (leasts s at h 61 (least4 s at (rays_at s s3)) (least4 o 0 (rays_at (section_at s s3) 0)) (lists_long 61 56 57 s at (rays_at s s3)) due same) (λ long.
    also (alike (rules4_alike s at (parameter_at s first) (site_at s first) (omega arith)
    ∙ (λ i. meets_all o 0 (rules4 (parameter_alike s first n.long4 i) (site_alike s first n.long4 i))))) (λ r. done)))
    (λ r. record { long = r.0; rules = r.1.0 })
    (λ k. (k.long, (k.rules, tt)))

five : (s : List ℕ) (x : Context) (at : ℕ) → Known dual_format s x.section4 x.section3 → AllThere s at
    → AllHold (dual_checks s x at 5) ↔ Section5 (section_at s x.section3) (section_at s x.section4) (section_at s at)
unfolding dual_checks
five s x at n h =
    let o = section_at s at in
    let l3 = long3 _ n.three in
    let points = points_alike s x.section3 (omega arith) in
    named
    (also (equal h refl) (λ long.
    also (alike (rules5_alike s at (omega arith))) (λ r.
    also (alike (λ i. finite_single (reference_alike s at (omega arith) i) && cells_alike s at (omega arith) i)) (λ u.
    also (equal (field_alike s at 6 4 (omega arith) (omega arith)) points) (λ p. done)))))
    (λ r.
    let u = and_true_both (finite_single (reference_at o 0)) (meets o 0 width_rule) r.1.1.0 in
    record { long = r.0; rules = r.1.0; number = u.0; width = u.1; points = r.1.1.1.0 })
    (λ k. (k.long, (k.rules, (both k.number k.width, (k.points, tt)))))

seven : (s : List ℕ) (x : Context) (at s4 : ℕ) → Known dual_format s s4 x.section3
    → Section5 (section_at s x.section3) (section_at s s4) (section_at s x.section5) → AllThere s at
    → AllHold (dual_checks s x at 7) ↔ Section7 (section_at s x.section3) (section_at s x.section5) (section_at s at)
unfolding dual_checks
seven s x at s4 n fifth h =
    let l3 = long3 _ n.three in
    let l5 = fifth.long in
    let due : length7 (points_at s x.section3) (width_at s x.section5) ≡ length7 (points_at (section_at s x.section3) 0) (width_at (section_at s x.section5) 0) =
    (λ i. length7 (points_alike s x.section3 (omega arith) i) (width_alike s x.section5 (omega arith) i)) in
    named (also (equal h due) (λ long. done)) (λ r. record { long = r.0 }) (λ k. (k.long, tt))

long_four : (s : List ℕ) (x : Context) (at : ℕ) → AllHold (dual_checks s x at 4) → 30 ≤ length_at s at
unfolding dual_checks
long_four s x at a =
    let l = leb-true (least4 s at (rays_at s x.section3)) (length_at s at) a.0 in
    let n = lists_long 61 56 57 s at (rays_at s x.section3) in
    omega arith

pub says : Says dual_checks dual_format
says =
    record {
      three = three;
      four = four;
      five = five;
      seven = seven;
      long_four = long_four;
      four_long = λ first s3 s4 k. let l = k.long in let n = lists_long 61 56 57 s4 0 (rays_at s3 0) in omega arith;
    }

-- and each check names the section's place, which is one of its own
pub own_inside : OwnInside dual_checks
unfolding dual_checks refuse
own_inside s x at n five lies =
    let here : at ≤ at + length_at s at = omega arith in
    either (eqb n 3) _ _ _ (here, (here, (here, (here, tt))))
    (either (eqb n 4) _ _ _ (here, (here, tt))
    (either (eqb n 5) _ _ _ (here, (here, (here, (here, tt))))
    (either (eqb n 7) _ _ _ (here, tt) tt)))
