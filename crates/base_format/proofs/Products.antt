-- The product's number and `product_of` undo each other; so of each cut of an accepted file the number that is told is the parameter that the file has.
use Prim.Native.Nat.{ℕ, ◌≤◌, ◌<◌}
use mathlib.Core.Path.{◌≡◌, refl, sym, ◌∙◌, ap, subst}
use mathlib.Core.Bool.{Bool, true, false, cond}
use mathlib.Core.List.{List}
use native.Mathlib.Omega.{arith}
use borrow.Author.Tests.{eqb-true, eqb-false}
use lib.Dec.{eqb}
use lib.ListN.{length, get_or}
use Rattle.rules.specs.Rules.{is}
use Rattle.rules.specs.Fields.{parameter_at}
use Rattle.rules.proofs.Bounds.{nth_rule, within_is}
use Rattle.values.specs.declared.Product.{Product}
use Rattle.values.specs.declared.Product.TheVariants.{Reflectivity, Velocity}
use Rattle.sections.specs.Accepted.{Body, section_at}
use Rattle.sections.specs.Verdict.{end_of, default_cut}
use Rattle.sections.specs.declared.Cut.{Cut}
use Rattle.sections.proofs.Alike.{parameter_alike}
use Rattle.sections.proofs.Each.{each_cut}
use Rattle.sections.proofs.There.{AllThere}
use Rattle.base_format.specs.Rules.{rules4}
use Rattle.base_format.specs.Fields.{site_at}
use Rattle.base_format.specs.Parts.{product_of, product_number, product_in}
use Rattle.base_format.specs.Accepted.{Section3, Section4, base_format, Accepted}
use Rattle.base_format.proofs.Says.{says}

pub product_of_number : (p : Product) → product_of (product_number p) ≡ p
unfolding product_of
product_of_number Reflectivity = refl
product_of_number Velocity = refl

pub number_of_product : (n : ℕ) → 1 ≤ n → n ≤ 2 → product_number (product_of n) ≡ n
unfolding product_of
number_of_product n low high = go (eqb n 1) refl
  where
    go : (t : Bool) → eqb n 1 ≡ t → product_number (cond t Reflectivity Velocity) ≡ n
    go true e = sym (eqb-true n 1 e)
    go false e = omega (arith, eqb-false n 1 e)

-- octet 11 of a section 4 is 1 or 2
parameter_bound : (first s3 s4 : List ℕ) → Section4 first s3 s4 → (1 ≤ parameter_at s4 0) × (parameter_at s4 0 ≤ 2)
unfolding rules4 parameter_at
parameter_bound first s3 s4 k = within_is s4 0 11 1 1 2 (nth_rule s4 0 (rules4 (parameter_at first 0) (site_at first 0)) (is 0 0 0) k.rules 3 (omega arith))

number_in_body : (s : List ℕ) (first s3 at : ℕ) (c : Cut) (next : ℕ) → AllThere s s3 → Section3 (section_at s s3)
    → Body base_format s (end_of s) first s3 at c next → product_number (product_in s c) ≡ parameter_at s c.section4
unfolding product_in
number_in_body s first s3 at c next h three b =
    let e = parameter_alike s at (says.four_long _ _ _ b.four_is) in
    let bounds = parameter_bound _ _ _ b.four_is in
    subst (λ (d : Cut). product_number (product_in s d) ≡ parameter_at s d.section4) (sym b.is)
    (ap (λ (n : ℕ). product_number (product_of n)) e ∙ number_of_product _ bounds.0 bounds.1 ∙ sym e)

pub number_is_parameter : (s : List ℕ) (cs : List Cut) → Accepted s cs → (i : ℕ) → i < length cs → product_number (product_in s (get_or cs i default_cut)) ≡ parameter_at s (get_or cs i default_cut).section4
number_is_parameter s = each_cut base_format s (λ c. product_number (product_in s c) ≡ parameter_at s c.section4) (number_in_body s)
