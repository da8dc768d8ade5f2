-- How sharp the bound is: it cannot be 2^54, and it shuts out single precision.
use mathlib.Core.Path.{◌≡◌, refl, subst}
use mathlib.Core.Bool.{false}
use native.Mathlib.Nat.{not-le_of_lt}
use lib.Dec.{lit<}
use lib.IntN.{pos, negsuc}
use lib.Ieee.{Float, fin, binary32, add, div, of_int, of_bits}
use Rattle.fraction.specs.Near.{NearZ}
use Rattle.scaled.specs.Scaled.{single_size, single_units, exact_numerator, exact_denominator, Right, scaled_value}

-- 2^54: R is 0, Z is 201, E is 0 and D is 2, and no float is so near to 2.01
told : scaled_value 0 201 0 2 ≡ fin false 1131529406376837 (negsuc 48)
unfolding scaled_value add div of_int of_bits
told = refl

pub not_54 : NearZ 54 (scaled_value 0 201 0 2) (exact_numerator 0 201 0) (exact_denominator 2) → ⊥
unfolding single_size single_units exact_numerator exact_denominator
not_54 h =
    let near = subst (λ (y : Float). NearZ 54 y (exact_numerator 0 201 0) (exact_denominator 2)) told h in
    not-le_of_lt (lit< tt) near.1

-- the sum and the division in single precision: R is 0, Z is 1, E is 0 and D is 1, and the single nearest to 0.1 is too far from it
abbrev pub in_single : Float
in_single = div binary32 (add binary32 (of_bits binary32 0) (of_int binary32 (pos 1))) (of_int binary32 (pos 10))

single : in_single ≡ fin false 13421773 (negsuc 26)
unfolding add div of_int of_bits
single = refl

pub not_single : Right in_single 0 1 0 1 → ⊥
unfolding single_size single_units exact_numerator exact_denominator
not_single h =
    let near = subst (λ (y : Float). NearZ 51 y (exact_numerator 0 1 0) (exact_denominator 1)) single h.0 in
    not-le_of_lt (lit< tt) near.1
