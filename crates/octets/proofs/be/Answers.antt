-- The octets from the place on are there whole or in part, or there are none.
use Rattle.std.proofs.Common.{ℕ, ◌≡◌, ◌-◌, List, ◌++◌, length, drop, take, slice_range, sym, ap, ◌∙◌, arith, length-drop}
use Rattle.std.proofs.Math.ListN.{take-append-drop}
use Rattle.std.proofs.Math.Seq.{take_all}
use Rattle.std.proofs.Math.Nat.{one-le-pow}
use Rattle.octets.specs.Octets.{be}
use Rattle.octets.proofs.Laws.{be_drop, be_past}
use Rattle.octets.proofs.Lies.{be_same}
use Rattle.octets.proofs.be.Goals as goal

-- what is read of the rest is read at the place
rest_reads : (s rest : List ℕ) (at w : ℕ) → rest ≡ slice_range s at (length s) → be rest 0 w ≡ be s at w
rest_reads s rest at w is = ap (λ (l : List ℕ). be l 0 w) (is ∙ take_all (length s - at) (drop at s) (omega (arith, length-drop at s))) ∙ be_drop s at w

-- and of its first octets alone
first_read : (rest octets : List ℕ) (w v : ℕ) → w ≡ v → octets ≡ slice_range rest 0 w → length octets ≡ w → be octets 0 (length octets) ≡ be rest 0 v
first_read rest octets w v e is size =
    let front : take w rest ≡ octets = sym (is ∙ ap (λ (n : ℕ). take n rest) (omega arith)) in
    let parts = sym (take-append-drop w rest) ∙ ap (λ (l : List ℕ). l ++ drop w rest) front in
    rw (size, ← e) (sym (be_same rest 0 octets (record { after = drop w rest; from = parts }) 0 w (omega arith)))

pub of-requires : goal.of-requires
of-requires g c = one-le-pow g.T.Number.WIDTH 256 (omega arith)

pub returns-in_default : goal.returns-in_default
returns-in_default g c = c.of.ensures ∙ sym (be_past _ _ g.T.Number.WIDTH (omega (arith, c.in_default.ensures.lookup.0)))

pub returns-in-Some-get : goal.returns-in-Some-get
returns-in-Some-get g c =
    let part = c.in-Some-get.ensures.lookup.0 in
    let first = first_read c.in-Some.rest.now c.in-Some-get.octets.now c.WIDTH.result g.T.Number.WIDTH c.WIDTH.ensures part.2 (omega (arith, part.3)) in
    let rest = rest_reads c.args.s.now c.in-Some.rest.now c.args.at g.T.Number.WIDTH c.in-Some.ensures.lookup.0.2 in
    omega (arith, c.of-in-Some-get.ensures, c.joined.ensures.value, first, rest)

pub returns-in-None : goal.returns-in-None
returns-in-None g c = c.cut_off.ensures ∙ rest_reads c.args.s.now c.in-Some.rest.now c.args.at g.T.Number.WIDTH c.in-Some.ensures.lookup.0.2
