-- The transport law: what a section says is read from its own octets, wherever they lie.
use Prim.Native.Nat.{ℕ, ◌+◌, ◌*◌, ◌-◌, ◌%◌, ◌≤◌}
use mathlib.Core.Path.{◌≡◌, refl, sym, ◌∙◌, ap}
use mathlib.Core.List.{List, [], ◌∷◌}
use mathlib.Core.Bool.{Bool, true, ◌&&◌}
use native.Mathlib.Omega.{arith}
use borrow.Author.Tests.{leb-true}
use lib.Dec.{leb}
use lib.ListN.{length, take, drop, length-drop, take-append-drop}
use lib.Seq.{length-take-le}
use Rattle.octets.specs.Octets.{be, sign_bit}
use Rattle.octets.proofs.Lies.{Lies, be_same}
use Rattle.rules.specs.Rules.{Rule, within, magnitude, either, field, meets, meets_all}
use Rattle.rules.specs.Fields.{bins_at, rays_at, points_at}
use Rattle.rules.proofs.Chains.{and_true_both}

pub field_same : (s : List ℕ) (at : ℕ) (o : List ℕ) → Lies s at o → (k w : ℕ) → 1 ≤ k → k + w ≤ length o + 1 → field s at k w ≡ field o 0 k w
unfolding field
field_same s at o h k w one le =
    let e : at + k - 1 ≡ at + (k - 1) = omega arith in
    let z : k - 1 ≡ 0 + k - 1 = omega arith in
    ap (λ (n : ℕ). be s n w) e ∙ be_same s at o h (k - 1) w (omega arith) ∙ ap (λ (n : ℕ). be o n w) z

-- a rule that reads none but the first n octets
abbrev pub reaches : ℕ → Rule → Bool
reaches n (within k w lo hi) = leb 1 k && leb (k + w) (n + 1)
reaches n (magnitude k w m) = leb 1 k && leb (k + w) (n + 1)
reaches n (either a b) = reaches n a && reaches n b

abbrev pub reach_all : ℕ → List Rule → Bool
reach_all n [] = true
reach_all n (r ∷ rs) = reaches n r && reach_all n rs

module _ (s : List ℕ) (at : ℕ) (o : List ℕ) (h : Lies s at o) (n : ℕ) (le : n ≤ length o) where
  field_reached : (k w : ℕ) → (leb 1 k && leb (k + w) (n + 1)) ≡ true → field s at k w ≡ field o 0 k w
  field_reached k w e =
      let b = and_true_both (leb 1 k) (leb (k + w) (n + 1)) e in
      let one = leb-true 1 k b.0 in
      let up = leb-true (k + w) (n + 1) b.1 in
      field_same s at o h k w one (omega arith)

  pub meets_same : (r : Rule) → reaches n r ≡ true → meets s at r ≡ meets o 0 r
  unfolding meets
  meets_same (within k w lo hi) e = ap (λ (x : ℕ). leb lo x && leb x hi) (field_reached k w e)
  meets_same (magnitude k w m) e = ap (λ (x : ℕ). leb (x % sign_bit w) m) (field_reached k w e)
  meets_same (either a b) e =
      let p = and_true_both (reaches n a) (reaches n b) e in
      rw (meets_same a p.0, meets_same b p.1)

  pub rules_same : (rs : List Rule) → reach_all n rs ≡ true → meets_all s at rs ≡ meets_all o 0 rs
  unfolding meets_all
  rules_same [] e = refl
  rules_same (r ∷ rs) e =
      let p = and_true_both (reaches n r) (reach_all n rs) e in
      rw (meets_same r p.0, rules_same rs p.1)

-- and from the part of the file that begins with it
module _ (s : List ℕ) (at to : ℕ) (inside : to ≤ length s) where
  part_lies : Lies s at (take (to - at) (drop at s))
  part_lies = record { after = drop (to - at) (drop at s); from = sym (take-append-drop (to - at) (drop at s)) }

  part_length : length (take (to - at) (drop at s)) ≡ to - at
  part_length = length-take-le (to - at) (drop at s) (omega (arith, length-drop at s))

  pub part_field : (k w : ℕ) → 1 ≤ k → at + k + w ≤ to + 1 → field (take (to - at) (drop at s)) 0 k w ≡ field s at k w
  part_field k w one le = sym (field_same s at (take (to - at) (drop at s)) part_lies k w one (omega (arith, part_length)))

  pub part_rays : at + 22 ≤ to → rays_at (take (to - at) (drop at s)) 0 ≡ rays_at s at
  unfolding rays_at
  part_rays le = part_field 19 4 (omega arith) (omega arith)

  pub part_points : at + 22 ≤ to → points_at (take (to - at) (drop at s)) 0 ≡ points_at s at
  unfolding points_at bins_at
  part_points le = let nb = part_field 15 4 (omega arith) (omega arith) in
      λ i. nb i * part_rays le i

  pub part_meets : (n : ℕ) → at + n ≤ to → (r : Rule) → reaches n r ≡ true → meets (take (to - at) (drop at s)) 0 r ≡ meets s at r
  part_meets n le r e = sym (meets_same s at (take (to - at) (drop at s)) part_lies n (omega (arith, part_length)) r e)

  pub part_rules : (n : ℕ) → at + n ≤ to → (rs : List Rule) → reach_all n rs ≡ true → meets_all (take (to - at) (drop at s)) 0 rs ≡ meets_all s at rs
  part_rules n le rs e = sym (rules_same s at (take (to - at) (drop at s)) part_lies n (omega (arith, part_length)) rs e)
