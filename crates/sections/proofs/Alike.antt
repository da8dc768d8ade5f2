-- The fields that both formats go by, of a section at a place and of its octets; the grid and the time.
use Prim.Native.Nat.{ℕ, ◌+◌, ◌≤◌}
use mathlib.Core.Path.{◌≡◌, sym, ◌∙◌, ap, subst}
use mathlib.Core.List.{List}
use native.Mathlib.Omega.{arith}
use lib.ListN.{length}
use Rattle.octets.specs.Octets.{signed}
use Rattle.rules.specs.Rules.{field}
use Rattle.rules.specs.Fields.{bins_at, rays_at, points_at, parameter_at}
use Rattle.rules.proofs.Moved.{field_same}
use Rattle.sections.specs.Parts.{grid_at, time_of}
use Rattle.sections.specs.Accepted.{section_at}
use Rattle.sections.proofs.There.{lies_at}

module _ (s : List ℕ) (at : ℕ) where
  pub field_alike : (k w : ℕ) → 1 ≤ k → k + w ≤ length (section_at s at) + 1 → field s at k w ≡ field (section_at s at) 0 k w
  field_alike k w one le = field_same s at (section_at s at) (lies_at s at) k w one le

  pub bins_alike : 22 ≤ length (section_at s at) → bins_at s at ≡ bins_at (section_at s at) 0
  unfolding bins_at
  bins_alike le = field_alike 15 4 (omega arith) (omega arith)

  pub rays_alike : 22 ≤ length (section_at s at) → rays_at s at ≡ rays_at (section_at s at) 0
  unfolding rays_at
  rays_alike le = field_alike 19 4 (omega arith) (omega arith)

  pub points_alike : 22 ≤ length (section_at s at) → points_at s at ≡ points_at (section_at s at) 0
  unfolding points_at
  points_alike le = rw (bins_alike le, rays_alike le)

  pub parameter_alike : 30 ≤ length (section_at s at) → parameter_at s at ≡ parameter_at (section_at s at) 0
  unfolding parameter_at
  parameter_alike le = field_alike 11 1 (omega arith) (omega arith)

  pub grid_alike : 38 ≤ length (section_at s at) → grid_at s at ≡ grid_at (section_at s at) 0
  unfolding grid_at
  grid_alike le =
      (λ i.
      record {
        nb = bins_alike (omega arith) i;
        nr = rays_alike (omega arith) i;
        latitude = signed 4 (field_alike 23 4 (omega arith) (omega arith) i);
        longitude = field_alike 27 4 (omega arith) (omega arith) i;
        dx = field_alike 31 4 (omega arith) (omega arith) i;
        dstart = field_alike 35 4 (omega arith) (omega arith) i;
      })

-- two files with the same section 1 have the same time
pub same_time : (s t : List ℕ) → 21 ≤ length (section_at s 16) → section_at s 16 ≡ section_at t 16 → time_of s ≡ time_of t
unfolding time_of
same_time s t long e =
    let long' : 21 ≤ length (section_at t 16) = subst (λ (o : List ℕ). 21 ≤ length o) e long in
    let same : (k w : ℕ) → 1 ≤ k → k + w ≤ 22 → field s 16 k w ≡ field t 16 k w =
    λ k w one le. field_alike s 16 k w one (omega arith) ∙ ap (λ (o : List ℕ). field o 0 k w) e ∙ sym (field_alike t 16 k w one (omega arith)) in
    (λ i.
    record {
      year = same 13 2 (omega arith) (omega arith) i;
      month = same 15 1 (omega arith) (omega arith) i;
      day = same 16 1 (omega arith) (omega arith) i;
      hour = same 17 1 (omega arith) (omega arith) i;
      minute = same 18 1 (omega arith) (omega arith) i;
      second = same 19 1 (omega arith) (omega arith) i;
    })
