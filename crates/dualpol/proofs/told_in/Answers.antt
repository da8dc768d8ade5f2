-- The packing of a good cut is one that cells are told by, and its cells are few.
use Prim.Native.Nat.{ℕ, ◌+◌, ◌*◌, ◌/◌, ◌≤◌}
use Rattle.rules.specs.Rules.{field}
use Rattle.scaled.specs.Scaled.{cell_of}
use Rattle.sections.specs.Parts.{bins_in, rays_in}
use Rattle.dual_format.specs.Fields.{reference_at, binary_scale_at, decimal_scale_at, width_at}
use Rattle.dual_format.specs.Parts.{reference_in, binary_scale_in, decimal_scale_in, width_in, cell_in, told_in}
use Rattle.dualpol.proofs.Cells.{few_cells}
use Rattle.dualpol.proofs.Answering.{right_at}
use native.Mathlib.Omega.{arith}
use mathlib.Core.Path.{◌≡◌, ◌∙◌}
use Rattle.dualpol.proofs.told_in.Goals as goal

pub overflow_mul-n : goal.overflow_mul-n
overflow_mul-n c =
    let cells-few : (nb : ℕ) → nb ≡ bins_in c.args.file.now c.args.c → c.args.ray * nb + c.args.bin ≤ 2097152 = λ nb e. few_cells c.args.ray c.args.bin (rays_in c.args.file.now c.args.c) nb c.requires.1 (omega (arith, c.requires.2)) c.requires.0.rays_few (omega (arith, c.requires.0.bins_few)) in
    record { fits = omega (arith, cells-few c.bins_in.result c.bins_in.ensures) }

pub overflow_add-n : goal.overflow_add-n
overflow_add-n c =
    let cells-few : (nb : ℕ) → nb ≡ bins_in c.args.file.now c.args.c → c.args.ray * nb + c.args.bin ≤ 2097152 = λ nb e. few_cells c.args.ray c.args.bin (rays_in c.args.file.now c.args.c) nb c.requires.1 (omega (arith, c.requires.2)) c.requires.0.rays_few (omega (arith, c.requires.0.bins_few)) in
    record { fits = omega (arith, cells-few c.bins_in.result c.bins_in.ensures) }

pub cell_at-requires : goal.cell_at-requires
unfolding width_in width_at
cell_at-requires c =
    let cells-few : (nb : ℕ) → nb ≡ bins_in c.args.file.now c.args.c → c.args.ray * nb + c.args.bin ≤ 2097152 = λ nb e. few_cells c.args.ray c.args.bin (rays_in c.args.file.now c.args.c) nb c.requires.1 (omega (arith, c.requires.2)) c.requires.0.rays_few (omega (arith, c.requires.0.bins_few)) in
    (omega (arith, c.requires.0.inside), cells-few c.bins_in.result c.bins_in.ensures, rw c.width_at-width.ensures c.requires.0.packing.cells)

pub cell_of-requires : goal.cell_of-requires
unfolding reference_in reference_at binary_scale_in binary_scale_at decimal_scale_in decimal_scale_at width_in width_at
cell_of-requires c = rw (c.reference_at-r.ensures, c.binary_scale_at-e.ensures, c.decimal_scale_at-d.ensures, c.width_at-width.ensures) c.requires.0.packing

pub returns : goal.returns
unfolding told_in cell_in reference_in reference_at binary_scale_in binary_scale_at decimal_scale_in decimal_scale_at width_in width_at
returns c = let z : c.cell_at.result ≡ cell_in c.args.file.now c.args.c c.args.ray c.args.bin = c.cell_at.ensures ∙ (λ i. field c.args.file.now c.args.c.section7 (6 + (c.args.ray * c.bins_in.ensures i + c.args.bin) * (c.width_at-width.ensures i / 8)) (c.width_at-width.ensures i / 8)) in record { exact = c.cell_of.ensures.exact ∙ (λ i. cell_of (c.width_at-width.ensures i) (c.reference_at-r.ensures i) (c.binary_scale_at-e.ensures i) (c.decimal_scale_at-d.ensures i) (z i)); near = right_at c.cell_of.result c.reference_at-r.ensures z c.binary_scale_at-e.ensures c.decimal_scale_at-d.ensures c.cell_of.ensures.near }
