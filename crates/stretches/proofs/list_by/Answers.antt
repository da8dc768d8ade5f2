-- Both loops keep where reading stands (`Going`), and what the call ends with from there on (`due`): each step is one law of Going.antt.
use mathlib.Core.Path.{◌≡◌, sym, ap, ◌∙◌}
use mathlib.Core.List.{List}
use Prim.Native.Nat.{ℕ, ◌-◌, ◌*◌, ◌/◌, ◌≤◌, ◌<◌}
use native.Mathlib.Omega.{arith}
use native.Mathlib.Nat.{mul-le-mul}
use lib.ListN.{length, get_or}
use Rattle.runs.specs.Run.{run_len}
use Rattle.runs.specs.Inner.{run_next, known_step}
use Rattle.runs.proofs.Here.{gives_true, known_ended, known_told}
use Rattle.stretches.specs.Stretch.{per_entry}
use Rattle.stretches.specs.Inner.{kind_by_table}
use Rattle.stretches.specs.Call.{stretches_from}
use Rattle.stretches.proofs.Going.{next_ray_lem, promised, told, Going, going_start, run_inside, run_fits, changing, going_changed, going_on, ending, going_ended, due, due_start, ended, passed, wrote, stuck}
use Rattle.stretches.proofs.list_by.Goals as goal
use Rattle.stretches.proofs.list_by.Goals.{then-other+then-must_list+else-cap-count, then-other+else-must_list, else-other, then-must_list-2+else-cap-count-2, else-must_list-2}
use Rattle.runs.specs.declared.Run.{Run}
use Rattle.std.specs.Prelude.{Some}

-- the cut's bins are few
few : (nb nr : ℕ) → nr ≤ 1024 → nb ≤ 2048 → nr * nb ≤ 2097152
few nb nr h k = mul-le-mul {n₁ = nr} {m₁ = nb} {n₂ = 1024} {m₂ = 2048} h k

-- what the step tells: there is a ray to come, and the run in hand has this level and length, and ends there
run : (v nr : ℕ) (xs : List ℕ) (at ray : ℕ) {r : Run} → Some r ≡ known_step v (nr - ray) xs at → (ray < nr) × (r.level ≡ get_or xs at 0) × (r.len ≡ run_len v xs at) × (r.next ≡ run_next v xs at)
run v nr xs at ray e = let t = known_told v (nr - ray) xs at _ e in (omega (arith, t.0), t.1, t.2, t.3)

pub loop-run-init : goal.loop-run-init
loop-run-init c = (going_start _ _ _ _ _ c.requires.nb_pos (gives_true c.args.v (c.args.nr * c.args.nb) c.args.octets.now c.requires.given).0, c.requires.nb_pos, due_start _ _ _ _ _ _ _)

pub known_run-requires : goal.known_run-requires
known_run-requires c =
    let whole = (gives_true c.args.v (c.args.nr * c.args.nb) c.args.octets.now c.requires.given).1 in
    (c.requires.v_le, λ some. let more : c.loop-run.ray < c.args.nr = omega (arith, some) in (run_inside _ _ _ _ _ whole c.loop-run.invariant.0 c.loop-run.invariant.1 more, omega (arith, run_fits _ _ _ _ _ whole c.loop-run.invariant.0 c.loop-run.invariant.1 more, few c.args.nb c.args.nr c.requires.nr_le c.requires.nb_le)))

pub returns : goal.returns
returns c =
    let none = known_ended c.args.v (c.args.nr - c.loop-run.ray) c.args.octets.now c.loop-run.at (sym c.in_default.is ∙ c.known_run.ensures) in
    let end = told _ (c.loop-run.invariant.2 ∙ ended _ _ _ _ _ _ _ c.loop-run.invariant.0 (omega (arith, none)) _ _) in
    record { value = end.0; out_after = end.1 }

pub returns-then-cap-count : goal.returns-then-cap-count
returns-then-cap-count c =
    let whole = (gives_true c.args.v (c.args.nr * c.args.nb) c.args.octets.now c.requires.given).1 in
    let i = c.loop-run.invariant in
    let r = run c.args.v c.args.nr c.args.octets.now c.loop-run.at c.loop-run.ray (sym c.in-Some.is ∙ c.known_run.ensures) in
    let kind_is : get_or c.args.kinds.now c.in-Some.run'.level 0 ≡ get_or c.args.kinds.now (get_or c.args.octets.now c.loop-run.at 0) 0 = ap (λ (l : ℕ). get_or c.args.kinds.now l 0) r.1 in
    let end = told _ (i.2 ∙ stuck _ _ _ _ _ _ _ (changing _ _ _ _ _ whole i.0 i.1 r.0 (λ e. c.if-other.true (kind_is ∙ e))) c.must_list.ensures c.if-must_list.true _ _ c.if-cap-count.true) in
    record { value = end.0; out_after = end.1 }

pub overflow_add-bin : goal.overflow_add-bin
overflow_add-bin c =
    let whole = (gives_true c.args.v (c.args.nr * c.args.nb) c.args.octets.now c.requires.given).1 in
    let r = run c.args.v c.args.nr c.args.octets.now c.loop-run.at c.loop-run.ray (sym c.in-Some.is ∙ c.known_run.ensures) in
    omega (arith, c.loop-run.invariant.1, c.requires.nb_le, r.2, run_fits _ _ _ _ _ whole c.loop-run.invariant.0 c.loop-run.invariant.1 r.0, few c.args.nb c.args.nr c.requires.nr_le c.requires.nb_le)

-- where the kinds differ the stretch in hand ends, and after that the run is of the kind in hand
pub loop-bin-init : goal.loop-bin-init
loop-bin-init c =
    let whole = (gives_true c.args.v (c.args.nr * c.args.nb) c.args.octets.now c.requires.given).1 in
    let i = c.loop-run.invariant in
    let r = run c.args.v c.args.nr c.args.octets.now c.loop-run.at c.loop-run.ray (sym c.in-Some.is ∙ c.known_run.ensures) in
    let sc = kind_by_table c.args.kinds.now in
    let kind_is : get_or c.args.kinds.now c.in-Some.run'.level 0 ≡ get_or c.args.kinds.now (get_or c.args.octets.now c.loop-run.at 0) 0 = ap (λ (l : ℕ). get_or c.args.kinds.now l 0) r.1 in
    let other : (get_or c.args.kinds.now c.in-Some.run'.level 0 ≡ c.loop-run.held → ⊥) → get_or c.args.kinds.now (get_or c.args.octets.now c.loop-run.at 0) 0 ≡ c.loop-run.held → ⊥ = λ n e. n (kind_is ∙ e) in
    -- the kind of the run is in hand, as the code found it
    let turned_to : (get_or c.args.kinds.now c.in-Some.run'.level 0 ≡ c.loop-run.held → ⊥) → Going sc c.args.v c.args.nb c.args.nr c.args.octets.now c.loop-run.at c.loop-run.ray c.loop-run.bin c.loop-run.bin (get_or c.args.kinds.now c.in-Some.run'.level 0) = λ n. rw kind_is (going_changed _ _ _ _ _ whole i.0 i.1 r.0 (other n)) in
    let turned : Going sc c.args.v c.args.nb c.args.nr c.args.octets.now c.loop-run.at c.loop-run.ray c.loop-run.bin c.if-other.first c.if-other.held
    × (get_or c.args.kinds.now (get_or c.args.octets.now c.loop-run.at 0) 0 ≡ c.if-other.held)
    × (promised c.args.nr c.args.out.now (stretches_from sc c.args.v c.args.octets.now c.args.nb c.args.nr c.args.from)
    ≡ due sc c.args.v c.args.nb c.args.nr c.args.octets.now c.args.from (length c.args.out.now / per_entry) c.if-other.out c.if-other.count c.loop-run.ray c.if-other.first) = elim c.if-other.branch [
      | then-other+then-must_list+else-cap-count w ↦ rw (w.out-is, w.first-is, w.held-is, w.count-is) (turned_to w.if-other.true, sym kind_is, i.2 ∙ wrote _ _ _ _ _ _ _ (changing _ _ _ _ _ whole i.0 i.1 r.0 (other w.if-other.true)) w.must_list.ensures w.if-must_list.true _ _ _ w.if-cap-count.false w.put.ensures)
      | then-other+else-must_list w ↦ rw (w.out-is, w.first-is, w.held-is, w.count-is) (turned_to w.if-other.true, sym kind_is, i.2 ∙ passed _ _ _ _ _ _ _ (changing _ _ _ _ _ whole i.0 i.1 r.0 (other w.if-other.true)) w.must_list.ensures w.if-must_list.false _ _)
      | else-other w ↦ rw (w.out-is, w.first-is, w.held-is, w.count-is) (i.0, sym kind_is ∙ w.if-other.false, i.2)
    ] in
    (going_on _ _ _ _ _ whole turned.0 i.1 r.0 turned.1 _ _ r.2 r.3, turned.2)

pub loop-run-smaller : goal.loop-run-smaller
loop-run-smaller c =
    let whole = (gives_true c.args.v (c.args.nr * c.args.nb) c.args.octets.now c.requires.given).1 in
    let r = run c.args.v c.args.nr c.args.octets.now c.loop-run.at c.loop-run.ray (sym c.in-Some.is ∙ c.known_run.ensures) in
    omega (arith, r.3, run_inside _ _ _ _ _ whole c.loop-run.invariant.0 c.loop-run.invariant.1 r.0)

pub returns-then-cap-count-2 : goal.returns-then-cap-count-2
returns-then-cap-count-2 c =
    let end = told _ (c.loop-bin.invariant.1 ∙ stuck _ _ _ _ _ _ _ (ending _ _ _ _ _ c.loop-bin.invariant.0 c.loop-bin-test.true) c.must_list-in-loop-bin.ensures c.if-must_list-2.true _ _ c.if-cap-count-2.true) in
    record { value = end.0; out_after = end.1 }

pub loop-bin-preserved : goal.loop-bin-preserved
loop-bin-preserved c =
    let g = c.loop-bin.invariant.0 in
    let over = c.loop-bin-test.true in (
      going_ended _ _ _ _ _ g over,
      elim c.if-must_list-2.branch [
        | then-must_list-2+else-cap-count-2 w ↦ rw (w.out-is, w.count-is, next_ray_lem) (c.loop-bin.invariant.1 ∙ wrote _ _ _ _ _ _ _ (ending _ _ _ _ _ g over) c.must_list-in-loop-bin.ensures w.if-must_list-2.true _ _ _ w.if-cap-count-2.false w.put-then-must_list-2.ensures)
        | else-must_list-2 w ↦ rw (w.out-is, w.count-is, next_ray_lem) (c.loop-bin.invariant.1 ∙ passed _ _ _ _ _ _ _ (ending _ _ _ _ _ g over) c.must_list-in-loop-bin.ensures w.if-must_list-2.false _ _)
      ],
    )
