-- The bins a up to b of octets are bins of the octets from the run on that holds bin a: those before that run are passed over.
use Prim.Native.Nat.{ℕ, ◌+◌, ◌-◌, ◌≤◌, ◌<◌}
use mathlib.Core.Path.{◌≡◌, sym, ap, ◌∙◌}
use mathlib.Core.Bool.{true}
use mathlib.Core.List.{List}
use native.Mathlib.Omega.{arith}
use lib.ListN.{length, take, drop, length-drop}
use lib.Seq.{take_all, drop-drop}
use Rattle.lent.specs.Lent.{between}
use Rattle.runs.specs.Run.{levels, opens}
use Rattle.runs.specs.Inner.{Stands, Holds}
use Rattle.runs.specs.declared.RunInHand.{RunInHand}
use Rattle.runs.proofs.Here.{stands_holding, here_inside}

module _ (v a b : ℕ) (s : List ℕ) (some : a < b) (given : b ≤ length (levels v s)) (hand : RunInHand) (h : Holds v s a hand) where
  stands : Stands v s hand.at hand.bins
  stands = (stands_holding v s a hand h).0

  pub passed_inside : hand.at < length s
  passed_inside = here_inside v s hand.at hand.bins stands (omega (arith, h.before))

  -- the octets that are lent on
  abbrev pub part : List ℕ
  part = take (length s - hand.at) (drop hand.at s)

  all : part ≡ drop hand.at s
  all = take_all (length s - hand.at) (drop hand.at s) (omega (arith, length-drop hand.at s))

  pub passed_opens : opens v part ≡ true
  passed_opens = rw all stands.opened

  whole : levels v part ≡ drop hand.bins (levels v s)
  whole = ap (levels v) all ∙ sym stands.rest

  pub passed_given : b - hand.bins ≤ length (levels v part)
  passed_given = omega (arith, ap length whole ∙ length-drop hand.bins (levels v s))

  pub passed_bins : between (a - hand.bins) (b - hand.bins) (levels v part) ≡ between a b (levels v s)
  passed_bins =
      let span : (b - hand.bins) - (a - hand.bins) ≡ b - a = omega (arith, h.before, some) in
      let from : hand.bins + (a - hand.bins) ≡ a = omega (arith, h.before) in
      (λ i. take (span i) (drop (a - hand.bins) (whole i)))
      ∙ ap (take (b - a)) (drop-drop (a - hand.bins) hand.bins (levels v s) ∙ ap (λ (n : ℕ). drop n (levels v s)) from)
