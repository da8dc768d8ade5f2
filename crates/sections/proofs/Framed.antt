-- A framed section, said as facts on numbers, both ways.
use Prim.Native.Nat.{ℕ, ◌+◌, ◌≤◌}
use mathlib.Core.Path.{◌≡◌}
use mathlib.Core.List.{List}
use mathlib.Core.Bool.{true, ◌&&◌}
use borrow.Author.Tests.{leb-true, le-leb}
use lib.Dec.{leb}
use Rattle.rules.specs.Fields.{length_at, number_at}
use Rattle.rules.proofs.Chains.{and_true_both}
use Rattle.sections.specs.Checks.{follows, framed}
use Rattle.sections.specs.declared.Context.{Context}

-- five octets or more, ends by `end`, and may stand where it does
pub record Framed (s : List ℕ) (end : ℕ) (x : Context) (at : ℕ) : Type 0 where
  pub five : at + 5 ≤ end
  pub long : 5 ≤ length_at s at
  pub reach : at + length_at s at ≤ end
  pub allowed : follows x.previous (number_at s at) ≡ true

module _ (s : List ℕ) (end : ℕ) (x : Context) (at : ℕ) where
  pub framed_is : framed s end x at ≡ true → Framed s end x at
  unfolding framed
  framed_is h =
      let n = length_at s at in
      let f = follows x.previous (number_at s at) in
      let r = leb (at + n) end in
      let h1 = and_true_both (leb (at + 5) end) (leb 5 n && (r && f)) h in
      let h2 = and_true_both (leb 5 n) (r && f) h1.1 in
      let h3 = and_true_both r f h2.1 in
      record { five = leb-true _ _ h1.0; long = leb-true _ _ h2.0; reach = leb-true _ _ h3.0; allowed = h3.1 }

  pub framed_of : Framed s end x at → framed s end x at ≡ true
  unfolding framed
  framed_of f = rw (le-leb _ _ f.five, le-leb _ _ f.long, le-leb _ _ f.reach, f.allowed)
