-- By cases on the reading, and a number by its test against the threshold.
use mathlib.Core.Bool.{Bool, true, false, cond}
use Rattle.values.proofs.Signed.{test_is}
use mathlib.Core.Path.{◌∙◌, sym, ap}
use Rattle.values.specs.Reading.{kind_of}
use Rattle.values.specs.declared.Reading.{Reading}
use Rattle.kinds.specs.declared.Kind.TheVariants as K
use borrow.Author.Rules.{rules}
use Rattle.values.proofs.kind_of.Goals as goal

pub returns-in-Missing : goal.returns-in-Missing
unfolding kind_of
returns-in-Missing c = sym (ap (λ (q : Reading). kind_of q c.args.t) c.in-Missing.is)

pub returns-then-z-t : goal.returns-then-z-t
unfolding kind_of
returns-then-z-t c = let h = test_is c.in-Number.z c.args.t (search rules) c.ranges.t true c.if-z-t.true in
    sym (ap (λ (q : Reading). kind_of q c.args.t) c.in-Number.is ∙ ap (λ (b : Bool). cond b K.Under K.Over) h)

pub returns-else-z-t : goal.returns-else-z-t
unfolding kind_of
returns-else-z-t c = let h = test_is c.in-Number.z c.args.t (search rules) c.ranges.t false c.if-z-t.false in
    sym (ap (λ (q : Reading). kind_of q c.args.t) c.in-Number.is ∙ ap (λ (b : Bool). cond b K.Under K.Over) h)
