-- Before a section 7 all is ready for it, in every format: the state mirrors the history, of which the format's law says so.
use Prim.Native.Nat.{ℕ}
use mathlib.Core.Path.{sym, ◌∙◌, subst}
use mathlib.Core.List.{List}
use Rattle.sections.specs.Checks.{FormatChecks}
use Rattle.sections.specs.Ready.{Needs, ReadyBefore7}
use Rattle.walks.specs.Walk.{Sound}
use Rattle.walks.specs.declared.State.{State}
use Rattle.sections.specs.declared.Cut.{Cut}
use Rattle.walks.proofs.Along.{Along, context_same}

pub sound : (own : FormatChecks) (Ready : Needs) → ReadyBefore7 own Ready → (s : List ℕ) (end want : ℕ) (st : State) (chosen : Cut) → Along own s end want st chosen → Sound Ready s end st
sound own Ready law s end want st chosen a =
    record {
      end_in = a.end_in;
      ready = λ six. subst (Ready s) (sym (context_same st a.seen a.mirrors)) (law s end a.seen st.at a.passed (sym a.mirrors.previous_is ∙ six));
      few = a.few;
    }
