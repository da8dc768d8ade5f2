-- What the walk knows of the sections before the one that it stands at. No part of what a reader must believe: the walk promises a verdict.
use Rattle.std.specs.Prelude.{ℕ, cond, eqb}
use Rattle.sections.specs.declared.Context.{Context}
use Rattle.walks.specs.declared.State.{State}

-- the place of the first cut's section 4; no section stands at 0, so 0 says that none was seen
abbrev pub first_in : State → ℕ
first_in st = cond (eqb st.first 0) st.at st.first

-- what the state says of the sections before
abbrev pub context_in : State → Context
context_in st =
    record {
      previous = st.previous;
      cuts = st.cuts;
      first = first_in st;
      section3 = st.section3;
      section4 = st.section4;
      section5 = st.section5;
    }
