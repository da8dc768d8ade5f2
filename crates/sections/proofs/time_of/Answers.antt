-- Field by field.
use Rattle.sections.specs.Parts.{time_of}
use Rattle.sections.proofs.time_of.Goals as goal

pub returns : goal.returns
unfolding time_of
returns c = λ i. record {
  year = c.field-year.ensures i;
  month = c.field-month.ensures i;
  day = c.field-day.ensures i;
  hour = c.field-hour.ensures i;
  minute = c.field-minute.ensures i;
  second = c.field-second.ensures i;
}
