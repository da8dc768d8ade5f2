-- FORMAT.md, "Refusals": the number of each refusal. A refusal is why and where: "the place is the start of the section
-- concerned, and for 8 that of the octet at fault"; 0 where no section is concerned.
use Rattle.std.specs.Prelude.{ℕ}
use Rattle.sections.specs.declared.Refusal.{Refusal}
use Rattle.sections.specs.declared.Why.{Why}
use Rattle.sections.specs.declared.Why.TheVariants.{FileSize, Section0, Frame, SectionLength, Field, Points, Table, Data, CutCount, Argument, Room, Record, Unread}

abbrev pub number_of : Why → ℕ
number_of FileSize = 1
number_of Section0 = 2
number_of Frame = 3
number_of SectionLength = 4
number_of Field = 5
number_of Points = 6
number_of Table = 7
number_of Data = 8
number_of CutCount = 9
number_of Argument = 10
number_of Room = 11
number_of Record = 13
number_of Unread = 14

unfoldable pub refuse : Why → ℕ → Refusal
refuse why place = record { why = why; place = place }
