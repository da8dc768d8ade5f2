-- The test of the definition.
use Rattle.sections.specs.Checks.{room_for_cut}
use Rattle.rules.specs.Fields.{number_at}
use Rattle.sections.proofs.has_room.Goals as goal

pub returns : goal.returns
unfolding room_for_cut number_at
returns c = cc
