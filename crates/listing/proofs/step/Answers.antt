-- `step` meets its contract, one case for each standing.
use native.Mathlib.Omega.{arith}
use mathlib.Core.Path.{refl}
use Rattle.listing.specs.Progress.{Sound}
use Rattle.listing.proofs.Steps.{step_refused, step_end, step_head, step_list, step_none}
use Rattle.listing.proofs.step.Goals as goal

pub list_part-next-requires : goal.list_part-next-requires
unfolding Sound
list_part-next-requires c = (rw c.in-ToList.is at c.requires.sound, c.requires.per_entry_in_bounds.0)

pub put_more_lines-requires : goal.put_more_lines-requires
unfolding Sound
put_more_lines-requires c = record { in_words = rw c.in-ToWrite.is at c.requires.sound; step_room_in_bounds = c.requires.per_entry_in_bounds.1 }

pub returns-in-Refused : goal.returns-in-Refused
returns-in-Refused c =
    step_refused c.args.file.now c.args.words.now c.args.text.now c.put_refused-to.new.out c.args.p c.args.at c.put_refused-to.result c.from-number.result
    c.in-Refused.refusal.place c.in-Refused.refusal c.in-Refused.is c.from-number.ensures refl c.put_refused-to.ensures

pub returns-in-Head : goal.returns-in-Head
returns-in-Head c =
    step_head c.args.file.now c.args.words.now c.args.text.now c.put_first_line-to.new.text c.args.p c.args.at c.put_first_line-to.result c.in-Head.part
    c.in-Head.is c.requires.sound c.put_first_line-to.ensures

pub returns-in-ToList : goal.returns-in-ToList
returns-in-ToList c =
    step_list c.args.file.now c.list_part-next.new.words c.args.text.now c.args.p c.args.at c.in-ToList.part c.list_part-next.result c.in-ToList.is
    c.list_part-next.ensures.to_come c.list_part-next.ensures.result_value (omega (arith, c.requires.per_entry_in_bounds.1))

pub returns-in-End : goal.returns-in-End
returns-in-End c =
    step_end c.args.file.now c.args.words.now c.args.text.now c.put_end-to.new.out c.args.p c.args.at c.put_end-to.result c.in-End.total
    c.in-End.is c.put_end-to.ensures

pub returns-in-Finished : goal.returns-in-Finished
returns-in-Finished c =
    step_none c.args.file.now c.args.words.now c.args.text.now c.args.p c.args.at c.in-Finished.is (omega (arith, c.requires.per_entry_in_bounds.1))
