-- `reading::entry_step`: the step of the track, then the clear list.
use Rattle.std.proofs.Common.{rules}
use Rattle.reading.specs.Reading.{entry}
use Rattle.reading.proofs.Scanned.{listed_stop, listed_refused, listed_passed}
use Rattle.reading.proofs.entry_step.Goals as goal

pub returns-in_err-clear_from : goal.returns-in_err-clear_from
unfolding entry
returns-in_err-clear_from c = listed_stop _ _ _ _ _ c.number_step.ensures (search rules) c.in_err-clear_from.was

pub returns-in_err-rising_list : goal.returns-in_err-rising_list
unfolding entry
returns-in_err-rising_list c = listed_refused _ _ _ _ _ c.number_step.ensures c.in_ok-clear_from.was c.rising_list.ensures (search rules) c.in_err-rising_list.was

pub returns : goal.returns
unfolding entry
returns c = listed_passed _ _ _ _ _ c.number_step.ensures c.in_ok-clear_from.was c.rising_list.ensures c.in_ok-rising_list.was
