use Rattle.promise_spec.proofs.OpenedRuns.{unbegun_entry}
use Rattle.promise_examples.proofs.WrongRuns.{begun_unread, begun_bad, begun_in_bad, unallowed_entry, unanswered_line, begun_none, unbegun_record, begun_at_seam, begun_while_wanted}
use Rattle.promise_examples.proofs.wrong_runs.lines_begin_in_whole_windows.Goals as goal

pub returns-clause-fault : goal.returns-clause-fault
returns-clause-fault c = begun_unread

pub returns-clause-bad : goal.returns-clause-bad
returns-clause-bad c = begun_bad

pub returns-clause-long : goal.returns-clause-long
returns-clause-long c = begun_in_bad

pub returns-clause-entry : goal.returns-clause-entry
returns-clause-entry c = unallowed_entry

pub returns-clause-unanswered : goal.returns-clause-unanswered
returns-clause-unanswered c = unanswered_line

pub returns-clause-none : goal.returns-clause-none
returns-clause-none c = begun_none

pub returns-clause-no_entry : goal.returns-clause-no_entry
returns-clause-no_entry c p r course e keeps none there = unbegun_entry p r course e keeps none there

pub returns-clause-record : goal.returns-clause-record
returns-clause-record c = unbegun_record

pub returns-clause-seam : goal.returns-clause-seam
returns-clause-seam c = begun_at_seam

pub returns-clause-wanted : goal.returns-clause-wanted
returns-clause-wanted c = begun_while_wanted
