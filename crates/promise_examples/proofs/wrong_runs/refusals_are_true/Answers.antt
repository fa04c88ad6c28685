use Rattle.promise_examples.proofs.WrongAnswers.{called_old, opened_old, another_place, sound_damaged, silo_called_none, none_opened, damaged_carried, no_bad_use, grain_blamed, unnamed_blamed, done_unread, done_unanswered, fault_forgets, fault_says, long_forgets, long_says, long_misnumbers, long_blames, done_passes, grain_fault_opened, said_unopened, blamed_behind}
use Rattle.promise_examples.proofs.wrong_runs.refusals_are_true.Goals as goal

pub returns-clause-place : goal.returns-clause-place
returns-clause-place c = another_place

pub returns-clause-sound : goal.returns-clause-sound
returns-clause-sound c = sound_damaged

pub returns-clause-silo : goal.returns-clause-silo
returns-clause-silo c = silo_called_none

pub returns-clause-opened : goal.returns-clause-opened
returns-clause-opened c = none_opened

pub returns-clause-carried : goal.returns-clause-carried
returns-clause-carried c = damaged_carried

pub returns-clause-bad_use : goal.returns-clause-bad_use
returns-clause-bad_use c = no_bad_use

pub returns-clause-blamed : goal.returns-clause-blamed
returns-clause-blamed c = grain_blamed

pub returns-clause-unnamed : goal.returns-clause-unnamed
returns-clause-unnamed c = unnamed_blamed

pub returns-clause-unread : goal.returns-clause-unread
returns-clause-unread c = done_unread

pub returns-clause-unanswered : goal.returns-clause-unanswered
returns-clause-unanswered c = done_unanswered

pub returns-clause-grain : goal.returns-clause-grain
returns-clause-grain c = grain_fault_opened

pub returns-clause-said : goal.returns-clause-said
returns-clause-said c = said_unopened

pub returns-clause-behind : goal.returns-clause-behind
returns-clause-behind c = blamed_behind

pub returns-clause-forgotten : goal.returns-clause-forgotten
returns-clause-forgotten c = fault_forgets

pub returns-clause-early : goal.returns-clause-early
returns-clause-early c = fault_says

pub returns-clause-before_bad : goal.returns-clause-before_bad
returns-clause-before_bad c m r told number keeps is first some quiet = long_forgets m r told is number keeps first some quiet

pub returns-clause-in_bad : goal.returns-clause-in_bad
returns-clause-in_bad c m r told number keeps is first none said = long_says m r told is number keeps first none said

pub returns-clause-number : goal.returns-clause-number
returns-clause-number c m r told number keeps is first differ = long_misnumbers m r told is number keeps first differ

pub returns-clause-no_bad : goal.returns-clause-no_bad
returns-clause-no_bad c m r told keeps is none = long_blames m r told is keeps none

pub returns-clause-passed : goal.returns-clause-passed
returns-clause-passed c = done_passes

pub returns-clause-called_old : goal.returns-clause-called_old
returns-clause-called_old c m r live = called_old m r live

pub returns-clause-opened_old : goal.returns-clause-opened_old
returns-clause-opened_old c m r live = opened_old m r live
