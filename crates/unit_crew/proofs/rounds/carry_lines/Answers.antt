use Rattle.std.proofs.Common.{◌∙◌, ◌+◌, length}
use Rattle.std.proofs.lemmas.Result.{err_from_is_err_and}
use Rattle.script_tree.specs.Programs.{program_tree}
use Rattle.unit_crew.specs.Crews.{IsBasisOf}
use Rattle.unit_crew.proofs.Outset.{crew-none, keeps-promise, none-counted, only-works, shown-look, through-look, works-look}
use Rattle.unit_crew.specs.FinishedUnits.{IsHalted}
use Rattle.unit_crew.proofs.Works.{showed, works-none}
use Rattle.unit_crew.proofs.rounds.carry_lines.Goals as goal

pub returns-in_ok-is_halted-in-Ok-clause-counts : goal.returns-in_ok-is_halted-in-Ok-clause-counts
returns-in_ok-is_halted-in-Ok-clause-counts g c = (works-look (IsBasisOf (program_tree c.args.checked.now) c.args.before (g.L.Lines.lines c.args.lines.now)) g.A.Access.may_come (g.A.Access.sight c.args.access.now) (g.A.Access.sight c.go_rounds.new.access) (g.A.Access.sight c.is_halted.new.access) c.go_rounds.ensures.works c.is_halted.ensures.looked).counts (none-counted (g.A.Access.sight c.args.access.now) c.requires.fresh)

pub returns-in_ok-is_halted-in-Ok-clause-promise : goal.returns-in_ok-is_halted-in-Ok-clause-promise
returns-in_ok-is_halted-in-Ok-clause-promise g c = keeps-promise (IsBasisOf (program_tree c.args.checked.now) c.args.before (g.L.Lines.lines c.args.lines.now)) (g.A.Access.sight c.args.access.now) (g.A.Access.sight c.is_halted.new.access) c.requires.fresh (works-look (IsBasisOf (program_tree c.args.checked.now) c.args.before (g.L.Lines.lines c.args.lines.now)) g.A.Access.may_come (g.A.Access.sight c.args.access.now) (g.A.Access.sight c.go_rounds.new.access) (g.A.Access.sight c.is_halted.new.access) c.go_rounds.ensures.works c.is_halted.ensures.looked)

pub returns-in_ok-is_halted-in-Ok-clause-shown : goal.returns-in_ok-is_halted-in-Ok-clause-shown
returns-in_ok-is_halted-in-Ok-clause-shown g c = shown-look (IsBasisOf (program_tree c.args.checked.now) c.args.before (g.L.Lines.lines c.args.lines.now)) g.A.Access.may_come (c.args.before + length (g.L.Lines.lines c.args.lines.now)) (g.A.Access.sight c.go_rounds.new.access) (g.A.Access.sight c.is_halted.new.access) c.is_halted.ensures.looked c.in-Ok.ensures.shown

pub returns-in_ok-is_halted-in-Ok-clause-through : goal.returns-in_ok-is_halted-in-Ok-clause-through
returns-in_ok-is_halted-in-Ok-clause-through g c = through-look (IsBasisOf (program_tree c.args.checked.now) c.args.before (g.L.Lines.lines c.args.lines.now)) g.A.Access.may_come (g.A.Access.sight c.args.access.now) (g.A.Access.sight c.go_rounds.new.access) (g.A.Access.sight c.is_halted.new.access) c.requires.fresh c.go_rounds.ensures.works c.is_halted.ensures.looked c.in-Ok.ensures.through

pub returns-in-Err-clause-counts : goal.returns-in-Err-clause-counts
returns-in-Err-clause-counts g c = (works-look (IsBasisOf (program_tree c.args.checked.now) c.args.before (g.L.Lines.lines c.args.lines.now)) g.A.Access.may_come (g.A.Access.sight c.args.access.now) (g.A.Access.sight c.go_rounds.new.access) (g.A.Access.sight c.wait_for_stop.new.access) c.go_rounds.ensures.works c.wait_for_stop.ensures.looked).counts (none-counted (g.A.Access.sight c.args.access.now) c.requires.fresh)

pub returns-in-Err-clause-promise : goal.returns-in-Err-clause-promise
returns-in-Err-clause-promise g c = keeps-promise (IsBasisOf (program_tree c.args.checked.now) c.args.before (g.L.Lines.lines c.args.lines.now)) (g.A.Access.sight c.args.access.now) (g.A.Access.sight c.wait_for_stop.new.access) c.requires.fresh (works-look (IsBasisOf (program_tree c.args.checked.now) c.args.before (g.L.Lines.lines c.args.lines.now)) g.A.Access.may_come (g.A.Access.sight c.args.access.now) (g.A.Access.sight c.go_rounds.new.access) (g.A.Access.sight c.wait_for_stop.new.access) c.go_rounds.ensures.works c.wait_for_stop.ensures.looked)

pub returns-in-Err-clause-halted : goal.returns-in-Err-clause-halted
returns-in-Err-clause-halted g c = showed (IsBasisOf (program_tree c.args.checked.now) c.args.before (g.L.Lines.lines c.args.lines.now)) IsHalted (g.A.Access.sight c.wait_for_stop.new.access) (g.A.Access.sight c.wait_for_stop.new.access) (works-none (IsBasisOf (program_tree c.args.checked.now) c.args.before (g.L.Lines.lines c.args.lines.now)) (g.A.Access.sight c.wait_for_stop.new.access)) c.wait_for_stop.ensures.halted

pub go_rounds-requires-clause-crew : goal.go_rounds-requires-clause-crew
go_rounds-requires-clause-crew g c = crew-none (program_tree c.args.checked.now) (g.A.Access.sight c.args.access.now) c.requires.above c.requires.fresh

pub returns-in_ok-is_halted-in-Ok-clause-kept : goal.returns-in_ok-is_halted-in-Ok-clause-kept
returns-in_ok-is_halted-in-Ok-clause-kept g c = record { fit = c.is_halted.ensures.kept.fit; aside = c.is_halted.ensures.kept.aside ∙ c.go_rounds.ensures.kept.aside }

pub returns-in_ok-is_halted-in-Ok-clause-same : goal.returns-in_ok-is_halted-in-Ok-clause-same
returns-in_ok-is_halted-in-Ok-clause-same g c = c.go_rounds.ensures.same

pub returns-in_ok-is_halted-in-Ok-clause-first : goal.returns-in_ok-is_halted-in-Ok-clause-first
returns-in_ok-is_halted-in-Ok-clause-first g c = (works-look (IsBasisOf (program_tree c.args.checked.now) c.args.before (g.L.Lines.lines c.args.lines.now)) g.A.Access.may_come (g.A.Access.sight c.args.access.now) (g.A.Access.sight c.go_rounds.new.access) (g.A.Access.sight c.is_halted.new.access) c.go_rounds.ensures.works c.is_halted.ensures.looked).first

pub returns-in_ok-is_halted-in-Ok-clause-number : goal.returns-in_ok-is_halted-in-Ok-clause-number
returns-in_ok-is_halted-in-Ok-clause-number g c = (works-look (IsBasisOf (program_tree c.args.checked.now) c.args.before (g.L.Lines.lines c.args.lines.now)) g.A.Access.may_come (g.A.Access.sight c.args.access.now) (g.A.Access.sight c.go_rounds.new.access) (g.A.Access.sight c.is_halted.new.access) c.go_rounds.ensures.works c.is_halted.ensures.looked).number

pub returns-in_ok-is_halted-in-Ok-clause-seen : goal.returns-in_ok-is_halted-in-Ok-clause-seen
returns-in_ok-is_halted-in-Ok-clause-seen g c = (works-look (IsBasisOf (program_tree c.args.checked.now) c.args.before (g.L.Lines.lines c.args.lines.now)) g.A.Access.may_come (g.A.Access.sight c.args.access.now) (g.A.Access.sight c.go_rounds.new.access) (g.A.Access.sight c.is_halted.new.access) c.go_rounds.ensures.works c.is_halted.ensures.looked).seen

pub returns-in_ok-is_halted-in-Ok-clause-legal : goal.returns-in_ok-is_halted-in-Ok-clause-legal
returns-in_ok-is_halted-in-Ok-clause-legal g c = c.is_halted.ensures.legal

pub returns-in_ok-is_halted-in-Ok-clause-works : goal.returns-in_ok-is_halted-in-Ok-clause-works
returns-in_ok-is_halted-in-Ok-clause-works g c = only-works (IsBasisOf (program_tree c.args.checked.now) c.args.before (g.L.Lines.lines c.args.lines.now)) (g.A.Access.sight c.args.access.now) (g.A.Access.sight c.is_halted.new.access) c.requires.fresh (works-look (IsBasisOf (program_tree c.args.checked.now) c.args.before (g.L.Lines.lines c.args.lines.now)) g.A.Access.may_come (g.A.Access.sight c.args.access.now) (g.A.Access.sight c.go_rounds.new.access) (g.A.Access.sight c.is_halted.new.access) c.go_rounds.ensures.works c.is_halted.ensures.looked)

pub returns-in_err-is_halted-in-Ok-clause-kept : goal.returns-in_err-is_halted-in-Ok-clause-kept
returns-in_err-is_halted-in-Ok-clause-kept g c = record { fit = c.is_halted.ensures.kept.fit; aside = c.is_halted.ensures.kept.aside ∙ c.go_rounds.ensures.kept.aside }

pub returns-in_err-is_halted-in-Ok-clause-same : goal.returns-in_err-is_halted-in-Ok-clause-same
returns-in_err-is_halted-in-Ok-clause-same g c = c.go_rounds.ensures.same

pub returns-in_err-is_halted-in-Ok-clause-first : goal.returns-in_err-is_halted-in-Ok-clause-first
returns-in_err-is_halted-in-Ok-clause-first g c = (works-look (IsBasisOf (program_tree c.args.checked.now) c.args.before (g.L.Lines.lines c.args.lines.now)) g.A.Access.may_come (g.A.Access.sight c.args.access.now) (g.A.Access.sight c.go_rounds.new.access) (g.A.Access.sight c.is_halted.new.access) c.go_rounds.ensures.works c.is_halted.ensures.looked).first

pub returns-in_err-is_halted-in-Ok-clause-number : goal.returns-in_err-is_halted-in-Ok-clause-number
returns-in_err-is_halted-in-Ok-clause-number g c = (works-look (IsBasisOf (program_tree c.args.checked.now) c.args.before (g.L.Lines.lines c.args.lines.now)) g.A.Access.may_come (g.A.Access.sight c.args.access.now) (g.A.Access.sight c.go_rounds.new.access) (g.A.Access.sight c.is_halted.new.access) c.go_rounds.ensures.works c.is_halted.ensures.looked).number

pub returns-in_err-is_halted-in-Ok-clause-seen : goal.returns-in_err-is_halted-in-Ok-clause-seen
returns-in_err-is_halted-in-Ok-clause-seen g c = (works-look (IsBasisOf (program_tree c.args.checked.now) c.args.before (g.L.Lines.lines c.args.lines.now)) g.A.Access.may_come (g.A.Access.sight c.args.access.now) (g.A.Access.sight c.go_rounds.new.access) (g.A.Access.sight c.is_halted.new.access) c.go_rounds.ensures.works c.is_halted.ensures.looked).seen

pub returns-in_err-is_halted-in-Ok-clause-legal : goal.returns-in_err-is_halted-in-Ok-clause-legal
returns-in_err-is_halted-in-Ok-clause-legal g c = c.is_halted.ensures.legal

pub returns-in_err-is_halted-in-Ok-clause-works : goal.returns-in_err-is_halted-in-Ok-clause-works
returns-in_err-is_halted-in-Ok-clause-works g c = only-works (IsBasisOf (program_tree c.args.checked.now) c.args.before (g.L.Lines.lines c.args.lines.now)) (g.A.Access.sight c.args.access.now) (g.A.Access.sight c.is_halted.new.access) c.requires.fresh (works-look (IsBasisOf (program_tree c.args.checked.now) c.args.before (g.L.Lines.lines c.args.lines.now)) g.A.Access.may_come (g.A.Access.sight c.args.access.now) (g.A.Access.sight c.go_rounds.new.access) (g.A.Access.sight c.is_halted.new.access) c.go_rounds.ensures.works c.is_halted.ensures.looked)

pub returns-in_err-is_halted-in-Ok-clause-counts : goal.returns-in_err-is_halted-in-Ok-clause-counts
returns-in_err-is_halted-in-Ok-clause-counts g c = (works-look (IsBasisOf (program_tree c.args.checked.now) c.args.before (g.L.Lines.lines c.args.lines.now)) g.A.Access.may_come (g.A.Access.sight c.args.access.now) (g.A.Access.sight c.go_rounds.new.access) (g.A.Access.sight c.is_halted.new.access) c.go_rounds.ensures.works c.is_halted.ensures.looked).counts (none-counted (g.A.Access.sight c.args.access.now) c.requires.fresh)

pub returns-in_err-is_halted-in-Ok-clause-promise : goal.returns-in_err-is_halted-in-Ok-clause-promise
returns-in_err-is_halted-in-Ok-clause-promise g c = keeps-promise (IsBasisOf (program_tree c.args.checked.now) c.args.before (g.L.Lines.lines c.args.lines.now)) (g.A.Access.sight c.args.access.now) (g.A.Access.sight c.is_halted.new.access) c.requires.fresh (works-look (IsBasisOf (program_tree c.args.checked.now) c.args.before (g.L.Lines.lines c.args.lines.now)) g.A.Access.may_come (g.A.Access.sight c.args.access.now) (g.A.Access.sight c.go_rounds.new.access) (g.A.Access.sight c.is_halted.new.access) c.go_rounds.ensures.works c.is_halted.ensures.looked)

pub returns-in_err-is_halted-in-Ok-clause-shown : goal.returns-in_err-is_halted-in-Ok-clause-shown
returns-in_err-is_halted-in-Ok-clause-shown g c = let q = err_from_is_err_and c.from_residual.result c.from_residual.ensures.1 in rw q.1 tt

pub returns-in_err-is_halted-in-Ok-clause-through : goal.returns-in_err-is_halted-in-Ok-clause-through
returns-in_err-is_halted-in-Ok-clause-through g c = let q = err_from_is_err_and c.from_residual.result c.from_residual.ensures.1 in rw q.1 tt

pub returns-in-Err-clause-kept : goal.returns-in-Err-clause-kept
returns-in-Err-clause-kept g c = record { fit = c.wait_for_stop.ensures.kept.fit; aside = c.wait_for_stop.ensures.kept.aside ∙ c.go_rounds.ensures.kept.aside }

pub returns-in-Err-clause-same : goal.returns-in-Err-clause-same
returns-in-Err-clause-same g c = c.go_rounds.ensures.same

pub returns-in-Err-clause-first : goal.returns-in-Err-clause-first
returns-in-Err-clause-first g c = (works-look (IsBasisOf (program_tree c.args.checked.now) c.args.before (g.L.Lines.lines c.args.lines.now)) g.A.Access.may_come (g.A.Access.sight c.args.access.now) (g.A.Access.sight c.go_rounds.new.access) (g.A.Access.sight c.wait_for_stop.new.access) c.go_rounds.ensures.works c.wait_for_stop.ensures.looked).first

pub returns-in-Err-clause-number : goal.returns-in-Err-clause-number
returns-in-Err-clause-number g c = (works-look (IsBasisOf (program_tree c.args.checked.now) c.args.before (g.L.Lines.lines c.args.lines.now)) g.A.Access.may_come (g.A.Access.sight c.args.access.now) (g.A.Access.sight c.go_rounds.new.access) (g.A.Access.sight c.wait_for_stop.new.access) c.go_rounds.ensures.works c.wait_for_stop.ensures.looked).number

pub returns-in-Err-clause-seen : goal.returns-in-Err-clause-seen
returns-in-Err-clause-seen g c = (works-look (IsBasisOf (program_tree c.args.checked.now) c.args.before (g.L.Lines.lines c.args.lines.now)) g.A.Access.may_come (g.A.Access.sight c.args.access.now) (g.A.Access.sight c.go_rounds.new.access) (g.A.Access.sight c.wait_for_stop.new.access) c.go_rounds.ensures.works c.wait_for_stop.ensures.looked).seen

pub returns-in-Err-clause-legal : goal.returns-in-Err-clause-legal
returns-in-Err-clause-legal g c = c.wait_for_stop.ensures.legal

pub returns-in-Err-clause-works : goal.returns-in-Err-clause-works
returns-in-Err-clause-works g c = only-works (IsBasisOf (program_tree c.args.checked.now) c.args.before (g.L.Lines.lines c.args.lines.now)) (g.A.Access.sight c.args.access.now) (g.A.Access.sight c.wait_for_stop.new.access) c.requires.fresh (works-look (IsBasisOf (program_tree c.args.checked.now) c.args.before (g.L.Lines.lines c.args.lines.now)) g.A.Access.may_come (g.A.Access.sight c.args.access.now) (g.A.Access.sight c.go_rounds.new.access) (g.A.Access.sight c.wait_for_stop.new.access) c.go_rounds.ensures.works c.wait_for_stop.ensures.looked)
