use Rattle.std.proofs.Common.{rules, ◌≡◌, ◌≤◌, ◌+◌, ◌∙◌, sym, ap, subst, inl, inr, arith, length}
use Rattle.std.proofs.lemmas.Grind.{common_steps}
use Rattle.std.proofs.lemmas.Result.{err_from_is_err_and}
use Rattle.script_tree.specs.Programs.{program_tree}
use Rattle.core_model.specs.LegalRuns.{Run, ends}
use Rattle.core_access.specs.Sights.{Sight}
use Rattle.txn_agent.specs.declared.agent.Agent.{Agent}
use Rattle.unit_crew.specs.Crews.{IsBasisOf}
use Rattle.unit_crew.specs.FinishedUnits.{IsHalted, IsPastLine}
use Rattle.unit_crew.proofs.RoundEnds.{drops-crew, halted-through, none-through}
use Rattle.unit_crew.proofs.CrewKnowledge.{looks-crew}
use Rattle.unit_crew.proofs.Works.{showed, works-looks, works-none, works-on, works-types}
use Rattle.unit_crew.proofs.rounds.go_round.Goals as goal

pub go_on-requires-clause-crew : goal.go_on-requires-clause-crew
go_on-requires-clause-crew g c = looks-crew (program_tree c.args.checked.now) g.A.Access.may_come (g.A.Access.sight c.args.access.now) (g.A.Access.sight c.is_halted.new.access) c.args.agents.now.list.items c.requires.crew c.is_halted.ensures.looked

pub returns-in_err-moved-clause-works : goal.returns-in_err-moved-clause-works
returns-in_err-moved-clause-works g c = works-on (IsBasisOf (program_tree c.args.checked.now) c.args.before (g.L.Lines.lines c.args.lines.now)) (g.A.Access.sight c.args.access.now) (g.A.Access.sight c.is_halted.new.access) (g.A.Access.sight c.go_on.new.access) (works-looks (IsBasisOf (program_tree c.args.checked.now) c.args.before (g.L.Lines.lines c.args.lines.now)) g.A.Access.may_come (g.A.Access.sight c.args.access.now) (g.A.Access.sight c.is_halted.new.access) c.is_halted.ensures.looked) (works-types (program_tree c.args.checked.now) c.args.before (g.L.Lines.lines c.args.lines.now) (g.A.Access.sight c.is_halted.new.access) (g.A.Access.sight c.go_on.new.access) c.go_on.ensures.works)

pub returns-then-freeing_in-eq0-clause-works : goal.returns-then-freeing_in-eq0-clause-works
returns-then-freeing_in-eq0-clause-works g c = works-on (IsBasisOf (program_tree c.args.checked.now) c.args.before (g.L.Lines.lines c.args.lines.now)) (g.A.Access.sight c.args.access.now) (g.A.Access.sight c.is_halted.new.access) (g.A.Access.sight c.go_on.new.access) (works-looks (IsBasisOf (program_tree c.args.checked.now) c.args.before (g.L.Lines.lines c.args.lines.now)) g.A.Access.may_come (g.A.Access.sight c.args.access.now) (g.A.Access.sight c.is_halted.new.access) c.is_halted.ensures.looked) (works-types (program_tree c.args.checked.now) c.args.before (g.L.Lines.lines c.args.lines.now) (g.A.Access.sight c.is_halted.new.access) (g.A.Access.sight c.go_on.new.access) c.go_on.ensures.works)

pub returns-then-freeing_in-eq0-clause-crew : goal.returns-then-freeing_in-eq0-clause-crew
returns-then-freeing_in-eq0-clause-crew g c = drops-crew (program_tree c.args.checked.now) (g.A.Access.sight c.go_on.new.access) c.go_on.new.agents.list.items c.drop_freed.new.agents.list.items c.drop_freed.ensures c.in_ok-moved.ensures.crew

pub returns-then-freeing_in-eq0-clause-over : goal.returns-then-freeing_in-eq0-clause-over
returns-then-freeing_in-eq0-clause-over g c = (
  inl (showed (IsBasisOf (program_tree c.args.checked.now) c.args.before (g.L.Lines.lines c.args.lines.now)) IsHalted (g.A.Access.sight c.is_halted.new.access) (g.A.Access.sight c.go_on.new.access) (works-types (program_tree c.args.checked.now) c.args.before (g.L.Lines.lines c.args.lines.now) (g.A.Access.sight c.is_halted.new.access) (g.A.Access.sight c.go_on.new.access) c.go_on.ensures.works) (c.in_ok-halted.ensures.halted c.if-halted.true)),
  halted-through (IsBasisOf (program_tree c.args.checked.now) c.args.before (g.L.Lines.lines c.args.lines.now)) (program_tree c.args.checked.now) (g.A.Access.sight c.is_halted.new.access) (g.A.Access.sight c.go_on.new.access) c.drop_freed.new.agents.list.items (c.in_ok-halted.ensures.halted c.if-halted.true) (works-types (program_tree c.args.checked.now) c.args.before (g.L.Lines.lines c.args.lines.now) (g.A.Access.sight c.is_halted.new.access) (g.A.Access.sight c.go_on.new.access) c.go_on.ensures.works) (sym c.freeing_in.ensures ∙ c.if-freeing_in-eq0.true) (drops-crew (program_tree c.args.checked.now) (g.A.Access.sight c.go_on.new.access) c.go_on.new.agents.list.items c.drop_freed.new.agents.list.items c.drop_freed.ensures c.in_ok-moved.ensures.crew),
)

pub returns-then-not-may_begin-clause-works : goal.returns-then-not-may_begin-clause-works
returns-then-not-may_begin-clause-works g c = works-on (IsBasisOf (program_tree c.args.checked.now) c.args.before (g.L.Lines.lines c.args.lines.now)) (g.A.Access.sight c.args.access.now) (g.A.Access.sight c.is_halted.new.access) (g.A.Access.sight c.go_on.new.access) (works-looks (IsBasisOf (program_tree c.args.checked.now) c.args.before (g.L.Lines.lines c.args.lines.now)) g.A.Access.may_come (g.A.Access.sight c.args.access.now) (g.A.Access.sight c.is_halted.new.access) c.is_halted.ensures.looked) (works-types (program_tree c.args.checked.now) c.args.before (g.L.Lines.lines c.args.lines.now) (g.A.Access.sight c.is_halted.new.access) (g.A.Access.sight c.go_on.new.access) c.go_on.ensures.works)

pub returns-then-not-may_begin-clause-crew : goal.returns-then-not-may_begin-clause-crew
returns-then-not-may_begin-clause-crew g c = drops-crew (program_tree c.args.checked.now) (g.A.Access.sight c.go_on.new.access) c.go_on.new.agents.list.items c.drop_freed.new.agents.list.items c.drop_freed.ensures c.in_ok-moved.ensures.crew

pub begin_next-requires-clause-crew : goal.begin_next-requires-clause-crew
begin_next-requires-clause-crew g c = drops-crew (program_tree c.args.checked.now) (g.A.Access.sight c.go_on.new.access) c.go_on.new.agents.list.items c.drop_freed.new.agents.list.items c.drop_freed.ensures c.in_ok-moved.ensures.crew

pub returns-in_err-begin_next-clause-works : goal.returns-in_err-begin_next-clause-works
returns-in_err-begin_next-clause-works g c = works-on (IsBasisOf (program_tree c.args.checked.now) c.args.before (g.L.Lines.lines c.args.lines.now)) (g.A.Access.sight c.args.access.now) (g.A.Access.sight c.go_on.new.access) (g.A.Access.sight c.begin_next.new.access) (works-on (IsBasisOf (program_tree c.args.checked.now) c.args.before (g.L.Lines.lines c.args.lines.now)) (g.A.Access.sight c.args.access.now) (g.A.Access.sight c.is_halted.new.access) (g.A.Access.sight c.go_on.new.access) (works-looks (IsBasisOf (program_tree c.args.checked.now) c.args.before (g.L.Lines.lines c.args.lines.now)) g.A.Access.may_come (g.A.Access.sight c.args.access.now) (g.A.Access.sight c.is_halted.new.access) c.is_halted.ensures.looked) (works-types (program_tree c.args.checked.now) c.args.before (g.L.Lines.lines c.args.lines.now) (g.A.Access.sight c.is_halted.new.access) (g.A.Access.sight c.go_on.new.access) c.go_on.ensures.works)) c.begin_next.ensures.works

pub returns-then-branch-clause-works : goal.returns-then-branch-clause-works
returns-then-branch-clause-works g c = works-on (IsBasisOf (program_tree c.args.checked.now) c.args.before (g.L.Lines.lines c.args.lines.now)) (g.A.Access.sight c.args.access.now) (g.A.Access.sight c.go_on.new.access) (g.A.Access.sight c.begin_next.new.access) (works-on (IsBasisOf (program_tree c.args.checked.now) c.args.before (g.L.Lines.lines c.args.lines.now)) (g.A.Access.sight c.args.access.now) (g.A.Access.sight c.is_halted.new.access) (g.A.Access.sight c.go_on.new.access) (works-looks (IsBasisOf (program_tree c.args.checked.now) c.args.before (g.L.Lines.lines c.args.lines.now)) g.A.Access.may_come (g.A.Access.sight c.args.access.now) (g.A.Access.sight c.is_halted.new.access) c.is_halted.ensures.looked) (works-types (program_tree c.args.checked.now) c.args.before (g.L.Lines.lines c.args.lines.now) (g.A.Access.sight c.is_halted.new.access) (g.A.Access.sight c.go_on.new.access) c.go_on.ensures.works)) c.begin_next.ensures.works

pub returns-then-is_empty-clause-works : goal.returns-then-is_empty-clause-works
returns-then-is_empty-clause-works g c = works-on (IsBasisOf (program_tree c.args.checked.now) c.args.before (g.L.Lines.lines c.args.lines.now)) (g.A.Access.sight c.args.access.now) (g.A.Access.sight c.go_on.new.access) (g.A.Access.sight c.begin_next.new.access) (works-on (IsBasisOf (program_tree c.args.checked.now) c.args.before (g.L.Lines.lines c.args.lines.now)) (g.A.Access.sight c.args.access.now) (g.A.Access.sight c.is_halted.new.access) (g.A.Access.sight c.go_on.new.access) (works-looks (IsBasisOf (program_tree c.args.checked.now) c.args.before (g.L.Lines.lines c.args.lines.now)) g.A.Access.may_come (g.A.Access.sight c.args.access.now) (g.A.Access.sight c.is_halted.new.access) c.is_halted.ensures.looked) (works-types (program_tree c.args.checked.now) c.args.before (g.L.Lines.lines c.args.lines.now) (g.A.Access.sight c.is_halted.new.access) (g.A.Access.sight c.go_on.new.access) c.go_on.ensures.works)) c.begin_next.ensures.works

pub returns-then-is_empty-clause-over : goal.returns-then-is_empty-clause-over
returns-then-is_empty-clause-over g c =
    let none : length c.drop_freed.new.agents.list.items ≡ 0 = first_of (omega arith, search rules, grind (arith, common_steps)) in (
      inr (showed (IsBasisOf (program_tree c.args.checked.now) c.args.before (g.L.Lines.lines c.args.lines.now)) (IsPastLine (c.args.before + length (g.L.Lines.lines c.args.lines.now))) (g.A.Access.sight c.begin_next.new.access) (g.A.Access.sight c.begin_next.new.access) (works-none (IsBasisOf (program_tree c.args.checked.now) c.args.before (g.L.Lines.lines c.args.lines.now)) (g.A.Access.sight c.begin_next.new.access)) (c.in_ok-begin_next.ensures.past c.if-branch.false)),
      none-through (program_tree c.args.checked.now) (g.A.Access.sight c.begin_next.new.access) c.begin_next.new.agents.list.items (ap (length {A = Agent}) (c.in_ok-begin_next.ensures.none c.if-branch.false) ∙ none) c.in_ok-begin_next.ensures.crew,
    )

pub returns-then-moved-clause-works : goal.returns-then-moved-clause-works
returns-then-moved-clause-works g c = works-on (IsBasisOf (program_tree c.args.checked.now) c.args.before (g.L.Lines.lines c.args.lines.now)) (g.A.Access.sight c.args.access.now) (g.A.Access.sight c.is_halted.new.access) (g.A.Access.sight c.go_on.new.access) (works-looks (IsBasisOf (program_tree c.args.checked.now) c.args.before (g.L.Lines.lines c.args.lines.now)) g.A.Access.may_come (g.A.Access.sight c.args.access.now) (g.A.Access.sight c.is_halted.new.access) c.is_halted.ensures.looked) (works-types (program_tree c.args.checked.now) c.args.before (g.L.Lines.lines c.args.lines.now) (g.A.Access.sight c.is_halted.new.access) (g.A.Access.sight c.go_on.new.access) c.go_on.ensures.works)

pub returns-then-moved-clause-crew : goal.returns-then-moved-clause-crew
returns-then-moved-clause-crew g c = drops-crew (program_tree c.args.checked.now) (g.A.Access.sight c.go_on.new.access) c.go_on.new.agents.list.items c.drop_freed.new.agents.list.items c.drop_freed.ensures c.in_ok-moved.ensures.crew

pub returns-clause-works : goal.returns-clause-works
returns-clause-works g c = works-on (IsBasisOf (program_tree c.args.checked.now) c.args.before (g.L.Lines.lines c.args.lines.now)) (g.A.Access.sight c.args.access.now) (g.A.Access.sight c.is_halted.new.access) (g.A.Access.sight c.go_on.new.access) (works-looks (IsBasisOf (program_tree c.args.checked.now) c.args.before (g.L.Lines.lines c.args.lines.now)) g.A.Access.may_come (g.A.Access.sight c.args.access.now) (g.A.Access.sight c.is_halted.new.access) c.is_halted.ensures.looked) (works-types (program_tree c.args.checked.now) c.args.before (g.L.Lines.lines c.args.lines.now) (g.A.Access.sight c.is_halted.new.access) (g.A.Access.sight c.go_on.new.access) c.go_on.ensures.works)

pub returns-clause-crew : goal.returns-clause-crew
returns-clause-crew g c = drops-crew (program_tree c.args.checked.now) (g.A.Access.sight c.go_on.new.access) c.go_on.new.agents.list.items c.drop_freed.new.agents.list.items c.drop_freed.ensures c.in_ok-moved.ensures.crew

pub returns-in_err-halted-clause-kept : goal.returns-in_err-halted-clause-kept
returns-in_err-halted-clause-kept g c = c.is_halted.ensures.kept

pub returns-in_err-halted-clause-crew : goal.returns-in_err-halted-clause-crew
returns-in_err-halted-clause-crew g c = let q = err_from_is_err_and c.from_residual.result c.from_residual.ensures.1 in rw q.1 tt

pub returns-in_err-halted-clause-over : goal.returns-in_err-halted-clause-over
returns-in_err-halted-clause-over g c = let q = err_from_is_err_and c.from_residual.result c.from_residual.ensures.1 in rw q.1 tt

pub returns-in_err-moved-clause-kept : goal.returns-in_err-moved-clause-kept
returns-in_err-moved-clause-kept g c = record { fit = c.go_on.ensures.kept.fit; aside = c.go_on.ensures.kept.aside ∙ c.is_halted.ensures.kept.aside }

pub returns-in_err-moved-clause-crew : goal.returns-in_err-moved-clause-crew
returns-in_err-moved-clause-crew g c = let q = err_from_is_err_and c.from_residual-in_err-moved.result c.from_residual-in_err-moved.ensures.1 in rw q.1 tt

pub returns-in_err-moved-clause-over : goal.returns-in_err-moved-clause-over
returns-in_err-moved-clause-over g c = let q = err_from_is_err_and c.from_residual-in_err-moved.result c.from_residual-in_err-moved.ensures.1 in rw q.1 tt

pub returns-then-freeing_in-eq0-clause-kept : goal.returns-then-freeing_in-eq0-clause-kept
returns-then-freeing_in-eq0-clause-kept g c = record { fit = c.go_on.ensures.kept.fit; aside = c.go_on.ensures.kept.aside ∙ c.is_halted.ensures.kept.aside }

pub returns-then-not-may_begin-clause-kept : goal.returns-then-not-may_begin-clause-kept
returns-then-not-may_begin-clause-kept g c = record { fit = c.go_on.ensures.kept.fit; aside = c.go_on.ensures.kept.aside ∙ c.is_halted.ensures.kept.aside }

pub returns-then-not-may_begin-clause-over : goal.returns-then-not-may_begin-clause-over
returns-then-not-may_begin-clause-over g c = tt

pub returns-in_err-begin_next-clause-kept : goal.returns-in_err-begin_next-clause-kept
returns-in_err-begin_next-clause-kept g c = record { fit = c.begin_next.ensures.kept.fit; aside = c.begin_next.ensures.kept.aside ∙ c.go_on.ensures.kept.aside ∙ c.is_halted.ensures.kept.aside }

pub returns-in_err-begin_next-clause-same : goal.returns-in_err-begin_next-clause-same
returns-in_err-begin_next-clause-same g c = c.begin_next.ensures.same

pub returns-in_err-begin_next-clause-crew : goal.returns-in_err-begin_next-clause-crew
returns-in_err-begin_next-clause-crew g c = let q = err_from_is_err_and c.from_residual-in_err-begin_next.result c.from_residual-in_err-begin_next.ensures.1 in rw q.1 tt

pub returns-in_err-begin_next-clause-over : goal.returns-in_err-begin_next-clause-over
returns-in_err-begin_next-clause-over g c = let q = err_from_is_err_and c.from_residual-in_err-begin_next.result c.from_residual-in_err-begin_next.ensures.1 in rw q.1 tt

pub returns-then-branch-clause-kept : goal.returns-then-branch-clause-kept
returns-then-branch-clause-kept g c = record { fit = c.begin_next.ensures.kept.fit; aside = c.begin_next.ensures.kept.aside ∙ c.go_on.ensures.kept.aside ∙ c.is_halted.ensures.kept.aside }

pub returns-then-branch-clause-same : goal.returns-then-branch-clause-same
returns-then-branch-clause-same g c = c.begin_next.ensures.same

pub returns-then-branch-clause-crew : goal.returns-then-branch-clause-crew
returns-then-branch-clause-crew g c = c.in_ok-begin_next.ensures.crew

pub returns-then-branch-clause-over : goal.returns-then-branch-clause-over
returns-then-branch-clause-over g c = tt

pub returns-then-is_empty-clause-kept : goal.returns-then-is_empty-clause-kept
returns-then-is_empty-clause-kept g c = record { fit = c.begin_next.ensures.kept.fit; aside = c.begin_next.ensures.kept.aside ∙ c.go_on.ensures.kept.aside ∙ c.is_halted.ensures.kept.aside }

pub returns-then-is_empty-clause-same : goal.returns-then-is_empty-clause-same
returns-then-is_empty-clause-same g c = c.begin_next.ensures.same

pub returns-then-is_empty-clause-crew : goal.returns-then-is_empty-clause-crew
returns-then-is_empty-clause-crew g c = c.in_ok-begin_next.ensures.crew

pub returns-then-moved-clause-kept : goal.returns-then-moved-clause-kept
returns-then-moved-clause-kept g c = record { fit = c.go_on.ensures.kept.fit; aside = c.go_on.ensures.kept.aside ∙ c.is_halted.ensures.kept.aside }

pub returns-then-moved-clause-over : goal.returns-then-moved-clause-over
returns-then-moved-clause-over g c = tt

pub returns-clause-kept : goal.returns-clause-kept
returns-clause-kept g c = record { fit = c.go_on.ensures.kept.fit; aside = c.go_on.ensures.kept.aside ∙ c.is_halted.ensures.kept.aside }

pub returns-clause-over : goal.returns-clause-over
returns-clause-over g c = tt

pub returns-in_err-halted-clause-works : goal.returns-in_err-halted-clause-works
returns-in_err-halted-clause-works g c = works-looks (IsBasisOf (program_tree c.args.checked.now) c.args.before (g.L.Lines.lines c.args.lines.now)) g.A.Access.may_come (g.A.Access.sight c.args.access.now) (g.A.Access.sight c.is_halted.new.access) c.is_halted.ensures.looked

pub go_on-requires-clause-fit : goal.go_on-requires-clause-fit
go_on-requires-clause-fit g c = c.is_halted.ensures.kept.fit

pub begin_next-requires-clause-fit : goal.begin_next-requires-clause-fit
begin_next-requires-clause-fit g c = c.go_on.ensures.kept.fit

pub begin_next-requires-clause-before : goal.begin_next-requires-clause-before
begin_next-requires-clause-before g c =
    subst (λ (r : Run). c.args.before ≤ (ends r).units.lines) (sym (c.go_on.ensures.works.first ∙ ap (λ (x : Sight). x.first) c.is_halted.ensures.looked.sight)) c.requires.before
