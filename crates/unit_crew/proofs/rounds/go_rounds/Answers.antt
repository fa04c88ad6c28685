use Rattle.std.proofs.Common.{◌∙◌, ◌+◌, ◌≤◌, length, refl, sym, subst}
use Rattle.std.proofs.lemmas.Result.{err_from_is_err_and}
use Rattle.script_tree.specs.Programs.{program_tree}
use Rattle.core_model.specs.LegalRuns.{Run, ends}
use Rattle.unit_crew.specs.Crews.{IsBasisOf, IsCrew}
use Rattle.unit_crew.specs.Rounds.{IsOverAt}
use Rattle.unit_crew.specs.declared.rounds.Round.TheVariants.{Over}
use Rattle.unit_crew.proofs.Outset.{over-same}
use Rattle.unit_crew.proofs.Works.{works-none, works-on, works-same}
use Rattle.unit_crew.proofs.rounds.go_rounds.Goals as goal

pub returns-in_err-go_round-clause-works : goal.returns-in_err-go_round-clause-works
returns-in_err-go_round-clause-works g c = works-on (IsBasisOf (program_tree c.args.checked.now) c.args.before (g.L.Lines.lines c.args.lines.now)) (g.A.Access.sight c.args.access.now) (g.A.Access.sight c.loop.access) (g.A.Access.sight c.go_round.new.access) c.loop.invariant.works (works-same (program_tree c.args.checked.now) c.args.before (g.L.Lines.lines c.loop.lines) (g.L.Lines.lines c.args.lines.now) (g.A.Access.sight c.loop.access) (g.A.Access.sight c.go_round.new.access) c.loop.invariant.same c.go_round.ensures.works)

pub returns-in-Over-clause-works : goal.returns-in-Over-clause-works
returns-in-Over-clause-works g c = works-on (IsBasisOf (program_tree c.args.checked.now) c.args.before (g.L.Lines.lines c.args.lines.now)) (g.A.Access.sight c.args.access.now) (g.A.Access.sight c.loop.access) (g.A.Access.sight c.go_round.new.access) c.loop.invariant.works (works-same (program_tree c.args.checked.now) c.args.before (g.L.Lines.lines c.loop.lines) (g.L.Lines.lines c.args.lines.now) (g.A.Access.sight c.loop.access) (g.A.Access.sight c.go_round.new.access) c.loop.invariant.same c.go_round.ensures.works)

pub loop-preserved-in-Moved : goal.loop-preserved-in-Moved
loop-preserved-in-Moved g c = record {
  can = tt;
  finite = tt;
  fit = c.go_round.ensures.kept.fit;
  aside = c.go_round.ensures.kept.aside ∙ c.loop.invariant.aside;
  same = c.go_round.ensures.same ∙ c.loop.invariant.same;
  works = works-on (IsBasisOf (program_tree c.args.checked.now) c.args.before (g.L.Lines.lines c.args.lines.now)) (g.A.Access.sight c.args.access.now) (g.A.Access.sight c.loop.access) (g.A.Access.sight c.go_round.new.access) c.loop.invariant.works (works-same (program_tree c.args.checked.now) c.args.before (g.L.Lines.lines c.loop.lines) (g.L.Lines.lines c.args.lines.now) (g.A.Access.sight c.loop.access) (g.A.Access.sight c.go_round.new.access) c.loop.invariant.same c.go_round.ensures.works);
  crew = c.in_ok-go_round.ensures.crew;
}

pub loop-preserved-in-Stayed : goal.loop-preserved-in-Stayed
loop-preserved-in-Stayed g c = record {
  can = tt;
  finite = tt;
  fit = c.go_round.ensures.kept.fit;
  aside = c.go_round.ensures.kept.aside ∙ c.loop.invariant.aside;
  same = c.go_round.ensures.same ∙ c.loop.invariant.same;
  works = works-on (IsBasisOf (program_tree c.args.checked.now) c.args.before (g.L.Lines.lines c.args.lines.now)) (g.A.Access.sight c.args.access.now) (g.A.Access.sight c.loop.access) (g.A.Access.sight c.go_round.new.access) c.loop.invariant.works (works-same (program_tree c.args.checked.now) c.args.before (g.L.Lines.lines c.loop.lines) (g.L.Lines.lines c.args.lines.now) (g.A.Access.sight c.loop.access) (g.A.Access.sight c.go_round.new.access) c.loop.invariant.same c.go_round.ensures.works);
  crew = c.in_ok-go_round.ensures.crew;
}

pub loop-preserved : goal.loop-preserved
loop-preserved g c = record {
  can = tt;
  finite = tt;
  fit = c.go_round.ensures.kept.fit;
  aside = c.go_round.ensures.kept.aside ∙ c.loop.invariant.aside;
  same = c.go_round.ensures.same ∙ c.loop.invariant.same;
  works = works-on (IsBasisOf (program_tree c.args.checked.now) c.args.before (g.L.Lines.lines c.args.lines.now)) (g.A.Access.sight c.args.access.now) (g.A.Access.sight c.loop.access) (g.A.Access.sight c.go_round.new.access) c.loop.invariant.works (works-same (program_tree c.args.checked.now) c.args.before (g.L.Lines.lines c.loop.lines) (g.L.Lines.lines c.args.lines.now) (g.A.Access.sight c.loop.access) (g.A.Access.sight c.go_round.new.access) c.loop.invariant.same c.go_round.ensures.works);
  crew = c.in_ok-go_round.ensures.crew;
}

pub returns-in_err-go_round-clause-kept : goal.returns-in_err-go_round-clause-kept
returns-in_err-go_round-clause-kept g c = record { fit = c.go_round.ensures.kept.fit; aside = c.go_round.ensures.kept.aside ∙ c.loop.invariant.aside }

pub returns-in_err-go_round-clause-same : goal.returns-in_err-go_round-clause-same
returns-in_err-go_round-clause-same g c = c.go_round.ensures.same ∙ c.loop.invariant.same

pub returns-in_err-go_round-clause-shown : goal.returns-in_err-go_round-clause-shown
returns-in_err-go_round-clause-shown g c = let q = err_from_is_err_and c.from_residual.result c.from_residual.ensures.1 in rw q.1 tt

pub returns-in_err-go_round-clause-through : goal.returns-in_err-go_round-clause-through
returns-in_err-go_round-clause-through g c = let q = err_from_is_err_and c.from_residual.result c.from_residual.ensures.1 in rw q.1 tt

pub returns-in-Over-clause-kept : goal.returns-in-Over-clause-kept
returns-in-Over-clause-kept g c = record { fit = c.go_round.ensures.kept.fit; aside = c.go_round.ensures.kept.aside ∙ c.loop.invariant.aside }

pub returns-in-Over-clause-same : goal.returns-in-Over-clause-same
returns-in-Over-clause-same g c = c.go_round.ensures.same ∙ c.loop.invariant.same

pub go_round-requires-clause-fit : goal.go_round-requires-clause-fit
go_round-requires-clause-fit g c = c.loop.invariant.fit

pub go_round-requires-clause-crew : goal.go_round-requires-clause-crew
go_round-requires-clause-crew g c = c.loop.invariant.crew

pub returns-in-Over-clause-shown : goal.returns-in-Over-clause-shown
returns-in-Over-clause-shown g c = (over-same c.args.before (g.L.Lines.lines c.loop.lines) (g.L.Lines.lines c.args.lines.now) (g.A.Access.sight c.go_round.new.access) Over c.loop.invariant.same
    (subst (IsOverAt (c.args.before + length (g.L.Lines.lines c.loop.lines)) (g.A.Access.sight c.go_round.new.access)) c.in-Over.is c.in_ok-go_round.ensures.over)).0

pub returns-in-Over-clause-through : goal.returns-in-Over-clause-through
returns-in-Over-clause-through g c = (over-same c.args.before (g.L.Lines.lines c.loop.lines) (g.L.Lines.lines c.args.lines.now) (g.A.Access.sight c.go_round.new.access) Over c.loop.invariant.same
    (subst (IsOverAt (c.args.before + length (g.L.Lines.lines c.loop.lines)) (g.A.Access.sight c.go_round.new.access)) c.in-Over.is c.in_ok-go_round.ensures.over)).1

pub go_round-requires-clause-before : goal.go_round-requires-clause-before
go_round-requires-clause-before g c = subst (λ (r : Run). c.args.before ≤ (ends r).units.lines) (sym c.loop.invariant.works.first) c.requires.before

pub loop-init : goal.loop-init
loop-init g c = record {
  can = tt;
  finite = tt;
  fit = c.requires.fit;
  aside = refl;
  same = refl;
  works = works-none (IsBasisOf (program_tree c.args.checked.now) c.args.before (g.L.Lines.lines c.args.lines.now)) (g.A.Access.sight c.args.access.now);
  crew = subst (IsCrew (program_tree c.args.checked.now) (g.A.Access.sight c.args.access.now)) (sym c.new-agents.ensures) c.requires.crew;
}
