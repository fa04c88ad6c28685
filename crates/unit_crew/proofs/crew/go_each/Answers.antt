use Rattle.std.proofs.Common.{◌∙◌, arith}
use Rattle.std.proofs.lemmas.Result.{err_from_is_err_and}
use Rattle.script_tree.specs.Programs.{program_tree}
use Rattle.unit_crew.specs.Crews.{HasTypes}
use Rattle.unit_crew.proofs.Works.{works-on}
use Rattle.unit_crew.proofs.crew.go_each.Goals as goal

pub returns-in_err-went-clause-works : goal.returns-in_err-went-clause-works
returns-in_err-went-clause-works g c = works-on (HasTypes (program_tree c.args.checked.now)) (g.A.Access.sight c.args.access.now) (g.A.Access.sight c.loop-index.access) (g.A.Access.sight c.go_far.new.access) c.loop-index.invariant.works c.go_far.ensures.works

pub loop-index-preserved : goal.loop-index-preserved
loop-index-preserved g c = record {
  fit = c.go_far.ensures.kept.fit;
  aside = c.go_far.ensures.kept.aside ∙ c.loop-index.invariant.aside;
  works = works-on (HasTypes (program_tree c.args.checked.now)) (g.A.Access.sight c.args.access.now) (g.A.Access.sight c.loop-index.access) (g.A.Access.sight c.go_far.new.access) c.loop-index.invariant.works c.go_far.ensures.works;
  crew = c.in_ok-went.ensures.crew;
  more = omega (arith, c.in_ok-went.ensures.more, c.loop-index.invariant.more);
}

pub returns-in_err-went-clause-kept : goal.returns-in_err-went-clause-kept
returns-in_err-went-clause-kept g c = record { fit = c.go_far.ensures.kept.fit; aside = c.go_far.ensures.kept.aside ∙ c.loop-index.invariant.aside }

pub returns-in_err-went-clause-crew : goal.returns-in_err-went-clause-crew
returns-in_err-went-clause-crew g c = let q = err_from_is_err_and c.from_residual.result c.from_residual.ensures.1 in rw q.1 tt

pub returns-clause-kept : goal.returns-clause-kept
returns-clause-kept g c = record { fit = c.loop-index.invariant.fit; aside = c.loop-index.invariant.aside }

pub returns-clause-works : goal.returns-clause-works
returns-clause-works g c = c.loop-index.invariant.works

pub returns-clause-crew : goal.returns-clause-crew
returns-clause-crew g c = c.loop-index.invariant.crew

pub go_far-requires-clause-fit : goal.go_far-requires-clause-fit
go_far-requires-clause-fit g c = c.loop-index.invariant.fit

pub go_far-requires-clause-crew : goal.go_far-requires-clause-crew
go_far-requires-clause-crew g c = c.loop-index.invariant.crew
