use Rattle.std.proofs.Common.{◌∙◌, refl, arith}
use Rattle.std.proofs.lemmas.Result.{err_from_is_err_and}
use Rattle.script_tree.specs.Programs.{program_tree}
use Rattle.unit_crew.specs.Crews.{HasTypes}
use Rattle.unit_crew.proofs.Works.{works-none, works-on}
use Rattle.unit_crew.proofs.crew.go_far.Goals as goal

pub returns-in_err-step-clause-works : goal.returns-in_err-step-clause-works
returns-in_err-step-clause-works g c =
    works-on (HasTypes (program_tree c.args.checked.now)) (g.A.Access.sight c.args.access.now) (g.A.Access.sight c.loop-count.access) (g.A.Access.sight c.step.new.access) c.loop-count.invariant.works c.step.ensures.works

pub returns-in-Stays-clause-works : goal.returns-in-Stays-clause-works
returns-in-Stays-clause-works g c =
    works-on (HasTypes (program_tree c.args.checked.now)) (g.A.Access.sight c.args.access.now) (g.A.Access.sight c.loop-count.access) (g.A.Access.sight c.step.new.access) c.loop-count.invariant.works c.step.ensures.works

pub returns-in_err-wished-in-LacksGrain-clause-works : goal.returns-in_err-wished-in-LacksGrain-clause-works
returns-in_err-wished-in-LacksGrain-clause-works g c =
    works-on (HasTypes (program_tree c.args.checked.now)) (g.A.Access.sight c.args.access.now) (g.A.Access.sight c.step.new.access) (g.A.Access.sight c.wish.new.access) (works-on (HasTypes (program_tree c.args.checked.now)) (g.A.Access.sight c.args.access.now) (g.A.Access.sight c.loop-count.access) (g.A.Access.sight c.step.new.access) c.loop-count.invariant.works c.step.ensures.works) (c.wish.ensures.works (program_tree c.args.checked.now) c.in_ok-step.ensures.crew)

pub returns-in-LacksGrain-clause-works : goal.returns-in-LacksGrain-clause-works
returns-in-LacksGrain-clause-works g c =
    works-on (HasTypes (program_tree c.args.checked.now)) (g.A.Access.sight c.args.access.now) (g.A.Access.sight c.step.new.access) (g.A.Access.sight c.wish.new.access) (works-on (HasTypes (program_tree c.args.checked.now)) (g.A.Access.sight c.args.access.now) (g.A.Access.sight c.loop-count.access) (g.A.Access.sight c.step.new.access) c.loop-count.invariant.works c.step.ensures.works) (c.wish.ensures.works (program_tree c.args.checked.now) c.in_ok-step.ensures.crew)

pub returns-in-LacksGrain-clause-crew : goal.returns-in-LacksGrain-clause-crew
returns-in-LacksGrain-clause-crew g c =
    c.wish.ensures.crew (program_tree c.args.checked.now) c.in_ok-step.ensures.crew

pub loop-count-preserved : goal.loop-count-preserved
loop-count-preserved g c = record {
  fit = c.step.ensures.kept.fit;
  aside = c.step.ensures.kept.aside ∙ c.loop-count.invariant.aside;
  works = works-on (HasTypes (program_tree c.args.checked.now)) (g.A.Access.sight c.args.access.now) (g.A.Access.sight c.loop-count.access) (g.A.Access.sight c.step.new.access) c.loop-count.invariant.works c.step.ensures.works;
  crew = c.in_ok-step.ensures.crew;
  more = omega (arith, c.in_ok-step.ensures.more, c.loop-count.invariant.more);
}

pub returns-in_err-step-clause-kept : goal.returns-in_err-step-clause-kept
returns-in_err-step-clause-kept g c = record { fit = c.step.ensures.kept.fit; aside = c.step.ensures.kept.aside ∙ c.loop-count.invariant.aside }

pub returns-in_err-step-clause-crew : goal.returns-in_err-step-clause-crew
returns-in_err-step-clause-crew g c = let q = err_from_is_err_and c.from_residual.result c.from_residual.ensures.1 in rw q.1 tt

pub returns-in_err-step-clause-more : goal.returns-in_err-step-clause-more
returns-in_err-step-clause-more g c = let q = err_from_is_err_and c.from_residual.result c.from_residual.ensures.1 in rw q.1 tt

pub returns-in-Stays-clause-kept : goal.returns-in-Stays-clause-kept
returns-in-Stays-clause-kept g c = record { fit = c.step.ensures.kept.fit; aside = c.step.ensures.kept.aside ∙ c.loop-count.invariant.aside }

pub returns-in-Stays-clause-crew : goal.returns-in-Stays-clause-crew
returns-in-Stays-clause-crew g c = c.in_ok-step.ensures.crew

pub returns-in-Stays-clause-more : goal.returns-in-Stays-clause-more
returns-in-Stays-clause-more g c = omega (arith, c.in_ok-step.ensures.more, c.loop-count.invariant.more)

pub returns-in_err-wished-in-LacksGrain-clause-kept : goal.returns-in_err-wished-in-LacksGrain-clause-kept
returns-in_err-wished-in-LacksGrain-clause-kept g c = record { fit = c.wish.ensures.kept.fit; aside = c.wish.ensures.kept.aside ∙ c.step.ensures.kept.aside ∙ c.loop-count.invariant.aside }

pub returns-in_err-wished-in-LacksGrain-clause-crew : goal.returns-in_err-wished-in-LacksGrain-clause-crew
returns-in_err-wished-in-LacksGrain-clause-crew g c = let q = err_from_is_err_and c.from_residual-in_err-wished-in-LacksGrain.result c.from_residual-in_err-wished-in-LacksGrain.ensures.1 in rw q.1 tt

pub returns-in_err-wished-in-LacksGrain-clause-more : goal.returns-in_err-wished-in-LacksGrain-clause-more
returns-in_err-wished-in-LacksGrain-clause-more g c = let q = err_from_is_err_and c.from_residual-in_err-wished-in-LacksGrain.result c.from_residual-in_err-wished-in-LacksGrain.ensures.1 in rw q.1 tt

pub returns-in-LacksGrain-clause-kept : goal.returns-in-LacksGrain-clause-kept
returns-in-LacksGrain-clause-kept g c = record { fit = c.wish.ensures.kept.fit; aside = c.wish.ensures.kept.aside ∙ c.step.ensures.kept.aside ∙ c.loop-count.invariant.aside }

pub returns-in-LacksGrain-clause-more : goal.returns-in-LacksGrain-clause-more
returns-in-LacksGrain-clause-more g c = omega (arith, c.in_ok-step.ensures.more, c.loop-count.invariant.more)

pub returns-clause-kept : goal.returns-clause-kept
returns-clause-kept g c = record { fit = c.loop-count.invariant.fit; aside = c.loop-count.invariant.aside }

pub returns-clause-works : goal.returns-clause-works
returns-clause-works g c = c.loop-count.invariant.works

pub returns-clause-crew : goal.returns-clause-crew
returns-clause-crew g c = c.loop-count.invariant.crew

pub returns-clause-more : goal.returns-clause-more
returns-clause-more g c = c.loop-count.invariant.more

pub step-requires-clause-fit : goal.step-requires-clause-fit
step-requires-clause-fit g c = c.loop-count.invariant.fit

pub step-requires-clause-crew : goal.step-requires-clause-crew
step-requires-clause-crew g c = c.loop-count.invariant.crew

pub step-requires-clause-within : goal.step-requires-clause-within
step-requires-clause-within g c = let within = c.requires.within in let more = c.loop-count.invariant.more in omega (arith, within, more)

pub wish-requires-clause-fit : goal.wish-requires-clause-fit
wish-requires-clause-fit g c = c.step.ensures.kept.fit

pub wish-requires-clause-within : goal.wish-requires-clause-within
wish-requires-clause-within g c = let within = c.requires.within in let more = c.loop-count.invariant.more in let on = c.in_ok-step.ensures.more in omega (arith, within, more, on)

pub loop-count-init : goal.loop-count-init
loop-count-init g c = record {
  fit = c.requires.fit;
  aside = refl;
  works = works-none (HasTypes (program_tree c.args.checked.now)) (g.A.Access.sight c.args.access.now);
  crew = c.requires.crew;
  more = omega arith;
}
