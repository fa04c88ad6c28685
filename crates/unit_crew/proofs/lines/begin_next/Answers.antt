use Rattle.std.proofs.Common.{◌≡◌, ◌≤◌, ◌-◌, ◌∙◌, refl, sym, ap, subst, arith}
use Rattle.core_model.specs.LegalRuns.{Run, ends}
use Rattle.core_access.specs.Sights.{Sight}
use Rattle.std.proofs.lemmas.Result.{err_from_is_err_and}
use Rattle.script_tree.specs.Programs.{program_tree}
use Rattle.unit_crew.specs.Crews.{IsBasisOf}
use Rattle.unit_crew.proofs.BegunUnits.{starts-crew, works-starts}
use Rattle.unit_crew.proofs.RoundEnds.{past-lines}
use Rattle.unit_crew.proofs.CrewKnowledge.{looks-crew}
use Rattle.unit_crew.proofs.Works.{works-looks, works-on, works-refused}
use Rattle.unit_crew.proofs.lines.begin_next.Goals as goal

pub returns-in_err-line_at-clause-works : goal.returns-in_err-line_at-clause-works
returns-in_err-line_at-clause-works g c = works-looks (IsBasisOf (program_tree c.args.checked.now) c.args.before (g.L.Lines.lines c.args.lines.now)) g.A.Access.may_come (g.A.Access.sight c.args.access.now) (g.A.Access.sight c.next_line.new.access) c.next_line.ensures.looked

pub returns-in-None-clause-works : goal.returns-in-None-clause-works
returns-in-None-clause-works g c = works-looks (IsBasisOf (program_tree c.args.checked.now) c.args.before (g.L.Lines.lines c.args.lines.now)) g.A.Access.may_come (g.A.Access.sight c.args.access.now) (g.A.Access.sight c.next_line.new.access) c.next_line.ensures.looked

pub returns-in-None-clause-crew : goal.returns-in-None-clause-crew
returns-in-None-clause-crew g c = looks-crew (program_tree c.args.checked.now) g.A.Access.may_come (g.A.Access.sight c.args.access.now) (g.A.Access.sight c.next_line.new.access) c.args.agents.now.list.items c.requires.crew c.next_line.ensures.looked

pub returns-in-None-clause-past : goal.returns-in-None-clause-past
returns-in-None-clause-past g c = λ none.
    let at : c.saturating_sub-place.result ≡ c.in_ok-next.next - 1 - c.args.before = omega arith in
    past-lines (g.A.Access.sight c.next_line.new.access) c.args.before c.in_ok-next.next c.saturating_sub-place.result (g.L.Lines.lines c.args.lines.now)
    (subst (λ (r : Run). c.args.before ≤ (ends r).units.lines) (sym (ap (λ (x : Sight). x.first) c.next_line.ensures.looked.sight)) c.requires.before)
    c.in_ok-next.ensures.next at (sym c.in-None.is ∙ c.in_ok-line_at.ensures.line)

pub returns-in_err-began-in-Some-clause-works : goal.returns-in_err-began-in-Some-clause-works
returns-in_err-began-in-Some-clause-works g c =
    works-on (IsBasisOf (program_tree c.args.checked.now) c.args.before (g.L.Lines.lines c.args.lines.now)) (g.A.Access.sight c.args.access.now) (g.A.Access.sight c.next_line.new.access) (g.A.Access.sight c.start_line.new.access) (works-looks (IsBasisOf (program_tree c.args.checked.now) c.args.before (g.L.Lines.lines c.args.lines.now)) g.A.Access.may_come (g.A.Access.sight c.args.access.now) (g.A.Access.sight c.next_line.new.access) c.next_line.ensures.looked)
    (works-refused g.A.Access.may_come (program_tree c.args.checked.now) c.args.before c.saturating_sub-place.result (g.L.Lines.lines c.args.lines.now) c.in-Some.line (g.A.Access.sight c.next_line.new.access) (g.A.Access.sight c.start_line.new.access) (sym c.in_ok-line_at.ensures.line ∙ c.in-Some.is) c.in_err-began-in-Some.ensures.put)

pub returns-in-None-began-clause-works : goal.returns-in-None-began-clause-works
returns-in-None-began-clause-works g c =
    works-on (IsBasisOf (program_tree c.args.checked.now) c.args.before (g.L.Lines.lines c.args.lines.now)) (g.A.Access.sight c.args.access.now) (g.A.Access.sight c.next_line.new.access) (g.A.Access.sight c.start_line.new.access) (works-looks (IsBasisOf (program_tree c.args.checked.now) c.args.before (g.L.Lines.lines c.args.lines.now)) g.A.Access.may_come (g.A.Access.sight c.args.access.now) (g.A.Access.sight c.next_line.new.access) c.next_line.ensures.looked)
    (works-starts g.A.Access.may_come (program_tree c.args.checked.now) c.args.before c.saturating_sub-place.result (g.L.Lines.lines c.args.lines.now) c.in-Some.line (g.A.Access.sight c.next_line.new.access) (g.A.Access.sight c.start_line.new.access) c.args.agents.now.list.items c.start_line.new.agents.list.items c.in_ok-began-in-Some.began (sym c.in_ok-line_at.ensures.line ∙ c.in-Some.is) c.in_ok-began-in-Some.ensures.starts)

pub returns-in-None-began-clause-crew : goal.returns-in-None-began-clause-crew
returns-in-None-began-clause-crew g c =
    starts-crew (program_tree c.args.checked.now) g.A.Access.may_come (g.A.Access.sight c.next_line.new.access) (g.A.Access.sight c.start_line.new.access) c.in-Some.line.number c.args.agents.now.list.items c.start_line.new.agents.list.items c.in_ok-began-in-Some.began (looks-crew (program_tree c.args.checked.now) g.A.Access.may_come (g.A.Access.sight c.args.access.now) (g.A.Access.sight c.next_line.new.access) c.args.agents.now.list.items c.requires.crew c.next_line.ensures.looked)
    c.in-Some.line.what c.in_ok-began-in-Some.ensures.starts

pub returns-in-Some-began-clause-works : goal.returns-in-Some-began-clause-works
returns-in-Some-began-clause-works g c =
    works-on (IsBasisOf (program_tree c.args.checked.now) c.args.before (g.L.Lines.lines c.args.lines.now)) (g.A.Access.sight c.args.access.now) (g.A.Access.sight c.next_line.new.access) (g.A.Access.sight c.start_line.new.access) (works-looks (IsBasisOf (program_tree c.args.checked.now) c.args.before (g.L.Lines.lines c.args.lines.now)) g.A.Access.may_come (g.A.Access.sight c.args.access.now) (g.A.Access.sight c.next_line.new.access) c.next_line.ensures.looked)
    (works-starts g.A.Access.may_come (program_tree c.args.checked.now) c.args.before c.saturating_sub-place.result (g.L.Lines.lines c.args.lines.now) c.in-Some.line (g.A.Access.sight c.next_line.new.access) (g.A.Access.sight c.start_line.new.access) c.args.agents.now.list.items c.start_line.new.agents.list.items c.in_ok-began-in-Some.began (sym c.in_ok-line_at.ensures.line ∙ c.in-Some.is) c.in_ok-began-in-Some.ensures.starts)

pub returns-in-Some-began-clause-crew : goal.returns-in-Some-began-clause-crew
returns-in-Some-began-clause-crew g c =
    starts-crew (program_tree c.args.checked.now) g.A.Access.may_come (g.A.Access.sight c.next_line.new.access) (g.A.Access.sight c.start_line.new.access) c.in-Some.line.number c.args.agents.now.list.items c.start_line.new.agents.list.items c.in_ok-began-in-Some.began (looks-crew (program_tree c.args.checked.now) g.A.Access.may_come (g.A.Access.sight c.args.access.now) (g.A.Access.sight c.next_line.new.access) c.args.agents.now.list.items c.requires.crew c.next_line.ensures.looked)
    c.in-Some.line.what c.in_ok-began-in-Some.ensures.starts

pub returns-in_err-line_at-clause-kept : goal.returns-in_err-line_at-clause-kept
returns-in_err-line_at-clause-kept g c = c.next_line.ensures.kept

pub returns-in_err-line_at-clause-same : goal.returns-in_err-line_at-clause-same
returns-in_err-line_at-clause-same g c = c.line_at.ensures.same

pub returns-in_err-line_at-clause-crew : goal.returns-in_err-line_at-clause-crew
returns-in_err-line_at-clause-crew g c = let q = err_from_is_err_and c.from_residual-in_err-line_at.result c.from_residual-in_err-line_at.ensures.1 in rw q.1 tt

pub returns-in_err-line_at-clause-past : goal.returns-in_err-line_at-clause-past
returns-in_err-line_at-clause-past g c = let q = err_from_is_err_and c.from_residual-in_err-line_at.result c.from_residual-in_err-line_at.ensures.1 in rw q.1 tt

pub returns-in_err-line_at-clause-none : goal.returns-in_err-line_at-clause-none
returns-in_err-line_at-clause-none g c = let q = err_from_is_err_and c.from_residual-in_err-line_at.result c.from_residual-in_err-line_at.ensures.1 in rw q.1 tt

pub returns-in-None-clause-kept : goal.returns-in-None-clause-kept
returns-in-None-clause-kept g c = c.next_line.ensures.kept

pub returns-in-None-clause-same : goal.returns-in-None-clause-same
returns-in-None-clause-same g c = c.line_at.ensures.same

pub returns-in_err-began-in-Some-clause-kept : goal.returns-in_err-began-in-Some-clause-kept
returns-in_err-began-in-Some-clause-kept g c = record { fit = c.start_line.ensures.kept.fit; aside = c.start_line.ensures.kept.aside ∙ c.next_line.ensures.kept.aside }

pub returns-in_err-began-in-Some-clause-same : goal.returns-in_err-began-in-Some-clause-same
returns-in_err-began-in-Some-clause-same g c = c.line_at.ensures.same

pub returns-in_err-began-in-Some-clause-crew : goal.returns-in_err-began-in-Some-clause-crew
returns-in_err-began-in-Some-clause-crew g c = let q = err_from_is_err_and c.from_residual-in_err-began-in-Some.result c.from_residual-in_err-began-in-Some.ensures.1 in rw q.1 tt

pub returns-in_err-began-in-Some-clause-past : goal.returns-in_err-began-in-Some-clause-past
returns-in_err-began-in-Some-clause-past g c = let q = err_from_is_err_and c.from_residual-in_err-began-in-Some.result c.from_residual-in_err-began-in-Some.ensures.1 in rw q.1 tt

pub returns-in_err-began-in-Some-clause-none : goal.returns-in_err-began-in-Some-clause-none
returns-in_err-began-in-Some-clause-none g c = let q = err_from_is_err_and c.from_residual-in_err-began-in-Some.result c.from_residual-in_err-began-in-Some.ensures.1 in rw q.1 tt

pub returns-in-None-began-clause-kept : goal.returns-in-None-began-clause-kept
returns-in-None-began-clause-kept g c = record { fit = c.start_line.ensures.kept.fit; aside = c.start_line.ensures.kept.aside ∙ c.next_line.ensures.kept.aside }

pub returns-in-None-began-clause-same : goal.returns-in-None-began-clause-same
returns-in-None-began-clause-same g c = c.line_at.ensures.same

pub returns-in-Some-began-clause-kept : goal.returns-in-Some-began-clause-kept
returns-in-Some-began-clause-kept g c = record { fit = c.start_line.ensures.kept.fit; aside = c.start_line.ensures.kept.aside ∙ c.next_line.ensures.kept.aside }

pub returns-in-Some-began-clause-same : goal.returns-in-Some-began-clause-same
returns-in-Some-began-clause-same g c = c.line_at.ensures.same

pub start_line-requires : goal.start_line-requires
start_line-requires g c = record { fit = c.next_line.ensures.kept.fit }

pub returns-in_err-next-clause-kept : goal.returns-in_err-next-clause-kept
returns-in_err-next-clause-kept g c = c.next_line.ensures.kept

pub returns-in_err-next-clause-same : goal.returns-in_err-next-clause-same
returns-in_err-next-clause-same g c = refl

pub returns-in_err-next-clause-works : goal.returns-in_err-next-clause-works
returns-in_err-next-clause-works g c = works-looks (IsBasisOf (program_tree c.args.checked.now) c.args.before (g.L.Lines.lines c.args.lines.now)) g.A.Access.may_come (g.A.Access.sight c.args.access.now) (g.A.Access.sight c.next_line.new.access) c.next_line.ensures.looked

pub returns-in_err-next-clause-crew : goal.returns-in_err-next-clause-crew
returns-in_err-next-clause-crew g c = let q = err_from_is_err_and c.from_residual.result c.from_residual.ensures.1 in rw q.1 tt

pub returns-in_err-next-clause-past : goal.returns-in_err-next-clause-past
returns-in_err-next-clause-past g c = let q = err_from_is_err_and c.from_residual.result c.from_residual.ensures.1 in rw q.1 tt

pub returns-in_err-next-clause-none : goal.returns-in_err-next-clause-none
returns-in_err-next-clause-none g c = let q = err_from_is_err_and c.from_residual.result c.from_residual.ensures.1 in rw q.1 tt

pub returns-in-None-clause-none : goal.returns-in-None-clause-none
returns-in-None-clause-none g c = λ is. refl

pub returns-in-None-began-clause-past : goal.returns-in-None-began-clause-past
returns-in-None-began-clause-past g c = λ is. cc

pub returns-in-None-began-clause-none : goal.returns-in-None-began-clause-none
returns-in-None-began-clause-none g c = λ is. cc

pub returns-in-Some-began-clause-past : goal.returns-in-Some-began-clause-past
returns-in-Some-began-clause-past g c = λ is. cc

pub returns-in-Some-began-clause-none : goal.returns-in-Some-began-clause-none
returns-in-Some-began-clause-none g c = λ is. cc
