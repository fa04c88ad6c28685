use Rattle.std.proofs.Common.{◌≡◌, ◌++◌, ◌∷◌, [], List, ℕ, zero, suc, length, length-append, ap, arith, refl, subst, Some}
use Rattle.std.specs.Prelude.{slice_get, slice_set}
use Rattle.std.proofs.lemmas.Option.{slice_get_read}
use Rattle.std.proofs.lemmas.Result.{err_from_is_err_and}
use Rattle.script_tree.specs.Programs.{program_tree}
use Rattle.txn_agent.specs.declared.agent.Advanced.{Advanced}
use Rattle.txn_agent.specs.declared.agent.Agent.{Agent}
use Rattle.txn_agent.specs.AgentStep.{AnswerSays, children_of}
use Rattle.unit_crew.proofs.BegunUnits.{child-crew, ended-back, granted-back, moved-back, waits-back, waits-for-back, waits-load-back}
use Rattle.unit_crew.proofs.CrewKnowledge.{acts-so, crew-knows, crew-so, own-here}
use Rattle.unit_crew.proofs.Works.{works-acts}
use Rattle.unit_crew.proofs.crew.step.Goals as goal

-- as many agents as before, where one is another
length-kept : (agents : List Agent) (i : ℕ) (a : Agent) → length (slice_set agents i a) ≡ length agents
length-kept [] i a = refl
length-kept (x ∷ agents) zero a = refl
length-kept (x ∷ agents) (suc i) a = ap suc (length-kept agents i a)

pub returns-in_err-child-clause-works : goal.returns-in_err-child-clause-works
returns-in_err-child-clause-works g c =
    let q : slice_get c.args.agents.now.list.items c.args.index ≡ Some c.index_mut-agent.result.now = slice_get_read c.args.agents.now.list.items _ c.args.index c.index_mut-agent.result.now refl c.requires.within c.index_mut-agent.ensures.value in
    works-acts g.A.Access.may_come (program_tree c.args.checked.now) c.index_mut-agent.result.now.carried.unit (g.A.Access.sight c.args.access.now) (g.A.Access.sight c.advance.new.access) c.advance.ensures.acts (own-here (program_tree c.args.checked.now) g.A.Access.may_come (g.A.Access.sight c.args.access.now) (g.A.Access.sight c.advance.new.access) c.args.agents.now.list.items c.requires.crew c.args.index c.index_mut-agent.result.now c.advance.new.self q c.advance.ensures.carried)

pub returns-in_err-carry-in-Began-clause-works : goal.returns-in_err-carry-in-Began-clause-works
returns-in_err-carry-in-Began-clause-works g c =
    let q : slice_get c.args.agents.now.list.items c.args.index ≡ Some c.index_mut-agent.result.now = slice_get_read c.args.agents.now.list.items _ c.args.index c.index_mut-agent.result.now refl c.requires.within c.index_mut-agent.ensures.value in
    works-acts g.A.Access.may_come (program_tree c.args.checked.now) c.index_mut-agent.result.now.carried.unit (g.A.Access.sight c.args.access.now) (g.A.Access.sight c.advance.new.access) c.advance.ensures.acts (own-here (program_tree c.args.checked.now) g.A.Access.may_come (g.A.Access.sight c.args.access.now) (g.A.Access.sight c.advance.new.access) c.args.agents.now.list.items c.requires.crew c.args.index c.index_mut-agent.result.now c.advance.new.self q c.advance.ensures.carried)

pub returns-in_ok-carry-in-Began-clause-works : goal.returns-in_ok-carry-in-Began-clause-works
returns-in_ok-carry-in-Began-clause-works g c =
    let q : slice_get c.args.agents.now.list.items c.args.index ≡ Some c.index_mut-agent.result.now = slice_get_read c.args.agents.now.list.items _ c.args.index c.index_mut-agent.result.now refl c.requires.within c.index_mut-agent.ensures.value in
    works-acts g.A.Access.may_come (program_tree c.args.checked.now) c.index_mut-agent.result.now.carried.unit (g.A.Access.sight c.args.access.now) (g.A.Access.sight c.advance.new.access) c.advance.ensures.acts (own-here (program_tree c.args.checked.now) g.A.Access.may_come (g.A.Access.sight c.args.access.now) (g.A.Access.sight c.advance.new.access) c.args.agents.now.list.items c.requires.crew c.args.index c.index_mut-agent.result.now c.advance.new.self q c.advance.ensures.carried)

pub returns-in-Granted-clause-works : goal.returns-in-Granted-clause-works
returns-in-Granted-clause-works g c =
    let q : slice_get c.args.agents.now.list.items c.args.index ≡ Some c.index_mut-agent.result.now = slice_get_read c.args.agents.now.list.items _ c.args.index c.index_mut-agent.result.now refl c.requires.within c.index_mut-agent.ensures.value in
    works-acts g.A.Access.may_come (program_tree c.args.checked.now) c.index_mut-agent.result.now.carried.unit (g.A.Access.sight c.args.access.now) (g.A.Access.sight c.advance.new.access) c.advance.ensures.acts (own-here (program_tree c.args.checked.now) g.A.Access.may_come (g.A.Access.sight c.args.access.now) (g.A.Access.sight c.advance.new.access) c.args.agents.now.list.items c.requires.crew c.args.index c.index_mut-agent.result.now c.advance.new.self q c.advance.ensures.carried)

pub returns-in-Moved-clause-works : goal.returns-in-Moved-clause-works
returns-in-Moved-clause-works g c =
    let q : slice_get c.args.agents.now.list.items c.args.index ≡ Some c.index_mut-agent.result.now = slice_get_read c.args.agents.now.list.items _ c.args.index c.index_mut-agent.result.now refl c.requires.within c.index_mut-agent.ensures.value in
    works-acts g.A.Access.may_come (program_tree c.args.checked.now) c.index_mut-agent.result.now.carried.unit (g.A.Access.sight c.args.access.now) (g.A.Access.sight c.advance.new.access) c.advance.ensures.acts (own-here (program_tree c.args.checked.now) g.A.Access.may_come (g.A.Access.sight c.args.access.now) (g.A.Access.sight c.advance.new.access) c.args.agents.now.list.items c.requires.crew c.args.index c.index_mut-agent.result.now c.advance.new.self q c.advance.ensures.carried)

pub returns-in-Waits-clause-works : goal.returns-in-Waits-clause-works
returns-in-Waits-clause-works g c =
    let q : slice_get c.args.agents.now.list.items c.args.index ≡ Some c.index_mut-agent.result.now = slice_get_read c.args.agents.now.list.items _ c.args.index c.index_mut-agent.result.now refl c.requires.within c.index_mut-agent.ensures.value in
    works-acts g.A.Access.may_come (program_tree c.args.checked.now) c.index_mut-agent.result.now.carried.unit (g.A.Access.sight c.args.access.now) (g.A.Access.sight c.advance.new.access) c.advance.ensures.acts (own-here (program_tree c.args.checked.now) g.A.Access.may_come (g.A.Access.sight c.args.access.now) (g.A.Access.sight c.advance.new.access) c.args.agents.now.list.items c.requires.crew c.args.index c.index_mut-agent.result.now c.advance.new.self q c.advance.ensures.carried)

pub returns-in-WaitsFor-clause-works : goal.returns-in-WaitsFor-clause-works
returns-in-WaitsFor-clause-works g c =
    let q : slice_get c.args.agents.now.list.items c.args.index ≡ Some c.index_mut-agent.result.now = slice_get_read c.args.agents.now.list.items _ c.args.index c.index_mut-agent.result.now refl c.requires.within c.index_mut-agent.ensures.value in
    works-acts g.A.Access.may_come (program_tree c.args.checked.now) c.index_mut-agent.result.now.carried.unit (g.A.Access.sight c.args.access.now) (g.A.Access.sight c.advance.new.access) c.advance.ensures.acts (own-here (program_tree c.args.checked.now) g.A.Access.may_come (g.A.Access.sight c.args.access.now) (g.A.Access.sight c.advance.new.access) c.args.agents.now.list.items c.requires.crew c.args.index c.index_mut-agent.result.now c.advance.new.self q c.advance.ensures.carried)

pub returns-in-WaitsLoad-clause-works : goal.returns-in-WaitsLoad-clause-works
returns-in-WaitsLoad-clause-works g c =
    let q : slice_get c.args.agents.now.list.items c.args.index ≡ Some c.index_mut-agent.result.now = slice_get_read c.args.agents.now.list.items _ c.args.index c.index_mut-agent.result.now refl c.requires.within c.index_mut-agent.ensures.value in
    works-acts g.A.Access.may_come (program_tree c.args.checked.now) c.index_mut-agent.result.now.carried.unit (g.A.Access.sight c.args.access.now) (g.A.Access.sight c.advance.new.access) c.advance.ensures.acts (own-here (program_tree c.args.checked.now) g.A.Access.may_come (g.A.Access.sight c.args.access.now) (g.A.Access.sight c.advance.new.access) c.args.agents.now.list.items c.requires.crew c.args.index c.index_mut-agent.result.now c.advance.new.self q c.advance.ensures.carried)

pub returns-in-Ended-clause-works : goal.returns-in-Ended-clause-works
returns-in-Ended-clause-works g c =
    let q : slice_get c.args.agents.now.list.items c.args.index ≡ Some c.index_mut-agent.result.now = slice_get_read c.args.agents.now.list.items _ c.args.index c.index_mut-agent.result.now refl c.requires.within c.index_mut-agent.ensures.value in
    works-acts g.A.Access.may_come (program_tree c.args.checked.now) c.index_mut-agent.result.now.carried.unit (g.A.Access.sight c.args.access.now) (g.A.Access.sight c.advance.new.access) c.advance.ensures.acts (own-here (program_tree c.args.checked.now) g.A.Access.may_come (g.A.Access.sight c.args.access.now) (g.A.Access.sight c.advance.new.access) c.args.agents.now.list.items c.requires.crew c.args.index c.index_mut-agent.result.now c.advance.new.self q c.advance.ensures.carried)

pub returns-in_ok-carry-in-Began-clause-crew : goal.returns-in_ok-carry-in-Began-clause-crew
returns-in_ok-carry-in-Began-clause-crew g c =
    let q : slice_get c.args.agents.now.list.items c.args.index ≡ Some c.index_mut-agent.result.now = slice_get_read c.args.agents.now.list.items _ c.args.index c.index_mut-agent.result.now refl c.requires.within c.index_mut-agent.ensures.value in
    child-crew (program_tree c.args.checked.now) g.A.Access.may_come (g.A.Access.sight c.args.access.now) (g.A.Access.sight c.advance.new.access) c.args.agents.now.list.items c.requires.crew c.args.index c.index_mut-agent.result.now c.advance.new.self q c.advance.ensures.carried c.in-Began.child c.in-Began.call c.in-Began.depth
    (subst (λ (x : Advanced). AnswerSays g.A.Access.may_come (program_tree c.args.checked.now) c.index_mut-agent.result.now.carried.unit (children_of c.index_mut-agent.result.now.doing) (g.A.Access.sight c.args.access.now) (g.A.Access.sight c.advance.new.access) x) c.in-Began.is c.in_ok-child.ensures.told)
    c.unit-unit.result c.unit-unit.ensures c.children-children.result c.children-children.ensures c.in_ok-child.ensures.knows c.carry.new.self.list.items c.in_ok-carry-in-Began.ensures

pub returns-in-Granted-clause-crew : goal.returns-in-Granted-clause-crew
returns-in-Granted-clause-crew g c =
    let q : slice_get c.args.agents.now.list.items c.args.index ≡ Some c.index_mut-agent.result.now = slice_get_read c.args.agents.now.list.items _ c.args.index c.index_mut-agent.result.now refl c.requires.within c.index_mut-agent.ensures.value in
    crew-so (program_tree c.args.checked.now) (g.A.Access.sight c.args.access.now) (g.A.Access.sight c.advance.new.access) (slice_set c.args.agents.now.list.items c.args.index c.advance.new.self)
    (λ v. granted-back g.A.Access.may_come (program_tree c.args.checked.now) c.index_mut-agent.result.now.carried.unit (children_of c.index_mut-agent.result.now.doing) (g.A.Access.sight c.args.access.now) (g.A.Access.sight c.advance.new.access) v c.in-Granted.grain c.in-Granted.source (subst (λ (x : Advanced). AnswerSays g.A.Access.may_come (program_tree c.args.checked.now) c.index_mut-agent.result.now.carried.unit (children_of c.index_mut-agent.result.now.doing) (g.A.Access.sight c.args.access.now) (g.A.Access.sight c.advance.new.access) x) c.in-Granted.is c.in_ok-child.ensures.told))
    (acts-so (program_tree c.args.checked.now) g.A.Access.may_come (g.A.Access.sight c.args.access.now) (g.A.Access.sight c.advance.new.access) c.args.agents.now.list.items c.requires.crew c.args.index c.index_mut-agent.result.now c.advance.new.self q c.advance.ensures.carried c.advance.ensures.acts c.in_ok-child.ensures.knows)

pub returns-in-Moved-clause-crew : goal.returns-in-Moved-clause-crew
returns-in-Moved-clause-crew g c =
    let q : slice_get c.args.agents.now.list.items c.args.index ≡ Some c.index_mut-agent.result.now = slice_get_read c.args.agents.now.list.items _ c.args.index c.index_mut-agent.result.now refl c.requires.within c.index_mut-agent.ensures.value in
    crew-so (program_tree c.args.checked.now) (g.A.Access.sight c.args.access.now) (g.A.Access.sight c.advance.new.access) (slice_set c.args.agents.now.list.items c.args.index c.advance.new.self)
    (λ v. moved-back g.A.Access.may_come (program_tree c.args.checked.now) c.index_mut-agent.result.now.carried.unit (children_of c.index_mut-agent.result.now.doing) (g.A.Access.sight c.args.access.now) (g.A.Access.sight c.advance.new.access) v (subst (λ (x : Advanced). AnswerSays g.A.Access.may_come (program_tree c.args.checked.now) c.index_mut-agent.result.now.carried.unit (children_of c.index_mut-agent.result.now.doing) (g.A.Access.sight c.args.access.now) (g.A.Access.sight c.advance.new.access) x) c.in-Moved.is c.in_ok-child.ensures.told))
    (acts-so (program_tree c.args.checked.now) g.A.Access.may_come (g.A.Access.sight c.args.access.now) (g.A.Access.sight c.advance.new.access) c.args.agents.now.list.items c.requires.crew c.args.index c.index_mut-agent.result.now c.advance.new.self q c.advance.ensures.carried c.advance.ensures.acts c.in_ok-child.ensures.knows)

pub returns-in-Waits-clause-crew : goal.returns-in-Waits-clause-crew
returns-in-Waits-clause-crew g c =
    let q : slice_get c.args.agents.now.list.items c.args.index ≡ Some c.index_mut-agent.result.now = slice_get_read c.args.agents.now.list.items _ c.args.index c.index_mut-agent.result.now refl c.requires.within c.index_mut-agent.ensures.value in
    crew-so (program_tree c.args.checked.now) (g.A.Access.sight c.args.access.now) (g.A.Access.sight c.advance.new.access) (slice_set c.args.agents.now.list.items c.args.index c.advance.new.self)
    (λ v. waits-back g.A.Access.may_come (program_tree c.args.checked.now) c.index_mut-agent.result.now.carried.unit (children_of c.index_mut-agent.result.now.doing) (g.A.Access.sight c.args.access.now) (g.A.Access.sight c.advance.new.access) v c.in-Waits._holder (subst (λ (x : Advanced). AnswerSays g.A.Access.may_come (program_tree c.args.checked.now) c.index_mut-agent.result.now.carried.unit (children_of c.index_mut-agent.result.now.doing) (g.A.Access.sight c.args.access.now) (g.A.Access.sight c.advance.new.access) x) c.in-Waits.is c.in_ok-child.ensures.told))
    (acts-so (program_tree c.args.checked.now) g.A.Access.may_come (g.A.Access.sight c.args.access.now) (g.A.Access.sight c.advance.new.access) c.args.agents.now.list.items c.requires.crew c.args.index c.index_mut-agent.result.now c.advance.new.self q c.advance.ensures.carried c.advance.ensures.acts c.in_ok-child.ensures.knows)

pub returns-in-WaitsFor-clause-crew : goal.returns-in-WaitsFor-clause-crew
returns-in-WaitsFor-clause-crew g c =
    let q : slice_get c.args.agents.now.list.items c.args.index ≡ Some c.index_mut-agent.result.now = slice_get_read c.args.agents.now.list.items _ c.args.index c.index_mut-agent.result.now refl c.requires.within c.index_mut-agent.ensures.value in
    crew-so (program_tree c.args.checked.now) (g.A.Access.sight c.args.access.now) (g.A.Access.sight c.advance.new.access) (slice_set c.args.agents.now.list.items c.args.index c.advance.new.self)
    (λ v. waits-for-back g.A.Access.may_come (program_tree c.args.checked.now) c.index_mut-agent.result.now.carried.unit (children_of c.index_mut-agent.result.now.doing) (g.A.Access.sight c.args.access.now) (g.A.Access.sight c.advance.new.access) v c.in-WaitsFor._child (subst (λ (x : Advanced). AnswerSays g.A.Access.may_come (program_tree c.args.checked.now) c.index_mut-agent.result.now.carried.unit (children_of c.index_mut-agent.result.now.doing) (g.A.Access.sight c.args.access.now) (g.A.Access.sight c.advance.new.access) x) c.in-WaitsFor.is c.in_ok-child.ensures.told))
    (acts-so (program_tree c.args.checked.now) g.A.Access.may_come (g.A.Access.sight c.args.access.now) (g.A.Access.sight c.advance.new.access) c.args.agents.now.list.items c.requires.crew c.args.index c.index_mut-agent.result.now c.advance.new.self q c.advance.ensures.carried c.advance.ensures.acts c.in_ok-child.ensures.knows)

pub returns-in-WaitsLoad-clause-crew : goal.returns-in-WaitsLoad-clause-crew
returns-in-WaitsLoad-clause-crew g c =
    let q : slice_get c.args.agents.now.list.items c.args.index ≡ Some c.index_mut-agent.result.now = slice_get_read c.args.agents.now.list.items _ c.args.index c.index_mut-agent.result.now refl c.requires.within c.index_mut-agent.ensures.value in
    crew-so (program_tree c.args.checked.now) (g.A.Access.sight c.args.access.now) (g.A.Access.sight c.advance.new.access) (slice_set c.args.agents.now.list.items c.args.index c.advance.new.self)
    (λ v. waits-load-back g.A.Access.may_come (program_tree c.args.checked.now) c.index_mut-agent.result.now.carried.unit (children_of c.index_mut-agent.result.now.doing) (g.A.Access.sight c.args.access.now) (g.A.Access.sight c.advance.new.access) v c.in-WaitsLoad._grain (subst (λ (x : Advanced). AnswerSays g.A.Access.may_come (program_tree c.args.checked.now) c.index_mut-agent.result.now.carried.unit (children_of c.index_mut-agent.result.now.doing) (g.A.Access.sight c.args.access.now) (g.A.Access.sight c.advance.new.access) x) c.in-WaitsLoad.is c.in_ok-child.ensures.told))
    (acts-so (program_tree c.args.checked.now) g.A.Access.may_come (g.A.Access.sight c.args.access.now) (g.A.Access.sight c.advance.new.access) c.args.agents.now.list.items c.requires.crew c.args.index c.index_mut-agent.result.now c.advance.new.self q c.advance.ensures.carried c.advance.ensures.acts c.in_ok-child.ensures.knows)

pub returns-in-Ended-clause-crew : goal.returns-in-Ended-clause-crew
returns-in-Ended-clause-crew g c =
    let q : slice_get c.args.agents.now.list.items c.args.index ≡ Some c.index_mut-agent.result.now = slice_get_read c.args.agents.now.list.items _ c.args.index c.index_mut-agent.result.now refl c.requires.within c.index_mut-agent.ensures.value in
    crew-so (program_tree c.args.checked.now) (g.A.Access.sight c.args.access.now) (g.A.Access.sight c.advance.new.access) (slice_set c.args.agents.now.list.items c.args.index c.advance.new.self)
    (λ v. ended-back g.A.Access.may_come (program_tree c.args.checked.now) c.index_mut-agent.result.now.carried.unit (children_of c.index_mut-agent.result.now.doing) (g.A.Access.sight c.args.access.now) (g.A.Access.sight c.advance.new.access) v (subst (λ (x : Advanced). AnswerSays g.A.Access.may_come (program_tree c.args.checked.now) c.index_mut-agent.result.now.carried.unit (children_of c.index_mut-agent.result.now.doing) (g.A.Access.sight c.args.access.now) (g.A.Access.sight c.advance.new.access) x) c.in-Ended.is c.in_ok-child.ensures.told))
    (acts-so (program_tree c.args.checked.now) g.A.Access.may_come (g.A.Access.sight c.args.access.now) (g.A.Access.sight c.advance.new.access) c.args.agents.now.list.items c.requires.crew c.args.index c.index_mut-agent.result.now c.advance.new.self q c.advance.ensures.carried c.advance.ensures.acts c.in_ok-child.ensures.knows)

pub returns-in_err-child-clause-kept : goal.returns-in_err-child-clause-kept
returns-in_err-child-clause-kept g c = c.advance.ensures.kept

pub returns-in_err-carry-in-Began-clause-kept : goal.returns-in_err-carry-in-Began-clause-kept
returns-in_err-carry-in-Began-clause-kept g c = c.advance.ensures.kept

pub returns-in_ok-carry-in-Began-clause-kept : goal.returns-in_ok-carry-in-Began-clause-kept
returns-in_ok-carry-in-Began-clause-kept g c = c.advance.ensures.kept

pub returns-in-Granted-clause-kept : goal.returns-in-Granted-clause-kept
returns-in-Granted-clause-kept g c = c.advance.ensures.kept

pub returns-in-Moved-clause-kept : goal.returns-in-Moved-clause-kept
returns-in-Moved-clause-kept g c = c.advance.ensures.kept

pub returns-in-Waits-clause-kept : goal.returns-in-Waits-clause-kept
returns-in-Waits-clause-kept g c = c.advance.ensures.kept

pub returns-in-WaitsLoad-clause-kept : goal.returns-in-WaitsLoad-clause-kept
returns-in-WaitsLoad-clause-kept g c = c.advance.ensures.kept

pub returns-in-WaitsFor-clause-kept : goal.returns-in-WaitsFor-clause-kept
returns-in-WaitsFor-clause-kept g c = c.advance.ensures.kept

pub returns-in-Ended-clause-kept : goal.returns-in-Ended-clause-kept
returns-in-Ended-clause-kept g c = c.advance.ensures.kept

pub returns-in_err-child-clause-crew : goal.returns-in_err-child-clause-crew
returns-in_err-child-clause-crew g c = let q = err_from_is_err_and c.from_residual.result c.from_residual.ensures.1 in rw q.1 tt

pub returns-in_err-child-clause-more : goal.returns-in_err-child-clause-more
returns-in_err-child-clause-more g c = let q = err_from_is_err_and c.from_residual.result c.from_residual.ensures.1 in rw q.1 tt

pub returns-in_err-carry-in-Began-clause-crew : goal.returns-in_err-carry-in-Began-clause-crew
returns-in_err-carry-in-Began-clause-crew g c = let q = err_from_is_err_and c.from_residual-in_err-carry-in-Began.result c.from_residual-in_err-carry-in-Began.ensures.1 in rw q.1 tt

pub returns-in_err-carry-in-Began-clause-more : goal.returns-in_err-carry-in-Began-clause-more
returns-in_err-carry-in-Began-clause-more g c = let q = err_from_is_err_and c.from_residual-in_err-carry-in-Began.result c.from_residual-in_err-carry-in-Began.ensures.1 in rw q.1 tt

pub advance-requires-clause-fit : goal.advance-requires-clause-fit
advance-requires-clause-fit g c = c.requires.fit

pub advance-requires-clause-counts : goal.advance-requires-clause-counts
advance-requires-clause-counts g c = c.requires.crew.counts

pub advance-requires-clause-knows : goal.advance-requires-clause-knows
advance-requires-clause-knows g c =
    let q : slice_get c.args.agents.now.list.items c.args.index ≡ Some c.index_mut-agent.result.now = slice_get_read c.args.agents.now.list.items _ c.args.index c.index_mut-agent.result.now refl c.requires.within c.index_mut-agent.ensures.value in
    crew-knows (program_tree c.args.checked.now) (g.A.Access.sight c.args.access.now) c.args.agents.now.list.items c.requires.crew c.args.index c.index_mut-agent.result.now q

pub returns-in-Granted-clause-more : goal.returns-in-Granted-clause-more
returns-in-Granted-clause-more g c = let same = length-kept c.args.agents.now.list.items c.args.index c.advance.new.self in omega (arith, same)

pub returns-in-Moved-clause-more : goal.returns-in-Moved-clause-more
returns-in-Moved-clause-more g c = let same = length-kept c.args.agents.now.list.items c.args.index c.advance.new.self in omega (arith, same)

pub returns-in-Waits-clause-more : goal.returns-in-Waits-clause-more
returns-in-Waits-clause-more g c = let same = length-kept c.args.agents.now.list.items c.args.index c.advance.new.self in omega (arith, same)

pub returns-in-WaitsLoad-clause-more : goal.returns-in-WaitsLoad-clause-more
returns-in-WaitsLoad-clause-more g c = let same = length-kept c.args.agents.now.list.items c.args.index c.advance.new.self in omega (arith, same)

pub returns-in-WaitsFor-clause-more : goal.returns-in-WaitsFor-clause-more
returns-in-WaitsFor-clause-more g c = let same = length-kept c.args.agents.now.list.items c.args.index c.advance.new.self in omega (arith, same)

pub returns-in-Ended-clause-more : goal.returns-in-Ended-clause-more
returns-in-Ended-clause-more g c = let same = length-kept c.args.agents.now.list.items c.args.index c.advance.new.self in omega (arith, same)

pub returns-in_ok-carry-in-Began-clause-more : goal.returns-in_ok-carry-in-Began-clause-more
returns-in_ok-carry-in-Began-clause-more g c =
    let same = length-kept c.args.agents.now.list.items c.args.index c.advance.new.self in
    let grown : length c.carry.new.self.list.items ≡ length ((slice_set c.args.agents.now.list.items c.args.index c.advance.new.self) ++ c.in_ok-carry-in-Began.ensures.agent ∷ []) = ap (length {A = Agent}) c.in_ok-carry-in-Began.ensures.list in
    let app = length-append (slice_set c.args.agents.now.list.items c.args.index c.advance.new.self) (c.in_ok-carry-in-Began.ensures.agent ∷ []) in
    omega (arith, same, grown, app)
