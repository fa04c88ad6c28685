use Rattle.std.proofs.Common.{◌≡◌, ◌∙◌, List, Some, ap, refl, subst, sym}
use Rattle.std.specs.Prelude.{OnErr, Result, Ok, Err, slice_get, slice_set}
use Rattle.std.proofs.lemmas.Option.{slice_get_read}
use Rattle.std.proofs.lemmas.Result.{err_from_is_err_and}
use Rattle.script_tree.specs.Programs.{program_tree}
use Rattle.txn_agent.specs.declared.agent.Advanced.{Advanced}
use Rattle.txn_agent.specs.declared.agent.Advanced.TheVariants as came
use Rattle.txn_agent.specs.AgentStep.{AnswerSays, children_of}
use Rattle.txn_agent.specs.declared.agent.Agent.{Agent}
use Rattle.txn_agent.specs.CoreLink.{Knows}
use Rattle.unit_carrier.specs.CarriedUnits.{AreFreed, as_carried}
use Rattle.unit_carrier.proofs.MoverSearch.{all-at, map-set}
use Rattle.unit_carrier.proofs.FreedUnits.{freed-set, freed-set-more}
use Rattle.unit_carrier.proofs.Places.{acts-here, child-carried, child-units, steps-carried, steps-on, units-set}
use Rattle.unit_carrier.proofs.agents.Agents.advance.Goals as goal

-- what holds anyway holds where there is an error
where_err : {A B : Type 0} (r : Result A B) (P : Type 0) → P → OnErr r P
where_err (Ok value) P holds = tt
where_err (Err fault) P holds = holds

pub returns-in_err-child-clause-acts : goal.returns-in_err-child-clause-acts
returns-in_err-child-clause-acts g c =
    let q : slice_get c.args.self.now.list.items c.args.index ≡ Some c.index_mut-agent.result.now = slice_get_read c.args.self.now.list.items _ c.args.index c.index_mut-agent.result.now refl c.requires.within c.index_mut-agent.ensures.value in
    acts-here (program_tree c.args.checked.now) g.A.Access.may_come (g.A.Access.sight c.args.access.now) (g.A.Access.sight c.advance.new.access) c.args.self.now.list.items c.args.index c.index_mut-agent.result.now q c.advance.ensures.acts

pub returns-in_err-carry-in-Began-clause-acts : goal.returns-in_err-carry-in-Began-clause-acts
returns-in_err-carry-in-Began-clause-acts g c =
    let q : slice_get c.args.self.now.list.items c.args.index ≡ Some c.index_mut-agent.result.now = slice_get_read c.args.self.now.list.items _ c.args.index c.index_mut-agent.result.now refl c.requires.within c.index_mut-agent.ensures.value in
    acts-here (program_tree c.args.checked.now) g.A.Access.may_come (g.A.Access.sight c.args.access.now) (g.A.Access.sight c.advance.new.access) c.args.self.now.list.items c.args.index c.index_mut-agent.result.now q c.advance.ensures.acts

pub returns-in_ok-carry-in-Began-clause-acts : goal.returns-in_ok-carry-in-Began-clause-acts
returns-in_ok-carry-in-Began-clause-acts g c =
    let q : slice_get c.args.self.now.list.items c.args.index ≡ Some c.index_mut-agent.result.now = slice_get_read c.args.self.now.list.items _ c.args.index c.index_mut-agent.result.now refl c.requires.within c.index_mut-agent.ensures.value in
    acts-here (program_tree c.args.checked.now) g.A.Access.may_come (g.A.Access.sight c.args.access.now) (g.A.Access.sight c.advance.new.access) c.args.self.now.list.items c.args.index c.index_mut-agent.result.now q c.advance.ensures.acts

pub returns-in_ok-carry-in-Began-clause-steps : goal.returns-in_ok-carry-in-Began-clause-steps
returns-in_ok-carry-in-Began-clause-steps g c =
    let q : slice_get c.args.self.now.list.items c.args.index ≡ Some c.index_mut-agent.result.now = slice_get_read c.args.self.now.list.items _ c.args.index c.index_mut-agent.result.now refl c.requires.within c.index_mut-agent.ensures.value in
    steps-on (program_tree c.args.checked.now) g.A.Access.may_come (g.A.Access.sight c.args.access.now) (g.A.Access.sight c.advance.new.access) c.args.self.now.list.items c.carry.new.self.list.items c.args.index c.index_mut-agent.result.now (came.Began c.in-Began.child c.in-Began.call c.in-Began.depth) q
    (subst (λ (x : Advanced). AnswerSays g.A.Access.may_come (program_tree c.args.checked.now) c.index_mut-agent.result.now.carried.unit (children_of c.index_mut-agent.result.now.doing) (g.A.Access.sight c.args.access.now) (g.A.Access.sight c.advance.new.access) x) c.in-Began.is c.in_ok-child.ensures.told)
    (child-units (program_tree c.args.checked.now) g.A.Access.may_come (g.A.Access.sight c.args.access.now) (g.A.Access.sight c.advance.new.access) c.args.self.now.list.items c.args.index c.index_mut-agent.result.now c.advance.new.self q c.advance.ensures.carried c.in-Began.child c.in-Began.call c.in-Began.depth
    (subst (λ (x : Advanced). AnswerSays g.A.Access.may_come (program_tree c.args.checked.now) c.index_mut-agent.result.now.carried.unit (children_of c.index_mut-agent.result.now.doing) (g.A.Access.sight c.args.access.now) (g.A.Access.sight c.advance.new.access) x) c.in-Began.is c.in_ok-child.ensures.told)
    c.unit-unit.result c.unit-unit.ensures c.children-children.result c.children-children.ensures c.carry.new.self.list.items c.in_ok-carry-in-Began.ensures)

pub returns-in_ok-carry-in-Began-clause-carried : goal.returns-in_ok-carry-in-Began-clause-carried
returns-in_ok-carry-in-Began-clause-carried g c =
    let q : slice_get c.args.self.now.list.items c.args.index ≡ Some c.index_mut-agent.result.now = slice_get_read c.args.self.now.list.items _ c.args.index c.index_mut-agent.result.now refl c.requires.within c.index_mut-agent.ensures.value in
    child-carried (program_tree c.args.checked.now) g.A.Access.may_come (g.A.Access.sight c.args.access.now) (g.A.Access.sight c.advance.new.access) c.args.self.now.list.items c.args.index c.index_mut-agent.result.now c.advance.new.self q c.advance.ensures.carried c.in-Began.child c.in-Began.call c.in-Began.depth
    (subst (λ (x : Advanced). AnswerSays g.A.Access.may_come (program_tree c.args.checked.now) c.index_mut-agent.result.now.carried.unit (children_of c.index_mut-agent.result.now.doing) (g.A.Access.sight c.args.access.now) (g.A.Access.sight c.advance.new.access) x) c.in-Began.is c.in_ok-child.ensures.told)
    c.unit-unit.result c.unit-unit.ensures c.children-children.result c.children-children.ensures c.carry.new.self.list.items c.in_ok-carry-in-Began.ensures c.in_ok-child.ensures.knows c.requires.carried

pub returns-in-Granted-clause-acts : goal.returns-in-Granted-clause-acts
returns-in-Granted-clause-acts g c =
    let q : slice_get c.args.self.now.list.items c.args.index ≡ Some c.index_mut-agent.result.now = slice_get_read c.args.self.now.list.items _ c.args.index c.index_mut-agent.result.now refl c.requires.within c.index_mut-agent.ensures.value in
    acts-here (program_tree c.args.checked.now) g.A.Access.may_come (g.A.Access.sight c.args.access.now) (g.A.Access.sight c.advance.new.access) c.args.self.now.list.items c.args.index c.index_mut-agent.result.now q c.advance.ensures.acts

pub returns-in-Granted-clause-steps : goal.returns-in-Granted-clause-steps
returns-in-Granted-clause-steps g c =
    let q : slice_get c.args.self.now.list.items c.args.index ≡ Some c.index_mut-agent.result.now = slice_get_read c.args.self.now.list.items _ c.args.index c.index_mut-agent.result.now refl c.requires.within c.index_mut-agent.ensures.value in
    steps-on (program_tree c.args.checked.now) g.A.Access.may_come (g.A.Access.sight c.args.access.now) (g.A.Access.sight c.advance.new.access) c.args.self.now.list.items (slice_set c.args.self.now.list.items c.args.index c.advance.new.self) c.args.index c.index_mut-agent.result.now (came.Granted c.in-Granted.grain c.in-Granted.source) q
    (subst (λ (x : Advanced). AnswerSays g.A.Access.may_come (program_tree c.args.checked.now) c.index_mut-agent.result.now.carried.unit (children_of c.index_mut-agent.result.now.doing) (g.A.Access.sight c.args.access.now) (g.A.Access.sight c.advance.new.access) x) c.in-Granted.is c.in_ok-child.ensures.told)
    (units-set c.args.self.now.list.items c.args.index c.index_mut-agent.result.now c.advance.new.self q c.advance.ensures.carried)

pub returns-in-Granted-clause-carried : goal.returns-in-Granted-clause-carried
returns-in-Granted-clause-carried g c =
    let q : slice_get c.args.self.now.list.items c.args.index ≡ Some c.index_mut-agent.result.now = slice_get_read c.args.self.now.list.items _ c.args.index c.index_mut-agent.result.now refl c.requires.within c.index_mut-agent.ensures.value in
    steps-carried (program_tree c.args.checked.now) g.A.Access.may_come (g.A.Access.sight c.args.access.now) (g.A.Access.sight c.advance.new.access) c.args.self.now.list.items c.args.index c.index_mut-agent.result.now c.advance.new.self q c.advance.ensures.carried c.advance.ensures.acts c.in_ok-child.ensures.knows c.requires.carried

pub returns-in-Moved-clause-acts : goal.returns-in-Moved-clause-acts
returns-in-Moved-clause-acts g c =
    let q : slice_get c.args.self.now.list.items c.args.index ≡ Some c.index_mut-agent.result.now = slice_get_read c.args.self.now.list.items _ c.args.index c.index_mut-agent.result.now refl c.requires.within c.index_mut-agent.ensures.value in
    acts-here (program_tree c.args.checked.now) g.A.Access.may_come (g.A.Access.sight c.args.access.now) (g.A.Access.sight c.advance.new.access) c.args.self.now.list.items c.args.index c.index_mut-agent.result.now q c.advance.ensures.acts

pub returns-in-Moved-clause-steps : goal.returns-in-Moved-clause-steps
returns-in-Moved-clause-steps g c =
    let q : slice_get c.args.self.now.list.items c.args.index ≡ Some c.index_mut-agent.result.now = slice_get_read c.args.self.now.list.items _ c.args.index c.index_mut-agent.result.now refl c.requires.within c.index_mut-agent.ensures.value in
    steps-on (program_tree c.args.checked.now) g.A.Access.may_come (g.A.Access.sight c.args.access.now) (g.A.Access.sight c.advance.new.access) c.args.self.now.list.items (slice_set c.args.self.now.list.items c.args.index c.advance.new.self) c.args.index c.index_mut-agent.result.now came.Moved q
    (subst (λ (x : Advanced). AnswerSays g.A.Access.may_come (program_tree c.args.checked.now) c.index_mut-agent.result.now.carried.unit (children_of c.index_mut-agent.result.now.doing) (g.A.Access.sight c.args.access.now) (g.A.Access.sight c.advance.new.access) x) c.in-Moved.is c.in_ok-child.ensures.told)
    (units-set c.args.self.now.list.items c.args.index c.index_mut-agent.result.now c.advance.new.self q c.advance.ensures.carried)

pub returns-in-Moved-clause-carried : goal.returns-in-Moved-clause-carried
returns-in-Moved-clause-carried g c =
    let q : slice_get c.args.self.now.list.items c.args.index ≡ Some c.index_mut-agent.result.now = slice_get_read c.args.self.now.list.items _ c.args.index c.index_mut-agent.result.now refl c.requires.within c.index_mut-agent.ensures.value in
    steps-carried (program_tree c.args.checked.now) g.A.Access.may_come (g.A.Access.sight c.args.access.now) (g.A.Access.sight c.advance.new.access) c.args.self.now.list.items c.args.index c.index_mut-agent.result.now c.advance.new.self q c.advance.ensures.carried c.advance.ensures.acts c.in_ok-child.ensures.knows c.requires.carried

pub returns-in-Waits-clause-steps : goal.returns-in-Waits-clause-steps
returns-in-Waits-clause-steps g c =
    let q : slice_get c.args.self.now.list.items c.args.index ≡ Some c.index_mut-agent.result.now = slice_get_read c.args.self.now.list.items _ c.args.index c.index_mut-agent.result.now refl c.requires.within c.index_mut-agent.ensures.value in
    steps-on (program_tree c.args.checked.now) g.A.Access.may_come (g.A.Access.sight c.args.access.now) (g.A.Access.sight c.advance.new.access) c.args.self.now.list.items (slice_set c.args.self.now.list.items c.args.index c.advance.new.self) c.args.index c.index_mut-agent.result.now (came.Waits c.in-Waits._holder) q
    (subst (λ (x : Advanced). AnswerSays g.A.Access.may_come (program_tree c.args.checked.now) c.index_mut-agent.result.now.carried.unit (children_of c.index_mut-agent.result.now.doing) (g.A.Access.sight c.args.access.now) (g.A.Access.sight c.advance.new.access) x) c.in-Waits.is c.in_ok-child.ensures.told)
    (units-set c.args.self.now.list.items c.args.index c.index_mut-agent.result.now c.advance.new.self q c.advance.ensures.carried)

pub returns-in-Waits-clause-carried : goal.returns-in-Waits-clause-carried
returns-in-Waits-clause-carried g c =
    let q : slice_get c.args.self.now.list.items c.args.index ≡ Some c.index_mut-agent.result.now = slice_get_read c.args.self.now.list.items _ c.args.index c.index_mut-agent.result.now refl c.requires.within c.index_mut-agent.ensures.value in
    steps-carried (program_tree c.args.checked.now) g.A.Access.may_come (g.A.Access.sight c.args.access.now) (g.A.Access.sight c.advance.new.access) c.args.self.now.list.items c.args.index c.index_mut-agent.result.now c.advance.new.self q c.advance.ensures.carried c.advance.ensures.acts c.in_ok-child.ensures.knows c.requires.carried

pub returns-in-WaitsFor-clause-steps : goal.returns-in-WaitsFor-clause-steps
returns-in-WaitsFor-clause-steps g c =
    let q : slice_get c.args.self.now.list.items c.args.index ≡ Some c.index_mut-agent.result.now = slice_get_read c.args.self.now.list.items _ c.args.index c.index_mut-agent.result.now refl c.requires.within c.index_mut-agent.ensures.value in
    steps-on (program_tree c.args.checked.now) g.A.Access.may_come (g.A.Access.sight c.args.access.now) (g.A.Access.sight c.advance.new.access) c.args.self.now.list.items (slice_set c.args.self.now.list.items c.args.index c.advance.new.self) c.args.index c.index_mut-agent.result.now (came.WaitsFor c.in-WaitsFor._child) q
    (subst (λ (x : Advanced). AnswerSays g.A.Access.may_come (program_tree c.args.checked.now) c.index_mut-agent.result.now.carried.unit (children_of c.index_mut-agent.result.now.doing) (g.A.Access.sight c.args.access.now) (g.A.Access.sight c.advance.new.access) x) c.in-WaitsFor.is c.in_ok-child.ensures.told)
    (units-set c.args.self.now.list.items c.args.index c.index_mut-agent.result.now c.advance.new.self q c.advance.ensures.carried)

pub returns-in-WaitsLoad-clause-steps : goal.returns-in-WaitsLoad-clause-steps
returns-in-WaitsLoad-clause-steps g c =
    let q : slice_get c.args.self.now.list.items c.args.index ≡ Some c.index_mut-agent.result.now = slice_get_read c.args.self.now.list.items _ c.args.index c.index_mut-agent.result.now refl c.requires.within c.index_mut-agent.ensures.value in
    steps-on (program_tree c.args.checked.now) g.A.Access.may_come (g.A.Access.sight c.args.access.now) (g.A.Access.sight c.advance.new.access) c.args.self.now.list.items (slice_set c.args.self.now.list.items c.args.index c.advance.new.self) c.args.index c.index_mut-agent.result.now (came.WaitsLoad c.in-WaitsLoad._grain) q
    (subst (λ (x : Advanced). AnswerSays g.A.Access.may_come (program_tree c.args.checked.now) c.index_mut-agent.result.now.carried.unit (children_of c.index_mut-agent.result.now.doing) (g.A.Access.sight c.args.access.now) (g.A.Access.sight c.advance.new.access) x) c.in-WaitsLoad.is c.in_ok-child.ensures.told)
    (units-set c.args.self.now.list.items c.args.index c.index_mut-agent.result.now c.advance.new.self q c.advance.ensures.carried)

pub returns-in-WaitsFor-clause-carried : goal.returns-in-WaitsFor-clause-carried
returns-in-WaitsFor-clause-carried g c =
    let q : slice_get c.args.self.now.list.items c.args.index ≡ Some c.index_mut-agent.result.now = slice_get_read c.args.self.now.list.items _ c.args.index c.index_mut-agent.result.now refl c.requires.within c.index_mut-agent.ensures.value in
    steps-carried (program_tree c.args.checked.now) g.A.Access.may_come (g.A.Access.sight c.args.access.now) (g.A.Access.sight c.advance.new.access) c.args.self.now.list.items c.args.index c.index_mut-agent.result.now c.advance.new.self q c.advance.ensures.carried c.advance.ensures.acts c.in_ok-child.ensures.knows c.requires.carried

pub returns-in-WaitsLoad-clause-carried : goal.returns-in-WaitsLoad-clause-carried
returns-in-WaitsLoad-clause-carried g c =
    let q : slice_get c.args.self.now.list.items c.args.index ≡ Some c.index_mut-agent.result.now = slice_get_read c.args.self.now.list.items _ c.args.index c.index_mut-agent.result.now refl c.requires.within c.index_mut-agent.ensures.value in
    steps-carried (program_tree c.args.checked.now) g.A.Access.may_come (g.A.Access.sight c.args.access.now) (g.A.Access.sight c.advance.new.access) c.args.self.now.list.items c.args.index c.index_mut-agent.result.now c.advance.new.self q c.advance.ensures.carried c.advance.ensures.acts c.in_ok-child.ensures.knows c.requires.carried

pub returns-in-Ended-clause-steps : goal.returns-in-Ended-clause-steps
returns-in-Ended-clause-steps g c =
    let q : slice_get c.args.self.now.list.items c.args.index ≡ Some c.index_mut-agent.result.now = slice_get_read c.args.self.now.list.items _ c.args.index c.index_mut-agent.result.now refl c.requires.within c.index_mut-agent.ensures.value in
    steps-on (program_tree c.args.checked.now) g.A.Access.may_come (g.A.Access.sight c.args.access.now) (g.A.Access.sight c.advance.new.access) c.args.self.now.list.items (slice_set c.args.self.now.list.items c.args.index c.advance.new.self) c.args.index c.index_mut-agent.result.now came.Ended q
    (subst (λ (x : Advanced). AnswerSays g.A.Access.may_come (program_tree c.args.checked.now) c.index_mut-agent.result.now.carried.unit (children_of c.index_mut-agent.result.now.doing) (g.A.Access.sight c.args.access.now) (g.A.Access.sight c.advance.new.access) x) c.in-Ended.is c.in_ok-child.ensures.told)
    (units-set c.args.self.now.list.items c.args.index c.index_mut-agent.result.now c.advance.new.self q c.advance.ensures.carried)

pub returns-in-Ended-clause-carried : goal.returns-in-Ended-clause-carried
returns-in-Ended-clause-carried g c =
    let q : slice_get c.args.self.now.list.items c.args.index ≡ Some c.index_mut-agent.result.now = slice_get_read c.args.self.now.list.items _ c.args.index c.index_mut-agent.result.now refl c.requires.within c.index_mut-agent.ensures.value in
    steps-carried (program_tree c.args.checked.now) g.A.Access.may_come (g.A.Access.sight c.args.access.now) (g.A.Access.sight c.advance.new.access) c.args.self.now.list.items c.args.index c.index_mut-agent.result.now c.advance.new.self q c.advance.ensures.carried c.advance.ensures.acts c.in_ok-child.ensures.knows c.requires.carried

pub returns-in-Granted-clause-freed : goal.returns-in-Granted-clause-freed
returns-in-Granted-clause-freed g c = λ front le freed. freed-set c.args.self.now.list.items front c.args.index c.advance.new.self le freed

pub returns-in-Moved-clause-freed : goal.returns-in-Moved-clause-freed
returns-in-Moved-clause-freed g c = λ front le freed. freed-set c.args.self.now.list.items front c.args.index c.advance.new.self le freed

pub returns-in-Waits-clause-freed : goal.returns-in-Waits-clause-freed
returns-in-Waits-clause-freed g c = λ front le freed. freed-set c.args.self.now.list.items front c.args.index c.advance.new.self le freed

pub returns-in-WaitsFor-clause-freed : goal.returns-in-WaitsFor-clause-freed
returns-in-WaitsFor-clause-freed g c = λ front le freed. freed-set c.args.self.now.list.items front c.args.index c.advance.new.self le freed

pub returns-in-WaitsLoad-clause-freed : goal.returns-in-WaitsLoad-clause-freed
returns-in-WaitsLoad-clause-freed g c = λ front le freed. freed-set c.args.self.now.list.items front c.args.index c.advance.new.self le freed

pub returns-in-Ended-clause-freed : goal.returns-in-Ended-clause-freed
returns-in-Ended-clause-freed g c = λ front le freed. freed-set c.args.self.now.list.items front c.args.index c.advance.new.self le freed

pub returns-in_ok-carry-in-Began-clause-freed : goal.returns-in_ok-carry-in-Began-clause-freed
returns-in_ok-carry-in-Began-clause-freed g c = λ front le freed.
    freed-set-more c.args.self.now.list.items c.carry.new.self.list.items front c.args.index c.advance.new.self c.in_ok-carry-in-Began.ensures.agent c.in_ok-carry-in-Began.ensures.list le c.requires.within freed

pub returns-in_err-child-clause-units : goal.returns-in_err-child-clause-units
returns-in_err-child-clause-units g c =
    let q : slice_get c.args.self.now.list.items c.args.index ≡ Some c.index_mut-agent.result.now = slice_get_read c.args.self.now.list.items _ c.args.index c.index_mut-agent.result.now refl c.requires.within c.index_mut-agent.ensures.value in
    where_err c.from_residual.result _
    (map-set (λ (a : Agent). a.carried) c.args.self.now.list.items c.args.index c.index_mut-agent.result.now c.advance.new.self q c.advance.ensures.carried)

pub returns-in_err-carry-in-Began-clause-units : goal.returns-in_err-carry-in-Began-clause-units
returns-in_err-carry-in-Began-clause-units g c =
    let q : slice_get c.args.self.now.list.items c.args.index ≡ Some c.index_mut-agent.result.now = slice_get_read c.args.self.now.list.items _ c.args.index c.index_mut-agent.result.now refl c.requires.within c.index_mut-agent.ensures.value in
    where_err c.from_residual-in_err-carry-in-Began.result _
    (ap (λ (agents : List Agent). as_carried agents) c.in_err-carry-in-Began.ensures
    ∙ map-set (λ (a : Agent). a.carried) c.args.self.now.list.items c.args.index c.index_mut-agent.result.now c.advance.new.self q c.advance.ensures.carried)

pub returns-in_err-child-clause-freed : goal.returns-in_err-child-clause-freed
returns-in_err-child-clause-freed g c = λ front le freed. freed-set c.args.self.now.list.items front c.args.index c.advance.new.self le freed

pub returns-in_err-carry-in-Began-clause-freed : goal.returns-in_err-carry-in-Began-clause-freed
returns-in_err-carry-in-Began-clause-freed g c = λ front le freed.
    subst (λ (agents : List Agent). AreFreed front agents) (sym c.in_err-carry-in-Began.ensures) (freed-set c.args.self.now.list.items front c.args.index c.advance.new.self le freed)

pub returns-in_err-child-clause-kept : goal.returns-in_err-child-clause-kept
returns-in_err-child-clause-kept g c = c.advance.ensures.kept

pub returns-in_err-carry-in-Began-clause-kept : goal.returns-in_err-carry-in-Began-clause-kept
returns-in_err-carry-in-Began-clause-kept g c = c.advance.ensures.kept

pub returns-in_ok-carry-in-Began-clause-kept : goal.returns-in_ok-carry-in-Began-clause-kept
returns-in_ok-carry-in-Began-clause-kept g c = c.advance.ensures.kept

pub returns-in-Granted-clause-kept : goal.returns-in-Granted-clause-kept
returns-in-Granted-clause-kept g c = c.advance.ensures.kept

pub returns-in-Moved-clause-kept : goal.returns-in-Moved-clause-kept
returns-in-Moved-clause-kept g c = c.advance.ensures.kept

pub returns-in-Waits-clause-kept : goal.returns-in-Waits-clause-kept
returns-in-Waits-clause-kept g c = c.advance.ensures.kept

pub returns-in-WaitsLoad-clause-kept : goal.returns-in-WaitsLoad-clause-kept
returns-in-WaitsLoad-clause-kept g c = c.advance.ensures.kept

pub returns-in-WaitsFor-clause-kept : goal.returns-in-WaitsFor-clause-kept
returns-in-WaitsFor-clause-kept g c = c.advance.ensures.kept

pub returns-in-Ended-clause-kept : goal.returns-in-Ended-clause-kept
returns-in-Ended-clause-kept g c = c.advance.ensures.kept

pub returns-in-Waits-clause-acts : goal.returns-in-Waits-clause-acts
returns-in-Waits-clause-acts g c =
    let q : slice_get c.args.self.now.list.items c.args.index ≡ Some c.index_mut-agent.result.now = slice_get_read c.args.self.now.list.items _ c.args.index c.index_mut-agent.result.now refl c.requires.within c.index_mut-agent.ensures.value in
    acts-here (program_tree c.args.checked.now) g.A.Access.may_come (g.A.Access.sight c.args.access.now) (g.A.Access.sight c.advance.new.access) c.args.self.now.list.items c.args.index c.index_mut-agent.result.now q c.advance.ensures.acts

pub returns-in-WaitsLoad-clause-acts : goal.returns-in-WaitsLoad-clause-acts
returns-in-WaitsLoad-clause-acts g c =
    let q : slice_get c.args.self.now.list.items c.args.index ≡ Some c.index_mut-agent.result.now = slice_get_read c.args.self.now.list.items _ c.args.index c.index_mut-agent.result.now refl c.requires.within c.index_mut-agent.ensures.value in
    acts-here (program_tree c.args.checked.now) g.A.Access.may_come (g.A.Access.sight c.args.access.now) (g.A.Access.sight c.advance.new.access) c.args.self.now.list.items c.args.index c.index_mut-agent.result.now q c.advance.ensures.acts

pub returns-in-WaitsFor-clause-acts : goal.returns-in-WaitsFor-clause-acts
returns-in-WaitsFor-clause-acts g c =
    let q : slice_get c.args.self.now.list.items c.args.index ≡ Some c.index_mut-agent.result.now = slice_get_read c.args.self.now.list.items _ c.args.index c.index_mut-agent.result.now refl c.requires.within c.index_mut-agent.ensures.value in
    acts-here (program_tree c.args.checked.now) g.A.Access.may_come (g.A.Access.sight c.args.access.now) (g.A.Access.sight c.advance.new.access) c.args.self.now.list.items c.args.index c.index_mut-agent.result.now q c.advance.ensures.acts

pub returns-in-Ended-clause-acts : goal.returns-in-Ended-clause-acts
returns-in-Ended-clause-acts g c =
    let q : slice_get c.args.self.now.list.items c.args.index ≡ Some c.index_mut-agent.result.now = slice_get_read c.args.self.now.list.items _ c.args.index c.index_mut-agent.result.now refl c.requires.within c.index_mut-agent.ensures.value in
    acts-here (program_tree c.args.checked.now) g.A.Access.may_come (g.A.Access.sight c.args.access.now) (g.A.Access.sight c.advance.new.access) c.args.self.now.list.items c.args.index c.index_mut-agent.result.now q c.advance.ensures.acts

pub returns-in_err-child-clause-steps : goal.returns-in_err-child-clause-steps
returns-in_err-child-clause-steps g c = let q = err_from_is_err_and c.from_residual.result c.from_residual.ensures.1 in rw q.1 tt

pub returns-in_err-child-clause-carried : goal.returns-in_err-child-clause-carried
returns-in_err-child-clause-carried g c = let q = err_from_is_err_and c.from_residual.result c.from_residual.ensures.1 in rw q.1 tt

pub returns-in_err-carry-in-Began-clause-steps : goal.returns-in_err-carry-in-Began-clause-steps
returns-in_err-carry-in-Began-clause-steps g c = let q = err_from_is_err_and c.from_residual-in_err-carry-in-Began.result c.from_residual-in_err-carry-in-Began.ensures.1 in rw q.1 tt

pub returns-in_err-carry-in-Began-clause-carried : goal.returns-in_err-carry-in-Began-clause-carried
returns-in_err-carry-in-Began-clause-carried g c = let q = err_from_is_err_and c.from_residual-in_err-carry-in-Began.result c.from_residual-in_err-carry-in-Began.ensures.1 in rw q.1 tt

pub advance-requires-clause-fit : goal.advance-requires-clause-fit
advance-requires-clause-fit g c = c.requires.fit

pub advance-requires-clause-counts : goal.advance-requires-clause-counts
advance-requires-clause-counts g c = c.requires.carried.holds.counts

pub advance-requires-clause-knows : goal.advance-requires-clause-knows
advance-requires-clause-knows g c =
    let q : slice_get c.args.self.now.list.items c.args.index ≡ Some c.index_mut-agent.result.now = slice_get_read c.args.self.now.list.items _ c.args.index c.index_mut-agent.result.now refl c.requires.within c.index_mut-agent.ensures.value in
    all-at (Knows (program_tree c.args.checked.now) (g.A.Access.sight c.args.access.now)) c.args.self.now.list.items c.args.index c.index_mut-agent.result.now q c.requires.carried.known
