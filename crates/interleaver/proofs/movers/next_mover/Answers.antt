use Rattle.std.proofs.Common.{◌≡◌, ◌+◌, ◌%◌, if◌then◌else◌, arith, ◌∙◌, refl, sym, subst, length, false}
use Rattle.std.specs.Prelude.{is_some}
use Rattle.std.proofs.lemmas.Result.{err_from_is_err_and}
use Rattle.core_model.specs.LockAnswers.{IsGoing}
use Rattle.core_model.specs.LegalRuns.{ends}
use Rattle.core_model.specs.Settler.{has_step, settler_step}
use Rattle.core_access.specs.OneHolder.{own_sight}
use Rattle.core_access.specs.Sights.{run_seen}
use Rattle.history_core.specs.Cores.{run_of}
use Rattle.script_tree.specs.Programs.{program_tree}
use Rattle.unit_carrier.specs.CarriedUnits.{FindsMover, FindsWithin, moving, units_carried}
use Rattle.unit_carrier.specs.declared.agents.Found.{Found}
use Rattle.unit_carrier.specs.declared.agents.Found.TheVariants.{Few}
use Rattle.interleaver.proofs.MoverSearch.{found-first, found-next, found-few, found-nobody, going, own-back, seen-mover, sum-is, within-new}
use Rattle.interleaver.proofs.movers.next_mover.Goals as goal

pub returns-in_err-index-clause-same : goal.returns-in_err-index-clause-same
returns-in_err-index-clause-same c = own-back (run_of c.args.core.now) (run_of c.find.new.access) c.find.ensures.same

pub returns-in-At-clause-same : goal.returns-in-At-clause-same
returns-in-At-clause-same c = own-back (run_of c.args.core.now) (run_of c.find.new.access) c.find.ensures.same

pub returns-in-At-clause-mover : goal.returns-in-At-clause-mover
returns-in-At-clause-mover c = λ d h.
    let sure : is_some (ends (run_of c.args.core.now)).manager.doubt ≡ false = sym d ∙ sym c.doubted.ensures ∙ c.if-doubted.false in
    let types = program_tree c.args.checked.now in
    let r = run_of c.args.core.now in
    let units = units_carried c.args.agents.now.list.items in
    let at : IsGoing (ends r) = going types r units c.args.pick sure h in
    found-first types r units c.args.pick sure c.in-At.index
    (subst (FindsMover types r units c.args.pick) c.in-At.is
    (seen-mover types r r c.args.agents.now.list.items c.args.agents.now.list.items c.args.pick c.in_ok-index.field-0 refl refl at c.in_ok-index.ensures.found))

pub returns-then-movers-eq0-clause-same : goal.returns-then-movers-eq0-clause-same
returns-then-movers-eq0-clause-same c = own-back (run_of c.args.core.now) (run_of c.find.new.access) c.find.ensures.same

pub returns-then-movers-eq0-clause-mover : goal.returns-then-movers-eq0-clause-mover
returns-then-movers-eq0-clause-mover c = λ d h.
    let sure : is_some (ends (run_of c.args.core.now)).manager.doubt ≡ false = sym d ∙ sym c.doubted.ensures ∙ c.if-doubted.false in
    let types = program_tree c.args.checked.now in
    let r = run_of c.args.core.now in
    let units = units_carried c.args.agents.now.list.items in
    let at : IsGoing (ends r) = going types r units c.args.pick sure h in
    let first : run_of c.find.new.access ≡ r = own-back r (run_of c.find.new.access) c.find.ensures.same in
    let sum : c.saturating_add-movers.result ≡ length (moving types r units) + (if has_step (settler_step (ends r)) then 1 else 0) =
    sum-is types r (run_of c.find.new.access) c.args.agents.now.list.items c.find.new.self.list.items c.args.pick c.in-Few.units c.settler_moves-2.result c.saturating_add-movers.result first
    (omega (arith, c.args.agents.now.list.small)) at
    (λ x. subst (FindsMover types (run_seen (own_sight r)) units c.args.pick) c.in-Few.is (c.in_ok-index.ensures.found x))
    c.settler_moves-2.ensures c.saturating_add-movers.ensures in
    found-nobody types r units c.args.pick sure c.saturating_add-movers.result sum c.if-movers-eq0.true

pub returns-then-place-units-clause-same : goal.returns-then-place-units-clause-same
returns-then-place-units-clause-same c = own-back (run_of c.args.core.now) (run_of c.find.new.access) c.find.ensures.same

pub returns-then-place-units-clause-mover : goal.returns-then-place-units-clause-mover
returns-then-place-units-clause-mover c = λ d h.
    let sure : is_some (ends (run_of c.args.core.now)).manager.doubt ≡ false = sym d ∙ sym c.doubted.ensures ∙ c.if-doubted.false in
    let types = program_tree c.args.checked.now in
    let r = run_of c.args.core.now in
    let units = units_carried c.args.agents.now.list.items in
    let at : IsGoing (ends r) = going types r units c.args.pick sure h in
    let first : run_of c.find.new.access ≡ r = own-back r (run_of c.find.new.access) c.find.ensures.same in
    let sum : c.saturating_add-movers.result ≡ length (moving types r units) + (if has_step (settler_step (ends r)) then 1 else 0) =
    sum-is types r (run_of c.find.new.access) c.args.agents.now.list.items c.find.new.self.list.items c.args.pick c.in-Few.units c.settler_moves-2.result c.saturating_add-movers.result first
    (omega (arith, c.args.agents.now.list.small)) at
    (λ x. subst (FindsMover types (run_seen (own_sight r)) units c.args.pick) c.in-Few.is (c.in_ok-index.ensures.found x))
    c.settler_moves-2.ensures c.saturating_add-movers.ensures in
    let few : FindsMover types r units c.args.pick (Few c.in-Few.units) =
    subst (FindsMover types r units c.args.pick) c.in-Few.is
    (seen-mover types r r c.args.agents.now.list.items c.args.agents.now.list.items c.args.pick c.in_ok-index.field-0 refl refl at c.in_ok-index.ensures.found) in
    found-few types r units c.args.pick sure c.saturating_add-movers.result c.in-Few.units sum c.if-movers-eq0.false (few.0, c.if-place-units.true)

pub returns-in-At-2-clause-mover : goal.returns-in-At-2-clause-mover
returns-in-At-2-clause-mover c = λ d h.
    let sure : is_some (ends (run_of c.args.core.now)).manager.doubt ≡ false = sym d ∙ sym c.doubted.ensures ∙ c.if-doubted.false in
    let types = program_tree c.args.checked.now in
    let r = run_of c.args.core.now in
    let units = units_carried c.args.agents.now.list.items in
    let at : IsGoing (ends r) = going types r units c.args.pick sure h in
    let first : run_of c.find.new.access ≡ r = own-back r (run_of c.find.new.access) c.find.ensures.same in
    let sum : c.saturating_add-movers.result ≡ length (moving types r units) + (if has_step (settler_step (ends r)) then 1 else 0) =
    sum-is types r (run_of c.find.new.access) c.args.agents.now.list.items c.find.new.self.list.items c.args.pick c.in-Few.units c.settler_moves-2.result c.saturating_add-movers.result first
    (omega (arith, c.args.agents.now.list.small)) at
    (λ x. subst (FindsMover types (run_seen (own_sight r)) units c.args.pick) c.in-Few.is (c.in_ok-index.ensures.found x))
    c.settler_moves-2.ensures c.saturating_add-movers.ensures in
    let found : FindsMover types r units (c.args.pick % c.saturating_add-movers.result) c.in_ok-index-2.field-0 =
    seen-mover types r (run_of c.find.new.access) c.args.agents.now.list.items c.find.new.self.list.items (c.args.pick % c.saturating_add-movers.result) c.in_ok-index-2.field-0 first c.in_ok-index.ensures.units at c.in_ok-index-2.ensures.found in
    found-next types r units c.args.pick sure c.saturating_add-movers.result c.in-At-2.index sum
    (subst (FindsMover types r units (c.args.pick % c.saturating_add-movers.result)) c.in-At-2.is found)

pub returns-in-Few-2-clause-mover : goal.returns-in-Few-2-clause-mover
returns-in-Few-2-clause-mover c = λ d h.
    let sure : is_some (ends (run_of c.args.core.now)).manager.doubt ≡ false = sym d ∙ sym c.doubted.ensures ∙ c.if-doubted.false in
    let types = program_tree c.args.checked.now in
    let r = run_of c.args.core.now in
    let units = units_carried c.args.agents.now.list.items in
    let at : IsGoing (ends r) = going types r units c.args.pick sure h in
    let first : run_of c.find.new.access ≡ r = own-back r (run_of c.find.new.access) c.find.ensures.same in
    let sum : c.saturating_add-movers.result ≡ length (moving types r units) + (if has_step (settler_step (ends r)) then 1 else 0) =
    sum-is types r (run_of c.find.new.access) c.args.agents.now.list.items c.find.new.self.list.items c.args.pick c.in-Few.units c.settler_moves-2.result c.saturating_add-movers.result first
    (omega (arith, c.args.agents.now.list.small)) at
    (λ x. subst (FindsMover types (run_seen (own_sight r)) units c.args.pick) c.in-Few.is (c.in_ok-index.ensures.found x))
    c.settler_moves-2.ensures c.saturating_add-movers.ensures in
    let found : FindsMover types r units (c.args.pick % c.saturating_add-movers.result) c.in_ok-index-2.field-0 =
    seen-mover types r (run_of c.find.new.access) c.args.agents.now.list.items c.find.new.self.list.items (c.args.pick % c.saturating_add-movers.result) c.in_ok-index-2.field-0 first c.in_ok-index.ensures.units at c.in_ok-index-2.ensures.found in
    found-few types r units c.args.pick sure c.saturating_add-movers.result c.in-Few-2.field-0 sum c.if-movers-eq0.false
    (subst (FindsMover types r units (c.args.pick % c.saturating_add-movers.result)) c.in-Few-2.is found)

pub returns-in_err-index-2-clause-same : goal.returns-in_err-index-2-clause-same
returns-in_err-index-2-clause-same c =
    own-back (run_of c.find.new.access) (run_of c.find-2.new.access) c.find-2.ensures.same
    ∙ own-back (run_of c.args.core.now) (run_of c.find.new.access) c.find.ensures.same

pub returns-in-At-2-clause-same : goal.returns-in-At-2-clause-same
returns-in-At-2-clause-same c =
    own-back (run_of c.find.new.access) (run_of c.find-2.new.access) c.find-2.ensures.same
    ∙ own-back (run_of c.args.core.now) (run_of c.find.new.access) c.find.ensures.same

pub returns-in-Few-2-clause-same : goal.returns-in-Few-2-clause-same
returns-in-Few-2-clause-same c =
    own-back (run_of c.find.new.access) (run_of c.find-2.new.access) c.find-2.ensures.same
    ∙ own-back (run_of c.args.core.now) (run_of c.find.new.access) c.find.ensures.same

pub returns-in-At-clause-within : goal.returns-in-At-clause-within
returns-in-At-clause-within c =
    within-new c.find.new.self.list.items c.args.agents.now.list.items c.in-At.index c.in_ok-index.ensures.units
    (subst (λ (f : Found). FindsWithin f (length c.args.agents.now.list.items)) c.in-At.is c.in_ok-index.ensures.within)

pub returns-in-At-2-clause-within : goal.returns-in-At-2-clause-within
returns-in-At-2-clause-within c =
    within-new c.find-2.new.self.list.items c.find.new.self.list.items c.in-At-2.index c.in_ok-index-2.ensures.units
    (subst (λ (f : Found). FindsWithin f (length c.find.new.self.list.items)) c.in-At-2.is c.in_ok-index-2.ensures.within)

pub returns-in_err-index-clause-carried : goal.returns-in_err-index-clause-carried
returns-in_err-index-clause-carried c = let q = err_from_is_err_and c.from_residual.result c.from_residual.ensures.1 in rw q.1 tt

pub returns-in_err-index-clause-units : goal.returns-in_err-index-clause-units
returns-in_err-index-clause-units c = let q = err_from_is_err_and c.from_residual.result c.from_residual.ensures.1 in rw q.1 tt

pub returns-in_err-index-clause-within : goal.returns-in_err-index-clause-within
returns-in_err-index-clause-within c = let q = err_from_is_err_and c.from_residual.result c.from_residual.ensures.1 in rw q.1 tt

pub returns-in_err-index-clause-freed : goal.returns-in_err-index-clause-freed
returns-in_err-index-clause-freed c = let q = err_from_is_err_and c.from_residual.result c.from_residual.ensures.1 in rw q.1 tt

pub returns-in_err-index-clause-mover : goal.returns-in_err-index-clause-mover
returns-in_err-index-clause-mover c = λ d h. let q = err_from_is_err_and c.from_residual.result c.from_residual.ensures.1 in rw q.1 tt

pub returns-in_err-index-2-clause-carried : goal.returns-in_err-index-2-clause-carried
returns-in_err-index-2-clause-carried c = let q = err_from_is_err_and c.from_residual-in_err-index-2.result c.from_residual-in_err-index-2.ensures.1 in rw q.1 tt

pub returns-in_err-index-2-clause-units : goal.returns-in_err-index-2-clause-units
returns-in_err-index-2-clause-units c = let q = err_from_is_err_and c.from_residual-in_err-index-2.result c.from_residual-in_err-index-2.ensures.1 in rw q.1 tt

pub returns-in_err-index-2-clause-within : goal.returns-in_err-index-2-clause-within
returns-in_err-index-2-clause-within c = let q = err_from_is_err_and c.from_residual-in_err-index-2.result c.from_residual-in_err-index-2.ensures.1 in rw q.1 tt

pub returns-in_err-index-2-clause-freed : goal.returns-in_err-index-2-clause-freed
returns-in_err-index-2-clause-freed c = let q = err_from_is_err_and c.from_residual-in_err-index-2.result c.from_residual-in_err-index-2.ensures.1 in rw q.1 tt

pub returns-in_err-index-2-clause-mover : goal.returns-in_err-index-2-clause-mover
returns-in_err-index-2-clause-mover c = λ d h. let q = err_from_is_err_and c.from_residual-in_err-index-2.result c.from_residual-in_err-index-2.ensures.1 in rw q.1 tt

pub returns-in-At-clause-carried : goal.returns-in-At-clause-carried
returns-in-At-clause-carried c = c.in_ok-index.ensures.carried

pub returns-in-At-clause-units : goal.returns-in-At-clause-units
returns-in-At-clause-units c = c.find.ensures.units

pub returns-in-At-clause-freed : goal.returns-in-At-clause-freed
returns-in-At-clause-freed c = c.find.ensures.freed

pub returns-then-movers-eq0-clause-carried : goal.returns-then-movers-eq0-clause-carried
returns-then-movers-eq0-clause-carried c = c.in_ok-index.ensures.carried

pub returns-then-movers-eq0-clause-units : goal.returns-then-movers-eq0-clause-units
returns-then-movers-eq0-clause-units c = c.find.ensures.units

pub returns-then-movers-eq0-clause-freed : goal.returns-then-movers-eq0-clause-freed
returns-then-movers-eq0-clause-freed c = c.find.ensures.freed

pub returns-then-place-units-clause-carried : goal.returns-then-place-units-clause-carried
returns-then-place-units-clause-carried c = c.in_ok-index.ensures.carried

pub returns-then-place-units-clause-units : goal.returns-then-place-units-clause-units
returns-then-place-units-clause-units c = c.find.ensures.units

pub returns-then-place-units-clause-freed : goal.returns-then-place-units-clause-freed
returns-then-place-units-clause-freed c = c.find.ensures.freed

pub returns-in-At-2-clause-carried : goal.returns-in-At-2-clause-carried
returns-in-At-2-clause-carried c = c.in_ok-index-2.ensures.carried

pub returns-in-At-2-clause-units : goal.returns-in-At-2-clause-units
returns-in-At-2-clause-units c = c.find-2.ensures.units ∙ c.find.ensures.units

pub returns-in-At-2-clause-freed : goal.returns-in-At-2-clause-freed
returns-in-At-2-clause-freed c = c.find-2.ensures.freed

pub returns-in-Few-2-clause-carried : goal.returns-in-Few-2-clause-carried
returns-in-Few-2-clause-carried c = c.in_ok-index-2.ensures.carried

pub returns-in-Few-2-clause-units : goal.returns-in-Few-2-clause-units
returns-in-Few-2-clause-units c = c.find-2.ensures.units ∙ c.find.ensures.units

pub returns-in-Few-2-clause-freed : goal.returns-in-Few-2-clause-freed
returns-in-Few-2-clause-freed c = c.find-2.ensures.freed
