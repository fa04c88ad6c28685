use Rattle.std.proofs.Common.{◌≡◌, refl, sym, subst, Some}
use Rattle.std.specs.Prelude.{slice_get}
use Rattle.std.proofs.lemmas.Option.{slice_get_read}
use Rattle.std.proofs.lemmas.Result.{err_from_is_err_and}
use Rattle.core_model.specs.CoreState.{UnitNo}
use Rattle.core_access.specs.Sights.{Sight, run_seen}
use Rattle.script_tree.specs.Programs.{program_tree}
use Rattle.txn_agent.specs.declared.agent.Agent.{Agent}
use Rattle.txn_agent.specs.CoreLink.{Knows}
use Rattle.txn_agent.specs.Wishes.{LacksNoGrain}
use Rattle.unit_carrier.specs.CarriedUnits.{AreCarried}
use Rattle.unit_carrier.proofs.FreedUnits.{freed-set}
use Rattle.unit_carrier.proofs.MoverSearch.{all-at, map-set}
use Rattle.unit_carrier.proofs.Places.{set-carried, unit-here}
use Rattle.unit_carrier.proofs.agents.Agents.has_grain.Goals as goal

pub returns-clause-has : goal.returns-clause-has
returns-clause-has g c = λ is going.
    let q : slice_get c.args.self.now.list.items c.args.index ≡ Some c.index_mut.result.now =
    slice_get_read c.args.self.now.list.items _ c.args.index c.index_mut.result.now refl c.requires.within c.index_mut.ensures.value in
    subst (λ (u : UnitNo). LacksNoGrain (program_tree c.args.checked.now) u (run_seen (g.A.Access.sight c.args.access.now))) (sym (unit-here c.args.self.now.list.items c.args.index c.index_mut.result.now q)) (c.in_ok-has.ensures.has is going)

pub returns-clause-carried : goal.returns-clause-carried
returns-clause-carried g c =
    let q : slice_get c.args.self.now.list.items c.args.index ≡ Some c.index_mut.result.now =
    slice_get_read c.args.self.now.list.items _ c.args.index c.index_mut.result.now refl c.requires.within c.index_mut.ensures.value in
    set-carried (program_tree c.args.checked.now) g.A.Access.may_come (g.A.Access.sight c.has_grain_now.new.access) c.args.self.now.list.items c.args.index c.index_mut.result.now c.has_grain_now.new.agent q c.has_grain_now.ensures.carried c.in_ok-has.ensures.knows
    (subst (λ (s : Sight). AreCarried (program_tree c.args.checked.now) g.A.Access.may_come s c.args.self.now.list.items) (sym c.has_grain_now.ensures.same) c.requires.carried)

pub returns-in_err-has-clause-units : goal.returns-in_err-has-clause-units
returns-in_err-has-clause-units g c =
    let q : slice_get c.args.self.now.list.items c.args.index ≡ Some c.index_mut.result.now =
    slice_get_read c.args.self.now.list.items _ c.args.index c.index_mut.result.now refl c.requires.within c.index_mut.ensures.value in
    map-set (λ (a : Agent). a.carried) c.args.self.now.list.items c.args.index c.index_mut.result.now c.has_grain_now.new.agent q c.has_grain_now.ensures.carried

pub returns-clause-units : goal.returns-clause-units
returns-clause-units g c =
    let q : slice_get c.args.self.now.list.items c.args.index ≡ Some c.index_mut.result.now =
    slice_get_read c.args.self.now.list.items _ c.args.index c.index_mut.result.now refl c.requires.within c.index_mut.ensures.value in
    map-set (λ (a : Agent). a.carried) c.args.self.now.list.items c.args.index c.index_mut.result.now c.has_grain_now.new.agent q c.has_grain_now.ensures.carried

pub returns-in_err-has-clause-freed : goal.returns-in_err-has-clause-freed
returns-in_err-has-clause-freed g c =
    λ front le freed. freed-set c.args.self.now.list.items front c.args.index c.has_grain_now.new.agent le freed

pub returns-clause-freed : goal.returns-clause-freed
returns-clause-freed g c =
    λ front le freed. freed-set c.args.self.now.list.items front c.args.index c.has_grain_now.new.agent le freed

pub returns-in_err-has-clause-kept : goal.returns-in_err-has-clause-kept
returns-in_err-has-clause-kept g c = c.has_grain_now.ensures.kept

pub returns-clause-kept : goal.returns-clause-kept
returns-clause-kept g c = c.has_grain_now.ensures.kept

pub returns-in_err-has-clause-same : goal.returns-in_err-has-clause-same
returns-in_err-has-clause-same g c = c.has_grain_now.ensures.same

pub returns-clause-same : goal.returns-clause-same
returns-clause-same g c = c.has_grain_now.ensures.same

pub returns-in_err-has-clause-has : goal.returns-in_err-has-clause-has
returns-in_err-has-clause-has g c = let q = err_from_is_err_and c.from_residual.result c.from_residual.ensures.1 in rw q.1 tt

pub returns-in_err-has-clause-carried : goal.returns-in_err-has-clause-carried
returns-in_err-has-clause-carried g c = let q = err_from_is_err_and c.from_residual.result c.from_residual.ensures.1 in rw q.1 tt

pub has_grain_now-requires-clause-fit : goal.has_grain_now-requires-clause-fit
has_grain_now-requires-clause-fit g c = c.requires.fit

pub has_grain_now-requires-clause-holds : goal.has_grain_now-requires-clause-holds
has_grain_now-requires-clause-holds g c = c.requires.carried.holds

pub has_grain_now-requires-clause-knows : goal.has_grain_now-requires-clause-knows
has_grain_now-requires-clause-knows g c =
    let q : slice_get c.args.self.now.list.items c.args.index ≡ Some c.index_mut.result.now = slice_get_read c.args.self.now.list.items _ c.args.index c.index_mut.result.now refl c.requires.within c.index_mut.ensures.value in
    all-at (Knows (program_tree c.args.checked.now) (g.A.Access.sight c.args.access.now)) c.args.self.now.list.items c.args.index c.index_mut.result.now q c.requires.carried.known
