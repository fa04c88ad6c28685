use Rattle.std.proofs.Common.{◌≡◌, refl, sym, subst, Some}
use Rattle.std.specs.Prelude.{slice_get}
use Rattle.std.proofs.lemmas.Option.{slice_get_read}
use Rattle.std.proofs.lemmas.Result.{err_from_is_err_and}
use Rattle.core_model.specs.CoreState.{UnitNo}
use Rattle.script_tree.specs.Programs.{program_tree}
use Rattle.txn_agent.specs.declared.agent.Agent.{Agent}
use Rattle.txn_agent.specs.CoreLink.{Knows}
use Rattle.txn_agent.specs.Wishes.{Wishes}
use Rattle.unit_carrier.specs.CarriedUnits.{WishesAt}
use Rattle.unit_carrier.proofs.FreedUnits.{freed-set}
use Rattle.unit_carrier.proofs.MoverSearch.{all-at, map-set}
use Rattle.unit_carrier.proofs.Places.{unit-here, wishes-carried}
use Rattle.unit_carrier.proofs.agents.Agents.want.Goals as goal

pub returns-in_err-wished-clause-wishes : goal.returns-in_err-wished-clause-wishes
returns-in_err-wished-clause-wishes g c =
    let q : slice_get c.args.self.now.list.items c.args.index ≡ Some c.index_mut.result.now =
    slice_get_read c.args.self.now.list.items _ c.args.index c.index_mut.result.now refl c.requires.within c.index_mut.ensures.value in
    subst (λ (u : UnitNo). Wishes g.A.Access.may_come (program_tree c.args.checked.now) u (g.A.Access.sight c.args.access.now) (g.A.Access.sight c.want_now.new.access)) (sym (unit-here c.args.self.now.list.items c.args.index c.index_mut.result.now q)) c.want_now.ensures.wishes

pub returns-clause-wishes : goal.returns-clause-wishes
returns-clause-wishes g c =
    let q : slice_get c.args.self.now.list.items c.args.index ≡ Some c.index_mut.result.now =
    slice_get_read c.args.self.now.list.items _ c.args.index c.index_mut.result.now refl c.requires.within c.index_mut.ensures.value in
    subst (λ (u : UnitNo). Wishes g.A.Access.may_come (program_tree c.args.checked.now) u (g.A.Access.sight c.args.access.now) (g.A.Access.sight c.want_now.new.access)) (sym (unit-here c.args.self.now.list.items c.args.index c.index_mut.result.now q)) c.want_now.ensures.wishes

pub returns-clause-told : goal.returns-clause-told
returns-clause-told g c =
    let q : slice_get c.args.self.now.list.items c.args.index ≡ Some c.index_mut.result.now =
    slice_get_read c.args.self.now.list.items _ c.args.index c.index_mut.result.now refl c.requires.within c.index_mut.ensures.value in
    subst (λ (u : UnitNo). WishesAt (program_tree c.args.checked.now) u (g.A.Access.sight c.args.access.now) (g.A.Access.sight c.want_now.new.access) c.in_ok-wished.wished) (sym (unit-here c.args.self.now.list.items c.args.index c.index_mut.result.now q)) c.in_ok-wished.ensures.told

pub returns-clause-carried : goal.returns-clause-carried
returns-clause-carried g c =
    let q : slice_get c.args.self.now.list.items c.args.index ≡ Some c.index_mut.result.now =
    slice_get_read c.args.self.now.list.items _ c.args.index c.index_mut.result.now refl c.requires.within c.index_mut.ensures.value in
    wishes-carried (program_tree c.args.checked.now) g.A.Access.may_come (g.A.Access.sight c.args.access.now) (g.A.Access.sight c.want_now.new.access) c.args.self.now.list.items c.args.index c.index_mut.result.now c.want_now.new.agent q c.want_now.ensures.carried c.want_now.ensures.wishes c.in_ok-wished.ensures.knows c.requires.carried

pub returns-in_err-wished-clause-units : goal.returns-in_err-wished-clause-units
returns-in_err-wished-clause-units g c =
    let q : slice_get c.args.self.now.list.items c.args.index ≡ Some c.index_mut.result.now =
    slice_get_read c.args.self.now.list.items _ c.args.index c.index_mut.result.now refl c.requires.within c.index_mut.ensures.value in
    map-set (λ (a : Agent). a.carried) c.args.self.now.list.items c.args.index c.index_mut.result.now c.want_now.new.agent q c.want_now.ensures.carried

pub returns-clause-units : goal.returns-clause-units
returns-clause-units g c =
    let q : slice_get c.args.self.now.list.items c.args.index ≡ Some c.index_mut.result.now =
    slice_get_read c.args.self.now.list.items _ c.args.index c.index_mut.result.now refl c.requires.within c.index_mut.ensures.value in
    map-set (λ (a : Agent). a.carried) c.args.self.now.list.items c.args.index c.index_mut.result.now c.want_now.new.agent q c.want_now.ensures.carried

pub returns-in_err-wished-clause-freed : goal.returns-in_err-wished-clause-freed
returns-in_err-wished-clause-freed g c =
    λ front le freed. freed-set c.args.self.now.list.items front c.args.index c.want_now.new.agent le freed

pub returns-clause-freed : goal.returns-clause-freed
returns-clause-freed g c =
    λ front le freed. freed-set c.args.self.now.list.items front c.args.index c.want_now.new.agent le freed

pub returns-in_err-wished-clause-kept : goal.returns-in_err-wished-clause-kept
returns-in_err-wished-clause-kept g c = c.want_now.ensures.kept

pub returns-clause-kept : goal.returns-clause-kept
returns-clause-kept g c = c.want_now.ensures.kept

pub returns-in_err-wished-clause-told : goal.returns-in_err-wished-clause-told
returns-in_err-wished-clause-told g c = let q = err_from_is_err_and c.from_residual.result c.from_residual.ensures.1 in rw q.1 tt

pub returns-in_err-wished-clause-carried : goal.returns-in_err-wished-clause-carried
returns-in_err-wished-clause-carried g c = let q = err_from_is_err_and c.from_residual.result c.from_residual.ensures.1 in rw q.1 tt

pub want_now-requires-clause-fit : goal.want_now-requires-clause-fit
want_now-requires-clause-fit g c = c.requires.fit

pub want_now-requires-clause-holds : goal.want_now-requires-clause-holds
want_now-requires-clause-holds g c = c.requires.carried.holds

pub want_now-requires-clause-knows : goal.want_now-requires-clause-knows
want_now-requires-clause-knows g c =
    let q : slice_get c.args.self.now.list.items c.args.index ≡ Some c.index_mut.result.now = slice_get_read c.args.self.now.list.items _ c.args.index c.index_mut.result.now refl c.requires.within c.index_mut.ensures.value in
    all-at (Knows (program_tree c.args.checked.now) (g.A.Access.sight c.args.access.now)) c.args.self.now.list.items c.args.index c.index_mut.result.now q c.requires.carried.known
