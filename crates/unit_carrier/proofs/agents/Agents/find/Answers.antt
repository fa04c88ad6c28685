use Rattle.std.proofs.Common.{◌≡◌, refl, sym, ◌∙◌, subst, arith, Some}
use Rattle.std.specs.Prelude.{slice_get}
use Rattle.std.proofs.lemmas.Result.{err_from_is_err_and}
use Rattle.core_access.specs.Sights.{Sight, run_seen}
use Rattle.script_tree.specs.Programs.{program_tree}
use Rattle.txn_agent.specs.declared.agent.Agent.{Agent}
use Rattle.txn_agent.specs.CoreLink.{Knows}
use Rattle.unit_carrier.specs.CarriedUnits.{AreCarried, units_carried}
use Rattle.unit_carrier.proofs.MoverSearch.{all-at, map-set}
use Rattle.unit_carrier.proofs.FreedUnits.{freed-none, freed-set}
use Rattle.unit_carrier.proofs.Places.{agent-here, set-carried}
use Rattle.unit_carrier.proofs.Movers.{unit-first, units-past, index-within, one-fits, told-first, found-here, one-moves, none-moves, all-counted}
use Rattle.unit_carrier.proofs.agents.Agents.find.Goals.{then-branch+else-movers-place, else-branch}
use Rattle.unit_carrier.proofs.agents.Agents.find.Goals as goal

pub loop-index-init : goal.loop-index-init
loop-index-init g c = record {
  fit = c.requires.fit;
  aside = refl;
  same = refl;
  carried = c.requires.carried;
  units = refl;
  movers = λ going. freed-none (program_tree c.args.checked.now) g.A.Access.may_come (g.A.Access.sight c.args.access.now) c.args.self.now.list.items c.args.front c.requires.carried.holds c.requires.carried.known c.requires.freed;
  place = omega arith;
  few = omega arith;
  freed = c.requires.freed;
  past = omega arith;
}

pub returns-then-movers-place-clause-freed : goal.returns-then-movers-place-clause-freed
returns-then-movers-place-clause-freed g c =
    freed-set c.loop-index.self.list.items c.args.front c.loop-index.index c.can_move_now.new.agent c.loop-index.invariant.past c.loop-index.invariant.freed

pub returns-then-movers-place-clause-carried : goal.returns-then-movers-place-clause-carried
returns-then-movers-place-clause-carried g c =
    let q : slice_get c.loop-index.self.list.items c.loop-index.index ≡ Some c.index_mut.result.now =
    agent-here c.args.self.now.list.items c.loop-index.self.list.items c.len-index-end.result c.loop-index.index c.index_mut.result.now c.loop-index.invariant.units (search) c.loop-index-test.true c.index_mut.ensures.value in
    set-carried (program_tree c.args.checked.now) g.A.Access.may_come (g.A.Access.sight c.can_move_now.new.access) c.loop-index.self.list.items c.loop-index.index c.index_mut.result.now c.can_move_now.new.agent q
    c.can_move_now.ensures.carried c.in_ok-can_move_now.ensures.knows
    (subst (λ (s : Sight). AreCarried (program_tree c.args.checked.now) g.A.Access.may_come s c.loop-index.self.list.items) (sym c.can_move_now.ensures.same) c.loop-index.invariant.carried)

pub returns-then-movers-place-clause-units : goal.returns-then-movers-place-clause-units
returns-then-movers-place-clause-units g c =
    let q : slice_get c.loop-index.self.list.items c.loop-index.index ≡ Some c.index_mut.result.now =
    agent-here c.args.self.now.list.items c.loop-index.self.list.items c.len-index-end.result c.loop-index.index c.index_mut.result.now c.loop-index.invariant.units (search) c.loop-index-test.true c.index_mut.ensures.value in
    map-set (λ (a : Agent). a.carried) c.loop-index.self.list.items c.loop-index.index c.index_mut.result.now c.can_move_now.new.agent q c.can_move_now.ensures.carried
    ∙ c.loop-index.invariant.units

pub returns-then-movers-place-clause-within : goal.returns-then-movers-place-clause-within
returns-then-movers-place-clause-within g c = index-within c.args.self.now.list.items c.len-index-end.result c.loop-index.index (search) c.loop-index-test.true

pub returns-then-movers-place-clause-found : goal.returns-then-movers-place-clause-found
returns-then-movers-place-clause-found g c = λ going.
    let q : slice_get c.loop-index.self.list.items c.loop-index.index ≡ Some c.index_mut.result.now =
    agent-here c.args.self.now.list.items c.loop-index.self.list.items c.len-index-end.result c.loop-index.index c.index_mut.result.now c.loop-index.invariant.units (search) c.loop-index-test.true c.index_mut.ensures.value in
    let here = unit-first c.args.self.now.list.items c.loop-index.self.list.items c.loop-index.index c.index_mut.result.now c.loop-index.invariant.units q in
    let moves = told-first (program_tree c.args.checked.now) (g.A.Access.sight c.args.access.now) (g.A.Access.sight c.loop-index.access) c.index_mut.result.now.carried.unit c.in_ok-can_move_now.field-0
    c.loop-index.invariant.same c.in_ok-can_move_now.ensures.moves going in
    found-here (program_tree c.args.checked.now) (run_seen (g.A.Access.sight c.args.access.now)) (units_carried c.args.self.now.list.items) c.loop-index.index c.index_mut.result.now.carried.unit here c.loop-index.movers
    (c.loop-index.invariant.movers going) c.args.place (sym c.if-branch.true ∙ moves) c.if-movers-place.true

pub loop-index-preserved : goal.loop-index-preserved
loop-index-preserved g c =
    let q : slice_get c.loop-index.self.list.items c.loop-index.index ≡ Some c.index_mut.result.now =
    agent-here c.args.self.now.list.items c.loop-index.self.list.items c.len-index-end.result c.loop-index.index c.index_mut.result.now c.loop-index.invariant.units (search) c.loop-index-test.true c.index_mut.ensures.value in
    let here = unit-first c.args.self.now.list.items c.loop-index.self.list.items c.loop-index.index c.index_mut.result.now c.loop-index.invariant.units q in
    let types = program_tree c.args.checked.now in
    let units = units_carried c.args.self.now.list.items in
    let moves = told-first types (g.A.Access.sight c.args.access.now) (g.A.Access.sight c.loop-index.access) c.index_mut.result.now.carried.unit c.in_ok-can_move_now.field-0
    c.loop-index.invariant.same c.in_ok-can_move_now.ensures.moves in
    record {
      fit = c.can_move_now.ensures.kept.fit;
      aside = c.can_move_now.ensures.kept.aside ∙ c.loop-index.invariant.aside;
      same = c.can_move_now.ensures.same ∙ c.loop-index.invariant.same;
      carried = set-carried types g.A.Access.may_come (g.A.Access.sight c.can_move_now.new.access) c.loop-index.self.list.items c.loop-index.index c.index_mut.result.now c.can_move_now.new.agent q
          c.can_move_now.ensures.carried c.in_ok-can_move_now.ensures.knows
          (subst (λ (s : Sight). AreCarried types g.A.Access.may_come s c.loop-index.self.list.items) (sym c.can_move_now.ensures.same) c.loop-index.invariant.carried);
      units = map-set (λ (a : Agent). a.carried) c.loop-index.self.list.items c.loop-index.index c.index_mut.result.now c.can_move_now.new.agent q c.can_move_now.ensures.carried
          ∙ c.loop-index.invariant.units;
      movers = λ going. elim c.if-branch.branch [
        | then-branch+else-movers-place w ↦ w.movers-is ∙ one-moves types (run_seen (g.A.Access.sight c.args.access.now)) units c.loop-index.index c.index_mut.result.now.carried.unit here c.loop-index.movers
            (c.loop-index.invariant.movers going) (sym w.if-branch.true ∙ moves going)
        | else-branch w ↦ w.movers-is ∙ none-moves types (run_seen (g.A.Access.sight c.args.access.now)) units c.loop-index.index c.index_mut.result.now.carried.unit here c.loop-index.movers
            (c.loop-index.invariant.movers going) (sym w.if-branch.false ∙ moves going)
      ];
      place = elim c.if-branch.branch [
        | then-branch+else-movers-place w ↦ (let fits = one-fits c.loop-index.movers c.args.place c.loop-index.invariant.place w.if-movers-place.false in omega (arith, w.movers-is, fits))
        | else-branch w ↦ omega (arith, w.movers-is, c.loop-index.invariant.place)
      ];
      few = elim c.if-branch.branch [ then-branch+else-movers-place w ↦ omega (arith, w.movers-is, c.loop-index.invariant.few) | else-branch w ↦ omega (arith, w.movers-is, c.loop-index.invariant.few) ];
      freed = freed-set c.loop-index.self.list.items c.args.front c.loop-index.index c.can_move_now.new.agent c.loop-index.invariant.past c.loop-index.invariant.freed;
      past = omega (arith, c.loop-index.invariant.past);
    }

pub returns-clause-found : goal.returns-clause-found
returns-clause-found g c = λ going.
    all-counted (program_tree c.args.checked.now) (run_seen (g.A.Access.sight c.args.access.now)) (units_carried c.args.self.now.list.items) c.loop-index.index c.loop-index.movers c.args.place
    (units-past c.args.self.now.list.items c.len-index-end.result c.loop-index.index (search) c.loop-index-test.false) (c.loop-index.invariant.movers going) c.loop-index.invariant.place

pub returns-in_err-can_move_now-clause-freed : goal.returns-in_err-can_move_now-clause-freed
returns-in_err-can_move_now-clause-freed g c =
    freed-set c.loop-index.self.list.items c.args.front c.loop-index.index c.can_move_now.new.agent c.loop-index.invariant.past c.loop-index.invariant.freed

pub returns-in_err-can_move_now-clause-units : goal.returns-in_err-can_move_now-clause-units
returns-in_err-can_move_now-clause-units g c =
    let q : slice_get c.loop-index.self.list.items c.loop-index.index ≡ Some c.index_mut.result.now =
    agent-here c.args.self.now.list.items c.loop-index.self.list.items c.len-index-end.result c.loop-index.index c.index_mut.result.now c.loop-index.invariant.units (search) c.loop-index-test.true c.index_mut.ensures.value in
    map-set (λ (a : Agent). a.carried) c.loop-index.self.list.items c.loop-index.index c.index_mut.result.now c.can_move_now.new.agent q c.can_move_now.ensures.carried
    ∙ c.loop-index.invariant.units

pub returns-in_err-can_move_now-clause-kept : goal.returns-in_err-can_move_now-clause-kept
returns-in_err-can_move_now-clause-kept g c = record { fit = c.can_move_now.ensures.kept.fit; aside = c.can_move_now.ensures.kept.aside ∙ c.loop-index.invariant.aside }

pub returns-in_err-can_move_now-clause-same : goal.returns-in_err-can_move_now-clause-same
returns-in_err-can_move_now-clause-same g c = c.can_move_now.ensures.same ∙ c.loop-index.invariant.same

pub returns-in_err-can_move_now-clause-carried : goal.returns-in_err-can_move_now-clause-carried
returns-in_err-can_move_now-clause-carried g c = let q = err_from_is_err_and c.from_residual.result c.from_residual.ensures.1 in rw q.1 tt

pub returns-in_err-can_move_now-clause-within : goal.returns-in_err-can_move_now-clause-within
returns-in_err-can_move_now-clause-within g c = let q = err_from_is_err_and c.from_residual.result c.from_residual.ensures.1 in rw q.1 tt

pub returns-in_err-can_move_now-clause-found : goal.returns-in_err-can_move_now-clause-found
returns-in_err-can_move_now-clause-found g c = λ going. let q = err_from_is_err_and c.from_residual.result c.from_residual.ensures.1 in rw q.1 tt

pub returns-then-movers-place-clause-kept : goal.returns-then-movers-place-clause-kept
returns-then-movers-place-clause-kept g c = record { fit = c.can_move_now.ensures.kept.fit; aside = c.can_move_now.ensures.kept.aside ∙ c.loop-index.invariant.aside }

pub returns-then-movers-place-clause-same : goal.returns-then-movers-place-clause-same
returns-then-movers-place-clause-same g c = c.can_move_now.ensures.same ∙ c.loop-index.invariant.same

pub returns-clause-kept : goal.returns-clause-kept
returns-clause-kept g c = record { fit = c.loop-index.invariant.fit; aside = c.loop-index.invariant.aside }

pub returns-clause-same : goal.returns-clause-same
returns-clause-same g c = c.loop-index.invariant.same

pub returns-clause-carried : goal.returns-clause-carried
returns-clause-carried g c = c.loop-index.invariant.carried

pub returns-clause-units : goal.returns-clause-units
returns-clause-units g c = c.loop-index.invariant.units

pub returns-clause-freed : goal.returns-clause-freed
returns-clause-freed g c = c.loop-index.invariant.freed

pub can_move_now-requires-clause-fit : goal.can_move_now-requires-clause-fit
can_move_now-requires-clause-fit g c = c.loop-index.invariant.fit

pub can_move_now-requires-clause-holds : goal.can_move_now-requires-clause-holds
can_move_now-requires-clause-holds g c = c.loop-index.invariant.carried.holds

pub can_move_now-requires-clause-knows : goal.can_move_now-requires-clause-knows
can_move_now-requires-clause-knows g c =
    let q : slice_get c.loop-index.self.list.items c.loop-index.index ≡ Some c.index_mut.result.now =
    agent-here c.args.self.now.list.items c.loop-index.self.list.items c.len-index-end.result c.loop-index.index c.index_mut.result.now c.loop-index.invariant.units (search) c.loop-index-test.true c.index_mut.ensures.value in
    all-at (Knows (program_tree c.args.checked.now) (g.A.Access.sight c.loop-index.access)) c.loop-index.self.list.items c.loop-index.index c.index_mut.result.now q c.loop-index.invariant.carried.known
