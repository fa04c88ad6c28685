use Rattle.std.proofs.Common.{◌∙◌, ap, rules, subst, refl, sym, inl, ◌∷◌, ◌+◌, drop, pos, slice_index_or, ◌<◌, length}
use Rattle.std.proofs.lemmas.List.{drop_more}
use Rattle.std.specs.BTreeMap.{get}
use Rattle.base_types.specs.Stores.{grain_cmp}
use Rattle.silo_nodes.specs.Packets.{Shift}
use Rattle.silo_nodes.specs.LogCache.{settled, ShiftsFit}
use Rattle.silo_nodes.proofs.Ledger.{room-rest}
use Rattle.silo_nodes.proofs.cells.settle.Goals as goal

pub settle_one-requires : goal.settle_one-requires
settle_one-requires c =
    let d : Shift = record { grain = record { kind = 0; key = 0 }; delta = pos 0 } in
    let lt : c.loop-shift.shift-index < length c.args.shifts.now = search rules in
    let room = subst (λ z. ShiftsFit z (get grain_cmp c.loop-shift.cells)) (drop_more c.args.shifts.now c.loop-shift.shift-index d lt) c.loop-shift.invariant.0 in
    record { room = room.fits (slice_index_or c.args.shifts.now c.loop-shift.shift-index d) (inl refl) }

pub loop-shift-preserved : goal.loop-shift-preserved
loop-shift-preserved c =
    let d : Shift = record { grain = record { kind = 0; key = 0 }; delta = pos 0 } in
    let lt : c.loop-shift.shift-index < length c.args.shifts.now = search rules in
    let split = drop_more c.args.shifts.now c.loop-shift.shift-index d lt in
    let x : Shift = slice_index_or c.args.shifts.now c.loop-shift.shift-index d in
    let room : ShiftsFit (x ∷ drop (c.loop-shift.shift-index + 1) c.args.shifts.now) (get grain_cmp c.loop-shift.cells) = subst (λ z. ShiftsFit z (get grain_cmp c.loop-shift.cells)) split c.loop-shift.invariant.0 in (
      room-rest x (drop (c.loop-shift.shift-index + 1) c.args.shifts.now) c.args.commit (get grain_cmp c.loop-shift.cells) (get grain_cmp c.settle_one.new.cells) room c.settle_one.ensures,
      λ g. ap (settled c.args.commit (drop (c.loop-shift.shift-index + 1) c.args.shifts.now) g) (c.settle_one.ensures g)
          ∙ ap (λ z. settled c.args.commit z g (get grain_cmp c.loop-shift.cells g)) (sym split) ∙ c.loop-shift.invariant.1 g,
    )
