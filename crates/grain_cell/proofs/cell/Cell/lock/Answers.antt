use Rattle.std.proofs.Common.{◌≡◌, ◌≤◌, ◌-◌, ◌∙◌, arith, ap}
use Rattle.std.specs.Prelude.{min, vec_len, vec_capacity}
use Rattle.std.proofs.Math.Nat.{min-le_left}
use Rattle.cell_model.specs.Locks.{granted}
use Rattle.grain_cell.specs.Room.{CellInRoom, updates}
use Rattle.grain_cell.proofs.Rooms.{granted-room}
use Rattle.grain_cell.proofs.cell.Cell.lock.Goals as goal

pub invariant_of-self : goal.invariant_of-self
invariant_of-self c =
    let holds : c.self.inside.locks.holds ≡ c.args.self.now.cell.holds = ap (λ (x : CellInRoom). x.cell.holds) c.self.view_is in
    let now : updates c.grant.new.self.holds ≡ updates (granted c.args.self.now.cell.holds c.args.unit c.args.mode) = ap updates c.grant.ensures.holds ∙ ap (λ hs. updates (granted hs c.args.unit c.args.mode)) holds in
    let room = granted-room c.args.self.now.cell.holds c.args.unit c.args.mode c.requires.free in
    let spare = ap (λ (x : CellInRoom). x.spare) c.self.view_is in
    let least = min-le_left c.self.inside.stack.spare (min c.self.inside.locks.spare (vec_capacity c.self.inside.readings - vec_len c.self.inside.readings)) in
    let some = c.requires.room in
    let fits : updates c.grant.new.self.holds ≤ c.self.inside.stack.spare = omega (arith, now, room, spare, least, some) in
    fits
