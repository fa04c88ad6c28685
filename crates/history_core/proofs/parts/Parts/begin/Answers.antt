use Rattle.std.proofs.Common.{ap, None, rules}
use Rattle.core_model.specs.CoreState.{Units}
use Rattle.core_model.specs.declared.events.CoreEvent.TheVariants.{Begin}
use Rattle.core_model.specs.declared.events.CoreReply.TheVariants as reply
use Rattle.unit_table.specs.Rooms.{RoomToBegin}
use Rattle.history_core.specs.declared.parts.Parts.{Parts}
use Rattle.history_core.proofs.SameMeaning.{keeps-units, keeps-does}
use Rattle.history_core.proofs.Begins.{does-begin, line-counts}
use Rattle.history_core.proofs.parts.Parts.begin.Goals as goal

pub returns-then-is_err-clause-err : goal.returns-then-is_err-clause-err
returns-then-is_err-clause-err c = keeps-units c.args.self.now c.reserve_begin.new.self c.reserve_begin.ensures.same

pub begin-unit-requires-clause-line : goal.begin-unit-requires-clause-line
begin-unit-requires-clause-line c =
    line-counts c.reserve_begin.new.self c.args.self.now c.args.origin c.args.call c.args.plain c.requires.can (ap (λ (us : Units). us.lines) (c.reserve_begin.ensures.same.units (λ u. None))) c.fits_line.ensures

pub returns-clause-ok : goal.returns-clause-ok
returns-clause-ok c =
    let old = c.args.self.now in
    let mid : Parts = record old { units = c.reserve_begin.new.self } in
    let new : Parts = record old { units = c.begin-unit.new.self } in
    let room : RoomToBegin c.reserve_begin.new.self c.args.origin = search rules in
    keeps-does old mid (keeps-units old c.reserve_begin.new.self c.reserve_begin.ensures.same) (Begin c.args.origin c.args.call c.args.plain) (reply.Began c.begin-unit.result) new
    (does-begin mid c.args.origin c.args.call c.args.plain c.begin-unit.result c.begin-unit.new.self c.begin-unit.ensures.units c.begin-unit.ensures.verdict c.begin-unit.ensures.result c.begin-unit.ensures.number room.number)
