use Rattle.core_model.specs.declared.events.CoreEvent.TheVariants.{Want}
use Rattle.core_model.specs.declared.events.CoreReply.TheVariants as reply
use Rattle.history_core.proofs.OtherEvents.{does-want}
use Rattle.history_core.proofs.SameMeaning.{keeps-units, keeps-does, always-err}
use Rattle.history_core.specs.declared.parts.Parts.{Parts}
use Rattle.history_core.proofs.parts.Parts.want.Goals as goal

pub returns-in_err-reserve_want-clause-err : goal.returns-in_err-reserve_want-clause-err
returns-in_err-reserve_want-clause-err c = always-err c.from_residual.result _ (keeps-units c.args.self.now c.reserve_want.new.self c.reserve_want.ensures.same)

pub returns-clause-ok : goal.returns-clause-ok
returns-clause-ok c =
    let old = c.args.self.now in
    let mid : Parts = record old { units = c.reserve_want.new.self } in
    let new : Parts = record old { units = c.want.new.self } in
    keeps-does old mid (keeps-units old c.reserve_want.new.self c.reserve_want.ensures.same) (Want c.args.unit c.args.grain) reply.Done new
    (does-want mid c.args.unit c.args.grain c.want.new.self c.want.ensures.units c.want.ensures.verdict c.want.ensures.result)
