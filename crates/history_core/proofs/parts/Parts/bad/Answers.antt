use Rattle.std.proofs.Common.{◌≡◌, ◌∙◌, ◌++◌, ◌∷◌, [], List, sym, ap, arith}
use Rattle.base_types.specs.declared.entries.Settled.TheVariants as settled
use Rattle.core_model.specs.CoreState.{Entry, nobody}
use Rattle.history_core.proofs.OtherEvents.{does-bad}
use Rattle.history_core.proofs.SameMeaning.{keeps-entries, always-err}
use Rattle.history_core.proofs.parts.Parts.bad.Goals as goal

pub returns-in_err-reserve-clause-err : goal.returns-in_err-reserve-clause-err
returns-in_err-reserve-clause-err c = always-err c.from_residual.result _ (keeps-entries c.args.self.now c.reserve.new.self c.reserve.ensures.entries c.reserve.ensures.emitted c.reserve.ensures.spare)

pub returns-clause-ok : goal.returns-clause-ok
returns-clause-ok c =
    let x : Entry = record { line = c.args.line; unit = nobody; what = settled.Bad c.args.why } in
    does-bad c.args.self.now c.args.line c.args.why c.bad_line.new.self c.push.new.self
    c.bad_line.ensures.units c.bad_line.ensures.verdict c.bad_line.ensures.result
    (c.push.ensures.entries ∙ ap (λ (xs : List Entry). xs ++ x ∷ []) c.reserve.ensures.entries)
    (c.push.ensures.emitted ∙ c.reserve.ensures.emitted)
    (omega (arith, c.push.ensures.spare, c.in_ok-reserve.ensures.ok, c.owed-room.ensures.size))
