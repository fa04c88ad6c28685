use Rattle.std.proofs.Common.{◌≡◌, ◌∙◌, ◌++◌, sym, ap, arith, List, Some}
use Rattle.core_model.specs.CoreState.{Entry}
use Rattle.core_model.specs.Changes.{refusal, entry_for}
use Rattle.core_model.specs.Tests.{ask_answer}
use Rattle.core_model.specs.declared.events.CoreEvent.TheVariants.{Refuse}
use Rattle.core_model.specs.declared.events.CoreReply.TheVariants as reply
use Rattle.history_core.specs.declared.parts.Parts.{Parts}
use Rattle.history_core.proofs.SameMeaning.{keeps-entries, keeps-does, always-err}
use Rattle.history_core.proofs.Endings.{changes-refuse, does-refuse, refuse-some}
use Rattle.history_core.proofs.Grants.{ask-is}
use Rattle.history_core.proofs.parts.Parts.refuse.Goals as goal

pub returns-in_err-reserve-clause-err : goal.returns-in_err-reserve-clause-err
returns-in_err-reserve-clause-err c = always-err c.from_residual.result _ (keeps-entries c.args.self.now c.reserve.new.self c.reserve.ensures.entries c.reserve.ensures.emitted c.reserve.ensures.spare)

pub unreachable-requires : goal.unreachable-requires
unreachable-requires c =
    let old = c.args.self.now in
    let t = refuse-some old c.args.unit c.args.grain c.args.mode c.requires.can in
    c.in_default.not-Some t.0 (c.cause_of.ensures ∙ ap (refusal c.args.grain) c.ask.ensures ∙ t.1)

pub returns-clause-ok : goal.returns-clause-ok
returns-clause-ok c =
    let old = c.args.self.now in
    let mid : Parts = record old { entries = c.reserve.new.self } in
    let new : Parts = record old { units = c.refuse.new.self; entries = c.settle.new.entries; cells = c.evict_wanted.new.self } in
    let kept = c.reserve.ensures in
    let changes = changes-refuse mid c.args.unit c.args.grain c.args.mode c.in-Some.why c.origin-origin.result c.refuse.new.self c.settle.new.entries
    (λ w s r. sym c.in-Some.is ∙ c.cause_of.ensures ∙ ap (refusal c.args.grain) (c.ask.ensures ∙ ask-is mid w c.args.unit c.args.grain c.args.mode s r))
    (λ w s. c.origin-origin.ensures ∙ (λ i. (sym s.units i).origin c.args.unit))
    c.refuse.ensures.units c.refuse.ensures.verdict c.refuse.ensures.result
    c.settle.ensures.entries c.settle.ensures.emitted
    (omega (arith, c.settle.ensures.spare, c.in_ok-reserve.ensures.ok, c.owed-room.ensures.size)) in
    keeps-does old mid (keeps-entries old c.reserve.new.self kept.entries kept.emitted kept.spare) (Refuse c.args.unit c.args.grain c.args.mode) reply.Done new
    (does-refuse mid c.args.unit c.args.grain c.args.mode c.refuse.new.self c.settle.new.entries c.evict_wanted.new.self c.wants.result.now changes c.refuse.ensures.units c.wants.ensures
    c.evict_wanted.ensures.evicts c.evict_wanted.ensures.recent c.evict_wanted.ensures.opens)
