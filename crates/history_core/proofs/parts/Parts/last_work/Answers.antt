use Rattle.std.proofs.Common.{◌≡◌, ◌∙◌, sym, ap, Some, None, Option, Bor, slice_get}
use Rattle.std.specs.Option.{option_copied}
use Rattle.core_model.specs.CoreState.{Entry}
use Rattle.history_core.proofs.QuestionAnswers.{writes-is, written-is}
use Rattle.history_core.proofs.parts.Parts.last_work.Goals as goal

pub returns-in-None : goal.returns-in-None
returns-in-None c =
    let p = c.args.self.now in
    let none : slice_get p.entries.entries p.entries.emitted ≡ None = sym c.next.ensures ∙ ap (λ (o : Option (Bor Entry)). option_copied o) c.in-None.is in
    written-is p c.rest_work.result c.args.may none c.rest_work.ensures

pub returns-in_ok-entry-in-Some : goal.returns-in_ok-entry-in-Some
returns-in_ok-entry-in-Some c =
    let p = c.args.self.now in
    let some : slice_get p.entries.entries p.entries.emitted ≡ Some c.in_ok-entry-in-Some.entry =
    sym c.next.ensures ∙ (ap (λ (o : Option (Bor Entry)). option_copied o) c.in-Some.is ∙ ap (λ (x : Entry). Some x) (sym c.in_ok-entry-in-Some.ensures)) in
    writes-is p c.in_ok-entry-in-Some.entry c.args.may some
