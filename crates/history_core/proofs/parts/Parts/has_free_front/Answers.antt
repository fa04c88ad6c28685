use Rattle.std.proofs.Common.{◌≡◌, ◌∙◌, sym, ap, Option, Some, None, Bor, List}
use Rattle.std.specs.Prelude.{slice_get}
use Rattle.std.specs.Option.{option_copied}
use Rattle.open_batch.specs.declared.members.FinishedUnit.{FinishedUnit}
use Rattle.history_core.proofs.Takes.{first-front, free-by, none-front}
use Rattle.history_core.proofs.parts.Parts.has_free_front.Goals as goal

pub returns-in-None : goal.returns-in-None
returns-in-None c = λ w s.
    none-front c.args.self.now w s (ap (λ (ms : List FinishedUnit). slice_get ms 0) (sym c.deref.ensures.value) ∙ sym c.first.ensures.value ∙ ap (λ (o : Option (Bor FinishedUnit)). option_copied o) c.in-None.is)

pub returns-in-Some : goal.returns-in-Some
returns-in-Some c = λ w s.
    free-by c.args.self.now c.in-Some.member.now.effect c.is_free.result c.as_slice.result.now c.is_free.ensures c.as_slice.ensures
    ∙ first-front c.args.self.now w c.in-Some.member.now s (ap (λ (ms : List FinishedUnit). slice_get ms 0) (sym c.deref.ensures.value) ∙ sym c.first.ensures.value ∙ ap (λ (o : Option (Bor FinishedUnit)). option_copied o) c.in-Some.is)
