use Rattle.std.proofs.Common.{◌≡◌, ◌∙◌, ◌&&◌, ◌||◌, true, false, not, sym, ap, refl}
use Rattle.std.specs.Prelude.{is_some}
use Rattle.core_model.specs.Events.{applies}
use Rattle.core_model.specs.declared.events.CoreEvent.TheVariants.{Take}
use Rattle.history_core.specs.Questions.{wanted_in}
use Rattle.history_core.proofs.QuestionAnswers.{rest-has, rests-has, unlearnt-has}
use Rattle.history_core.proofs.parts.Parts.has_work.Goals as goal

pub returns-then-is_some-2 : goal.returns-then-is_some-2
returns-then-is_some-2 c = λ w s r.
    unlearnt-has c.args.self.now w s (sym c.is_some.ensures ∙ c.if-is_some.false) (sym c.has_next.ensures ∙ c.if-has_next.false) c.if-self.false (ap is_some (sym c.first.ensures) ∙ sym c.is_some-2.ensures ∙ c.if-is_some-2.true)

pub returns-then-is_some-3 : goal.returns-then-is_some-3
returns-then-is_some-3 c = λ w s r.
    let p = c.args.self.now in
    let t = applies w Take in
    let wanted : is_some c.next_wanted.result ≡ true = sym c.is_some-then-not-is_halted.ensures ∙ c.if-is_some-3.true in
    c.if-is_some-3.true ∙ (λ i. not (sym c.if-not-is_halted.true i) && (sym wanted i || t))
    ∙ rests-has p w (not c.is_halted.result && (is_some c.next_wanted.result || t)) s (sym c.is_some.ensures ∙ c.if-is_some.false) (sym c.has_next.ensures ∙ c.if-has_next.false) c.if-self.false (ap is_some (sym c.first.ensures) ∙ sym c.is_some-2.ensures ∙ c.if-is_some-2.false)
    (rest-has p w c.is_halted.result (is_some c.next_wanted.result) t s c.is_halted.ensures (ap is_some c.next_wanted.ensures) refl)

pub returns-else-is_some-3 : goal.returns-else-is_some-3
returns-else-is_some-3 c = λ w s r.
    let p = c.args.self.now in
    let t = c.can_take.result in
    let none : is_some c.next_wanted.result ≡ false = sym c.is_some-then-not-is_halted.ensures ∙ c.if-is_some-3.false in
    (λ i. not (sym c.if-not-is_halted.true i) && (sym none i || t))
    ∙ rests-has p w (not c.is_halted.result && (is_some c.next_wanted.result || t)) s (sym c.is_some.ensures ∙ c.if-is_some.false) (sym c.has_next.ensures ∙ c.if-has_next.false) c.if-self.false (ap is_some (sym c.first.ensures) ∙ sym c.is_some-2.ensures ∙ c.if-is_some-2.false)
    (rest-has p w c.is_halted.result (is_some c.next_wanted.result) t s c.is_halted.ensures (ap is_some c.next_wanted.ensures) (c.can_take.ensures w s r))

pub returns-else-not-is_halted : goal.returns-else-not-is_halted
returns-else-not-is_halted c = λ w s r.
    let p = c.args.self.now in
    let wanted = is_some (wanted_in p) in
    let t = applies w Take in
    ap not c.if-not-is_halted.false ∙ (λ i. not (sym c.if-not-is_halted.false i) && (wanted || t))
    ∙ rests-has p w (not c.is_halted.result && (wanted || t)) s (sym c.is_some.ensures ∙ c.if-is_some.false) (sym c.has_next.ensures ∙ c.if-has_next.false) c.if-self.false (ap is_some (sym c.first.ensures) ∙ sym c.is_some-2.ensures ∙ c.if-is_some-2.false)
    (rest-has p w c.is_halted.result wanted t s c.is_halted.ensures refl refl)
