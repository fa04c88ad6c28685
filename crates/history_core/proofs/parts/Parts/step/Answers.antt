use Rattle.std.proofs.Common.{◌≡◌, ◌∙◌, sym, refl}
use Rattle.core_model.specs.CoreState.{CoreState}
use Rattle.history_core.proofs.OneEvent.{takes-done, takes-not}
use Rattle.history_core.proofs.SameMeaning.{if-ok}
use Rattle.history_core.proofs.parts.Parts.step.Goals as goal

pub returns-then-not-applies-clause-ok : goal.returns-then-not-applies-clause-ok
returns-then-not-applies-clause-ok c =
    takes-not c.args.self.now c.args.event c.applies.result c.let_go.result c.applies.ensures c.if-not-applies.true (λ w s r a. c.let_go.ensures w s r a)

pub apply-requires : goal.apply-requires
apply-requires c =
    let k = c.requires.kept in
    record { can = (k.0, k.1, k.2, sym (c.applies.ensures k.0 k.1 k.2) ∙ c.if-not-applies.false) }

pub returns-clause-ok : goal.returns-clause-ok
returns-clause-ok c =
    if-ok c.apply.result _ _ (λ reply d. takes-done c.args.self.now c.apply.new.self c.args.event c.applies.result reply c.applies.ensures c.if-not-applies.false d) c.apply.ensures.ok
