use Rattle.std.proofs.Common.{◌∙◌, ◌++◌, sym, ap}
use Rattle.base_types.specs.declared.calls.Outcome.{Outcome}
use Rattle.field_codec.specs.Spelling.{spelling_of_outcome}
use Rattle.field_codec.proofs.ByteGrowth.{begins_on, begins_with, grows}
use Rattle.field_codec.proofs.outcomes.OutcomeSpelled.append.Goals as goal

pub returns-in_ok-push-in-Aborted-clause-begins : goal.returns-in_ok-push-in-Aborted-clause-begins
returns-in_ok-push-in-Aborted-clause-begins c = begins_with _ _ _ c.in_ok-push-in-Aborted.ensures.items

pub returns-in_err-append-in-Value-clause-begins : goal.returns-in_err-append-in-Value-clause-begins
returns-in_err-append-in-Value-clause-begins c = begins_on _ _ _ _ c.in_ok-push-in-Value.ensures.items c.in_err-append-in-Value.ensures.begins

pub returns-in_ok-append-in-Value-clause-ok : goal.returns-in_ok-append-in-Value-clause-ok
returns-in_ok-append-in-Value-clause-ok c =
    grows _ _ _ _ _ c.in_ok-push-in-Value.ensures.items c.in_ok-append-in-Value.ensures.ok ∙ ap (λ (o : Outcome). c.args.into.now.items ++ spelling_of_outcome o) (sym c.in-Value.is)

pub returns-in_ok-append-in-Value-clause-begins : goal.returns-in_ok-append-in-Value-clause-begins
returns-in_ok-append-in-Value-clause-begins c = begins_on _ _ _ _ c.in_ok-push-in-Value.ensures.items c.in_ok-append-in-Value.ensures.begins

pub returns-in_err-append_text-in-Fault-clause-begins : goal.returns-in_err-append_text-in-Fault-clause-begins
returns-in_err-append_text-in-Fault-clause-begins c = begins_on _ _ _ _ c.in_ok-push-in-Fault.ensures.items c.in_err-append_text-in-Fault.ensures.begins

pub returns-in_ok-append_text-in-Fault-clause-ok : goal.returns-in_ok-append_text-in-Fault-clause-ok
returns-in_ok-append_text-in-Fault-clause-ok c =
    grows _ _ _ _ _ c.in_ok-push-in-Fault.ensures.items c.in_ok-append_text-in-Fault.ensures.ok ∙ ap (λ (o : Outcome). c.args.into.now.items ++ spelling_of_outcome o) (sym c.in-Fault.is)

pub returns-in_ok-append_text-in-Fault-clause-begins : goal.returns-in_ok-append_text-in-Fault-clause-begins
returns-in_ok-append_text-in-Fault-clause-begins c = begins_on _ _ _ _ c.in_ok-push-in-Fault.ensures.items c.in_ok-append_text-in-Fault.ensures.begins
