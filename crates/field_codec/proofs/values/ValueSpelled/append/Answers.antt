use Rattle.std.proofs.Common.{◌∙◌, ◌++◌, sym, ap}
use Rattle.base_types.specs.declared.calls.Value.{Value}
use Rattle.field_codec.specs.Spelling.{spelling_of_value}
use Rattle.field_codec.proofs.ByteGrowth.{begins_on, begins_with, grows}
use Rattle.field_codec.proofs.values.ValueSpelled.append.Goals as goal

pub returns-in_err-put_u64-in-Int-clause-begins : goal.returns-in_err-put_u64-in-Int-clause-begins
returns-in_err-put_u64-in-Int-clause-begins c = begins_with _ _ _ (c.in_err-put_u64-in-Int.ensures ∙ c.in_ok-push-in-Int.ensures.items)

pub returns-in_ok-put_u64-in-Int-clause-begins : goal.returns-in_ok-put_u64-in-Int-clause-begins
returns-in_ok-put_u64-in-Int-clause-begins c = begins_on _ _ _ _ c.in_ok-push-in-Int.ensures.items (begins_with _ _ _ c.in_ok-put_u64-in-Int.ensures)

pub returns-in_err-append_text-in-Text-clause-begins : goal.returns-in_err-append_text-in-Text-clause-begins
returns-in_err-append_text-in-Text-clause-begins c = begins_on _ _ _ _ c.in_ok-push-in-Text.ensures.items c.in_err-append_text-in-Text.ensures.begins

pub returns-in_ok-append_text-in-Text-clause-ok : goal.returns-in_ok-append_text-in-Text-clause-ok
returns-in_ok-append_text-in-Text-clause-ok c =
    grows _ _ _ _ _ c.in_ok-push-in-Text.ensures.items c.in_ok-append_text-in-Text.ensures.ok ∙ ap (λ (v : Value). c.args.into.now.items ++ spelling_of_value v) (sym c.in-Text.is)

pub returns-in_ok-append_text-in-Text-clause-begins : goal.returns-in_ok-append_text-in-Text-clause-begins
returns-in_ok-append_text-in-Text-clause-begins c = begins_on _ _ _ _ c.in_ok-push-in-Text.ensures.items c.in_ok-append_text-in-Text.ensures.begins
