use Rattle.std.proofs.Common.{◌∙◌, ◌++◌, ap, List}
use Rattle.std.specs.Int.{w64, to_le_bytes}
use Rattle.base_types.specs.declared.calls.Value.{Value}
use Rattle.field_codec.specs.Spelling.{spelling_of_values}
use Rattle.field_codec.proofs.ByteGrowth.{begins_on, grows}
use Rattle.field_codec.proofs.versions.VersionSpelled.append.Goals as goal

pub returns-in_err-append_values-clause-begins : goal.returns-in_err-append_values-clause-begins
returns-in_err-append_values-clause-begins c = begins_on _ _ _ _ c.in_ok-put_u64.ensures c.in_err-append_values.ensures.begins

pub returns-clause-ok : goal.returns-clause-ok
returns-clause-ok c =
    let unit = to_le_bytes w64 c.args.self.now.unit.0 in
    grows _ unit _ (spelling_of_values c.as_slice.result.now) _ c.in_ok-put_u64.ensures c.in_ok-append_values.ensures.ok
    ∙ ap (λ (vs : List Value). c.args.into.now.items ++ (unit ++ spelling_of_values vs)) c.as_slice.ensures

pub returns-clause-begins : goal.returns-clause-begins
returns-clause-begins c = begins_on _ _ _ _ c.in_ok-put_u64.ensures c.in_ok-append_values.ensures.begins
