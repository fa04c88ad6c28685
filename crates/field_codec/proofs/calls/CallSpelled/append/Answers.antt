use Rattle.std.proofs.Common.{◌∙◌, ◌++◌, ap, List}
use Rattle.std.specs.Int.{w16, w32, to_le_bytes}
use Rattle.base_types.specs.declared.calls.Value.{Value}
use Rattle.field_codec.specs.Spelling.{spelling_of_values}
use Rattle.field_codec.proofs.ByteGrowth.{begins_on, begins_with, grows, grows_thrice, grows_four_times}
use Rattle.field_codec.proofs.calls.CallSpelled.append.Goals as goal

pub returns-in_err-put_u32-clause-begins : goal.returns-in_err-put_u32-clause-begins
returns-in_err-put_u32-clause-begins c = begins_with _ _ _ (c.in_err-put_u32.ensures ∙ c.in_ok-put_u16.ensures)

pub returns-in_err-put_u16-2-clause-begins : goal.returns-in_err-put_u16-2-clause-begins
returns-in_err-put_u16-2-clause-begins c =
    let kind = to_le_bytes w16 c.args.self.now.grain.kind in
    let key = to_le_bytes w32 c.args.self.now.grain.key in
    begins_with _ (kind ++ key) _ (c.in_err-put_u16-2.ensures ∙ grows _ kind _ key _ c.in_ok-put_u16.ensures c.in_ok-put_u32.ensures)

pub returns-in_err-append_values-clause-begins : goal.returns-in_err-append_values-clause-begins
returns-in_err-append_values-clause-begins c =
    let kind = to_le_bytes w16 c.args.self.now.grain.kind in
    let key = to_le_bytes w32 c.args.self.now.grain.key in
    let method = to_le_bytes w16 c.args.self.now.method in
    begins_on _ (kind ++ (key ++ method)) _ _ (grows_thrice _ kind _ key _ method _ c.in_ok-put_u16.ensures c.in_ok-put_u32.ensures c.in_ok-put_u16-2.ensures) c.in_err-append_values.ensures.begins

pub returns-clause-ok : goal.returns-clause-ok
returns-clause-ok c =
    let kind = to_le_bytes w16 c.args.self.now.grain.kind in
    let key = to_le_bytes w32 c.args.self.now.grain.key in
    let method = to_le_bytes w16 c.args.self.now.method in
    grows_four_times _ kind _ key _ method _ (spelling_of_values c.as_slice.result.now) _ c.in_ok-put_u16.ensures c.in_ok-put_u32.ensures c.in_ok-put_u16-2.ensures c.in_ok-append_values.ensures.ok
    ∙ ap (λ (vs : List Value). c.args.into.now.items ++ (kind ++ (key ++ (method ++ spelling_of_values vs)))) c.as_slice.ensures

pub returns-clause-begins : goal.returns-clause-begins
returns-clause-begins c =
    let kind = to_le_bytes w16 c.args.self.now.grain.kind in
    let key = to_le_bytes w32 c.args.self.now.grain.key in
    let method = to_le_bytes w16 c.args.self.now.method in
    begins_on _ (kind ++ (key ++ method)) _ _ (grows_thrice _ kind _ key _ method _ c.in_ok-put_u16.ensures c.in_ok-put_u32.ensures c.in_ok-put_u16-2.ensures) c.in_ok-append_values.ensures.begins
