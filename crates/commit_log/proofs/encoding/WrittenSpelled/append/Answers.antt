use Rattle.std.proofs.Common.{◌∙◌, ◌++◌}
use Rattle.std.specs.Int.{w16, w32, w64, to_le_bytes}
use Rattle.field_codec.proofs.ByteGrowth.{begins_with, grows, grows_thrice}
use Rattle.commit_log.proofs.encoding.WrittenSpelled.append.Goals as goal

pub returns-in_err-put_u32-clause-begins : goal.returns-in_err-put_u32-clause-begins
returns-in_err-put_u32-clause-begins c = begins_with _ _ _ (c.in_err-put_u32.ensures ∙ c.in_ok-put_u16.ensures)

pub returns-in_err-put_u64-clause-begins : goal.returns-in_err-put_u64-clause-begins
returns-in_err-put_u64-clause-begins c =
    let kind = to_le_bytes w16 c.args.self.now.grain.kind in
    let key = to_le_bytes w32 c.args.self.now.grain.key in
    begins_with _ (kind ++ key) _ (c.in_err-put_u64.ensures ∙ grows _ kind _ key _ c.in_ok-put_u16.ensures c.in_ok-put_u32.ensures)

pub returns-in_err-put_u32-2-clause-begins : goal.returns-in_err-put_u32-2-clause-begins
returns-in_err-put_u32-2-clause-begins c =
    let kind = to_le_bytes w16 c.args.self.now.grain.kind in
    let key = to_le_bytes w32 c.args.self.now.grain.key in
    let offset = to_le_bytes w64 c.args.self.now.place.offset in
    begins_with _ (kind ++ (key ++ offset)) _ (c.in_err-put_u32-2.ensures ∙ grows_thrice _ kind _ key _ offset _ c.in_ok-put_u16.ensures c.in_ok-put_u32.ensures c.in_ok-put_u64.ensures)

pub returns-clause-ok : goal.returns-clause-ok
returns-clause-ok c =
    let kind = to_le_bytes w16 c.args.self.now.grain.kind in
    let key = to_le_bytes w32 c.args.self.now.grain.key in
    let offset = to_le_bytes w64 c.args.self.now.place.offset in
    let len = to_le_bytes w32 c.args.self.now.place.len in
    grows _ (kind ++ key) _ (offset ++ len) _ (grows _ kind _ key _ c.in_ok-put_u16.ensures c.in_ok-put_u32.ensures) (grows _ offset _ len _ c.in_ok-put_u64.ensures c.in_ok-put_u32-2.ensures)

pub returns-clause-begins : goal.returns-clause-begins
returns-clause-begins c =
    let kind = to_le_bytes w16 c.args.self.now.grain.kind in
    let key = to_le_bytes w32 c.args.self.now.grain.key in
    let offset = to_le_bytes w64 c.args.self.now.place.offset in
    let len = to_le_bytes w32 c.args.self.now.place.len in
    begins_with _ ((kind ++ key) ++ (offset ++ len)) _ (grows _ (kind ++ key) _ (offset ++ len) _ (grows _ kind _ key _ c.in_ok-put_u16.ensures c.in_ok-put_u32.ensures) (grows _ offset _ len _ c.in_ok-put_u64.ensures c.in_ok-put_u32-2.ensures))
