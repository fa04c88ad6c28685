use Rattle.std.proofs.Common.{◌∙◌, ◌++◌, ◌∷◌, [], sym, ap}
use Rattle.std.specs.Int.{w16, w32, w64, to_le_bytes}
use Rattle.base_types.specs.declared.calls.Origin.{Origin}
use Rattle.field_codec.specs.Spelling.{spelling_of_origin}
use Rattle.field_codec.proofs.ByteGrowth.{begins_with, grows, grows_thrice, grows_four_times}
use Rattle.field_codec.proofs.origins.OriginSpelled.append.Goals as goal

pub returns-in_err-put_u32-in-Line-clause-begins : goal.returns-in_err-put_u32-in-Line-clause-begins
returns-in_err-put_u32-in-Line-clause-begins c = begins_with _ _ _ (c.in_err-put_u32-in-Line.ensures ∙ c.in_ok-push-in-Line.ensures.items)

pub returns-in_ok-put_u32-in-Line-clause-ok : goal.returns-in_ok-put_u32-in-Line-clause-ok
returns-in_ok-put_u32-in-Line-clause-ok c =
    grows _ (0 ∷ []) _ (to_le_bytes w32 c.in-Line.line) _ c.in_ok-push-in-Line.ensures.items c.in_ok-put_u32-in-Line.ensures
    ∙ ap (λ (o : Origin). c.args.into.now.items ++ spelling_of_origin o) (sym c.in-Line.is)

pub returns-in_ok-put_u32-in-Line-clause-begins : goal.returns-in_ok-put_u32-in-Line-clause-begins
returns-in_ok-put_u32-in-Line-clause-begins c =
    begins_with _ (0 ∷ to_le_bytes w32 c.in-Line.line) _ (grows _ (0 ∷ []) _ (to_le_bytes w32 c.in-Line.line) _ c.in_ok-push-in-Line.ensures.items c.in_ok-put_u32-in-Line.ensures)

pub returns-in_err-put_u64-in-Child-clause-begins : goal.returns-in_err-put_u64-in-Child-clause-begins
returns-in_err-put_u64-in-Child-clause-begins c = begins_with _ _ _ (c.in_err-put_u64-in-Child.ensures ∙ c.in_ok-push-in-Child.ensures.items)

pub returns-in_err-put_u32-in-Child-clause-begins : goal.returns-in_err-put_u32-in-Child-clause-begins
returns-in_err-put_u32-in-Child-clause-begins c =
    let parent = to_le_bytes w64 c.in-Child.parent.0 in
    begins_with _ (1 ∷ parent) _ (c.in_err-put_u32-in-Child.ensures ∙ grows _ (1 ∷ []) _ parent _ c.in_ok-push-in-Child.ensures.items c.in_ok-put_u64-in-Child.ensures)

pub returns-in_err-put_u16-in-Child-clause-begins : goal.returns-in_err-put_u16-in-Child-clause-begins
returns-in_err-put_u16-in-Child-clause-begins c =
    let parent = to_le_bytes w64 c.in-Child.parent.0 in
    let index = to_le_bytes w32 c.in-Child.index in
    begins_with _ (1 ∷ parent ++ index) _
    (c.in_err-put_u16-in-Child.ensures ∙ grows_thrice _ (1 ∷ []) _ parent _ index _ c.in_ok-push-in-Child.ensures.items c.in_ok-put_u64-in-Child.ensures c.in_ok-put_u32-in-Child.ensures)

pub returns-in_ok-put_u16-in-Child-clause-ok : goal.returns-in_ok-put_u16-in-Child-clause-ok
returns-in_ok-put_u16-in-Child-clause-ok c =
    grows_four_times _ (1 ∷ []) _ (to_le_bytes w64 c.in-Child.parent.0) _ (to_le_bytes w32 c.in-Child.index) _ (to_le_bytes w16 c.in-Child.depth) _
    c.in_ok-push-in-Child.ensures.items c.in_ok-put_u64-in-Child.ensures c.in_ok-put_u32-in-Child.ensures c.in_ok-put_u16-in-Child.ensures
    ∙ ap (λ (o : Origin). c.args.into.now.items ++ spelling_of_origin o) (sym c.in-Child.is)

pub returns-in_ok-put_u16-in-Child-clause-begins : goal.returns-in_ok-put_u16-in-Child-clause-begins
returns-in_ok-put_u16-in-Child-clause-begins c =
    let parent = to_le_bytes w64 c.in-Child.parent.0 in
    let index = to_le_bytes w32 c.in-Child.index in
    let depth = to_le_bytes w16 c.in-Child.depth in
    begins_with _ (1 ∷ parent ++ (index ++ depth)) _
    (grows_four_times _ (1 ∷ []) _ parent _ index _ depth _ c.in_ok-push-in-Child.ensures.items c.in_ok-put_u64-in-Child.ensures c.in_ok-put_u32-in-Child.ensures c.in_ok-put_u16-in-Child.ensures)
