use Rattle.std.proofs.Common.{rules}
use Rattle.std.proofs.lemmas.List.Sorted.{answers_always}
use Rattle.prepare_batch.proofs.Orders.{sorted_is_by_grain}
use Rattle.prepare_batch.proofs.pieces.sort_by_grain.Goals as goal

pub returns : goal.returns
returns c =
    sorted_is_by_grain _ _ (c.in_ok-sort_by_key.ensures.sorted (λ n. n.grain) (answers_always _ _ _ (λ f a r g h. search rules)))
    (c.in_ok-sort_by_key.ensures.stable (λ n. n.grain) (answers_always _ _ _ (λ f a r g h. search rules)))
