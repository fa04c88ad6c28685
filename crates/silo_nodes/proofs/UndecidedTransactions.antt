-- The undecided transactions of a log with one more entry.
use Rattle.std.proofs.Common.{◌≡◌, List, [], ◌∷◌, ◌++◌, Bool, true, false, not, inl, inr, refl, sym, ap, ◌∙◌, subst, filter}
use Rattle.std.specs.Prelude.{◌||◌, if◌then◌else◌}
use Rattle.std.proofs.lemmas.Bool.{cases_Bool}
use Rattle.silo_nodes.specs.Packets.{TxnId, Shift, NodeEntry, Prepared, Done, same_txn}
use Rattle.silo_nodes.specs.Logs.{ends, is_done, undecided, others}
use Rattle.silo_nodes.proofs.Lists.{same_txn-true, same_txn-is, clash, any-last, any-grows, any-member, Member-last}

same-back : (a b : TxnId) → same_txn a b ≡ false → same_txn b a ≡ false
same-back a b h = elim (cases_Bool (same_txn b a)) [ inl k ↦ clash (same_txn a b) (same_txn-is a b (sym (same_txn-true b a k))) h | inr k ↦ k ]

-- a log that ends the same transactions has the same undecided ones
undecided-same : (log log' : List NodeEntry) (es : List NodeEntry) → ((u : TxnId) → is_done log' u ≡ is_done log u) → undecided log' es ≡ undecided log es
undecided-same log log' [] h = refl
undecided-same log log' (Prepared u r ∷ es) h = (λ i. if h u i then undecided-same log log' es h i else u ∷ undecided-same log log' es h i)
undecided-same log log' (Done u c ∷ es) h = undecided-same log log' es h

-- one more entry that prepares a transaction
undecided-last : (log es : List NodeEntry) (t : TxnId) (s : List Shift) → is_done log t ≡ false → undecided log (es ++ Prepared t s ∷ []) ≡ undecided log es ++ t ∷ []
undecided-last log [] t s d = ap (λ b. if b then [] else t ∷ []) d
undecided-last log (Prepared u r ∷ es) t s d = elim (cases_Bool (is_done log u)) [
  | inl h ↦ ap (λ b. if b then undecided log (es ++ Prepared t s ∷ []) else u ∷ undecided log (es ++ Prepared t s ∷ [])) h ∙ undecided-last log es t s d
      ∙ sym (ap (λ b. (if b then undecided log es else u ∷ undecided log es) ++ t ∷ []) h)
  | inr h ↦ ap (λ b. if b then undecided log (es ++ Prepared t s ∷ []) else u ∷ undecided log (es ++ Prepared t s ∷ [])) h ∙ ap (λ l. u ∷ l) (undecided-last log es t s d)
      ∙ sym (ap (λ b. (if b then undecided log es else u ∷ undecided log es) ++ t ∷ []) h)
]
undecided-last log (Done u c ∷ es) t s d = undecided-last log es t s d

pub undecided-prepared : (log : List NodeEntry) (t : TxnId) (s : List Shift) → is_done log t ≡ false →
    undecided (log ++ Prepared t s ∷ []) (log ++ Prepared t s ∷ []) ≡ undecided log log ++ t ∷ []
undecided-prepared log t s d =
    undecided-same log (log ++ Prepared t s ∷ []) (log ++ Prepared t s ∷ []) (λ u. any-last (ends u) log (Prepared t s) refl) ∙ undecided-last log log t s d

-- one more entry that ends a transaction
undecided-ended : (log es : List NodeEntry) (t : TxnId) (c : Bool) → undecided (log ++ Done t c ∷ []) es ≡ others t (undecided log es)
undecided-ended log [] t c = refl
undecided-ended log (Prepared u r ∷ es) t c = elim (cases_Bool (is_done log u)) [
  | inl h ↦ ap (λ b. if b then undecided all es else u ∷ undecided all es) (any-grows (ends u) log (Done t c) h) ∙ undecided-ended log es t c
      ∙ sym (ap (λ b. others t (if b then undecided log es else u ∷ undecided log es)) h)
  | inr h ↦ elim (cases_Bool (same_txn t u)) [
    | inl q ↦ ap (λ b. if b then undecided all es else u ∷ undecided all es) (any-member (ends u) all (Done t c) (Member-last (Done t c) log) q) ∙ undecided-ended log es t c
        ∙ sym (ap (λ b. if not b then u ∷ others t (undecided log es) else others t (undecided log es)) (same_txn-is u t (sym (same_txn-true t u q))))
        ∙ sym (ap (λ b. others t (if b then undecided log es else u ∷ undecided log es)) h)
    | inr q ↦ ap (λ b. if b then undecided all es else u ∷ undecided all es) (any-last (ends u) log (Done t c) q ∙ h) ∙ ap (λ l. u ∷ l) (undecided-ended log es t c)
        ∙ sym (ap (λ b. if not b then u ∷ others t (undecided log es) else others t (undecided log es)) (same-back t u q))
        ∙ sym (ap (λ b. others t (if b then undecided log es else u ∷ undecided log es)) h)
  ]
]
  where
    all : List NodeEntry
    all = log ++ Done t c ∷ []
undecided-ended log (Done u d ∷ es) t c = undecided-ended log es t c

undecided-extra : (log es : List NodeEntry) (t : TxnId) (c : Bool) → undecided log (es ++ Done t c ∷ []) ≡ undecided log es
undecided-extra log [] t c = refl
undecided-extra log (Prepared u r ∷ es) t c = (λ i. if is_done log u then undecided-extra log es t c i else u ∷ undecided-extra log es t c i)
undecided-extra log (Done u d ∷ es) t c = undecided-extra log es t c

pub undecided-done : (log : List NodeEntry) (t : TxnId) (c : Bool) → undecided (log ++ Done t c ∷ []) (log ++ Done t c ∷ []) ≡ others t (undecided log log)
undecided-done log t c = undecided-extra (log ++ Done t c ∷ []) log t c ∙ undecided-ended log log t c
