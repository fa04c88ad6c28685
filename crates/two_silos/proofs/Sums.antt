-- Sums over the coordinator's commits.
use Rattle.std.proofs.Common.{◌≡◌, List, [], ◌∷◌, ◌++◌, true, false, inl, inr, refl, sym, ap, ◌∙◌, subst, arith}
use Rattle.std.specs.Prelude.{ℤ, pos, ◌+ℤ◌, ◌&&◌, if◌then◌else◌}
use Rattle.std.proofs.lemmas.Int.{ints}
use Rattle.std.proofs.lemmas.Bool.{cases_Bool, and_parts, and_from}
use Rattle.two_silos.specs.Nodes.{Done, GrainId, NodeEntry, Prepared, TxnId}
use Rattle.silo_nodes.specs.Packets.{same_txn, delta, Member, Distinct}
use Rattle.silo_nodes.specs.Logs.{commits, is_prepared, is_committed, shifts_of}
use Rattle.two_silos.specs.Promise.{commit_moves, in_order}
use Rattle.silo_nodes.proofs.Lists.{same_txn-true, same_txn-self, same_txn-not, Member-last, any-true, any-member, any-last}
use Rattle.silo_nodes.proofs.Logs.{plus_first, shifts-stay}

pub plus_swap : (a b c : ℤ) → (a +ℤ b) +ℤ c ≡ (a +ℤ c) +ℤ b
plus_swap a b c = omega (arith, ints)

-- what is committed is done as committed
pub committed-member : (t : TxnId) (log : List NodeEntry) → is_committed log t ≡ true → Member (Done t true) log
committed-member t log e = (let x = any-true (commits t) log e in go x.0 x.1 x.2)
  where
    go : (x : NodeEntry) → Member x log → commits t x ≡ true → Member (Done t true) log
    go (Prepared u s) m e = cc
    go (Done u c) m e =
        let p = and_parts (same_txn u t) c e in
        let q : Done u c ≡ Done t true = (λ i. Done (same_txn-true u t p.0 i) (p.1 i)) in
        subst (λ z. Member z log) q m

pub committed-is : (t : TxnId) (log : List NodeEntry) → Member (Done t true) log → is_committed log t ≡ true
committed-is t log m = any-member (commits t) log (Done t true) m (and_from _ _ (same_txn-self t) refl)

-- an entry that doesn't commit the transaction
pub commit-stay : (g : GrainId) (log : List NodeEntry) (e : NodeEntry) (u : TxnId) → (is_committed log u ≡ true → is_prepared log u ≡ true) → commits u e ≡ false →
    commit_moves g (log ++ e ∷ []) u ≡ commit_moves g log u
commit-stay g log e u was non =
    ap (λ b. if b then delta g (shifts_of u (log ++ e ∷ [])) else pos 0) (any-last (commits u) log e non)
    ∙ elim (cases_Bool (is_committed log u)) [
      | inl h ↦ ap (λ s. if is_committed log u then delta g s else pos 0) (shifts-stay u log (e ∷ []) (was h))
      | inr h ↦ ap (λ b. if b then delta g (shifts_of u (log ++ e ∷ [])) else pos 0) h ∙ sym (ap (λ b. if b then delta g (shifts_of u log) else pos 0) h)
    ]

pub order-stay : (g : GrainId) (log : List NodeEntry) (e : NodeEntry) (ts : List TxnId) → ((u : TxnId) → is_committed log u ≡ true → is_prepared log u ≡ true) → ((u : TxnId) → Member u ts → commits u e ≡ false) →
    in_order g (log ++ e ∷ []) ts ≡ in_order g log ts
order-stay g log e [] was non = refl
order-stay g log e (t ∷ ts) was non = (λ i. commit-stay g log e t (was t) (non t (inl refl)) i +ℤ order-stay g log e ts was (λ u m. non u (inr m)) i)

-- an entry that commits one of them
pub order-more : (g : GrainId) (log : List NodeEntry) (t : TxnId) (ts : List TxnId) → ((u : TxnId) → is_committed log u ≡ true → is_prepared log u ≡ true) →
    is_committed log t ≡ false → is_prepared log t ≡ true → Distinct ts → Member t ts →
    in_order g (log ++ Done t true ∷ []) ts ≡ in_order g log ts +ℤ delta g (shifts_of t log)
order-more g log t [] was fresh prep d m = absurd m
order-more g log t (u ∷ ts) was fresh prep d (inl e) =
    let now : commit_moves g (log ++ Done t true ∷ []) t ≡ delta g (shifts_of t log) =
    ap (λ b. if b then delta g (shifts_of t (log ++ Done t true ∷ [])) else pos 0) (committed-is t (log ++ Done t true ∷ []) (Member-last (Done t true) log)) ∙ ap (delta g) (shifts-stay t log (Done t true ∷ []) prep) in
    let before : commit_moves g log t ≡ pos 0 = ap (λ b. if b then delta g (shifts_of t log) else pos 0) fresh in
    let rest : in_order g (log ++ Done t true ∷ []) ts ≡ in_order g log ts =
    order-stay g log (Done t true) ts was (λ v n. elim (cases_Bool (same_txn t v)) [
      | inl h ↦ absurd (d.0 (subst (λ z. Member z ts) (sym (same_txn-true t v h) ∙ e) n))
      | inr h ↦ ap (λ b. b && true) h
    ]) in
    let sum : (a b c : ℤ) → a ≡ pos 0 → c +ℤ b ≡ (a +ℤ b) +ℤ c = (λ a b c z. omega (arith, ints, z)) in
    subst (λ v. commit_moves g (log ++ Done t true ∷ []) v +ℤ in_order g (log ++ Done t true ∷ []) ts ≡ (commit_moves g log v +ℤ in_order g log ts) +ℤ delta g (shifts_of t log)) e
    ((λ i. now i +ℤ rest i) ∙ sum (commit_moves g log t) (in_order g log ts) (delta g (shifts_of t log)) before)
order-more g log t (u ∷ ts) was fresh prep d (inr m) =
    let apart : same_txn t u ≡ false = same_txn-not t u (λ q. d.0 (subst (λ z. Member z ts) q m)) in
    (λ i. commit-stay g log (Done t true) u (was u) (ap (λ b. b && true) apart) i +ℤ order-more g log t ts was fresh prep d.1 m i)
    ∙ plus_first (commit_moves g log u) (in_order g log ts) (delta g (shifts_of t log))

-- one more commit
pub order-last : (g : GrainId) (log : List NodeEntry) (ts : List TxnId) (t : TxnId) → in_order g log (ts ++ t ∷ []) ≡ in_order g log ts +ℤ commit_moves g log t
order-last g log [] t = (let d : ℤ = commit_moves g log t in let q : d +ℤ pos 0 ≡ pos 0 +ℤ d = omega (arith, ints) in q)
order-last g log (u ∷ ts) t = ap (λ d. commit_moves g log u +ℤ d) (order-last g log ts t) ∙ plus_first (commit_moves g log u) (in_order g log ts) (commit_moves g log t)
