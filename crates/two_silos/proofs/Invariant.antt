-- What holds of the world after any events: facts on packets that were ever sent.
use Rattle.std.proofs.Common.{◌≡◌, ℕ, ◌<◌, ◌≤◌, ◌+◌, List, [], ◌∷◌, ◌++◌, length, Bool, true, false, ◌⊎◌, inl, inr, sym, subst, arith, Option, eqb-true}
use Rattle.std.specs.Prelude.{ℤ, ◌==◌, slice_set}
use Rattle.std.proofs.lemmas.Bool.{cond_both, cases_Bool, eqb-false}
use Rattle.std.proofs.lemmas.List.{get_or-set_same, get_or-set_other, set-get_or}
use Rattle.two_silos.specs.Nodes.{Ask, Decision, Done, GrainId, NodeEntry, Packet, Part, Pending, Prepare, Prepared, Shift, TxnId, Vote}
use Rattle.silo_nodes.specs.Packets.{same_txn, is_apart, Member, Distinct}
use Rattle.silo_nodes.specs.Logs.{moved}
use Rattle.silo_nodes.specs.LogCache.{Node}
use Rattle.silo_nodes.specs.SoundLog.{Sound}
use Rattle.silo_nodes.proofs.Lists.{same_txn-true, same_txn-false, Member-left, Member-one}
use Rattle.two_silos.specs.World.{World, node_at, log_at, opening_at, nobody, put_txn}
use Rattle.two_silos.specs.Promise.{in_order, OrderAgrees}

-- the number was taken
abbrev pub Issued : World → TxnId → Type 0
Issued w t = (t.epoch < w.coordinator.epoch) ⊎ ((t.epoch ≡ w.coordinator.epoch) × (t.number ≤ w.coordinator.number))

-- the node prepared the transaction
abbrev pub Says : World → ℕ → TxnId → Type 0
Says w n t = (s : List Shift) × Member (Prepared t s) (log_at w.nodes n)

-- the transaction was taken, is no commit, and waits for nothing; so it never commits
abbrev pub Stopped : World → TxnId → Type 0
Stopped w t = Issued w t × (Member t w.coordinator.commits → ⊥) × ((p : Pending) → Member p w.coordinator.pending → p.txn ≡ t → ⊥)

-- what makes a packet true, now and later
abbrev pub True : (TxnId → List Part) → World → Packet → Type 0
True parts w (Prepare t n s) = Member (record { node = n; shifts = s }) (parts t)
True parts w (Vote t n true) = Says w n t
True parts w (Vote t n false) = Issued w t
True parts w (Decision t n true) = Member t w.coordinator.commits
True parts w (Decision t n false) = Stopped w t
True parts w (Ask t n) = Issued w t

-- what holds of the world, with the parts of each transaction
pub record Inv (opening : ℕ → GrainId → Option ℤ) (parts : TxnId → List Part) (w : World) : Type 0 where
  pub same : (n : ℕ) → opening_at w.nodes n ≡ opening n
  pub numbers : (n : ℕ) → n < length w.nodes → (node_at w.nodes n).number ≡ n
  pub parts_issued : (t : TxnId) (q : Part) → Member q (parts t) → Issued w t
  pub parts_one : (t : TxnId) (q r : Part) → Member q (parts t) → Member r (parts t) → q.node ≡ r.node → q.shifts ≡ r.shifts
  pub parts_apart : (t : TxnId) (q : Part) → Member q (parts t) → is_apart q.shifts ≡ true
  pub commits_issued : (t : TxnId) → Member t w.coordinator.commits → Issued w t
  pub commits_once : Distinct w.coordinator.commits
  pub pending_issued : (p : Pending) → Member p w.coordinator.pending → Issued w p.txn
  pub pending_parts : (p : Pending) → Member p w.coordinator.pending → p.parts ≡ parts p.txn
  pub pending_open : (p : Pending) → Member p w.coordinator.pending → Member p.txn w.coordinator.commits → ⊥
  pub pending_yes : (p : Pending) (n : ℕ) → Member p w.coordinator.pending → Member n p.yes → Says w n p.txn
  pub sent : (k : Packet) → Member k w.packets → True parts w k
  pub logged_part : (n : ℕ) (t : TxnId) (s : List Shift) → Member (Prepared t s) (log_at w.nodes n) → Member (record { node = n; shifts = s }) (parts t)
  pub logged_done : (n : ℕ) (t : TxnId) (c : Bool) → Member (Done t c) (log_at w.nodes n) → Member (Decision t n c) w.packets
  pub everywhere : (t : TxnId) (q : Part) → Member t w.coordinator.commits → Member q (parts t) → Member (Prepared t q.shifts) (log_at w.nodes q.node)
  pub sound : (n : ℕ) → Sound (opening n) (log_at w.nodes n)
  pub sums : (n : ℕ) (g : GrainId) → moved g (log_at w.nodes n) (log_at w.nodes n) ≡ in_order g (log_at w.nodes n) w.coordinator.commits
  pub order : OrderAgrees parts w

-- a replaced log
abbrev pub put_log : List Node → ℕ → List NodeEntry → List Node
put_log nodes n log = slice_set nodes n (record (node_at nodes n) { log = log })

-- a replaced participant
pub set-at : (nodes : List Node) (k : ℕ) (v : Node) (P : List NodeEntry → Type 0) (j : ℕ) → k < length nodes → (j ≡ k → P v.log) → ((j ≡ k → ⊥) → P (log_at nodes j)) → P (log_at (slice_set nodes k v) j)
set-at nodes k v P j there same other = elim (cases_Bool (j == k)) [
  | inl e ↦ (let q : j ≡ k = eqb-true j k e in
      subst (λ i. P (log_at (slice_set nodes k v) i)) (sym q) (subst (λ (x : Node). P x.log) (sym (get_or-set_same nodes k v nobody there)) (same q)))
  | inr e ↦ (let n : j ≡ k → ⊥ = eqb-false j k e in
      subst (λ (x : Node). P x.log) (sym (get_or-set_other nodes k j v nobody n)) (other n))
]

pub node-put : (nodes : List Node) (k : ℕ) (v : List NodeEntry) (P : Node → Type 0) (j : ℕ) → k < length nodes → (j ≡ k → P (record (node_at nodes k) { log = v })) → ((j ≡ k → ⊥) → P (node_at nodes j)) → P (node_at (put_log nodes k v) j)
node-put nodes k v P j there same other = elim (cases_Bool (j == k)) [
  | inl e ↦ (let q : j ≡ k = eqb-true j k e in
      subst (λ i. P (node_at (put_log nodes k v) i)) (sym q) (subst P (sym (get_or-set_same nodes k (record (node_at nodes k) { log = v }) nobody there)) (same q)))
  | inr e ↦ (let n : j ≡ k → ⊥ = eqb-false j k e in
      subst P (sym (get_or-set_other nodes k j (record (node_at nodes k) { log = v }) nobody n)) (other n))
]

pub log-put : (nodes : List Node) (k : ℕ) (v : List NodeEntry) (P : List NodeEntry → Type 0) (j : ℕ) → k < length nodes → (j ≡ k → P v) → ((j ≡ k → ⊥) → P (log_at nodes j)) → P (log_at (put_log nodes k v) j)
log-put nodes k v P j there same other = node-put nodes k v (λ x. P x.log) j there same other

pub put-self : (nodes : List Node) (k : ℕ) → put_log nodes k (log_at nodes k) ≡ nodes
put-self nodes k = set-get_or nodes k nobody

pub txn-at : (f : TxnId → List Part) (k : TxnId) (v : List Part) (P : List Part → Type 0) (j : TxnId) → (j ≡ k → P v) → ((j ≡ k → ⊥) → P (f j)) → P (put_txn f k v j)
unfolding put_txn
txn-at f k v P j same other = cond_both (same_txn j k) v (f j) P (λ e. same (same_txn-true j k e)) (λ e. other (same_txn-false j k e))

-- members of a log with one more entry
pub log-more : (nodes : List Node) (k : ℕ) (e : NodeEntry) (j : ℕ) (x : NodeEntry) → k < length nodes → Member x (log_at nodes j) → Member x (log_at (put_log nodes k (log_at nodes k ++ e ∷ [])) j)
log-more nodes k e j x there m =
    log-put nodes k (log_at nodes k ++ e ∷ []) (Member x) j there (λ q. Member-left x (log_at nodes k) (e ∷ []) (subst (λ z. Member x (log_at nodes z)) q m)) (λ n. m)

pub log-new : (nodes : List Node) (k : ℕ) (e : NodeEntry) (j : ℕ) (x : NodeEntry) → k < length nodes → Member x (log_at (put_log nodes k (log_at nodes k ++ e ∷ [])) j) → Member x (log_at nodes j) ⊎ ((j ≡ k) × (x ≡ e))
log-new nodes k e j x there = log-put nodes k (log_at nodes k ++ e ∷ []) (λ l. Member x l → Member x (log_at nodes j) ⊎ ((j ≡ k) × (x ≡ e))) j there
    (λ q m. elim (Member-one x e (log_at nodes k) m) [ inl h ↦ inl (subst (λ z. Member x (log_at nodes z)) (sym q) h) | inr h ↦ inr (q, h) ])
    (λ n m. inl m)

-- the next number wasn't taken
pub unissued : (w : World) (t : TxnId) → t.epoch ≡ w.coordinator.epoch → t.number ≡ w.coordinator.number + 1 → Issued w t → ⊥
unissued w t e n (inl h) = omega (arith, e, h)
unissued w t e n (inr h) = omega (arith, n, h.1)
