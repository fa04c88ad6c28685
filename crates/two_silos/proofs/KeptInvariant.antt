-- Each event keeps the invariant.
use Rattle.std.proofs.Common.{◌≡◌, ℕ, ◌≤◌, ◌<◌, ◌+◌, List, [], ◌∷◌, ◌++◌, length, get_or, Bool, true, false, not, inl, inr, refl, sym, ap, ◌∙◌, subst, arith, Option, Some, None, filter, eqb-true, eq-eqb}
use Rattle.std.specs.Prelude.{ℤ, ◌&&◌, ◌||◌, ◌==◌, nat_lt, slice_set, if◌then◌else◌}
use Rattle.std.proofs.lemmas.Bool.{cond_both, and_parts, ltb-true}
use Rattle.two_silos.specs.Nodes.{Ask, Decision, Done, GrainId, NodeEntry, Packet, Part, Pending, Prepare, Prepared, Shift, TxnId, Vote}
use Rattle.silo_nodes.specs.Packets.{any, all, same_txn, is_apart, is_ascending, Member}
use Rattle.silo_nodes.specs.Logs.{is_prepared, is_done, shifts_of, undecided}
use Rattle.silo_nodes.specs.Node.{can_prepare, log_prepare, vote_on, log_decision}
use Rattle.silo_nodes.specs.LogCache.{Node}
use Rattle.silo_nodes.specs.Participants.{learned, answers, questions}
use Rattle.silo_nodes.specs.Coordinators.{parts_from, prepare_each, decide_each, find, is_commit, is_unanimous, with_decision, voted, vote_replies, ask_replies, is_late, reminders}
use Rattle.silo_nodes.proofs.Lists.{same_txn-true, same_txn-is, same_txn-self, clash, not-true, Member-append, Member-last, Member-get, any-true, any-member, all-true, filter-member, map-member}
use Rattle.silo_nodes.proofs.Logs.{shifts-member}
use Rattle.silo_nodes.proofs.GrainOrder.{ascending-apart}
use Rattle.two_silos.specs.World.{World, WorldEvent, Start, Deliver, NudgeCoordinator, Nudge, RestartCoordinator, Restart, node_at, log_at, opening_at, put_txn, is_part, can_start, next_txn, started, handed, send, delivered, does, is_within, step, run, begin, parts_with, parts_after, parts_in}
use Rattle.two_silos.specs.Promise.{IsOpening}
use Rattle.two_silos.proofs.Invariant.{Issued, Says, True, Inv, log-put, put-self, txn-at, unissued}
use Rattle.two_silos.proofs.Changes.{numbered, opened, closed, committed, agreeing, logged}
use Rattle.two_silos.proofs.SmallChanges.{opening_of, inv-begin, inv-send, inv-numbered, inv-opened, inv-committed, closed-out, inv-closed, inv-agreed, inv-restarted, inv-prepared, inv-done}

-- participants are numbered upwards
parts-above : (n : ℕ) (lists : List (List Shift)) (q : Part) → Member q (parts_from n lists) → n ≤ q.node
parts-above n [] q m = absurd m
parts-above n ([] ∷ rest) q m = (let h = parts-above (n + 1) rest q m in omega (arith, h))
parts-above n ((x ∷ xs) ∷ rest) q (inl e) = (let h : q.node ≡ n = ap (λ (z : Part). z.node) e in omega (arith, h))
parts-above n ((x ∷ xs) ∷ rest) q (inr m) = (let h = parts-above (n + 1) rest q m in omega (arith, h))

parts-one : (n : ℕ) (lists : List (List Shift)) (q r : Part) → Member q (parts_from n lists) → Member r (parts_from n lists) → q.node ≡ r.node → q.shifts ≡ r.shifts
parts-one n [] q r m k e = absurd m
parts-one n ([] ∷ rest) q r m k e = parts-one (n + 1) rest q r m k e
parts-one n ((x ∷ xs) ∷ rest) q r (inl a) (inl b) e = ap (λ (z : Part). z.shifts) a ∙ sym (ap (λ (z : Part). z.shifts) b)
parts-one n ((x ∷ xs) ∷ rest) q r (inl a) (inr b) e = (let h = parts-above (n + 1) rest r b in let g : q.node ≡ n = ap (λ (z : Part). z.node) a in absurd (omega (arith, h, g, e)))
parts-one n ((x ∷ xs) ∷ rest) q r (inr a) (inl b) e = (let h = parts-above (n + 1) rest q a in let g : r.node ≡ n = ap (λ (z : Part). z.node) b in absurd (omega (arith, h, g, e)))
parts-one n ((x ∷ xs) ∷ rest) q r (inr a) (inr b) e = parts-one (n + 1) rest q r a b e

-- a transaction begins
kept-started : (opening : ℕ → GrainId → Option ℤ) (parts : TxnId → List Part) (w : World) (qs : List Part) → Inv opening parts w →
    ((q r : Part) → Member q qs → Member r qs → q.node ≡ r.node → q.shifts ≡ r.shifts) → ((q : Part) → Member q qs → is_apart q.shifts ≡ true) → Inv opening (put_txn parts (next_txn w) qs) (started w qs)
kept-started opening parts w qs i one apart = go qs one apart
  where
    fresh : Issued w (next_txn w) → ⊥
    fresh = unissued w (next_txn w) refl refl

    new : Member (next_txn w) w.coordinator.commits → ⊥
    new m = fresh (i.commits_issued (next_txn w) m)

    free : (n : ℕ) → Member (Decision (next_txn w) n false) w.packets → ⊥
    free n m = fresh (i.sent (Decision (next_txn w) n false) m).0

    taken : Issued (numbered w) (next_txn w)
    taken = inr (refl, omega arith)

    own : (qs : List Part) → put_txn parts (next_txn w) qs (next_txn w) ≡ qs
    own qs = txn-at parts (next_txn w) qs (λ l. l ≡ qs) (next_txn w) (λ e. refl) (λ n. absurd (n refl))

    go : (qs : List Part) → ((q r : Part) → Member q qs → Member r qs → q.node ≡ r.node → q.shifts ≡ r.shifts) → ((q : Part) → Member q qs → is_apart q.shifts ≡ true) → Inv opening (put_txn parts (next_txn w) qs) (started w qs)
    go [] one apart =
        inv-send opening (put_txn parts (next_txn w) []) (committed (numbered w) (next_txn w)) []
        (inv-committed opening (put_txn parts (next_txn w) []) (numbered w) (next_txn w) (inv-numbered opening parts w [] i one apart) taken new free
        (λ p m e. fresh (subst (Issued w) e (i.pending_issued p m)))
        (λ q m. absurd (subst (Member q) (own []) m)))
        (λ k m. absurd m)
    go (q ∷ qs) one apart =
        inv-send opening (put_txn parts (next_txn w) (q ∷ qs)) (opened (numbered w) (next_txn w) (q ∷ qs)) (prepare_each (next_txn w) (q ∷ qs))
        (inv-opened opening (put_txn parts (next_txn w) (q ∷ qs)) (numbered w) (next_txn w) (q ∷ qs) (inv-numbered opening parts w (q ∷ qs) i one apart) taken new free (sym (own (q ∷ qs))))
        (λ k m. (let x = map-member (λ (r : Part). Prepare (next_txn w) r.node r.shifts) (q ∷ qs) k m in
        subst (True (put_txn parts (next_txn w) (q ∷ qs)) (opened (numbered w) (next_txn w) (q ∷ qs))) (sym x.2) (subst (Member x.0) (sym (own (q ∷ qs))) x.1)))

-- the pending transaction that is found
find-some : (t : TxnId) (ps : List Pending) (p : Pending) → find t ps ≡ Some p → Member p ps × (p.txn ≡ t)
find-some t [] p e = cc
find-some t (q ∷ ps) p e =
    cond_both (same_txn q.txn t) (Some q) (find t ps) (λ z. z ≡ Some p → Member p (q ∷ ps) × (p.txn ≡ t))
    (λ h f. (let x : q ≡ p = cc in (inl (sym x), ap (λ (z : Pending). z.txn) (sym x) ∙ same_txn-true q.txn t h)))
    (λ h f. (let x = find-some t ps p f in (inr x.0, x.1))) e

find-none : (t : TxnId) (ps : List Pending) → find t ps ≡ None → (p : Pending) → Member p ps → p.txn ≡ t → ⊥
find-none t [] e p m q = m
find-none t (x ∷ ps) e p m q =
    cond_both (same_txn x.txn t) (Some x) (find t ps) (λ z. z ≡ None → ⊥)
    (λ h f. cc)
    (λ h f. elim m [
      | inl a ↦ clash (same_txn x.txn t) (same_txn-is x.txn t (ap (λ (z : Pending). z.txn) (sym a) ∙ q)) h
      | inr b ↦ find-none t ps f p b q
    ]) e

-- the answer to a late yes, or to a question
kept-answered : (opening : ℕ → GrainId → Option ℤ) (parts : TxnId → List Part) (w : World) (t : TxnId) (n : ℕ) → Inv opening parts w → Issued w t → find t w.coordinator.pending ≡ None →
    Inv opening parts (send w (Decision t n (is_commit w.coordinator.commits t) ∷ []))
kept-answered opening parts w t n i issued none = inv-send opening parts w (Decision t n (is_commit w.coordinator.commits t) ∷ []) i each
  where
    says : (b : Bool) → is_commit w.coordinator.commits t ≡ b → True parts w (Decision t n b)
    says true e = (let x = any-true (same_txn t) w.coordinator.commits e in subst (λ z. Member z w.coordinator.commits) (sym (same_txn-true t x.0 x.2)) x.1)
    says false e = (issued, (λ m. clash (is_commit w.coordinator.commits t) (any-member (same_txn t) w.coordinator.commits t m (same_txn-self t)) e), find-none t w.coordinator.pending none)

    each : (k : Packet) → Member k (Decision t n (is_commit w.coordinator.commits t) ∷ []) → True parts w k
    each k (inl e) = subst (True parts w) (sym e) (says (is_commit w.coordinator.commits t) refl)
    each k (inr m) = absurd m

-- the world after a decision of a pending transaction
abbrev settled_so : World → TxnId → Bool → List Part → World
settled_so w t commit qs = record w { coordinator = with_decision w.coordinator t commit; packets = w.packets ++ decide_each t commit qs }

kept-decided : (opening : ℕ → GrainId → Option ℤ) (parts : TxnId → List Part) (w : World) (p : Pending) (commit : Bool) → Inv opening parts w → Member p w.coordinator.pending →
    (commit ≡ true → (q : Part) → Member q p.parts → Says w q.node p.txn) → Inv opening parts (settled_so w p.txn commit p.parts)
kept-decided opening parts w p true i m says =
    inv-send opening parts (committed (closed w p.txn) p.txn) (decide_each p.txn true p.parts)
    (inv-committed opening parts (closed w p.txn) p.txn (inv-closed opening parts w p.txn i) (i.pending_issued p m) (i.pending_open p m)
    (λ n d. (i.sent (Decision p.txn n false) d).2 p m refl) (λ q c e. (closed-out w p.txn q c).1 e) all)
    (λ k d. (let x = map-member (λ (r : Part). Decision p.txn r.node true) p.parts k d in
    subst (True parts (committed (closed w p.txn) p.txn)) (sym x.2) (Member-last p.txn w.coordinator.commits)))
  where
    all : (q : Part) → Member q (parts p.txn) → Member (Prepared p.txn q.shifts) (log_at w.nodes q.node)
    all q c =
        let s = says refl q (subst (Member q) (sym (i.pending_parts p m)) c) in
        let e : s.0 ≡ q.shifts = i.parts_one p.txn (record { node = q.node; shifts = s.0 }) q (i.logged_part q.node p.txn s.0 s.1) c refl in
        subst (λ z. Member (Prepared p.txn z) (log_at w.nodes q.node)) e s.1
kept-decided opening parts w p false i m says =
    inv-send opening parts (closed w p.txn) (decide_each p.txn false p.parts) (inv-closed opening parts w p.txn i)
    (λ k d. (let x = map-member (λ (r : Part). Decision p.txn r.node false) p.parts k d in
    subst (True parts (closed w p.txn)) (sym x.2) (i.pending_issued p m, i.pending_open p m, λ q c e. (closed-out w p.txn q c).1 e)))

-- who said yes
said : (w : World) (n : ℕ) (t : TxnId) → Says w n t → (ys : List ℕ) → ((k : ℕ) → Member k ys → Says w k t) → (q : Part) → any (λ k. k == q.node) (n ∷ ys) ≡ true → Says w q.node t
said w n t s ys h q e =
    let x = any-true (λ k. k == q.node) (n ∷ ys) e in
    let eq : x.0 ≡ q.node = eqb-true x.0 q.node x.2 in
    subst (λ k. Says w k t) eq (elim x.1 [ inl a ↦ subst (λ k. Says w k t) (sym a) s | inr b ↦ h x.0 b ])

-- the world after a vote
abbrev voted_so : World → TxnId → ℕ → Bool → Option Pending → World
voted_so w t n b o = record w { coordinator = voted w.coordinator t n b o; packets = w.packets ++ vote_replies w.coordinator t n b o }

-- nothing is sent
kept-quiet : (opening : ℕ → GrainId → Option ℤ) (parts : TxnId → List Part) (w : World) → Inv opening parts w → Inv opening parts (send w [])
kept-quiet opening parts w i = inv-send opening parts w [] i (λ k m. absurd m)

-- a vote comes
kept-voted : (opening : ℕ → GrainId → Option ℤ) (parts : TxnId → List Part) (w : World) (t : TxnId) (n : ℕ) (b : Bool) → Inv opening parts w → True parts w (Vote t n b) →
    (o : Option Pending) → find t w.coordinator.pending ≡ o → Inv opening parts (voted_so w t n b o)
kept-voted opening parts w t n false i h None e = kept-quiet opening parts w i
kept-voted opening parts w t n true i h None e = kept-answered opening parts w t n i (i.parts_issued t (record { node = n; shifts = h.0 }) (i.logged_part n t h.0 h.1)) e
kept-voted opening parts w t n false i h (Some p) e =
    let x = find-some t w.coordinator.pending p e in
    subst (λ u. Inv opening parts (settled_so w u false p.parts)) x.1 (kept-decided opening parts w p false i x.0 (λ f. cc))
kept-voted opening parts w t n true i h (Some p) e = go (is_unanimous p.parts (n ∷ p.yes)) refl
  where
    x : Member p w.coordinator.pending × (p.txn ≡ t)
    x = find-some t w.coordinator.pending p e

    s : Says w n p.txn
    s = subst (Says w n) (sym x.1) h

    go : (u : Bool) → is_unanimous p.parts (n ∷ p.yes) ≡ u → Inv opening parts (record w { coordinator = if u then with_decision w.coordinator t true else (agreeing w t n).coordinator; packets = w.packets ++ (if u then decide_each t true p.parts else []) })
    go true u = subst (λ v. Inv opening parts (settled_so w v true p.parts)) x.1
        (kept-decided opening parts w p true i x.0 (λ f q m. said w n p.txn s p.yes (λ k v. i.pending_yes p k x.0 v) q (all-true (λ (q : Part). any (λ k. k == q.node) (n ∷ p.yes)) p.parts u q m)))
    go false u = kept-quiet opening parts (agreeing w t n) (inv-agreed opening parts w t n i h)

-- a question comes
kept-asked : (opening : ℕ → GrainId → Option ℤ) (parts : TxnId → List Part) (w : World) (t : TxnId) (n : ℕ) → Inv opening parts w → Issued w t → (o : Option Pending) → find t w.coordinator.pending ≡ o →
    Inv opening parts (send w (ask_replies w.coordinator t n o))
kept-asked opening parts w t n i h None e = kept-answered opening parts w t n i h e
kept-asked opening parts w t n i h (Some p) e = kept-quiet opening parts w i

-- a log that stays
same-log : (opening : ℕ → GrainId → Option ℤ) (parts : TxnId → List Part) (w : World) (n : ℕ) → Inv opening parts w → Inv opening parts (logged w n (log_at w.nodes n))
same-log opening parts w n i = subst (λ f. Inv opening parts (record w { nodes = f })) (sym (put-self w.nodes n)) i

one-vote : (opening : ℕ → GrainId → Option ℤ) (parts : TxnId → List Part) (w : World) (t : TxnId) (n : ℕ) (b : Bool) → Inv opening parts w → Issued w t → (b ≡ true → Says w n t) → Inv opening parts (send w (Vote t n b ∷ []))
one-vote opening parts w t n b i issued h = inv-send opening parts w (Vote t n b ∷ []) i (λ k m. elim m [ inl e ↦ subst (True parts w) (sym e) (is b h) | inr z ↦ absurd z ])
  where
    is : (b : Bool) → (b ≡ true → Says w n t) → True parts w (Vote t n b)
    is true h = h refl
    is false h = issued

-- a request to prepare comes
kept-prepare : (opening : ℕ → GrainId → Option ℤ) (parts : TxnId → List Part) (w : World) (n : ℕ) (t : TxnId) (s : List Shift) → n < length w.nodes → Inv opening parts w → Member (record { node = n; shifts = s }) (parts t) →
    Inv opening parts (send (logged w n (log_prepare (opening n) (log_at w.nodes n) t s)) (vote_on (opening n) (log_at w.nodes n) n t s))
kept-prepare opening parts w n t s there i part = go (is_done (log_at w.nodes n) t) (is_prepared (log_at w.nodes n) t) (can_prepare (opening n) (log_at w.nodes n) s) refl refl refl
  where
    taken : Issued w t
    taken = i.parts_issued t (record { node = n; shifts = s }) part

    go : (d p c : Bool) → is_done (log_at w.nodes n) t ≡ d → is_prepared (log_at w.nodes n) t ≡ p → can_prepare (opening n) (log_at w.nodes n) s ≡ c →
        Inv opening parts (send (logged w n (if d || p then log_at w.nodes n else if c then log_at w.nodes n ++ Prepared t s ∷ [] else log_at w.nodes n)) (if d then [] else if p then Vote t n true ∷ [] else Vote t n c ∷ []))
    go true p c x y z = kept-quiet opening parts (logged w n (log_at w.nodes n)) (same-log opening parts w n i)
    go false true c x y z = one-vote opening parts (logged w n (log_at w.nodes n)) t n true (same-log opening parts w n i) taken
        (λ e. (shifts_of t (log_at w.nodes n), subst (λ f. Member (Prepared t (shifts_of t (log_at w.nodes n))) (log_at f n)) (sym (put-self w.nodes n)) (shifts-member t (log_at w.nodes n) y)))
    go false false true x y z = one-vote opening parts (logged w n (log_at w.nodes n ++ Prepared t s ∷ [])) t n true (inv-prepared opening parts w n t s there i part x y z) taken
        (λ e. (s, log-put w.nodes n (log_at w.nodes n ++ Prepared t s ∷ []) (Member (Prepared t s)) n there (λ q. Member-last (Prepared t s) (log_at w.nodes n)) (λ f. absurd (f refl))))
    go false false false x y z = one-vote opening parts (logged w n (log_at w.nodes n)) t n false (same-log opening parts w n i) taken (λ e. cc)

-- a decision comes
kept-decision : (opening : ℕ → GrainId → Option ℤ) (parts : TxnId → List Part) (w : World) (n : ℕ) (t : TxnId) (c : Bool) → n < length w.nodes → Inv opening parts w → Member (Decision t n c) w.packets →
    Inv opening parts (logged w n (log_decision (log_at w.nodes n) t c))
kept-decision opening parts w n t c there i m =
    cond_both (is_prepared (log_at w.nodes n) t && not (is_done (log_at w.nodes n) t)) (log_at w.nodes n ++ Done t c ∷ []) (log_at w.nodes n) (λ l. Inv opening parts (logged w n l))
    (λ e. (let p = and_parts (is_prepared (log_at w.nodes n) t) (not (is_done (log_at w.nodes n) t)) e in inv-done opening parts w n t c there i m p.0 (not-true _ p.1)))
    (λ e. same-log opening parts w n i)

-- the world where a participant has learned of a packet
abbrev handed_so : World → ℕ → Node → List Packet → World
handed_so w n x ps = record w { nodes = slice_set w.nodes n x; packets = w.packets ++ ps }

kept-handed : (opening : ℕ → GrainId → Option ℤ) (parts : TxnId → List Part) (w : World) (n : ℕ) (k : Packet) → Inv opening parts w →
    (n < length w.nodes → Inv opening parts (handed_so w n (learned (node_at w.nodes n) k) (answers (node_at w.nodes n) k))) → Inv opening parts (handed w n k)
kept-handed opening parts w n k i h =
    cond_both (nat_lt n (length w.nodes)) (handed_so w n (learned (node_at w.nodes n) k) (answers (node_at w.nodes n) k)) w (Inv opening parts) (λ e. h (ltb-true n (length w.nodes) e)) (λ e. i)

kept-delivered : (opening : ℕ → GrainId → Option ℤ) (parts : TxnId → List Part) (w : World) (k : Packet) → Inv opening parts w → Member k w.packets → Inv opening parts (delivered w k)
kept-delivered opening parts w (Prepare t n s) i m = kept-handed opening parts w n (Prepare t n s) i (λ there.
    (let me : (n == (node_at w.nodes n).number) ≡ true = eq-eqb n (node_at w.nodes n).number (sym (i.numbers n there)) in
    let all = kept-prepare opening parts w n t s there i (i.sent (Prepare t n s) m) in
    let now : Inv opening parts (send (logged w n (log_prepare (opening_at w.nodes n) (log_at w.nodes n) t s)) (vote_on (opening_at w.nodes n) (log_at w.nodes n) (node_at w.nodes n).number t s)) =
    subst (λ z. Inv opening parts (send (logged w n (log_prepare (opening_at w.nodes n) (log_at w.nodes n) t s)) (vote_on (opening_at w.nodes n) (log_at w.nodes n) z t s))) (sym (i.numbers n there))
    (subst (λ o. Inv opening parts (send (logged w n (log_prepare o (log_at w.nodes n) t s)) (vote_on o (log_at w.nodes n) n t s))) (sym (i.same n)) all) in
    subst (λ b. Inv opening parts (handed_so w n (if b then record (node_at w.nodes n) { log = log_prepare (opening_at w.nodes n) (log_at w.nodes n) t s } else node_at w.nodes n)
    (if b then vote_on (opening_at w.nodes n) (log_at w.nodes n) (node_at w.nodes n).number t s else []))) (sym me) now))
kept-delivered opening parts w (Vote t n b) i m = kept-voted opening parts w t n b i (i.sent (Vote t n b) m) (find t w.coordinator.pending) refl
kept-delivered opening parts w (Decision t n c) i m = kept-handed opening parts w n (Decision t n c) i (λ there.
    (let me : (n == (node_at w.nodes n).number) ≡ true = eq-eqb n (node_at w.nodes n).number (sym (i.numbers n there)) in
    subst (λ b. Inv opening parts (handed_so w n (if b then record (node_at w.nodes n) { log = log_decision (log_at w.nodes n) t c } else node_at w.nodes n) [])) (sym me)
    (kept-quiet opening parts (logged w n (log_decision (log_at w.nodes n) t c)) (kept-decision opening parts w n t c there i m))))
kept-delivered opening parts w (Ask t n) i m = kept-asked opening parts w t n i (i.sent (Ask t n) m) (find t w.coordinator.pending) refl

-- reminders are true
kept-reminders : (opening : ℕ → GrainId → Option ℤ) (parts : TxnId → List Part) (w : World) → Inv opening parts w → (ps : List Pending) → ((p : Pending) → Member p ps → Member p w.coordinator.pending) →
    (k : Packet) → Member k (reminders ps) → True parts w k
kept-reminders opening parts w i [] h k m = absurd m
kept-reminders opening parts w i (p ∷ ps) h k m =
    elim (Member-append k (prepare_each p.txn (filter (is_late p.yes) p.parts)) (reminders ps) m) [
      | inl a ↦ (let x = map-member (λ (r : Part). Prepare p.txn r.node r.shifts) (filter (is_late p.yes) p.parts) k a in
          subst (True parts w) (sym x.2) (subst (Member x.0) (i.pending_parts p (h p (inl refl))) (filter-member (is_late p.yes) p.parts x.0 x.1).0))
      | inr b ↦ kept-reminders opening parts w i ps (λ q c. h q (inr c)) k b
    ]

-- an undecided transaction is prepared
undecided-member : (log es : List NodeEntry) (t : TxnId) → Member t (undecided log es) → (s : List Shift) × Member (Prepared t s) es
undecided-member log [] t m = absurd m
undecided-member log (Prepared u s ∷ es) t m =
    cond_both (is_done log u) (undecided log es) (u ∷ undecided log es) (λ l. Member t l → (r : List Shift) × Member (Prepared t r) (Prepared u s ∷ es))
    (λ e a. (let x = undecided-member log es t a in (x.0, inr x.1)))
    (λ e a. elim a [
      | inl q ↦ (s, inl (ap (λ v. Prepared v s) q))
      | inr b ↦ (let x = undecided-member log es t b in (x.0, inr x.1))
    ]) m
undecided-member log (Done u c ∷ es) t m = (let x = undecided-member log es t m in (x.0, inr x.1))

-- questions are true
kept-questions : (opening : ℕ → GrainId → Option ℤ) (parts : TxnId → List Part) (w : World) (n : ℕ) → Inv opening parts w → (k : Packet) → Member k (questions (node_at w.nodes n)) → True parts w k
kept-questions opening parts w n i k m =
    let x = map-member (λ (t : TxnId). Ask t (node_at w.nodes n).number) (undecided (log_at w.nodes n) (log_at w.nodes n)) k m in
    let y = undecided-member (log_at w.nodes n) (log_at w.nodes n) x.0 x.1 in
    subst (True parts w) (sym x.2) (i.parts_issued x.0 (record { node = n; shifts = y.0 }) (i.logged_part n x.0 y.0 y.1))

-- an event that applies keeps it
kept-does : (opening : ℕ → GrainId → Option ℤ) (parts : TxnId → List Part) (w : World) (e : WorldEvent) → is_within (does w e) ≡ true → Inv opening parts w → Inv opening (parts_with parts w e) (does w e)
kept-does opening parts w (Start lists) within i = go (can_start w lists) refl
  where
    go : (b : Bool) → can_start w lists ≡ b →
        Inv opening (if b && is_within (does w (Start lists)) then put_txn parts (next_txn w) (parts_from 0 lists) else parts) (if b then started w (parts_from 0 lists) else w)
    go true e = subst (λ c. Inv opening (if c then put_txn parts (next_txn w) (parts_from 0 lists) else parts) (started w (parts_from 0 lists))) (sym within)
        (kept-started opening parts w (parts_from 0 lists) i (parts-one 0 lists)
        (λ q m. ascending-apart q.shifts (and_parts (is_ascending q.shifts) _ (and_parts (nat_lt q.node (length w.nodes)) _ (all-true (is_part w.nodes) (parts_from 0 lists) (and_parts _ (all (is_part w.nodes) (parts_from 0 lists)) e).1 q m)).1).0))
    go false e = i
kept-does opening parts w (Deliver k) within i =
    cond_both (nat_lt k (length w.packets)) (delivered w (get_or w.packets k (Ask (next_txn w) 0))) w (Inv opening parts)
    (λ e. kept-delivered opening parts w (get_or w.packets k (Ask (next_txn w) 0)) i (Member-get (Ask (next_txn w) 0) w.packets k (ltb-true k (length w.packets) e)))
    (λ e. i)
kept-does opening parts w NudgeCoordinator within i = inv-send opening parts w (reminders w.coordinator.pending) i (kept-reminders opening parts w i w.coordinator.pending (λ p m. m))
kept-does opening parts w (Nudge n) within i =
    cond_both (nat_lt n (length w.nodes)) (send w (questions (node_at w.nodes n))) w (Inv opening parts)
    (λ e. inv-send opening parts w (questions (node_at w.nodes n)) i (kept-questions opening parts w n i))
    (λ e. i)
kept-does opening parts w RestartCoordinator within i = inv-restarted opening parts w i
kept-does opening parts w (Restart n) within i = i

-- an event that would pass a limit starts nothing
unstarted : (parts : TxnId → List Part) (w : World) (e : WorldEvent) → is_within (does w e) ≡ false → parts_with parts w e ≡ parts
unstarted parts w (Start lists) h = go (can_start w lists)
  where
    go : (b : Bool) → (if b && is_within (does w (Start lists)) then put_txn parts (next_txn w) (parts_from 0 lists) else parts) ≡ parts
    go true = ap (λ c. if c then put_txn parts (next_txn w) (parts_from 0 lists) else parts) h
    go false = refl
unstarted parts w (Deliver k) h = refl
unstarted parts w NudgeCoordinator h = refl
unstarted parts w (Nudge n) h = refl
unstarted parts w RestartCoordinator h = refl
unstarted parts w (Restart n) h = refl

pub kept-step : (opening : ℕ → GrainId → Option ℤ) (parts : TxnId → List Part) (w : World) (e : WorldEvent) → Inv opening parts w → Inv opening (parts_with parts w e) (step w e)
kept-step opening parts w e i = cond_both (is_within (does w e)) (does w e) w (Inv opening (parts_with parts w e)) (λ a. kept-does opening parts w e a i) (λ a. subst (λ f. Inv opening f w) (sym (unstarted parts w e a)) i)

pub kept-run : (opening : ℕ → GrainId → Option ℤ) (es : List WorldEvent) (parts : TxnId → List Part) (w : World) → Inv opening parts w → Inv opening (parts_after parts w es) (run w es)
kept-run opening [] parts w i = i
kept-run opening (e ∷ es) parts w i = kept-run opening es (parts_with parts w e) (step w e) (kept-step opening parts w e i)

pub kept : (openings : List (List (GrainId × ℤ))) (es : List WorldEvent) → IsOpening openings → Inv (opening_of openings) (parts_in openings es) (run (begin openings) es)
kept openings es o = kept-run (opening_of openings) es (λ t. []) (begin openings) (inv-begin openings o)
