-- Each small change keeps the invariant.
use Rattle.std.proofs.Common.{◌≡◌, ℕ, ◌+◌, ◌<◌, zero, suc, List, [], ◌∷◌, ◌++◌, length, get_or, Bool, true, false, not, ◌⊎◌, inl, inr, refl, sym, ap, ◌∙◌, subst, arith, Option}
use Rattle.std.specs.Prelude.{ℤ, pos, ◌+ℤ◌, ◌&&◌, ◌==◌, if◌then◌else◌}
use Rattle.std.specs.List.{list_any as any}
use Rattle.std.proofs.lemmas.Bool.{cond_both, cases_Bool}
use Rattle.std.proofs.lemmas.List.{length-set}
use Rattle.two_silos.specs.Nodes.{Ask, Decision, Done, GrainId, NodeEntry, Packet, Part, Pending, Prepare, Prepared, Shift, TxnId, Vote}
use Rattle.silo_nodes.specs.Packets.{same_txn, is_apart, delta, Member}
use Rattle.silo_nodes.specs.Logs.{moved, is_prepared, is_done, is_committed, shifts_of}
use Rattle.silo_nodes.specs.Node.{can_prepare}
use Rattle.silo_nodes.specs.LogCache.{opening_in}
use Rattle.silo_nodes.specs.Coordinators.{with_yes, agreed}
use Rattle.silo_nodes.specs.SoundLog.{Sound}
use Rattle.silo_nodes.proofs.Lists.{same_txn-true, same_txn-is, clash, not-true, Member-append, Member-left, Member-one, Distinct-last, filter-member}
use Rattle.silo_nodes.proofs.Logs.{sound-empty, sound-prepared, sound-done, moved-more, shifts-stay, plus_none, done-is, done-entry}
use Rattle.two_silos.specs.World.{World, put_txn, next_txn, send, begin, nodes_from, node_at, log_at, opening_at}
use Rattle.two_silos.specs.Promise.{in_order, commit_moves, IsOpening}
use Rattle.two_silos.proofs.Order.{Order, Rests, order-parts, order-commit, order-prepared, order-done}
use Rattle.two_silos.proofs.Sums.{committed-member, order-stay, order-more, order-last}
use Rattle.two_silos.proofs.Invariant.{Issued, Says, True, Inv, node-put, log-put, txn-at, log-more, log-new, unissued}
use Rattle.two_silos.proofs.Changes.{numbered, opened, closed, committed, agreeing, logged, renewed}

-- the first participants
none-logged : (m n : ℕ) (os : List (List (GrainId × ℤ))) → log_at (nodes_from m os) n ≡ []
none-logged m n [] = refl
none-logged m zero (o ∷ os) = refl
none-logged m (suc n) (o ∷ os) = none-logged (m + 1) n os

first-opening : (m n : ℕ) (os : List (List (GrainId × ℤ))) → opening_at (nodes_from m os) n ≡ opening_in (get_or os n [])
first-opening m n [] = refl
first-opening m zero (o ∷ os) = refl
first-opening m (suc n) (o ∷ os) = first-opening (m + 1) n os

first-number : (m n : ℕ) (os : List (List (GrainId × ℤ))) → n < length (nodes_from m os) → (node_at (nodes_from m os) n).number ≡ n + m
first-number m n [] h = absurd (omega (arith, h))
first-number m zero (o ∷ os) h = omega arith
first-number m (suc n) (o ∷ os) h = (let r = first-number (m + 1) n os (omega (arith, h)) in omega (arith, r))

-- the opening balances, as a function
abbrev pub opening_of : List (List (GrainId × ℤ)) → ℕ → GrainId → Option ℤ
opening_of openings n = opening_in (get_or openings n [])

-- the first state
pub inv-begin : (openings : List (List (GrainId × ℤ))) → IsOpening openings → Inv (opening_of openings) (λ t. []) (begin openings)
inv-begin openings o = record {
  same = λ n. first-opening 0 n openings;
  numbers = λ n h. (let e = first-number 0 n openings h in omega (arith, e));
  parts_issued = λ t q m. absurd m;
  parts_one = λ t q r m. absurd m;
  parts_apart = λ t q m. absurd m;
  commits_issued = λ t m. absurd m;
  commits_once = tt;
  pending_issued = λ p m. absurd m;
  pending_parts = λ p m. absurd m;
  pending_open = λ p m. absurd m;
  pending_yes = λ p n m. absurd m;
  sent = λ k m. absurd m;
  logged_part = λ n t s m. absurd (subst (Member (Prepared t s)) (none-logged 0 n openings) m);
  logged_done = λ n t c m. absurd (subst (Member (Done t c)) (none-logged 0 n openings) m);
  everywhere = λ t q m. absurd m;
  sound = λ n. subst (Sound (opening_of openings n)) (sym (none-logged 0 n openings)) (sound-empty (opening_of openings n) (o n));
  sums = λ n g. subst (λ l. moved g l l ≡ in_order g l []) (sym (none-logged 0 n openings)) refl;
  order = λ n g. subst (λ l. Order (λ t. []) n g [] l) (sym (none-logged 0 n openings)) ([], refl, inl refl);
}

-- packets are sent
pub inv-send : (opening : ℕ → GrainId → Option ℤ) (parts : TxnId → List Part) (w : World) (ps : List Packet) → Inv opening parts w → ((k : Packet) → Member k ps → True parts w k) → Inv opening parts (send w ps)
inv-send opening parts w ps i h = record {
  same = i.same;
  numbers = i.numbers;
  parts_issued = i.parts_issued;
  parts_one = i.parts_one;
  parts_apart = i.parts_apart;
  commits_issued = i.commits_issued;
  commits_once = i.commits_once;
  pending_issued = i.pending_issued;
  pending_parts = i.pending_parts;
  pending_open = i.pending_open;
  pending_yes = i.pending_yes;
  sent = λ k m. same k (elim (Member-append k w.packets ps m) [ inl a ↦ i.sent k a | inr b ↦ h k b ]);
  logged_part = i.logged_part;
  logged_done = λ n t c m. Member-left (Decision t n c) w.packets ps (i.logged_done n t c m);
  everywhere = i.everywhere;
  sound = i.sound;
  sums = i.sums;
  order = i.order;
}
  where
    same : (k : Packet) → True parts w k → True parts (send w ps) k
    same (Prepare t n s) x = x
    same (Vote t n true) x = x
    same (Vote t n false) x = x
    same (Decision t n true) x = x
    same (Decision t n false) x = x
    same (Ask t n) x = x

-- a number is taken
pub inv-numbered : (opening : ℕ → GrainId → Option ℤ) (parts : TxnId → List Part) (w : World) (qs : List Part) → Inv opening parts w →
    ((q r : Part) → Member q qs → Member r qs → q.node ≡ r.node → q.shifts ≡ r.shifts) → ((q : Part) → Member q qs → is_apart q.shifts ≡ true) → Inv opening (put_txn parts (next_txn w) qs) (numbered w)
inv-numbered opening parts w qs i one apart = record {
  same = i.same;
  numbers = i.numbers;
  parts_issued = λ t q. txn-at parts (next_txn w) qs (λ l. Member q l → Issued (numbered w) t) t (λ e m. now t e) (λ n m. more t (i.parts_issued t q m));
  parts_one = λ t q r. txn-at parts (next_txn w) qs (λ l. Member q l → Member r l → q.node ≡ r.node → q.shifts ≡ r.shifts) t (λ e. one q r) (λ n. i.parts_one t q r);
  parts_apart = λ t q. txn-at parts (next_txn w) qs (λ l. Member q l → is_apart q.shifts ≡ true) t (λ e. apart q) (λ n. i.parts_apart t q);
  commits_issued = λ t m. more t (i.commits_issued t m);
  commits_once = i.commits_once;
  pending_issued = λ p m. more p.txn (i.pending_issued p m);
  pending_parts = λ p m. i.pending_parts p m ∙ sym (old p.txn (i.pending_issued p m));
  pending_open = i.pending_open;
  pending_yes = i.pending_yes;
  sent = λ k m. same k (i.sent k m);
  logged_part = λ n t s m. kept t (record { node = n; shifts = s }) (i.logged_part n t s m);
  logged_done = i.logged_done;
  everywhere = λ t q m n. i.everywhere t q m (subst (Member q) (old t (i.commits_issued t m)) n);
  sound = i.sound;
  sums = i.sums;
  order = λ n g. order-parts parts (put_txn parts (next_txn w) qs) n g w.coordinator.commits (log_at w.nodes n) (λ t m. old t (i.commits_issued t m)) (λ t m. i.sent (Decision t n true) (i.logged_done n t true m)) (i.order n g);
}
  where
    more : (t : TxnId) → Issued w t → Issued (numbered w) t
    more t (inl h) = inl h
    more t (inr h) = inr (h.0, omega (arith, h.1))

    now : (t : TxnId) → t ≡ next_txn w → Issued (numbered w) t
    now t e = inr (ap (λ (u : TxnId). u.epoch) e, (let q : t.number ≡ w.coordinator.number + 1 = ap (λ (u : TxnId). u.number) e in omega (arith, q)))

    old : (t : TxnId) → Issued w t → put_txn parts (next_txn w) qs t ≡ parts t
    old t h = txn-at parts (next_txn w) qs (λ l. l ≡ parts t) t (λ e. absurd (unissued w t (ap (λ (u : TxnId). u.epoch) e) (ap (λ (u : TxnId). u.number) e) h)) (λ n. refl)

    kept : (t : TxnId) (q : Part) → Member q (parts t) → Member q (put_txn parts (next_txn w) qs t)
    kept t q m = subst (Member q) (sym (old t (i.parts_issued t q m))) m

    same : (k : Packet) → True parts w k → True (put_txn parts (next_txn w) qs) (numbered w) k
    same (Prepare t n s) x = kept t (record { node = n; shifts = s }) x
    same (Vote t n true) x = x
    same (Vote t n false) x = more t x
    same (Decision t n true) x = x
    same (Decision t n false) x = (more t x.0, x.1, x.2)
    same (Ask t n) x = more t x

-- no node was told to abort it
abbrev pub Unstopped : World → TxnId → Type 0
Unstopped w t = (n : ℕ) → Member (Decision t n false) w.packets → ⊥

-- a transaction waits
pub inv-opened : (opening : ℕ → GrainId → Option ℤ) (parts : TxnId → List Part) (w : World) (t : TxnId) (qs : List Part) → Inv opening parts w →
    Issued w t → (Member t w.coordinator.commits → ⊥) → Unstopped w t → qs ≡ parts t → Inv opening parts (opened w t qs)
inv-opened opening parts w t qs i issued new free own = record {
  same = i.same;
  numbers = i.numbers;
  parts_issued = i.parts_issued;
  parts_one = i.parts_one;
  parts_apart = i.parts_apart;
  commits_issued = i.commits_issued;
  commits_once = i.commits_once;
  pending_issued = λ p m. elim (Member-one p x w.coordinator.pending m) [ inl h ↦ i.pending_issued p h | inr e ↦ subst (λ (z : Pending). Issued w z.txn) (sym e) issued ];
  pending_parts = λ p m. elim (Member-one p x w.coordinator.pending m) [ inl h ↦ i.pending_parts p h | inr e ↦ subst (λ (z : Pending). z.parts ≡ parts z.txn) (sym e) own ];
  pending_open = λ p m. elim (Member-one p x w.coordinator.pending m) [ inl h ↦ i.pending_open p h | inr e ↦ subst (λ (z : Pending). Member z.txn w.coordinator.commits → ⊥) (sym e) new ];
  pending_yes = λ p n m. elim (Member-one p x w.coordinator.pending m) [ inl h ↦ i.pending_yes p n h | inr e ↦ subst (λ (z : Pending). Member n z.yes → Says w n z.txn) (sym e) (λ v. absurd v) ];
  sent = λ k m. same k m (i.sent k m);
  logged_part = i.logged_part;
  logged_done = i.logged_done;
  everywhere = i.everywhere;
  sound = i.sound;
  sums = i.sums;
  order = i.order;
}
  where
    x : Pending
    x = record { txn = t; parts = qs; yes = [] }

    same : (k : Packet) → Member k w.packets → True parts w k → True parts (opened w t qs) k
    same (Prepare u n s) m h = h
    same (Vote u n true) m h = h
    same (Vote u n false) m h = h
    same (Decision u n true) m h = h
    same (Decision u n false) m h = (
      h.0,
      h.1,
      λ p v e. elim (Member-one p (record { txn = t; parts = qs; yes = [] }) w.coordinator.pending v) [
        | inl a ↦ h.2 p a e
        | inr b ↦ free n (subst (λ z. Member (Decision z n false) w.packets) (sym e ∙ ap (λ (z : Pending). z.txn) b) m)
      ],
    )
    same (Ask u n) m h = h

-- a transaction commits
pub inv-committed : (opening : ℕ → GrainId → Option ℤ) (parts : TxnId → List Part) (w : World) (t : TxnId) → Inv opening parts w →
    Issued w t → (Member t w.coordinator.commits → ⊥) → Unstopped w t → ((p : Pending) → Member p w.coordinator.pending → p.txn ≡ t → ⊥) →
    ((q : Part) → Member q (parts t) → Member (Prepared t q.shifts) (log_at w.nodes q.node)) → Inv opening parts (committed w t)
inv-committed opening parts w t i issued new free out all = record {
  same = i.same;
  numbers = i.numbers;
  parts_issued = i.parts_issued;
  parts_one = i.parts_one;
  parts_apart = i.parts_apart;
  commits_issued = λ u m. elim (Member-one u t w.coordinator.commits m) [ inl h ↦ i.commits_issued u h | inr e ↦ subst (Issued w) (sym e) issued ];
  commits_once = Distinct-last w.coordinator.commits t i.commits_once new;
  pending_issued = i.pending_issued;
  pending_parts = i.pending_parts;
  pending_open = λ p m n. elim (Member-one p.txn t w.coordinator.commits n) [ inl h ↦ i.pending_open p m h | inr e ↦ out p m e ];
  pending_yes = i.pending_yes;
  sent = λ k m. same k m (i.sent k m);
  logged_part = i.logged_part;
  logged_done = i.logged_done;
  everywhere = λ u q m n. elim (Member-one u t w.coordinator.commits m) [ inl h ↦ i.everywhere u q h n | inr e ↦ subst (λ v. Member q (parts v) → Member (Prepared v q.shifts) (log_at w.nodes q.node)) (sym e) (all q) n ];
  sound = i.sound;
  sums = λ n g. i.sums n g ∙ sym (order-last g (log_at w.nodes n) w.coordinator.commits t ∙ ap (λ d. in_order g (log_at w.nodes n) w.coordinator.commits +ℤ d) (none n g) ∙ plus_none (in_order g (log_at w.nodes n) w.coordinator.commits));
  order = λ n g. order-commit (opening n) parts n g w.coordinator.commits (log_at w.nodes n) t (i.sound n) new (undone n)
      (λ u q m x e. subst (λ k. Member (Prepared u q.shifts) (log_at w.nodes k)) e (i.everywhere u q m x)) (λ q x e. subst (λ k. Member (Prepared t q.shifts) (log_at w.nodes k)) e (all q x)) (i.order n g);
}
  where
    undone : (n : ℕ) → is_done (log_at w.nodes n) t ≡ false
    undone n = elim (cases_Bool (is_done (log_at w.nodes n) t)) [ inl h ↦ (let d = done-entry t (log_at w.nodes n) h in absurd (not_done n d.0 d.1)) | inr h ↦ h ]
      where
        not_done : (n : ℕ) (c : Bool) → Member (Done t c) (log_at w.nodes n) → ⊥
        not_done n true m = new (i.sent (Decision t n true) (i.logged_done n t true m))
        not_done n false m = free n (i.logged_done n t false m)

    none : (n : ℕ) (g : GrainId) → commit_moves g (log_at w.nodes n) t ≡ pos 0
    none n g = elim (cases_Bool (is_committed (log_at w.nodes n) t)) [
      | inl h ↦ absurd (new (i.sent (Decision t n true) (i.logged_done n t true (committed-member t (log_at w.nodes n) h))))
      | inr h ↦ ap (λ b. if b then delta g (shifts_of t (log_at w.nodes n)) else pos 0) h
    ]

    same : (k : Packet) → Member k w.packets → True parts w k → True parts (committed w t) k
    same (Prepare u n s) m h = h
    same (Vote u n true) m h = h
    same (Vote u n false) m h = h
    same (Decision u n true) m h = Member-left u w.coordinator.commits (t ∷ []) h
    same (Decision u n false) m h = (h.0, (λ v. elim (Member-one u t w.coordinator.commits v) [ inl a ↦ h.1 a | inr e ↦ free n (subst (λ z. Member (Decision z n false) w.packets) e m) ]), h.2)
    same (Ask u n) m h = h

-- it is no longer pending
pub closed-out : (w : World) (t : TxnId) (p : Pending) → Member p (closed w t).coordinator.pending → Member p w.coordinator.pending × (p.txn ≡ t → ⊥)
closed-out w t p m =
    let x = filter-member (λ (z : Pending). not (same_txn z.txn t)) w.coordinator.pending p m in
    (x.0, λ e. clash (same_txn p.txn t) (same_txn-is p.txn t e) (not-true _ x.1))

pub inv-closed : (opening : ℕ → GrainId → Option ℤ) (parts : TxnId → List Part) (w : World) (t : TxnId) → Inv opening parts w → Inv opening parts (closed w t)
inv-closed opening parts w t i = record {
  same = i.same;
  numbers = i.numbers;
  parts_issued = i.parts_issued;
  parts_one = i.parts_one;
  parts_apart = i.parts_apart;
  commits_issued = i.commits_issued;
  commits_once = i.commits_once;
  pending_issued = λ p m. i.pending_issued p (closed-out w t p m).0;
  pending_parts = λ p m. i.pending_parts p (closed-out w t p m).0;
  pending_open = λ p m. i.pending_open p (closed-out w t p m).0;
  pending_yes = λ p n m. i.pending_yes p n (closed-out w t p m).0;
  sent = λ k m. same k (i.sent k m);
  logged_part = i.logged_part;
  logged_done = i.logged_done;
  everywhere = i.everywhere;
  sound = i.sound;
  sums = i.sums;
  order = i.order;
}
  where
    same : (k : Packet) → True parts w k → True parts (closed w t) k
    same (Prepare u n s) h = h
    same (Vote u n true) h = h
    same (Vote u n false) h = h
    same (Decision u n true) h = h
    same (Decision u n false) h = (h.0, h.1, λ p m. h.2 p (closed-out w t p m).0)
    same (Ask u n) h = h

-- a yes is kept
said-old : (n : ℕ) (said : List ℕ) (m : ℕ) → Member m (with_yes n said) → Member m said ⊎ (m ≡ n)
said-old n said m =
    cond_both (any (λ k. k == n) said) said (said ++ n ∷ []) (λ l. Member m l → Member m said ⊎ (m ≡ n))
    (λ e h. inl h) (λ e h. Member-one m n said h)

-- what a pending transaction was before
abbrev Before : TxnId → ℕ → Pending → Pending → Type 0
Before t n p q = (p.txn ≡ q.txn) × (p.parts ≡ q.parts) × ((m : ℕ) → Member m p.yes → Member m q.yes ⊎ ((m ≡ n) × (q.txn ≡ t)))

agreed-old : (t : TxnId) (n : ℕ) (ps : List Pending) (p : Pending) → Member p (agreed t n ps) → (q : Pending) × Member q ps × Before t n p q
agreed-old t n [] p = λ m. absurd m
agreed-old t n (q ∷ qs) p =
    cond_both (same_txn q.txn t) (record q { yes = with_yes n q.yes } ∷ qs) (q ∷ agreed t n qs) (λ l. Member p l → (r : Pending) × Member r (q ∷ qs) × Before t n p r)
    (λ e m. elim m [
      | inl h ↦ (q, inl refl, (ap (λ (z : Pending). z.txn) h, ap (λ (z : Pending). z.parts) h, λ k v. elim (said-old n q.yes k (subst (λ (z : Pending). Member k z.yes) h v)) [ inl a ↦ inl a | inr b ↦ inr (b, same_txn-true q.txn t e) ]))
      | inr h ↦ (p, inr h, (refl, refl, λ k v. inl v))
    ])
    (λ e m. elim m [
      | inl h ↦ (p, inl h, (refl, refl, λ k v. inl v))
      | inr h ↦ (let x = agreed-old t n qs p h in (x.0, inr x.1, x.2))
    ])

pub inv-agreed : (opening : ℕ → GrainId → Option ℤ) (parts : TxnId → List Part) (w : World) (t : TxnId) (n : ℕ) → Inv opening parts w → Says w n t → Inv opening parts (agreeing w t n)
inv-agreed opening parts w t n i says = record {
  same = i.same;
  numbers = i.numbers;
  parts_issued = i.parts_issued;
  parts_one = i.parts_one;
  parts_apart = i.parts_apart;
  commits_issued = i.commits_issued;
  commits_once = i.commits_once;
  pending_issued = λ p m. (let x = agreed-old t n w.coordinator.pending p m in subst (Issued w) (sym x.2.0) (i.pending_issued x.0 x.1));
  pending_parts = λ p m. (let x = agreed-old t n w.coordinator.pending p m in x.2.1 ∙ i.pending_parts x.0 x.1 ∙ ap parts (sym x.2.0));
  pending_open = λ p m c. (let x = agreed-old t n w.coordinator.pending p m in i.pending_open x.0 x.1 (subst (λ z. Member z w.coordinator.commits) x.2.0 c));
  pending_yes = λ p k m v. (let x = agreed-old t n w.coordinator.pending p m in
      elim (x.2.2 k v) [
        | inl h ↦ subst (Says w k) (sym x.2.0) (i.pending_yes x.0 k x.1 h)
        | inr h ↦ subst (Says w k) (sym (x.2.0 ∙ h.1)) (subst (λ z. Says w z t) (sym h.0) says)
      ]);
  sent = λ k m. same k (i.sent k m);
  logged_part = i.logged_part;
  logged_done = i.logged_done;
  everywhere = i.everywhere;
  sound = i.sound;
  sums = i.sums;
  order = i.order;
}
  where
    same : (k : Packet) → True parts w k → True parts (agreeing w t n) k
    same (Prepare u m s) h = h
    same (Vote u m true) h = h
    same (Vote u m false) h = h
    same (Decision u m true) h = h
    same (Decision u m false) h = (h.0, h.1, λ p v e. (let x = agreed-old t n w.coordinator.pending p v in h.2 x.0 x.1 (sym x.2.0 ∙ e)))
    same (Ask u m) h = h

-- a restart of the coordinator
pub inv-restarted : (opening : ℕ → GrainId → Option ℤ) (parts : TxnId → List Part) (w : World) → Inv opening parts w → Inv opening parts (renewed w)
inv-restarted opening parts w i = record {
  same = i.same;
  numbers = i.numbers;
  parts_issued = λ t q m. past t (i.parts_issued t q m);
  parts_one = i.parts_one;
  parts_apart = i.parts_apart;
  commits_issued = λ t m. past t (i.commits_issued t m);
  commits_once = i.commits_once;
  pending_issued = λ p m. absurd m;
  pending_parts = λ p m. absurd m;
  pending_open = λ p m. absurd m;
  pending_yes = λ p n m. absurd m;
  sent = λ k m. same k (i.sent k m);
  logged_part = i.logged_part;
  logged_done = i.logged_done;
  everywhere = i.everywhere;
  sound = i.sound;
  sums = i.sums;
  order = i.order;
}
  where
    past : (t : TxnId) → Issued w t → Issued (renewed w) t
    past t (inl h) = inl (omega (arith, h))
    past t (inr h) = inl (omega (arith, h.0))

    same : (k : Packet) → True parts w k → True parts (renewed w) k
    same (Prepare u m s) h = h
    same (Vote u m true) h = h
    same (Vote u m false) h = past u h
    same (Decision u m true) h = h
    same (Decision u m false) h = (past u h.0, h.1, λ p v. absurd v)
    same (Ask u m) h = past u h

-- a committed transaction is prepared
committed-prepared : (opening : GrainId → Option ℤ) (log : List NodeEntry) → Sound opening log → (u : TxnId) → is_committed log u ≡ true → is_prepared log u ≡ true
committed-prepared opening log k u e = k.prepared u true (committed-member u log e)

-- what a packet says of logs stays
grown : (parts : TxnId → List Part) (w : World) (n : ℕ) (e : NodeEntry) (k : Packet) → n < length w.nodes → True parts w k → True parts (logged w n (log_at w.nodes n ++ e ∷ [])) k
grown parts w n e (Prepare u m s) there h = h
grown parts w n e (Vote u m true) there h = (h.0, log-more w.nodes n e m (Prepared u h.0) there h.1)
grown parts w n e (Vote u m false) there h = h
grown parts w n e (Decision u m true) there h = h
grown parts w n e (Decision u m false) there h = h
grown parts w n e (Ask u m) there h = h

-- a node prepares a transaction
pub inv-prepared : (opening : ℕ → GrainId → Option ℤ) (parts : TxnId → List Part) (w : World) (n : ℕ) (t : TxnId) (s : List Shift) → n < length w.nodes → Inv opening parts w →
    Member (record { node = n; shifts = s }) (parts t) → is_done (log_at w.nodes n) t ≡ false → is_prepared (log_at w.nodes n) t ≡ false → can_prepare (opening n) (log_at w.nodes n) s ≡ true →
    Inv opening parts (logged w n (log_at w.nodes n ++ Prepared t s ∷ []))
inv-prepared opening parts w n t s there i part fresh new can = record {
  same = λ m. node-put w.nodes n (log_at w.nodes n ++ Prepared t s ∷ []) (λ x. opening_in x.opening ≡ opening m) m there (λ e. subst (λ z. opening_at w.nodes n ≡ opening z) (sym e) (i.same n)) (λ e. i.same m);
  numbers = λ m h. node-put w.nodes n (log_at w.nodes n ++ Prepared t s ∷ []) (λ x. x.number ≡ m) m there (λ e. i.numbers n there ∙ sym e)
      (λ e. i.numbers m (subst (λ k. m < k) (length-set w.nodes n (record (node_at w.nodes n) { log = log_at w.nodes n ++ Prepared t s ∷ [] })) h));
  parts_issued = i.parts_issued;
  parts_one = i.parts_one;
  parts_apart = i.parts_apart;
  commits_issued = i.commits_issued;
  commits_once = i.commits_once;
  pending_issued = i.pending_issued;
  pending_parts = i.pending_parts;
  pending_open = i.pending_open;
  pending_yes = λ p m a b. (let x = i.pending_yes p m a b in (x.0, log-more w.nodes n (Prepared t s) m (Prepared p.txn x.0) there x.1));
  sent = λ k m. grown parts w n (Prepared t s) k there (i.sent k m);
  logged_part = λ m u r x. elim (log-new w.nodes n (Prepared t s) m (Prepared u r) there x) [
    | inl h ↦ i.logged_part m u r h
    | inr h ↦ (let a : u ≡ t = is_t u r h.1 in let b : r ≡ s = is_s u r h.1 in
        subst (λ (z : Part). Member z (parts u)) (λ j. record { node = sym h.0 j; shifts = sym b j }) (subst (λ z. Member (record { node = n; shifts = s }) (parts z)) (sym a) part))
  ];
  logged_done = λ m u c x. elim (log-new w.nodes n (Prepared t s) m (Done u c) there x) [ inl h ↦ i.logged_done m u c h | inr h ↦ absurd (apart u c h.1) ];
  everywhere = λ u q a b. log-more w.nodes n (Prepared t s) q.node (Prepared u q.shifts) there (i.everywhere u q a b);
  sound = λ m. log-put w.nodes n (log_at w.nodes n ++ Prepared t s ∷ []) (Sound (opening m)) m there
      (λ e. subst (λ z. Sound (opening z) (log_at w.nodes n ++ Prepared t s ∷ [])) (sym e) (sound-prepared (opening n) (log_at w.nodes n) t s (i.sound n) fresh new (i.parts_apart t (record { node = n; shifts = s }) part) can))
      (λ e. i.sound m);
  sums = λ m g. log-put w.nodes n (log_at w.nodes n ++ Prepared t s ∷ []) (λ l. moved g l l ≡ in_order g l w.coordinator.commits) m there
      (λ e. moved-more g (log_at w.nodes n) (Prepared t s) (i.sound n).prepared ∙ plus_none (moved g (log_at w.nodes n) (log_at w.nodes n)) ∙ i.sums n g
      ∙ sym (order-stay g (log_at w.nodes n) (Prepared t s) w.coordinator.commits (committed-prepared (opening n) (log_at w.nodes n) (i.sound n)) (λ u v. refl)))
      (λ e. i.sums m g);
  order = λ m g. log-put w.nodes n (log_at w.nodes n ++ Prepared t s ∷ []) (λ l. Order parts m g w.coordinator.commits l) m there
      (λ e. subst (λ k. Order parts k g w.coordinator.commits (log_at w.nodes n ++ Prepared t s ∷ [])) (sym e) (order-prepared parts n g w.coordinator.commits (log_at w.nodes n) t s (i.order n g))) (λ e. i.order m g);
}
  where
    is_t : (u : TxnId) (r : List Shift) → Prepared u r ≡ Prepared t s → u ≡ t
    is_t u r e = cc

    is_s : (u : TxnId) (r : List Shift) → Prepared u r ≡ Prepared t s → r ≡ s
    is_s u r e = cc

    apart : (u : TxnId) (c : Bool) → Done u c ≡ Prepared t s → ⊥
    apart u c e = cc

-- a node is done with a transaction
pub inv-done : (opening : ℕ → GrainId → Option ℤ) (parts : TxnId → List Part) (w : World) (n : ℕ) (t : TxnId) (c : Bool) → n < length w.nodes → Inv opening parts w →
    Member (Decision t n c) w.packets → is_prepared (log_at w.nodes n) t ≡ true → is_done (log_at w.nodes n) t ≡ false → Inv opening parts (logged w n (log_at w.nodes n ++ Done t c ∷ []))
inv-done opening parts w n t c there i told was fresh = record {
  same = λ m. node-put w.nodes n (log_at w.nodes n ++ Done t c ∷ []) (λ x. opening_in x.opening ≡ opening m) m there (λ e. subst (λ z. opening_at w.nodes n ≡ opening z) (sym e) (i.same n)) (λ e. i.same m);
  numbers = λ m h. node-put w.nodes n (log_at w.nodes n ++ Done t c ∷ []) (λ x. x.number ≡ m) m there (λ e. i.numbers n there ∙ sym e)
      (λ e. i.numbers m (subst (λ k. m < k) (length-set w.nodes n (record (node_at w.nodes n) { log = log_at w.nodes n ++ Done t c ∷ [] })) h));
  parts_issued = i.parts_issued;
  parts_one = i.parts_one;
  parts_apart = i.parts_apart;
  commits_issued = i.commits_issued;
  commits_once = i.commits_once;
  pending_issued = i.pending_issued;
  pending_parts = i.pending_parts;
  pending_open = i.pending_open;
  pending_yes = λ p m a b. (let x = i.pending_yes p m a b in (x.0, log-more w.nodes n (Done t c) m (Prepared p.txn x.0) there x.1));
  sent = λ k m. grown parts w n (Done t c) k there (i.sent k m);
  logged_part = λ m u r x. elim (log-new w.nodes n (Done t c) m (Prepared u r) there x) [ inl h ↦ i.logged_part m u r h | inr h ↦ absurd (apart u r h.1) ];
  logged_done = λ m u d x. elim (log-new w.nodes n (Done t c) m (Done u d) there x) [
    | inl h ↦ i.logged_done m u d h
    | inr h ↦ (let a : t ≡ u = is_t u d h.1 in let b : c ≡ d = is_c u d h.1 in let e : n ≡ m = sym h.0 in
        subst (λ k. Member k w.packets) (λ j. Decision (a j) (e j) (b j)) told)
  ];
  everywhere = λ u q a b. log-more w.nodes n (Done t c) q.node (Prepared u q.shifts) there (i.everywhere u q a b);
  sound = λ m. log-put w.nodes n (log_at w.nodes n ++ Done t c ∷ []) (Sound (opening m)) m there
      (λ e. subst (λ z. Sound (opening z) (log_at w.nodes n ++ Done t c ∷ [])) (sym e) (sound-done (opening n) (log_at w.nodes n) t c (i.sound n) was fresh))
      (λ e. i.sound m);
  sums = λ m g. log-put w.nodes n (log_at w.nodes n ++ Done t c ∷ []) (λ l. moved g l l ≡ in_order g l w.coordinator.commits) m there
      (λ e. moved-more g (log_at w.nodes n) (Done t c) (i.sound n).prepared ∙ ap (λ z. moved g (log_at w.nodes n) (log_at w.nodes n) +ℤ (if c then delta g z else pos 0)) (shifts-stay t (log_at w.nodes n) (Done t c ∷ []) was) ∙ sum g c refl)
      (λ e. i.sums m g);
  order = λ m g. log-put w.nodes n (log_at w.nodes n ++ Done t c ∷ []) (λ l. Order parts m g w.coordinator.commits l) m there
      (λ e. subst (λ k. Order parts k g w.coordinator.commits (log_at w.nodes n ++ Done t c ∷ [])) (sym e) (order-done parts n g w.coordinator.commits (log_at w.nodes n) t c (rests c (i.sent (Decision t n c) told)) fresh (i.order n g))) (λ e. i.order m g);
}
  where
    rests : (d : Bool) → True parts w (Decision t n d) → Rests w.coordinator.commits t d
    rests true h = h
    rests false h = h.1

    is_t : (u : TxnId) (d : Bool) → Done u d ≡ Done t c → t ≡ u
    is_t u d e = cc

    is_c : (u : TxnId) (d : Bool) → Done u d ≡ Done t c → c ≡ d
    is_c u d e = cc

    apart : (u : TxnId) (r : List Shift) → Prepared u r ≡ Done t c → ⊥
    apart u r e = cc

    uncommitted : is_committed (log_at w.nodes n) t ≡ false
    uncommitted = elim (cases_Bool (is_committed (log_at w.nodes n) t)) [ inl h ↦ clash (is_done (log_at w.nodes n) t) (done-is t true (log_at w.nodes n) (committed-member t (log_at w.nodes n) h)) fresh | inr h ↦ h ]

    and-false : (b : Bool) → (b && false) ≡ false
    and-false true = refl
    and-false false = refl

    sum : (g : GrainId) (d : Bool) → d ≡ c → moved g (log_at w.nodes n) (log_at w.nodes n) +ℤ (if d then delta g (shifts_of t (log_at w.nodes n)) else pos 0) ≡ in_order g (log_at w.nodes n ++ Done t d ∷ []) w.coordinator.commits
    sum g true e =
        ap (λ z. z +ℤ delta g (shifts_of t (log_at w.nodes n))) (i.sums n g)
        ∙ sym (order-more g (log_at w.nodes n) t w.coordinator.commits (committed-prepared (opening n) (log_at w.nodes n) (i.sound n)) uncommitted was i.commits_once (i.sent (Decision t n true) (subst (λ z. Member (Decision t n z) w.packets) (sym e) told)))
    sum g false e =
        plus_none (moved g (log_at w.nodes n) (log_at w.nodes n)) ∙ i.sums n g
        ∙ sym (order-stay g (log_at w.nodes n) (Done t false) w.coordinator.commits (committed-prepared (opening n) (log_at w.nodes n) (i.sound n)) (λ u v. and-false (same_txn t u)))
