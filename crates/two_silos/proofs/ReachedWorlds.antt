-- What a world is that events lead to, and one more event.
use Rattle.std.proofs.Common.{◌≡◌, ℕ, zero, suc, ◌<◌, ◌≤◌, ◌+◌, List, [], ◌∷◌, ◌++◌, length, get_or, Bool, true, false, inl, inr, refl, sym, ap, ◌∙◌, subst, arith, Some, None, slice_get, Result, Ok, Err, OnOk, OnErr}
use Rattle.std.specs.Prelude.{◌&&◌, nat_le, slice_set, if◌then◌else◌}
use Rattle.std.proofs.lemmas.Bool.{cond_both, and_parts, lt-ltb, le-ltb, le-leb, lt-leb}
use Rattle.std.proofs.lemmas.List.{set-get_or, length-append}
use Rattle.two_silos.specs.Nodes.{Ask, Decision, Packet, Part, Prepare, Shift, Vote}
use Rattle.silo_nodes.specs.Packets.{all, Member}
use Rattle.silo_nodes.specs.LogCache.{Node}
use Rattle.silo_nodes.specs.Participants.{IsApart, learned, answers, questions}
use Rattle.silo_nodes.specs.Coordinators.{Coordination, parts_from, prepare_each, begun, find, heard, replies, restarted}
use Rattle.two_silos.specs.World.{World, WorldEvent, Start, Deliver, Nudge, RestartCoordinator, IsReachedWorld, begin, step, run, within, does, told, started, can_start, is_part, send, delivered, delivered_to, receiver_of, next_txn, is_within, node_at, nobody, parts_in}
use Rattle.two_silos.specs.Links.{has_room, sent_on, may_begin, HasHeard, Handed, Begun}
use Rattle.two_silos.proofs.Invariant.{Inv}
use Rattle.two_silos.proofs.SmallChanges.{opening_of}
use Rattle.two_silos.proofs.KeptInvariant.{kept}
use Rattle.two_silos.proofs.Ends.{run-more}
use Rattle.two_silos.proofs.StartedTransactions.{vote-number}

step-within : (w : World) (e : WorldEvent) → is_within w ≡ true → is_within (step w e) ≡ true
step-within w e h = cond_both (is_within (does w e)) (does w e) w (λ v. is_within v ≡ true) (λ a. a) (λ a. h)

run-within : (es : List WorldEvent) (w : World) → is_within w ≡ true → is_within (run w es) ≡ true
run-within [] w h = h
run-within (e ∷ es) w h = run-within es (step w e) (step-within w e h)

pub reached-within : (w : World) → IsReachedWorld w → is_within w ≡ true
reached-within w r = ap is_within r.is ∙ run-within r.events (begin r.openings) refl

-- no packet has a number above the last one
pub reached-packets : (w : World) → IsReachedWorld w → length w.packets ≤ 4294967296
reached-packets w r =
    let p = and_parts (nat_le w.coordinator.epoch 4294967295) _ (reached-within w r) in
    let q = and_parts (nat_le w.coordinator.number 4294967295) _ p.1 in
    let few : nat_le (length w.packets) 4294967296 ≡ true = q.1 in
    grind (arith, few)

pub reached-next : (w v : World) (e : WorldEvent) → IsReachedWorld w → v ≡ step w e → IsReachedWorld v
reached-next w v e r is = record {
  openings = r.openings;
  balances = r.balances;
  events = r.events ++ e ∷ [];
  is = is ∙ ap (λ x. step x e) r.is ∙ sym (run-more r.events (e ∷ []) (begin r.openings));
}

pub reached-inv : (w : World) (r : IsReachedWorld w) → Inv (opening_of r.openings) (parts_in r.openings r.events) w
reached-inv w r = subst (Inv (opening_of r.openings) (parts_in r.openings r.events)) (sym r.is) (kept r.openings r.events r.balances)

-- each packet that was sent has different grains
pub packet-apart : (w : World) → IsReachedWorld w → (k : Packet) → Member k w.packets → IsApart k
packet-apart w r k m = go k (reached-inv w r) m
  where
    go : (k : Packet) → Inv (opening_of r.openings) (parts_in r.openings r.events) w → Member k w.packets → IsApart k
    go (Prepare t n s) i m = i.parts_apart t (record { node = n; shifts = s }) (i.sent (Prepare t n s) m)
    go (Vote t n b) i m = tt
    go (Decision t n c) i m = tt
    go (Ask t n) i m = tt

-- an element that is there
pub got : {A : Type 0} (xs : List A) (k : ℕ) (x d : A) → slice_get xs k ≡ Some x → (k < length xs) × (get_or xs k d ≡ x)
got [] k x d e = cc
got (y ∷ ys) zero x d e = (omega arith, (let q : y ≡ x = cc in q))
got (y ∷ ys) (suc k) x d e = (let r = got ys k x d e in (omega (arith, r.0), r.1))

-- where neither epoch nor number change, the packets alone tell
within-sent : (w v : World) → is_within w ≡ true → v.coordinator.epoch ≡ w.coordinator.epoch → v.coordinator.number ≡ w.coordinator.number → is_within v ≡ nat_le (length v.packets) 4294967296
within-sent w v h e n =
    let p = and_parts (nat_le w.coordinator.epoch 4294967295) _ h in
    let q = and_parts (nat_le w.coordinator.number 4294967295) _ p.1 in
    (λ i. nat_le (e i) 4294967295 && (nat_le (n i) 4294967295 && nat_le (length v.packets) 4294967296)) ∙ (λ i. p.0 i && (q.0 i && nat_le (length v.packets) 4294967296))

-- where packets are sent
within-more : (w v : World) (sent : List Packet) → is_within w ≡ true → v.coordinator.epoch ≡ w.coordinator.epoch → v.coordinator.number ≡ w.coordinator.number → v.packets ≡ w.packets ++ sent → is_within v ≡ has_room w.packets sent
within-more w v sent h e n p = within-sent w v h e n ∙ ap (λ l. nat_le (length l) 4294967296) p ∙ ap (λ k. nat_le k 4294967296) (length-append w.packets sent)

-- a packet leaves epoch and number
heard-number : (c : Coordination) (k : Packet) → ((heard c k).epoch ≡ c.epoch) × ((heard c k).number ≡ c.number)
heard-number c (Prepare t n s) = (refl, refl)
heard-number c (Vote t n b) = vote-number c t n b (find t c.pending)
heard-number c (Decision t n b) = (refl, refl)
heard-number c (Ask t n) = (refl, refl)

-- the event hands over the packet of that number
does-deliver : (w : World) (k : ℕ) (p : Packet) → slice_get w.packets k ≡ Some p → does w (Deliver k) ≡ delivered_to w (receiver_of p) p
does-deliver w k p e =
    let g = got w.packets k p (Ask (next_txn w) 0) e in
    ap (λ b. if b then delivered_to w (receiver_of (get_or w.packets k (Ask (next_txn w) 0))) (get_or w.packets k (Ask (next_txn w) 0)) else w) (lt-ltb k (length w.packets) g.0)
    ∙ ap (λ x. delivered_to w (receiver_of x) x) g.1

-- the coordinator gets a packet
pub told-step : (w : World) (k : ℕ) (p : Packet) (c : Coordination) (ps : List Packet) → is_within w ≡ true → slice_get w.packets k ≡ Some p → receiver_of p ≡ None → HasHeard w.coordinator w.packets p c ps →
    record w { coordinator = c; packets = ps } ≡ step w (Deliver k)
told-step w k p c ps h e r t =
    (λ i. record w { coordinator = t.coordinator i; packets = t.packets i }) ∙ go (has_room w.packets (replies w.coordinator p)) refl
    ∙ ap (within w) (sym (does-deliver w k p e ∙ ap (λ o. delivered_to w o p) r))
  where
    room : is_within (told w p) ≡ has_room w.packets (replies w.coordinator p)
    room = (let n = heard-number w.coordinator p in within-more w (told w p) (replies w.coordinator p) h n.0 n.1 refl)

    go : (b : Bool) → has_room w.packets (replies w.coordinator p) ≡ b → record w { coordinator = if b then heard w.coordinator p else w.coordinator; packets = if b then w.packets ++ replies w.coordinator p else w.packets } ≡ within w (told w p)
    go true q = sym (ap (λ b. if b then told w p else w) (room ∙ q))
    go false q = sym (ap (λ b. if b then told w p else w) (room ∙ q))

-- a participant gets a packet
pub handed-step : (w : World) (k n : ℕ) (p : Packet) (x : Node) (ps : List Packet) → is_within w ≡ true → slice_get w.packets k ≡ Some p → receiver_of p ≡ Some n → n < length w.nodes → Handed (node_at w.nodes n) w.packets p x ps →
    record w { nodes = slice_set w.nodes n x; packets = ps } ≡ step w (Deliver k)
handed-step w k n p x ps h e r there t =
    (λ i. record w { nodes = slice_set w.nodes n (t.node i); packets = t.packets i }) ∙ go (has_room w.packets (answers (node_at w.nodes n) p)) refl
    ∙ ap (within w) (sym (does-deliver w k p e ∙ ap (λ o. delivered_to w o p) r ∙ ap (λ b. if b then all else w) (lt-ltb n (length w.nodes) there)))
  where
    all : World
    all = record w { nodes = slice_set w.nodes n (learned (node_at w.nodes n) p); packets = w.packets ++ answers (node_at w.nodes n) p }

    room : is_within all ≡ has_room w.packets (answers (node_at w.nodes n) p)
    room = within-more w all (answers (node_at w.nodes n) p) h refl refl refl

    go : (b : Bool) → has_room w.packets (answers (node_at w.nodes n) p) ≡ b →
        record w { nodes = slice_set w.nodes n (if b then learned (node_at w.nodes n) p else node_at w.nodes n); packets = if b then w.packets ++ answers (node_at w.nodes n) p else w.packets } ≡ within w all
    go true q = sym (ap (λ b. if b then all else w) (room ∙ q))
    go false q = ap (λ ns. record w { nodes = ns }) (set-get_or w.nodes n nobody) ∙ sym (ap (λ b. if b then all else w) (room ∙ q))

-- packets are sent
pub sent-step : (w : World) (sent ps : List Packet) → is_within w ≡ true → ps ≡ sent_on w.packets sent → record w { packets = ps } ≡ within w (send w sent)
sent-step w sent ps h e = ap (λ l. record w { packets = l }) e ∙ go (has_room w.packets sent) refl
  where
    go : (b : Bool) → has_room w.packets sent ≡ b → record w { packets = if b then w.packets ++ sent else w.packets } ≡ within w (send w sent)
    go true q = sym (ap (λ b. if b then send w sent else w) (within-more w (send w sent) sent h refl refl refl ∙ q))
    go false q = sym (ap (λ b. if b then send w sent else w) (within-more w (send w sent) sent h refl refl refl ∙ q))

-- an event that does nothing
pub stays-step : (w : World) (e : WorldEvent) → does w e ≡ w → w ≡ step w e
stays-step w e q = cond_both (is_within (does w e)) (does w e) w (λ v. w ≡ v) (λ a. sym q) (λ a. refl)

-- a transaction takes one number of the same epoch
begun-number : (c : Coordination) (qs : List Part) → ((begun c qs).epoch ≡ c.epoch) × ((begun c qs).number ≡ c.number + 1)
begun-number c [] = (refl, refl)
begun-number c (q ∷ qs) = (refl, refl)

-- a transaction of these parts begins
pub started-step : (w : World) (qs : List Part) (c : Coordination) (ps : List Packet) → is_within w ≡ true → Begun w.coordinator w.packets qs c ps → record w { coordinator = c; packets = ps } ≡ within w (started w qs)
started-step w qs c ps h t = (λ i. record w { coordinator = t.coordinator i; packets = t.packets i }) ∙ go (may_begin w.coordinator w.packets qs) refl
  where
    fits : is_within (started w qs) ≡ may_begin w.coordinator w.packets qs
    fits =
        let n = begun-number w.coordinator qs in
        (λ i. nat_le (n.0 i) 4294967295 && (nat_le (n.1 i) 4294967295 && nat_le (length-append w.packets (prepare_each (next_txn w) qs) i) 4294967296))
        ∙ ap (λ b. b && may_begin w.coordinator w.packets qs) (and_parts (nat_le w.coordinator.epoch 4294967295) _ h).0

    go : (b : Bool) → may_begin w.coordinator w.packets qs ≡ b →
        record w { coordinator = if b then begun w.coordinator qs else w.coordinator; packets = if b then w.packets ++ prepare_each (next_txn w) qs else w.packets } ≡ within w (started w qs)
    go true q = sym (ap (λ b. if b then started w qs else w) (fits ∙ q))
    go false q = sym (ap (λ b. if b then started w qs else w) (fits ∙ q))

pub start-step : (w : World) (lists : List (List Shift)) (c : Coordination) (ps : List Packet) → is_within w ≡ true → length lists ≤ 8 → all (is_part w.nodes) (parts_from 0 lists) ≡ true →
    Begun w.coordinator w.packets (parts_from 0 lists) c ps → record w { coordinator = c; packets = ps } ≡ step w (Start lists)
start-step w lists c ps h few there t =
    started-step w (parts_from 0 lists) c ps h t
    ∙ ap (within w) (sym (λ i. if le-leb (length lists) 8 few i && there i then started w (parts_from 0 lists) else w))

-- a start that may not be
pub start-none : (w : World) (lists : List (List Shift)) → can_start w lists ≡ false → w ≡ step w (Start lists)
start-none w lists e = stays-step w (Start lists) (ap (λ b. if b then started w (parts_from 0 lists) else w) e)

pub start-many : (w : World) (lists : List (List Shift)) → 8 < length lists → w ≡ step w (Start lists)
start-many w lists h = start-none w lists (ap (λ b. b && all (is_part w.nodes) (parts_from 0 lists)) (lt-leb (length lists) 8 h))

pub start-apart : (w : World) (lists : List (List Shift)) → length lists ≤ 8 → all (is_part w.nodes) (parts_from 0 lists) ≡ false → w ≡ step w (Start lists)
start-apart w lists few e = start-none w lists (λ i. le-leb (length lists) 8 few i && e i)

-- a packet that isn't there
pub deliver-none : (w : World) (k : ℕ) → length w.packets ≤ k → w ≡ step w (Deliver k)
deliver-none w k h = stays-step w (Deliver k) (ap (λ b. if b then delivered w (get_or w.packets k (Ask (next_txn w) 0)) else w) (le-ltb k (length w.packets) h))

-- a packet to a participant that isn't there
pub handed-none : (w : World) (k n : ℕ) (p : Packet) → slice_get w.packets k ≡ Some p → receiver_of p ≡ Some n → length w.nodes ≤ n → w ≡ step w (Deliver k)
handed-none w k n p e r h =
    stays-step w (Deliver k) (does-deliver w k p e ∙ ap (λ o. delivered_to w o p) r
    ∙ ap (λ b. if b then record w { nodes = slice_set w.nodes n (learned (node_at w.nodes n) p); packets = w.packets ++ answers (node_at w.nodes n) p } else w) (le-ltb n (length w.nodes) h))

-- a nudge of a participant
pub nudge-step : (w : World) (n : ℕ) (x : Node) (ps : List Packet) → is_within w ≡ true → slice_get w.nodes n ≡ Some x → ps ≡ sent_on w.packets (questions x) → record w { packets = ps } ≡ step w (Nudge n)
nudge-step w n x ps h e t =
    let g = got w.nodes n x nobody e in
    sent-step w (questions x) ps h t ∙ ap (within w) (sym (λ i. if lt-ltb n (length w.nodes) g.0 i then send w (questions (g.1 i)) else w))

pub nudge-none : (w : World) (n : ℕ) → length w.nodes ≤ n → w ≡ step w (Nudge n)
nudge-none w n h = stays-step w (Nudge n) (ap (λ b. if b then send w (questions (node_at w.nodes n)) else w) (le-ltb n (length w.nodes) h))

-- the coordinator begins again, where an epoch is left
pub restart-step : (w : World) → is_within w ≡ true → w.coordinator.epoch < 4294967295 → record w { coordinator = restarted w.coordinator } ≡ step w RestartCoordinator
restart-step w h e =
    let p = and_parts (nat_le w.coordinator.epoch 4294967295) _ h in
    let q = and_parts (nat_le w.coordinator.number 4294967295) _ p.1 in
    sym (ap (λ b. if b then record w { coordinator = restarted w.coordinator } else w) (λ i. le-leb (w.coordinator.epoch + 1) 4294967295 (omega (arith, e)) i && q.1 i))

pub restart-none : (w : World) → 4294967295 ≤ w.coordinator.epoch → w ≡ step w RestartCoordinator
restart-none w e = sym (ap (λ b. if b && nat_le (length w.packets) 4294967296 then record w { coordinator = restarted w.coordinator } else w) (lt-leb (w.coordinator.epoch + 1) 4294967295 (omega (arith, e))))

-- what is missing is past the end
pub past : {A : Type 0} (xs : List A) (k : ℕ) → slice_get xs k ≡ None → length xs ≤ k
past [] k e = omega arith
past (x ∷ xs) zero e = cc
past (x ∷ xs) (suc k) e = (let h = past xs k e in omega (arith, h))

-- the world after a call that may fail
pub after : {A E : Type 0} (r : Result A E) (w v : World) (e : WorldEvent) → IsReachedWorld w → OnOk r (v ≡ step w e) → OnErr r (v ≡ w) → IsReachedWorld v
after (Ok a) w v e r ok err = reached-next w v e r ok
after (Err x) w v e r ok err = subst IsReachedWorld (sym err) r

-- from what a call says to what it means
pub on-ok : {A E : Type 0} (r : Result A E) (P Q : Type 0) → OnOk r P → (P → Q) → OnOk r Q
on-ok (Ok a) P Q p f = f p
on-ok (Err e) P Q p f = p

pub on-err : {A E : Type 0} (r : Result A E) (P Q : Type 0) → OnErr r P → (P → Q) → OnErr r Q
on-err (Ok a) P Q p f = p
on-err (Err e) P Q p f = f p

-- what is there is a member
pub got-member : {A : Type 0} (xs : List A) (k : ℕ) (x : A) → slice_get xs k ≡ Some x → Member x xs
got-member [] k x e = cc
got-member (y ∷ ys) zero x e = inl (let q : x ≡ y = cc in q)
got-member (y ∷ ys) (suc k) x e = inr (got-member ys k x e)

-- a participant that stays
pub handed-same : (w : World) (n : ℕ) (x : Node) (ps : List Packet) → x ≡ node_at w.nodes n → ps ≡ w.packets → record w { nodes = slice_set w.nodes n x; packets = ps } ≡ w
handed-same w n x ps e p = (λ i. record w { nodes = slice_set w.nodes n (e i); packets = p i }) ∙ ap (λ ns. record w { nodes = ns }) (set-get_or w.nodes n nobody)

-- an element that is there, from where it stands
pub got-back : {A : Type 0} (xs : List A) (k : ℕ) (x : A) → k < length xs → x ≡ get_or xs k x → slice_get xs k ≡ Some x
got-back [] k x h e = absurd (omega (arith, h))
got-back (y ∷ ys) zero x h e = ap (λ z. Some z) (sym e)
got-back (y ∷ ys) (suc k) x h e = got-back ys k x (omega (arith, h)) e
