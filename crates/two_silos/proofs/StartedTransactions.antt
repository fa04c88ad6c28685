-- What a transaction was started with stays.
use Rattle.std.proofs.Common.{◌≡◌, ℕ, List, [], ◌∷◌, length, get_or, Bool, true, false, inl, inr, refl, sym, ap, ◌∙◌, subst, arith, Option, Some, None}
use Rattle.std.specs.Prelude.{nat_lt, ◌&&◌, ◌++◌, slice_set, if◌then◌else◌}
use Rattle.std.proofs.lemmas.Bool.{cond_both}
use Rattle.two_silos.specs.Nodes.{Ask, Decision, Packet, Part, Pending, Prepare, Shift, TxnId, Vote}
use Rattle.silo_nodes.specs.Participants.{questions, learned, answers}
use Rattle.silo_nodes.specs.Coordinators.{Coordination, parts_from, find, is_unanimous, voted, agreed, with_decision}
use Rattle.two_silos.specs.World.{World, WorldEvent, Start, Deliver, NudgeCoordinator, Nudge, RestartCoordinator, Restart, node_at, put_txn, can_start, next_txn, started, handed, send, delivered, does, is_within, step, parts_with, parts_after}
use Rattle.two_silos.proofs.Invariant.{Issued, txn-at, unissued}

-- a number that was taken stays taken
abbrev pub Stays : World → World → Type 0
Stays w v = (t : TxnId) → Issued w t → Issued v t

-- a coordinator of the same epoch and number
stays-same : (w v : World) → v.coordinator.epoch ≡ w.coordinator.epoch → v.coordinator.number ≡ w.coordinator.number → Stays w v
stays-same w v e n t (inl h) = inl (omega (arith, e, h))
stays-same w v e n t (inr h) = inr (h.0 ∙ sym e, omega (arith, n, h.1))

stays-started : (w : World) (qs : List Part) → Stays w (started w qs)
stays-started w [] t (inl h) = inl h
stays-started w [] t (inr h) = inr (h.0, omega (arith, h.1))
stays-started w (q ∷ qs) t (inl h) = inl h
stays-started w (q ∷ qs) t (inr h) = inr (h.0, omega (arith, h.1))

-- a vote leaves epoch and number
pub vote-number : (c : Coordination) (t : TxnId) (n : ℕ) (b : Bool) (o : Option Pending) → ((voted c t n b o).epoch ≡ c.epoch) × ((voted c t n b o).number ≡ c.number)
vote-number c t n false None = (refl, refl)
vote-number c t n true None = (refl, refl)
vote-number c t n false (Some p) = (refl, refl)
vote-number c t n true (Some p) =
    cond_both (is_unanimous p.parts (n ∷ p.yes)) (with_decision c t true) (record c { pending = agreed t n c.pending }) (λ (d : Coordination). (d.epoch ≡ c.epoch) × (d.number ≡ c.number)) (λ e. (refl, refl)) (λ e. (refl, refl))

stays-handed : (w : World) (n : ℕ) (k : Packet) → Stays w (handed w n k)
stays-handed w n k = cond_both (nat_lt n (length w.nodes)) (record w { nodes = slice_set w.nodes n (learned (node_at w.nodes n) k); packets = w.packets ++ answers (node_at w.nodes n) k }) w (Stays w) (λ e t h. h) (λ e t h. h)

stays-delivered : (w : World) (k : Packet) → Stays w (delivered w k)
stays-delivered w (Prepare t n s) = stays-handed w n (Prepare t n s)
stays-delivered w (Vote t n b) = (let x = vote-number w.coordinator t n b (find t w.coordinator.pending) in stays-same w (delivered w (Vote t n b)) x.0 x.1)
stays-delivered w (Decision t n c) = stays-handed w n (Decision t n c)
stays-delivered w (Ask t n) = λ u h. h

stays-does : (w : World) (e : WorldEvent) → Stays w (does w e)
stays-does w (Start lists) = cond_both (can_start w lists) (started w (parts_from 0 lists)) w (Stays w) (λ e. stays-started w (parts_from 0 lists)) (λ e t h. h)
stays-does w (Deliver k) = cond_both (nat_lt k (length w.packets)) (delivered w (get_or w.packets k (Ask (next_txn w) 0))) w (Stays w) (λ e. stays-delivered w (get_or w.packets k (Ask (next_txn w) 0))) (λ e t h. h)
stays-does w NudgeCoordinator = λ t h. h
stays-does w (Nudge n) = cond_both (nat_lt n (length w.nodes)) (send w (questions (node_at w.nodes n))) w (Stays w) (λ e t h. h) (λ e t h. h)
stays-does w RestartCoordinator = past
  where
    past : (t : TxnId) → Issued w t → Issued (does w RestartCoordinator) t
    past t (inl h) = inl (omega (arith, h))
    past t (inr h) = inl (omega (arith, h.0))
stays-does w (Restart n) = λ t h. h

pub stays-step : (w : World) (e : WorldEvent) → Stays w (step w e)
stays-step w e = cond_both (is_within (does w e)) (does w e) w (Stays w) (λ x. stays-does w e) (λ x t h. h)

-- an event leaves the parts of those that were taken
parts-stay : (parts : TxnId → List Part) (w : World) (e : WorldEvent) (t : TxnId) → Issued w t → parts_with parts w e t ≡ parts t
parts-stay parts w (Start lists) t h =
    cond_both (can_start w lists && is_within (does w (Start lists))) (put_txn parts (next_txn w) (parts_from 0 lists)) parts (λ f. f t ≡ parts t)
    (λ e. txn-at parts (next_txn w) (parts_from 0 lists) (λ l. l ≡ parts t) t (λ q. absurd (unissued w t (ap (λ (u : TxnId). u.epoch) q) (ap (λ (u : TxnId). u.number) q) h)) (λ n. refl)) (λ e. refl)
parts-stay parts w (Deliver k) t h = refl
parts-stay parts w NudgeCoordinator t h = refl
parts-stay parts w (Nudge n) t h = refl
parts-stay parts w RestartCoordinator t h = refl
parts-stay parts w (Restart n) t h = refl

stay-run : (es : List WorldEvent) (parts : TxnId → List Part) (w : World) (t : TxnId) → Issued w t → parts_after parts w es t ≡ parts t
stay-run [] parts w t h = refl
stay-run (e ∷ es) parts w t h = stay-run es (parts_with parts w e) (step w e) t (stays-step w e t h) ∙ parts-stay parts w e t h

pub next-issued : (w : World) (qs : List Part) → Issued (started w qs) (next_txn w)
next-issued w [] = inr (refl, omega arith)
next-issued w (q ∷ qs) = inr (refl, omega arith)

pub started-ends : (parts : TxnId → List Part) (w : World) (lists : List (List Shift)) (more : List WorldEvent) → can_start w lists ≡ true → is_within (does w (Start lists)) ≡ true →
    parts_after parts w (Start lists ∷ more) (next_txn w) ≡ parts_from 0 lists
started-ends parts w lists more can within =
    let now : step w (Start lists) ≡ started w (parts_from 0 lists) =
    ap (λ b. if b then does w (Start lists) else w) within ∙ ap (λ b. if b then started w (parts_from 0 lists) else w) can in
    let put : parts_with parts w (Start lists) ≡ put_txn parts (next_txn w) (parts_from 0 lists) =
    (λ i. if can i && within i then put_txn parts (next_txn w) (parts_from 0 lists) else parts) in
    stay-run more (parts_with parts w (Start lists)) (step w (Start lists)) (next_txn w) (subst (λ v. Issued v (next_txn w)) (sym now) (next-issued w (parts_from 0 lists)))
    ∙ ap (λ (f : TxnId → List Part). f (next_txn w)) put
    ∙ txn-at parts (next_txn w) (parts_from 0 lists) (λ l. l ≡ parts_from 0 lists) (next_txn w) (λ e. refl) (λ n. absurd (n refl))
