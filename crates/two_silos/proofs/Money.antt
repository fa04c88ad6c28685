-- All balances together, where no participant waits.
use Rattle.std.proofs.Common.{◌≡◌, ℕ, zero, suc, ◌+◌, ◌<◌, List, [], ◌∷◌, ◌++◌, length, get_or, slice_get, true, inl, inr, refl, sym, ap, ◌∙◌, subst, arith, Option, Some, is_some}
use Rattle.std.specs.Prelude.{ℤ, pos, ◌+ℤ◌, ◌&&◌, nat_lt, nat_le, slice_set, ⊤}
use Rattle.std.proofs.lemmas.Bool.{cond_both, and_parts, ltb-true}
use Rattle.std.proofs.lemmas.List.{length-set}
use Rattle.two_silos.specs.Nodes.{Ask, Decision, GrainId, Packet, Part, Prepare, Shift, TxnId, Vote}
use Rattle.silo_nodes.specs.Packets.{all, is_ascending, Member}
use Rattle.silo_nodes.specs.LogCache.{opening_in}
use Rattle.silo_nodes.specs.Participants.{learned, answers, questions}
use Rattle.silo_nodes.specs.Coordinators.{parts_from}
use Rattle.silo_nodes.proofs.Lists.{Member-get, all-true}
use Rattle.two_silos.specs.World.{World, WorldEvent, Start, Deliver, NudgeCoordinator, Nudge, RestartCoordinator, Restart, node_at, nobody, nodes_from, opening_at, balance_in, balance_of, put_txn, is_part, can_start, next_txn, started, handed, send, delivered, does, is_within, step, run, begin, parts_with, parts_after, parts_in}
use Rattle.two_silos.specs.Promise.{IsOpening, IsQuietWorld, QuietIsWhole, part_at, all_moves}
use Rattle.two_silos.specs.Summaries.{or_zero}
use Rattle.two_silos.specs.Money.{held_at, held_from, opened, all_opened, is_once, AreOnce, parts_amount, txns_amount, IsPayment, ArePayments, NobodyWaits}
use Rattle.two_silos.proofs.Totals.{zero-plus}
use Rattle.two_silos.proofs.Order.{part-cases}
use Rattle.two_silos.proofs.Invariant.{Inv, txn-at}
use Rattle.two_silos.proofs.SmallChanges.{opening_of, inv-begin}
use Rattle.two_silos.proofs.KeptInvariant.{kept, kept-step}
use Rattle.two_silos.proofs.FinishedNodes.{whole-ends}
use Rattle.two_silos.proofs.Amounts.{plus-zero, four, has_in, once-in, moves_all, amounts_at, moves-amounts, Ascends, from-ascends, over-all, txns_over, over-none, over-more, parts-lists, txns-none}

-- ---- one participant

-- what stands at a place of a list
at-there : {A : Type 0} (xs : List A) (k : ℕ) (d : A) → k < length xs → slice_get xs k ≡ Some (get_or xs k d)
at-there [] k d h = absurd (omega (arith, h))
at-there (x ∷ xs) zero d h = refl
at-there (x ∷ xs) (suc k) d h = at-there xs k d (omega (arith, h))

held-moves : (w : World) (parts : TxnId → List Part) (n : ℕ) (ts : List TxnId) (os : List (GrainId × ℤ)) →
    ((x : GrainId × ℤ) → Member x os → balance_in w.nodes n x.0 ≡ Some (x.1 +ℤ all_moves parts n x.0 ts)) → held_at w n os ≡ opened os +ℤ moves_all parts n ts os
held-moves w parts n ts [] h = refl
held-moves w parts n ts (o ∷ os) h =
    (λ i. or_zero (h o (inl refl) i) +ℤ held-moves w parts n ts os (λ x m. h x (inr m)) i)
    ∙ four o.1 (all_moves parts n o.0 ts) (opened os) (moves_all parts n ts os)

-- a participant with these opening balances, and its parts of transactions
pub record Place (w : World) (parts : TxnId → List Part) (n : ℕ) (os : List (GrainId × ℤ)) : Type 0 where
  pub there : n < length w.nodes
  pub same : opening_at w.nodes n ≡ opening_in os
  pub once : is_once os ≡ true
  pub has : (t : TxnId) → all (has_in os) (part_at n (parts t)) ≡ true

node-held : (w : World) (parts : TxnId → List Part) (n : ℕ) (os : List (GrainId × ℤ)) → QuietIsWhole parts w → IsQuietWorld w n → Place w parts n os →
    held_at w n os ≡ opened os +ℤ amounts_at parts n w.coordinator.commits
node-held w parts n os whole quiet p =
    held-moves w parts n w.coordinator.commits os each
    ∙ ap (λ z. opened os +ℤ z) (moves-amounts parts n os p.once p.has w.coordinator.commits)
  where
    each : (x : GrainId × ℤ) → Member x os → balance_in w.nodes n x.0 ≡ Some (x.1 +ℤ all_moves parts n x.0 w.coordinator.commits)
    each x m =
        ap (λ o. balance_of o x.0) (at-there w.nodes n nobody p.there)
        ∙ whole n quiet x.0 x.1 (ap (λ (f : GrainId → Option ℤ). f x.0) p.same ∙ once-in os p.once x m)

-- ---- all of them

held-all : (w : World) (parts : TxnId → List Part) → QuietIsWhole parts w → NobodyWaits w → (n : ℕ) (os : List (List (GrainId × ℤ))) →
    ((k : ℕ) → k < length os → Place w parts (n + k) (get_or os k [])) → held_from w n os ≡ all_opened os +ℤ txns_over parts n os w.coordinator.commits
held-all w parts whole still n [] h = sym (zero-plus (txns_over parts n [] w.coordinator.commits) ∙ over-none parts n w.coordinator.commits)
held-all w parts whole still n (o ∷ os) h =
    let none : n + 0 ≡ n = omega arith in
    let here : Place w parts n o = subst (λ k. Place w parts k o) none (h 0 (omega arith)) in
    let rest : held_from w (n + 1) os ≡ all_opened os +ℤ txns_over parts (n + 1) os w.coordinator.commits = held-all w parts whole still (n + 1) os later in
    (λ i. node-held w parts n o whole (still n) here i +ℤ rest i)
    ∙ four (opened o) (amounts_at parts n w.coordinator.commits) (all_opened os) (txns_over parts (n + 1) os w.coordinator.commits)
    ∙ ap (λ z. (opened o +ℤ all_opened os) +ℤ z) (sym (over-more parts n o os w.coordinator.commits))
  where
    later : (k : ℕ) → k < length os → Place w parts ((n + 1) + k) (get_or os k [])
    later k l =
        let more : n + suc k ≡ (n + 1) + k = omega arith in
        subst (λ j. Place w parts j (get_or os k [])) more (h (suc k) (omega (arith, l)))

-- ---- the parts that were started

-- parts are those of participants with these opening balances, which have their grains
abbrev pub Fits : List (List (GrainId × ℤ)) → List Part → Type 0
Fits openings qs = Ascends 0 qs × ((q : Part) → Member q qs → (q.node < length openings) × (all (has_in (get_or openings q.node [])) q.shifts ≡ true))

-- what an event starts is so
abbrev NewParts : (List Part → Type 0) → World → WorldEvent → Type 0
NewParts P w (Start lists) = can_start w lists ≡ true → P (parts_from 0 lists)
NewParts P w (Deliver k) = ⊤
NewParts P w NudgeCoordinator = ⊤
NewParts P w (Nudge n) = ⊤
NewParts P w RestartCoordinator = ⊤
NewParts P w (Restart n) = ⊤

each-part : (P : List Part → Type 0) (parts : TxnId → List Part) (w : World) (e : WorldEvent) → ((t : TxnId) → P (parts t)) → NewParts P w e → (t : TxnId) → P (parts_with parts w e t)
each-part P parts w (Start lists) h new t =
    cond_both (can_start w lists && is_within (does w (Start lists))) (put_txn parts (next_txn w) (parts_from 0 lists)) parts (λ f. P (f t))
    (λ e. txn-at parts (next_txn w) (parts_from 0 lists) P t (λ q. new (and_parts (can_start w lists) _ e).0) (λ n. h t)) (λ e. h t)
each-part P parts w (Deliver k) h new t = h t
each-part P parts w NudgeCoordinator h new t = h t
each-part P parts w (Nudge n) h new t = h t
each-part P parts w RestartCoordinator h new t = h t
each-part P parts w (Restart n) h new t = h t

-- participants stay as many
handed-length : (w : World) (k : ℕ) (p : Packet) → length (handed w k p).nodes ≡ length w.nodes
handed-length w k p =
    cond_both (nat_lt k (length w.nodes)) (record w { nodes = slice_set w.nodes k (learned (node_at w.nodes k) p); packets = w.packets ++ answers (node_at w.nodes k) p }) w (λ (v : World). length v.nodes ≡ length w.nodes)
    (λ e. length-set w.nodes k (learned (node_at w.nodes k) p)) (λ e. refl)

delivered-length : (w : World) (p : Packet) → length (delivered w p).nodes ≡ length w.nodes
delivered-length w (Prepare t n s) = handed-length w n (Prepare t n s)
delivered-length w (Vote t n b) = refl
delivered-length w (Decision t n c) = handed-length w n (Decision t n c)
delivered-length w (Ask t n) = refl

does-length : (w : World) (e : WorldEvent) → length (does w e).nodes ≡ length w.nodes
does-length w (Start lists) = cond_both (can_start w lists) (started w (parts_from 0 lists)) w (λ (v : World). length v.nodes ≡ length w.nodes) (λ e. refl) (λ e. refl)
does-length w (Deliver k) =
    cond_both (nat_lt k (length w.packets)) (delivered w (get_or w.packets k (Ask (next_txn w) 0))) w (λ (v : World). length v.nodes ≡ length w.nodes)
    (λ e. delivered-length w (get_or w.packets k (Ask (next_txn w) 0))) (λ e. refl)
does-length w NudgeCoordinator = refl
does-length w (Nudge n) = cond_both (nat_lt n (length w.nodes)) (send w (questions (node_at w.nodes n))) w (λ (v : World). length v.nodes ≡ length w.nodes) (λ e. refl) (λ e. refl)
does-length w RestartCoordinator = refl
does-length w (Restart n) = refl

step-length : (w : World) (e : WorldEvent) → length (step w e).nodes ≡ length w.nodes
step-length w e = cond_both (is_within (does w e)) (does w e) w (λ (v : World). length v.nodes ≡ length w.nodes) (λ a. does-length w e) (λ a. refl)

pub run-length : (es : List WorldEvent) (w : World) → length (run w es).nodes ≡ length w.nodes
run-length [] w = refl
run-length (e ∷ es) w = run-length es (step w e) ∙ step-length w e

from-length : (n : ℕ) (os : List (List (GrainId × ℤ))) → length (nodes_from n os) ≡ length os
from-length n [] = refl
from-length n (o ∷ os) = ap (λ k. suc k) (from-length (n + 1) os)

pub begin-length : (openings : List (List (GrainId × ℤ))) → length (begin openings).nodes ≡ length openings
begin-length openings = from-length 0 openings

fits-start : (openings : List (List (GrainId × ℤ))) (w : World) (lists : List (List Shift)) → length w.nodes ≡ length openings → ((n : ℕ) → opening_at w.nodes n ≡ opening_of openings n) → can_start w lists ≡ true →
    Fits openings (parts_from 0 lists)
fits-start openings w lists long same can = (from-ascends 0 lists, each)
  where
    each : (q : Part) → Member q (parts_from 0 lists) → (q.node < length openings) × (all (has_in (get_or openings q.node [])) q.shifts ≡ true)
    each q m =
        let parts = and_parts (nat_le (length lists) 8) (all (is_part w.nodes) (parts_from 0 lists)) can in
        let part = and_parts (nat_lt q.node (length w.nodes)) _ (all-true (is_part w.nodes) (parts_from 0 lists) parts.1 q m) in
        let there : q.node < length w.nodes = ltb-true q.node (length w.nodes) part.0 in
        let grains = and_parts (is_ascending q.shifts) _ part.1 in
        (subst (λ k. q.node < k) long there, ap (λ (f : GrainId → Option ℤ). all (λ (x : Shift). is_some (f x.grain)) q.shifts) (sym (same q.node)) ∙ grains.1)

fits-run : (openings : List (List (GrainId × ℤ))) (es : List WorldEvent) (parts : TxnId → List Part) (w : World) → Inv (opening_of openings) parts w → length w.nodes ≡ length openings →
    ((t : TxnId) → Fits openings (parts t)) → (t : TxnId) → Fits openings (parts_after parts w es t)
fits-run openings [] parts w i long h = h
fits-run openings (e ∷ es) parts w i long h =
    fits-run openings es (parts_with parts w e) (step w e) (kept-step (opening_of openings) parts w e i) (step-length w e ∙ long) (each-part (Fits openings) parts w e h (new e))
  where
    new : (e : WorldEvent) → NewParts (Fits openings) w e
    new (Start lists) = λ can. fits-start openings w lists long i.same can
    new (Deliver k) = tt
    new NudgeCoordinator = tt
    new (Nudge n) = tt
    new RestartCoordinator = tt
    new (Restart n) = tt

pub fits-ends : (openings : List (List (GrainId × ℤ))) (es : List WorldEvent) → IsOpening openings → (t : TxnId) → Fits openings (parts_in openings es t)
fits-ends openings es o = fits-run openings es (λ t. []) (begin openings) (inv-begin openings o) (begin-length openings) (λ t. (tt, (λ q m. absurd m)))

-- ---- the law

txns-all : (openings : List (List (GrainId × ℤ))) (parts : TxnId → List Part) → ((t : TxnId) → Fits openings (parts t)) → (ts : List TxnId) → txns_over parts 0 openings ts ≡ txns_amount parts ts
txns-all openings parts fits [] = refl
txns-all openings parts fits (t ∷ ts) = (λ i. over-all 0 openings (parts t) (fits t).0 within i +ℤ txns-all openings parts fits ts i)
  where
    within : (q : Part) → Member q (parts t) → q.node < 0 + length openings
    within q m = (let low = ((fits t).1 q m).0 in omega (arith, low))

pub moved-ends : (openings : List (List (GrainId × ℤ))) (es : List WorldEvent) → IsOpening openings → AreOnce openings → NobodyWaits (run (begin openings) es) →
    held_from (run (begin openings) es) 0 openings ≡ all_opened openings +ℤ txns_amount (parts_in openings es) (run (begin openings) es).coordinator.commits
moved-ends openings es o once still = go (parts_in openings es) (run (begin openings) es) (kept openings es o) (whole-ends openings es o) still (fits-ends openings es o) (run-length es (begin openings) ∙ begin-length openings)
  where
    go : (parts : TxnId → List Part) (w : World) → Inv (opening_of openings) parts w → QuietIsWhole parts w → NobodyWaits w → ((t : TxnId) → Fits openings (parts t)) → length w.nodes ≡ length openings →
        held_from w 0 openings ≡ all_opened openings +ℤ txns_amount parts w.coordinator.commits
    go parts w i whole still fits long =
        held-all w parts whole still 0 openings place ∙ ap (λ z. all_opened openings +ℤ z) (txns-all openings parts fits w.coordinator.commits)
      where
        has : (k : ℕ) (t : TxnId) → all (has_in (get_or openings k [])) (part_at k (parts t)) ≡ true
        has k t = elim (part-cases k (parts t)) [
          | inl x ↦ ap (all (has_in (get_or openings k []))) x.3 ∙ subst (λ j. all (has_in (get_or openings j [])) x.0.shifts ≡ true) x.2 ((fits t).1 x.0 x.1).1
          | inr x ↦ ap (all (has_in (get_or openings k []))) x.1
        ]

        at : (k : ℕ) → k < length openings → Place w parts k (get_or openings k [])
        at k l = record {
          there = subst (λ m. k < m) (sym long) l;
          same = i.same k;
          once = all-true is_once openings once (get_or openings k []) (Member-get [] openings k l);
          has = has k;
        }

        place : (k : ℕ) → k < length openings → Place w parts (0 + k) (get_or openings k [])
        place k l = (let same : k ≡ 0 + k = omega arith in subst (λ j. Place w parts j (get_or openings k [])) same (at k l))

pays-run : (es : List WorldEvent) (parts : TxnId → List Part) (w : World) → ArePayments es → ((t : TxnId) → parts_amount (parts t) ≡ pos 0) → (t : TxnId) → parts_amount (parts_after parts w es t) ≡ pos 0
pays-run [] parts w pay h = h
pays-run (e ∷ es) parts w pay h = pays-run es (parts_with parts w e) (step w e) pay.1 (each-part (λ qs. parts_amount qs ≡ pos 0) parts w e h (new e pay.0))
  where
    new : (e : WorldEvent) → IsPayment e → NewParts (λ qs. parts_amount qs ≡ pos 0) w e
    new (Start lists) p = λ can. parts-lists 0 lists ∙ p
    new (Deliver k) p = tt
    new NudgeCoordinator p = tt
    new (Nudge n) p = tt
    new RestartCoordinator p = tt
    new (Restart n) p = tt

pub stays-ends : (openings : List (List (GrainId × ℤ))) (es : List WorldEvent) → IsOpening openings → AreOnce openings → ArePayments es → NobodyWaits (run (begin openings) es) →
    held_from (run (begin openings) es) 0 openings ≡ all_opened openings
stays-ends openings es o once pay still =
    moved-ends openings es o once still
    ∙ ap (λ z. all_opened openings +ℤ z) (txns-none (parts_in openings es) (pays-run es (λ t. []) (begin openings) pay (λ t. refl)) (run (begin openings) es).coordinator.commits)
    ∙ plus-zero (all_opened openings)
