-- The world of a check is led to by payments, so where nothing is undecided its balances are those that it began with.
use Rattle.std.proofs.Common.{◌≡◌, ℕ, zero, suc, ◌+◌, ◌-◌, ◌%◌, ◌<◌, ◌≤◌, List, [], ◌∷◌, ◌++◌, length, Bool, true, false, inl, inr, refl, sym, ap, ◌∙◌, subst, arith, Option, Some, None, eqb-true}
use Rattle.std.specs.Prelude.{ℤ, pos, neg_ℤ, ◌+ℤ◌, ◌==◌, min, nat_lt, nat_le, if◌then◌else◌, get_or, ⊤}
use Rattle.std.proofs.lemmas.Bool.{cond_both, cases_Bool}
use Rattle.std.proofs.lemmas.Int.{ints}
use Rattle.two_silos.specs.Nodes.{Done, NodeEntry, Prepared, Shift, TxnId}
use Rattle.silo_nodes.specs.Packets.{Member}
use Rattle.silo_nodes.specs.Logs.{is_done, undecided}
use Rattle.silo_nodes.specs.LogCache.{Node}
use Rattle.two_silos.specs.World.{World, WorldEvent, Deliver, NudgeCoordinator, Nudge, RestartCoordinator, Restart, log_at, nobody, balance_in, step, run, begin}
use Rattle.two_silos.specs.GeneratedEvents.{Course, times, drawn, draw, account, accounts, bank, other_than, payment, shifts_at, pay, start, picked, deliver_recent, happen_or_deliver, pick, round, deliver_next, pass, nudge_all, finish, checked}
use Rattle.two_silos.specs.Summaries.{or_zero, sum_from, waiting, summary_of}
use Rattle.two_silos.specs.Money.{held_at, held_from, amount, IsPayment, ArePayments, NobodyWaits}
use Rattle.two_silos.proofs.CheckLoops.{bank-opening}
use Rattle.two_silos.proofs.Ends.{run-more}
use Rattle.two_silos.proofs.Amounts.{plus-zero}
use Rattle.two_silos.proofs.Money.{run-length, begin-length, stays-ends}

-- ---- what a check generates are payments

-- some payments lead there
pub record Paid (w : World) : Type 0 where
  pub events : List WorldEvent
  pub pay : ArePayments events
  pub is : w ≡ run (begin bank) events

paid-more : (es : List WorldEvent) (e : WorldEvent) → ArePayments es → IsPayment e → ArePayments (es ++ e ∷ [])
paid-more [] e h p = (p, tt)
paid-more (x ∷ es) e h p = (h.0, paid-more es e h.1 p)

paid-step : (w : World) (e : WorldEvent) → Paid w → IsPayment e → Paid (step w e)
paid-step w e h p = record {
  events = h.events ++ e ∷ [];
  pay = paid-more h.events e h.pay p;
  is = ap (λ v. step v e) h.is ∙ sym (run-more h.events (e ∷ []) (begin bank));
}

-- each account is one of the first participant's or of the second's
two-ways : (k : ℕ) → ((k % 2) == 0) ≡ true → ((k % 2) == 1) ≡ false
two-ways k e = (let zero' : k % 2 ≡ 0 = eqb-true (k % 2) 0 e in ap (λ m. m == 1) zero')

small-one : (m : ℕ) → m < 2 → (m == 0) ≡ false → (m == 1) ≡ true
small-one zero h e = cc
small-one (suc zero) h e = refl
small-one (suc (suc m)) h e = absurd (omega (arith, h))

other-way : (k : ℕ) → ((k % 2) == 0) ≡ false → ((k % 2) == 1) ≡ true
other-way k e = small-one (k % 2) (omega arith) e

shifts-all : (s : List Shift) → amount (shifts_at 0 s) +ℤ amount (shifts_at 1 s) ≡ amount s
shifts-all [] = refl
shifts-all (x ∷ s) = elim (cases_Bool ((x.grain.key % 2) == 0)) [
  | inl h ↦ (λ i. amount (if h i then x ∷ shifts_at 0 s else shifts_at 0 s) +ℤ amount (if two-ways x.grain.key h i then x ∷ shifts_at 1 s else shifts_at 1 s))
      ∙ left x.delta (amount (shifts_at 0 s)) (amount (shifts_at 1 s)) ∙ ap (λ z. x.delta +ℤ z) (shifts-all s)
  | inr h ↦ (λ i. amount (if h i then x ∷ shifts_at 0 s else shifts_at 0 s) +ℤ amount (if other-way x.grain.key h i then x ∷ shifts_at 1 s else shifts_at 1 s))
      ∙ right x.delta (amount (shifts_at 0 s)) (amount (shifts_at 1 s)) ∙ ap (λ z. x.delta +ℤ z) (shifts-all s)
]
  where
    left : (a b c : ℤ) → (a +ℤ b) +ℤ c ≡ a +ℤ (b +ℤ c)
    left a b c = omega (arith, ints)

    right : (a b c : ℤ) → b +ℤ (a +ℤ c) ≡ a +ℤ (b +ℤ c)
    right a b c = omega (arith, ints)

paid-none : (a b : ℕ) (n : ℤ) → amount (payment a b n) ≡ pos 0
paid-none a b n = go (nat_lt a b)
  where
    away : (n : ℤ) → neg_ℤ n +ℤ (n +ℤ pos 0) ≡ pos 0
    away n = omega (arith, ints)

    back : (n : ℤ) → n +ℤ (neg_ℤ n +ℤ pos 0) ≡ pos 0
    back n = omega (arith, ints)

    go : (c : Bool) → amount (if c then record { grain = account a; delta = neg_ℤ n } ∷ record { grain = account b; delta = n } ∷ []
        else record { grain = account b; delta = n } ∷ record { grain = account a; delta = neg_ℤ n } ∷ []) ≡ pos 0
    go true = away n
    go false = back n

is-payment : (a b : ℕ) (n : ℤ) → IsPayment (pay a b n)
is-payment a b n =
    ap (λ z. amount (shifts_at 0 (payment a b n)) +ℤ z) (plus-zero (amount (shifts_at 1 (payment a b n))))
    ∙ shifts-all (payment a b n) ∙ paid-none a b n

-- an event that may be missing
abbrev MayPay : Option WorldEvent → Type 0
MayPay None = ⊤
MayPay (Some e) = IsPayment e

any-of : (b : Bool) (x y : Option WorldEvent) → MayPay x → MayPay y → MayPay (if b then x else y)
any-of true x y h k = h
any-of false x y h k = k

abbrev nudged_last : ℕ → Option WorldEvent
nudged_last d = if nat_le d 14 then Some (Nudge 1) else None

abbrev nudged_first : ℕ → Option WorldEvent
nudged_first d = if nat_le d 10 then Some (Nudge 0) else nudged_last d

abbrev nudged : ℕ → Option WorldEvent
nudged d = if nat_le d 6 then Some NudgeCoordinator else nudged_first d

abbrev begun_last : ℕ → Option WorldEvent
begun_last d = if d == 2 then Some (Restart 1) else nudged d

abbrev begun_first : ℕ → Option WorldEvent
begun_first d = if d == 1 then Some (Restart 0) else begun_last d

picked-pays : (d : ℕ) → MayPay (picked d)
picked-pays d =
    any-of (d == 0) (Some RestartCoordinator) (begun_first d) tt
    (any-of (d == 1) (Some (Restart 0)) (begun_last d) tt
    (any-of (d == 2) (Some (Restart 1)) (nudged d) tt
    (any-of (nat_le d 6) (Some NudgeCoordinator) (nudged_first d) tt
    (any-of (nat_le d 10) (Some (Nudge 0)) (nudged_last d) tt
    (any-of (nat_le d 14) (Some (Nudge 1)) None tt tt)))))

happen-paid : (c : Course) (o : Option WorldEvent) → Paid c.world → MayPay o → Paid (happen_or_deliver c o).world
happen-paid c None h p = cond_both (length c.world.packets == 0) c (deliver_recent (draw c)) (λ (x : Course). Paid x.world) (λ e. h)
    (λ e. paid-step c.world (Deliver (length c.world.packets - 1 - drawn (draw c).number % min (length c.world.packets) 64)) h tt)
happen-paid c (Some e) h p = paid-step c.world e h p

pick-paid : (c : Course) → Paid c.world → Paid (pick c).world
pick-paid c h = happen-paid (draw c) (picked (drawn (draw c).number % 64)) h (picked-pays (drawn (draw c).number % 64))

start-paid : (c : Course) → Paid c.world → Paid (start c).world
start-paid c h =
    paid-step c.world (pay (drawn (draw c).number % 64) (other_than (drawn (draw c).number % 64) (drawn (draw (draw c)).number % 64)) (pos (drawn (draw (draw (draw c))).number % 100 + 1))) h
    (is-payment (drawn (draw c).number % 64) (other_than (drawn (draw c).number % 64) (drawn (draw (draw c)).number % 64)) (pos (drawn (draw (draw (draw c))).number % 100 + 1)))

times-paid : {A : Type 0} (f : A → A) (P : A → Type 0) → ((x : A) → P x → P (f x)) → (n : ℕ) (x : A) → P x → P (times n f x)
times-paid f P h zero x p = p
times-paid f P h (suc n) x p = times-paid f P h n (f x) (h x p)

round-paid : (c : Course) → Paid c.world → Paid (round c).world
round-paid c h = times-paid pick (λ (x : Course). Paid x.world) pick-paid 8 (start c) (start-paid c h)

next-paid : (x : ℕ × World) → Paid x.1 → Paid (deliver_next x).1
next-paid x h = paid-step x.1 (Deliver x.0) h tt

pass-paid : (x : ℕ × World) → Paid x.1 → Paid (pass x).1
pass-paid x h = times-paid deliver_next (λ (y : ℕ × World). Paid y.1) next-paid (length x.1.packets - x.0) x h

nudge-paid : (w : World) → Paid w → Paid (nudge_all w)
nudge-paid w h = paid-step (step (step w NudgeCoordinator) (Nudge 0)) (Nudge 1) (paid-step (step w NudgeCoordinator) (Nudge 0) (paid-step w NudgeCoordinator h tt) tt) tt

finish-paid : (w : World) → Paid w → Paid (finish w)
finish-paid w h = times-paid pass (λ (y : ℕ × World). Paid y.1) pass-paid 4 (length w.packets, nudge_all w) (nudge-paid w h)

pub checked-paid : (starts seed : ℕ) → Paid (checked starts seed)
checked-paid starts seed =
    finish-paid (times starts round (record { number = seed; world = begin bank })).world
    (times-paid round (λ (x : Course). Paid x.world) round-paid starts (record { number = seed; world = begin bank }) (record { events = []; pay = tt; is = refl }))

-- ---- where nothing is undecided, no participant waits

undecided-none : (log es : List NodeEntry) → undecided log es ≡ [] → (t : TxnId) (s : List Shift) → Member (Prepared t s) es → is_done log t ≡ true
undecided-none log [] e t s m = absurd m
undecided-none log (Prepared u r ∷ es) e t s m = elim (cases_Bool (is_done log u)) [
  | inl h ↦ (let rest : undecided log es ≡ [] = sym (ap (λ b. if b then undecided log es else u ∷ undecided log es) h) ∙ e in
      elim m [
        | inl q ↦ (let same : t ≡ u = ap txn q in ap (is_done log) same ∙ h)
        | inr n ↦ undecided-none log es rest t s n
      ])
  | inr h ↦ (let some : u ∷ undecided log es ≡ [] = sym (ap (λ b. if b then undecided log es else u ∷ undecided log es) h) ∙ e in cc)
]
  where
    txn : NodeEntry → TxnId
    txn (Prepared v x) = v
    txn (Done v c) = v
undecided-none log (Done u c ∷ es) e t s m = elim m [
  | inl q ↦ cc
  | inr n ↦ undecided-none log es e t s n
]

length-none : {A : Type 0} (xs : List A) → length xs ≡ 0 → xs ≡ []
length-none [] e = refl
length-none (x ∷ xs) e = absurd (omega (arith, e))

far : {A : Type 0} (xs : List A) (n : ℕ) (d : A) → length xs ≤ n → get_or xs n d ≡ d
far [] n d h = refl
far (x ∷ xs) zero d h = absurd (omega (arith, h))
far (x ∷ xs) (suc n) d h = far xs n d (omega (arith, h))

still : (w : World) → length w.nodes ≡ 2 → waiting w 0 ≡ 0 → waiting w 1 ≡ 0 → NobodyWaits w
still w two first second zero t s m = undecided-none (log_at w.nodes 0) (log_at w.nodes 0) (length-none (undecided (log_at w.nodes 0) (log_at w.nodes 0)) first) t s m
still w two first second (suc zero) t s m = undecided-none (log_at w.nodes 1) (log_at w.nodes 1) (length-none (undecided (log_at w.nodes 1) (log_at w.nodes 1)) second) t s m
still w two first second (suc (suc n)) t s m =
    let none : log_at w.nodes (suc (suc n)) ≡ [] = ap (λ (x : Node). x.log) (far w.nodes (suc (suc n)) nobody (omega (arith, two))) in
    absurd (subst (Member (Prepared t s)) none m)

-- ---- the sum of the accounts, one after the other, is that of the two participants

abbrev twice : ℕ → ℕ
twice zero = zero
twice (suc m) = suc (suc (twice m))

pairs : (w : World) (m k : ℕ) → k % 2 ≡ 0 → sum_from w k (twice m) ≡ held_at w 0 (accounts k m) +ℤ held_at w 1 (accounts (k + 1) m)
pairs w zero k even = refl
pairs w (suc m) k even =
    let odd : (k + 1) % 2 ≡ 1 = omega (arith, even) in
    let next : (k + 2) % 2 ≡ 0 = omega (arith, even) in
    let two : (k + 1) + 1 ≡ k + 2 = omega arith in
    let three : k + 2 + 1 ≡ k + 1 + 2 = omega arith in
    let rest : sum_from w ((k + 1) + 1) (twice m) ≡ held_at w 0 (accounts (k + 2) m) +ℤ held_at w 1 (accounts ((k + 1) + 2) m) =
    ap (λ j. sum_from w j (twice m)) two ∙ pairs w m (k + 2) next ∙ ap (λ j. held_at w 0 (accounts (k + 2) m) +ℤ held_at w 1 (accounts j m)) three in
    (λ i. or_zero (balance_in w.nodes (even i) (account k)) +ℤ (or_zero (balance_in w.nodes (odd i) (account (k + 1))) +ℤ rest i))
    ∙ turn (or_zero (balance_in w.nodes 0 (account k))) (or_zero (balance_in w.nodes 1 (account (k + 1)))) (held_at w 0 (accounts (k + 2) m)) (held_at w 1 (accounts ((k + 1) + 2) m))
  where
    turn : (a b c d : ℤ) → a +ℤ (b +ℤ (c +ℤ d)) ≡ (a +ℤ c) +ℤ (b +ℤ d)
    turn a b c d = omega (arith, ints)

sum-held : (w : World) → sum_from w 0 64 ≡ held_from w 0 bank
sum-held w = pairs w 32 0 refl ∙ ap (λ z. held_at w 0 (accounts 0 32) +ℤ z) (sym (plus-zero (held_at w 1 (accounts 1 32))))

-- where a check leaves nothing undecided, the sum is that of the opening
pub check-whole : (starts seed : ℕ) → (summary_of starts (checked starts seed)).undecided ≡ 0 → (summary_of starts (checked starts seed)).total ≡ pos 64000
check-whole starts seed e = go (checked starts seed) (checked-paid starts seed) e
  where
    go : (w : World) → Paid w → length w.coordinator.pending + (waiting w 0 + waiting w 1) ≡ 0 → sum_from w 0 64 ≡ pos 64000
    go w h none =
        let two : length w.nodes ≡ 2 = ap (λ (v : World). length v.nodes) h.is ∙ run-length h.events (begin bank) ∙ begin-length bank in
        let quiet : NobodyWaits w = still w two (omega (arith, none)) (omega (arith, none)) in
        sum-held w ∙ ap (λ v. held_from v 0 bank) h.is
        ∙ stays-ends bank h.events bank-opening refl h.pay (subst NobodyWaits h.is quiet)
