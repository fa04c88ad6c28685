-- Sums of shifts over grains, and over the parts of a transaction.
use Rattle.std.proofs.Common.{◌≡◌, ℕ, ◌+◌, ◌<◌, ◌≤◌, List, [], ◌∷◌, length, Bool, true, false, not, inl, inr, refl, sym, ap, ◌∙◌, subst, arith, Some, is_some, eqb-true}
use Rattle.std.specs.Prelude.{ℤ, pos, ◌+ℤ◌, ◌==◌, if◌then◌else◌, ⊤}
use Rattle.std.proofs.lemmas.Bool.{cases_Bool, eqb-false, and_parts}
use Rattle.std.proofs.lemmas.Int.{ints}
use Rattle.two_silos.specs.Nodes.{GrainId, Part, Shift, TxnId}
use Rattle.silo_nodes.specs.Packets.{all, same_grain, delta, Member}
use Rattle.silo_nodes.specs.LogCache.{opening_in}
use Rattle.silo_nodes.specs.Coordinators.{parts_from}
use Rattle.silo_nodes.proofs.Lists.{same_grain-true, same_grain-is, clash, not-true}
use Rattle.two_silos.specs.Promise.{part_at, all_moves}
use Rattle.two_silos.specs.Money.{is_once, amount, lists_amount, parts_amount, txns_amount}
use Rattle.two_silos.proofs.Totals.{zero-plus}

pub plus-zero : (x : ℤ) → x +ℤ pos 0 ≡ x
plus-zero x = omega (arith, ints)

pub four : (a b c d : ℤ) → (a +ℤ b) +ℤ (c +ℤ d) ≡ (a +ℤ c) +ℤ (b +ℤ d)
four a b c d = omega (arith, ints)

-- the grain of a shift has an opening balance there
abbrev pub has_in : List (GrainId × ℤ) → Shift → Bool
has_in os x = is_some (opening_in os x.grain)

-- the test is the same both ways
same-back : (a b : GrainId) → same_grain a b ≡ same_grain b a
same-back a b = elim (cases_Bool (same_grain a b)) [
  | inl h ↦ h ∙ sym (same_grain-is b a (sym (same_grain-true a b h)))
  | inr h ↦ elim (cases_Bool (same_grain b a)) [
    | inl g ↦ clash (same_grain a b) (same_grain-is a b (sym (same_grain-true b a g))) h
    | inr g ↦ h ∙ sym g
  ]
]

-- an opening balance that stands there is the one that is found
pub once-in : (os : List (GrainId × ℤ)) → is_once os ≡ true → (x : GrainId × ℤ) → Member x os → opening_in os x.0 ≡ Some x.1
once-in [] once x m = absurd m
once-in (o ∷ os) once x (inl e) =
    let self : same_grain o.0 x.0 ≡ true = same_grain-is o.0 x.0 (sym (ap (λ (z : GrainId × ℤ). z.0) e)) in
    ap (λ b. if b then Some o.1 else opening_in os x.0) self ∙ ap (λ (z : GrainId × ℤ). Some z.1) (sym e)
once-in (o ∷ os) once x (inr m) =
    let p = and_parts (not (is_some (opening_in os o.0))) (is_once os) once in
    let found : opening_in os x.0 ≡ Some x.1 = once-in os p.1 x m in
    elim (cases_Bool (same_grain o.0 x.0)) [
      | inl h ↦ clash (is_some (opening_in os o.0)) (ap (λ g. is_some (opening_in os g)) (same_grain-true o.0 x.0 h) ∙ ap is_some found) (not-true _ p.0)
      | inr h ↦ ap (λ b. if b then Some o.1 else opening_in os x.0) h ∙ found
    ]

-- by how much one shift moves these grains
abbrev pick : Shift → List (GrainId × ℤ) → ℤ
pick x [] = pos 0
pick x (o ∷ os) = (if same_grain x.grain o.0 then x.delta else pos 0) +ℤ pick x os

pick-none : (x : Shift) (os : List (GrainId × ℤ)) → has_in os x ≡ false → pick x os ≡ pos 0
pick-none x [] e = refl
pick-none x (o ∷ os) e = elim (cases_Bool (same_grain o.0 x.grain)) [
  | inl h ↦ clash (has_in (o ∷ os) x) (ap (λ b. is_some (if b then Some o.1 else opening_in os x.grain)) h) e
  | inr h ↦ (let none : has_in os x ≡ false = sym (ap (λ b. is_some (if b then Some o.1 else opening_in os x.grain)) h) ∙ e in
      ap (λ b. (if b then x.delta else pos 0) +ℤ pick x os) (same-back x.grain o.0 ∙ h) ∙ zero-plus (pick x os) ∙ pick-none x os none)
]

pick-one : (x : Shift) (os : List (GrainId × ℤ)) → is_once os ≡ true → has_in os x ≡ true → pick x os ≡ x.delta
pick-one x [] once e = (let z : false ≡ true = e in cc)
pick-one x (o ∷ os) once e =
    let p = and_parts (not (is_some (opening_in os o.0))) (is_once os) once in
    elim (cases_Bool (same_grain o.0 x.grain)) [
      | inl h ↦ (let none : has_in os x ≡ false = ap (λ g. is_some (opening_in os g)) (sym (same_grain-true o.0 x.grain h)) ∙ not-true _ p.0 in
          let first : (if same_grain x.grain o.0 then x.delta else pos 0) ≡ x.delta = ap (λ b. if b then x.delta else pos 0) (same-back x.grain o.0 ∙ h) in
          (λ i. first i +ℤ pick-none x os none i) ∙ plus-zero x.delta)
      | inr h ↦ (let there : has_in os x ≡ true = sym (ap (λ b. is_some (if b then Some o.1 else opening_in os x.grain)) h) ∙ e in
          ap (λ b. (if b then x.delta else pos 0) +ℤ pick x os) (same-back x.grain o.0 ∙ h) ∙ zero-plus (pick x os) ∙ pick-one x os p.1 there)
    ]

-- by how much shifts move these grains together
abbrev delta_all : List Shift → List (GrainId × ℤ) → ℤ
delta_all s [] = pos 0
delta_all s (o ∷ os) = delta o.0 s +ℤ delta_all s os

delta-none : (os : List (GrainId × ℤ)) → delta_all [] os ≡ pos 0
delta-none [] = refl
delta-none (o ∷ os) = zero-plus (delta_all [] os) ∙ delta-none os

delta-first : (g : GrainId) (x : Shift) (s : List Shift) → delta g (x ∷ s) ≡ (if same_grain x.grain g then x.delta else pos 0) +ℤ delta g s
delta-first g x s = go (same_grain x.grain g)
  where
    go : (b : Bool) → (if b then x.delta +ℤ delta g s else delta g s) ≡ (if b then x.delta else pos 0) +ℤ delta g s
    go true = refl
    go false = sym (zero-plus (delta g s))

delta-more : (x : Shift) (s : List Shift) (os : List (GrainId × ℤ)) → delta_all (x ∷ s) os ≡ pick x os +ℤ delta_all s os
delta-more x s [] = refl
delta-more x s (o ∷ os) =
    (λ i. delta-first o.0 x s i +ℤ delta-more x s os i)
    ∙ four (if same_grain x.grain o.0 then x.delta else pos 0) (delta o.0 s) (pick x os) (delta_all s os)

-- shifts of grains that are there move them by all that they move
pub all-amount : (os : List (GrainId × ℤ)) (s : List Shift) → is_once os ≡ true → all (has_in os) s ≡ true → delta_all s os ≡ amount s
all-amount os [] once h = delta-none os
all-amount os (x ∷ s) once h =
    let p = and_parts (has_in os x) (all (has_in os) s) h in
    delta-more x s os ∙ (λ i. pick-one x os once p.0 i +ℤ all-amount os s once p.1 i)

-- by how much transactions move these grains of a participant together
abbrev pub moves_all : (TxnId → List Part) → ℕ → List TxnId → List (GrainId × ℤ) → ℤ
moves_all parts n ts [] = pos 0
moves_all parts n ts (o ∷ os) = all_moves parts n o.0 ts +ℤ moves_all parts n ts os

-- by how much they move all grains of it
abbrev pub amounts_at : (TxnId → List Part) → ℕ → List TxnId → ℤ
amounts_at parts n [] = pos 0
amounts_at parts n (t ∷ ts) = amount (part_at n (parts t)) +ℤ amounts_at parts n ts

moves-none : (parts : TxnId → List Part) (n : ℕ) (os : List (GrainId × ℤ)) → moves_all parts n [] os ≡ pos 0
moves-none parts n [] = refl
moves-none parts n (o ∷ os) = zero-plus (moves_all parts n [] os) ∙ moves-none parts n os

moves-first : (parts : TxnId → List Part) (n : ℕ) (t : TxnId) (ts : List TxnId) (os : List (GrainId × ℤ)) →
    moves_all parts n (t ∷ ts) os ≡ delta_all (part_at n (parts t)) os +ℤ moves_all parts n ts os
moves-first parts n t ts [] = refl
moves-first parts n t ts (o ∷ os) =
    ap (λ z. all_moves parts n o.0 (t ∷ ts) +ℤ z) (moves-first parts n t ts os)
    ∙ four (delta o.0 (part_at n (parts t))) (all_moves parts n o.0 ts) (delta_all (part_at n (parts t)) os) (moves_all parts n ts os)

pub moves-amounts : (parts : TxnId → List Part) (n : ℕ) (os : List (GrainId × ℤ)) → is_once os ≡ true → ((t : TxnId) → all (has_in os) (part_at n (parts t)) ≡ true) → (ts : List TxnId) →
    moves_all parts n ts os ≡ amounts_at parts n ts
moves-amounts parts n os once has [] = moves-none parts n os
moves-amounts parts n os once has (t ∷ ts) =
    moves-first parts n t ts os ∙ (λ i. all-amount os (part_at n (parts t)) once (has t) i +ℤ moves-amounts parts n os once has ts i)

-- parts of participants that ascend from a number on
abbrev pub Ascends : ℕ → List Part → Type 0
Ascends n [] = ⊤
Ascends n (q ∷ qs) = (n ≤ q.node) × Ascends (q.node + 1) qs

ascends-below : (n m : ℕ) (qs : List Part) → n ≤ m → Ascends m qs → Ascends n qs
ascends-below n m [] h a = tt
ascends-below n m (q ∷ qs) h a = (let low = a.0 in (omega (arith, h, low), a.1))

pub from-ascends : (n : ℕ) (lists : List (List Shift)) → Ascends n (parts_from n lists)
from-ascends n [] = tt
from-ascends n ([] ∷ rest) = ascends-below n (n + 1) (parts_from (n + 1) rest) (omega arith) (from-ascends (n + 1) rest)
from-ascends n ((x ∷ xs) ∷ rest) = (omega arith, from-ascends (n + 1) rest)

part-later : (n m : ℕ) (qs : List Part) → Ascends m qs → n < m → part_at n qs ≡ []
part-later n m [] a h = refl
part-later n m (q ∷ qs) a h = elim (cases_Bool (q.node == n)) [
  | inl e ↦ (let same : q.node ≡ n = eqb-true q.node n e in let low = a.0 in absurd (omega (arith, same, low, h)))
  | inr e ↦ ap (λ b. if b then q.shifts else part_at n qs) e ∙ part-later n (q.node + 1) qs a.1 (let low = a.0 in omega (arith, low, h))
]

-- by how much parts move the grains of so many participants, numbered from n on
abbrev pub over_nodes : ℕ → List (List (GrainId × ℤ)) → List Part → ℤ
over_nodes n [] qs = pos 0
over_nodes n (o ∷ os) qs = amount (part_at n qs) +ℤ over_nodes (n + 1) os qs

over-skip : (m : ℕ) (os : List (List (GrainId × ℤ))) (q : Part) (qs : List Part) → q.node < m → over_nodes m os (q ∷ qs) ≡ over_nodes m os qs
over-skip m [] q qs h = refl
over-skip m (o ∷ os) q qs h = (λ i. amount (skip i) +ℤ over-skip (m + 1) os q qs (omega (arith, h)) i)
  where
    apart : (q.node == m) ≡ false
    apart = elim (cases_Bool (q.node == m)) [
      | inl e ↦ (let same : q.node ≡ m = eqb-true q.node m e in absurd (omega (arith, same, h)))
      | inr e ↦ e
    ]

    skip : part_at m (q ∷ qs) ≡ part_at m qs
    skip = ap (λ b. if b then q.shifts else part_at m qs) apart

pub over-all : (n : ℕ) (os : List (List (GrainId × ℤ))) (qs : List Part) → Ascends n qs → ((q : Part) → Member q qs → q.node < n + length os) → over_nodes n os qs ≡ parts_amount qs
over-all n [] [] a h = refl
over-all n [] (q ∷ qs) a h = (let low = a.0 in let up = h q (inl refl) in absurd (omega (arith, low, up)))
over-all n (o ∷ os) [] a h = zero-plus (over_nodes (n + 1) os []) ∙ over-all (n + 1) os [] tt (λ q m. absurd m)
over-all n (o ∷ os) (q ∷ qs) a h = elim (cases_Bool (q.node == n)) [
  | inl e ↦ (let same : q.node ≡ n = eqb-true q.node n e in
      let first : part_at n (q ∷ qs) ≡ q.shifts = ap (λ b. if b then q.shifts else part_at n qs) e in
      let rest : over_nodes (n + 1) os (q ∷ qs) ≡ parts_amount qs =
      over-skip (n + 1) os q qs (omega (arith, same)) ∙ over-all (n + 1) os qs (subst (λ k. Ascends (k + 1) qs) same a.1) (λ r m. (let up = h r (inr m) in omega (arith, up))) in
      (λ i. amount (first i) +ℤ rest i))
  | inr e ↦ (let low = a.0 in
      let other : q.node ≡ n → ⊥ = eqb-false q.node n e in
      let above : n + 1 ≤ q.node = grind (arith, low, other) in
      let none : part_at n (q ∷ qs) ≡ [] = part-later n (n + 1) (q ∷ qs) (above, a.1) (omega arith) in
      let rest : over_nodes (n + 1) os (q ∷ qs) ≡ parts_amount (q ∷ qs) = over-all (n + 1) os (q ∷ qs) (above, a.1) (λ r m. (let up = h r m in omega (arith, up))) in
      (λ i. amount (none i) +ℤ rest i) ∙ zero-plus (parts_amount (q ∷ qs)))
]

-- the same of transactions
abbrev pub txns_over : (TxnId → List Part) → ℕ → List (List (GrainId × ℤ)) → List TxnId → ℤ
txns_over parts n os [] = pos 0
txns_over parts n os (t ∷ ts) = over_nodes n os (parts t) +ℤ txns_over parts n os ts

pub over-none : (parts : TxnId → List Part) (n : ℕ) (ts : List TxnId) → txns_over parts n [] ts ≡ pos 0
over-none parts n [] = refl
over-none parts n (t ∷ ts) = zero-plus (txns_over parts n [] ts) ∙ over-none parts n ts

pub over-more : (parts : TxnId → List Part) (n : ℕ) (o : List (GrainId × ℤ)) (os : List (List (GrainId × ℤ))) (ts : List TxnId) → txns_over parts n (o ∷ os) ts ≡ amounts_at parts n ts +ℤ txns_over parts (n + 1) os ts
over-more parts n o os [] = refl
over-more parts n o os (t ∷ ts) =
    ap (λ z. over_nodes n (o ∷ os) (parts t) +ℤ z) (over-more parts n o os ts)
    ∙ four (amount (part_at n (parts t))) (over_nodes (n + 1) os (parts t)) (amounts_at parts n ts) (txns_over parts (n + 1) os ts)

-- the parts of a start move what its lists move
pub parts-lists : (n : ℕ) (lists : List (List Shift)) → parts_amount (parts_from n lists) ≡ lists_amount lists
parts-lists n [] = refl
parts-lists n ([] ∷ rest) = parts-lists (n + 1) rest ∙ sym (zero-plus (lists_amount rest))
parts-lists n ((x ∷ xs) ∷ rest) = ap (λ z. amount (x ∷ xs) +ℤ z) (parts-lists (n + 1) rest)

-- transactions that move nothing together
pub txns-none : (parts : TxnId → List Part) → ((t : TxnId) → parts_amount (parts t) ≡ pos 0) → (ts : List TxnId) → txns_amount parts ts ≡ pos 0
txns-none parts h [] = refl
txns-none parts h (t ∷ ts) = (λ i. h t i +ℤ txns-none parts h ts i)
