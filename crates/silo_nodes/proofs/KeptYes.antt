-- A yes that is kept at its place.
use Rattle.std.proofs.Common.{◌≡◌, ℕ, zero, suc, ◌<◌, ◌≤◌, List, [], ◌∷◌, length, get_or, Bool, true, false, Some, None, Result, Ok, Err, OnOk, position, refl, sym, ap, ◌∙◌, arith, nat_lt}
use Rattle.std.specs.Prelude.{if◌then◌else◌, slice_set}
use Rattle.std.specs.List.{position_or_len}
use Rattle.std.proofs.lemmas.Bool.{cond_both, ltb-false}
use Rattle.std.proofs.lemmas.List.Sums.{fails_before_first}
use Rattle.std.proofs.lemmas.List.Quantifiers.{position-Some}
use Rattle.silo_nodes.specs.Packets.{TxnId, same_txn}
use Rattle.silo_nodes.specs.Coordinators.{Pending, with_yes, agreed}

-- the pending transaction has that name
abbrev pub is_named : TxnId → Pending → Bool
is_named t p = same_txn p.txn t

-- a transaction with the yes of one more
abbrev pub agreeing : ℕ → Pending → Pending
agreeing n p = record p { yes = with_yes n p.yes }

position-none : (p : Pending → Bool) (xs : List Pending) (d : Pending) → position p xs ≡ None → (k : ℕ) → k < length xs → p (get_or xs k d) ≡ false
position-none p xs d e k h = fails_before_first p xs k d (omega (arith, passes))
  where
    passes : length xs ≤ position_or_len p xs
    passes = cond_both (nat_lt (position_or_len p xs) (length xs)) (Some (position_or_len p xs)) None (λ t. t ≡ None → length xs ≤ position_or_len p xs)
        (λ q f. cc) (λ q f. ltb-false _ _ q) e

agreed-miss : (t : TxnId) (n : ℕ) (ps : List Pending) (d : Pending) → ((k : ℕ) → k < length ps → is_named t (get_or ps k d) ≡ false) → agreed t n ps ≡ ps
agreed-miss t n [] d h = refl
agreed-miss t n (p ∷ ps) d h =
    ap (λ b. if b then agreeing n p ∷ ps else p ∷ agreed t n ps) (h 0 (omega arith)) ∙ ap (λ l. p ∷ l) (agreed-miss t n ps d (λ k l. h (suc k) (omega (arith, l))))

agreed-hit : (t : TxnId) (n : ℕ) (ps : List Pending) (at : ℕ) (d : Pending) → at < length ps → is_named t (get_or ps at d) ≡ true → ((k : ℕ) → k < at → is_named t (get_or ps k d) ≡ false) →
    agreed t n ps ≡ slice_set ps at (agreeing n (get_or ps at d))
agreed-hit t n [] at d l h before = absurd (omega (arith, l))
agreed-hit t n (p ∷ ps) zero d l h before = ap (λ b. if b then agreeing n p ∷ ps else p ∷ agreed t n ps) h
agreed-hit t n (p ∷ ps) (suc at) d l h before =
    ap (λ b. if b then agreeing n p ∷ ps else p ∷ agreed t n ps) (before 0 (omega arith))
    ∙ ap (λ z. p ∷ z) (agreed-hit t n ps at d (omega (arith, l)) h (λ k m. before (suc k) (omega (arith, m))))

-- it isn't pending
pub agreed-none : (t : TxnId) (n : ℕ) (ps : List Pending) → position (is_named t) ps ≡ None → ps ≡ agreed t n ps
agreed-none t n ps e = (let d : Pending = record { txn = t; parts = []; yes = [] } in sym (agreed-miss t n ps d (position-none (is_named t) ps d e)))

-- it is
pub agreed-at : (t : TxnId) (n : ℕ) (ps : List Pending) (at : ℕ) (p : Pending) (said : List ℕ) → position (is_named t) ps ≡ Some at → p ≡ get_or ps at p → said ≡ with_yes n p.yes →
    slice_set ps at (record { txn = p.txn; parts = p.parts; yes = said }) ≡ agreed t n ps
agreed-at t n ps at p said e is kept =
    let x = position-Some (is_named t) ps at p e in
    ap (λ l. slice_set ps at (record p { yes = l })) kept ∙ ap (λ q. slice_set ps at (agreeing n q)) is ∙ sym (agreed-hit t n ps at p x.0 x.1 x.2)

-- what follows from what holds where a call returned
pub on-ok : {A E : Type 0} (r : Result A E) (P Q : Type 0) → OnOk r P → (P → Q) → OnOk r Q
on-ok (Ok a) P Q p f = f p
on-ok (Err e) P Q p f = p
