-- What is kept by the numbers of programs is what is kept by the programs.
use Rattle.std.proofs.Common.{◌≡◌, ℕ, zero, suc, ◌+◌, ◌<◌, ◌≤◌, Bool, true, false, cond, List, [], ◌∷◌, ◌++◌, length, Option, Some, None, refl, sym, ap, subst, ◌∙◌, append_assoc, append-nil, length-append, arith}
use Rattle.std.specs.Prelude.{fold, slice_get}
use Rattle.std.proofs.lemmas.List.{drop-append-le, drop_all}
use Rattle.base_types.specs.declared.calls.GrainId.{GrainId}
use Rattle.base_types.specs.declared.calls.Value.{Value}
use Rattle.script_holding.specs.Holding.{same_grain}
use Rattle.promise_spec.specs.Programs.{Program}
use Rattle.promise_spec.specs.Records.{written}
use Rattle.promise_spec.specs.Entries.{Standing, LogEntry, Recorded, Upgraded, programs_among}
use Rattle.upgraded_logs.specs.KeptStates.{KeptState, just_written, with_later, kept_write, kept_after, kept_of_base, NumberedState, numbered_write, numbered_after, numbered_of_base, MeansKept}

-- an item of a list is where it was when others come behind
item_stays : {A : Type 0} (xs ys : List A) (i : ℕ) (x : A) → slice_get xs i ≡ Some x → slice_get (xs ++ ys) i ≡ Some x
item_stays [] ys i x e = absurd cc
item_stays (a ∷ xs) ys zero x e = e
item_stays (a ∷ xs) ys (suc i) x e = item_stays xs ys i x e

-- an item is within its list
item_within : {A : Type 0} (xs : List A) (i : ℕ) (x : A) → slice_get xs i ≡ Some x → i < length xs
item_within [] i x e = absurd cc
item_within (a ∷ xs) zero x e = omega arith
item_within (a ∷ xs) (suc i) x e = (let lt = item_within xs i x e in omega (arith, lt))

item_behind : {A : Type 0} (xs : List A) (x : A) (n : ℕ) → length xs ≡ n → slice_get (xs ++ x ∷ []) n ≡ Some x
item_behind [] x zero e = refl
item_behind [] x (suc n) e = absurd (omega (arith, e))
item_behind (a ∷ xs) x zero e = absurd (omega (arith, e))
item_behind (a ∷ xs) x (suc n) e = item_behind xs x n (omega (arith, e))

-- the programs so far, of which the last, of this number, is in force
record AreSoFar (programs : List Program) (n : ℕ) (p : Program) : Type 0 where
  many : length programs ≡ n + 1
  last : slice_get programs n ≡ Some p

means_by : (programs : List Program) (n : ℕ) (p : Program) (same : Bool) (state : List Value) (a : Option NumberedState) (b : Option KeptState) → AreSoFar programs n p → MeansKept programs a b
    → MeansKept programs (cond same (Some (record { number = n; state = state })) a) (cond same (Some (just_written p state)) b)
means_by programs n p true state a b so means = record { state = refl; of_time = so.last; later = drop_all (n + 1) programs (let many = so.many in omega (arith, many)) }
means_by programs n p false state a b so means = means

writes_mean : (programs : List Program) (n : ℕ) (p : Program) (g : GrainId) (ws : List (GrainId × List Value)) (a : Option NumberedState) (b : Option KeptState) → AreSoFar programs n p → MeansKept programs a b
    → MeansKept programs (fold (numbered_write n g) a ws) (fold (kept_write p g) b ws)
writes_mean programs n p g [] a b so means = means
writes_mean programs n p g (w ∷ ws) a b so means =
    writes_mean programs n p g ws (numbered_write n g a w) (kept_write p g b w) so (means_by programs n p (same_grain w.0 g) w.1 a b so means)

later_means : (programs : List Program) (q : Program) (a : Option NumberedState) (b : Option KeptState) → MeansKept programs a b → MeansKept (programs ++ q ∷ []) a (with_later q b)
later_means programs q None None means = tt
later_means programs q None (Some k) means = absurd means
later_means programs q (Some s) None means = absurd means
later_means programs q (Some s) (Some k) means =
    let lt : s.number < length programs = item_within programs s.number k.of_time means.of_time in
    let le : s.number + 1 ≤ length programs = omega (arith, lt) in
    record {
      state = means.state;
      of_time = item_stays programs (q ∷ []) s.number k.of_time means.of_time;
      later = drop-append-le (s.number + 1) programs (q ∷ []) le ∙ ap (λ (l : List Program). l ++ q ∷ []) means.later;
    }

after_mean : (programs : List Program) (n : ℕ) (p : Program) (g : GrainId) (entries : List LogEntry) (a : Option NumberedState) (b : Option KeptState) → AreSoFar programs n p → MeansKept programs a b
    → MeansKept (programs ++ programs_among entries) (numbered_after g n a entries) (kept_after g p b entries)
after_mean programs n p g [] a b so means = subst (λ (l : List Program). MeansKept l a b) (sym (append-nil programs)) means
after_mean programs n p g (Recorded c ∷ entries) a b so means =
    after_mean programs n p g entries (fold (numbered_write n g) a (written c)) (fold (kept_write p g) b (written c)) so (writes_mean programs n p g (written c) a b so means)
after_mean programs n p g (Upgraded q ∷ entries) a b so means =
    let next : AreSoFar (programs ++ q ∷ []) (n + 1) q = record {
      many = (let many = so.many in omega (arith, many, length-append programs (q ∷ [])));
      last = item_behind programs q (n + 1) so.many;
    } in
    subst (λ (l : List Program). MeansKept l (numbered_after g (n + 1) a entries) (kept_after g q (with_later q b) entries)) (append_assoc programs (q ∷ []) (programs_among entries))
    (after_mean (programs ++ q ∷ []) (n + 1) q g entries a (with_later q b) next (later_means programs q a b means))

begins : (p : Program) (b : Bool) (state : List Value) → MeansKept (p ∷ []) (cond b (Some (record { number = 0; state = state })) None) (cond b (Some (just_written p state)) None)
begins p true state = record { state = refl; of_time = refl; later = refl }
begins p false state = tt

pub numbers : (before : Standing) (entries : List LogEntry) (g : GrainId) → MeansKept (before.program ∷ programs_among entries) (numbered_after g 0 (numbered_of_base before g) entries) (kept_after g before.program (kept_of_base before g) entries)
numbers before entries g =
    after_mean (before.program ∷ []) 0 before.program g entries (numbered_of_base before g) (kept_of_base before g) (record { many = omega arith; last = refl }) (begins before.program (before.held g) (before.states g))
