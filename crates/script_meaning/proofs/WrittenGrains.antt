-- What a run writes: the held grains that were set, in ascending order.
use Rattle.std.proofs.Common.{◌≡◌, ◌≢◌, ◌+◌, ◌≤◌, List, [], ◌∷◌, length, true, false, refl, arith}
use Rattle.std.specs.Prelude.{if◌then◌else◌, IsTrue}
use Rattle.std.specs.List.{All, AllPairs}
use Rattle.std.proofs.lemmas.List.Elements.{All-nil, All-cons, All-head, All-tail, All-weaker}
use Rattle.std.proofs.lemmas.List.Kept.{AllPairs-cons}
use Rattle.base_types.specs.declared.calls.GrainId.{GrainId}
use Rattle.script_holding.specs.declared.held_grain.Held.{Held}
use Rattle.script_meaning.specs.Play.{GrainState, is_below, insert, states_set}
use Rattle.script_meaning.proofs.Lists.{pairs_first, pairs_rest}

-- the order of grains is an order, of which any two have one
below_trans : (one other third : GrainId) → IsTrue (is_below one other) → IsTrue (is_below other third) →
    IsTrue (is_below one third)
below_trans one other third e f = grind (arith)

-- of two grains one is below the other
below_or_above : (one other : GrainId) → one ≢ other → is_below one other ≡ false → IsTrue (is_below other one)
below_or_above one other differ e = grind (arith)

module _ (P : GrainState → Type 0) where
  -- what holds of a list and of one more holds of the longer one
  All-insert : (one : GrainState) (found : List GrainState) → P one → All P found → All P (insert one found)
  All-insert one [] holds all = All-cons P one [] holds all
  All-insert one (first ∷ rest) holds all =
      elim (is_below one.0 first.0) as (λ b. All P (if b then one ∷ first ∷ rest else first ∷ insert one rest)) [
        | true ↦ All-cons P one (first ∷ rest) holds all
        | false ↦ All-cons P first (insert one rest) (All-head P first rest all)
            (All-insert one rest holds (All-tail P first rest all))
      ]

  -- what holds of each held grain that was set holds of what is written
  pub All-written : (held : List Held) → All (λ one. IsTrue one.written → P (one.grain, one.state)) held →
      All P (states_set held)
  All-written [] all = All-nil P
  All-written (first ∷ rest) all =
      let Q : Held → Type 0 = λ one. IsTrue one.written → P (one.grain, one.state) in
      let later : All P (states_set rest) = All-written rest (All-tail Q first rest all) in
      (elim first.written as (λ b. (IsTrue b → P (first.grain, first.state)) →
      All P (if b then insert (first.grain, first.state) (states_set rest) else states_set rest)) [
        | true ↦ λ holds. All-insert (first.grain, first.state) (states_set rest) (holds refl) later
        | false ↦ λ holds.
            later
      ]) (All-head Q first rest all)

-- it is longer by one
length-insert : (one : GrainState) (found : List GrainState) → length (insert one found) ≡ length found + 1
length-insert one [] = refl
length-insert one (first ∷ rest) =
    elim (is_below one.0 first.0) as
    (λ b. length (if b then one ∷ first ∷ rest else first ∷ insert one rest) ≡ length (first ∷ rest) + 1)
    [ true ↦ omega arith | false ↦ let e = length-insert one rest in omega (arith, e) ]

-- no more is written than held
pub length-written : (held : List Held) → length (states_set held) ≤ length held
length-written [] = omega arith
length-written (first ∷ rest) =
    let later : length (states_set rest) ≤ length rest = length-written rest in
    elim first.written as (λ b. length
    (if b then insert (first.grain, first.state) (states_set rest) else states_set rest) ≤ length (first ∷ rest)) [
      | true ↦ let e = length-insert (first.grain, first.state) (states_set rest) in
          omega (arith, e, later)
      | false ↦ omega (arith, later)
    ]

-- one grain is below another
abbrev Below : GrainState → GrainState → Type 0
Below one other = IsTrue (is_below one.0 other.0)

-- and it ascends, where the grain was not in it
insert_ascends : (one : GrainState) (found : List GrainState) → AllPairs Below found → All (λ other. one.0 ≢ other.0) found →
    AllPairs Below (insert one found)
insert_ascends one [] pairs differ = AllPairs-cons Below one [] (All-nil (Below one)) pairs
insert_ascends one (first ∷ rest) pairs differ =
    let above : All (Below first) rest = pairs_first Below first rest pairs in
    (elim (is_below one.0 first.0) as
    (λ b. is_below one.0 first.0 ≡ b → AllPairs Below (if b then one ∷ first ∷ rest else first ∷ insert one rest)) [
      | true ↦ λ e. AllPairs-cons Below one (first ∷ rest)
          (All-cons (Below one) first rest e
          (All-weaker (Below first) (Below one) (λ other f. below_trans one.0 first.0 other.0 e f) rest above))
          pairs
      | false ↦ λ e. AllPairs-cons Below first (insert one rest)
          (All-insert (Below first) one rest
          (below_or_above one.0 first.0 (All-head (λ (other : GrainState). one.0 ≢ other.0) first rest differ) e) above)
          (insert_ascends one rest (pairs_rest Below first rest pairs)
          (All-tail (λ (other : GrainState). one.0 ≢ other.0) first rest differ))
    ]) refl

-- what is written ascends, where no grain is held twice
pub written_ascends : (held : List Held) → AllPairs (λ one other. one.grain ≢ other.grain) held →
    AllPairs Below (states_set held)
written_ascends [] pairs = λ i j d below within. absurd (omega (arith, within))
written_ascends (first ∷ rest) pairs =
    let R : Held → Held → Type 0 = λ one other. one.grain ≢ other.grain in
    let later : AllPairs Below (states_set rest) = written_ascends rest (pairs_rest R first rest pairs) in
    let differ : All (λ other. first.grain ≢ other.0) (states_set rest) =
    All-written (λ other. first.grain ≢ other.0) rest
    (All-weaker (R first) (λ (one : Held). IsTrue one.written → first.grain ≢ one.grain) (λ one d set. d) rest
    (pairs_first R first rest pairs)) in
    elim first.written as (λ b. AllPairs Below
    (if b then insert (first.grain, first.state) (states_set rest) else states_set rest))
    [ true ↦ insert_ascends (first.grain, first.state) (states_set rest) later differ | false ↦ later ]
