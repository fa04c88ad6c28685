-- The ways of names in a tree to which a node comes.
use Rattle.std.proofs.Common.{◌≡◌, ℕ, zero, suc, ◌+◌, ◌<◌, ◌/◌, ◌%◌, Bool, true, false, List, Option, Some, None, ◌⊎◌, inl, inr, refl, sym, ap, ◌∙◌, subst, arith, nat_eq}
use Rattle.std.specs.Prelude.{if◌then◌else◌, slice_get, slice_index}
use Rattle.std.specs.Option.{is_some}
use Rattle.script_values.specs.declared.nodes.NameNode.{NameNode}
use Rattle.script_values.specs.declared.nodes.End.{End}
use Rattle.script_values.specs.declared.nodes.End.TheVariants.{At, Free, Nowhere}
use Rattle.script_scopes.specs.Names.{Scope}
use Rattle.script_values.specs.Nodes.{stands_for, named_at, kid_of, free_at, last_end, end_from, place_end}

free_none : (o : Option NameNode) (i rest : ℕ) → place_end (free_at o i rest) ≡ None
free_none None i rest = refl
free_none (Some node) i rest = refl

last_none : (b : Bool) (i : ℕ) → b ≡ false → place_end (if b then At i else Nowhere) ≡ None
last_none true i e = absurd cc
last_none false i e = refl

-- where the kid is the same
placed_same : (b c d : Bool) (i : ℕ) (free free' on on' : End) → place_end free ≡ None → place_end free' ≡ None → d ≡ c → place_end on' ≡ place_end on → place_end (if b then At i else (if d then free' else on')) ≡ place_end (if b then At i else (if c then free else on))
placed_same true c d i free free' on on' f f' e o = refl
placed_same false true true i free free' on on' f f' e o = f' ∙ sym f
placed_same false false false i free free' on on' f f' e o = o
placed_same false true false i free free' on on' f f' e o = absurd cc
placed_same false false true i free free' on on' f f' e o = absurd cc

-- where it is new
placed_none : (b c d : Bool) (i : ℕ) (free free' on on' : End) → place_end free ≡ None → place_end free' ≡ None → c ≡ true → place_end on' ≡ None → place_end (if b then At i else (if d then free' else on')) ≡ place_end (if b then At i else (if c then free else on))
placed_none true c d i free free' on on' f f' e o = refl
placed_none false true true i free free' on on' f f' e o = f' ∙ sym f
placed_none false true false i free free' on on' f f' e o = o ∙ sym f
placed_none false false d i free free' on on' f f' e o = absurd cc

zero_is_zero : (k : ℕ) → k ≡ 0 → nat_eq k 0 ≡ true
zero_is_zero k e = grind (arith, e)

-- a node without kids that isn't the name's
at_end : (b c : Bool) (i : ℕ) (free on : End) → place_end free ≡ None → b ≡ false → c ≡ true → place_end (if b then At i else (if c then free else on)) ≡ None
at_end true c i free on f e g = absurd cc
at_end false true i free on f e g = f
at_end false false i free on f e g = absurd cc

pub at_new : (named : ℕ → Bool) (at : ℕ → Option NameNode) (n : ℕ) → named n ≡ false → ((rest : ℕ) → kid_of (at n) rest ≡ 0) → (left rest : ℕ) → place_end (end_from named at left rest n) ≡ None
unfolding end_from
at_new named at n other kids zero rest = last_none (named n) n other
at_new named at n other kids (suc left) rest = at_end (named n) (nat_eq (kid_of (at n) rest) 0) n (free_at (at n) n rest) (end_from named at left (rest / 4) (kid_of (at n) rest)) (free_none (at n) n rest) other (zero_is_zero (kid_of (at n) rest) (kids rest))

-- a node more doesn't change the place of a name that isn't its own
module _ (named named' : ℕ → Bool) (at at' : ℕ → Option NameNode) (n : ℕ) (same : (i : ℕ) → named' i ≡ named i) (other : named' n ≡ false) (fresh : (rest : ℕ) → kid_of (at' n) rest ≡ 0) (kids : (i rest : ℕ) → (kid_of (at' i) rest ≡ kid_of (at i) rest) ⊎ ((kid_of (at i) rest ≡ 0) × (kid_of (at' i) rest ≡ n))) where
  kept_step : (i rest left : ℕ) → ((r j : ℕ) → place_end (end_from named' at' left r j) ≡ place_end (end_from named at left r j)) → ((kid_of (at' i) rest ≡ kid_of (at i) rest) ⊎ ((kid_of (at i) rest ≡ 0) × (kid_of (at' i) rest ≡ n))) →
      place_end (if named i then At i else (if nat_eq (kid_of (at' i) rest) 0 then free_at (at' i) i rest else end_from named' at' left (rest / 4) (kid_of (at' i) rest)))
      ≡ place_end (if named i then At i else (if nat_eq (kid_of (at i) rest) 0 then free_at (at i) i rest else end_from named at left (rest / 4) (kid_of (at i) rest)))
  kept_step i rest left before (inl e) =
      let on : place_end (end_from named' at' left (rest / 4) (kid_of (at' i) rest)) ≡ place_end (end_from named at left (rest / 4) (kid_of (at i) rest)) =
      ap (λ (k : ℕ). place_end (end_from named' at' left (rest / 4) k)) e ∙ before (rest / 4) (kid_of (at i) rest)
      in
      placed_same (named i) (nat_eq (kid_of (at i) rest) 0) (nat_eq (kid_of (at' i) rest) 0) i (free_at (at i) i rest) (free_at (at' i) i rest) (end_from named at left (rest / 4) (kid_of (at i) rest)) (end_from named' at' left (rest / 4) (kid_of (at' i) rest)) (free_none (at i) i rest) (free_none (at' i) i rest) (ap (λ (k : ℕ). nat_eq k 0) e) on
  kept_step i rest left before (inr e) =
      let on : place_end (end_from named' at' left (rest / 4) (kid_of (at' i) rest)) ≡ None =
      ap (λ (k : ℕ). place_end (end_from named' at' left (rest / 4) k)) e.1 ∙ at_new named' at' n other fresh left (rest / 4)
      in
      placed_none (named i) (nat_eq (kid_of (at i) rest) 0) (nat_eq (kid_of (at' i) rest) 0) i (free_at (at i) i rest) (free_at (at' i) i rest) (end_from named at left (rest / 4) (kid_of (at i) rest)) (end_from named' at' left (rest / 4) (kid_of (at' i) rest)) (free_none (at i) i rest) (free_none (at' i) i rest) (zero_is_zero (kid_of (at i) rest) e.0) on

  pub kept_place : (left rest i : ℕ) → place_end (end_from named' at' left rest i) ≡ place_end (end_from named at left rest i)
  unfolding end_from
  kept_place zero rest i = ap (λ (b : Bool). place_end (if b then At i else Nowhere)) (same i)
  kept_place (suc left) rest i =
      ap (λ (b : Bool). place_end (if b then At i else (if nat_eq (kid_of (at' i) rest) 0 then free_at (at' i) i rest else end_from named' at' left (rest / 4) (kid_of (at' i) rest)))) (same i)
      ∙ kept_step i rest left (λ r j. kept_place left r j) (kids i rest)

-- where the way of a name ends at a node that has no kid
last_taken : (b : Bool) (i p w : ℕ) → (if b then At i else Nowhere) ≡ Free p w → ⊥
last_taken true i p w e = cc
last_taken false i p w e = cc

free_is : (o : Option NameNode) (i rest p w : ℕ) → free_at o i rest ≡ Free p w → (is_some o ≡ true) × (i ≡ p) × (rest % 4 ≡ w)
free_is None i rest p w e = absurd cc
free_is (Some node) i rest p w e = (refl, cc, cc)

pub record IsFree (at : ℕ → Option NameNode) (p w : ℕ) : Type 0 where
  pub there : is_some (at p) ≡ true
  pub way : w < 4
  pub none : (rest : ℕ) → rest % 4 ≡ w → kid_of (at p) rest ≡ 0

rest_below : (rest : ℕ) → rest % 4 < 4
rest_below rest = omega arith

zero_of : (k : ℕ) → nat_eq k 0 ≡ true → k ≡ 0
zero_of k e = grind (arith, e)

kid_by_digit : (o : Option NameNode) (r s : ℕ) → r % 4 ≡ s % 4 → kid_of o r ≡ kid_of o s
kid_by_digit None r s e = refl
kid_by_digit (Some node) r s e = ap (λ (d : ℕ). slice_index node.kids d) e

free_step : (at : ℕ → Option NameNode) (b c : Bool) (i rest p w : ℕ) (on : End) → nat_eq (kid_of (at i) rest) 0 ≡ c → (if b then At i else (if c then free_at (at i) i rest else on)) ≡ Free p w → (on ≡ Free p w → IsFree at p w) → IsFree at p w
free_step at true c i rest p w on z e go = absurd cc
free_step at false true i rest p w on z e go =
    let is = free_is (at i) i rest p w e in
    let here : kid_of (at i) rest ≡ 0 = zero_of (kid_of (at i) rest) z in
    subst (λ (q : ℕ). IsFree at q w) is.1 (record {
      there = is.0;
      way = subst (λ (v : ℕ). v < 4) is.2 (rest_below rest);
      none = λ r same. kid_by_digit (at i) r rest (same ∙ sym is.2) ∙ here;
    })
free_step at false false i rest p w on z e go = go e

pub free_found : (named : ℕ → Bool) (at : ℕ → Option NameNode) (p w left rest i : ℕ) → end_from named at left rest i ≡ Free p w → IsFree at p w
unfolding end_from
free_found named at p w zero rest i e = absurd (last_taken (named i) i p w e)
free_found named at p w (suc left) rest i e = free_step at (named i) (nat_eq (kid_of (at i) rest) 0) i rest p w (end_from named at left (rest / 4) (kid_of (at i) rest)) refl e (λ on. free_found named at p w left (rest / 4) (kid_of (at i) rest) on)

-- the way of a name leads to the node that it gets
pub at_here : (named : ℕ → Bool) (at : ℕ → Option NameNode) (n : ℕ) → named n ≡ true → (left rest : ℕ) → end_from named at left rest n ≡ At n
unfolding end_from
at_here named at n is zero rest = ap (λ (b : Bool). let e : End = if b then At n else Nowhere in e) is
at_here named at n is (suc left) rest = ap (λ (b : Bool). if b then At n else (if nat_eq (kid_of (at n) rest) 0 then free_at (at n) n rest else end_from named at left (rest / 4) (kid_of (at n) rest))) is

goes_on : (b c : Bool) (i : ℕ) (free on end : End) → b ≡ false → c ≡ false → on ≡ end → (if b then At i else (if c then free else on)) ≡ end
goes_on true c i free on end e f o = absurd cc
goes_on false true i free on end e f o = absurd cc
goes_on false false i free on end e f o = o

module _ (named named' : ℕ → Bool) (at at' : ℕ → Option NameNode) (n p w : ℕ) (others : (i : ℕ) → nat_eq i n ≡ false → named' i ≡ named i) (here : named' n ≡ true) (past : (rest : ℕ) → kid_of (at n) rest ≡ 0) (apart : nat_eq p n ≡ false) (nonzero : nat_eq n 0 ≡ false) (gains : (rest : ℕ) → rest % 4 ≡ w → kid_of (at' p) rest ≡ n) (kids : (i rest : ℕ) → (kid_of (at' i) rest ≡ kid_of (at i) rest) ⊎ ((kid_of (at i) rest ≡ 0) × (kid_of (at' i) rest ≡ n))) where
  abbrev Reaches : ℕ → ℕ → ℕ → Type 0
  Reaches left rest i = (if named' i then At i else (if nat_eq (kid_of (at' i) rest) 0 then free_at (at' i) i rest else end_from named' at' left (rest / 4) (kid_of (at' i) rest))) ≡ At n

  at_parent : (i rest left : ℕ) → named i ≡ false → i ≡ p → rest % 4 ≡ w → Reaches left rest i
  at_parent i rest left b is way =
      let kid : kid_of (at' i) rest ≡ n = ap (λ (j : ℕ). kid_of (at' j) rest) is ∙ gains rest way in
      let aside : nat_eq i n ≡ false = ap (λ (j : ℕ). nat_eq j n) is ∙ apart in
      goes_on (named' i) (nat_eq (kid_of (at' i) rest) 0) i (free_at (at' i) i rest) (end_from named' at' left (rest / 4) (kid_of (at' i) rest)) (At n) (others i aside ∙ b) (ap (λ (k : ℕ). nat_eq k 0) kid ∙ nonzero) (ap (λ (k : ℕ). end_from named' at' left (rest / 4) k) kid ∙ at_here named' at' n here left (rest / 4))

  apart_from : (d : Bool) (i rest : ℕ) → nat_eq i n ≡ d → nat_eq (kid_of (at i) rest) 0 ≡ false → d ≡ false
  apart_from true i rest e z =
      let is : i ≡ n = grind (arith, e) in
      let kid : kid_of (at i) rest ≡ 0 = ap (λ (j : ℕ). kid_of (at j) rest) is ∙ past rest in
      let yes : nat_eq (kid_of (at i) rest) 0 ≡ true = zero_is_zero (kid_of (at i) rest) kid in
      absurd cc
  apart_from false i rest e z = refl

  beyond : (i rest left : ℕ) → named i ≡ false → nat_eq (kid_of (at i) rest) 0 ≡ false → end_from named' at' left (rest / 4) (kid_of (at i) rest) ≡ At n → ((kid_of (at' i) rest ≡ kid_of (at i) rest) ⊎ ((kid_of (at i) rest ≡ 0) × (kid_of (at' i) rest ≡ n))) → Reaches left rest i
  beyond i rest left b z on (inl e) =
      goes_on (named' i) (nat_eq (kid_of (at' i) rest) 0) i (free_at (at' i) i rest) (end_from named' at' left (rest / 4) (kid_of (at' i) rest)) (At n) (others i (apart_from (nat_eq i n) i rest refl z) ∙ b) (ap (λ (k : ℕ). nat_eq k 0) e ∙ z) (ap (λ (k : ℕ). end_from named' at' left (rest / 4) k) e ∙ on)
  beyond i rest left b z on (inr e) =
      let yes : nat_eq (kid_of (at i) rest) 0 ≡ true = zero_is_zero (kid_of (at i) rest) e.0 in
      absurd cc

  reach_step : (b c : Bool) (i rest left : ℕ) → named i ≡ b → nat_eq (kid_of (at i) rest) 0 ≡ c → (if b then At i else (if c then free_at (at i) i rest else end_from named at left (rest / 4) (kid_of (at i) rest))) ≡ Free p w → (end_from named at left (rest / 4) (kid_of (at i) rest) ≡ Free p w → end_from named' at' left (rest / 4) (kid_of (at i) rest) ≡ At n) → Reaches left rest i
  reach_step true c i rest left b z e go = absurd cc
  reach_step false true i rest left b z e go =
      let is = free_is (at i) i rest p w e in
      at_parent i rest left b is.1 is.2
  reach_step false false i rest left b z e go = beyond i rest left b z (go e) (kids i rest)

  pub reaches : (left rest i : ℕ) → end_from named at left rest i ≡ Free p w → end_from named' at' left rest i ≡ At n
  unfolding end_from
  reaches zero rest i e = absurd (last_taken (named i) i p w e)
  reaches (suc left) rest i e = reach_step (named i) (nat_eq (kid_of (at i) rest) 0) i rest left refl refl e (λ on. reaches left (rest / 4) (kid_of (at i) rest) on)

-- one step of a way
pub step_named : (named : ℕ → Bool) (at : ℕ → Option NameNode) (n rest i : ℕ) → named i ≡ true → end_from named at n rest i ≡ At i
step_named named at n rest i is = at_here named at i is n rest

pub step_free : (named : ℕ → Bool) (at : ℕ → Option NameNode) (n m rest i : ℕ) → n ≡ m + 1 → named i ≡ false → kid_of (at i) rest ≡ 0 → end_from named at n rest i ≡ free_at (at i) i rest
unfolding end_from
step_free named at zero m rest i e b z = absurd (omega (arith, e))
step_free named at (suc k) m rest i e b z =
    ap (λ (b : Bool). if b then At i else (if nat_eq (kid_of (at i) rest) 0 then free_at (at i) i rest else end_from named at k (rest / 4) (kid_of (at i) rest))) b
    ∙ ap (λ (c : Bool). if c then free_at (at i) i rest else end_from named at k (rest / 4) (kid_of (at i) rest)) (zero_is_zero (kid_of (at i) rest) z)

pub step_on : (named : ℕ → Bool) (at : ℕ → Option NameNode) (n m rest i : ℕ) → n ≡ m + 1 → named i ≡ false → nat_eq (kid_of (at i) rest) 0 ≡ false → end_from named at n rest i ≡ end_from named at m (rest / 4) (kid_of (at i) rest)
unfolding end_from
step_on named at zero m rest i e b z = absurd (omega (arith, e))
step_on named at (suc k) m rest i e b z =
    let same : k ≡ m = omega (arith, e) in
    goes_on (named i) (nat_eq (kid_of (at i) rest) 0) i (free_at (at i) i rest) (end_from named at k (rest / 4) (kid_of (at i) rest)) (end_from named at m (rest / 4) (kid_of (at i) rest)) b z (ap (λ (j : ℕ). end_from named at j (rest / 4) (kid_of (at i) rest)) same)

pub step_last : (named : ℕ → Bool) (at : ℕ → Option NameNode) (n rest i : ℕ) → n ≡ 0 → end_from named at n rest i ≡ last_end named i
unfolding end_from
step_last named at zero rest i e = refl
step_last named at (suc k) rest i e = absurd (omega (arith, e))

-- the same, at what the code finds of a node
module _ (nodes : List NameNode) (names : Scope) (name : List ℕ) (digest n rest i : ℕ) where
  pub ends_nowhere : (m : ℕ) → n ≡ m + 1 → slice_get nodes i ≡ None → end_from (named_at nodes names name digest) (slice_get nodes) n rest i ≡ Nowhere
  ends_nowhere m e none =
      step_free (named_at nodes names name digest) (slice_get nodes) n m rest i e (ap (λ (o : Option NameNode). stands_for o (slice_get names i) name digest) none) (ap (λ (o : Option NameNode). kid_of o rest) none)
      ∙ ap (λ (o : Option NameNode). free_at o i rest) none

  pub ends_named : (node : NameNode) → slice_get nodes i ≡ Some node → stands_for (Some node) (slice_get names i) name digest ≡ true → end_from (named_at nodes names name digest) (slice_get nodes) n rest i ≡ At i
  ends_named node is named = step_named (named_at nodes names name digest) (slice_get nodes) n rest i (ap (λ (o : Option NameNode). stands_for o (slice_get names i) name digest) is ∙ named)

  pub ends_free : (m : ℕ) (node : NameNode) → n ≡ m + 1 → slice_get nodes i ≡ Some node → stands_for (Some node) (slice_get names i) name digest ≡ false → slice_index node.kids (rest % 4) ≡ 0 → end_from (named_at nodes names name digest) (slice_get nodes) n rest i ≡ Free i (rest % 4)
  ends_free m node e is other none =
      step_free (named_at nodes names name digest) (slice_get nodes) n m rest i e (ap (λ (o : Option NameNode). stands_for o (slice_get names i) name digest) is ∙ other) (ap (λ (o : Option NameNode). kid_of o rest) is ∙ none)
      ∙ ap (λ (o : Option NameNode). free_at o i rest) is

  pub ends_beyond : (m next : ℕ) (node : NameNode) → n ≡ m + 1 → slice_get nodes i ≡ Some node → stands_for (Some node) (slice_get names i) name digest ≡ false → next ≡ slice_index node.kids (rest % 4) → nat_eq next 0 ≡ false → end_from (named_at nodes names name digest) (slice_get nodes) n rest i ≡ end_from (named_at nodes names name digest) (slice_get nodes) m (rest / 4) next
  ends_beyond m next node e is other kid some =
      let to : kid_of (slice_get nodes i) rest ≡ next = ap (λ (o : Option NameNode). kid_of o rest) is ∙ sym kid in
      step_on (named_at nodes names name digest) (slice_get nodes) n m rest i e (ap (λ (o : Option NameNode). stands_for o (slice_get names i) name digest) is ∙ other) (ap (λ (k : ℕ). nat_eq k 0) to ∙ some)
      ∙ ap (λ (k : ℕ). end_from (named_at nodes names name digest) (slice_get nodes) m (rest / 4) k) to
