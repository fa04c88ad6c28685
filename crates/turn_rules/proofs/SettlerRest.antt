-- What is so where there is no mover: the settler has no step, and what that leaves.
use Rattle.std.proofs.Common.{◌≡◌, ℕ, ◌≤◌, Option, Some, None, List, [], ◌∷◌, ◌++◌, length, map, Bool, true, false, ◌⊎◌, inl, inr, refl, sym, ap, ◌∙◌, subst, nat_lt, is_none, is_some}
use Rattle.std.specs.Prelude.{if◌then◌else◌, not, ◌&&◌, ◌||◌}
use Rattle.std.proofs.lemmas.Bool.{and_parts, cases_Bool, cond-true, cond-false, ltb-false}
use Rattle.core_model.specs.CoreState.{UnitNo, GrainId, Batch, CoreState}
use Rattle.core_model.specs.Answers.{next_learn}
use Rattle.core_model.specs.declared.events.CoreEvent.TheVariants.{Take}
use Rattle.core_model.specs.Events.{applies, can, is_allowed}
use Rattle.core_model.specs.WantedGrains.{next_wanted}
use Rattle.core_model.specs.Settler.{Step, Votes, Decides, Seals, Learns, Writes, Loads, Takes, Rests, has_step, settler_step, batch_step, later_step, learn_step, last_step, load_step, undecided_step, first_unvoted}
use Rattle.promise_spec.specs.TurnRule.{Mover, OfUnit, OfSettler}
use Rattle.turn_rules.proofs.ListTests.{empty-append, empty-map}

-- ---- no mover

-- where there is no mover, no unit can move and the settler has no step
pub no-doubt-list : (w : CoreState) (us : List UnitNo) (tail : List Mover) → w.manager.doubt ≡ None → (if is_some w.manager.doubt then [] else map OfUnit us) ++ tail ≡ [] → (us ≡ []) × (tail ≡ [])
no-doubt-list w us tail d e =
    let f : map OfUnit us ++ tail ≡ [] = subst (λ (o : Option ℕ). (if is_some o then [] else map OfUnit us) ++ tail ≡ []) d e in
    let p = empty-append (map OfUnit us) tail f in
    (empty-map OfUnit us p.0, p.1)

-- a settler that is no mover rests
pub no-step : (s : Step) → (if has_step s then OfSettler ∷ [] else []) ≡ [] → s ≡ Rests
no-step (Votes n g) e = absurd cc
no-step (Decides n) e = absurd cc
no-step (Seals n) e = absurd cc
no-step (Learns u g) e = absurd cc
no-step Writes e = absurd cc
no-step (Loads g) e = absurd cc
no-step Takes e = absurd cc
no-step Rests e = refl

-- what a settler without a step leaves: no open batch, all written, none to take
pub record Rested (w : CoreState) : Type 0 where
  pub none : w.manager.batch ≡ None
  pub written : length w.manager.settled ≤ w.manager.emitted
  pub untaken : applies w Take ≡ false

-- an open batch has votes to come, or its decision
undecided-moves : (n : ℕ) (o : Option GrainId) → undecided_step n o ≡ Rests → ⊥
undecided-moves n None q = absurd cc
undecided-moves n (Some g) q = absurd cc

-- or its seal
open-moves : (w : CoreState) (b : Batch) (t : Bool) → (if t then Seals b.number else undecided_step b.number (first_unvoted b)) ≡ Rests → ⊥
open-moves w b true q = absurd cc
open-moves w b false q = undecided-moves b.number (first_unvoted b) q

module _ (w : CoreState) (sure : is_some w.manager.doubt ≡ false) where
  learning : (x : UnitNo × GrainId) → next_learn w ≡ Some x → later_step w ≡ Rests → ⊥
  learning x q = rw (sure, q) (λ e. absurd (cc e))

  writing : next_learn w ≡ None → nat_lt w.manager.emitted (length w.manager.settled) ≡ true → later_step w ≡ Rests → ⊥
  writing q a = rw (sure, q, a) (λ e. absurd (cc e))

  -- what can be taken is taken, where nothing is stopped
  unstopped : applies w Take ≡ true → (h : Bool) → w.units.halt ≡ h → h ≡ false
  unstopped t false e = refl
  unstopped t true e =
      let p = (and_parts (is_none w.manager.doubt || false) (not w.units.halt || false) (and_parts (is_allowed w Take) (can w Take) t).0).1 in
      let z : false ≡ true = sym (ap (λ (b : Bool). not b || false) e) ∙ p in absurd cc

  -- and what is to be brought into memory comes before
  loading : (o : Option GrainId) → applies w Take ≡ true → load_step w o ≡ Rests → ⊥
  loading None t e = (let z : Takes ≡ Rests = sym (cond-true (applies w Take) Takes Rests t) ∙ e in absurd cc)
  loading (Some g) t e = absurd cc

  taking : next_learn w ≡ None → nat_lt w.manager.emitted (length w.manager.settled) ≡ false → applies w Take ≡ true → later_step w ≡ Rests → ⊥
  taking q a t h =
      let p : learn_step w (next_learn w) ≡ Rests = sym (cond-false (is_some w.manager.doubt) (last_step w false) (learn_step w (next_learn w)) sure) ∙ h in
      let l : last_step w true ≡ Rests = subst (λ (o : Option (UnitNo × GrainId)). learn_step w o ≡ Rests) q p in
      let z : (if true && not w.units.halt then load_step w (next_wanted w) else Rests) ≡ Rests = sym (cond-false (nat_lt w.manager.emitted (length w.manager.settled)) Writes _ a) ∙ l in
      let y : load_step w (next_wanted w) ≡ Rests = sym (cond-true (not w.units.halt) (load_step w (next_wanted w)) Rests (ap not (unstopped t w.units.halt refl))) ∙ z in
      loading (next_wanted w) t y

  later-rests : w.manager.batch ≡ None → later_step w ≡ Rests → Rested w
  later-rests n h = by (next_learn w) refl
    where
      test : next_learn w ≡ None → (nat_lt w.manager.emitted (length w.manager.settled) ≡ true) ⊎ (nat_lt w.manager.emitted (length w.manager.settled) ≡ false) → (applies w Take ≡ true) ⊎ (applies w Take ≡ false) → Rested w
      test q (inl a) b = absurd (writing q a h)
      test q (inr a) (inl b) = absurd (taking q a b h)
      test q (inr a) (inr b) = record { none = n; written = ltb-false w.manager.emitted (length w.manager.settled) a; untaken = b }

      by : (o : Option (UnitNo × GrainId)) → next_learn w ≡ o → Rested w
      by (Some x) q = absurd (learning x q h)
      by None q = test q (cases_Bool (nat_lt w.manager.emitted (length w.manager.settled))) (cases_Bool (applies w Take))

-- a settler that rests leaves that
pub rested : (w : CoreState) → is_some w.manager.doubt ≡ false → settler_step w ≡ Rests → Rested w
rested w d e = by w.manager.batch refl e
  where
    by : (o : Option Batch) → w.manager.batch ≡ o → batch_step w o ≡ Rests → Rested w
    by (Some b) q h = absurd (open-moves w b (is_some b.decisions) h)
    by None q h = later-rests w d q h
