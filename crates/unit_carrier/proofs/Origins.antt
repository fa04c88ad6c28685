-- A unit that has begun is of the same origin by every event.
use Rattle.std.proofs.Common.{◌≡◌, ℕ, ◌<◌, Option, Some, None, refl, ap, ◌∙◌, arith}
use Rattle.std.proofs.lemmas.Bool.{and_parts, cond_both}
use Rattle.core_model.specs.CoreState.{UnitNo, CoreState}
use Rattle.core_model.specs.declared.events.CoreEvent.{CoreEvent}
use Rattle.core_model.specs.Changes.{new_unit, swept, swept_by}
use Rattle.core_model.specs.Events.{applies, can, does, step, is_allowed}
use Rattle.core_laws.proofs.Puts.{put-other}
use Rattle.core_laws.proofs.EventCases.{Change, bad, begin, lock, raise, refuse, finish, end_plain, end_snapshot, release, take_batch, vote, decide_some, decide_none, seal_batch, spoil_batch, doubt_batch, learn, emit, halt_run, want, load, decode}

-- an event that applies
origin-change : (u : UnitNo) (w : CoreState) (e : CoreEvent) (w' : CoreState) → Change w e w' → (u ≡ new_unit w → ⊥) → w'.units.origin u ≡ w.units.origin u
origin-change u w e w' (bad line why q) new = refl
origin-change u w e w' (begin origin call plain c) new = put-other w.units.origin (new_unit w) origin u new
origin-change u w e w' (lock v g mode running free first here) new = refl
origin-change u w e w' (raise v g mode running free held here uncovered) new = refl
origin-change u w e w' (refuse v g mode why running q) new = refl
origin-change u w e w' (finish v effect running plain of_call reads alone) new = refl
origin-change u w e w' (end_plain v effect running plain of_call bare) new = refl
origin-change u w e w' (end_snapshot v at outcome running plain kids answer) new = refl
origin-change u w e w' (release v g over held) new = refl
origin-change u w e w' (take_batch none some) new = refl
origin-change u w e w' (vote n g kept b q number un planned fresh) new = refl
origin-change u w e w' (decide_some n b q number un voted some) new = refl
origin-change u w e w' (decide_none n b q number un voted none) new = refl
origin-change u w e w' (seal_batch n b ds q number un) new = refl
origin-change u w e w' (spoil_batch n b ds q number un) new = refl
origin-change u w e w' (doubt_batch n b ds q number un) new = refl
origin-change u w e w' (learn v g wrote final fresh) new = refl
origin-change u w e w' (emit q) new = refl
origin-change u w e w' (halt_run q) new = refl
origin-change u w e w' (want v g running free fresh) new = refl
origin-change u w e w' (load g v state gone wanted) new = refl

-- grains that leave memory
origin-swept : (u : UnitNo) (w : CoreState) → (swept w).units.origin u ≡ w.units.origin u
origin-swept u w = go w.cells.capacity
  where
    go : (c : Option ℕ) → (swept_by w c).units.origin u ≡ w.units.origin u
    go None = refl
    go (Some m) = refl

-- a unit that has begun isn't the next one
begun-before : (u : UnitNo) (w : CoreState) → u.0 < w.units.next → u ≡ new_unit w → ⊥
begun-before u w less e = let n : u.0 ≡ w.units.next = ap (λ (x : UnitNo). x.0) e in absurd (omega (arith, n, less))

-- one event
pub origin-event : (u : UnitNo) (w : CoreState) (e : CoreEvent) → u.0 < w.units.next → (step w e).units.origin u ≡ w.units.origin u
origin-event u w e less = cond_both (applies w e) (swept (does w e)) w (λ (x : CoreState). x.units.origin u ≡ w.units.origin u)
    (λ a. origin-swept u (does w e) ∙ origin-change u w e (does w e) (decode w e (and_parts (is_allowed w e) (can w e) a).1) (begun-before u w less))
    (λ a. refl)
