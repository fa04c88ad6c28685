-- What stays or only goes one way by every event: the program's types, the next unit's number, and a doubt or a stop.
use Rattle.std.proofs.Common.{◌≡◌, ◌≤◌, ℕ, List, [], ◌∷◌, true≢false, Option, Some, None, refl, sym, ap, ◌∙◌, subst, arith, le_refl}
use Rattle.std.specs.Prelude.{is_none}
use Rattle.std.proofs.lemmas.Bool.{and_parts, cond_both}
use Rattle.core_model.specs.CoreState.{CoreState}
use Rattle.core_model.specs.declared.events.CoreEvent.{CoreEvent}
use Rattle.core_model.specs.Changes.{swept, swept_by}
use Rattle.core_model.specs.LockAnswers.{IsGoing}
use Rattle.core_model.specs.Events.{applies, can, does, step, run, is_allowed}
use Rattle.core_model.specs.LegalRuns.{Run, begins, ends}
use Rattle.core_laws.proofs.EventCases.{Change, bad, begin, lock, raise, refuse, finish, end_plain, end_snapshot, release, take_batch, vote, decide_some, decide_none, seal_batch, spoil_batch, doubt_batch, learn, emit, halt_run, want, load, decode}
use Rattle.turn_rules.specs.NextEvent.{with_event}
use Rattle.turn_rules.proofs.Growth.{ends-more}

-- What one event leaves.
pub record IsShaped (w w' : CoreState) : Type 0 where
  pub kinds : w'.units.kinds ≡ w.units.kinds
  pub next : w.units.next ≤ w'.units.next
  pub going : IsGoing w' → IsGoing w

-- nothing changed of these
shaped-same : (w : CoreState) → IsShaped w w
shaped-same w = record { kinds = refl; next = le_refl w.units.next; going = λ g. g }

-- an event that applies
shaped-change : (w : CoreState) (e : CoreEvent) (w' : CoreState) → Change w e w' → IsShaped w w'
shaped-change w e w' (bad line why q) = record { kinds = refl; next = le_refl w.units.next; going = λ g. g }
shaped-change w e w' (begin origin call plain c) = record { kinds = refl; next = omega arith; going = λ g. g }
shaped-change w e w' (lock u g mode running free first here) = record { kinds = refl; next = le_refl w.units.next; going = λ x. x }
shaped-change w e w' (raise u g mode running free held here uncovered) = record { kinds = refl; next = le_refl w.units.next; going = λ x. x }
shaped-change w e w' (refuse u g mode why running q) = record { kinds = refl; next = le_refl w.units.next; going = λ x. x }
shaped-change w e w' (finish u effect running plain of_call reads alone) = record { kinds = refl; next = le_refl w.units.next; going = λ x. x }
shaped-change w e w' (end_plain u effect running plain of_call bare) = record { kinds = refl; next = le_refl w.units.next; going = λ x. x }
shaped-change w e w' (end_snapshot u at outcome running plain kids answer) = record { kinds = refl; next = le_refl w.units.next; going = λ x. x }
shaped-change w e w' (release u g over held) = record { kinds = refl; next = le_refl w.units.next; going = λ x. x }
shaped-change w e w' (take_batch none some) = record { kinds = refl; next = le_refl w.units.next; going = λ x. x }
shaped-change w e w' (vote n g kept b q number d planned fresh) = record { kinds = refl; next = le_refl w.units.next; going = λ x. x }
shaped-change w e w' (decide_some n b q number d voted some) = record { kinds = refl; next = le_refl w.units.next; going = λ x. x }
shaped-change w e w' (decide_none n b q number d voted none) = record { kinds = refl; next = le_refl w.units.next; going = λ x. x }
shaped-change w e w' (seal_batch n b ds q number d) = record { kinds = refl; next = le_refl w.units.next; going = λ x. x }
shaped-change w e w' (spoil_batch n b ds q number d) = record { kinds = refl; next = le_refl w.units.next; going = λ x. x }
shaped-change w e w' (doubt_batch n b ds q number d) = record { kinds = refl; next = le_refl w.units.next; going = λ x. absurd (true≢false (sym (ap is_none x.0))) }
shaped-change w e w' (learn u g wrote final fresh) = record { kinds = refl; next = le_refl w.units.next; going = λ x. x }
shaped-change w e w' (emit q) = record { kinds = refl; next = le_refl w.units.next; going = λ x. x }
shaped-change w e w' (halt_run q) = record { kinds = refl; next = le_refl w.units.next; going = λ x. absurd (true≢false x.1) }
shaped-change w e w' (want u g running free fresh) = record { kinds = refl; next = le_refl w.units.next; going = λ x. x }
shaped-change w e w' (load g u state gone wanted) = record { kinds = refl; next = le_refl w.units.next; going = λ x. x }

-- grains that leave memory
shaped-swept : (w w' : CoreState) → IsShaped w w' → IsShaped w (swept w')
shaped-swept w w' s = go w'.cells.capacity
  where
    go : (c : Option ℕ) → IsShaped w (swept_by w' c)
    go None = s
    go (Some n) = record { kinds = s.kinds; next = s.next; going = s.going }

-- one event, whether it applies or not
shaped-step : (w : CoreState) (e : CoreEvent) → IsShaped w (step w e)
shaped-step w e = cond_both (applies w e) (swept (does w e)) w (IsShaped w)
    (λ a. shaped-swept w (does w e) (shaped-change w e (does w e) (decode w e (and_parts (is_allowed w e) (can w e) a).1)))
    (λ a. shaped-same w)

-- what goes on behind an event went on before it
pub going-back : (r : Run) (e : CoreEvent) → IsGoing (ends (with_event r e)) → IsGoing (ends r)
going-back r e g = (shaped-step (ends r) e).going (subst IsGoing (ends-more r e) g)

-- ---- a whole run

-- a list of events
shaped-run : (es : List CoreEvent) (w : CoreState) → IsShaped w (run w es)
shaped-run [] w = shaped-same w
shaped-run (e ∷ es) w =
    let one = shaped-step w e in
    let all = shaped-run es (step w e) in
    record {
      kinds = all.kinds ∙ one.kinds;
      next = (let a = one.next in let b = all.next in omega (arith, a, b));
      going = λ g. one.going (all.going g);
    }

-- the program has as many types as it had
pub kinds-ends : (r : Run) → (ends r).units.kinds ≡ r.kinds
kinds-ends r = (shaped-run r.events (begins r)).kinds

-- the next unit's number only grows
pub next-grows : (es : List CoreEvent) (w : CoreState) → w.units.next ≤ (run w es).units.next
next-grows es w = (shaped-run es w).next
