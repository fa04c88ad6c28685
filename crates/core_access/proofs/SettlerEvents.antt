-- What events that aren't the settler's leave.
use Rattle.std.proofs.Common.{◌≡◌, ℕ, [], ◌∷◌, Bool, true, false, true≢false, Option, Some, None, refl, sym, subst}
use Rattle.std.specs.Prelude.{if◌then◌else◌}
use Rattle.std.proofs.lemmas.Bool.{and_parts}
use Rattle.core_model.specs.CoreState.{CoreState}
use Rattle.core_model.specs.Changes.{swept, swept_by}
use Rattle.core_model.specs.declared.events.CoreEvent.{CoreEvent}
use Rattle.core_model.specs.Events.{applies, is_allowed, can, does, step}
use Rattle.core_model.specs.LegalRuns.{Run, begins, ends}
use Rattle.core_model.specs.Laws.{extended}
use Rattle.core_laws.proofs.EventCases.{Change, bad, begin, lock, raise, refuse, finish, end_plain, end_snapshot, release, take_batch, vote, decide_some, decide_none, seal_batch, spoil_batch, doubt_batch, learn, emit, halt_run, want, load, decode}
use Rattle.core_laws.proofs.FurtherLaws.{run-append}
use Rattle.core_access.specs.SettlerEvents.{is_settling, LeavesBatches}

-- nothing changed
leaves-same : (w : CoreState) → LeavesBatches w w
leaves-same w = record { batches = refl; batch = refl; past = refl; closed = refl; doubt = refl; emitted = refl }

-- an event that applies
leaves-change : (w : CoreState) (e : CoreEvent) (w' : CoreState) → Change w e w' → is_settling e ≡ false → LeavesBatches w w'
leaves-change w e w' (bad line why q) other = record { batches = refl; batch = refl; past = refl; closed = refl; doubt = refl; emitted = refl }
leaves-change w e w' (begin origin call plain c) other = record { batches = refl; batch = refl; past = refl; closed = refl; doubt = refl; emitted = refl }
leaves-change w e w' (lock u g mode running free first here) other = record { batches = refl; batch = refl; past = refl; closed = refl; doubt = refl; emitted = refl }
leaves-change w e w' (raise u g mode running free held here uncovered) other = record { batches = refl; batch = refl; past = refl; closed = refl; doubt = refl; emitted = refl }
leaves-change w e w' (refuse u g mode why running q) other = record { batches = refl; batch = refl; past = refl; closed = refl; doubt = refl; emitted = refl }
leaves-change w e w' (finish u effect running plain of_call reads alone) other = record { batches = refl; batch = refl; past = refl; closed = refl; doubt = refl; emitted = refl }
leaves-change w e w' (end_plain u effect running plain of_call bare) other = record { batches = refl; batch = refl; past = refl; closed = refl; doubt = refl; emitted = refl }
leaves-change w e w' (end_snapshot u at outcome running plain kids answer) other = record { batches = refl; batch = refl; past = refl; closed = refl; doubt = refl; emitted = refl }
leaves-change w e w' (release u g over held) other = record { batches = refl; batch = refl; past = refl; closed = refl; doubt = refl; emitted = refl }
leaves-change w e w' (take_batch none some) other = absurd (true≢false other)
leaves-change w e w' (vote n g kept b q number d planned fresh) other = absurd (true≢false other)
leaves-change w e w' (decide_some n b q number d voted some) other = absurd (true≢false other)
leaves-change w e w' (decide_none n b q number d voted none) other = absurd (true≢false other)
leaves-change w e w' (seal_batch n b ds q number d) other = absurd (true≢false other)
leaves-change w e w' (spoil_batch n b ds q number d) other = absurd (true≢false other)
leaves-change w e w' (doubt_batch n b ds q number d) other = absurd (true≢false other)
leaves-change w e w' (learn u g wrote final fresh) other = absurd (true≢false other)
leaves-change w e w' (emit q) other = absurd (true≢false other)
leaves-change w e w' (halt_run q) other = record { batches = refl; batch = refl; past = refl; closed = refl; doubt = refl; emitted = refl }
leaves-change w e w' (want u g running free fresh) other = record { batches = refl; batch = refl; past = refl; closed = refl; doubt = refl; emitted = refl }
leaves-change w e w' (load g u state gone wanted) other = record { batches = refl; batch = refl; past = refl; closed = refl; doubt = refl; emitted = refl }

-- grains that leave memory leave it all
leaves-swept : (w w' : CoreState) → LeavesBatches w w' → LeavesBatches w (swept w')
leaves-swept w w' l = go w'.cells.capacity
  where
    go : (c : Option ℕ) → LeavesBatches w (swept_by w' c)
    go None = l
    go (Some n) = record { batches = l.batches; batch = l.batch; past = l.past; closed = l.closed; doubt = l.doubt; emitted = l.emitted }

-- an event, whether it applies or not
leaves-step : (w : CoreState) (e : CoreEvent) → is_settling e ≡ false → LeavesBatches w (step w e)
leaves-step w e other = by (applies w e) refl
  where
    by : (a : Bool) → applies w e ≡ a → LeavesBatches w (if a then swept (does w e) else w)
    by true a = leaves-swept w (does w e) (leaves-change w e (does w e) (decode w e (and_parts (is_allowed w e) (can w e) a).1) other)
    by false a = leaves-same w

-- of a run
pub others-leave : (r : Run) (e : CoreEvent) → is_settling e ≡ false → LeavesBatches (ends r) (ends (extended r (e ∷ [])))
others-leave r e other = subst (LeavesBatches (ends r)) (sym (run-append (begins r) r.events (e ∷ []))) (leaves-step (ends r) e other)
