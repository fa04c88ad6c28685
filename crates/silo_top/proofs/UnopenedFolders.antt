-- A folder that wasn't opened.
use Rattle.std.proofs.Common.{◌≡◌, inl, true, ℕ, List, refl, sym, subst, arith}
use Rattle.host_trait.specs.declared.channels.Channel.{Channel}
use Rattle.host_trait.specs.World.{World}
use Rattle.host_trait.proofs.Moments.{started}
use Rattle.field_codec.specs.declared.formats.Format.TheVariants.{Two}
use Rattle.silo_spec.specs.OpenedDisks.{OnlyOpens}
use Rattle.silo_spec.specs.Moments.{IsAsAtEntry, IsUntouched}
use Rattle.silo_spec.specs.Creation.{IsBeside}
use Rattle.log_reading.specs.Steps.{seen_in}
use Rattle.promise_spec.specs.Words.{Manner}
use Rattle.promise_spec.specs.Endings.{Ending, HasFailedAs}
use Rattle.promise_spec.specs.Openings.{opened_as}
use Rattle.promise_spec.specs.Courses.{Observed}
use Rattle.promise_spec.specs.Commands.{MakesSilo}
use Rattle.promise_spec.specs.Loads.{IsUnmade}
use Rattle.promise_spec.specs.Refusals.{IsRefusedBy, IsUnopened}
use Rattle.promise_spec.specs.Migration.{IsMigrateUnopened}
use Rattle.promise_spec.specs.Upgrading.{IsInputRefused}
use Rattle.promise_spec.specs.Promise.{Promises}
use Rattle.silo_opening.specs.OpenedSilo.{ending_of}
use Rattle.silo_opening.specs.Counts.{OpenFaulted}
use Rattle.silo_opening.specs.declared.faults.OpenFault.{OpenFault}
use Rattle.silo_top.specs.declared.status.Status.{Status}
use Rattle.silo_opening.proofs.OpeningCalls.{opens_untouched}
use Rattle.silo_top.specs.Statuses.{status_ending}
use Rattle.silo_top.proofs.ShownCalls.{observed_call, observed_run}
use Rattle.silo_top.proofs.FaultCounts.{open_failed}

-- ---- nothing but looking

-- a run that didn't open its folder keeps its promise
pub unopened_promised : (m : Manner) (r : Observed) → r.manner ≡ m → r.windowed ≡ true → IsUnopened r → Promises m r
unopened_promised m r is cut u = record { manner = is; windowed = cut; answers = inl u; over_whole = λ whole. inl u }

-- so does one whose opening answered a fault
pub refused_promised : (m : Manner) (old new : World) (before after : Channel → ℕ) (e : OpenFault) (status : Status) → status_ending status ≡ ending_of e → OnlyOpens old new
    → IsRefusedBy Two (seen_in old.disk) (opened_as (seen_in old.disk)) (ending_of e) → OpenFaulted e before after → Promises m (observed_run m old new before after status)
refused_promised m old new before after e status is run refused faulted = unopened_promised m (observed_run m old new before after status) refl refl (record {
  untouched = opens_untouched _ old new run;
  unread = run.input;
  syncs = run.syncs;
  refused = subst (λ (x : Ending). IsRefusedBy Two (seen_in old.disk) (opened_as (seen_in old.disk)) x) (sym is) refused;
  failed = subst (λ (x : Ending). HasFailedAs x before after) (sym is) (open_failed before after e faulted);
})

-- ---- nothing at all

pub nothing_touched : (w : World) → IsUntouched w w
nothing_touched w = record {
  moments = started (IsAsAtEntry w) w.past;
  now = record { quiet = refl; images = λ image is. is };
  seen = λ file. refl;
}

-- where memory is wanting before anything was done
pub starved_unopened : (m : Manner) (asked : List (List ℕ)) (w : World) (counts : Channel → ℕ) → IsUnopened (observed_call m asked w w counts counts Status.Memory)
starved_unopened m asked w counts = record {
  untouched = nothing_touched w;
  unread = refl;
  syncs = omega arith;
  refused = tt;
  failed = λ channel. refl;
}

pub starved_migrate : (m : Manner) (asked : List (List ℕ)) (w : World) (counts : Channel → ℕ) → IsMigrateUnopened (observed_call m asked w w counts counts Status.Memory)
starved_migrate m asked w counts = record {
  untouched = nothing_touched w;
  unread = refl;
  syncs = omega arith;
  refused = tt;
  failed = λ channel. refl;
}

pub starved_upgrade : (m : Manner) (asked : List (List ℕ)) (w : World) (counts : Channel → ℕ) → IsInputRefused (observed_call m asked w w counts counts Status.Memory)
starved_upgrade m asked w counts = record { untouched = nothing_touched w; syncs = refl; refused = tt; failed = λ channel. refl }

pub starved_promised : (m : Manner) (w : World) (counts : Channel → ℕ) → Promises m (observed_run m w w counts counts Status.Memory)
starved_promised m w counts = unopened_promised m (observed_run m w w counts counts Status.Memory) refl refl (record {
  untouched = nothing_touched w;
  unread = refl;
  syncs = omega arith;
  refused = tt;
  failed = λ channel. refl;
})

pub starved_made : (m : Manner) (asked : List (List ℕ)) (w : World) (counts : Channel → ℕ) → MakesSilo (observed_call m asked w w counts counts Status.Memory)
starved_made m asked w counts = record {
  beside = started (IsBeside w) w.past;
  beside_now = record { output = refl; other = inl refl; others = λ file one two three. refl };
  makes = λ shows. inl (nothing_touched w);
  shows = λ shows. shows;
  ends_as = nothing_touched w;
  risen = tt;
}

pub starved_unmade : (m : Manner) (asked : List (List ℕ)) (w : World) (counts : Channel → ℕ) → IsUnmade (observed_call m asked w w counts counts Status.Memory)
starved_unmade m asked w counts = record {
  beside = record { input = refl; moments = started (IsBeside w) w.past; now = record { output = refl; other = inl refl; others = λ file one two three. refl } };
  makes = λ shows. inl (nothing_touched w);
  shows = λ shows. shows;
  ends_as = nothing_touched w;
  failed = λ channel. refl;
}

-- ---- any command

-- a folder that wasn't opened, whatever the call was to do
pub refused_unopened : (m : Manner) (asked : List (List ℕ)) (old new : World) (before after : Channel → ℕ) (e : OpenFault) (status : Status) → status_ending status ≡ ending_of e → OnlyOpens old new
    → IsRefusedBy Two (seen_in old.disk) (opened_as (seen_in old.disk)) (ending_of e) → OpenFaulted e before after → IsUnopened (observed_call m asked old new before after status)
refused_unopened m asked old new before after e status is run refused faulted = record {
  untouched = opens_untouched _ old new run;
  unread = run.input;
  syncs = run.syncs;
  refused = subst (λ (x : Ending). IsRefusedBy Two (seen_in old.disk) (opened_as (seen_in old.disk)) x) (sym is) refused;
  failed = subst (λ (x : Ending). HasFailedAs x before after) (sym is) (open_failed before after e faulted);
}
