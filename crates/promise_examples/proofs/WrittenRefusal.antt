-- The refusal that is written out keeps the promise.
use Rattle.std.proofs.Common.{◌≡◌, inl, ℕ, [], ◌∷◌, take, Result, refl, ap, arith}
use Rattle.host_trait.specs.Disk.{settled}
use Rattle.silo_spec.specs.Silos.{manager}
use Rattle.silo_spec.specs.Moments.{IsUntouched}
use Rattle.silo_spec.specs.OpenedDisks.{opening_syncs}
use Rattle.field_codec.specs.declared.formats.Format.TheVariants.{Two}
use Rattle.promise_spec.specs.Programs.{Program}
use Rattle.promise_spec.specs.Openings.{DamagedAt, with_program, opened_as}
use Rattle.promise_spec.specs.Words.{plain_manner}
use Rattle.promise_spec.specs.Courses.{seen_at_entry}
use Rattle.promise_spec.specs.Refusals.{IsUnopened}
use Rattle.promise_spec.specs.Promise.{Promises}
use Rattle.promise_examples.specs.Examples.{grain_bytes, manager_bytes}
use Rattle.promise_examples.specs.HostCalls.{IsHosted}
use Rattle.promise_examples.specs.WrittenRun.{moment}
use Rattle.promise_examples.specs.WrittenRefusal.{torn_disk, torn_before, torn_after, refused, refused_steps}
use Rattle.promise_examples.proofs.NewSilo.{file_is_read}
use Rattle.promise_examples.proofs.HostSteps.{synced_log}

-- the folder reads as damaged there
pub reads : opened_as (seen_at_entry refused) ≡ DamagedAt manager 16
reads = ap (λ (r : Result Program ℕ). with_program Two 0 (seen_at_entry refused) r) file_is_read

-- at each moment all is as at entry
untouched : IsUntouched torn_before torn_after
untouched = record {
  moments = record { more = moment [] torn_disk ∷ []; past = refl; each = (record { quiet = refl; images = λ image left. left }, tt) };
  now = record { quiet = refl; images = λ image left. left };
  seen = λ file. refl;
}

pub unopened : IsUnopened refused
unopened = record { untouched = untouched; unread = refl; syncs = (let own : opening_syncs (seen_at_entry refused) ≡ 1 = refl in omega (arith, own)); refused = reads; failed = λ channel. refl }

pub refused_promises : Promises plain_manner refused
refused_promises = record { manner = refl; windowed = refl; answers = inl unopened; over_whole = λ whole. inl unopened }

-- ---- the host's calls

pub is_hosted : IsHosted refused refused_steps
is_hosted = (synced_log [] (settled (take 80 (manager_bytes 1))) (settled grain_bytes) 0 [] torn_before.input, refl)
