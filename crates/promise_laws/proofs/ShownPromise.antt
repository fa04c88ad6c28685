-- What a run shows is enough for what is promised of it over any folder.
use Rattle.std.proofs.Common.{◌≡◌, inr, true, sym, subst}
use Rattle.field_codec.specs.declared.formats.Format.TheVariants.{Two}
use Rattle.promise_spec.specs.Programs.{Program}
use Rattle.promise_spec.specs.Words.{Manner}
use Rattle.promise_spec.specs.Openings.{Reads, opened_as}
use Rattle.promise_spec.specs.Courses.{Observed, Course, seen_at_entry}
use Rattle.promise_spec.specs.Promise.{Keeps, KeepsAnywhere, Promises}
use Rattle.promise_spec.proofs.OpenedRuns.{kept_anywhere}
use Rattle.promise_spec.proofs.Openings.{log_is_read}
use Rattle.promise_laws.specs.Obligations.{Shows}
use Rattle.promise_laws.proofs.ShownRuns.{shown}

module _ (p : Program) (r : Observed) (c : Course) (s : Shows p r c) where
  -- the files read as the log that it opened
  reads : opened_as (seen_at_entry r) ≡ Reads c.live c.opening
  reads = log_is_read Two (seen_at_entry r) c.live c.opening s.opens.read

  pub promised : (m : Manner) → r.manner ≡ m → r.windowed ≡ true → Promises m r
  promised m is windowed =
      let keeps : Keeps p r c = shown p r c s in
      record {
        manner = is;
        windowed = windowed;
        answers = inr (c, subst (λ (q : Program). KeepsAnywhere q r c) (sym s.in_force) (kept_anywhere p r c keeps reads));
        over_whole = λ folder. inr (c, subst (λ (q : Program). Keeps q r c) (sym s.in_force) keeps);
      }
