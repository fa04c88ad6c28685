-- What a run keeps of the promise that leaves the folder as it opened it, whatever its events are.
use Rattle.std.proofs.Common.{◌≡◌, inl, inr, ℕ, List, [], refl, sym, ◌∙◌, ap, subst}
use Rattle.std.proofs.lemmas.List.{append-nil}
use Rattle.core_model.specs.declared.events.CoreEvent.{CoreEvent}
use Rattle.core_model.specs.CoreState.{Member}
use Rattle.host_trait.specs.World.{Moment, Image, IsImage, moment_of}
use Rattle.host_trait.specs.declared.channels.FileId.TheVariants.{Grain}
use Rattle.field_codec.specs.declared.formats.Format.TheVariants.{Two}
use Rattle.promise_spec.specs.Prefixes.{IsPrefixOf}
use Rattle.promise_spec.proofs.Prefixes.{of_itself}
use Rattle.promise_spec.proofs.Standings.{grown_none}
use Rattle.promise_spec.specs.Entries.{Log, grown}
use Rattle.promise_spec.specs.Programs.{Program}
use Rattle.promise_spec.specs.Logs.{IsLog}
use Rattle.promise_spec.specs.Moments.{IsImageOf}
use Rattle.promise_spec.specs.Causes.{RunHasDoubt}
use Rattle.promise_spec.specs.Crashes.{LeavesAlone}
use Rattle.promise_spec.specs.Batches.{EndsABatch}
use Rattle.promise_spec.specs.Courses.{Observed, Course, moments, lines, core_run, core_end}
use Rattle.promise_spec.specs.Headline.{KeepsHeadline}
use Rattle.promise_spec.specs.Exits.{IsExit}
use Rattle.promise_spec.specs.Explanation.{ComeOfEvents, LeavesUnvoted}
use Rattle.promise_spec.proofs.Lists.{none_at}
use Rattle.promise_spec.proofs.WholeFolders.{whole_if}
use Rattle.promise_spec.proofs.OneLog.{one_log}
use Rattle.promise_laws.specs.Obligations.{SaysIn}
use Rattle.promise_examples.proofs.FirstFamily.{no_family}
use Rattle.promise_examples.proofs.WholeBatches.{no_batch}
use Rattle.promise_examples.specs.StillRuns.{IsStillRun, still_course}

module _ (p : Program) (r : Observed) (opening : Log) (run : IsStillRun p r opening) (allowed : ℕ) (events : List CoreEvent) where
  abbrev course : Course
  course = still_course r opening allowed events

  -- the two moments that count are the exit's
  at_exit : (image : Image) → IsImageOf (moments r course) image → IsImage r.new.disk image
  at_exit image is = elim is.member [
    | inl same ↦ subst (λ (m : Moment). IsImage m.disk image) same is.left
    | inr more ↦ elim more [
      | inl same ↦ subst (λ (m : Moment). IsImage m.disk image) same is.left
      | inr none ↦ absurd none
    ]
  ]

  whole : (image : Image) → IsImage r.new.disk image → IsLog 0 image (grown opening [])
  whole image is = subst (λ (l : Log). IsLog 0 image l) (sym (grown_none opening)) (run.logs image is)

  -- a log is a prefix of the same one
  first_of_both : (x y : Log) → x ≡ y → IsPrefixOf x y
  first_of_both x y same = subst (IsPrefixOf x) same (of_itself x)

  same_output : (m : Moment) → Member m (moments r course) → m.output ≡ r.old.output
  same_output m there = elim there [
    | inl same ↦ ap (λ (n : Moment). n.output) same ∙ run.output
    | inr more ↦ elim more [ inl same ↦ ap (λ (n : Moment). n.output) same ∙ run.output | inr none ↦ absurd none ]
  ]

  disk_of : (m : Moment) (image : Image) → Member m (moments r course) → IsImage m.disk image → IsImage r.new.disk image
  disk_of m image there left = at_exit image (record { moment = m; member = there; left = left })

  pub headline : KeepsHeadline p r course
  headline = record {
    ordered = record {
      in_force = run.in_force;
      read = run.read;
      opened = λ image is. record { entry = run.entry image is; log = run.logs image is };
      longest = record {
        image = run.some;
        left = record { moment = moment_of r.new; member = inl refl; left = run.possible };
        log = whole run.some run.possible;
        longest = λ other log is has. first_of_both log (grown opening []) (one_log has.0 Two has.1 0 other log (grown opening []) has.2 (whole other (at_exit other is)));
      };
      serial = tt;
    };
    replies = record {
      output = record { output = run.output ∙ sym (append-nil r.old.output); unended = tt; proper = tt };
      whole = λ other. refl;
      within = λ e none. absurd none;
      once = tt;
      true_each = λ e none. absurd none;
      in_order = λ i j m n d e a b at other. absurd (none_at i d at);
    };
    crashes = record {
      past = run.synced;
      quiet = λ m there. elim there [ inl same ↦ ap (λ (n : Moment). n.output) same ∙ run.output | inr none ↦ absurd none ];
      before = λ image is. elim is.member [ inl same ↦ run.entry image (subst (λ (m : Moment). IsImage m.disk image) same is.left) | inr none ↦ absurd none ];
      chain = λ one other a b x y has also. inl (first_of_both x y (one_log has.0 Two has.1 0 one x (grown opening []) has.2 (whole one (at_exit one a)) ∙ sym (one_log also.0 Two also.1 0 other y (grown opening []) also.2 (whole other (at_exit other b)))));
      whole = λ image is. whole_if image (run.sound image (at_exit image is));
      keeps = λ image is. record { more = []; is = whole image (at_exit image is); front = ([], refl) };
      alone = λ m there. elim there [
        | inl same ↦ subst (LeavesAlone 0 r) (sym same) run.alone
        | inr more ↦ elim more [ inl same ↦ subst (LeavesAlone 0 r) (sym same) run.alone | inr none ↦ absurd none ]
      ];
    };
    sound = λ folder image is. run.sound image (at_exit image is);
    holds = λ m image there left. record {
      written = [];
      rest = [];
      output = record { output = same_output m there ∙ sym (append-nil r.old.output); unended = tt; proper = tt };
      front = ([], refl);
      log = opening;
      is = run.logs image (disk_of m image there left);
      has = λ e l none. absurd none;
    };
  }

  -- no record comes of the events
  pub traced : ComeOfEvents p r course
  traced = record {
    family = no_family p.types (lines r) _ _ _;
    whole = λ image log is log_is. subst (EndsABatch (core_end p course) opening) (one_log Two Two 0 0 image opening log (run.logs image (at_exit image is)) log_is) (no_batch (core_end p course) opening);
  }

  -- no grain's file is written
  pub unvoted : LeavesUnvoted 0 p r course
  unvoted g m none there = elim there [
    | inl same ↦ ap (λ (n : Moment). n.disk (Grain 0 g)) same ∙ run.unwritten g
    | inr more ↦ elim more [ inl same ↦ ap (λ (n : Moment). n.disk (Grain 0 g)) same ∙ run.unwritten g | inr never ↦ absurd never ]
  ]

  -- and where the run has no doubt, each image at the exit has the log
  pub exit : (RunHasDoubt (core_run p course) → ⊥) → IsExit p r course
  exit no_doubt = record {
    logs = λ image is. record { log = grown opening []; is = whole image is; which = inl refl };
    doubt = λ one other a b is_one is_other log_a log_b differ. absurd (differ (one_log Two Two 0 0 one a (grown opening []) log_a (whole one is_one) ∙ sym (one_log Two Two 0 0 other b (grown opening []) log_b (whole other is_other))));
    nowhere = λ e none. absurd none;
    block = λ doubt. absurd (no_doubt doubt);
    behind = λ none. run.behind;
  }

  -- each image keeps an empty journal
  pub says : (m : Moment) → Member m (moments r course) → SaysIn p r course [] m
  says m there image left = (
    record {
      said = [];
      unsaid = [];
      later = [];
      rest = [];
      split = refl;
      log = whole image (disk_of m image there left);
      output = record { output = same_output m there ∙ sym (append-nil r.old.output); unended = tt; proper = tt };
    },
    ([], refl),
  )
