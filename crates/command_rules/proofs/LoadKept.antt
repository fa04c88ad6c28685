-- A load that shows what it has to keeps its promise.
use Rattle.std.proofs.Common.{◌≡◌, ◌≢◌, inl, inr, ℕ, List, [], ◌∷◌, refl, ap, ◌∙◌, subst, arith}
use Rattle.base_types.specs.declared.entries.Entry.{Entry}
use Rattle.core_model.specs.CoreState.{Member}
use Rattle.host_trait.specs.declared.channels.Channel.{Channel}
use Rattle.host_trait.specs.declared.channels.Channel.TheVariants.{Output, File}
use Rattle.host_trait.specs.Faults.{Rose}
use Rattle.host_trait.specs.World.{World, Disk, Moment, Image, IsImage, moment_of, last_of}
use Rattle.promise_spec.specs.Programs.{Program}
use Rattle.promise_spec.specs.Logs.{IsLog}
use Rattle.promise_spec.specs.Causes.{NoneRose}
use Rattle.promise_spec.specs.Endings as ending
use Rattle.promise_spec.specs.Endings.{Ending, HasRisen, IsLoadCarried, IsCalm}
use Rattle.promise_spec.specs.Courses.{Observed, Course, order, moments, core_end}
use Rattle.promise_spec.specs.Loads.{HasLoaded, KeepsLoad}
use Rattle.promise_laws.proofs.CalmRuns.{calm_undisturbed}
use Rattle.promise_laws.proofs.SingleRuns.{single_unlocked}
use Rattle.command_rules.specs.LoadObligations.{ShowsLoad}
use Rattle.command_rules.proofs.LoadImages.{based, is, part_of, ordered, crashes, sound, records, exit, whole_order}

-- the last of some moments that wrote nothing hasn't either
last_quiet : (output : List ℕ) (before : Moment) (early : List Moment) → before.output ≡ output → ((m : Moment) → Member m early → m.output ≡ output) → (last_of before early).output ≡ output
last_quiet output before [] same quiet = same
last_quiet output before (x ∷ early) same quiet = last_quiet output x early (quiet x (inl refl)) (λ m there. quiet m (inr there))

-- where no count rose, no fault ended it
calm_by : (old new : Channel → ℕ) (e : Ending) → NoneRose old new → IsLoadCarried e → HasRisen e old new → IsCalm e
calm_by old new e none begun risen = go e begun risen
  where
    rose : (channel : Channel) → Rose (old channel) (new channel) → ⊥
    rose channel more = (let k = none channel in absurd (omega (arith, more, k.0, k.1)))

    go : (x : Ending) → IsLoadCarried x → HasRisen x old new → IsCalm x
    go ending.Done b q = tt
    go ending.BadUse b q = absurd b
    go ending.Memory b q = tt
    go ending.ReadFault b q = absurd b
    go ending.WriteFault b q = absurd (rose Output q)
    go (ending.DiskFault file) b q = absurd (rose (File file) q)
    go ending.NotASilo b q = absurd b
    go ending.AlreadyASilo b q = absurd b
    go (ending.Damaged file place) b q = absurd b
    go (ending.BadProgram fault) b q = absurd b
    go ending.LastGeneration b q = absurd b
    go (ending.UpgradeRefused at) b q = absurd b
    go ending.OldFormat b q = absurd b
    go ending.NotOld b q = absurd b
    go (ending.InputTooLong line) b q = absurd b

module _ (p : Program) (n seed : ℕ) (r : Observed) (c : Course) (mid : World) (counts : Channel → ℕ) (turns_end : Ending) (turns told : List Moment) (s : ShowsLoad p n seed r c mid counts turns_end turns told) where
  -- nothing is printed before all lasts
  lasting : (m : Moment) (image : Image) → Member m (moments r c) → IsImage m.disk image → m.output ≢ r.old.output → IsLog c.live image (order c)
  lasting m image there left printed = elim (part_of p n seed r c mid counts turns_end turns told s m there) [
    | inl first ↦ absurd (printed (ap (λ (x : Moment). x.output) first ∙ last_quiet r.old.output (moment_of r.old) c.early refl s.lasts.opens.quiet))
    | inr (inl y) ↦ absurd (printed (s.hushed m y))
    | inr (inr (inl y)) ↦ behind (s.left m y) (λ none. absurd (subst (Member m) none y))
    | inr (inr (inr y)) ↦ behind (ap (λ (x : Moment). x.disk) y ∙ s.disk) (λ none. y)
  ]
    where
      behind : m.disk ≡ mid.disk → (told ≡ [] → m ≡ moment_of r.new) → IsLog c.live image (order c)
      behind same now = elim s.printed [
        | inl none ↦ absurd (printed (ap (λ (x : Moment). x.output) (now none.0) ∙ none.1))
        | inr sure ↦ whole_order p n seed r c mid counts turns_end turns told s sure image (subst (λ (d : Disk). IsImage d image) same left)
      ]

  settled_entry : (e : Entry) → Member e c.entries → Member e (core_end p c).manager.settled
  settled_entry e m = subst (Member e) s.settled m

  ended : HasLoaded p r c
  ended = record {
    unread = s.unread;
    carried = s.carried;
    allowed = s.allowed;
    risen = s.risen;
    done = s.done;
    undoubted = s.undoubted;
    complete = λ none. record {
      calm = calm_by r.faults_before r.faults_after r.ending none s.carried s.risen;
      undisturbed = λ e m. calm_undisturbed p r c (based p n seed r c mid counts turns_end turns told s) (is p n seed r c mid counts turns_end turns told s) none e (settled_entry e m);
    };
    alone = λ unthreaded one childless e m. single_unlocked p r c (based p n seed r c mid counts turns_end turns told s) (is p n seed r c mid counts turns_end turns told s) unthreaded one childless e (settled_entry e m);
    syncs = s.syncs;
    most = s.most;
  }

  pub kept_load : KeepsLoad p n seed r c
  kept_load = record {
    asked = s.asked;
    ordered = ordered p n seed r c mid counts turns_end turns told s;
    crashes = crashes p n seed r c mid counts turns_end turns told s;
    sound = sound p n seed r c mid counts turns_end turns told s;
    traced = records p n seed r c mid counts turns_end turns told s;
    exit = exit p n seed r c mid counts turns_end turns told s;
    settled = s.settled;
    explained = is p n seed r c mid counts turns_end turns told s;
    output = s.output;
    lasting = lasting;
    silent = s.silent;
    ended = ended;
  }
