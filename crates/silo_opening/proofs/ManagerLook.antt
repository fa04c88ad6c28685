-- What looking at a manager file leaves as it was.
use Rattle.std.proofs.Common.{◌≡◌, inl, inr, ℕ, zero, suc, ◌≤◌, Bool, true, false, List, refl, sym, ◌∙◌, ap, subst, arith}
use Rattle.host_trait.specs.declared.channels.FileId.{FileId}
use Rattle.host_trait.specs.declared.channels.FileId.TheVariants.{Manager}
use Rattle.host_trait.specs.Disk.{FileState, MayLeave, settled, after_sync}
use Rattle.host_trait.specs.World.{World, Moment, Image, Disk, IsImage, Synced, moment_of}
use Rattle.host_trait.specs.Runs.{ChangesFile, RunsOnFile, OnlyAsked}
use Rattle.host_trait.proofs.Crashes.{settled_only}
use Rattle.host_trait.proofs.Moments.{one, both, weaker, same_moment}
use Rattle.host_trait.proofs.Names.{cases_file}
use Rattle.host_trait.proofs.Runs.{Change, asked_keeps}
use Rattle.silo_spec.specs.Silos.{manager, program_file}
use Rattle.silo_spec.specs.Moments.{IsAsAtEntry, IsUntouched}
use Rattle.silo_spec.specs.Creation.{IsLookedAt, IsBeside, StaysBeside}
use Rattle.silo_opening.specs.Steps.{IsLooking, OnlyLooks}

-- what a read gives is among what a crash may leave, of each file
abbrev pub SeenMayStay : World → Type 0
SeenMayStay w = (file : FileId) → MayLeave (w.disk file) (w.disk file).seen

looked_left : (old new : FileState) → MayLeave old old.seen → IsLookedAt old new → (c : List ℕ) → MayLeave new c → MayLeave old c
looked_left old new here (inl same) c left = subst (λ (s : FileState). MayLeave s c) same left
looked_left old new here (inr lasts) c left = subst (λ (bytes : List ℕ). MayLeave old bytes) (sym (settled_only old.seen c (subst (λ (s : FileState). MayLeave s c) lasts left))) here

looked_seen : (old new : FileState) → IsLookedAt old new → new.seen ≡ old.seen
looked_seen old new (inl same) = ap (λ (s : FileState). s.seen) same
looked_seen old new (inr lasts) = ap (λ (s : FileState). s.seen) lasts

-- looked at twice
pub looked_then : (old mid new : FileState) → IsLookedAt old mid → IsLookedAt mid new → IsLookedAt old new
looked_then old mid new (inl first) (inl second) = inl (second ∙ first)
looked_then old mid new (inr first) (inl second) = inr (second ∙ first)
looked_then old mid new (inl first) (inr second) = inr (second ∙ ap (λ (s : FileState). settled s.seen) first)
looked_then old mid new (inr first) (inr second) = inr (second ∙ ap (λ (s : FileState). settled s.seen) first)

-- ---- one file

module _ (slot : ℕ) where
  looking_image : (old : World) → SeenMayStay old → (m : Moment) → IsLooking slot old m → (image : Image) → IsImage m.disk image → IsImage old.disk image
  looking_image old here m looking image is file = elim (cases_file (Manager slot) file) [
    | inl same ↦ subst (λ (f : FileId). MayLeave (old.disk f) (image f)) same (looked_left (old.disk (Manager slot)) (m.disk (Manager slot)) (here (Manager slot)) looking.log (image (Manager slot)) (is (Manager slot)))
    | inr other ↦ subst (λ (s : FileState). MayLeave s (image file)) (looking.others file (λ e. other (sym e))) (is file)
  ]

  pub looking_same : (old : World) → SeenMayStay old → (m : Moment) → IsLooking slot old m → IsAsAtEntry old m
  looking_same old here m looking = record { quiet = looking.output; images = looking_image old here m looking }

  -- nothing was written
  pub looks_untouched : (old new : World) → SeenMayStay old → OnlyLooks slot old new → IsUntouched old new
  looks_untouched old new here looks = record {
    moments = weaker (IsLooking slot old) (IsAsAtEntry old) (looking_same old here) looks.moments;
    now = looking_same old here (moment_of new) looks.now;
    seen = λ file. elim (cases_file (Manager slot) file) [
      | inl same ↦ subst (λ (f : FileId). (new.disk f).seen ≡ (old.disk f).seen) same (looked_seen (old.disk (Manager slot)) (new.disk (Manager slot)) looks.now.log)
      | inr other ↦ ap (λ (s : FileState). s.seen) (looks.now.others file (λ e. other (sym e)))
    ];
  }

  own_looking : (old : World) → IsLooking slot old (moment_of old)
  own_looking old = record { output = refl; others = λ f other. refl; log = inl refl }

  -- calls that only asked
  pub asked_looks : (old new : World) → OnlyAsked old new → OnlyLooks slot old new
  asked_looks old new asked = record {
    input = asked.input;
    moments = asked_keeps (IsLooking slot old) old new asked (own_looking old);
    now = subst (λ (m : Moment). IsLooking slot old m) (sym (same_moment old new asked.output asked.disk)) (own_looking old);
  }

  pub looks_asked : (old mid new : World) → OnlyLooks slot old mid → OnlyAsked mid new → OnlyLooks slot old new
  looks_asked old mid new looks asked = record {
    input = asked.input ∙ looks.input;
    moments = both (IsLooking slot old) looks.moments (asked_keeps (IsLooking slot old) mid new asked looks.now);
    now = subst (λ (m : Moment). IsLooking slot old m) (sym (same_moment mid new asked.output asked.disk)) looks.now;
  }

  synced_log : (ok : Bool) (old mid new : FileState) → mid ≡ old → new ≡ after_sync ok mid → IsLookedAt old new
  synced_log true old mid new same synced = inr (synced ∙ ap (λ (s : FileState). settled s.seen) same)
  synced_log false old mid new same synced = inl (synced ∙ same)

  -- the moment of a sync behind them
  pub synced_looking : (old mid new : World) (ok : Bool) → OnlyAsked old mid → Synced (Manager slot) ok mid new → IsLooking slot old (moment_of new)
  synced_looking old mid new ok asked synced = record {
    output = synced.output ∙ asked.output;
    others = λ f other. synced.others f other ∙ ap (λ (d : Disk). d f) asked.disk;
    log = synced_log ok (old.disk (Manager slot)) (mid.disk (Manager slot)) (new.disk (Manager slot)) (ap (λ (d : Disk). d (Manager slot)) asked.disk) synced.state;
  }

  -- a sync of the manager file behind them
  pub looks_synced : (old mid new : World) (ok : Bool) → OnlyAsked old mid → Synced (Manager slot) ok mid new → OnlyLooks slot old new
  looks_synced old mid new ok asked synced =
      let here : IsLooking slot old (moment_of new) = synced_looking old mid new ok asked synced in
      record {
        input = synced.input ∙ asked.input;
        moments = both (IsLooking slot old) (asked_looks old mid asked).moments (one (IsLooking slot old) mid new synced.past here);
        now = here;
      }

-- ---- one after the other

entry_then : (old mid : World) → IsAsAtEntry old (moment_of mid) → (m : Moment) → IsAsAtEntry mid m → IsAsAtEntry old m
entry_then old mid first m second = record { quiet = second.quiet ∙ first.quiet; images = λ image is. first.images image (second.images image is) }

pub untouched_then : (old mid new : World) → IsUntouched old mid → IsUntouched mid new → IsUntouched old new
untouched_then old mid new first second = record {
  moments = both (IsAsAtEntry old) first.moments (weaker (IsAsAtEntry mid) (IsAsAtEntry old) (entry_then old mid first.now) second.moments);
  now = entry_then old mid first.now (moment_of new) second.now;
  seen = λ file. second.seen file ∙ first.seen file;
}

-- ---- the other files

looking_beside : (slot : ℕ) → slot ≤ 1 → (old : World) (m : Moment) → IsLooking slot old m → IsBeside old m
looking_beside zero low old m looking = record { output = looking.output; other = inl (looking.others (Manager 1) (λ e. absurd cc)); others = λ file first other apart. looking.others file first }
looking_beside (suc zero) low old m looking = record { output = looking.output; other = looking.log; others = λ file first other apart. looking.others file other }
looking_beside (suc (suc n)) low old m looking = absurd (omega (arith, low))

pub looks_beside : (slot : ℕ) → slot ≤ 1 → (old new : World) → OnlyLooks slot old new → StaysBeside old new
looks_beside slot low old new looks = record {
  input = looks.input;
  moments = weaker (IsLooking slot old) (IsBeside old) (looking_beside slot low old) looks.moments;
  now = looking_beside slot low old (moment_of new) looks.now;
}

log_beside : (R : Change) (old : World) (m : Moment) → ChangesFile manager R old m → IsBeside old m
log_beside R old m changes = record { output = changes.output; other = inl (changes.others (Manager 1) (λ e. absurd cc)); others = λ file first other apart. changes.others file first }

program_beside : (R : Change) (old : World) (m : Moment) → ChangesFile program_file R old m → IsBeside old m
program_beside R old m changes = record { output = changes.output; other = inl (changes.others (Manager 1) (λ e. absurd cc)); others = λ file first other apart. changes.others file apart }

-- runs on the two files
pub log_run_beside : (R : Change) (most : ℕ) (old new : World) → RunsOnFile manager R most old new → StaysBeside old new
log_run_beside R most old new run = record {
  input = run.input;
  moments = weaker (ChangesFile manager R old) (IsBeside old) (log_beside R old) run.moments;
  now = log_beside R old (moment_of new) run.now;
}

pub program_run_beside : (R : Change) (most : ℕ) (old new : World) → RunsOnFile program_file R most old new → StaysBeside old new
program_run_beside R most old new run = record {
  input = run.input;
  moments = weaker (ChangesFile program_file R old) (IsBeside old) (program_beside R old) run.moments;
  now = program_beside R old (moment_of new) run.now;
}

beside_from : (old mid : World) → IsBeside old (moment_of mid) → (m : Moment) → IsBeside mid m → IsBeside old m
beside_from old mid first m second = record {
  output = second.output ∙ first.output;
  other = looked_then (old.disk (Manager 1)) (mid.disk (Manager 1)) (m.disk (Manager 1)) first.other second.other;
  others = λ file a b apart. second.others file a b apart ∙ first.others file a b apart;
}

-- one behind another
pub beside_then : (old mid new : World) → StaysBeside old mid → StaysBeside mid new → StaysBeside old new
beside_then old mid new first second = record {
  input = second.input ∙ first.input;
  moments = both (IsBeside old) first.moments (weaker (IsBeside mid) (IsBeside old) (beside_from old mid first.now) second.moments);
  now = beside_from old mid first.now (moment_of new) second.now;
}
