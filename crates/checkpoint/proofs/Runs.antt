-- What calls on one file's bytes add to a run on it.
use Rattle.std.proofs.Common.{◌≡◌, ℕ, ◌≤◌, List, take, sym, ◌∙◌, ap, subst, arith}
use Rattle.std.proofs.lemmas.List.{take-take}
use Rattle.host_trait.specs.declared.channels.FileId.{FileId}
use Rattle.host_trait.specs.Disk.{Tears}
use Rattle.host_trait.specs.World.{World, Moment, Disk, Asked, moment_of}
use Rattle.host_trait.specs.Runs.{ChangesFile, RunsOnFile, OnlyAsked}
use Rattle.host_trait.proofs.Moments.{weaker, same_moment}
use Rattle.host_trait.proofs.Runs.{Change, none_changed, run_more_syncs, none_asked, once_asked, arrives_asked}
use Rattle.checkpoint.specs.Steps.{KeepsGate}

-- calls that only asked
pub only_run : (file : FileId) (R : Change) (old new : World) → ((d : List ℕ) → R d d) → OnlyAsked old new → RunsOnFile file R 0 old new
only_run file R old new same asked =
    let is : moment_of new ≡ moment_of old = same_moment old new asked.output asked.disk in
    record {
      input = asked.input;
      counted = omega (arith, asked.syncs);
      syncs = omega (arith, asked.syncs);
      seen = subst (λ (d : Disk). R (old.disk file).seen (d file).seen) (sym asked.disk) (same (old.disk file).seen);
      now = subst (λ (m : Moment). ChangesFile file R old m) (sym is) (none_changed file R old same);
      moments = weaker _ _ (λ m e. subst (λ (x : Moment). ChangesFile file R old x) (sym e) (none_changed file R old same)) asked.moments;
      clock = arrives_asked old new asked;
    }

-- at most so many syncs, none in fact
pub looked : (file : FileId) (R : Change) (most : ℕ) (old new : World) → ((d : List ℕ) → R d d) → OnlyAsked old new → RunsOnFile file R most old new
looked file R most old new same asked = run_more_syncs file R 0 most old new (omega arith) (only_run file R old new same asked)

-- one call that asked
pub asked_once : (old new : World) → Asked old new → OnlyAsked old new
asked_once old new asked = once_asked old old new (none_asked old) asked

-- what is torn behind byte 0 leaves that byte
pub gate_stays : (at n : ℕ) (old new : List ℕ) → 1 ≤ at → Tears at n old new → KeepsGate old new
gate_stays at n old new low tears = sym (take-take 1 at new low) ∙ ap (λ (l : List ℕ). take 1 l) tears.before ∙ take-take 1 at old low
