-- Calls that change files of the other slot's grains alone, one behind the other.
use Rattle.std.proofs.Common.{◌≡◌, ◌≢◌, ℕ, ◌-◌, ◌≤◌, refl, ◌∙◌, ap, arith}
use Rattle.base_types.specs.declared.calls.GrainId.{GrainId}
use Rattle.host_trait.specs.declared.channels.FileId.TheVariants.{Grain}
use Rattle.host_trait.specs.Files.{slot_of}
use Rattle.host_trait.specs.World.{World, Moment, moment_of}
use Rattle.host_trait.specs.Runs.{ChangesFile, RunsOnFile}
use Rattle.host_trait.proofs.Moments.{started, both, weaker, arrived, arrives_then}
use Rattle.host_trait.proofs.Runs.{Change}
use Rattle.checkpoint.specs.Steps.{IsInCopying, OnlyCopies}

pub none_copied : (slot : ℕ) (w : World) → OnlyCopies slot w w
none_copied slot w = record {
  input = refl;
  now = record { output = refl; others = λ file none. refl };
  moments = started _ w.past;
  clock = arrived w;
}

-- one grain's file more
pub copied_on : (slot : ℕ) (grain : GrainId) (R : Change) (most : ℕ) (old mid new : World) → OnlyCopies slot old mid → RunsOnFile (Grain slot grain) R most mid new → OnlyCopies slot old new
copied_on slot grain R most old mid new so_far run = record {
  input = run.input ∙ so_far.input;
  now = go (moment_of new) run.now;
  moments = both _ so_far.moments (weaker _ _ go run.moments);
  clock = arrives_then old mid new so_far.clock run.clock;
}
  where
    go : (m : Moment) → ChangesFile (Grain slot grain) R mid m → IsInCopying slot old m
    go m changes = record {
      output = changes.output ∙ so_far.now.output;
      others = λ file none. changes.others file (none grain) ∙ so_far.now.others file none;
    }

-- files of the live slot are none of these
pub apart_slots : (live : ℕ) → live ≤ 1 → (grain other : GrainId) → Grain live grain ≢ Grain (1 - live) other
apart_slots live low grain other same = (let slots : live ≡ 1 - live = ap slot_of same in omega (arith, low, slots))

pub live_stays : (live : ℕ) (old new : World) → live ≤ 1 → OnlyCopies (1 - live) old new → (grain : GrainId) → new.disk (Grain live grain) ≡ old.disk (Grain live grain)
live_stays live old new low only grain = only.now.others (Grain live grain) (apart_slots live low grain)
