-- Input that is pulled piece by piece, while nothing else changes.
use Rattle.std.proofs.Common.{◌≡◌, ℕ, List, [], ◌∙◌, refl, sym, append-nil}
use Rattle.host_trait.specs.World.{World, Asked, Pulled, moment_of}
use Rattle.host_trait.proofs.Moments.{both, one, weaker, same_moment}
use Rattle.input_windows.specs.Pulls.{PulledOnly}

-- before the first pull
pub still_none : (w : World) → PulledOnly w w
still_none w = record {
  output = refl;
  disk = refl;
  syncs = refl;
  moments = record { more = []; past = sym (append-nil w.past); each = tt };
}

-- two runs of pulls, one after the other
pub still_then : (old now next : World) → PulledOnly old now → PulledOnly now next → PulledOnly old next
still_then old now next first second = record {
  output = second.output ∙ first.output;
  disk = second.disk ∙ first.disk;
  syncs = second.syncs ∙ first.syncs;
  moments = both _ first.moments (weaker (λ m. m ≡ moment_of now) (λ m. m ≡ moment_of old) (λ m is. is ∙ same_moment old now first.output first.disk) second.moments);
}

-- one pull, and one that failed
pub still_pulled : {n : ℕ} {into : List ℕ} (old new : World) → Pulled n into old new → PulledOnly old new
still_pulled old new pulled = record {
  output = pulled.output;
  disk = pulled.disk;
  syncs = pulled.syncs;
  moments = one _ old new pulled.past (same_moment old new pulled.output pulled.disk);
}

pub still_asked : (old new : World) → Asked old new → PulledOnly old new
still_asked old new asked = record {
  output = asked.output;
  disk = asked.disk;
  syncs = asked.syncs;
  moments = one _ old new asked.past (same_moment old new asked.output asked.disk);
}
