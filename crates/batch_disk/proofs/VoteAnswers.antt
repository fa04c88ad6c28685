-- What a vote leaves, by its answer.
use Rattle.std.proofs.Common.{◌≡◌, ℕ, ◌+◌, ◌<◌, ◌^◌, Bool, true, false, List, [], length, refl, sym, ◌∙◌, append-nil}
use Rattle.std.specs.Prelude.{IsTrue}
use Rattle.std.specs.List.{AllByRecursion}
use Rattle.base_types.specs.declared.calls.GrainId.{GrainId}
use Rattle.base_types.specs.declared.stores.Version.{Version}
use Rattle.host_trait.specs.declared.channels.Channel.{Channel}
use Rattle.host_trait.specs.declared.channels.Channel.TheVariants.{File}
use Rattle.host_trait.specs.declared.channels.FileId.TheVariants.{Grain}
use Rattle.host_trait.specs.Disk.{Tears}
use Rattle.host_trait.specs.Faults.{NoneFailed, FailedOn}
use Rattle.host_trait.specs.World.{World}
use Rattle.host_trait.specs.Runs.{RunsOnFile}
use Rattle.field_codec.specs.declared.formats.Format.TheVariants.{Two}
use Rattle.field_codec.specs.Spelling.{VersionFits}
use Rattle.grain_log.specs.Places.{spelling_of_versions, WroteVersions}
use Rattle.batch_disk.specs.ImagesAtRest.{voted_from}
use Rattle.batch_disk.specs.Writers.{file_end, kept_of, voted_of, HasSameEnds}
use Rattle.batch_disk.specs.VoteAnswers.{KeepsImages, VotesOn, LacksRoom}
use Rattle.batch_disk.specs.declared.writer.BatchWriter.{BatchWriter}
use Rattle.batch_disk.proofs.WriterState.{IsReadyFor, KeepsMore, voted_is, keeps_no, keeps_yes, vote_keeps_log}
use Rattle.batch_disk.proofs.StandingPlaces.{places_with, voted_stands}

module _ {H : Type 0} (tells : Bool) (world : H → World) (faults : H → Channel → ℕ) (n : ℕ) (g : GrainId) (versions : List Version) (a b : BatchWriter) (old new : H)
    (run : IsTrue tells → RunsOnFile (Grain a.slot g) (Tears (file_end a g) (length (spelling_of_versions versions))) 1 (world old) (world new)) where
  -- no version more is kept: images keep what they had
  images_no : HasSameEnds a b → kept_of b ≡ voted_of n a → IsTrue tells → KeepsImages a.slot n g versions a b (world old) (world new)
  images_no same kept told = record {
    still = λ shape head log bodies fresh keeps. vote_keeps_log a.slot shape head log bodies a n g (length (spelling_of_versions versions)) (world old) (world new) fresh keeps (run told);
    keeps = λ shape head log bodies fresh typed keeps. keeps_no a.slot shape head log bodies a n g (length (spelling_of_versions versions)) (world old) (world new) fresh keeps (run told) b same kept;
    placed = λ shape fresh typed stand.
        places_with a.slot g (file_end a g) (length (spelling_of_versions versions)) 1 (world old) (world new) (run told) shape a b n [] refl same (kept ∙ sym (append-nil (voted_of n a))) fresh tt stand;
  }

  -- a vote of no
  pub votes_no : IsReadyFor n a b → FailedOn (File (Grain a.slot g)) (faults old) (faults new) → VotesOn tells world faults a.slot n g false versions a b old new
  votes_no ready fault = record {
    cause = fault;
    run = run;
    there = λ told is. absurd (cc is);
    kept = voted_is b n ready.goes_to ∙ ready.kept;
    batch = ready.goes_to;
    same = ready.same;
    images = images_no ready.same ready.kept;
  }

  -- none, for want of memory
  pub lacks_room : IsReadyFor n a b → NoneFailed (faults old) (faults new) → (IsTrue tells → world new ≡ world old) → LacksRoom tells world faults a.slot n g versions a b old new
  lacks_room ready calm same = record {
    calm = calm;
    world_is = same;
    kept = voted_is b n ready.goes_to ∙ ready.kept;
    batch = ready.goes_to;
    same = ready.same;
    images = images_no ready.same ready.kept;
  }

  -- a vote of yes
  pub votes_yes : KeepsMore n g (file_end a g) versions a b → NoneFailed (faults old) (faults new) → (IsTrue tells → WroteVersions (Grain a.slot g) (file_end a g) versions (world old) (world new))
      → AllByRecursion (VersionFits Two) versions
      → file_end a g + length (spelling_of_versions versions) < 2 ^ 63 → VotesOn tells world faults a.slot n g true versions a b old new
  votes_yes more calm there fits low = record {
    cause = calm;
    run = run;
    there = λ told is. there told;
    kept = voted_is b n more.goes_to ∙ more.kept;
    batch = more.goes_to;
    same = more.same;
    images = λ told. record {
      still = λ shape head log bodies fresh keeps. vote_keeps_log a.slot shape head log bodies a n g (length (spelling_of_versions versions)) (world old) (world new) fresh keeps (run told);
      keeps = λ shape head log bodies fresh typed keeps. keeps_yes a.slot shape head log bodies a n g versions (world old) (world new) fresh keeps (run told) b more.same more.kept (there told).stand typed fits low;
      placed = λ shape fresh typed stand.
          places_with a.slot g (file_end a g) (length (spelling_of_versions versions)) 1 (world old) (world new) (run told) shape a b n (voted_from g (file_end a g) versions) refl more.same more.kept fresh
          (voted_stands a.slot shape g (file_end a g) versions (world old) (world new) (there told) typed fits low) stand;
    };
  }
