-- What a vote and a seal are to the journal of a run.
use Rattle.std.proofs.Common.{◌≡◌, ◌⊎◌, inl, inr, ℕ, List, [], ◌∷◌, sym, ◌∙◌, subst, append-nil}
use Rattle.host_trait.specs.World.{World, Moment, Passes}
use Rattle.host_trait.proofs.Moments.{weaker}
use Rattle.promise_spec.specs.Records.{Commit}
use Rattle.promise_spec.specs.Entries.{Log, grown}
use Rattle.promise_spec.specs.Logs.{IsLog}
use Rattle.promise_spec.specs.Journals.{Settlement, IsSealing, Seals, Doubts, commits_of}
use Rattle.promise_spec.proofs.Standings.{grown_none}
use Rattle.batch_disk.specs.ImagesAtRest.{EachImage, SomeImage}
use Rattle.batch_disk.specs.Moments.{KeepsLog, IsSeam}
use Rattle.batch_disk.specs.Seals.{NoneHas}

module _ (live : ℕ) (head : List ℕ) (log : Log) (old new : World) (quiet : new.output ≡ old.output) where
  -- no image has more at any moment, or now
  pub as_it_was : Passes (KeepsLog live head log old) old.past new.past → EachImage (λ image. IsLog live image log) new.disk → Seals live log [] old new
  as_it_was moments logs = record {
    moments = weaker (KeepsLog live head log old) (IsSealing live log [] old) (λ m keeps. record { output = keeps.rest.output; log = λ image left. inl (keeps.logs image left) }) moments;
    output = quiet;
    log = λ image left. subst (IsLog live image) (sym (grown_none log)) (logs image left);
  }

  -- at each moment an image has the batch or hasn't
  sealing : (batch : List Commit) (settled : List Settlement) → commits_of settled ≡ batch → (m : Moment) → IsSeam live head log batch old m → IsSealing live log settled old m
  sealing batch settled is m seam = record {
    output = seam.rest.output;
    log = λ image left. elim (seam.logs image left) [
      | inl was ↦ inl was
      | inr has ↦ inr (subst (λ (l : List Commit). IsLog live image (grown log l)) (sym is) has)
    ];
  }

  pub seals_on : (batch : List Commit) (settled : List Settlement) → commits_of settled ≡ batch → Passes (IsSeam live head log batch old) old.past new.past
      → EachImage (λ image. IsLog live image (grown log batch)) new.disk → Seals live log settled old new
  seals_on batch settled is moments logs = record {
    moments = weaker (IsSeam live head log batch old) (IsSealing live log settled old) (sealing batch settled is) moments;
    output = quiet;
    log = λ image left. subst (λ (l : List Commit). IsLog live image (grown log l)) (sym is) (logs image left);
  }

  pub doubts_on : (batch : List Commit) (settled : Settlement) → settled.commits ≡ batch → Passes (IsSeam live head log batch old) old.past new.past
      → EachImage (λ image. IsLog live image log ⊎ IsLog live image (grown log batch)) new.disk → Doubts live log settled old new
  doubts_on batch settled is moments logs =
      let all : commits_of (settled ∷ []) ≡ batch = append-nil settled.commits ∙ is in
      record {
        moments = weaker (IsSeam live head log batch old) (IsSealing live log (settled ∷ []) old) (sealing batch (settled ∷ []) all) moments;
        output = quiet;
        log = λ image left. elim (logs image left) [
          | inl was ↦ inl was
          | inr has ↦ inr (subst (λ (l : List Commit). IsLog live image (grown log l)) (sym all) has)
        ];
      }

  -- which of the two a doubt is
  pub doubt_on : (batch : List Commit) (settled : Settlement) → settled.commits ≡ batch → Passes (IsSeam live head log batch old) old.past new.past
      → EachImage (λ image. IsLog live image log ⊎ IsLog live image (grown log batch)) new.disk
      → {A B : Type 0} → (A × NoneHas live head log old new) ⊎ (B × SomeImage (λ image. IsLog live image (grown log batch)) new.disk)
      → (A × Seals live log [] old new) ⊎ (B × (Doubts live log settled old new × SomeImage (λ image. IsLog live image (grown log batch)) new.disk))
  doubt_on batch settled is moments logs (inl none) = inl (none.0, as_it_was none.1.moments none.1.logs)
  doubt_on batch settled is moments logs (inr some) = inr (some.0, (doubts_on batch settled is moments logs, some.1))
