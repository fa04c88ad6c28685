-- What the images keep where the turns of a run begin, over a folder whose images have the opening log.
use Rattle.std.proofs.Common.{◌≡◌, inl, ℕ, ◌<◌, List, [], refl, sym, ◌∙◌, ap, subst}
use Rattle.std.specs.Prelude.{false, take}
use Rattle.host_trait.specs.declared.channels.FileId.TheVariants.{Manager}
use Rattle.host_trait.specs.World.{World, Moment, Disk, Image, IsImage, moment_of}
use Rattle.host_trait.proofs.Moments.{weaker}
use Rattle.core_model.specs.CoreState.{GrainId, Value}
use Rattle.core_model.specs.LegalRuns.{ends}
use Rattle.promise_spec.specs.Logs.{IsLog}
use Rattle.promise_spec.specs.Entries.{Log, grown}
use Rattle.promise_spec.proofs.Standings.{grown_none}
use Rattle.promise_spec.specs.Batches.{EndsABatch}
use Rattle.promise_spec.specs.Journals.{AllLog, Seals, IsSealing, CutAt}
use Rattle.promise_laws.proofs.JournalSteps.{begins_at, stays_on, whole_cut}
use Rattle.promise_laws.specs.Closings.{AllEnd}
use Rattle.promise_laws.proofs.BatchEnds.{records-end}
use Rattle.promise_laws.proofs.KeptRuns.{logged_ends}
use Rattle.batch_disk.specs.ImagesAtRest.{EachImage}
use Rattle.batch_disk.specs.declared.writer.BatchWriter.{BatchWriter}
use Rattle.run_books.specs.Beginnings.{Outset, basis_of}
use Rattle.run_books.specs.Images.{LeavesAside, KeepsFolder, LastsSo}
use Rattle.input_windows.specs.Pulls.{PulledOnly}
use Rattle.silo_top.proofs.TurnStart.{start_run, no_books, none_applies}

module _ (o : Outset) (head : List ℕ) (base kinds : ℕ) (opening : GrainId → List Value) (writer : BatchWriter) (now : World) (pulled : PulledOnly o.world now) (all : AllLog o.live o.opening o.world.disk) where
  seals : Seals o.live (grown o.opening []) [] o.world now
  seals = record {
    moments = weaker (λ (x : Moment). x ≡ moment_of o.world) (IsSealing o.live (grown o.opening []) [] o.world) at pulled.moments;
    output = pulled.output;
    log = λ image left. subst (λ (l : Log). IsLog o.live image l) (sym (grown_none (grown o.opening []) ∙ grown_none o.opening))
        (all image (subst (λ (d : Disk). IsImage d image) pulled.disk left));
  }
    where
      at : (x : Moment) → x ≡ moment_of o.world → IsSealing o.live (grown o.opening []) [] o.world x
      at x e = record {
        output = ap (λ (y : Moment). y.output) e;
        log = λ image left. inl (subst (λ (l : Log). IsLog o.live image l) (sym (grown_none o.opening)) (all image (subst (λ (y : Moment). IsImage y.disk image) e left)));
      }

  cut : CutAt o.live o.program o.opening o.world [] [] [] [] now
  cut = whole_cut o.live o.program o.opening o.world [] [] now (stays_on o.live o.program o.opening o.world [] [] o.world now tt (begins_at o.live o.program o.opening o.world o.world refl refl all) seals)

  ends_batch : 0 < base → EndsABatch (ends (start_run base kinds opening)) o.opening o.opening
  ends_batch above = subst (EndsABatch (ends (start_run base kinds opening)) o.opening) (grown_none o.opening)
      (records-end (basis_of o) (start_run base kinds opening) o.opening [] above (λ at e a. absurd (none_applies base kinds opening at e a)) (inl tt))

  batch_at : 0 < base → (x : Moment) → x ≡ moment_of o.world → AllEnd o.live (ends (start_run base kinds opening)) o.opening x
  batch_at above x e = logged_ends o.live (ends (start_run base kinds opening)) o.opening o.opening x (subst (λ (y : Moment). AllLog o.live o.opening y.disk) (sym e) all) (ends_batch above)

  aside_at : EachImage (λ (image : Image). take 15 (image (Manager o.live)) ≡ head) o.world.disk → (x : Moment) → x ≡ moment_of o.world → LeavesAside o.live head o.world x
  aside_at header x e = record {
    aside = λ file aside. ap (λ (y : Moment). y.disk file) e;
    header = λ image left. header image (subst (λ (y : Moment). IsImage y.disk image) e left);
  }

  now_is : moment_of now ≡ moment_of o.world
  now_is = λ i. record { output = pulled.output i; disk = pulled.disk i }

  -- what lasts holds, where the writer keeps the folder's log
  pub starts_lasting : 0 < base → EachImage (λ (image : Image). take 15 (image (Manager o.live)) ≡ head) o.world.disk
      → (writer.in_doubt ≡ false → KeepsFolder o head no_books (start_run base kinds opening) writer now.disk) → LastsSo o head no_books (start_run base kinds opening) writer now
  starts_lasting above header folder = record {
    journal = cut;
    backs = λ e l s front back q es la ack. absurd la;
    batches = weaker (λ (x : Moment). x ≡ moment_of o.world) (AllEnd o.live (ends (start_run base kinds opening)) o.opening) (batch_at above) pulled.moments;
    batches_now = batch_at above (moment_of now) now_is;
    alone = weaker (λ (x : Moment). x ≡ moment_of o.world) (LeavesAside o.live head o.world) (aside_at header) pulled.moments;
    alone_now = aside_at header (moment_of now) now_is;
    some = λ none. absurd (none refl);
    block = λ d. absurd (none_applies base kinds opening d.at _ d.doubt);
    folder = folder;
  }
