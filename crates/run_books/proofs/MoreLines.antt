-- The record of a run, and what its images keep, over more lines than were asked so far.
use Rattle.std.proofs.Common.{◌≡◌, ◌≤◌, ◌++◌, ℕ, Bool, true, List, length}
use Rattle.host_trait.specs.World.{World, Disk}
use Rattle.host_trait.specs.declared.channels.Channel.{Channel}
use Rattle.core_model.specs.LegalRuns.{Run, ends}
use Rattle.batch_disk.specs.declared.writer.BatchWriter.{BatchWriter}
use Rattle.promise_spec.specs.TurnRule.{KeepsTurnRule, at_seam}
use Rattle.promise_spec.specs.UnitRule.{KeepsUnitRule}
use Rattle.promise_laws.proofs.WindowSeams.{few-lines, turns-on, units-on}
use Rattle.run_books.specs.Beginnings.{Outset, basis_of, with_more}
use Rattle.run_books.specs.Books.{Books}
use Rattle.run_books.specs.Images.{KeepsFolder, LastsSo}
use Rattle.run_books.specs.Records.{ShowsOutside, KeepsBooks, KeepsRecord}
use Rattle.run_books.specs.Stages.{Stage}

-- no more lines have begun than are asked
pub begun-lines : (o : Outset) (r : Run) → KeepsUnitRule (basis_of o) r → (ends r).units.lines ≤ length o.asked
begun-lines o r units = few-lines (basis_of o) r units

module _ (o : Outset) (more : List (List ℕ)) where
  -- the turn rule of whole windows is that of these and more
  pub rule-more : (r : Run) → KeepsUnitRule (basis_of o) r → at_seam o.windowed (length o.asked) ≡ true → KeepsTurnRule o.program.types o.windowed (length o.asked) o.width o.picks r
      → KeepsTurnRule o.program.types o.windowed (length (o.asked ++ more)) o.width o.picks r
  rule-more r units seam turns = turns-on (basis_of o) more o.windowed o.width o.picks r units seam turns

  -- what is shown outside
  outside-more : (b : Books) (r : Run) (counts : Channel → ℕ) (now : World) → ShowsOutside o b r counts now → ShowsOutside (with_more o more) b r counts now
  outside-more b r counts now shown = record {
    output = shown.output;
    calls = record { each = shown.calls.each; most = shown.calls.most; unvoted = shown.calls.unvoted };
  }

  -- the books
  pub books-more : (tells : Bool) (b : Books) (s : Stage) → KeepsBooks tells o b s → KeepsBooks tells (with_more o more) b s
  books-more tells b s k = record {
    faults = k.faults;
    later = k.later;
    booked = k.booked;
    said = k.said;
    cut = k.cut;
    slot = k.slot;
    doubt = k.doubt;
    unsure = k.unsure;
    written = k.written;
    versions = λ told. (let v = k.versions told in record { votes = v.votes; stand = v.stand; own = v.own; opened = v.opened; loads = v.loads });
    outside = λ told. outside-more b s.run s.faults s.world (k.outside told);
  }

  -- the record
  pub record-more : (tells : Bool) (b : Books) (s : Stage) → KeepsRecord tells o b s → KeepsRecord tells (with_more o more) b s
  record-more tells b s k = record { above = k.above; units = units-on (basis_of o) more s.run k.units; books = books-more tells b s k.books }

  -- what the writer keeps of the folder
  folder-more : (head : List ℕ) (b : Books) (r : Run) (writer : BatchWriter) (disk : Disk) → KeepsFolder o head b r writer disk → KeepsFolder (with_more o more) head b r writer disk
  folder-more head b r writer disk k = record { stood = k.stood; bodies = k.bodies; log = k.log; keeps = k.keeps; behind = k.behind }

  -- what lasts
  pub lasts-more : (head : List ℕ) (b : Books) (r : Run) (writer : BatchWriter) (now : World) → LastsSo o head b r writer now → LastsSo (with_more o more) head b r writer now
  lasts-more head b r writer now l = record {
    journal = l.journal;
    backs = l.backs;
    batches = l.batches;
    batches_now = l.batches_now;
    alone = l.alone;
    alone_now = l.alone_now;
    some = l.some;
    block = l.block;
    folder = λ sure. folder-more head b r writer now.disk (l.folder sure);
  }
