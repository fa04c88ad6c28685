-- A run that keeps its promise over a sound folder, and kept a journal, shows what has to be shown.
use Rattle.std.proofs.Common.{◌≡◌, List}
use Rattle.core_model.specs.CoreState.{Member}
use Rattle.host_trait.specs.World.{Moment, Image, IsImage, moment_of, last_of}
use Rattle.promise_spec.specs.Programs.{Program}
use Rattle.promise_spec.specs.Courses.{Observed, Course, moments, program_in_force}
use Rattle.promise_spec.specs.Journals.{Settlement, Backs, commits_of}
use Rattle.promise_spec.specs.Images.{IsSoundFolder}
use Rattle.promise_spec.specs.Promise.{Keeps}
use Rattle.promise_spec.proofs.WholeFolders.{whole_folder}
use Rattle.promise_laws.specs.Obligations.{SaysIn, Opens, Journals, ExplainsEvents, LeavesAtExit, EndsRightly, Shows}

module _ (p : Program) (r : Observed) (c : Course) (keeps : Keeps p r c) where
  -- it opened the folder, and some image was there at the return of the opening's last sync
  opens : IsSoundFolder r.old → (some : Image) → IsImage (last_of (moment_of r.old) c.early).disk some → Opens r c
  opens sound some possible = record {
    folder = whole_folder r.old sound;
    read = keeps.headline.ordered.read;
    opened = λ image left. (keeps.headline.ordered.opened image left).log;
    some = some;
    possible = possible;
    past = keeps.headline.crashes.past;
    quiet = keeps.headline.crashes.quiet;
    before = keeps.headline.crashes.before;
  }

  -- the journal has the records, and the longest log of an image is the order
  journals : (journal : List Settlement) → c.added ≡ commits_of journal → Backs journal c.added → ((m : Moment) → Member m (moments r c) → SaysIn p r c journal m) → Journals p r c
  journals journal commits backs kept = record {
    journal = journal;
    commits = commits;
    backs = backs;
    kept = kept;
    batches = keeps.traced.whole;
    last = keeps.headline.ordered.longest.image;
    left = keeps.headline.ordered.longest.left;
    longest = keeps.headline.ordered.longest.log;
    alone = keeps.headline.crashes.alone;
  }

  explains : ExplainsEvents p r c
  explains = record {
    records = keeps.explained.records;
    units = keeps.explained.units;
    turns = keeps.explained.turns;
    loads = keeps.explained.loads;
    faults = keeps.explained.faults;
    doubted = keeps.explained.doubted;
    ended = keeps.explained.doubt_ends;
    unvoted = keeps.explained.unvoted;
  }

  leaves : LeavesAtExit p r c
  leaves = record { logs = keeps.exit.logs; nowhere = keeps.exit.nowhere; block = keeps.exit.block; behind = keeps.exit.behind }

  ends : EndsRightly p r c
  ends = record {
    given = keeps.ended.given;
    risen = keeps.ended.risen;
    carried = keeps.ended.carried;
    read = keeps.ended.read;
    answered = keeps.ended.answered;
    syncs = keeps.ended.syncs;
    most = keeps.ended.most;
  }

  pub shows : program_in_force c ≡ p → IsSoundFolder r.old → (some : Image) → IsImage (last_of (moment_of r.old) c.early).disk some
      → (journal : List Settlement) → c.added ≡ commits_of journal → Backs journal c.added → ((m : Moment) → Member m (moments r c) → SaysIn p r c journal m) → Shows p r c
  shows in_force sound some possible journal commits backs kept = record {
    in_force = in_force;
    opens = opens sound some possible;
    explains = explains;
    settled = keeps.settled;
    output = keeps.headline.replies.output;
    whole = keeps.headline.replies.whole;
    journals = journals journal commits backs kept;
    leaves = leaves;
    ends = ends;
  }
