-- A run of which no line may begin keeps the whole promise.
use Rattle.std.proofs.Common.{inl, ◌≤◌, [], refl, subst, arith}
use Rattle.host_trait.specs.Faults.{Rose}
use Rattle.host_trait.specs.declared.channels.Channel.{Channel}
use Rattle.host_trait.specs.declared.channels.Channel.TheVariants.{Input}
use Rattle.promise_spec.specs.Programs.{Program}
use Rattle.promise_spec.specs.Entries.{Log}
use Rattle.promise_spec.specs.Causes.{RoseBy, NoneRose}
use Rattle.promise_spec.specs.Endings.{Ending, Done, BadUse, Memory, ReadFault, WriteFault, DiskFault, NotASilo, OldFormat, NotOld, AlreadyASilo, Damaged, BadProgram, InputTooLong, LastGeneration, UpgradeRefused, HasRisen, IsCarried, IsAllWritten, IsCalm}
use Rattle.promise_spec.specs.Courses.{Observed}
use Rattle.promise_spec.specs.Promise.{Keeps}
use Rattle.promise_spec.proofs.Lists.{none_at}
use Rattle.promise_examples.specs.EmptyRuns.{IsEmptyRun, empty_course}
use Rattle.promise_examples.proofs.StillRun.{headline, traced, unvoted, exit}

module _ (p : Program) (r : Observed) (opening : Log) (run : IsEmptyRun p r opening) where
  no_fault : (channel : Channel) → RoseBy 0 (r.faults_before channel) (r.faults_after channel)
  no_fault channel = let same : r.faults_before channel ≤ r.faults_after channel = run.faults channel in omega (arith, same)

  -- what has all written may come behind an opening
  carried : (e : Ending) → IsAllWritten e → IsCarried e
  carried Done all = tt
  carried BadUse all = absurd all
  carried Memory all = tt
  carried ReadFault all = tt
  carried WriteFault all = tt
  carried (DiskFault file) all = tt
  carried NotASilo all = absurd all
  carried OldFormat all = absurd all
  carried NotOld all = absurd all
  carried AlreadyASilo all = absurd all
  carried (Damaged file place) all = absurd all
  carried (BadProgram fault) all = absurd all
  carried (InputTooLong line) all = tt
  carried LastGeneration all = absurd all
  carried (UpgradeRefused at) all = absurd all

  -- and where no count rose, no fault ended it
  calm : (e : Ending) → IsAllWritten e → HasRisen e r.faults_before r.faults_after → NoneRose r.faults_before r.faults_after → IsCalm e
  calm Done all risen none = tt
  calm BadUse all risen none = absurd all
  calm Memory all risen none = tt
  calm ReadFault all risen none = (let rose : Rose (r.faults_before Input) (r.faults_after Input) = risen in let n = none Input in absurd (omega (arith, rose, n.0, n.1)))
  calm WriteFault all risen none = absurd all
  calm (DiskFault file) all risen none = absurd all
  calm NotASilo all risen none = absurd all
  calm OldFormat all risen none = absurd all
  calm NotOld all risen none = absurd all
  calm AlreadyASilo all risen none = absurd all
  calm (Damaged file place) all risen none = absurd all
  calm (BadProgram fault) all risen none = absurd all
  calm (InputTooLong line) all risen none = tt
  calm LastGeneration all risen none = absurd all
  calm (UpgradeRefused at) all risen none = absurd all

  pub kept : Keeps p r (empty_course r opening)
  kept = record {
    headline = headline p r opening run.still 0 [];
    traced = traced p r opening run.still 0 [];
    settled = record {
      entries = ([], refl);
      all = λ done. refl;
      told = omega arith;
      cut = inl refl;
    };
    explained = record {
      records = inl tt;
      units = λ at e is. absurd (none_at at e is.there);
      turns = λ single at e is. absurd (none_at at e is.there);
      loads = tt;
      caused = record { entries = λ x none. absurd none; units = λ u is. absurd (cc is) };
      faults = record { votes = λ g. no_fault _; seals = no_fault _ };
      doubted = λ file is. absurd (subst IsAllWritten is run.ending);
      doubt_ends = λ doubt. absurd (none_at doubt.at _ doubt.doubt.there);
      unvoted = unvoted p r opening run.still 0 [];
    };
    exit = exit p r opening run.still 0 [] (λ doubt. none_at doubt.at _ doubt.doubt.there);
    ended = record {
      given = run.still.given;
      risen = run.risen;
      carried = carried r.ending run.ending;
      read = record { pulled = run.pulled; input = run.input; few = omega arith; none = λ none. refl; good = refl; allowed = run.allowed };
      answered = λ all n low high. absurd (omega (arith, low, high));
      complete = λ none. record { calm = calm r.ending run.ending run.risen none; undisturbed = λ e none_there. absurd none_there };
      alone = λ single one none e there. absurd there;
      syncs = λ calm is. (let n = run.still.syncs in omega (arith, n));
      most = (let n = run.still.syncs in omega (arith, n));
    };
  }
