-- The books of a run whose settler goes on among others, step by step.
use Rattle.std.proofs.Common.{◌≡◌, ℕ, ◌≤◌, ◌<◌, length, Bool, true, false, true≢false, Option, Some, None, refl, sym, ap, ◌∙◌, subst, arith}
use Rattle.std.specs.Prelude.{Result, Ok, Err, if◌then◌else◌, is_some, nat_lt}
use Rattle.std.proofs.lemmas.Bool.{lt-ltb}
use Rattle.base_types.specs.declared.shapes.Shape.{Shape}
use Rattle.host_trait.specs.declared.channels.Channel.{Channel}
use Rattle.host_trait.specs.declared.channels.Channel.TheVariants.{File}
use Rattle.host_trait.specs.declared.channels.FileId.{FileId}
use Rattle.host_trait.specs.declared.channels.FileId.TheVariants.{Manager}
use Rattle.host_trait.specs.World.{World}
use Rattle.core_model.specs.CoreState.{GrainId, CoreState, Batch}
use Rattle.core_model.specs.LearnQueue.{next_learn}
use Rattle.core_model.specs.LegalRuns.{Run, ends}
use Rattle.core_model.specs.Settler.{Votes, Decides, Seals, Writes, Rests, settler_step, batch_step, last_step, learn_step, undecided_step, first_unvoted}
use Rattle.core_model.specs.declared.events.CoreEvent.{CoreEvent}
use Rattle.core_access.specs.Sights.{Sight, run_seen}
use Rattle.promise_spec.proofs.Doubts.{doubt_left}
use Rattle.promise_laws.proofs.DoubtedBatches.{doubt-rose}
use Rattle.settle_loop.specs.SettlerStep.{TurnsAs}
use Rattle.settle_loop.specs.declared.settler.Settler.{Settler}
use Rattle.settle_loop.specs.declared.settler.Turned.{Turned}
use Rattle.settle_loop.specs.declared.settler.Turned.TheVariants.{Stepped, Nothing, Stop}
use Rattle.settle_loop.specs.declared.settler.StopCause.TheVariants as cause
use Rattle.run_books.specs.declared.faults.RunFault.{RunFault}
use Rattle.run_books.specs.declared.faults.RunFault.TheVariants.{InDoubt, WriteFault, Memory, LoadFault, LoadDamaged}
use Rattle.run_books.specs.Beginnings.{Outset}
use Rattle.run_books.specs.Books.{Books}
use Rattle.run_books.specs.SharedSteps.{MayRely, StepKeeps, SharedStepsKeep}
use Rattle.run_books.proofs.Reliance.{counts-on}
use Rattle.shared_settling.specs.SharedSettler.{SettlesAmong, CanSettleAmong, SaysAmong, SettledAmong}
use Rattle.shared_settling.proofs.PassSights.{step-going}
use Rattle.run_books.specs.Stages.{Stage, stage_by, stage_of, side_of, side_by}

-- ---- a doubt that stands where nothing is left to do

pub some-of : {A : Type 0} (x : Option A) → is_some x ≡ true → (a : A) × (x ≡ Some a)
some-of None q = absurd (true≢false (sym q))
some-of (Some a) q = (a, refl)

-- who does nothing in doubt has written all
rests-written : (w : CoreState) → is_some w.manager.doubt ≡ true → settler_step w ≡ Rests → length w.manager.settled ≤ w.manager.emitted
rests-written w d rests = by w.manager.batch rests
  where
    of-last : (b : Bool) → nat_lt w.manager.emitted (length w.manager.settled) ≡ b → (if b then Writes else Rests) ≡ Rests → length w.manager.settled ≤ w.manager.emitted
    of-last true t q = absurd (let z : Writes ≡ Rests = q in cc)
    of-last false t q = search (arith, lt-ltb)

    of-open : (b : Bool) (n : ℕ) (b' : Batch) → (if b then Seals n else undecided_step n (first_unvoted b')) ≡ Rests → ⊥
    of-open true n b' q = absurd (let z : Seals n ≡ Rests = q in cc)
    of-open false n b' q = none (first_unvoted b') q
      where
        none : (g : Option GrainId) → undecided_step n g ≡ Rests → ⊥
        none None q = absurd (let z : Decides n ≡ Rests = q in cc)
        none (Some g) q = absurd (let z : Votes n g ≡ Rests = q in cc)

    by : (b : Option Batch) → batch_step w b ≡ Rests → length w.manager.settled ≤ w.manager.emitted
    by None q =
        of-last (nat_lt w.manager.emitted (length w.manager.settled)) refl
        (sym (ap (λ (x : Bool). if x then last_step w false else learn_step w (next_learn w)) d) ∙ q)
    by (Some b) q = absurd (of-open (is_some b.decisions) b.number b q)

-- ---- one step

module _ {H E : Type 0} (tells : Bool) (world : H → World) (faults : H → Channel → ℕ) (keep : SharedStepsKeep H E tells world faults) (may : CoreEvent → Bool) (shape : Shape) (s t : Sight) (before after : Settler)
    (old new : H) (result : Result Turned E) (turns : TurnsAs tells world faults may shape before after s t old new result)
    (o : Outset) (b : Books) (can : CanSettleAmong tells o b shape s (side_of world faults before old)) (rely : MayRely o t) where
  going : (ends (run_seen t)).units.halt ≡ false
  going = step-going tells world faults may shape before after s t old new result turns can.share.counts can.going rely.alone

  abbrev Says : Result Turned E → Type 0
  Says x = StepKeeps tells o b (stage_of world faults (run_seen s) before old) (stage_of world faults (run_seen t) after new) x

  said : Says result
  said = keep may o b shape s t before after old new result can.share rely going can.even can.books turns

  abbrev Settled : {T : Type 0} → Result T RunFault → Type 0
  Settled {T} answer = SettledAmong {T = T} tells o b (stage_of world faults (run_seen s) before old) (stage_of world faults (run_seen t) after new) answer

  pub on-stepped : {T : Type 0} → result ≡ Ok Stepped → (done : T) → Settled (Ok done)
  on-stepped q done = let k : Says (Ok Stepped) = subst Says q said in record { goes = k.0; says = (k.1, going) }

  pub on-idle : {T : Type 0} → result ≡ Ok Nothing → (done : T) → Settled (Ok done)
  on-idle q done = let k : Says (Ok Nothing) = subst Says q said in record { goes = k.0; says = (k.1.0, going) }

  pub on-doubt : (T : Type 0) → result ≡ Ok (Stop cause.InDoubt) → Settled {T = T} (Err InDoubt)
  on-doubt T q = let k : Says (Ok (Stop cause.InDoubt)) = subst Says q said in record { goes = k.0; says = k.1 }

  pub on-cut : (T : Type 0) → result ≡ Ok (Stop cause.WriteFault) → Settled {T = T} (Err WriteFault)
  on-cut T q = let k : Says (Ok (Stop cause.WriteFault)) = subst Says q said in record { goes = k.0; says = k.1 }

  pub on-unread : (T : Type 0) (file : FileId) → result ≡ Ok (Stop (cause.LoadFault file)) → Settled {T = T} (Err (LoadFault file))
  on-unread T file q = let k : Says (Ok (Stop (cause.LoadFault file))) = subst Says q said in record { goes = k.0; says = k.1 }

  pub on-damaged : (T : Type 0) (file : FileId) (place : ℕ) → result ≡ Ok (Stop (cause.LoadDamaged file place)) → Settled {T = T} (Err (LoadDamaged file place))
  on-damaged T file place q = let k : Says (Ok (Stop (cause.LoadDamaged file place))) = subst Says q said in record { goes = k.0; says = k.1 }

  pub on-lack : {T : Type 0} (lack : E) → result ≡ Err lack → (answer : Result T RunFault) → answer ≡ Err Memory → Settled answer
  on-lack lack q answer is = let k : Says (Err lack) = subst Says q said in subst Settled (sym is) (record { goes = k.0; says = k.1 })

  -- where nothing was left to do, and a doubt of its own stands
  pub on-idle-doubt : (T : Type 0) → result ≡ Ok Nothing → after.doubted ≡ true → Settled {T = T} (Err InDoubt)
  on-idle-doubt T q doubted =
      let k : Says (Ok Nothing) = subst Says q said in
      let some : is_some (ends (run_seen t)).manager.doubt ≡ true = sym k.0.kept.doubt ∙ doubted in
      let left = some-of (ends (run_seen t)).manager.doubt some in
      let doubt = doubt_left (run_seen t) left.0 left.1 in record {
        goes = k.0;
        says = (
          record {
            doubt = doubt;
            written = rests-written (ends (run_seen t)) some k.1.1;
            rose = doubt-rose (run_seen t) (o.faults (File (Manager o.live))) (faults new (File (Manager o.live))) doubt k.0.kept.faults.seals;
          },
          k.1.0.rest,
        );
      }

-- ---- step after step

module _ (tells : Bool) (o : Outset) (b : Books) (shape : Shape) (s t : Sight) (settler settler' : Settler) (counts counts' : Channel → ℕ) (now now' : World) where
  -- what is known where one goes on again
  pub can-again : {T : Type 0} (done : T) → SettlesAmong s t → CanSettleAmong tells o b shape s (side_by settler counts now)
      → (g : SettledAmong {T = T} tells o b (stage_by (run_seen s) settler counts now) (stage_by (run_seen t) settler' counts' now') (Ok done)) → CanSettleAmong tells o g.goes.books shape t (side_by settler' counts' now')
  can-again done among can g = record {
    share = record {
      above = subst (λ (x : Run). 0 < x.base) (sym among.on.first) can.share.above;
      kinds = ap (λ (x : Run). x.kinds) among.on.first ∙ can.share.kinds;
      shape_is = can.share.shape_is;
      accepted = can.share.accepted;
      counts = counts-on s t among.on can.share.counts;
    };
    going = g.says.1;
    even = g.says.0;
    books = g.goes.kept;
  }

  -- nothing was done
  pub settled-none : {T : Type 0} (done : T) → CanSettleAmong tells o b shape s (side_by settler counts now) → SettledAmong {T = T} tells o b (stage_by (run_seen s) settler counts now) (stage_by (run_seen s) settler counts now) (Ok done)
  settled-none done can = record { goes = record { books = b; kept = can.books; lasts = λ told head l. l }; says = (can.even, can.going) }

module _ (tells : Bool) (o : Outset) (b : Books) (x y z : Stage) where
  -- one after another
  pub settled-on : {T U : Type 0} (done : T) (answer : Result U RunFault) (g : SettledAmong {T = T} tells o b x y (Ok done))
      → SettledAmong {T = U} tells o g.goes.books y z answer → SettledAmong {T = U} tells o b x z answer
  settled-on done answer g k = record {
    goes = record { books = k.goes.books; kept = k.goes.kept; lasts = λ told head l. k.goes.lasts told head (g.goes.lasts told head l) };
    says = k.says;
  }

module _ (tells : Bool) (o : Outset) (b : Books) (x y : Stage) where
  -- another value is answered
  pub settled-ok : {T U : Type 0} (one : T) (other : U) → SettledAmong {T = T} tells o b x y (Ok one) → SettledAmong {T = U} tells o b x y (Ok other)
  settled-ok one other g = record { goes = g.goes; says = g.says }

  -- a fault is the same for any value
  pub settled-fault : {T U : Type 0} (f : RunFault) → SettledAmong {T = T} tells o b x y (Err f) → SettledAmong {T = U} tells o b x y (Err f)
  settled-fault {T} {U} f g = record { goes = g.goes; says = by f g.says }
    where
      by : (e : RunFault) → SaysAmong tells o g.goes.books y {T = T} (Err e) → SaysAmong tells o g.goes.books y {T = U} (Err e)
      by InDoubt e = e
      by WriteFault e = e
      by Memory e = e
      by (LoadFault file) e = e
      by (LoadDamaged file place) e = e

  -- want of memory between two steps
  pub settled-lack : {T U : Type 0} (one : T) → SettledAmong {T = T} tells o b x y (Ok one) → SettledAmong {T = U} tells o b x y (Err Memory)
  settled-lack one g = record { goes = g.goes; says = g.says.0.rest }
