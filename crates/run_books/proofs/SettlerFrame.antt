-- What steps of the settler leave of the host, and of a run, beside its books.
use Rattle.std.proofs.Common.{◌≡◌, ◌⊎◌, ℕ, inl, inr, Bool, true, false, List, [], ◌∷◌, ◌++◌, length, refl, sym, ap, ◌∙◌, subst, append_assoc, append-nil}
use Rattle.std.specs.Prelude.{IsTrue, Result, Ok, Err}
use Rattle.base_types.specs.declared.calls.GrainId.{GrainId}
use Rattle.base_types.specs.declared.shapes.Shape.{Shape}
use Rattle.base_types.specs.declared.stores.Version.{Version}
use Rattle.host_trait.specs.declared.channels.FileId.TheVariants.{Manager, Grain}
use Rattle.host_trait.specs.declared.channels.Channel.{Channel}
use Rattle.host_trait.specs.declared.channels.Channel.TheVariants.{Input, Output, File}
use Rattle.host_trait.specs.declared.channels.FileId.{FileId}
use Rattle.host_trait.specs.Faults.{NoneFailed, FailedOn}
use Rattle.host_trait.specs.Runs.{ChangesFile, RunsOnFile, OnlyAsked}
use Rattle.host_trait.specs.World.{World, Moment, Passes, Ticks, moment_of}
use Rattle.host_trait.proofs.Moments.{both, weaker, started}
use Rattle.commit_log.specs.SealImages.{SealHasCause}
use Rattle.commit_log.specs.declared.gate.Sealing.{Sealing}
use Rattle.commit_log.specs.declared.gate.Sealing.TheVariants as sealing
use Rattle.core_model.specs.CoreState.{CoreState}
use Rattle.core_model.specs.Laws.{extended}
use Rattle.core_model.specs.LegalRuns.{Run}
use Rattle.core_model.specs.Settler.{Step, to_commit, versions_to_write}
use Rattle.core_model.specs.declared.effects.Effect.{Effect}
use Rattle.core_model.specs.declared.events.CoreEvent.{CoreEvent}
use Rattle.core_model.specs.declared.events.CoreEvent.TheVariants.{Vote, Sealed, NotSealed, Doubt, Emitted, Load}
use Rattle.core_access.specs.Sights.{Sight}
use Rattle.batch_disk.specs.declared.writer.BatchWriter.{BatchWriter}
use Rattle.batch_disk.specs.VoteAnswers.{HasVoteCause, VotesOn}
use Rattle.settle_loop.specs.HostSteps.{HasLine, SealsUnits, WritesEntry, DoesFor}
use Rattle.settle_loop.specs.SettlerStep.{IsBrokenOffBy, TurnsBy, state_shown}
use Rattle.settle_loop.specs.declared.settler.Settler.{Settler}
use Rattle.settle_loop.specs.declared.settler.Turned.{Turned}
use Rattle.settle_loop.specs.declared.settler.Turned.TheVariants.{Stepped, Nothing, Stop}
use Rattle.settle_loop.specs.declared.settler.StopCause.TheVariants as cause
use Rattle.run_books.specs.declared.faults.RunFault.{RunFault}
use Rattle.run_books.specs.declared.faults.RunFault.TheVariants.{InDoubt, WriteFault, LoadFault, LoadDamaged, Memory}
use Rattle.run_books.specs.RecordFrame.{EmitsAs, IsHushed, TurnsBeside}
use Rattle.run_books.specs.Stages.{stage_by, stage_of}

-- what rose only as an answer says, from a count that was the same
emits-from : {T : Type 0} (result : Result T RunFault) (a b c : ℕ) → b ≡ a → EmitsAs result b c → EmitsAs result a c
emits-from (Ok done) a b c same q = q ∙ same
emits-from (Err InDoubt) a b c same q = q ∙ same
emits-from (Err WriteFault) a b c same q = q
emits-from (Err (LoadFault file)) a b c same q = q ∙ same
emits-from (Err (LoadDamaged file place)) a b c same q = q ∙ same
emits-from (Err Memory) a b c same q = q ∙ same

-- and nothing did
emits-same : {T : Type 0} (result : Result T RunFault) (a c : ℕ) → c ≡ a → EmitsAs result a c
emits-same (Ok done) a c q = q
emits-same (Err InDoubt) a c q = q
emits-same (Err WriteFault) a c q = tt
emits-same (Err (LoadFault file)) a c q = q
emits-same (Err (LoadDamaged file place)) a c q = q
emits-same (Err Memory) a c q = q

-- nothing was put out where nothing was done
still-hushed : (now now' : World) → now' ≡ now → IsHushed now now'
still-hushed now now' q = record {
  output = ap (λ (x : World). x.output) q;
  moments = subst (λ (x : World). Passes (λ m. m.output ≡ now.output) now.past x.past) (sym q) (started (λ m. m.output ≡ now.output) now.past);
}

-- nor by one run of calls after another
hushed-then : (now mid now' : World) → IsHushed now mid → IsHushed mid now' → IsHushed now now'
hushed-then now mid now' one other = record {
  output = other.output ∙ one.output;
  moments = both (λ m. m.output ≡ now.output) one.moments (weaker (λ m. m.output ≡ mid.output) (λ m. m.output ≡ now.output) (λ m q. q ∙ one.output) other.moments);
}

-- the input that is left, and how the clock went on
abbrev GoesWith : World → World → Type 0
GoesWith now now' = (now'.input ≡ now.input) × ((later : List Moment) × (now'.past ≡ now.past ++ later))

-- a call is a moment, or none
ticks-on : (now now' : World) → Ticks now now' → (later : List Moment) × (now'.past ≡ now.past ++ later)
ticks-on now now' (inl q) = (moment_of now' ∷ [], q)
ticks-on now now' (inr q) = ([], q.0 ∙ sym (append-nil now.past))

-- calls that only ask pull no input, and the clock goes on
asked-goes : (now now' : World) → OnlyAsked now now' → GoesWith now now'
asked-goes now now' asked = (asked.input, (asked.moments.more, asked.moments.past))

-- and put nothing out
asked-hushed : (now now' : World) → OnlyAsked now now' → IsHushed now now'
asked-hushed now now' asked = record {
  output = asked.output;
  moments = weaker (λ (m : Moment). m ≡ moment_of now) (λ (m : Moment). m.output ≡ now.output) (λ m is. ap (λ (x : Moment). x.output) is) asked.moments;
}

-- a world that stayed
still-goes : (now now' : World) → now' ≡ now → GoesWith now now'
still-goes now now' q = (ap (λ (x : World). x.input) q, ([], ap (λ (x : World). x.past) q ∙ sym (append-nil now.past)))

-- a run of calls on one file puts nothing out
file-hushed : (f : FileId) (R : List ℕ → List ℕ → Type 0) (most : ℕ) (now now' : World) → RunsOnFile f R most now now' → IsHushed now now'
file-hushed f R most now now' run = record {
  output = run.now.output;
  moments = weaker (ChangesFile f R now) (λ m. m.output ≡ now.output) (λ m c. c.output) run.moments;
}

-- a run of calls on one file
file-goes : (f : FileId) (R : List ℕ → List ℕ → Type 0) (most : ℕ) (now now' : World) → RunsOnFile f R most now now' → GoesWith now now'
file-goes f R most now now' run = (run.input, (run.moments.more, run.moments.past))

-- What a step leaves of a host where no call on the output failed.
record LeavesHost {H : Type 0} (quiet tells : Bool) (world : H → World) (faults : H → Channel → ℕ) (old new : H) : Type 0 where
  goes : IsTrue tells → GoesWith (world old) (world new)
  hushed : quiet ≡ true → IsTrue tells → IsHushed (world old) (world new)
  pulled : faults new Input ≡ faults old Input
  emitted : faults new Output ≡ faults old Output

module _ {H : Type 0} (hush tells : Bool) (world : H → World) (faults : H → Channel → ℕ) (old new : H) where
  leaves-none : new ≡ old → LeavesHost hush tells world faults old new
  leaves-none q = record {
    goes = λ t. still-goes (world old) (world new) (ap world q);
    hushed = λ h t. still-hushed (world old) (world new) (ap world q);
    pulled = ap (λ (x : H). faults x Input) q;
    emitted = ap (λ (x : H). faults x Output) q;
  }

  leaves-calm : NoneFailed (faults old) (faults new) → (IsTrue tells → GoesWith (world old) (world new)) → (hush ≡ true → IsTrue tells → IsHushed (world old) (world new)) → LeavesHost hush tells world faults old new
  leaves-calm calm goes hushed = record { goes = goes; hushed = hushed; pulled = calm Input; emitted = calm Output }

  leaves-file : (f : FileId) → FailedOn (File f) (faults old) (faults new) → (IsTrue tells → GoesWith (world old) (world new)) → (hush ≡ true → IsTrue tells → IsHushed (world old) (world new)) → LeavesHost hush tells world faults old new
  leaves-file f failed goes hushed = record { goes = goes; hushed = hushed; pulled = failed.counts.others Input no-input; emitted = failed.counts.others Output no-output }
    where
      no-input : Input ≡ File f → ⊥
      no-input q = absurd cc

      no-output : Output ≡ File f → ⊥
      no-output q = absurd cc

  votes-leave : (live n : ℕ) (g : GrainId) (said : Bool) (versions : List Version) (before after : BatchWriter) → VotesOn tells world faults live n g said versions before after old new → LeavesHost hush tells world faults old new
  votes-leave live n g said versions before after v = by said v.cause
    where
      goes : IsTrue tells → GoesWith (world old) (world new)
      goes t = file-goes _ _ _ (world old) (world new) (v.run t)

      hushed : hush ≡ true → IsTrue tells → IsHushed (world old) (world new)
      hushed h t = file-hushed _ _ _ (world old) (world new) (v.run t)

      by : (b : Bool) → HasVoteCause live g b (faults old) (faults new) → LeavesHost hush tells world faults old new
      by true calm = leaves-calm calm goes hushed
      by false failed = leaves-file (Grain live g) failed goes hushed

  seals-leave : (live n : ℕ) (e : CoreEvent) (effects : List Effect) (before after : BatchWriter) → SealsUnits tells world faults live n e effects before after old new → LeavesHost hush tells world faults old new
  seals-leave live n e effects before after s = by s.answer s.leaves.cause
    where
      goes : IsTrue tells → GoesWith (world old) (world new)
      goes t = file-goes _ _ _ (world old) (world new) (s.leaves.run t)

      hushed : hush ≡ true → IsTrue tells → IsHushed (world old) (world new)
      hushed h t = file-hushed _ _ _ (world old) (world new) (s.leaves.run t)

      by : (a : Sealing) → SealHasCause live a before.gate_at (length s.work.block) (faults old) (faults new) → LeavesHost hush tells world faults old new
      by (sealing.Sealed next) c = leaves-calm c.1.1 goes hushed
      by sealing.NotSealed c = leaves-file (Manager live) c goes hushed
      by sealing.InDoubt c = leaves-file (Manager live) c goes hushed

  writes-leave : (quiet : Bool) → quiet ≡ hush → (shape : Shape) (w : CoreState) (before after : BatchWriter) → WritesEntry tells world faults quiet shape w before after old new → LeavesHost hush tells world faults old new
  writes-leave quiet is shape w before after e = by quiet is e.line
    where
      loud : false ≡ true → ⊥
      loud q = absurd cc

      by : (b : Bool) → b ≡ hush → HasLine tells world faults b shape e.entry old new → LeavesHost hush tells world faults old new
      by true q same = leaves-none same
      by false q line = leaves-calm line.0 (λ t. let out = line.1 t in (out.input, ticks-on (world old) (world new) out.past)) (λ h. absurd (loud (q ∙ h)))

  does-leave : (live : ℕ) (e : CoreEvent) (quiet : Bool) → quiet ≡ hush → (shape : Shape) (w : CoreState) (before after : BatchWriter) → DoesFor tells world faults live e quiet shape w before after old new → LeavesHost hush tells world faults old new
  does-leave live (Vote n g said) quiet is shape w before after d = votes-leave live n g said (versions_to_write w w.manager.batch g) before after d
  does-leave live (Sealed n) quiet is shape w before after d = seals-leave live n (Sealed n) (to_commit w w.manager.batch) before after d
  does-leave live (NotSealed n) quiet is shape w before after d = seals-leave live n (NotSealed n) (to_commit w w.manager.batch) before after d
  does-leave live (Doubt n) quiet is shape w before after (inl d) = seals-leave live n (Doubt n) (to_commit w w.manager.batch) before after d
  does-leave live (Doubt n) quiet is shape w before after (inr d) = leaves-none d.none.host
  does-leave live Emitted quiet is shape w before after d = writes-leave quiet is shape w before after d
  does-leave live (Load g u state) quiet is shape w before after d = leaves-calm d.calm (λ t. asked-goes (world old) (world new) (d.asked t)) (λ h t. asked-hushed (world old) (world new) (d.asked t))
  does-leave live _ quiet is shape w before after d = leaves-none d.host

-- ---- a step

-- a run that went on by these events, beside which this was left of the host
of-leaving : {H T : Type 0} (tells : Bool) (world : H → World) (faults : H → Channel → ℕ) (r r' : Run) (more : List CoreEvent) (before after : Settler) (old new : H) (answer : Result T RunFault)
    → r' ≡ extended r more → after.quiet ≡ before.quiet → LeavesHost before.quiet tells world faults old new
    → TurnsBeside {T = T} tells (stage_of world faults r before old) (stage_of world faults r' after new) answer
of-leaving tells world faults r r' more before after old new answer on quiet l = record {
  more = more;
  core = on;
  quiet = quiet;
  input = λ t. (l.goes t).0;
  past = λ t. (l.goes t).1;
  pulled = l.pulled;
  emitted = emits-same answer (faults old Output) (faults new Output) l.emitted;
  calm = λ q. l.emitted;
  hushed = λ q t. l.hushed q t;
}

-- what is answered to a step's answer, where a rest may be told otherwise
abbrev pub IsAnswerTo : {T E : Type 0} → Result T RunFault → Result Turned E → Type 0
IsAnswerTo {T} answer (Ok Stepped) = (done : T) × (answer ≡ Ok done)
IsAnswerTo {T} answer (Ok Nothing) = ((done : T) × (answer ≡ Ok done)) ⊎ (answer ≡ Err InDoubt)
IsAnswerTo {T} answer (Ok (Stop cause.InDoubt)) = answer ≡ Err InDoubt
IsAnswerTo {T} answer (Ok (Stop cause.WriteFault)) = answer ≡ Err WriteFault
IsAnswerTo {T} answer (Ok (Stop (cause.LoadFault file))) = answer ≡ Err (LoadFault file)
IsAnswerTo {T} answer (Ok (Stop (cause.LoadDamaged file place))) = answer ≡ Err (LoadDamaged file place)
IsAnswerTo {T} answer (Err lack) = answer ≡ Err Memory

module _ {H : Type 0} (tells : Bool) (world : H → World) (faults : H → Channel → ℕ) (may : CoreEvent → Bool) (shape : Shape) (next : CoreState → Step) (s t : Sight) (r r' : Run) (more : List CoreEvent) (on : r' ≡ extended r more)
    (before after : Settler) (old new : H) where
  -- where the output failed
  cut-beside : {T : Type 0} (answer : Result T RunFault) → answer ≡ Err WriteFault → IsBrokenOffBy tells world faults may shape next before after s t old new
      → TurnsBeside {T = T} tells (stage_of world faults r before old) (stage_of world faults r' after new) answer
  cut-beside {T} answer is u = subst (TurnsBeside {T = T} tells (stage_of world faults r before old) (stage_of world faults r' after new)) (sym is) (record {
    more = more;
    core = on;
    quiet = ap (λ (x : Settler). x.quiet) u.settler;
    input = λ told. (u.cut.part told).1.input;
    past = λ told. ticks-on (world old) (world new) (u.cut.part told).1.past;
    pulled = u.cut.fault.counts.others Input no-input;
    emitted = tt;
    calm = λ q. absurd (loud (sym u.cut.loud ∙ q));
    hushed = λ q. absurd (loud (sym u.cut.loud ∙ q));
  })
    where
      loud : false ≡ true → ⊥
      loud q = absurd cc

      no-input : Input ≡ Output → ⊥
      no-input q = absurd cc

  -- a step of the settler or a load, over whatever it saw
  pub step-beside : {E T : Type 0} (answer : Result T RunFault) (result : Result Turned E) → IsAnswerTo answer result → TurnsBy tells world faults may shape next before after s t old new result
      → TurnsBeside {T = T} tells (stage_of world faults r before old) (stage_of world faults r' after new) answer
  step-beside answer (Ok Stepped) is u =
      of-leaving tells world faults r r' more before after old new answer on (ap (λ (x : Settler). x.quiet) u.put.counts)
      (does-leave before.quiet tells world faults old new before.writer.slot u.e before.quiet refl shape (state_shown u.put.acts.seen) before.writer after.writer u.put.acts.does)
  step-beside answer (Ok Nothing) is u =
      of-leaving tells world faults r r' more before after old new answer on (ap (λ (x : Settler). x.quiet) u.settler) (leaves-none before.quiet tells world faults old new u.host)
  step-beside answer (Ok (Stop cause.InDoubt)) is u =
      of-leaving tells world faults r r' more before after old new answer on (ap (λ (x : Settler). x.quiet) u.put.counts)
      (does-leave before.quiet tells world faults old new before.writer.slot u.e before.quiet refl shape (state_shown u.put.acts.seen) before.writer after.writer u.put.acts.does)
  step-beside answer (Ok (Stop cause.WriteFault)) is u = cut-beside answer is u
  step-beside answer (Ok (Stop (cause.LoadFault file))) is u =
      of-leaving tells world faults r r' more before after old new answer on (ap (λ (x : Settler). x.quiet) u.0.settler)
      (leaves-file before.quiet tells world faults old new (Grain before.writer.slot u.0.g) u.0.reads.fault (λ t. asked-goes (world old) (world new) (u.0.asked t)) (λ h t. asked-hushed (world old) (world new) (u.0.asked t)))
  step-beside answer (Ok (Stop (cause.LoadDamaged file place))) is u =
      of-leaving tells world faults r r' more before after old new answer on (ap (λ (x : Settler). x.quiet) u.0.settler)
      (leaves-calm before.quiet tells world faults old new u.0.reads.calm (λ t. asked-goes (world old) (world new) (u.0.asked t)) (λ h t. asked-hushed (world old) (world new) (u.0.asked t)))
  step-beside answer (Err lack) is (inl u) =
      of-leaving tells world faults r r' more before after old new answer on (ap (λ (x : Settler). x.quiet) u.settler) (leaves-none before.quiet tells world faults old new u.host)
  step-beside answer (Err lack) is (inr (inl u)) =
      of-leaving tells world faults r r' more before after old new answer on (ap (λ (x : Settler). x.quiet) u.settler)
      (leaves-calm before.quiet tells world faults old new u.lacks.calm (λ told. still-goes (world old) (world new) (u.lacks.world_is told)) (λ h told. still-hushed (world old) (world new) (u.lacks.world_is told)))
  step-beside answer (Err lack) is (inr (inr (inl u))) =
      of-leaving tells world faults r r' more before after old new answer on (ap (λ (x : Settler). x.quiet) u.1.settler)
      (does-leave before.quiet tells world faults old new before.writer.slot u.0 before.quiet refl shape (state_shown u.1.acts.seen) before.writer after.writer u.1.acts.does)
  step-beside answer (Err lack) is (inr (inr (inr (inr u)))) =
      of-leaving tells world faults r r' more before after old new answer on (ap (λ (x : Settler). x.quiet) u.settler)
      (leaves-calm before.quiet tells world faults old new u.reads (λ t. asked-goes (world old) (world new) (u.asked t)) (λ h t. asked-hushed (world old) (world new) (u.asked t)))
  step-beside answer (Err lack) is (inr (inr (inr (inl u)))) =
      of-leaving tells world faults r r' more before after old new answer on (ap (λ (x : Settler). x.quiet) u.put.counts)
      (does-leave before.quiet tells world faults old new before.writer.slot u.e before.quiet refl shape (state_shown u.put.acts.seen) before.writer after.writer u.put.acts.does)

-- ---- a run of steps

module _ (tells : Bool) (r r' : Run) (settler settler' : Settler) (faults faults' : Channel → ℕ) (now now' : World) where
  -- what is told where all was well is so whatever is told
  pub beside-well : {T U : Type 0} (done : T) (result : Result U RunFault) → TurnsBeside {T = T} tells (stage_by r settler faults now) (stage_by r' settler' faults' now') (Ok done)
      → TurnsBeside {T = U} tells (stage_by r settler faults now) (stage_by r' settler' faults' now') result
  beside-well {T} {U} done result b = record { more = b.more; core = b.core; quiet = b.quiet; input = b.input; past = b.past; pulled = b.pulled; emitted = emits-same {T = U} result (faults Output) (faults' Output) b.emitted; calm = b.calm; hushed = b.hushed }

  -- a fault is so whatever might have been told else
  pub beside-fault : {T U : Type 0} (f : RunFault) → TurnsBeside {T = T} tells (stage_by r settler faults now) (stage_by r' settler' faults' now') (Err f) → TurnsBeside {T = U} tells (stage_by r settler faults now) (stage_by r' settler' faults' now') (Err f)
  beside-fault {T} {U} f b = record { more = b.more; core = b.core; quiet = b.quiet; input = b.input; past = b.past; pulled = b.pulled; emitted = by f b.emitted; calm = b.calm; hushed = b.hushed }
    where
      by : (x : RunFault) → EmitsAs {T = T} (Err x) (faults Output) (faults' Output) → EmitsAs {T = U} (Err x) (faults Output) (faults' Output)
      by InDoubt e = e
      by WriteFault e = e
      by (LoadFault file) e = e
      by (LoadDamaged file place) e = e
      by Memory e = e

-- a run that stays goes on by no event
pub run-stays : (r : Run) → r ≡ extended r []
run-stays r = ap (λ (es : List CoreEvent). record r { events = es }) (sym (append-nil r.events))

-- a run that went on, and nothing else
pub core-beside : {T : Type 0} (tells : Bool) (r r' : Run) (settler : Settler) (faults : Channel → ℕ) (now : World) (result : Result T RunFault) (more : List CoreEvent) → r' ≡ extended r more
    → TurnsBeside {T = T} tells (stage_by r settler faults now) (stage_by r' settler faults now) result
core-beside tells r r' settler faults now result more q = record {
  more = more;
  core = q;
  quiet = refl;
  input = λ t. refl;
  past = λ t. ([], sym (append-nil now.past));
  pulled = refl;
  emitted = emits-same result (faults Output) (faults Output) refl;
  calm = λ q. refl;
  hushed = λ q t. still-hushed now now refl;
}

-- what failed, and behind it a run that went on alone
pub failed-on : {T : Type 0} (tells : Bool) (r r' r'' : Run) (settler settler' : Settler) (faults faults' : Channel → ℕ) (now now' : World) (f : RunFault) (more : List CoreEvent) → r'' ≡ extended r' more
    → TurnsBeside {T = T} tells (stage_by r settler faults now) (stage_by r' settler' faults' now') (Err f) → TurnsBeside {T = T} tells (stage_by r settler faults now) (stage_by r'' settler' faults' now') (Err f)
failed-on tells r r' r'' settler settler' faults faults' now now' f more on one = record {
  more = one.more ++ more;
  core = on ∙ ap (λ (x : Run). extended x more) one.core ∙ ap (λ (es : List CoreEvent). record r { events = es }) (append_assoc r.events one.more more);
  quiet = one.quiet;
  input = one.input;
  past = one.past;
  pulled = one.pulled;
  emitted = one.emitted;
  calm = one.calm;
  hushed = one.hushed;
}

-- a call that was answered by a value, and another behind it
pub one-after-another : {T U : Type 0} (tells : Bool) (r r' r'' : Run) (settler settler' settler'' : Settler) (faults faults' faults'' : Channel → ℕ) (now now' now'' : World) (done : T) (result : Result U RunFault)
    → TurnsBeside {T = T} tells (stage_by r settler faults now) (stage_by r' settler' faults' now') (Ok done) → TurnsBeside {T = U} tells (stage_by r' settler' faults' now') (stage_by r'' settler'' faults'' now'') result
    → TurnsBeside {T = U} tells (stage_by r settler faults now) (stage_by r'' settler'' faults'' now'') result
one-after-another {T} {U} tells r r' r'' settler settler' settler'' faults faults' faults'' now now' now'' done result one other = record {
  more = one.more ++ other.more;
  core = other.core ∙ ap (λ (x : Run). extended x other.more) one.core ∙ ap (λ (es : List CoreEvent). record r { events = es }) (append_assoc r.events one.more other.more);
  quiet = other.quiet ∙ one.quiet;
  input = λ t. other.input t ∙ one.input t;
  past = λ t. let p = one.past t in let q = other.past t in (p.0 ++ q.0, q.1 ∙ ap (λ (l : List Moment). l ++ q.0) p.1 ∙ append_assoc now.past p.0 q.0);
  pulled = other.pulled ∙ one.pulled;
  emitted = emits-from {T = U} result (faults Output) (faults' Output) (faults'' Output) one.emitted other.emitted;
  calm = λ q. other.calm (one.quiet ∙ q) ∙ one.calm q;
  hushed = λ q t. hushed-then now now' now'' (one.hushed q t) (other.hushed (one.quiet ∙ q) t);
}
