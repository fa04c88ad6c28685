-- What is made of the host's answers, case by case.
use Rattle.std.proofs.Common.{◌≡◌, ◌⊎◌, inl, inr, ℕ, List, Bool, true, false, Option, None, Some, refl, sym, ap, subst, ◌∙◌}
use Rattle.std.specs.Prelude.{Result, Ok, Err, IsErr, IsTrue}
use Rattle.base_types.specs.Places.{placed_in}
use Rattle.base_types.specs.declared.calls.Value.{Value}
use Rattle.base_types.specs.declared.calls.GrainId.{GrainId}
use Rattle.base_types.specs.declared.calls.UnitNo.{UnitNo}
use Rattle.base_types.specs.declared.entries.Entry.{Entry}
use Rattle.base_types.specs.declared.shapes.Shape.{Shape}
use Rattle.base_types.specs.declared.stores.Version.{Version}
use Rattle.host_trait.specs.declared.channels.Channel.{Channel}
use Rattle.host_trait.specs.declared.channels.FileId.TheVariants.{Grain}
use Rattle.host_trait.specs.World.{World}
use Rattle.host_trait.specs.Faults.{NoneFailed}
use Rattle.host_trait.specs.Runs.{OnlyAsked}
use Rattle.grain_log.specs.declared.faults.VersionFault.{VersionFault}
use Rattle.grain_log.specs.declared.faults.VersionFault.TheVariants.{Failed, Damaged, Memory}
use Rattle.batch_disk.specs.KeptPlaces.{PlacesStand}
use Rattle.batch_disk.specs.LastVersions.{ReadsLast}
use Rattle.batch_disk.specs.declared.writer.BatchWriter.{BatchWriter}
use Rattle.commit_log.specs.declared.gate.Sealing.{Sealing}
use Rattle.commit_log.specs.declared.gate.Sealing.TheVariants as sealing
use Rattle.core_model.specs.CoreState.{CoreState}
use Rattle.core_model.specs.declared.effects.Effect.{Effect}
use Rattle.core_model.specs.declared.events.CoreEvent.{CoreEvent}
use Rattle.core_model.specs.declared.events.CoreEvent.TheVariants.{Vote, Decide, Sealed, NotSealed, Doubt, Learn, Emitted, Load, Take}
use Rattle.core_model.specs.Settler.{Step, Decides, Seals, Learns, Loads, Takes, settler_step, MakesEvent, to_commit}
use Rattle.core_model.specs.declared.questions.SettlerWork.TheVariants as work
use Rattle.settle_loop.specs.ShownWork.{ShowsWork, event_of, tells_doubt, tells_entry}
use Rattle.batch_disk.specs.VoteAnswers.{VotesOn, LacksRoom}
use Rattle.settle_loop.specs.HostSteps.{SealsUnits, WritesEntry, DoesFor, version_loaded, version_due}
use Rattle.settle_loop.specs.StepParts.{with_writer, IsToTell, LacksVersions, CantBring, IsMadeOfFault, MadeAs}
use Rattle.settle_loop.specs.declared.cases.Made.{Made}
use Rattle.settle_loop.specs.declared.settler.Settler.{Settler}

module _ {H : Type 0} (tells : Bool) (world : H → World) (faults : H → Channel → ℕ) (shape : Shape) (w : CoreState) (before after : Settler) (old new : H) (same : after ≡ with_writer before after) where
  -- a vote
  pub vote_made : (n : ℕ) (g : GrainId) (kept : Bool) (versions : List Version) → ShowsWork w (settler_step w) (work.Vote n g versions)
      → VotesOn tells world faults before.writer.slot n g kept versions before.writer after.writer old new → IsToTell tells world faults shape w (settler_step w) before after old new (Vote n g kept) false false
  vote_made n g kept versions shown votes = record {
    makes = subst (λ (s : Step). MakesEvent s (Vote n g kept)) (sym shown.0) (kept, refl);
    does = subst (λ (vs : List Version). VotesOn tells world faults before.writer.slot n g kept vs before.writer after.writer old new) shown.1 votes;
    writes_is = refl;
    doubts_is = refl;
    settler = same;
  }

  -- none, for want of memory
  pub vote_lacks : (n : ℕ) (g : GrainId) (versions : List Version) → ShowsWork w (settler_step w) (work.Vote n g versions)
      → LacksRoom tells world faults before.writer.slot n g versions before.writer after.writer old new → LacksVersions tells world faults shape w (settler_step w) before after old new
  vote_lacks n g versions shown lacks = record {
    n = n;
    g = g;
    votes = shown.0;
    lacks = subst (λ (vs : List Version). LacksRoom tells world faults before.writer.slot n g vs before.writer after.writer old new) shown.1 lacks;
    settler = same;
  }

  -- what a seal answered
  seal_does : (n : ℕ) (effects : List Effect) (answer : Sealing) → SealsUnits tells world faults before.writer.slot n (event_of n answer) effects before.writer after.writer old new
      → effects ≡ to_commit w w.manager.batch → DoesFor tells world faults before.writer.slot (event_of n answer) before.quiet shape w before.writer after.writer old new
  seal_does n effects (sealing.Sealed next) seals is = subst (λ (es : List Effect). SealsUnits tells world faults before.writer.slot n (Sealed n) es before.writer after.writer old new) is seals
  seal_does n effects sealing.NotSealed seals is = subst (λ (es : List Effect). SealsUnits tells world faults before.writer.slot n (NotSealed n) es before.writer after.writer old new) is seals
  seal_does n effects sealing.InDoubt seals is = inl (subst (λ (es : List Effect). SealsUnits tells world faults before.writer.slot n (Doubt n) es before.writer after.writer old new) is seals)

  seal_makes : (n : ℕ) (answer : Sealing) → MakesEvent (Seals n) (event_of n answer)
  seal_makes n (sealing.Sealed next) = inl refl
  seal_makes n sealing.NotSealed = inr (inl refl)
  seal_makes n sealing.InDoubt = inr (inr refl)

  seal_tells : (n : ℕ) (answer : Sealing) → false ≡ tells_entry (event_of n answer)
  seal_tells n (sealing.Sealed next) = refl
  seal_tells n sealing.NotSealed = refl
  seal_tells n sealing.InDoubt = refl

  -- a seal
  pub seal_made : (n : ℕ) (effects : List Effect) (answer : Sealing) (e : CoreEvent) (doubts : Bool) → e ≡ event_of n answer → doubts ≡ tells_doubt e → ShowsWork w (settler_step w) (work.Seal n effects)
      → SealsUnits tells world faults before.writer.slot n (event_of n answer) effects before.writer after.writer old new → IsToTell tells world faults shape w (settler_step w) before after old new e false doubts
  seal_made n effects answer e doubts is doubts_is shown seals = subst (λ (x : CoreEvent). doubts ≡ tells_doubt x → IsToTell tells world faults shape w (settler_step w) before after old new x false doubts) (sym is)
      (λ d. record {
        makes = subst (λ (s : Step). MakesEvent s (event_of n answer)) (sym shown.0) (seal_makes n answer);
        does = seal_does n effects answer seals shown.1;
        writes_is = seal_tells n answer;
        doubts_is = d;
        settler = same;
      })
      doubts_is

  -- a doubt that is told again
  pub doubt_made : (n : ℕ) (effects : List Effect) → ShowsWork w (settler_step w) (work.Seal n effects) → before.writer.in_doubt ≡ true → new ≡ old → after.writer ≡ before.writer
      → IsToTell tells world faults shape w (settler_step w) before after old new (Doubt n) false true
  doubt_made n effects shown unsure host writer = record {
    makes = subst (λ (s : Step). MakesEvent s (Doubt n)) (sym shown.0) (inr (inr refl));
    does = inr (record { unsure = unsure; none = record { host = host; writer = writer } });
    writes_is = refl;
    doubts_is = refl;
    settler = same;
  }

  -- an entry
  pub write_made : (entry : Entry) → ShowsWork w (settler_step w) (work.Write entry) → WritesEntry tells world faults before.quiet shape w before.writer after.writer old new
      → IsToTell tells world faults shape w (settler_step w) before after old new Emitted true false
  write_made entry shown writes = record {
    makes = subst (λ (s : Step). MakesEvent s Emitted) (sym shown.0) refl;
    does = writes;
    writes_is = refl;
    doubts_is = refl;
    settler = same;
  }

  module _ (host : new ≡ old) (writer : after.writer ≡ before.writer) where
    -- the three cases without a host call
    pub decide_made : (n : ℕ) → settler_step w ≡ Decides n → IsToTell tells world faults shape w (settler_step w) before after old new (Decide n) false false
    decide_made n shown = record {
      makes = subst (λ (s : Step). MakesEvent s (Decide n)) (sym shown) refl;
      does = record { host = host; writer = writer };
      writes_is = refl;
      doubts_is = refl;
      settler = same;
    }

    pub learn_made : (u : UnitNo) (g : GrainId) → settler_step w ≡ Learns u g → IsToTell tells world faults shape w (settler_step w) before after old new (Learn u g) false false
    learn_made u g shown = record {
      makes = subst (λ (s : Step). MakesEvent s (Learn u g)) (sym shown) refl;
      does = record { host = host; writer = writer };
      writes_is = refl;
      doubts_is = refl;
      settler = same;
    }

    pub take_made : settler_step w ≡ Takes → IsToTell tells world faults shape w (settler_step w) before after old new Take false false
    take_made shown = record {
      makes = subst (λ (s : Step). MakesEvent s Take) (sym shown) refl;
      does = record { host = host; writer = writer };
      writes_is = refl;
      doubts_is = refl;
      settler = same;
    }

-- ---- a grain that is brought into memory

module _ {H : Type 0} (tells : Bool) (world : H → World) (faults : H → Channel → ℕ) (shape : Shape) (g : GrainId) (live : ℕ) (writer : BatchWriter) (old new : H) (version : Version) where
  -- where the versions stand it is the one that is to be loaded
  load_is_due : (read : Option Version) → ReadsLast tells world faults live shape g writer old new (Ok read) → version ≡ version_loaded shape g read
      → IsTrue tells → PlacesStand live shape writer (world old).disk → version ≡ version_due shape g (placed_in writer.places g)
  load_is_due None reads loads told stand = loads ∙ sym (ap (version_due shape g) reads.0)
  load_is_due (Some found) reads loads told stand = loads ∙ (reads.told told stand ∙ sym (ap (version_due shape g) reads.placed))

  -- nothing failed
  load_is_calm : (read : Option Version) → ReadsLast tells world faults live shape g writer old new (Ok read) → NoneFailed (faults old) (faults new)
  load_is_calm None reads = subst (λ (h : H). NoneFailed (faults old) (faults h)) (sym reads.1) (λ c. refl)
  load_is_calm (Some found) reads = reads.calm

module _ {H : Type 0} (tells : Bool) (world : H → World) (faults : H → Channel → ℕ) (shape : Shape) (w : CoreState) (step : Step) (a : Settler) (old new : H) (g : GrainId) (is : step ≡ Loads g)
    (asked : IsTrue tells → OnlyAsked (world old) (world new)) where
  -- it was read
  pub load_made : (read : Option Version) (u : UnitNo) (state : List Value) → ReadsLast tells world faults a.writer.slot shape g a.writer old new (Ok read)
      → record { unit = u; state = state } ≡ version_loaded shape g read → IsToTell tells world faults shape w step a a old new (Load g u state) false false
  load_made read u state reads loads = record {
    makes = subst (λ (s : Step). MakesEvent s (Load g u state)) (sym is) (u, state, refl);
    does = record {
      read = read;
      reads = reads;
      loads = loads;
      told = load_is_due tells world faults shape g a.writer.slot a.writer old new (record { unit = u; state = state }) read reads loads;
      calm = load_is_calm tells world faults shape g a.writer.slot a.writer old new (record { unit = u; state = state }) read reads;
      asked = asked;
      writer = refl;
    };
    writes_is = refl;
    doubts_is = refl;
    settler = refl;
  }

  -- it wasn't
  abbrev pub cant_bring : (fault : VersionFault) → ReadsLast tells world faults a.writer.slot shape g a.writer old new (Err fault) → CantBring tells world faults shape w step a a old new fault
  cant_bring fault reads = record { g = g; loads = is; reads = reads; asked = asked; settler = refl }

-- nothing is made, for want of memory
pub none_made : {H : Type 0} (tells : Bool) (world : H → World) (faults : H → Channel → ℕ) (shape : Shape) (w : CoreState) (step : Step) (before after : Settler) (old new : H) {E : Type 0} (r : Result Made E) → IsErr r
    → ((new ≡ old) × (after ≡ before)) ⊎ (LacksVersions tells world faults shape w step before after old new ⊎ CantBring tells world faults shape w step before after old new Memory)
    → MadeAs tells world faults shape w step before after old new r
none_made tells world faults shape w step before after old new (Ok m) err why = absurd (cc err)
none_made tells world faults shape w step before after old new (Err lack) err why = why

-- what is made of a version that wasn't read
pub fault_made : {H : Type 0} (tells : Bool) (world : H → World) (faults : H → Channel → ℕ) (shape : Shape) (w : CoreState) (step : Step) (a : Settler) (old new : H) (fault : VersionFault)
    → (c : CantBring tells world faults shape w step a a old new fault) → {E : Type 0} (r : Result Made E) → IsMadeOfFault (Grain a.writer.slot c.g) fault r → MadeAs tells world faults shape w step a a old new r
fault_made tells world faults shape w step a old new Failed c r is = subst (λ x. MadeAs tells world faults shape w step a a old new x) (sym is) (c, refl)
fault_made tells world faults shape w step a old new (Damaged place) c r is = subst (λ x. MadeAs tells world faults shape w step a a old new x) (sym is) (c, refl)
fault_made tells world faults shape w step a old new Memory c r is = none_made tells world faults shape w step a a old new r is (inr (inr c))
