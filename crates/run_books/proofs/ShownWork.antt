-- What a step of the settler showed stays while others put their events.
use Rattle.std.proofs.Common.{◌≡◌, inl, inr, ℕ, ◌<◌, List, [], ◌∷◌, Bool, true, false, true≢false, not, ◌&&◌, refl, sym, ap, ◌∙◌, subst, Option, Some, None, is_some, nat_lt, length}
use Rattle.std.specs.Prelude.{slice_get, if◌then◌else◌, IsTrue}
use Rattle.base_types.specs.declared.calls.GrainId.{GrainId}
use Rattle.base_types.specs.declared.entries.Entry.{Entry}
use Rattle.base_types.specs.declared.shapes.Shape.{Shape}
use Rattle.host_trait.specs.declared.channels.Channel.{Channel}
use Rattle.host_trait.specs.World.{World}
use Rattle.core_model.specs.CoreState.{UnitNo, Batch, CoreState}
use Rattle.core_model.specs.declared.effects.Effect.{Effect}
use Rattle.core_model.specs.declared.events.CoreEvent.{CoreEvent}
use Rattle.core_model.specs.declared.events.CoreEvent.TheVariants as event
use Rattle.core_model.specs.Events.{applies}
use Rattle.core_model.specs.LearnQueue.{next_learn}
use Rattle.core_model.specs.WantedGrains.{next_wanted}
use Rattle.core_model.specs.Laws.{extended}
use Rattle.core_model.specs.LegalRuns.{Run, begins, ends}
use Rattle.core_model.specs.SerialOrder.{AllLoadsTrue}
use Rattle.core_model.specs.Replies.{OnlyExtends}
use Rattle.core_model.specs.Settler.{Writes, Takes, Rests, settler_step, batch_step, later_step, load_step, last_step, learn_step, to_commit, versions_to_write}
use Rattle.core_laws.proofs.Replies.{extends-ends}
use Rattle.core_access.specs.Histories.{Told, run_after}
use Rattle.core_access.specs.SettlerEvents.{is_settling, leaves_settling, LeavesBatches}
use Rattle.core_access.specs.Sights.{AllPass}
use Rattle.core_access.proofs.SettlerEvents.{others-leave}
use Rattle.promise_spec.specs.UnitRule.{Basis, KeepsUnitRule}
use Rattle.settler_rules.proofs.SealWork.{shown-stay}
use Rattle.batch_disk.specs.declared.writer.BatchWriter.{BatchWriter}
use Rattle.settle_loop.specs.HostSteps.{SealsUnits, DoesFor}
use Rattle.run_books.proofs.BooksStated.{DidFor}
use Rattle.run_books.proofs.BooksVersions.{loads-on, others-true}
use Rattle.run_books.proofs.BooksSettled.{is_of_batch}
use Rattle.run_books.proofs.Fronts.{after-units, get-front}
use Rattle.run_books.proofs.ShownVersions.{versions-stay}

-- it isn't the settler's
pub not-settling : (e : CoreEvent) → leaves_settling e ≡ true → is_settling e ≡ false
not-settling e q = by (is_settling e) q
  where
    by : (b : Bool) → not b ≡ true → b ≡ false
    by false t = refl
    by true t = absurd (true≢false (sym t))

-- What is shown for a step stays: the open batch, where this holds versions for a vote, units to commit, how much is written, the doubt,
-- and the entry that is next.
pub record Stays (loaded : Type 0) (w w' : CoreState) : Type 0 where
  pub batch : w'.manager.batch ≡ w.manager.batch
  pub versions : loaded → (g : GrainId) → versions_to_write w' w'.manager.batch g ≡ versions_to_write w w.manager.batch g
  pub commits : to_commit w' w'.manager.batch ≡ to_commit w w.manager.batch
  pub doubt : w'.manager.doubt ≡ w.manager.doubt
  pub next : (x : Entry) → slice_get w.manager.settled w.manager.emitted ≡ Some x → slice_get w'.manager.settled w'.manager.emitted ≡ Some x

-- each load so far was true
abbrev pub LoadsTrue : Run → Type 0
LoadsTrue r = AllLoadsTrue r.opening (begins r) r.events

-- by one event of others
stays-one : (s : Basis) (r : Run) (e : CoreEvent) → 0 < r.base → KeepsUnitRule s r → is_settling e ≡ false → Stays (LoadsTrue r) (ends r) (ends (extended r (e ∷ [])))
stays-one s r e above keeps other =
    let leaves : LeavesBatches (ends r) (ends (extended r (e ∷ []))) = others-leave r e other in
    let more : OnlyExtends (ends r) (ends (extended r (e ∷ []))) = extends-ends r (e ∷ []) in
    record {
      batch = leaves.batch;
      versions = λ loads g. versions-stay s r above loads keeps e other g;
      commits = shown-stay r above e other;
      doubt = leaves.doubt;
      next = λ x q.
          (λ i. slice_get (more.settled.1 i) (leaves.emitted i)) ∙ (get-front (ends r).manager.settled more.settled.0 (ends r).manager.emitted x q).0;
    }

stays-both : (P Q : Type 0) (u v w : CoreState) → (P → Q) → Stays P u v → Stays Q v w → Stays P u w
stays-both P Q u v w on a b = record {
  batch = b.batch ∙ a.batch;
  versions = λ loads g. b.versions (on loads) g ∙ a.versions loads g;
  commits = b.commits ∙ a.commits;
  doubt = b.doubt ∙ a.doubt;
  next = λ x q. b.next x (a.next x q);
}

-- by all of them
pub stays-all : (s : Basis) (rest : List Told) (r : Run) → 0 < r.base → KeepsUnitRule s (run_after r rest) → AllPass leaves_settling rest → Stays (LoadsTrue r) (ends r) (ends (run_after r rest))
stays-all s [] r above keeps all = record { batch = refl; versions = λ loads g. refl; commits = refl; doubt = refl; next = λ x q. q }
stays-all s (x ∷ rest) r above keeps all =
    stays-both (LoadsTrue r) (LoadsTrue (extended r (x.event ∷ []))) (ends r) (ends (extended r (x.event ∷ []))) (ends (run_after r (x ∷ rest)))
    (λ loads. loads-on r x.event loads (others-true r x.event (not-settling x.event (all x (inl refl)))))
    (stays-one s r x.event above (after-units r (x ∷ rest) s keeps) (not-settling x.event (all x (inl refl))))
    (stays-all s rest (extended r (x.event ∷ [])) above keeps (λ y i. all y (inr i)))

-- ---- the step

load-none : (w : CoreState) (x : Option GrainId) → is_of_batch (load_step w x) ≡ false
load-none w None = by (applies w event.Take)
  where
    by : (takes : Bool) → is_of_batch (if takes then Takes else Rests) ≡ false
    by true = refl
    by false = refl
load-none w (Some g) = refl

last-none : (w : CoreState) (may : Bool) → is_of_batch (last_step w may) ≡ false
last-none w may = by (nat_lt w.manager.emitted (length w.manager.settled)) (may && not w.units.halt)
  where
    by : (a c : Bool) → is_of_batch (if a then Writes else (if c then load_step w (next_wanted w) else Rests)) ≡ false
    by true c = refl
    by false true = load-none w (next_wanted w)
    by false false = refl

learn-none : (w : CoreState) (x : Option (UnitNo × GrainId)) → is_of_batch (learn_step w x) ≡ false
learn-none w None = last-none w true
learn-none w (Some x) = refl

later-none : (w : CoreState) → is_of_batch (later_step w) ≡ false
later-none w = by (is_some w.manager.doubt)
  where
    by : (b : Bool) → is_of_batch (if b then last_step w false else learn_step w (next_learn w)) ≡ false
    by true = last-none w false
    by false = learn-none w (next_learn w)

-- a step of the open batch stays the step
pub step-stays : (w w' : CoreState) → w'.manager.batch ≡ w.manager.batch → is_of_batch (settler_step w) ≡ true → settler_step w' ≡ settler_step w
step-stays w w' same of = by w.manager.batch refl
  where
    by : (o : Option Batch) → w.manager.batch ≡ o → settler_step w' ≡ settler_step w
    by None q = absurd (true≢false (sym of ∙ ap (λ (x : Option Batch). is_of_batch (batch_step w x)) q ∙ later-none w))
    by (Some b) q = ap (batch_step w') (same ∙ q) ∙ sym (ap (batch_step w) q)

-- ---- what was done for it

module _ {H : Type 0} (tells : Bool) (world : H → World) (faults : H → Channel → ℕ) (live : ℕ) (quiet : Bool) (shape : Shape) (w w' : CoreState) (before after : BatchWriter) (old new : H) (loaded : Type 0) (loads : IsTrue tells → loaded) (s : Stays loaded w w') where
  abbrev Does : CoreEvent → CoreState → Type 0
  Does e v = DoesFor tells world faults live e quiet shape v before after old new

  abbrev Did : CoreEvent → CoreState → Type 0
  Did e v = DidFor tells world faults live e quiet shape v before after old new

  seals-on : (n : ℕ) (e : CoreEvent) → SealsUnits tells world faults live n e (to_commit w w.manager.batch) before after old new → SealsUnits tells world faults live n e (to_commit w' w'.manager.batch) before after old new
  seals-on n e = subst (λ (es : List Effect). SealsUnits tells world faults live n e es before after old new) (sym s.commits)

  -- it was done for the event in the later state
  pub does-on : (e : CoreEvent) → Does e w → Did e w'
  does-on (event.Vote n g said) d = (versions_to_write w w.manager.batch g, (λ t. sym (s.versions (loads t) g)), d)
  does-on (event.Sealed n) d = seals-on n (event.Sealed n) d
  does-on (event.NotSealed n) d = seals-on n (event.NotSealed n) d
  does-on (event.Doubt n) (inl d) = inl (seals-on n (event.Doubt n) d)
  does-on (event.Doubt n) (inr d) = inr d
  does-on event.Emitted d = record { entry = d.entry; range = d.range; next = s.next d.entry d.next; line = d.line; writer = d.writer }
  does-on event.Take d = d
  does-on (event.Decide n) d = d
  does-on (event.Learn u g) d = d
  does-on (event.Bad n why) d = d
  does-on (event.Begin origin call plain) d = d
  does-on (event.Grant u g mode) d = d
  does-on (event.Refuse u g mode) d = d
  does-on (event.Finish u effect) d = d
  does-on (event.EndPlain u effect) d = d
  does-on (event.EndSnapshot u at outcome) d = d
  does-on (event.Release u g) d = d
  does-on event.Halt d = d
  does-on (event.Want u g) d = d
  does-on (event.Load g u state) d = d
