-- A step by its parts: what it saw, what it made of the host's answers, and what it told the core.
use Rattle.std.proofs.Common.{◌≡◌, ◌⊎◌, inl, inr, ℕ, Bool, sym, ap, subst, ◌∙◌}
use Rattle.std.specs.Prelude.{Result, Ok, Err, IsErr, ◌&&◌, ◌||◌, if◌then◌else◌}
use Rattle.base_types.specs.declared.shapes.Shape.{Shape}
use Rattle.host_trait.specs.declared.channels.Channel.{Channel}
use Rattle.host_trait.specs.World.{World}
use Rattle.grain_log.specs.declared.faults.VersionFault.TheVariants.{Memory}
use Rattle.core_model.specs.declared.events.CoreEvent.{CoreEvent}
use Rattle.core_model.specs.declared.events.CoreReply.{CoreReply}
use Rattle.core_access.specs.Sights.{Sight, Looks}
use Rattle.batch_disk.specs.declared.writer.BatchWriter.{BatchWriter}
use Rattle.settle_loop.specs.ShownWork.{has_applied, counted_up}
use Rattle.settle_loop.specs.HostSteps.{DoesFor}
use Rattle.settle_loop.specs.SettlerStep.{state_shown, written_after, doubted_after, ActsBy, PutsBy, IsLackingBy, LacksForVoteBy, IsNotTakenBy, IsUnseenBy, CantLoadBy, TurnsBy}
use Rattle.core_model.specs.CoreState.{CoreState}
use Rattle.core_model.specs.Settler.{Step, Rests}
use Rattle.settle_loop.specs.declared.cases.Made.{Made}
use Rattle.settle_loop.specs.declared.cases.Made.TheVariants.{Event, Idle, Stopped}
use Rattle.settle_loop.specs.StepParts.{with_writer, counting, IsToTell, MadeAs, IsTold, IsUnput, ToldAs}
use Rattle.settle_loop.specs.declared.settler.Settler.{Settler}
use Rattle.settle_loop.specs.declared.settler.Turned.{Turned}
use Rattle.settle_loop.specs.declared.settler.Turned.TheVariants.{Stepped, Nothing, Stop}
use Rattle.settle_loop.specs.declared.settler.StopCause.{StopCause}
use Rattle.settle_loop.specs.declared.settler.StopCause.TheVariants.{InDoubt, WriteFault, LoadFault, LoadDamaged}

-- a step that stops
abbrev pub made_stopped : {E : Type 0} → StopCause → Result Made E
made_stopped cause = Ok (Stopped cause)

abbrev pub turned_stop : {E : Type 0} → StopCause → Result Turned E
turned_stop cause = Ok (Stop cause)

module _ {H : Type 0} (tells : Bool) (world : H → World) (faults : H → Channel → ℕ) (may_come : CoreEvent → Bool) (shape : Shape) (next : CoreState → Step)
    (before mid after : Settler) (s seen t : Sight) (old new : H) (e : CoreEvent) (writes doubts : Bool)
    (looked : Looks may_come s seen) (made : IsToTell tells world faults shape (state_shown seen) (next (state_shown seen)) before mid old new e writes doubts) (writer : after.writer ≡ mid.writer) where
  acts : ActsBy tells world faults may_come shape next before after s e old new
  acts = record {
    seen = seen;
    looked = looked;
    makes = made.makes;
    does = subst (λ (x : BatchWriter). DoesFor tells world faults before.writer.slot e before.quiet shape (state_shown seen) before.writer x old new) (sym writer) made.does;
  }

  counted : (r : CoreReply) → after ≡ counting writes doubts r mid
      → after ≡ record before { writer = after.writer; written = written_after e r before.written; doubted = doubted_after e r before.doubted }
  counted r counts = counts ∙ (ap (counting writes doubts r) made.settler ∙ (λ i. record before {
    writer = sym writer i;
    written = (if made.writes_is i && has_applied r then counted_up before.written else before.written);
    doubted = (before.doubted || (made.doubts_is i && has_applied r));
  }))

  puts : (r : CoreReply) (m : Sight) → IsTold may_come e writes doubts mid after seen t r m → PutsBy tells world faults may_come shape next before after s e r m old new
  unfolding acts
  puts r m told = record { acts = acts; told = told.told; counts = counted r told.counts }

  refused : IsUnput may_come e writes doubts mid after seen t → IsNotTakenBy tells world faults may_come shape next before after s t e old new
  unfolding acts
  refused u = record {
    acts = acts;
    unput = u.looked;
    unspared = u.unspared;
    settler = u.settler ∙ (made.settler ∙ ap (with_writer before) (sym u.settler));
  }

  pub turned : {E : Type 0} (result : Result Turned E) → ToldAs may_come e writes doubts mid after seen t result → TurnsBy tells world faults may_come shape next before after s t old new result
  turned (Ok Stepped) x = record { e = e; r = x.0; mid = x.1.0; put = puts x.0 x.1.0 x.1.1.0; looked = x.1.1.1 }
  turned (Ok Nothing) x = absurd x
  turned (Ok (Stop InDoubt)) x =
      let d = x.1.1.0 in
      record { e = e; r = x.0; mid = x.1.0; put = puts x.0 x.1.0 d.put; applied = d.applied; doubts = d.doubts_now; looked = d.looked; written = x.1.1.1 }
  turned (Ok (Stop WriteFault)) x = absurd x
  turned (Ok (Stop (LoadFault file))) x = absurd x
  turned (Ok (Stop (LoadDamaged file place))) x = absurd x
  turned (Err lack) (inl u) = inr (inr (inl (e, refused u)))
  turned (Err lack) (inr x) =
      let d = x.1.1 in
      inr (inr (inr (inl (record { e = e; r = x.0; mid = x.1.0; put = puts x.0 x.1.0 d.put; applied = d.applied; doubts = d.doubts_now; looked = d.looked }))))

module _ {H : Type 0} (tells : Bool) (world : H → World) (faults : H → Channel → ℕ) (shape : Shape) (w : CoreState) (step : Step) (before mid : Settler) (old new : H)
    {E : Type 0} (r : Result Made E) (m : Made) (ok : r ≡ Ok m) (made : MadeAs tells world faults shape w step before mid old new r) where
  -- what was made, by its kind
  pub acted_event : (e : CoreEvent) (writes doubts : Bool) → m ≡ Event e writes doubts → IsToTell tells world faults shape w step before mid old new e writes doubts
  acted_event e writes doubts is = subst (λ (x : Result Made E). MadeAs tells world faults shape w step before mid old new x) (ok ∙ ap (λ (x : Made). Ok x) is) made

  pub acted_idle : m ≡ Idle → (step ≡ Rests) × ((new ≡ old) × (mid ≡ before))
  acted_idle is = subst (λ (x : Result Made E). MadeAs tells world faults shape w step before mid old new x) (ok ∙ ap (λ (x : Made). Ok x) is) made

  acted_stopped : (cause : StopCause) → m ≡ Stopped cause → MadeAs tells world faults shape w step before mid old new (made_stopped {E = E} cause)
  acted_stopped cause is = subst (λ (x : Result Made E). MadeAs tells world faults shape w step before mid old new x) (ok ∙ ap (λ (x : Made). Ok x) is) made

-- what it comes to where it stops
pub stops : {H : Type 0} (tells : Bool) (world : H → World) (faults : H → Channel → ℕ) (may_come : CoreEvent → Bool) (shape : Shape) (next : CoreState → Step) (s t : Sight) (before mid : Settler) (old new : H) → Looks may_come s t
    → {E : Type 0} (r : Result Made E) (m : Made) → r ≡ Ok m → (cause : StopCause) → m ≡ Stopped cause → MadeAs tells world faults shape (state_shown t) (next (state_shown t)) before mid old new r
    → TurnsBy tells world faults may_come shape next before mid s t old new (turned_stop {E = E} cause)
stops tells world faults may_come shape next s t before mid old new looked {E} r m ok cause is made =
    by cause (acted_stopped tells world faults shape (state_shown t) (next (state_shown t)) before mid old new r m ok made cause is)
  where
    by : (c : StopCause) → MadeAs tells world faults shape (state_shown t) (next (state_shown t)) before mid old new (made_stopped {E = E} c)
        → TurnsBy tells world faults may_come shape next before mid s t old new (turned_stop {E = E} c)
    by InDoubt x = absurd x
    by WriteFault x = record { looked = looked; writes = x.0; cut = x.1.0; settler = x.1.1 }
    by (LoadFault file) x = (record { looked = looked; g = x.0.g; loads = x.0.loads; reads = x.0.reads; asked = x.0.asked; settler = x.0.settler }, x.1)
    by (LoadDamaged file place) x = (record { looked = looked; g = x.0.g; loads = x.0.loads; reads = x.0.reads; asked = x.0.asked; settler = x.0.settler }, x.1)

-- nothing was put, or the look behind it found no memory
pub none_turned : {H : Type 0} (tells : Bool) (world : H → World) (faults : H → Channel → ℕ) (may_come : CoreEvent → Bool) (shape : Shape) (next : CoreState → Step) (s t : Sight) (before after : Settler) (old new : H) {E : Type 0} (r : Result Turned E) → IsErr r
    → IsLackingBy tells world faults may_come shape next before after s t old new ⊎ (LacksForVoteBy tells world faults may_come shape next before after s t old new
    ⊎ (((e : CoreEvent) × IsNotTakenBy tells world faults may_come shape next before after s t e old new) ⊎ (IsUnseenBy tells world faults may_come shape next before after s t old new ⊎ CantLoadBy tells world faults may_come shape next Memory before after s t old new)))
    → TurnsBy tells world faults may_come shape next before after s t old new r
none_turned tells world faults may_come shape next s t before after old new (Ok x) err why = absurd (cc err)
none_turned tells world faults may_come shape next s t before after old new (Err lack) err why = why

-- nothing was made, for want of memory
pub acted_none : {H : Type 0} (tells : Bool) (world : H → World) (faults : H → Channel → ℕ) (may_come : CoreEvent → Bool) (shape : Shape) (next : CoreState → Step) (s t : Sight) (before mid : Settler) (old new : H)
    → Looks may_come s t → {E F : Type 0} (r : Result Made E) (lack : E) (answer : Result Turned F) → IsErr answer → r ≡ Err lack → MadeAs tells world faults shape (state_shown t) (next (state_shown t)) before mid old new r
    → TurnsBy tells world faults may_come shape next before mid s t old new answer
acted_none tells world faults may_come shape next s t before mid old new looked {E} r lack answer err is made =
    none_turned tells world faults may_come shape next s t before mid old new answer err
    (elim (subst (λ (x : Result Made E). MadeAs tells world faults shape (state_shown t) (next (state_shown t)) before mid old new x) is made) [
      | inl same ↦ inl (record { looked = looked; host = same.0; settler = same.1 })
      | inr (inl v) ↦ inr (inl (record { looked = looked; n = v.n; g = v.g; votes = v.votes; lacks = v.lacks; settler = v.settler }))
      | inr (inr v) ↦ inr (inr (inr (inr (record { looked = looked; g = v.g; loads = v.loads; reads = v.reads; asked = v.asked; settler = v.settler }))))
    ])
