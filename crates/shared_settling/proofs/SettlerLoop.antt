-- Step after step among others, and a stop at the end.
use Rattle.std.proofs.Common.{◌≡◌, ◌⊎◌, ⊎_elim, inl, inr, ℕ, ◌<◌, Bool, true, refl, sym, subst}
use Rattle.std.specs.Prelude.{Result, Ok, Err, is_some}
use Rattle.base_types.specs.declared.shapes.Shape.{Shape}
use Rattle.host_trait.specs.declared.channels.Channel.{Channel}
use Rattle.host_trait.specs.World.{World}
use Rattle.core_model.specs.declared.events.CoreEvent.{CoreEvent}
use Rattle.core_model.specs.declared.events.CoreEvent.TheVariants.{Halt}
use Rattle.core_model.specs.LegalRuns.{Run, ends}
use Rattle.core_access.specs.Sights.{Sight, run_seen, Looks, Counts}
use Rattle.core_access.proofs.Sights.{looks-none}
use Rattle.promise_spec.specs.UnitRule.{Basis}
use Rattle.worker_rules.specs.UnitOwnership.{KeepsPromise}
use Rattle.worker_rules.proofs.CallPromises.{looks-promise}
use Rattle.settle_loop.specs.declared.settler.Settler.{Settler}
use Rattle.run_books.specs.declared.faults.RunFault.{RunFault}
use Rattle.run_books.specs.declared.faults.RunFault.TheVariants.{InDoubt, WriteFault, Memory, LoadFault, LoadDamaged}
use Rattle.run_books.specs.RecordFrame.{TurnsBeside}
use Rattle.run_books.specs.SharedSteps.{SeesOn}
use Rattle.run_books.proofs.Reliance.{sees-look, sees-tell, sees-both, counts-on, relies-before}
use Rattle.shared_settling.specs.SharedSettler.{SettlesAmong, StopsAmong, EndsAmong, MayStop, EndsOthers, KnowsTruly, LeavesStopped, SettledAmong, BooksSettle}
use Rattle.shared_settling.proofs.KeptBooks.{can-again, settled-on, settled-fault}
use Rattle.run_books.proofs.SettlerFrame.{one-after-another, beside-fault}
use Rattle.shared_settling.proofs.OthersBooks.{looked-on, stopped-on}
use Rattle.shared_settling.proofs.PassSights.{among-both, among-look, stop-promise}
use Rattle.shared_settling.proofs.StepsBeside.{fault-leaves}
use Rattle.run_books.specs.Stages.{stage_by, side_by}

-- the books of what was seen by now go on to those of what is seen then, by the parts of what stands beside them
abbrev pub Booked : (T : Type 0) → Bool → Shape → Sight → Sight → Settler → Settler → (Channel → ℕ) → (Channel → ℕ) → World → World → Result T RunFault → Type 0
Booked T tells shape s t x y f g w v answer = BooksSettle {T = T} tells shape s t (side_by x f w) (side_by y g v) answer

-- ---- one after another

module _ (tells : Bool) (shape : Shape) (s0 s1 s2 : Sight) (x0 x1 x2 : Settler) (f0 f1 f2 : Channel → ℕ) (w0 w1 w2 : World) where
  -- the books, with the answer of what came last
  pub booked-on : (one : SettlesAmong s0 s1) (other : SettlesAmong s1 s2) → Booked Bool tells shape s0 s1 x0 x1 f0 f1 w0 w1 (Ok true) → (answer said : Result Bool RunFault) → answer ≡ said
      → Booked Bool tells shape s1 s2 x1 x2 f1 f2 w1 w2 answer → Booked Bool tells shape s0 s2 x0 x2 f0 f2 w0 w2 said
  booked-on one other books answer said is more o b can rely =
      let counts : Counts s1 = counts-on s0 s1 one.on can.share.counts in
      let g = books o b can (relies-before s1 s2 other.on o counts rely) in
      let k = more o g.goes.books (can-again tells o b shape s0 s1 x0 x1 f0 f1 w0 w1 true one can g) rely in
      settled-on tells o b (stage_by (run_seen s0) x0 f0 w0) (stage_by (run_seen s1) x1 f1 w1) (stage_by (run_seen s2) x2 f2 w2) {T = Bool} {U = Bool} true said g
      (subst (λ (y : Result Bool RunFault). SettledAmong {T = Bool} tells o g.goes.books (stage_by (run_seen s1) x1 f1 w1) (stage_by (run_seen s2) x2 f2 w2) y) is k)

  -- and what is left beside them
  pub beside-on : TurnsBeside {T = Bool} tells (stage_by (run_seen s0) x0 f0 w0) (stage_by (run_seen s1) x1 f1 w1) (Ok true) → (answer said : Result Bool RunFault) → answer ≡ said
      → TurnsBeside {T = Bool} tells (stage_by (run_seen s1) x1 f1 w1) (stage_by (run_seen s2) x2 f2 w2) answer → TurnsBeside {T = Bool} tells (stage_by (run_seen s0) x0 f0 w0) (stage_by (run_seen s2) x2 f2 w2) said
  beside-on one answer said is other =
      one-after-another {T = Bool} {U = Bool} tells (run_seen s0) (run_seen s1) (run_seen s2) x0 x1 x2 f0 f1 f2 w0 w1 w2 true said one
      (subst (TurnsBeside {T = Bool} tells (stage_by (run_seen s1) x1 f1 w1) (stage_by (run_seen s2) x2 f2 w2)) is other)

-- ---- a stop

-- What a fault leaves, and what was put behind it.
pub record LeavesFault (may : CoreEvent → Bool) (tells : Bool) (shape : Shape) (s u : Sight) (x y : Settler) (f g : Channel → ℕ) (w v : World) (fault : RunFault) : Type 0 where
  pub sees : SeesOn s u
  pub own : EndsAmong may s u {T = Unit} (Err fault)
  pub promise : (b : Basis) → KeepsPromise b s → KeepsPromise b u
  pub books : Booked Unit tells shape s u x y f g w v (Err fault)
  pub beside : TurnsBeside {T = Unit} tells (stage_by (run_seen s) x f w) (stage_by (run_seen u) y g v) (Err fault)

module _ (may : CoreEvent → Bool) (tells : Bool) (shape : Shape) (s t u : Sight) (x y : Settler) (f g : Channel → ℕ) (w v : World) (fault : RunFault) (stop : MayStop may t u) (among : SettlesAmong s t) where
  stop-on : SeesOn t u
  stop-on = ⊎_elim (λ l. sees-look may t u l) (λ l. sees-tell may t u Halt l.0 l.1) stop

  stop-promised : (b : Basis) → (KeepsPromise b s → KeepsPromise b t) → KeepsPromise b s → KeepsPromise b u
  stop-promised b kept p = ⊎_elim (λ l. looks-promise b may t u l (kept p)) (λ l. stop-promise b may t u l.0 l.1 (kept p)) stop

  stop-booked : Booked Bool tells shape s t x y f g w v (Err fault) → Booked Unit tells shape s u x y f g w v (Err fault)
  stop-booked books o b can rely =
      let counts : Counts t = counts-on s t among.on can.share.counts in
      let above : 0 < t.first.base = subst (λ (r : Run). 0 < r.base) (sym among.on.first) can.share.above in
      let was = books o b can (relies-before t u stop-on o counts rely) in
      settled-fault tells o b (stage_by (run_seen s) x f w) (stage_by (run_seen u) y g v) {T = Bool} {U = Unit} fault
      (⊎_elim
      (λ l. looked-on {T = Bool} tells o b (run_seen s) may t u x y f g w v fault above counts rely was l)
      (λ l. stopped-on {T = Bool} tells o b (run_seen s) may t u x y f g w v fault above counts rely was l.0 l.1)
      stop)

  stop-beside : TurnsBeside {T = Bool} tells (stage_by (run_seen s) x f w) (stage_by (run_seen t) y g v) (Err fault) → TurnsBeside {T = Unit} tells (stage_by (run_seen s) x f w) (stage_by (run_seen u) y g v) (Err fault)
  stop-beside beside = beside-fault tells (run_seen s) (run_seen u) x y f g w v {T = Bool} {U = Unit} fault (fault-leaves {T = Bool} tells (run_seen s) t u x y f g w v fault stop-on beside)

  -- a fault, and the stop behind it
  stop-leaves : EndsAmong may s u {T = Unit} (Err fault) → ((b : Basis) → KeepsPromise b s → KeepsPromise b t) → Booked Bool tells shape s t x y f g w v (Err fault)
      → TurnsBeside {T = Bool} tells (stage_by (run_seen s) x f w) (stage_by (run_seen t) y g v) (Err fault) → LeavesFault may tells shape s u x y f g w v fault
  stop-leaves own promise books beside = record {
    sees = sees-both s t u among.on stop-on;
    own = own;
    promise = λ b. stop-promised b (promise b);
    books = stop-booked books;
    beside = stop-beside beside;
  }

module _ (may : CoreEvent → Bool) (s t u : Sight) where
  -- it may have been put, whatever the fault
  may-stop : (fault : RunFault) → EndsOthers may fault t u → MayStop may t u
  may-stop InDoubt same = inl (subst (Looks may t) (sym same) (looks-none may t))
  may-stop WriteFault ends = ends.0
  may-stop Memory ends = ends.0
  may-stop (LoadFault file) ends = ends.0
  may-stop (LoadDamaged file place) ends = ends.0

  settles-or-stops : SettlesAmong s t → MayStop may t u → SettlesAmong s u ⊎ StopsAmong may s u
  settles-or-stops among stop = ⊎_elim (λ l. inl (among-both s t u among (among-look may t u l))) (λ l. inr (record { mid = t; settles = among; reply = l.0; stop = l.1 })) stop

  own-ends : (fault : RunFault) → EndsOthers may fault t u → SettlesAmong s t → EndsAmong may s u {T = Unit} (Err fault)
  own-ends InDoubt same among = subst (SettlesAmong s) (sym same) among
  own-ends WriteFault ends among = settles-or-stops among ends.0
  own-ends Memory ends among = settles-or-stops among ends.0
  own-ends (LoadFault file) ends among = settles-or-stops among ends.0
  own-ends (LoadDamaged file place) ends among = settles-or-stops among ends.0

  -- and then a stop or a doubt stands
  pub fault-stopped : (fault : RunFault) → EndsOthers may fault t u → (before after : Settler) → (KnowsTruly before (run_seen s) → KnowsTruly after (run_seen t)) → (fault ≡ InDoubt → after.doubted ≡ true)
      → LeavesStopped before s u {T = Unit} (Err fault)
  fault-stopped InDoubt same before after knows doubted = λ truly. subst (λ (x : Sight). is_some (ends (run_seen x)).manager.doubt ≡ true) (sym same) (knows truly (doubted refl))
  fault-stopped WriteFault ends before after knows doubted = ends.1
  fault-stopped Memory ends before after knows doubted = ends.1
  fault-stopped (LoadFault file) ends before after knows doubted = ends.1
  fault-stopped (LoadDamaged file place) ends before after knows doubted = ends.1

-- so what a fault leaves
module _ (may : CoreEvent → Bool) (tells : Bool) (shape : Shape) (s t u : Sight) (x y : Settler) (f g : Channel → ℕ) (w v : World) (fault : RunFault) (among : SettlesAmong s t) (ends : EndsOthers may fault t u) where
  pub fault-ends : ((b : Basis) → KeepsPromise b s → KeepsPromise b t) → Booked Bool tells shape s t x y f g w v (Err fault)
      → TurnsBeside {T = Bool} tells (stage_by (run_seen s) x f w) (stage_by (run_seen t) y g v) (Err fault) → LeavesFault may tells shape s u x y f g w v fault
  fault-ends promise books beside =
      stop-leaves may tells shape s t u x y f g w v fault (may-stop may s t u fault ends) among (own-ends may s t u fault ends among) promise books beside
