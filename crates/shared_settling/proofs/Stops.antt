-- A stop or a doubt that stands behind a failure.
use Rattle.std.proofs.Common.{◌≡◌, ⊎_elim, inl, inr, ℕ, [], ◌∷◌, Bool, true, false, true≢false, Option, Some, None, refl, sym, ap, ◌∙◌, subst}
use Rattle.std.specs.Prelude.{Result, Ok, Err, IfOk, IfErr, ◌&&◌, ◌||◌, not, is_some, is_none, if◌then◌else◌}
use Rattle.std.proofs.lemmas.Bool.{and_parts, or_cases}
use Rattle.base_types.specs.declared.shapes.Shape.{Shape}
use Rattle.host_trait.specs.declared.channels.Channel.{Channel}
use Rattle.host_trait.specs.World.{World}
use Rattle.core_model.specs.CoreState.{CoreState}
use Rattle.core_model.specs.LockAnswers.{IsGoing}
use Rattle.core_model.specs.Changes.{swept, swept_by}
use Rattle.core_model.specs.declared.events.CoreEvent.{CoreEvent}
use Rattle.core_model.specs.declared.events.CoreEvent.TheVariants.{Halt}
use Rattle.core_model.specs.declared.events.CoreReply.{CoreReply}
use Rattle.core_model.specs.Events.{applies, does, reply_to}
use Rattle.core_model.specs.Laws.{extended}
use Rattle.core_model.specs.LegalRuns.{Run, ends}
use Rattle.core_laws.proofs.Replies.{reply-tells}
use Rattle.core_access.specs.Sights.{Sight, run_seen, saw, Looks, Tells}
use Rattle.core_access.specs.CallsWithoutMemory.{is_spared, has_room}
use Rattle.core_access.proofs.Sights.{run-told}
use Rattle.settler_rules.proofs.Commits.{doubt-stays}
use Rattle.settler_rules.proofs.StandingVotes.{ends-more}
use Rattle.settle_loop.specs.ShownWork.{tells_doubt, has_applied}
use Rattle.settle_loop.specs.SettlerStep.{TurnsAs, PutsNext}
use Rattle.settle_loop.specs.declared.settler.Settler.{Settler}
use Rattle.settle_loop.specs.declared.settler.Turned.{Turned}
use Rattle.settle_loop.specs.declared.settler.Turned.TheVariants.{Stepped, Nothing, Stop}
use Rattle.settle_loop.specs.declared.settler.StopCause.TheVariants.{InDoubt, WriteFault, LoadFault, LoadDamaged}
use Rattle.run_books.specs.SharedSteps.{SeesOn}
use Rattle.run_books.proofs.BooksCore.{moves-run, unapplied-run}
use Rattle.run_books.proofs.BooksShared.{looks-behind}
use Rattle.run_books.proofs.Fronts.{events_told}
use Rattle.run_books.proofs.Reliance.{sees-look, sees-tell, sees-both}
use Rattle.shared_settling.specs.SharedSettler.{HasToStop, KnowsTruly, MayStop}
use Rattle.shared_settling.proofs.KeptBooks.{some-of}
use Rattle.shared_settling.proofs.StepsBeside.{run-goes}

-- ---- a stop

-- where a stop doesn't apply, one stands already, or a doubt
barred-stop : (w : CoreState) → applies w Halt ≡ false → IsGoing w → ⊥
barred-stop w none going = true≢false (sym possible ∙ none)
  where
    possible : applies w Halt ≡ true
    possible = λ i. ((is_none (going.0 i) || false) && (not (going.1 i) || false)) && not (going.1 i)

-- so where there was no memory for it
spared_stop : (r : Run) → is_spared r Halt ≡ false → HasToStop r
spared_stop r none = record { stopped = barred-stop (ends r) (by (applies (ends r) Halt) none) }
  where
    by : (a : Bool) → (a && has_room Halt) ≡ false → a ≡ false
    by true q = absurd (true≢false q)
    by false q = refl

-- and where it was put
swept-halt : (w : CoreState) → (swept w).units.halt ≡ w.units.halt
swept-halt w = go w.cells.capacity
  where
    go : (c : Option ℕ) → (swept_by w c).units.halt ≡ w.units.halt
    go None = refl
    go (Some n) = refl

told-stop : (r : Run) → HasToStop (extended r (Halt ∷ []))
told-stop r = by (applies (ends r) Halt) refl
  where
    by : (a : Bool) → applies (ends r) Halt ≡ a → HasToStop (extended r (Halt ∷ []))
    by true a = record {
      stopped = λ going.
          let stands : (ends (extended r (Halt ∷ []))).units.halt ≡ true =
          ap (λ (w : CoreState). w.units.halt) (ends-more r (Halt ∷ [])) ∙ ap (λ (x : Bool). (if x then swept (does (ends r) Halt) else ends r).units.halt) a ∙ swept-halt (does (ends r) Halt) in
          true≢false (sym stands ∙ going.1);
    }
    by false a = record { stopped = λ going. barred-stop (ends r) a (subst IsGoing (unapplied-run r Halt a) going) }

put_stop : (may : CoreEvent → Bool) (s t : Sight) (r : CoreReply) → Tells may s Halt r t → HasToStop (run_seen t)
put_stop may s t r l = subst HasToStop (sym (ap run_seen l.sight ∙ run-told (saw s l.rest) Halt r)) (told-stop (run_seen (saw s l.rest)))

-- so one stands behind an attempt to put it, whatever that answered
pub tried-stop : {E : Type 0} (Back : E → Type 0) (may : CoreEvent → Bool) (s t : Sight) (answer : Result CoreReply E) → IfOk answer (λ r. Tells may s Halt r t)
    → IfErr answer (λ e. Back e × Looks may s t) → IfErr answer (λ e. is_spared (run_seen t) Halt ≡ false) → MayStop may s t × HasToStop (run_seen t)
tried-stop Back may s t (Ok r) told refused unspared = (inr (r, told), put_stop may s t r told)
tried-stop Back may s t (Err e) told refused unspared = (inl refused.1, spared_stop (run_seen t) unspared)

-- ---- a doubt

-- one that stands, stands
doubt-on : (s t : Sight) → SeesOn s t → is_some (ends (run_seen s)).manager.doubt ≡ true → is_some (ends (run_seen t)).manager.doubt ≡ true
doubt-on s t on stands =
    let left = some-of (ends (run_seen s)).manager.doubt stands in
    ap (λ (r : Run). is_some (ends r).manager.doubt) (run-goes s t on) ∙ ap is_some (doubt-stays (run_seen s) (events_told on.rest) left.0 left.1).doubt ∙ stands

-- an event applied that was answered so
applied-so : (w : CoreState) (e : CoreEvent) (r : CoreReply) → r ≡ reply_to w e → has_applied r ≡ true → applies w e ≡ true
applied-so w e r reply applied = by (applies w e) (sym (ap has_applied reply ∙ ap not (reply-tells w e)) ∙ applied)
  where
    by : (a : Bool) → not (not a) ≡ true → a ≡ true
    by true q = refl
    by false q = absurd (true≢false (sym q))

-- a doubt stands behind its event
told-doubt : (may : CoreEvent → Bool) (s t : Sight) (e : CoreEvent) (r : CoreReply) → Tells may s e r t → tells_doubt e ≡ true → has_applied r ≡ true → is_some (ends (run_seen t)).manager.doubt ≡ true
told-doubt may s t e r l doubts applied =
    let front : Run = run_seen (saw s l.rest) in
    ap (λ (x : Sight). is_some (ends (run_seen x)).manager.doubt) l.sight ∙ ap (λ (x : Run). is_some (ends x).manager.doubt) (run-told (saw s l.rest) e r)
    ∙ ap is_some ((moves-run front e (applied-so (ends front) e r l.reply applied)).doubted doubts).1

module _ {H : Type 0} (tells : Bool) (world : H → World) (faults : H → Channel → ℕ) (may : CoreEvent → Bool) (shape : Shape) (before after : Settler) (s t : Sight) (old new : H) (truly : KnowsTruly before (run_seen s)) where
  -- what the settler knows of after its event stands
  knows-put : (e : CoreEvent) (r : CoreReply) (mid : Sight) → PutsNext tells world faults may shape before after s e r mid old new → Looks may mid t → KnowsTruly after (run_seen t)
  knows-put e r mid u l q =
      let on : SeesOn s mid = sees-both s u.acts.seen mid (sees-look may s u.acts.seen u.acts.looked) (sees-tell may u.acts.seen mid e r u.told) in
      doubt-on mid t (sees-look may mid t l)
      (⊎_elim
      (λ (knew : before.doubted ≡ true). doubt-on s mid on (truly knew))
      (λ (now : (tells_doubt e && has_applied r) ≡ true). let p = and_parts (tells_doubt e) (has_applied r) now in told-doubt may u.acts.seen mid e r u.told p.0 p.1)
      (or_cases before.doubted (tells_doubt e && has_applied r) (sym (ap (λ (x : Settler). x.doubted) u.counts) ∙ q)))

  -- and what it knew of, where it put none
  knows-on : after.doubted ≡ before.doubted → SeesOn s t → KnowsTruly after (run_seen t)
  knows-on same on q = doubt-on s t on (truly (sym same ∙ q))

  -- by a step
  pub step-knows : {E : Type 0} (result : Result Turned E) → TurnsAs tells world faults may shape before after s t old new result → KnowsTruly after (run_seen t)
  step-knows (Ok Stepped) u = knows-put u.e u.r u.mid u.put (looks-behind may (after.doubted && has_applied u.r) u.mid t u.looked)
  step-knows (Ok Nothing) u = knows-on (ap (λ (x : Settler). x.doubted) u.settler) (sees-look may s t u.looked)
  step-knows (Ok (Stop InDoubt)) u = knows-put u.e u.r u.mid u.put u.looked
  step-knows (Ok (Stop WriteFault)) u = knows-on (ap (λ (x : Settler). x.doubted) u.settler) (sees-look may s t u.looked)
  step-knows (Ok (Stop (LoadFault file))) u = knows-on (ap (λ (x : Settler). x.doubted) u.0.settler) (sees-look may s t u.0.looked)
  step-knows (Ok (Stop (LoadDamaged file place))) u = knows-on (ap (λ (x : Settler). x.doubted) u.0.settler) (sees-look may s t u.0.looked)
  step-knows (Err lack) (inl u) = knows-on (ap (λ (x : Settler). x.doubted) u.settler) (sees-look may s t u.looked)
  step-knows (Err lack) (inr (inl u)) = knows-on (ap (λ (x : Settler). x.doubted) u.settler) (sees-look may s t u.looked)
  step-knows (Err lack) (inr (inr (inl u))) =
      knows-on (ap (λ (x : Settler). x.doubted) u.1.settler) (sees-both s u.1.acts.seen t (sees-look may s u.1.acts.seen u.1.acts.looked) (sees-look may u.1.acts.seen t u.1.unput))
  step-knows (Err lack) (inr (inr (inr (inl u)))) = knows-put u.e u.r u.mid u.put u.looked
  step-knows (Err lack) (inr (inr (inr (inr u)))) = knows-on (ap (λ (x : Settler). x.doubted) u.settler) (sees-look may s t u.looked)
