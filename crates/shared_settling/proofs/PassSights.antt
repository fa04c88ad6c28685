-- What a step of the settler leaves of what was seen, and of what was put, among others.
use Rattle.std.proofs.Common.{◌≡◌, ⊎_elim, inl, inr, ℕ, List, [], ◌∷◌, ◌++◌, Bool, true, false, true≢false, refl, sym, ap, ◌∙◌, subst, append-nil, append_assoc}
use Rattle.std.specs.Prelude.{Result, Ok, Err, ◌&&◌}
use Rattle.base_types.specs.declared.shapes.Shape.{Shape}
use Rattle.host_trait.specs.declared.channels.Channel.{Channel}
use Rattle.host_trait.specs.World.{World}
use Rattle.core_model.specs.declared.events.CoreEvent.{CoreEvent}
use Rattle.core_model.specs.declared.events.CoreEvent.TheVariants.{Halt}
use Rattle.core_model.specs.declared.events.CoreReply.{CoreReply}
use Rattle.core_model.specs.CoreState.{CoreState}
use Rattle.core_model.specs.Events.{applies}
use Rattle.core_model.specs.Laws.{extended}
use Rattle.core_model.specs.LegalRuns.{Run, ends}
use Rattle.core_model.specs.Settler.{MakesEvent, Step, Votes, Decides, Seals, Learns, Writes, Loads, Takes, Rests, settler_step}
use Rattle.turn_cell.specs.History.{entry}
use Rattle.core_access.specs.Histories.{Told, run_after}
use Rattle.core_access.specs.SettlerEvents.{is_settling}
use Rattle.core_access.specs.Sights.{Sight, run_seen, saw, AllPass, Looks, Tells, Counts, IsAlone}
use Rattle.core_access.proofs.Entries.{run-on}
use Rattle.core_access.proofs.Sights.{looks-before, tells-before, looks-counts, tells-counts, pass-append, run-told}
use Rattle.promise_spec.specs.UnitRule.{Basis}
use Rattle.worker_rules.specs.UnitOwnership.{KeepsPromise}
use Rattle.worker_rules.specs.Work.{is_work}
use Rattle.worker_rules.proofs.CallPromises.{looks-promise, tells-promise, settles-promise}
use Rattle.settle_loop.specs.ShownWork.{has_applied}
use Rattle.settle_loop.specs.SettlerStep.{TurnsAs, LooksOn, PutsNext, state_shown}
use Rattle.settle_loop.specs.declared.settler.Settler.{Settler}
use Rattle.settle_loop.specs.declared.settler.Turned.{Turned}
use Rattle.settle_loop.specs.declared.settler.Turned.TheVariants.{Stepped, Nothing, Stop}
use Rattle.settle_loop.specs.declared.settler.StopCause.TheVariants.{InDoubt, WriteFault, LoadFault, LoadDamaged}
use Rattle.run_books.specs.SharedSteps.{SeesOn}
use Rattle.run_books.proofs.BooksCore.{is_halt, moves-run, unapplied-run}
use Rattle.run_books.proofs.Reliance.{sees-none, sees-look, sees-tell, sees-both}
use Rattle.shared_settling.specs.SharedSettler.{SettlesAmong}

-- ---- the calls of a step

-- the events of its steps are the settler's
makes-settling : (x : Step) (e : CoreEvent) → MakesEvent x e → is_settling e ≡ true
makes-settling (Votes n g) e m = ap is_settling m.1
makes-settling (Decides n) e m = ap is_settling m
makes-settling (Seals n) e (inl m) = ap is_settling m
makes-settling (Seals n) e (inr (inl m)) = ap is_settling m
makes-settling (Seals n) e (inr (inr m)) = ap is_settling m
makes-settling (Learns u g) e m = ap is_settling m
makes-settling Writes e m = ap is_settling m
makes-settling (Loads g) e m = ap is_settling m.2
makes-settling Takes e m = ap is_settling m
makes-settling Rests e m = absurd m

-- what stays by each look, and by the event of a step that is put, stays by the whole step
module _ (may : CoreEvent → Bool) (P : Sight → Type 0) (looks : (s t : Sight) → Looks may s t → P s → P t)
    (tells : (s t : Sight) (e : CoreEvent) (r : CoreReply) → Tells may s e r t → is_settling e ≡ true → P s → P t) where
  looks-last : (b : Bool) (s t : Sight) → LooksOn may b s t → P s → P t
  looks-last true s t l p = looks s t l.0 p
  looks-last false s t l p = subst P (sym l) p

  module _ {H : Type 0} (told_world : Bool) (world : H → World) (faults : H → Channel → ℕ) (shape : Shape) (before after : Settler) (s : Sight) (old new : H) (p : P s) where
    puts : (e : CoreEvent) (r : CoreReply) (mid : Sight) → PutsNext told_world world faults may shape before after s e r mid old new → P mid
    puts e r mid u = tells u.acts.seen mid e r u.told (makes-settling (settler_step (state_shown u.acts.seen)) e u.acts.makes) (looks s u.acts.seen u.acts.looked p)

    pub turns-keep : {E : Type 0} (t : Sight) (result : Result Turned E) → TurnsAs told_world world faults may shape before after s t old new result → P t
    turns-keep t (Ok Stepped) u = looks-last (after.doubted && has_applied u.r) u.mid t u.looked (puts u.e u.r u.mid u.put)
    turns-keep t (Ok Nothing) u = looks s t u.looked p
    turns-keep t (Ok (Stop InDoubt)) u = looks u.mid t u.looked (puts u.e u.r u.mid u.put)
    turns-keep t (Ok (Stop WriteFault)) u = looks s t u.looked p
    turns-keep t (Ok (Stop (LoadFault file))) u = looks s t u.0.looked p
    turns-keep t (Ok (Stop (LoadDamaged file place))) u = looks s t u.0.looked p
    turns-keep t (Err lack) (inl u) = looks s t u.looked p
    turns-keep t (Err lack) (inr (inl u)) = looks s t u.looked p
    turns-keep t (Err lack) (inr (inr (inl u))) = looks u.1.acts.seen t u.1.unput (looks s u.1.acts.seen u.1.acts.looked p)
    turns-keep t (Err lack) (inr (inr (inr (inl u)))) = looks u.mid t u.looked (puts u.e u.r u.mid u.put)
    turns-keep t (Err lack) (inr (inr (inr (inr u)))) = looks s t u.looked p

-- ---- what was put oneself

-- nothing yet
pub among-none : (s : Sight) → SettlesAmong s s
among-none s = record { on = sees-none s; own = []; mine = sym (append-nil s.mine); settling = λ x i. absurd i }

module _ (s t u : Sight) where
  -- in two parts
  pub among-both : SettlesAmong s t → SettlesAmong t u → SettlesAmong s u
  among-both a b = record {
    on = sees-both s t u a.on b.on;
    own = a.own ++ b.own;
    mine = b.mine ∙ ap (λ (l : List Told). l ++ b.own) a.mine ∙ append_assoc s.mine a.own b.own;
    settling = pass-append is_settling a.own b.own a.settling b.settling;
  }

-- so far is seen
pub among-seen : (s t u : Sight) → SettlesAmong s t → SettlesAmong t u → SeesOn s u
among-seen s t u a b = sees-both s t u a.on b.on

-- by a look
pub among-look : (may : CoreEvent → Bool) (s t : Sight) → Looks may s t → SettlesAmong s t
among-look may s t l = record { on = sees-look may s t l; own = []; mine = ap (λ (x : Sight). x.mine) l.sight ∙ sym (append-nil s.mine); settling = λ x i. absurd i }

-- by an event of the settler's
among-tell : (may : CoreEvent → Bool) (s t : Sight) (e : CoreEvent) (r : CoreReply) → Tells may s e r t → is_settling e ≡ true → SettlesAmong s t
among-tell may s t e r l q = record {
  on = sees-tell may s t e r l;
  own = entry s.number e r ∷ [];
  mine = ap (λ (x : Sight). x.mine) l.sight;
  settling = λ x i. ⊎_elim (λ (is : x ≡ entry s.number e r). ap (λ (z : Told). is_settling z.event) is ∙ q) (λ j. absurd j) i;
}

-- ---- no stop

-- an event that is no stop puts none
going-next : (r : Run) (e : CoreEvent) → is_halt e ≡ false → (ends (extended r (e ∷ []))).units.halt ≡ (ends r).units.halt
going-next r e other = by (applies (ends r) e) refl
  where
    by : (a : Bool) → applies (ends r) e ≡ a → (ends (extended r (e ∷ []))).units.halt ≡ (ends r).units.halt
    by true a = (moves-run r e a).halt other
    by false a = ap (λ (w : CoreState). w.units.halt) (unapplied-run r e a)

-- a worker's is none
work-goes : (e : CoreEvent) → is_work e ≡ true → is_halt e ≡ false
work-goes Halt q = absurd (true≢false (sym q))
work-goes _ q = refl

-- nor is one of the settler's
settling-goes : (e : CoreEvent) → is_settling e ≡ true → is_halt e ≡ false
settling-goes Halt q = absurd (true≢false (sym q))
settling-goes _ q = refl

-- workers' entries put none
going-on : (rest : List Told) (r : Run) → AllPass is_work rest → (ends (run_after r rest)).units.halt ≡ (ends r).units.halt
going-on [] r all = refl
going-on (x ∷ rest) r all = going-on rest (extended r (x.event ∷ [])) (λ y i. all y (inr i)) ∙ going-next r x.event (work-goes x.event (all x (inl refl)))

-- what is known of a stop: there is none, if one is alone, and what was put oneself is counted
abbrev GoesAlone : Sight → Type 0
GoesAlone s = Counts s × (IsAlone is_work s → (ends (run_seen s)).units.halt ≡ false)

-- the run behind what was looked at
run-saw : (s : Sight) (rest : List Told) → run_seen (saw s rest) ≡ run_after (run_seen s) rest
run-saw s rest = run-on s.seen rest s.first

goes-look : (may : CoreEvent → Bool) (s t : Sight) → Looks may s t → GoesAlone s → GoesAlone t
goes-look may s t l p = (
  looks-counts may s t l p.0,
  λ alone.
      let was = looks-before is_work may s t p.0 l alone in
      ap (λ (x : Sight). (ends (run_seen x)).units.halt) l.sight ∙ ap (λ (x : Run). (ends x).units.halt) (run-saw s l.rest) ∙ going-on l.rest (run_seen s) was.1 ∙ p.1 was.0,
)

goes-tell : (may : CoreEvent → Bool) (s t : Sight) (e : CoreEvent) (r : CoreReply) → Tells may s e r t → is_settling e ≡ true → GoesAlone s → GoesAlone t
goes-tell may s t e r l q p = (
  tells-counts may s t e r l p.0,
  λ alone.
      let was = tells-before is_work may s t p.0 e r l alone in
      ap (λ (x : Sight). (ends (run_seen x)).units.halt) l.sight ∙ ap (λ (x : Run). (ends x).units.halt) (run-told (saw s l.rest) e r) ∙ going-next (run_seen (saw s l.rest)) e (settling-goes e q)
      ∙ ap (λ (x : Run). (ends x).units.halt) (run-saw s l.rest) ∙ going-on l.rest (run_seen s) was.1 ∙ p.1 was.0,
)

-- ---- a step

module _ {H E : Type 0} (told_world : Bool) (world : H → World) (faults : H → Channel → ℕ) (may : CoreEvent → Bool) (shape : Shape) (before after : Settler) (s t : Sight) (old new : H)
    (result : Result Turned E) (turns : TurnsAs told_world world faults may shape before after s t old new result) where
  -- what it put
  pub step-among : SettlesAmong s t
  step-among =
      turns-keep may (SettlesAmong s) (λ x y l p. among-both s x y p (among-look may x y l)) (λ x y e r l m p. among-both s x y p (among-tell may x y e r l m))
      told_world world faults shape before after s old new (among-none s) t result turns

  -- what is promised
  pub step-promise : (b : Basis) → KeepsPromise b s → KeepsPromise b t
  step-promise b p =
      turns-keep may (KeepsPromise b) (λ x y l k. looks-promise b may x y l k) (λ x y e r l m k. settles-promise b may x y e r l m k)
      told_world world faults shape before after s old new p t result turns

  -- and there is no stop
  pub step-going : Counts s → (ends (run_seen s)).units.halt ≡ false → IsAlone is_work t → (ends (run_seen t)).units.halt ≡ false
  step-going counts going alone =
      (turns-keep may GoesAlone (λ x y l p. goes-look may x y l p) (λ x y e r l m p. goes-tell may x y e r l m p)
      told_world world faults shape before after s old new (counts, λ a. going) t result turns).1 alone

-- ---- a stop

-- keeps what is promised
pub stop-promise : (b : Basis) (may : CoreEvent → Bool) (s t : Sight) (r : CoreReply) → Tells may s Halt r t → KeepsPromise b s → KeepsPromise b t
stop-promise b may s t r l p = tells-promise b may s t Halt r l (λ u own. absurd (true≢false (sym own))) (λ alone a. tt) p
