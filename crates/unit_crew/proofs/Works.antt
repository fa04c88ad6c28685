-- What a call leaves of a worker's sight and of its promise.
use Rattle.std.proofs.Common.{◌≡◌, ◌⊎◌, ⊎_elim, ℕ, inl, inr, List, [], ◌∷◌, ◌++◌, Bool, true, false, true≢false, refl, sym, ap, ◌∙◌, subst, Some, Ok, Err}
use Rattle.std.specs.Prelude.{◌↔◌, slice_get, Result}
use Rattle.base_types.specs.declared.calls.Call.{Call}
use Rattle.base_types.specs.declared.calls.Origin.TheVariants.{Line as OfLine}
use Rattle.base_types.specs.declared.entries.BadRequest.{BadRequest}
use Rattle.core_model.specs.CoreState.{UnitNo}
use Rattle.core_model.specs.declared.events.CoreEvent.{CoreEvent}
use Rattle.core_model.specs.declared.events.CoreEvent.TheVariants.{Bad, Begin, Want}
use Rattle.core_model.specs.declared.events.CoreReply.{CoreReply}
use Rattle.core_model.specs.LegalRuns.{Run}
use Rattle.core_access.specs.Histories.{Told, run_after}
use Rattle.core_access.specs.Sights.{Sight, Looks, Tells, run_seen}
use Rattle.core_access.proofs.Sights.{looks-counts, tells-counts, tells-on}
use Rattle.request_wire.specs.declared.requests.Line.{Line}
use Rattle.script_tree.specs.Programs.{ProgramTree}
use Rattle.script_meaning.specs.Play.{IsTransaction}
use Rattle.promise_spec.specs.Lines.{ReadsLineAs}
use Rattle.promise_spec.specs.UnitRule.{Basis}
use Rattle.turn_cell.specs.History.{entry}
use Rattle.turn_cell.proofs.Histories.{starts_self, starts_on}
use Rattle.turn_cell.proofs.Lists.{in_append}
use Rattle.worker_rules.specs.UnitOwnership.{BeganHere, KeepsPromise}
use Rattle.worker_rules.specs.Work.{OnlyWorks, is_of_worker, is_work}
use Rattle.worker_rules.proofs.CallPromises.{looks-promise, tells-promise}
use Rattle.txn_agent.specs.AgentStep.{Acts}
use Rattle.txn_agent.specs.Wishes.{Wishes}
use Rattle.txn_agent.proofs.StepPromises.{acts-promise}
use Rattle.txn_agent.proofs.WishAnswers.{wishes-promise}
use Rattle.unit_carrier.specs.Lines.{PutsLine, IsEventOf}
use Rattle.unit_crew.specs.Crews.{IsBasisOf, HasTypes, ReadsLinesAs, WorksOn}
use Rattle.unit_crew.specs.FinishedUnits.{Showed}

module _ (Asked : Basis → Type 0) where
  -- no call
  pub works-none : (s : Sight) → WorksOn Asked s s
  works-none s = record { first = refl; number = refl; seen = starts_self s.seen; counts = λ n. n; only = λ o. o; promise = λ b q p. p }

  -- one behind the other
  pub works-on : (s t u : Sight) → WorksOn Asked s t → WorksOn Asked t u → WorksOn Asked s u
  works-on s t u a b = record {
    first = b.first ∙ a.first;
    number = b.number ∙ a.number;
    seen = starts_on s.seen t.seen u.seen a.seen b.seen;
    counts = λ n. b.counts (a.counts n);
    only = λ o. b.only (a.only o);
    promise = λ x q p. b.promise x q (a.promise x q p);
  }

  -- a look
  pub works-looks : (may : CoreEvent → Bool) (s t : Sight) → Looks may s t → WorksOn Asked s t
  works-looks may s t l = record {
    first = ap (λ (x : Sight). x.first) l.sight;
    number = ap (λ (x : Sight). x.number) l.sight;
    seen = (l.rest, ap (λ (x : Sight). x.seen) l.sight);
    counts = λ n. looks-counts may s t l n;
    only = λ o. subst (λ (x : Sight). OnlyWorks x.mine) (sym l.sight) o;
    promise = λ b q p. looks-promise b may s t l p;
  }

  -- what is put behind others is one worker's event more
  only-more : (mine : List Told) (x : Told) → is_work x.event ≡ true → OnlyWorks mine → OnlyWorks (mine ++ (x ∷ []))
  only-more mine x one all e i = ⊎_elim (λ j. all e j) (λ j. ⊎_elim (λ (t : e ≡ x). ap (λ (z : Told). is_work z.event) t ∙ one) (λ k. absurd k) j) (in_append e mine (x ∷ []) i)

  -- an event
  pub works-tells : (may : CoreEvent → Bool) (s t : Sight) (e : CoreEvent) (r : CoreReply) → Tells may s e r t → is_work e ≡ true
      → ((b : Basis) → Asked b → KeepsPromise b s → KeepsPromise b t) → WorksOn Asked s t
  works-tells may s t e r l work keeps = record {
    first = ap (λ (x : Sight). x.first) l.sight;
    number = ap (λ (x : Sight). x.number) l.sight;
    seen = starts_on s.seen (s.seen ++ l.rest) t.seen (l.rest, refl) (entry s.number e r ∷ [], ap (λ (x : Sight). x.seen) l.sight);
    counts = λ n. tells-counts may s t e r l n;
    only = λ o. subst (λ (x : Sight). OnlyWorks x.mine) (sym l.sight) (only-more s.mine (entry s.number e r) work o);
    promise = keeps;
  }

  -- what a look showed was shown, however much was seen since
  pub showed : (P : Run → Type 0) (s t : Sight) → WorksOn Asked s t → P (run_seen s) → Showed P t
  showed P s t w p = (s.seen, w.seen, subst (λ (r : Run). P (run_after r s.seen)) (sym w.first) p)

  pub showed-on : (P : Run → Type 0) (s t : Sight) → WorksOn Asked s t → Showed P s → Showed P t
  showed-on P s t w p = (p.0, starts_on p.0 s.seen t.seen p.1 w.seen, subst (λ (r : Run). P (run_after r p.0)) (sym w.first) p.2)

-- what is kept by more bases is kept by fewer
pub works-fewer : (P Q : Basis → Type 0) (s t : Sight) → ((b : Basis) → P b → Q b) → WorksOn Q s t → WorksOn P s t
works-fewer P Q s t f w = record { first = w.first; number = w.number; seen = w.seen; counts = w.counts; only = w.only; promise = λ b p k. w.promise b (f b p) k }

-- what a unit's step leaves, by each basis that reads the lines
pub works-types : (types : ProgramTree) (before : ℕ) (lines : List Line) (s t : Sight) → WorksOn (HasTypes types) s t → WorksOn (IsBasisOf types before lines) s t
works-types types before lines s t w = works-fewer (IsBasisOf types before lines) (HasTypes types) s t (λ b p. p.0) w

-- the step of a unit that began here
pub works-acts : (may : CoreEvent → Bool) (types : ProgramTree) (u : UnitNo) (s t : Sight) → Acts may types u s t → BeganHere u s → WorksOn (HasTypes types) s t
works-acts may types u s t (inl l) began = works-looks (HasTypes types) may s t l
works-acts may types u s t (inr (e, (r, x))) began =
    works-tells (HasTypes types) may s t e r x.told (ap is_of_worker x.own)
    (λ b same p. acts-promise may b u s t (subst (λ (z : ProgramTree). Acts may z u s t) (sym same) (inr (e, (r, x)))) began p)

-- its wish
pub works-wishes : (may : CoreEvent → Bool) (types : ProgramTree) (u : UnitNo) (s t : Sight) → Wishes may types u s t → BeganHere u s → WorksOn (HasTypes types) s t
works-wishes may types u s t (inl l) began = works-looks (HasTypes types) may s t l
works-wishes may types u s t (inr (r, p)) began =
    works-tells (HasTypes types) may s t (Want u p.grain) r (tells-on may s p.seen t p.waits.looked (Want u p.grain) r p.told) refl
    (λ b same k. wishes-promise may b u s t (subst (λ (z : ProgramTree). Wishes may z u s t) (sym same) (inr (r, p))) began k)

-- a line's event is of no unit
line-owns : {A : Type 0} → false ≡ true → A
line-owns q = absurd (true≢false (sym q))

-- the event of a line that is among those of the basis
pub works-puts : (may : CoreEvent → Bool) (types : ProgramTree) (before place : ℕ) (lines : List Line) (line : Line) (s t : Sight) (r : CoreReply)
    → slice_get lines place ≡ Some line → PutsLine may types line.number line.what s t r → WorksOn (IsBasisOf types before lines) s t
works-puts may types before place lines line s t r here x = by line.what refl x.is
  where
    reads : (b : Basis) → IsBasisOf types before lines b → ReadsLineAs b.types b.lines line.number line.what
    reads b q = (let at = q.1 place line here in subst (λ (n : ℕ). ReadsLineAs b.types b.lines n line.what) (sym at.0) at.1)

    put : (e : CoreEvent) → x.e ≡ e → Tells may s e r t
    put e q = subst (λ (z : CoreEvent). Tells may s z r t) q x.told

    by : (what : Result Call BadRequest) → line.what ≡ what → IsEventOf types line.number what x.e → WorksOn (IsBasisOf types before lines) s t
    by (Ok call) q is =
        works-tells (IsBasisOf types before lines) may s t (Begin (OfLine line.number) call is.0) r (put (Begin (OfLine line.number) call is.0) is.1) refl
        (λ b asked p. tells-promise b may s t (Begin (OfLine line.number) call is.0) r (put (Begin (OfLine line.number) call is.0) is.1)
        (λ u own. line-owns own)
        (λ alone applied. (subst (ReadsLineAs b.types b.lines line.number) q (reads b asked), subst (λ (z : ProgramTree). (is.0 ≡ false) ↔ IsTransaction z call) (sym asked.0) is.2)) p)
    by (Err why) q is =
        works-tells (IsBasisOf types before lines) may s t (Bad line.number why) r (put (Bad line.number why) is) refl
        (λ b asked p. tells-promise b may s t (Bad line.number why) r (put (Bad line.number why) is)
        (λ u own. line-owns own)
        (λ alone applied. subst (ReadsLineAs b.types b.lines line.number) q (reads b asked)) p)

-- where it may have been put, and memory was wanting
pub works-refused : (may : CoreEvent → Bool) (types : ProgramTree) (before place : ℕ) (lines : List Line) (line : Line) (s t : Sight)
    → slice_get lines place ≡ Some line → Looks may s t ⊎ ((r : CoreReply) × PutsLine may types line.number line.what s t r) → WorksOn (IsBasisOf types before lines) s t
works-refused may types before place lines line s t here (inl l) = works-looks (IsBasisOf types before lines) may s t l
works-refused may types before place lines line s t here (inr (r, x)) = works-puts may types before place lines line s t r here x

-- the same lines
pub works-same : (types : ProgramTree) (before : ℕ) (ls ls' : List Line) (s t : Sight) → ls ≡ ls' → WorksOn (IsBasisOf types before ls) s t → WorksOn (IsBasisOf types before ls') s t
works-same types before ls ls' s t e w = works-fewer (IsBasisOf types before ls') (IsBasisOf types before ls) s t (λ b q. (q.0, subst (λ (x : List Line). ReadsLinesAs before x b) (sym e) q.1)) w
