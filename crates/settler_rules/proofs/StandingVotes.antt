-- Votes stand while their batch is open, and what finished units wrote stays.
use Rattle.std.proofs.Common.{◌≡◌, ℕ, ◌+◌, ◌<◌, ◌≤◌, List, [], ◌∷◌, ◌++◌, Bool, true, refl, sym, ap, ◌∙◌, subst, arith, Option, Some, None}
use Rattle.cell_model.proofs.Units.{Member-left}
use Rattle.core_model.specs.CoreState.{UnitNo, GrainId, put, Member, Value, Batch, CoreState}
use Rattle.core_model.specs.declared.phases.Phase.{Phase}
use Rattle.core_model.specs.declared.phases.Phase.TheVariants.{Unborn, Running, Finished, Refused, Ended}
use Rattle.core_model.specs.Tests.{state_written}
use Rattle.core_model.specs.Changes.{new_unit}
use Rattle.core_model.specs.Events.{applies, run}
use Rattle.core_model.specs.declared.events.CoreEvent.{CoreEvent}
use Rattle.core_model.specs.Laws.{extended}
use Rattle.core_model.specs.LegalRuns.{Run, begins, ends}
use Rattle.core_laws.proofs.Puts.{put-at, put-other}
use Rattle.core_laws.proofs.EventCases.{Change, bad, begin, lock, raise, refuse, finish, end_plain, end_snapshot, release, take_batch, vote, decide_some, decide_none, seal_batch, spoil_batch, doubt_batch, learn, emit, halt_run, want, load}
use Rattle.core_laws.proofs.AnyEvents.{run-keeps, with_here}
use Rattle.core_laws.proofs.FurtherLaws.{run-append}
use Rattle.core_laws.proofs.LoadlessLaws.{holds-ends}
use Rattle.settler_rules.specs.Votes.{VoteStands, HasLeft}

pub some-is : {A : Type 0} (x y : A) → Some x ≡ Some y → x ≡ y
some-is {A} x y e = ap of e
  where
    of : Option A → A
    of None = x
    of (Some z) = z

-- a run that goes on
pub ends-more : (r : Run) (more : List CoreEvent) → ends (extended r more) ≡ run (ends r) more
ends-more r more = run-append (begins r) r.events more

-- ---- votes

-- the open batch has the last number that was given
abbrev pub Numbered : CoreState → Type 0
Numbered w = (b : Batch) → w.manager.batch ≡ Some b → b.number ≡ w.manager.batches

none-open : {A : Type 0} (x : Batch) → None ≡ Some x → A
none-open x q = absurd cc

numbered-change : (w : CoreState) (e : CoreEvent) (w' : CoreState) → Change w e w' → applies w e ≡ true → Numbered w → Numbered w'
numbered-change w e w' (bad line why q) a s = s
numbered-change w e w' (begin origin call plain c) a s = s
numbered-change w e w' (lock u g mode running free first here) a s = s
numbered-change w e w' (raise u g mode running free held here uncovered) a s = s
numbered-change w e w' (refuse u g mode why running q) a s = s
numbered-change w e w' (finish u effect running plain of_call reads alone) a s = s
numbered-change w e w' (end_plain u effect running plain of_call bare) a s = s
numbered-change w e w' (end_snapshot u at outcome running plain kids answer) a s = s
numbered-change w e w' (release u g over held) a s = s
numbered-change w e w' (take_batch none some) a s = λ c z. sym (ap (λ (b : Batch). b.number) (some-is _ c z))
numbered-change w e w' (vote n g kept b q number d planned fresh) a s = λ c z. sym (ap (λ (b : Batch). b.number) (some-is _ c z)) ∙ s b q
numbered-change w e w' (decide_some n b q number d voted some) a s = λ c z. sym (ap (λ (b : Batch). b.number) (some-is _ c z)) ∙ s b q
numbered-change w e w' (decide_none n b q number d voted none) a s = λ c z. none-open c z
numbered-change w e w' (seal_batch n b ds q number d) a s = λ c z. none-open c z
numbered-change w e w' (spoil_batch n b ds q number d) a s = λ c z. none-open c z
numbered-change w e w' (doubt_batch n b ds q number d) a s = λ c z. none-open c z
numbered-change w e w' (learn u g wrote final fresh) a s = s
numbered-change w e w' (emit q) a s = s
numbered-change w e w' (halt_run q) a s = s
numbered-change w e w' (want u g running free fresh) a s = s
numbered-change w e w' (load g u state gone wanted) a s = s

pub numbered-ends : (r : Run) → Numbered (ends r)
numbered-ends r = run-keeps Numbered numbered-change (λ w here s. s) r.events (begins r) (λ b q. none-open b q)

module _ (n : ℕ) (g : GrainId) (kept : Bool) where
  -- the open batch's votes go on
  stands-more : (w w' : CoreState) (b c : Batch) → w.manager.batch ≡ Some b → w'.manager.batch ≡ Some c → w'.manager.batches ≡ w.manager.batches → c.number ≡ b.number
      → ((v : GrainId × Bool) → Member v b.votes → Member v c.votes) → VoteStands w n g kept → VoteStands w' n g kept
  stands-more w w' b c q z same number more s = record {
    taken = subst (λ m. n ≤ m) (sym same) s.taken;
    stands = λ d y is.
        (let of : c ≡ d = some-is c d (sym z ∙ y) in
        subst (λ (x : Batch). Member (g, kept) x.votes) of (more (g, kept) (s.stands b q (sym number ∙ ap (λ (x : Batch). x.number) of ∙ is))));
  }

  closed : (w w' : CoreState) → w'.manager.batch ≡ None → w'.manager.batches ≡ w.manager.batches → VoteStands w n g kept → VoteStands w' n g kept
  closed w w' none same s = record {
    taken = subst (λ m. n ≤ m) (sym same) s.taken;
    stands = λ d y is. none-open d (sym none ∙ y);
  }

  as-before : (w w' : CoreState) → w'.manager.batch ≡ w.manager.batch → w'.manager.batches ≡ w.manager.batches → VoteStands w n g kept → VoteStands w' n g kept
  as-before w w' batch same s = record {
    taken = subst (λ m. n ≤ m) (sym same) s.taken;
    stands = λ d y is. s.stands d (sym batch ∙ y) is;
  }

  stands-change : (w : CoreState) (e : CoreEvent) (w' : CoreState) → Change w e w' → applies w e ≡ true → VoteStands w n g kept → VoteStands w' n g kept
  stands-change w e w' (bad line why q) a s = as-before w w' refl refl s
  stands-change w e w' (begin origin call plain c) a s = as-before w w' refl refl s
  stands-change w e w' (lock u h mode running free first here) a s = as-before w w' refl refl s
  stands-change w e w' (raise u h mode running free held here uncovered) a s = as-before w w' refl refl s
  stands-change w e w' (refuse u h mode why running q) a s = as-before w w' refl refl s
  stands-change w e w' (finish u effect running plain of_call reads alone) a s = as-before w w' refl refl s
  stands-change w e w' (end_plain u effect running plain of_call bare) a s = as-before w w' refl refl s
  stands-change w e w' (end_snapshot u at outcome running plain kids answer) a s = as-before w w' refl refl s
  stands-change w e w' (release u h over held) a s = as-before w w' refl refl s
  stands-change w e w' (take_batch none some) a s = record {
    taken = omega (arith, s.taken);
    stands = λ c z is. (let low = s.taken in let number : w.manager.batches + 1 ≡ n = ap (λ (b : Batch). b.number) (some-is _ c z) ∙ is in absurd (omega (arith, low, number)));
  }
  stands-change w e w' (vote m h cast b q number d planned fresh) a s = stands-more w w' b (record b { votes = b.votes ++ (h, cast) ∷ [] }) q refl refl refl (λ v m. Member-left v b.votes ((h, cast) ∷ []) m) s
  stands-change w e w' (decide_some m b q number d voted some) a s = stands-more w w' b _ q refl refl refl (λ v m. m) s
  stands-change w e w' (decide_none m b q number d voted none) a s = closed w w' refl refl s
  stands-change w e w' (seal_batch m b ds q number d) a s = closed w w' refl refl s
  stands-change w e w' (spoil_batch m b ds q number d) a s = closed w w' refl refl s
  stands-change w e w' (doubt_batch m b ds q number d) a s = closed w w' refl refl s
  stands-change w e w' (learn u h wrote final fresh) a s = as-before w w' refl refl s
  stands-change w e w' (emit q) a s = as-before w w' refl refl s
  stands-change w e w' (halt_run q) a s = as-before w w' refl refl s
  stands-change w e w' (want u h running free fresh) a s = as-before w w' refl refl s
  stands-change w e w' (load h u state gone wanted) a s = as-before w w' refl refl s

  -- a vote stands in a run that goes on
  pub stands-later : (r : Run) (more : List CoreEvent) → VoteStands (ends r) n g kept → VoteStands (ends (extended r more)) n g kept
  stands-later r more s =
      subst (λ (w : CoreState). VoteStands w n g kept) (sym (ends-more r more))
      (run-keeps (λ w. VoteStands w n g kept) stands-change (λ w here s. as-before w (with_here w here) refl refl s) more (ends r) s)

-- ---- what was written

-- who hasn't begun has a number from the next on
abbrev Fresh : CoreState → Type 0
Fresh w = (u : UnitNo) → w.units.next ≤ u.0 → w.units.phase u ≡ Unborn

finished-running : (w : CoreState) (u v : UnitNo) → w.units.phase u ≡ Finished → w.units.phase v ≡ Running → u ≡ v → ⊥
finished-running w u v f running q = (let z : Finished ≡ Running = sym f ∙ ap w.units.phase q ∙ running in cc)

-- a running unit comes to an end
fresh-over : (w : CoreState) (v : UnitNo) (end : Phase) → w.units.phase v ≡ Running → Fresh w → (u : UnitNo) → w.units.next ≤ u.0 → put w.units.phase v end u ≡ Unborn
fresh-over w v end running s u low = put-at w.units.phase v end (λ p. p ≡ Unborn) u
    (λ q. (let z : Unborn ≡ Running = sym (s u low) ∙ ap w.units.phase q ∙ running in absurd cc))
    (λ n. s u low)

module _ (u : UnitNo) (g : GrainId) (state : List Value) where
  abbrev Kept : CoreState → Type 0
  Kept w = Fresh w × HasLeft w u g state

  -- its phase stays
  over-other : (w : CoreState) (v : UnitNo) (end : Phase) → w.units.phase v ≡ Running → w.units.phase u ≡ Finished → put w.units.phase v end u ≡ Finished
  over-other w v end running f = put-other w.units.phase v end u (finished-running w u v f running) ∙ f

  kept-change : (w : CoreState) (e : CoreEvent) (w' : CoreState) → Change w e w' → applies w e ≡ true → Kept w → Kept w'
  kept-change w e w' (bad line why q) a s = s
  kept-change w e w' (begin origin call plain c) a s = (
    λ x low. put-other w.units.phase (new_unit w) Running x (λ q. (let z = ap (λ (y : UnitNo). y.0) q in absurd (omega (arith, low, z)))) ∙ s.0 x (omega (arith, low)),
    (put-other w.units.phase (new_unit w) Running u (λ q. (let z : Finished ≡ Unborn = sym s.1.0 ∙ ap w.units.phase q ∙ s.0 (new_unit w) (omega arith) in absurd cc)) ∙ s.1.0, s.1.1),
  )
  kept-change w e w' (lock v h mode running free first here) a s = s
  kept-change w e w' (raise v h mode running free held here uncovered) a s = s
  kept-change w e w' (refuse v h mode why running q) a s = (fresh-over w v Refused running s.0, (over-other w v Refused running s.1.0, s.1.1))
  kept-change w e w' (finish v effect running plain of_call reads alone) a s = (
    fresh-over w v Finished running s.0,
    (over-other w v Finished running s.1.0, ap (state_written g) (put-other w.manager.writes v effect.writes u (finished-running w u v s.1.0 running)) ∙ s.1.1),
  )
  kept-change w e w' (end_plain v effect running plain of_call bare) a s = (fresh-over w v Ended running s.0, (over-other w v Ended running s.1.0, s.1.1))
  kept-change w e w' (end_snapshot v at outcome running plain kids answer) a s = (fresh-over w v Ended running s.0, (over-other w v Ended running s.1.0, s.1.1))
  kept-change w e w' (release v h over held) a s = s
  kept-change w e w' (take_batch none some) a s = s
  kept-change w e w' (vote n h kept b q number d planned fresh) a s = s
  kept-change w e w' (decide_some n b q number d voted some) a s = s
  kept-change w e w' (decide_none n b q number d voted none) a s = s
  kept-change w e w' (seal_batch n b ds q number d) a s = s
  kept-change w e w' (spoil_batch n b ds q number d) a s = s
  kept-change w e w' (doubt_batch n b ds q number d) a s = s
  kept-change w e w' (learn v h wrote final fresh) a s = s
  kept-change w e w' (emit q) a s = s
  kept-change w e w' (halt_run q) a s = s
  kept-change w e w' (want v h running free fresh) a s = s
  kept-change w e w' (load h v st gone wanted) a s = s

  -- what a finished unit wrote stays in a run that goes on
  pub left-later : (r : Run) (more : List CoreEvent) → 0 < r.base → HasLeft (ends r) u g state → HasLeft (ends (extended r more)) u g state
  left-later r more above s =
      subst (λ (w : CoreState). HasLeft w u g state) (sym (ends-more r more))
      (run-keeps (λ w. Fresh w × HasLeft w u g state) kept-change (λ w here s. s) more (ends r) ((holds-ends r above).fresh, s)).1
