-- Who runs keeps its locks.
use Rattle.std.proofs.Common.{◌≡◌, ℕ, List, [], ◌∷◌, true, false, ◌||◌, not, inl, inr, refl, sym, ap, ◌∙◌, subst, Option, Some, None, ◌<◌}
use Rattle.std.proofs.lemmas.Bool.{and_parts, and_from, cond_both}
use Rattle.cell_model.specs.Locks.{is_update, is_hold_of, covers, dropped}
use Rattle.cell_model.proofs.Units.{same_unit-false, same_unit-is, cases_unit, any-false}
use Rattle.core_model.specs.CoreState.{UnitNo, GrainId, put, put_grain, Member, Hold, Mode, CoreState}
use Rattle.core_model.specs.declared.phases.Phase.{Phase}
use Rattle.core_model.specs.declared.phases.Phase.TheVariants.{Unborn, Running, Finished, Refused, Ended}
use Rattle.core_laws.proofs.Puts.{put-at, grain-at}
use Rattle.std.proofs.lemmas.Bool.{or_left}
use Rattle.cell_model.specs.Locks.{granted}
use Rattle.cell_model.proofs.LockAnswers.{granted-new, granted-stays, dropped-stays}
use Rattle.core_model.specs.Tests.{is_over}
use Rattle.core_model.specs.Holders.{RunnersKeepLocks}
use Rattle.core_model.specs.Changes.{new_unit, swept, swept_by}
use Rattle.core_model.specs.LegalRuns.{Run, begins, ends}
use Rattle.core_model.specs.Laws.{extended}
use Rattle.core_model.specs.Events.{applies, can, does, step, run, is_allowed}
use Rattle.core_model.specs.declared.events.CoreEvent.{CoreEvent}
use Rattle.core_laws.proofs.EventCases.{Change, bad, begin, lock, raise, refuse, finish, end_plain, end_snapshot, release, take_batch, vote, decide_some, decide_none, seal_batch, spoil_batch, doubt_batch, learn, emit, halt_run, want, load, decode}
use Rattle.core_laws.proofs.Basics.{is_over-not}
use Rattle.core_laws.proofs.Growth.{Grows, grows-run}
use Rattle.core_laws.proofs.FurtherLaws.{run-append}
use Rattle.core_laws.proofs.LoadlessKept.{LoadlessKept, loadless-step, loadless-ends}
use Rattle.core_laws.proofs.Loadless.{LoadlessAt}

-- a holder has begun
holder-born : (n : ℕ) (w : CoreState) → LoadlessAt n w → (g : GrainId) (h : Hold) → Member h (w.cells.holds g) → w.units.phase h.unit ≡ Unborn → ⊥
holder-born n w i g h m p =
    let t = i.told g h m in
    let s = i.seen g t.0 t.1 in
    subst (Member s.0) (i.blank h.unit p) (subst (λ z. Member s.0 (w.units.reads z)) t.2 s.1)

pub born-put : (w : CoreState) (u : UnitNo) (end : Phase) → (end ≡ Unborn → ⊥) → (x : UnitNo) → (w.units.phase x ≡ Unborn → ⊥) → put w.units.phase u end x ≡ Unborn → ⊥
born-put w u end n x b = put-at w.units.phase u end (λ p. p ≡ Unborn → ⊥) x (λ q. n) (λ q. b)

-- who has begun has begun
pub born-change : (w : CoreState) (e : CoreEvent) (w' : CoreState) → Change w e w' → (x : UnitNo) → (w.units.phase x ≡ Unborn → ⊥) → w'.units.phase x ≡ Unborn → ⊥
born-change w e w' (bad line why q) x born = born
born-change w e w' (begin origin call plain c) x born = born-put w (new_unit w) Running (λ z. cc) x born
born-change w e w' (lock u g mode running free first here) x born = born
born-change w e w' (raise u g mode running free held here uncovered) x born = born
born-change w e w' (refuse u g mode why running q) x born = born-put w u Refused (λ z. cc) x born
born-change w e w' (finish u effect running plain of_call reads alone) x born = born-put w u Finished (λ z. cc) x born
born-change w e w' (end_plain u effect running plain of_call bare) x born = born-put w u Ended (λ z. cc) x born
born-change w e w' (end_snapshot u at outcome running plain kids answer) x born = born-put w u Ended (λ z. cc) x born
born-change w e w' (release u g over held) x born = born
born-change w e w' (take_batch none some) x born = born
born-change w e w' (vote n g kept b q number d planned fresh) x born = born
born-change w e w' (decide_some n b q number d voted some) x born = born
born-change w e w' (decide_none n b q number d voted none) x born = born
born-change w e w' (seal_batch n b ds q number d) x born = born
born-change w e w' (spoil_batch n b ds q number d) x born = born
born-change w e w' (doubt_batch n b ds q number d) x born = born
born-change w e w' (learn u g wrote final fresh) x born = born
born-change w e w' (emit q) x born = born
born-change w e w' (halt_run q) x born = born
born-change w e w' (want u g running free fresh) x born = born
born-change w e w' (load g u state gone wanted) x born = born

-- the locks after an event, for who runs then
abbrev KeptBy : CoreState → CoreState → Type 0
KeptBy w w' = (g : GrainId) (h : Hold) → Member h (w.cells.holds g) → w'.units.phase h.unit ≡ Running → (k : Hold) × Member k (w'.cells.holds g) × (k.unit ≡ h.unit) × (is_update h.mode ≡ true → is_update k.mode ≡ true)

kept-held : (w : CoreState) (u : UnitNo) (g : GrainId) (mode : Mode) → ((h : Hold) → Member h (w.cells.holds g) → h.unit ≡ u → is_update h.mode ≡ true → is_update mode ≡ true) → (j : GrainId) (h : Hold) → Member h (w.cells.holds j) →
    (k : Hold) × Member k (put_grain w.cells.holds g (granted (w.cells.holds g) u mode) j) × (k.unit ≡ h.unit) × (is_update h.mode ≡ true → is_update k.mode ≡ true)
kept-held w u g mode stronger j h m = grain-at w.cells.holds g (granted (w.cells.holds g) u mode) (λ hs. (k : Hold) × Member k hs × (k.unit ≡ h.unit) × (is_update h.mode ≡ true → is_update k.mode ≡ true)) j
    (λ e. (let n = subst (λ z. Member h (w.cells.holds z)) e m in elim (cases_unit h.unit u) [
      | inl q ↦ (record { unit = u; mode = mode }, granted-new (w.cells.holds g) u mode, sym q, stronger h n q)
      | inr q ↦ (h, granted-stays (w.cells.holds g) u mode h n q, refl, λ z. z)
    ]))
    (λ e. (h, m, refl, λ z. z))

keeping-change : (w : CoreState) (e : CoreEvent) (w' : CoreState) → Change w e w' → KeptBy w w'
keeping-change w e w' (bad line why q) = λ j h m p. (h, m, refl, λ z. z)
keeping-change w e w' (begin origin call plain c) = λ j h m p. (h, m, refl, λ z. z)
keeping-change w e w' (lock u g mode running free first here) = λ j h m p. kept-held w u g mode (λ x n q z. absurd (same_unit-false x.unit u (any-false (is_hold_of u) (w.cells.holds g) first x n) q)) j h m
keeping-change w e w' (raise u g mode running free held here uncovered) =
    λ j h m p. kept-held w u g mode (λ x n q z.
    (let none = any-false (covers u mode) (w.cells.holds g) uncovered x n in
    let both = and_from (is_hold_of u x) (is_update x.mode || not (is_update mode)) (same_unit-is x.unit u q) (or_left (is_update x.mode) (not (is_update mode)) z) in
    let t : true ≡ false = sym both ∙ none in cc)) j h m
keeping-change w e w' (refuse u g mode why running q) = λ j h m p. (h, m, refl, λ z. z)
keeping-change w e w' (finish u effect running plain of_call reads alone) = λ j h m p. (h, m, refl, λ z. z)
keeping-change w e w' (end_plain u effect running plain of_call bare) = λ j h m p. (h, m, refl, λ z. z)
keeping-change w e w' (end_snapshot u at outcome running plain kids answer) = λ j h m p. (h, m, refl, λ z. z)
keeping-change w e w' (release u g over held) =
    λ j h m p. (
      h,
      grain-at w.cells.holds g (dropped (w.cells.holds g) u) (Member h) j
          (λ z. dropped-stays u (w.cells.holds g) h (subst (λ y. Member h (w.cells.holds y)) z m) (λ q. is_over-not _ over (ap w.units.phase (sym q) ∙ p)))
          (λ z. m),
      refl,
      λ z. z,
    )
keeping-change w e w' (take_batch none some) = λ j h m p. (h, m, refl, λ z. z)
keeping-change w e w' (vote n g kept b q number d planned fresh) = λ j h m p. (h, m, refl, λ z. z)
keeping-change w e w' (decide_some n b q number d voted some) = λ j h m p. (h, m, refl, λ z. z)
keeping-change w e w' (decide_none n b q number d voted none) = λ j h m p. (h, m, refl, λ z. z)
keeping-change w e w' (seal_batch n b ds q number d) = λ j h m p. (h, m, refl, λ z. z)
keeping-change w e w' (spoil_batch n b ds q number d) = λ j h m p. (h, m, refl, λ z. z)
keeping-change w e w' (doubt_batch n b ds q number d) = λ j h m p. (h, m, refl, λ z. z)
keeping-change w e w' (learn u g wrote final fresh) = λ j h m p. (h, m, refl, λ z. z)
keeping-change w e w' (emit q) = λ j h m p. (h, m, refl, λ z. z)
keeping-change w e w' (halt_run q) = λ j h m p. (h, m, refl, λ z. z)
keeping-change w e w' (want u g running free fresh) = λ j h m p. (h, m, refl, λ z. z)
keeping-change w e w' (load g u state gone wanted) = λ j h m p. (h, m, refl, λ z. z)

keeping-step : (w : CoreState) (e : CoreEvent) → KeptBy w (step w e) × ((x : UnitNo) → (w.units.phase x ≡ Unborn → ⊥) → (step w e).units.phase x ≡ Unborn → ⊥)
keeping-step w e = cond_both (applies w e) (swept (does w e)) w (λ v. KeptBy w v × ((x : UnitNo) → (w.units.phase x ≡ Unborn → ⊥) → v.units.phase x ≡ Unborn → ⊥))
    (λ a. (let c = decode w e (and_parts (is_allowed w e) (can w e) a).1 in after-sweep (does w e) (keeping-change w e (does w e) c) (born-change w e (does w e) c)))
    (λ a. ((λ g h m p. (h, m, refl, λ z. z)), (λ x b. b)))
  where
    after-sweep : (v : CoreState) → KeptBy w v → ((x : UnitNo) → (w.units.phase x ≡ Unborn → ⊥) → v.units.phase x ≡ Unborn → ⊥) → KeptBy w (swept v) × ((x : UnitNo) → (w.units.phase x ≡ Unborn → ⊥) → (swept v).units.phase x ≡ Unborn → ⊥)
    after-sweep v s b = go v.cells.capacity
      where
        go : (c : Option ℕ) → KeptBy w (swept_by v c) × ((x : UnitNo) → (w.units.phase x ≡ Unborn → ⊥) → (swept_by v c).units.phase x ≡ Unborn → ⊥)
        go None = (s, b)
        go (Some m) = (s, b)

-- who runs later and has begun runs now
runs-now : (w later : CoreState) → Grows w later → (u : UnitNo) → (w.units.phase u ≡ Unborn → ⊥) → later.units.phase u ≡ Running → w.units.phase u ≡ Running
runs-now w later g u born p = go (w.units.phase u) refl
  where
    over : (q : Phase) → w.units.phase u ≡ q → is_over q ≡ true → w.units.phase u ≡ Running
    over q e o = (let t = g.3 u (ap is_over e ∙ o) in sym t.0 ∙ p)

    go : (q : Phase) → w.units.phase u ≡ q → w.units.phase u ≡ Running
    go Unborn e = absurd (born e)
    go Running e = e
    go Finished e = over Finished e refl
    go Refused e = over Refused e refl
    go Ended e = over Ended e refl

keeping-run : (es : List CoreEvent) (w : CoreState) → LoadlessKept w → RunnersKeepLocks w (run w es)
keeping-run [] w k g h m p = (h, m, refl, λ z. z)
keeping-run (e ∷ es) w k g h m p =
    let s = keeping-step w e in
    let kept = loadless-step w e k in
    let born = s.1 h.unit (holder-born _ w k.0 g h m) in
    let runs = runs-now (step w e) (run (step w e) es) (grows-run es (step w e) kept) h.unit born p in
    let one = s.0 g h m runs in
    let two = keeping-run es (step w e) kept g one.0 one.1 (ap (run (step w e) es).units.phase one.2 ∙ p) in
    (two.0, two.1, two.2 ∙ one.2, λ z. two.3 (one.3 z))

pub keeping-ends : (r : Run) (more : List CoreEvent) → 0 < r.base → RunnersKeepLocks (ends r) (ends (extended r more))
keeping-ends r more above = subst (RunnersKeepLocks (ends r)) (sym (run-append (begins r) r.events more)) (keeping-run more (ends r) (loadless-ends r above))
