-- Numbers of units, and types of grains, after every list of events.
use Rattle.std.proofs.Common.{◌≡◌, ℕ, ◌<◌, ◌≤◌, List, true, ◌&&◌, refl, sym, ap, ◌∙◌, subst, arith, Some, nat_lt, le_refl}
use Rattle.std.proofs.lemmas.Bool.{and_parts, ltb-true}
use Rattle.base_types.specs.declared.calls.Origin.TheVariants.{Line}
use Rattle.cell_model.specs.Locks.{dropped, granted, is_hold_of, is_update}
use Rattle.cell_model.proofs.Units.{any-true, all-true}
use Rattle.cell_model.proofs.LockAnswers.{dropped-member}
use Rattle.core_model.specs.CoreState.{UnitNo, GrainId, put, put_grain, Member, Value, Mode, Write, Hold, CoreState}
use Rattle.core_model.specs.declared.phases.Phase.{Phase}
use Rattle.core_model.specs.declared.phases.Phase.TheVariants.{Unborn, Running, Finished, Refused, Ended}
use Rattle.core_model.specs.Tests.{is_running, state_written}
use Rattle.core_model.specs.Chains.{WroteGrain}
use Rattle.core_model.specs.Changes.{new_unit}
use Rattle.core_model.specs.Events.{applies, can, run, is_allowed, holds_alone}
use Rattle.core_model.specs.declared.events.CoreEvent.{CoreEvent}
use Rattle.core_model.specs.declared.events.CoreEvent.TheVariants.{Grant}
use Rattle.core_model.specs.LegalRuns.{Run, begins, ends}
use Rattle.core_laws.proofs.Puts.{put-from, put-other, grain-from}
use Rattle.core_laws.proofs.Basics.{written-member}
use Rattle.core_laws.proofs.EventCases.{Change, bad, begin, lock, raise, refuse, finish, end_plain, end_snapshot, release, take_batch, vote, decide_some, decide_none, seal_batch, spoil_batch, doubt_batch, learn, emit, halt_run, want, load, ask-granted}
use Rattle.core_laws.proofs.AnyEvents.{run-keeps}

-- ---- units are numbered from the base on, and who hasn't begun has no line

abbrev pub Numbered : ℕ → CoreState → Type 0
Numbered base w = (base ≤ w.units.next) × ((u : UnitNo) → (w.units.phase u ≡ Unborn → ⊥) → base ≤ u.0)

-- a phase of a unit that has begun
numbered-phase : (base : ℕ) (w : CoreState) (u : UnitNo) (end : Phase) → w.units.phase u ≡ Running → Numbered base w → Numbered base (record w { units = record w.units { phase = put w.units.phase u end } })
numbered-phase base w u end running s = (
  s.0,
  λ x. put-from w.units.phase u end (λ p. p ≡ Unborn → ⊥) (base ≤ x.0) x
      (λ q n. subst (λ (z : UnitNo). base ≤ z.0) (sym q) (s.1 u (λ z. (let t : Unborn ≡ Running = sym z ∙ running in cc))))
      (λ q n. s.1 x n),
)

numbered-change : (base : ℕ) (w : CoreState) (e : CoreEvent) (w' : CoreState) → Change w e w' → applies w e ≡ true → Numbered base w → Numbered base w'
numbered-change base w e w' (bad line why q) a s = s
numbered-change base w e w' (begin origin call plain c) a s = (omega (arith, s.0), λ x. put-from w.units.phase (new_unit w) Running (λ p. p ≡ Unborn → ⊥) (base ≤ x.0) x (λ q n. omega (arith, s.0, ap (λ (z : UnitNo). z.0) q)) (λ q n. s.1 x n))
numbered-change base w e w' (lock u g mode running free first here) a s = s
numbered-change base w e w' (raise u g mode running free held here uncovered) a s = s
numbered-change base w e w' (refuse u g mode why running q) a s = numbered-phase base w u Refused running s
numbered-change base w e w' (finish u effect running plain of_call reads alone) a s = numbered-phase base w u Finished running s
numbered-change base w e w' (end_plain u effect running plain of_call bare) a s = numbered-phase base w u Ended running s
numbered-change base w e w' (end_snapshot u at outcome running plain kids answer) a s = numbered-phase base w u Ended running s
numbered-change base w e w' (release u g over held) a s = s
numbered-change base w e w' (take_batch none some) a s = s
numbered-change base w e w' (vote n g kept b q number d planned fresh) a s = s
numbered-change base w e w' (decide_some n b q number d voted some) a s = s
numbered-change base w e w' (decide_none n b q number d voted none) a s = s
numbered-change base w e w' (seal_batch n b ds q number d) a s = s
numbered-change base w e w' (spoil_batch n b ds q number d) a s = s
numbered-change base w e w' (doubt_batch n b ds q number d) a s = s
numbered-change base w e w' (learn u g wrote final fresh) a s = s
numbered-change base w e w' (emit q) a s = s
numbered-change base w e w' (halt_run q) a s = s
numbered-change base w e w' (want u g running free fresh) a s = s
numbered-change base w e w' (load g u state gone wanted) a s = s

pub numbered-ends : (r : Run) → Numbered r.base (ends r)
numbered-ends r = run-keeps (Numbered r.base) (numbered-change r.base) (λ w here s. s) r.events (begins r) (omega arith, λ u n. absurd (n refl))

abbrev pub Lineless : CoreState → Type 0
Lineless w = (u : UnitNo) → w.units.phase u ≡ Unborn → w.units.origin u ≡ Line 0

lineless-phase : (w : CoreState) (u : UnitNo) (end : Phase) → (end ≡ Unborn → ⊥) → Lineless w → Lineless (record w { units = record w.units { phase = put w.units.phase u end } })
lineless-phase w u end n s = λ x. put-from w.units.phase u end (λ p. p ≡ Unborn) (w.units.origin x ≡ Line 0) x (λ q h. absurd (n h)) (λ q h. s x h)

lineless-change : (w : CoreState) (e : CoreEvent) (w' : CoreState) → Change w e w' → applies w e ≡ true → Lineless w → Lineless w'
lineless-change w e w' (bad line why q) a s = s
lineless-change w e w' (begin origin call plain c) a s = λ x. put-from w.units.phase (new_unit w) Running (λ p. p ≡ Unborn) (put w.units.origin (new_unit w) origin x ≡ Line 0) x (λ q h. cc) (λ q h. put-other w.units.origin (new_unit w) origin x q ∙ s x h)
lineless-change w e w' (lock u g mode running free first here) a s = s
lineless-change w e w' (raise u g mode running free held here uncovered) a s = s
lineless-change w e w' (refuse u g mode why running q) a s = lineless-phase w u Refused (λ z. cc) s
lineless-change w e w' (finish u effect running plain of_call reads alone) a s = lineless-phase w u Finished (λ z. cc) s
lineless-change w e w' (end_plain u effect running plain of_call bare) a s = lineless-phase w u Ended (λ z. cc) s
lineless-change w e w' (end_snapshot u at outcome running plain kids answer) a s = lineless-phase w u Ended (λ z. cc) s
lineless-change w e w' (release u g over held) a s = s
lineless-change w e w' (take_batch none some) a s = s
lineless-change w e w' (vote n g kept b q number d planned fresh) a s = s
lineless-change w e w' (decide_some n b q number d voted some) a s = s
lineless-change w e w' (decide_none n b q number d voted none) a s = s
lineless-change w e w' (seal_batch n b ds q number d) a s = s
lineless-change w e w' (spoil_batch n b ds q number d) a s = s
lineless-change w e w' (doubt_batch n b ds q number d) a s = s
lineless-change w e w' (learn u g wrote final fresh) a s = s
lineless-change w e w' (emit q) a s = s
lineless-change w e w' (halt_run q) a s = s
lineless-change w e w' (want u g running free fresh) a s = s
lineless-change w e w' (load g u state gone wanted) a s = s

pub lineless-ends : (r : Run) → Lineless (ends r)
lineless-ends r = run-keeps Lineless lineless-change (λ w here s. s) r.events (begins r) (λ u n. refl)

-- ---- what only grows, and what stays

abbrev pub Grown : ℕ → ℕ → CoreState → Type 0
Grown next kinds w = (next ≤ w.units.next) × (w.units.kinds ≡ kinds)

pub grown-change : (next kinds : ℕ) (w : CoreState) (e : CoreEvent) (w' : CoreState) → Change w e w' → applies w e ≡ true → Grown next kinds w → Grown next kinds w'
grown-change next kinds w e w' (bad line why q) a s = s
grown-change next kinds w e w' (begin origin call plain c) a s = (omega (arith, s.0), s.1)
grown-change next kinds w e w' (lock u g mode running free first here) a s = s
grown-change next kinds w e w' (raise u g mode running free held here uncovered) a s = s
grown-change next kinds w e w' (refuse u g mode why running q) a s = s
grown-change next kinds w e w' (finish u effect running plain of_call reads alone) a s = s
grown-change next kinds w e w' (end_plain u effect running plain of_call bare) a s = s
grown-change next kinds w e w' (end_snapshot u at outcome running plain kids answer) a s = s
grown-change next kinds w e w' (release u g over held) a s = s
grown-change next kinds w e w' (take_batch none some) a s = s
grown-change next kinds w e w' (vote n g kept b q number d planned fresh) a s = s
grown-change next kinds w e w' (decide_some n b q number d voted some) a s = s
grown-change next kinds w e w' (decide_none n b q number d voted none) a s = s
grown-change next kinds w e w' (seal_batch n b ds q number d) a s = s
grown-change next kinds w e w' (spoil_batch n b ds q number d) a s = s
grown-change next kinds w e w' (doubt_batch n b ds q number d) a s = s
grown-change next kinds w e w' (learn u g wrote final fresh) a s = s
grown-change next kinds w e w' (emit q) a s = s
grown-change next kinds w e w' (halt_run q) a s = s
grown-change next kinds w e w' (want u g running free fresh) a s = s
grown-change next kinds w e w' (load g u state gone wanted) a s = s

-- the number of the next unit only grows, and the types stay
pub grown-run : (w : CoreState) (es : List CoreEvent) → Grown w.units.next w.units.kinds (run w es)
grown-run w es = run-keeps (Grown w.units.next w.units.kinds) (grown-change w.units.next w.units.kinds) (λ w here s. s) es w (le_refl w.units.next, refl)

-- ---- who holds or wrote a grain, its type is one of the program's

abbrev pub InKinds : CoreState → Type 0
InKinds w =
    ((g : GrainId) (h : Hold) → Member h (w.cells.holds g) → g.kind < w.units.kinds)
    × ((u : UnitNo) (g : GrainId) → WroteGrain w.manager.writes u g → g.kind < w.units.kinds)

-- the type of a grain that is granted
granted-kind : (w : CoreState) (u : UnitNo) (g : GrainId) (mode : Mode) → applies w (Grant u g mode) ≡ true → g.kind < w.units.kinds
granted-kind w u g mode a =
    let t = ask-granted w u g mode (and_parts (is_allowed w (Grant u g mode)) (can w (Grant u g mode)) a).1 in
    ltb-true g.kind w.units.kinds (and_parts (is_running (w.units.phase u)) (nat_lt g.kind w.units.kinds) t.0).1

holds-in : (w : CoreState) (u : UnitNo) (g : GrainId) (mode : Mode) → g.kind < w.units.kinds → InKinds w → (k : GrainId) (h : Hold) → Member h (put_grain w.cells.holds g (granted (w.cells.holds g) u mode) k) → k.kind < w.units.kinds
holds-in w u g mode lt s k h = grain-from w.cells.holds g (granted (w.cells.holds g) u mode) (Member h) (k.kind < w.units.kinds) k
    (λ q m. subst (λ (z : GrainId). z.kind < w.units.kinds) (sym q) lt)
    (λ q m. s.0 k h m)

pub in-kinds-change : (w : CoreState) (e : CoreEvent) (w' : CoreState) → Change w e w' → applies w e ≡ true → InKinds w → InKinds w'
in-kinds-change w e w' (bad line why q) a s = s
in-kinds-change w e w' (begin origin call plain c) a s = s
in-kinds-change w e w' (lock u g mode running free first here) a s = (holds-in w u g mode (granted-kind w u g mode a) s, s.1)
in-kinds-change w e w' (raise u g mode running free held here uncovered) a s = (holds-in w u g mode (granted-kind w u g mode a) s, s.1)
in-kinds-change w e w' (refuse u g mode why running q) a s = s
in-kinds-change w e w' (finish u effect running plain of_call reads alone) a s = (
  s.0,
  λ x g. put-from w.manager.writes u effect.writes (λ ws. (v : List Value) × (state_written g ws ≡ Some v)) (g.kind < w.units.kinds) x
      (λ q wrote.
      (let m = written-member g wrote.0 effect.writes wrote.1 in
      let h = any-true (λ h. is_hold_of u h && is_update h.mode) (w.cells.holds m.0.0) (all-true (λ (y : Write). holds_alone w u y.0) effect.writes alone m.0 m.1) in
      subst (λ (z : GrainId). z.kind < w.units.kinds) m.2 (s.0 m.0.0 h.0 h.1)))
      (λ q wrote. s.1 x g wrote),
)
in-kinds-change w e w' (end_plain u effect running plain of_call bare) a s = s
in-kinds-change w e w' (end_snapshot u at outcome running plain kids answer) a s = s
in-kinds-change w e w' (release u g over held) a s = (
  (λ k h. grain-from w.cells.holds g (dropped (w.cells.holds g) u) (Member h) (k.kind < w.units.kinds) k
      (λ q m. s.0 k h (subst (λ z. Member h (w.cells.holds z)) (sym q) (dropped-member u (w.cells.holds g) h m).0))
      (λ q m. s.0 k h m)),
  s.1,
)
in-kinds-change w e w' (take_batch none some) a s = s
in-kinds-change w e w' (vote n g kept b q number d planned fresh) a s = s
in-kinds-change w e w' (decide_some n b q number d voted some) a s = s
in-kinds-change w e w' (decide_none n b q number d voted none) a s = s
in-kinds-change w e w' (seal_batch n b ds q number d) a s = s
in-kinds-change w e w' (spoil_batch n b ds q number d) a s = s
in-kinds-change w e w' (doubt_batch n b ds q number d) a s = s
in-kinds-change w e w' (learn u g wrote final fresh) a s = s
in-kinds-change w e w' (emit q) a s = s
in-kinds-change w e w' (halt_run q) a s = s
in-kinds-change w e w' (want u g running free fresh) a s = s
in-kinds-change w e w' (load g u state gone wanted) a s = s

pub in-kinds-ends : (r : Run) → InKinds (ends r)
in-kinds-ends r = run-keeps InKinds in-kinds-change (λ w here s. s) r.events (begins r) ((λ g h m. absurd m), (λ u g wrote. (let z = wrote.1 in cc)))
