-- Each line so far has its unit or its entry.
use Rattle.std.proofs.Common.{◌≡◌, ℕ, ◌+◌, ◌≤◌, List, [], ◌∷◌, ◌++◌, true, inl, inr, refl, sym, ap, ◌∙◌, subst, arith, le_refl, eqb-true, append-nil}
use Rattle.std.proofs.lemmas.Bool.{cases_lt}
use Rattle.base_types.specs.declared.entries.Settled.TheVariants as settled
use Rattle.base_types.specs.declared.calls.Origin.{Origin}
use Rattle.base_types.specs.declared.calls.Origin.TheVariants.{Line, Child}
use Rattle.cell_model.proofs.Units.{Member-left, Member-last}
use Rattle.core_model.specs.CoreState.{UnitNo, nobody, put, Member, Entry, CoreState}
use Rattle.core_model.specs.declared.phases.Phase.{Phase}
use Rattle.core_model.specs.declared.phases.Phase.TheVariants.{Unborn, Running, Finished, Refused, Ended}
use Rattle.core_model.specs.Lines.{HasBegunFor, LinesAreTaken}
use Rattle.core_model.specs.Changes.{new_unit, lines_with}
use Rattle.core_model.specs.Events.{can_begin}
use Rattle.core_model.specs.declared.events.CoreEvent.{CoreEvent}
use Rattle.core_laws.proofs.Puts.{put-is, put-other}
use Rattle.core_laws.proofs.EventCases.{Change, bad, begin, lock, raise, refuse, finish, end_plain, end_snapshot, release, take_batch, vote, decide_some, decide_none, seal_batch, spoil_batch, doubt_batch, learn, emit, halt_run, want, load}
use Rattle.core_laws.proofs.KeptLocks.{born-put}
use Rattle.core_laws.proofs.LoadlessKept.{LoadlessKept}

-- what is taken stays so where units stay begun, and entries are added
taken-on : (w : CoreState) (v : CoreState) (new : List Entry) → v.units.lines ≡ w.units.lines → v.manager.settled ≡ w.manager.settled ++ new → ((u : UnitNo) (n : ℕ) → HasBegunFor w u n → HasBegunFor v u n) → LinesAreTaken w → LinesAreTaken v
taken-on w v new lines all on s = λ n low high. elim (s n low (subst (λ m. n ≤ m) lines high)) [
  | inl t ↦ inl (t.0, on t.0 n t.1)
  | inr t ↦ inr (t.0, subst (Member t.0) (sym all) (Member-left t.0 w.manager.settled new t.1), t.2)
]

more : (xs : List Entry) → xs ≡ xs ++ []
more xs = sym (append-nil xs)

taken-phase : (w : CoreState) (u : UnitNo) (end : Phase) → (end ≡ Unborn → ⊥) → (x : UnitNo) (n : ℕ) → HasBegunFor w x n → (put w.units.phase u end x ≡ Unborn → ⊥) × (w.units.origin x ≡ Line n)
taken-phase w u end n x m b = (born-put w u end n x b.0, b.1)

-- who has begun has begun, where another does
taken-keep : (w : CoreState) (origin : Origin) → LoadlessKept w → (v : CoreState) → v.units.phase ≡ put w.units.phase (new_unit w) Running → v.units.origin ≡ put w.units.origin (new_unit w) origin →
    (u : UnitNo) (n : ℕ) → HasBegunFor w u n → HasBegunFor v u n
taken-keep w origin k v phase from u n b =
    let apart : u ≡ new_unit w → ⊥ = λ q. b.0 (ap w.units.phase q ∙ k.0.unborn (new_unit w) (le_refl w.units.next)) in (
      (λ z. b.0 (sym (put-other w.units.phase (new_unit w) Running u apart) ∙ (λ i. sym phase i u) ∙ z)),
      (λ i. from i u) ∙ put-other w.units.origin (new_unit w) origin u apart ∙ b.1,
    )

taken-begun : (w : CoreState) (origin : Origin) → LoadlessKept w → can_begin w origin ≡ true → LinesAreTaken w → (v : CoreState) → v.manager.settled ≡ w.manager.settled →
    v.units.lines ≡ lines_with w.units.lines origin → v.units.phase ≡ put w.units.phase (new_unit w) Running → v.units.origin ≡ put w.units.origin (new_unit w) origin → LinesAreTaken v
taken-begun w (Child p i d) k c s v all lines phase origin = taken-on w v [] lines (all ∙ more w.manager.settled) (taken-keep w (Child p i d) k v phase origin) s
taken-begun w (Line m) k c s v all lines phase origin = λ n low high. elim (cases_lt w.units.lines n) [
  | inl lt ↦
      let is : n ≡ m = (let t = eqb-true m (w.units.lines + 1) c in omega (arith, t, lt, subst (λ j. n ≤ j) lines high)) in
      inl (new_unit w, ((λ z. (let y : Unborn ≡ Running = sym z ∙ (λ i. phase i (new_unit w)) ∙ put-is w.units.phase (new_unit w) Running (new_unit w) refl in cc)), (λ i. origin i (new_unit w)) ∙ put-is w.units.origin (new_unit w) (Line m) (new_unit w) refl ∙ ap Line (sym is)))
  | inr le ↦ elim (s n low le) [
    | inl t ↦ inl (t.0, taken-keep w (Line m) k v phase origin t.0 n t.1)
    | inr t ↦ inr (t.0, subst (Member t.0) (sym all) t.1, t.2)
  ]
]

pub taken-change : (w : CoreState) (e : CoreEvent) (w' : CoreState) → Change w e w' → LoadlessKept w → LinesAreTaken w → LinesAreTaken w'
taken-change w e w' (bad line why q) k s = λ n low high. elim (cases_lt w.units.lines n) [
  | inl lt ↦ inr (record { line = line; unit = nobody; what = settled.Bad why }, Member-last (record { line = line; unit = nobody; what = settled.Bad why }) w.manager.settled, omega (arith, q, lt, high))
  | inr le ↦ elim (s n low le) [
    | inl t ↦ inl t
    | inr t ↦ inr (t.0, Member-left t.0 w.manager.settled (record { line = line; unit = nobody; what = settled.Bad why } ∷ []) t.1, t.2)
  ]
]
taken-change w e w' (begin origin call plain c) k s = taken-begun w origin k c s w' refl refl refl refl
taken-change w e w' (lock u g mode running free first here) k s = s
taken-change w e w' (raise u g mode running free held here uncovered) k s = s
taken-change w e w' (refuse u g mode why running q) k s = taken-on w w' _ refl refl (taken-phase w u Refused (λ z. cc)) s
taken-change w e w' (finish u effect running plain of_call reads alone) k s = taken-on w w' [] refl (more w.manager.settled) (taken-phase w u Finished (λ z. cc)) s
taken-change w e w' (end_plain u effect running plain of_call bare) k s = taken-on w w' _ refl refl (taken-phase w u Ended (λ z. cc)) s
taken-change w e w' (end_snapshot u at outcome running plain kids answer) k s = taken-on w w' _ refl refl (taken-phase w u Ended (λ z. cc)) s
taken-change w e w' (release u g over held) k s = s
taken-change w e w' (take_batch none some) k s = s
taken-change w e w' (vote n g kept b q number d planned fresh) k s = s
taken-change w e w' (decide_some n b q number d voted some) k s = s
taken-change w e w' (decide_none n b q number d voted none) k s = taken-on w w' _ refl refl (λ u n h. h) s
taken-change w e w' (seal_batch n b ds q number d) k s = taken-on w w' _ refl refl (λ u n h. h) s
taken-change w e w' (spoil_batch n b ds q number d) k s = taken-on w w' _ refl refl (λ u n h. h) s
taken-change w e w' (doubt_batch n b ds q number d) k s = taken-on w w' _ refl refl (λ u n h. h) s
taken-change w e w' (learn u g wrote final fresh) k s = s
taken-change w e w' (emit q) k s = s
taken-change w e w' (halt_run q) k s = s
taken-change w e w' (want u g running free fresh) k s = s
taken-change w e w' (load g u state gone wanted) k s = s
