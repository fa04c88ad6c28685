-- Dependencies are sources.
use Rattle.std.proofs.Common.{◌≡◌, ℕ, List, [], ◌∷◌, ◌++◌, true, ◌⊎◌, inl, inr, sym, ◌∙◌, subst, Option, Some, None}
use Rattle.std.proofs.lemmas.Bool.{and_parts, or_parts, cond_both}
use Rattle.cell_model.proofs.Units.{same_unit-false, Member-left, Member-last}
use Rattle.cell_model.specs.Units.{UnitsAscend}
use Rattle.core_model.specs.CoreState.{UnitNo, GrainId, nobody, same_unit, put, Member, Value, top, Mode, CoreState}
use Rattle.core_model.specs.declared.effects.Read.{Read}
use Rattle.core_model.specs.Tests.{is_committed}
use Rattle.core_laws.proofs.Puts.{put-at, put-from, put-is}
use Rattle.cell_model.specs.Sources.{with_source}
use Rattle.cell_model.proofs.Sources.{with-only, with-ascending}
use Rattle.core_model.specs.Changes.{restacked, cleaned, after_lock, deps_with, is_sure, read_of, swept, swept_by}
use Rattle.core_model.specs.Events.{applies, can, does, step, run, is_allowed}
use Rattle.core_model.specs.declared.events.CoreEvent.{CoreEvent}
use Rattle.core_model.specs.SerialOrder.{IsTrueLoad, AllLoadsTrue}
use Rattle.core_laws.proofs.EventCases.{Change, bad, begin, lock, raise, refuse, finish, end_plain, end_snapshot, release, take_batch, vote, decide_some, decide_none, seal_batch, spoil_batch, doubt_batch, learn, emit, halt_run, want, load, decode}
use Rattle.core_laws.proofs.KeptInvariant.{Kept, kept-step}

abbrev pub Depends : CoreState → Type 0
Depends w =
    ((u : UnitNo) → UnitsAscend (w.units.deps u))
    × ((u d : UnitNo) → Member d (w.units.deps u) → (r : Read) × Member r (w.units.reads u) × (r.source ≡ d) × (d ≡ nobody → ⊥))

depends-locked : (w : CoreState) (u : UnitNo) (g : GrainId) (mode : Mode) → Depends w → Depends (after_lock w u g mode)
depends-locked w u g mode s = (
  (λ x. put-at w.units.deps u new_deps UnitsAscend x
      (λ e. cond_both (is_sure w source) (w.units.deps u) (with_source (w.units.deps u) source) UnitsAscend (λ q. s.0 u) (λ q. with-ascending (w.units.deps u) source (s.0 u)))
      (λ e. s.0 x)),
  (λ x d. put-from w.units.deps u new_deps (Member d) ((r : Read) × Member r (put w.units.reads u reads_u x) × (r.source ≡ d) × (d ≡ nobody → ⊥)) x
      (λ e m. elim (only d m) [
        | inl o ↦ more x d (s.1 x d (subst (λ z. Member d (w.units.deps z)) (sym e) o))
        | inr o ↦ (new, subst (Member new) (sym (put-is w.units.reads u reads_u x e)) (Member-last new (w.units.reads u)), sym o.0, λ q. o.1 (sym o.0 ∙ q))
      ])
      (λ e m. more x d (s.1 x d m))),
)
  where
    new : Read
    new = read_of g (top (w.cells.stack g))

    source : UnitNo
    source = (top (w.cells.stack g)).unit

    reads_u : List Read
    reads_u = w.units.reads u ++ new ∷ []

    new_deps : List UnitNo
    new_deps = deps_with w (w.units.deps u) source

    only : (d : UnitNo) → Member d new_deps → Member d (w.units.deps u) ⊎ ((d ≡ source) × (source ≡ nobody → ⊥))
    only d = cond_both (is_sure w source) (w.units.deps u) (with_source (w.units.deps u) source) (λ t. Member d t → Member d (w.units.deps u) ⊎ ((d ≡ source) × (source ≡ nobody → ⊥)))
        (λ q m. inl m)
        (λ q m. elim (with-only (w.units.deps u) source d m) [
          | inl e ↦ inr (e, same_unit-false source nobody (or_parts (same_unit source nobody) (is_committed (w.manager.verdict source)) q).0)
          | inr o ↦ inl o
        ])

    more : (x d : UnitNo) → (r : Read) × Member r (w.units.reads x) × (r.source ≡ d) × (d ≡ nobody → ⊥) → (r : Read) × Member r (put w.units.reads u reads_u x) × (r.source ≡ d) × (d ≡ nobody → ⊥)
    more x d t = (t.0, put-at w.units.reads u reads_u (Member t.0) x (λ e. Member-left t.0 (w.units.reads u) (new ∷ []) (subst (λ z. Member t.0 (w.units.reads z)) e t.1)) (λ e. t.1), t.2, t.3)

pub depends-change : (opening : GrainId → List Value) (w : CoreState) (e : CoreEvent) (w' : CoreState) → Change w e w' → applies w e ≡ true → Kept opening w → Depends w → Depends w'
depends-change opening w e w' (bad line why q) a k s = s
depends-change opening w e w' (begin origin call plain c) a k s = s
depends-change opening w e w' (lock u g mode running free first here) a k s = depends-locked (restacked w g (cleaned w g)) u g mode s
depends-change opening w e w' (raise u g mode running free held here uncovered) a k s = s
depends-change opening w e w' (refuse u g mode why running q) a k s = s
depends-change opening w e w' (finish u effect running plain of_call reads alone) a k s = s
depends-change opening w e w' (end_plain u effect running plain of_call bare) a k s = s
depends-change opening w e w' (end_snapshot u at outcome running plain kids answer) a k s = s
depends-change opening w e w' (release u g over held) a k s = s
depends-change opening w e w' (take_batch none some) a k s = s
depends-change opening w e w' (vote n g kept b q number d planned fresh) a k s = s
depends-change opening w e w' (decide_some n b q number d voted some) a k s = s
depends-change opening w e w' (decide_none n b q number d voted none) a k s = s
depends-change opening w e w' (seal_batch n b ds q number d) a k s = s
depends-change opening w e w' (spoil_batch n b ds q number d) a k s = s
depends-change opening w e w' (doubt_batch n b ds q number d) a k s = s
depends-change opening w e w' (learn u g wrote final fresh) a k s = s
depends-change opening w e w' (emit q) a k s = s
depends-change opening w e w' (halt_run q) a k s = s
depends-change opening w e w' (want u g running free fresh) a k s = s
depends-change opening w e w' (load g u state gone wanted) a k s = s

swept-depends : (w : CoreState) → Depends w → Depends (swept w)
swept-depends w s = go w.cells.capacity
  where
    go : (c : Option ℕ) → Depends (swept_by w c)
    go None = s
    go (Some m) = s

pub depends-step : (opening : GrainId → List Value) (w : CoreState) (e : CoreEvent) → IsTrueLoad opening w e → Kept opening w → Depends w → Depends (step w e)
depends-step opening w e t k s = cond_both (applies w e) (swept (does w e)) w Depends
    (λ a. (let c = decode w e (and_parts (is_allowed w e) (can w e) a).1 in
    swept-depends (does w e) (depends-change opening w e (does w e) c a k s)))
    (λ a. s)

pub depends-run : (opening : GrainId → List Value) (es : List CoreEvent) (w : CoreState) → AllLoadsTrue opening w es → Kept opening w → Depends w → Depends (run w es)
depends-run opening [] w l k s = s
depends-run opening (e ∷ es) w l k s = depends-run opening es (step w e) l.1 (kept-step opening w e l.0 k) (depends-step opening w e l.0 k s)
