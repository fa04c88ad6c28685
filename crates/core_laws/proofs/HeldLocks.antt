-- Holders and what they read.
use Rattle.std.proofs.Common.{◌≡◌, ℕ, ◌+◌, ◌<◌, List, [], ◌∷◌, ◌++◌, Bool, true, false, ◌&&◌, not, ◌⊎◌, inl, inr, refl, sym, ap, ◌∙◌, subst, Option, Some, None}
use Rattle.std.proofs.lemmas.Bool.{and_parts, cond_both}
use Rattle.cell_model.specs.Locks.{is_update, is_hold_of, holds_lock, dropped}
use Rattle.cell_model.proofs.Units.{same_unit-true, same_unit-false, cases_unit, any-true, any-false, all-true, Member-append, Member-left, filter-member}
use Rattle.core_model.specs.CoreState.{UnitNo, GrainId, put, put_grain, Member, Value, Write, top, Hold, Mode, Reading, CoreState}
use Rattle.core_model.specs.declared.phases.Phase.TheVariants.{Running}
use Rattle.core_model.specs.declared.phases.Verdict.{Verdict}
use Rattle.core_model.specs.declared.phases.Verdict.TheVariants.{Aborted}
use Rattle.core_model.specs.declared.effects.Read.{Read}
use Rattle.core_model.specs.declared.effects.Effect.{Effect}
use Rattle.core_model.specs.Tests.{any, all, is_final, state_written}
use Rattle.core_model.specs.Chains.{WroteGrain}
use Rattle.core_laws.proofs.Puts.{put-at, put-is, put-other, grain-at, grain-other}
use Rattle.core_laws.proofs.Basics.{written-member}
use Rattle.std.proofs.Common.{filter, is_some}
use Rattle.cell_model.specs.Locks.{granted}
use Rattle.cell_model.specs.Cells.{with_reading, without_reading, is_reading_of}
use Rattle.cell_model.proofs.LockAnswers.{dropped-member}
use Rattle.cell_model.proofs.Units.{cases_grain}
use Rattle.core_model.specs.Holders.{DifferInUnit, HoldersHaveRead}
use Rattle.core_model.specs.Changes.{restacked, cleaned, after_lock, after_release, finished, read_of, after_refusal, decisions_of, with_decisions, sealed, spoiled, in_doubt, swept, swept_by}
use Rattle.core_model.specs.Events.{holds_alone}
use Rattle.core_model.specs.LegalRuns.{Run, begins, ends}
use Rattle.core_model.specs.Events.{applies, can, does, step, run, is_allowed}
use Rattle.core_model.specs.declared.events.CoreEvent.{CoreEvent}
use Rattle.core_model.specs.declared.events.CoreEvent.TheVariants.{Refuse, Decide, Sealed, NotSealed, Doubt}
use Rattle.core_laws.proofs.EventCases.{Change, bad, begin, lock, raise, refuse, finish, end_plain, end_snapshot, release, take_batch, vote, decide_some, decide_none, seal_batch, spoil_batch, doubt_batch, learn, emit, halt_run, want, load, decode}
use Rattle.core_laws.proofs.Growth.{grows-change}
use Rattle.core_laws.proofs.KeptInvariant.{decided_size}
use Rattle.core_laws.proofs.Loadless.{LoadlessAt}
use Rattle.core_laws.proofs.AnyEvents.{run-keeps}
use Rattle.core_laws.proofs.LoadlessKept.{LoadlessKept, loadless-change, loadless-begins, loadless-step, loadless-ends}

abbrev pub Tidy : CoreState → Type 0
Tidy w =
    ((g : GrainId) → DifferInUnit (λ (h : Hold). h.unit) (w.cells.holds g))
    × ((g : GrainId) → DifferInUnit (λ (s : Reading). s.unit) (w.cells.readings g))
    × ((u : UnitNo) (r s : Read) → Member r (w.units.reads u) → Member s (w.units.reads u) → r.grain ≡ s.grain → r ≡ s)
    × ((u : UnitNo) (g : GrainId) → WroteGrain w.manager.writes u g → (r : Read) × Member r (w.units.reads u) × (r.grain ≡ g))

differ-filter : {A : Type 0} (unit_of : A → UnitNo) (p : A → Bool) (xs : List A) → DifferInUnit unit_of xs → DifferInUnit unit_of (filter p xs)
differ-filter unit_of p [] d = tt
differ-filter unit_of p (x ∷ xs) d = cond_both (p x) (x ∷ filter p xs) (filter p xs) (DifferInUnit unit_of)
    (λ e. ((λ y m. d.0 y (filter-member p xs y m).0), differ-filter unit_of p xs d.1))
    (λ e. differ-filter unit_of p xs d.1)

differ-last : {A : Type 0} (unit_of : A → UnitNo) (xs : List A) (x : A) → DifferInUnit unit_of xs → ((y : A) → Member y xs → unit_of y ≡ unit_of x → ⊥) → DifferInUnit unit_of (xs ++ x ∷ [])
differ-last unit_of [] x d n = ((λ y m. absurd m), tt)
differ-last unit_of (z ∷ zs) x d n = (
  (λ y m. elim (Member-append y zs (x ∷ []) m) [
    | inl o ↦ d.0 y o
    | inr o ↦ elim o [ inl q ↦ (λ e. n z (inl refl) (e ∙ ap unit_of q)) | inr q ↦ absurd q ]
  ]),
  differ-last unit_of zs x d.1 (λ y m. n y (inr m)),
)

differ-granted : (holds : List Hold) (u : UnitNo) (mode : Mode) → DifferInUnit (λ (h : Hold). h.unit) holds → DifferInUnit (λ (h : Hold). h.unit) (granted holds u mode)
differ-granted holds u mode d =
    differ-last (λ (h : Hold). h.unit) (dropped holds u) (record { unit = u; mode = mode }) (differ-filter (λ (h : Hold). h.unit) (λ h. not (is_hold_of u h)) holds d)
    (λ y m. (dropped-member u holds y m).1)

differ-reading : (rs : List Reading) (u source : UnitNo) → DifferInUnit (λ (s : Reading). s.unit) rs → DifferInUnit (λ (s : Reading). s.unit) (with_reading rs u source)
differ-reading rs u source d = cond_both (any (is_reading_of u) rs) rs (rs ++ record { unit = u; source = source } ∷ []) (DifferInUnit (λ (s : Reading). s.unit))
    (λ e. d)
    (λ e. differ-last (λ (s : Reading). s.unit) rs (record { unit = u; source = source }) d (λ y m. same_unit-false y.unit u (any-false (is_reading_of u) rs e y m)))

tidy-held : (w : CoreState) (u : UnitNo) (g : GrainId) (mode : Mode) → Tidy w → ((k : GrainId) → DifferInUnit (λ (h : Hold). h.unit) (put_grain w.cells.holds g (granted (w.cells.holds g) u mode) k))
    × ((k : GrainId) → DifferInUnit (λ (s : Reading). s.unit) (put_grain w.cells.readings g (with_reading (w.cells.readings g) u (top (w.cells.stack g)).unit) k))
tidy-held w u g mode s = (
  (λ k. grain-at w.cells.holds g (granted (w.cells.holds g) u mode) (DifferInUnit (λ (h : Hold). h.unit)) k (λ e. differ-granted (w.cells.holds g) u mode (s.0 g)) (λ e. s.0 k)),
  (λ k. grain-at w.cells.readings g (with_reading (w.cells.readings g) u (top (w.cells.stack g)).unit) (DifferInUnit (λ (s : Reading). s.unit)) k (λ e. differ-reading (w.cells.readings g) u (top (w.cells.stack g)).unit (s.1 g)) (λ e. s.1 k)),
)

tidy-locked : (n : ℕ) (w : CoreState) (u : UnitNo) (g : GrainId) (mode : Mode) → LoadlessAt n w → w.units.phase u ≡ Running → holds_lock u (w.cells.holds g) ≡ false → Tidy w → Tidy (after_lock w u g mode)
tidy-locked n w u g mode i running first s = (
  (tidy-held w u g mode s).0,
  (tidy-held w u g mode s).1,
  (λ x r t m k q. elim (cases_unit x u) [
    | inl e ↦ elim (split r (subst (Member r) (put-is w.units.reads u reads_u x e) m)) [
      | inl a ↦ elim (split t (subst (Member t) (put-is w.units.reads u reads_u x e) k)) [
        | inl b ↦ s.2 u r t a b q
        | inr b ↦ absurd (not_there r a (q ∙ ap (λ (z : Read). z.grain) b))
      ]
      | inr a ↦ elim (split t (subst (Member t) (put-is w.units.reads u reads_u x e) k)) [
        | inl b ↦ absurd (not_there t b (sym q ∙ ap (λ (z : Read). z.grain) a))
        | inr b ↦ a ∙ sym b
      ]
    ]
    | inr e ↦ s.2 x r t (subst (Member r) (put-other w.units.reads u reads_u x e) m) (subst (Member t) (put-other w.units.reads u reads_u x e) k) q
  ]),
  (λ x k wr. (let t = s.3 x k wr in
      (t.0, put-at w.units.reads u reads_u (Member t.0) x (λ e. Member-left t.0 (w.units.reads u) (new ∷ []) (subst (λ z. Member t.0 (w.units.reads z)) e t.1)) (λ e. t.1), t.2))),
)
  where
    new : Read
    new = read_of g (top (w.cells.stack g))

    reads_u : List Read
    reads_u = w.units.reads u ++ new ∷ []

    split : (r : Read) → Member r reads_u → Member r (w.units.reads u) ⊎ (r ≡ new)
    split r m = elim (Member-append r (w.units.reads u) (new ∷ []) m) [ inl o ↦ inl o | inr o ↦ elim o [ inl q ↦ inr q | inr q ↦ absurd q ] ]

    not_there : (r : Read) → Member r (w.units.reads u) → r.grain ≡ g → ⊥
    not_there r m q =
        let h = i.keeps u r running m in
        same_unit-false h.0.unit u (any-false (is_hold_of u) (w.cells.holds g) first h.0 (subst (λ j. Member h.0 (w.cells.holds j)) q h.1)) h.2

tidy-released : (w : CoreState) (u : UnitNo) (g : GrainId) → Tidy w → Tidy (after_release w u g)
tidy-released w u g s = (
  (λ k. grain-at w.cells.holds g (dropped (w.cells.holds g) u) (DifferInUnit (λ (h : Hold). h.unit)) k (λ e. differ-filter (λ (h : Hold). h.unit) (λ h. not (is_hold_of u h)) (w.cells.holds g) (s.0 g)) (λ e. s.0 k)),
  (λ k. grain-at w.cells.readings g (without_reading (w.cells.readings g) u) (DifferInUnit (λ (s : Reading). s.unit)) k (λ e. differ-filter (λ (s : Reading). s.unit) (λ r. not (is_reading_of u r)) (w.cells.readings g) (s.1 g)) (λ e. s.1 k)),
  s.2,
  s.3,
)

tidy-finished : (n : ℕ) (w : CoreState) (u : UnitNo) (effect : Effect) → LoadlessAt n w → all (λ x. holds_alone w u x.0) effect.writes ≡ true → Tidy w → Tidy (finished w u effect)
tidy-finished n w u effect i alone s = (
  s.0,
  s.1,
  s.2,
  (λ x g wr. elim (cases_unit x u) [
    | inl e ↦ (let a = written-member g wr.0 effect.writes (ap (state_written g) (sym (put-is w.manager.writes u effect.writes x e)) ∙ wr.1) in
        let b = any-true (λ h. is_hold_of u h && is_update h.mode) (w.cells.holds a.0.0) (all-true (λ (y : Write). holds_alone w u y.0) effect.writes alone a.0 a.1) in
        let c = and_parts (is_hold_of u b.0) (is_update b.0.mode) b.2 in
        let t = i.told a.0.0 b.0 b.1 in
        let r = i.seen a.0.0 t.0 t.1 in
        (r.0, subst (λ z. Member r.0 (w.units.reads z)) (t.2 ∙ same_unit-true _ _ c.0 ∙ sym e) r.1, r.2 ∙ a.2))
    | inr e ↦ s.3 x g (wr.0, ap (state_written g) (sym (put-other w.manager.writes u effect.writes x e)) ∙ wr.1)
  ]),
)

pub tidy-change : (w : CoreState) (e : CoreEvent) (w' : CoreState) → Change w e w' → applies w e ≡ true → LoadlessAt (w.manager.closed + decided_size w.manager.batch) w → Tidy w → Tidy w'
tidy-change w e w' (bad line why q) a k s = s
tidy-change w e w' (begin origin call plain c) a k s = s
tidy-change w e w' (lock u g mode running free first here) a k s = tidy-locked _ (restacked w g (cleaned w g)) u g mode k running first s
tidy-change w e w' (raise u g mode running free held here uncovered) a k s = ((tidy-held (restacked w g (cleaned w g)) u g mode s).0, (tidy-held (restacked w g (cleaned w g)) u g mode s).1, s.2, s.3)
tidy-change w e w' (refuse u g mode why running q) a k s = s
tidy-change w e w' (finish u effect running plain of_call reads alone) a k s = tidy-finished _ w u effect k alone s
tidy-change w e w' (end_plain u effect running plain of_call bare) a k s = s
tidy-change w e w' (end_snapshot u at outcome running plain kids answer) a k s = s
tidy-change w e w' (release u g over held) a k s = tidy-released w u g s
tidy-change w e w' (take_batch none some) a k s = s
tidy-change w e w' (vote n g kept b q number d planned fresh) a k s = s
tidy-change w e w' (decide_some n b q number d voted some) a k s = s
tidy-change w e w' (decide_none n b q number d voted none) a k s = s
tidy-change w e w' (seal_batch n b ds q number d) a k s = s
tidy-change w e w' (spoil_batch n b ds q number d) a k s = s
tidy-change w e w' (doubt_batch n b ds q number d) a k s = s
tidy-change w e w' (learn u g wrote final fresh) a k s = s
tidy-change w e w' (emit q) a k s = s
tidy-change w e w' (halt_run q) a k s = s
tidy-change w e w' (want u g running free fresh) a k s = s
tidy-change w e w' (load g u state gone wanted) a k s = s

swept-tidy : (w : CoreState) → Tidy w → Tidy (swept w)
swept-tidy w s = go w.cells.capacity
  where
    go : (c : Option ℕ) → Tidy (swept_by w c)
    go None = s
    go (Some m) = s

pub tidy-step : (w : CoreState) (e : CoreEvent) → LoadlessKept w → Tidy w → Tidy (step w e)
tidy-step w e k s = cond_both (applies w e) (swept (does w e)) w Tidy
    (λ a. (let c = decode w e (and_parts (is_allowed w e) (can w e) a).1 in
    swept-tidy (does w e) (tidy-change w e (does w e) c a k.0 s)))
    (λ a. s)

-- that along with what needs no loads
pub tidy-ends : (r : Run) → 0 < r.base → Tidy (ends r)
tidy-ends r above = (run-keeps (λ w. LoadlessKept w × Tidy w) (λ w e w' c a t. (loadless-change w e w' c a t.0, tidy-change w e w' c a t.0.0 t.1)) (λ w here t. t) r.events (begins r)
    (loadless-begins r above, ((λ g. tt), (λ g. tt), (λ u r s m. absurd m), (λ u g wr. (let z = wr.1 in cc))))).1

-- what a grain has learnt
abbrev pub Knows : CoreState → Type 0
Knows w = (u : UnitNo) (g : GrainId) → w.cells.learnt u g ≡ true → (is_final (w.manager.verdict u) ≡ true) × WroteGrain w.manager.writes u g

knows-from : (w : CoreState) (verdict : UnitNo → Verdict) → ((x : UnitNo) → is_final (w.manager.verdict x) ≡ true → verdict x ≡ w.manager.verdict x) → Knows w →
    (u : UnitNo) (g : GrainId) → w.cells.learnt u g ≡ true → (is_final (verdict u) ≡ true) × WroteGrain w.manager.writes u g
knows-from w verdict same s u g e = (let t = s u g e in (ap is_final (same u t.0) ∙ t.0, t.1))

wrote-some : (o : Option (List Value)) → is_some o ≡ true → (v : List Value) × (o ≡ Some v)
wrote-some None e = cc
wrote-some (Some v) e = (v, refl)

pub knows-change : (w : CoreState) (e : CoreEvent) (w' : CoreState) → Change w e w' → applies w e ≡ true → LoadlessKept w → Knows w → Knows w'
knows-change w e w' (bad line why q) a k s = s
knows-change w e w' (begin origin call plain c) a k s = s
knows-change w e w' (lock u g mode running free first here) a k s = s
knows-change w e w' (raise u g mode running free held here uncovered) a k s = s
knows-change w e w' (refuse u g mode why running q) a k s = knows-from w (put w.manager.verdict u Aborted) (grows-change w (Refuse u g mode) (after_refusal w u why) (refuse u g mode why running q) a k).1 s
knows-change w e w' (finish u effect running plain of_call reads alone) a k s =
    λ x g z. (let t = s x g z in
    let apart : x ≡ u → ⊥ = λ q. (let y : false ≡ true = sym (ap is_final (ap w.manager.verdict q ∙ k.0.undecided u (inr running))) ∙ t.0 in cc) in
    (t.0, (t.1.0, ap (state_written g) (put-other w.manager.writes u effect.writes x apart) ∙ t.1.1)))
knows-change w e w' (end_plain u effect running plain of_call bare) a k s = s
knows-change w e w' (end_snapshot u at outcome running plain kids answer) a k s = s
knows-change w e w' (release u g over held) a k s = s
knows-change w e w' (take_batch none some) a k s = s
knows-change w e w' (vote n g kept b q number d planned fresh) a k s = s
knows-change w e w' (decide_some n b q number d voted some) a k s = knows-from w (with_decisions w b (decisions_of w b)).manager.verdict (grows-change w (Decide n) (with_decisions w b (decisions_of w b)) (decide_some n b q number d voted some) a k).1 s
knows-change w e w' (decide_none n b q number d voted none) a k s = knows-from w (sealed (with_decisions w b (decisions_of w b)) b (decisions_of w b)).manager.verdict (grows-change w (Decide n) (sealed (with_decisions w b (decisions_of w b)) b (decisions_of w b)) (decide_none n b q number d voted none) a k).1 s
knows-change w e w' (seal_batch n b ds q number d) a k s = knows-from w (sealed w b ds).manager.verdict (grows-change w (Sealed n) (sealed w b ds) (seal_batch n b ds q number d) a k).1 s
knows-change w e w' (spoil_batch n b ds q number d) a k s = knows-from w (spoiled w b ds).manager.verdict (grows-change w (NotSealed n) (spoiled w b ds) (spoil_batch n b ds q number d) a k).1 s
knows-change w e w' (doubt_batch n b ds q number d) a k s = knows-from w (in_doubt w b ds).manager.verdict (grows-change w (Doubt n) (in_doubt w b ds) (doubt_batch n b ds q number d) a k).1 s
knows-change w e w' (learn u g wrote final fresh) a k s =
    λ x j z. elim (cases_unit x u) [
      | inl q ↦ elim (cases_grain j g) [
        | inl y ↦ (let t = wrote-some (state_written g (w.manager.writes u)) wrote in
            (ap (λ i. is_final (w.manager.verdict i)) q ∙ final, (t.0, (λ i. state_written (y i) (w.manager.writes (q i))) ∙ t.1)))
        | inr y ↦ s x j (ap (λ i. w.cells.learnt i j) q ∙ sym (grain-other (w.cells.learnt u) g true j y) ∙ ap (λ (f : GrainId → Bool). f j) (sym (put-is w.cells.learnt u (put_grain (w.cells.learnt u) g true) x q)) ∙ z)
      ]
      | inr q ↦ s x j (ap (λ (f : GrainId → Bool). f j) (sym (put-other w.cells.learnt u (put_grain (w.cells.learnt u) g true) x q)) ∙ z)
    ]
knows-change w e w' (emit q) a k s = s
knows-change w e w' (halt_run q) a k s = s
knows-change w e w' (want u g running free fresh) a k s = s
knows-change w e w' (load g u state gone wanted) a k s = s

swept-knows : (w : CoreState) → Knows w → Knows (swept w)
swept-knows w s = go w.cells.capacity
  where
    go : (c : Option ℕ) → Knows (swept_by w c)
    go None = s
    go (Some m) = s

pub knows-step : (w : CoreState) (e : CoreEvent) → LoadlessKept w → Knows w → Knows (step w e)
knows-step w e k s = cond_both (applies w e) (swept (does w e)) w Knows
    (λ a. (let c = decode w e (and_parts (is_allowed w e) (can w e) a).1 in
    swept-knows (does w e) (knows-change w e (does w e) c a k s)))
    (λ a. s)

pub knows-run : (es : List CoreEvent) (w : CoreState) → LoadlessKept w → Knows w → Knows (run w es)
knows-run [] w k s = s
knows-run (e ∷ es) w k s = knows-run es (step w e) (loadless-step w e k) (knows-step w e k s)

pub holders-ends : (r : Run) → 0 < r.base → HoldersHaveRead (ends r)
holders-ends r above =
    let i = (loadless-ends r above).0 in
    let t = tidy-ends r above in
    let n = knows-run r.events (begins r) (loadless-begins r above) (λ u g e. cc) in
    record { one_lock = t.0; one_reading = t.1; reading = i.told; lock = i.kept; source = i.seen; once = t.2; overwrites = t.3; learnt = n }
