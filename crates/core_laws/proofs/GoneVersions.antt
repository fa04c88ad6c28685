-- A version that a running unit read is on top, or is gone from the stack.
use Rattle.std.proofs.Common.{◌≡◌, ℕ, ◌<◌, List, [], ◌∷◌, ◌++◌, Bool, true, false, ◌⊎◌, inl, inr, refl, sym, ap, ◌∙◌, subst, arith, Option, Some, None}
use Rattle.std.proofs.lemmas.Bool.{and_parts, not-true, cond_both}
use Rattle.cell_model.specs.Locks.{is_hold_of, holds_lock}
use Rattle.cell_model.proofs.Units.{same_unit-true, same_unit-false, any-true, Member-append}
use Rattle.core_model.specs.CoreState.{UnitNo, GrainId, put, Member, Value, Version, top, cut, Mode, CoreState}
use Rattle.core_model.specs.declared.phases.Phase.{Phase}
use Rattle.core_model.specs.declared.phases.Phase.TheVariants.{Running, Finished, Refused, Ended}
use Rattle.core_model.specs.declared.effects.Read.{Read}
use Rattle.core_model.specs.Tests.{any, is_aborted, is_committed, state_written}
use Rattle.core_model.specs.Chains.{Chain, IsBottom, IsLink}
use Rattle.core_laws.proofs.Puts.{put-from, grain-at}
use Rattle.core_laws.proofs.Invariant.{Inv, wrote-finished}
use Rattle.cell_model.specs.Stacks.{is_of, committed_stack}
use Rattle.cell_model.specs.Cells.{stacked, learnt}
use Rattle.cell_model.proofs.Stacks.{committed-top}
use Rattle.core_model.specs.Tests.{is_gone}
use Rattle.cell_model.proofs.Units.{same_unit-not}
use Rattle.std.proofs.lemmas.Bool.{not_from_false}
use Rattle.core_laws.proofs.Basics.{is_over-not}
use Rattle.core_model.specs.Changes.{new_unit, restacked, cleaned, after_lock, after_release, loaded, read_of, swept, swept_by}
use Rattle.std.proofs.Common.{le_refl}
use Rattle.core_model.specs.Events.{applies, can, does, step, run, is_allowed}
use Rattle.core_model.specs.declared.events.CoreEvent.{CoreEvent}
use Rattle.core_model.specs.SerialOrder.{IsTrueLoad, AllLoadsTrue}
use Rattle.core_laws.proofs.EventCases.{Change, bad, begin, lock, raise, refuse, finish, end_plain, end_snapshot, release, take_batch, vote, decide_some, decide_none, seal_batch, spoil_batch, doubt_batch, learn, emit, halt_run, want, load, decode}
use Rattle.core_laws.proofs.ReleasedGrains.{cut-member, committed-member}
use Rattle.core_laws.proofs.KeptInvariant.{Kept, kept-step}

-- the unit has no version in the stack
abbrev pub Absent : UnitNo → List Version → Type 0
Absent u xs = (x : Version) → Member x xs → x.unit ≡ u → ⊥

abbrev pub Removed : CoreState → Type 0
Removed w = (u : UnitNo) (r : Read) → w.units.phase u ≡ Running → Member r (w.units.reads u) → (r.source ≡ (top (w.cells.stack r.grain)).unit) ⊎ Absent r.source (w.cells.stack r.grain)

-- places fall down a stack
below-top : (opening : GrainId → List Value) (n : ℕ) (w : CoreState) → Inv opening n w → (g : GrainId) (y : Version) (ys : List Version) →
    Chain (IsBottom opening w.units.phase w.manager.writes w.manager.verdict g) (IsLink w.units.phase w.manager.writes w.units.reads g) (y ∷ ys) → (x : Version) → Member x ys → w.manager.place x.unit < w.manager.place y.unit
below-top opening n w i g y [] c x m = absurd m
below-top opening n w i g y (z ∷ zs) c x m =
    let lower : w.manager.place z.unit < w.manager.place y.unit = elim (i.source y.unit c.0.1.0 c.0.1.1) [
      | inl o ↦ (let t = i.placed y.unit c.0.0.0 in omega (arith, ap w.manager.place (sym c.0.1.3 ∙ o.0), i.origin, t.2))
      | inr o ↦ subst (λ k. w.manager.place k < w.manager.place y.unit) c.0.1.3 (o.2 c.0.0.0)
    ] in
    elim m [
      | inl q ↦ subst (λ (k : Version). w.manager.place k.unit < w.manager.place y.unit) (sym q) lower
      | inr q ↦ (let t = below-top opening n w i g z zs c.1 x q in omega (arith, t, lower))
    ]

-- what a cut takes off is gone
cut-absent : (opening : GrainId → List Value) (n : ℕ) (w : CoreState) → Inv opening n w → (g : GrainId) (p : Version → Bool) (xs : List Version) →
    Chain (IsBottom opening w.units.phase w.manager.writes w.manager.verdict g) (IsLink w.units.phase w.manager.writes w.units.reads g) xs →
    (cut p xs ≡ xs) ⊎ Absent (top xs).unit (cut p xs)
cut-absent opening n w i g p [] c = absurd c
cut-absent opening n w i g p (y ∷ ys) c =
    cond_both (any p (y ∷ ys)) (cut p ys) (y ∷ ys) (λ t. (t ≡ y ∷ ys) ⊎ Absent y.unit t)
    (λ e. inr (λ x m q. (let t = below-top opening n w i g y ys c x (cut-member p ys x m) in omega (arith, t, ap w.manager.place q))))
    (λ e. inl refl)

removed-restacked : (w : CoreState) (g : GrainId) (xs : List Version) → ((x : Version) → Member x xs → Member x (w.cells.stack g)) → (((top xs).unit ≡ (top (w.cells.stack g)).unit) ⊎ Absent (top (w.cells.stack g)).unit xs) →
    Removed w → Removed (restacked w g xs)
removed-restacked w g xs sub tops s u r p m = grain-at w.cells.stack g xs (λ t. (r.source ≡ (top t).unit) ⊎ Absent r.source t) r.grain
    (λ e. elim (s u r p m) [
      | inl a ↦ (let q : r.source ≡ (top (w.cells.stack g)).unit = a ∙ ap (λ j. (top (w.cells.stack j)).unit) e in
          elim tops [
            | inl t ↦ inl (q ∙ sym t)
            | inr t ↦ inr (λ x h z. t x h (z ∙ q))
          ])
      | inr a ↦ inr (λ x h. a x (subst (λ j. Member x (w.cells.stack j)) (sym e) (sub x h)))
    ])
    (λ e. s u r p m)

removed-cut : (opening : GrainId → List Value) (n : ℕ) (w : CoreState) → Inv opening n w → (g : GrainId) (p : Version → Bool) → Removed w → Removed (restacked w g (cut p (w.cells.stack g)))
removed-cut opening n w i g p s =
    removed-restacked w g (cut p (w.cells.stack g)) (λ x m. cut-member p (w.cells.stack g) x m)
    (elim (cut-absent opening n w i g p (w.cells.stack g) (i.chain g)) [ inl e ↦ inl (ap (λ t. (top t).unit) e) | inr a ↦ inr a ]) s

removed-learnt : (opening : GrainId → List Value) (n : ℕ) (w : CoreState) → Inv opening n w → (u : UnitNo) (g : GrainId) → Removed w → (b : Bool) → Removed (restacked w g (learnt b u (w.cells.stack g)))
removed-learnt opening n w i u g s true = removed-restacked w g (committed_stack u (w.cells.stack g)) (λ x m. committed-member u (w.cells.stack g) x m) (inl (ap (λ (t : Version). t.unit) (committed-top u (w.cells.stack g)))) s
removed-learnt opening n w i u g s false = removed-cut opening n w i g (is_of u) s

removed-locked : (w : CoreState) (u : UnitNo) (g : GrainId) (mode : Mode) → Removed w → Removed (after_lock w u g mode)
removed-locked w u g mode s x r p = put-from w.units.reads u (w.units.reads u ++ read_of g (top (w.cells.stack g)) ∷ []) (Member r) ((r.source ≡ (top (w.cells.stack r.grain)).unit) ⊎ Absent r.source (w.cells.stack r.grain)) x
    (λ e m. elim (Member-append r (w.units.reads u) (read_of g (top (w.cells.stack g)) ∷ []) m) [
      | inl o ↦ s x r p (subst (λ z. Member r (w.units.reads z)) (sym e) o)
      | inr o ↦ elim o [ inl q ↦ inl (ap (λ (z : Read). z.source) q ∙ ap (λ (z : Read). (top (w.cells.stack z.grain)).unit) (sym q)) | inr q ↦ absurd q ]
    ])
    (λ e m. s x r p m)

-- while another unit holds the grain, a release pushes nothing
removed-released : (opening : GrainId → List Value) (n : ℕ) (w : CoreState) → Inv opening n w → (u : UnitNo) (g : GrainId) → (w.units.phase u ≡ Running → ⊥) → holds_lock u (w.cells.holds g) ≡ true → Removed w → Removed (after_release w u g)
removed-released opening n w i u g over held s x r p m = grain-at w.cells.stack g stack_g (λ t. (r.source ≡ (top t).unit) ⊎ Absent r.source t) r.grain
    (λ e. subst (λ t. (r.source ≡ (top t).unit) ⊎ Absent r.source t) (ap w.cells.stack e ∙ sym (same e)) (s x r p m))
    (λ e. s x r p m)
  where
    stack_g : List Version
    stack_g = stacked (w.cells.readings g) (w.cells.stack g) u (state_written g (w.manager.writes u))

    same : r.grain ≡ g → stack_g ≡ w.cells.stack g
    same e = go (state_written g (w.manager.writes u)) refl
      where
        go : (o : Option (List Value)) → state_written g (w.manager.writes u) ≡ o → stacked (w.cells.readings g) (w.cells.stack g) u o ≡ w.cells.stack g
        go None q = refl
        go (Some v) q =
            let own = any-true (is_hold_of u) (w.cells.holds g) held in
            let done = wrote-finished opening n w i u g v q in
            let alone = i.strong u g own.0 done (v, q) own.1 (same_unit-true _ _ own.2) in
            let h = i.keeps x r p m in
            let z : h.0.unit ≡ alone.0.unit = i.alone g alone.0 h.0 alone.1 (subst (λ j. Member h.0 (w.cells.holds j)) e h.1) alone.3 in
            let t : Finished ≡ Running = sym done ∙ ap w.units.phase (sym alone.2 ∙ sym z ∙ h.2) ∙ p in cc

removed-loaded : (opening : GrainId → List Value) (n : ℕ) (w : CoreState) → Inv opening n w → (g : GrainId) (u : UnitNo) (state : List Value) → w.cells.here g ≡ false → Removed w → Removed (loaded w g u state)
removed-loaded opening n w i g u state away s x r p m = grain-at w.cells.stack g (record { unit = u; state = state } ∷ []) (λ t. (r.source ≡ (top t).unit) ⊎ Absent r.source t) r.grain
    (λ e. (let h = i.keeps x r p m in absurd (subst (Member h.0) (ap w.cells.holds e ∙ (i.away g away).0) h.1)))
    (λ e. s x r p m)

-- a unit that begins has no reads, and one that ends doesn't run
removed-phase : (w : CoreState) (u : UnitNo) (end : Phase) → ((r : Read) → end ≡ Running → Member r (w.units.reads u) → ⊥) → Removed w → Removed (record w { units = record w.units { phase = put w.units.phase u end } })
removed-phase w u end none s x r = put-from w.units.phase u end (λ z. z ≡ Running) (Member r (w.units.reads x) → (r.source ≡ (top (w.cells.stack r.grain)).unit) ⊎ Absent r.source (w.cells.stack r.grain)) x
    (λ q h m. absurd (none r h (subst (λ z. Member r (w.units.reads z)) q m)))
    (λ q h m. s x r h m)

pub removed-change : (opening : GrainId → List Value) (w : CoreState) (e : CoreEvent) (w' : CoreState) → Change w e w' → applies w e ≡ true → Kept opening w → Removed w → Removed w'
removed-change opening w e w' (bad line why q) a k s = s
removed-change opening w e w' (begin origin call plain c) a k s = removed-phase w (new_unit w) Running (λ r z m. subst (Member r) (k.0.blank (new_unit w) (k.0.unborn (new_unit w) (le_refl w.units.next))) m) s
removed-change opening w e w' (lock u g mode running free first here) a k s = removed-locked (restacked w g (cleaned w g)) u g mode (removed-cut opening _ w k.0 g (λ x. is_aborted (w.manager.verdict x.unit)) s)
removed-change opening w e w' (raise u g mode running free held here uncovered) a k s = removed-cut opening _ w k.0 g (λ x. is_aborted (w.manager.verdict x.unit)) s
removed-change opening w e w' (refuse u g mode why running q) a k s = removed-phase w u Refused (λ r z m. cc) s
removed-change opening w e w' (finish u effect running plain of_call reads alone) a k s = removed-phase w u Finished (λ r z m. cc) s
removed-change opening w e w' (end_plain u effect running plain of_call bare) a k s = removed-phase w u Ended (λ r z m. cc) s
removed-change opening w e w' (end_snapshot u at outcome running plain kids answer) a k s = removed-phase w u Ended (λ r z m. cc) s
removed-change opening w e w' (release u g over held) a k s = removed-released opening _ w k.0 u g (is_over-not _ over) held s
removed-change opening w e w' (take_batch none some) a k s = s
removed-change opening w e w' (vote n g kept b q number d planned fresh) a k s = s
removed-change opening w e w' (decide_some n b q number d voted some) a k s = s
removed-change opening w e w' (decide_none n b q number d voted none) a k s = s
removed-change opening w e w' (seal_batch n b ds q number d) a k s = s
removed-change opening w e w' (spoil_batch n b ds q number d) a k s = s
removed-change opening w e w' (doubt_batch n b ds q number d) a k s = s
removed-change opening w e w' (learn u g wrote final fresh) a k s = removed-learnt opening _ w k.0 u g s (is_committed (w.manager.verdict u))
removed-change opening w e w' (emit q) a k s = s
removed-change opening w e w' (halt_run q) a k s = s
removed-change opening w e w' (want u g running free fresh) a k s = s
removed-change opening w e w' (load g u state gone wanted) a k s = removed-loaded opening _ w k.0 g u state gone s

swept-removed : (w : CoreState) → Removed w → Removed (swept w)
swept-removed w s = go w.cells.capacity
  where
    go : (c : Option ℕ) → Removed (swept_by w c)
    go None = s
    go (Some m) = s

pub removed-step : (opening : GrainId → List Value) (w : CoreState) (e : CoreEvent) → IsTrueLoad opening w e → Kept opening w → Removed w → Removed (step w e)
removed-step opening w e t k s = cond_both (applies w e) (swept (does w e)) w Removed
    (λ a. (let c = decode w e (and_parts (is_allowed w e) (can w e) a).1 in
    swept-removed (does w e) (removed-change opening w e (does w e) c a k s)))
    (λ a. s)

pub removed-run : (opening : GrainId → List Value) (es : List CoreEvent) (w : CoreState) → AllLoadsTrue opening w es → Kept opening w → Removed w → Removed (run w es)
removed-run opening [] w l k s = s
removed-run opening (e ∷ es) w l k s = removed-run opening es (step w e) l.1 (kept-step opening w e l.0 k) (removed-step opening w e l.0 k s)

-- a stack isn't empty
top-member : (B : Version → Type 0) (L : Version → Version → Type 0) (xs : List Version) → Chain B L xs → Member (top xs) xs
top-member B L [] c = absurd c
top-member B L (x ∷ xs) c = inl refl

-- what a running unit read is no longer on top exactly where it is gone
pub gone-absent : (opening : GrainId → List Value) (n : ℕ) (w : CoreState) → Inv opening n w → Removed w → (u : UnitNo) (r : Read) → w.units.phase u ≡ Running → Member r (w.units.reads u) →
    (is_gone w r ≡ true → Absent r.source (w.cells.stack r.grain)) × (Absent r.source (w.cells.stack r.grain) → is_gone w r ≡ true)
gone-absent opening n w i s u r p m = (
  (λ e. elim (s u r p m) [ inl a ↦ absurd (same_unit-false _ _ (not-true _ e) (sym a)) | inr a ↦ a ]),
  (λ a. not_from_false _ (same_unit-not _ _ (λ q. a (top (w.cells.stack r.grain)) (top-member (IsBottom opening w.units.phase w.manager.writes w.manager.verdict r.grain) (IsLink w.units.phase w.manager.writes w.units.reads r.grain) (w.cells.stack r.grain) (i.chain r.grain)) q))),
)
