-- What has learnt of a unit has that unit's version at the bottom, if at all; so stacks come down to one version.
use Rattle.std.proofs.Common.{◌≡◌, ℕ, ◌<◌, ◌≤◌, List, [], ◌∷◌, length, Bool, true, false, not, inl, inr, refl, sym, ap, ◌∙◌, subst, arith, Option, Some, None, filter, take, length-take}
use Rattle.std.specs.Prelude.{⊤, map}
use Rattle.std.proofs.lemmas.Bool.{and_parts, cases_lt, cond_both}
use Rattle.cell_model.specs.Stacks as stacks
use Rattle.cell_model.specs.Stacks.{is_of, pushed, removed}
use Rattle.cell_model.specs.Cells.{learnt, stacked, reads_top}
use Rattle.cell_model.specs.Locks.{is_hold_of}
use Rattle.cell_model.proofs.Units.{same_unit-true, same_unit-false, any-true, any-false, filter-stays, cases_unit}
use Rattle.cell_model.proofs.Stacks.{cut-none}
use Rattle.core_model.specs.CoreState.{UnitNo, GrainId, put, put_grain, Member, Value, Write, Version, Reading, top, cut, CoreState}
use Rattle.core_model.specs.declared.phases.Phase.TheVariants.{Finished}
use Rattle.core_model.specs.declared.phases.Verdict.TheVariants.{Committed}
use Rattle.core_model.specs.declared.effects.Effect.{Effect}
use Rattle.core_model.specs.Tests.{any, is_final, is_good, is_aborted, is_committed, state_written}
use Rattle.core_model.specs.Chains.{Chain, WroteGrain, IsBottom, IsLink}
use Rattle.core_model.specs.LearnQueue.{to_learn, next_learn}
use Rattle.core_model.specs.LockAnswers.{IsSettledGrain, SettledStacksAreSingle}
use Rattle.core_model.specs.Changes.{cleaned, swept, swept_by}
use Rattle.core_model.specs.Events.{applies, can, does, step, run, is_allowed}
use Rattle.core_model.specs.declared.events.CoreEvent.{CoreEvent}
use Rattle.core_model.specs.LegalRuns.{Run, IsLegal, begins, ends}
use Rattle.core_model.specs.SerialOrder.{AllLoadsTrue, IsLastVersion}
use Rattle.core_laws.proofs.Puts.{put-is, put-other, grain-at, grain-other}
use Rattle.core_laws.proofs.Failures.{written-named}
use Rattle.core_laws.proofs.Alive.{good-alive}
use Rattle.core_laws.proofs.EventCases.{Change, bad, begin, lock, raise, refuse, finish, end_plain, end_snapshot, release, take_batch, vote, decide_some, decide_none, seal_batch, spoil_batch, doubt_batch, learn, emit, halt_run, want, load, decode}
use Rattle.core_laws.proofs.Invariant.{wrote-finished}
use Rattle.core_laws.proofs.Orders.{Member-get, at_take}
use Rattle.core_laws.proofs.KeptInvariant.{Kept, kept-step}
use Rattle.core_laws.proofs.Batches.{Batched, batched-step}
use Rattle.core_laws.proofs.BatchPrefix.{Unheld, unheld-step}
use Rattle.core_laws.proofs.HeldLocks.{Knows, knows-step}
use Rattle.core_laws.proofs.Plans.{member-flat}
use Rattle.core_laws.proofs.SettlerSteps.{find-none}
use Rattle.core_laws.proofs.Ends.{kept-begins}
use Rattle.core_laws.proofs.LoadlessKept.{loadless-kept}

-- no version but the bottom is the unit's
abbrev pub OnlyBottom : UnitNo → List Version → Type 0
OnlyBottom u [] = ⊤
OnlyBottom u (x ∷ []) = ⊤
OnlyBottom u (x ∷ y ∷ ys) = (x.unit ≡ u → ⊥) × OnlyBottom u (y ∷ ys)

only-pushed : (u : UnitNo) (x : Version) (xs : List Version) → (x.unit ≡ u → ⊥) → OnlyBottom u xs → OnlyBottom u (x ∷ xs)
only-pushed u x [] n o = tt
only-pushed u x (y ∷ ys) n o = (n, o)

only-rest : (u : UnitNo) (x : Version) (xs : List Version) → OnlyBottom u (x ∷ xs) → OnlyBottom u xs
only-rest u x [] o = tt
only-rest u x (y ∷ ys) o = o.1

only-cut : (u : UnitNo) (test : Version → Bool) (xs : List Version) → OnlyBottom u xs → OnlyBottom u (cut test xs)
only-cut u test [] o = tt
only-cut u test (x ∷ xs) o = cond_both (any test (x ∷ xs)) (cut test xs) (x ∷ xs) (OnlyBottom u) (λ e. only-cut u test xs (only-rest u x xs o)) (λ e. o)

only-committed : (u v : UnitNo) (xs : List Version) → OnlyBottom u xs → OnlyBottom u (stacks.committed_stack v xs)
only-committed u v [] o = tt
only-committed u v (x ∷ []) o = cond_both (is_of v x) (x ∷ []) (x ∷ []) (OnlyBottom u) (λ e. tt) (λ e. tt)
only-committed u v (x ∷ y ∷ ys) o = cond_both (is_of v x) (x ∷ []) (x ∷ stacks.committed_stack v (y ∷ ys)) (OnlyBottom u)
    (λ e. tt)
    (λ e. only-pushed u x (stacks.committed_stack v (y ∷ ys)) o.0 (only-committed u v (y ∷ ys) o.1))

-- the unit that is committed is the bottom
committed-only : (u : UnitNo) (xs : List Version) → OnlyBottom u (stacks.committed_stack u xs)
committed-only u [] = tt
committed-only u (x ∷ xs) = cond_both (is_of u x) (x ∷ []) (x ∷ stacks.committed_stack u xs) (OnlyBottom u)
    (λ e. tt)
    (λ e. only-pushed u x (stacks.committed_stack u xs) (same_unit-false x.unit u e) (committed-only u xs))

absent-only : (u : UnitNo) (xs : List Version) → ((x : Version) → Member x xs → x.unit ≡ u → ⊥) → OnlyBottom u xs
absent-only u [] n = tt
absent-only u (x ∷ []) n = tt
absent-only u (x ∷ y ∷ ys) n = (n x (inl refl), absent-only u (y ∷ ys) (λ z m. n z (inr m)))

removed-only : (u : UnitNo) (xs : List Version) → OnlyBottom u (removed u xs)
removed-only u xs = absent-only u (removed u xs) (λ x m q. same_unit-false x.unit u (any-false (is_of u) (removed u xs) (cut-none (is_of u) xs) x m) q)

learnt-only : (u v : UnitNo) (commits : Bool) (xs : List Version) → OnlyBottom u xs → OnlyBottom u (learnt commits v xs)
learnt-only u v true xs o = only-committed u v xs o
learnt-only u v false xs o = only-cut u (is_of v) xs o

learns-only : (u : UnitNo) (commits : Bool) (xs : List Version) → OnlyBottom u (learnt commits u xs)
learns-only u true xs = committed-only u xs
learns-only u false xs = removed-only u xs

-- what a release puts on a stack is the releaser's
stacked-only : (u v : UnitNo) (readings : List Reading) (xs : List Version) (state : Option (List Value)) → (v ≡ u → ⊥) → OnlyBottom u xs → OnlyBottom u (stacked readings xs v state)
stacked-only u v readings xs None n o = o
stacked-only u v readings xs (Some s) n o = cond_both (reads_top readings xs v) (pushed xs v s) xs (OnlyBottom u) (λ e. only-pushed u (record { unit = v; state = s }) xs n o) (λ e. o)

-- what has learnt of a unit has that unit's version at the bottom, if at all
abbrev pub Below : CoreState → Type 0
Below w = (u : UnitNo) (g : GrainId) → w.cells.learnt u g ≡ true → OnlyBottom u (w.cells.stack g)

below-cut : (w : CoreState) (g : GrainId) → Below w → (u : UnitNo) (k : GrainId) → w.cells.learnt u k ≡ true → OnlyBottom u (put_grain w.cells.stack g (cleaned w g) k)
below-cut w g s u k e = grain-at w.cells.stack g (cleaned w g) (OnlyBottom u) k
    (λ q. only-cut u (λ x. is_aborted (w.manager.verdict x.unit)) (w.cells.stack g) (subst (λ j. OnlyBottom u (w.cells.stack j)) q (s u k e)))
    (λ q. s u k e)

pub below-change : (opening : GrainId → List Value) (w : CoreState) (e : CoreEvent) (w' : CoreState) → Change w e w' → Kept opening w → Batched w → Unheld w → Knows w → Below w → Below w'
below-change opening w e w' (bad line why q) k bat un kn s = s
below-change opening w e w' (begin origin call plain c) k bat un kn s = s
below-change opening w e w' (lock u g mode running free first here) k bat un kn s = below-cut w g s
below-change opening w e w' (raise u g mode running free held here uncovered) k bat un kn s = below-cut w g s
below-change opening w e w' (refuse u g mode why running q) k bat un kn s = s
below-change opening w e w' (finish u effect running plain of_call reads alone) k bat un kn s = s
below-change opening w e w' (end_plain u effect running plain of_call bare) k bat un kn s = s
below-change opening w e w' (end_snapshot u at outcome running plain kids answer) k bat un kn s = s
below-change opening w e w' (release u g over held) k bat un kn s =
    λ x j e. grain-at w.cells.stack g (stacked (w.cells.readings g) (w.cells.stack g) u (state_written g (w.manager.writes u))) (OnlyBottom x) j
    (λ q.
    (let l : w.cells.learnt x g ≡ true = ap (w.cells.learnt x) (sym q) ∙ e in
    stacked-only x u (w.cells.readings g) (w.cells.stack g) (state_written g (w.manager.writes u)) (λ is. busy (subst (λ z. w.cells.learnt z g ≡ true) (sym is) l)) (s x g l)))
    (λ q. s x j e)
  where
    busy : w.cells.learnt u g ≡ true → ⊥
    busy l =
        let t = kn u g l in
        let f = wrote-finished opening _ w k.0 u g t.1.0 t.1.1 in
        let h = any-true (is_hold_of u) (w.cells.holds g) held in
        elim (cases_lt w.manager.closed (w.manager.place u)) [
          | inl lt ↦ (let z : true ≡ false = sym t.0 ∙ bat.1 u f lt in cc)
          | inr le ↦ un u f (omega (arith, le)) g h.0 h.1 (same_unit-true h.0.unit u h.2)
        ]
below-change opening w e w' (take_batch none some) k bat un kn s = s
below-change opening w e w' (vote n g kept b q number d planned fresh) k bat un kn s = s
below-change opening w e w' (decide_some n b q number d voted some) k bat un kn s = s
below-change opening w e w' (decide_none n b q number d voted none) k bat un kn s = s
below-change opening w e w' (seal_batch n b ds q number d) k bat un kn s = s
below-change opening w e w' (spoil_batch n b ds q number d) k bat un kn s = s
below-change opening w e w' (doubt_batch n b ds q number d) k bat un kn s = s
below-change opening w e w' (learn u g wrote final fresh) k bat un kn s =
    λ x j e. grain-at w.cells.stack g (learnt (is_committed (w.manager.verdict u)) u (w.cells.stack g)) (OnlyBottom x) j
    (λ q. elim (cases_unit x u) [
      | inl is ↦ subst (λ z. OnlyBottom z (learnt (is_committed (w.manager.verdict u)) u (w.cells.stack g))) (sym is) (learns-only u (is_committed (w.manager.verdict u)) (w.cells.stack g))
      | inr not ↦ learnt-only x u (is_committed (w.manager.verdict u)) (w.cells.stack g) (s x g (ap (w.cells.learnt x) (sym q) ∙ before x j not e))
    ])
    (λ q. elim (cases_unit x u) [
      | inl is ↦ s x j (ap (λ z. w.cells.learnt z j) is ∙ sym (grain-other (w.cells.learnt u) g true j q) ∙ ap (λ (f : GrainId → Bool). f j) (sym (put-is w.cells.learnt u (put_grain (w.cells.learnt u) g true) x is)) ∙ e)
      | inr not ↦ s x j (before x j not e)
    ])
  where
    before : (x : UnitNo) (j : GrainId) → (x ≡ u → ⊥) → put w.cells.learnt u (put_grain (w.cells.learnt u) g true) x j ≡ true → w.cells.learnt x j ≡ true
    before x j not e = ap (λ (f : GrainId → Bool). f j) (sym (put-other w.cells.learnt u (put_grain (w.cells.learnt u) g true) x not)) ∙ e
below-change opening w e w' (emit q) k bat un kn s = s
below-change opening w e w' (halt_run q) k bat un kn s = s
below-change opening w e w' (want u g running free fresh) k bat un kn s = s
below-change opening w e w' (load g u state gone wanted) k bat un kn s =
    λ x j e. grain-at w.cells.stack g (record { unit = u; state = state } ∷ []) (OnlyBottom x) j (λ q. tt) (λ q. s x j e)

swept-below : (w : CoreState) → Below w → Below (swept w)
swept-below w s = go w.cells.capacity
  where
    go : (c : Option ℕ) → Below (swept_by w c)
    go None = s
    go (Some m) = s

pub below-step : (opening : GrainId → List Value) (w : CoreState) (e : CoreEvent) → Kept opening w → Batched w → Unheld w → Knows w → Below w → Below (step w e)
below-step opening w e k bat un kn s = cond_both (applies w e) (swept (does w e)) w Below
    (λ a. swept-below (does w e) (below-change opening w e (does w e) (decode w e (and_parts (is_allowed w e) (can w e) a).1) k bat un kn s))
    (λ a. s)

-- all that is needed along a run
record Going (opening : GrainId → List Value) (w : CoreState) : Type 0 where
  kept : Kept opening w
  batched : Batched w
  unheld : Unheld w
  knows : Knows w
  below : Below w

going-run : (opening : GrainId → List Value) (es : List CoreEvent) (w : CoreState) → AllLoadsTrue opening w es → Going opening w → Going opening (run w es)
going-run opening [] w l s = s
going-run opening (e ∷ es) w l s = going-run opening es (step w e) l.1 (record {
  kept = kept-step opening w e l.0 s.kept;
  batched = batched-step w e (loadless-kept opening w s.kept) s.batched;
  unheld = unheld-step w e (loadless-kept opening w s.kept) s.unheld;
  knows = knows-step w e (loadless-kept opening w s.kept) s.knows;
  below = below-step opening w e s.kept s.batched s.unheld s.knows s.below;
})

going-ends : (plays : Effect → Bool) (r : Run) → IsLegal plays r → Going r.opening (ends r)
going-ends plays r l = going-run r.opening r.events (begins r) l.loads (record {
  kept = kept-begins plays r l;
  batched = ((λ b q. cc), (λ u f. cc), (λ u f. cc));
  unheld = λ u f. cc;
  knows = λ u g e. cc;
  below = λ u g e. cc;
})

-- ---- one version

-- a decided finished unit stands in a closed batch
decided-closed : (w : CoreState) → Batched w → (u : UnitNo) → w.units.phase u ≡ Finished → is_final (w.manager.verdict u) ≡ true → w.manager.place u ≤ w.manager.closed
decided-closed w bat u f d = elim (cases_lt w.manager.closed (w.manager.place u)) [
  | inl lt ↦ (let z : true ≡ false = sym d ∙ bat.1 u f lt in cc)
  | inr le ↦ le
]

-- it is among those that the grains have to learn of
among-closed : (opening : GrainId → List Value) (w : CoreState) → Kept opening w → (u : UnitNo) → w.units.phase u ≡ Finished → w.manager.place u ≤ w.manager.closed → Member u (take w.manager.closed w.manager.order)
among-closed opening w k u f le =
    let t = k.0.placed u f in
    let lt : t.0 < w.manager.closed = omega (arith, t.2, le) in
    subst (λ z. Member z (take w.manager.closed w.manager.order)) (at_take w.manager.closed t.0 w.manager.order lt ∙ t.3)
    (Member-get (take w.manager.closed w.manager.order) t.0 (in-take w.manager.closed w.manager.order t.0 lt t.1))
  where
    in-take : (m : ℕ) (xs : List UnitNo) (j : ℕ) → j < m → j < length xs → j < length (take m xs)
    in-take m xs j lt lt' = omega (arith, lt, lt', length-take m xs)

pair-in : (u : UnitNo) (g : GrainId) (ws : List Write) → Member g (map (λ (x : Write). x.0) ws) → Member {A = UnitNo × GrainId} (u, g) (map (λ (x : Write). (u, x.0)) ws)
pair-in u g [] m = absurd m
pair-in u g (x ∷ ws) (inl q) = inl (ap (λ k. (u, k)) q)
pair-in u g (x ∷ ws) (inr m) = inr (pair-in u g ws m)

-- where all is learnt, a grain has learnt of each decided unit that wrote it
all-learnt : (opening : GrainId → List Value) (w : CoreState) → Going opening w → next_learn w ≡ None → (u : UnitNo) (g : GrainId) → w.units.phase u ≡ Finished → WroteGrain w.manager.writes u g → is_final (w.manager.verdict u) ≡ true → w.cells.learnt u g ≡ true
all-learnt opening w s none u g f wrote final =
    let m = filter-stays (λ u. is_final (w.manager.verdict u)) (take w.manager.closed w.manager.order) u (among-closed opening w s.kept u f (decided-closed w s.batched u f final)) final in
    let pair = pair-in u g (w.manager.writes u) (written-named g wrote.0 (w.manager.writes u) wrote.1) in
    let there : Member {A = UnitNo × GrainId} (u, g) (to_learn w) = member-flat (λ u. map (λ (x : Write). (u, x.0)) (w.manager.writes u)) (filter (λ u. is_final (w.manager.verdict u)) (take w.manager.closed w.manager.order)) (u, g) u m pair in
    not-false' (w.cells.learnt u g) (find-none (λ (t : UnitNo × GrainId). not (w.cells.learnt t.0 t.1)) (to_learn w) none (u, g) there)
  where
    not-false' : (a : Bool) → not a ≡ false → a ≡ true
    not-false' true e = refl
    not-false' false e = cc

-- the last version of a stack of one
last-one : (opening : GrainId → List Value) (w : CoreState) → Going opening w → (g : GrainId) → IsSettledGrain w g → (x : Version) → w.cells.stack g ≡ x ∷ [] → IsLastVersion opening w g x.unit x.state
last-one opening w s g done x is = go (subst (Chain (IsBottom opening w.units.phase w.manager.writes w.manager.verdict g) (IsLink w.units.phase w.manager.writes w.units.reads g)) is (s.kept.0.chain g))
  where
    below : (c : UnitNo) (v : List Value) → w.manager.verdict c ≡ Committed → state_written g (w.manager.writes c) ≡ Some v → (w.units.phase c ≡ Finished) × (w.manager.place c ≤ w.manager.place x.unit)
    below c v q wr =
        let f = wrote-finished opening _ w s.kept.0 c g v wr in (
          f,
          elim (s.kept.0.latest c g f (v, wr) (λ h m e up. s.unheld c f (omega (arith, decided-closed w s.batched c f (ap is_final q))) g h m e)) [
            | inl d ↦ absurd (good-alive opening _ w s.kept.0 c (ap is_good q) d)
            | inr le ↦ subst (λ t. w.manager.place c ≤ w.manager.place (top t).unit) is le
          ],
        )

    go : IsBottom opening w.units.phase w.manager.writes w.manager.verdict g x → IsLastVersion opening w g x.unit x.state
    go (inl a) = inl (a.0, a.1, λ c v q wr. (let le = below c v q wr in let t = s.kept.0.placed c le.0 in omega (arith, ap w.manager.place a.0, s.kept.0.origin, le.1, t.2)))
    go (inr a) = inr (record { commits = a.0; wrote = a.1.1; last = λ c v q wr. (below c v q wr).1 })

-- above the bottom nobody is left
one-left : (opening : GrainId → List Value) (w : CoreState) → Going opening w → next_learn w ≡ None → (g : GrainId) → IsSettledGrain w g → (xs : List Version) → w.cells.stack g ≡ xs →
    Chain (IsBottom opening w.units.phase w.manager.writes w.manager.verdict g) (IsLink w.units.phase w.manager.writes w.units.reads g) xs → (x : Version) × (xs ≡ x ∷ [])
one-left opening w s none g done [] is c = absurd c
one-left opening w s none g done (x ∷ []) is c = (x, refl)
one-left opening w s none g done (x ∷ y ∷ ys) is c =
    let f = c.0.0.0 in
    let wrote : WroteGrain w.manager.writes x.unit g = (x.state, c.0.0.1) in
    let l = all-learnt opening w s none x.unit g f wrote (done x.unit f wrote) in
    absurd ((subst (OnlyBottom x.unit) is (s.below x.unit g l)).0 refl)

pub single-ends : (plays : Effect → Bool) (r : Run) → IsLegal plays r → SettledStacksAreSingle r.opening (ends r)
single-ends plays r l none g done =
    let s = going-ends plays r l in
    let t = one-left r.opening (ends r) s none g done ((ends r).cells.stack g) refl (s.kept.0.chain g) in
    (t.0, t.1, last-one r.opening (ends r) s g done t.0 t.1)
