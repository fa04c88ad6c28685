-- A batch is the longest prefix without locks, and none is held until commit.
use Rattle.std.proofs.Common.{◌≡◌, ℕ, zero, suc, ◌+◌, ◌<◌, ◌≤◌, List, [], ◌∷◌, length, get_or, true, false, not, ◌⊎◌, inl, inr, refl, sym, ap, ◌∙◌, subst, arith, Option, Some, None}
use Rattle.std.proofs.lemmas.Bool.{and_parts, cases_lt, not-true, not-false, cond_both}
use Rattle.cell_model.specs.Locks.{is_hold_of, holds_lock, dropped}
use Rattle.cell_model.proofs.Units.{same_unit-true, same_unit-is, any-true, any-false, all-true}
use Rattle.core_model.specs.CoreState.{UnitNo, GrainId, nobody, put, put_grain, Member, Hold, Mode, Batch, CoreState}
use Rattle.core_model.specs.declared.phases.Phase.{Phase}
use Rattle.core_model.specs.declared.phases.Phase.TheVariants.{Running, Finished, Refused, Ended}
use Rattle.core_model.specs.declared.phases.Verdict.TheVariants.{Committed}
use Rattle.core_model.specs.declared.effects.Read.{Read}
use Rattle.core_model.specs.Tests.{all}
use Rattle.core_laws.proofs.Puts.{put-from, put-is, put-other, grain-from}
use Rattle.std.proofs.Common.{take, length-take, length-drop}
use Rattle.core_model.specs.Tests.{members, waiting, free_prefix, is_free}
use Rattle.core_model.specs.Laws.{HoldsNothing, IsLongestFreePrefix, NoLockIsHeldUntilCommit}
use Rattle.cell_model.specs.Locks.{granted}
use Rattle.cell_model.proofs.LockAnswers.{granted-member, dropped-member}
use Rattle.core_model.specs.Consistency.{size_of}
use Rattle.core_model.specs.Changes.{new_unit, swept, swept_by}
use Rattle.core_model.specs.Events.{batch_size}
use Rattle.core_model.specs.Events.{applies, can, does, step, run, is_allowed}
use Rattle.core_model.specs.declared.events.CoreEvent.{CoreEvent}
use Rattle.core_laws.proofs.EventCases.{Change, bad, begin, lock, raise, refuse, finish, end_plain, end_snapshot, release, take_batch, vote, decide_some, decide_none, seal_batch, spoil_batch, doubt_batch, learn, emit, halt_run, want, load, decode}
use Rattle.core_laws.proofs.Orders.{free_prefix-length, take_length, in_part, Member-at, Member-get, at_part, at_take}
use Rattle.core_laws.proofs.KeptInvariant.{open_size}
use Rattle.std.proofs.lemmas.Bool.{and_cases}
use Rattle.std.proofs.Common.{◌-◌}
use Rattle.core_laws.proofs.LoadlessKept.{LoadlessKept, loadless-step}
use Rattle.core_laws.proofs.Loadless.{LoadlessAt}

-- a unit that passes the test of freedom holds nothing
pub free-holds : (n : ℕ) (w : CoreState) → LoadlessAt n w → (u : UnitNo) → is_free w u ≡ true → HoldsNothing w u
free-holds n w i u e g h m q =
    let t = i.told g h m in
    let s = i.seen g t.0 t.1 in
    let mine : Member s.0 (w.units.reads u) = subst (λ z. Member s.0 (w.units.reads z)) (t.2 ∙ q) s.1 in
    let no_hold = not-true _ (all-true (λ r. not (holds_lock u (w.cells.holds r.grain))) (w.units.reads u) e s.0 mine) in
    let z : true ≡ false = sym (same_unit-is h.unit u q) ∙ any-false (is_hold_of u) (w.cells.holds s.0.grain) no_hold h (subst (λ k. Member h (w.cells.holds k)) (sym s.2) m) in cc

-- one that fails it holds something
pub unfree-holds : (w : CoreState) (u : UnitNo) → is_free w u ≡ false → (g : GrainId) × ((h : Hold) × Member h (w.cells.holds g) × (h.unit ≡ u))
unfree-holds w u e = go (w.units.reads u) e
  where
    go : (rs : List Read) → all (λ r. not (holds_lock u (w.cells.holds r.grain))) rs ≡ false → (g : GrainId) × ((h : Hold) × Member h (w.cells.holds g) × (h.unit ≡ u))
    go [] q = cc
    go (r ∷ rs) q = elim (and_cases (not (holds_lock u (w.cells.holds r.grain))) (all (λ r. not (holds_lock u (w.cells.holds r.grain))) rs) q) [
      | inl a ↦ (let t = any-true (is_hold_of u) (w.cells.holds r.grain) (not-false _ a) in (r.grain, (t.0, t.1, same_unit-true _ _ t.2)))
      | inr a ↦ go rs a
    ]

free_prefix-free : (w : CoreState) (us : List UnitNo) (u : UnitNo) → Member u (take (free_prefix w us) us) → is_free w u ≡ true
free_prefix-free w [] u m = absurd (none (free_prefix w []) m)
  where
    none : (k : ℕ) → Member u (take k []) → ⊥
    none zero m = m
    none (suc k) m = m
free_prefix-free w (x ∷ xs) u m = cond_both (is_free w x) (free_prefix w xs + 1) 0 (λ k. Member u (take k (x ∷ xs)) → is_free w u ≡ true)
    (λ e m'. (let q : free_prefix w xs + 1 ≡ suc (free_prefix w xs) = omega arith in
    elim (subst (λ k. Member u (take k (x ∷ xs))) q m') [
      | inl h ↦ ap (is_free w) h ∙ e
      | inr h ↦ free_prefix-free w xs u h
    ]))
    (λ e m'. absurd m') m

free_prefix-next : (w : CoreState) (us : List UnitNo) → (free_prefix w us ≡ length us) ⊎ ((free_prefix w us < length us) × (is_free w (get_or us (free_prefix w us) nobody) ≡ false))
free_prefix-next w [] = inl refl
free_prefix-next w (x ∷ xs) = cond_both (is_free w x) (free_prefix w xs + 1) 0 (λ k. (k ≡ length (x ∷ xs)) ⊎ ((k < length (x ∷ xs)) × (is_free w (get_or (x ∷ xs) k nobody) ≡ false)))
    (λ e. (let q : suc (free_prefix w xs) ≡ free_prefix w xs + 1 = omega arith in
    elim (free_prefix-next w xs) [
      | inl h ↦ inl (omega (arith, h))
      | inr h ↦ inr (omega (arith, h.0), subst (λ k. is_free w (get_or (x ∷ xs) k nobody) ≡ false) q h.1)
    ]))
    (λ e. inr (omega arith, e))

take-take-64 : (k m : ℕ) (xs : List UnitNo) → k ≤ m → take k (take m xs) ≡ take k xs
take-take-64 zero m xs h = refl
take-take-64 (suc k) zero xs h = absurd (omega arith)
take-take-64 (suc k) (suc m) [] h = refl
take-take-64 (suc k) (suc m) (x ∷ xs) h = ap (λ t. x ∷ t) (take-take-64 k m xs (omega arith))

pub longest : (n : ℕ) (w : CoreState) → LoadlessAt n w → IsLongestFreePrefix w (batch_size w)
longest n w i = record {
  limit = omega (arith, short, length-take 64 (waiting w));
  within = omega (arith, short, length-take 64 (waiting w));
  free = λ u m. free-holds n w i u (free_prefix-free w first u (subst (Member u) (sym (take-take-64 (batch_size w) 64 (waiting w) (omega (arith, short, length-take 64 (waiting w))))) m));
  longest = elim (free_prefix-next w first) [
    | inl e ↦ all_taken e
    | inr h ↦ inr (inr (subst (λ z. (g : GrainId) × ((h : Hold) × Member h (w.cells.holds g) × (h.unit ≡ z))) (next h.0) (unfree-holds w _ h.1)))
  ];
}
  where
    first : List UnitNo
    first = take 64 (waiting w)

    short : batch_size w ≤ length first
    short = free_prefix-length w first

    all_taken : batch_size w ≡ length first → (batch_size w ≡ 64) ⊎ ((batch_size w ≡ length (waiting w)) ⊎ ((g : GrainId) × ((h : Hold) × Member h (w.cells.holds g) × (h.unit ≡ get_or (waiting w) (batch_size w) nobody))))
    all_taken e = elim (cases_lt (length (waiting w)) 64) [
      | inl lt ↦ inr (inl (omega (arith, e, length-take 64 (waiting w), lt)))
      | inr le ↦ inl (omega (arith, e, length-take 64 (waiting w), le))
    ]

    next : batch_size w < length first → get_or first (batch_size w) nobody ≡ get_or (waiting w) (batch_size w) nobody
    next lt = at_take 64 (batch_size w) (waiting w) (omega (arith, lt, length-take 64 (waiting w)))

-- who stands in a batch that was taken holds nothing
abbrev pub Unheld : CoreState → Type 0
Unheld w = (u : UnitNo) → w.units.phase u ≡ Finished → w.manager.place u ≤ w.manager.closed + size_of w.manager.batch → HoldsNothing w u

unheld-held : (w : CoreState) (u : UnitNo) (g : GrainId) (mode : Mode) → w.units.phase u ≡ Running → Unheld w → (x : UnitNo) → w.units.phase x ≡ Finished → w.manager.place x ≤ w.manager.closed + size_of w.manager.batch →
    (k : GrainId) (h : Hold) → Member h (put_grain w.cells.holds g (granted (w.cells.holds g) u mode) k) → h.unit ≡ x → ⊥
unheld-held w u g mode running s x f le k h m q = grain-from w.cells.holds g (granted (w.cells.holds g) u mode) (Member h) ⊥ k
    (λ e m'. elim (granted-member (w.cells.holds g) u mode h m') [
      | inl a ↦ s x f le k h (subst (λ j. Member h (w.cells.holds j)) (sym e) a.0) q
      | inr a ↦ (let t : Finished ≡ Running = sym f ∙ ap w.units.phase (sym q ∙ ap (λ (z : Hold). z.unit) a) ∙ running in cc)
    ])
    (λ e m'. s x f le k h m' q) m

unheld-phase : (w : CoreState) (u : UnitNo) (end : Phase) → (end ≡ Finished → ⊥) → Unheld w → Unheld (record w { units = record w.units { phase = put w.units.phase u end } })
unheld-phase w u end n s x = put-from w.units.phase u end (λ p. p ≡ Finished) (w.manager.place x ≤ w.manager.closed + size_of w.manager.batch → HoldsNothing w x) x (λ q f. absurd (n f)) (λ q f. s x f)

-- an open batch stands in the finish order
pub size-within : (w : CoreState) → LoadlessKept w → w.manager.closed + size_of w.manager.batch ≤ length w.manager.order
size-within w k = go w.manager.batch refl
  where
    go : (o : Option Batch) → w.manager.batch ≡ o → w.manager.closed + size_of w.manager.batch ≤ length w.manager.order
    go None q = omega (arith, k.1, ap open_size q, ap size_of q)
    go (Some b) q = omega (arith, k.1, ap open_size q, ap size_of q)

-- a finished unit after the closed batches and up to the batch's end is one of the batch
free_member : (w : CoreState) → LoadlessKept w → (x : UnitNo) → w.units.phase x ≡ Finished → w.manager.closed < w.manager.place x → IsLongestFreePrefix w (batch_size w) →
    w.manager.place x ≤ w.manager.closed + batch_size w → HoldsNothing w x
free_member w k x f new l le =
    let t = k.0.placed x f in
    let j : ℕ = t.0 - w.manager.closed in
    let at : w.manager.closed + j ≡ t.0 = omega (arith, t.2, new) in
    let short : length (take (batch_size w) (waiting w)) ≡ batch_size w = take_length (batch_size w) (waiting w) l.within in
    let lt : j < batch_size w = omega (arith, t.2, new, le) in
    l.free x (subst (λ z. Member z (take (batch_size w) (waiting w)))
    (at_part (batch_size w) w.manager.closed w.manager.order j lt ∙ ap (λ z. get_or w.manager.order z nobody) at ∙ t.3)
    (Member-get (take (batch_size w) (waiting w)) j (omega (arith, short, lt))))

pub unheld-change : (w : CoreState) (e : CoreEvent) (w' : CoreState) → Change w e w' → applies w e ≡ true → LoadlessKept w → Unheld w → Unheld w'
unheld-change w e w' (bad line why q) a k s = s
unheld-change w e w' (begin origin call plain c) a k s = unheld-phase w (new_unit w) Running (λ z. cc) s
unheld-change w e w' (lock u g mode running free first here) a k s = λ x f le. unheld-held w u g mode running s x f le
unheld-change w e w' (raise u g mode running free held here uncovered) a k s = λ x f le. unheld-held w u g mode running s x f le
unheld-change w e w' (refuse u g mode why running q) a k s = unheld-phase w u Refused (λ z. cc) s
unheld-change w e w' (finish u effect running plain of_call reads alone) a k s =
    λ x. put-from w.units.phase u Finished (λ p. p ≡ Finished) (put w.manager.place u (length w.manager.order + 1) x ≤ w.manager.closed + size_of w.manager.batch → HoldsNothing w x) x
    (λ z f le. absurd (omega (arith, put-is w.manager.place u (length w.manager.order + 1) x z, le, size-within w k)))
    (λ z f le. s x f (subst (λ m. m ≤ w.manager.closed + size_of w.manager.batch) (put-other w.manager.place u (length w.manager.order + 1) x z) le))
unheld-change w e w' (end_plain u effect running plain of_call bare) a k s = unheld-phase w u Ended (λ z. cc) s
unheld-change w e w' (end_snapshot u at outcome running plain kids answer) a k s = unheld-phase w u Ended (λ z. cc) s
unheld-change w e w' (release u g over held) a k s =
    λ x f le j h m q. s x f le j h (grain-from w.cells.holds g (dropped (w.cells.holds g) u) (Member h) (Member h (w.cells.holds j)) j
    (λ z m'. subst (λ y. Member h (w.cells.holds y)) (sym z) (dropped-member u (w.cells.holds g) h m').0) (λ z m'. m') m) q
unheld-change w e w' (take_batch none some) a k s =
    λ x f le. elim (cases_lt w.manager.closed (w.manager.place x)) [
      | inr old ↦ s x f (omega (arith, old, ap size_of none))
      | inl new ↦ free_member w k x f new (longest _ w k.0) le
    ]
unheld-change w e w' (vote n g kept b q number d planned fresh) a k s = λ x f le. s x f (subst (λ z. w.manager.place x ≤ w.manager.closed + size_of z) (sym q) le)
unheld-change w e w' (decide_some n b q number d voted some) a k s = λ x f le. s x f (subst (λ z. w.manager.place x ≤ w.manager.closed + size_of z) (sym q) le)
unheld-change w e w' (decide_none n b q number d voted none) a k s = λ x f le. s x f (omega (arith, le, ap size_of q))
unheld-change w e w' (seal_batch n b ds q number d) a k s = λ x f le. s x f (omega (arith, le, ap size_of q))
unheld-change w e w' (spoil_batch n b ds q number d) a k s = λ x f le. s x f (omega (arith, le, ap size_of q))
unheld-change w e w' (doubt_batch n b ds q number d) a k s = λ x f le. s x f (omega (arith, le, ap size_of q))
unheld-change w e w' (learn u g wrote final fresh) a k s = s
unheld-change w e w' (emit q) a k s = s
unheld-change w e w' (halt_run q) a k s = s
unheld-change w e w' (want u g running free fresh) a k s = s
unheld-change w e w' (load g u state gone wanted) a k s = s

swept-unheld : (w : CoreState) → Unheld w → Unheld (swept w)
swept-unheld w s = go w.cells.capacity
  where
    go : (c : Option ℕ) → Unheld (swept_by w c)
    go None = s
    go (Some m) = s

pub unheld-step : (w : CoreState) (e : CoreEvent) → LoadlessKept w → Unheld w → Unheld (step w e)
unheld-step w e k s = cond_both (applies w e) (swept (does w e)) w Unheld
    (λ a. (let c = decode w e (and_parts (is_allowed w e) (can w e) a).1 in
    swept-unheld (does w e) (unheld-change w e (does w e) c a k s)))
    (λ a. s)

pub unheld-run : (es : List CoreEvent) (w : CoreState) → LoadlessKept w → Unheld w → Unheld (run w es)
unheld-run [] w k s = s
unheld-run (e ∷ es) w k s = unheld-run es (step w e) (loadless-step w e k) (unheld-step w e k s)

pub no-lock : (w : CoreState) → LoadlessKept w → Unheld w → ((u : UnitNo) → w.manager.verdict u ≡ Committed → (w.units.phase u ≡ Finished) × (w.manager.place u ≤ w.manager.closed)) → NoLockIsHeldUntilCommit w
no-lock w k s done = record {
  committed = done;
  closed = λ u f le. s u f (omega (arith, le));
  taken = λ b u q m. (let t = in_part _ w k.0 w.manager.closed b.size u m in s u t.0 (omega (arith, last b u q m, ap size_of q)));
}
  where
    last : (b : Batch) (u : UnitNo) → w.manager.batch ≡ Some b → Member u (members w b) → w.manager.place u ≤ w.manager.closed + b.size
    last b u q m =
        let t = Member-at u (members w b) m in
        let len = length-take b.size (waiting w) in
        let e : get_or w.manager.order (w.manager.closed + t.0) nobody ≡ u = sym (at_part b.size w.manager.closed w.manager.order t.0 (omega (arith, t.1, len))) ∙ t.2 in
        let l = k.0.listed (w.manager.closed + t.0) (omega (arith, t.1, len, length-drop w.manager.closed w.manager.order)) in
        subst (λ z. w.manager.place z ≤ w.manager.closed + b.size) e (omega (arith, l.1, t.1, len))
