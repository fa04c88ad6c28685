-- Each event keeps what needs no true loads.
use Rattle.std.proofs.Common.{◌≡◌, ℕ, zero, suc, ◌+◌, ◌<◌, ◌≤◌, List, [], ◌∷◌, ◌++◌, length, get_or, Bool, true, false, ◌&&◌, ◌⊎◌, inl, inr, refl, sym, ap, ◌∙◌, subst, arith, Some, le_refl}
use Rattle.std.proofs.lemmas.Bool.{and_parts, cases_lt}
use Rattle.cell_model.specs.Locks.{is_update, is_hold_of, holds_lock, conflicts, dropped, granted}
use Rattle.cell_model.specs.Cells.{with_reading, without_reading}
use Rattle.cell_model.proofs.Units.{same_unit-true, same_unit-false, cases_unit, any-true, any-false, all-true, Member-append, Member-left, Member-last}
use Rattle.cell_model.proofs.LockAnswers.{no_conflict, granted-member, granted-new, granted-stays, dropped-member, dropped-stays}
use Rattle.core_model.specs.CoreState.{UnitNo, GrainId, nobody, put, put_grain, Member, Value, Call, Origin, Write, top, Hold, Mode, Reading, Settled, CoreState}
use Rattle.core_model.specs.declared.phases.Phase.{Phase}
use Rattle.core_model.specs.declared.phases.Phase.TheVariants.{Unborn, Running, Finished, Refused}
use Rattle.core_model.specs.declared.phases.Verdict.{Verdict}
use Rattle.core_model.specs.declared.phases.Verdict.TheVariants.{Open, Aborted}
use Rattle.core_model.specs.declared.effects.Read.{Read}
use Rattle.core_model.specs.declared.effects.Effect.{Effect}
use Rattle.core_model.specs.Tests.{any, all, state_written}
use Rattle.core_model.specs.Chains.{WroteGrain}
use Rattle.core_model.specs.Changes.{begun, new_unit, finished, after_lock, after_raise, after_release, read_of, after_refusal}
use Rattle.core_model.specs.Events.{holds_alone}
use Rattle.core_laws.proofs.Puts.{put-at, put-from, put-same, put-other, grain-at, grain-from, grain-is}
use Rattle.core_laws.proofs.Basics.{written-member}
use Rattle.core_laws.proofs.Readings.{with_reading-member, with_reading-stays, with_reading-has, with_reading-same, without_reading-member, without_reading-stays}
use Rattle.core_laws.proofs.Loadless.{LoadlessAt}

-- the lock is the unit's, and it holds the grain alone
abbrev pub is_alone : UnitNo → Hold → Bool
is_alone u h = is_hold_of u h && is_update h.mode

pub get_or-before : (xs : List UnitNo) (x : UnitNo) (i : ℕ) → i < length xs → get_or (xs ++ x ∷ []) i nobody ≡ get_or xs i nobody
get_or-before [] x i h = absurd (omega arith)
get_or-before (y ∷ xs) x zero h = refl
get_or-before (y ∷ xs) x (suc i) h = get_or-before xs x i (omega arith)

pub get_or-end : (xs : List UnitNo) (x : UnitNo) → get_or (xs ++ x ∷ []) (length xs) nobody ≡ x
get_or-end [] x = refl
get_or-end (y ∷ xs) x = get_or-end xs x

pub length-push : (xs : List UnitNo) (x : UnitNo) → length (xs ++ x ∷ []) ≡ length xs + 1
length-push [] x = refl
length-push (y ∷ xs) x = omega (arith, length-push xs x)

-- one unit's verdict
abbrev pub with_verdict : CoreState → UnitNo → Verdict → CoreState
with_verdict w u v = record w { manager = record w.manager { verdict = put w.manager.verdict u v } }

-- every verdict is changed in one way
abbrev pub mapped : (Verdict → Verdict) → CoreState → CoreState
mapped f w = record w { manager = record w.manager { verdict = λ u. f (w.manager.verdict u) } }

pub loadless-begun : (n : ℕ) (w : CoreState) (origin : Origin) (call : Call) (plain : Bool) → LoadlessAt n w → LoadlessAt n (begun w origin call plain)
loadless-begun n w origin call plain i =
    record {
      fresh = omega (arith, i.fresh);
      unborn = λ u h. put-at w.units.phase (new_unit w) Running (λ p. p ≡ Unborn) u (λ e. absurd (omega (arith, ap (λ (z : UnitNo). z.0) e, h))) (λ m. i.unborn u (omega (arith, h)));
      outside = put-at w.units.phase (new_unit w) Running (λ p. p ≡ Unborn) nobody (λ e. absurd (omega (arith, ap (λ (z : UnitNo). z.0) e, i.fresh))) (λ m. i.outside);
      blank = λ u. put-at w.units.phase (new_unit w) Running (λ p. p ≡ Unborn → w.units.reads u ≡ []) u (λ e h. cc) (λ m. i.blank u);
      unwritten = λ u h. i.unwritten u (λ f. h (back u f));
      undecided = λ u. put-at w.units.phase (new_unit w) Running (λ p. (p ≡ Unborn) ⊎ (p ≡ Running) → w.manager.verdict u ≡ Open) u (λ e h. i.undecided u (inl (ap w.units.phase e ∙ new))) (λ m. i.undecided u);
      listed = λ k h. (let t = i.listed k h in (back _ t.0, t.1));
      placed = λ u f. i.placed u (fin u f);
      within = i.within;
      early = λ u f. i.early u (fin u f);
      late = λ u f. i.late u (fin u f);
      alone = i.alone;
      keeps = λ u r p m. i.keeps u r (run u r m p) m;
      strong = λ u g h f. i.strong u g h (fin u f);
      told = i.told;
      seen = i.seen;
      kept = i.kept;
    }
  where
    new : w.units.phase (new_unit w) ≡ Unborn
    new = i.unborn (new_unit w) (le_refl w.units.next)

    fin : (u : UnitNo) → put w.units.phase (new_unit w) Running u ≡ Finished → w.units.phase u ≡ Finished
    fin u = put-at w.units.phase (new_unit w) Running (λ p. p ≡ Finished → w.units.phase u ≡ Finished) u (λ e h. cc) (λ m h. h)

    back : (u : UnitNo) → w.units.phase u ≡ Finished → put w.units.phase (new_unit w) Running u ≡ Finished
    back u f = put-at w.units.phase (new_unit w) Running (λ p. p ≡ Finished) u (λ e. (let t : Unborn ≡ Finished = sym new ∙ ap w.units.phase (sym e) ∙ f in cc)) (λ m. f)

    none : (u : UnitNo) (r : Read) → u ≡ new_unit w → Member r (w.units.reads u) → ⊥
    none u r e m = subst (Member r) (i.blank u (ap w.units.phase e ∙ new)) m

    run : (u : UnitNo) (r : Read) → Member r (w.units.reads u) → put w.units.phase (new_unit w) Running u ≡ Running → w.units.phase u ≡ Running
    run u r m = put-at w.units.phase (new_unit w) Running (λ p. p ≡ Running → w.units.phase u ≡ Running) u (λ e h. absurd (none u r e m)) (λ k h. h)

pub loadless-over : (n : ℕ) (w : CoreState) (u : UnitNo) (end : Phase) → LoadlessAt n w → w.units.phase u ≡ Running →
    (end ≡ Unborn → ⊥) → (end ≡ Running → ⊥) → (end ≡ Finished → ⊥) → LoadlessAt n (record w { units = record w.units { phase = put w.units.phase u end } })
loadless-over n w u end i running n0 n1 n2 =
    record {
      fresh = i.fresh;
      unborn = λ x h. (let e = i.unborn x h in put-at w.units.phase u end (λ p. p ≡ Unborn) x (λ q. absurd (not_unborn x q e)) (λ q. e));
      outside = put-at w.units.phase u end (λ p. p ≡ Unborn) nobody (λ q. absurd (not_unborn nobody q i.outside)) (λ q. i.outside);
      blank = λ x. put-at w.units.phase u end (λ p. p ≡ Unborn → w.units.reads x ≡ []) x (λ e h. absurd (n0 h)) (λ m. i.blank x);
      unwritten = λ x h. i.unwritten x (λ f. h (back x f));
      undecided = λ x. put-from w.units.phase u end (λ p. (p ≡ Unborn) ⊎ (p ≡ Running)) (w.manager.verdict x ≡ Open) x
          (λ e o. elim o [ inl q ↦ absurd (n0 q) | inr q ↦ absurd (n1 q) ])
          (λ e o. i.undecided x o);
      listed = λ k h. (let t = i.listed k h in (back _ t.0, t.1));
      placed = λ x f. i.placed x (fin x f);
      within = i.within;
      early = λ x f. i.early x (fin x f);
      late = λ x f. i.late x (fin x f);
      alone = i.alone;
      keeps = λ x r p m. i.keeps x r (run x p) m;
      strong = λ x g h f. i.strong x g h (fin x f);
      told = i.told;
      seen = i.seen;
      kept = i.kept;
    }
  where
    not_unborn : (x : UnitNo) → x ≡ u → w.units.phase x ≡ Unborn → ⊥
    not_unborn x q e = (let t : Unborn ≡ Running = sym e ∙ ap w.units.phase q ∙ running in cc)

    not_finished : (x : UnitNo) → x ≡ u → w.units.phase x ≡ Finished → ⊥
    not_finished x q e = (let t : Finished ≡ Running = sym e ∙ ap w.units.phase q ∙ running in cc)

    fin : (x : UnitNo) → put w.units.phase u end x ≡ Finished → w.units.phase x ≡ Finished
    fin x = put-at w.units.phase u end (λ p. p ≡ Finished → w.units.phase x ≡ Finished) x (λ e h. absurd (n2 h)) (λ m h. h)

    back : (x : UnitNo) → w.units.phase x ≡ Finished → put w.units.phase u end x ≡ Finished
    back x f = put-at w.units.phase u end (λ p. p ≡ Finished) x (λ e. absurd (not_finished x e f)) (λ m. f)

    run : (x : UnitNo) → put w.units.phase u end x ≡ Running → w.units.phase x ≡ Running
    run x = put-at w.units.phase u end (λ p. p ≡ Running → w.units.phase x ≡ Running) x (λ e h. absurd (n1 h)) (λ k h. h)

pub loadless-aborted : (n : ℕ) (w : CoreState) (u : UnitNo) → LoadlessAt n w → w.units.phase u ≡ Refused → w.manager.verdict u ≡ Open →
    LoadlessAt n (record w { manager = record w.manager { verdict = put w.manager.verdict u Aborted } })
loadless-aborted n w u i refused_u open_u =
    record {
      fresh = i.fresh;
      unborn = i.unborn;
      outside = i.outside;
      blank = i.blank;
      unwritten = i.unwritten;
      undecided = λ x o. put-other w.manager.verdict u Aborted x (λ e. elim o [
        | inl q ↦ (let t : Unborn ≡ Refused = sym q ∙ ap w.units.phase e ∙ refused_u in cc)
        | inr q ↦ (let t : Running ≡ Refused = sym q ∙ ap w.units.phase e ∙ refused_u in cc)
      ]) ∙ i.undecided x o;
      listed = i.listed;
      placed = i.placed;
      within = i.within;
      early = λ x f le. put-at w.manager.verdict u Aborted (λ v. v ≡ Open → ⊥) x (λ e q. cc) (λ e. i.early x f le);
      late = λ x f lt. put-other w.manager.verdict u Aborted x (λ e. not_finished x e f) ∙ i.late x f lt;
      alone = i.alone;
      keeps = i.keeps;
      strong = i.strong;
      told = i.told;
      seen = i.seen;
      kept = i.kept;
    }
  where
    not_finished : (x : UnitNo) → x ≡ u → w.units.phase x ≡ Finished → ⊥
    not_finished x q e = (let t : Finished ≡ Refused = sym e ∙ ap w.units.phase q ∙ refused_u in cc)

pub loadless-refused : (n : ℕ) (w : CoreState) (u : UnitNo) (why : Settled) → LoadlessAt n w → w.units.phase u ≡ Running → LoadlessAt n (after_refusal w u why)
loadless-refused n w u why i running =
    loadless-aborted n (record w { units = record w.units { phase = put w.units.phase u Refused } }) u
    (loadless-over n w u Refused i running (λ e. cc) (λ e. cc) (λ e. cc)) (put-same w.units.phase u Refused) (i.undecided u (inr running))

pub loadless-finished : (n : ℕ) (w : CoreState) (u : UnitNo) (effect : Effect) → LoadlessAt n w →
    w.units.phase u ≡ Running → all (λ x. holds_alone w u x.0) effect.writes ≡ true → LoadlessAt n (finished w u effect)
loadless-finished n w u effect i running holds =
    record {
      fresh = i.fresh;
      unborn = λ x h. (let e = i.unborn x h in put-at w.units.phase u Finished (λ p. p ≡ Unborn) x (λ q. absurd (not_unborn x q e)) (λ q. e));
      outside = put-at w.units.phase u Finished (λ p. p ≡ Unborn) nobody (λ q. absurd (not_unborn nobody q i.outside)) (λ q. i.outside);
      blank = λ x. put-at w.units.phase u Finished (λ p. p ≡ Unborn → w.units.reads x ≡ []) x (λ e h. cc) (λ m. i.blank x);
      unwritten = λ x h. put-at w.manager.writes u ws (λ t. t ≡ []) x (λ e. absurd (h (put-at w.units.phase u Finished (λ p. p ≡ Finished) x (λ q. refl) (λ q. absurd (q e))))) (λ e. i.unwritten x (λ f. h (back x f)));
      undecided = λ x. put-from w.units.phase u Finished (λ p. (p ≡ Unborn) ⊎ (p ≡ Running)) _ x
          (λ e o. elim o [ inl q ↦ cc | inr q ↦ cc ])
          (λ e o. i.undecided x o);
      listed = λ k h. elim (cases_lt k (length w.manager.order)) [
        | inl lt ↦ (let t = i.listed k lt in subst (λ z. (put w.units.phase u Finished z ≡ Finished) × (put w.manager.place u last z ≡ k + 1)) (sym (get_or-before w.manager.order u k lt))
            (back _ t.0, put-other w.manager.place u last _ (λ e. not_finished _ e t.0) ∙ t.1))
        | inr le ↦ (let e : k ≡ length w.manager.order = omega (arith, length-push w.manager.order u) in
            subst (λ z. (put w.units.phase u Finished z ≡ Finished) × (put w.manager.place u last z ≡ k + 1)) (sym (ap (λ j. get_or (w.manager.order ++ u ∷ []) j nobody) e ∙ get_or-end w.manager.order u))
            (put-same w.units.phase u Finished, put-same w.manager.place u last ∙ ap (λ j. j + 1) (sym e)))
      ];
      placed = λ x. put-from w.units.phase u Finished (λ p. p ≡ Finished) _ x
          (λ e f. (length w.manager.order, omega (arith, length-push w.manager.order u), put-at w.manager.place u last (λ z. z ≡ length w.manager.order + 1) x (λ q. refl) (λ q. absurd (q e)), get_or-end w.manager.order u ∙ sym e))
          (λ e f. (let t = i.placed x f in (t.0, omega (arith, length-push w.manager.order u, t.1), put-other w.manager.place u last x e ∙ t.2, get_or-before w.manager.order u t.0 t.1 ∙ t.3)));
      within = omega (arith, length-push w.manager.order u, i.within);
      early = λ x. put-from w.units.phase u Finished (λ p. p ≡ Finished) _ x
          (λ e f le. absurd (omega (arith, put-at w.manager.place u last (λ z. z ≡ last) x (λ q. refl) (λ q. absurd (q e)), i.within)))
          (λ e f le. i.early x f (subst (λ z. z ≤ n) (put-other w.manager.place u last x e) le));
      late = λ x. put-from w.units.phase u Finished (λ p. p ≡ Finished) _ x
          (λ e f lt. ap w.manager.verdict e ∙ i.undecided u (inr running))
          (λ e f lt. i.late x f (subst (λ z. n < z) (put-other w.manager.place u last x e) lt));
      alone = i.alone;
      keeps = λ x r p m. i.keeps x r (run x p) m;
      strong = λ x g h. put-from w.units.phase u Finished (λ p. p ≡ Finished) _ x
          (λ e f wr m q. (let t = holder g (put-from w.manager.writes u ws (λ t. (v : List Value) × (state_written g t ≡ Some v)) _ x (λ k z. z) (λ k z. absurd (k e)) wr) in (t.0, t.1, t.2 ∙ sym e, t.3)))
          (λ e f wr m q. i.strong x g h f (old_wrote x g e wr) m q);
      told = i.told;
      seen = i.seen;
      kept = i.kept;
    }
  where
    ws : List Write
    ws = effect.writes

    last : ℕ
    last = length w.manager.order + 1

    not_unborn : (x : UnitNo) → x ≡ u → w.units.phase x ≡ Unborn → ⊥
    not_unborn x q e = (let t : Unborn ≡ Running = sym e ∙ ap w.units.phase q ∙ running in cc)

    not_finished : (x : UnitNo) → x ≡ u → w.units.phase x ≡ Finished → ⊥
    not_finished x q e = (let t : Finished ≡ Running = sym e ∙ ap w.units.phase q ∙ running in cc)

    back : (x : UnitNo) → w.units.phase x ≡ Finished → put w.units.phase u Finished x ≡ Finished
    back x f = put-at w.units.phase u Finished (λ p. p ≡ Finished) x (λ e. refl) (λ m. f)

    run : (x : UnitNo) → put w.units.phase u Finished x ≡ Running → w.units.phase x ≡ Running
    run x = put-at w.units.phase u Finished (λ p. p ≡ Running → w.units.phase x ≡ Running) x (λ e h. cc) (λ k h. h)

    holder : (g : GrainId) → (v : List Value) × (state_written g ws ≡ Some v) → (k : Hold) × Member k (w.cells.holds g) × (k.unit ≡ u) × (is_update k.mode ≡ true)
    holder g wr =
        let a = written-member g wr.0 ws wr.1 in
        let b = any-true (is_alone u) (w.cells.holds a.0.0) (all-true (λ (x : Write). any (is_alone u) (w.cells.holds x.0)) ws holds a.0 a.1) in
        let c = and_parts (is_hold_of u b.0) (is_update b.0.mode) b.2 in
        (b.0, subst (λ k. Member b.0 (w.cells.holds k)) a.2 b.1, same_unit-true _ _ c.0, c.1)

    old_wrote : (x : UnitNo) (g : GrainId) → (x ≡ u → ⊥) → WroteGrain (put w.manager.writes u ws) x g → WroteGrain w.manager.writes x g
    old_wrote x g e wr = (wr.0, ap (state_written g) (sym (put-other w.manager.writes u ws x e)) ∙ wr.1)

pub loadless-locked : (n : ℕ) (w : CoreState) (u : UnitNo) (g : GrainId) (mode : Mode) → LoadlessAt n w →
    w.units.phase u ≡ Running → ((h : Hold) → Member h (w.cells.holds g) → conflicts u mode h ≡ false) → holds_lock u (w.cells.holds g) ≡ false → w.cells.here g ≡ true → LoadlessAt n (after_lock w u g mode)
loadless-locked n w u g mode i running free first here_g =
    record {
      fresh = i.fresh;
      unborn = i.unborn;
      outside = i.outside;
      blank = λ x p. put-at w.units.reads u reads_u (λ t. t ≡ []) x (λ e. (let t : Unborn ≡ Running = sym p ∙ ap w.units.phase e ∙ running in cc)) (λ e. i.blank x p);
      unwritten = i.unwritten;
      undecided = i.undecided;
      listed = i.listed;
      placed = i.placed;
      within = i.within;
      early = i.early;
      late = i.late;
      alone = λ k h l. grain-at w.cells.holds g holds_g (λ hs. Member h hs → Member l hs → is_update h.mode ≡ true → l.unit ≡ h.unit) k (λ e. alone_at h l) (λ e. i.alone k h l);
      keeps = λ x r p. put-from w.units.reads u reads_u (Member r) _ x
          (λ e m. elim (Member-append r (w.units.reads u) (new ∷ []) m) [
            | inl o ↦ more_holds x r (i.keeps x r p (subst (λ z. Member r (w.units.reads z)) (sym e) o))
            | inr o ↦ elim o [
              | inl q ↦ (hold, grain-at w.cells.holds g holds_g (Member hold) r.grain (λ z. granted-new (w.cells.holds g) u mode) (λ z. absurd (z (ap (λ (y : Read). y.grain) q))), sym e)
              | inr q ↦ absurd q
            ]
          ])
          (λ e m. more_holds x r (i.keeps x r p m));
      strong = λ x k h f wr. grain-at w.cells.holds g holds_g (λ hs. Member h hs → h.unit ≡ x → (l : Hold) × Member l hs × (l.unit ≡ x) × (is_update l.mode ≡ true)) k
          (λ e m q. elim (granted-member (w.cells.holds g) u mode h m) [
            | inr a ↦ (let t : Running ≡ Finished = sym running ∙ ap w.units.phase (sym (ap (λ (z : Hold). z.unit) a) ∙ q) ∙ f in cc)
            | inl a ↦ (let t = i.strong x k h f wr (subst (λ j. Member h (w.cells.holds j)) (sym e) a.0) q in (t.0, old_stays t.0 (subst (λ j. Member t.0 (w.cells.holds j)) e t.1), t.2, t.3))
          ])
          (λ e. i.strong x k h f wr);
      told = λ k h. grain-from w.cells.holds g holds_g (Member h) ((s : Reading) × Member s (put_grain w.cells.readings g readings_g k) × (s.unit ≡ h.unit)) k
          (λ e m. elim (granted-member (w.cells.holds g) u mode h m) [
            | inr q ↦ (let t = with_reading-has (w.cells.readings g) u (top (w.cells.stack g)).unit in
                (t.0, subst (Member t.0) (sym (grain-is w.cells.readings g readings_g k e)) t.1, t.2 ∙ sym (ap (λ (z : Hold). z.unit) q)))
            | inl q ↦ (let t = i.told k h (subst (λ j. Member h (w.cells.holds j)) (sym e) q.0) in (t.0, more_reading k t.0 t.1, t.2))
          ])
          (λ e m. (let t = i.told k h m in (t.0, more_reading k t.0 t.1, t.2)));
      seen = λ k s. grain-from w.cells.readings g readings_g (Member s) ((r : Read) × Member r (put w.units.reads u reads_u s.unit) × (r.grain ≡ k) × (r.source ≡ s.source)) k
          (λ e m. elim (with_reading-member (w.cells.readings g) u (top (w.cells.stack g)).unit s m) [
            | inl a ↦ more_seen k s (i.seen k s (subst (λ j. Member s (w.cells.readings j)) (sym e) a))
            | inr q ↦ (new, subst (λ j. Member new (put w.units.reads u reads_u j)) (sym (ap (λ (z : Reading). z.unit) q)) mine, sym e, ap (λ (z : Reading). z.source) (sym q))
          ])
          (λ e m. more_seen k s (i.seen k s m));
      kept = λ k s. grain-from w.cells.readings g readings_g (Member s) ((h : Hold) × Member h (put_grain w.cells.holds g holds_g k) × (h.unit ≡ s.unit)) k
          (λ e m. elim (with_reading-member (w.cells.readings g) u (top (w.cells.stack g)).unit s m) [
            | inl a ↦ (let t = i.kept k s (subst (λ j. Member s (w.cells.readings j)) (sym e) a) in (t.0, more_hold k t.0 t.1, t.2))
            | inr q ↦ (hold, subst (Member hold) (sym (grain-is w.cells.holds g holds_g k e)) (granted-new (w.cells.holds g) u mode), sym (ap (λ (z : Reading). z.unit) q))
          ])
          (λ e m. (let t = i.kept k s m in (t.0, more_hold k t.0 t.1, t.2)));
    }
  where
    new : Read
    new = read_of g (top (w.cells.stack g))

    reads_u : List Read
    reads_u = w.units.reads u ++ new ∷ []

    hold : Hold
    hold = record { unit = u; mode = mode }

    holds_g : List Hold
    holds_g = granted (w.cells.holds g) u mode

    readings_g : List Reading
    readings_g = with_reading (w.cells.readings g) u (top (w.cells.stack g)).unit

    old_stays : (h : Hold) → Member h (w.cells.holds g) → Member h holds_g
    old_stays h m = granted-stays (w.cells.holds g) u mode h m (same_unit-false h.unit u (any-false (is_hold_of u) (w.cells.holds g) first h m))

    more_reading : (k : GrainId) (s : Reading) → Member s (w.cells.readings k) → Member s (put_grain w.cells.readings g readings_g k)
    more_reading k s m = grain-at w.cells.readings g readings_g (Member s) k (λ e. with_reading-stays (w.cells.readings g) u (top (w.cells.stack g)).unit s (subst (λ j. Member s (w.cells.readings j)) e m)) (λ e. m)

    mine : Member new (put w.units.reads u reads_u u)
    mine = subst (Member new) (sym (put-same w.units.reads u reads_u)) (Member-last new (w.units.reads u))

    more_reads : (x : UnitNo) (r : Read) → Member r (w.units.reads x) → Member r (put w.units.reads u reads_u x)
    more_reads x r m = put-at w.units.reads u reads_u (Member r) x (λ e. Member-left r (w.units.reads u) (new ∷ []) (subst (λ z. Member r (w.units.reads z)) e m)) (λ e. m)

    more_hold : (k : GrainId) (h : Hold) → Member h (w.cells.holds k) → Member h (put_grain w.cells.holds g holds_g k)
    more_hold k h m = grain-at w.cells.holds g holds_g (Member h) k (λ e. old_stays h (subst (λ j. Member h (w.cells.holds j)) e m)) (λ e. m)

    more_holds : (x : UnitNo) (r : Read) → (h : Hold) × Member h (w.cells.holds r.grain) × (h.unit ≡ x) → (h : Hold) × Member h (put_grain w.cells.holds g holds_g r.grain) × (h.unit ≡ x)
    more_holds x r t = (t.0, more_hold r.grain t.0 t.1, t.2)

    more_seen : (k : GrainId) (s : Reading) → (r : Read) × Member r (w.units.reads s.unit) × (r.grain ≡ k) × (r.source ≡ s.source) → (r : Read) × Member r (put w.units.reads u reads_u s.unit) × (r.grain ≡ k) × (r.source ≡ s.source)
    more_seen k s t = (t.0, more_reads s.unit t.0 t.1, t.2, t.3)

    alone_at : (h l : Hold) → Member h holds_g → Member l holds_g → is_update h.mode ≡ true → l.unit ≡ h.unit
    alone_at h l a b q = elim (granted-member (w.cells.holds g) u mode h a) [
      | inr x ↦ elim (granted-member (w.cells.holds g) u mode l b) [
        | inr y ↦ ap (λ (z : Hold). z.unit) y ∙ ap (λ (z : Hold). z.unit) (sym x)
        | inl y ↦ no_conflict u mode l (free l y.0) (inl (ap (λ (z : Hold). is_update z.mode) (sym x) ∙ q)) ∙ ap (λ (z : Hold). z.unit) (sym x)
      ]
      | inl x ↦ elim (granted-member (w.cells.holds g) u mode l b) [
        | inr y ↦ absurd (x.1 (no_conflict u mode h (free h x.0) (inr q)))
        | inl y ↦ i.alone g h l x.0 y.0 q
      ]
    ]

pub loadless-raised : (n : ℕ) (w : CoreState) (u : UnitNo) (g : GrainId) (mode : Mode) → LoadlessAt n w →
    w.units.phase u ≡ Running → ((h : Hold) → Member h (w.cells.holds g) → conflicts u mode h ≡ false) → holds_lock u (w.cells.holds g) ≡ true → w.cells.here g ≡ true → LoadlessAt n (after_raise w u g mode)
loadless-raised n w u g mode i running free held here_g =
    record {
      fresh = i.fresh;
      unborn = i.unborn;
      outside = i.outside;
      blank = i.blank;
      unwritten = i.unwritten;
      undecided = i.undecided;
      listed = i.listed;
      placed = i.placed;
      within = i.within;
      early = i.early;
      late = i.late;
      alone = λ k h l. grain-at w.cells.holds g holders_g (λ hs. Member h hs → Member l hs → is_update h.mode ≡ true → l.unit ≡ h.unit) k (λ e. alone_at h l) (λ e. i.alone k h l);
      keeps = λ x r p m. (let t = i.keeps x r p m in keep x r.grain t.0 t.1 t.2);
      strong = λ x k h f wr m q. (let t = i.strong x k (old_hold k h m).0 f wr (old_hold k h m).1 ((old_hold k h m).2 ∙ q) in
          (t.0, stays k t.0 t.1 (λ e. not_finished x (sym t.2 ∙ e) f), t.2, t.3));
      told = λ k h m. (let o = old_hold k h m in let t = i.told k o.0 o.1 in (t.0, subst (Member t.0) (sym (same_readings k)) t.1, t.2 ∙ o.2));
      seen = λ k s m. i.seen k s (subst (Member s) (same_readings k) m);
      kept = λ k s m. (let t = i.kept k s (subst (Member s) (same_readings k) m) in keep s.unit k t.0 t.1 t.2);
    }
  where
    hold : Hold
    hold = record { unit = u; mode = mode }

    holders_g : List Hold
    holders_g = granted (w.cells.holds g) u mode

    own_hold : (h : Hold) × Member h (w.cells.holds g) × (is_hold_of u h ≡ true)
    own_hold = any-true (is_hold_of u) (w.cells.holds g) held

    same_readings : (k : GrainId) → put_grain w.cells.readings g (with_reading (w.cells.readings g) u (top (w.cells.stack g)).unit) k ≡ w.cells.readings k
    same_readings k = grain-at w.cells.readings g _ (λ rs. rs ≡ w.cells.readings k) k
        (λ e. (let t = i.told g own_hold.0 own_hold.1 in
        with_reading-same (w.cells.readings g) u (top (w.cells.stack g)).unit t.0 t.1 (t.2 ∙ same_unit-true _ _ own_hold.2) ∙ ap w.cells.readings (sym e)))
        (λ e. refl)

    not_finished : (x : UnitNo) → x ≡ u → w.units.phase x ≡ Finished → ⊥
    not_finished x e f = (let t : Running ≡ Finished = sym running ∙ ap w.units.phase (sym e) ∙ f in cc)

    alone_at : (h l : Hold) → Member h holders_g → Member l holders_g → is_update h.mode ≡ true → l.unit ≡ h.unit
    alone_at h l a b q = elim (granted-member (w.cells.holds g) u mode h a) [
      | inr x ↦ elim (granted-member (w.cells.holds g) u mode l b) [
        | inr y ↦ ap (λ (z : Hold). z.unit) y ∙ ap (λ (z : Hold). z.unit) (sym x)
        | inl y ↦ no_conflict u mode l (free l y.0) (inl (ap (λ (z : Hold). is_update z.mode) (sym x) ∙ q)) ∙ ap (λ (z : Hold). z.unit) (sym x)
      ]
      | inl x ↦ elim (granted-member (w.cells.holds g) u mode l b) [
        | inr y ↦ absurd (x.1 (no_conflict u mode h (free h x.0) (inr q)))
        | inl y ↦ i.alone g h l x.0 y.0 q
      ]
    ]

    stays : (k : GrainId) (h : Hold) → Member h (w.cells.holds k) → (h.unit ≡ u → ⊥) → Member h (put_grain w.cells.holds g holders_g k)
    stays k h m apart = grain-at w.cells.holds g holders_g (Member h) k (λ e. granted-stays (w.cells.holds g) u mode h (subst (λ j. Member h (w.cells.holds j)) e m) apart) (λ e. m)

    keep : (x : UnitNo) (k : GrainId) (h : Hold) → Member h (w.cells.holds k) → h.unit ≡ x → (l : Hold) × Member l (put_grain w.cells.holds g holders_g k) × (l.unit ≡ x)
    keep x k h m q = elim (cases_unit h.unit u) [
      | inl e ↦ grain-at w.cells.holds g holders_g (λ hs. (l : Hold) × Member l hs × (l.unit ≡ x)) k
          (λ z. (hold, granted-new (w.cells.holds g) u mode, sym e ∙ q)) (λ z. (h, m, q))
      | inr n ↦ (h, stays k h m n, q)
    ]

    old_hold : (k : GrainId) (h : Hold) → Member h (put_grain w.cells.holds g holders_g k) → (l : Hold) × Member l (w.cells.holds k) × (l.unit ≡ h.unit)
    old_hold k h = grain-from w.cells.holds g holders_g (Member h) ((l : Hold) × Member l (w.cells.holds k) × (l.unit ≡ h.unit)) k
        (λ e m. elim (granted-member (w.cells.holds g) u mode h m) [
          | inr q ↦ (own_hold.0, subst (λ j. Member own_hold.0 (w.cells.holds j)) (sym e) own_hold.1, same_unit-true _ _ own_hold.2 ∙ ap (λ (z : Hold). z.unit) (sym q))
          | inl q ↦ (h, subst (λ j. Member h (w.cells.holds j)) (sym e) q.0, refl)
        ])
        (λ e m. (h, m, refl))

pub loadless-released : (n : ℕ) (w : CoreState) (u : UnitNo) (g : GrainId) → LoadlessAt n w →
    (w.units.phase u ≡ Running → ⊥) → holds_lock u (w.cells.holds g) ≡ true → LoadlessAt n (after_release w u g)
loadless-released n w u g i stopped held =
    record {
      fresh = i.fresh;
      unborn = i.unborn;
      outside = i.outside;
      blank = i.blank;
      unwritten = i.unwritten;
      undecided = i.undecided;
      listed = i.listed;
      placed = i.placed;
      within = i.within;
      early = i.early;
      late = i.late;
      alone = λ k h l a b. i.alone k h l (old k h a) (old k l b);
      keeps = λ x r p m. (let t = i.keeps x r p m in
          (t.0, stays r.grain t.0 t.1 (λ e. stopped (ap w.units.phase (sym e ∙ t.2) ∙ p)), t.2));
      strong = λ x k h f wr m q. (let t = i.strong x k h f wr (old k h m) q in (
        t.0,
        grain-from w.cells.holds g holds_g (Member h) (Member t.0 (put_grain w.cells.holds g holds_g k)) k
            (λ e m'. stays k t.0 t.1 (λ z. (dropped-member u (w.cells.holds g) h m').1 (q ∙ sym t.2 ∙ z)))
            (λ e m'. grain-at w.cells.holds g holds_g (Member t.0) k (λ z. absurd (e z)) (λ z. t.1)) m,
        t.2,
        t.3,
      ));
      told = λ k h m. (let t = i.told k h (old k h m) in (
        t.0,
        grain-at w.cells.readings g readings_g (Member t.0) k
            (λ e. without_reading-stays (w.cells.readings g) u t.0 (subst (λ j. Member t.0 (w.cells.readings j)) e t.1)
            (λ q. apart_u k h e m (sym t.2 ∙ q)))
            (λ e. t.1),
        t.2,
      ));
      seen = λ k s m. i.seen k s (old_reading k s m);
      kept = λ k s m. (let t = i.kept k s (old_reading k s m) in (
        t.0,
        grain-from w.cells.readings g readings_g (Member s) (Member t.0 (put_grain w.cells.holds g holds_g k)) k
            (λ e m'. stays k t.0 t.1 (λ z. (without_reading-member (w.cells.readings g) u s m').1 (sym t.2 ∙ z)))
            (λ e m'. grain-at w.cells.holds g holds_g (Member t.0) k (λ z. absurd (e z)) (λ z. t.1)) m,
        t.2,
      ));
    }
  where
    holds_g : List Hold
    holds_g = dropped (w.cells.holds g) u

    readings_g : List Reading
    readings_g = without_reading (w.cells.readings g) u

    old : (k : GrainId) (h : Hold) → Member h (put_grain w.cells.holds g holds_g k) → Member h (w.cells.holds k)
    old k h = grain-from w.cells.holds g holds_g (Member h) (Member h (w.cells.holds k)) k
        (λ e m. subst (λ j. Member h (w.cells.holds j)) (sym e) (dropped-member u (w.cells.holds g) h m).0) (λ e m. m)

    stays : (k : GrainId) (h : Hold) → Member h (w.cells.holds k) → (h.unit ≡ u → ⊥) → Member h (put_grain w.cells.holds g holds_g k)
    stays k h m apart = grain-at w.cells.holds g holds_g (Member h) k (λ e. dropped-stays u (w.cells.holds g) h (subst (λ j. Member h (w.cells.holds j)) e m) apart) (λ e. m)

    old_reading : (k : GrainId) (s : Reading) → Member s (put_grain w.cells.readings g readings_g k) → Member s (w.cells.readings k)
    old_reading k s = grain-from w.cells.readings g readings_g (Member s) (Member s (w.cells.readings k)) k
        (λ e m. subst (λ j. Member s (w.cells.readings j)) (sym e) (without_reading-member (w.cells.readings g) u s m).0) (λ e m. m)

    -- who still holds the grain isn't the unit
    apart_u : (k : GrainId) (h : Hold) → k ≡ g → Member h (put_grain w.cells.holds g holds_g k) → h.unit ≡ u → ⊥
    apart_u k h e m = (dropped-member u (w.cells.holds g) h (subst (Member h) (grain-is w.cells.holds g holds_g k e) m)).1

pub loadless-judged : (n : ℕ) (w : CoreState) (u : UnitNo) (d : Verdict) → LoadlessAt n w →
    n < length w.manager.order → u ≡ get_or w.manager.order n nobody → (d ≡ Open → ⊥) → LoadlessAt (n + 1) (with_verdict w u d)
loadless-judged n w u d i lt is d_not_open =
    record {
      fresh = i.fresh;
      unborn = i.unborn;
      outside = i.outside;
      blank = i.blank;
      unwritten = i.unwritten;
      undecided = λ x o. put-other w.manager.verdict u d x (λ e. unfinished x e o) ∙ i.undecided x o;
      listed = i.listed;
      placed = i.placed;
      within = omega arith;
      early = λ x f le. put-at w.manager.verdict u d (λ v. v ≡ Open → ⊥) x (λ e q. d_not_open q) (λ e. i.early x f (omega (arith, apart x f e)));
      late = λ x f m. put-other w.manager.verdict u d x (λ e. absurd (omega (arith, ap w.manager.place e, here.1))) ∙ i.late x f (omega arith);
      alone = i.alone;
      keeps = i.keeps;
      strong = i.strong;
      told = i.told;
      seen = i.seen;
      kept = i.kept;
    }
  where
    here : (w.units.phase u ≡ Finished) × (w.manager.place u ≡ n + 1)
    here = subst (λ z. (w.units.phase z ≡ Finished) × (w.manager.place z ≡ n + 1)) (sym is) (i.listed n lt)

    unfinished : (x : UnitNo) → x ≡ u → (w.units.phase x ≡ Unborn) ⊎ (w.units.phase x ≡ Running) → ⊥
    unfinished x e (inl q) = (let t : Unborn ≡ Finished = sym q ∙ ap w.units.phase e ∙ here.0 in cc)
    unfinished x e (inr q) = (let t : Running ≡ Finished = sym q ∙ ap w.units.phase e ∙ here.0 in cc)

    apart : (x : UnitNo) → w.units.phase x ≡ Finished → (x ≡ u → ⊥) → w.manager.place x ≡ n + 1 → ⊥
    apart x f e q = (let t = i.placed x f in let k : t.0 ≡ n = omega (arith, t.2, q) in e (sym t.3 ∙ ap (λ j. get_or w.manager.order j nobody) k ∙ sym is))

pub loadless-mapped : (n : ℕ) (w : CoreState) (f : Verdict → Verdict) → f Open ≡ Open → ((v : Verdict) → f v ≡ Open → v ≡ Open) → LoadlessAt n w → LoadlessAt n (mapped f w)
loadless-mapped n w f still opens i =
    record {
      fresh = i.fresh;
      unborn = i.unborn;
      outside = i.outside;
      blank = i.blank;
      unwritten = i.unwritten;
      undecided = λ x o. ap f (i.undecided x o) ∙ still;
      listed = i.listed;
      placed = i.placed;
      within = i.within;
      early = λ x p le q. i.early x p le (opens _ q);
      late = λ x p lt. ap f (i.late x p lt) ∙ still;
      alone = i.alone;
      keeps = i.keeps;
      strong = i.strong;
      told = i.told;
      seen = i.seen;
      kept = i.kept;
    }
