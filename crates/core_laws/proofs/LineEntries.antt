-- Each line is answered once.
use Rattle.std.proofs.Common.{◌≡◌, ℕ, suc, ◌+◌, ◌<◌, ◌≤◌, List, [], ◌∷◌, ◌++◌, length, get_or, Bool, true, ◌⊎◌, inl, inr, refl, sym, ap, ◌∙◌, subst, arith, Option, Some, None}
use Rattle.std.proofs.lemmas.Bool.{and_parts, cases_lt, cond_both}
use Rattle.cell_model.proofs.Units.{cases_unit, Member-append, Member-left}
use Rattle.core_model.specs.CoreState.{UnitNo, nobody, put, Member, Origin, Settled, Batch, Decision, CoreState}
use Rattle.core_model.specs.declared.phases.Phase.{Phase}
use Rattle.core_model.specs.declared.phases.Phase.TheVariants.{Unborn, Running, Finished, Refused, Ended}
use Rattle.core_model.specs.declared.phases.Verdict.{Verdict}
use Rattle.core_model.specs.declared.effects.Effect.{Effect}
use Rattle.core_laws.proofs.Puts.{put-from, put-is, put-other}
use Rattle.std.specs.Prelude.{⊤}
use Rattle.std.proofs.Common.{◌-◌, le_refl, length-append, append-nil, length-drop, eqb-true}
use Rattle.base_types.specs.declared.calls.Origin.TheVariants.{Line, Child}
use Rattle.base_types.specs.declared.entries.Settled.TheVariants as settled
use Rattle.core_model.specs.CoreState.{Entry, Outcome, Call}
use Rattle.core_model.specs.Tests.{members, waiting}
use Rattle.core_model.specs.Lines.{HasBegunFor, IsSettled, DifferInLine, SettleInOrder, LinesAreTaken, EntriesAreOnce}
use Rattle.core_laws.proofs.TakenLines.{taken-change}
use Rattle.core_model.specs.Changes.{begun, new_unit, lines_with, entry_for, told, entries_in, after_refusal, finished, after_end, decisions_of, with_decisions, closed, result_told, seal, spoil, leave, swept, swept_by}
use Rattle.core_model.specs.Events.{can_begin}
use Rattle.core_model.specs.LegalRuns.{Run, begins, ends}
use Rattle.core_model.specs.Events.{applies, can, does, step, run, is_allowed}
use Rattle.core_model.specs.declared.events.CoreEvent.{CoreEvent}
use Rattle.core_laws.proofs.EventCases.{Change, bad, begin, lock, raise, refuse, finish, end_plain, end_snapshot, release, take_batch, vote, decide_some, decide_none, seal_batch, spoil_batch, doubt_batch, learn, emit, halt_run, want, load, decode}
use Rattle.core_laws.proofs.Orders.{at_part, in_part, take_length, Member-at, Member-get, member-place}
use Rattle.core_laws.proofs.EntryCauses.{entry-parts}
use Rattle.core_laws.proofs.LoadlessKept.{LoadlessKept, size-at, decided-at, loadless-begins, loadless-step}
use Rattle.core_laws.proofs.Loadless.{LoadlessAt}
use Rattle.core_laws.proofs.EachDecided.{decided-many, each-step}
use Rattle.core_model.specs.LoadlessLaws.{EachIsDecided}

-- all of it, in parts
abbrev pub Once : CoreState → Type 0
Once w =
    ((u : UnitNo) (n : ℕ) → HasBegunFor w u n → (0 < n) × (n ≤ w.units.lines))
    × ((u v : UnitNo) (n : ℕ) → HasBegunFor w u n → HasBegunFor w v n → u ≡ v)
    × DifferInLine w.manager.settled
    × ((x : Entry) → Member x w.manager.settled → (0 < x.line) × (x.line ≤ w.units.lines) × (((x.unit ≡ nobody) × ((u : UnitNo) → HasBegunFor w u x.line → ⊥)) ⊎ (HasBegunFor w x.unit x.line × IsSettled w x.unit)))
    × ((u : UnitNo) (n : ℕ) → HasBegunFor w u n → IsSettled w u → (x : Entry) × Member x w.manager.settled × (x.unit ≡ u) × (x.line ≡ n))
    × SettleInOrder w w.manager.settled
    × (w.manager.emitted ≤ length w.manager.settled)

differ-append : (xs ys : List Entry) → DifferInLine xs → DifferInLine ys → ((x y : Entry) → Member x xs → Member y ys → x.line ≡ y.line → ⊥) → DifferInLine (xs ++ ys)
differ-append [] ys a b c = b
differ-append (x ∷ xs) ys a b c = (
  (λ y m. elim (Member-append y xs ys m) [ inl o ↦ a.0 y o | inr o ↦ c x y (inl refl) o ]),
  differ-append xs ys a.1 b (λ z y m n. c z y (inr m) n),
)

order-append : (w : CoreState) (xs ys : List Entry) → SettleInOrder w xs → SettleInOrder w ys →
    ((x y : Entry) → Member x xs → Member y ys → w.units.phase x.unit ≡ Finished → w.units.phase y.unit ≡ Finished → w.manager.place x.unit < w.manager.place y.unit) → SettleInOrder w (xs ++ ys)
order-append w [] ys a b c = b
order-append w (x ∷ xs) ys a b c = (
  (λ y m. elim (Member-append y xs ys m) [ inl o ↦ a.0 y o | inr o ↦ c x y (inl refl) o ]),
  order-append w xs ys a.1 b (λ z y m n. c z y (inr m) n),
)

-- entries whose units keep their places
order-same : (w w' : CoreState) (xs : List Entry) → ((x : Entry) → Member x xs → w'.units.phase x.unit ≡ Finished → (w.units.phase x.unit ≡ Finished) × (w'.manager.place x.unit ≡ w.manager.place x.unit)) → SettleInOrder w xs → SettleInOrder w' xs
order-same w w' [] same s = tt
order-same w w' (x ∷ xs) same s = (
  (λ y m f g. (let a = same x (inl refl) f in let b = same y (inr m) g in omega (arith, s.0 y m a.0 b.0, a.1, b.1))),
  order-same w w' xs (λ y m. same y (inr m)) s.1,
)

-- new entries of units that weren't settled
pub record Settles (w w' : CoreState) (new : List Entry) : Type 0 where
  pub all : w'.manager.settled ≡ w.manager.settled ++ new
  pub emitted : w'.manager.emitted ≡ w.manager.emitted
  pub lines : w'.units.lines ≡ w.units.lines
  pub back : (u : UnitNo) (n : ℕ) → HasBegunFor w' u n → HasBegunFor w u n
  pub on : (u : UnitNo) (n : ℕ) → HasBegunFor w u n → HasBegunFor w' u n
  pub stays : (u : UnitNo) → IsSettled w u → IsSettled w' u
  pub known : (u : UnitNo) (n : ℕ) → HasBegunFor w u n → IsSettled w' u → IsSettled w u ⊎ ((y : Entry) × Member y new × (y.unit ≡ u) × (y.line ≡ n))
  pub fresh : (y : Entry) → Member y new → HasBegunFor w y.unit y.line × (IsSettled w y.unit → ⊥) × IsSettled w' y.unit
  pub differ : DifferInLine new
  pub order : SettleInOrder w' new
  pub same : (x : Entry) → Member x w.manager.settled → w'.units.phase x.unit ≡ Finished → (w.units.phase x.unit ≡ Finished) × (w'.manager.place x.unit ≡ w.manager.place x.unit)
  pub after : (x y : Entry) → Member x w.manager.settled → Member y new → w'.units.phase x.unit ≡ Finished → w'.units.phase y.unit ≡ Finished → w'.manager.place x.unit < w'.manager.place y.unit

once-settles : (w w' : CoreState) (new : List Entry) → Settles w w' new → Once w → Once w'
once-settles w w' new t s = (
  (λ u n b. (let z = s.0 u n (t.back u n b) in (z.0, omega (arith, z.1, t.lines)))),
  (λ u v n a b. s.1 u v n (t.back u n a) (t.back v n b)),
  subst DifferInLine (sym t.all) (differ-append w.manager.settled new s.2 t.differ (λ x y m n q.
      (let f = t.fresh y n in
      elim (s.3 x m).2 [
        | inl o ↦ o.1 y.unit (f.0.0, f.0.1 ∙ ap Line (sym q))
        | inr o ↦ f.1 (subst (IsSettled w) (s.1 x.unit y.unit x.line o.0 (f.0.0, f.0.1 ∙ ap Line (sym q))) o.1)
      ]))),
  (λ x m. elim (Member-append x w.manager.settled new (subst (Member x) t.all m)) [
    | inl o ↦ (let z = s.3 x o in (
      z.0,
      omega (arith, z.1, t.lines),
      elim z.2 [
        | inl b ↦ inl (b.0, λ u h. b.1 u (t.back u x.line h))
        | inr b ↦ inr (t.on x.unit x.line b.0, t.stays x.unit b.1)
      ],
    ))
    | inr o ↦ (let f = t.fresh x o in let z = s.0 x.unit x.line f.0 in (z.0, omega (arith, z.1, t.lines), inr (t.on x.unit x.line f.0, f.2)))
  ]),
  (λ u n b h. elim (t.known u n (t.back u n b) h) [
    | inl o ↦ (let z = s.4 u n (t.back u n b) o in (z.0, subst (Member z.0) (sym t.all) (Member-left z.0 w.manager.settled new z.1), z.2, z.3))
    | inr o ↦ (o.0, subst (Member o.0) (sym t.all) (member-right o.0 w.manager.settled o.1), o.2, o.3)
  ]),
  subst (SettleInOrder w') (sym t.all) (order-append w' w.manager.settled new (order-same w w' w.manager.settled t.same s.5) t.order t.after),
  (let len : length w'.manager.settled ≡ length w.manager.settled + length new = ap length t.all ∙ length-append w.manager.settled new in omega (arith, s.6, t.emitted, len)),
)
  where
    member-right : (x : Entry) (xs : List Entry) → Member x new → Member x (xs ++ new)
    member-right x [] m = m
    member-right x (y ∷ ys) m = inr (member-right x ys m)

-- a settled unit doesn't run
settled-running : (w : CoreState) (u : UnitNo) → IsSettled w u → w.units.phase u ≡ Running → ⊥
settled-running w u (inl o) p = (let t : Refused ≡ Running = sym o ∙ p in cc)
settled-running w u (inr (inl o)) p = (let t : Ended ≡ Running = sym o ∙ p in cc)
settled-running w u (inr (inr o)) p = (let t : Finished ≡ Running = sym o.0 ∙ p in cc)

-- an entry isn't of a unit that runs
entry-running : (n : ℕ) (w : CoreState) → LoadlessAt n w → Once w → (x : Entry) → Member x w.manager.settled → w.units.phase x.unit ≡ Running → ⊥
entry-running n w i s x m p = elim (s.3 x m).2 [
  | inl o ↦ (let t : Unborn ≡ Running = sym i.outside ∙ ap w.units.phase (sym o.0) ∙ p in cc)
  | inr o ↦ settled-running w x.unit o.1 p
]

one-entry : (w : CoreState) (u : UnitNo) (what : Settled) → DifferInLine (entry_for (w.units.origin u) u what) × ((w' : CoreState) → SettleInOrder w' (entry_for (w.units.origin u) u what))
one-entry w u what = go (w.units.origin u)
  where
    go : (o : Origin) → DifferInLine (entry_for o u what) × ((w' : CoreState) → SettleInOrder w' (entry_for o u what))
    go (Line n) = (((λ y m. absurd m), tt), λ w'. ((λ y m. absurd m), tt))
    go (Child p i d) = (tt, λ w'. tt)

-- a line's unit has its entry
its-entry : (w : CoreState) (u : UnitNo) (what : Settled) (n : ℕ) → w.units.origin u ≡ Line n → (y : Entry) × Member y (entry_for (w.units.origin u) u what) × (y.unit ≡ u) × (y.line ≡ n)
its-entry w u what n q = (record { line = n; unit = u; what = what }, subst (λ o. Member (record { line = n; unit = u; what = what }) (entry_for o u what)) (sym q) (inl refl), refl, refl)

-- a running unit ends, and its line is settled
pub record Stops (w w' : CoreState) (u : UnitNo) (end : Phase) (what : Settled) : Type 0 where
  pub phase : w'.units.phase ≡ put w.units.phase u end
  pub origin : w'.units.origin ≡ w.units.origin
  pub lines : w'.units.lines ≡ w.units.lines
  pub place : w'.manager.place ≡ w.manager.place
  pub closed : w'.manager.closed ≡ w.manager.closed
  pub emitted : w'.manager.emitted ≡ w.manager.emitted
  pub all : w'.manager.settled ≡ w.manager.settled ++ entry_for (w.units.origin u) u what

settles-stops : (n : ℕ) (w w' : CoreState) (u : UnitNo) (end : Phase) (what : Settled) → LoadlessAt n w → w.units.phase u ≡ Running → (end ≡ Refused) ⊎ (end ≡ Ended) → Stops w w' u end what → Once w →
    Settles w w' (entry_for (w.units.origin u) u what)
settles-stops n w w' u end what i running kind t s = record {
  all = t.all;
  emitted = t.emitted;
  lines = t.lines;
  back = λ x m b. (
    (λ z. b.0 (phase_of x ∙ elim (cases_unit x u) [
      | inl q ↦ absurd (let y : Unborn ≡ Running = sym z ∙ ap w.units.phase q ∙ running in cc)
      | inr q ↦ put-other w.units.phase u end x q ∙ z
    ])),
    ap (λ f. f x) (sym t.origin) ∙ b.1,
  );
  on = λ x m b. (
    (λ z. elim (cases_unit x u) [
      | inl q ↦ not_unborn (sym (put-is w.units.phase u end x q) ∙ sym (phase_of x) ∙ z)
      | inr q ↦ b.0 (sym (put-other w.units.phase u end x q) ∙ sym (phase_of x) ∙ z)
    ]),
    ap (λ f. f x) t.origin ∙ b.1,
  );
  stays = λ x o. elim (cases_unit x u) [ inl q ↦ absurd (settled-running w x o (ap w.units.phase q ∙ running)) | inr q ↦ carry x q o ];
  known = λ x m b o. elim (cases_unit x u) [
    | inl q ↦ inr (let e = its-entry w u what m (ap w.units.origin (sym q) ∙ b.1) in (e.0, e.1, e.2 ∙ sym q, e.3))
    | inr q ↦ inl (uncarry x q o)
  ];
  fresh = λ y m. (let e = entry-parts w u what y m in (
    ((λ z. (let q : Unborn ≡ Running = sym z ∙ ap w.units.phase e.0 ∙ running in cc)), ap w.units.origin e.0 ∙ e.2),
    (λ o. settled-running w y.unit o (ap w.units.phase e.0 ∙ running)),
    ending y.unit e.0,
  ));
  differ = (one-entry w u what).0;
  order = (one-entry w u what).1 w';
  same = λ x m f. (let apart : x.unit ≡ u → ⊥ = λ q. entry-running n w i s x m (ap w.units.phase q ∙ running) in
      (sym (put-other w.units.phase u end x.unit apart) ∙ sym (phase_of x.unit) ∙ f, ap (λ f. f x.unit) t.place));
  after = λ x y m k f g. (let e = entry-parts w u what y k in absurd (not_finished (sym (put-is w.units.phase u end y.unit e.0) ∙ sym (phase_of y.unit) ∙ g)));
}
  where
    phase_of : (x : UnitNo) → w'.units.phase x ≡ put w.units.phase u end x
    phase_of x = ap (λ f. f x) t.phase

    not_unborn : end ≡ Unborn → ⊥
    not_unborn z = elim kind [ inl q ↦ (let y : Refused ≡ Unborn = sym q ∙ z in cc) | inr q ↦ (let y : Ended ≡ Unborn = sym q ∙ z in cc) ]

    not_finished : end ≡ Finished → ⊥
    not_finished z = elim kind [ inl q ↦ (let y : Refused ≡ Finished = sym q ∙ z in cc) | inr q ↦ (let y : Ended ≡ Finished = sym q ∙ z in cc) ]

    ending : (x : UnitNo) → x ≡ u → IsSettled w' x
    ending x q = elim kind [ inl k ↦ inl (phase_of x ∙ put-is w.units.phase u end x q ∙ k) | inr k ↦ inr (inl (phase_of x ∙ put-is w.units.phase u end x q ∙ k)) ]

    carry : (x : UnitNo) → (x ≡ u → ⊥) → IsSettled w x → IsSettled w' x
    carry x q o = elim o [
      | inl a ↦ inl (phase_of x ∙ put-other w.units.phase u end x q ∙ a)
      | inr a ↦ elim a [
        | inl b ↦ inr (inl (phase_of x ∙ put-other w.units.phase u end x q ∙ b))
        | inr b ↦ inr (inr (phase_of x ∙ put-other w.units.phase u end x q ∙ b.0, omega (arith, b.1, ap (λ f. f x) t.place, t.closed)))
      ]
    ]

    uncarry : (x : UnitNo) → (x ≡ u → ⊥) → IsSettled w' x → IsSettled w x
    uncarry x q o = (let back : w'.units.phase x ≡ w.units.phase x = phase_of x ∙ put-other w.units.phase u end x q in elim o [
      | inl a ↦ inl (sym back ∙ a)
      | inr a ↦ elim a [
        | inl b ↦ inr (inl (sym back ∙ b))
        | inr b ↦ inr (inr (sym back ∙ b.0, omega (arith, b.1, ap (λ f. f x) t.place, t.closed)))
      ]
    ])

-- the entries of a batch are of its units, each with its line
entries-of : (w : CoreState) (answer : UnitNo → Settled) (us : List UnitNo) (ds : List Decision) (x : Entry) → Member x (entries_in w answer us ds) → Member x.unit us × (w.units.origin x.unit ≡ Line x.line)
entries-of w answer [] ds x m = absurd m
entries-of w answer (u ∷ us) [] x m = absurd m
entries-of w answer (u ∷ us) (d ∷ ds) x m = elim (Member-append x (entry_for (w.units.origin u) u (told (answer u) d)) (entries_in w answer us ds) m) [
  | inl h ↦ (let t = entry-parts w u (told (answer u) d) x h in (inl t.0, ap w.units.origin t.0 ∙ t.2))
  | inr h ↦ (let t = entries-of w answer us ds x h in (inr t.0, t.1))
]

entries-complete : (w : CoreState) (answer : UnitNo → Settled) (us : List UnitNo) (ds : List Decision) → length ds ≡ length us →
    (u : UnitNo) (n : ℕ) → Member u us → w.units.origin u ≡ Line n → (y : Entry) × Member y (entries_in w answer us ds) × (y.unit ≡ u) × (y.line ≡ n)
entries-complete w answer [] ds r u n m q = absurd m
entries-complete w answer (x ∷ us) [] r u n m q = absurd (omega (arith, r))
entries-complete w answer (x ∷ us) (d ∷ ds) r u n (inl e) q =
    let t = its-entry w x (told (answer x) d) n (ap w.units.origin (sym e) ∙ q) in
    (t.0, Member-left t.0 (entry_for (w.units.origin x) x (told (answer x) d)) (entries_in w answer us ds) t.1, t.2 ∙ sym e, t.3)
entries-complete w answer (x ∷ us) (d ∷ ds) r u n (inr e) q =
    let t = entries-complete w answer us ds (omega (arith, r)) u n e q in
    (t.0, skip t.0 (entry_for (w.units.origin x) x (told (answer x) d)) t.1, t.2, t.3)
  where
    skip : (y : Entry) (xs : List Entry) → Member y (entries_in w answer us ds) → Member y (xs ++ entries_in w answer us ds)
    skip y [] m = m
    skip y (z ∷ zs) m = inr (skip y zs m)

-- places rise along the list
abbrev pub Rises : (UnitNo → ℕ) → List UnitNo → Type 0
Rises place [] = ⊤
Rises place (u ∷ us) = ((x : UnitNo) → Member x us → place u < place x) × Rises place us

pub rises-part : (n : ℕ) (w : CoreState) → LoadlessAt n w → (us : List UnitNo) (k : ℕ) →
    ((j : ℕ) → j < length us → (k + j < length w.manager.order) × (get_or us j nobody ≡ get_or w.manager.order (k + j) nobody)) → Rises w.manager.place us
rises-part n w i [] k at = tt
rises-part n w i (u ∷ us) k at = (
  (λ x m. (let t = Member-at x us m in
      let r = rest t.0 t.1 in
      let l = i.listed (k + 1 + t.0) r.0 in
      let place : w.manager.place x ≡ k + 1 + t.0 + 1 = ap w.manager.place (sym t.2 ∙ r.1) ∙ l.1 in
      omega (arith, place, here))),
  rises-part n w i us (k + 1) rest,
)
  where
    here : w.manager.place u ≡ k + 1
    here =
        let a = at 0 (omega arith) in
        let e : get_or w.manager.order (k + 0) nobody ≡ get_or w.manager.order k nobody = ap (λ j. get_or w.manager.order j nobody) (omega arith) in
        ap w.manager.place (a.1 ∙ e) ∙ (i.listed k (omega (arith, a.0))).1

    rest : (j : ℕ) → j < length us → (k + 1 + j < length w.manager.order) × (get_or us j nobody ≡ get_or w.manager.order (k + 1 + j) nobody)
    rest j h =
        let b = at (suc j) (omega arith) in
        let e : k + suc j ≡ k + 1 + j = omega arith in
        (omega (arith, b.0), b.1 ∙ ap (λ x. get_or w.manager.order x nobody) e)

-- the entries of a batch differ in line, and stand in its order
entries-differ : (w : CoreState) (answer : UnitNo → Settled) (us : List UnitNo) (ds : List Decision) → Rises w.manager.place us → ((u : UnitNo) → Member u us → w.units.phase u ≡ Unborn → ⊥) → ((u v : UnitNo) (n : ℕ) → HasBegunFor w u n → HasBegunFor w v n → u ≡ v) → DifferInLine (entries_in w answer us ds)
entries-differ w answer [] ds rises born one = tt
entries-differ w answer (u ∷ us) [] rises born one = tt
entries-differ w answer (u ∷ us) (d ∷ ds) rises born one =
    differ-append (entry_for (w.units.origin u) u (told (answer u) d)) (entries_in w answer us ds) (one-entry w u (told (answer u) d)).0
    (entries-differ w answer us ds rises.1 (λ x m. born x (inr m)) one)
    (λ x y m n q. (let a = entry-parts w u (told (answer u) d) x m in
    let b = entries-of w answer us ds y n in
    let e = one u y.unit x.line (born u (inl refl), a.2) (born y.unit (inr b.0), b.1 ∙ ap Line (sym q)) in
    let lt = rises.0 y.unit b.0 in
    omega (arith, lt, ap w.manager.place e)))

entries-order : (w w' : CoreState) (answer : UnitNo → Settled) (us : List UnitNo) (ds : List Decision) → Rises w'.manager.place us → SettleInOrder w' (entries_in w answer us ds)
entries-order w w' answer [] ds rises = tt
entries-order w w' answer (u ∷ us) [] rises = tt
entries-order w w' answer (u ∷ us) (d ∷ ds) rises =
    order-append w' (entry_for (w.units.origin u) u (told (answer u) d)) (entries_in w answer us ds) ((one-entry w u (told (answer u) d)).1 w')
    (entries-order w w' answer us ds rises.1)
    (λ x y m n f g. (let a = entry-parts w u (told (answer u) d) x m in
    let b = entries-of w answer us ds y n in
    let lt = rises.0 y.unit b.0 in omega (arith, lt, ap w'.manager.place a.0)))

once-closed : (w : CoreState) (f : Verdict → Verdict) (answer : UnitNo → Settled) (b : Batch) (ds : List Decision) → (n : ℕ) → LoadlessAt n w → w.manager.closed + b.size ≤ length w.manager.order →
    length ds ≡ length (members w b) → Once w → Once (closed w f answer b ds)
once-closed w f answer b ds n i le many s = once-settles w (closed w f answer b ds) (entries_in w answer (members w b) ds) (record {
  all = refl;
  emitted = refl;
  lines = refl;
  back = λ u m h. h;
  on = λ u m h. h;
  stays = λ u o. elim o [ inl a ↦ inl a | inr a ↦ elim a [ inl c ↦ inr (inl c) | inr c ↦ inr (inr (c.0, omega (arith, c.1))) ] ];
  known = λ u m h o. elim o [
    | inl a ↦ inl (inl a)
    | inr a ↦ elim a [
      | inl c ↦ inl (inr (inl c))
      | inr c ↦ elim (cases_lt w.manager.closed (w.manager.place u)) [
        | inr old ↦ inl (inr (inr (c.0, old)))
        | inl new ↦ inr (entries-complete w answer (members w b) ds many u m (is_member u c.0 new c.1) h.1)
      ]
    ]
  ];
  fresh = λ y m. (let e = entries-of w answer (members w b) ds y m in
      let p = member-place n w b i y.unit e.0 in
      let late = (in_part n w i w.manager.closed b.size y.unit e.0).1 in (
        ((λ z. (let t : Finished ≡ Unborn = sym p.0 ∙ z in cc)), e.1),
        (λ o. elim o [
          | inl a ↦ (let t : Finished ≡ Refused = sym p.0 ∙ a in cc)
          | inr a ↦ elim a [ inl c ↦ (let t : Finished ≡ Ended = sym p.0 ∙ c in cc) | inr c ↦ omega (arith, late, c.1) ]
        ]),
        inr (inr p),
      ));
  differ = entries-differ w answer (members w b) ds rises (λ u m z. (let t : Finished ≡ Unborn = sym (member-place n w b i u m).0 ∙ z in cc)) s.1;
  order = entries-order w (closed w f answer b ds) answer (members w b) ds rises;
  same = λ x m g. (g, refl);
  after = λ x y m k g h. (let e = entries-of w answer (members w b) ds y k in
      let late = (in_part n w i w.manager.closed b.size y.unit e.0).1 in
      elim (s.3 x m).2 [
        | inl o ↦ (let t : Unborn ≡ Finished = sym i.outside ∙ ap w.units.phase (sym o.0) ∙ g in cc)
        | inr o ↦ elim o.1 [
          | inl a ↦ (let t : Refused ≡ Finished = sym a ∙ g in cc)
          | inr a ↦ elim a [ inl c ↦ (let t : Ended ≡ Finished = sym c ∙ g in cc) | inr c ↦ omega (arith, late, c.1) ]
        ]
      ]);
}) s
  where
    len : length (members w b) ≡ b.size
    len = take_length b.size (waiting w) (omega (arith, length-drop w.manager.closed w.manager.order, le))

    rises : Rises w.manager.place (members w b)
    rises = rises-part n w i (members w b) w.manager.closed (λ j h. (omega (arith, len, h, le), at_part b.size w.manager.closed w.manager.order j (omega (arith, len, h))))

    is_member : (u : UnitNo) → w.units.phase u ≡ Finished → w.manager.closed < w.manager.place u → w.manager.place u ≤ w.manager.closed + b.size → Member u (members w b)
    is_member u f new old =
        let t = i.placed u f in
        let j : ℕ = t.0 - w.manager.closed in
        let at : w.manager.closed + j ≡ t.0 = omega (arith, t.2, new) in
        let lt : j < b.size = omega (arith, t.2, new, old) in
        subst (λ z. Member z (members w b))
        (at_part b.size w.manager.closed w.manager.order j lt ∙ ap (λ z. get_or w.manager.order z nobody) at ∙ t.3)
        (Member-get (members w b) j (omega (arith, len, lt)))

once-bad : (n : ℕ) (w : CoreState) (line : ℕ) (what : Settled) → LoadlessAt n w → line ≡ w.units.lines + 1 → Once w →
    Once (record w { units = record w.units { lines = w.units.lines + 1 }; manager = record w.manager { settled = w.manager.settled ++ record { line = line; unit = nobody; what = what } ∷ [] } })
once-bad n w line what i q s = (
  (λ u m b. (let z = s.0 u m b in (z.0, omega (arith, z.1)))),
  s.1,
  differ-append w.manager.settled (record { line = line; unit = nobody; what = what } ∷ []) s.2 ((λ y m. absurd m), tt)
      (λ x y m k e. elim k [ inl z ↦ (let t = (s.3 x m).1 in omega (arith, t, e, ap (λ (y : Entry). y.line) z, q)) | inr z ↦ z ]),
  (λ x m. elim (Member-append x w.manager.settled (record { line = line; unit = nobody; what = what } ∷ []) m) [
    | inl o ↦ (let z = s.3 x o in (z.0, omega (arith, z.1), z.2))
    | inr o ↦ elim o [
      | inl z ↦ (let l = ap (λ (y : Entry). y.line) z in (omega (arith, l, q), omega (arith, l, q), inl (ap (λ (y : Entry). y.unit) z, λ u b. (let t = (s.0 u x.line b).1 in omega (arith, t, l, q)))))
      | inr z ↦ absurd z
    ]
  ]),
  (λ u m b o. (let z = s.4 u m b o in (z.0, Member-left z.0 w.manager.settled (record { line = line; unit = nobody; what = what } ∷ []) z.1, z.2, z.3))),
  order-append (record w { units = record w.units { lines = w.units.lines + 1 } }) w.manager.settled (record { line = line; unit = nobody; what = what } ∷ []) (order-same w (record w { units = record w.units { lines = w.units.lines + 1 } }) w.manager.settled (λ x m f. (f, refl)) s.5) ((λ y m. absurd m), tt)
      (λ x y m k f g. elim k [ inl z ↦ (let t : Unborn ≡ Finished = sym i.outside ∙ ap w.units.phase (sym (ap (λ (y : Entry). y.unit) z)) ∙ g in cc) | inr z ↦ absurd z ]),
  omega (arith, s.6, length-append w.manager.settled (record { line = line; unit = nobody; what = what } ∷ [])),
)

once-begun : (n : ℕ) (w : CoreState) (origin : Origin) (call : Call) (plain : Bool) → LoadlessAt n w → can_begin w origin ≡ true → Once w → Once (begun w origin call plain)
once-begun n w origin call plain i c s = (
  (λ u m b. elim (begun_of u m b) [ inl o ↦ (omega (arith, (new_line m o.1).0), omega (arith, (new_line m o.1).0, (new_line m o.1).1)) | inr o ↦ (let z = s.0 u m o in (z.0, omega (arith, z.1, more))) ]),
  (λ u v m a b. elim (begun_of u m a) [
    | inl x ↦ elim (begun_of v m b) [ inl y ↦ x.0 ∙ sym y.0 | inr y ↦ absurd (omega (arith, (new_line m x.1).0, (s.0 v m y).1)) ]
    | inr x ↦ elim (begun_of v m b) [ inl y ↦ absurd (omega (arith, (new_line m y.1).0, (s.0 u m x).1)) | inr y ↦ s.1 u v m x y ]
  ]),
  s.2,
  (λ x m. (let z = s.3 x m in (
    z.0,
    omega (arith, z.1, more),
    elim z.2 [
      | inl o ↦ inl (o.0, λ u b. elim (begun_of u x.line b) [ inl y ↦ omega (arith, (new_line x.line y.1).0, z.1) | inr y ↦ o.1 u y ])
      | inr o ↦ inr (keep x.unit x.line o.0, settled_on x.unit (old x.unit x.line o.0) o.1)
    ],
  ))),
  (λ u m b o. elim (begun_of u m b) [
    | inl x ↦ absurd (settled-running (begun w origin call plain) u o (put-is w.units.phase (new_unit w) Running u x.0))
    | inr x ↦ s.4 u m x (settled_back u (old u m x) o)
  ]),
  order-same w (begun w origin call plain) w.manager.settled (λ x m f. put-from w.units.phase (new_unit w) Running (λ p. p ≡ Finished) ((w.units.phase x.unit ≡ Finished) × (w.manager.place x.unit ≡ w.manager.place x.unit)) x.unit (λ q h. cc) (λ q h. (h, refl)) f) s.5,
  s.6,
)
  where
    new : w.units.phase (new_unit w) ≡ Unborn
    new = i.unborn (new_unit w) (le_refl w.units.next)

    begun_of : (u : UnitNo) (m : ℕ) → HasBegunFor (begun w origin call plain) u m → ((u ≡ new_unit w) × (origin ≡ Line m)) ⊎ HasBegunFor w u m
    begun_of u m b = elim (cases_unit u (new_unit w)) [
      | inl q ↦ inl (q, sym (put-is w.units.origin (new_unit w) origin u q) ∙ b.1)
      | inr q ↦ inr ((λ z. b.0 (put-other w.units.phase (new_unit w) Running u q ∙ z)), sym (put-other w.units.origin (new_unit w) origin u q) ∙ b.1)
    ]

    old : (u : UnitNo) (m : ℕ) → HasBegunFor w u m → u ≡ new_unit w → ⊥
    old u m b q = b.0 (ap w.units.phase q ∙ new)

    keep : (u : UnitNo) (m : ℕ) → HasBegunFor w u m → HasBegunFor (begun w origin call plain) u m
    keep u m b = ((λ z. b.0 (sym (put-other w.units.phase (new_unit w) Running u (old u m b)) ∙ z)), put-other w.units.origin (new_unit w) origin u (old u m b) ∙ b.1)

    settled_on : (u : UnitNo) → (u ≡ new_unit w → ⊥) → IsSettled w u → IsSettled (begun w origin call plain) u
    settled_on u q o = (let e = put-other w.units.phase (new_unit w) Running u q in elim o [ inl a ↦ inl (e ∙ a) | inr a ↦ elim a [ inl b ↦ inr (inl (e ∙ b)) | inr b ↦ inr (inr (e ∙ b.0, b.1)) ] ])

    settled_back : (u : UnitNo) → (u ≡ new_unit w → ⊥) → IsSettled (begun w origin call plain) u → IsSettled w u
    settled_back u q o = (let e = sym (put-other w.units.phase (new_unit w) Running u q) in elim o [ inl a ↦ inl (e ∙ a) | inr a ↦ elim a [ inl b ↦ inr (inl (e ∙ b)) | inr b ↦ inr (inr (e ∙ b.0, b.1)) ] ])

    new_line : (m : ℕ) → origin ≡ Line m → (m ≡ w.units.lines + 1) × (lines_with w.units.lines origin ≡ w.units.lines + 1)
    new_line m q = (eqb-true m (w.units.lines + 1) (subst (λ o. can_begin w o ≡ true) q c), ap (lines_with w.units.lines) q)

    more : w.units.lines ≤ lines_with w.units.lines origin
    more = go origin
      where
        go : (o : Origin) → w.units.lines ≤ lines_with w.units.lines o
        go (Line m) = omega arith
        go (Child p j d) = omega arith

once-ended : (w : CoreState) (u : UnitNo) (answers : List Outcome) (result : Outcome) (at : Option ℕ) → LoadlessKept w → w.units.phase u ≡ Running → Once w → Once (after_end w u answers result at)
once-ended w u answers result at k running s =
    once-settles w (after_end w u answers result at) (entry_for (w.units.origin u) u (settled.Done result))
    (settles-stops _ w (after_end w u answers result at) u Ended (settled.Done result) k.0 running (inr refl) (record { phase = refl; origin = refl; lines = refl; place = refl; closed = refl; emitted = refl; all = refl }) s) s

-- who finishes isn't settled yet
once-finished : (w : CoreState) (u : UnitNo) (effect : Effect) → LoadlessKept w → w.units.phase u ≡ Running → Once w → Once (finished w u effect)
once-finished w u effect k running s = once-settles w (finished w u effect) [] (record {
  all = sym (append-nil _);
  emitted = refl;
  lines = refl;
  back = λ x m b. (
    (λ z. elim (cases_unit x u) [
      | inl q ↦ (let y : Unborn ≡ Running = sym z ∙ ap w.units.phase q ∙ running in cc)
      | inr q ↦ b.0 (put-other w.units.phase u Finished x q ∙ z)
    ]),
    b.1,
  );
  on = λ x m b. ((λ z. put-from w.units.phase u Finished (λ p. p ≡ Unborn) ⊥ x (λ q h. cc) (λ q h. b.0 h) z), b.1);
  stays = λ x o. (let apart : x ≡ u → ⊥ = λ q. settled-running w x o (ap w.units.phase q ∙ running) in
      let e = put-other w.units.phase u Finished x apart in
      elim o [ inl a ↦ inl (e ∙ a) | inr a ↦ elim a [ inl b ↦ inr (inl (e ∙ b)) | inr b ↦ inr (inr (e ∙ b.0, omega (arith, b.1, put-other w.manager.place u (length w.manager.order + 1) x apart))) ] ]);
  known = λ x m b o. inl (elim (cases_unit x u) [
    | inl q ↦ (let is = put-is w.units.phase u Finished x q in elim o [
      | inl a ↦ (let y : Finished ≡ Refused = sym is ∙ a in cc)
      | inr a ↦ elim a [ inl c ↦ (let y : Finished ≡ Ended = sym is ∙ c in cc) | inr c ↦ absurd (omega (arith, c.1, put-is w.manager.place u (length w.manager.order + 1) x q, k.1)) ]
    ])
    | inr q ↦ (let e = sym (put-other w.units.phase u Finished x q) in
        elim o [ inl a ↦ inl (e ∙ a) | inr a ↦ elim a [ inl c ↦ inr (inl (e ∙ c)) | inr c ↦ inr (inr (e ∙ c.0, omega (arith, c.1, put-other w.manager.place u (length w.manager.order + 1) x q))) ] ])
  ]);
  fresh = λ y m. absurd m;
  differ = tt;
  order = tt;
  same = λ x m f. (let apart : x.unit ≡ u → ⊥ = λ q. entry-running _ w k.0 s x m (ap w.units.phase q ∙ running) in
      (sym (put-other w.units.phase u Finished x.unit apart) ∙ f, put-other w.manager.place u (length w.manager.order + 1) x.unit apart));
  after = λ x y m n. absurd n;
}) s

pub once-change : (w : CoreState) (e : CoreEvent) (w' : CoreState) → Change w e w' → applies w e ≡ true → LoadlessKept w → EachIsDecided w → Once w → Once w'
once-change w e w' (bad line why q) a k each s = once-bad _ w line (settled.Bad why) k.0 q s
once-change w e w' (begin origin call plain c) a k each s = once-begun _ w origin call plain k.0 c s
once-change w e w' (lock u g mode running free first here) a k each s = s
once-change w e w' (raise u g mode running free held here uncovered) a k each s = s
once-change w e w' (refuse u g mode why running q) a k each s =
    once-settles w (after_refusal w u why) (entry_for (w.units.origin u) u why)
    (settles-stops _ w (after_refusal w u why) u Refused why k.0 running (inl refl) (record { phase = refl; origin = refl; lines = refl; place = refl; closed = refl; emitted = refl; all = refl }) s) s
once-change w e w' (finish u effect running plain of_call reads alone) a k each s = once-finished w u effect k running s
once-change w e w' (end_plain u effect running plain of_call bare) a k each s = once-ended w u effect.answers effect.result None k running s
once-change w e w' (end_snapshot u at outcome running plain kids answer) a k each s = once-ended w u [] outcome (Some at) k running s
once-change w e w' (release u g over held) a k each s = s
once-change w e w' (take_batch none some) a k each s = s
once-change w e w' (vote n g kept b q number d planned fresh) a k each s = s
once-change w e w' (decide_some n b q number d voted some) a k each s = s
once-change w e w' (decide_none n b q number d voted none) a k each s =
    once-closed (with_decisions w b (decisions_of w b)) seal (result_told (with_decisions w b (decisions_of w b))) b (decisions_of w b) _ (decided-at w b k q d) (size-at w b k q) (decided-many w b) s
once-change w e w' (seal_batch n b ds q number d) a k each s = once-closed w seal (result_told w) b ds _ k.0 (size-at w b k q) (each b ds q d) s
once-change w e w' (spoil_batch n b ds q number d) a k each s = once-closed w spoil (λ u. settled.Disk) b ds _ k.0 (size-at w b k q) (each b ds q d) s
once-change w e w' (doubt_batch n b ds q number d) a k each s = once-closed w leave (λ u. settled.InDoubt) b ds _ k.0 (size-at w b k q) (each b ds q d) s
once-change w e w' (learn u g wrote final fresh) a k each s = s
once-change w e w' (emit q) a k each s = (s.0, s.1, s.2, s.3, s.4, s.5, omega (arith, q))
once-change w e w' (halt_run q) a k each s = s
once-change w e w' (want u g running free fresh) a k each s = s
once-change w e w' (load g u state gone wanted) a k each s = s

once-step : (w : CoreState) (e : CoreEvent) → LoadlessKept w → EachIsDecided w → Once w → Once (step w e)
once-step w e k each s = cond_both (applies w e) (swept (does w e)) w Once
    (λ a. swept-once (does w e) (once-change w e (does w e) (decode w e (and_parts (is_allowed w e) (can w e) a).1) a k each s))
    (λ a. s)
  where
    swept-once : (w : CoreState) → Once w → Once (swept w)
    swept-once w s = go w.cells.capacity
      where
        go : (c : Option ℕ) → Once (swept_by w c)
        go None = s
        go (Some m) = s

once-run : (es : List CoreEvent) (w : CoreState) → LoadlessKept w → EachIsDecided w → Once w → Once (run w es)
once-run [] w k each s = s
once-run (e ∷ es) w k each s =
    once-run es (step w e) (loadless-step w e k) (each-step w e k each) (once-step w e k each s)

-- and each line has its unit or its entry
taken-step : (w : CoreState) (e : CoreEvent) → LoadlessKept w → LinesAreTaken w → LinesAreTaken (step w e)
taken-step w e k s = cond_both (applies w e) (swept (does w e)) w LinesAreTaken
    (λ a. swept-taken (does w e) (taken-change w e (does w e) (decode w e (and_parts (is_allowed w e) (can w e) a).1) k s))
    (λ a. s)
  where
    swept-taken : (w : CoreState) → LinesAreTaken w → LinesAreTaken (swept w)
    swept-taken w s = go w.cells.capacity
      where
        go : (c : Option ℕ) → LinesAreTaken (swept_by w c)
        go None = s
        go (Some m) = s

taken-run : (es : List CoreEvent) (w : CoreState) → LoadlessKept w → LinesAreTaken w → LinesAreTaken (run w es)
taken-run [] w k s = s
taken-run (e ∷ es) w k s = taken-run es (step w e) (loadless-step w e k) (taken-step w e k s)

pub once-ends : (r : Run) → 0 < r.base → EntriesAreOnce (ends r)
once-ends r above =
    let t = once-run r.events (begins r) (loadless-begins r above) (λ b ds q. cc)
    ((λ u n b. absurd (b.0 refl)), (λ u v n a b. absurd (a.0 refl)), tt, (λ x m. absurd m), (λ u n b. absurd (b.0 refl)), tt, omega arith) in
    record { within = t.0; one_unit = t.1; differ = t.2; entry = t.3; complete = t.4; order = t.5; written = t.6; taken = taken-run r.events (begins r) (loadless-begins r above) (λ n low high. absurd (omega (arith, low, high))) }
