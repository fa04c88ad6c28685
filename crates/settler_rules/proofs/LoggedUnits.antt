-- What units wrote fits, and units to commit can be logged.
use Rattle.std.proofs.Common.{◌≡◌, ℕ, ◌^◌, ◌<◌, ◌≤◌, List, [], ◌∷◌, length, get_or, map, filter, true, false, inl, inr, refl, sym, ap, ◌∙◌, subst, arith, nat_lt, Option, Some, None, option_map, lt-ltb}
use Rattle.std.specs.Prelude.{IsTrue, slice_get, if◌then◌else◌}
use Rattle.std.specs.List.{All, AllPairs, AllByRecursion}
use Rattle.std.proofs.lemmas.Bool.{and_from, and_parts, cases_Bool, cases_lt, false_from_ne_true, ltb-true, or_cases, false≢true}
use Rattle.std.proofs.lemmas.List.{length-map}
use Rattle.std.proofs.lemmas.Option.{slice_get-map, slice_get-get_or}
use Rattle.base_types.specs.declared.calls.Call.{Call}
use Rattle.base_types.specs.declared.calls.Origin.{Origin}
use Rattle.base_types.specs.declared.calls.Origin.TheVariants.{Line, Child}
use Rattle.base_types.specs.declared.calls.Outcome.{Outcome}
use Rattle.base_types.specs.declared.calls.Outcome.TheVariants as outcome
use Rattle.cell_model.proofs.Units.{filter-member, same_grain-true, same_grain-is}
use Rattle.commit_log.specs.Bodies.{IsCallIn}
use Rattle.commit_log.specs.Bodies as log
use Rattle.commit_log.specs.EncodableRecords.{IsNoAbort}
use Rattle.core_model.specs.CoreState.{UnitNo, GrainId, same_grain, Member, Value, Version, Write, Batch, CoreState}
use Rattle.core_model.specs.declared.effects.Effect.{Effect}
use Rattle.core_model.specs.declared.effects.Read.{Read}
use Rattle.core_model.specs.declared.phases.Phase.TheVariants.{Unborn, Finished}
use Rattle.core_model.specs.Answers.{effect_of}
use Rattle.core_model.specs.Chains.{WroteGrain}
use Rattle.core_model.specs.LegalRuns.{Run, begins, ends}
use Rattle.core_model.specs.ProperEntries.{NeverAborts}
use Rattle.core_model.specs.Settler.{to_commit, versions_to_write}
use Rattle.core_model.specs.Tests.{is_good, members, state_written}
use Rattle.core_laws.proofs.UnitPlays.{valid-ends}
use Rattle.core_laws.proofs.Numbers.{grown-run, in-kinds-ends, numbered-ends}
use Rattle.core_laws.proofs.LoadlessLaws.{holds-ends}
use Rattle.promise_laws.specs.Legality.{is_play, applied_run}
use Rattle.promise_laws.proofs.LegalRuns.{is_play-true, ends_alike, rule-plays}
use Rattle.promise_laws.proofs.UnitOrigins.{Led}
use Rattle.promise_laws.proofs.ToldRuns.{known-ends}
use Rattle.field_codec.specs.Units.{may_be_unit, HasParent}
use Rattle.field_codec.specs.declared.units.Numbers.TheVariants.{Logged}
use Rattle.grain_log.specs.Reads.{fields_of}
use Rattle.prepare_batch.specs.CoreWork.{WritesOnce, PlaysWriteOnce}
use Rattle.promise_spec.specs.Cores.{HasBegun}
use Rattle.base_types.specs.Origins.{depth_of}
use Rattle.promise_spec.specs.UnitRule.{Basis, KeepsUnitRule, IsPlayOf, played_by}
use Rattle.script_check.specs.AcceptedPrograms.{IsAcceptedProgram}
use Rattle.script_check.specs.Shapes.{type_shape, value_of}
use Rattle.script_meaning.specs.Laws.{IsOrderly, HasEachField, IsMissing, IsChild}
use Rattle.script_meaning.specs.Play.{Want, is_below}
use Rattle.script_meaning.specs.Trails.{states_of}
use Rattle.script_meaning.proofs.Lists.{pairs_first, pairs_rest}
use Rattle.script_meaning.proofs.Plays.{plays_are_orderly_lem, next_is_missing_lem}
use Rattle.script_tree.specs.Programs.{TypeTree, ProgramTree}
use Rattle.settler_rules.specs.LoggedUnits.{FitsFormat, FitsProgram, shape_with}
use Rattle.settler_rules.specs.Votes.{HasLeft, IsOfVote}
use Rattle.settler_rules.proofs.Calls.{all-member, HasMethod, call-in, few-args, child-method, line-method}
use Rattle.settler_rules.proofs.NextVote.{member-over, shown-left}

-- ---- plays

-- what a play is, whatever it is
orderly : (types : ProgramTree) (e : Effect) → IsOrderly types (depth_of e.origin) (played_by types e)
orderly types e = plays_are_orderly_lem types e.call (depth_of e.origin) (states_of (map (λ (r : Read). (r.grain, r.state)) e.reads)) e.answers

-- one write before another
abbrev pub IsBelow : Write → Write → Type 0
IsBelow one other = IsTrue (is_below one.0 other.0)

ascend : (types : ProgramTree) (e : Effect) → IsPlayOf types e → AllPairs IsBelow e.writes
ascend types e is = subst (AllPairs IsBelow) is.writes (orderly types e).ascending

not-below : (g : GrainId) → IsTrue (is_below g g) → ⊥
not-below g t = elim (or_cases (nat_lt g.kind g.kind) _ t) [
  | inl k ↦ (let less = ltb-true g.kind g.kind k in omega (arith, less))
  | inr y ↦ (let less = ltb-true g.key g.key (and_parts _ (nat_lt g.key g.key) y).1 in omega (arith, less))
]

once : (xs : List Write) → AllPairs IsBelow xs → WritesOnce xs
once [] pairs = tt
once (x ∷ xs) pairs = (
  (λ y m. false_from_ne_true (same_grain y.0 x.0) (λ e. not-below x.0 (subst (λ (g : GrainId). IsTrue (is_below x.0 g)) (same_grain-true y.0 x.0 e) (all-member (IsBelow x) xs y (pairs_first IsBelow x xs pairs) m)))),
  once xs (pairs_rest IsBelow x xs pairs),
)

pub write-once : (types : ProgramTree) → PlaysWriteOnce (is_play types)
write-once types e play = once e.writes (ascend types e (is_play-true types e play))

-- no play ends in an abort
pub never-aborts : (types : ProgramTree) → NeverAborts (is_play types)
never-aborts types e play q = (orderly types e).ended ((is_play-true types e play).result ∙ q)

-- ---- writes

written-in : (g : GrainId) (v : List Value) (xs : List Write) → state_written g xs ≡ Some v → Member (g, v) xs
written-in g v [] e = absurd cc
written-in g v (x ∷ xs) e = elim (cases_Bool (same_grain x.0 g)) [
  | inl t ↦ (
      let here : Some x.1 ≡ Some v = sym (ap (λ b. if b then Some x.1 else state_written g xs) t) ∙ e in
      let grain : x.0 ≡ g = same_grain-true x.0 g t in
      let state : x.1 ≡ v = value here in
      inl (λ i. (sym grain i, sym state i)))
  | inr f ↦ inr (written-in g v xs (sym (ap (λ b. if b then Some x.1 else state_written g xs) f) ∙ e))
]
  where
    of : Option (List Value) → List Value
    of None = v
    of (Some z) = z

    value : Some x.1 ≡ Some v → x.1 ≡ v
    value q = ap of q

-- what is written once is found
written-is : (x : Write) (xs : List Write) → WritesOnce xs → Member x xs → state_written x.0 xs ≡ Some x.1
written-is x [] w m = absurd m
written-is x (y ∷ ys) w (inl e) =
    ap (λ b. if b then Some y.1 else state_written x.0 ys) (same_grain-is y.0 x.0 (ap (λ (z : Write). z.0) (sym e))) ∙ ap (λ (z : Write). Some z.1) (sym e)
written-is x (y ∷ ys) w (inr m) =
    ap (λ b. if b then Some y.1 else state_written x.0 ys) (apart (w.0 x m)) ∙ written-is x ys w.1 m
  where
    apart : same_grain x.0 y.0 ≡ false → same_grain y.0 x.0 ≡ false
    apart f = false_from_ne_true (same_grain y.0 x.0) (λ t. false≢true (sym f ∙ same_grain-is x.0 y.0 (sym (same_grain-true y.0 x.0 t))))

-- ---- a run that keeps the unit rule

-- the kinds of grains are those of its beginning
pub kinds-are : (r : Run) → (ends r).units.kinds ≡ r.kinds
kinds-are r = (grown-run (begins r) r.events).1

module _ (s : Basis) (r : Run) (above : 0 < r.base) (keeps : KeepsUnitRule s r) where
  -- what a finished unit did is a play
  play-of : (u : UnitNo) → (ends r).units.phase u ≡ Finished → IsPlayOf s.types (effect_of (ends r) u)
  play-of u f =
      is_play-true s.types (effect_of (ends r) u)
      (subst (λ (w : CoreState). (v : UnitNo) → w.units.phase v ≡ Finished → is_play s.types (effect_of w v) ≡ true) (ends_alike r)
      (valid-ends (is_play s.types) (applied_run r) (rule-plays s r keeps)) u f)

  module _ (kinds : r.kinds ≡ length s.types) where
    of-type : (u : UnitNo) (g : GrainId) → WroteGrain (ends r).manager.writes u g → g.kind < length s.types
    of-type u g wrote =
        let low = (in-kinds-ends r).1 u g wrote in
        let same : (ends r).units.kinds ≡ length s.types = kinds-are r ∙ kinds in
        omega (arith, low, same)

    -- a version that a unit left has its type's fields
    left-fits : (u : UnitNo) (g : GrainId) (state : List Value) → HasLeft (ends r) u g state → fields_of (slice_get (shape_with s.types).types g.kind) ≡ Some (length state)
    left-fits u g state h =
        let e : Effect = effect_of (ends r) u in
        let is : IsPlayOf s.types e = play-of u h.0 in
        let whole : All (λ (x : Write). HasEachField s.types x.0 x.1) e.writes = subst (λ (xs : List Write). All (λ (x : Write). HasEachField s.types x.0 x.1) xs) is.writes (orderly s.types e).whole_states in
        let each : HasEachField s.types g state = all-member (λ (x : Write). HasEachField s.types x.0 x.1) e.writes (g, state) whole (written-in g state e.writes h.1) in
        let low : g.kind < length s.types = of-type u g (state, h.1) in
        let of : (t : TypeTree) × (slice_get s.types g.kind ≡ Some t) = there s.types g.kind low in
        ap fields_of (slice_get-map type_shape s.types g.kind ∙ ap (option_map type_shape) of.1)
        ∙ ap Some (fields-count of.0 ∙ sym (each of.0 of.1))
      where
        there : (types : List TypeTree) (k : ℕ) → k < length types → (t : TypeTree) × (slice_get types k ≡ Some t)
        there [] k low = absurd (omega (arith, low))
        there (t ∷ ts) k low = (get_or (t ∷ ts) k t, slice_get-get_or (t ∷ ts) k t low)

        fields-count : (t : TypeTree) → length (type_shape t).initial ≡ length t.fields
        fields-count t = length-map t.fields (λ f. value_of f.initial)

    -- so do all that are shown for a vote
    pub shown-fit : (g : GrainId) (x : Version) → Member x (versions_to_write (ends r) (ends r).manager.batch g) → fields_of (slice_get (shape_with s.types).types g.kind) ≡ Some (length x.state)
    shown-fit g x m = by_batch (ends r).manager.batch m
      where
        by_batch : (o : Option Batch) → Member x (versions_to_write (ends r) o g) → fields_of (slice_get (shape_with s.types).types g.kind) ≡ Some (length x.state)
        by_batch None n = absurd n
        by_batch (Some b) n = left-fits x.unit g x.state (shown-left r above b g x n)

  -- ---- units to commit

  -- a unit to commit has finished, and this is what it did
  record Committing (e : Effect) : Type 0 where
    unit : UnitNo
    over : (ends r).units.phase unit ≡ Finished
    is : e ≡ effect_of (ends r) unit

  mapped-from : (us : List UnitNo) (e : Effect) → Member e (map (effect_of (ends r)) us) → (u : UnitNo) × Member u us × (e ≡ effect_of (ends r) u)
  mapped-from [] e m = absurd m
  mapped-from (u ∷ us) e (inl q) = (u, inl refl, q)
  mapped-from (u ∷ us) e (inr m) = (let t = mapped-from us e m in (t.0, inr t.1, t.2))

  committing : (e : Effect) → Member e (to_commit (ends r) (ends r).manager.batch) → Committing e
  committing e m = by_batch (ends r).manager.batch m
    where
      by_batch : (o : Option Batch) → Member e (to_commit (ends r) o) → Committing e
      by_batch None n = absurd n
      by_batch (Some b) n =
          let t = mapped-from (filter (λ u. is_good ((ends r).manager.verdict u)) (members (ends r) b)) e n in
          record {
            unit = t.0;
            over = member-over r above b t.0 (filter-member (λ u. is_good ((ends r).manager.verdict u)) (members (ends r) b) t.0 t.1).0;
            is = t.2;
          }

  -- who has finished has begun
  begun : (u : UnitNo) → (ends r).units.phase u ≡ Finished → HasBegun (ends r) u
  begun u f b = (let z : Finished ≡ Unborn = sym f ∙ b in cc)

  -- who has begun has a number below the next
  below-next : (u : UnitNo) → HasBegun (ends r) u → u.0 < (ends r).units.next
  below-next u b = elim (cases_lt u.0 (ends r).units.next) [
    | inl low ↦ low
    | inr high ↦ absurd (b ((holds-ends r above).fresh u high))
  ]

  -- what led to a child names it
  led-child : (call : Call) (p : UnitNo) (i d : ℕ) (l : Led s.types (ends r) call p i d) → IsChild s.types (depth_of ((ends r).units.origin p)) (call, d)
  led-child call p i d l =
      (subst (λ (w : Want). IsMissing s.types (depth_of ((ends r).units.origin p)) l.trail w) l.named
      (next_is_missing_lem s.types ((ends r).units.call p) (depth_of ((ends r).units.origin p)) l.trail l.is)).0

  -- the call of a unit that has begun is one of the program
  method-of : IsAcceptedProgram s.types → (u : UnitNo) → HasBegun (ends r) u → HasMethod s.types ((ends r).units.call u)
  method-of p u b = by_origin ((ends r).units.origin u) refl
    where
      by_origin : (o : Origin) → (ends r).units.origin u ≡ o → HasMethod s.types ((ends r).units.call u)
      by_origin (Line n) q =
          let line = (known-ends s r above keeps).line u n b q in
          line-method s.types line.text ((ends r).units.call u) line.reads
      by_origin (Child parent index depth) q =
          child-method s.types (depth_of ((ends r).units.origin parent)) ((ends r).units.call u) depth p
          (led-child ((ends r).units.call u) parent index depth ((known-ends s r above keeps).led u parent index depth b q))

  module _ (few : (ends r).units.next ≤ 2 ^ 63) where
    unit-number : (u : UnitNo) → HasBegun (ends r) u → may_be_unit Logged u.0 ≡ true
    unit-number u b =
        let base = (numbered-ends r).1 u b in
        let low = below-next u b in
        let small : u.0 < 9223372036854775808 = omega (arith, low, few) in
        and_from (nat_lt 0 u.0) (nat_lt u.0 9223372036854775808) (lt-ltb 0 u.0 (omega (arith, base, above))) (lt-ltb u.0 9223372036854775808 small)

    parent-number : (u : UnitNo) → HasBegun (ends r) u → HasParent Logged ((ends r).units.origin u)
    parent-number u b = by_origin ((ends r).units.origin u) refl
      where
        by_origin : (o : Origin) → (ends r).units.origin u ≡ o → HasParent Logged o
        by_origin (Line n) q = tt
        by_origin (Child parent index depth) q =
            let low = below-next parent ((known-ends s r above keeps).led u parent index depth b q).parent in
            let small : parent.0 < 9223372036854775808 = omega (arith, low, few) in
            lt-ltb parent.0 9223372036854775808 small

    pub fits-program : r.kinds ≡ length s.types → IsAcceptedProgram s.types → (e : Effect) → Member e (to_commit (ends r) (ends r).manager.batch) → FitsProgram s.types e
    fits-program kinds p e m =
        let c = committing e m in
        let b = begun c.unit c.over in
        subst (FitsProgram s.types) (sym c.is)
        (record {
          unit = unit-number c.unit b;
          parent = parent-number c.unit b;
          call = call-in s.types ((ends r).units.call c.unit) (method-of p c.unit b);
          writes = all-types ((ends r).manager.writes c.unit) (λ x n. of-type kinds c.unit x.0 (found x ((ends r).manager.writes c.unit) n));
        })
      where
        found : (x : Write) (xs : List Write) → Member x xs → (v : List Value) × (state_written x.0 xs ≡ Some v)
        found x [] n = absurd n
        found x (y ∷ ys) n = elim (cases_Bool (same_grain y.0 x.0)) [
          | inl t ↦ (y.1, ap (λ b. if b then Some y.1 else state_written x.0 ys) t)
          | inr f ↦ elim n [
            | inl q ↦ absurd (false≢true (sym f ∙ same_grain-is y.0 x.0 (ap (λ (z : Write). z.0) (sym q))))
            | inr k ↦ (let t = found x ys k in (t.0, ap (λ b. if b then Some y.1 else state_written x.0 ys) f ∙ t.1))
          ]
        ]

        all-types : (xs : List Write) → ((x : Write) → Member x xs → x.0.kind < length s.types) → AllByRecursion (λ (x : Write). log.IsShapeType (shape_with s.types) x.0.kind) xs
        all-types [] each = tt
        all-types (x ∷ xs) each = (
          (let low = each x (inl refl) in let same = length-map s.types type_shape in omega (arith, low, same)),
          all-types xs (λ y n. each y (inr n)),
        )

  pub fits-format : IsAcceptedProgram s.types → (e : Effect) → Member e (to_commit (ends r) (ends r).manager.batch) → FitsFormat e
  fits-format p e m =
      let c = committing e m in
      let f : Effect = effect_of (ends r) c.unit in
      let is : IsPlayOf s.types f = play-of c.unit c.over in
      let o = orderly s.types f in
      subst FitsFormat (sym c.is)
      (record {
        args = few-args s.types f.call p (method-of p c.unit (begun c.unit c.over));
        answers = (let few = o.few_units in let same = is.asked in omega (arith, few, same));
        result = no-abort f.result (λ q. o.ended (is.result ∙ q));
        few = (let few = o.few_writes in let same = ap length is.writes in omega (arith, few, same));
        ascending = ascend s.types f is;
      })
    where
      no-abort : (x : Outcome) → (x ≡ outcome.Aborted → ⊥) → IsNoAbort x
      no-abort outcome.Aborted n = n refl
      no-abort (outcome.Value v) n = tt
      no-abort (outcome.Fault t) n = tt

  -- what a file has of it by a vote is what it wrote
  pub as-written : (e : Effect) → Member e (to_commit (ends r) (ends r).manager.batch) → (n : ℕ) (g : GrainId) (state : List Value) → IsOfVote (ends r) n e.unit g state → (x : Write) → Member x e.writes → g ≡ x.0 → state ≡ x.1
  as-written e m n g state vote x there q =
      let c = committing e m in
      let wrote : Member x ((ends r).manager.writes c.unit) = subst (λ (f : Effect). Member x f.writes) c.is there in
      let is : state_written x.0 ((ends r).manager.writes c.unit) ≡ Some x.1 =
      written-is x ((ends r).manager.writes c.unit) (once ((ends r).manager.writes c.unit) (ascend s.types (effect_of (ends r) c.unit) (play-of c.unit c.over))) wrote in
      let left : state_written g ((ends r).manager.writes c.unit) ≡ Some state = subst (λ (f : Effect). state_written g ((ends r).manager.writes f.unit) ≡ Some state) c.is vote.left.1 in
      value (sym left ∙ ap (λ (h : GrainId). state_written h ((ends r).manager.writes c.unit)) q ∙ is)
    where
      of : Option (List Value) → List Value
      of None = state
      of (Some z) = z

      value : Some state ≡ Some x.1 → state ≡ x.1
      value e = ap of e
