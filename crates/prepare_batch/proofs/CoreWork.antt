-- The work of what the core shows of its open batch is the core's.
use Rattle.std.proofs.Common.{◌≡◌, inl, inr, ℕ, Bool, true, false, not, List, [], ◌∷◌, ◌++◌, map, filter, cond, refl, sym, ◌∙◌, ap, subst, Option, Some, None}
use Rattle.std.specs.List.{flat_map}
use Rattle.std.proofs.lemmas.Bool.{cases_Bool}
use Rattle.cell_model.specs.Sources.{with_source, is_among}
use Rattle.cell_model.proofs.Units.{any-true, any-member, same_unit-true, same_unit-is, same_grain-true, filter-member, filter-stays}
use Rattle.cell_model.proofs.Sources.{with-has, with-keeps, with-only}
use Rattle.core_model.specs.CoreState.{UnitNo, GrainId, nobody, same_unit, same_grain, Member, Version, Write, Batch, CoreState}
use Rattle.core_model.specs.declared.effects.Read.{Read}
use Rattle.core_model.specs.declared.effects.Effect.{Effect}
use Rattle.core_model.specs.declared.phases.Verdict.{Verdict}
use Rattle.core_model.specs.declared.phases.Verdict.TheVariants.{Open, Chosen, Condemned, Committed, Aborted}
use Rattle.core_model.specs.Tests.{is_bad, is_aborted, members, has_bad_source, grains_of, grains_to_write, state_written}
use Rattle.core_model.specs.Answers.{as_set, aborted_sources, effect_of, view}
use Rattle.core_model.specs.Consistency.{DependenciesComeEarlier}
use Rattle.core_model.specs.LegalRuns.{Run, IsLegal, ends}
use Rattle.core_model.specs.Settler.{version_written, version_to_write, versions_to_write}
use Rattle.core_model.specs.ToldOutcomes.{IsSteady}
use Rattle.core_laws.proofs.Consistency.{consistent-ends}
use Rattle.core_laws.proofs.Ends.{kept-ends}
use Rattle.core_laws.proofs.Plans.{flat-member, member-flat, planned-ends}
use Rattle.core_laws.proofs.Reasons.{member-finished}
use Rattle.core_laws.proofs.LoadlessLaws.{holds-ends}
use Rattle.core_laws.proofs.SettlerSteps.{ended-ends}
use Rattle.prepare_batch.specs.Work.{reads_from, untouched, versions_on, work_of}
use Rattle.prepare_batch.specs.CoreWork.{WritesOnce, PlaysWriteOnce, core_work}

-- ---- tests

same_test : (a b : Bool) → (a ≡ true → b ≡ true) → (b ≡ true → a ≡ true) → a ≡ b
same_test true b to from = sym (to refl)
same_test false true to from = (let t : false ≡ true = from refl in t)
same_test false false to from = refl

aborted_is : (v : Verdict) → is_aborted v ≡ true → v ≡ Aborted
aborted_is Aborted e = refl
aborted_is Open e = absurd (cc e)
aborted_is Chosen e = absurd (cc e)
aborted_is Condemned e = absurd (cc e)
aborted_is Committed e = absurd (cc e)

-- who isn't judged in an open batch, and is bad, is aborted
steady_bad : (v : Verdict) → IsSteady v → is_bad v ≡ true → is_aborted v ≡ true
steady_bad Aborted s e = refl
steady_bad Open s e = absurd (cc e)
steady_bad Chosen s e = absurd (cc e)
steady_bad Committed s e = absurd (cc e)
steady_bad Condemned (inl q) e = absurd (cc q)
steady_bad Condemned (inr q) e = absurd (cc q)

set-only : (us : List UnitNo) (x : UnitNo) → Member x (as_set us) → Member x us
set-only [] x m = absurd m
set-only (u ∷ us) x m = elim (with-only (as_set us) u x m) [ inl e ↦ inl e | inr n ↦ inr (set-only us x n) ]

set-has : (us : List UnitNo) (x : UnitNo) → Member x us → Member x (as_set us)
set-has [] x m = absurd m
set-has (u ∷ us) x (inl e) = subst (λ (z : UnitNo). Member z (with_source (as_set us) u)) (sym e) (with-has (as_set us) u)
set-has (u ∷ us) x (inr m) = with-keeps (as_set us) u x (set-has us x m)

-- ---- who is left out

module _ (w : CoreState) (us : List UnitNo) (depends : DependenciesComeEarlier w) (steady : (u : UnitNo) → IsSteady (w.manager.verdict u)) where
  abbrev pub gone : List UnitNo
  gone = aborted_sources w us

  gone-only : (d : UnitNo) → Member d gone → (w.manager.verdict d ≡ Aborted) × (d ≡ nobody → ⊥)
  gone-only d m =
      let t = filter-member (λ x. is_aborted (w.manager.verdict x)) (flat_map (λ u. w.units.deps u) us) d (set-only (filter (λ x. is_aborted (w.manager.verdict x)) (flat_map (λ u. w.units.deps u) us)) d m) in
      let s = flat-member (λ u. w.units.deps u) us d t.0 in
      let r = depends.sources s.0 d s.2 in (aborted_is (w.manager.verdict d) t.1, r.3)

  gone-has : (u d : UnitNo) → Member u us → Member d (w.units.deps u) → is_aborted (w.manager.verdict d) ≡ true → Member d gone
  gone-has u d m n e =
      set-has (filter (λ x. is_aborted (w.manager.verdict x)) (flat_map (λ u. w.units.deps u) us)) d
      (filter-stays (λ x. is_aborted (w.manager.verdict x)) (flat_map (λ u. w.units.deps u) us) d (member-flat (λ u. w.units.deps u) us d u m n) e)

  from_reads : (u : UnitNo) → reads_from gone (effect_of w u) ≡ true → has_bad_source w u ≡ true
  from_reads u e =
      let t = any-true (λ (r : Read). is_among gone r.source) (w.units.reads u) e in
      let s = any-true (λ x. same_unit x t.0.source) gone t.2 in
      let is : s.0 ≡ t.0.source = same_unit-true s.0 t.0.source s.2 in
      let bad = gone-only s.0 s.1 in
      let aborted : w.manager.verdict t.0.source ≡ Aborted = ap w.manager.verdict (sym is) ∙ bad.0 in
      elim (depends.others u t.0 t.1) [
        | inl q ↦ absurd (bad.1 (is ∙ q))
        | inr (inl q) ↦ absurd (let z : Committed ≡ Aborted = sym q ∙ aborted in cc)
        | inr (inr m) ↦ any-member (λ d. is_bad (w.manager.verdict d)) (w.units.deps u) t.0.source m (ap is_bad aborted)
      ]

  to_reads : (u : UnitNo) → Member u us → has_bad_source w u ≡ true → reads_from gone (effect_of w u) ≡ true
  to_reads u m e =
      let t = any-true (λ d. is_bad (w.manager.verdict d)) (w.units.deps u) e in
      let r = depends.sources u t.0 t.1 in
      let there : Member r.0.source gone = subst (λ (z : UnitNo). Member z gone) (sym r.2) (gone-has u t.0 m t.1 (steady_bad (w.manager.verdict t.0) (steady t.0) t.2)) in
      any-member (λ (r : Read). is_among gone r.source) (w.units.reads u) r.0 r.1 (any-member (λ x. same_unit x r.0.source) gone r.0.source there (same_unit-is r.0.source r.0.source refl))

  -- a unit is left out of the work exactly where the core leaves it out
  pub left_out : (u : UnitNo) → Member u us → reads_from gone (effect_of w u) ≡ has_bad_source w u
  left_out u m = same_test (reads_from gone (effect_of w u)) (has_bad_source w u) (from_reads u) (to_reads u m)

-- ---- what they wrote

none_there : (u : UnitNo) (g : GrainId) (x : Write) (xs : List Write) → same_grain x.0 g ≡ true → ((y : Write) → Member y xs → same_grain y.0 x.0 ≡ false) → filter (λ (y : Write). same_grain y.0 g) xs ≡ []
none_there u g x [] here each = refl
none_there u g x (y ∷ ys) here each =
    ap (λ t. cond t (y ∷ filter (λ (z : Write). same_grain z.0 g) ys) (filter (λ (z : Write). same_grain z.0 g) ys))
    (ap (same_grain y.0) (sym (same_grain-true x.0 g here)) ∙ each y (inl refl))
    ∙ none_there u g x ys here (λ z m. each z (inr m))

one_version : (u : UnitNo) (g : GrainId) (xs : List Write) → WritesOnce xs → map (λ (x : Write). record { unit = u; state = x.1 }) (filter (λ (x : Write). same_grain x.0 g) xs) ≡ version_written u (state_written g xs)
one_version u g [] once = refl
one_version u g (x ∷ xs) once = elim (cases_Bool (same_grain x.0 g)) [
  | inl e ↦
      ap (λ t. map made (cond t (x ∷ filter is_on xs) (filter is_on xs))) e
      ∙ ap (λ (l : List Write). made x ∷ map made l) (none_there u g x xs e once.0)
      ∙ sym (ap (λ t. version_written u (cond t (Some x.1) (state_written g xs))) e)
  | inr e ↦
      ap (λ t. map made (cond t (x ∷ filter is_on xs) (filter is_on xs))) e
      ∙ one_version u g xs once.1
      ∙ sym (ap (λ t. version_written u (cond t (Some x.1) (state_written g xs))) e)
]
  where
    made : Write → Version
    made x = record { unit = u; state = x.1 }

    is_on : Write → Bool
    is_on x = same_grain x.0 g

module _ (w : CoreState) (gone : List UnitNo) where
  all_grains : (us : List UnitNo) → ((u : UnitNo) → Member u us → reads_from gone (effect_of w u) ≡ has_bad_source w u)
      → flat_map (λ e. map (λ (x : Write). x.0) e.writes) (untouched gone (map (effect_of w) us)) ≡ flat_map (grains_to_write w) us
  all_grains [] same = refl
  all_grains (u ∷ us) same =
      ap (λ t. flat_map (λ e. map (λ (x : Write). x.0) e.writes) (cond (not t) (effect_of w u ∷ rest) rest)) (same u (inl refl))
      ∙ by_test (all_grains us (λ x m. same x (inr m))) (has_bad_source w u)
    where
      rest : List Effect
      rest = untouched gone (map (effect_of w) us)

      by_test : flat_map (λ e. map (λ (x : Write). x.0) e.writes) rest ≡ flat_map (grains_to_write w) us → (t : Bool) → flat_map (λ e. map (λ (x : Write). x.0) e.writes) (cond (not t) (effect_of w u ∷ rest) rest) ≡ cond t [] (map (λ (x : Write). x.0) (w.manager.writes u)) ++ flat_map (grains_to_write w) us
      by_test more true = more
      by_test more false = ap (λ l. map (λ (x : Write). x.0) (w.manager.writes u) ++ l) more

  all_versions : (g : GrainId) (us : List UnitNo) → ((u : UnitNo) → Member u us → reads_from gone (effect_of w u) ≡ has_bad_source w u) → ((u : UnitNo) → Member u us → WritesOnce (w.manager.writes u))
      → versions_on g (untouched gone (map (effect_of w) us)) ≡ flat_map (version_to_write w g) us
  all_versions g [] same once = refl
  all_versions g (u ∷ us) same once =
      ap (λ t. versions_on g (cond (not t) (effect_of w u ∷ rest) rest)) (same u (inl refl))
      ∙ by_test (all_versions g us (λ x m. same x (inr m)) (λ x m. once x (inr m))) (has_bad_source w u)
    where
      rest : List Effect
      rest = untouched gone (map (effect_of w) us)

      by_test : versions_on g rest ≡ flat_map (version_to_write w g) us → (t : Bool) → versions_on g (cond (not t) (effect_of w u ∷ rest) rest) ≡ cond t [] (version_written u (state_written g (w.manager.writes u))) ++ flat_map (version_to_write w g) us
      by_test more true = more
      by_test more false = λ i. one_version u g (w.manager.writes u) (once u (inl refl)) i ++ more i

-- ---- the core's work

pub core-work : (plays : Effect → Bool) (r : Run) → IsLegal plays r → PlaysWriteOnce plays → (b : Batch) → (ends r).manager.batch ≡ Some b → b.decisions ≡ None
    → (at : GrainId → ℕ) → work_of at (untouched (view (ends r) b).aborted (view (ends r) b).effects) ≡ core_work at (ends r) b
core-work plays r l once b q undecided at =
    (λ i. map (λ g. record { grain = g; at = at g; versions = all_versions w (aborted_sources w us) g us out write_once i }) (grains_of (all_grains w (aborted_sources w us) us out i)))
    ∙ ap (map (λ g. record { grain = g; at = at g; versions = versions_to_write w (Some b) g })) (sym (planned-ends plays r l b q undecided))
  where
    w : CoreState
    w = ends r

    us : List UnitNo
    us = members w b

    facts : DependenciesComeEarlier w
    facts = (consistent-ends plays r l).dependencies_come_earlier

    calm : w.manager.doubt ≡ None
    calm = go w.manager.doubt refl
      where
        go : (o : Option ℕ) → w.manager.doubt ≡ o → w.manager.doubt ≡ None
        go None d = d
        go (Some n) d = absurd (let z : None ≡ Some b = sym (ended-ends r n d) ∙ q in cc)

    is_open : (c : Batch) → w.manager.batch ≡ Some c → c.decisions ≡ None
    is_open c z = subst (λ (x : Batch). x.decisions ≡ None) (some-is (sym q ∙ z)) undecided
      where
        of : Batch → Option Batch → Batch
        of d None = d
        of d (Some x) = x

        some-is : Some b ≡ Some c → b ≡ c
        some-is e = ap (of b) e

    out : (u : UnitNo) → Member u us → reads_from (aborted_sources w us) (effect_of w u) ≡ has_bad_source w u
    out = left_out w us facts (((holds-ends r l.above).judged calm).undecided is_open)

    write_once : (u : UnitNo) → Member u us → WritesOnce (w.manager.writes u)
    write_once u m = once (effect_of w u) ((consistent-ends plays r l).effects_are_plays u (member-finished r.opening w b (kept-ends plays r l) u m))
