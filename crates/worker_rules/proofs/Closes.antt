-- What follows of a closed core.
use Rattle.std.proofs.Common.{◌≡◌, ◌⊎◌, inl, inr, ⊎_elim, ℕ, ◌≤◌, ◌<◌, List, [], ◌∷◌, true, false, refl, sym, ap, ◌∙◌, subst, arith}
use Rattle.std.proofs.lemmas.Bool.{cases_Bool}
use Rattle.base_types.specs.Lists.{Member}
use Rattle.core_model.specs.LockAnswers.{IsGoing}
use Rattle.core_model.specs.CoreState.{UnitNo}
use Rattle.core_model.specs.declared.events.CoreEvent.TheVariants.{Halt}
use Rattle.core_model.specs.declared.events.CoreReply.TheVariants.{Began}
use Rattle.core_model.specs.LegalRuns.{Run, ends}
use Rattle.core_model.specs.Lines.{IsSettled}
use Rattle.core_model.specs.Tests.{is_over, is_free}
use Rattle.core_laws.proofs.BatchPrefix.{unfree-holds}
use Rattle.promise_spec.specs.Cores.{HasBegun}
use Rattle.promise_spec.specs.UnitRule.{Basis, KeepsUnitRule}
use Rattle.turn_cell.specs.History.{entries_of}
use Rattle.turn_cell.proofs.Histories.{in_entries}
use Rattle.turn_rules.specs.NextEvent.{is_begin, is_own, MayCome}
use Rattle.turn_rules.specs.QuietRun.{IsQuiet}
use Rattle.core_access.specs.Histories.{Told, run_after}
use Rattle.core_access.specs.Sights.{Sight, saw, AllPass, Counts, IsAlone}
use Rattle.core_access.proofs.Entries.{run-on}
use Rattle.core_access.proofs.Sights.{saw-before, saw-harmless}
use Rattle.worker_rules.specs.UnitOwnership.{leaves_unit, KeepsPromise}
use Rattle.worker_rules.specs.SharedHistories.{AllPromise, Keeps}
use Rattle.worker_rules.specs.Work.{is_work, OnlyWorks}
use Rattle.worker_rules.proofs.Numbers.{began-above}
use Rattle.worker_rules.proofs.OwnEntries.{of-log}
use Rattle.worker_rules.proofs.CallPromises.{leaves-is}
use Rattle.worker_rules.proofs.WholeHistories.{all-ruled, alone-with}
use Rattle.worker_rules.specs.JoinedPasses.{sight_by, Knew, WasShown}
use Rattle.worker_rules.specs.ClosedCore.{IsClosed, PutsNothing, SettlesOrStops, IsOverAndFree, AreOverAndFree, HasBegunLines}
use Rattle.worker_rules.proofs.JoinedPasses.{knew-less}
use Rattle.worker_rules.proofs.Growth.{going-before, lines-after}
use Rattle.worker_rules.proofs.JoinedHistories.{Story, story-rest, story-end, begun-after, reply-there, none-began, settles-no-begin, done-after}
use Rattle.core_laws.proofs.LoadlessKept.{loadless-ends}

-- less is known
abbrev pub closed-less : (Own Own' Their Their' : Sight → Type 0) → ((s : Sight) → Own s → Own' s) → ((s : Sight) → Their s → Their' s) → (first last : Run) → IsClosed Own Their first last → IsClosed Own' Their' first last
closed-less Own Own' Their Their' own their first last c = record {
  log = c.log;
  legal = c.legal;
  left = c.left;
  own = knew-less Own Own' own first [] c.log (entries_of [] c.log) c.own;
  theirs = λ x i. ⊎_elim inl (λ k. inr (knew-less Their Their' their first x.by c.log (entries_of x.by c.log) k)) (c.theirs x i);
}

-- ---- the unit rule

module _ (b : Basis) (first : Run) (log : List Told) where
  keeps-of : (n : List ℕ) → Knew (KeepsPromise b) first n log (entries_of n log) → Keeps (MayCome b) first log n (entries_of n log)
  keeps-of n k = record { seen = k.shown; begins = k.begins; promise = k.holds }

  -- each pass keeps its promise
  pub all-promise : (own : Knew (KeepsPromise b) first [] log (entries_of [] log)) → ((x : Told) → Member x log → (x.by ≡ []) ⊎ Knew (KeepsPromise b) first x.by log (entries_of x.by log))
      → AllPromise (MayCome b) first log
  all-promise own theirs x i = (
    entries_of x.by log,
    refl,
    ⊎_elim
        (λ (t : x.by ≡ []). subst (λ (n : List ℕ). Keeps (MayCome b) first log n (entries_of n log)) (sym t) (keeps-of [] own))
        (λ k. keeps-of x.by k)
        (theirs x i),
  )

module _ (b : Basis) (first last : Run) (c : IsClosed (KeepsPromise b) (KeepsPromise b) first last) where
  -- so the whole history is one of the unit rule
  pub closed-promise : AllPromise (MayCome b) first c.log
  closed-promise = all-promise b first c.log c.own c.theirs

  pub closed-story : 0 < first.base → KeepsUnitRule b first → Story b first c.log
  closed-story above rule = record { above = above; rule = rule; ruled = all-ruled (MayCome b) first c.log c.legal closed-promise; legal = c.legal }

  pub closed-rule : 0 < first.base → KeepsUnitRule b first → KeepsUnitRule b last
  closed-rule above rule = subst (KeepsUnitRule b) (sym c.left) (story-end b c.log first (closed-story above rule))

-- ---- the one who settles

module _ (first last : Run) (c : IsClosed Counts (λ s. OnlyWorks s.mine) first last) where
  -- he was alone with that
  pub settles-alone : IsAlone is_work (sight_by first [] c.log (entries_of [] c.log))
  settles-alone = record {
    others = λ x i. ⊎_elim inl (λ k. inr (k.holds x (in_entries c.log x.by x refl i))) (c.theirs x i);
    own = refl;
  }

  -- what he saw, and what came behind it
  pub seen-last : Sight
  seen-last = sight_by first [] c.own.shown (entries_of [] c.log)

  abbrev pub came-last : List Told
  came-last = c.own.begins.0

  whole-is : sight_by first [] c.log (entries_of [] c.log) ≡ saw (sight_by first [] c.own.shown (entries_of [] c.log)) came-last
  whole-is = ap (λ (l : List Told). sight_by first [] l (entries_of [] c.log)) c.own.begins.1

  alone-there : IsAlone is_work (saw (sight_by first [] c.own.shown (entries_of [] c.log)) came-last)
  alone-there = subst (IsAlone is_work) whole-is settles-alone

  -- so he was alone by then
  pub settles-before : IsAlone is_work (sight_by first [] c.own.shown (entries_of [] c.log))
  settles-before = saw-before is_work (sight_by first [] c.own.shown (entries_of [] c.log)) came-last c.own.holds alone-there

  -- and only workers' events came since
  pub works-since : AllPass is_work came-last
  works-since = saw-harmless is_work (sight_by first [] c.own.shown (entries_of [] c.log)) came-last c.own.holds alone-there

  pub last-since : last ≡ run_after (run_after first c.own.shown) came-last
  last-since = c.left ∙ (ap (run_after first) c.own.begins.1 ∙ run-on c.own.shown came-last first)

-- ---- the units

-- who is settled and holds nothing is done
pub quiet-done : (r : Run) (u : UnitNo) → IsQuiet (ends r) → HasBegun (ends r) u → IsOverAndFree u r
quiet-done r u q born going = (over (q.settled u born), free)
  where
    over : IsSettled (ends r) u → is_over ((ends r).units.phase u) ≡ true
    over (inl p) = ap is_over p
    over (inr (inl p)) = ap is_over p
    over (inr (inr p)) = ap is_over p.0

    free : is_free (ends r) u ≡ true
    free = elim (cases_Bool (is_free (ends r) u)) [
      | inl a ↦ a
      | inr a ↦ (let t = unfree-holds (ends r) u a in absurd (q.free u t.0 t.1.0 t.1.1 t.1.2))
    ]

module _ (b : Basis) (first last : Run) (c : IsClosed (λ s. SettlesOrStops s.mine × KeepsPromise b s) (λ s. KeepsPromise b s × AreOverAndFree s) first last)
    (above : 0 < first.base) (rule : KeepsUnitRule b first) (before : (u : UnitNo) → HasBegun (ends first) u → IsOverAndFree u first) where
  abbrev promises : IsClosed (KeepsPromise b) (KeepsPromise b) first last
  promises = closed-less _ (KeepsPromise b) _ (KeepsPromise b) (λ s p. p.1) (λ s p. p.0) first last c

  all : AllPromise (MayCome b) first c.log
  all = closed-promise b first last promises

  story : Story b first c.log
  story = closed-story b first last promises above rule

  -- no event is of a unit that began before
  old-others : (u : UnitNo) → HasBegun (ends first) u → (x : Told) → Member x c.log → is_own u x.event ≡ false
  old-others u born x i = elim (cases_Bool (is_own u x.event)) [
    | inr o ↦ o
    | inl o ↦ (
        let p = all x i in
        let y = p.2.promise.owns x u (subst (Member x) p.1 (in_entries c.log x.by x refl i)) o in
        let there = of-log x.by c.log y.0 (subst (Member y.0) (sym p.1) y.1) in
        let high = began-above c.log first y.0 u c.legal there.0 y.2 in
        absurd (born ((loadless-ends first above).0.unborn u high)))
  ]

  -- the one who settles begins none
  settler-begins : (u : UnitNo) (x : Told) → Member x c.log → x.by ≡ [] → x.reply ≡ Began u → ⊥
  settler-begins u x i is q =
      let there = reply-there c.log first x c.legal i in
      ⊎_elim
      (λ s. none-began there.0 x.event u (settles-no-begin x.event s) (sym there.1 ∙ q))
      (λ (s : x.event ≡ Halt). none-began there.0 x.event u (ap is_begin s) (sym there.1 ∙ q))
      (c.own.holds.0 x (in_entries c.log [] x (sym is) i))

  -- a unit that a worker began is done
  worker-done : (u : UnitNo) (x : Told) → Member x c.log → x.reply ≡ Began u → Knew (λ s. KeepsPromise b s × AreOverAndFree s) first x.by c.log (entries_of x.by c.log) → IsOverAndFree u (run_after first c.log)
  worker-done u x i q k =
      let mine : List Told = entries_of x.by c.log in
      let s : Sight = sight_by first x.by k.shown mine in
      let here : Member x mine = in_entries c.log x.by x refl i in
      let whole : IsAlone (leaves_unit u) (sight_by first x.by c.log mine) = alone-with (MayCome b) first c.log c.legal all x.by mine u refl x here q in
      let there : IsAlone (leaves_unit u) (saw (sight_by first x.by k.shown mine) k.begins.0) = subst (λ (l : List Told). IsAlone (leaves_unit u) (sight_by first x.by l mine)) k.begins.1 whole in
      let now : IsOverAndFree u (run_after first k.shown) = k.holds.1 u (x, here, q) (saw-before (leaves_unit u) (sight_by first x.by k.shown mine) k.begins.0 k.holds.0.some there) in
      let since = saw-harmless (leaves_unit u) (sight_by first x.by k.shown mine) k.begins.0 k.holds.0.some there in
      let rest : Story b (run_after first k.shown) k.begins.0 = story-rest b k.shown k.begins.0 first (subst (Story b first) k.begins.1 story) in
      let last-is : run_after first c.log ≡ run_after (run_after first k.shown) k.begins.0 = ap (run_after first) k.begins.1 ∙ run-on k.shown k.begins.0 first in
      subst (IsOverAndFree u) (sym last-is) (done-after b k.begins.0 (run_after first k.shown) u rest (λ y j. leaves-is u y.event (since y j)) now)

  -- so is each unit
  pub closed-done : (u : UnitNo) → HasBegun (ends last) u → IsOverAndFree u last
  closed-done u born = subst (IsOverAndFree u) (sym c.left) (elim (begun-after b c.log first u story (subst (λ (r : Run). HasBegun (ends r) u) c.left born)) [
    | inl old ↦ done-after b c.log first u story (old-others u old) (before u old)
    | inr y ↦ ⊎_elim
        (λ t. absurd (settler-begins u y.0 y.1 t y.2))
        (λ k. worker-done u y.0 y.1 y.2 k)
        (c.theirs y.0 y.1)
  ])

-- ---- lines, and a history of nothing

-- as many lines have begun as had when a worker looked
pub closed-lines : (first : Run) (log : List Told) (lines : ℕ) → WasShown (HasBegunLines lines) first log → HasBegunLines lines (run_after first log)
closed-lines first log lines k going =
    let last-is : run_after first log ≡ run_after (run_after first k.0) k.1.0 = ap (run_after first) k.1.1 ∙ run-on k.0 k.1.0 first in
    let then-on = subst (λ (r : Run). IsGoing (ends r)) last-is going in
    let some : lines ≤ (ends (run_after first k.0)).units.lines = k.2 (going-before k.1.0 (run_after first k.0) then-on) in
    let more = lines-after k.1.0 (run_after first k.0) in
    let same = ap (λ (r : Run). (ends r).units.lines) last-is in
    omega (arith, some, more, same)

-- where no pass put anything the run is the first one
pub closed-same : (first last : Run) → IsClosed PutsNothing PutsNothing first last → last ≡ first
closed-same first last c = c.left ∙ ap (run_after first) (none c.log refl)
  where
    none : (l : List Told) → c.log ≡ l → l ≡ []
    none [] q = refl
    none (x ∷ l) q =
        let i : Member x c.log = subst (Member x) (sym q) (inl refl) in
        absurd (⊎_elim
        (λ t. subst (Member x) c.own.holds (in_entries c.log [] x (sym t) i))
        (λ k. subst (Member x) k.holds (in_entries c.log x.by x refl i))
        (c.theirs x i))
