-- Where each pass keeps its promise, the whole history keeps the rule.
use Rattle.std.proofs.Common.{◌≡◌, ◌⊎◌, inl, inr, ℕ, List, [], ◌∷◌, Bool, true, false, refl, sym, ap, ◌∙◌, subst}
use Rattle.base_types.specs.Lists.{Member}
use Rattle.core_model.specs.CoreState.{UnitNo}
use Rattle.core_model.specs.declared.events.CoreEvent.{CoreEvent}
use Rattle.core_model.specs.declared.events.CoreReply.TheVariants.{Began}
use Rattle.core_model.specs.LegalRuns.{Run}
use Rattle.core_access.specs.Sights.{IsAlone}
use Rattle.turn_cell.specs.History.{entries_of, same_number}
use Rattle.turn_cell.proofs.Names.{decide, same_else}
use Rattle.turn_cell.proofs.Lists.{in_left, in_right}
use Rattle.turn_cell.proofs.Histories.{in_entries}
use Rattle.turn_rules.specs.NextEvent.{with_event, is_own}
use Rattle.worker_rules.specs.SharedHistories.{Told, run_after, IsTrue, AllPromise, IsRuled}
use Rattle.worker_rules.specs.UnitOwnership.{leaves_unit}
use Rattle.worker_rules.proofs.Numbers.{begins-once}
use Rattle.worker_rules.proofs.CallPromises.{is-harmless}
use Rattle.worker_rules.proofs.OwnEntries.{of-log, due-whole}

-- equal numbers are one
same-is : (a b : List ℕ) → same_number a b ≡ true → a ≡ b
same-is a b e = by (decide a b)
  where
    by : Dec (a ≡ b) → a ≡ b
    by (yes is) = is
    by (no ne) = absurd (let t : true ≡ false = sym e ∙ same_else a b ne in cc)

module _ (Due : Run → CoreEvent → Type 0) (first : Run) (log : List Told) (legal : IsTrue first log) (all : AllPromise Due first log) where
  -- all events of one unit are by one pass
  one-number : (e f : Told) (u : UnitNo) → Member e log → Member f log → is_own u e.event ≡ true → is_own u f.event ≡ true → f.by ≡ e.by
  one-number e f u i j own own' =
      let p = all e i in
      let q = all f j in
      let b = p.2.promise.owns e u (subst (Member e) p.1 (here e i)) own in
      let c = q.2.promise.owns f u (subst (Member f) q.1 (here f j)) own' in
      let x = of-log e.by log b.0 (subst (Member b.0) (sym p.1) b.1) in
      let y = of-log f.by log c.0 (subst (Member c.0) (sym q.1) c.1) in
      let same : b.0 ≡ c.0 = begins-once log first b.0 c.0 u legal x.0 y.0 b.2 c.2 in
      let m : e.by ≡ b.0.by = same-is e.by b.0.by x.1 in
      let n : f.by ≡ c.0.by = same-is f.by c.0.by y.1 in
      n ∙ (ap (λ (z : Told). z.by) (sym same) ∙ sym m)
    where
      here : (g : Told) → Member g log → Member g (entries_of g.by log)
      here g h = in_entries log g.by g refl h

  -- so each event is due at its place
  pub all-ruled : IsRuled Due first log
  all-ruled before e rest q =
      let i : Member e log = subst (Member e) (sym q) (in_right e before (e ∷ rest) (inl refl)) in
      let p = all e i in
      due-whole Due first e.by log p.0 p.2 p.1 before e rest q refl
      (λ u own f j. let k = subst (Member f) (sym q) (in_left f before (e ∷ rest) j) in (λ own'. one-number e f u i k own own'))

  -- one who began a unit is alone with it
  pub alone-with : (number : List ℕ) (mine : List Told) (u : UnitNo) → entries_of number log ≡ mine → (y : Told) → Member y mine → y.reply ≡ Began u
      → IsAlone (leaves_unit u) (record { first = first; number = number; seen = log; mine = mine })
  alone-with number mine u is y j began = record {
    others = λ x i. by x i (is_own u x.event) refl;
    own = is;
  }
    where
      by : (x : Told) → Member x log → (o : Bool) → is_own u x.event ≡ o → (x.by ≡ number) ⊎ (leaves_unit u x.event ≡ true)
      by x i true own =
          let p = all x i in
          let b = p.2.promise.owns x u (subst (Member x) p.1 (in_entries log x.by x refl i)) own in
          let there = of-log x.by log b.0 (subst (Member b.0) (sym p.1) b.1) in
          let here = of-log number log y (subst (Member y) (sym is) j) in
          let same : b.0 ≡ y = begins-once log first b.0 y u legal there.0 here.0 b.2 began in
          inl (same-is x.by b.0.by there.1 ∙ (ap (λ (z : Told). z.by) same ∙ sym (same-is number y.by here.1)))
      by x i false own = inr (is-harmless u x.event own)

-- what the first run keeps, and each event that is due keeps, the last run keeps
pub rule-on : (Due : Run → CoreEvent → Type 0) (Rule : Run → Type 0) → ((r : Run) (e : CoreEvent) → Rule r → Due r e → Rule (with_event r e)) → (first : Run) (log : List Told) → IsRuled Due first log → Rule first → Rule (run_after first log)
rule-on Due Rule more first [] ruled k = k
rule-on Due Rule more first (e ∷ log) ruled k =
    rule-on Due Rule more (with_event first e.event) log (λ before f rest q. ruled (e ∷ before) f rest (λ j. e ∷ q j))
    (more first e.event k (ruled [] e log refl))
