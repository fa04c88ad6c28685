-- What may be relied on of what was seen may be relied on of what was seen before.
use Rattle.std.proofs.Common.{◌≡◌, ◌⊎◌, ℕ, ◌<◌, ◌≤◌, ◌^◌, List, [], ◌∷◌, ◌++◌, length, Bool, true, false, refl, sym, ap, ◌∙◌, subst, arith, length-append, append-nil, append_assoc}
use Rattle.base_types.specs.Lists.{Member}
use Rattle.core_model.specs.LegalRuns.{Run, ends}
use Rattle.core_model.specs.declared.events.CoreEvent.{CoreEvent}
use Rattle.core_model.specs.declared.events.CoreReply.{CoreReply}
use Rattle.turn_cell.specs.History.{entries_of, entry}
use Rattle.turn_cell.proofs.Lists.{in_left}
use Rattle.core_access.specs.Histories.{Told, run_after}
use Rattle.core_access.specs.Sights.{Sight, run_seen, Looks, Tells, Counts, IsAlone}
use Rattle.core_access.proofs.Entries.{entries-append, entries-single, run-on}
use Rattle.worker_rules.specs.Work.{is_work}
use Rattle.promise_spec.specs.UnitRule.{KeepsUnitRule}
use Rattle.run_books.specs.Beginnings.{Outset, basis_of}
use Rattle.run_books.specs.SharedSteps.{MayRely, SeesOn}
use Rattle.run_books.proofs.Fronts.{after-units, after-going, after-next, after-lines}

-- two lists in a row are those whose first is as long
front-same : (a b c d : List Told) → a ++ b ≡ c ++ d → length c ≡ length a → a ≡ c
front-same [] b [] d q l = refl
front-same [] b (y ∷ c) d q l = absurd (omega (arith, l))
front-same (x ∷ a) b [] d q l = absurd (omega (arith, l))
front-same (x ∷ a) b (y ∷ c) d q l =
    let same : x ≡ y = cc in
    let rest : a ++ b ≡ c ++ d = cc in
    let t = front-same a b c d rest (omega (arith, l)) in
    λ i. same i ∷ t i

-- ---- what was seen on

-- nothing more
pub sees-none : (s : Sight) → SeesOn s s
sees-none s = record {
  first = refl;
  number = refl;
  rest = [];
  seen = sym (append-nil s.seen);
  own = [];
  mine = sym (append-nil s.mine);
  counts = omega arith;
}

-- by a look
abbrev pub sees-look : (may : CoreEvent → Bool) (s t : Sight) → Looks may s t → SeesOn s t
sees-look may s t l = record {
  first = ap (λ (x : Sight). x.first) l.sight;
  number = ap (λ (x : Sight). x.number) l.sight;
  rest = l.rest;
  seen = ap (λ (x : Sight). x.seen) l.sight;
  own = [];
  mine = ap (λ (x : Sight). x.mine) l.sight ∙ sym (append-nil s.mine);
  counts = omega arith;
}

-- by an event that was put
pub sees-tell : (may : CoreEvent → Bool) (s t : Sight) (e : CoreEvent) (r : CoreReply) → Tells may s e r t → SeesOn s t
sees-tell may s t e r l =
    let new : Told = entry s.number e r in
    let count = ap (length {A = Told}) (entries-append s.number l.rest (new ∷ []) ∙ ap (λ (x : List Told). entries_of s.number l.rest ++ x) (entries-single s.number e r)) in
    record {
      first = ap (λ (x : Sight). x.first) l.sight;
      number = ap (λ (x : Sight). x.number) l.sight;
      rest = l.rest ++ new ∷ [];
      seen = ap (λ (x : Sight). x.seen) l.sight ∙ append_assoc s.seen l.rest (new ∷ []);
      own = new ∷ [];
      mine = ap (λ (x : Sight). x.mine) l.sight;
      counts = omega (arith, count, length-append (entries_of s.number l.rest) (new ∷ []));
    }

-- one after another
pub sees-both : (s t u : Sight) → SeesOn s t → SeesOn t u → SeesOn s u
sees-both s t u a b =
    let more : length b.own ≤ length (entries_of s.number b.rest) = subst (λ (n : List ℕ). length b.own ≤ length (entries_of n b.rest)) a.number b.counts in
    let c = a.counts in
    let both = ap (length {A = Told}) (entries-append s.number a.rest b.rest) in
    record {
      first = b.first ∙ a.first;
      number = b.number ∙ a.number;
      rest = a.rest ++ b.rest;
      seen = b.seen ∙ ap (λ (x : List Told). x ++ b.rest) a.seen ∙ append_assoc s.seen a.rest b.rest;
      own = a.own ++ b.own;
      mine = b.mine ∙ ap (λ (x : List Told). x ++ b.own) a.mine ∙ append_assoc s.mine a.own b.own;
      counts = omega (arith, c, more, both, length-append a.own b.own, length-append (entries_of s.number a.rest) (entries_of s.number b.rest));
    }

module _ (s t : Sight) (on : SeesOn s t) where
  -- the run goes on
  pub run-sees : run_seen t ≡ run_after (run_seen s) on.rest
  run-sees = (λ i. run_after (on.first i) (on.seen i)) ∙ run-on s.seen on.rest s.first

  -- what was put stays among what was seen
  pub counts-on : Counts s → Counts t
  counts-on c =
      let k : length s.mine ≤ length (entries_of s.number s.seen) = c in
      let here = on.counts in
      let a = ap (length {A = Told}) (entries-append s.number s.seen on.rest) in
      let l : length (s.mine ++ on.own) ≤ length (entries_of s.number (s.seen ++ on.rest)) =
      omega (arith, k, here, a, length-append s.mine on.own, length-append (entries_of s.number s.seen) (entries_of s.number on.rest)) in
      subst (λ (m : List Told). length m ≤ length (entries_of t.number t.seen)) (sym on.mine)
      (subst (λ (n : List ℕ). length (s.mine ++ on.own) ≤ length (entries_of n t.seen)) (sym on.number)
      (subst (λ (xs : List Told). length (s.mine ++ on.own) ≤ length (entries_of s.number xs)) (sym on.seen) l))

  -- who isn't stopped wasn't
  pub going-before : (ends (run_seen t)).units.halt ≡ false → (ends (run_seen s)).units.halt ≡ false
  going-before going = after-going (run_seen s) on.rest (ap (λ (x : Run). (ends x).units.halt) (sym run-sees) ∙ going)

  -- who is alone was alone
  pub alone-before : (harmless : CoreEvent → Bool) → Counts s → IsAlone harmless t → IsAlone harmless s
  alone-before harmless c a = record { others = others; own = own-same }
    where
      others : (x : Told) → Member x s.seen → (x.by ≡ s.number) ⊎ (harmless x.event ≡ true)
      others x i =
          subst (λ (n : List ℕ). (x.by ≡ n) ⊎ (harmless x.event ≡ true)) on.number
          (a.others x (subst (Member x) (sym on.seen) (in_left x s.seen on.rest i)))

      whole : entries_of s.number s.seen ++ entries_of s.number on.rest ≡ s.mine ++ on.own
      whole = sym (entries-append s.number s.seen on.rest) ∙ (λ i. entries_of (sym on.number i) (sym on.seen i)) ∙ a.own ∙ on.mine

      own-same : entries_of s.number s.seen ≡ s.mine
      own-same =
          let k : length s.mine ≤ length (entries_of s.number s.seen) = c in
          let here = on.counts in
          let l = ap (length {A = Told}) whole in
          front-same (entries_of s.number s.seen) (entries_of s.number on.rest) s.mine on.own whole
          (omega (arith, k, here, l, length-append s.mine on.own, length-append (entries_of s.number s.seen) (entries_of s.number on.rest)))

  -- so what may be relied on could be
  pub relies-before : (o : Outset) → Counts s → MayRely o t → MayRely o s
  relies-before o c m =
      let next = after-next (run_seen s) on.rest in
      let lines = after-lines (run_seen s) on.rest in
      let few : (ends (run_after (run_seen s) on.rest)).units.next ≤ 2 ^ 63 = subst (λ (x : Run). (ends x).units.next ≤ 2 ^ 63) run-sees m.few in
      let small : (ends (run_after (run_seen s) on.rest)).units.lines < 2 ^ 32 = subst (λ (x : Run). (ends x).units.lines < 2 ^ 32) run-sees m.small in
      record {
        alone = alone-before is_work c m.alone;
        units = after-units (run_seen s) on.rest (basis_of o) (subst (KeepsUnitRule (basis_of o)) run-sees m.units);
        few = omega (arith, next, few);
        small = omega (arith, lines, small);
      }
