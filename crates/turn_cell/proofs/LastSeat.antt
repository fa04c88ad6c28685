-- Where all that was split off was joined back, there is one live seat, and it keeps all numbers.
use Rattle.std.proofs.Common.{◌≡◌, ℕ, zero, suc, List, [], ◌∷◌, ◌++◌, length, Option, None, Some, true, refl, sym, ap, ◌∙◌, subst, arith, length-append}
use mathlib.Core.Option.{some, some-injective}
use lib.ListN.{get_elem?}
use Rattle.base_types.specs.Lists.{Member}
use Rattle.turn_cell.specs.declared.view.Entry.{Entry}
use Rattle.turn_cell.specs.declared.view.Hand.{Hand}
use Rattle.turn_cell.specs.Hands.{number_of, Keeps, IsNumbered, IsWhole}
use Rattle.turn_cell.proofs.Lists.{from_map}
use Rattle.turn_cell.proofs.Names.{last_of, same_some}
use Rattle.turn_cell.proofs.Histories.{in_entries}

abbrev Log : Type 0 → Type 0 → Type 0
Log E R = List (Entry E R)

abbrev Hands : Type 0 → Type 0 → Type 0
Hands E R = List (Hand E R)

module _ {E R : Type 0} where
  -- each number that was made is kept at the seat of the pass, by induction on its length: who keeps the number before it knows of the split
  only_home : (log : Log E R) (hands : Hands E R) (j : ℕ) (h : Hand E R) (N : IsNumbered log hands) → get_elem? hands j ≡ some h → h.live ≡ true → IsWhole h → (len : ℕ) (n : List ℕ) (x : ℕ) → length n ≡ len → N.home n ≡ Some x → x ≡ j
  only_home log hands j h N at live whole len [] x l e = let D = N.each j h at live in same_some x j (sym e ∙ (ap N.home (sym whole.0) ∙ D.own))
  only_home log hands j h N at live whole zero (y ∷ ys) x l e = absurd (omega (arith, l))
  only_home log hands j h N at live whole (suc len) (y ∷ ys) x l e =
      let D = N.each j h at live in
      let u = last_of y ys in
      let p : List ℕ = u.0 in
      let k : ℕ = u.1 in
      let is : y ∷ ys ≡ p ++ k ∷ [] = u.2 in
      let size = ap (length {A = ℕ}) is in
      let r = N.parent p k x (ap N.home (sym is) ∙ e) in
      let up : r.0 ≡ j = only_home log hands j h N at live whole len p r.0 (omega (arith, l, size, length-append p (k ∷ []))) r.1 in
      let t = r.2 in
      let same : t.0 ≡ h = some-injective t.0 h (sym t.1 ∙ (ap (get_elem? hands) up ∙ at)) in
      let joined = whole.1 (p ++ k ∷ []) (subst (λ (v : Hand E R). Member (p ++ k ∷ []) v.split_off) same t.2) in
      let m = from_map number_of (p ++ k ∷ []) h.joined joined in
      let z = D.keeps m.0 m.1 in
      same_some x j (sym e ∙ (ap N.home is ∙ (ap N.home (sym m.2) ∙ z.0)))

  -- there is no other seat whose pass isn't spent
  pub only_seat : (log : Log E R) (hands : Hands E R) (j : ℕ) (h : Hand E R) → IsNumbered log hands → get_elem? hands j ≡ some h → h.live ≡ true → IsWhole h → (k : ℕ) (g : Hand E R) → get_elem? hands k ≡ some g → g.live ≡ true → k ≡ j
  only_seat log hands j h N at live whole k g x l = only_home log hands j h N at live whole (length g.number) g.number k refl (N.each k g x l).own

  -- each entry of the history has a number that the pass keeps
  pub only_entries : (log : Log E R) (hands : Hands E R) (j : ℕ) (h : Hand E R) → IsNumbered log hands → get_elem? hands j ≡ some h → h.live ≡ true → IsWhole h → (e : Entry E R) → Member e log → Keeps e.by h
  only_entries log hands j h N at live whole e x = by_case (N.home e.by) refl
    where
      by_case : (m : Option ℕ) → N.home e.by ≡ m → Keeps e.by h
      by_case None q = absurd (subst (Member e) (N.none_yet e.by q) (in_entries log e.by e refl x))
      by_case (Some y) q = let K = N.made e.by y q in let there = only_home log hands j h N at live whole (length e.by) e.by y refl q in
          subst (λ (u : Hand E R). Keeps e.by u) (some-injective K.0 h (sym K.1 ∙ (ap (get_elem? hands) there ∙ at))) K.3
