-- New names behind old ones.
use Rattle.std.proofs.Common.{◌≡◌, ◌≢◌, ◌⊎◌, inl, inr, ℕ, ◌<◌, ◌≤◌, Bool, true, false, cond, List, [], ◌∷◌, ◌++◌, length, Option, Some, None, Result, Ok, Err, refl, sym, ap, ◌∙◌, append_assoc, length-append, arith}
use Rattle.std.specs.Prelude.{bytes_eq, OnOk, OnErr, IfErr}
use Rattle.std.proofs.lemmas.List.{append-nil, length-map}
use Rattle.std.proofs.lemmas.Slice.Eq.{bytes_eq-Decides}
use Rattle.base_types.specs.Lists.{IsPrefix}
use Rattle.script_tree.specs.declared.expressions.Name.{Name}
use Rattle.script_tree.specs.Programs.{ProgramTree}
use Rattle.script_check.specs.declared.comparison.UpgradeFault.{UpgradeFault}
use Rattle.script_check.specs.Comparison.{names_of_types, name_texts, GoesOnFrom, GoOnInTurn, last_program, differs, compared, refused_place, IsOtherName, LacksTypes, IsRefusedAt}

-- a test that let the rest go on
goes_on : {A : Type 0} (b : Bool) (x : Option A) (y : A) → cond b x (Some y) ≡ None → (b ≡ true) × (x ≡ None)
goes_on true x y e = (refl, e)
goes_on false x y e = absurd cc

-- a test that told a place told this one, or let the rest tell it
tells : {A : Type 0} (b : Bool) (x : Option A) (y at : A) → cond b x (Some y) ≡ Some at → ((b ≡ true) × (x ≡ Some at)) ⊎ ((b ≡ false) × (y ≡ at))
tells true x y at e = inl (refl, e)
tells false x y at e = (let same : y ≡ at = cc in inr (refl, same))

-- names that aren't the same by the test aren't
apart : (a b : List ℕ) → bytes_eq a b ≡ false → a ≢ b
apart a b e h = (let same : bytes_eq a b ≡ true = (bytes_eq-Decides a b).1 h in absurd cc)

-- where no place is told, the new names begin with the old ones
pub begins : (olds news : List Name) (end : ℕ) → differs olds end news ≡ None → IsPrefix (name_texts olds) (name_texts news)
begins [] news end e = (name_texts news, refl)
begins (o ∷ os) [] end e = absurd cc
begins (o ∷ os) (n ∷ ns) end e =
    let p = goes_on (bytes_eq o.text n.text) (differs os end ns) n.at e in
    let same : o.text ≡ n.text = (bytes_eq-Decides o.text n.text).0 p.0 in
    let r = begins os ns end p.1 in
    (r.0, ap (λ (x : List ℕ). x ∷ name_texts ns) (sym same) ∙ ap (λ (l : List (List ℕ)). o.text ∷ l) r.1)

-- where they do, none is told
pub begun : (olds news : List Name) (end : ℕ) → IsPrefix (name_texts olds) (name_texts news) → differs olds end news ≡ None
begun [] news end h = refl
begun (o ∷ os) [] end h = (let e : [] ≡ o.text ∷ (name_texts os ++ h.0) = h.1 in absurd cc)
begun (o ∷ os) (n ∷ ns) end h =
    let e : n.text ∷ name_texts ns ≡ o.text ∷ (name_texts os ++ h.0) = h.1 in
    let first : o.text ≡ n.text = cc in
    let rest : name_texts ns ≡ name_texts os ++ h.0 = cc in
    let same : bytes_eq o.text n.text ≡ true = (bytes_eq-Decides o.text n.text).1 first in
    ap (λ (b : Bool). cond b (differs os end ns) (Some n.at)) same ∙ begun os ns end (h.0, rest)

-- a place of the rest, behind a name that is the same
later : (o n : Name) (os ns : List Name) (end at : ℕ) → o.text ≡ n.text → (IsOtherName os ns at ⊎ LacksTypes os ns end at) → IsOtherName (o ∷ os) (n ∷ ns) at ⊎ LacksTypes (o ∷ os) (n ∷ ns) end at
later o n os ns end at same (inl r) = inl (record {
  same = n ∷ r.same;
  here = r.here;
  behind = r.behind;
  wanted = r.wanted;
  more = r.more;
  new_are = ap (λ (l : List Name). n ∷ l) r.new_are;
  old_are = ap (λ (x : List ℕ). x ∷ name_texts os) same ∙ ap (λ (l : List (List ℕ)). n.text ∷ l) r.old_are;
  other = r.other;
  place = r.place;
})
later o n os ns end at same (inr r) = inr (record {
  wanted = r.wanted;
  more = r.more;
  old_are = ap (λ (x : List ℕ). x ∷ name_texts os) same ∙ ap (λ (l : List (List ℕ)). n.text ∷ l) r.old_are;
  place = r.place;
})

-- the place that is told is that of the first name that differs, or the end
pub refused : (olds news : List Name) (end at : ℕ) → differs olds end news ≡ Some at → IsOtherName olds news at ⊎ LacksTypes olds news end at
refused [] news end at e = absurd cc
refused (o ∷ os) [] end at e = (let is : end ≡ at = cc in inr (record { wanted = o.text; more = name_texts os; old_are = refl; place = sym is }))
refused (o ∷ os) (n ∷ ns) end at e =
    elim (tells (bytes_eq o.text n.text) (differs os end ns) n.at at e) [
      | inl p ↦ later o n os ns end at ((bytes_eq-Decides o.text n.text).0 p.0) (refused os ns end at p.1)
      | inr p ↦ inl (record { same = []; here = n; behind = ns; wanted = o.text; more = name_texts os; new_are = refl; old_are = refl; other = apart o.text n.text p.0; place = sym p.1 })
    ]

-- ---- programs

pub accepts : (old new : ProgramTree) (end : ℕ) → (compared old new end ≡ None → GoesOnFrom old new) × (GoesOnFrom old new → compared old new end ≡ None)
accepts old new end = (begins (names_of_types old) (names_of_types new) end, begun (names_of_types old) (names_of_types new) end)

pub refuses : (old new : ProgramTree) (end at : ℕ) → compared old new end ≡ Some at → IsRefusedAt old new end at
refuses old new end at e = refused (names_of_types old) (names_of_types new) end at e

pub same : (old : ProgramTree) → GoesOnFrom old old
same old = ([], sym (append-nil (name_texts (names_of_types old))))

texts_append : (old more : ProgramTree) → name_texts (names_of_types (old ++ more)) ≡ name_texts (names_of_types old) ++ name_texts (names_of_types more)
texts_append [] more = refl
texts_append (o ∷ os) more = ap (λ (l : List (List ℕ)). o.name.text ∷ l) (texts_append os more)

pub further : (old more : ProgramTree) → GoesOnFrom old (old ++ more)
further old more = (name_texts (names_of_types more), texts_append old more)

pub on : (one two three : ProgramTree) → GoesOnFrom one two → GoesOnFrom two three → GoesOnFrom one three
on one two three a b =
    (a.0 ++ b.0, b.1 ∙ ap (λ (l : List (List ℕ)). l ++ b.0) a.1 ∙ append_assoc (name_texts (names_of_types one)) a.0 b.0)

texts_length : (types : ProgramTree) → length (name_texts (names_of_types types)) ≡ length types
texts_length types = length-map (names_of_types types) (λ n. n.text) ∙ length-map types (λ t. t.name)

-- a program that goes on from another has as many types, or more
pub no_fewer : (old new : ProgramTree) → GoesOnFrom old new → length old ≤ length new
no_fewer old new h =
    let n = ap length h.1 in
    let sum = length-append (name_texts (names_of_types old)) h.0 in
    omega (arith, n, sum, texts_length old, texts_length new)

pub types : (old new : ProgramTree) (kind : ℕ) → GoesOnFrom old new → kind < length old → kind < length new
types old new kind h lt = (let le = no_fewer old new h in omega (arith, le, lt))

pub along : (first : ProgramTree) (later : List ProgramTree) → GoOnInTurn first later → GoesOnFrom first (last_program first later)
along first [] h = same first
along first (next ∷ later) h = on first next (last_program next later) h.0 (along next later h.1)

pub parts : (first : ProgramTree) (some more : List ProgramTree) → (GoOnInTurn first (some ++ more) → GoOnInTurn first some × GoOnInTurn (last_program first some) more) × (GoOnInTurn first some × GoOnInTurn (last_program first some) more → GoOnInTurn first (some ++ more))
parts first [] more = (λ h. (tt, h), λ h. h.1)
parts first (next ∷ later) more = (
  λ h. (let r = (parts next later more).0 h.1 in ((h.0, r.0), r.1)),
  λ h. (h.0.0, (parts next later more).1 (h.0.1, h.1)),
)

-- ---- what a comparison answers

pub accepted : (result : Result (Unit {0}) UpgradeFault) (old new : ProgramTree) (end : ℕ) → refused_place result ≡ compared old new end → OnOk result (GoesOnFrom old new)
accepted (Ok done) old new end e = (accepts old new end).0 (sym e)
accepted (Err fault) old new end e = tt

pub not_accepted : (result : Result (Unit {0}) UpgradeFault) (old new : ProgramTree) (end : ℕ) → refused_place result ≡ compared old new end → OnErr result (GoesOnFrom old new → ⊥)
not_accepted (Ok done) old new end e = tt
not_accepted (Err fault) old new end e = λ h. (let none : compared old new end ≡ None = (accepts old new end).1 h in absurd cc)

pub refused_at : (result : Result (Unit {0}) UpgradeFault) (old new : ProgramTree) (end : ℕ) → refused_place result ≡ compared old new end → IfErr result (λ fault. IsRefusedAt old new end fault.at)
refused_at (Ok done) old new end e = tt
refused_at (Err fault) old new end e = refuses old new end fault.at (sym e)
