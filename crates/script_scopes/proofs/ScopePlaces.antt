-- Where a name stands, as one name more comes behind the others or leaves.
use Rattle.std.proofs.Common.{◌≡◌, ◌+◌, ◌<◌, ℕ, suc, List, [], ◌∷◌, ◌++◌, length, Bool, true, false, cond, ◌||◌, Option, Some, None, refl, sym, ap, ◌∙◌, arith, nat_eq}
use Rattle.std.specs.Prelude.{if◌then◌else◌, bytes_eq}
use Rattle.std.specs.List.{list_any}
use Rattle.std.specs.Map.{update}
use Rattle.std.specs.Option.{is_some, option_or, option_eq}
use Rattle.std.proofs.lemmas.Cmp.{nat_list_eq_equiv}
use Rattle.std.proofs.lemmas.Slice.Eq.{bytes_eq-Decides}
use Rattle.script_scopes.specs.Names.{Scope}
use Rattle.script_scopes.specs.Places.{place_from, name_place}

-- the place of a name that comes behind so many others
abbrev pub last_place : ℕ → List ℕ → List ℕ → Option ℕ
last_place i x name = if bytes_eq x name then Some i else None

-- one name more
pub place_push : (i : ℕ) (name : List ℕ) (xs : Scope) (x : List ℕ) → place_from i name (xs ++ x ∷ []) ≡ option_or (place_from i name xs) (last_place (i + length xs) x name)
place_push i name [] x =
    let e : i ≡ i + 0 = omega arith in
    ap (λ n. last_place n x name) e
place_push i name (y ∷ ys) x =
    let e : (i + 1) + length ys ≡ i + suc (length ys) = omega arith in
    elim (bytes_eq y name) as (λ b. (if b then Some i else place_from (i + 1) name (ys ++ x ∷ [])) ≡ option_or (if b then Some i else place_from (i + 1) name ys) (last_place (i + suc (length ys)) x name)) [
      | true ↦ refl
      | false ↦ place_push (i + 1) name ys x ∙ ap (λ n. option_or (place_from (i + 1) name ys) (last_place n x name)) e
    ]

within_at : (b : Bool) (i p n : ℕ) (rest : Option ℕ) → (rest ≡ Some p → p < (i + 1) + n) → (if b then Some i else rest) ≡ Some p → p < i + suc n
within_at true i p n rest h e =
    let same : i ≡ p = cc in
    omega arith
within_at false i p n rest h e =
    let l : p < (i + 1) + n = h e in
    omega arith

-- a place is within the list
pub place_within : (i : ℕ) (name : List ℕ) (xs : Scope) (p : ℕ) → place_from i name xs ≡ Some p → p < i + length xs
place_within i name [] p e = absurd cc
place_within i name (y ∷ ys) p e = within_at (bytes_eq y name) i p (length ys) (place_from (i + 1) name ys) (place_within (i + 1) name ys p) e

-- the same of a whole list
pub place_more : (name : List ℕ) (xs : Scope) (x : List ℕ) → name_place name (xs ++ x ∷ []) ≡ option_or (name_place name xs) (last_place (length xs) x name)
place_more name xs x =
    let e : 0 + length xs ≡ length xs = omega arith in
    place_push 0 name xs x ∙ ap (λ n. option_or (place_from 0 name xs) (last_place n x name)) e

pub place_below : (name : List ℕ) (xs : Scope) (p : ℕ) → name_place name xs ≡ Some p → p < length xs
place_below name xs p e =
    let l : p < 0 + length xs = place_within 0 name xs p e in
    omega arith

found_at : (b any : Bool) (i : ℕ) (rest : Option ℕ) → is_some rest ≡ any → is_some (if b then Some i else rest) ≡ (b || any)
found_at true any i rest h = refl
found_at false any i rest h = h

-- a name that has a place is among the names
pub found_from : (i : ℕ) (name : List ℕ) (xs : Scope) → is_some (place_from i name xs) ≡ list_any (bytes_eq name) xs
found_from i name [] = refl
found_from i name (y ∷ ys) =
    found_at (bytes_eq y name) (list_any (bytes_eq name) ys) i (place_from (i + 1) name ys) (found_from (i + 1) name ys)
    ∙ ap (λ b. b || list_any (bytes_eq name) ys) (nat_list_eq_equiv.symm y name)

pub found_is_in : (name : List ℕ) (xs : Scope) → is_some (name_place name xs) ≡ list_any (bytes_eq name) xs
found_is_in name xs = found_from 0 name xs

-- one name more is the same name, or another
or_kept : (o : Option ℕ) (b : Bool) (n : ℕ) → (b ≡ true → is_some o ≡ true) → option_or o (if b then Some n else None) ≡ o
or_kept None true n h = let e : false ≡ true = h refl in absurd cc
or_kept None false n h = refl
or_kept (Some p) b n h = refl

or_noted : (o : Option ℕ) (b : Bool) (n : ℕ) → (b ≡ true → is_some o ≡ false) → cond b (Some n) o ≡ option_or o (if b then Some n else None)
or_noted None true n h = refl
or_noted None false n h = refl
or_noted (Some p) true n h = let e : true ≡ false = h refl in absurd cc
or_noted (Some p) false n h = refl

or_forgotten : (o : Option ℕ) (b : Bool) (n : ℕ) → (b ≡ true → o ≡ None) → cond b None (option_or o (if b then Some n else None)) ≡ o
or_forgotten None true n h = refl
or_forgotten None false n h = refl
or_forgotten (Some p) true n h = let e : (let o : Option ℕ = Some p in o) ≡ None = h refl in absurd cc
or_forgotten (Some p) false n h = refl

same_number : (n : ℕ) → nat_eq n n ≡ true
same_number n = grind arith

there : (o : Option ℕ) (n : ℕ) → option_eq nat_eq (option_or o (Some n)) (Some n) ≡ false → is_some o ≡ true
there None n e = let h : nat_eq n n ≡ true = same_number n in absurd cc
there (Some p) n e = refl

not_there : (o : Option ℕ) (n : ℕ) → ((p : ℕ) → o ≡ Some p → p < n) → option_eq nat_eq (option_or o (Some n)) (Some n) ≡ true → o ≡ None
not_there None n below e = refl
not_there (Some p) n below e =
    let l : p < n = below p refl in
    let h : nat_eq p n ≡ true = e in
    absurd (grind (arith, l, h))

-- at the name that comes or leaves, and at each other
name_is : (x q : List ℕ) → bytes_eq x q ≡ true → q ≡ x
name_is x q same = sym ((bytes_eq-Decides x q).0 same)

module _ (f : List ℕ → Option ℕ) (xs : Scope) (x : List ℕ) where
  -- a name that has a place already keeps it
  pub kept_places : ((q : List ℕ) → f q ≡ name_place q xs) → is_some (f x) ≡ true → (q : List ℕ) → f q ≡ name_place q (xs ++ x ∷ [])
  kept_places has among q =
      let here : bytes_eq x q ≡ true → is_some (name_place q xs) ≡ true = λ same. ap (λ (n : List ℕ). is_some (name_place n xs)) (name_is x q same) ∙ ap (λ (o : Option ℕ). is_some o) (sym (has x)) ∙ among in
      let stays : option_or (name_place q xs) (last_place (length xs) x q) ≡ name_place q xs = or_kept (name_place q xs) (bytes_eq x q) (length xs) here in
      has q ∙ sym stays ∙ sym (place_more q xs x)

  -- one that has none gets the last
  pub noted_places : (g : List ℕ → Option ℕ) (n : ℕ) → ((q : List ℕ) → f q ≡ name_place q xs) → is_some (f x) ≡ false → n ≡ length xs → ((q : List ℕ) → g q ≡ update bytes_eq f x (Some n) q) → (q : List ℕ) → g q ≡ name_place q (xs ++ x ∷ [])
  noted_places g n has none is notes q =
      let here : bytes_eq x q ≡ true → is_some (name_place q xs) ≡ false = λ same. ap (λ (n : List ℕ). is_some (name_place n xs)) (name_is x q same) ∙ ap (λ (o : Option ℕ). is_some o) (sym (has x)) ∙ none in
      let comes : cond (bytes_eq x q) (Some (length xs)) (name_place q xs) ≡ option_or (name_place q xs) (last_place (length xs) x q) = or_noted (name_place q xs) (bytes_eq x q) (length xs) here in
      let old : update bytes_eq f x (Some n) q ≡ cond (bytes_eq x q) (Some n) (name_place q xs) = ap (λ (o : Option ℕ). cond (bytes_eq x q) (Some n) o) (has q) in
      let last : cond (bytes_eq x q) (Some n) (name_place q xs) ≡ cond (bytes_eq x q) (Some (length xs)) (name_place q xs) = ap (λ (m : ℕ). cond (bytes_eq x q) (Some m) (name_place q xs)) is in
      notes q ∙ old ∙ last ∙ comes ∙ sym (place_more q xs x)

  module _ (has : (q : List ℕ) → f q ≡ name_place q (xs ++ x ∷ [])) where
    place_here : f x ≡ option_or (name_place x xs) (Some (length xs))
    place_here =
        let is : option_or (name_place x xs) (last_place (length xs) x x) ≡ option_or (name_place x xs) (Some (length xs)) = ap (λ (b : Bool). option_or (name_place x xs) (if b then Some (length xs) else None)) (nat_list_eq_equiv.refl x) in
        has x ∙ place_more x xs x ∙ is

    here_is : (n : ℕ) (b : Bool) → n ≡ length xs → option_eq nat_eq (f x) (Some n) ≡ b → option_eq nat_eq (option_or (name_place x xs) (Some (length xs))) (Some (length xs)) ≡ b
    here_is n b is e = ap (λ (o : Option ℕ). option_eq nat_eq o (Some (length xs))) (sym place_here) ∙ ap (λ (m : ℕ). option_eq nat_eq (f x) (Some m)) (sym is) ∙ e

    -- the last name leaves, and stands before too
    pub left_places : (n : ℕ) → n ≡ length xs → option_eq nat_eq (f x) (Some n) ≡ false → (q : List ℕ) → f q ≡ name_place q xs
    left_places n is before q =
        let among : is_some (name_place x xs) ≡ true = there (name_place x xs) (length xs) (here_is n false is before) in
        let here : bytes_eq x q ≡ true → is_some (name_place q xs) ≡ true = λ same. ap (λ (m : List ℕ). is_some (name_place m xs)) (name_is x q same) ∙ among in
        let stays : option_or (name_place q xs) (last_place (length xs) x q) ≡ name_place q xs = or_kept (name_place q xs) (bytes_eq x q) (length xs) here in
        has q ∙ place_more q xs x ∙ stays

    -- and doesn't
    pub forgotten_places : (g : List ℕ → Option ℕ) (n : ℕ) → n ≡ length xs → option_eq nat_eq (f x) (Some n) ≡ true → ((q : List ℕ) → g q ≡ update bytes_eq f x None q) → (q : List ℕ) → g q ≡ name_place q xs
    forgotten_places g n is last forgets q =
        let none : name_place x xs ≡ None = not_there (name_place x xs) (length xs) (place_below x xs) (here_is n true is last) in
        let here : bytes_eq x q ≡ true → name_place q xs ≡ None = λ same. ap (λ (m : List ℕ). name_place m xs) (name_is x q same) ∙ none in
        let goes : cond (bytes_eq x q) None (option_or (name_place q xs) (last_place (length xs) x q)) ≡ name_place q xs = or_forgotten (name_place q xs) (bytes_eq x q) (length xs) here in
        let old : update bytes_eq f x None q ≡ cond (bytes_eq x q) None (option_or (name_place q xs) (last_place (length xs) x q)) = ap (λ (o : Option ℕ). cond (bytes_eq x q) None o) (has q ∙ place_more q xs x) in
        forgets q ∙ old ∙ goes
