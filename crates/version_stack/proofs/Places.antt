-- Where a unit's version stands, oldest first and newest first.
use Rattle.std.proofs.Common.{◌≡◌, ℕ, zero, suc, ◌+◌, ◌<◌, ◌≤◌, List, [], ◌∷◌, ◌++◌, length, get_or, take, drop, reverse, Bool, true, false, ◌||◌, Some, None, position, refl, sym, ap, ◌∙◌, arith}
use Rattle.std.specs.Prelude.{if◌then◌else◌, nat_lt}
use Rattle.std.specs.List.{list_any as any, position_or_len}
use Rattle.std.proofs.lemmas.Bool.{cond-true, cond-false, or_right, cond_both, ltb-false}
use Rattle.std.proofs.lemmas.List.{reverse-append, length-reverse, length-drop, take-append-drop, take_at}
use Rattle.std.proofs.lemmas.List.Sums.{fails_before_first}
use Rattle.std.proofs.lemmas.List.Quantifiers.{position-Some}
use Rattle.cell_model.specs.Units.{UnitNo, nobody}
use Rattle.cell_model.specs.Stacks.{Version, is_of, cut, committed_stack}
use Rattle.cell_model.proofs.Stacks.{cut-stranger, committed-stranger}

-- a version, where a lemma on lists asks for one
some_version : Version
some_version = record { unit = nobody; state = [] }

reverse-cons : (x : Version) (xs : List Version) → reverse (x ∷ xs) ≡ reverse xs ++ x ∷ []
reverse-cons x xs = reverse-append (x ∷ []) xs

any-last : (p : Version → Bool) (ys : List Version) (x : Version) → any p (ys ++ x ∷ []) ≡ (any p ys || p x)
any-last p [] x = or_false (p x)
  where
    or_false : (b : Bool) → (b || false) ≡ (false || b)
    or_false true = refl
    or_false false = refl
any-last p (y ∷ ys) x = ap (λ b. p y || b) (any-last p ys x) ∙ or_assoc (p y) (any p ys) (p x)
  where
    or_assoc : (a b c : Bool) → (a || (b || c)) ≡ ((a || b) || c)
    or_assoc true b c = refl
    or_assoc false b c = refl

cut-last_true : (p : Version → Bool) (ys : List Version) (x : Version) → p x ≡ true → cut p (ys ++ x ∷ []) ≡ []
cut-last_true p [] x e = cond-true (p x || false) [] (x ∷ []) (ap (λ b. b || false) e)
cut-last_true p (y ∷ ys) x e =
    cond-true (any p (y ∷ ys ++ x ∷ [])) (cut p (ys ++ x ∷ [])) (y ∷ ys ++ x ∷ [])
    (any-last p (y ∷ ys) x ∙ or_right (any p (y ∷ ys)) (p x) e)
    ∙ cut-last_true p ys x e

cut-last_false : (p : Version → Bool) (ys : List Version) (x : Version) → p x ≡ false → cut p (ys ++ x ∷ []) ≡ cut p ys ++ x ∷ []
cut-last_false p [] x e = cond-false (p x || false) [] (x ∷ []) (ap (λ b. b || false) e)
cut-last_false p (y ∷ ys) x e =
    let same : any p (y ∷ ys ++ x ∷ []) ≡ any p (y ∷ ys) = any-last p (y ∷ ys) x ∙ ap (λ b. any p (y ∷ ys) || b) e ∙ or_nothing (any p (y ∷ ys)) in
    (λ i. if same i then cut-last_false p ys x e i else (y ∷ ys ++ x ∷ []))
    ∙ cond_both (any p (y ∷ ys)) (cut p ys) (y ∷ ys) (λ t. (if any p (y ∷ ys) then cut p ys ++ x ∷ [] else (y ∷ ys ++ x ∷ [])) ≡ t ++ x ∷ [])
    (λ h. cond-true (any p (y ∷ ys)) _ _ h) (λ h. cond-false (any p (y ∷ ys)) _ _ h)
  where
    or_nothing : (b : Bool) → (b || false) ≡ b
    or_nothing true = refl
    or_nothing false = refl

cut-reverse : (p : Version → Bool) (xs : List Version) (i : ℕ) (d : Version) → i < length xs → p (get_or xs i d) ≡ true → ((k : ℕ) → k < i → p (get_or xs k d) ≡ false) → cut p (reverse xs) ≡ reverse (take i xs)
cut-reverse p [] i d h e before = absurd (omega arith)
cut-reverse p (x ∷ xs) zero d h e before = ap (cut p) (reverse-cons x xs) ∙ cut-last_true p (reverse xs) x e
cut-reverse p (x ∷ xs) (suc i) d h e before =
    ap (cut p) (reverse-cons x xs) ∙ cut-last_false p (reverse xs) x (before 0 (omega arith))
    ∙ ap (λ t. t ++ x ∷ []) (cut-reverse p xs i d (omega arith) e (λ k l. before (suc k) (omega arith)))
    ∙ sym (reverse-cons x (take i xs))

any-reverse : (p : Version → Bool) (xs : List Version) (i : ℕ) (d : Version) → i < length xs → p (get_or xs i d) ≡ true → any p (reverse xs) ≡ true
any-reverse p [] i d h e = absurd (omega arith)
any-reverse p (x ∷ xs) zero d h e = ap (any p) (reverse-cons x xs) ∙ any-last p (reverse xs) x ∙ or_right (any p (reverse xs)) (p x) e
any-reverse p (x ∷ xs) (suc i) d h e = ap (any p) (reverse-cons x xs) ∙ any-last p (reverse xs) x ∙ ap (λ b. b || p x) (any-reverse p xs i d (omega arith) e)

none-reverse : (p : Version → Bool) (xs : List Version) (d : Version) → ((k : ℕ) → k < length xs → p (get_or xs k d) ≡ false) → any p (reverse xs) ≡ false
none-reverse p [] d h = refl
none-reverse p (x ∷ xs) d h = ap (any p) (reverse-cons x xs) ∙ any-last p (reverse xs) x ∙ ap (λ b. b || p x) (none-reverse p xs d (λ k l. h (suc k) (omega arith))) ∙ h 0 (omega arith)

none-any : (p : Version → Bool) (xs : List Version) (d : Version) → ((k : ℕ) → k < length xs → p (get_or xs k d) ≡ false) → any p xs ≡ false
none-any p [] d h = refl
none-any p (x ∷ xs) d h = ap (λ b. b || any p xs) (h 0 (omega arith)) ∙ none-any p xs d (λ k l. h (suc k) (omega arith))

position-none : (p : Version → Bool) (xs : List Version) (d : Version) → position p xs ≡ None → (k : ℕ) → k < length xs → p (get_or xs k d) ≡ false
position-none p xs d e k h = fails_before_first p xs k d (omega (arith, reaches))
  where
    reaches : length xs ≤ position_or_len p xs
    reaches = cond_both (nat_lt (position_or_len p xs) (length xs)) (Some (position_or_len p xs)) None (λ t. t ≡ None → length xs ≤ position_or_len p xs)
        (λ q f. cc) (λ q f. ltb-false _ _ q) e

-- oldest first, what is left stands before the first that meets the test
pub cut-found : (p : Version → Bool) (xs : List Version) (at : ℕ) → position p xs ≡ Some at → cut p (reverse xs) ≡ reverse (take at xs)
cut-found p xs at e = (let t = position-Some p xs at some_version e in cut-reverse p xs at some_version t.0 t.1 t.2)

pub any-found : (p : Version → Bool) (xs : List Version) (at : ℕ) → position p xs ≡ Some at → any p (reverse xs) ≡ true
any-found p xs at e = (let t = position-Some p xs at some_version e in any-reverse p xs at some_version t.0 t.1)

-- where none meets the test, nothing goes
pub any-missing : (p : Version → Bool) (xs : List Version) → position p xs ≡ None → any p (reverse xs) ≡ false
any-missing p xs e = none-reverse p xs some_version (position-none p xs some_version e)

pub cut-missing : (p : Version → Bool) (xs : List Version) → position p xs ≡ None → cut p (reverse xs) ≡ reverse xs
cut-missing p xs e = cut-stranger p (reverse xs) (any-missing p xs e)

committed-reaches : (unit : UnitNo) (xs : List Version) (i : ℕ) (d : Version) → i < length xs → is_of unit (get_or xs i d) ≡ true → ((k : ℕ) → k < i → is_of unit (get_or xs k d) ≡ false) → committed_stack unit xs ≡ take (suc i) xs
committed-reaches unit [] i d h e before = absurd (omega arith)
committed-reaches unit (x ∷ xs) zero d h e before = cond-true (is_of unit x) (x ∷ []) (x ∷ committed_stack unit xs) e
committed-reaches unit (x ∷ xs) (suc i) d h e before =
    cond-false (is_of unit x) (x ∷ []) (x ∷ committed_stack unit xs) (before 0 (omega arith))
    ∙ ap (λ t. x ∷ t) (committed-reaches unit xs i d (omega arith) e (λ k l. before (suc k) (omega arith)))

-- newest first, what is left goes down to the first that is the unit's
pub committed-found : (unit : UnitNo) (xs : List Version) (at : ℕ) → position (is_of unit) xs ≡ Some at → committed_stack unit xs ≡ take (suc at) xs
committed-found unit xs at e = (let t = position-Some (is_of unit) xs at some_version e in committed-reaches unit xs at some_version t.0 t.1 t.2)

pub committed-missing : (unit : UnitNo) (xs : List Version) → position (is_of unit) xs ≡ None → committed_stack unit xs ≡ xs
committed-missing unit xs e = committed-stranger unit xs (none-any (is_of unit) xs some_version (position-none (is_of unit) xs some_version e))

-- an index that was found is within the list
pub found-within : (p : Version → Bool) (xs : List Version) (at : ℕ) → position p (reverse xs) ≡ Some at → at < length xs
found-within p xs at e = (let t = position-Some p (reverse xs) at some_version e in let l = length-reverse xs in let h = t.0 in omega (arith, h, l))

-- the newest `keep` versions
pub drop-reverse : (xs : List Version) (keep below : ℕ) → keep + below ≡ length xs → reverse (drop below xs) ≡ take keep (reverse xs)
drop-reverse xs keep below e =
    let whole : reverse xs ≡ reverse (drop below xs) ++ reverse (take below xs) = ap reverse (sym (take-append-drop below xs)) ∙ reverse-append (take below xs) (drop below xs) in
    let long : length (reverse (drop below xs)) ≡ keep = omega (arith, length-reverse (drop below xs), length-drop below xs) in
    sym (ap (take keep) whole ∙ take_at (reverse (drop below xs)) (reverse (take below xs)) keep long)

-- what is left where the unit has committed, by what stands above its version
pub committed-keeps : (unit : UnitNo) (xs : List Version) (above below : ℕ) → position (is_of unit) (reverse xs) ≡ Some above → suc above + below ≡ length xs → reverse (drop below xs) ≡ committed_stack unit (reverse xs)
committed-keeps unit xs above below e h = drop-reverse xs (suc above) below h ∙ sym (committed-found unit (reverse xs) above e)
