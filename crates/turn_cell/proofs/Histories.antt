-- Histories: their beginnings, the entries of one pass, legality.
use Rattle.std.proofs.Common.{◌≡◌, ◌≢◌, ⊎_elim, inl, inr, ℕ, ◌≤◌, List, [], ◌∷◌, ◌++◌, length, Bool, true, false, refl, sym, ap, ◌∙◌, subst, arith, length-append, append-nil}
use Rattle.std.specs.Prelude.{cond}
use mathlib.Core.List.{append_assoc}
use Rattle.base_types.specs.Lists.{Member}
use Rattle.turn_cell.specs.declared.view.Entry.{Entry}
use Rattle.turn_cell.specs.History.{same_number, entries_of, StartsWith, leaves, IsLegal}
use Rattle.turn_cell.proofs.Names.{same_is, same_else}

module _ {E R : Type 0} where
  -- what a history begins with, it begins with when it is longer
  pub longer_starts : (log seen more : List (Entry E R)) → StartsWith log seen → StartsWith (log ++ more) seen
  longer_starts log seen more s = (s.0 ++ more, ap (λ (l : List (Entry E R)). l ++ more) s.1 ∙ append_assoc seen s.0 more)

  -- a history begins with itself
  pub starts_self : (log : List (Entry E R)) → StartsWith log log
  starts_self log = ([], sym (append-nil log))

  -- a beginning of a beginning
  pub starts_on : (a b c : List (Entry E R)) → StartsWith b a → StartsWith c b → StartsWith c a
  starts_on a b c s t = (s.0 ++ t.0, t.1 ∙ (ap (λ (l : List (Entry E R)). l ++ t.0) s.1 ∙ append_assoc a s.0 t.0))

  -- a beginning is not longer than the whole
  pub starts_length : (log seen : List (Entry E R)) → StartsWith log seen → length seen ≤ length log
  starts_length log seen s = let e = ap (length {A = Entry E R}) s.1 in omega (arith, e, length-append seen s.0)

  -- a list of length 0 is empty
  no_rest : (x : List (Entry E R)) → length x ≡ 0 → x ≡ []
  no_rest [] e = refl
  no_rest (y ∷ ys) e = absurd (omega (arith, e))

  -- a beginning that is as long as the whole is the whole
  pub starts_whole : (log seen : List (Entry E R)) → StartsWith log seen → length log ≤ length seen → seen ≡ log
  starts_whole log seen s long = let e = ap (length {A = Entry E R}) s.1 in
      sym (s.1 ∙ (ap (λ (x : List (Entry E R)). seen ++ x) (no_rest s.0 (omega (arith, e, long, length-append seen s.0))) ∙ append-nil seen))

  -- of two beginnings of one history the shorter begins the longer
  pub starts_starts : (a b log : List (Entry E R)) → StartsWith log a → StartsWith log b → length a ≤ length b → StartsWith b a
  starts_starts [] b log s t l = (b, refl)
  starts_starts (x ∷ a) [] log s t l = absurd (omega (arith, l))
  starts_starts (x ∷ a) (y ∷ b) [] s t l = let e = ap (length {A = Entry E R}) s.1 in absurd (omega (arith, e))
  starts_starts (x ∷ a) (y ∷ b) (z ∷ log) s t l =
      let r = starts_starts a b log (s.0, tail_of s.1) (t.0, tail_of t.1) (omega (arith, l)) in
      let same : y ≡ x = head_of y (sym t.1) ∙ sym (head_of y (sym s.1)) in
      (r.0, λ i. same i ∷ r.1 i)
    where
      rest_of : List (Entry E R) → List (Entry E R)
      rest_of [] = []
      rest_of (u ∷ us) = us

      front_of : Entry E R → List (Entry E R) → Entry E R
      front_of d [] = d
      front_of d (u ∷ us) = u

      tail_of : {u v : Entry E R} {us vs : List (Entry E R)} → u ∷ us ≡ v ∷ vs → us ≡ vs
      tail_of e = ap rest_of e

      head_of : (d : Entry E R) {u v : Entry E R} {us vs : List (Entry E R)} → u ∷ us ≡ v ∷ vs → u ≡ v
      head_of d e = ap (front_of d) e

  -- an entry of this number comes last
  pub entries_mine : (n : List ℕ) (log : List (Entry E R)) (e : Entry E R) → n ≡ e.by → entries_of n (log ++ e ∷ []) ≡ entries_of n log ++ e ∷ []
  entries_mine n [] e is = ap (λ (b : Bool). cond b (e ∷ []) []) (same_is n e.by is)
  entries_mine n (x ∷ xs) e is = by_bool (same_number n x.by) (entries_mine n xs e is)
    where
      by_bool : (s : Bool) → entries_of n (xs ++ e ∷ []) ≡ entries_of n xs ++ e ∷ [] → cond s (x ∷ entries_of n (xs ++ e ∷ [])) (entries_of n (xs ++ e ∷ [])) ≡ cond s (x ∷ entries_of n xs) (entries_of n xs) ++ e ∷ []
      by_bool true ih = λ j. x ∷ ih j
      by_bool false ih = ih

  -- an entry of another number changes nothing
  pub entries_other : (n : List ℕ) (log : List (Entry E R)) (e : Entry E R) → n ≢ e.by → entries_of n (log ++ e ∷ []) ≡ entries_of n log
  entries_other n [] e ne = ap (λ (b : Bool). cond b (e ∷ []) []) (same_else n e.by ne)
  entries_other n (x ∷ xs) e ne = by_bool (same_number n x.by) (entries_other n xs e ne)
    where
      by_bool : (s : Bool) → entries_of n (xs ++ e ∷ []) ≡ entries_of n xs → cond s (x ∷ entries_of n (xs ++ e ∷ [])) (entries_of n (xs ++ e ∷ [])) ≡ cond s (x ∷ entries_of n xs) (entries_of n xs)
      by_bool true ih = λ j. x ∷ ih j
      by_bool false ih = ih

  -- an entry of the history is one of its number's
  pub in_entries : (log : List (Entry E R)) (n : List ℕ) (e : Entry E R) → n ≡ e.by → Member e log → Member e (entries_of n log)
  in_entries [] n e is h = h
  in_entries (x ∷ xs) n e is h = ⊎_elim
      (λ (t : e ≡ x). subst (λ (b : Bool). Member e (cond b (x ∷ entries_of n xs) (entries_of n xs))) (sym (same_is n x.by (is ∙ ap (λ (u : Entry E R). u.by) t))) (inl t))
      (λ (t : Member e xs). by_bool (same_number n x.by) (in_entries xs n e is t)) h
    where
      by_bool : (s : Bool) → Member e (entries_of n xs) → Member e (cond s (x ∷ entries_of n xs) (entries_of n xs))
      by_bool true i = inr i
      by_bool false i = i

module _ {S E R : Type 0} (after : S → E → S) (reply : S → E → R) where
  -- what two parts of a history leave, one after the other
  pub leaves_append : (s : S) (xs ys : List (Entry E R)) → leaves after reply s (xs ++ ys) ≡ leaves after reply (leaves after reply s xs) ys
  leaves_append s [] ys = refl
  leaves_append s (x ∷ xs) ys = leaves_append (after s x.event) xs ys

  -- two legal parts, one after the other
  pub legal_append : (s : S) (xs ys : List (Entry E R)) → IsLegal after reply s xs → IsLegal after reply (leaves after reply s xs) ys → IsLegal after reply s (xs ++ ys)
  legal_append s [] ys a b = b
  legal_append s (x ∷ xs) ys a b = (a.0, legal_append (after s x.event) xs ys a.1 b)

  -- what a legal history begins with is legal
  pub legal_front : (s : S) (xs ys : List (Entry E R)) → IsLegal after reply s (xs ++ ys) → IsLegal after reply s xs
  legal_front s [] ys a = tt
  legal_front s (x ∷ xs) ys a = (a.0, legal_front (after s x.event) xs ys a.1)

  -- what follows in a legal history is legal from the state that its beginning leaves
  pub legal_back : (s : S) (xs ys : List (Entry E R)) → IsLegal after reply s (xs ++ ys) → IsLegal after reply (leaves after reply s xs) ys
  legal_back s [] ys a = a
  legal_back s (x ∷ xs) ys a = legal_back (after s x.event) xs ys a.1

  -- the same, as `StartsWith` says it
  pub legal_start : (s : S) (log seen : List (Entry E R)) → StartsWith log seen → IsLegal after reply s log → IsLegal after reply s seen
  legal_start s log seen t a = legal_front s seen t.0 (subst (IsLegal after reply s) t.1 a)

  -- one entry more, with the reply of the state that the history leaves
  pub legal_push : (s : S) (log : List (Entry E R)) (x : Entry E R) → IsLegal after reply s log → x.reply ≡ reply (leaves after reply s log) x.event → IsLegal after reply s (log ++ x ∷ [])
  legal_push s log x a e = legal_append s log (x ∷ []) a (e, tt)
