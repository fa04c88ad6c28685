-- Each step keeps the rule on numbers.
use Rattle.std.proofs.Common.{◌≡◌, ◌≢◌, inl, inr, ⊎_elim, ℕ, zero, suc, List, [], ◌∷◌, ◌++◌, map, length, set, Option, None, Some, Bool, true, true≢false, refl, sym, ap, ◌∙◌, subst, arith, le_refl, length-set, eq-eqb, ne_eqb}
use Rattle.std.specs.Prelude.{cond, ◌==◌}
use mathlib.Core.Logic.{dite}
use mathlib.Core.Option.{some, some-injective, some-ne-none}
use mathlib.Core.List.{append_assoc}
use native.Mathlib.Decide.{ℕ_discrete}
use lib.ListN.{get_elem?}
use Rattle.atomic_table.proofs.Lists.{at_set, set_here, set_else, at_longer, at_last}
use Rattle.base_types.specs.Lists.{Member}
use Rattle.turn_cell.specs.declared.view.Entry.{Entry}
use Rattle.turn_cell.specs.declared.view.Kept.{Kept}
use Rattle.turn_cell.specs.declared.view.Hand.{Hand}
use Rattle.turn_cell.specs.History.{entries_of}
use Rattle.turn_cell.specs.Hands.{number_of, kept, first_hand, spent_hand, next_number, splitter_hand, split_off_hand, joined_hand, adding, Deals, Keeps, KeptAt, ToldAt, IsNumbered}
use Rattle.turn_cell.proofs.Lists.{at_push, at_inside, in_left, in_right, in_append, in_map, from_map}
use Rattle.turn_cell.proofs.Names.{decide, last_cases, not_longer, goes_on, same_some, some_not_none}
use Rattle.turn_cell.proofs.Histories.{entries_mine, entries_other}

-- at the opening the first pass's number alone was made, and the first seat keeps it
abbrev first_home : List ℕ → Option ℕ
first_home [] = Some 0
first_home (x ∷ xs) = None

abbrev Log : Type 0 → Type 0 → Type 0
Log E R = List (Entry E R)

abbrev Hands : Type 0 → Type 0 → Type 0
Hands E R = List (Hand E R)

module _ {E R : Type 0} where
  -- each seat's hand afterwards has what it had before
  Grows : Hands E R → Hands E R → Type 0
  Grows hands now = (k : ℕ) (g : Hand E R) → get_elem? hands k ≡ some g → (f : Hand E R) × (get_elem? now k ≡ some f) × (g.live ≡ true → f.live ≡ true) × ((n : List ℕ) → Keeps n g → Keeps n f) × ((n : List ℕ) → Member n g.split_off → Member n f.split_off)

  -- a number that a seat kept it still keeps
  kept_later : (hands now : Hands E R) → Grows hands now → (n : List ℕ) (j : ℕ) → KeptAt hands n j → KeptAt now n j
  unfolding Grows
  kept_later hands now more n j k = let f = more j k.0 k.1 in (f.0, f.1, f.2 k.2, f.3 n k.3)

  -- a split that a seat knew of it still knows of
  told_later : (hands now : Hands E R) → Grows hands now → (n : List ℕ) (j : ℕ) → ToldAt hands n j → ToldAt now n j
  unfolding Grows
  told_later hands now more n j k = let f = more j k.0 k.1 in (f.0, f.1, f.4 n k.2)

  -- one hand changed, and has what it had
  grows_set : (hands : Hands E R) (j : ℕ) (h w : Hand E R) → get_elem? hands j ≡ some h → (h.live ≡ true → w.live ≡ true) → ((n : List ℕ) → Keeps n h → Keeps n w) → ((n : List ℕ) → Member n h.split_off → Member n w.split_off) → Grows hands (set hands j w)
  unfolding Grows
  grows_set hands j h w at live has told k g e = dite (ℕ_discrete k j)
      (λ is. let same : h ≡ g = some-injective h g (sym at ∙ (ap (get_elem? hands) (sym is) ∙ e)) in
      (w, ap (get_elem? (set hands j w)) is ∙ set_here hands j w (at_inside hands j h at), (λ l. live (ap (λ (u : Hand E R). u.live) same ∙ l)), (λ n x. has n (subst (λ (u : Hand E R). Keeps n u) (sym same) x)), (λ n x. told n (subst (λ (u : Hand E R). Member n u.split_off) (sym same) x))))
      (λ ne. (g, set_else hands j k w ne ∙ e, (λ l. l), (λ n x. x), (λ n x. x)))

  -- the first pass alone
  pub starts_numbered : IsNumbered {E = E} {R = R} [] (first_hand ∷ [])
  starts_numbered = record { home = first_home; each = each; made = made; parent = parent; none_yet = λ n e. refl }
    where
      each : (j : ℕ) (h : Hand E R) → get_elem? (first_hand {E = E} {R = R} ∷ []) j ≡ some h → h.live ≡ true → Deals [] first_home j h
      each zero h e l = subst (λ (u : Hand E R). Deals [] first_home 0 u) (some-injective _ _ e) record { own = refl; calls = refl; unmade = λ i rest m. refl; keeps = λ k x. absurd x }
      each (suc j) h e l = absurd (some-ne-none h (sym e))

      made : (n : List ℕ) (j : ℕ) → first_home n ≡ Some j → KeptAt {E = E} {R = R} (first_hand ∷ []) n j
      made [] j e = (first_hand, ap (get_elem? (first_hand {E = E} {R = R} ∷ [])) (sym (same_some 0 j e)), refl, inl refl)
      made (x ∷ xs) j e = absurd (some_not_none j (sym e))

      parent : (p : List ℕ) (k j : ℕ) → first_home (p ++ k ∷ []) ≡ Some j → (i : ℕ) × (first_home p ≡ Some i) × ToldAt {E = E} {R = R} (first_hand ∷ []) (p ++ k ∷ []) i
      parent [] k j e = absurd (some_not_none j (sym e))
      parent (x ∷ xs) k j e = absurd (some_not_none j (sym e))

  -- a pass adds an entry of its own
  pub adds_numbered : (log : Log E R) (hands : Hands E R) (j : ℕ) (h : Hand E R) (e : Entry E R) → IsNumbered log hands → get_elem? hands j ≡ some h → h.live ≡ true → h.number ≡ e.by → IsNumbered (log ++ e ∷ []) (set hands j (adding h e))
  adds_numbered log hands j h e N at live by = record { home = N.home; each = each; made = λ n i x. kept_later hands now more n i (N.made n i x); parent = λ p k i x. let r = N.parent p k i x in (r.0, r.1, told_later hands now more (p ++ k ∷ []) r.0 r.2); none_yet = none_yet }
    where
      now : Hands E R
      now = set hands j (adding h e)

      more : Grows hands now
      more = grows_set hands j h (adding h e) at (λ l. l) (λ n x. x) (λ n x. x)

      D : Deals log N.home j h
      D = N.each j h at live

      other : (n : List ℕ) → n ≢ h.number → entries_of n (log ++ e ∷ []) ≡ entries_of n log
      other n ne = entries_other n log e (λ is. ne (is ∙ sym by))

      mine : Deals (log ++ e ∷ []) N.home j (adding h e)
      mine = record { own = D.own; calls = entries_mine h.number log e by ∙ ap (λ (l : Log E R). l ++ e ∷ []) D.calls; unmade = D.unmade; keeps = λ k x. let y = D.keeps k x in (y.0, other k.number y.2 ∙ y.1, y.2) }

      theirs : (k : ℕ) (g : Hand E R) → k ≢ j → get_elem? hands k ≡ some g → g.live ≡ true → Deals (log ++ e ∷ []) N.home k g
      theirs k g ne x l = let G = N.each k g x l in
          let apart : (n : List ℕ) → N.home n ≡ Some k → n ≢ h.number = λ n y is. ne (same_some k j (sym y ∙ (ap N.home is ∙ D.own))) in
          record { own = G.own; calls = other g.number (apart g.number G.own) ∙ G.calls; unmade = G.unmade; keeps = λ i y. let z = G.keeps i y in (z.0, other i.number (apart i.number z.0) ∙ z.1, z.2) }

      each : (k : ℕ) (g : Hand E R) → get_elem? now k ≡ some g → g.live ≡ true → Deals (log ++ e ∷ []) N.home k g
      each k g x l = ⊎_elim
          (λ (t : (k ≡ j) × (adding h e ≡ g)). subst (λ (u : ℕ × Hand E R). Deals (log ++ e ∷ []) N.home u.0 u.1) (λ i. (sym t.0 i, t.1 i)) mine)
          (λ (t : (k ≢ j) × (get_elem? hands k ≡ some g)). theirs k g t.0 t.1 l)
          (at_set hands j k (adding h e) g x)

      none_yet : (n : List ℕ) → N.home n ≡ None → entries_of n (log ++ e ∷ []) ≡ []
      none_yet n x = other n (λ is. some_not_none j (sym D.own ∙ (sym (ap N.home is) ∙ x))) ∙ N.none_yet n x

  -- a pass is split: the new seat has the next number
  pub splits_numbered : (log : Log E R) (hands : Hands E R) (j : ℕ) (h : Hand E R) → IsNumbered log hands → get_elem? hands j ≡ some h → h.live ≡ true → IsNumbered log (set hands j (splitter_hand h) ++ split_off_hand h ∷ [])
  unfolding Grows
  splits_numbered log hands j h N at live = record { home = home; each = each; made = made; parent = parent; none_yet = λ n x. N.none_yet n (older n x) }
    where
      c : List ℕ
      c = next_number h

      D : Deals log N.home j h
      D = N.each j h at live

      new : ℕ
      new = length hands

      pick : (n : List ℕ) → Dec (n ≡ c) → Option ℕ
      pick n (yes e) = Some new
      pick n (no e) = N.home n

      home : List ℕ → Option ℕ
      home n = pick n (decide n c)

      free : N.home c ≡ None
      free = D.unmade h.splits [] (le_refl h.splits)

      at_c : (n : List ℕ) → n ≡ c → home n ≡ Some new
      at_c n e = by_case (decide n c)
        where
          by_case : (d : Dec (n ≡ c)) → pick n d ≡ Some new
          by_case (yes e) = refl
          by_case (no ne) = absurd (ne e)

      else : (n : List ℕ) → n ≢ c → home n ≡ N.home n
      else n ne = by_case (decide n c)
        where
          by_case : (d : Dec (n ≡ c)) → pick n d ≡ N.home n
          by_case (yes e) = absurd (ne e)
          by_case (no ne) = refl

      kept_home : (n : List ℕ) (i : ℕ) → N.home n ≡ Some i → home n ≡ Some i
      kept_home n i x = else n (λ e. some_not_none i (sym x ∙ (ap N.home e ∙ free))) ∙ x

      older : (n : List ℕ) → home n ≡ None → N.home n ≡ None
      older n x = dite (decide n c) (λ e. absurd (some_not_none new (sym (at_c n e) ∙ x))) (λ ne. sym (else n ne) ∙ x)

      now : Hands E R
      now = set hands j (splitter_hand h) ++ split_off_hand h ∷ []

      more : Grows hands now
      more k g x = let f = grows_set hands j h (splitter_hand h) at (λ l. l) (λ n y. y) (λ n y. inr y) k g x in (f.0, at_longer (set hands j (splitter_hand h)) (split_off_hand h ∷ []) k f.0 f.1, f.2, f.3, f.4)

      last : get_elem? now new ≡ some (split_off_hand h)
      last = at_last (set hands j (splitter_hand h)) (split_off_hand h) new (length-set hands j (splitter_hand h))

      left : Deals log home j (splitter_hand h)
      left = record { own = kept_home h.number j D.own; calls = D.calls; unmade = λ i rest m. (else (h.number ++ i ∷ rest) (λ e. ⊎_elim (λ t. let same : i ≡ h.splits = t.1 in omega arith) (λ t. goes_on h.number i t.0 (sym t.1)) (last_cases h.number i rest h.number h.splits e))) ∙ D.unmade i rest (omega arith); keeps = λ k x. let y = D.keeps k x in (kept_home k.number j y.0, y.1, y.2) }

      right : Deals log home new (split_off_hand h)
      right = record { own = at_c c refl; calls = N.none_yet c free; unmade = λ i rest m. else (c ++ i ∷ rest) (goes_on c i rest) ∙ (ap N.home (append_assoc h.number (h.splits ∷ []) (i ∷ rest)) ∙ D.unmade h.splits (i ∷ rest) (le_refl h.splits)); keeps = λ k x. absurd x }

      theirs : (k : ℕ) (g : Hand E R) → k ≢ j → get_elem? hands k ≡ some g → g.live ≡ true → Deals log home k g
      theirs k g ne x l = let G = N.each k g x l in record { own = kept_home g.number k G.own; calls = G.calls; unmade = λ i rest m. (else (g.number ++ i ∷ rest) (λ e. ⊎_elim (λ t. ne (same_some k j (sym G.own ∙ (ap N.home t.0 ∙ D.own)))) (λ t. some_not_none j (sym D.own ∙ (ap N.home t.1 ∙ G.unmade i t.0 m))) (last_cases g.number i rest h.number h.splits e))) ∙ G.unmade i rest m; keeps = λ i y. let z = G.keeps i y in (kept_home i.number k z.0, z.1, z.2) }

      each : (k : ℕ) (g : Hand E R) → get_elem? now k ≡ some g → g.live ≡ true → Deals log home k g
      each k g x l = ⊎_elim
          (λ y. ⊎_elim
          (λ (t : (k ≡ j) × (splitter_hand h ≡ g)). subst (λ (u : ℕ × Hand E R). Deals log home u.0 u.1) (λ i. (sym t.0 i, t.1 i)) left)
          (λ (t : (k ≢ j) × (get_elem? hands k ≡ some g)). theirs k g t.0 t.1 l)
          (at_set hands j k (splitter_hand h) g y))
          (λ (t : (k ≡ length (set hands j (splitter_hand h))) × (split_off_hand h ≡ g)). subst (λ (u : ℕ × Hand E R). Deals log home u.0 u.1) (λ i. (sym (t.0 ∙ length-set hands j (splitter_hand h)) i, t.1 i)) right)
          (at_push (set hands j (splitter_hand h)) (split_off_hand h) g k x)

      made : (n : List ℕ) (i : ℕ) → home n ≡ Some i → KeptAt now n i
      made n i x = dite (decide n c)
          (λ e. let same : new ≡ i = same_some new i (sym (at_c n e) ∙ x) in (split_off_hand h, ap (get_elem? now) (sym same) ∙ last, live, inl e))
          (λ ne. kept_later hands now more n i (N.made n i (sym (else n ne) ∙ x)))

      parent : (p : List ℕ) (k i : ℕ) → home (p ++ k ∷ []) ≡ Some i → (m : ℕ) × (home p ≡ Some m) × ToldAt now (p ++ k ∷ []) m
      parent p k i x = dite (decide (p ++ k ∷ []) c)
          (λ e. ⊎_elim
          (λ t. (j, ap home t.0 ∙ kept_home h.number j D.own, (splitter_hand h, at_longer (set hands j (splitter_hand h)) (split_off_hand h ∷ []) j (splitter_hand h) (set_here hands j (splitter_hand h) (at_inside hands j h at)), inl e)))
          (λ t. absurd (not_longer h.number p k h.splits t.0 t.1 e))
          (last_cases p k [] h.number h.splits e))
          (λ ne. let r = N.parent p k i (sym (else (p ++ k ∷ []) ne) ∙ x) in (r.0, kept_home p r.0 r.1, told_later hands now more (p ++ k ∷ []) r.0 r.2))

  -- two passes are joined: the first keeps all that the second had, which is spent
  pub joins_numbered : (log : Log E R) (hands : Hands E R) (j o : ℕ) (h i : Hand E R) → IsNumbered log hands → get_elem? hands j ≡ some h → h.live ≡ true → o ≢ j → get_elem? hands o ≡ some i → i.live ≡ true
      → IsNumbered log (set (set hands j (joined_hand h i)) o spent_hand)
  unfolding Grows
  joins_numbered log hands j o h i N at live apart at_o live_o = record { home = home; each = each; made = made; parent = parent; none_yet = none_yet }
    where
      D : Deals log N.home j h
      D = N.each j h at live

      I : Deals log N.home o i
      I = N.each o i at_o live_o

      to : ℕ → ℕ
      to x = cond (x == o) j x

      moved : Option ℕ → Option ℕ
      moved None = None
      moved (Some x) = Some (to x)

      home : List ℕ → Option ℕ
      home n = moved (N.home n)

      to_o : (x : ℕ) → x ≡ o → to x ≡ j
      to_o x e = ap (λ (b : Bool). cond b j x) (eq-eqb x o e)

      to_else : (x : ℕ) → x ≢ o → to x ≡ x
      to_else x ne = ap (λ (b : Bool). cond b j x) (ne_eqb x o ne)

      home_of : (n : List ℕ) (x : ℕ) → N.home n ≡ Some x → home n ≡ Some (to x)
      home_of n x e = ap moved e

      home_j : (n : List ℕ) → N.home n ≡ Some j → home n ≡ Some j
      home_j n e = home_of n j e ∙ ap Some (to_else j (λ q. apart (sym q)))

      home_o : (n : List ℕ) → N.home n ≡ Some o → home n ≡ Some j
      home_o n e = home_of n o e ∙ ap Some (to_o o refl)

      came : (n : List ℕ) (x : ℕ) → home n ≡ Some x → (y : ℕ) × (N.home n ≡ Some y) × (to y ≡ x)
      came n x e = by_case (N.home n) refl
        where
          by_case : (m : Option ℕ) → N.home n ≡ m → (y : ℕ) × (N.home n ≡ Some y) × (to y ≡ x)
          by_case None q = absurd (some_not_none x (sym e ∙ ap moved q))
          by_case (Some y) q = (y, q, same_some (to y) x (sym (ap moved q) ∙ e))

      none_yet : (n : List ℕ) → home n ≡ None → entries_of n log ≡ []
      none_yet n e = by_case (N.home n) refl
        where
          by_case : (m : Option ℕ) → N.home n ≡ m → entries_of n log ≡ []
          by_case None q = N.none_yet n q
          by_case (Some y) q = absurd (some_not_none (to y) (sym (ap moved q) ∙ e))

      B : Hand E R
      B = joined_hand h i

      now : Hands E R
      now = set (set hands j B) o spent_hand

      now_j : get_elem? now j ≡ some B
      now_j = set_else (set hands j B) o j spent_hand (λ q. apart (sym q)) ∙ set_here hands j B (at_inside hands j h at)

      now_else : (k : ℕ) → k ≢ j → k ≢ o → get_elem? now k ≡ get_elem? hands k
      now_else k nj no' = set_else (set hands j B) o k spent_hand no' ∙ set_else hands j k B nj

      both : Deals log home j B
      both = record {
        own = home_j h.number D.own;
        calls = D.calls;
        unmade = λ k rest m. ap moved (D.unmade k rest m);
        keeps = λ k x. ⊎_elim
            (λ y. let z = D.keeps k y in (home_j k.number z.0, z.1, z.2))
            (λ y. ⊎_elim
            (λ (t : k ≡ kept i.number i.mine). subst (λ (u : Kept E R). (home u.number ≡ Some j) × (entries_of u.number log ≡ u.mine) × (u.number ≢ h.number)) (sym t)
            (home_o i.number I.own, I.calls, λ q. apart (same_some o j (sym I.own ∙ (ap N.home q ∙ D.own)))))
            (λ t. let z = I.keeps k t in (home_o k.number z.0, z.1, λ q. apart (same_some o j (sym z.0 ∙ (ap N.home q ∙ D.own)))))
            y)
            (in_append k h.joined (kept i.number i.mine ∷ i.joined) x);
      }

      theirs : (k : ℕ) (g : Hand E R) → k ≢ j → k ≢ o → get_elem? hands k ≡ some g → g.live ≡ true → Deals log home k g
      theirs k g nj ne x l = let G = N.each k g x l in
          let stay : (n : List ℕ) → N.home n ≡ Some k → home n ≡ Some k = λ n q. home_of n k q ∙ ap Some (to_else k ne) in
          record { own = stay g.number G.own; calls = G.calls; unmade = λ m rest y. ap moved (G.unmade m rest y); keeps = λ m y. let z = G.keeps m y in (stay m.number z.0, z.1, z.2) }

      each : (k : ℕ) (g : Hand E R) → get_elem? now k ≡ some g → g.live ≡ true → Deals log home k g
      each k g x l = ⊎_elim
          (λ (t : (k ≡ o) × (spent_hand ≡ g)). absurd (true≢false (sym l ∙ sym (ap (λ (u : Hand E R). u.live) t.1))))
          (λ (t : (k ≢ o) × (get_elem? (set hands j B) k ≡ some g)). ⊎_elim
          (λ (u : (k ≡ j) × (B ≡ g)). subst (λ (v : ℕ × Hand E R). Deals log home v.0 v.1) (λ m. (sym u.0 m, u.1 m)) both)
          (λ (u : (k ≢ j) × (get_elem? hands k ≡ some g)). theirs k g u.0 t.0 u.1 l)
          (at_set hands j k B g t.1))
          (at_set (set hands j B) o k spent_hand g x)

      in_both : (n : List ℕ) → Keeps n h → Keeps n B
      in_both n x = ⊎_elim inl (λ t. let m = from_map number_of n h.joined t in inr (subst (λ (q : List ℕ). Member q (map number_of B.joined)) m.2 (in_map number_of m.0 B.joined (in_left m.0 h.joined (kept i.number i.mine ∷ i.joined) m.1)))) x

      in_other : (n : List ℕ) → Keeps n i → Keeps n B
      in_other n x = ⊎_elim
          (λ t. inr (subst (λ (q : List ℕ). Member q (map number_of B.joined)) (sym t) (in_map number_of (kept i.number i.mine) B.joined (in_right (kept i.number i.mine) h.joined (kept i.number i.mine ∷ i.joined) (inl refl)))))
          (λ t. let m = from_map number_of n i.joined t in inr (subst (λ (q : List ℕ). Member q (map number_of B.joined)) m.2 (in_map number_of m.0 B.joined (in_right m.0 h.joined (kept i.number i.mine ∷ i.joined) (inr m.1)))))
          x

      made : (n : List ℕ) (x : ℕ) → home n ≡ Some x → KeptAt now n x
      made n x e = let y = came n x e in let K = N.made n y.0 y.1 in dite (ℕ_discrete y.0 o)
          (λ is. let same : K.0 ≡ i = some-injective K.0 i (sym K.1 ∙ (ap (get_elem? hands) is ∙ at_o)) in
          (B, ap (get_elem? now) (sym (sym (to_o y.0 is) ∙ y.2)) ∙ now_j, live, in_other n (subst (λ (u : Hand E R). Keeps n u) same K.3)))
          (λ ne. let there : y.0 ≡ x = sym (to_else y.0 ne) ∙ y.2 in dite (ℕ_discrete y.0 j)
          (λ is. let same : K.0 ≡ h = some-injective K.0 h (sym K.1 ∙ (ap (get_elem? hands) is ∙ at)) in
          (B, ap (get_elem? now) (sym there ∙ is) ∙ now_j, live, in_both n (subst (λ (u : Hand E R). Keeps n u) same K.3)))
          (λ nj. (K.0, ap (get_elem? now) (sym there) ∙ (now_else y.0 nj ne ∙ K.1), K.2, K.3)))

      parent : (p : List ℕ) (k x : ℕ) → home (p ++ k ∷ []) ≡ Some x → (m : ℕ) × (home p ≡ Some m) × ToldAt now (p ++ k ∷ []) m
      parent p k x e = let y = came (p ++ k ∷ []) x e in let r = N.parent p k y.0 y.1 in let t = r.2 in dite (ℕ_discrete r.0 o)
          (λ is. let same : t.0 ≡ i = some-injective t.0 i (sym t.1 ∙ (ap (get_elem? hands) is ∙ at_o)) in
          (j, home_o p (r.1 ∙ ap Some is), (B, now_j, in_right (p ++ k ∷ []) h.split_off i.split_off (subst (λ (u : Hand E R). Member (p ++ k ∷ []) u.split_off) same t.2))))
          (λ ne. dite (ℕ_discrete r.0 j)
          (λ is. let same : t.0 ≡ h = some-injective t.0 h (sym t.1 ∙ (ap (get_elem? hands) is ∙ at)) in
          (j, home_j p (r.1 ∙ ap Some is), (B, now_j, in_left (p ++ k ∷ []) h.split_off i.split_off (subst (λ (u : Hand E R). Member (p ++ k ∷ []) u.split_off) same t.2))))
          (λ nj. (r.0, home_of p r.0 r.1 ∙ ap Some (to_else r.0 ne), (t.0, now_else r.0 nj ne ∙ t.1, t.2))))
