-- The places of names, as a node comes behind the others.
use Rattle.std.proofs.Common.{◌≡◌, ℕ, zero, suc, ◌<◌, ◌≤◌, ◌%◌, Bool, true, false, ◌&&◌, cond, List, [], ◌∷◌, ◌++◌, length, Option, Some, None, ◌⊎◌, inl, inr, refl, sym, ap, ◌∙◌, subst, arith, nat_eq}
use Rattle.std.specs.Prelude.{if◌then◌else◌, bytes_eq, slice_get, slice_index}
use Rattle.std.specs.Map.{update}
use Rattle.std.specs.Option.{is_some, option_or}
use Rattle.std.proofs.lemmas.Option.{slice_get_past, slice_get_within}
use Rattle.std.proofs.lemmas.Cmp.{nat_list_eq_equiv}
use Rattle.std.proofs.lemmas.Slice.Eq.{bytes_eq-Decides}
use Rattle.script_scopes.specs.declared.places.NamePlaces.{NamePlaces}
use Rattle.script_scopes.specs.Names.{Scope}
use Rattle.script_scopes.specs.Places.{place_in}
use Rattle.script_values.specs.declared.locals.Local.{Local}
use Rattle.script_values.specs.declared.nodes.NameNode.{NameNode}
use Rattle.script_values.specs.declared.nodes.End.{End}
use Rattle.script_values.specs.declared.nodes.End.TheVariants.{At, Free}
use Rattle.script_values.specs.LocalNames.{names_of}
use Rattle.script_values.specs.Nodes.{name_digest, node_of, stands_for, named_at, kid_of, way_end, place_end, place_found, GainsKid}
use Rattle.script_values.proofs.Ways.{kept_place, reaches, free_found, step_named, ends_nowhere}

eq_suc : (a b : ℕ) → nat_eq (suc a) (suc b) ≡ nat_eq a b
eq_suc a b = grind arith

zero_suc : (b : ℕ) → nat_eq 0 (suc b) ≡ false
zero_suc b = grind arith

suc_zero : (b : ℕ) → nat_eq (suc b) 0 ≡ false
suc_zero b = grind arith

-- one more in a list
get_more : {A : Type 0} (xs : List A) (x : A) (i : ℕ) → slice_get (xs ++ x ∷ []) i ≡ (if nat_eq i (length xs) then Some x else slice_get xs i)
get_more [] x zero = refl
get_more {A = A} [] x (suc i) = ap (λ (b : Bool). let none : Option A = None in if b then Some x else none) (sym (suc_zero i))
get_more (y ∷ ys) x zero = ap (λ (b : Bool). if b then Some x else Some y) (sym (zero_suc (length ys)))
get_more (y ∷ ys) x (suc i) = get_more ys x i ∙ ap (λ (b : Bool). if b then Some x else slice_get ys i) (sym (eq_suc i (length ys)))

kidless_at : (m : ℕ) → slice_index (0 ∷ 0 ∷ 0 ∷ 0 ∷ []) m ≡ 0
kidless_at zero = refl
kidless_at (suc zero) = refl
kidless_at (suc (suc zero)) = refl
kidless_at (suc (suc (suc zero))) = refl
kidless_at (suc (suc (suc (suc m)))) = refl

past : {A : Type 0} (xs : List A) (i : ℕ) → nat_eq i (length xs) ≡ true → slice_get xs i ≡ None
past xs i e =
    let is : i ≡ length xs = grind (arith, e) in
    let over : length xs ≤ i = omega (arith, is) in
    slice_get_past xs i over

pub some_at : {A : Type 0} (xs : List A) (i : ℕ) (o : Option A) → slice_get xs i ≡ o → is_some o ≡ true → i < length xs
some_at xs i None e there = absurd cc
some_at xs i (Some x) e there = slice_get_within xs i x e

and_false : (a b c : Bool) → c ≡ false → (a && (b && c)) ≡ false
and_false false b c e = refl
and_false true false c e = refl
and_false true true c e = e

self_eq : (n : ℕ) → nat_eq n n ≡ true
self_eq n = grind arith

and_true : (b c : Bool) → b ≡ true → c ≡ true → (b && c) ≡ true
and_true true true b c = refl
and_true true false b c = absurd cc
and_true false c b e = absurd cc

-- the node stands for its name
pub is_own : (digest : ℕ) (name : List ℕ) → stands_for (Some (node_of digest true)) (Some name) name digest ≡ true
is_own digest name = and_true (nat_eq digest digest) (bytes_eq name name) (self_eq digest) (nat_list_eq_equiv.refl name)

-- and for no other
pub not_other : (digest : ℕ) (linked : Bool) (name q : List ℕ) (dq : ℕ) → bytes_eq name q ≡ false → stands_for (Some (node_of digest linked)) (Some name) q dq ≡ false
not_other digest linked name q dq e = and_false linked (nat_eq digest dq) (bytes_eq name q) e

module _ (nodes : List NameNode) (names : Scope) (name : List ℕ) (digest : ℕ) (linked : Bool) (even : length nodes ≡ length names) where
  abbrev grown : List NameNode
  grown = nodes ++ node_of digest linked ∷ []

  abbrev more : Scope
  more = names ++ name ∷ []

  named_grown : (q : List ℕ) (dq i : ℕ) → named_at grown more q dq i ≡ (if nat_eq i (length nodes) then stands_for (Some (node_of digest linked)) (Some name) q dq else named_at nodes names q dq i)
  named_grown q dq i =
      ap (λ (o : Option NameNode). stands_for o (slice_get more i) q dq) (get_more nodes (node_of digest linked) i)
      ∙ ap (λ (o : Option (List ℕ)). stands_for (if nat_eq i (length nodes) then Some (node_of digest linked) else slice_get nodes i) o q dq) (get_more names name i)
      ∙ ap (λ (k : ℕ). stands_for (if nat_eq i (length nodes) then Some (node_of digest linked) else slice_get nodes i) (if nat_eq i k then Some name else slice_get names i) q dq) (sym even)
      ∙ elim (nat_eq i (length nodes)) as (λ b. stands_for (if b then Some (node_of digest linked) else slice_get nodes i) (if b then Some name else slice_get names i) q dq ≡ (if b then stands_for (Some (node_of digest linked)) (Some name) q dq else named_at nodes names q dq i)) [
        | true ↦ refl
        | false ↦ refl
      ]

  kid_at_case : (i rest : ℕ) (b : Bool) → nat_eq i (length nodes) ≡ b → kid_of (if b then Some (node_of digest linked) else slice_get nodes i) rest ≡ kid_of (slice_get nodes i) rest
  kid_at_case i rest true e = kidless_at (rest % 4) ∙ sym (ap (λ (o : Option NameNode). kid_of o rest) (past nodes i e))
  kid_at_case i rest false e = refl

  pub kid_grown : (i rest : ℕ) → kid_of (slice_get grown i) rest ≡ kid_of (slice_get nodes i) rest
  kid_grown i rest = ap (λ (o : Option NameNode). kid_of o rest) (get_more nodes (node_of digest linked) i) ∙ kid_at_case i rest (nat_eq i (length nodes)) refl

  unnamed_past : (q : List ℕ) (dq i : ℕ) → nat_eq i (length nodes) ≡ true → named_at nodes names q dq i ≡ false
  unnamed_past q dq i e = ap (λ (o : Option NameNode). stands_for o (slice_get names i) q dq) (past nodes i e)

  same_case : (q : List ℕ) (dq i : ℕ) (b : Bool) → nat_eq i (length nodes) ≡ b → stands_for (Some (node_of digest linked)) (Some name) q dq ≡ false → (if b then stands_for (Some (node_of digest linked)) (Some name) q dq else named_at nodes names q dq i) ≡ named_at nodes names q dq i
  same_case q dq i true e unlike = unlike ∙ sym (unnamed_past q dq i e)
  same_case q dq i false e unlike = refl

  pub same_named : (q : List ℕ) (dq : ℕ) → stands_for (Some (node_of digest linked)) (Some name) q dq ≡ false → (i : ℕ) → named_at grown more q dq i ≡ named_at nodes names q dq i
  same_named q dq unlike i = named_grown q dq i ∙ same_case q dq i (nat_eq i (length nodes)) refl unlike

  last_kid : (rest : ℕ) → kid_of (slice_get nodes (length nodes)) rest ≡ 0
  last_kid rest = ap (λ (o : Option NameNode). kid_of o rest) (past nodes (length nodes) (self_eq (length nodes)))

  -- a node that is no kid changes no place but its name's
  pub plain_place : (q : List ℕ) (dq : ℕ) → stands_for (Some (node_of digest linked)) (Some name) q dq ≡ false → place_end (way_end grown more q dq) ≡ place_end (way_end nodes names q dq)
  plain_place q dq unlike =
      kept_place (named_at nodes names q dq) (named_at grown more q dq) (slice_get nodes) (slice_get grown) (length nodes) (same_named q dq unlike) (same_named q dq unlike (length nodes) ∙ unnamed_past q dq (length nodes) (self_eq (length nodes))) (λ rest. kid_grown (length nodes) rest ∙ last_kid rest) (λ i rest. inl (kid_grown i rest)) 31 dq 0

  named_own : (i : ℕ) → nat_eq i (length nodes) ≡ true → linked ≡ true → named_at grown more name digest i ≡ true
  named_own i e is =
      named_grown name digest i
      ∙ ap (λ (b : Bool). if b then stands_for (Some (node_of digest linked)) (Some name) name digest else named_at nodes names name digest i) e
      ∙ ap (λ (l : Bool). stands_for (Some (node_of digest l)) (Some name) name digest) is
      ∙ is_own digest name

  -- the first node of all is found
  pub first_found : length nodes ≡ 0 → linked ≡ true → way_end grown more name digest ≡ At 0
  first_found none is =
      let here : nat_eq 0 (length nodes) ≡ true = grind (arith, none) in
      step_named (named_at grown more name digest) (slice_get grown) 31 digest 0 (named_own 0 here is)

  module _ (new : List NameNode) (p w : ℕ) (gains : GainsKid grown new p w (length nodes)) (end : way_end nodes names name digest ≡ Free p w) (is : linked ≡ true) where
    abbrev below : Type 0
    below = p < length nodes

    within : below
    within = some_at nodes p (slice_get nodes p) refl (free_found (named_at nodes names name digest) (slice_get nodes) p w 31 digest 0 end).there

    apart : nat_eq p (length nodes) ≡ false
    apart = let l : p < length nodes = within in grind (arith, l)

    aside : nat_eq (length nodes) p ≡ false
    aside = let l : p < length nodes = within in grind (arith, l)

    nonzero : nat_eq (length nodes) 0 ≡ false
    nonzero = let l : p < length nodes = within in grind (arith, l)

    named_case : (q : List ℕ) (dq i : ℕ) (b : Bool) → nat_eq i p ≡ b → named_at new more q dq i ≡ named_at grown more q dq i
    named_case q dq i true e =
        let at : i ≡ p = grind (arith, e) in
        ap (λ (j : ℕ). named_at new more q dq j) at ∙ gains.named (slice_get more p) q dq ∙ ap (λ (j : ℕ). named_at grown more q dq j) (sym at)
    named_case q dq i false e = ap (λ (o : Option NameNode). stands_for o (slice_get more i) q dq) (gains.kept i e)

    named_new : (q : List ℕ) (dq i : ℕ) → named_at new more q dq i ≡ named_at grown more q dq i
    named_new q dq i = named_case q dq i (nat_eq i p) refl

    gains_kid : (rest : ℕ) → rest % 4 ≡ w → kid_of (slice_get new p) rest ≡ length nodes
    gains_kid rest way =
        let same : nat_eq (rest % 4) w ≡ true = grind (arith, way) in
        gains.kids rest ∙ ap (λ (b : Bool). if b then length nodes else kid_of (slice_get grown p) rest) same

    abbrev SameOrNew : ℕ → ℕ → Type 0
    SameOrNew i rest = (kid_of (slice_get new i) rest ≡ kid_of (slice_get nodes i) rest) ⊎ ((kid_of (slice_get nodes i) rest ≡ 0) × (kid_of (slice_get new i) rest ≡ length nodes))

    parent_case : (rest : ℕ) (b : Bool) → nat_eq (rest % 4) w ≡ b → SameOrNew p rest
    parent_case rest true e =
        let way : rest % 4 ≡ w = grind (arith, e) in
        inr ((free_found (named_at nodes names name digest) (slice_get nodes) p w 31 digest 0 end).none rest way, gains_kid rest way)
    parent_case rest false e = inl (gains.kids rest ∙ ap (λ (b : Bool). if b then length nodes else kid_of (slice_get grown p) rest) e ∙ kid_grown p rest)

    kid_case : (i rest : ℕ) (b : Bool) → nat_eq i p ≡ b → SameOrNew i rest
    kid_case i rest true e =
        let at : p ≡ i = grind (arith, e) in
        subst (λ (j : ℕ). SameOrNew j rest) at (parent_case rest (nat_eq (rest % 4) w) refl)
    kid_case i rest false e = inl (ap (λ (o : Option NameNode). kid_of o rest) (gains.kept i e) ∙ kid_grown i rest)

    kids_new : (i rest : ℕ) → SameOrNew i rest
    kids_new i rest = kid_case i rest (nat_eq i p) refl

    -- a kid changes no place but its name's
    pub linked_place : (q : List ℕ) (dq : ℕ) → stands_for (Some (node_of digest linked)) (Some name) q dq ≡ false → place_end (way_end new more q dq) ≡ place_end (way_end nodes names q dq)
    linked_place q dq unlike =
        let n = length nodes in
        let same : (i : ℕ) → named_at new more q dq i ≡ named_at nodes names q dq i = λ i. named_new q dq i ∙ same_named q dq unlike i in
        kept_place (named_at nodes names q dq) (named_at new more q dq) (slice_get nodes) (slice_get new) n same (same n ∙ unnamed_past q dq n (self_eq n)) (λ rest. ap (λ (o : Option NameNode). kid_of o rest) (gains.kept n aside) ∙ kid_grown n rest ∙ last_kid rest) kids_new 31 dq 0

    -- which is found
    pub linked_found : way_end new more name digest ≡ At (length nodes)
    linked_found =
        let n = length nodes in
        reaches (named_at nodes names name digest) (named_at new more name digest) (slice_get nodes) (slice_get new) n p w (λ i other. named_new name digest i ∙ named_grown name digest i ∙ ap (λ (b : Bool). if b then stands_for (Some (node_of digest linked)) (Some name) name digest else named_at nodes names name digest i) other) (named_new name digest n ∙ named_own n (self_eq n) is) last_kid apart nonzero gains_kid kids_new 31 digest 0 end

-- a name gets a place, and each other keeps its own
noted_case : (f g : List ℕ → Option ℕ) (x : List ℕ) (n : ℕ) (q : List ℕ) (b : Bool) → bytes_eq x q ≡ b → g x ≡ Some n → (bytes_eq x q ≡ false → g q ≡ f q) → g q ≡ cond b (Some n) (f q)
noted_case f g x n q true e here others =
    let is : q ≡ x = sym ((bytes_eq-Decides x q).0 e) in
    ap g is ∙ here
noted_case f g x n q false e here others = others e

pub is_noted : (f g : List ℕ → Option ℕ) (x : List ℕ) (n : ℕ) → g x ≡ Some n → ((q : List ℕ) → bytes_eq x q ≡ false → g q ≡ f q) → (q : List ℕ) → g q ≡ update bytes_eq f x (Some n) q
is_noted f g x n here others q = noted_case f g x n q (bytes_eq x q) refl here (others q)

pub none_first : (o p : Option ℕ) → option_or o p ≡ None → o ≡ None
none_first None p e = refl
none_first (Some x) p e = absurd cc

module _ (nodes : List NameNode) (names : Scope) (others : NamePlaces) (name : List ℕ) (even : length nodes ≡ length names) where
  -- as a kid
  pub noted_link : (new : List NameNode) (p w : ℕ) → GainsKid (nodes ++ node_of (name_digest name) true ∷ []) new p w (length nodes) → way_end nodes names name (name_digest name) ≡ Free p w → (q : List ℕ) → place_found new (names ++ name ∷ []) others q ≡ update bytes_eq (place_found nodes names others) name (Some (length names)) q
  noted_link new p w gains end =
      let d = name_digest name in
      let here : place_found new (names ++ name ∷ []) others name ≡ Some (length names) =
      ap (λ (e : End). option_or (place_end e) (place_in others name)) (linked_found nodes names name d true even new p w gains end refl) ∙ ap (λ (n : ℕ). let o : Option ℕ = Some n in o) even
      in
      is_noted (place_found nodes names others) (place_found new (names ++ name ∷ []) others) name (length names) here (λ q other. ap (λ (o : Option ℕ). option_or o (place_in others q)) (linked_place nodes names name d true even new p w gains end refl q (name_digest q) (not_other d true name q (name_digest q) other)))

  -- as the first
  pub noted_first : length nodes ≡ 0 → (q : List ℕ) → place_found (nodes ++ node_of (name_digest name) true ∷ []) (names ++ name ∷ []) others q ≡ update bytes_eq (place_found nodes names others) name (Some (length names)) q
  noted_first none =
      let d = name_digest name in
      let new = nodes ++ node_of d true ∷ [] in
      let here : place_found new (names ++ name ∷ []) others name ≡ Some (length names) =
      ap (λ (e : End). option_or (place_end e) (place_in others name)) (first_found nodes names name d true even none refl) ∙ ap (λ (n : ℕ). let o : Option ℕ = Some n in o) (sym none ∙ even)
      in
      is_noted (place_found nodes names others) (place_found new (names ++ name ∷ []) others) name (length names) here (λ q other. ap (λ (o : Option ℕ). option_or o (place_in others q)) (plain_place nodes names name d true even q (name_digest q) (not_other d true name q (name_digest q) other)))

  -- in the map
  pub noted_other : (after : NamePlaces) → place_found nodes names others name ≡ None → ((q : List ℕ) → place_in after q ≡ update bytes_eq (place_in others) name (Some (length names)) q) → (q : List ℕ) → place_found (nodes ++ node_of (name_digest name) false ∷ []) (names ++ name ∷ []) after q ≡ update bytes_eq (place_found nodes names others) name (Some (length names)) q
  noted_other after none notes =
      let d = name_digest name in
      let new = nodes ++ node_of d false ∷ [] in
      let place : (q : List ℕ) → place_end (way_end new (names ++ name ∷ []) q (name_digest q)) ≡ place_end (way_end nodes names q (name_digest q)) = λ q. plain_place nodes names name d false even q (name_digest q) refl in
      let own : place_in after name ≡ Some (length names) = notes name ∙ ap (λ (b : Bool). cond b (Some (length names)) (place_in others name)) (nat_list_eq_equiv.refl name) in
      let here : place_found new (names ++ name ∷ []) after name ≡ Some (length names) =
      ap (λ (o : Option ℕ). option_or o (place_in after name)) (place name ∙ none_first (place_end (way_end nodes names name d)) (place_in others name) none) ∙ own
      in
      is_noted (place_found nodes names others) (place_found new (names ++ name ∷ []) after) name (length names) here (λ q other. ap (λ (o : Option ℕ). option_or o (place_in after q)) (place q) ∙ ap (λ (o : Option ℕ). option_or (place_end (way_end nodes names q (name_digest q))) o) (notes q ∙ ap (λ (b : Bool). cond b (Some (length names)) (place_in others q)) other))

  -- a local whose name has a place already
  pub kept_found : (digest : ℕ) (q : List ℕ) → place_found (nodes ++ node_of digest false ∷ []) (names ++ name ∷ []) others q ≡ place_found nodes names others q
  kept_found digest q = ap (λ (o : Option ℕ). option_or o (place_in others q)) (plain_place nodes names name digest false even q (name_digest q) refl)

-- what the code finds
pub found_here : (nodes : List NameNode) (names : Scope) (others : NamePlaces) (name : List ℕ) (digest : ℕ) (end : End) (place : Option ℕ) → digest ≡ name_digest name → end ≡ way_end nodes names name digest → place ≡ option_or (place_end end) (place_in others name) → place_found nodes names others name ≡ place
found_here nodes names others name digest end place d e p =
    ap (λ (k : ℕ). option_or (place_end (way_end nodes names name k)) (place_in others name)) (sym d)
    ∙ ap (λ (w : End). option_or (place_end w) (place_in others name)) (sym e)
    ∙ sym p

-- no locals
pub none_found : (others : NamePlaces) (name : List ℕ) → place_in others name ≡ None → place_found [] [] others name ≡ None
none_found others name none =
    ap (λ (e : End). option_or (place_end e) (place_in others name)) (ends_nowhere [] [] name (name_digest name) 31 (name_digest name) 0 30 (omega arith) refl) ∙ none

-- the same, of what it holds
pub found_held : (nodes nodes' : List NameNode) (list list' : List Local) (others : NamePlaces) (name : List ℕ) (digest : ℕ) (end : End) (place : Option ℕ) → nodes' ≡ nodes → list' ≡ list → digest ≡ name_digest name → end ≡ way_end nodes' (names_of list') name digest → place ≡ option_or (place_end end) (place_in others name) → place_found nodes (names_of list) others name ≡ place
found_held nodes nodes' list list' others name digest end place n l d e p =
    found_here nodes (names_of list) others name digest end place d (e ∙ ap (λ (k : List NameNode). way_end k (names_of list') name digest) n ∙ ap (λ (k : List Local). way_end nodes (names_of k) name digest) l) p
