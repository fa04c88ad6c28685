-- What a reader answers depends on nothing behind the token that stands next, or that it names; and what it has read
-- can be completed.
--
-- Readers come in pairs: a reader, and the same where one more brace, parenthesis or prefix operator may be open.
use Rattle.std.proofs.Common.{◌≡◌, ℕ, zero, suc, ◌<◌, ◌≤◌, ◌⊎◌, inl, inr, List, [], ◌∷◌, ◌++◌, None, Ok, Err, Bool, true, false, refl, sym, ap, subst, ◌∙◌, arith, append_assoc, length, length-append}
use Rattle.std.proofs.lemmas.List.{append-nil}
use Rattle.script_tree.specs.declared.expressions.Name.{Name}
use Rattle.script_lexer.specs.declared.faults.ParseFault.{ParseFault}
use Rattle.script_lexer.specs.declared.faults.ParseFault.TheVariants.{BadToken, Unexpected, TooDeep, Memory}
use Rattle.script_lexer.specs.declared.tokens.Spanned.{Spanned}
use Rattle.script_lexer.specs.declared.tokens.Token.{Token}
use Rattle.script_lexer.specs.declared.tokens.Token.TheVariants as token
use Rattle.script_lexer.specs.declared.tokens.Symbol.{Symbol}
use Rattle.script_lexer.specs.declared.tokens.Word.{Word}
use Rattle.script_expressions.specs.TokenReaders.{◌>>=◌, Part, Read}
use Rattle.script_expressions.specs.Tokens.{is_symbol, is_word, expected, expected_word, name_at, spelling_at}
use Rattle.script_expressions.specs.Expressions.{operator_at}
use Rattle.script_expressions.specs.Grammar.{IsSymbol, IsOperator}
use Rattle.script_expressions.proofs.Soundness.{symbol_is}
use Rattle.script_expressions.proofs.Completeness.{symbol_read, word_read}

-- the same token stands next, or none does
abbrev pub Alike : List Spanned → List Spanned → Type 0
Alike [] [] = Unit {0}
Alike [] (v ∷ vs) = ⊥
Alike (t ∷ ts) [] = ⊥
Alike (t ∷ ts) (v ∷ vs) = t ≡ v

alike_front : (pre ts vs : List Spanned) → Alike ts vs → Alike (pre ++ ts) (pre ++ vs)
alike_front [] ts vs h = h
alike_front (p ∷ pre) ts vs h = refl

-- what may stand next
abbrev pub Follow : Type 1
Follow = List Spanned → Type 0

abbrev pub Any : Follow
Any ws = Unit {0}

abbrev pub NoOperator : Follow
NoOperator ws = (tier : ℕ) → operator_at tier ws ≡ None

-- tokens that complete what was read
abbrev pub of_symbol : Symbol → Spanned
of_symbol s = record { token = token.Symbol s; at = 0 }

abbrev pub of_word : Word → Spanned
of_word w = record { token = token.Word w; at = 0 }

abbrev pub a_name : Spanned
a_name = record { token = token.Name []; at = 0 }

abbrev pub a_text : Spanned
a_text = record { token = token.Text []; at = 0 }

-- the fault names a token at this place
abbrev pub IsAt : ParseFault → ℕ → Type 0
IsAt (Unexpected place) at = place ≡ at
IsAt (TooDeep place) at = place ≡ at
IsAt (BadToken place) at = ⊥
IsAt Memory at = ⊥

-- a reader goes through where these tokens are completed
pub record Goes (A : Type 0) (After : Follow) (read : Read A) (front : List Spanned) : Type 0 where
  pub more : List Spanned
  pub part : A
  pub goes : (ws : List Spanned) → After ws → read (front ++ (more ++ ws)) ≡ Ok (part, ws)

-- the same from the first token on, with what that token is
pub record Canon (A : Type 0) (First After : Follow) (read : Read A) : Type 0 where
  pub more : List Spanned
  pub part : A
  pub starts : (ws : List Spanned) → After ws → First (more ++ ws)
  pub goes : (ws : List Spanned) → After ws → read (more ++ ws) ≡ Ok (part, ws)

from_start : (A : Type 0) (First After : Follow) (read : Read A) → Canon A First After read → Goes A After read []
from_start A First After read c = record { more = c.more; part = c.part; goes = c.goes }

-- what becomes of a token that is refused where one more may be open: it is refused there too; or, if it is too deep, it goes
-- through, or is an operator
abbrev pub Onward : (A : Type 0) → Follow → Read A → List Spanned → Spanned → ParseFault → Type 0
Onward A After deeper before t (TooDeep at) = Goes A After deeper (before ++ (t ∷ [])) ⊎ IsOperator t
Onward A After deeper before t (Unexpected at) = (vs : List Spanned) → deeper (before ++ (t ∷ vs)) ≡ Err (Unexpected at)
Onward A After deeper before t (BadToken at) = Unit {0}
Onward A After deeper before t Memory = Unit {0}

-- the same for a reader that answers as another
goes_same : (A : Type 0) (After : Follow) (f g : Read A) → ((ts : List Spanned) → f ts ≡ g ts) → (front : List Spanned) → Goes A After g front → Goes A After f front
goes_same A After f g eq front v = record { more = v.more; part = v.part; goes = λ ws h. eq (front ++ (v.more ++ ws)) ∙ v.goes ws h }

onward_by : (A : Type 0) (After : Follow) (f g : Read A) (before before' : List Spanned) (t : Spanned) (e : ParseFault) → (Goes A After g (before ++ (t ∷ [])) → Goes A After f (before' ++ (t ∷ []))) → ((vs : List Spanned) → f (before' ++ (t ∷ vs)) ≡ g (before ++ (t ∷ vs))) → Onward A After g before t e → Onward A After f before' t e
onward_by A After f g before before' t (TooDeep at) move eq (inl v) = inl (move v)
onward_by A After f g before before' t (TooDeep at) move eq (inr o) = inr o
onward_by A After f g before before' t (Unexpected at) move eq u = λ vs. eq vs ∙ u vs
onward_by A After f g before before' t (BadToken at) move eq u = tt
onward_by A After f g before before' t Memory move eq u = tt

-- a token is refused, whatever stands behind it
pub record Refused (A : Type 0) (After : Follow) (read deeper : Read A) (ts : List Spanned) (e : ParseFault) : Type 0 where
  pub before : List Spanned
  pub token : Spanned
  pub after : List Spanned
  pub is : ts ≡ before ++ (token ∷ after)
  pub place : IsAt e token.at
  pub always : (vs : List Spanned) → read (before ++ (token ∷ vs)) ≡ Err e
  pub begun : Goes A After deeper before
  pub onward : Onward A After deeper before token e

-- what was read stands in front, and is read in the same way before other tokens
pub record Kept (A : Type 0) (After : Follow) (read deeper : Read A) (ts : List Spanned) (y : A × List Spanned) : Type 0 where
  pub pre : List Spanned
  pub is : ts ≡ pre ++ y.1
  pub same : (vs : List Spanned) → Alike y.1 vs → read (pre ++ vs) ≡ Ok (y.0, vs)
  pub below : (vs : List Spanned) → Alike y.1 vs → deeper (pre ++ vs) ≡ Ok (y.0, vs)
  pub ends : (vs : List Spanned) → After vs → deeper (pre ++ vs) ≡ Ok (y.0, vs)

module _ (stop : ParseFault) where
  abbrev pub Split : (A : Type 0) → Follow → Read A → Read A → List Spanned → Part A → Type 0
  Split A After read deeper ts (Ok y) = Kept A After read deeper ts y
  Split A After read deeper ts (Err e) = ((e ≡ stop) × Goes A After deeper ts) ⊎ Refused A After read deeper ts e

  pub record Local (A : Type 0) (First After : Follow) (read deeper : Read A) : Type 0 where
    pub canon : Canon A First After deeper
    pub split : (ts : List Spanned) → Split A After read deeper ts (read ts)

  -- ---- one reader after another

  -- a part that is completed, then the next from its start
  goes_then : (A B : Type 0) (F G : Follow) (f : Read A) (g : A × List Spanned → Part B) (front : List Spanned) → Goes A F f front → ((a : A) → Canon B F G (λ m. g (a, m))) → Goes B G (λ m. f m >>= g) front
  goes_then A B F G f g front v canon =
      let c = canon v.part in
      record {
        more = v.more ++ c.more;
        part = c.part;
        goes = λ ws h.
            ap (λ (l : List Spanned). f (front ++ l) >>= g) (append_assoc v.more c.more ws) ∙ ap (λ (r : Part A). r >>= g) (v.goes (c.more ++ ws) (c.starts ws h)) ∙ c.goes ws h;
      }

  -- a part that was read, then a front of the next that is completed
  kept_goes : (A B : Type 0) (F G : Follow) (f f' : Read A) (g : A × List Spanned → Part B) (ts : List Spanned) (y : A × List Spanned) (k : Kept A F f f' ts y) (front rest : List Spanned) → y.1 ≡ front ++ rest
      → Canon B F G (λ m. g (y.0, m)) → Goes B G (λ m. g (y.0, m)) front → Goes B G (λ m. f' m >>= g) (k.pre ++ front)
  kept_goes A B F G f f' g ts y k [] rest is c v = record {
    more = c.more;
    part = c.part;
    goes = λ ws h.
        ap (λ (l : List Spanned). f' (l ++ (c.more ++ ws)) >>= g) (append-nil k.pre) ∙ ap (λ (r : Part A). r >>= g) (k.ends (c.more ++ ws) (c.starts ws h)) ∙ c.goes ws h;
  }
  kept_goes A B F G f f' g ts y k (p ∷ ps) rest is c v = record {
    more = v.more;
    part = v.part;
    goes = λ ws h.
        let al : Alike y.1 ((p ∷ ps) ++ (v.more ++ ws)) = subst (λ (l : List Spanned). Alike l ((p ∷ ps) ++ (v.more ++ ws))) (sym is) refl in
        ap (λ (l : List Spanned). f' l >>= g) (append_assoc k.pre (p ∷ ps) (v.more ++ ws)) ∙ ap (λ (r : Part A). r >>= g) (k.below ((p ∷ ps) ++ (v.more ++ ws)) al) ∙ v.goes ws h;
  }

  -- how what may follow the second part may follow the first: it may, or the second takes a token
  abbrev pub Narrow : (A B : Type 0) → Follow → Follow → (A × List Spanned → Part B) → Type 0
  Narrow A B F G g = (y : A × List Spanned) (z : B × List Spanned) → g y ≡ Ok z → ((ws : List Spanned) → G ws → F ws) ⊎ (length z.1 < length y.1)

  kept_ends : (A : Type 0) (F G : Follow) (f f' : Read A) (ts : List Spanned) (y : A × List Spanned) (k : Kept A F f f' ts y) (front rest : List Spanned) → y.1 ≡ front ++ rest
      → ((ws : List Spanned) → G ws → F ws) ⊎ (length rest < length y.1) → (vs : List Spanned) → G vs → f' (k.pre ++ (front ++ vs)) ≡ Ok (y.0, front ++ vs)
  kept_ends A F G f f' ts y k [] rest is (inl n) vs h = k.ends vs (n vs h)
  kept_ends A F G f f' ts y k [] rest is (inr less) vs h = absurd (let same : length y.1 ≡ length rest = ap length is in omega arith)
  kept_ends A F G f f' ts y k (p ∷ ps) rest is n vs h = k.below ((p ∷ ps) ++ vs) (subst (λ (l : List Spanned). Alike l ((p ∷ ps) ++ vs)) (sym is) refl)

  onward_second : (A B : Type 0) (F G : Follow) (f f' : Read A) (g : A × List Spanned → Part B) (ts : List Spanned) (y : A × List Spanned) (k : Kept A F f f' ts y) (before after : List Spanned) (t : Spanned) (e : ParseFault) → y.1 ≡ before ++ (t ∷ after)
      → Canon B F G (λ m. g (y.0, m)) → Onward B G (λ m. g (y.0, m)) before t e → Onward B G (λ m. f' m >>= g) (k.pre ++ before) t e
  onward_second A B F G f f' g ts y k before after t (TooDeep at) is c (inr o) = inr o
  onward_second A B F G f f' g ts y k before after t (TooDeep at) is c (inl v) =
      inl (subst (λ (l : List Spanned). Goes B G (λ m. f' m >>= g) l) (sym (append_assoc k.pre before (t ∷ []))) (kept_goes A B F G f f' g ts y k (before ++ (t ∷ [])) after (is ∙ sym (append_assoc before (t ∷ []) after)) c v))
  onward_second A B F G f f' g ts y k before after t (Unexpected at) is c u =
      λ vs.
      let al : Alike y.1 (before ++ (t ∷ vs)) = subst (λ (l : List Spanned). Alike l (before ++ (t ∷ vs))) (sym is) (alike_front before (t ∷ after) (t ∷ vs) refl) in
      ap (λ (l : List Spanned). f' l >>= g) (append_assoc k.pre before (t ∷ vs)) ∙ ap (λ (r : Part A). r >>= g) (k.below (before ++ (t ∷ vs)) al) ∙ u vs
  onward_second A B F G f f' g ts y k before after t (BadToken at) is c u = tt
  onward_second A B F G f f' g ts y k before after t Memory is c u = tt

  second : (A B : Type 0) (F G : Follow) (f f' : Read A) (g g' : A × List Spanned → Part B) (ts : List Spanned) (y : A × List Spanned) → (k : Kept A F f f' ts y) → Canon B F G (λ m. g' (y.0, m))
      → (r : Part B) → ((z : B × List Spanned) → r ≡ Ok z → ((ws : List Spanned) → G ws → F ws) ⊎ (length z.1 < length y.1)) → Split B G (λ m. g (y.0, m)) (λ m. g' (y.0, m)) y.1 r → Split B G (λ m. f m >>= g) (λ m. f' m >>= g') ts r
  second A B F G f f' g g' ts y k c (Ok z) narrow s = record {
    pre = k.pre ++ s.pre;
    is = k.is ∙ ap (λ (l : List Spanned). k.pre ++ l) s.is ∙ sym (append_assoc k.pre s.pre z.1);
    same = λ vs al.
        let al' : Alike y.1 (s.pre ++ vs) = subst (λ (l : List Spanned). Alike l (s.pre ++ vs)) (sym s.is) (alike_front s.pre z.1 vs al) in
        ap (λ (l : List Spanned). f l >>= g) (append_assoc k.pre s.pre vs) ∙ ap (λ (r : Part A). r >>= g) (k.same (s.pre ++ vs) al') ∙ s.same vs al;
    below = λ vs al.
        let al' : Alike y.1 (s.pre ++ vs) = subst (λ (l : List Spanned). Alike l (s.pre ++ vs)) (sym s.is) (alike_front s.pre z.1 vs al) in
        ap (λ (l : List Spanned). f' l >>= g') (append_assoc k.pre s.pre vs) ∙ ap (λ (r : Part A). r >>= g') (k.below (s.pre ++ vs) al') ∙ s.below vs al;
    ends = λ vs h. ap (λ (l : List Spanned). f' l >>= g') (append_assoc k.pre s.pre vs) ∙ ap (λ (r : Part A). r >>= g') (kept_ends A F G f f' ts y k s.pre z.1 s.is (narrow z refl) vs h) ∙ s.ends vs h;
  }
  second A B F G f f' g g' ts y k c (Err e) narrow (inl h) =
      inl (h.0, subst (λ (l : List Spanned). Goes B G (λ m. f' m >>= g') l) (sym k.is) (kept_goes A B F G f f' g' ts y k y.1 [] (sym (append-nil y.1)) c h.1))
  second A B F G f f' g g' ts y k c (Err e) narrow (inr s) = inr (record {
    before = k.pre ++ s.before;
    token = s.token;
    after = s.after;
    is = k.is ∙ ap (λ (l : List Spanned). k.pre ++ l) s.is ∙ sym (append_assoc k.pre s.before (s.token ∷ s.after));
    place = s.place;
    always = λ vs.
        let al : Alike y.1 (s.before ++ (s.token ∷ vs)) = subst (λ (l : List Spanned). Alike l (s.before ++ (s.token ∷ vs))) (sym s.is) (alike_front s.before (s.token ∷ s.after) (s.token ∷ vs) refl) in
        ap (λ (l : List Spanned). f l >>= g) (append_assoc k.pre s.before (s.token ∷ vs)) ∙ ap (λ (r : Part A). r >>= g) (k.same (s.before ++ (s.token ∷ vs)) al) ∙ s.always vs;
    begun = kept_goes A B F G f f' g' ts y k s.before (s.token ∷ s.after) s.is c s.begun;
    onward = onward_second A B F G f f' g' ts y k s.before s.after s.token e s.is c s.onward;
  })

  onward_first : (A B : Type 0) (F G : Follow) (f : Read A) (g : A × List Spanned → Part B) (front : List Spanned) (t : Spanned) (e : ParseFault) → ((a : A) → Canon B F G (λ m. g (a, m))) → Onward A F f front t e → Onward B G (λ m. f m >>= g) front t e
  onward_first A B F G f g front t (TooDeep at) c (inl v) = inl (goes_then A B F G f g (front ++ (t ∷ [])) v c)
  onward_first A B F G f g front t (TooDeep at) c (inr o) = inr o
  onward_first A B F G f g front t (Unexpected at) c u = λ vs. ap (λ (r : Part A). r >>= g) (u vs)
  onward_first A B F G f g front t (BadToken at) c u = tt
  onward_first A B F G f g front t Memory c u = tt

  pub then_at : (A B : Type 0) (F G : Follow) (f f' : Read A) (g g' : A × List Spanned → Part B) (ts : List Spanned) → ((a : A) → Canon B F G (λ m. g' (a, m)))
      → ((y : A × List Spanned) (z : B × List Spanned) → f ts ≡ Ok y → g y ≡ Ok z → ((ws : List Spanned) → G ws → F ws) ⊎ (length z.1 < length y.1))
      → ((y : A × List Spanned) → f ts ≡ Ok y → Split B G (λ m. g (y.0, m)) (λ m. g' (y.0, m)) y.1 (g y))
      → (r : Part A) → f ts ≡ r → Split A F f f' ts r → Split B G (λ m. f m >>= g) (λ m. f' m >>= g') ts (r >>= g)
  then_at A B F G f f' g g' ts c narrow more (Ok y) e k = second A B F G f f' g g' ts y k (c y.0) (g y) (λ z h. narrow y z e h) (more y e)
  then_at A B F G f f' g g' ts c narrow more (Err x) e (inl h) = inl (h.0, goes_then A B F G f' g' ts h.1 c)
  then_at A B F G f f' g g' ts c narrow more (Err x) e (inr s) = inr (record {
    before = s.before;
    token = s.token;
    after = s.after;
    is = s.is;
    place = s.place;
    always = λ vs. ap (λ (r : Part A). r >>= g) (s.always vs);
    begun = goes_then A B F G f' g' s.before s.begun c;
    onward = onward_first A B F G f' g' s.before s.token x c s.onward;
  })

  pub canon_then : (A B : Type 0) (First F G : Follow) (f : Read A) (g : A × List Spanned → Part B) → Canon A First F f → ((a : A) → Canon B F G (λ m. g (a, m))) → Canon B First G (λ m. f m >>= g)
  canon_then A B First F G f g v canon =
      let c = canon v.part in
      record {
        more = v.more ++ c.more;
        part = c.part;
        starts = λ ws h. subst First (sym (append_assoc v.more c.more ws)) (v.starts (c.more ++ ws) (c.starts ws h));
        goes = λ ws h. ap (λ (l : List Spanned). f l >>= g) (append_assoc v.more c.more ws) ∙ ap (λ (r : Part A). r >>= g) (v.goes (c.more ++ ws) (c.starts ws h)) ∙ c.goes ws h;
      }

  pub then_local : (A B : Type 0) (First F G : Follow) (f f' : Read A) (g g' : A × List Spanned → Part B) → Narrow A B F G g → Local A First F f f' → ((a : A) → Local B F G (λ m. g (a, m)) (λ m. g' (a, m))) → Local B First G (λ m. f m >>= g) (λ m. f' m >>= g')
  then_local A B First F G f f' g g' narrow first more = record {
    canon = canon_then A B First F G f' g' first.canon (λ a. (more a).canon);
    split = λ ts. then_at A B F G f f' g g' ts (λ a. (more a).canon) (λ y z e h. narrow y z h) (λ y e. (more y.0).split y.1) (f ts) refl (first.split ts);
  }

  pub done_canon : (A : Type 0) (First After : Follow) → ((ws : List Spanned) → After ws → First ws) → (a : A) → Canon A First After (λ m. Ok (a, m))
  done_canon A First After sub a = record { more = []; part = a; starts = sub; goes = λ ws h. refl }

  pub done_split : (A : Type 0) (After : Follow) (a : A) (ts : List Spanned) → Split A After (λ m. Ok (a, m)) (λ m. Ok (a, m)) ts (Ok (a, ts))
  done_split A After a ts = record { pre = []; is = refl; same = λ vs al. refl; below = λ vs al. refl; ends = λ vs h. refl }

  pub done_local : (A : Type 0) (First After : Follow) → ((ws : List Spanned) → After ws → First ws) → (a : A) → Local A First After (λ m. Ok (a, m)) (λ m. Ok (a, m))
  done_local A First After sub a = record { canon = done_canon A First After sub a; split = done_split A After a }

  -- ---- readers that go by the token that stands next

  -- a pair of readers that answer as another pair
  pub split_same : (A : Type 0) (After : Follow) (f f' g g' : Read A) → ((ts : List Spanned) → f ts ≡ g ts) → ((ts : List Spanned) → f' ts ≡ g' ts) → (ts : List Spanned) (r : Part A) → Split A After g g' ts r → Split A After f f' ts r
  split_same A After f f' g g' eq eq' ts (Ok y) s = record { pre = s.pre; is = s.is; same = λ vs al. eq (s.pre ++ vs) ∙ s.same vs al; below = λ vs al. eq' (s.pre ++ vs) ∙ s.below vs al; ends = λ vs h. eq' (s.pre ++ vs) ∙ s.ends vs h }
  split_same A After f f' g g' eq eq' ts (Err e) (inl h) = inl (h.0, goes_same A After f' g' eq' ts h.1)
  split_same A After f f' g g' eq eq' ts (Err e) (inr s) = inr (record {
    before = s.before;
    token = s.token;
    after = s.after;
    is = s.is;
    place = s.place;
    always = λ vs. eq (s.before ++ (s.token ∷ vs)) ∙ s.always vs;
    begun = goes_same A After f' g' eq' s.before s.begun;
    onward = onward_by A After f' g' s.before s.before s.token e (goes_same A After f' g' eq' (s.before ++ (s.token ∷ []))) (λ vs. eq' (s.before ++ (s.token ∷ vs))) s.onward;
  })

  -- readers that agree where this token stands next
  goes_first : (A : Type 0) (First After : Follow) (f g : Read A) (t : Spanned) (ts : List Spanned) → ((vs : List Spanned) → f (t ∷ vs) ≡ g (t ∷ vs)) → Canon A First After f → (front rest : List Spanned) → t ∷ ts ≡ front ++ rest → Goes A After g front → Goes A After f front
  goes_first A First After f g t ts eq c [] rest is v = from_start A First After f c
  goes_first A First After f g t ts eq c (p ∷ ps) rest is v =
      let same : t ≡ p = cc in
      record { more = v.more; part = v.part; goes = λ ws h. subst (λ (x : Spanned). f (x ∷ (ps ++ (v.more ++ ws))) ≡ g (x ∷ (ps ++ (v.more ++ ws)))) same (eq (ps ++ (v.more ++ ws))) ∙ v.goes ws h }

  agree : (A : Type 0) (f g : Read A) (t : Spanned) (ts : List Spanned) → ((vs : List Spanned) → f (t ∷ vs) ≡ g (t ∷ vs)) → (pre rest : List Spanned) → t ∷ ts ≡ pre ++ rest → (vs : List Spanned) → Alike rest vs → f (pre ++ vs) ≡ g (pre ++ vs)
  agree A f g t ts eq [] [] is vs al = absurd (let clash : t ∷ ts ≡ [] = is in cc)
  agree A f g t ts eq [] (r ∷ rest) is [] al = absurd al
  agree A f g t ts eq [] (r ∷ rest) is (v ∷ vs) al = let same : t ≡ v = cc in subst (λ (x : Spanned). f (x ∷ vs) ≡ g (x ∷ vs)) same (eq vs)
  agree A f g t ts eq (p ∷ pre) rest is vs al = let same : t ≡ p = cc in subst (λ (x : Spanned). f (x ∷ (pre ++ vs)) ≡ g (x ∷ (pre ++ vs))) same (eq (pre ++ vs))

  agree_past : (A : Type 0) (f g : Read A) (t : Spanned) (ts : List Spanned) → ((vs : List Spanned) → f (t ∷ vs) ≡ g (t ∷ vs)) → (pre rest : List Spanned) → t ∷ ts ≡ pre ++ rest → length rest < length (t ∷ ts) → (vs : List Spanned) → f (pre ++ vs) ≡ g (pre ++ vs)
  agree_past A f g t ts eq [] rest is less vs = absurd (let size : length (t ∷ ts) ≡ length rest = ap length is in omega arith)
  agree_past A f g t ts eq (p ∷ pre) rest is less vs = let same : t ≡ p = cc in subst (λ (x : Spanned). f (x ∷ (pre ++ vs)) ≡ g (x ∷ (pre ++ vs))) same (eq (pre ++ vs))

  kept_on : (A : Type 0) (First After : Follow) (f f' g g' : Read A) (t : Spanned) (ts : List Spanned) → ((vs : List Spanned) → f (t ∷ vs) ≡ g (t ∷ vs)) → ((vs : List Spanned) → f' (t ∷ vs) ≡ g' (t ∷ vs)) → Canon A First After f'
      → (r : Part A) → ((y : A × List Spanned) → r ≡ Ok y → length y.1 < length (t ∷ ts)) → Split A After g g' (t ∷ ts) r → Split A After f f' (t ∷ ts) r
  kept_on A First After f f' g g' t ts eq eq' c (Ok y) eats s = record {
    pre = s.pre;
    is = s.is;
    same = λ vs al. agree A f g t ts eq s.pre y.1 s.is vs al ∙ s.same vs al;
    below = λ vs al. agree A f' g' t ts eq' s.pre y.1 s.is vs al ∙ s.below vs al;
    ends = λ vs h. agree_past A f' g' t ts eq' s.pre y.1 s.is (eats y refl) vs ∙ s.ends vs h;
  }
  kept_on A First After f f' g g' t ts eq eq' c (Err e) eats (inl h) = inl (h.0, goes_first A First After f' g' t ts eq' c (t ∷ ts) [] (sym (append-nil (t ∷ ts))) h.1)
  kept_on A First After f f' g g' t ts eq eq' c (Err e) eats (inr s) =
      let split : t ∷ ts ≡ (s.before ++ (s.token ∷ [])) ++ s.after = s.is ∙ sym (append_assoc s.before (s.token ∷ []) s.after) in
      inr (record {
        before = s.before;
        token = s.token;
        after = s.after;
        is = s.is;
        place = s.place;
        always = λ vs. agree A f g t ts eq s.before (s.token ∷ s.after) s.is (s.token ∷ vs) refl ∙ s.always vs;
        begun = goes_first A First After f' g' t ts eq' c s.before (s.token ∷ s.after) s.is s.begun;
        onward = onward_by A After f' g' s.before s.before s.token e (goes_first A First After f' g' t ts eq' c (s.before ++ (s.token ∷ [])) s.after split) (λ vs. agree A f' g' t ts eq' s.before (s.token ∷ s.after) s.is (s.token ∷ vs) refl) s.onward;
      })

  goes_past : (A : Type 0) (After : Follow) (f g : Read A) (t : Spanned) → ((vs : List Spanned) → f (t ∷ vs) ≡ g vs) → (front : List Spanned) → Goes A After g front → Goes A After f (t ∷ front)
  goes_past A After f g t eq front v = record { more = v.more; part = v.part; goes = λ ws h. eq (front ++ (v.more ++ ws)) ∙ v.goes ws h }

  past_token : (A : Type 0) (After : Follow) (f f' g g' : Read A) (t : Spanned) (ts : List Spanned) → ((vs : List Spanned) → f (t ∷ vs) ≡ g vs) → ((vs : List Spanned) → f' (t ∷ vs) ≡ g' vs) → (r : Part A) → Split A After g g' ts r → Split A After f f' (t ∷ ts) r
  past_token A After f f' g g' t ts eq eq' (Ok y) s = record { pre = t ∷ s.pre; is = ap (λ (l : List Spanned). t ∷ l) s.is; same = λ vs al. eq (s.pre ++ vs) ∙ s.same vs al; below = λ vs al. eq' (s.pre ++ vs) ∙ s.below vs al; ends = λ vs h. eq' (s.pre ++ vs) ∙ s.ends vs h }
  past_token A After f f' g g' t ts eq eq' (Err e) (inl h) = inl (h.0, goes_past A After f' g' t eq' ts h.1)
  past_token A After f f' g g' t ts eq eq' (Err e) (inr s) = inr (record {
    before = t ∷ s.before;
    token = s.token;
    after = s.after;
    is = ap (λ (l : List Spanned). t ∷ l) s.is;
    place = s.place;
    always = λ vs. eq (s.before ++ (s.token ∷ vs)) ∙ s.always vs;
    begun = goes_past A After f' g' t eq' s.before s.begun;
    onward = onward_by A After f' g' s.before (t ∷ s.before) s.token e (goes_past A After f' g' t eq' (s.before ++ (s.token ∷ []))) (λ vs. eq' (s.before ++ (s.token ∷ vs))) s.onward;
  })

  -- what a pair of readers does where this token stands next: it leaves it, goes on with it or behind it, or refuses it
  pub data Step (A : Type 0) (After : Follow) (f f' : Read A) (t : Spanned) (ts : List Spanned) : Type 0 where
    leaves : (a : A) → ((vs : List Spanned) → f (t ∷ vs) ≡ Ok (a, t ∷ vs)) → ((vs : List Spanned) → f' (t ∷ vs) ≡ Ok (a, t ∷ vs)) → ((vs : List Spanned) → After vs → f' vs ≡ Ok (a, vs)) → Step A After f f' t ts
    keeps : (g g' : Read A) → Split A After g g' (t ∷ ts) (g (t ∷ ts)) → ((y : A × List Spanned) → g (t ∷ ts) ≡ Ok y → length y.1 < length (t ∷ ts)) → ((vs : List Spanned) → f (t ∷ vs) ≡ g (t ∷ vs)) → ((vs : List Spanned) → f' (t ∷ vs) ≡ g' (t ∷ vs)) → Step A After f f' t ts
    takes : (g g' : Read A) → Split A After g g' ts (g ts) → ((vs : List Spanned) → f (t ∷ vs) ≡ g vs) → ((vs : List Spanned) → f' (t ∷ vs) ≡ g' vs) → Step A After f f' t ts
    refuses : (e : ParseFault) → IsAt e t.at → ((vs : List Spanned) → f (t ∷ vs) ≡ Err e) → Onward A After f' [] t e → Step A After f f' t ts

  still : (A : Type 0) (f : Read A) (t : Spanned) (a : A) → ((vs : List Spanned) → f (t ∷ vs) ≡ Ok (a, t ∷ vs)) → (ts vs : List Spanned) → Alike (t ∷ ts) vs → f vs ≡ Ok (a, vs)
  still A f t a eq ts [] al = absurd al
  still A f t a eq ts (v ∷ vs) al = subst (λ (x : Spanned). f (x ∷ vs) ≡ Ok (a, x ∷ vs)) al (eq vs)

  pub step_at : (A : Type 0) (First After : Follow) (f f' : Read A) (t : Spanned) (ts : List Spanned) → Canon A First After f' → Step A After f f' t ts → Split A After f f' (t ∷ ts) (f (t ∷ ts))
  step_at A First After f f' t ts c (leaves a eq eq' ends) =
      subst (λ (r : Part A). Split A After f f' (t ∷ ts) r) (sym (eq ts)) (record { pre = []; is = refl; same = λ vs al. still A f t a eq ts vs al; below = λ vs al. still A f' t a eq' ts vs al; ends = ends })
  step_at A First After f f' t ts c (keeps g g' split eats eq eq') =
      subst (λ (r : Part A). Split A After f f' (t ∷ ts) r) (sym (eq ts)) (kept_on A First After f f' g g' t ts eq eq' c (g (t ∷ ts)) eats split)
  step_at A First After f f' t ts c (takes g g' split eq eq') = subst (λ (r : Part A). Split A After f f' (t ∷ ts) r) (sym (eq ts)) (past_token A After f f' g g' t ts eq eq' (g ts) split)
  step_at A First After f f' t ts c (refuses e at eq onward) =
      subst (λ (r : Part A). Split A After f f' (t ∷ ts) r) (sym (eq ts)) (inr (record { before = []; token = t; after = ts; is = refl; place = at; always = eq; begun = from_start A First After f' c; onward = onward }))

  -- where the tokens run out: it answers their end, or is done
  pub data AtEnd (A : Type 0) (After : Follow) (f f' : Read A) : Type 0 where
    stops : f [] ≡ Err stop → AtEnd A After f f'
    ends : (a : A) → f [] ≡ Ok (a, []) → f' [] ≡ Ok (a, []) → ((vs : List Spanned) → After vs → f' vs ≡ Ok (a, vs)) → AtEnd A After f f'

  only_nil : (A : Type 0) (f : Read A) (a : A) → f [] ≡ Ok (a, []) → (vs : List Spanned) → Alike [] vs → f vs ≡ Ok (a, vs)
  only_nil A f a e [] al = e
  only_nil A f a e (v ∷ vs) al = absurd al

  pub end_at : (A : Type 0) (First After : Follow) (f f' : Read A) → Canon A First After f' → AtEnd A After f f' → Split A After f f' [] (f [])
  end_at A First After f f' c (stops eq) = subst (λ (r : Part A). Split A After f f' [] r) (sym eq) (inl (refl, from_start A First After f' c))
  end_at A First After f f' c (ends a eq eq' goes) =
      subst (λ (r : Part A). Split A After f f' [] r) (sym eq) (record { pre = []; is = refl; same = λ vs al. only_nil A f a eq vs al; below = λ vs al. only_nil A f' a eq' vs al; ends = goes })

  next_at : (A : Type 0) (First After : Follow) (f f' : Read A) → Canon A First After f' → AtEnd A After f f' → ((t : Spanned) (ts : List Spanned) → Step A After f f' t ts) → (ts : List Spanned) → Split A After f f' ts (f ts)
  next_at A First After f f' c end step [] = end_at A First After f f' c end
  next_at A First After f f' c end step (t ∷ ts) = step_at A First After f f' t ts c (step t ts)

  pub by_next : (A : Type 0) (First After : Follow) (f f' : Read A) → Canon A First After f' → AtEnd A After f f' → ((t : Spanned) (ts : List Spanned) → Step A After f f' t ts) → Local A First After f f'
  by_next A First After f f' c end step = record { canon = c; split = next_at A First After f f' c end step }

  -- ---- single tokens

  pub symbol_refused : (s : Symbol) (t : Spanned) (vs : List Spanned) → is_symbol s t.token ≡ false → expected stop s (t ∷ vs) ≡ Err (Unexpected t.at)
  unfolding expected
  symbol_refused s t vs e = rw e refl

  module _ (First After : Follow) where
    symbol_step : (s : Symbol) (t : Spanned) (ts : List Spanned) (b : Bool) → is_symbol s t.token ≡ b → Step ℕ After (expected stop s) (expected stop s) t ts
    unfolding expected
    symbol_step s t ts true e = takes (λ m. Ok (t.at, m)) (λ m. Ok (t.at, m)) (done_split ℕ After t.at ts) (λ vs. rw e refl) (λ vs. rw e refl)
    symbol_step s t ts false e = refuses (Unexpected t.at) refl (λ vs. rw e refl) (λ vs. rw e refl)

    pub symbol_local : (s : Symbol) → ((ws : List Spanned) → First (of_symbol s ∷ ws)) → Local ℕ First After (expected stop s) (expected stop s)
    unfolding expected
    symbol_local s first =
        by_next ℕ First After (expected stop s) (expected stop s) (record { more = of_symbol s ∷ []; part = 0; starts = λ ws h. first ws; goes = λ ws h. symbol_read stop s (of_symbol s) ws refl })
        (stops refl) (λ t ts. symbol_step s t ts (is_symbol s t.token) refl)

    word_step : (w : Word) (t : Spanned) (ts : List Spanned) (b : Bool) → is_word w t.token ≡ b → Step ℕ After (expected_word stop w) (expected_word stop w) t ts
    unfolding expected_word
    word_step w t ts true e = takes (λ m. Ok (t.at, m)) (λ m. Ok (t.at, m)) (done_split ℕ After t.at ts) (λ vs. rw e refl) (λ vs. rw e refl)
    word_step w t ts false e = refuses (Unexpected t.at) refl (λ vs. rw e refl) (λ vs. rw e refl)

    pub word_local : (w : Word) → ((ws : List Spanned) → First (of_word w ∷ ws)) → Local ℕ First After (expected_word stop w) (expected_word stop w)
    unfolding expected_word
    word_local w first =
        by_next ℕ First After (expected_word stop w) (expected_word stop w) (record { more = of_word w ∷ []; part = 0; starts = λ ws h. first ws; goes = λ ws h. word_read stop w (of_word w) ws refl })
        (stops refl) (λ t ts. word_step w t ts (is_word w t.token) refl)

    name_step : (t : Spanned) (ts : List Spanned) (k : Token) → t.token ≡ k → Step Name After (name_at stop) (name_at stop) t ts
    unfolding name_at
    name_step t ts (token.Name s) e =
        let name : Name = record { text = s; at = t.at } in
        takes (λ m. Ok (name, m)) (λ m. Ok (name, m)) (done_split Name After name ts) (λ vs. rw e refl) (λ vs. rw e refl)
    name_step t ts (token.Word w) e = refuses (Unexpected t.at) refl (λ vs. rw e refl) (λ vs. rw e refl)
    name_step t ts (token.Int n) e = refuses (Unexpected t.at) refl (λ vs. rw e refl) (λ vs. rw e refl)
    name_step t ts (token.Text s) e = refuses (Unexpected t.at) refl (λ vs. rw e refl) (λ vs. rw e refl)
    name_step t ts (token.Symbol s) e = refuses (Unexpected t.at) refl (λ vs. rw e refl) (λ vs. rw e refl)

    pub name_local : ((ws : List Spanned) → First (a_name ∷ ws)) → Local Name First After (name_at stop) (name_at stop)
    unfolding name_at
    name_local first =
        by_next Name First After (name_at stop) (name_at stop) (record { more = a_name ∷ []; part = record { text = []; at = 0 }; starts = λ ws h. first ws; goes = λ ws h. refl })
        (stops refl) (λ t ts. name_step t ts t.token refl)

    text_step : (t : Spanned) (ts : List Spanned) (k : Token) → t.token ≡ k → Step (List ℕ) After (spelling_at stop) (spelling_at stop) t ts
    unfolding spelling_at
    text_step t ts (token.Text s) e = takes (λ m. Ok (s, m)) (λ m. Ok (s, m)) (done_split (List ℕ) After s ts) (λ vs. rw e refl) (λ vs. rw e refl)
    text_step t ts (token.Word w) e = refuses (Unexpected t.at) refl (λ vs. rw e refl) (λ vs. rw e refl)
    text_step t ts (token.Int n) e = refuses (Unexpected t.at) refl (λ vs. rw e refl) (λ vs. rw e refl)
    text_step t ts (token.Name s) e = refuses (Unexpected t.at) refl (λ vs. rw e refl) (λ vs. rw e refl)
    text_step t ts (token.Symbol s) e = refuses (Unexpected t.at) refl (λ vs. rw e refl) (λ vs. rw e refl)

    pub text_local : ((ws : List Spanned) → First (a_text ∷ ws)) → Local (List ℕ) First After (spelling_at stop) (spelling_at stop)
    unfolding spelling_at
    text_local first =
        by_next (List ℕ) First After (spelling_at stop) (spelling_at stop) (record { more = a_text ∷ []; part = []; starts = λ ws h. first ws; goes = λ ws h. refl })
        (stops refl) (λ t ts. text_step t ts t.token refl)

    -- a symbol behind which nothing more may be open, where one more may be
    abbrev pub shut : (A : Type 0) → Symbol → Read A
    shut A s ts = expected stop s ts >>= λ o. Err (TooDeep o.0)

    shut_step : (A : Type 0) (s : Symbol) (f' : Read A) → ((t : Spanned) → IsSymbol t s → Goes A After f' (t ∷ [])) → ((t : Spanned) → is_symbol s t.token ≡ false → (vs : List Spanned) → f' (t ∷ vs) ≡ Err (Unexpected t.at)) → (t : Spanned) (ts : List Spanned) (b : Bool) → is_symbol s t.token ≡ b → Step A After (shut A s) f' t ts
    unfolding expected
    shut_step A s f' deeper other t ts true e = refuses (TooDeep t.at) refl (λ vs. rw e refl) (inl (deeper t (symbol_is s t.token e)))
    shut_step A s f' deeper other t ts false e = refuses (Unexpected t.at) refl (λ vs. rw e refl) (other t e)

    pub shut_local : (A : Type 0) (s : Symbol) (f' : Read A) → Canon A First After f' → ((t : Spanned) → IsSymbol t s → Goes A After f' (t ∷ [])) → ((t : Spanned) → is_symbol s t.token ≡ false → (vs : List Spanned) → f' (t ∷ vs) ≡ Err (Unexpected t.at)) → Local A First After (shut A s) f'
    unfolding expected
    shut_local A s f' c deeper other = by_next A First After (shut A s) f' c (stops refl) (λ t ts. shut_step A s f' deeper other t ts (is_symbol s t.token) refl)

  -- ---- what is left is no longer

  pub split_no_longer : (A : Type 0) (After : Follow) (f f' : Read A) (ts : List Spanned) → Split A After f f' ts (f ts) → (y : A × List Spanned) → f ts ≡ Ok y → length y.1 ≤ length ts
  split_no_longer A After f f' ts split y e =
      let s : Split A After f f' ts (Ok y) = subst (λ (r : Part A). Split A After f f' ts r) e split in
      omega (arith, ap length s.is, length-append s.pre y.1)

  -- a reader that takes a token where it goes through
  abbrev pub Eats : (A : Type 0) → Read A → Type 0
  Eats A read = (ts : List Spanned) (y : A × List Spanned) → read ts ≡ Ok y → length y.1 < length ts

  -- such a reader answers the end of the tokens where there are none
  nil_refused : (A : Type 0) (After : Follow) (f f' : Read A) (r : Part A) → f [] ≡ r → Eats A f → Split A After f f' [] r → r ≡ Err stop
  nil_refused A After f f' (Ok y) e eats s = absurd (let less : length y.1 < 0 = eats [] y e in omega arith)
  nil_refused A After f f' (Err x) e eats (inl h) = ap (λ (f : ParseFault). Err f) h.0
  nil_refused A After f f' (Err x) e eats (inr s) = absurd (let empty : 0 ≡ length (s.before ++ (s.token ∷ s.after)) = ap length s.is in omega (arith, length-append s.before (s.token ∷ s.after)))

  pub at_nil : (A : Type 0) (First After : Follow) (f f' : Read A) → Local A First After f f' → Eats A f → f [] ≡ Err stop
  at_nil A First After f f' local eats = nil_refused A After f f' (f []) refl eats (local.split [])

-- two continuations that agree on what was read
pub bind_same : (A B : Type 0) (r : Part A) (f g : A × List Spanned → Part B) → ((y : A × List Spanned) → r ≡ Ok y → f y ≡ g y) → (r >>= f) ≡ (r >>= g)
bind_same A B (Ok y) f g same = same y refl
bind_same A B (Err e) f g same = refl

-- ---- loops, whose number of turns is bounded by the count of the tokens

pub record Loop (A : Type 0) (loop : ℕ → Read A) (turn : Read A → Read A) : Type 0 where
  -- a turn is one more
  pub unroll : (n : ℕ) (t : Spanned) (ts : List Spanned) → loop (suc n) (t ∷ ts) ≡ turn (loop n) (t ∷ ts)
  -- without tokens the bound doesn't count
  pub idle : (n : ℕ) → loop n [] ≡ loop 0 []
  pub nil : (r : Read A) → turn r [] ≡ loop 0 []
  -- a turn goes on with fewer tokens
  pub fewer : (r s : Read A) (ts : List Spanned) → ((us : List Spanned) → length us < length ts → r us ≡ s us) → turn r ts ≡ turn s ts

module _ (A : Type 0) (loop : ℕ → Read A) (turn : Read A → Read A) (is : Loop A loop turn) where
  -- any bound from the count of the tokens on is enough
  enough : (n m : ℕ) (ts : List Spanned) → length ts ≤ n → length ts ≤ m → loop n ts ≡ loop m ts
  enough n m [] le le' = is.idle n ∙ sym (is.idle m)
  enough zero m (t ∷ ts) le le' = absurd (omega arith)
  enough (suc n) zero (t ∷ ts) le le' = absurd (omega arith)
  enough (suc n) (suc m) (t ∷ ts) le le' =
      is.unroll n t ts ∙ is.fewer (loop n) (loop m) (t ∷ ts) (λ us lt. let fits : length us < suc (length ts) = lt in enough n m us (omega arith) (omega arith)) ∙ sym (is.unroll m t ts)

  -- the loop with enough turns
  abbrev pub whole_loop : Read A
  whole_loop ts = loop (length ts) ts

  pub whole_turns : (ts : List Spanned) → whole_loop ts ≡ turn whole_loop ts
  whole_turns [] = sym (is.nil whole_loop)
  whole_turns (t ∷ ts) = is.unroll (length ts) t ts ∙ is.fewer (loop (length ts)) whole_loop (t ∷ ts) (λ us lt. let fits : length us < suc (length ts) = lt in enough (length ts) (length us) us (omega arith) (omega arith))

module _ (stop : ParseFault) (A : Type 0) (After : Follow) (loop loop' : ℕ → Read A) (turn turn' : Read A → Read A) (is : Loop A loop turn) (is' : Loop A loop' turn') where
  -- what a turn needs of the loop for fewer tokens is enough for all
  abbrev pub Turns : Type 0
  Turns = (ts : List Spanned) → ((us : List Spanned) → length us < length ts → Split stop A After (λ m. loop (length m) m) (λ m. loop' (length m) m) us (loop (length us) us)) → Split stop A After (turn (λ m. loop (length m) m)) (turn' (λ m. loop' (length m) m)) ts (turn (λ m. loop (length m) m) ts)

  -- one turn, over the loop for fewer tokens
  one_turn : Turns → (ts : List Spanned) → ((us : List Spanned) → length us < length ts → Split stop A After (λ m. loop (length m) m) (λ m. loop' (length m) m) us (loop (length us) us)) → Split stop A After (λ m. loop (length m) m) (λ m. loop' (length m) m) ts (loop (length ts) ts)
  one_turn turns ts shorter =
      let same : (us : List Spanned) → loop (length us) us ≡ turn (λ m. loop (length m) m) us = whole_turns A loop turn is in
      subst (λ (r : Part A). Split stop A After (λ m. loop (length m) m) (λ m. loop' (length m) m) ts r) (sym (same ts))
      (split_same stop A After (λ m. loop (length m) m) (λ m. loop' (length m) m) (turn (λ m. loop (length m) m)) (turn' (λ m. loop' (length m) m)) same (whole_turns A loop' turn' is') ts (turn (λ m. loop (length m) m) ts) (turns ts shorter))

  loop_at : Turns → (n : ℕ) (ts : List Spanned) → length ts ≤ n → Split stop A After (λ m. loop (length m) m) (λ m. loop' (length m) m) ts (loop (length ts) ts)
  loop_at turns zero ts le = one_turn turns ts (λ us lt. absurd (omega arith))
  loop_at turns (suc n) ts le = one_turn turns ts (λ us lt. loop_at turns n us (omega arith))

  pub loop_split : Turns → (ts : List Spanned) → Split stop A After (λ m. loop (length m) m) (λ m. loop' (length m) m) ts (loop (length ts) ts)
  loop_split turns ts = loop_at turns (length ts) ts (omega arith)
