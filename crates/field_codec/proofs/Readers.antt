-- What a reader of a field keeps, and how such readers are joined.
use Rattle.std.proofs.Common.{◌≡◌, ℕ, ◌+◌, ◌≤◌, ◌⊎◌, inl, inr, Bool, true, false, cond, Option, Some, None, List, [], ◌++◌, length, drop, Result, Ok, Err, refl, sym, ap, subst, ◌∙◌, arith}
use Rattle.std.proofs.lemmas.List.{take_at, drop_at}
use Rattle.field_codec.specs.declared.faults.CodecFault.{CodecFault}
use Rattle.field_codec.specs.Spelling.{Stands}
use Rattle.field_codec.specs.Readers.{AreBytes, and_then, Reader, whole, refused, field, choice, when_known}
use Rattle.field_codec.specs.Results.{place_of, GivesRead, FindsSpelling, Only}
use Rattle.field_codec.specs.SpellingsApart.{AreApart}
use Rattle.field_codec.proofs.TextPlaces.{stands_both, stands_first, stands_second, stands_empty, stands_end}

-- Where P is known of the value, and a field stood at `low`: what is read stands there, what stands there is read, a fault is
-- named within the bytes, and reading only goes on: nothing ends, and no fault is named, before it.
pub record Reads {C : Type 0} (low : ℕ) (P : C → Type 0) (spell : C → List ℕ) (Fits : C → Type 0) (read : Reader C) : Type 0 where
  pub takes : (bytes : List ℕ) (at : ℕ) (c : C) (end : ℕ) → AreBytes bytes → at ≤ length bytes → read bytes at ≡ Ok (c, end) → P c × Fits c × Stands bytes at (spell c) end
  pub again : (bytes : List ℕ) (at : ℕ) (c : C) (end : ℕ) → at ≤ length bytes → P c → Fits c → Stands bytes at (spell c) end → read bytes at ≡ Ok (c, end)
  pub falls : (bytes : List ℕ) (at : ℕ) (fault : CodecFault) → AreBytes bytes → low ≤ at → at ≤ length bytes → read bytes at ≡ Err fault → place_of fault ≤ length bytes
  pub goes : (bytes : List ℕ) (at : ℕ) (c : C) (end : ℕ) → read bytes at ≡ Ok (c, end) → at ≤ end
  pub later : (bytes : List ℕ) (at : ℕ) (fault : CodecFault) → low ≤ at → read bytes at ≡ Err fault → low ≤ place_of fault

-- nothing is known
abbrev pub Any : {C : Type 0} → C → Type 0
Any c = Unit {0}

-- ---- results

-- this was read
abbrev pub is_read : {A : Type 0} → A → Result A CodecFault
is_read x = Ok x

pub then_ok : {A B : Type 0} (r : Result A CodecFault) (f : A → Result B CodecFault) (y : B) → and_then r f ≡ Ok y → (x : A) × (r ≡ Ok x) × (f x ≡ Ok y)
then_ok (Ok x) f y e = (x, refl, e)
then_ok (Err d) f y e = absurd cc

pub then_err : {A B : Type 0} (r : Result A CodecFault) (f : A → Result B CodecFault) (d : CodecFault) → and_then r f ≡ Err d → (r ≡ Err d) ⊎ ((x : A) × (r ≡ Ok x) × (f x ≡ Err d))
then_err (Ok x) f d e = inr (x, refl, e)
then_err (Err c) f d e = inl (let is : c ≡ d = cc in ap (λ (x : CodecFault). Err x) is)

pub ok_is : {A : Type 0} (a b : A) (n m : ℕ) → is_read {A = A × ℕ} (a, n) ≡ Ok (b, m) → (a ≡ b) × (n ≡ m)
ok_is {A} a b n m e = let both : (let p : A × ℕ = (a, n) in p) ≡ (b, m) = cc in (ap (λ (p : A × ℕ). p.0) both, ap (λ (p : A × ℕ). p.1) both)

-- a test that passed
pub past : {A D : Type 0} (b : Bool) (d : D) (r : Result A D) (y : A) → cond b (Err d) r ≡ Ok y → (b ≡ false) × (r ≡ Ok y)
past true d r y e = absurd cc
past false d r y e = (refl, e)

-- a choice that gave a value
pub chosen : {A : Type 0} (b : Bool) (x : A) (d : CodecFault) (y : A) → cond b (Ok x) (Err d) ≡ Ok y → (b ≡ true) × (x ≡ y)
chosen true x d y e = (refl, cc)
chosen false x d y e = absurd cc

-- ---- joining

-- a field, and then the rest of the value, which is read knowing the field
pub then : {A C : Type 0} (get : C → A) (spell : A → List ℕ) (Fits : A → Type 0) (read : Reader A) (low : ℕ) (P : C → Type 0) (rest : C → List ℕ) (RestFits : C → Type 0) (k : A → ℕ → Reader C)
    → Reads low Any spell Fits read → ((a : A) (from : ℕ) → Reads from (λ c. P c × (get c ≡ a)) rest RestFits (k a from))
    → Reads low P (λ c. spell (get c) ++ rest c) (λ c. Fits (get c) × RestFits c) (field read k)
unfolding field
then get spell Fits read low P rest RestFits k first others = record {
  takes = λ bytes at c end are le e.
      let b = then_ok (read bytes at) (λ x. k x.0 at bytes x.1) (c, end) e in
      let one = first.takes bytes at b.0.0 b.0.1 are le b.1 in
      let two = (others b.0.0 at).takes bytes b.0.1 c end are (stands_end bytes at b.0.1 (spell b.0.0) le one.2) b.2 in
      let is : b.0.0 ≡ get c = sym two.0.1 in
      (two.0.0, (subst Fits is one.1, two.1), stands_both bytes at b.0.1 end (spell (get c)) (rest c) (subst (λ a. Stands bytes at (spell a) b.0.1) is one.2) two.2);
  again = λ bytes at c end le when_known fits stands.
      let mid = at + length (spell (get c)) in
      let here = stands_first bytes at end (spell (get c)) (rest c) stands in
      let one = first.again bytes at (get c) mid le tt fits.0 here in
      let two = (others (get c) at).again bytes mid c end (stands_end bytes at mid (spell (get c)) le here) (when_known, refl) fits.1 (stands_second bytes at end (spell (get c)) (rest c) stands) in
      rw one two;
  falls = λ bytes at fault are low_le le e.
      elim (then_err (read bytes at) (λ x. k x.0 at bytes x.1) fault e) [
        | inl here ↦ first.falls bytes at fault are low_le le here
        | inr later ↦
            let one = first.takes bytes at later.0.0 later.0.1 are le later.1 in
            let end_at : later.0.1 ≡ at + length (spell later.0.0) = one.2.end_at in
            (others later.0.0 at).falls bytes later.0.1 fault are (omega (arith, end_at)) (stands_end bytes at later.0.1 (spell later.0.0) le one.2) later.2
      ];
  goes = λ bytes at c end e.
      let b = then_ok (read bytes at) (λ x. k x.0 at bytes x.1) (c, end) e in
      let one = first.goes bytes at b.0.0 b.0.1 b.1 in
      let two = (others b.0.0 at).goes bytes b.0.1 c end b.2 in
      omega (arith, one, two);
  later = λ bytes at fault low_le e.
      elim (then_err (read bytes at) (λ x. k x.0 at bytes x.1) fault e) [
        | inl here ↦ first.later bytes at fault low_le here
        | inr more ↦
            let one = first.goes bytes at more.0.0 more.0.1 more.1 in
            let two = (others more.0.0 at).later bytes more.0.1 fault one more.2 in
            omega (arith, low_le, two)
      ];
}

-- all is read
pub done : {C : Type 0} (low : ℕ) (P : C → Type 0) (c : C) → P c → ((d : C) → P d → d ≡ c) → Reads low P (λ d. []) (λ d. Unit {0}) (whole c)
unfolding whole
done low P c when_known only = record {
  takes = λ bytes at d end are le e.
      let is = ok_is c d at end e in
      (subst P is.0 when_known, tt, subst (λ (n : ℕ). Stands bytes at [] n) is.1 (stands_empty bytes at));
  again = λ bytes at d end le also fits stands.
      let one : d ≡ c = only d also in
      let two : end ≡ at = omega (arith, stands.end_at) in
      rw (one, two) refl;
  falls = λ bytes at fault are low_le le e. absurd cc;
  goes = λ bytes at d end e. let is = ok_is c d at end e in omega (arith, is.1);
  later = λ bytes at fault low_le e. absurd cc;
}

-- a test of what is known, by which there are two ways to go on
pub choose : {C : Type 0} (low : ℕ) (P : C → Type 0) (spell : C → List ℕ) (Fits : C → Type 0) (b : Bool) (k l : Reader C)
    → (b ≡ true → Reads low P spell Fits k) → (b ≡ false → Reads low P spell Fits l) → Reads low P spell Fits (choice b k l)
unfolding choice
choose low P spell Fits true k l this other = this refl
choose low P spell Fits false k l this other = other refl

-- what is there goes on, and where nothing is, no value does
pub where_known : {A C : Type 0} (low : ℕ) (P : C → Type 0) (spell : C → List ℕ) (Fits : C → Type 0) (o : Option A) (fault : CodecFault) (k : A → Reader C) → place_of fault ≡ low
    → ((a : A) → o ≡ Some a → Reads low P spell Fits (k a)) → (o ≡ None → (c : C) → P c → Fits c → ⊥) → Reads low P spell Fits (when_known o fault k)
unfolding when_known
where_known low P spell Fits (Some a) fault k placed there none = there a refl
where_known low P spell Fits None fault k placed there none = record {
  takes = λ bytes at c end are le e. absurd cc;
  again = λ bytes at c end le also fits stands. absurd (none refl c also fits);
  falls = λ bytes at other are low_le le e.
      let is : fault ≡ other = cc in
      subst (λ (f : CodecFault). place_of f ≤ length bytes) is (omega (arith, placed));
  goes = λ bytes at c end e. absurd cc;
  later = λ bytes at other low_le e.
      let is : fault ≡ other = cc in
      subst (λ (f : CodecFault). low ≤ place_of f) is (omega (arith, placed));
}

-- no value goes on from here
pub never : {C : Type 0} (low : ℕ) (P : C → Type 0) (spell : C → List ℕ) (Fits : C → Type 0) (fault : CodecFault) → place_of fault ≡ low → ((c : C) → P c → Fits c → ⊥) → Reads low P spell Fits (refused fault)
unfolding refused
never low P spell Fits fault placed none = record {
  takes = λ bytes at c end are le e. absurd cc;
  again = λ bytes at c end le when_known fits stands. absurd (none c when_known fits);
  falls = λ bytes at other are low_le le e.
      let is : fault ≡ other = cc in
      subst (λ (f : CodecFault). place_of f ≤ length bytes) is (omega (arith, placed));
  goes = λ bytes at c end e. absurd cc;
  later = λ bytes at other low_le e.
      let is : fault ≡ other = cc in
      subst (λ (f : CodecFault). low ≤ place_of f) is (omega (arith, placed));
}

-- one field, put into a value
pub put_in : {A C : Type 0} (f : A → C) (spell : A → List ℕ) (Fits : A → Type 0) (read : Reader A) (low : ℕ) (P : C → Type 0) (all : C → List ℕ) (AllFit : C → Type 0)
    → ((c : C) → P c → AllFit c → (a : A) × (c ≡ f a) × Fits a) → ((a : A) → P (f a)) → ((a : A) → Fits a → all (f a) ≡ spell a) → ((a : A) → Fits a → AllFit (f a))
    → Reads low Any spell Fits read → Reads low P all AllFit (field read (λ a place. whole (f a)))
unfolding field whole
put_in {A} {C} f spell Fits read low P all AllFit back when_known same into reads = record {
  takes = λ bytes at c end are le e.
      let b = then_ok (read bytes at) (λ x. Ok (f x.0, x.1)) (c, end) e in
      let t = reads.takes bytes at b.0.0 b.0.1 are le b.1 in
      let is = ok_is (f b.0.0) c b.0.1 end b.2 in
      let stands : Stands bytes at (all (f b.0.0)) b.0.1 = subst (λ (l : List ℕ). Stands bytes at l b.0.1) (sym (same b.0.0 t.1)) t.2 in
      (subst P is.0 (when_known b.0.0), subst AllFit is.0 (into b.0.0 t.1), subst (λ c. Stands bytes at (all c) end) is.0 (subst (λ (n : ℕ). Stands bytes at (all (f b.0.0)) n) is.1 stands));
  again = λ bytes at c end le also fits stands.
      let a = back c also fits in
      let one = reads.again bytes at a.0 end le tt a.2 (subst (λ (l : List ℕ). Stands bytes at l end) (same a.0 a.2) (subst (λ c. Stands bytes at (all c) end) a.1 stands)) in
      ap (λ (r : Result (A × ℕ) CodecFault). and_then r (λ x. Ok (f x.0, x.1))) one ∙ ap (λ (c : C). is_read {A = C × ℕ} (c, end)) (sym a.1);
  falls = λ bytes at fault are low_le le e.
      elim (then_err (read bytes at) (λ x. Ok (f x.0, x.1)) fault e) [
        | inl here ↦ reads.falls bytes at fault are low_le le here
        | inr later ↦ absurd (let clash : is_read {A = C × ℕ} (f later.0.0, later.0.1) ≡ Err fault = later.2 in cc)
      ];
  goes = λ bytes at c end e.
      let b = then_ok (read bytes at) (λ x. Ok (f x.0, x.1)) (c, end) e in
      let one = reads.goes bytes at b.0.0 b.0.1 b.1 in
      let is = ok_is (f b.0.0) c b.0.1 end b.2 in
      omega (arith, one, is.1);
  later = λ bytes at fault low_le e.
      elim (then_err (read bytes at) (λ x. Ok (f x.0, x.1)) fault e) [
        | inl here ↦ reads.later bytes at fault low_le here
        | inr more ↦ absurd (let clash : is_read {A = C × ℕ} (f more.0.0, more.0.1) ≡ Err fault = more.2 in cc)
      ];
}

-- one field, put into a value, of which what is known follows from the limits
pub put_fit : {A C : Type 0} (f : A → C) (spell : A → List ℕ) (Fits : A → Type 0) (read : Reader A) (low : ℕ) (P : C → Type 0) (all : C → List ℕ) (AllFit : C → Type 0)
    → ((c : C) → P c → AllFit c → (a : A) × (c ≡ f a) × Fits a) → ((a : A) → Fits a → P (f a)) → ((a : A) → Fits a → all (f a) ≡ spell a) → ((a : A) → Fits a → AllFit (f a))
    → Reads low Any spell Fits read → Reads low P all AllFit (field read (λ a place. whole (f a)))
unfolding field whole
put_fit {A} {C} f spell Fits read low P all AllFit back when_known same into reads = record {
  takes = λ bytes at c end are le e.
      let b = then_ok (read bytes at) (λ x. Ok (f x.0, x.1)) (c, end) e in
      let t = reads.takes bytes at b.0.0 b.0.1 are le b.1 in
      let is = ok_is (f b.0.0) c b.0.1 end b.2 in
      let stands : Stands bytes at (all (f b.0.0)) b.0.1 = subst (λ (l : List ℕ). Stands bytes at l b.0.1) (sym (same b.0.0 t.1)) t.2 in
      (subst P is.0 (when_known b.0.0 t.1), subst AllFit is.0 (into b.0.0 t.1), subst (λ c. Stands bytes at (all c) end) is.0 (subst (λ (n : ℕ). Stands bytes at (all (f b.0.0)) n) is.1 stands));
  again = λ bytes at c end le also fits stands.
      let a = back c also fits in
      let one = reads.again bytes at a.0 end le tt a.2 (subst (λ (l : List ℕ). Stands bytes at l end) (same a.0 a.2) (subst (λ c. Stands bytes at (all c) end) a.1 stands)) in
      ap (λ (r : Result (A × ℕ) CodecFault). and_then r (λ x. Ok (f x.0, x.1))) one ∙ ap (λ (c : C). is_read {A = C × ℕ} (c, end)) (sym a.1);
  falls = λ bytes at fault are low_le le e.
      elim (then_err (read bytes at) (λ x. Ok (f x.0, x.1)) fault e) [
        | inl here ↦ reads.falls bytes at fault are low_le le here
        | inr later ↦ absurd (let clash : is_read {A = C × ℕ} (f later.0.0, later.0.1) ≡ Err fault = later.2 in cc)
      ];
  goes = λ bytes at c end e.
      let b = then_ok (read bytes at) (λ x. Ok (f x.0, x.1)) (c, end) e in
      let one = reads.goes bytes at b.0.0 b.0.1 b.1 in
      let is = ok_is (f b.0.0) c b.0.1 end b.2 in
      omega (arith, one, is.1);
  later = λ bytes at fault low_le e.
      elim (then_err (read bytes at) (λ x. Ok (f x.0, x.1)) fault e) [
        | inl here ↦ reads.later bytes at fault low_le here
        | inr more ↦ absurd (let clash : is_read {A = C × ℕ} (f more.0.0, more.0.1) ≡ Err fault = more.2 in cc)
      ];
}

-- what was known is a limit
pub known_fits : {C : Type 0} (low : ℕ) (P : C → Type 0) (spell : C → List ℕ) (Fits : C → Type 0) (read : Reader C) → Reads low P spell Fits read → Reads low Any spell (λ c. P c × Fits c) read
known_fits low P spell Fits read reads = record {
  takes = λ bytes at c end are le e. let t = reads.takes bytes at c end are le e in (tt, (t.0, t.1), t.2);
  again = λ bytes at c end le known fits stands. reads.again bytes at c end le fits.0 fits.1 stands;
  falls = λ bytes at fault are low_le le e. reads.falls bytes at fault are low_le le e;
  goes = λ bytes at c end e. reads.goes bytes at c end e;
  later = λ bytes at fault low_le e. reads.later bytes at fault low_le e;
}

-- the same reader, spelling and limits, said in other words
pub said : {C : Type 0} (low : ℕ) (P Q : C → Type 0) (spell also : C → List ℕ) (Fits AlsoFits : C → Type 0) (read : Reader C)
    → ((c : C) → P c → Q c) → ((c : C) → Q c → P c) → ((c : C) → P c → spell c ≡ also c) → ((c : C) → P c → Fits c → AlsoFits c) → ((c : C) → P c → AlsoFits c → Fits c)
    → Reads low P spell Fits read → Reads low Q also AlsoFits read
said low P Q spell also Fits AlsoFits read pq qp same into out reads = record {
  takes = λ bytes at c end are le e.
      let t = reads.takes bytes at c end are le e in
      (pq c t.0, into c t.0 t.1, subst (λ (l : List ℕ). Stands bytes at l end) (same c t.0) t.2);
  again = λ bytes at c end le when_known fits stands.
      reads.again bytes at c end le (qp c when_known) (out c (qp c when_known) fits) (subst (λ (l : List ℕ). Stands bytes at l end) (sym (same c (qp c when_known))) stands);
  falls = λ bytes at fault are low_le le e. reads.falls bytes at fault are low_le le e;
  goes = λ bytes at c end e. reads.goes bytes at c end e;
  later = λ bytes at fault low_le e. reads.later bytes at fault low_le e;
}

-- ---- what the laws give

-- no spelling begins another
pub apart : {C : Type 0} (spell : C → List ℕ) (Fits : C → Type 0) (read : Reader C) → Reads 0 Any spell Fits read → AreApart spell Fits
apart {C} spell Fits read reads a b x y fits also e =
    let here : (c : C) (z : List ℕ) → Stands (spell c ++ z) 0 (spell c) (length (spell c)) = λ c z. record { end_at = omega arith; here = take_at (spell c) z (length (spell c)) refl } in
    let one = reads.again (spell a ++ x) 0 a (length (spell a)) (omega arith) tt fits (here a x) in
    let two = reads.again (spell a ++ x) 0 b (length (spell b)) (omega arith) tt also (subst (λ (l : List ℕ). Stands l 0 (spell b) (length (spell b))) (sym e) (here b y)) in
    let is = ok_is a b (length (spell a)) (length (spell b)) (sym one ∙ two) in
    (is.0, sym (drop_at (spell a) x (length (spell a)) refl) ∙ rw (is.1) (ap (drop (length (spell b))) e ∙ drop_at (spell b) y (length (spell b)) refl))

pub found_from : {C : Type 0} (spell : C → List ℕ) (Fits : C → Type 0) (read : Reader C) → Reads 0 Any spell Fits read
    → (bytes : List ℕ) (at : ℕ) (result : Result (C × ℕ) CodecFault) → AreBytes bytes → GivesRead result (read bytes at) → FindsSpelling spell Fits bytes at result
found_from spell Fits read reads bytes at (Ok x) are gives le = let t = reads.takes bytes at x.0 x.1 are le gives in (t.1, t.2)
found_from spell Fits read reads bytes at (Err e) are gives le = tt

pub only_from : {C : Type 0} (spell : C → List ℕ) (Fits : C → Type 0) (read : Reader C) → Reads 0 Any spell Fits read
    → (bytes : List ℕ) (at : ℕ) (result : Result (C × ℕ) CodecFault) → GivesRead result (read bytes at) → Only spell Fits bytes at result
only_from {C} spell Fits read reads bytes at result gives x end le fits stands = subst (λ (r : Result (C × ℕ) CodecFault). GivesRead result r) (reads.again bytes at x end le tt fits stands) gives
