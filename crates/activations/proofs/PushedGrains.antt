-- What a push leaves of a cache of grains, and whom it answers, by the grains alone.
use Rattle.std.proofs.Common.{◌≡◌, ℕ, zero, suc, ◌+◌, ◌-◌, ◌≤◌, Bool, true, false, not, List, [], ◌∷◌, length, take, Option, Some, None, inl, inr, refl, sym, ap, ◌∙◌, subst, arith}
use Rattle.std.specs.Prelude.{◌||◌, slice_get, option_map, is_some}
use Rattle.std.specs.List.{IsDistinct, AllByRecursion}
use Rattle.std.specs.Option.{option_map_or}
use Rattle.std.specs.Map.{keys_of, lookup, lookup_entry, remove_entry}
use Rattle.std.proofs.lemmas.Bool.{cond-true, cond-false, cases_Bool}
use Rattle.std.proofs.lemmas.List.{take_all}
use Rattle.std.proofs.lemmas.Option.{slice_get_past}
use Rattle.cell_model.proofs.Units.{same_grain-true, same_grain-is, same_grain-false}
use Rattle.base_types.specs.declared.calls.GrainId.{GrainId}
use Rattle.base_types.specs.Grains.{same_grain}
use Rattle.lru.specs.LruCache.{LruCache, IsValid, put_entries, displaced}
use Rattle.core_model.specs.Changes.{touched}
use Rattle.core_model.specs.Tests.{any}
use Rattle.activations.specs.LastUsed.{others}

-- whether two are one doesn't depend on their order
apart-back : (a b : GrainId) → same_grain a b ≡ false → same_grain b a ≡ false
apart-back a b e = elim (cases_Bool (same_grain b a)) [
  | inl t ↦ absurd (same_grain-false a b e (sym (same_grain-true b a t)))
  | inr f ↦ f
]

others-of : (g k : GrainId) (ks : List GrainId) → same_grain g k ≡ false → others g (k ∷ ks) ≡ k ∷ others g ks
others-of g k ks e = cond-true (not (same_grain k g)) (k ∷ others g ks) (others g ks) (ap not (apart-back g k e))

others-not : (g k : GrainId) (ks : List GrainId) → g ≡ k → others g (k ∷ ks) ≡ others g ks
others-not g k ks q = cond-false (not (same_grain k g)) (k ∷ others g ks) (others g ks) (ap not (same_grain-is k g (sym q)))

others-all : (g : GrainId) (ks : List GrainId) → AllByRecursion (λ k. same_grain g k ≡ false) ks → others g ks ≡ ks
others-all g [] all = refl
others-all g (k ∷ ks) all = others-of g k ks all.0 ∙ ap (λ t. k ∷ t) (others-all g ks all.1)

module _ {V : Type 0} (g : GrainId) where
  -- where no key is the grain
  none-there : (es : List (GrainId × V)) → lookup_entry (same_grain g) es ≡ None → AllByRecursion (λ k. same_grain g k ≡ false) (keys_of es)
  none-there [] e = tt
  none-there (x ∷ es) e = elim (cases_Bool (same_grain g x.0)) [
    | inl t ↦ (let z : Some x ≡ None = sym (cond-true (same_grain g x.0) (Some x) (lookup_entry (same_grain g) es) t) ∙ e in cc)
    | inr f ↦ (f, none-there es (sym (cond-false (same_grain g x.0) (Some x) (lookup_entry (same_grain g) es) f) ∙ e))
  ]

  -- where one is: it is the grain, the others are what is left, and they are one fewer
  pub record IsThere (es : List (GrainId × V)) (x : GrainId × V) : Type 0 where
    pub key : x.0 ≡ g
    pub left : keys_of (remove_entry (same_grain g) es) ≡ others g (keys_of es)
    pub fewer : length (others g (keys_of es)) + 1 ≡ length (keys_of es)

  is-there : (es : List (GrainId × V)) (x : GrainId × V) → IsDistinct same_grain (keys_of es) → lookup_entry (same_grain g) es ≡ Some x → IsThere es x
  unfolding IsDistinct
  is-there [] x d e = cc
  is-there (y ∷ es) x d e = elim (cases_Bool (same_grain g y.0)) [
    | inl t ↦
        let same : g ≡ y.0 = same_grain-true g y.0 t in
        let z : Some y ≡ Some x = sym (cond-true (same_grain g y.0) (Some y) (lookup_entry (same_grain g) es) t) ∙ e in
        let is : y ≡ x = cc in
        let rest : others g (keys_of (y ∷ es)) ≡ keys_of es =
        others-not g y.0 (keys_of es) same ∙ others-all g (keys_of es) (subst (λ (k : GrainId). AllByRecursion (λ j. same_grain k j ≡ false) (keys_of es)) (sym same) d.0) in
        record {
          key = ap (λ (p : GrainId × V). p.0) (sym is) ∙ sym same;
          left = ap keys_of (cond-true (same_grain g y.0) es (y ∷ remove_entry (same_grain g) es) t) ∙ sym rest;
          fewer = (let n = ap (length {A = GrainId}) rest in omega (arith, n));
        }
    | inr f ↦
        let on = is-there es x d.1 (sym (cond-false (same_grain g y.0) (Some y) (lookup_entry (same_grain g) es) f) ∙ e) in
        let rest : others g (keys_of (y ∷ es)) ≡ y.0 ∷ others g (keys_of es) = others-of g y.0 (keys_of es) f in
        record {
          key = on.key;
          left = ap keys_of (cond-false (same_grain g y.0) es (y ∷ remove_entry (same_grain g) es) f) ∙ ap (λ t. y.0 ∷ t) on.left ∙ sym rest;
          fewer = (let n = ap (length {A = GrainId}) rest in let m = on.fewer in omega (arith, n, m));
        }
  ]

  -- whether the grain is one of the keys
  pub key-there : (es : List (GrainId × V)) → is_some (lookup (same_grain g) es) ≡ any (same_grain g) (keys_of es)
  key-there [] = refl
  key-there (x ∷ es) = elim (cases_Bool (same_grain g x.0)) [
    | inl t ↦ ap is_some (cond-true (same_grain g x.0) (Some x.1) (lookup (same_grain g) es) t) ∙ sym (ap (λ (b : Bool). b || any (same_grain g) (keys_of es)) t)
    | inr f ↦ ap is_some (cond-false (same_grain g x.0) (Some x.1) (lookup (same_grain g) es) f) ∙ key-there es ∙ sym (ap (λ (b : Bool). b || any (same_grain g) (keys_of es)) f)
  ]

  keys-take : (n : ℕ) (es : List (GrainId × V)) → keys_of (take n es) ≡ take n (keys_of es)
  keys-take zero es = refl
  keys-take (suc n) [] = refl
  keys-take (suc n) (x ∷ es) = ap (λ t. x.0 ∷ t) (keys-take n es)

  length-keys : (es : List (GrainId × V)) → length (keys_of es) ≡ length es
  length-keys [] = refl
  length-keys (y ∷ es) = ap suc (length-keys es)

  module _ (c : LruCache GrainId V) (v : V) (valid : IsValid same_grain c) where
    after : (o : Option (GrainId × V)) → lookup_entry (same_grain g) c.entries ≡ o →
        keys_of (option_map_or (λ e. (e.0, v) ∷ remove_entry (same_grain g) c.entries) o ((g, v) ∷ take (c.cap - 1) c.entries)) ≡ take c.cap (g ∷ others g (keys_of c.entries))
    after None e =
        let all = others-all g (keys_of c.entries) (none-there c.entries e) in
        let one : c.cap ≡ suc (c.cap - 1) = omega (arith, valid.2) in
        ap (λ t. g ∷ t) (keys-take (c.cap - 1) c.entries) ∙ ap (λ t. g ∷ take (c.cap - 1) t) (sym all) ∙ ap (λ n. take n (g ∷ others g (keys_of c.entries))) (sym one)
    after (Some x) e =
        let there = is-there c.entries x valid.0 e in
        let short : length (g ∷ others g (keys_of c.entries)) ≤ c.cap = (let n = there.fewer in let m = valid.1 in let k = length-keys c.entries in omega (arith, n, m, k)) in
        (λ i. there.key i ∷ there.left i) ∙ sym (take_all c.cap (g ∷ others g (keys_of c.entries)) short)

    -- the grains behind a push
    pub pushed-grains : keys_of (put_entries same_grain c g v) ≡ touched (Some c.cap) g (keys_of c.entries)
    pushed-grains = after (lookup_entry (same_grain g) c.entries) refl

    -- who is no more among them: the one behind the limit, where the grain and all others but it are more than may be kept
    abbrev pub out : Option GrainId
    out = slice_get (g ∷ others g (keys_of c.entries)) c.cap

    -- what a push answers tells that: it answers the grain itself where that was there
    abbrev pub TellsOut : Option (GrainId × V) → Type 0
    TellsOut None = out ≡ None
    TellsOut (Some p) = (same_grain p.0 g ≡ true → out ≡ None) × (same_grain p.0 g ≡ false → out ≡ Some p.0)

    values-of : (es : List (GrainId × V)) → lookup (same_grain g) es ≡ option_map (λ (e : GrainId × V). e.1) (lookup_entry (same_grain g) es)
    values-of [] = refl
    values-of (x ∷ es) = elim (cases_Bool (same_grain g x.0)) [
      | inl t ↦ cond-true (same_grain g x.0) (Some x.1) (lookup (same_grain g) es) t ∙ sym (ap (option_map (λ (e : GrainId × V). e.1)) (cond-true (same_grain g x.0) (Some x) (lookup_entry (same_grain g) es) t))
      | inr f ↦ cond-false (same_grain g x.0) (Some x.1) (lookup (same_grain g) es) f ∙ values-of es ∙ sym (ap (option_map (λ (e : GrainId × V). e.1)) (cond-false (same_grain g x.0) (Some x) (lookup_entry (same_grain g) es) f))
    ]

    -- the one at a place, where no key is the grain
    at-place : (es : List (GrainId × V)) (j : ℕ) (p : GrainId × V) → AllByRecursion (λ k. same_grain g k ≡ false) (keys_of es) → slice_get es j ≡ Some p → same_grain g p.0 ≡ false
    at-place [] j p all e = cc
    at-place (x ∷ es) zero p all e = (let is : x ≡ p = cc in subst (λ (q : GrainId × V). same_grain g q.0 ≡ false) is all.0)
    at-place (x ∷ es) (suc j) p all e = at-place es j p all.1 e

    keys-at : (es : List (GrainId × V)) (j : ℕ) → slice_get (keys_of es) j ≡ option_map (λ (e : GrainId × V). e.0) (slice_get es j)
    keys-at [] j = refl
    keys-at (x ∷ es) zero = refl
    keys-at (x ∷ es) (suc j) = keys-at es j

    absent-out : lookup_entry (same_grain g) c.entries ≡ None → out ≡ option_map (λ (e : GrainId × V). e.0) (slice_get c.entries (c.cap - 1))
    absent-out e =
        let one : c.cap ≡ suc (c.cap - 1) = omega (arith, valid.2) in
        ap (slice_get (g ∷ others g (keys_of c.entries))) one ∙ ap (λ ks. slice_get ks (c.cap - 1)) (others-all g (keys_of c.entries) (none-there c.entries e)) ∙ keys-at c.entries (c.cap - 1)

    -- what a push answers tells who is out
    pub pushed-out : TellsOut (displaced same_grain c g v)
    pushed-out = by (lookup_entry (same_grain g) c.entries) refl
      where
        shown : (o : Option V) → lookup (same_grain g) c.entries ≡ o → TellsOut (option_map_or (λ old. Some (g, old)) o (slice_get c.entries (c.cap - 1))) → TellsOut (displaced same_grain c g v)
        shown o e t = subst (λ (q : Option V). TellsOut (option_map_or (λ old. Some (g, old)) q (slice_get c.entries (c.cap - 1)))) (sym e) t

        absent : (o : Option (GrainId × V)) → slice_get c.entries (c.cap - 1) ≡ o → lookup_entry (same_grain g) c.entries ≡ None → TellsOut o
        absent None q e = absent-out e ∙ ap (option_map (λ (x : GrainId × V). x.0)) q
        absent (Some p) q e = (
          (λ t. (let z : true ≡ false = sym t ∙ apart-back g p.0 (at-place c.entries (c.cap - 1) p (none-there c.entries e) q) in cc)),
          (λ t. absent-out e ∙ ap (option_map (λ (x : GrainId × V). x.0)) q),
        )

        by : (o : Option (GrainId × V)) → lookup_entry (same_grain g) c.entries ≡ o → TellsOut (displaced same_grain c g v)
        by None e = shown None (values-of c.entries ∙ ap (option_map (λ (x : GrainId × V). x.1)) e) (absent (slice_get c.entries (c.cap - 1)) refl e)
        by (Some x) e =
            let there = is-there c.entries x valid.0 e in
            let short : length (g ∷ others g (keys_of c.entries)) ≤ c.cap = (let n = there.fewer in let m = valid.1 in let k = length-keys c.entries in omega (arith, n, m, k)) in
            shown (Some x.1) (values-of c.entries ∙ ap (option_map (λ (y : GrainId × V). y.1)) e) (
              (λ t. slice_get_past (g ∷ others g (keys_of c.entries)) c.cap short),
              (λ t. absurd (same_grain-false g g t refl)),
            )

    told : (o : Option (GrainId × V)) → o ≡ displaced same_grain c g v → TellsOut o
    told o is = subst TellsOut (sym is) pushed-out

    -- none is out where none was answered
    pub none_out : (o : Option (GrainId × V)) → o ≡ displaced same_grain c g v → ((p : GrainId × V) → o ≡ Some p → ⊥) → None ≡ out
    none_out None is none = sym (told None is)
    none_out (Some p) is none = absurd (none p refl)

    -- nor where the grain itself was
    pub same_out : (o : Option (GrainId × V)) → o ≡ displaced same_grain c g v → (p : GrainId × V) → o ≡ Some p → same_grain p.0 g ≡ true → None ≡ out
    same_out o is p some same = sym ((told (Some p) (sym some ∙ is)).0 same)

    -- else the one that was answered
    pub other_out : (o : Option (GrainId × V)) → o ≡ displaced same_grain c g v → (p : GrainId × V) → o ≡ Some p → same_grain p.0 g ≡ false → Some p.0 ≡ out
    other_out o is p some other = sym ((told (Some p) (sym some ∙ is)).1 other)
