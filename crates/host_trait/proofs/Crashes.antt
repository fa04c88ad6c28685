-- What a crash may leave of one file, call by call.
use Rattle.std.proofs.Common.{◌≡◌, ◌⊎◌, inl, inr, ℕ, ◌+◌, ◌-◌, ◌<◌, ◌≤◌, min, max, Bool, true, false, List, ◌++◌, length, take, drop, map, slice_index, refl, sym, ◌∙◌, ap, subst, arith, append_assoc, length-append, length-take, length-drop, get_or-take, get_or-drop}
use Rattle.std.proofs.lemmas.List.{ext_get_or, take-take, drop-drop, take_at, drop_at}
use Rattle.std.proofs.lemmas.List.FromFn.{length-map-range_with_len, get_or-map-range_with_len}
use Rattle.std.specs.List.{range_with_len}
use Rattle.std.proofs.lemmas.Bool.{cases_lt}
use Rattle.host_trait.specs.Disk.{FileState, Untouched, MayLeave, Tears, Pends, Wrote, settled, overlaid, after_sync}

-- where nothing is pending a crash leaves what a read gives
pub settled_only : (bytes c : List ℕ) → MayLeave (settled bytes) c → c ≡ bytes
settled_only bytes c left = ext_get_or 0 c bytes (omega (arith, left.no_shorter, left.no_longer)) (λ i low. left.same i (omega (arith, left.no_longer)) tt)

-- x where an index is in the range and below the end of the base, and y elsewhere
abbrev pick : {i at end len : ℕ} → (i < at) ⊎ (at ≤ i) → (i < end) ⊎ (end ≤ i) → (i < len) ⊎ (len ≤ i) → ℕ → ℕ → ℕ
pick (inr from) (inl to) (inl old) x y = x
pick (inl a) b c x y = y
pick (inr a) (inr b) c x y = y
pick (inr a) (inl b) (inr c) x y = y

pick_outside : {i at end len : ℕ} (a : (i < at) ⊎ (at ≤ i)) (b : (i < end) ⊎ (end ≤ i)) (c : (i < len) ⊎ (len ≤ i)) (x y : ℕ) → (i < at) ⊎ (end ≤ i) → pick a b c x y ≡ y
pick_outside (inl a) b c x y out = refl
pick_outside (inr a) (inr b) c x y out = refl
pick_outside (inr a) (inl b) (inr c) x y out = refl
pick_outside (inr a) (inl b) (inl c) x y (inl before) = absurd (omega arith)
pick_outside (inr a) (inl b) (inl c) x y (inr behind) = absurd (omega arith)

-- where y is x too outside the range, it is x below the end of the base
pick_base : {i at end len : ℕ} (a : (i < at) ⊎ (at ≤ i)) (b : (i < end) ⊎ (end ≤ i)) (c : (i < len) ⊎ (len ≤ i)) (x y : ℕ) → i < len → ((i < at) ⊎ (end ≤ i) → y ≡ x) → pick a b c x y ≡ x
pick_base (inl a) b c x y low same = same (inl a)
pick_base (inr a) (inr b) c x y low same = same (inr b)
pick_base (inr a) (inl b) (inl c) x y low same = refl
pick_base (inr a) (inl b) (inr c) x y low same = absurd (omega arith)

module _ (at n : ℕ) (old new : FileState) (wrote : Pends at n old new) (here : MayLeave old old.seen) (within : at ≤ length old.seen) (c : List ℕ) (left : MayLeave new c) where
  -- in the range, as far as it goes, the base; elsewhere what a crash leaves
  was : ℕ → ℕ
  was i = pick (cases_lt i at) (cases_lt i (at + n)) (cases_lt i (length old.base)) (slice_index old.base i) (slice_index c i)

  size : ℕ
  size = min (length c) old.longest

  before : List ℕ
  before = map was (range_with_len 0 size)

  length-before : length before ≡ size
  unfolding before
  length-before = length-map-range_with_len was 0 size

  at-before : (i : ℕ) → i < size → slice_index before i ≡ was i
  unfolding before
  at-before i low = get_or-map-range_with_len was 0 size i i 0 low (omega arith)

  shorter : length old.base ≤ length c
  shorter = subst (λ (l : List ℕ). length l ≤ length c) wrote.base left.no_shorter

  longer : length c ≤ max old.longest (at + n)
  longer = subst (λ (k : ℕ). length c ≤ k) wrote.longest left.no_longer

  unwritten : (i : ℕ) → i < length old.base → (i < at) ⊎ (at + n ≤ i) → Untouched old.ranges i → slice_index c i ≡ slice_index old.base i
  unwritten i low out untouched =
      subst (λ (l : List ℕ). slice_index c i ≡ slice_index l i) wrote.base
      (left.same i (subst (λ (l : List ℕ). i < length l) (sym wrote.base) low) (subst (λ (rs : List (ℕ × ℕ)). Untouched rs i) (sym wrote.ranges) (out, untouched)))

  was_left : MayLeave old before
  unfolding was size
  was_left = record {
    no_shorter = omega (arith, length-before, shorter, here.no_shorter, here.no_longer);
    no_longer = omega (arith, length-before);
    same = λ i low untouched.
        at-before i (omega (arith, shorter, here.no_shorter, here.no_longer))
        ∙ pick_base (cases_lt i at) (cases_lt i (at + n)) (cases_lt i (length old.base)) (slice_index old.base i) (slice_index c i) low (λ out. unwritten i low out untouched);
  }

  outside : (i : ℕ) → i < size → (i < at) ⊎ (at + n ≤ i) → slice_index before i ≡ slice_index c i
  unfolding was
  outside i low out = at-before i low ∙ pick_outside (cases_lt i at) (cases_lt i (at + n)) (cases_lt i (length old.base)) (slice_index old.base i) (slice_index c i) out

  pends_follows : (d : List ℕ) × MayLeave old d × Tears at n d c
  unfolding size
  pends_follows = (
    before,
    was_left,
    record {
      before = ext_get_or 0 (take at c) (take at before) (omega (arith, length-take at c, length-take at before, length-before, here.no_longer)) λ i low.
          let short : i < at = omega (arith, length-take at c) in
          let within : i < size = omega (arith, length-take at c, here.no_longer) in
          get_or-take at c i 0 short ∙ sym (outside i within (inl short)) ∙ sym (get_or-take at before i 0 short);
      after = ext_get_or 0 (drop (at + n) c) (drop (at + n) before) (omega (arith, length-drop (at + n) c, length-drop (at + n) before, length-before, longer)) λ i low.
          let within : at + n + i < size = omega (arith, length-drop (at + n) c, longer) in
          let far : at + n ≤ at + n + i = omega arith in
          get_or-drop (at + n) c i 0 ∙ sym (outside (at + n + i) within (inr far)) ∙ sym (get_or-drop (at + n) before i 0);
      no_shorter = omega (arith, length-before);
      no_longer = omega (arith, length-before, longer);
    },
  )

pub Tears-refl : (at n : ℕ) (c : List ℕ) → Tears at n c c
Tears-refl at n c = record { before = refl; after = refl; no_shorter = omega arith; no_longer = omega arith }

-- a tear of a tear
pub Tears-trans : (at n : ℕ) (e d c : List ℕ) → Tears at n e d → Tears at n d c → Tears at n e c
Tears-trans at n e d c first second = record {
  before = second.before ∙ first.before;
  after = second.after ∙ first.after;
  no_shorter = omega (arith, first.no_shorter, second.no_shorter);
  no_longer = omega (arith, first.no_longer, second.no_longer);
}

-- a tear within a wider range
pub Tears-wider : (at n from m : ℕ) (d c : List ℕ) → from ≤ at → at + n ≤ from + m → Tears at n d c → Tears from m d c
Tears-wider at n from m d c low high tears =
    let back : at + n + (from + m - (at + n)) ≡ from + m = omega arith in
    record {
      before = sym (take-take from at c low) ∙ ap (λ (l : List ℕ). take from l) tears.before ∙ take-take from at d low;
      after = ap (λ (k : ℕ). drop k c) (sym back) ∙ sym (drop-drop (from + m - (at + n)) (at + n) c)
          ∙ ap (λ (l : List ℕ). drop (from + m - (at + n)) l) tears.after
          ∙ drop-drop (from + m - (at + n)) (at + n) d ∙ ap (λ (k : ℕ). drop k d) back;
      no_shorter = tears.no_shorter;
      no_longer = omega (arith, tears.no_longer);
    }

-- a write that goes through is a tear too
pub Tears-overlaid : (at : ℕ) (bytes file : List ℕ) → at ≤ length file → Tears at (length bytes) file (overlaid file at bytes)
Tears-overlaid at bytes file within =
    let front : length (take at file) ≡ at = omega (arith, length-take at file) in
    let far : length (take at file ++ bytes) ≡ at + length bytes = omega (arith, length-append (take at file) bytes, front) in
    record {
      before = ap (λ (l : List ℕ). take at l) (append_assoc (take at file) bytes (drop (at + length bytes) file)) ∙ take_at (take at file) (bytes ++ drop (at + length bytes) file) at front;
      after = drop_at (take at file ++ bytes) (drop (at + length bytes) file) (at + length bytes) far;
      no_shorter = omega (arith, length-append (take at file ++ bytes) (drop (at + length bytes) file), far, length-drop (at + length bytes) file);
      no_longer = omega (arith, length-append (take at file ++ bytes) (drop (at + length bytes) file), far, length-drop (at + length bytes) file);
    }

-- a byte outside the range is as it was
pub Tears-at : (at n : ℕ) (old new : List ℕ) → Tears at n old new → (i : ℕ) → (i < at) ⊎ (at + n ≤ i) → slice_index new i ≡ slice_index old i
Tears-at at n old new tears i (inl before) = sym (get_or-take at new i 0 before) ∙ ap (λ (l : List ℕ). slice_index l i) tears.before ∙ get_or-take at old i 0 before
Tears-at at n old new tears i (inr behind) =
    let back : at + n + (i - (at + n)) ≡ i = omega arith in
    ap (λ (k : ℕ). slice_index new k) (sym back)
    ∙ sym (get_or-drop (at + n) new (i - (at + n)) 0) ∙ ap (λ (l : List ℕ). slice_index l (i - (at + n))) tears.after ∙ get_or-drop (at + n) old (i - (at + n)) 0
    ∙ ap (λ (k : ℕ). slice_index old k) back

-- what a crash leaves after a write is what one left before it, torn
pub wrote_follows : (at n : ℕ) (old new : FileState) → Wrote at n old new → MayLeave old old.seen → at ≤ length old.seen → (c : List ℕ) → MayLeave new c → (d : List ℕ) × MayLeave old d × Tears at n d c
wrote_follows at n old new wrote here within c left = elim wrote.pends [
  | inl pends ↦ pends_follows at n old new pends here within c left
  | inr same ↦ (c, subst (λ (s : FileState). MayLeave s c) same left, Tears-refl at n c)
]

-- and each such tear of what a crash could leave may be left, once the write's range is pending
pub torn_may_stay : (at n : ℕ) (old new : FileState) → Pends at n old new → (before after : List ℕ) → MayLeave old before → Tears at n before after → MayLeave new after
torn_may_stay at n old new pends before after left tears = record {
  no_shorter = subst (λ (l : List ℕ). length l ≤ length after) (sym pends.base) (omega (arith, left.no_shorter, tears.no_shorter));
  no_longer = subst (λ (k : ℕ). length after ≤ k) (sym pends.longest) (omega (arith, left.no_longer, tears.no_longer));
  same = λ i low untouched.
      let low_old : i < length old.base = subst (λ (l : List ℕ). i < length l) pends.base low in
      let apart : ((i < at) ⊎ (at + n ≤ i)) × Untouched old.ranges i = subst (λ (rs : List (ℕ × ℕ)). Untouched rs i) pends.ranges untouched in
      Tears-at at n before after tears i apart.0 ∙ left.same i low_old apart.1 ∙ ap (λ (l : List ℕ). slice_index l i) (sym pends.base);
}

pub seen-after_sync : (ok : Bool) (file : FileState) → (after_sync ok file).seen ≡ file.seen
seen-after_sync true file = refl
seen-after_sync false file = refl
