-- Reading things one after the other, as a loop does.
use Rattle.std.proofs.Common.{◌≡◌, ℕ, suc, ◌-◌, ◌+◌, ◌≤◌, ◌<◌, List, [], ◌∷◌, ◌++◌, Result, Ok, Err, refl, sym, ap, ◌∙◌, append_assoc, append-nil, arith}
use Rattle.field_codec.specs.declared.faults.CodecFault.{CodecFault}
use Rattle.field_codec.specs.declared.faults.CodecFault.TheVariants.{Short, BadTag, NotUtf8, Over, BadOrder, Unknown, Trailing, Memory}
use Rattle.field_codec.specs.Readers.{and_then, Reader, chain}
use Rattle.field_codec.specs.Results.{Faults}

-- what was read before, and what is still read
abbrev pub with_front : {A : Type 0} → List A → Result (List A × ℕ) CodecFault → Result (List A × ℕ) CodecFault
with_front front read = and_then read (λ xs. Ok (front ++ xs.0, xs.1))

-- a fault is passed on
pub faults_on : {A B : Type 0} (e : CodecFault) (one : Result A CodecFault) (all : Result B CodecFault) → Faults e one → ((f : CodecFault) → one ≡ Err f → all ≡ Err f) → Faults e all
faults_on Memory one all fails on = tt
faults_on (Short p) one all fails on = on _ fails
faults_on (BadTag p b) one all fails on = on _ fails
faults_on (NotUtf8 p) one all fails on = on _ fails
faults_on (Over p n) one all fails on = on _ fails
faults_on (BadOrder p) one all fails on = on _ fails
faults_on (Unknown p) one all fails on = on _ fails
faults_on (Trailing p) one all fails on = on _ fails

module _ {S A : Type 0} (read : S → Reader A) (next : S → A → S) (bytes : List ℕ) where
  regroup : (front : List A) (x : A) (r : Result (List A × ℕ) CodecFault) → with_front front (and_then r (λ xs. Ok (x ∷ xs.0, xs.1))) ≡ with_front (front ++ x ∷ []) r
  regroup front x (Ok y) = ap (λ (xs : List A). Ok (xs, y.1)) (simp append_assoc)
  regroup front x (Err f) = refl

  pub goes_on : (s : S) (front : List A) (count i at : ℕ) (x : A) (end : ℕ) (total : Result (List A × ℕ) CodecFault) → i < count → read s bytes at ≡ Ok (x, end)
      → with_front front (chain read next s (count - i) bytes at) ≡ total → with_front (front ++ x ∷ []) (chain read next (next s x) (count - (i + 1)) bytes end) ≡ total
  unfolding chain
  goes_on s front count i at x end total lt h so_far =
      let k : count - i ≡ suc (count - (i + 1)) = omega arith in
      let one : with_front front (chain read next s (count - i) bytes at) ≡ with_front (front ++ x ∷ []) (chain read next (next s x) (count - (i + 1)) bytes end) = rw (k, h) (regroup front x (chain read next (next s x) (count - (i + 1)) bytes end)) in
      sym one ∙ so_far

  pub ends : (s : S) (e : CodecFault) (front : List A) (count i at : ℕ) (total : Result (List A × ℕ) CodecFault) → i < count → Faults e (read s bytes at)
      → with_front front (chain read next s (count - i) bytes at) ≡ total → Faults e total
  unfolding chain
  ends s e front count i at total lt h so_far = faults_on e (read s bytes at) total h λ f is.
      let k : count - i ≡ suc (count - (i + 1)) = omega arith in
      let one : with_front front (chain read next s (count - i) bytes at) ≡ Err f = rw (k, is) refl in
      sym so_far ∙ one

  pub is_done : (s : S) (front : List A) (count i at : ℕ) (total : Result (List A × ℕ) CodecFault) → count ≤ i → with_front front (chain read next s (count - i) bytes at) ≡ total → total ≡ Ok (front, at)
  unfolding chain
  is_done s front count i at total le so_far =
      let k : count - i ≡ 0 = omega arith in
      let one : with_front front (chain read next s (count - i) bytes at) ≡ Ok (front, at) = rw k (ap (λ (xs : List A). Ok (xs, at)) (append-nil front)) in
      sym so_far ∙ one
