-- Counts of faults after a step of the settler.
use Rattle.std.proofs.Common.{◌≡◌, ◌≢◌, ◌⊎◌, inl, inr, ℕ, ◌+◌, ◌-◌, ◌^◌, ◌<◌, ◌≤◌, min, true, false, refl, sym, ap, subst, arith}
use Rattle.std.proofs.lemmas.Bool.{cases_Bool}
use Rattle.base_types.specs.declared.calls.GrainId.{GrainId}
use Rattle.host_trait.specs.declared.channels.Channel.{Channel}
use Rattle.host_trait.specs.declared.channels.Channel.TheVariants.{Input, Output, File}
use Rattle.host_trait.specs.declared.channels.FileId.{FileId}
use Rattle.host_trait.specs.declared.channels.FileId.TheVariants.{Manager, Grain}
use Rattle.host_trait.specs.Faults.{Rose, NoneFailed, FailedOn}
use Rattle.host_trait.specs.Files.{same_grain}
use Rattle.host_trait.proofs.Names.{cases_file, same_grain-is}
use Rattle.core_model.specs.LegalRuns.{Run}
use Rattle.promise_spec.specs.Causes.{AreFaults, NoneRose, RoseBy, is_no, is_unsealed}
use Rattle.promise_spec.specs.Cores.{how_many}

cases_channel : (a b : Channel) → (a ≡ b) ⊎ (a ≢ b)
cases_channel Input Input = inl refl
cases_channel Input Output = inr (λ q. absurd cc)
cases_channel Input (File f) = inr (λ q. absurd cc)
cases_channel Output Input = inr (λ q. absurd cc)
cases_channel Output Output = inl refl
cases_channel Output (File f) = inr (λ q. absurd cc)
cases_channel (File f) Input = inr (λ q. absurd cc)
cases_channel (File f) Output = inr (λ q. absurd cc)
cases_channel (File f) (File g) = elim (cases_file f g) [
  | inl same ↦ inl (ap File same)
  | inr apart ↦ inr (λ q. apart (file-is f g q))
]
  where
    file-is : (x y : FileId) → File x ≡ File y → x ≡ y
    file-is x y q = cc

-- no count fell
abbrev pub NoneFell : (Channel → ℕ) → (Channel → ℕ) → Type 0
NoneFell old new = (c : Channel) → old c ≤ new c

pub failed-later : (channel : Channel) (old new : Channel → ℕ) → FailedOn channel old new → NoneFell old new
failed-later channel old new failed c = elim (cases_channel c channel) [
  | inl same ↦ subst (λ (x : Channel). old x ≤ new x) (sym same) failed.counts.later
  | inr apart ↦ (let q : new c ≡ old c = failed.counts.others c apart in omega (arith, q))
]

pub calm-later : (old new : Channel → ℕ) → NoneFailed old new → NoneFell old new
calm-later old new calm c = (let q : new c ≡ old c = calm c in omega (arith, q))

pub fell-both : (a b c : Channel → ℕ) → NoneFell a b → NoneFell b c → NoneFell a c
fell-both a b c one other x = (let p = one x in let q = other x in omega (arith, p, q))

rose-still : (n a x y : ℕ) → RoseBy n a x → x ≤ y → RoseBy n a y
rose-still n a x y rose le = omega (arith, rose, le)

rose-once : (n a x y : ℕ) → RoseBy n a x → Rose x y → RoseBy (n + 1) a y
rose-once n a x y rose once = omega (arith, rose, once)

module _ (live : ℕ) (r r' : Run) (first old new : Channel → ℕ) (faults : AreFaults live r first old) (later : NoneFell old new) where
  still-seals : how_many is_unsealed r' ≡ how_many is_unsealed r → RoseBy (how_many is_unsealed r') (first (File (Manager live))) (new (File (Manager live)))
  still-seals same = subst (λ (n : ℕ). RoseBy n (first (File (Manager live))) (new (File (Manager live)))) (sym same)
      (rose-still (how_many is_unsealed r) (first (File (Manager live))) (old (File (Manager live))) (new (File (Manager live))) faults.seals (later (File (Manager live))))

  still-vote : (g : GrainId) → how_many (is_no g) r' ≡ how_many (is_no g) r → RoseBy (how_many (is_no g) r') (first (File (Grain live g))) (new (File (Grain live g)))
  still-vote g same = subst (λ (n : ℕ). RoseBy n (first (File (Grain live g))) (new (File (Grain live g)))) (sym same)
      (rose-still (how_many (is_no g) r) (first (File (Grain live g))) (old (File (Grain live g))) (new (File (Grain live g))) (faults.votes g) (later (File (Grain live g))))

  -- no more of either kind
  pub faults-same : ((g : GrainId) → how_many (is_no g) r' ≡ how_many (is_no g) r) → how_many is_unsealed r' ≡ how_many is_unsealed r → AreFaults live r' first new
  faults-same votes seals = record { votes = λ g. still-vote g (votes g); seals = still-seals seals }

  -- a batch more that isn't on disk
  pub faults-unsealed : ((g : GrainId) → how_many (is_no g) r' ≡ how_many (is_no g) r) → how_many is_unsealed r' ≡ how_many is_unsealed r + 1 → Rose (old (File (Manager live))) (new (File (Manager live)))
      → AreFaults live r' first new
  faults-unsealed votes seals rose = record {
    votes = λ g. still-vote g (votes g);
    seals = subst (λ (n : ℕ). RoseBy n (first (File (Manager live))) (new (File (Manager live)))) (sym seals)
        (rose-once (how_many is_unsealed r) (first (File (Manager live))) (old (File (Manager live))) (new (File (Manager live))) faults.seals rose);
  }

  -- a vote of no
  pub faults-no : (g : GrainId) → ((h : GrainId) → same_grain g h ≡ false → how_many (is_no h) r' ≡ how_many (is_no h) r)
      → ((h : GrainId) → same_grain g h ≡ true → how_many (is_no h) r' ≡ how_many (is_no h) r + 1)
      → how_many is_unsealed r' ≡ how_many is_unsealed r → Rose (old (File (Grain live g))) (new (File (Grain live g))) → AreFaults live r' first new
  faults-no g others this seals rose = record {
    votes = λ h. elim (cases_Bool (same_grain g h)) [
      | inl same ↦
          let is : g ≡ h = same_grain-is g h same in
          subst (λ (n : ℕ). RoseBy n (first (File (Grain live h))) (new (File (Grain live h)))) (sym (this h same))
          (rose-once (how_many (is_no h) r) (first (File (Grain live h))) (old (File (Grain live h))) (new (File (Grain live h))) (faults.votes h)
          (subst (λ (x : GrainId). Rose (old (File (Grain live x))) (new (File (Grain live x)))) is rose))
      | inr apart ↦ still-vote h (others h apart)
    ];
    seals = still-seals seals;
  }

-- where none rose by now, none had before
pub rose-back : (first old new : Channel → ℕ) → NoneFell first old → NoneFell old new → NoneRose first new → NoneRose first old
rose-back first old new before later none c = (
  (let a = before c in let b = later c in let q : new c ≡ first c = (none c).0 in omega (arith, a, b, q)),
  (none c).1,
)

-- and none failed
pub none-failed : (first old new : Channel → ℕ) (channel : Channel) → NoneFell first old → FailedOn channel old new → NoneRose first new → ⊥
none-failed first old new channel before failed none =
    let a = before channel in
    let q : new channel ≡ first channel = (none channel).0 in
    let low : first channel < 2 ^ 64 - 1 = (none channel).1 in
    let rose : min (old channel + 1) (2 ^ 64 - 1) ≤ new channel = failed.rose in
    omega (arith, a, q, low, rose)
