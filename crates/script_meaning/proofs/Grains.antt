-- Grains that a unit holds: how each is held, whatever the states are.
use Rattle.std.proofs.Common.{◌≡◌, ◌≢◌, ℕ, suc, List, [], ◌∷◌, ◌++◌, length, map, Bool, true, false, Option, Some, None, refl, sym, ap, ◌∙◌, arith}
use Rattle.std.specs.Prelude.{if◌then◌else◌, ◌&&◌, nat_eq}
use Rattle.std.specs.List.{All, Contains}
use Rattle.std.proofs.lemmas.Bool.{eq-eqb, eqb-true}
use Rattle.std.proofs.lemmas.List.{length-map}
use Rattle.std.proofs.lemmas.List.Elements.{All-nil, All-cons, All-head, All-tail, All-contains}
use Rattle.base_types.specs.declared.calls.GrainId.{GrainId}
use Rattle.base_types.specs.declared.calls.Mode.{Mode}
use Rattle.base_types.specs.declared.calls.Mode.TheVariants.{Update}
use Rattle.base_types.specs.declared.calls.Value.{Value}
use Rattle.script_holding.specs.declared.held_grain.Held.{Held}
use Rattle.script_holding.specs.Holding.{same_grain, mode_at, change, raised, with_field}

-- a grain is itself, and no other
pub is_same_grain : (grain : GrainId) → same_grain grain grain ≡ true
is_same_grain grain = ap (λ (b : Bool). b && nat_eq grain.key grain.key) (eq-eqb grain.kind grain.kind refl)
    ∙ eq-eqb grain.key grain.key refl

-- both sides of a conjunction that holds hold
both_true : (one other : Bool) → (one && other) ≡ true → (one ≡ true) × (other ≡ true)
both_true true other e = (refl, e)
both_true false other e = cc

-- grains that the test takes for the same are
pub same_grain_is : (one other : GrainId) → same_grain one other ≡ true → one ≡ other
same_grain_is one other e =
    let parts : (nat_eq one.kind other.kind ≡ true) × (nat_eq one.key other.key ≡ true) =
    both_true (nat_eq one.kind other.kind) (nat_eq one.key other.key) e in
    λ i. record { kind = eqb-true one.kind other.kind parts.0 i; key = eqb-true one.key other.key parts.1 i }

-- how a grain is held, without its state
abbrev pub held_in : GrainId → Mode → Held
held_in grain mode = record { grain = grain; mode = mode; state = []; written = false }

abbrev pub bare : Held → Held
bare one = held_in one.grain one.mode

-- a grain is held in the same mode without states, and where a field is set
pub mode_at-bare : (grain : GrainId) (held : List Held) → mode_at grain (map bare held) ≡ mode_at grain held
mode_at-bare grain [] = refl
mode_at-bare grain (first ∷ rest) =
    ap (λ (m : Option Mode). if same_grain first.grain grain then Some first.mode else m) (mode_at-bare grain rest)

-- and in the same mode where a field is set
pub mode_at-with_field : (grain at : GrainId) (i : ℕ) (value : Value) (held : List Held) →
    mode_at grain (change at (with_field i value) held) ≡ mode_at grain held
mode_at-with_field grain at i value [] = refl
mode_at-with_field grain at i value (first ∷ rest) =
    elim (same_grain first.grain at) as
    (λ b. mode_at grain (if b then with_field i value first ∷ rest else first ∷ change at
    (with_field i value) rest) ≡ mode_at grain (first ∷ rest)) [
      | true ↦ refl
      | false ↦ ap (λ (m : Option Mode). if same_grain first.grain grain then Some first.mode else m)
          (mode_at-with_field grain at i value rest)
    ]

-- a held grain stays so where others are added, and one that wasn't is held as it is added
pub mode_at-more : (grain : GrainId) (held more : List Held) (mode : Mode) → mode_at grain held ≡ Some mode →
    mode_at grain (held ++ more) ≡ Some mode
mode_at-more grain [] more mode e = cc
mode_at-more grain (first ∷ rest) more mode e =
    (elim (same_grain first.grain grain) as
    (λ b. (if b then Some first.mode else mode_at grain rest) ≡ Some mode →
    (if b then Some first.mode else mode_at grain (rest ++ more)) ≡ Some mode)
    [ true ↦ λ h. h | false ↦ λ h. mode_at-more grain rest more mode h ]) e

-- a grain that is added is held as it is added
pub mode_at-added : (one : Held) (held : List Held) → mode_at one.grain held ≡ None →
    mode_at one.grain (held ++ (one ∷ [])) ≡ Some one.mode
mode_at-added one [] e = ap (λ (b : Bool). if b then Some one.mode else None) (is_same_grain one.grain)
mode_at-added one (first ∷ rest) e =
    (elim (same_grain first.grain one.grain) as (λ b. (if b then Some first.mode else mode_at one.grain rest) ≡ None →
    (if b then Some first.mode else mode_at one.grain (rest ++ (one ∷ []))) ≡ Some one.mode)
    [ true ↦ λ h. cc | false ↦ λ h. mode_at-added one rest h ]) e

-- a raised grain is held exclusive, and each other as before
pub mode_at-raised : (grain : GrainId) (held : List Held) (mode : Mode) → mode_at grain held ≡ Some mode →
    mode_at grain (change grain raised held) ≡ Some Update
mode_at-raised grain [] mode e = cc
mode_at-raised grain (first ∷ rest) mode e =
    (elim (same_grain first.grain grain) as
    (λ b. same_grain first.grain grain ≡ b → (if b then Some first.mode else mode_at grain rest) ≡ Some mode →
    mode_at grain (if b then raised first ∷ rest else first ∷ change grain raised rest) ≡ Some Update) [
      | true ↦ λ same h. ap (λ (b : Bool). if b then Some Update else mode_at grain rest) same
      | false ↦ λ same h. ap (λ (b : Bool). if b then Some first.mode else mode_at grain (change grain raised rest))
          same ∙ mode_at-raised grain rest mode h
    ]) refl e

-- a grain that is held exclusive stays so where one is raised
pub mode_at-raised_other : (grain at : GrainId) (held : List Held) → mode_at grain held ≡ Some Update →
    mode_at grain (change at raised held) ≡ Some Update
mode_at-raised_other grain at [] e = e
mode_at-raised_other grain at (first ∷ rest) e =
    elim (same_grain first.grain at) as
    (λ b. mode_at grain (if b then raised first ∷ rest else first ∷ change at raised rest) ≡ Some Update) [
      | true ↦ (elim (same_grain first.grain grain) as
          (λ b. (if b then Some first.mode else mode_at grain rest) ≡ Some Update →
          (if b then Some Update else mode_at grain rest) ≡ Some Update)
          [ true ↦ λ h. refl | false ↦ λ h. h ]) e
      | false ↦ (elim (same_grain first.grain grain) as
          (λ b. (if b then Some first.mode else mode_at grain rest) ≡ Some Update →
          (if b then Some first.mode else mode_at grain (change at raised rest)) ≡ Some Update)
          [ true ↦ λ h. h | false ↦ λ h. mode_at-raised_other grain at rest h ]) e
    ]

-- raising adds no grain
pub mode_at-not_raised : (grain at : GrainId) (held : List Held) → mode_at grain (change at raised held) ≡ None →
    mode_at grain held ≡ None
mode_at-not_raised grain at [] e = e
mode_at-not_raised grain at (first ∷ rest) e =
    (elim (same_grain first.grain at) as
    (λ b. mode_at grain (if b then raised first ∷ rest else first ∷ change at raised rest) ≡ None →
    mode_at grain (first ∷ rest) ≡ None) [
      | true ↦ λ h. (elim (same_grain first.grain grain) as
          (λ b. (if b then Some Update else mode_at grain rest) ≡ None →
          (if b then Some first.mode else mode_at grain rest) ≡ None)
          [ true ↦ λ k. cc | false ↦ λ k. k ]) h
      | false ↦ λ h. (elim (same_grain first.grain grain) as
          (λ b. (if b then Some first.mode else mode_at grain (change at raised rest)) ≡ None →
          (if b then Some first.mode else mode_at grain rest) ≡ None)
          [ true ↦ λ k. k | false ↦ λ k. mode_at-not_raised grain at rest k ]) h
    ]) e

-- a grain that is held nowhere is not among the first ones
pub mode_at-not_more : (grain : GrainId) (held more : List Held) → mode_at grain (held ++ more) ≡ None →
    mode_at grain held ≡ None
mode_at-not_more grain [] more e = refl
mode_at-not_more grain (first ∷ rest) more e =
    (elim (same_grain first.grain grain) as
    (λ b. (if b then Some first.mode else mode_at grain (rest ++ more)) ≡ None →
    (if b then Some first.mode else mode_at grain rest) ≡ None)
    [ true ↦ λ h. h | false ↦ λ h. mode_at-not_more grain rest more h ]) e

-- without states, raising is raising, and setting a field is nothing
pub bare-raised : (grain : GrainId) (held : List Held) →
    map bare (change grain raised held) ≡ change grain raised (map bare held)
bare-raised grain [] = refl
bare-raised grain (first ∷ rest) =
    elim (same_grain first.grain grain) as
    (λ b. map bare (if b then raised first ∷ rest else first ∷ change grain raised rest)
    ≡ (if b then raised (bare first) ∷ map bare rest else bare first ∷ change grain raised (map bare rest)))
    [ true ↦ refl | false ↦ ap (λ (l : List Held). bare first ∷ l) (bare-raised grain rest) ]

-- without states, setting a field is nothing
pub bare-with_field : (grain : GrainId) (i : ℕ) (value : Value) (held : List Held) →
    map bare (change grain (with_field i value) held) ≡ map bare held
bare-with_field grain i value [] = refl
bare-with_field grain i value (first ∷ rest) =
    elim (same_grain first.grain grain) as
    (λ b. map bare (if b then with_field i value first ∷ rest else first ∷ change grain (with_field i value) rest)
    ≡ bare first ∷ map bare rest)
    [ true ↦ refl | false ↦ ap (λ (l : List Held). bare first ∷ l) (bare-with_field grain i value rest) ]

-- raising keeps the grains
pub grains-raised : (grain : GrainId) (held : List Held) →
    map (λ one. one.grain) (change grain raised held) ≡ map (λ one. one.grain) held
grains-raised grain [] = refl
grains-raised grain (first ∷ rest) =
    elim (same_grain first.grain grain) as
    (λ b. map (λ (one : Held). one.grain) (if b then raised first ∷ rest else first ∷ change grain raised rest)
    ≡ first.grain ∷ map (λ (one : Held). one.grain) rest)
    [ true ↦ refl | false ↦ ap (λ (l : List GrainId). first.grain ∷ l) (grains-raised grain rest) ]

-- raising keeps how many are held
pub length-raised : (grain : GrainId) (held : List Held) → length (change grain raised held) ≡ length held
length-raised grain held =
    let grain_of : Held → GrainId = λ one. one.grain in
    sym (length-map (change grain raised held) grain_of) ∙ ap length (grains-raised grain held)
    ∙ length-map held grain_of

-- leaving the states out keeps the grains
pub grains-bare : (held : List Held) → map (λ one. one.grain) (map bare held) ≡ map (λ one. one.grain) held
grains-bare [] = refl
grains-bare (first ∷ rest) = ap (λ (l : List GrainId). first.grain ∷ l) (grains-bare rest)

-- a grain is among those held exactly where it is held in some mode
pub mode_at-none : (grain : GrainId) (held : List Held) → mode_at grain held ≡ None →
    ¬ Contains (map (λ one. one.grain) held) grain
mode_at-none grain held e among =
    All-contains (λ (g : GrainId). g ≢ grain) (map (λ (one : Held). one.grain) held) grain (others held e) among refl
  where
    others : (held : List Held) → mode_at grain held ≡ None → All (λ g. g ≢ grain) (map (λ one. one.grain) held)
    others [] e = All-nil (λ (g : GrainId). g ≢ grain)
    others (first ∷ rest) e =
        (elim (same_grain first.grain grain) as
        (λ b. same_grain first.grain grain ≡ b → (if b then Some first.mode else mode_at grain rest) ≡ None →
        All (λ g. g ≢ grain) (first.grain ∷ map (λ one. one.grain) rest)) [
          | true ↦ λ same h. absurd (cc)
          | false ↦ λ same h. All-cons (λ (g : GrainId). g ≢ grain) first.grain (map (λ (one : Held). one.grain) rest)
              (λ f. let back : same_grain first.grain grain ≡ true = ap (λ (g : GrainId). same_grain g grain) f
              ∙ is_same_grain grain in cc) (others rest h)
        ]) refl e

-- a grain that is held in some mode is among those held
pub mode_at-some : (grain : GrainId) (held : List Held) (mode : Mode) → mode_at grain held ≡ Some mode →
    Contains (map (λ one. one.grain) held) grain
mode_at-some grain [] mode e = absurd (cc)
mode_at-some grain (first ∷ rest) mode e =
    let grains : List GrainId = map (λ (one : Held). one.grain) rest in
    (elim (same_grain first.grain grain) as
    (λ b. same_grain first.grain grain ≡ b → (if b then Some first.mode else mode_at grain rest) ≡ Some mode →
    Contains (first.grain ∷ grains) grain) [
      | true ↦ λ same h. (0, omega arith, same_grain_is first.grain grain same)
      | false ↦ λ same h. let later : Contains grains grain = mode_at-some grain rest mode h in
          (suc later.0, omega (arith, later.1), later.2)
    ]) refl e

-- what holds of each held grain still does where it does of the changed one
pub All-change : (P : Held → Type 0) (grain : GrainId) (f : Held → Held) (held : List Held) → All P held →
    ((one : Held) → one.grain ≡ grain → mode_at grain held ≡ Some one.mode → P one → P (f one)) →
    All P (change grain f held)
All-change P grain f [] all step = All-nil P
All-change P grain f (first ∷ rest) all step =
    (elim (same_grain first.grain grain) as (λ b. same_grain first.grain grain ≡ b →
    ((one : Held) → one.grain ≡ grain → (if b then Some first.mode else mode_at grain rest) ≡ Some one.mode → P one →
    P (f one)) →
    All P (if b then f first ∷ rest else first ∷ change grain f rest)) [
      | true ↦ λ same at. All-cons P (f first) rest
          (at first (same_grain_is first.grain grain same) refl (All-head P first rest all)) (All-tail P first rest all)
      | false ↦ λ same at. All-cons P first (change grain f rest) (All-head P first rest all)
          (All-change P grain f rest (All-tail P first rest all) at)
    ]) refl step
