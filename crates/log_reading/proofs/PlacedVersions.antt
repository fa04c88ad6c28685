-- What stands at the places that a log leaves is what the log stands for, and what reading at places gives.
use Rattle.std.proofs.Common.{◌≡◌, inl, inr, ℕ, zero, suc, length, Bool, true, false, ◌||◌, Option, Some, None, is_some, List, [], ◌∷◌, Result, Ok, Err, refl, sym, ◌∙◌, ap, subst, if◌then◌else◌}
use Rattle.std.specs.Prelude.{⊤, slice_get, option_map}
use Rattle.std.specs.List.{list_any}
use Rattle.std.specs.Option.{option_flatten}
use Rattle.std.specs.declared.cmp.Ordering.{Ordering}
use Rattle.std.specs.declared.cmp.Ordering.TheVariants.{Less, Equal, Greater}
use Rattle.std.specs.Ordering.{eq_by_cmp, nat_cmp, ordering_then, is_eq}
use Rattle.std.proofs.lemmas.Map.Lookups.{exact_unsigned}
use Rattle.std.specs.Set.{is_member}
use Rattle.std.proofs.lemmas.Bool.{cases_Bool}
use Rattle.base_types.specs.declared.calls.GrainId.{GrainId}
use Rattle.base_types.specs.declared.calls.UnitNo.{UnitNo}
use Rattle.base_types.specs.declared.calls.Value.{Value}
use Rattle.base_types.specs.declared.shapes.Shape.{Shape}
use Rattle.base_types.specs.declared.stores.Place.{Place}
use Rattle.base_types.specs.declared.stores.Version.{Version}
use Rattle.base_types.specs.declared.places.Placed.{Placed}
use Rattle.base_types.specs.declared.places.Places.{Places}
use Rattle.base_types.specs.Places.{placed_in, has_seat}
use Rattle.base_types.specs.declared.stores.Store.{Store}
use Rattle.base_types.specs.Stores.{grain_cmp, state_in, PutsState}
use Rattle.host_trait.specs.declared.channels.Channel.{Channel}
use Rattle.host_trait.specs.declared.channels.FileId.{FileId}
use Rattle.host_trait.specs.declared.channels.FileId.TheVariants.{Grain}
use Rattle.host_trait.specs.Files.{same_grain}
use Rattle.host_trait.specs.World.{Image}
use Rattle.host_trait.proofs.Names.{same_grain-is, same_grain-refl}
use Rattle.field_codec.specs.declared.formats.Format.{Format}
use Rattle.grain_log.specs.declared.faults.VersionFault.{VersionFault}
use Rattle.grain_log.specs.Counts.{VersionReadFaulted}
use Rattle.grain_log.specs.Places.{IsVersionIn}
use Rattle.grain_log.specs.Reads.{fields_of, version_at_place, version_by_owner, is_owned, is_logged, GivesVersion}
use Rattle.commit_log.specs.declared.records.Named.{Named}
use Rattle.script_tree.specs.Programs.{ProgramTree}
use Rattle.script_check.specs.Shapes.{type_shapes}
use Rattle.program_file.specs.Succession.{shapes_in_turn, carried_from, version_meant}
use Rattle.program_file.specs.ProgramsInTurn.{HasFieldsUnder}
use Rattle.program_file.proofs.ProgramNumbers.{has_fields}
use Rattle.log_reading.specs.Counts.{ReadFaulted}
use Rattle.log_reading.specs.Versions.{version_by_shape, version_numbered, version_found, missing_or, first_missing, state_of}
use Rattle.log_reading.specs.Sums.{placed_as, placed_after, state_after}
use Rattle.log_reading.specs.PlacedVersions.{version_placed, placed_by_shape, placed_numbered, state_placed, state_reread, states_reread, fault_of, IsUnreadAt}

-- ---- what a log leaves

-- a version that was read where this is allowed is there
there_if : (b : Bool) (r : Result Version ℕ) (place : ℕ) (v : Version) → (if b then r else Err place) ≡ Ok v → r ≡ Ok v
there_if true r place v e = e
there_if false r place v e = absurd cc

-- whoever's it is
by_owner : (format : Format) (fields : Option ℕ) (owner : Option UnitNo) (place : Place) (file : List ℕ) (v : Version) → version_by_owner format fields owner place file ≡ Ok v → version_at_place format fields place file ≡ Ok v
by_owner format fields (Some u) place file v e = there_if (is_owned u place file) (version_at_place format fields place file) place.offset v e
by_owner format fields None place file v e = there_if (is_logged place file) (version_at_place format fields place file) place.offset v e

module _ (live : ℕ) (format : Format) (programs : List ProgramTree) (image : Image) where
  abbrev shapes_are : List Shape
  shapes_are = shapes_in_turn programs

  -- what a state means under the last of the programs
  abbrev pub means : GrainId → Option (ℕ × List Value) → Option (List Value)
  means g s = option_map (λ (x : ℕ × List Value). carried_from programs x.0 g.kind x.1) s

  abbrev version_at : Named → Result Version ℕ
  version_at n = version_numbered live format shapes_are image n

  abbrev place_of : Named → Placed
  place_of n = placed_as programs n.written.grain n.written.place n.program (version_found (version_at n))

  -- a named version stands at its place
  at_place : (n : Named) (v : Version) → version_at n ≡ Ok v → placed_by_shape live format (slice_get shapes_are n.program) image n.written.grain n.written.place ≡ Ok v
  at_place n v e = by_shape (slice_get shapes_are n.program) e
    where
      by_shape : (o : Option Shape) → version_by_shape live format o image n ≡ Ok v → placed_by_shape live format o image n.written.grain n.written.place ≡ Ok v
      by_shape None is = absurd cc
      by_shape (Some shape) is = by_owner format _ n.unit n.written.place (image (Grain live n.written.grain)) v is

  -- a version stands at a grain's place that is kept, and what it means is known
  abbrev pub IsStanding : GrainId → Option Placed → Type 0
  IsStanding g None = ⊤
  IsStanding g (Some p) = (v : Version) × (placed_numbered live format shapes_are image g p ≡ Ok v) × (p.known.version ≡ version_meant programs p.program g v)

  first_there : (n : Named) (r : Result Version ℕ) (later : Option (FileId × ℕ)) → missing_or live n.written.grain r later ≡ None → ((v : Version) × (r ≡ Ok v)) × (later ≡ None)
  first_there n (Ok v) later e = ((v, refl), e)
  first_there n (Err place) later e = absurd cc

  stands_by : (b : Bool) (g : GrainId) (n : Named) (v : Version) (p : Option Placed) → same_grain n.written.grain g ≡ b → version_at n ≡ Ok v → IsStanding g p → IsStanding g (if b then Some (place_of n) else p)
  stands_by false g n v p is e on = on
  stands_by true g n v p is e on =
      let same : n.written.grain ≡ g = same_grain-is n.written.grain g is in
      let there : placed_numbered live format shapes_are image g (place_of n) ≡ Ok v = ap (λ (h : GrainId). placed_by_shape live format (slice_get shapes_are n.program) image h n.written.place) (sym same) ∙ at_place n v e in
      let known : version_meant programs n.program n.written.grain (version_found (version_at n)) ≡ version_meant programs n.program g v = (λ i. version_meant programs n.program (same i) (version_found (e i))) in
      (v, there, known)

  -- each place that is kept behind versions that are there has its version
  pub all_stand : (named : List Named) → first_missing live format shapes_are image named ≡ None → (g : GrainId) (p : Option Placed) → IsStanding g p → IsStanding g (placed_after live format programs image p named g)
  all_stand [] whole g p on = on
  all_stand (n ∷ named) whole g p on =
      let t = first_there n (version_at n) (first_missing live format shapes_are image named) whole in
      all_stand named t.1 g (if same_grain n.written.grain g then Some (place_of n) else p) (stands_by (same_grain n.written.grain g) g n t.0.0 p refl t.0.1 on)

  -- the state that is known of a grain's place
  abbrev pub known_state : Option Placed → Option (List Value)
  known_state None = None
  known_state (Some p) = Some p.known.version.state

  known_by : (b : Bool) (g : GrainId) (n : Named) (v : Version) (p : Option Placed) (s : Option (ℕ × List Value)) → same_grain n.written.grain g ≡ b → version_at n ≡ Ok v → known_state p ≡ means g s
      → known_state (if b then Some (place_of n) else p) ≡ means g (if b then Some (n.program, state_of (version_at n)) else s)
  known_by false g n v p s is e on = on
  known_by true g n v p s is e on =
      ap (λ (r : Result Version ℕ). Some (carried_from programs n.program n.written.grain.kind (version_found r).state)) e ∙ ap (λ (h : GrainId). Some (carried_from programs n.program h.kind v.state)) (same_grain-is n.written.grain g is)
      ∙ sym (ap (λ (r : Result Version ℕ). Some (carried_from programs n.program g.kind (state_of r))) e)

  -- it is what the state means that the log leaves
  pub known_after : (named : List Named) → first_missing live format shapes_are image named ≡ None → (g : GrainId) (p : Option Placed) (s : Option (ℕ × List Value)) → known_state p ≡ means g s
      → known_state (placed_after live format programs image p named g) ≡ means g (state_after live format shapes_are image s named g)
  known_after [] whole g p s on = on
  known_after (n ∷ named) whole g p s on =
      let t = first_there n (version_at n) (first_missing live format shapes_are image named) whole in
      known_after named t.1 g (if same_grain n.written.grain g then Some (place_of n) else p) (if same_grain n.written.grain g then Some (n.program, state_of (version_at n)) else s)
      (known_by (same_grain n.written.grain g) g n t.0.0 p s refl t.0.1 on)

  placed_known : (g : GrainId) (p : Option Placed) → IsStanding g p → state_placed live format programs image g p None ≡ known_state p
  placed_known g None on = refl
  placed_known g (Some p) on = ap (λ (r : Result Version ℕ). Some (carried_from programs p.program g.kind (state_of r))) on.1 ∙ sym (ap (λ (w : Version). Some w.state) on.2)

  -- what stands at the places that a log leaves is what the states mean that it leaves
  pub placed_states : (named : List Named) → first_missing live format shapes_are image named ≡ None → (g : GrainId)
      → state_placed live format programs image g (placed_after live format programs image None named g) None ≡ means g (state_after live format shapes_are image None named g)
  placed_states named whole g = placed_known g (placed_after live format programs image None named g) (all_stand named whole g None tt) ∙ known_after named whole g None None refl

-- ---- reading at places

if_true : {A : Type 0} (b : Bool) (x y : A) → b ≡ true → (if b then x else y) ≡ x
if_true true x y e = refl
if_true false x y e = absurd cc

if_false : {A : Type 0} (b : Bool) (x y : A) → b ≡ false → (if b then x else y) ≡ y
if_false true x y e = absurd cc
if_false false x y e = refl

both_equal : (a b : Ordering) → is_eq (ordering_then a b) ≡ true → (a ≡ Equal) × (b ≡ Equal)
both_equal Less b e = absurd (cc e)
both_equal Greater b e = absurd (cc e)
both_equal Equal Less e = absurd (cc e)
both_equal Equal Greater e = absurd (cc e)
both_equal Equal Equal e = (refl, refl)

-- grains that the order doesn't tell apart are one
pub same_by_order : (a b : GrainId) → eq_by_cmp grain_cmp a b ≡ true → a ≡ b
same_by_order a b e =
    let equal = both_equal (nat_cmp a.kind b.kind) (nat_cmp a.key b.key) e in
    let kind : a.kind ≡ b.kind = exact_unsigned a.kind b.kind equal.0 in
    let key : a.key ≡ b.key = exact_unsigned a.key b.key equal.1 in
    λ i. record { kind = kind i; key = key i }

no_seat : (o : Option (Option Placed)) → is_some o ≡ false → option_flatten o ≡ None
no_seat None e = refl
no_seat (Some p) e = absurd cc

module _ (live : ℕ) (format : Format) (programs : List ProgramTree) (image : Image) (places : Places) (q : GrainId) where
  -- the grain's state once its version was read
  abbrev there : Option (List Value) → Option (List Value)
  there old = state_placed live format programs image q (placed_in places q) old

  read_twice : (p : Option Placed) → state_placed live format programs image q p (state_placed live format programs image q p None) ≡ state_placed live format programs image q p None
  read_twice None = refl
  read_twice (Some p) = refl

  at_grain : (g : GrainId) (old : Option (List Value)) → same_grain g q ≡ true → state_reread live format programs image places old g q ≡ there old
  at_grain g old same =
      if_true (same_grain g q) (state_placed live format programs image g (placed_in places g) old) old same ∙ ap (λ (h : GrainId). state_placed live format programs image h (placed_in places h) old) (same_grain-is g q same)

  off_grain : (g : GrainId) (old : Option (List Value)) → same_grain g q ≡ false → state_reread live format programs image places old g q ≡ old
  off_grain g old other = if_false (same_grain g q) (state_placed live format programs image g (placed_in places g) old) old other

  stays : (g : GrainId) (old : Option (List Value)) → old ≡ there None → state_reread live format programs image places old g q ≡ there None
  stays g old is = elim (cases_Bool (same_grain g q)) [
    | inl t ↦ at_grain g old t ∙ ap there is ∙ read_twice (placed_in places q)
    | inr f ↦ off_grain g old f ∙ is
  ]

  keeps : (grains : List GrainId) (old : Option (List Value)) → old ≡ there None → states_reread live format programs image places old grains q ≡ there None
  keeps [] old is = is
  keeps (g ∷ gs) old is = keeps gs (state_reread live format programs image places old g q) (stays g old is)

  in_tail : (g : GrainId) (gs : List GrainId) → same_grain g q ≡ false → list_any (eq_by_cmp grain_cmp q) (g ∷ gs) ≡ true → list_any (eq_by_cmp grain_cmp q) gs ≡ true
  in_tail g gs other e = by_test (eq_by_cmp grain_cmp q g) refl
    where
      by_test : (b : Bool) → eq_by_cmp grain_cmp q g ≡ b → list_any (eq_by_cmp grain_cmp q) gs ≡ true
      by_test true is =
          let same : same_grain g q ≡ true = subst (λ (h : GrainId). same_grain h q ≡ true) (same_by_order q g is) (same_grain-refl q) in
          let z : true ≡ false = sym same ∙ other in absurd cc
      by_test false is = sym (ap (λ (b : Bool). b || list_any (eq_by_cmp grain_cmp q) gs) is) ∙ e

  comes : (grains : List GrainId) → list_any (eq_by_cmp grain_cmp q) grains ≡ true → states_reread live format programs image places None grains q ≡ there None
  comes [] e = absurd cc
  comes (g ∷ gs) e = elim (cases_Bool (same_grain g q)) [
    | inl t ↦ keeps gs (state_reread live format programs image places None g q) (at_grain g None t)
    | inr f ↦ ap (λ (s : Option (List Value)). states_reread live format programs image places s gs q) (off_grain g None f) ∙ comes gs (in_tail g gs f e)
  ]

  -- where each grain that has a place was read, each has the state at its place
  pub all_reread : (grains : List GrainId) → is_member (eq_by_cmp grain_cmp) grains q ≡ has_seat places q → states_reread live format programs image places None grains q ≡ there None
  all_reread grains all = elim (cases_Bool (has_seat places q)) [
    | inl t ↦ comes grains (all ∙ t)
    | inr f ↦ keeps grains None (sym (ap (λ (p : Option Placed). state_placed live format programs image q p None) (no_seat _ f)))
  ]

-- one grain more
pub reread_more : (live : ℕ) (format : Format) (programs : List ProgramTree) (image : Image) (places : Places) (x : GrainId) (rest items : List GrainId) (q : GrainId) (old new all : Option (List Value)) → items ≡ x ∷ rest
    → new ≡ state_reread live format programs image places old x q → states_reread live format programs image places old items q ≡ all → states_reread live format programs image places new rest q ≡ all
reread_more live format programs image places x rest items q old new all are is so_far =
    ap (λ (s : Option (List Value)). states_reread live format programs image places s rest q) is ∙ ap (λ (l : List GrainId). states_reread live format programs image places old l q) (sym are) ∙ so_far

pub reread_all : (live : ℕ) (format : Format) (programs : List ProgramTree) (image : Image) (places : Places) (items : List GrainId) (q : GrainId) (old all : Option (List Value)) → items ≡ [] → states_reread live format programs image places old items q ≡ all → old ≡ all
reread_all live format programs image places items q old all are so_far = ap (λ (l : List GrainId). states_reread live format programs image places old l q) (sym are) ∙ so_far

-- what stands at a place, by the shape that its number names
pub placed_by : (live : ℕ) (format : Format) (shapes : List Shape) (image : Image) (grain : GrainId) (p : Placed) (shape : Shape) → slice_get shapes p.program ≡ Some shape
    → placed_numbered live format shapes image grain p ≡ version_placed live format shape image grain p.place
placed_by live format shapes image grain p shape is = ap (λ (o : Option Shape). placed_by_shape live format o image grain p.place) is

-- and where it names none
pub placed_by_none : (live : ℕ) (format : Format) (shapes : List Shape) (image : Image) (grain : GrainId) (p : Placed) → slice_get shapes p.program ≡ None
    → placed_numbered live format shapes image grain p ≡ Err p.place.offset
placed_by_none live format shapes image grain p is = ap (λ (o : Option Shape). placed_by_shape live format o image grain p.place) is

-- what a fault of reading a version says of the place
pub unread_there : (live : ℕ) (format : Format) (shapes : List Shape) (image : Image) (grain : GrainId) (p : Placed) (placed : Option Placed) (fault : VersionFault) → placed ≡ Some p
    → GivesVersion (Err fault) (placed_numbered live format shapes image grain p) → IsUnreadAt live format shapes image grain placed (fault_of live grain fault)
unread_there live format shapes image grain p placed (VersionFault.Damaged place) is gives = (refl, (p, is, gives))
unread_there live format shapes image grain p placed VersionFault.Failed is gives = refl
unread_there live format shapes image grain p placed VersionFault.Memory is gives = tt

-- and of the counts
pub faulted_there : (live : ℕ) (grain : GrainId) (fault : VersionFault) (old new : Channel → ℕ) → VersionReadFaulted (Grain live grain) fault old new → ReadFaulted (fault_of live grain fault) old new
faulted_there live grain (VersionFault.Damaged place) old new f = f
faulted_there live grain VersionFault.Failed old new f = f
faulted_there live grain VersionFault.Memory old new f = f

-- a version of the shape of a program has the fields of its type under that program
pub typed_there : (programs : List ProgramTree) (shapes : List Shape) (n : ℕ) (shape : Shape) (grain : GrainId) (format : Format) (size : ℕ) (v : Version) → shapes ≡ shapes_in_turn programs → slice_get shapes n ≡ Some shape
    → IsVersionIn format (fields_of (slice_get shape.types grain.kind)) size v → HasFieldsUnder programs n grain v.state
typed_there programs shapes n shape grain format size v are at fits = by programs n (ap (λ (l : List Shape). slice_get l n) (sym are) ∙ at)
  where
    counted : (fields : Option ℕ) → IsVersionIn format fields size v → fields ≡ Some (length v.state)
    counted None none = absurd none
    counted (Some count) is = ap (λ (m : ℕ). Some m) (sym is.count)

    by : (ps : List ProgramTree) (m : ℕ) → slice_get (shapes_in_turn ps) m ≡ Some shape → HasFieldsUnder ps m grain v.state
    by [] m is = absurd cc
    by (t ∷ ps) zero is =
        let same : shape ≡ record { types = type_shapes t } = cc in
        has_fields (t ∷ ps) 0 t grain v.state refl (ap (λ (s : Shape). fields_of (slice_get s.types grain.kind)) (sym same) ∙ counted (fields_of (slice_get shape.types grain.kind)) fits)
    by (t ∷ ps) (suc m) is = by ps m is

-- where the grain has no place, nothing is read
pub state_unplaced : (live : ℕ) (format : Format) (programs : List ProgramTree) (image : Image) (places : Places) (grain other : GrainId) (old : Option (List Value)) → placed_in places grain ≡ None → old ≡ state_reread live format programs image places old grain other
state_unplaced live format programs image places grain other old none =
    sym (ap (λ (p : Option Placed). if same_grain grain other then state_placed live format programs image grain p old else old) none ∙ either (same_grain grain other) old)
  where
    either : (b : Bool) (s : Option (List Value)) → (if b then s else s) ≡ s
    either true s = refl
    either false s = refl

-- a state that was read at a grain's place is put
pub state_put : (live : ℕ) (format : Format) (programs : List ProgramTree) (image : Image) (places : Places) (old new : Store) (grain other : GrainId) (p : Placed) (v : Version) → placed_in places grain ≡ Some p
    → placed_numbered live format (shapes_in_turn programs) image grain p ≡ Ok v → PutsState old new grain (carried_from programs p.program grain.kind v.state) → state_in new other ≡ state_reread live format programs image places (state_in old other) grain other
state_put live format programs image places old new grain other p v placed found puts =
    by_test (same_grain grain other) refl ∙ sym (ap (λ (q : Option Placed). if same_grain grain other then state_placed live format programs image grain q (state_in old other) else state_in old other) placed)
  where
    by_test : (b : Bool) → same_grain grain other ≡ b → state_in new other ≡ (if b then Some (carried_from programs p.program grain.kind (state_of (placed_numbered live format (shapes_in_turn programs) image grain p))) else state_in old other)
    by_test true same = ap (state_in new) (sym (same_grain-is grain other same)) ∙ puts.put ∙ sym (ap (λ (r : Result Version ℕ). Some (carried_from programs p.program grain.kind (state_of r))) found)
    by_test false differ = puts.others other (λ is. (let z : true ≡ false = sym (ap (λ (h : GrainId). same_grain grain h) is ∙ same_grain-refl grain) ∙ differ in cc))
