-- The states of the versions that a record names, one after another, and the faults of versions.
use Rattle.std.proofs.Common.{◌≡◌, inl, inr, ℕ, zero, suc, ◌<◌, List, [], ◌∷◌, ◌++◌, map, length, get_or, arith, Bool, true, false, if◌then◌else◌, Option, Some, None, Result, Ok, Err, refl, sym, ◌∙◌, ap, subst, append_assoc, append-nil}
use Rattle.std.specs.Prelude.{zip}
use Rattle.base_types.specs.declared.calls.GrainId.{GrainId}
use Rattle.base_types.specs.declared.calls.UnitNo.{UnitNo}
use Rattle.base_types.specs.declared.calls.Value.{Value}
use Rattle.base_types.specs.declared.shapes.Shape.{Shape}
use Rattle.base_types.specs.declared.stores.Version.{Version}
use Rattle.base_types.specs.declared.stores.Store.{Store}
use Rattle.base_types.specs.Stores.{state_in, PutsState}
use Rattle.host_trait.specs.Files.{same_grain}
use Rattle.host_trait.proofs.Names.{same_grain-is, same_grain-refl}
use Rattle.host_trait.specs.declared.channels.FileId.{FileId}
use Rattle.host_trait.specs.declared.channels.FileId.TheVariants.{Grain}
use Rattle.host_trait.specs.World.{Image}
use Rattle.field_codec.specs.declared.formats.Format.TheVariants.{Two}
use Rattle.commit_log.specs.declared.records.Named.{Named}
use Rattle.commit_log.specs.declared.records.Written.{Written}
use Rattle.core_model.specs.CoreState.{Member}
use Rattle.log_reading.specs.Versions.{version_named, state_of}
use Rattle.log_reading.specs.declared.faults.FolderFault.{FolderFault}
use Rattle.log_reading.proofs.Errors.{failed}
use Rattle.log_audit.specs.RereadFaults.{IsWriteFault}

abbrev pub named_as : UnitNo → Written → Named
named_as unit w = record { unit = Some unit; program = 0; written = w }

-- these grains with the states that stand at their places
abbrev pub states_at : ℕ → Shape → Image → UnitNo → List Written → List (GrainId × List Value)
states_at live shape image unit ws = zip (map (λ w. w.grain) ws) (map (λ w. state_of (version_named live Two shape image (record { unit = Some unit; program = 0; written = w }))) ws)

module _ (live : ℕ) (shape : Shape) (image : Image) (unit : UnitNo) where
  -- one more
  pub version_more : (w : Written) (more left : List Written) (v : Version) (old new all : List (GrainId × List Value)) → left ≡ w ∷ more → new ≡ old ++ ((w.grain, v.state) ∷ [])
      → version_named live Two shape image (named_as unit w) ≡ Ok v → old ++ states_at live shape image unit left ≡ all → new ++ states_at live shape image unit more ≡ all
  version_more w more left v old new all next pushed is so_far =
      ap (λ (l : List (GrainId × List Value)). l ++ states_at live shape image unit more) pushed ∙ append_assoc old ((w.grain, v.state) ∷ []) (states_at live shape image unit more)
      ∙ ap (λ (r : Result Version ℕ). old ++ ((w.grain, state_of r) ∷ states_at live shape image unit more)) (sym is)
      ∙ ap (λ (l : List Written). old ++ states_at live shape image unit l) (sym next) ∙ so_far

  pub versions_all : (left : List Written) (old all : List (GrainId × List Value)) → left ≡ [] → old ++ states_at live shape image unit left ≡ all → old ≡ all
  versions_all left old all none so_far = sym (append-nil old) ∙ ap (λ (l : List Written). old ++ states_at live shape image unit l) (sym none) ∙ so_far

-- what stands at an index of a list is in it
at_index : {A : Type 0} (xs : List A) (i : ℕ) (d : A) → i < length xs → Member (get_or xs i d) xs
at_index [] i d low = absurd (omega arith)
at_index (x ∷ xs) zero d low = inl refl
at_index (x ∷ xs) (suc i) d low = inr (at_index xs i d (omega arith))

pub in_seam : (xs : List Written) (i : ℕ) (d : Written) (ws : List Written) → i < length xs → xs ≡ ws → Member (get_or xs i d) ws
in_seam xs i d ws low same = subst (λ (l : List Written). Member (get_or xs i d) l) same (at_index xs i d low)

-- a fault of reading the version of a write
pub version_fault : {A : Type 0} (live : ℕ) (shape : Shape) (image : Image) (unit : Option UnitNo) (ws : List Written) (w : Written) → Member w ws → (e : FolderFault)
    → ((at : FileId) (place : ℕ) → failed {A = A} e ≡ failed (FolderFault.Damaged at place) → version_named live Two shape image (record { unit = unit; program = 0; written = w }) ≡ Err place)
    → ((at : FileId) → failed {A = A} e ≡ failed (FolderFault.Failed at) → at ≡ Grain live w.grain) → IsWriteFault live shape image unit ws e
version_fault live shape image unit ws w in_it (FolderFault.Damaged at place) damaged fails = (w, in_it, damaged at place refl)
version_fault live shape image unit ws w in_it (FolderFault.Failed at) damaged fails = (w, in_it, fails at refl)
version_fault live shape image unit ws w in_it FolderFault.Memory damaged fails = tt

-- ---- the versions of a checkpoint

-- a version that a checkpoint names, whichever unit's it is
abbrev pub saved_as : Written → Named
saved_as w = record { unit = None; program = 0; written = w }

-- a state that is put is the grain's, and others have theirs
pub state_put : (old new : Store) (grain other : GrainId) (state : List Value) → PutsState old new grain state → state_in new other ≡ (if same_grain grain other then Some state else state_in old other)
state_put old new grain other state puts = by_test (same_grain grain other) refl
  where
    by_test : (b : Bool) → same_grain grain other ≡ b → state_in new other ≡ (if b then Some state else state_in old other)
    by_test true same = ap (state_in new) (sym (same_grain-is grain other same)) ∙ puts.put
    by_test false differ = puts.others other (λ is. (let z : true ≡ false = sym (ap (λ (h : GrainId). same_grain grain h) is ∙ same_grain-refl grain) ∙ differ in cc z))
