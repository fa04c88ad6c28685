-- The states at the places of an opened silo mean those for which its log stands.
use Rattle.std.proofs.Common.{◌≡◌, ◌⊎◌, inl, inr, ℕ, Option, Some, None, List, Result, Ok, Err, refl, sym, ◌∙◌, ap, subst}
use Rattle.std.specs.Prelude.{unwrap_or, option_map}
use Rattle.base_types.specs.declared.calls.GrainId.{GrainId}
use Rattle.base_types.specs.declared.calls.Value.{Value}
use Rattle.base_types.specs.declared.stores.Version.{Version}
use Rattle.base_types.specs.declared.places.Placed.{Placed}
use Rattle.base_types.specs.Places.{placed_in}
use Rattle.host_trait.specs.World.{Image}
use Rattle.host_trait.specs.declared.channels.FileId.TheVariants.{Grain}
use Rattle.field_codec.specs.declared.formats.Format.TheVariants.{Two}
use Rattle.log_reading.specs.declared.faults.FolderFault.{FolderFault}
use Rattle.log_reading.specs.Versions.{named_in, named_by_grain}
use Rattle.log_reading.specs.Sums.{state_after}
use Rattle.log_reading.specs.PlacedVersions.{placed_numbered, state_placed, IsUnreadAt}
use Rattle.log_reading.proofs.PlacedVersions.{IsStanding, known_state, known_after, all_stand, placed_states}
use Rattle.program_file.specs.Succession.{shapes_in_turn}
use Rattle.promise_spec.specs.Entries.{Log, initial_states, standing_of}
use Rattle.promise_spec.specs.Openings.{log_of}
use Rattle.silo_opening.specs.declared.faults.OpenFault.{OpenFault}
use Rattle.silo_opening.specs.declared.opened_silo.Opened.{Opened}
use Rattle.silo_opening.specs.OpenedSilo.{program_in, programs_of, shapes_of, in_folder, IsOpenedFrom}
use Rattle.silo_opening.proofs.LogStates.{carried_pair, counts}

-- each place has its version
pub opened_stand : (image : Image) (o : Opened) → IsOpenedFrom image o → (grain : GrainId) → IsStanding o.slot Two (programs_of o) image grain (placed_in o.places grain)
opened_stand image o is grain =
    subst (IsStanding o.slot Two (programs_of o) image grain) (sym (is.places grain)) (all_stand o.slot Two (programs_of o) image (named_by_grain (named_in is.read)) is.whole grain None tt)

-- the program in force is the one with which it was opened
in_force : (image : Image) (o : Opened) (is : IsOpenedFrom image o) → program_in o ≡ (standing_of (log_of Two o.slot is.first image is.read)).program
in_force image o is = sym is.program ∙ ap (λ (l : Log). (standing_of l).program) is.log_is

-- what its last versions leave means the log's states
pub left_stand : (image : Image) (o : Opened) (is : IsOpenedFrom image o) (grain : GrainId)
    → unwrap_or (option_map (carried_pair (programs_of o) grain) (state_after o.slot Two (shapes_of o) image None (named_by_grain (named_in is.read)) grain)) (initial_states (program_in o) grain) ≡ (standing_of is.log).states grain
left_stand image o is grain =
    let slot : ℕ = o.slot in
    (λ i. unwrap_or (option_map (carried_pair (is.programs i) grain) (state_after slot Two (shapes_in_turn (is.programs i)) image None (named_by_grain (named_in is.read)) grain)) (initial_states (in_force image o is i) grain))
    ∙ counts Two slot is.first image is.read grain
    ∙ ap (λ (l : Log). (standing_of l).states grain) (sym is.log_is)

-- what is read at the places means the log's states
pub states_stand : (image : Image) (o : Opened) (is : IsOpenedFrom image o) (grain : GrainId)
    → unwrap_or (state_placed o.slot Two (programs_of o) image grain (placed_in o.places grain) None) (initial_states (program_in o) grain) ≡ (standing_of is.log).states grain
states_stand image o is grain =
    ap (λ (s : Option (List Value)). unwrap_or s (initial_states (program_in o) grain))
    (ap (λ (q : Option Placed). state_placed o.slot Two (programs_of o) image grain q None) (is.places grain) ∙ placed_states o.slot Two (programs_of o) image (named_by_grain (named_in is.read)) is.whole grain)
    ∙ left_stand image o is grain

-- so does what is known of the versions at the places
pub known_stand : (image : Image) (o : Opened) (is : IsOpenedFrom image o) (grain : GrainId)
    → unwrap_or (known_state o.slot Two (programs_of o) image (placed_in o.places grain)) (initial_states (program_in o) grain) ≡ (standing_of is.log).states grain
known_stand image o is grain =
    ap (λ (s : Option (List Value)). unwrap_or s (initial_states (program_in o) grain))
    (ap (λ (q : Option Placed). known_state o.slot Two (programs_of o) image q) (is.places grain) ∙ known_after o.slot Two (programs_of o) image (named_by_grain (named_in is.read)) is.whole grain None None refl)
    ∙ left_stand image o is grain

no_error : (v : Version) (r : Result Version ℕ) (at : ℕ) → r ≡ Ok v → r ≡ Err at → ⊥
no_error v r at is e = (let z : Ok v ≡ Err at = sym is ∙ e in cc)

-- no version stands there: but it does
not_damaged : (image : Image) (o : Opened) → IsOpenedFrom image o → (grain : GrainId) (p : Placed) (at : ℕ) → placed_in o.places grain ≡ Some p → placed_numbered o.slot Two (shapes_of o) image grain p ≡ Err at → ⊥
not_damaged image o is grain p at placed damaged =
    let stands : IsStanding o.slot Two (programs_of o) image grain (Some p) = subst (IsStanding o.slot Two (programs_of o) image grain) placed (opened_stand image o is grain) in
    no_error stands.0 (placed_numbered o.slot Two (shapes_of o) image grain p) at stands.1 damaged

-- so a fault is that of a file that failed, or want of memory
pub only_failed : (image : Image) (o : Opened) → IsOpenedFrom image o → (fault : FolderFault) → ((grain : GrainId) × IsUnreadAt o.slot Two (shapes_of o) image grain (placed_in o.places grain) fault)
    → (e : OpenFault) → e ≡ in_folder fault → (e ≡ OpenFault.Memory) ⊎ ((grain : GrainId) × (e ≡ OpenFault.DiskFault (Grain o.slot grain)))
only_failed image o is (FolderFault.Damaged file at) unread e gives = absurd (not_damaged image o is unread.0 unread.1.1.0 at unread.1.1.1 unread.1.1.2)
only_failed image o is (FolderFault.Failed file) unread e gives = inr (unread.0, gives ∙ ap OpenFault.DiskFault unread.1)
only_failed image o is FolderFault.Memory unread e gives = inl gives

abbrev refused : {A : Type 0} → OpenFault → Result A OpenFault
refused e = Err e

-- no fault of reading a folder is that of its generation
pub never_last : {A : Type 0} (e : OpenFault) (fault : FolderFault) → e ≡ in_folder fault → refused {A = A} e ≡ refused OpenFault.LastGeneration → ⊥
never_last e (FolderFault.Damaged at place) is last = absurd cc
never_last e (FolderFault.Failed at) is last = absurd cc
never_last e FolderFault.Memory is last = absurd cc
