-- What was read of a grain's last version, where it has one.
use Rattle.std.proofs.Common.{◌≡◌, ℕ, Bool, IsTrue, if◌then◌else◌, List, Option, Some, Result, Ok, Err, slice_get, sym, ◌∙◌, ap, subst}
use Rattle.base_types.specs.Places.{placed_in}
use Rattle.base_types.specs.declared.calls.GrainId.{GrainId}
use Rattle.base_types.specs.declared.calls.UnitNo.{UnitNo}
use Rattle.base_types.specs.declared.calls.Value.{Value}
use Rattle.base_types.specs.declared.places.Placed.{Placed}
use Rattle.base_types.specs.declared.shapes.Shape.{Shape}
use Rattle.base_types.specs.declared.stores.Version.{Version}
use Rattle.cell_model.specs.Units.{nobody}
use Rattle.host_trait.specs.declared.channels.Channel.{Channel}
use Rattle.host_trait.specs.declared.channels.FileId.TheVariants.{Grain}
use Rattle.host_trait.specs.World.{World, Disk}
use Rattle.field_codec.specs.declared.formats.Format.TheVariants.{Two}
use Rattle.grain_log.specs.Counts.{VersionReadFaulted}
use Rattle.grain_log.specs.Reads.{fields_in, IsReadAt}
use Rattle.grain_log.specs.declared.faults.VersionFault.{VersionFault}
use Rattle.program_file.specs.Succession.{shapes_in_turn, carried_from}
use Rattle.batch_disk.specs.KeptPlaces.{PlaceStands, StandsBy, IsTold, PlacesStand}
use Rattle.batch_disk.specs.LastVersions.{version_told, ReadsLast}
use Rattle.batch_disk.specs.Writers.{file_end, programs_of}
use Rattle.batch_disk.specs.declared.writer.BatchWriter.{BatchWriter}

one_version : (r : Result Version ℕ) (a b : Version) → r ≡ Ok a → r ≡ Ok b → a ≡ b
one_version r a b first second = let both : Ok a ≡ Ok b = sym first ∙ second in cc

no_version : {A : Type 0} (r : Result Version ℕ) (a : Version) (place : ℕ) → r ≡ Ok a → r ≡ Err place → A
no_version r a place first second = absurd (let both : Ok a ≡ Err place = sym first ∙ second in cc)

-- an answer that is this fault
abbrev pub failed : {A : Type 0} → VersionFault → Result A VersionFault
failed fault = Err fault

module _ (live : ℕ) (shape : Shape) (g : GrainId) (writer : BatchWriter) (disk : Disk) (p : Placed) (placed : placed_in writer.places g ≡ Some p) (s : Shape) (by : slice_get (shapes_in_turn (programs_of writer)) p.program ≡ Some s) where
  told : PlacesStand live shape writer disk → IsTold live (programs_of writer) disk (file_end writer) g p
  told stand = subst (λ (o : Option Placed). PlaceStands live (programs_of writer) disk (file_end writer) g o) placed (stand.placed g)

  stands : (t : IsTold live (programs_of writer) disk (file_end writer) g p) → StandsBy live (Some s) disk g p.place t.version
  stands t = subst (λ (o : Option Shape). StandsBy live o disk g p.place t.version) by t.stands

  -- what was read is the one that is kept, and carried to the program in force it is what is told
  pub last_told : (read : Version) (owner : UnitNo) (state : List Value) → IsReadAt Two (fields_in s (Grain live g)) p.place (disk (Grain live g)).seen (Ok read) → owner ≡ (if p.is_new then read.unit else nobody)
      → state ≡ carried_from (programs_of writer) p.program g.kind read.state → PlacesStand live shape writer disk → record { unit = owner; state = state } ≡ version_told p
  last_told read owner state found owned carried stand =
      let t = told stand in
      let same : read ≡ t.version = one_version _ read t.version found.exact (stands t) in
      let unit : read.unit ≡ p.known.version.unit = ap (λ (v : Version). v.unit) same ∙ sym (ap (λ (v : Version). v.unit) t.known) in
      let kept : state ≡ p.known.version.state = carried ∙ ap (λ (v : Version). carried_from (programs_of writer) p.program g.kind v.state) same ∙ sym (ap (λ (v : Version). v.state) t.known) in
      λ i. record { unit = (owned ∙ ap (λ (u : UnitNo). if p.is_new then u else nobody) unit) i; state = kept i }

  -- no damage is read where it stands
  pub none_damaged : {A : Type 0} (place : ℕ) → IsReadAt Two (fields_in s (Grain live g)) p.place (disk (Grain live g)).seen (failed (VersionFault.Damaged place)) → PlacesStand live shape writer disk → A
  none_damaged place found stand = let t = told stand in no_version _ t.version place (stands t) found.exact

-- none was read
pub read_failed : {H : Type 0} (tells : Bool) (world : H → World) (faults : H → Channel → ℕ) (live : ℕ) (shape : Shape) (g : GrainId) (writer : BatchWriter) (old new : H) (p : Placed)
    → placed_in writer.places g ≡ Some p → (s : Shape) → slice_get (shapes_in_turn (programs_of writer)) p.program ≡ Some s → (fault : VersionFault)
    → (IsTrue tells → IsReadAt Two (fields_in s (Grain live g)) p.place ((world old).disk (Grain live g)).seen (failed fault)) → VersionReadFaulted (Grain live g) fault (faults old) (faults new)
    → ReadsLast tells world faults live shape g writer old new (Err fault)
read_failed tells world faults live shape g writer old new p placed s by VersionFault.Failed found faulted = record { p = p; placed = placed; fault = faulted }
read_failed tells world faults live shape g writer old new p placed s by (VersionFault.Damaged place) found faulted =
    record { p = p; placed = placed; untold = λ told stand. none_damaged live shape g writer (world old).disk p placed s by place (found told) stand; calm = faulted }
read_failed tells world faults live shape g writer old new p placed s by VersionFault.Memory found faulted = faulted
