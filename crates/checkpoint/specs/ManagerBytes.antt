-- The manager file of the slot that isn't live, as it is written behind its closed header gate.
use Rattle.std.specs.Prelude.{◌≡◌, ℕ, List, [], ◌∷◌, ◌++◌}
use Rattle.std.specs.Int.{w32, to_le_bytes}
use Rattle.host_trait.specs.declared.channels.FileId.TheVariants.{Manager}
use Rattle.host_trait.specs.Disk.{overlaid}
use Rattle.host_trait.specs.World.{World}
use Rattle.host_trait.specs.Runs.{RunsOnFile}
use Rattle.field_codec.specs.declared.formats.Format.TheVariants.{Two}
use Rattle.field_codec.specs.Formats.{magic_of}
use Rattle.checkpoint.specs.Steps.{KeepsGate}

-- bytes 1 to 14 of the header: the magic, the generation, how the log begins, and a zero
abbrev pub behind_gate : ℕ → ℕ → List ℕ
behind_gate generation begins = magic_of Two ++ (to_le_bytes w32 generation ++ (begins ∷ 0 ∷ []))

-- A slot's manager file was written from this offset on, which isn't byte 0, without a sync, and has these bytes there.
pub record HasWritten (slot at : ℕ) (bytes : List ℕ) (old new : World) : Type 0 where
  pub run : RunsOnFile (Manager slot) KeepsGate 0 old new
  pub seen : (new.disk (Manager slot)).seen ≡ overlaid (old.disk (Manager slot)).seen at bytes
