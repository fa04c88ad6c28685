-- The blocks of the live slot's manager file, as they are written into the other one in the newer format: each with the session 1.
use Rattle.std.specs.Prelude.{◌≡◌, ℕ, ◌+◌, ◌-◌, ◌==◌, min, Bool, true, false, List, [], ◌∷◌, ◌++◌, length, map, slice_index}
use Rattle.host_trait.specs.declared.channels.FileId.TheVariants.{Manager}
use Rattle.host_trait.specs.Disk.{FileState, overlaid, settled}
use Rattle.host_trait.specs.World.{World}
use Rattle.gate_block.specs.Log.{bodies_of, open_blocks}
use Rattle.promise_laws.specs.MigratedFiles.{migrated_body, migrated_piece, migrated_pieces, migrated_in}
use Rattle.checkpoint.specs.ManagerBytes.{behind_gate, HasWritten}

-- a body with the session, a checkpoint's piece or not
abbrev pub with_session : Bool → List ℕ → List ℕ
with_session true body = migrated_piece body
with_session false body = migrated_body body

-- where the session goes in a body of this length
abbrev pub session_place : Bool → ℕ → ℕ
session_place true size = min 17 size
session_place false size = 0

-- whether another piece of the checkpoint follows
abbrev pub more_follow : Bool → List ℕ → Bool
more_follow true body = slice_index body 0 == 1
more_follow false body = false

-- bodies with the session, of which the first is a checkpoint's piece or not
abbrev pub bodies_with_session : Bool → List (List ℕ) → List (List ℕ)
bodies_with_session true bodies = migrated_pieces bodies
bodies_with_session false bodies = map migrated_body bodies

-- From this offset on all blocks of a manager file's log were written into the other slot's, each body with the session, up to this end.
pub record HasBlocksWritten (live at end : ℕ) (begins : Bool) (old new : World) : Type 0 where
  pub ends : end ≡ at + length (open_blocks (bodies_with_session begins (bodies_of (old.disk (Manager live)).seen)))
  pub written : HasWritten (1 - live) at (open_blocks (bodies_with_session begins (bodies_of (old.disk (Manager live)).seen))) old new

-- The other slot's manager file has the live one's log in the newer format: the header behind its gate, with the byte of the live one that
-- says how the log begins, the open blocks and a closed gate; and nothing of it is pending.
abbrev pub HasMigrated : ℕ → List ℕ → FileState → FileState → Type 0
HasMigrated generation live old new =
    new ≡ settled (overlaid old.seen 1 (behind_gate generation (slice_index live 13) ++ (open_blocks (migrated_in live) ++ 0 ∷ [])))
