-- The sessions of a log: of its entries, and the greatest of all.
use Rattle.std.specs.Prelude.{ℕ, ◌==◌, if◌then◌else◌, List, [], ◌∷◌, ◌++◌, map, slice_index, Result, Ok, Err}
use Rattle.field_codec.specs.declared.formats.Format.{Format}
use Rattle.field_codec.specs.Fields.{session_of}
use Rattle.gate_block.specs.Log.{bodies_of}
use Rattle.program_file.specs.Programs.{Program, shape_in}
use Rattle.log_reading.specs.Entries.{BodyEntry, entry_of_body}
use Rattle.log_reading.specs.Blocks.{LogRead, entries_said, program_behind, log_in_file}

-- the bodies behind a checkpoint's pieces: a piece that begins with a 1 has another one behind it
abbrev pub behind_pieces : List (List ℕ) → List (List ℕ)
behind_pieces [] = []
behind_pieces (bytes ∷ bodies) = if slice_index bytes 0 == 1 then behind_pieces bodies else bodies

-- the bodies of a manager file that say its entries: those behind the checkpoint, where its log begins with one
abbrev pub bodies_of_entries : List ℕ → List (List ℕ)
bodies_of_entries file = if slice_index file 13 == 1 then behind_pieces (bodies_of file) else bodies_of file

-- the session of the last of these bodies, or this one where there are none: no session of a log is below the one before it, so this is
-- the greatest
abbrev pub last_session : Format → ℕ → List (List ℕ) → ℕ
last_session format from [] = from
last_session format from (bytes ∷ bodies) = last_session format (session_of format bytes) bodies

-- the greatest session of a manager file's log and its beginning, by that log; 0 where it can't be read
abbrev pub session_by : Format → List ℕ → Result LogRead ℕ → ℕ
session_by format file (Ok log) = last_session format log.base.session (bodies_of_entries file)
session_by format file (Err place) = 0

-- the greatest session of the log of a manager file and its beginning, under the program of the folder
abbrev pub session_in_file : Format → Program → List ℕ → ℕ
session_in_file format p file = session_by format file (log_in_file format p file)

-- ---- of each entry

-- this session for each entry that a body says, and then those behind it, under the program in force there
abbrev pub and_sessions : Program → ℕ → (Program → List ℕ) → Result BodyEntry ℕ → List ℕ
and_sessions p session behind (Ok entry) = map (λ e. session) (entries_said entry) ++ behind (program_behind p entry)
and_sessions p session behind (Err place) = []

-- the sessions of the entries of these bodies, as far as these can be read: each entry has that of the body that says it
abbrev pub sessions_behind : Format → Program → ℕ → List (List ℕ) → List ℕ
sessions_behind format p last [] = []
sessions_behind format p last (bytes ∷ bodies) =
    and_sessions p (session_of format bytes) (λ q. sessions_behind format q (session_of format bytes) bodies) (entry_of_body format p.types (shape_in p) last bytes)

-- those of a manager file's log, by that log; none where it can't be read
abbrev pub sessions_by : Format → Program → List ℕ → Result LogRead ℕ → List ℕ
sessions_by format p file (Ok log) = sessions_behind format p log.base.session (bodies_of_entries file)
sessions_by format p file (Err place) = []

-- the sessions of the entries of a manager file's log, one for each, under the program of the folder
abbrev pub sessions_read : Format → Program → List ℕ → List ℕ
sessions_read format p file = sessions_by format p file (log_in_file format p file)
