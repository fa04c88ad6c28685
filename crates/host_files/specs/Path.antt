-- The path of the host's folder.
use Rattle.std.specs.Prelude.{ℕ, ◌==◌, if◌then◌else◌, List, ◌++◌, length, codes}

-- Only a folder is found by this path. The empty text is the folder in which the program runs.
abbrev pub path_of : List ℕ → List ℕ
path_of folder = (if length folder == 0 then codes "." else folder) ++ codes "/."
