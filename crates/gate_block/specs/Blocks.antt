-- What stands behind a gate.
use Rattle.std.specs.Prelude.{◌≡◌, ℕ, ◌+◌, ◌^◌, ◌<◌, nat_lt, if◌then◌else◌, List, [], ◌∷◌, ◌++◌, length, take, drop, Option, MatchOption}
use Rattle.std.specs.Int.{w32, to_le_bytes, from_le_bytes}
use Rattle.gate_block.specs.Gates.{is_open_at}

-- what a gate may have behind it: nothing that counts, a block that isn't whole, or the body of a whole one
pub data BehindGate : Type 0 where
  shut : BehindGate
  bad : BehindGate
  whole : List ℕ → BehindGate

-- the number in the length field behind a gate
abbrev pub size_at : ℕ → List ℕ → ℕ
size_at gate file = from_le_bytes w32 (take 4 (drop (gate + 1) file))

-- A block is whole where its body and the gate behind it lie in the file.
abbrev pub found_at : ℕ → List ℕ → BehindGate
found_at gate file = if is_open_at gate file
    then (if nat_lt (gate + 5 + size_at gate file) (length file) then whole (take (size_at gate file) (drop (gate + 5) file)) else bad)
    else shut

-- what was read behind a gate is what stands there: the body of a whole block, or none where the gate isn't open
abbrev pub IsFoundAt : ℕ → List ℕ → Option (List ℕ) → Type 0
IsFoundAt gate file found = MatchOption found (found_at gate file ≡ shut) (λ body. found_at gate file ≡ whole body)

-- the bytes that go behind a closed gate: the body's length, the body, and the closed gate of the next block
abbrev pub block_of : List ℕ → List ℕ
block_of body = to_le_bytes w32 (length body) ++ (body ++ 0 ∷ [])

-- these bytes are the block of a body
pub record IsBlockOfBody (bytes : List ℕ) : Type 0 where
  pub body : List ℕ
  pub small : length body < 2 ^ 32
  pub is : bytes ≡ block_of body

-- an open gate and the block behind it, up to the next gate
abbrev pub block_at : List ℕ → List ℕ
block_at body = 1 ∷ (to_le_bytes w32 (length body) ++ body)
