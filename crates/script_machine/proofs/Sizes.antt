-- The sizes of frames.
use Rattle.std.proofs.Common.{◌≡◌, ◌+◌, List, [], ◌∷◌, ◌++◌, arith}
use Rattle.script_machine.specs.declared.frames.Frame.{Frame}
use Rattle.script_machine.specs.Runs.{frame_size, sizes}

-- one more frame
pub sizes_push : (frames : List Frame) (frame : Frame) → sizes (frames ++ frame ∷ []) ≡ sizes frames + frame_size frame
sizes_push [] frame = omega arith
sizes_push (first ∷ rest) frame = omega (arith, sizes_push rest frame)
