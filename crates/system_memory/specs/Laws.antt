-- What a crash may leave under a file's name.
use Rattle.std.specs.Prelude.{◌≡◌, ℕ, List, [], length}
use Rattle.std.proofs.Common.{inl, inr, ap, subst, sym, arith}
use Rattle.host_trait.specs.declared.channels.FileId.{FileId}
use Rattle.host_trait.specs.Disk.{FileState, MayLeave}
use Rattle.system_calls.specs.System.{MayBeFound}
use Rattle.system_memory.specs.MemoryState.{MemoryState, system_of, BareUnentered}

-- where nothing lasts a crash may leave nothing
nothing_left : (file : FileState) → file.base ≡ [] → MayLeave file []
nothing_left file none = record {
  no_shorter = omega (arith, ap length none);
  no_longer = omega arith;
  same = λ i low untouched. absurd (omega (arith, low, ap length none));
}

-- what may be found of a file behind a crash is what its state may leave
pub found_stays : (input : List ℕ) (h : MemoryState) (file : FileId) (bytes : List ℕ) → BareUnentered h → MayBeFound (system_of input h) file bytes → MayLeave (h.disk file) bytes
found_stays input h file bytes bare (inl lost) = subst (λ (l : List ℕ). MayLeave (h.disk file) l) (sym lost.1) (nothing_left (h.disk file) (bare file lost.0))
found_stays input h file bytes bare (inr left) = left
