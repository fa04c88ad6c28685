use Rattle.std.proofs.Common.{◌≡◌, ◌+◌, ◌<◌, ◌≤◌, ◌++◌, ℕ, List, take}
use Rattle.input_windows.specs.Scans.{ScanStands}
use Rattle.input_windows.proofs.scan.scan.Given as goal

abbrev pub invariant-loop-place : goal.invariant-loop-place
invariant-loop-place l = record {
  lines : l.lines < 4096;
  stood : l.stood ≤ 65536;
  stands : (before : ℕ) (seen : List ℕ) → before + l.fn.most ≡ 4294967295 → ScanStands before seen l.fn.lines l.fn.stood → ScanStands before (seen ++ take l.place l.bytes) l.lines l.stood;
}
