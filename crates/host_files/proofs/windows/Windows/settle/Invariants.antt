use Rattle.std.proofs.Common.{◌≡◌, ℕ, ◌<◌, get_or, None}
use Rattle.host_files.specs.declared.windows.Window.{Window}
use Rattle.host_files.proofs.windows.Windows.settle.Given as goal

abbrev pub invariant-loop-window : goal.invariant-loop-window
invariant-loop-window l = (k : ℕ) (d : Window) → k < l.window-index → (get_or l.window-items k d).file ≡ None
