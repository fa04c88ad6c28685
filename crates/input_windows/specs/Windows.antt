-- What is cut off an input: the window that was given last, and what is left.
use Rattle.std.specs.Prelude.{◌≡◌, ℕ, ◌+◌, ◌-◌, ◌<◌, ◌≤◌, Bool, true, false, IsTrue, List, [], ◌++◌, length, take, drop, None}
use Rattle.host_trait.specs.World.{World}
use Rattle.host_trait.specs.declared.channels.Channel.{Channel}
use Rattle.host_trait.specs.declared.channels.Channel.TheVariants.{Input}
use Rattle.host_trait.specs.Faults.{NoneFailed, FailedOn}
use Rattle.request_wire.specs.Lines.{lines_of}
use Rattle.promise_spec.specs.Windows.{first_bad, told_number}
use Rattle.input_windows.specs.Lines.{IsFull}
use Rattle.input_windows.specs.Scans.{HasBadLine, HasNoEnd}
use Rattle.input_windows.specs.declared.windows.InputWindows.{InputWindows}
use Rattle.input_windows.specs.declared.windows.WindowFault.{WindowFault}

-- the bytes of the window that was given last
abbrev pub window_in : InputWindows → List ℕ
window_in w = take (w.end - w.start) (drop w.start w.buffer.items)

-- the bytes that were pulled and not given
abbrev pub left_in : InputWindows → List ℕ
left_in w = take (w.filled - w.end) (drop w.end w.buffer.items)

-- how many lines the windows before it have
abbrev pub before_in : InputWindows → ℕ
before_in w = w.before

-- how many lines those and it have
abbrev pub given_in : InputWindows → ℕ
given_in w = w.before + w.lines

-- whether the input ended behind it
abbrev pub is_last_in : InputWindows → Bool
is_last_in w = w.last

-- what is left of the input, pulled or not, of a host that tells
abbrev pub input_behind : InputWindows → World → List ℕ
input_behind w world = left_in w ++ world.input

-- the input has ended: nothing is left that was pulled, and nothing of a host that tells
pub record InputHasEnded (tells : Bool) (w : InputWindows) (world : World) : Type 0 where
  pub left : left_in w ≡ []
  pub input : IsTrue tells → world.input ≡ []

-- how a window ends: with the input, or at the line feed of its 4,096th line
abbrev pub EndsBy : Bool → Bool → InputWindows → World → Type 0
EndsBy true tells w world = InputHasEnded tells w world
EndsBy false tells w world = IsFull (window_in w)

-- a window was given: it has a line, at most 4,096 and none that is bad
pub record GaveWindow (tells : Bool) (w : InputWindows) (world : World) : Type 0 where
  pub some : 0 < length (lines_of (window_in w))
  pub most : length (lines_of (window_in w)) ≤ 4096
  pub good : first_bad (before_in w) (lines_of (window_in w)) ≡ None
  pub ends : EndsBy (is_last_in w) tells w world

-- the end was told
pub record GaveEnd (tells : Bool) (w : InputWindows) (world : World) : Type 0 where
  pub window : window_in w ≡ []
  pub ended : InputHasEnded tells w world

-- what was given: a window, or the end
abbrev pub Gave : Bool → Bool → InputWindows → World → Type 0
Gave true tells w world = GaveWindow tells w world
Gave false tells w world = GaveEnd tells w world

-- Why no window was given, and what is left then: no whole window and no bad line where a pull failed or memory ran out; else a
-- line of the next 4,096 is the first bad one, whatever follows, and its number is told.
abbrev pub Refused : WindowFault → ℕ → List ℕ → Type 0
Refused WindowFault.Memory before left = HasNoEnd before left
Refused WindowFault.Failed before left = HasNoEnd before left
Refused (WindowFault.TooLong line) before left =
    (number : ℕ) × HasBadLine before left number × (before < number) × (number ≤ before + 4096) × (line ≡ told_number number)

-- a call on the input failed where `Failed` is answered, and none did where another fault is
abbrev pub PullFaulted : WindowFault → (Channel → ℕ) → (Channel → ℕ) → Type 0
PullFaulted WindowFault.Memory old new = NoneFailed old new
PullFaulted WindowFault.Failed old new = FailedOn Input old new
PullFaulted (WindowFault.TooLong line) old new = NoneFailed old new

-- ---- within a call

-- the next window has begun: none stands
pub record IsBegun (w : InputWindows) : Type 0 where
  pub place : w.end ≡ w.start
  pub lines : w.lines ≡ 0
  pub last : w.last ≡ false

-- a fault of a pull or of memory
abbrev pub IsOfPull : WindowFault → Type 0
IsOfPull WindowFault.Memory = Unit {0}
IsOfPull WindowFault.Failed = Unit {0}
IsOfPull (WindowFault.TooLong line) = ⊥
