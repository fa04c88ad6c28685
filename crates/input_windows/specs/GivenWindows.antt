-- What was given of an input so far, window by window, and how it ends.
use Rattle.std.specs.Prelude.{◌≡◌, ℕ, ◌%◌, ◌<◌, ◌≤◌, Bool, true, false, IsTrue, List, [], ◌++◌, length, take, Some, None}
use Rattle.host_trait.specs.World.{World}
use Rattle.request_wire.specs.Lines.{lines_of}
use Rattle.promise_spec.specs.Endings as ending
use Rattle.promise_spec.specs.Windows.{feeds, first_bad, before_bad, told_number, whole_windows}
use Rattle.input_windows.specs.declared.windows.InputWindows.{InputWindows}
use Rattle.input_windows.specs.declared.windows.WindowFault.{WindowFault}
use Rattle.input_windows.specs.Windows.{window_in, before_in, given_in, is_last_in, input_behind, InputHasEnded}

-- The windows so far, with these lines, are whole: they have a line feed for each line, and 4,096 lines each; and what follows begins
-- with a line of its own.
pub record AreWhole (given : List ℕ) (asked : List (List ℕ)) : Type 0 where
  pub fed : feeds given ≡ length asked
  pub seam : length asked % 4096 ≡ 0
  pub later : (more : List ℕ) → lines_of (given ++ more) ≡ asked ++ lines_of more

-- how the windows so far end: with the input, or whole
abbrev pub GivenTo : Bool → Bool → List ℕ → List (List ℕ) → InputWindows → World → Type 0
GivenTo true tells given asked w now = InputHasEnded tells w now
GivenTo false tells given asked w now = AreWhole given asked

-- So many bytes of an input were given, with these lines, none of which is bad; the rest was pulled and is left, or is there still.
pub record HasGiven (tells : Bool) (input : List ℕ) (asked : List (List ℕ)) (w : InputWindows) (now : World) : Type 0 where
  pub given : List ℕ
  pub whole : IsTrue tells → input ≡ given ++ input_behind w now
  pub lines : lines_of given ≡ asked
  pub good : first_bad 0 asked ≡ None
  pub count : given_in w ≡ length asked
  pub ends : GivenTo (is_last_in w) tells given asked w now

-- a further window came: some lines, 4,096 at most, behind those of whole windows
pub record HasNext (tells : Bool) (input : List ℕ) (asked : List (List ℕ)) (w : InputWindows) (now : World) : Type 0 where
  pub given : HasGiven tells input (asked ++ lines_of (window_in w)) w now
  pub before : before_in w ≡ length asked
  pub seam : length asked % 4096 ≡ 0
  pub some : 0 < length (lines_of (window_in w))
  pub most : length (lines_of (window_in w)) ≤ 4096

-- ---- the end

-- how a run ends that gets no window for this fault
abbrev pub input_ending : WindowFault → ending.Ending
input_ending WindowFault.Memory = ending.Memory
input_ending WindowFault.Failed = ending.ReadFault
input_ending (WindowFault.TooLong line) = ending.InputTooLong line

-- the input was pulled to its end, and these are its lines
pub record IsAll (tells : Bool) (pulled : List ℕ) (asked : List (List ℕ)) (now : World) : Type 0 where
  pub input : IsTrue tells → now.input ≡ []
  pub lines : lines_of pulled ≡ asked

-- what was pulled has no bad line, and these are the lines of the windows that stand whole in it
pub record IsGood (pulled : List ℕ) (asked : List (List ℕ)) : Type 0 where
  pub good : first_bad 0 (lines_of pulled) ≡ None
  pub windows : length asked ≡ whole_windows pulled

-- the first bad line has this number, whatever follows, and these are the lines of the windows before its own; so is told
pub record HasBad (pulled : List ℕ) (asked : List (List ℕ)) (told : ℕ) : Type 0 where
  pub number : ℕ
  pub bad : (more : List ℕ) → first_bad 0 (lines_of (pulled ++ more)) ≡ Some number
  pub before : length asked ≡ before_bad number
  pub is_told : told ≡ told_number number

-- by how the run ends
abbrev pub InputEndsAs : ending.Ending → Bool → List ℕ → List (List ℕ) → World → Type 0
InputEndsAs ending.Done tells pulled asked now = IsAll tells pulled asked now
InputEndsAs ending.ReadFault tells pulled asked now = IsGood pulled asked
InputEndsAs ending.Memory tells pulled asked now = IsGood pulled asked
InputEndsAs (ending.InputTooLong told) tells pulled asked now = HasBad pulled asked told
InputEndsAs _ tells pulled asked now = ⊥

-- No further window came: the lines that were given are the input's first, none is bad, and with what was pulled besides it ends so.
pub record InputEnds (tells : Bool) (input : List ℕ) (asked : List (List ℕ)) (e : ending.Ending) (now : World) : Type 0 where
  pub pulled : List ℕ
  pub whole : IsTrue tells → input ≡ pulled ++ now.input
  pub front : IsTrue tells → take (length asked) (lines_of input) ≡ asked
  pub good : first_bad 0 asked ≡ None
  pub by : InputEndsAs e tells pulled asked now
