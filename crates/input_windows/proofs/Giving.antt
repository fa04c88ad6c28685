-- What a window, the end and a refusal leave.
use Rattle.std.proofs.Common.{◌≡◌, ℕ, ◌+◌, ◌-◌, ◌<◌, ◌≤◌, min, nat_lt, Bool, true, false, IsTrue, List, [], ◌∷◌, ◌++◌, length, take, drop, None, Ok, Err, refl, sym, ap, subst, ◌∙◌, arith, append-nil, append_assoc}
use Rattle.std.specs.Prelude.{Result, OnErr, IfErr, IsErrAnd}
use Rattle.std.proofs.Math.Seq.{take-add}
use Rattle.std.proofs.lemmas.List.{take-append-drop, length-append, length-drop}
use Rattle.std.proofs.lemmas.Bool.Decides.{nat_tests}
use Rattle.host_trait.specs.World.{World}
use Rattle.host_trait.specs.declared.channels.Channel.{Channel}
use Rattle.host_trait.specs.declared.channels.Channel.TheVariants.{Input}
use Rattle.host_trait.specs.Faults.{NoneFailed, Rose}
use Rattle.request_wire.specs.Lines.{lines_of}
use Rattle.input_windows.specs.declared.windows.InputWindows.{InputWindows}
use Rattle.input_windows.specs.declared.windows.WindowFault.{WindowFault}
use Rattle.promise_spec.specs.Windows.{first_bad}
use Rattle.input_windows.specs.Lines.{IsNextLine, IsFull}
use Rattle.input_windows.specs.Pulls.{Took}
use Rattle.input_windows.specs.Scans.{ScanStands, WindowEnds, HasBadLine}
use Rattle.input_windows.specs.Windows.{window_in, left_in, before_in, is_last_in, input_behind, InputHasEnded, EndsBy, Gave, Refused, PullFaulted, IsBegun, IsOfPull}
use Rattle.input_windows.proofs.Cuts.{line_there}
use Rattle.input_windows.proofs.Following.{full_is_next, last_is_next}
use Rattle.input_windows.proofs.Places.{rest_is}
use Rattle.input_windows.proofs.Standing.{lines_that_stand, nothing_ends}

-- what holds stands where a fault was answered
pub on_fault : {T E : Type 0} (r : Result T E) (P : Type 0) → P → OnErr r P
on_fault (Ok x) P p = tt
on_fault (Err e) P p = p

-- so does what holds of a fault that was handed on
pub on_same_fault : {T E : Type 0} (r : Result T E) (P : E → Type 0) (e : E) → IsErrAnd r (λ x. x ≡ e) → P e → IfErr r P
on_same_fault (Ok x) P e same p = absurd same
on_same_fault (Err x) P e same p = subst P (sym same) p

-- ---- pulls

pub took_none : (tells : Bool) (world : World) (left : List ℕ) → Took tells world world left left
took_none tells world left = record { bytes = []; input = λ told. refl; stand = sym (append-nil left) }

pub took_then : (tells : Bool) (a b c : World) (left now next : List ℕ) → Took tells a b left now → Took tells b c now next → Took tells a c left next
took_then tells a b c left now next first second = record {
  bytes = first.bytes ++ second.bytes;
  input = λ told. first.input told ∙ ap (λ (l : List ℕ). first.bytes ++ l) (second.input told) ∙ sym (append_assoc first.bytes second.bytes c.input);
  stand = second.stand ∙ ap (λ (l : List ℕ). l ++ second.bytes) first.stand ∙ append_assoc left first.bytes second.bytes;
}

-- the same, of lists that are the same
pub took_as : (tells : Bool) (a b : World) (left left' now now' : List ℕ) → Took tells a b left now → left ≡ left' → now' ≡ now → Took tells a b left' now'
took_as tells a b left left' now now' took was is = record {
  bytes = took.bytes;
  input = took.input;
  stand = is ∙ took.stand ∙ ap (λ (l : List ℕ). l ++ took.bytes) was;
}

-- a pull of no bytes leaves what is left
pub took_nothing : (tells : Bool) (a b : World) (left now : List ℕ) → Took tells a b left now → length now ≡ length left + 0 → now ≡ left
took_nothing tells a b left now took size = by took.bytes took.stand (let l = ap length took.stand ∙ length-append left took.bytes in omega (arith, l, size))
  where
    by : (bytes : List ℕ) → now ≡ left ++ bytes → length bytes ≡ 0 → now ≡ left
    by [] stand none = stand ∙ append-nil left
    by (b ∷ bytes) stand none = absurd (omega (arith, none))

-- what is left of a host that tells
input_is : (tells : Bool) (old new : World) (left now : List ℕ) → Took tells old new left now → IsTrue tells → left ++ old.input ≡ now ++ new.input
input_is tells old new left now took told =
    ap (λ (l : List ℕ). left ++ l) (took.input told) ∙ sym (append_assoc left took.bytes new.input) ∙ ap (λ (l : List ℕ). l ++ new.input) (sym took.stand)

-- no call failed, and then one did
pub faulted_then : (e : WindowFault) (a b c : Channel → ℕ) → NoneFailed a b → IsOfPull e → PullFaulted e b c → PullFaulted e a c
faulted_then WindowFault.Memory a b c calm pull none = λ channel. none channel ∙ calm channel
faulted_then WindowFault.Failed a b c calm pull failed = record {
  counts = record {
    others = λ channel other. failed.counts.others channel other ∙ calm channel;
    later = subst (λ (n : ℕ). n ≤ c Input) (calm Input) failed.counts.later;
  };
  rose = subst (λ (n : ℕ). Rose n (c Input)) (calm Input) failed.rose;
}
faulted_then (WindowFault.TooLong line) a b c calm pull failed = absurd pull

-- ---- a window

-- what a call that gives a window, or the end, has to show
pub record Gives (found tells : Bool) (left : List ℕ) (old new : World) (w : InputWindows) : Type 0 where
  pub took : Took tells old new left (window_in w ++ left_in w)
  pub gave : Gave found tells w new
  pub next : IsTrue found → IsTrue tells → IsNextLine (window_in w) (left ++ old.input) (input_behind w new)

ends_full : (last tells : Bool) (w : InputWindows) (world : World) → last ≡ false → IsFull (window_in w) → EndsBy last tells w world
ends_full true tells w world e full = absurd cc
ends_full false tells w world e full = full

ends_last : (last tells : Bool) (w : InputWindows) (world : World) → last ≡ true → InputHasEnded tells w world → EndsBy last tells w world
ends_last true tells w world e ended = ended
ends_last false tells w world e ended = absurd cc

-- the cut of a host that tells
cut_is : (tells : Bool) (old new : World) (left : List ℕ) (w : InputWindows) → Took tells old new left (window_in w ++ left_in w) → IsTrue tells
    → left ++ old.input ≡ window_in w ++ input_behind w new
cut_is tells old new left w took told = input_is tells old new left (window_in w ++ left_in w) took told ∙ append_assoc (window_in w) (left_in w) new.input

pub gives_full : (tells : Bool) (old new : World) (before n : ℕ) (left now : List ℕ) (w : InputWindows) → Took tells old new left now → WindowEnds before (take n now)
    → window_in w ≡ take n now → left_in w ≡ drop n now → before_in w ≡ before → is_last_in w ≡ false → Gives true tells left old new w
gives_full tells old new before n left now w took ends window rest numbered goes =
    let all : window_in w ++ left_in w ≡ now = ap (λ (l : List ℕ). l ++ left_in w) window ∙ ap (λ (l : List ℕ). take n now ++ l) rest ∙ take-append-drop n now in
    let cut = took_as tells old new left left now (window_in w ++ left_in w) took refl all in
    let full : IsFull (window_in w) = subst IsFull (sym window) ends.full in
    let count = full.count in
    record {
      took = cut;
      gave = record {
        some = omega (arith, count);
        most = omega (arith, count);
        good = ap (first_bad (before_in w)) (ap lines_of window) ∙ ap (λ (k : ℕ). first_bad k (lines_of (take n now))) numbered ∙ ends.good;
        ends = ends_full (is_last_in w) tells w new goes full;
      };
      next = λ found told. full_is_next (window_in w) (left ++ old.input) (input_behind w new) (cut_is tells old new left w cut told) full;
    }

-- ---- the end

no_line_is_none : (bytes : List ℕ) → length (lines_of bytes) ≡ 0 → bytes ≡ []
no_line_is_none [] none = refl
no_line_is_none (b ∷ bytes) none =
    let there = line_there b bytes in
    let l = ap length there.2 in
    absurd (omega (arith, none, l))

pub gives_rest : (found tells : Bool) (old new : World) (before lines stood : ℕ) (left now : List ℕ) (w : InputWindows) → Took tells old new left now
    → ScanStands before now lines stood → lines < 4096 → (IsTrue tells → new.input ≡ []) → found ≡ nat_lt 0 (lines + min stood 1)
    → window_in w ≡ now → left_in w ≡ [] → before_in w ≡ before → is_last_in w ≡ true → Gives found tells left old new w
gives_rest found tells old new before lines stood left now w took stands few end is window rest numbered last =
    let all : window_in w ++ left_in w ≡ now = ap (λ (l : List ℕ). l ++ left_in w) window ∙ ap (λ (l : List ℕ). now ++ l) rest ∙ append-nil now in
    let cut = took_as tells old new left left now (window_in w ++ left_in w) took refl all in
    let ended : InputHasEnded tells w new = record { left = rest; input = end } in
    let stand = lines_that_stand before lines stood now stands in
    let count : length (lines_of (window_in w)) ≡ lines + min stood 1 = ap (λ (l : List ℕ). length (lines_of l)) window ∙ stand.0 in
    by found is cut ended count stand.1
  where
    by : (found : Bool) → found ≡ nat_lt 0 (lines + min stood 1) → Took tells old new left (window_in w ++ left_in w) → InputHasEnded tells w new → length (lines_of (window_in w)) ≡ lines + min stood 1
        → first_bad before (lines_of now) ≡ None → Gives found tells left old new w
    by true is cut ended count good =
        let some : 0 < length (lines_of (window_in w)) = grind (arith, nat_tests) in
        let most : length (lines_of (window_in w)) ≤ 4096 = omega (arith, count, few) in
        record {
          took = cut;
          gave = record {
            some = some;
            most = most;
            good = ap (first_bad (before_in w)) (ap lines_of window) ∙ ap (λ (k : ℕ). first_bad k (lines_of now)) numbered ∙ good;
            ends = ends_last (is_last_in w) tells w new last ended;
          };
          next = λ found told. last_is_next (window_in w) (left ++ old.input) (input_behind w new) (cut_is tells old new left w cut told)
              (ap (λ (l : List ℕ). l ++ new.input) rest ∙ end told) some most;
        }
    by false is cut ended count good =
        let none : length (lines_of (window_in w)) ≡ 0 = grind (arith, nat_tests) in
        record {
          took = cut;
          gave = record { window = no_line_is_none (window_in w) none; ended = ended };
          next = λ found told. absurd (cc found);
        }

-- ---- a refusal

pub refuses_pull : (e : WindowFault) (before lines stood : ℕ) (left : List ℕ) → IsOfPull e → ScanStands before left lines stood → lines < 4096 → Refused e before left
refuses_pull WindowFault.Memory before lines stood left pull stands few = nothing_ends before lines stood left stands few
refuses_pull WindowFault.Failed before lines stood left pull stands few = nothing_ends before lines stood left stands few
refuses_pull (WindowFault.TooLong line) before lines stood left pull stands few = absurd pull

-- none stands where the next has begun
pub none_begun : (w : InputWindows) → IsBegun w → window_in w ≡ []
none_begun w begun = ap (λ (n : ℕ). take n (drop w.start w.buffer.items)) (let e = begun.place in let q : w.end - w.start ≡ 0 = omega (arith, e) in q)

-- ---- what a scan found in what is left

pub left_in_all : (w : InputWindows) (start : ℕ) (items : List ℕ) (seen : ℕ) → items ≡ w.buffer.items → start ≡ w.start → IsBegun w → seen ≤ length (left_in w)
    → take (w.filled - (start + seen)) (drop (start + seen) items) ≡ drop seen (left_in w)
left_in_all w start items seen same at begun within =
    ap (λ (k : ℕ). take (w.filled - (k + seen)) (drop (k + seen) items)) at ∙ rest_is items w.buffer.items w.start w.end w.filled seen same begun.place w.within w.room within

pub found_end : (before seen size : ℕ) (left fresh : List ℕ) → seen ≤ length left → fresh ≡ drop seen left → (0 < size) × (size ≤ length fresh) × WindowEnds before (take seen left ++ take size fresh)
    → (seen + size ≤ length left) × WindowEnds before (take (seen + size) left)
found_end before seen size left fresh within is found =
    let l = ap length is ∙ length-drop seen left in
    let most = found.1 in (
      omega (arith, l, most, within),
      subst (WindowEnds before) (ap (λ (m : List ℕ). take seen left ++ take size m) is ∙ sym (take-add seen size left)) found.2,
    )

pub found_bad : (before seen number : ℕ) (left fresh : List ℕ) → fresh ≡ drop seen left → HasBadLine before (take seen left ++ fresh) number → HasBadLine before left number
found_bad before seen number left fresh is bad =
    subst (λ (l : List ℕ). HasBadLine before l number) (ap (λ (m : List ℕ). take seen left ++ m) is ∙ take-append-drop seen left) bad

pub found_open : (before seen lines stood : ℕ) (left fresh : List ℕ) → fresh ≡ drop seen left → ScanStands before (take seen left ++ fresh) lines stood → ScanStands before left lines stood
found_open before seen lines stood left fresh is stands =
    subst (λ (l : List ℕ). ScanStands before l lines stood) (ap (λ (m : List ℕ). take seen left ++ m) is ∙ take-append-drop seen left) stands
