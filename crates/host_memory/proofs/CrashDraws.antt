-- Drawing an outcome of a crash.
use Rattle.std.proofs.Common.{◌≡◌, ◌⊎◌, inl, inr, ℕ, zero, suc, ◌+◌, ◌-◌, ◌*◌, ◌<◌, ◌≤◌, nat_le, Bool, true, false, if◌then◌else◌, ◌||◌, List, [], ◌∷◌, ◌++◌, length, take, get_or, slice_index, refl, sym, ◌∙◌, ap, subst, arith}
use Rattle.std.proofs.lemmas.Bool.{cases_Bool, cases_lt, lt-leb, false≢true}
use Rattle.std.proofs.lemmas.List.{take_more, take_all}
use Rattle.host_trait.specs.declared.channels.FileId.{FileId}
use Rattle.host_trait.specs.Disk.{FileState, MayLeave, Untouched, settled}
use Rattle.host_memory.specs.declared.crash.Draft.{Draft}
use Rattle.host_memory.specs.declared.events.Event.{Event}
use Rattle.host_memory.specs.declared.events.Noted.{Noted}
use Rattle.host_trait.specs.Files.{same_file}
use Rattle.host_trait.specs.World.{Disk}
use Rattle.host_trait.proofs.Names.{same_file-is}
use Rattle.host_memory.specs.Drawings.{touch, is_touched, IsDrawing}
use Rattle.host_memory.specs.Drafts.{IsDraft, drafted}
use Rattle.host_memory.specs.Replay.{is_on, changed, state_step, state_at, after_some, state_of, AreBy}
use Rattle.host_memory.proofs.Worlds.{some_is_all, AreBy-weaker}
use Rattle.host_memory.specs.ReadLaws.{SeenStays, settled_stays}

-- one range of those that leave an offset alone
pub untouched_by : (ranges : List (ℕ × ℕ)) (i k : ℕ) (d : ℕ × ℕ) → k < length ranges → Untouched ranges i → (i < (get_or ranges k d).0) ⊎ ((get_or ranges k d).0 + (get_or ranges k d).1 ≤ i)
untouched_by [] i k d low untouched = absurd (omega (arith, low))
untouched_by (r ∷ ranges) i zero d low untouched = untouched.0
untouched_by (r ∷ ranges) i (suc k) d low untouched = untouched_by ranges i k d (omega (arith, low)) untouched.1

pub touched : (ranges : List (ℕ × ℕ)) (i k : ℕ) → k < length ranges → (get_or ranges k (0, 0)).0 ≤ i → i - (get_or ranges k (0, 0)).0 < (get_or ranges k (0, 0)).1 → Untouched ranges i → false ≡ true
touched ranges i k low from within untouched = elim (untouched_by ranges i k (0, 0) low untouched) [ inl before ↦ absurd (omega (arith, before, from)) | inr behind ↦ absurd (omega (arith, behind, from, within)) ]

-- the events up to a stamp, and one more
some-push : {S : Type 0} (step : Event → S → S) (until : ℕ) (s : S) (events : List Noted) (e : Noted)
    → after_some step until s (events ++ e ∷ []) ≡ (if nat_le e.stamp until then step e.event (after_some step until s events) else after_some step until s events)
some-push step until s [] e = refl
some-push step until s (x ∷ events) e = some-push step until (if nat_le x.stamp until then step x.event s else s) events e

state-more : (until : ℕ) (events : List Noted) (f : FileId) (i : ℕ) (e : Noted) → i < length events → e ≡ get_or events i e
    → state_at until (take (i + 1) events) f ≡ (if nat_le e.stamp until then state_step f e.event (state_at until (take i events) f) else state_at until (take i events) f)
state-more until events f i e low is =
    ap (λ (l : List Noted). state_at until l f) (take_more events i e low ∙ ap (λ (x : Noted). take i events ++ x ∷ []) (sym is)) ∙ some-push (state_step f) until (settled []) (take i events) e

pub draft_step : (until : ℕ) (events : List Noted) (f : FileId) (i : ℕ) (e : Noted) (old new : Draft) → i < length events → e ≡ get_or events i e → nat_le e.stamp until ≡ true
    → ((state : FileState) → IsDraft old state → IsDraft new (state_step f e.event state)) → IsDraft old (state_at until (take i events) f) → IsDraft new (state_at until (take (i + 1) events) f)
draft_step until events f i e old new low is early leads draft =
    let before : FileState = state_at until (take i events) f in
    subst (λ (s : FileState). IsDraft new s) (sym (state-more until events f i e low is ∙ ap (λ (b : Bool). if b then state_step f e.event before else before) early)) (leads before draft)

pub draft_skip : (until : ℕ) (events : List Noted) (f : FileId) (i : ℕ) (e : Noted) (d : Draft) → i < length events → e ≡ get_or events i e → nat_le e.stamp until ≡ false
    → IsDraft d (state_at until (take i events) f) → IsDraft d (state_at until (take (i + 1) events) f)
draft_skip until events f i e d low is late draft =
    let before : FileState = state_at until (take i events) f in
    subst (λ (s : FileState). IsDraft d s) (sym (state-more until events f i e low is ∙ ap (λ (b : Bool). if b then state_step f e.event before else before) late)) draft

-- an outcome of a draft is one of its state
pub drafted_left : (d : Draft) (s : FileState) (bytes : List ℕ) → IsDraft d s → SeenStays s → MayLeave (drafted d) bytes → MayLeave s bytes
drafted_left d s bytes is here left = record {
  no_shorter = subst (λ (l : List ℕ). length l ≤ length bytes) is.base left.no_shorter;
  no_longer = omega (arith, left.no_longer, is.longest, here.no_shorter, here.no_longer, ap length is.base);
  same = λ i low untouched.
      left.same i (subst (λ (l : List ℕ). i < length l) (sym is.base) low) (subst (λ (rs : List (ℕ × ℕ)). Untouched rs i) (sym is.ranges) untouched) ∙ ap (λ (l : List ℕ). slice_index l i) is.base;
}

-- whether a file is touched by one event more
touched-more : (until : ℕ) (events : List Noted) (f : FileId) (i : ℕ) (e : Noted) → i < length events → e ≡ get_or events i e
    → is_touched until (take (i + 1) events) f ≡ (if nat_le e.stamp until then touch f e.event (is_touched until (take i events) f) else is_touched until (take i events) f)
touched-more until events f i e low is =
    ap (λ (l : List Noted). is_touched until l f) (take_more events i e low ∙ ap (λ (x : Noted). take i events ++ x ∷ []) (sym is)) ∙ some-push (touch f) until false (take i events) e

or_cases : (a b : Bool) → (a || b) ≡ true → (a ≡ true) ⊎ (b ≡ true)
or_cases true b h = inl refl
or_cases false b h = inr h

touched_cases : (until : ℕ) (events : List Noted) (f : FileId) (i : ℕ) (e : Noted) → i < length events → e ≡ get_or events i e → is_touched until (take (i + 1) events) f ≡ true
    → (is_on f e.event ≡ true) ⊎ (is_touched until (take i events) f ≡ true)
touched_cases until events f i e low is touched =
    let before : Bool = is_touched until (take i events) f in
    elim (cases_Bool (nat_le e.stamp until)) [
      | inl early ↦ or_cases (is_on f e.event) before (sym (touched-more until events f i e low is ∙ ap (λ (b : Bool). if b then touch f e.event before else before) early) ∙ touched)
      | inr late ↦ inr (sym (touched-more until events f i e low is ∙ ap (λ (b : Bool). if b then touch f e.event before else before) late) ∙ touched)
    ]

module _ (events : List Noted) (until i : ℕ) (e : Noted) (low : i < length events) (is : e ≡ get_or events i e) (written : FileId → Bool) (disk : Disk) (drawing : IsDrawing events until i written disk) where
  -- an event that comes later
  pub drawing_late : until < e.stamp → IsDrawing events until (i + 1) written disk
  drawing_late late = record {
    empty = drawing.empty;
    lasts = drawing.lasts;
    drawn = drawing.drawn;
    covered = λ f touched.
        drawing.covered f
        (sym (touched-more until events f i e low is ∙ ap (λ (b : Bool). if b then touch f e.event (is_touched until (take i events) f) else is_touched until (take i events) f) (lt-leb e.stamp until late)) ∙ touched);
  }

  -- an event on no file
  pub drawing_off : ((f : FileId) → is_on f e.event ≡ false) → IsDrawing events until (i + 1) written disk
  drawing_off off = record {
    empty = drawing.empty;
    lasts = drawing.lasts;
    drawn = drawing.drawn;
    covered = λ f touched. elim (touched_cases until events f i e low is touched) [
      | inl on ↦ absurd (false≢true (sym (off f) ∙ on))
      | inr before ↦ drawing.covered f before
    ];
  }

  -- an event on a file that has an outcome
  pub drawing_had : (file : FileId) → ((f : FileId) → is_on f e.event ≡ same_file file f) → written file ≡ true → IsDrawing events until (i + 1) written disk
  drawing_had file on had = record {
    empty = drawing.empty;
    lasts = drawing.lasts;
    drawn = drawing.drawn;
    covered = λ f touched. elim (touched_cases until events f i e low is touched) [
      | inl here ↦ subst (λ (g : FileId). written g ≡ true) (same_file-is file f (sym (on f) ∙ here)) had
      | inr before ↦ drawing.covered f before
    ];
  }

  -- an event on a file that is given an outcome
  pub drawing_new : (file : FileId) (bytes : List ℕ) (now : FileId → Bool) (drawn : Disk) → ((f : FileId) → is_on f e.event ≡ same_file file f) → ((f : FileId) → now f ≡ (same_file file f || written f))
      → ((f : FileId) → drawn f ≡ (if same_file file f then settled bytes else disk f)) → MayLeave (state_at until events file) bytes → IsDrawing events until (i + 1) now drawn
  drawing_new file bytes now drawn on writes change left = record {
    empty = λ f unwritten. elim (cases_Bool (same_file file f)) [
      | inl this ↦ absurd (false≢true (sym unwritten ∙ writes f ∙ ap (λ (b : Bool). b || written f) this))
      | inr other ↦
          change f ∙ ap (λ (b : Bool). if b then settled bytes else disk f) other
          ∙ drawing.empty f (sym (ap (λ (b : Bool). b || written f) other) ∙ sym (writes f) ∙ unwritten)
    ];
    lasts = λ f. elim (cases_Bool (same_file file f)) [
      | inl this ↦
          let here : drawn f ≡ settled bytes = change f ∙ ap (λ (b : Bool). if b then settled bytes else disk f) this in
          here ∙ ap (λ (s : FileState). settled s.seen) (sym here)
      | inr other ↦
          let here : drawn f ≡ disk f = change f ∙ ap (λ (b : Bool). if b then settled bytes else disk f) other in
          here ∙ drawing.lasts f ∙ ap (λ (s : FileState). settled s.seen) (sym here)
    ];
    drawn = λ f is_now. elim (cases_Bool (same_file file f)) [
      | inl this ↦
          let here : drawn f ≡ settled bytes = change f ∙ ap (λ (b : Bool). if b then settled bytes else disk f) this in
          subst (λ (g : FileId). MayLeave (state_at until events g) (drawn f).seen) (same_file-is file f this) (subst (λ (l : List ℕ). MayLeave (state_at until events file) l) (sym (ap (λ (s : FileState). s.seen) here)) left)
      | inr other ↦
          let here : drawn f ≡ disk f = change f ∙ ap (λ (b : Bool). if b then settled bytes else disk f) other in
          subst (λ (s : FileState). MayLeave (state_at until events f) s.seen) (sym here) (drawing.drawn f (sym (ap (λ (b : Bool). b || written f) other) ∙ sym (writes f) ∙ is_now))
    ];
    covered = λ f touched. elim (touched_cases until events f i e low is touched) [
      | inl here ↦ writes f ∙ ap (λ (b : Bool). b || written f) (sym (on f) ∙ here)
      | inr before ↦ writes f ∙ ap (λ (b : Bool). same_file file f || b) (drawing.covered f before) ∙ or_true (same_file file f)
    ];
  } where
    or_true : (a : Bool) → (a || true) ≡ true
    or_true true = refl
    or_true false = refl

-- what is touched stays so
touch_stays : (until : ℕ) (f : FileId) (events : List Noted) → after_some (touch f) until true events ≡ true
touch_stays until f [] = refl
touch_stays until f (x ∷ events) = elim (cases_Bool (nat_le x.stamp until)) [
  | inr late ↦ ap (λ (b : Bool). after_some (touch f) until (if b then touch f x.event true else true) events) late ∙ touch_stays until f events
  | inl early ↦
      ap (λ (b : Bool). after_some (touch f) until (if b then touch f x.event true else true) events) early
      ∙ elim (cases_Bool (is_on f x.event)) [
        | inl on ↦ ap (λ (b : Bool). after_some (touch f) until (b || true) events) on ∙ touch_stays until f events
        | inr off ↦ ap (λ (b : Bool). after_some (touch f) until (b || true) events) off ∙ touch_stays until f events
      ]
]

-- a file on which there is no event is as it was
untouched_state : (until : ℕ) (f : FileId) (s : FileState) (events : List Noted) → after_some (touch f) until false events ≡ false → after_some (state_step f) until s events ≡ s
untouched_state until f s [] none = refl
untouched_state until f s (x ∷ events) none = elim (cases_Bool (nat_le x.stamp until)) [
  | inr late ↦
      ap (λ (b : Bool). after_some (state_step f) until (if b then state_step f x.event s else s) events) late
      ∙ untouched_state until f s events (sym (ap (λ (b : Bool). after_some (touch f) until (if b then touch f x.event false else false) events) late) ∙ none)
  | inl early ↦
      let start : after_some (touch f) until (is_on f x.event || false) events ≡ false = sym (ap (λ (b : Bool). after_some (touch f) until (if b then touch f x.event false else false) events) early) ∙ none in
      ap (λ (b : Bool). after_some (state_step f) until (if b then state_step f x.event s else s) events) early
      ∙ elim (cases_Bool (is_on f x.event)) [
        | inl on ↦ absurd (false≢true (sym start ∙ ap (λ (b : Bool). after_some (touch f) until (b || false) events) on ∙ touch_stays until f events))
        | inr off ↦
            ap (λ (b : Bool). after_some (state_step f) until (if b then changed x.event s else s) events) off
            ∙ untouched_state until f s events (sym (ap (λ (b : Bool). after_some (touch f) until (b || false) events) off) ∙ start)
      ]
]

-- once all events are seen, each file has an outcome
pub all_drawn : (events : List Noted) (until count : ℕ) (written : FileId → Bool) (disk : Disk) → length events ≤ count → IsDrawing events until count written disk → (f : FileId) → MayLeave (state_at until events f) (disk f).seen
all_drawn events until count written disk all drawing f = elim (cases_Bool (written f)) [
  | inl is ↦ drawing.drawn f is
  | inr unwritten ↦
      let whole : take count events ≡ events = take_all count events all in
      let untouched : is_touched until events f ≡ false = elim (cases_Bool (is_touched until events f)) [
        | inr none ↦ none
        | inl some ↦ absurd (false≢true (sym unwritten ∙ drawing.covered f (ap (λ (l : List Noted). is_touched until l f) whole ∙ some)))
      ] in
      subst (λ (s : FileState). MayLeave s (disk f).seen) (sym (untouched_state until f (settled []) events untouched))
      (subst (λ (s : FileState). MayLeave (settled []) s.seen) (sym (drawing.empty f unwritten)) (settled_stays []))
]

-- and the image is one of a crash just after the call, or within the next one
pub crash_of : (events : List Noted) (after odd : ℕ) (image : FileId → List ℕ) → odd < 2 → ((f : FileId) → MayLeave (state_at (2 * after + 1 + odd) events f) (image f))
    → ((f : FileId) → MayLeave (state_at (2 * after + 1) events f) (image f)) ⊎ ((f : FileId) → MayLeave (state_at (2 * (after + 1)) events f) (image f))
crash_of events after odd image small all = elim (cases_lt odd 1) [
  | inl even ↦
      let is : 2 * after + 1 + odd ≡ 2 * after + 1 = omega (arith, even) in
      inl (λ f. subst (λ (n : ℕ). MayLeave (state_at n events f) (image f)) is (all f))
  | inr one ↦
      let is : 2 * after + 1 + odd ≡ 2 * (after + 1) = omega (arith, one, small) in
      inr (λ f. subst (λ (n : ℕ). MayLeave (state_at n events f) (image f)) is (all f))
]

-- after all calls it is one of the files as they are now
pub latest : (events : List Noted) (until calls : ℕ) (image : FileId → List ℕ) → AreBy (2 * calls + 1) events → 2 * calls + 1 ≤ until → ((f : FileId) → MayLeave (state_at until events f) (image f)) → (f : FileId) → MayLeave (state_of events f) (image f)
latest events until calls image clock up all f =
    subst (λ (s : FileState). MayLeave s (image f)) (some_is_all (state_step f) until (settled []) events (AreBy-weaker (2 * calls + 1) until events up clock)) (all f)
