-- Every event that is due keeps what is told of units, so it holds at the end of each run that keeps the unit rule.
use Rattle.std.proofs.Common.{◌≡◌, ℕ, ◌<◌, suc, List, [], ◌∷◌, ◌++◌, map, Bool, true, false, Option, Some, None, refl, sym, ap, ◌∙◌, subst, arith, append-nil, append_assoc, le_refl}
use Rattle.std.specs.Prelude.{slice_get, take, if◌then◌else◌}
use Rattle.std.proofs.lemmas.Bool.{and_parts}
use Rattle.cell_model.specs.Locks.{holds_lock}
use Rattle.core_model.specs.CoreState.{UnitNo, GrainId, Value, Mode, top, CoreState}
use Rattle.core_model.specs.declared.effects.Read.{Read}
use Rattle.core_model.specs.declared.phases.Phase.TheVariants.{Running, Finished, Refused, Ended}
use Rattle.core_model.specs.declared.events.CoreEvent.{CoreEvent}
use Rattle.core_model.specs.declared.events.CoreEvent.TheVariants.{Grant}
use Rattle.core_model.specs.Changes.{cleaned, restacked, after_lock, after_raise, read_of, swept, swept_by}
use Rattle.core_model.specs.Events.{applies, can, does, step, run, start, is_allowed}
use Rattle.core_model.specs.LegalRuns.{Run, begins, ends}
use Rattle.core_laws.proofs.Puts.{put-other, put-same, grain-same}
use Rattle.core_laws.proofs.Children.{Kin, kin-step}
use Rattle.core_laws.proofs.Growth.{Grows, grows-same, grows-change}
use Rattle.core_laws.proofs.EventCases.{Change, bad, begin, lock, raise, refuse, finish, end_plain, end_snapshot, release, take_batch, vote, decide_some, decide_none, seal_batch, spoil_batch, doubt_batch, learn, emit, halt_run, want, load, decode}
use Rattle.script_tree.specs.Programs.{ProgramTree}
use Rattle.promise_spec.specs.UnitAnswers.{Got, GotLock, GotRaise, got_lock, got_by, got_from, wanted_by, wanted_lock, kids_got}
use Rattle.promise_spec.specs.UnitRule.{Basis, IsDue, KeepsUnitRule}
use Rattle.promise_laws.specs.UnitAnswers.{want_of, reads_got, found, Traced}
use Rattle.promise_laws.proofs.UnitOrigins.{Known, Told, IsSteady, steady-same, steady-phase, known-steady, traced-steady, quiet, first-lock, then-raise, map-push, traced-got, told-begun}
use Rattle.core_laws.proofs.LoadlessKept.{LoadlessKept, loadless-begins, loadless-step}

-- a first lock
told-locked : (types : ProgramTree) (lines : List (List ℕ)) (base : ℕ) (w : CoreState) (got : UnitNo → List Got) (u : UnitNo) (g : GrainId) (mode : Mode) → LoadlessKept w →
    w.units.phase u ≡ Running → holds_lock u (w.cells.holds g) ≡ false → Grows w (after_lock (restacked w g (cleaned w g)) u g mode) → wanted_lock (wanted_by types w u (got u)) ≡ Some (g, mode) →
    Told types lines base w got → Told types lines base (after_lock (restacked w g (cleaned w g)) u g mode) (λ x. got x ++ got_by w x (Grant u g mode))
told-locked types lines base w got u g mode k running free g' due t = (
  known-steady types lines base w w' steady g' t.0,
  traced-got types w w' got u one steady g' t.1 running
      (first-lock types w got u g mode k t.1 running free due ∙ ap (λ (x : Got). Some (want_of x)) (sym is))
      (ap (λ (x : Got). kids_got (x ∷ [])) is)
      (λ x n. put-other w.units.reads u (w.units.reads u ++ read ∷ []) x n)
      ((λ i. t.1.reads u i ++ reads_got (is i ∷ []))
      ∙ ap (λ (s : List Value). map found (w.units.reads u) ++ ((g, s) ∷ [])) state
      ∙ sym (map-push (w.units.reads u) read)
      ∙ ap (map found) (sym (put-same w.units.reads u (w.units.reads u ++ read ∷ [])))),
)
  where
    w' : CoreState
    w' = after_lock (restacked w g (cleaned w g)) u g mode

    steady : IsSteady w (after_lock (restacked w g (cleaned w g)) u g mode)
    steady = steady-same w (after_lock (restacked w g (cleaned w g)) u g mode) refl refl refl refl refl refl

    one : UnitNo → Got
    one x = got_lock w x g mode

    read : Read
    read = read_of g (top ((restacked w g (cleaned w g)).cells.stack g))

    is : got_lock w u g mode ≡ GotLock g mode (top (cleaned w g)).state
    is = ap (λ (b : Bool). if b then GotRaise g else GotLock g mode (top (cleaned w g)).state) free

    state : (top (cleaned w g)).state ≡ (top ((restacked w g (cleaned w g)).cells.stack g)).state
    state = ap (λ xs. (top xs).state) (sym (grain-same w.cells.stack g (cleaned w g)))

-- an exclusive lock in place of a shared one
told-raised : (types : ProgramTree) (lines : List (List ℕ)) (base : ℕ) (w : CoreState) (got : UnitNo → List Got) (u : UnitNo) (g : GrainId) (mode : Mode) → LoadlessKept w →
    w.units.phase u ≡ Running → holds_lock u (w.cells.holds g) ≡ true → Grows w (after_raise (restacked w g (cleaned w g)) u g mode) → wanted_lock (wanted_by types w u (got u)) ≡ Some (g, mode) →
    Told types lines base w got → Told types lines base (after_raise (restacked w g (cleaned w g)) u g mode) (λ x. got x ++ got_by w x (Grant u g mode))
told-raised types lines base w got u g mode k running held g' due t = (
  known-steady types lines base w w' steady g' t.0,
  traced-got types w w' got u one steady g' t.1 running
      (then-raise types w got u g mode k t.1 held due ∙ ap (λ (x : Got). Some (want_of x)) (sym is))
      (ap (λ (x : Got). kids_got (x ∷ [])) is)
      (λ x n. refl)
      (ap (λ (x : Got). reads_got (got u) ++ reads_got (x ∷ [])) is ∙ append-nil (reads_got (got u)) ∙ t.1.reads u),
)
  where
    w' : CoreState
    w' = after_raise (restacked w g (cleaned w g)) u g mode

    steady : IsSteady w (after_raise (restacked w g (cleaned w g)) u g mode)
    steady = steady-same w (after_raise (restacked w g (cleaned w g)) u g mode) refl refl refl refl refl refl

    one : UnitNo → Got
    one x = got_lock w x g mode

    is : got_lock w u g mode ≡ GotRaise g
    is = ap (λ (b : Bool). if b then GotRaise g else GotLock g mode (top (cleaned w g)).state) held

-- an event that applies and is due
told-change : (s : Basis) (base : ℕ) (w : CoreState) (got : UnitNo → List Got) (e : CoreEvent) (w' : CoreState) → Change w e w' → applies w e ≡ true →
    LoadlessKept w → Kin w → Grows w w' → IsDue s w got e → Told s.types s.lines base w got → Told s.types s.lines base w' (λ u. got u ++ got_by w u e)
told-change s base w got e w' (bad line why q) a k kin g d t = quiet s.types s.lines base w w' got (steady-same w w' refl refl refl refl refl refl) refl g t
told-change s base w got e w' (begin origin call plain c) a k kin g d t = told-begun s base w got origin call plain k kin g c d t
told-change s base w got e w' (lock u h mode running free first here) a k kin g d t = told-locked s.types s.lines base w got u h mode k running first g d t
told-change s base w got e w' (raise u h mode running free held here uncovered) a k kin g d t = told-raised s.types s.lines base w got u h mode k running held g d t
told-change s base w got e w' (refuse u h mode why running q) a k kin g d t = quiet s.types s.lines base w w' got (steady-phase w w' u Refused running (λ z. cc) (λ z. absurd (cc)) refl refl refl refl refl refl) refl g t
told-change s base w got e w' (finish u effect running plain of_call reads alone) a k kin g d t = quiet s.types s.lines base w w' got (steady-phase w w' u Finished running (λ z. cc) (λ z. absurd (cc)) refl refl refl refl refl refl) refl g t
told-change s base w got e w' (end_plain u effect running plain of_call bare) a k kin g d t = quiet s.types s.lines base w w' got (steady-phase w w' u Ended running (λ z. cc) (λ z. plain) refl refl refl refl refl refl) refl g t
told-change s base w got e w' (end_snapshot u at outcome running plain kids answer) a k kin g d t = absurd d
told-change s base w got e w' (release u h over held) a k kin g d t = quiet s.types s.lines base w w' got (steady-same w w' refl refl refl refl refl refl) refl g t
told-change s base w got e w' (take_batch none some) a k kin g d t = quiet s.types s.lines base w w' got (steady-same w w' refl refl refl refl refl refl) refl g t
told-change s base w got e w' (vote n h kept b q number z planned fresh) a k kin g d t = quiet s.types s.lines base w w' got (steady-same w w' refl refl refl refl refl refl) refl g t
told-change s base w got e w' (decide_some n b q number z voted some) a k kin g d t = quiet s.types s.lines base w w' got (steady-same w w' refl refl refl refl refl refl) refl g t
told-change s base w got e w' (decide_none n b q number z voted none) a k kin g d t = quiet s.types s.lines base w w' got (steady-same w w' refl refl refl refl refl refl) refl g t
told-change s base w got e w' (seal_batch n b ds q number z) a k kin g d t = quiet s.types s.lines base w w' got (steady-same w w' refl refl refl refl refl refl) refl g t
told-change s base w got e w' (spoil_batch n b ds q number z) a k kin g d t = quiet s.types s.lines base w w' got (steady-same w w' refl refl refl refl refl refl) refl g t
told-change s base w got e w' (doubt_batch n b ds q number z) a k kin g d t = quiet s.types s.lines base w w' got (steady-same w w' refl refl refl refl refl refl) refl g t
told-change s base w got e w' (learn u h wrote final fresh) a k kin g d t = quiet s.types s.lines base w w' got (steady-same w w' refl refl refl refl refl refl) refl g t
told-change s base w got e w' (emit q) a k kin g d t = quiet s.types s.lines base w w' got (steady-same w w' refl refl refl refl refl refl) refl g t
told-change s base w got e w' (halt_run q) a k kin g d t = quiet s.types s.lines base w w' got (steady-same w w' refl refl refl refl refl refl) refl g t
told-change s base w got e w' (want u h running free fresh) a k kin g d t = quiet s.types s.lines base w w' got (steady-same w w' refl refl refl refl refl refl) refl g t
told-change s base w got e w' (load h u state gone wanted) a k kin g d t = quiet s.types s.lines base w w' got (steady-same w w' refl refl refl refl refl refl) refl g t

-- grains that leave memory change nothing of it
swept-told : (types : ProgramTree) (lines : List (List ℕ)) (base : ℕ) (w : CoreState) (got : UnitNo → List Got) → Told types lines base w got → Told types lines base (swept w) got
swept-told types lines base w got t = go w.cells.capacity
  where
    go : (c : Option ℕ) → Told types lines base (swept_by w c) got
    go None = t
    go (Some m) =
        let w' : CoreState = swept_by w (Some m) in
        let steady : IsSteady w w' = steady-same w w' refl refl refl refl refl refl in
        (known-steady types lines base w w' steady (grows-same w) t.0, traced-steady types w w' got steady (grows-same w) refl t.1)

-- one event, whether it applies or not
told-step : (s : Basis) (base : ℕ) (w : CoreState) (got : UnitNo → List Got) (e : CoreEvent) → LoadlessKept w → Kin w →
    (applies w e ≡ true → IsDue s w got e) → Told s.types s.lines base w got → Told s.types s.lines base (step w e) (λ u. got u ++ (if applies w e then got_by w u e else []))
told-step s base w got e k kin due t = by (applies w e) refl
  where
    by : (b : Bool) → applies w e ≡ b → Told s.types s.lines base (if b then swept (does w e) else w) (λ u. got u ++ (if b then got_by w u e else []))
    by true a =
        let c : Change w e (does w e) = decode w e (and_parts (is_allowed w e) (can w e) a).1 in
        swept-told s.types s.lines base (does w e) (λ u. got u ++ got_by w u e)
        (told-change s base w got e (does w e) c a k kin (grows-change w e (does w e) c a k) (due a) t)
    by false a = subst (λ (h : UnitNo → List Got). Told s.types s.lines base w h) (λ i u. sym (append-nil (got u)) i) t

-- each event of the list that applies is due, by what each unit got before the list and in it
abbrev AllDue : Basis → CoreState → (UnitNo → List Got) → List CoreEvent → Type 0
AllDue s w got events = (at : ℕ) (e : CoreEvent) → slice_get events at ≡ Some e → applies (run w (take at events)) e ≡ true →
    IsDue s (run w (take at events)) (λ u. got u ++ got_from w (take at events) u) e

-- a list of events: each unit got what it gives besides
told-run : (s : Basis) (base : ℕ) (events : List CoreEvent) (w : CoreState) (got : UnitNo → List Got) → LoadlessKept w → Kin w → AllDue s w got events →
    Told s.types s.lines base w got → Told s.types s.lines base (run w events) (λ u. got u ++ got_from w events u)
told-run s base [] w got k kin all t = subst (λ (h : UnitNo → List Got). Told s.types s.lines base w h) (λ i u. sym (append-nil (got u)) i) t
told-run s base (e ∷ events) w got k kin all t =
    let due : applies w e ≡ true → IsDue s w got e = λ a. subst (λ (h : UnitNo → List Got). IsDue s w h e) (λ i u. append-nil (got u) i) (all 0 e refl a) in
    let new : UnitNo → List Got = λ u. if applies w e then got_by w u e else [] in
    subst (λ (h : UnitNo → List Got). Told s.types s.lines base (run (step w e) events) h) (λ i u. append_assoc (got u) (new u) (got_from (step w e) events u) i)
    (told-run s base events (step w e) (λ u. got u ++ new u) (loadless-step w e k) (kin-step w e k kin)
    (λ at f there a. subst (λ (h : UnitNo → List Got). IsDue s (run (step w e) (take at events)) h f)
    (λ i u. sym (append_assoc (got u) (new u) (got_from (step w e) (take at events) u)) i) (all (suc at) f there a))
    (told-step s base w got e k kin due t))

-- nobody has begun
told-start : (types : ProgramTree) (lines : List (List ℕ)) (base kinds : ℕ) (capacity : Option ℕ) (opening : GrainId → List Value) → Told types lines base (start base kinds capacity opening) (λ u. [])
told-start types lines base kinds capacity opening = (
  record {
    above = le_refl base;
    numbered = λ u b. absurd (b refl);
    line = λ u n b e. absurd (b refl);
    whole = λ u p i d b e. absurd (b refl);
    ended = λ u e. absurd (cc);
    led = λ u p i d b e. absurd (b refl);
  },
  record { fresh = λ u e. refl; reads = λ u. refl; kids = λ u. refl; named = λ u. tt },
)

-- what is told of a whole run, by what each unit got in it
told-ends : (s : Basis) (r : Run) → 0 < r.base → KeepsUnitRule s r → Told s.types s.lines r.base (ends r) (got_from (begins r) r.events)
told-ends s r above keeps =
    told-run s r.base r.events (begins r) (λ u. []) (loadless-begins r above)
    ((λ c p i d born q. absurd (born refl)), (λ p i lt. absurd (omega arith)), (λ p c m. absurd m))
    (λ at e there a. keeps at e (record { there = there; applied = a }))
    (told-start s.types s.lines r.base r.kinds r.capacity r.opening)

-- why each unit of a run began
pub known-ends : (s : Basis) (r : Run) → 0 < r.base → KeepsUnitRule s r → Known s.types s.lines r.base (ends r)
known-ends s r above keeps = (told-ends s r above keeps).0

-- and what each got
pub traced-ends : (s : Basis) (r : Run) → 0 < r.base → KeepsUnitRule s r → Traced s.types (ends r) (got_from (begins r) r.events)
traced-ends s r above keeps = (told-ends s r above keeps).1
