-- A run of which whole windows were carried, with the next window's lines: it keeps the rules over these too.
use Rattle.std.proofs.Common.{◌≡◌, ◌⊎◌, inl, inr, ℕ, zero, suc, ◌<◌, ◌≤◌, Bool, true, false, true≢false, List, [], ◌∷◌, ◌++◌, length, length-append, Option, Some, None, refl, sym, ap, subst, ◌∙◌, arith}
use Rattle.std.specs.Prelude.{◌&&◌, ◌||◌, not, slice_get, nat_lt, take, is_none, get_or, Result}
use Rattle.std.proofs.lemmas.Bool.{ltb-true, lt-ltb, cases_lt}
use Rattle.base_types.specs.declared.calls.Call.{Call}
use Rattle.base_types.specs.declared.calls.Origin.TheVariants.{Line, Child}
use Rattle.base_types.specs.declared.entries.BadRequest.{BadRequest}
use Rattle.core_model.specs.CoreState.{UnitNo, GrainId, CoreState}
use Rattle.core_model.specs.declared.events.CoreEvent.{CoreEvent}
use Rattle.core_model.specs.declared.events.CoreEvent.TheVariants.{Bad, Begin, Grant, Refuse, Finish, EndPlain, EndSnapshot, Release, Take, Vote, Decide, Sealed, NotSealed, Doubt, Learn, Emitted, Halt, Want, Load}
use Rattle.core_model.specs.Events.{applies, run}
use Rattle.core_model.specs.LegalRuns.{Run, begins, ends}
use Rattle.script_tree.specs.Programs.{ProgramTree}
use Rattle.promise_spec.specs.Cores.{state_before, applied_from}
use Rattle.promise_spec.specs.UnitAnswers.{Got, got_from}
use Rattle.promise_spec.specs.Lines.{ReadsLineAs}
use Rattle.promise_spec.specs.UnitRule.{Basis, IsDue, KeepsUnitRule}
use Rattle.promise_spec.specs.TurnRule.{Mover, IsTurnOf, KeepsTurnRule, and_wish, at_seam, grain_due, is_nobody, line_can_begin, lock_asked, in_flight, movers, mover_of, next_wish, passed, picked, picks_used, turn_of, units_of}
use Rattle.promise_laws.specs.Legality.{applied_run}
use Rattle.promise_laws.proofs.UnitsByRule.{all_said, rule-run, rule-begins}
use Rattle.promise_laws.proofs.LegalRuns.{ends_alike}
use Rattle.promise_laws.specs.MoreLines.{with_lines}

-- ---- lists

lengthened : {A : Type 0} (xs ys : List A) (at : ℕ) (x : A) → slice_get xs at ≡ Some x → slice_get (xs ++ ys) at ≡ Some x
lengthened [] ys at x there = absurd cc
lengthened (y ∷ xs) ys zero x there = there
lengthened (y ∷ xs) ys (suc at) x there = lengthened xs ys at x there

in-front : {A : Type 0} (n : ℕ) (xs : List A) (i : ℕ) (x : A) → slice_get (take n xs) i ≡ Some x → (slice_get xs i ≡ Some x) × (i < n)
in-front zero xs i x there = absurd cc
in-front (suc n) [] i x there = absurd cc
in-front (suc n) (y ∷ xs) zero x there = (there, omega arith)
in-front (suc n) (y ∷ xs) (suc i) x there = let p = in-front n xs i x there in (p.0, let lt = p.1 in omega (arith, lt))

front-front : {A : Type 0} (i n : ℕ) (xs : List A) → i ≤ n → take i (take n xs) ≡ take i xs
front-front zero n xs le = refl
front-front (suc i) zero xs le = absurd (omega (arith, le))
front-front (suc i) (suc n) [] le = refl
front-front (suc i) (suc n) (x ∷ xs) le = ap (λ (l : List _). x ∷ l) (front-front i n xs (omega (arith, le)))

-- ---- the unit rule over more lines

reads-on : (types : ProgramTree) (lines more : List (List ℕ)) (n : ℕ) (q : Result Call BadRequest) → ReadsLineAs types lines n q → ReadsLineAs types (lines ++ more) n q
reads-on types lines more n q r = record { index = r.index; text = r.text; number = r.number; there = lengthened lines more r.index r.text r.there; reads = r.reads }

due-on : (s : Basis) (more : List (List ℕ)) (w : CoreState) (got : UnitNo → List Got) (e : CoreEvent) → IsDue s w got e → IsDue (with_lines s more) w got e
due-on s more w got (Bad n why) d = reads-on s.types s.lines more n _ d
due-on s more w got (Begin (Line n) call plain) d = (reads-on s.types s.lines more n _ d.0, d.1)
due-on s more w got (Begin (Child p i k) call plain) d = d
due-on s more w got (Grant u g mode) d = d
due-on s more w got (Refuse u g mode) d = d
due-on s more w got (Finish u e) d = d
due-on s more w got (EndPlain u e) d = d
due-on s more w got (EndSnapshot u at outcome) d = d
due-on s more w got (Release u g) d = d
due-on s more w got Take d = d
due-on s more w got (Vote n g kept) d = d
due-on s more w got (Decide n) d = d
due-on s more w got (Sealed n) d = d
due-on s more w got (NotSealed n) d = d
due-on s more w got (Doubt n) d = d
due-on s more w got (Learn u g) d = d
due-on s more w got Emitted d = d
due-on s more w got Halt d = d
due-on s more w got (Want u g) d = d
due-on s more w got (Load g u state) d = d

pub units-on : (s : Basis) (more : List (List ℕ)) (r : Run) → KeepsUnitRule s r → KeepsUnitRule (with_lines s more) r
units-on s more r keeps at e a = due-on s more (state_before r at) (got_from (begins r) (take at r.events)) e (keeps at e a)

-- ---- no more lines begin than there are

pub few-lines : (s : Basis) (r : Run) → KeepsUnitRule s r → (ends r).units.lines ≤ length s.lines
few-lines s r keeps = subst (λ (w : CoreState). w.units.lines ≤ length s.lines) (ends_alike r)
    (rule-run s.types s.lines r.base (applied_run r).events (begins (applied_run r)) (all_said s r keeps) (rule-begins s.types s.lines (applied_run r))).1

-- a first part of the run
abbrev front_of : Run → ℕ → Run
front_of r n = record r { events = take n r.events }

front-keeps : (s : Basis) (r : Run) (n : ℕ) → KeepsUnitRule s r → KeepsUnitRule s (front_of r n)
front-keeps s r n keeps at e a =
    let p = in-front n r.events at e a.there in
    let same : take at (take n r.events) ≡ take at r.events = (let lt = p.1 in front-front at n r.events (omega (arith, lt))) in
    subst (λ (l : List CoreEvent). IsDue s (run (begins r) l) (got_from (begins r) l) e) (sym same)
    (keeps at e (record { there = p.0; applied = subst (λ (l : List CoreEvent). applies (run (begins r) l) e ≡ true) same a.applied }))

few-before : (s : Basis) (r : Run) (n : ℕ) → KeepsUnitRule s r → (state_before r n).units.lines ≤ length s.lines
few-before s r n keeps = few-lines s (front_of r n) (front-keeps s r n keeps)

-- ---- the turn rule over more lines

and-left : (a b : Bool) → (a && b) ≡ true → a ≡ true
and-left true b e = refl
and-left false b e = absurd (true≢false (sym e))

and-right : (a b : Bool) → (a && b) ≡ true → b ≡ true
and-right true b e = e
and-right false b e = absurd (true≢false (sym e))

both : (a b : Bool) → a ≡ true → b ≡ true → (a && b) ≡ true
both a b p q = rw (p, q) refl

which : (b : Bool) → (b ≡ true) ⊎ (b ≡ false)
which true = inl refl
which false = inr refl

none-picked : (ms : List Mover) (pick : ℕ) (m : Mover) → picked ms pick ≡ Some m → is_nobody ms ≡ true → ⊥
none-picked [] pick m p e = cc
none-picked (n ∷ ms) pick m p e = true≢false (sym e)

some-there : (ms : List Mover) (pick : ℕ) (m : Mover) → picked ms pick ≡ Some m → is_nobody ms ≡ false
some-there ms pick m p = elim (which (is_nobody ms)) [
  | inr fails ↦ fails
  | inl none ↦ absurd (none-picked ms pick m p none)
]

module _ (windowed : Bool) (width lines more : ℕ) (r : Run) (whole : at_seam windowed lines ≡ true) (le : lines ≤ more) (w : CoreState) (ms : List Mover) where
  abbrev calm : Bool
  calm = is_none w.manager.doubt

  abbrev placed : Bool
  placed = nat_lt (in_flight r w) width

  abbrev opened : Bool
  opened = not (at_seam windowed w.units.lines) || is_nobody ms

  -- where a line could begin it can
  still-can : line_can_begin windowed width lines r w ms ≡ true → line_can_begin windowed width more r w ms ≡ true
  still-can c =
      let rest = and-right calm _ c in
      let last = and-right placed _ rest in
      let lt : w.units.lines < lines = ltb-true _ _ (and-left (nat_lt w.units.lines lines) opened last) in
      both calm _ (and-left calm _ c) (both placed _ (and-left placed _ rest) (both (nat_lt w.units.lines more) opened (lt-ltb _ _ (omega (arith, lt, le))) (and-right (nat_lt w.units.lines lines) opened last)))

  -- where somebody moved none can, also behind the last line of the windows so far
  still-cannot : w.units.lines ≤ lines → is_nobody ms ≡ false → line_can_begin windowed width lines r w ms ≡ false → line_can_begin windowed width more r w ms ≡ false
  still-cannot most some c = elim (which (line_can_begin windowed width more r w ms)) [
    | inr fails ↦ fails
    | inl holds ↦ absurd (clash holds)
  ]
    where
      clash : line_can_begin windowed width more r w ms ≡ true → ⊥
      clash d =
          let rest = and-right calm _ d in
          let last = and-right placed _ rest in
          let open_ = and-right (nat_lt w.units.lines more) opened last in
          elim (cases_lt w.units.lines lines) [
            | inl lt ↦ true≢false (sym (both calm _ (and-left calm _ d) (both placed _ (and-left placed _ rest) (both (nat_lt w.units.lines lines) opened (lt-ltb _ _ lt) open_))) ∙ c)
            | inr ge ↦ (
                let at_end : w.units.lines ≡ lines = omega (arith, most, ge) in
                let seam : at_seam windowed w.units.lines ≡ true = ap (at_seam windowed) at_end ∙ whole in
                true≢false (sym (subst (λ (b : Bool). (not b || is_nobody ms) ≡ true) seam open_) ∙ some))
          ]

module _ (windowed : Bool) (width lines more : ℕ) (r : Run) (whole : at_seam windowed lines ≡ true) (le : lines ≤ more) (w : CoreState) (most : w.units.lines ≤ lines)
    (wish : Option UnitNo) (ms : List Mover) (pick : ℕ) where
  -- a line can begin, of so many
  abbrev begins_of : ℕ → Bool
  begins_of n = line_can_begin windowed width n r w (and_wish wish ms)

  -- somebody moves or wants a grain
  by-mover : (m : Mover) (wants : Option UnitNo) → wish ≡ wants → begins_of lines ≡ false → turn_of None false wants (picked ms pick) ≡ Some m → begins_of more ≡ false
  by-mover m (Some u) q c t = still-cannot windowed width lines more r whole le w (and_wish wish ms) most (ap (λ (o : Option UnitNo). is_nobody (and_wish o ms)) q) c
  by-mover m None q c t = still-cannot windowed width lines more r whole le w (and_wish wish ms) most (ap (λ (o : Option UnitNo). is_nobody (and_wish o ms)) q ∙ some-there ms pick m t) c

  -- a line that began, or whose turn it was, is so with more lines
  whose-on : (m : Mover) (due : Option GrainId) → turn_of due (begins_of lines) wish (picked ms pick) ≡ Some m → turn_of due (begins_of more) wish (picked ms pick) ≡ Some m
  whose-on m (Some g) t = t
  whose-on m None t = elim (which (begins_of lines)) [
    | inl can ↦ (subst (λ (b : Bool). turn_of None b wish (picked ms pick) ≡ Some m) (can ∙ sym (still-can windowed width lines more r whole le w (and_wish wish ms) can)) t)
    | inr cannot ↦ subst (λ (b : Bool). turn_of None b wish (picked ms pick) ≡ Some m) (cannot ∙ sym (by-mover m wish refl cannot (subst (λ (b : Bool). turn_of None b wish (picked ms pick) ≡ Some m) cannot t))) t
  ]

  turn-on : (e : CoreEvent) → IsTurnOf windowed lines width r w wish ms pick e → IsTurnOf windowed more width r w wish ms pick e
  turn-on e t = record { whose = whose-on (mover_of e) (grain_due w) t.whose; made = t.made }

pub turns-on : (s : Basis) (more : List (List ℕ)) (windowed : Bool) (width : ℕ) (picks : List ℕ) (r : Run) → KeepsUnitRule s r → at_seam windowed (length s.lines) ≡ true → KeepsTurnRule s.types windowed (length s.lines) width picks r
    → KeepsTurnRule s.types windowed (length (s.lines ++ more)) width picks r
turns-on s more windowed width picks r units whole keeps at e a =
    turn-on windowed width (length s.lines) (length (s.lines ++ more)) r whole (let q = length-append s.lines more in omega (arith, q)) (state_before r at) (few-before s r at units)
    (next_wish (state_before r at) (units_of r (state_before r at)) (lock_asked s.types (state_before r at) (got_from (begins r) (take at r.events))) (passed (applied_from (begins r) (take at r.events))))
    (movers s.types r (state_before r at) (got_from (begins r) (take at r.events))) (get_or picks (picks_used r at) 0) e (keeps at e a)

-- ---- without windows

and-true : (b : Bool) → (b && true) ≡ b
and-true true = refl
and-true false = refl

-- whoever can move, a line begins where one is left and has a place
pub plain-test : (width lines : ℕ) (r : Run) (w : CoreState) (ms : List Mover) → line_can_begin false width lines r w ms ≡ (is_none w.manager.doubt && (nat_lt (in_flight r w) width && nat_lt w.units.lines lines))
plain-test width lines r w ms = ap (λ (b : Bool). is_none w.manager.doubt && (nat_lt (in_flight r w) width && b)) (and-true (nat_lt w.units.lines lines))
