-- What the unit rule says of the units that have begun.
use Rattle.std.proofs.Common.{◌≡◌, ℕ, suc, ◌+◌, ◌≤◌, List, [], ◌∷◌, length, Bool, true, false, inl, inr, refl, sym, ap, ◌∙◌, subst, arith, Option, Some, None, eqb-true}
use Rattle.std.specs.Prelude.{◌↔◌, take, slice_get, Result}
use Rattle.std.proofs.lemmas.Bool.{and_parts, cond_both}
use Rattle.std.proofs.lemmas.Option.{slice_get_within}
use Rattle.base_types.specs.declared.entries.BadRequest.{BadRequest}
use Rattle.base_types.specs.declared.calls.Origin.TheVariants.{Line, Child}
use Rattle.cell_model.proofs.Units.{cases_unit}
use Rattle.core_model.specs.declared.events.CoreEvent.{CoreEvent}
use Rattle.core_model.specs.declared.events.CoreEvent.TheVariants.{Bad, Begin, EndSnapshot}
use Rattle.core_model.specs.declared.phases.Phase.{Phase}
use Rattle.core_model.specs.declared.phases.Phase.TheVariants.{Unborn, Running, Finished, Refused, Ended}
use Rattle.core_model.specs.CoreState.{UnitNo, Call, Origin, put, CoreState}
use Rattle.core_model.specs.Changes.{begun, new_unit, lines_with, swept, swept_by}
use Rattle.core_model.specs.Events.{applies, can, does, step, run, is_allowed}
use Rattle.core_model.specs.Lines.{HasBegunFor}
use Rattle.core_model.specs.LegalRuns.{Run, begins}
use Rattle.core_laws.proofs.Puts.{put-from, put-is, put-other}
use Rattle.core_laws.proofs.EventCases.{Change, bad, begin, lock, raise, refuse, finish, end_plain, end_snapshot, release, take_batch, vote, decide_some, decide_none, seal_batch, spoil_batch, doubt_batch, learn, emit, halt_run, want, load, decode}
use Rattle.script_tree.specs.Programs.{ProgramTree}
use Rattle.script_meaning.specs.Play.{IsTransaction}
use Rattle.promise_spec.specs.Cores.{applied_from, state_before}
use Rattle.promise_spec.specs.UnitAnswers.{Got, got_from}
use Rattle.promise_spec.specs.Lines.{ReadsLineAs, IsLineCall, IsBadLine}
use Rattle.promise_spec.specs.UnitRule.{Basis, IsDue, KeepsUnitRule}
use Rattle.promise_laws.specs.Legality.{applied_run}

-- the line asks for the call, which is a plain run or a transaction of its own
abbrev pub BeginsLine : ProgramTree → List (List ℕ) → ℕ → Call → Bool → Type 0
BeginsLine types lines n call plain = IsLineCall types lines n call × ((plain ≡ false) ↔ IsTransaction types call)

-- what the unit rule says of an event, whatever the state
abbrev pub Says : ProgramTree → List (List ℕ) → CoreEvent → Type 0
Says types lines (Bad n why) = IsBadLine types lines n why
Says types lines (Begin (Line n) call plain) = BeginsLine types lines n call plain
Says types lines (Begin (Child parent index depth) call plain) = plain ≡ false
Says types lines (EndSnapshot u at outcome) = ⊥
Says types lines _ = Unit {0}

due-says : (s : Basis) (w : CoreState) (got : UnitNo → List Got) (e : CoreEvent) → IsDue s w got e → Says s.types s.lines e
due-says s w got (Bad n why) d = d
due-says s w got (Begin (Line n) call plain) d = d
due-says s w got (Begin (Child parent index depth) call plain) d = d.1
due-says s w got (EndSnapshot u at outcome) d = d
due-says s w got _ d = tt

-- it says so of each event of the list
abbrev pub AllSaid : ProgramTree → List (List ℕ) → List CoreEvent → Type 0
AllSaid types lines [] = Unit {0}
AllSaid types lines (e ∷ events) = Says types lines e × AllSaid types lines events

said-in : (types : ProgramTree) (lines : List (List ℕ)) (w : CoreState) (events : List CoreEvent)
    → ((at : ℕ) (e : CoreEvent) → slice_get events at ≡ Some e → applies (run w (take at events)) e ≡ true → Says types lines e) → AllSaid types lines (applied_from w events)
said-in types lines w [] all = tt
said-in types lines w (e ∷ events) all =
    let rest : AllSaid types lines (applied_from (step w e) events) = said-in types lines (step w e) events (λ at f there a. all (suc at) f there a) in
    cond_both (applies w e) (e ∷ applied_from (step w e) events) (applied_from (step w e) events) (AllSaid types lines)
    (λ a. (all 0 e refl a, rest))
    (λ a. rest)

-- where a run keeps the unit rule, it says so of each event that applied
pub all_said : (s : Basis) (r : Run) → KeepsUnitRule s r → AllSaid s.types s.lines (applied_run r).events
all_said s r keeps =
    said-in s.types s.lines (begins r) r.events
    (λ at e there a. due-says s (state_before r at) (got_from (begins r) (take at r.events)) e (keeps at e (record { there = there; applied = a })))

-- Units are numbered from the base on. The lines that began are lines of the input. A line's unit has its call, and is
-- plain where that is no transaction; a child is a transaction. Who ended as a plain run is plain, and saw no snapshot.
abbrev pub ByRule : ProgramTree → List (List ℕ) → ℕ → CoreState → Type 0
ByRule types lines base w =
    (base ≤ w.units.next)
    × (w.units.lines ≤ length lines)
    × ((u : UnitNo) → (w.units.phase u ≡ Unborn → ⊥) → base ≤ u.0)
    × ((u : UnitNo) (n : ℕ) → HasBegunFor w u n → BeginsLine types lines n (w.units.call u) (w.units.plain u))
    × ((u p : UnitNo) (i d : ℕ) → (w.units.phase u ≡ Unborn → ⊥) → w.units.origin u ≡ Child p i d → w.units.plain u ≡ false)
    × ((u : UnitNo) → w.units.phase u ≡ Ended → (w.units.plain u ≡ true) × (w.units.seen_at u ≡ None))

-- a number that is read is one of a line
within-lines : (types : ProgramTree) (lines : List (List ℕ)) (n : ℕ) (request : Result Call BadRequest) → ReadsLineAs types lines n request → n ≤ length lines
within-lines types lines n request r = (let t = slice_get_within lines r.index r.text r.there in omega (arith, t, r.number))

begins-as : (types : ProgramTree) (lines : List (List ℕ)) (n m : ℕ) (call other : Call) (plain too : Bool) → n ≡ m → call ≡ other → plain ≡ too → BeginsLine types lines n call plain → BeginsLine types lines m other too
begins-as types lines n m call other plain too p q r b =
    subst (λ z. BeginsLine types lines z other too) p (subst (λ z. BeginsLine types lines n z too) q (subst (λ z. BeginsLine types lines n call z) r b))

-- one more unit runs
rule-begun : (types : ProgramTree) (lines : List (List ℕ)) (base : ℕ) (w : CoreState) (origin : Origin) (call : Call) (plain : Bool)
    → lines_with w.units.lines origin ≤ length lines → ((n : ℕ) → origin ≡ Line n → BeginsLine types lines n call plain) → ((p : UnitNo) (i d : ℕ) → origin ≡ Child p i d → plain ≡ false)
    → ByRule types lines base w → ByRule types lines base (begun w origin call plain)
rule-begun types lines base w origin call plain count line child s = (
  omega (arith, s.0),
  count,
  (λ u b. elim (cases_unit u (new_unit w)) [
    | inl q ↦ omega (arith, s.0, ap (λ (z : UnitNo). z.0) q)
    | inr q ↦ s.2 u (born u q b)
  ]),
  (λ u n b. elim (cases_unit u (new_unit w)) [
    | inl q ↦ begins-as types lines n n call (put w.units.call (new_unit w) call u) plain (put w.units.plain (new_unit w) plain u) refl
        (sym (put-is w.units.call (new_unit w) call u q)) (sym (put-is w.units.plain (new_unit w) plain u q))
        (line n (sym (put-is w.units.origin (new_unit w) origin u q) ∙ b.1))
    | inr q ↦ begins-as types lines n n (w.units.call u) (put w.units.call (new_unit w) call u) (w.units.plain u) (put w.units.plain (new_unit w) plain u) refl
        (sym (put-other w.units.call (new_unit w) call u q)) (sym (put-other w.units.plain (new_unit w) plain u q))
        (s.3 u n (born u q b.0, sym (put-other w.units.origin (new_unit w) origin u q) ∙ b.1))
  ]),
  (λ u p i d b o. elim (cases_unit u (new_unit w)) [
    | inl q ↦ put-is w.units.plain (new_unit w) plain u q ∙ child p i d (sym (put-is w.units.origin (new_unit w) origin u q) ∙ o)
    | inr q ↦ put-other w.units.plain (new_unit w) plain u q ∙ s.4 u p i d (born u q b) (sym (put-other w.units.origin (new_unit w) origin u q) ∙ o)
  ]),
  (λ u. put-from w.units.phase (new_unit w) Running (λ z. z ≡ Ended) ((put w.units.plain (new_unit w) plain u ≡ true) × (w.units.seen_at u ≡ None)) u
      (λ q f. absurd cc)
      (λ q f. (let t = s.5 u f in (put-other w.units.plain (new_unit w) plain u q ∙ t.0, t.1)))),
)
  where
    born : (u : UnitNo) → (u ≡ new_unit w → ⊥) → (put w.units.phase (new_unit w) Running u ≡ Unborn → ⊥) → w.units.phase u ≡ Unborn → ⊥
    born u q b z = b (put-other w.units.phase (new_unit w) Running u q ∙ z)

-- a running unit comes to an end
born-before : (w : CoreState) (u : UnitNo) (end : Phase) (x : UnitNo) → w.units.phase u ≡ Running → (put w.units.phase u end x ≡ Unborn → ⊥) → w.units.phase x ≡ Unborn → ⊥
born-before w u end x running b z = elim (cases_unit x u) [
  | inl q ↦ (let y : Unborn ≡ Running = sym z ∙ ap w.units.phase q ∙ running in absurd cc)
  | inr q ↦ b (put-other w.units.phase u end x q ∙ z)
]

rule-phase : (types : ProgramTree) (lines : List (List ℕ)) (base : ℕ) (w : CoreState) (u : UnitNo) (end : Phase) → w.units.phase u ≡ Running → (end ≡ Ended → ⊥)
    → ByRule types lines base w → ByRule types lines base (record w { units = record w.units { phase = put w.units.phase u end } })
rule-phase types lines base w u end running not_end s = (
  s.0,
  s.1,
  (λ x b. s.2 x (born-before w u end x running b)),
  (λ x n b. s.3 x n (born-before w u end x running b.0, b.1)),
  (λ x p i d b o. s.4 x p i d (born-before w u end x running b) o),
  (λ x. put-from w.units.phase u end (λ z. z ≡ Ended) ((w.units.plain x ≡ true) × (w.units.seen_at x ≡ None)) x (λ q f. absurd (not_end f)) (λ q f. s.5 x f)),
)

rule-ended : (types : ProgramTree) (lines : List (List ℕ)) (base : ℕ) (w : CoreState) (u : UnitNo) → w.units.phase u ≡ Running → w.units.plain u ≡ true
    → ByRule types lines base w → ByRule types lines base (record w { units = record w.units { phase = put w.units.phase u Ended; seen_at = put w.units.seen_at u None } })
rule-ended types lines base w u running plain s = (
  s.0,
  s.1,
  (λ x b. s.2 x (born-before w u Ended x running b)),
  (λ x n b. s.3 x n (born-before w u Ended x running b.0, b.1)),
  (λ x p i d b o. s.4 x p i d (born-before w u Ended x running b) o),
  (λ x. put-from w.units.phase u Ended (λ z. z ≡ Ended) ((w.units.plain x ≡ true) × (put w.units.seen_at u None x ≡ None)) x
      (λ q f. (ap w.units.plain q ∙ plain, put-is w.units.seen_at u None x q))
      (λ q f. (let t = s.5 x f in (t.0, put-other w.units.seen_at u None x q ∙ t.1)))),
)

rule-change : (types : ProgramTree) (lines : List (List ℕ)) (base : ℕ) (w : CoreState) (e : CoreEvent) (w' : CoreState) → Change w e w' → Says types lines e → ByRule types lines base w → ByRule types lines base w'
rule-change types lines base w e w' (bad line why q) d s = (s.0, (let t = within-lines types lines line _ d in omega (arith, t, q)), s.2, s.3, s.4, s.5)
rule-change types lines base w e w' (begin (Line n) call plain c) d s =
    rule-begun types lines base w (Line n) call plain
    (let t = within-lines types lines n _ d.0 in omega (arith, t, eqb-true n (w.units.lines + 1) c))
    (λ m q. (let same : n ≡ m = line_of n m q in subst (λ z. BeginsLine types lines z call plain) same d))
    (λ p i k q. absurd (no_child n p i k q))
    s
  where
    line_of : (n m : ℕ) → Line n ≡ Line m → n ≡ m
    line_of n m q = cc

    no_child : (n : ℕ) (p : UnitNo) (i k : ℕ) → Line n ≡ Child p i k → ⊥
    no_child n p i k q = absurd cc
rule-change types lines base w e w' (begin (Child parent index depth) call plain c) d s =
    rule-begun types lines base w (Child parent index depth) call plain s.1 (λ m q. absurd (no_line m q)) (λ p i k q. d) s
  where
    no_line : (m : ℕ) → Child parent index depth ≡ Line m → ⊥
    no_line m q = absurd cc
rule-change types lines base w e w' (lock u g mode running free first here) d s = s
rule-change types lines base w e w' (raise u g mode running free held here uncovered) d s = s
rule-change types lines base w e w' (refuse u g mode why running q) d s = rule-phase types lines base w u Refused running (λ z. absurd cc) s
rule-change types lines base w e w' (finish u effect running plain of_call reads alone) d s = rule-phase types lines base w u Finished running (λ z. absurd cc) s
rule-change types lines base w e w' (end_plain u effect running plain of_call bare) d s = rule-ended types lines base w u running plain s
rule-change types lines base w e w' (end_snapshot u at outcome running plain kids answer) d s = absurd d
rule-change types lines base w e w' (release u g over held) d s = s
rule-change types lines base w e w' (take_batch none some) d s = s
rule-change types lines base w e w' (vote n g kept b q number un planned fresh) d s = s
rule-change types lines base w e w' (decide_some n b q number un voted some) d s = s
rule-change types lines base w e w' (decide_none n b q number un voted none) d s = s
rule-change types lines base w e w' (seal_batch n b ds q number un) d s = s
rule-change types lines base w e w' (spoil_batch n b ds q number un) d s = s
rule-change types lines base w e w' (doubt_batch n b ds q number un) d s = s
rule-change types lines base w e w' (learn u g wrote final fresh) d s = s
rule-change types lines base w e w' (emit q) d s = s
rule-change types lines base w e w' (halt_run q) d s = s
rule-change types lines base w e w' (want u g running free fresh) d s = s
rule-change types lines base w e w' (load g u state gone wanted) d s = s

rule-step : (types : ProgramTree) (lines : List (List ℕ)) (base : ℕ) (w : CoreState) (e : CoreEvent) → Says types lines e → ByRule types lines base w → ByRule types lines base (step w e)
rule-step types lines base w e d s = cond_both (applies w e) (swept (does w e)) w (ByRule types lines base)
    (λ a. swept-rule (does w e) (rule-change types lines base w e (does w e) (decode w e (and_parts (is_allowed w e) (can w e) a).1) d s))
    (λ a. s)
  where
    swept-rule : (w : CoreState) → ByRule types lines base w → ByRule types lines base (swept w)
    swept-rule w s = go w.cells.capacity
      where
        go : (c : Option ℕ) → ByRule types lines base (swept_by w c)
        go None = s
        go (Some m) = s

pub rule-run : (types : ProgramTree) (lines : List (List ℕ)) (base : ℕ) (es : List CoreEvent) (w : CoreState) → AllSaid types lines es → ByRule types lines base w → ByRule types lines base (run w es)
rule-run types lines base [] w said s = s
rule-run types lines base (e ∷ es) w said s = rule-run types lines base es (step w e) said.1 (rule-step types lines base w e said.0 s)

-- it holds at the start
pub rule-begins : (types : ProgramTree) (lines : List (List ℕ)) (r : Run) → ByRule types lines r.base (begins r)
rule-begins types lines r = (
  omega arith,
  omega arith,
  (λ u b. absurd (b refl)),
  (λ u n b. absurd (b.0 refl)),
  (λ u p i d b o. absurd (b refl)),
  (λ u f. absurd cc),
)
