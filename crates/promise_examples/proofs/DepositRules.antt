-- Two runs of the core that keep both rules.
use Rattle.std.proofs.Common.{◌≡◌, ◌↔◌, inl, inr, ℕ, zero, suc, ◌+◌, Bool, true, false, List, [], ◌∷◌, take, get_or, Option, Some, None, pos, refl, ap, subst, zero-add, arith}
use Rattle.std.specs.Prelude.{slice_get}
use Rattle.std.specs.Prelude.{◌==◌, if◌then◌else◌}
use Rattle.std.proofs.lemmas.Bool.{and_parts, eqb-true}
use Rattle.base_types.specs.declared.calls.GrainId.{GrainId}
use Rattle.base_types.specs.declared.calls.Mode.TheVariants.{Read as Shared, Update as Alone}
use Rattle.base_types.specs.declared.calls.Value.TheVariants.{Int}
use Rattle.core_model.specs.declared.events.CoreEvent.{CoreEvent}
use Rattle.base_types.specs.declared.calls.UnitNo.{UnitNo}
use Rattle.cell_model.specs.declared.locks.Hold.{Hold}
use Rattle.cell_model.specs.Locks.{holds_lock}
use Rattle.core_model.specs.declared.events.CoreEvent.TheVariants as event
use Rattle.core_model.specs.declared.phases.Verdict.TheVariants as verdict
use Rattle.core_model.specs.Events.{applies}
use Rattle.core_model.specs.LegalRuns.{Run, begins, ends}
use Rattle.core_model.specs.SerialOrder.{AllLoadsTrue}
use Rattle.core_model.specs.Tests.{is_before}
use Rattle.core_model.specs.CoreState.{same_grain, put, put_grain}
use Rattle.script_meaning.specs.Play.{unit, next, play_over, IsTransaction}
use Rattle.promise_spec.specs.Lines.{IsLineCall}
use Rattle.promise_spec.specs.Cores.{state_before, applied_from}
use Rattle.promise_spec.specs.UnitAnswers.{got_from}
use Rattle.promise_spec.specs.UnitRule.{IsDue, KeepsUnitRule}
use Rattle.promise_spec.specs.TurnRule.{Mover, OfLine, OfWant, OfLoad, OfUnit, OfSettler, IsTurnOf, KeepsTurnRule, lock_asked, movers, next_wish, passed, picks_used, units_of}
use Rattle.promise_examples.specs.Examples.{accounts, account_1, bringing, deposit_call, unit_no, deposit_events, conflict_events, conflict_entries, account_run, account_basis, AskDeposits, vote_events, vote_entries, AskBoth}
use Rattle.promise_spec.proofs.Lists.{none_at, some_is}

-- it holds of each event at its place
abbrev pub Each : (ℕ → CoreEvent → Type 0) → ℕ → List CoreEvent → Type 0
Each P at [] = Unit {0}
Each P at (e ∷ events) = P at e × Each P (suc at) events

pub each_at : (P : ℕ → CoreEvent → Type 0) (k : ℕ) (events : List CoreEvent) (at : ℕ) (e : CoreEvent) → Each P k events → slice_get events at ≡ Some e → P (k + at) e
each_at P k [] at e all there = absurd (none_at at e there)
each_at P k (x ∷ events) zero e all there = let same : k ≡ k + 0 = omega arith in subst (λ n. P n e) same (subst (P k) (some_is x e there) all.0)
each_at P k (x ∷ events) (suc at) e all there = let same : suc k + at ≡ k + suc at = omega arith in subst (λ n. P n e) same (each_at P (suc k) events at e all.1 there)

-- the same from the first place on
pub each_from_0 : (P : ℕ → CoreEvent → Type 0) (events : List CoreEvent) (at : ℕ) (e : CoreEvent) → Each P 0 events → slice_get events at ≡ Some e → P at e
each_from_0 P events at e all there = subst (λ n. P n e) (zero-add at) (each_at P 0 events at e all there)

abbrev pub DueAt : List (List ℕ) → Run → ℕ → CoreEvent → Type 0
DueAt lines r at e = IsDue (account_basis lines) (state_before r at) (got_from (begins r) (take at r.events)) e

abbrev pub TurnAt : ℕ → ℕ → List ℕ → Run → ℕ → CoreEvent → Type 0
TurnAt lines width picks r at e =
    IsTurnOf true lines width r (state_before r at)
    (next_wish (state_before r at) (units_of r (state_before r at)) (lock_asked accounts (state_before r at) (got_from (begins r) (take at r.events))) (passed (applied_from (begins r) (take at r.events))))
    (movers accounts r (state_before r at) (got_from (begins r) (take at r.events))) (get_or picks (picks_used r at) 0) e

-- a deposit is a transaction
pub is_transaction : (n : ℕ) → (false ≡ false) ↔ IsTransaction accounts (record { grain = account_1; method = 0; args = Int (pos n) ∷ [] })
is_transaction n = (λ is. (_, refl, refl), λ is. refl)

-- `account/1` doesn't come before itself
not_before : (h : GrainId) → same_grain h account_1 ≡ true → is_before h account_1 ≡ false
not_before h same =
    let parts = and_parts (h.kind == 0) (h.key == 1) same in
    let kind : h.kind ≡ 0 = eqb-true h.kind 0 parts.0 in
    let key : h.key ≡ 1 = eqb-true h.key 1 parts.1 in
    let is : h ≡ account_1 = (λ i. record { kind = kind i; key = key i }) in
    ap (λ (g : GrainId). is_before g account_1) is

-- a unit that holds `account/1` and nothing else holds nothing before it
pub lowest : (u : UnitNo) (h : GrainId) (b : Bool) (holds : List Hold) → same_grain h account_1 ≡ b → holds_lock u (if b then holds else []) ≡ true → is_before h account_1 ≡ false
lowest u h true holds same held = not_before h same
lowest u h false holds same held = absurd (cc held)

-- nor where others held it before
pub lowest_later : (u : UnitNo) (h : GrainId) (b : Bool) (holds then_holds last : List Hold) → same_grain h account_1 ≡ b → holds_lock u (if b then last else (if b then then_holds else (if b then holds else []))) ≡ true → is_before h account_1 ≡ false
lowest_later u h true holds then_holds last same held = not_before h same
lowest_later u h false holds then_holds last same held = absurd (cc held)

-- ---- what is brought into memory

-- each load of a run is true
abbrev pub LoadsTrue : Run → Type 0
LoadsTrue r = AllLoadsTrue r.opening (begins r) r.events

pub one_loads : LoadsTrue (account_run deposit_events)
unfolding put put_grain
one_loads = (tt, (tt, (λ applied. inl (refl, refl, λ c v committed wrote. absurd (cc committed)), (tt, (tt, (tt, (tt, (tt, (tt, (tt, (tt, (tt, tt))))))))))))

pub two_loads : LoadsTrue (account_run conflict_events)
unfolding put put_grain
two_loads = (tt, (tt, (tt, (λ applied. inl (refl, refl, λ c v committed wrote. absurd (cc committed)), (tt, (tt, (tt, (tt, (tt, (tt, (tt, (tt, (tt, (tt, tt))))))))))))))

pub vote_loads : LoadsTrue (account_run vote_events)
unfolding put put_grain
vote_loads = (tt, (tt, (tt, (λ applied. inl (refl, refl, λ c v committed wrote. absurd (cc committed)), (tt, (tt, (tt, (tt, (tt, (tt, (tt, (tt, (tt, (tt, (tt, (tt, tt))))))))))))))))

-- over the log of the first deposit its balance is true, as nobody's version
pub logged_load : LoadsTrue (bringing 0 5)
unfolding put put_grain
logged_load = (tt, (tt, ((λ applied. inl (refl, refl, λ c v committed wrote. absurd (cc committed))), tt)))

-- another balance isn't
pub other_load : LoadsTrue (bringing 0 0) → ⊥
unfolding put put_grain
other_load all = elim (all.1.1.0 refl) [
  | inl first ↦ (let same : Int (pos 0) ∷ [] ≡ Int (pos 5) ∷ [] = first.1 in absurd (cc same))
  | inr last ↦ (let open_yet : verdict.Open ≡ verdict.Committed = last.commits in absurd (cc open_yet))
]

-- nor is it that of the unit which made it, since that isn't one of this run
pub own_load : LoadsTrue (bringing 1 5) → ⊥
unfolding put put_grain
own_load all = elim (all.1.1.0 refl) [
  | inl first ↦ (let numbers : 1 ≡ 0 = ap (λ (u : UnitNo). u.0) first.0 in absurd (omega (arith, numbers)))
  | inr last ↦ (let open_yet : verdict.Open ≡ verdict.Committed = last.commits in absurd (cc open_yet))
]

-- no lock of the grain can be had before it is there
pub not_locked : applies (state_before (bringing 0 5) 2) (event.Grant (unit_no 2) account_1 Alone) ≡ false
unfolding put put_grain
not_locked = refl

pub then_locked : applies (state_before (bringing 0 5) 3) (event.Grant (unit_no 2) account_1 Alone) ≡ true
unfolding put put_grain
then_locked = refl

-- and it isn't brought before it is wanted
pub not_brought : applies (state_before (bringing 0 5) 1) (event.Load account_1 (unit_no 0) (Int (pos 5) ∷ [])) ≡ false
unfolding put put_grain
not_brought = refl

-- ---- the runs of deposits

module _ (lines : List (List ℕ)) (asks : IsLineCall accounts lines 1 deposit_call) where
  one_due : Each (DueAt lines (account_run deposit_events)) 0 deposit_events
  unfolding put put_grain unit next play_over
  one_due = ((asks, is_transaction 5), ((Alone, refl), (tt, (refl, ((refl, record { result = refl; asked = refl; reads = refl; writes = refl }), (λ h holds. lowest (unit_no 1) h (same_grain h account_1) (record { unit = unit_no 1; mode = Alone } ∷ []) refl holds, (tt, (tt, (tt, (tt, (tt, (tt, tt))))))))))))

  pub one_unit_rule : KeepsUnitRule (account_basis lines) (account_run deposit_events)
  one_unit_rule at e is = each_from_0 (DueAt lines (account_run deposit_events)) deposit_events at e one_due is.there

module _ (lines : List (List ℕ)) (asks : AskDeposits lines) where
  two_due : Each (DueAt lines (account_run conflict_events)) 0 conflict_events
  unfolding put put_grain unit next play_over
  two_due = ((asks.first, is_transaction 5), ((asks.second, is_transaction 4), ((Alone, refl), (tt, (refl, (refl, (tt, ((refl, record { result = refl; asked = refl; reads = refl; writes = refl }), (λ h holds. lowest (unit_no 1) h (same_grain h account_1) (record { unit = unit_no 1; mode = Alone } ∷ []) refl holds, (tt, (tt, (tt, (tt, (tt, tt))))))))))))))

  pub two_unit_rule : KeepsUnitRule (account_basis lines) (account_run conflict_events)
  two_unit_rule at e is = each_from_0 (DueAt lines (account_run conflict_events)) conflict_events at e two_due is.there

one_turns : Each (TurnAt 1 1 [] (account_run deposit_events)) 0 deposit_events
unfolding put put_grain unit next play_over
one_turns = (record { whose = refl; made = tt }, (record { whose = refl; made = tt }, (record { whose = refl; made = (_, _, refl) }, (record { whose = refl; made = tt }, (record { whose = refl; made = tt }, (record { whose = refl; made = tt }, (record { whose = refl; made = refl }, (record { whose = refl; made = (true, refl) }, (record { whose = refl; made = refl }, (record { whose = refl; made = inl refl }, (record { whose = refl; made = refl }, (record { whose = refl; made = refl }, tt))))))))))))

pub one_turn_rule : KeepsTurnRule accounts true 1 1 [] (account_run deposit_events)
one_turn_rule at e is = each_from_0 (TurnAt 1 1 [] (account_run deposit_events)) deposit_events at e one_turns is.there

two_turns : Each (TurnAt 2 2 (0 ∷ 1 ∷ 1 ∷ []) (account_run conflict_events)) 0 conflict_events
unfolding put put_grain unit next play_over
two_turns = (record { whose = refl; made = tt }, (record { whose = refl; made = tt }, (record { whose = refl; made = tt }, (record { whose = refl; made = (_, _, refl) }, (record { whose = refl; made = tt }, (record { whose = refl; made = tt }, (record { whose = refl; made = refl }, (record { whose = refl; made = tt }, (record { whose = refl; made = tt }, (record { whose = refl; made = refl }, (record { whose = refl; made = (true, refl) }, (record { whose = refl; made = refl }, (record { whose = refl; made = inr (inr refl) }, (record { whose = refl; made = refl }, tt))))))))))))))

pub two_turn_rule : KeepsTurnRule accounts true 2 2 (0 ∷ 1 ∷ 1 ∷ []) (account_run conflict_events)
two_turn_rule at e is = each_from_0 (TurnAt 2 2 (0 ∷ 1 ∷ 1 ∷ []) (account_run conflict_events)) conflict_events at e two_turns is.there

-- what the lines of that run are told
pub two_settled : (ends (account_run conflict_events)).manager.settled ≡ conflict_entries
unfolding put put_grain
two_settled = refl

abbrev number_of : Option Mover → ℕ
number_of None = 0
number_of (Some OfLine) = 0
number_of (Some (OfWant u)) = 0
number_of (Some OfLoad) = 0
number_of (Some OfSettler) = 0
number_of (Some (OfUnit u)) = u.0

not_second : Some (OfUnit (unit_no 1)) ≡ Some (OfUnit (unit_no 2)) → ⊥
not_second same = let numbers : 1 ≡ 2 = ap number_of same in omega (arith, numbers)

-- with other picks the second unit's turn isn't there
pub other_picks : KeepsTurnRule accounts true 2 2 [] (account_run conflict_events) → ⊥
unfolding put put_grain unit next play_over
other_picks keeps = not_second (keeps 5 _ (record { there = refl; applied = refl })).whose

-- one thread begins a line where it can
pub narrow : KeepsTurnRule accounts true 2 1 (0 ∷ 1 ∷ 1 ∷ []) (account_run conflict_events) → ⊥
unfolding put put_grain unit next play_over
narrow keeps = let turn = (keeps 1 _ (record { there = refl; applied = refl })).whose in absurd (cc turn)

-- ---- a vote of no, and a unit that read from the one that fails

module _ (lines : List (List ℕ)) (asks : AskBoth lines) where
  vote_due : Each (DueAt lines (account_run vote_events)) 0 vote_events
  unfolding put put_grain unit next play_over
  vote_due = ((asks.first, is_transaction 5), ((asks.second, (λ is. (_, refl, refl), λ is. refl)), ((Alone, refl), (tt, (refl, ((refl, record { result = refl; asked = refl; reads = refl; writes = refl }), (λ h holds. lowest (unit_no 1) h (same_grain h account_1) (record { unit = unit_no 1; mode = Alone } ∷ []) refl holds, (refl, ((refl, record { result = refl; asked = refl; reads = refl; writes = refl }), (λ h holds. lowest_later (unit_no 2) h (same_grain h account_1) (record { unit = unit_no 1; mode = Alone } ∷ []) [] (record { unit = unit_no 2; mode = Shared } ∷ []) refl holds, (tt, (tt, (tt, (tt, (tt, (tt, tt))))))))))))))))

  pub vote_unit_rule : KeepsUnitRule (account_basis lines) (account_run vote_events)
  vote_unit_rule at e is = each_from_0 (DueAt lines (account_run vote_events)) vote_events at e vote_due is.there

vote_turns : Each (TurnAt 2 2 [] (account_run vote_events)) 0 vote_events
unfolding put put_grain unit next play_over
vote_turns = (record { whose = refl; made = tt }, (record { whose = refl; made = tt }, (record { whose = refl; made = tt }, (record { whose = refl; made = (_, _, refl) }, (record { whose = refl; made = tt }, (record { whose = refl; made = tt }, (record { whose = refl; made = tt }, (record { whose = refl; made = tt }, (record { whose = refl; made = tt }, (record { whose = refl; made = tt }, (record { whose = refl; made = refl }, (record { whose = refl; made = (false, refl) }, (record { whose = refl; made = refl }, (record { whose = refl; made = refl }, (record { whose = refl; made = refl }, (record { whose = refl; made = refl }, tt))))))))))))))))

pub vote_turn_rule : KeepsTurnRule accounts true 2 2 [] (account_run vote_events)
vote_turn_rule at e is = each_from_0 (TurnAt 2 2 [] (account_run vote_events)) vote_events at e vote_turns is.there

pub vote_settled : (ends (account_run vote_events)).manager.settled ≡ vote_entries
unfolding put put_grain
vote_settled = refl
