-- The balances that a log stands for are those that the core keeps.
use Rattle.std.proofs.Common.{◌≡◌, inl, inr, ℕ, zero, suc, ◌+◌, ◌<◌, pos, ◌+ℤ◌, Bool, true, false, List, [], ◌∷◌, ◌++◌, Option, Some, None, map, filter, take, drop, get_or, unwrap_or, fold, refl, sym, ap, ◌∙◌, subst, arith, take-append-drop, get_or-drop, length-drop, true≢false}
use Rattle.core_model.specs.CoreState.{UnitNo, GrainId, Value, Write, CoreState, Member, nobody}
use Rattle.core_model.specs.declared.effects.Effect.{Effect}
use Rattle.core_model.specs.declared.phases.Verdict.{Verdict}
use Rattle.core_model.specs.declared.phases.Verdict.TheVariants.{Committed}
use Rattle.core_model.specs.Effects.{effect_of}
use Rattle.core_model.specs.Tests.{is_committed, state_written}
use Rattle.core_model.specs.SerialOrder as model
use Rattle.core_laws.proofs.Ends.{serial-ends}
use Rattle.core_laws.proofs.Orders.{Member-at}
use Rattle.history_core.specs.ClosedUnits.{or_else, state_after, last_among, last_state}
use Rattle.history_core.specs.KeptParts.{IsCoreReached}
use Rattle.history_core.proofs.CoreStates.{rests, closed-within, committed-closed}
use Rattle.script_tree.specs.Programs.{ProgramTree}
use Rattle.promise_spec.specs.Programs.{Program, IsChecked}
use Rattle.promise_spec.specs.Records.{Commit, States, after_writes, AreRecordsOf}
use Rattle.promise_spec.specs.Entries.{Recorded, Standing, Log, after_entry, after_entries, new_log, standing_of}
use Rattle.promise_spec.specs.UnitRule.{IsPlayOf}
use Rattle.promise_spec.specs.Causes.{RunHasDoubt}
use Rattle.promise_spec.specs.Courses.{Observed, Course, basis, order, core_run, core_end}
use Rattle.promise_spec.specs.Explanation.{IsExplained}
use Rattle.promise_spec.specs.Loads.{account, balance_in, total_of, bank_text}
use Rattle.promise_spec.proofs.Standings as standings
use Rattle.promise_spec.proofs.Doubts.{doubt_left}
use Rattle.promise_laws.specs.Legality.{is_play, applied_run}
use Rattle.promise_laws.proofs.LegalRuns.{is_play-true, ends_alike, legal}
use Rattle.promise_laws.proofs.SerialRecords.{next-states, above_entries}
use Rattle.bank_load.specs.Summaries.{kept_balance, total_kept}
use Rattle.bank_load.proofs.BankText.{bank_is_empty}

-- ---- the states behind serial effects

-- the store after all these units' writes
after_all : States → List Effect → States
after_all store [] = store
after_all store (e ∷ es) = after_all (model.after store e.writes) es

-- the records leave the same states
states_same : (types : ProgramTree) (store states : States) (es : List Effect) (log : List Commit) → ((g : GrainId) → store g ≡ states g) → model.IsSerialOrder (is_play types) store es → AreRecordsOf es log
    → (g : GrainId) → after_all store es g ≡ fold after_writes states log g
unfolding after_all
states_same types store states [] [] same serial are g = same g
states_same types store states [] (l ∷ log) same serial are g = absurd are
states_same types store states (e ∷ es) [] same serial are g = absurd are
states_same types store states (e ∷ es) (l ∷ log) same serial are g =
    let is : IsPlayOf types e = is_play-true types e serial.1 in
    states_same types (model.after store e.writes) (after_writes states l) es log (next-states types store states e l is are.0 same) serial.2 are.1 g

-- ---- the last writers

or_before : (state before : Option (List Value)) (first : List Value) → unwrap_or state (unwrap_or before first) ≡ unwrap_or (or_else state before) first
or_before None before first = refl
or_before (Some s) before first = refl

-- the store after the committed ones of some units is what the last of them wrote
last_written : (w : CoreState) (store first : States) (g : GrainId) (us : List UnitNo) (before : Option (List Value)) → store g ≡ unwrap_or before (first g)
    → after_all store (map (effect_of w) (filter (λ u. is_committed (w.manager.verdict u)) us)) g ≡ unwrap_or (last_among w.manager.verdict w.manager.writes g us before) (first g)
unfolding after_all
last_written w store first g [] before same = same
last_written w store first g (u ∷ us) before same = by (is_committed (w.manager.verdict u)) refl (λ s o e. last_written w s first g us o e)
  where
    by : (b : Bool) → is_committed (w.manager.verdict u) ≡ b
        → ((s : States) (o : Option (List Value)) → s g ≡ unwrap_or o (first g) → after_all s (map (effect_of w) (filter (λ x. is_committed (w.manager.verdict x)) us)) g ≡ unwrap_or (last_among w.manager.verdict w.manager.writes g us o) (first g))
        → after_all store (map (effect_of w) (filter (λ x. is_committed (w.manager.verdict x)) (u ∷ us))) g ≡ unwrap_or (last_among w.manager.verdict w.manager.writes g (u ∷ us) before) (first g)
    by true q later = rw q (later (model.after store (w.manager.writes u)) (or_else (state_written g (w.manager.writes u)) before)
        (ap (λ (s : List Value). unwrap_or (state_written g (w.manager.writes u)) s) same ∙ or_before (state_written g (w.manager.writes u)) before (first g)))
    by false q later = rw q (later store before same)

-- those behind the closed ones aren't committed
none_last : (v : UnitNo → Verdict) (writes : UnitNo → List Write) (g : GrainId) (us : List UnitNo) (before : Option (List Value)) → ((u : UnitNo) → Member u us → is_committed (v u) ≡ false)
    → last_among v writes g us before ≡ before
none_last v writes g [] before none = refl
none_last v writes g (u ∷ us) before none = rw (none u (inl refl)) (none_last v writes g us before (λ x m. none x (inr m)))

last_both : (v : UnitNo → Verdict) (writes : UnitNo → List Write) (g : GrainId) (us more : List UnitNo) (before : Option (List Value))
    → last_among v writes g (us ++ more) before ≡ last_among v writes g more (last_among v writes g us before)
last_both v writes g [] more before = refl
last_both v writes g (u ∷ us) more before = last_both v writes g us more (state_after (is_committed (v u)) (state_written g (writes u)) before)

committed-true : (d : Verdict) → is_committed d ≡ true → d ≡ Committed
committed-true Verdict.Committed q = refl
committed-true Verdict.Open q = absurd (true≢false (sym q))
committed-true Verdict.Chosen q = absurd (true≢false (sym q))
committed-true Verdict.Condemned q = absurd (true≢false (sym q))
committed-true Verdict.Aborted q = absurd (true≢false (sym q))

module _ (w : CoreState) (reached : IsCoreReached w) where
  behind_closed : (u : UnitNo) → Member u (drop w.manager.closed w.manager.order) → is_committed (w.manager.verdict u) ≡ false
  behind_closed u m = by (is_committed (w.manager.verdict u)) refl
    where
      by : (b : Bool) → is_committed (w.manager.verdict u) ≡ b → b ≡ false
      by false q = refl
      by true q =
          let t = Member-at u (drop w.manager.closed w.manager.order) m in
          let at : ℕ = w.manager.closed + t.0 in
          let long = length-drop w.manager.closed w.manager.order in
          let is : get_or w.manager.order at nobody ≡ u = sym (get_or-drop w.manager.closed w.manager.order t.0 nobody) ∙ t.2 in
          let listed = (rests w reached).prefix.order.listed at (omega (arith, t.1, long, closed-within w reached)) in
          let place : w.manager.place u ≡ at + 1 = subst (λ (x : UnitNo). w.manager.place x ≡ at + 1) is listed.1 in
          let early = committed-closed w reached u (committed-true (w.manager.verdict u) q) in
          absurd (omega (arith, place, early.1))

  last_of_all : (g : GrainId) → last_among w.manager.verdict w.manager.writes g w.manager.order None ≡ last_state w g
  last_of_all g =
      ap (λ (us : List UnitNo). last_among w.manager.verdict w.manager.writes g us None) (sym (take-append-drop w.manager.closed w.manager.order))
      ∙ last_both w.manager.verdict w.manager.writes g (take w.manager.closed w.manager.order) (drop w.manager.closed w.manager.order) None
      ∙ none_last w.manager.verdict w.manager.writes g (drop w.manager.closed w.manager.order) (last_state w g) behind_closed

-- ---- balances

balance_kept : (state : Option (List Value)) (first : List Value) → balance_in first ≡ pos 0 → balance_in (unwrap_or state first) ≡ kept_balance state
balance_kept None first empty = empty
balance_kept (Some state) first empty = refl

totals_same : (states : States) (w : CoreState) → ((k : ℕ) → balance_in (states (account k)) ≡ kept_balance (last_state w (account k))) → (n : ℕ) → total_of states n ≡ total_kept w n
totals_same states w each zero = refl
totals_same states w each (suc n) = λ i. totals_same states w each n i +ℤ each n i

-- the states after some records
written_there : (before : Standing) (more : List Commit) → (after_entries before (map Recorded more)).states ≡ fold after_writes before.states more
written_there before [] = refl
written_there before (c ∷ more) = written_there (after_entry before (Recorded c)) more

module _ (p : Program) (r : Observed) (c : Course) (is : IsExplained p r c) (checked : IsChecked p) (text : p.text ≡ bank_text) (opening : c.opening ≡ new_log p) (sure : RunHasDoubt (core_run p c) → ⊥) where
  above : 0 < (core_run p c).base
  above = above_entries c.opening.base c.opening.entries (subst (λ (l : Log). 0 < l.base.next) (sym opening) (omega arith))

  records : AreRecordsOf (model.committed (core_end p c)) c.added
  records = elim is.records [ inl all ↦ all | inr more ↦ absurd (sure (doubt_left (core_run p c) more.begins more.doubt)) ]

  serial : model.IsSerialOrder (is_play p.types) (standing_of c.opening).states (model.committed (core_end p c))
  serial = subst (λ w. model.IsSerialOrder (is_play p.types) (standing_of c.opening).states (model.committed w)) (ends_alike (core_run p c))
      (serial-ends (is_play p.types) (applied_run (core_run p c)) (legal (basis p r c) (core_run p c) above is.loads is.units))

  -- a grain's state by the order is what its last committed writer wrote, or else the opening state
  state_is : (g : GrainId) → (standing_of (order c)).states g ≡ unwrap_or (last_state (core_end p c) g) ((standing_of c.opening).states g)
  state_is g =
      (λ i. (standings.grown_stands c.opening c.added i).states g)
      ∙ (λ i. written_there (standing_of c.opening) c.added i g)
      ∙ sym (states_same p.types (standing_of c.opening).states (standing_of c.opening).states (model.committed (core_end p c)) c.added (λ x. refl) serial records g)
      ∙ last_written (core_end p c) (standing_of c.opening).states (standing_of c.opening).states g (core_end p c).manager.order None refl
      ∙ ap (λ (s : Option (List Value)). unwrap_or s ((standing_of c.opening).states g)) (last_of_all (core_end p c) (core_run p c, above, refl) g)

  empty : (k : ℕ) → balance_in ((standing_of c.opening).states (account k)) ≡ pos 0
  empty k = ap balance_in (ap (λ (l : Log). (standing_of l).states (account k)) opening ∙ bank_is_empty p k checked text)

  pub totals_kept : total_of (standing_of (order c)).states 64 ≡ total_kept (core_end p c) 64
  totals_kept = totals_same (standing_of (order c)).states (core_end p c)
      (λ k. ap balance_in (state_is (account k)) ∙ balance_kept (last_state (core_end p c) (account k)) ((standing_of c.opening).states (account k)) (empty k)) 64
