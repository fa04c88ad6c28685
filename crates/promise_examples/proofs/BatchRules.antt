-- The run of the core that takes one batch of two deposits keeps both rules.
use Rattle.std.proofs.Common.{◌≡◌, inl, ℕ, ◌+◌, true, List, [], ◌∷◌, length, refl, sym, ap, subst, ◌∙◌, arith}
use Rattle.std.specs.Prelude.{count_by}
use Rattle.base_types.specs.declared.calls.GrainId.{GrainId}
use Rattle.base_types.specs.declared.calls.Mode.TheVariants.{Update as Alone}
use Rattle.core_model.specs.declared.events.CoreEvent.{CoreEvent}
use Rattle.core_model.specs.declared.events.CoreEvent.TheVariants as event
use Rattle.core_model.specs.LegalRuns.{Run, ends}
use Rattle.core_model.specs.SerialOrder.{committed}
use Rattle.core_model.specs.CoreState.{same_grain, put, put_grain}
use Rattle.script_meaning.specs.Play.{unit, next, play_over}
use Rattle.silo_spec.specs.OpenedDisks.{opening_syncs}
use Rattle.host_trait.specs.World.{Image}
use Rattle.promise_spec.specs.Records.{AreRecordsOf}
use Rattle.promise_spec.specs.Cores.{applied_in, how_many}
use Rattle.promise_spec.specs.Causes.{RunHasDoubt, is_no, is_vote_of, is_unsealed, syncs_of, most_syncs_of}
use Rattle.promise_spec.specs.Batches.{EndsABatch, kept_by}
use Rattle.promise_spec.specs.UnitRule.{KeepsUnitRule}
use Rattle.promise_spec.specs.TurnRule.{KeepsTurnRule}
use Rattle.promise_examples.specs.Examples.{account_log, accounts, account_1, unit_no, first_commit, account_run, account_basis, AskDeposits}
use Rattle.promise_examples.specs.WrittenBatch.{batch_events, both_commits, both_entries}
use Rattle.promise_examples.proofs.FirstFamily.{none_of, none_counted}
use Rattle.promise_examples.proofs.WholeBatches.{not_between}
use Rattle.promise_examples.proofs.DepositRules.{Each, each_from_0, DueAt, TurnAt, LoadsTrue, is_transaction, lowest, lowest_later}

abbrev pub core : Run
core = account_run batch_events

-- the load is true
pub batch_loads : LoadsTrue core
unfolding put put_grain
batch_loads = (tt, (tt, (tt, (λ applied. inl (refl, refl, λ c v committed wrote. absurd (cc committed)), (tt, (tt, (tt, (tt, (tt, (tt, (tt, (tt, (tt, (tt, (tt, (tt, (tt, (tt, tt))))))))))))))))))

module _ (lines : List (List ℕ)) (asks : AskDeposits lines) where
  batch_due : Each (DueAt lines core) 0 batch_events
  unfolding put put_grain unit next play_over
  batch_due = ((asks.first, is_transaction 5), ((asks.second, is_transaction 4), ((Alone, refl), (tt, (refl, ((refl, record { result = refl; asked = refl; reads = refl; writes = refl }), (λ h holds. lowest (unit_no 1) h (same_grain h account_1) (record { unit = unit_no 1; mode = Alone } ∷ []) refl holds, (refl, ((refl, record { result = refl; asked = refl; reads = refl; writes = refl }), (λ h holds. lowest_later (unit_no 2) h (same_grain h account_1) (record { unit = unit_no 1; mode = Alone } ∷ []) [] (record { unit = unit_no 2; mode = Alone } ∷ []) refl holds, (tt, (tt, (tt, (tt, (tt, (tt, (tt, (tt, tt))))))))))))))))))

  pub batch_unit_rule : KeepsUnitRule (account_basis lines) core
  batch_unit_rule at e is = each_from_0 (DueAt lines core) batch_events at e batch_due is.there

batch_turns : Each (TurnAt 2 2 [] core) 0 batch_events
unfolding put put_grain unit next play_over
batch_turns = (record { whose = refl; made = tt }, (record { whose = refl; made = tt }, (record { whose = refl; made = tt }, (record { whose = refl; made = (_, _, refl) }, (record { whose = refl; made = tt }, (record { whose = refl; made = tt }, (record { whose = refl; made = tt }, (record { whose = refl; made = tt }, (record { whose = refl; made = tt }, (record { whose = refl; made = tt }, (record { whose = refl; made = refl }, (record { whose = refl; made = (true, refl) }, (record { whose = refl; made = refl }, (record { whose = refl; made = inl refl }, (record { whose = refl; made = refl }, (record { whose = refl; made = refl }, (record { whose = refl; made = refl }, (record { whose = refl; made = refl }, tt))))))))))))))))))

pub batch_turn_rule : KeepsTurnRule accounts true 2 2 [] core
batch_turn_rule at e is = each_from_0 (TurnAt 2 2 [] core) batch_events at e batch_turns is.there

-- ---- what it leaves

pub settled_is : (ends core).manager.settled ≡ both_entries
unfolding put put_grain
settled_is = refl

-- both lines have begun
pub begun_is : (ends core).units.lines ≡ 2
unfolding put put_grain
begun_is = refl

pub emitted_is : (ends core).manager.emitted ≡ 2
unfolding put put_grain
emitted_is = refl

pub records_are : AreRecordsOf (committed (ends core)) both_commits
unfolding put put_grain
records_are = (
  record { unit = refl; origin = refl; call = refl; answers = refl; result = refl; writes = refl },
  (record { unit = refl; origin = refl; call = refl; answers = refl; result = refl; writes = refl }, tt),
)

-- the one batch has both records
pub both_end : EndsABatch (ends core) (account_log []) (account_log both_commits)
unfolding put put_grain
both_end = record {
  batches = 1;
  more = both_commits;
  split = refl;
  records = (
    record { unit = refl; origin = refl; call = refl; answers = refl; result = refl; writes = refl },
    (record { unit = refl; origin = refl; call = refl; answers = refl; result = refl; writes = refl }, tt),
  );
}

none_before : length (kept_by (ends core) 0) ≡ 0
unfolding put put_grain
none_before = refl

two_kept : length (kept_by (ends core) (0 + 1)) ≡ 2
unfolding put put_grain
two_kept = refl

-- so a log doesn't end behind the first
pub one_ends_none : EndsABatch (ends core) (account_log []) (account_log (first_commit ∷ [])) → ⊥
one_ends_none is = not_between (ends core) (account_log []) (first_commit ∷ []) 0 is (omega (arith, none_before)) (omega (arith, two_kept))

-- ---- faults

pub no_doubt : RunHasDoubt core → ⊥
no_doubt doubt =
    let P : ℕ → CoreEvent → Type 0 = λ at e. (n : ℕ) → e ≡ event.Doubt n → ⊥ in
    let all : Each P 0 batch_events =
    ((λ n e. absurd (cc e)), ((λ n e. absurd (cc e)), ((λ n e. absurd (cc e)), ((λ n e. absurd (cc e)), ((λ n e. absurd (cc e)), ((λ n e. absurd (cc e)), ((λ n e. absurd (cc e)), ((λ n e. absurd (cc e)), ((λ n e. absurd (cc e)), ((λ n e. absurd (cc e)), ((λ n e. absurd (cc e)), ((λ n e. absurd (cc e)), ((λ n e. absurd (cc e)), ((λ n e. absurd (cc e)), ((λ n e. absurd (cc e)), ((λ n e. absurd (cc e)), ((λ n e. absurd (cc e)), ((λ n e. absurd (cc e)), tt)))))))))))))))))) in
    each_from_0 P batch_events doubt.at (event.Doubt doubt.number) all doubt.doubt.there doubt.number refl

all_apply : applied_in core ≡ batch_events
unfolding put put_grain
all_apply = refl

pub no_votes : (g : GrainId) → how_many (is_no g) core ≡ 0
no_votes g =
    ap (λ (events : List CoreEvent). count_by (is_no g) events) all_apply
    ∙ none_counted (is_no g) batch_events (refl, (refl, (refl, (refl, (refl, (refl, (refl, (refl, (refl, (refl, (refl, (none_of (same_grain account_1 g), (refl, (refl, (refl, (refl, (refl, (refl, tt))))))))))))))))))

one_vote : how_many (is_vote_of account_1) core ≡ 1
one_vote = ap (λ (events : List CoreEvent). count_by (is_vote_of account_1) events) all_apply

pub voted_on : (g : GrainId) → g ≡ account_1 → how_many (is_vote_of g) core ≡ 0 → ⊥
voted_on g same none = (let one : how_many (is_vote_of g) core ≡ 1 = subst (λ (x : GrainId). how_many (is_vote_of x) core ≡ 1) (sym same) one_vote in absurd (omega (arith, one, none)))

-- one sync of the opening at most, one of the vote, and two of the batch
pub four_most : (image : Image) → most_syncs_of image core ≡ opening_syncs image + 3
unfolding put put_grain
four_most image = refl

pub no_seals : how_many is_unsealed core ≡ 0
no_seals = ap (λ (events : List CoreEvent). count_by is_unsealed events) all_apply

-- one of the opening, one of the vote, and two of the batch
pub four_syncs : (image : Image) → syncs_of image core ≡ opening_syncs image + 3
unfolding put put_grain
four_syncs image = refl
