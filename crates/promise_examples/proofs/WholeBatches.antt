-- Logs of whole batches.
use Rattle.promise_spec.proofs.Standings.{grown_none, grown_records}
use Rattle.promise_spec.specs.Entries.{Log, grown, records_of}
use Rattle.std.proofs.Common.{◌≡◌, ℕ, zero, suc, ◌+◌, ◌<◌, ◌≤◌, Bool, true, false, List, [], ◌∷◌, length, filter, take, nat_le, refl, sym, ap, subst, arith, ◌∙◌}
use Rattle.std.proofs.lemmas.Bool.{leb-true, leb-false}
use Rattle.std.specs.List.{sum_by}
use Rattle.std.proofs.lemmas.List.{append_cancel_left, length-map, take-take}
use Rattle.std.proofs.lemmas.List.Sums.{sum_by-take-le}
use Rattle.core_model.specs.declared.effects.Effect.{Effect}
use Rattle.core_model.specs.Answers.{effect_of}
use Rattle.core_model.specs.Tests.{is_good}
use Rattle.core_model.specs.CoreState.{UnitNo, Batch, CoreState}
use Rattle.promise_spec.specs.Records.{Commit, AreRecordsOf}
use Rattle.promise_spec.specs.Batches.{EndsABatch, units_in, kept_by}

-- the opening log has no batch behind it
pub no_batch : (w : CoreState) (opening : Log) → EndsABatch w opening opening
no_batch w opening = record { batches = 0; more = []; split = sym (grown_none opening); records = tt }

-- a longer first part of a list passes no fewer
more_pass : {A : Type 0} (test : A → Bool) (xs : List A) (a b : ℕ) → a ≤ b → length (filter test (take a xs)) ≤ length (filter test (take b xs))
more_pass test xs zero b low = omega arith
more_pass test xs (suc a) zero low = absurd (omega (arith, low))
more_pass test [] (suc a) (suc b) low = omega arith
more_pass test (x ∷ xs) (suc a) (suc b) low =
    let more : length (filter test (take a xs)) ≤ length (filter test (take b xs)) = more_pass test xs a b (omega (arith, low)) in
    by_test (test x) refl more where
      by_test : (t : Bool) → test x ≡ t → length (filter test (take a xs)) ≤ length (filter test (take b xs)) → length (filter test (x ∷ take a xs)) ≤ length (filter test (x ∷ take b xs))
      by_test true is more = rw is (omega (arith, more))
      by_test false is more = rw is more

-- nor sums to less
more_sum : {A : Type 0} (size : A → ℕ) (xs : List A) (a b : ℕ) → a ≤ b → sum_by size (take a xs) ≤ sum_by size (take b xs)
more_sum {A} size xs a b low = subst (λ (l : List A). sum_by size l ≤ sum_by size (take b xs)) (take-take a b xs low) (sum_by-take-le size (take b xs) a)

-- more batches have no fewer units to commit
pub more_kept : (w : CoreState) (a b : ℕ) → a ≤ b → length (kept_by w a) ≤ length (kept_by w b)
more_kept w a b low =
    let test : UnitNo → Bool = λ u. is_good (w.manager.verdict u) in
    let units : units_in w a ≤ units_in w b = more_sum (λ (x : Batch). x.size) w.manager.past a b low in
    let passed : length (filter test (take (units_in w a) w.manager.order)) ≤ length (filter test (take (units_in w b) w.manager.order)) = more_pass test w.manager.order (units_in w a) (units_in w b) units in
    let one : length (kept_by w a) ≡ length (filter test (take (units_in w a) w.manager.order)) = length-map (filter test (take (units_in w a) w.manager.order)) (effect_of w) in
    let other : length (kept_by w b) ≡ length (filter test (take (units_in w b) w.manager.order)) = length-map (filter test (take (units_in w b) w.manager.order)) (effect_of w) in
    omega (arith, passed, one, other)

-- there are as many records as effects
same_length : (effects : List Effect) (log : List Commit) → AreRecordsOf effects log → length log ≡ length effects
same_length [] [] are = refl
same_length [] (l ∷ log) are = absurd are
same_length (e ∷ effects) [] are = absurd are
same_length (e ∷ effects) (l ∷ log) are = ap suc (same_length effects log are.1)

-- a log grows to the same log by the same records alone
same_added : (log : Log) (more other : List Commit) → grown log more ≡ grown log other → more ≡ other
same_added log more other same =
    append_cancel_left (records_of log) more other (sym (grown_records log more) ∙ ap (λ (l : Log). records_of l) same ∙ grown_records log other)

-- a log of whole batches doesn't end between two
pub not_between : (w : CoreState) (opening : Log) (more : List Commit) (n : ℕ) → EndsABatch w opening (grown opening more) → length (kept_by w n) < length more → length more < length (kept_by w (n + 1)) → ⊥
not_between w opening more n ends above below =
    let same : more ≡ ends.more = same_added opening more ends.more ends.split in
    let long : length more ≡ length ends.more = ap (λ (l : List Commit). length l) same in
    let count : length ends.more ≡ length (kept_by w ends.batches) = same_length (kept_by w ends.batches) ends.more ends.records in
    by_order (nat_le (n + 1) ends.batches) refl long count where
      by_order : (b : Bool) → nat_le (n + 1) ends.batches ≡ b → length more ≡ length ends.more → length ends.more ≡ length (kept_by w ends.batches) → ⊥
      by_order true is long count =
          let later : length (kept_by w (n + 1)) ≤ length (kept_by w ends.batches) = more_kept w (n + 1) ends.batches (leb-true (n + 1) ends.batches is) in
          omega (arith, later, long, count, above, below)
      by_order false is long count =
          let earlier : length (kept_by w ends.batches) ≤ length (kept_by w n) = more_kept w ends.batches n (let few : ends.batches < n + 1 = leb-false (n + 1) ends.batches is in omega (arith, few)) in
          omega (arith, earlier, long, count, above, below)
