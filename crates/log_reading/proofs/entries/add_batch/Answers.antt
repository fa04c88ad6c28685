use Rattle.std.proofs.Common.{rules, ◌++◌, ℕ, refl, ap, ◌∙◌}
use Rattle.log_reading.specs.Sums.{named_of_records}
use Rattle.log_reading.proofs.EntriesAdded.{adds_batch}
use Rattle.log_reading.proofs.entries.add_batch.Goals as goal

pub returns-clause-added : goal.returns-clause-added
returns-clause-added c =
    adds_batch _ _ c.args.records.now (search rules) c.in_ok-next.ensures.next
    (c.in_ok-next.ensures.named ∙ ap (λ (n : ℕ). c.args.so_far.now.named ++ named_of_records n c.args.records.now) c.len-program.ensures) refl refl refl
