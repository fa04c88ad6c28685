use Rattle.field_codec.specs.declared.formats.Format.TheVariants.{Two}
use Rattle.promise_spec.specs.Entries.{grown}
use Rattle.promise_spec.specs.Blocks.{Records, body_of}
use Rattle.std.proofs.Common.{◌++◌, ◌∷◌, []}
use Rattle.batch_disk.proofs.WriterState.{keeps_log}
use Rattle.batch_disk.proofs.Journal.{seals_on, doubt_on}
use Rattle.batch_disk.proofs.laws.batches_go_on_the_journal.Goals as goal

pub returns-clause-seals : goal.returns-clause-seals
returns-clause-seals c live shape head log bodies effects made next before after old new s quiet settled is =
    seals_on live head log old new quiet s.batch settled is s.moments (keeps_log live shape head (grown log s.batch) (bodies ++ body_of Two (Records before.session s.batch) ∷ []) after new.disk s.stands)

pub returns-clause-doubts : goal.returns-clause-doubts
returns-clause-doubts c live shape head log bodies effects made before after old new s quiet settled is = doubt_on live head log old new quiet s.batch settled is s.moments s.stands.logs s.stands.which
