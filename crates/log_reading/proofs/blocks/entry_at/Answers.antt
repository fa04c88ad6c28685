use Rattle.std.proofs.Common.{refl, ◌∙◌, arith, []}
use Rattle.field_codec.specs.Fields.{session_of}
use Rattle.script_tree.specs.Programs.{program_tree}
use Rattle.log_reading.specs.Entries.{entry_said}
use Rattle.log_reading.proofs.EntriesRead.{said_in, by_types}
use Rattle.log_reading.proofs.RecordSums.{few_entries}
use Rattle.log_reading.proofs.blocks.entry_at.Goals as goal

pub returns-in-Ok-clause-found : goal.returns-in-Ok-clause-found
returns-in-Ok-clause-found c = by_types c.args.format (program_tree c.args.program.now) c.args.shape.now c.args.session c.args.body.now c.requires.shape ∙ c.in-Ok.ensures.said

pub returns-in-Ok-clause-fit : goal.returns-in-Ok-clause-fit
returns-in-Ok-clause-fit c p is =
    (said_in c.args.format (program_tree c.args.program.now) c.args.shape.now p c.args.session c.args.body.now (entry_said c.in-Ok.found.1) is c.requires.shape (λ i. omega (arith, c.type_inv.body i)) c.in-Ok.ensures.said).1

pub returns-in-Ok-clause-few : goal.returns-in-Ok-clause-few
returns-in-Ok-clause-few c =
    few_entries c.args.format (session_of c.args.format c.args.body.now) (entry_said c.in-Ok.found.1) c.args.body.now
    (said_in c.args.format (program_tree c.args.program.now) c.args.shape.now (record { text = []; types = program_tree c.args.program.now }) c.args.session c.args.body.now (entry_said c.in-Ok.found.1) refl c.requires.shape (λ i. omega (arith, c.type_inv.body i)) c.in-Ok.ensures.said).0
