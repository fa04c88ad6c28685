use Rattle.promise_examples.proofs.WrittenRefusal.{reads, refused_promises, is_hosted}
use Rattle.promise_examples.proofs.examples.a_refusal_is_written_out.Goals as goal

pub returns-clause-reads : goal.returns-clause-reads
returns-clause-reads c = reads

pub returns-clause-promised : goal.returns-clause-promised
returns-clause-promised c = refused_promises

pub returns-clause-hosted : goal.returns-clause-hosted
returns-clause-hosted c = is_hosted
