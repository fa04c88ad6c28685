use Rattle.promise_examples.proofs.WrittenUnbegun.{no_records, unbegun_shows, unbegun_keeps, unbegun_promises, is_hosted}
use Rattle.promise_examples.proofs.examples.an_unbegun_doubt_is_written_out.Goals as goal

pub returns-clause-none : goal.returns-clause-none
returns-clause-none c = no_records

pub returns-clause-shown : goal.returns-clause-shown
returns-clause-shown c = unbegun_shows

pub returns-clause-kept : goal.returns-clause-kept
returns-clause-kept c = unbegun_keeps

pub returns-clause-promised : goal.returns-clause-promised
returns-clause-promised c = unbegun_promises

pub returns-clause-hosted : goal.returns-clause-hosted
returns-clause-hosted c = is_hosted
