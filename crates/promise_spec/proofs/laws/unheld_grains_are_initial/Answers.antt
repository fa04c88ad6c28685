use Rattle.promise_spec.specs.Blocks.{base_of}
use Rattle.promise_spec.proofs.Growing.{plain_entries, plain_base, unheld}
use Rattle.promise_spec.proofs.laws.unheld_grains_are_initial.Goals as goal

pub returns-clause-any : goal.returns-clause-any
returns-clause-any c = plain_entries

pub returns-clause-new : goal.returns-clause-new
returns-clause-new c = unheld

pub returns-clause-begins : goal.returns-clause-begins
returns-clause-begins c p b entries = plain_entries (base_of p b) entries (plain_base p b)
