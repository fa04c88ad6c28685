use Rattle.host_trait.proofs.Runs.{asked_then}
use Rattle.program_file.proofs.text.read_text.Goals as goal

pub returns-in_err-size-clause-asked : goal.returns-in_err-size-clause-asked
returns-in_err-size-clause-asked g c told = asked_then _ _ _ (c.read_length.ensures.asked told) (c.read_size.ensures.asked told)

pub returns-in-Err-clause-asked : goal.returns-in-Err-clause-asked
returns-in-Err-clause-asked g c told = asked_then _ _ _ (c.read_length.ensures.asked told) (c.read_size.ensures.asked told)

pub returns-in_err-text-clause-asked : goal.returns-in_err-text-clause-asked
returns-in_err-text-clause-asked g c told = asked_then _ _ _ (c.read_length.ensures.asked told) (c.read_size.ensures.asked told)

pub returns-in_err-read_full-clause-asked : goal.returns-in_err-read_full-clause-asked
returns-in_err-read_full-clause-asked g c told = asked_then _ _ _ (asked_then _ _ _ (c.read_length.ensures.asked told) (c.read_size.ensures.asked told)) (c.read_full.ensures.asked told)

pub returns-clause-asked : goal.returns-clause-asked
returns-clause-asked g c told = asked_then _ _ _ (asked_then _ _ _ (c.read_length.ensures.asked told) (c.read_size.ensures.asked told)) (c.read_full.ensures.asked told)
