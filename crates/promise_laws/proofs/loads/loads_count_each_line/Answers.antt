use Rattle.promise_laws.proofs.CountedLines.{load_counted}
use Rattle.promise_laws.proofs.loads.loads_count_each_line.Goals as goal

pub returns : goal.returns
returns c p n seed r course keeps ends = load_counted p n seed r course keeps ends
