use Rattle.run_books.proofs.MoreLines.{begun-lines, lasts-more, record-more, rule-more}
use Rattle.run_books.proofs.more_lines.records_go_on_over_more_lines.Goals as goal

pub returns-clause-record_kept : goal.returns-clause-record_kept
returns-clause-record_kept c = λ tells o more b s kept. record-more o more tells b s kept

pub returns-clause-lasts : goal.returns-clause-lasts
returns-clause-lasts c = λ o more head b r writer now was. lasts-more o more head b r writer now was

pub returns-clause-turns : goal.returns-clause-turns
returns-clause-turns c = λ o more r units seam turns. rule-more o more r units seam turns

pub returns-clause-begun : goal.returns-clause-begun
returns-clause-begun c = λ o r units. begun-lines o r units
