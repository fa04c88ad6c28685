use Rattle.run_books.proofs.TurnImages.{lasts}
use Rattle.run_books.proofs.ShownRecord.{explains, settled}
use Rattle.run_books.proofs.laws.records_show.Goals as goal

pub returns-clause-explains : goal.returns-clause-explains
returns-clause-explains c = λ tells o b r settler seen course k loads e turns unvoted. explains tells o b r settler seen course k.kept loads e turns k.course unvoted

pub returns-clause-settled : goal.returns-clause-settled
returns-clause-settled c = λ tells o b r settler seen course loud k e. settled tells o b r settler seen course loud k.kept e k.course

pub returns-clause-lasts : goal.returns-clause-lasts
returns-clause-lasts c = λ tells o head b r settler seen course t k l heads behind opens stay. lasts tells o head b r settler seen course t k.kept l k.course heads behind opens stay
