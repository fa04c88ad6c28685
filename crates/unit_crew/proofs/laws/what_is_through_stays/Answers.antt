use Rattle.unit_crew.proofs.FinishedUnits.{all-stay, through-ended, through-freed, through-stays}
use Rattle.unit_crew.proofs.laws.what_is_through_stays.Goals as goal

pub returns-clause-stays : goal.returns-clause-stays
returns-clause-stays c = through-stays

pub returns-clause-all_stay : goal.returns-clause-all_stay
returns-clause-all_stay c = all-stay

pub returns-clause-ended : goal.returns-clause-ended
returns-clause-ended c = through-ended

pub returns-clause-freed : goal.returns-clause-freed
returns-clause-freed c = through-freed
