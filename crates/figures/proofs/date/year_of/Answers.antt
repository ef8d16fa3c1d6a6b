-- The parts of a day number give its year.
use Rattle.figures.proofs.Calendar.{in_year}
use Rattle.figures.proofs.date.year_of.Goals as goal

pub returns-clause-in_year : goal.returns-clause-in_year
returns-clause-in_year c = in_year _ _ _ c.up_to_3-centuries.ensures.1 c.up_to_3-years.ensures.1
