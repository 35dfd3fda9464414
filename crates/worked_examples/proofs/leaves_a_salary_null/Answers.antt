use Rattle.worked_examples.proofs.staff.Salary.{salary_is_left_null}
use Rattle.worked_examples.proofs.leaves_a_salary_null.Goals as goal

pub returns : goal.returns
returns c = record { fails = salary_is_left_null }
