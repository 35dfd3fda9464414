use Rattle.std.proofs.Common.{◌↔◌, IsTrue, sym, subst}
use Rattle.condition_logic.specs.declared.asking.Subject.{Subject}
use Rattle.condition_logic.specs.Subjects.{of_subject}
use Rattle.condition_logic.proofs.asking.Subject.is_of.Goals as goal

pub returns-in-Entity : goal.returns-in-Entity
returns-in-Entity c = let P : Subject → Type 0 = λ s. IsTrue c.is_of.result ↔ (of_subject s).is_of c.args.t in subst P (sym c.in-Entity.is) c.is_of.ensures

pub returns-in-Atoms : goal.returns-in-Atoms
returns-in-Atoms c = let P : Subject → Type 0 = λ s. IsTrue c.is_of-in-Atoms.result ↔ (of_subject s).is_of c.args.t in subst P (sym c.in-Atoms.is) c.is_of-in-Atoms.ensures
