use Rattle.std.proofs.Common.{List, ◌↔◌, IsTrue, subst}
use Rattle.condition_logic.specs.declared.atoms.AtomOf.{AtomOf}
use Rattle.condition_logic.specs.Holds.{Holds}
use Rattle.condition_logic.specs.Subjects.{of_atoms}
use Rattle.condition_logic.proofs.Parts.{iff_trans}
use Rattle.condition_logic.proofs.Told.{holds_told}
use Rattle.condition_logic.proofs.holding.holds_atoms.Goals as goal

pub returns : goal.returns
returns c = λ entity in_atoms.
    let model = c.args.model.now in
    let P : List AtomOf → Type 0 = λ atoms. IsTrue c.holds.result ↔ Holds (of_atoms model c.args.ty atoms) c.args.expr.now in
    iff_trans (subst P c.as_slice.ensures.items c.holds.ensures) (holds_told model c.args.expr.now c.args.ty c.args.atoms.now c.requires.told entity in_atoms)
