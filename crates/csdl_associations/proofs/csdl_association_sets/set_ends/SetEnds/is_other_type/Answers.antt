use Rattle.std.proofs.Common.{◌↔◌, ℕ, IsTrue, Option, not, subst, sym, ◌∙◌}
use Rattle.graphs.specs.base_chains.Chains.{IsUpFrom}
use Rattle.csdl_names.specs.declared.csdl_lists.raw.RawModel.{RawModel}
use Rattle.csdl_names.specs.csdl_lists.References.{names_in}
use Rattle.csdl_associations.specs.csdl_association_sets.SetEnds.{HasOtherType}
use Rattle.csdl_associations.proofs.csdl_association_sets.KnownConstraints.{other_type}
use Rattle.csdl_associations.proofs.csdl_association_sets.set_ends.SetEnds.is_other_type.Goals as goal

pub returns : goal.returns
returns c =
    let model = c.self.inside.lookups.now.model.now in
    let association = c.args.association.now in
    let end = c.args.end.now in
    let Up : (ℕ → Option ℕ) → Type 0 = λ base. IsTrue c.is_up_from.result ↔ IsUpFrom base c.in-Some.ty c.in-Some-element_at.element in
    let Told : RawModel → Type 0 = λ one. IsTrue (not c.is_up_from.result) ↔ HasOtherType (names_in one) one association end in
    subst Told c.self.view_is (other_type model association end c.in-Some.ty c.in-Some-element_at.element c.is_up_from.result
    (sym c.type_of_role.ensures ∙ c.in-Some.is) (sym c.element_at.ensures ∙ c.in-Some-element_at.is) (subst Up c.self.invariant.based c.is_up_from.ensures))
