use Rattle.std.proofs.Common.{◌≡◌, ◌↔◌, Any, IsTrue, List, MatchOption, Option, Some, subst}
use Rattle.csdl_names.specs.declared.csdl_lists.raw.RawAssociation.{RawAssociation}
use Rattle.csdl_names.specs.declared.csdl_lists.raw.RawModel.{RawModel}
use Rattle.csdl_names.specs.declared.csdl_lists.raw.RawSetEnd.{RawSetEnd}
use Rattle.csdl_names.specs.csdl_lists.References.{names_in}
use Rattle.csdl_names.specs.Unresolved.{association_of}
use Rattle.csdl_associations.specs.csdl_association_sets.SetEnds.{HasOtherType}
use Rattle.csdl_associations.proofs.csdl_association_sets.set_ends.SetEnds.has_other_type.Goals as goal

pub returns : goal.returns
returns c =
    let model = c.args.self.now in
    let set = c.args.set.now in
    let association = c.in-Some.association.now in
    let answer = c.has_other_end.result in
    let Ends : List RawSetEnd → Type 0 = λ ends. IsTrue answer ↔ Any (HasOtherType (names_in model) model association) ends in
    let Found : Option RawAssociation → Type 0 = λ o. IsTrue answer ↔ MatchOption o ⊥ (λ a. Any (HasOtherType (names_in model) model a) set.ends) in
    let Here : RawModel → Type 0 = λ one. Some association ≡ association_of (names_in one) one set.association in
    subst Found (subst Here c.self.view_is c.in-Some.ensures) (subst Ends c.as_slice.ensures.items c.has_other_end.ensures)
