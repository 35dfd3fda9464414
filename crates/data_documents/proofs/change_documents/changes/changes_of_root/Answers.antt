use Rattle.std.proofs.Common.{◌≡◌, List, Option, All, sym, subst}
use Rattle.json_form.specs.Nodes.{part_of}
use Rattle.groupings.specs.least_fault.Least.{IsLeast}
use Rattle.entity_changes.specs.Changes.{IsChange}
use Rattle.data_documents.specs.declared.shape_faults.place.ShapeStep.{ShapeStep}
use Rattle.data_documents.specs.shape_faults.Places.{place_cmp}
use Rattle.data_documents.specs.change_documents.Changes.{changes_in}
use Rattle.data_documents.specs.change_documents.Shapes.{IsDocFault}
use Rattle.data_documents.proofs.change_documents.Fits.{changes_fit}
use Rattle.data_documents.proofs.entity_documents.Places.{none_found}
use Rattle.data_documents.proofs.change_documents.changes.changes_of_root.Goals as goal

pub returns-in-Some : goal.returns-in-Some
returns-in-Some c =
    let First : Option (List ShapeStep) → Type 0 = λ it. IsLeast place_cmp (IsDocFault c.args.names.now.model.now (part_of c.args.root)) it in
    record { place = c.in-Some.place; first = subst First c.in-Some.is c.in_ok-place.ensures; told = c.in_ok-pointer.ensures }

pub returns : goal.returns
returns c =
    let model = c.args.names.now.model.now in
    let d = part_of c.args.root in
    let none : (place : List ShapeStep) → ¬ IsDocFault model d place = none_found (IsDocFault model d) c.in_ok-place.field-0 c.in_default.not-Some c.in_ok-place.ensures in
    let is : c.in_ok-changes.changes ≡ changes_in model d = c.in_ok-changes.ensures in
    record { shape = none; meant = record { is = is; fit = subst (All (IsChange model)) (sym is) (changes_fit model d none) } }
