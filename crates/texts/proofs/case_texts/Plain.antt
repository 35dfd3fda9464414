-- The trees of views have no float.
use Rattle.std.proofs.Common.{◌≡◌, ℕ, List, [], ◌∷◌, map, zip, false, refl}
use Rattle.std.specs.Prelude.{codes}
use Rattle.serde_json.specs.Data.{Data, no_members, put, string}
use Rattle.serde_json.specs.Written.{has_float}
use Rattle.json_form.specs.Trees.{array_of, object_of, value_tree}
use Rattle.json_form.proofs.Objects.{array_of-plain, members_have_float-put, put_all-plain, value_tree-plain}
use Rattle.entity_state.specs.StateTree.{full_name, name_of}
use Rattle.round_trip.specs.Words.{PropId, AssocId, Value, Null, EntityModel, EntitySet, StoreModel}
use Rattle.condition_logic.specs.declared.atoms.Atom.{Atom}
use Rattle.condition_logic.specs.declared.atoms.Atom.TheVariants as atom
use Rattle.cells.specs.declared.parts.Parts.{Parts}
use Rattle.region_states.specs.region_basis.BasisOf.{basis_of}
use Rattle.regions.specs.Basis.{Basis}
use Rattle.case_laws.specs.declared.region_cases.case.CaseCell.{CaseCell}
use Rattle.case_laws.specs.declared.region_cases.case.CaseCell.TheVariants as cell
use Rattle.case_laws.specs.declared.region_cases.case.CaseRow.{CaseRow}
use Rattle.case_laws.specs.declared.region_cases.case.Case.{Case}
use Rattle.case_laws.specs.declared.region_cases.link_case.LinkCase.{LinkCase}
use Rattle.case_laws.specs.declared.region_cases.link_case.LinkCaseCell.{LinkCaseCell}
use Rattle.case_laws.specs.declared.region_cases.link_case.LinkCaseCell.TheVariants as ends
use Rattle.texts.specs.case_texts.CaseTree.{atom_member, atom_tree, case_tree, cell_tree, column_member, is_tree, link_member, row_member, told_constants}
use Rattle.texts.specs.case_texts.Names.{assoc_name, columns_of, role_name, table_name}
use Rattle.texts.specs.case_texts.Views.{end_member, end_tree, joined_tree, set_tree}

-- objects of one, two, three and four members without floats
module _ (a : List ℕ) (one : Data) (is_one : has_float one ≡ false) where
  of_one : has_float (object_of ((a, one) ∷ [])) ≡ false
  of_one = members_have_float-put a one no_members is_one refl

  module _ (b : List ℕ) (two : Data) (is_two : has_float two ≡ false) where
    of_two : has_float (object_of ((a, one) ∷ (b, two) ∷ [])) ≡ false
    of_two = members_have_float-put b two (put a one no_members) is_two of_one

    module _ (c : List ℕ) (three : Data) (is_three : has_float three ≡ false) where
      pub of_three : has_float (object_of ((a, one) ∷ (b, two) ∷ (c, three) ∷ [])) ≡ false
      of_three = members_have_float-put c three (put b two (put a one no_members)) is_three of_two

      pub of_four : (d : List ℕ) (four : Data) → has_float four ≡ false → has_float (object_of ((a, one) ∷ (b, two) ∷ (c, three) ∷ (d, four) ∷ [])) ≡ false
      of_four d four is_four = members_have_float-put d four (put c three (put b two (put a one no_members))) is_four of_three

is_tree-plain : (value : Value) → has_float (is_tree value) ≡ false
is_tree-plain value = of_one (codes "is") (value_tree value) (value_tree-plain value)

cell_tree-plain : (model : EntityModel) (told : CaseCell) → has_float (cell_tree model told) ≡ false
cell_tree-plain model (cell.Const value) = is_tree-plain value
cell_tree-plain model (cell.Prop p) = of_one (codes "property") (string (name_of model p)) refl
cell_tree-plain model (cell.Partner a p) = of_two (codes "link") (string (assoc_name model a)) refl (codes "property") (string (name_of model p)) refl
cell_tree-plain model cell.Free = refl

row_member-plain : (model : EntityModel) (store : StoreModel) (row : CaseRow) → has_float (row_member model store row).1 ≡ false
row_member-plain model store row =
    put_all-plain no_members (column_member model) (zip (columns_of store row.table) row.cells) (λ beside. cell_tree-plain model beside.1) refl

module _ (basis : Basis) where
  atom_tree-plain : (p : PropId) (told : Atom) → has_float (atom_tree basis p told) ≡ false
  atom_tree-plain p atom.Null = is_tree-plain Null
  atom_tree-plain p (atom.Is value) = is_tree-plain value
  atom_tree-plain p atom.Other =
      of_one (codes "not") (array_of (map value_tree (told_constants basis p))) (array_of-plain value_tree (told_constants basis p) value_tree-plain)

  case_tree-plain : (case : Case) → has_float (case_tree basis case) ≡ false
  case_tree-plain case =
      of_four
      (codes "atoms") (object_of (map (atom_member basis) case.region.atoms))
      (put_all-plain no_members (atom_member basis) case.region.atoms (λ told. atom_tree-plain told.prop told.atom) refl)
      (codes "links") (object_of (map (link_member basis case.region.linked) (basis.hosts case.region.set)))
      (put_all-plain no_members (link_member basis case.region.linked) (basis.hosts case.region.set) (λ host. refl) refl)
      (codes "rows") (object_of (map (row_member basis.schema.model basis.schema.store) case.rows))
      (put_all-plain no_members (row_member basis.schema.model basis.schema.store) case.rows (row_member-plain basis.schema.model basis.schema.store) refl)
      (codes "type") (string (full_name basis.schema.model case.region.ty)) refl

pub set_tree-plain : (parts : Parts) (set : EntitySet) (cases : List Case) → has_float (set_tree parts (set, cases)) ≡ false
set_tree-plain parts set cases =
    of_two (codes "cases") (array_of (map (case_tree (basis_of parts)) cases)) (array_of-plain (case_tree (basis_of parts)) cases (case_tree-plain (basis_of parts)))
    (codes "set") (string set.name) refl

end_tree-plain : (model : EntityModel) (a : AssocId) (told : LinkCaseCell) → has_float (end_tree model a told) ≡ false
end_tree-plain model a (ends.Const value) = is_tree-plain value
end_tree-plain model a (ends.End first p) = of_two (codes "property") (string (name_of model p)) refl (codes "role") (string (role_name model a first)) refl
end_tree-plain model a ends.Free = refl

pub joined_tree-plain : (model : EntityModel) (store : StoreModel) (case : LinkCase) → has_float (joined_tree model store case) ≡ false
joined_tree-plain model store case =
    of_three
    (codes "columns") (object_of (map (end_member model case.assoc) (zip (columns_of store case.table) case.cells)))
    (put_all-plain no_members (end_member model case.assoc) (zip (columns_of store case.table) case.cells) (λ beside. end_tree-plain model case.assoc beside.1) refl)
    (codes "links") (string (assoc_name model case.assoc)) refl
    (codes "table") (string (table_name store case.table)) refl
