-- The case of a region as a JSON tree.
-- Source: this project's view documents.
use Rattle.std.specs.Prelude.{ℕ, List, [], ◌∷◌, map, filter, zip, slice_get, codes, true}
use Rattle.std.specs.Option.{option_map_or}
use Rattle.serde_json.specs.Data.{Data, boolean, string}
use Rattle.json_form.specs.Trees.{array_of, object_of, value_tree}
use Rattle.entity_state.specs.StateTree.{full_name, name_of}
use Rattle.round_trip.specs.Words.{PropId, AssocId, Value, Null, EntityModel, StoreModel, Column}
use Rattle.round_trip.specs.soundness.mappings.Joined.{prop}
use Rattle.condition_logic.specs.declared.atoms.Atom.{Atom}
use Rattle.condition_logic.specs.declared.atoms.Atom.TheVariants as atom
use Rattle.condition_logic.specs.declared.atoms.AtomOf.{AtomOf}
use Rattle.regions.specs.Basis.{Basis, Host}
use Rattle.regions.specs.Symbols.{is_linked}
use Rattle.case_laws.specs.declared.region_cases.case.CaseCell.{CaseCell}
use Rattle.case_laws.specs.declared.region_cases.case.CaseCell.TheVariants as cell
use Rattle.case_laws.specs.declared.region_cases.case.CaseRow.{CaseRow}
use Rattle.case_laws.specs.declared.region_cases.case.Case.{Case}
use Rattle.texts.specs.case_texts.Names.{assoc_name, columns_of, table_name}

-- one value alone
abbrev pub is_tree : Value → Data
is_tree value = object_of ((codes "is", value_tree value) ∷ [])

-- anything
abbrev pub free_tree : Data
free_tree = object_of ((codes "free", boolean true) ∷ [])

-- what a cell holds: a value, a property, a part of the key of a link's partner, or anything
abbrev pub cell_tree : EntityModel → CaseCell → Data
cell_tree model (cell.Const value) = is_tree value
cell_tree model (cell.Prop p) = object_of ((codes "property", string (name_of model p)) ∷ [])
cell_tree model (cell.Partner a p) = object_of ((codes "link", string (assoc_name model a)) ∷ (codes "property", string (name_of model p)) ∷ [])
cell_tree model cell.Free = free_tree

-- a column's name and what its cell holds
abbrev pub column_member : EntityModel → Column × CaseCell → List ℕ × Data
column_member model beside = (beside.0.name, cell_tree model beside.1)

-- a table's name and its row: a member for each column with the cell beside it
abbrev pub row_member : EntityModel → StoreModel → CaseRow → List ℕ × Data
row_member model store row = (table_name store row.table, object_of (map (column_member model) (zip (columns_of store row.table) row.cells)))

module _ (basis : Basis) where
  -- the constants of a property's group that are in the property's domain, in their order
  abbrev pub told_constants : PropId → List Value
  told_constants p = option_map_or (λ declared. filter (λ value. basis.fits value declared.kind) (basis.constants (prop p))) (slice_get basis.schema.model.props p.index) []

  -- what is known of the value of a property: null, one value, or neither null nor one of these constants
  abbrev pub atom_tree : PropId → Atom → Data
  atom_tree p atom.Null = is_tree Null
  atom_tree p (atom.Is value) = is_tree value
  atom_tree p atom.Other = object_of ((codes "not", array_of (map value_tree (told_constants p))) ∷ [])

  -- a tested property's name and what is known of its value
  abbrev pub atom_member : AtomOf → List ℕ × Data
  atom_member told = (name_of basis.schema.model told.prop, atom_tree told.prop told.atom)

  -- the name of an association set that is hosted at the set, and whether a link of it is there
  abbrev pub link_member : List AssocId → Host → List ℕ × Data
  link_member linked host = (assoc_name basis.schema.model host.assoc, boolean (is_linked basis linked host.assoc))

  -- the case of a region: what is known of its tested properties, which links are there, the rows by their tables, and the type
  abbrev pub case_tree : Case → Data
  case_tree case = object_of (
      (codes "atoms", object_of (map atom_member case.region.atoms))
      ∷ (codes "links", object_of (map (link_member case.region.linked) (basis.hosts case.region.set)))
      ∷ (codes "rows", object_of (map (row_member basis.schema.model basis.schema.store) case.rows))
      ∷ (codes "type", string (full_name basis.schema.model case.region.ty)) ∷ [])
