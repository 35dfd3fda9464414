-- The text of query views: a line for each entity set, and then one for each joined association.
-- Source: this project's view documents.
use Rattle.std.specs.Prelude.{ℕ, Bool, List, [], ◌∷◌, ◌++◌, map, flat_map, zip, slice_get, unwrap_or, codes}
use Rattle.std.specs.List.{enumerate_from}
use Rattle.std.specs.Option.{option_map_or}
use Rattle.serde_json.specs.Data.{Data, string}
use Rattle.json_form.specs.Documents.{printed}
use Rattle.json_form.specs.Trees.{array_of, object_of}
use Rattle.entity_state.specs.StateTree.{name_of}
use Rattle.round_trip.specs.Words.{AssocId, PropId, EntityModel, EntitySet, Assoc, StoreModel, Column}
use Rattle.table_owners.specs.declared.places.LinkPlace.{LinkPlace}
use Rattle.table_owners.specs.declared.places.LinkPlace.TheVariants as place
use Rattle.cells.specs.declared.parts.Parts.{Parts}
use Rattle.cells.specs.Cells.{is_free_in}
use Rattle.region_states.specs.region_basis.BasisOf.{basis_of}
use Rattle.case_laws.specs.declared.region_cases.case.Case.{Case}
use Rattle.case_laws.specs.declared.region_cases.link_case.LinkCase.{LinkCase}
use Rattle.case_laws.specs.declared.region_cases.link_case.LinkCaseCell.{LinkCaseCell}
use Rattle.case_laws.specs.declared.region_cases.link_case.LinkCaseCell.TheVariants as cell
use Rattle.case_laws.specs.region_cases.Links.{link_case_of}
use Rattle.texts.specs.case_texts.CaseTree.{case_tree, free_tree, is_tree}
use Rattle.texts.specs.case_texts.Names.{assoc_name, columns_of, role_name, table_name}

-- a part of the key at an end
abbrev pub part_tree : EntityModel → AssocId → Bool → PropId → Data
part_tree model a first p = object_of ((codes "property", string (name_of model p)) ∷ (codes "role", string (role_name model a first)) ∷ [])

-- what a cell of a link's row holds: a value, a part of the key at the end of a role, or anything
abbrev pub end_tree : EntityModel → AssocId → LinkCaseCell → Data
end_tree model a (cell.Const value) = is_tree value
end_tree model a (cell.End first p) = part_tree model a first p
end_tree model a cell.Free = free_tree

-- a column's name and what its cell holds
abbrev pub end_member : EntityModel → AssocId → Column × LinkCaseCell → List ℕ × Data
end_member model a beside = (beside.0.name, end_tree model a beside.1)

-- the case of a joined association
abbrev pub joined_tree : EntityModel → StoreModel → LinkCase → Data
joined_tree model store case = object_of (
    (codes "columns", object_of (map (end_member model case.assoc) (zip (columns_of store case.table) case.cells)))
    ∷ (codes "links", string (assoc_name model case.assoc))
    ∷ (codes "table", string (table_name store case.table)) ∷ [])

module _ (parts : Parts) where
  -- a set and its cases
  abbrev pub set_tree : EntitySet × List Case → Data
  set_tree beside = object_of ((codes "cases", array_of (map (case_tree (basis_of parts)) beside.1)) ∷ (codes "set", string beside.0.name) ∷ [])

  -- the case of an association whose links are joined; none of another
  abbrev pub joined_by : AssocId → LinkPlace → List Data
  joined_by a (place.Joined number) =
      option_map_or (λ case. joined_tree parts.model.now parts.store.now case ∷ []) (link_case_of (is_free_in parts.cells.now) (basis_of parts) a) []
  joined_by a _ = []

  -- the same of a numbered association
  abbrev pub joined_at : ℕ × Assoc → List Data
  joined_at entry = joined_by (record { index = entry.0 }) (unwrap_or (slice_get parts.cells.now.places entry.0) place.Unmapped)

  -- the trees of the sets with the cases beside them, and then those of the joined associations, in the order of the model
  abbrev pub view_trees : List (List Case) → List Data
  view_trees cases = map set_tree (zip parts.model.now.sets cases) ++ flat_map joined_at (enumerate_from 0 parts.model.now.assocs)

  -- each as a line
  abbrev pub views_text : List (List Case) → List ℕ
  views_text cases = flat_map printed (view_trees cases)
