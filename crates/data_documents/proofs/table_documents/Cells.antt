-- The one place of a cell, and the tests by which it is told.
use Rattle.std.proofs.Common.{◌≡◌, List, [], Bool, true, false, not, Option, Some, None, refl}
use Rattle.std.specs.Bool.{IsTrue}
use Rattle.std.specs.Option.{is_none, is_some}
use Rattle.serde_json.specs.Data.{Data}
use Rattle.edm_types.specs.declared.store.Column.{Column}
use Rattle.groupings.specs.least_fault.Least.{IsLeast}
use Rattle.groupings.proofs.least_fault.Leasts.{least_same}
use Rattle.data_documents.specs.declared.shape_faults.place.ShapeStep.{ShapeStep}
use Rattle.data_documents.specs.shape_faults.Places.{place_cmp}
use Rattle.data_documents.specs.shape_faults.Values.{value_in}
use Rattle.data_documents.proofs.shape_faults.Leasts.{least_alone}
use Rattle.data_documents.specs.table_documents.Shapes.{IsCellFault}

-- where nothing but the node itself is wrong
pub here_alone : IsLeast place_cmp (λ place. place ≡ []) (Some [])
here_alone = least_alone (λ place. place ≡ []) [] refl (λ place is. is)

nothing : {X : Type 0} (value : Option X) → IsTrue (is_none value) → value ≡ None
nothing None is = refl
nothing (Some x) is = absurd cc

none_is : {X : Type 0} (value : Option X) → value ≡ None → IsTrue (is_none value)
none_is None is = refl
none_is (Some x) is = absurd cc

-- whether there is no value, as it was told
pub told_none : {X : Type 0} (value : Option X) (b : Bool) → is_some value ≡ not b → b ≡ is_none value
told_none None true told = refl
told_none (Some x) false told = refl
told_none None false told = absurd cc
told_none (Some x) true told = absurd cc

-- a cell is wrong where its member gives no value
pub cell_least : (column : Column) (d : Data) (found : Option (List ShapeStep))
    → IsLeast place_cmp (λ place. IsTrue (is_none (value_in column.kind d)) × (place ≡ [])) found
    → IsLeast place_cmp (IsCellFault (Some column) d) found
cell_least column d found is = least_same place_cmp (λ place. IsTrue (is_none (value_in column.kind d)) × (place ≡ [])) (IsCellFault (Some column) d) found
    (λ place wrong. (nothing (value_in column.kind d) wrong.0, wrong.1))
    (λ place wrong. (none_is (value_in column.kind d) wrong.0, wrong.1)) is
