use Rattle.std.proofs.Common.{◌≢◌, List, Option, Some, None, refl, ap, subst, ◌∙◌}
use Rattle.edm_types.specs.declared.store.StoreModel.{StoreModel}
use Rattle.json_form.specs.Documents.{tree_of}
use Rattle.serde_json.specs.Data.{Data}
use Rattle.groupings.specs.least_fault.Least.{IsLeast}
use Rattle.data_documents.specs.declared.shape_faults.place.ShapeStep.{ShapeStep}
use Rattle.data_documents.specs.shape_faults.Places.{place_cmp}
use Rattle.data_documents.specs.table_documents.Shapes.{IsDocFault}
use Rattle.data_documents.specs.table_documents.Tables.{tables_in}
use Rattle.data_documents.proofs.table_documents.tables.tables_of_doc.Goals as goal

-- where no place was found, there is none
none_least : (store : StoreModel) (d : Data) (found : Option (List ShapeStep)) → ((place : List ShapeStep) → found ≢ Some place)
    → IsLeast place_cmp (IsDocFault store d) found → IsLeast place_cmp (IsDocFault store d) None
none_least store d None not is = is
none_least store d (Some place) not is = absurd (not place refl)

pub returns : goal.returns
returns c =
    let P : Data → Type 0 = λ d. IsLeast place_cmp (IsDocFault c.args.store.now d) c.in_ok-place.field-0 in
    record {
      shape = none_least c.args.store.now (tree_of c.args.doc.now) c.in_ok-place.field-0 c.in_default.not-Some (subst P c.root-root.ensures c.in_ok-place.ensures);
      tables_are = c.in_ok-tables.ensures.tables ∙ ap (tables_in c.args.store.now) c.root-root.ensures;
      fit = c.in_ok-tables.ensures.fit;
    }
