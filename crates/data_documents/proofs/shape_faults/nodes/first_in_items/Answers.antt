use Rattle.std.proofs.Common.{ℕ, List, Option, ◌+◌, refl, sym, subst}
use Rattle.std.proofs.lemmas.Option.{slice_get_read}
use Rattle.serde_json.specs.Data.{Data}
use Rattle.serde_json.specs.View.{view}
use Rattle.serde_json.specs.declared.value.Value.{Value}
use Rattle.json_form.specs.Nodes.{part_of}
use Rattle.groupings.specs.least_fault.Least.{IsLeast}
use Rattle.groupings.proofs.least_fault.Leasts.{AmongFirst, least_all, least_more}
use Rattle.data_documents.specs.declared.shape_faults.place.ShapeStep.{ShapeStep}
use Rattle.data_documents.specs.declared.shape_faults.place.ShapeStep.TheVariants.{Item}
use Rattle.data_documents.specs.shape_faults.Nodes.{Behind, InItems}
use Rattle.data_documents.specs.shape_faults.PlaceOrder.{place_cmp_total}
use Rattle.data_documents.specs.shape_faults.Places.{place_cmp}
use Rattle.data_documents.proofs.shape_faults.Leasts.{least_mapped}
use Rattle.data_documents.proofs.shape_faults.Walks.{in_array}
use Rattle.data_documents.proofs.shape_faults.nodes.first_in_items.Goals as goal

pub loop-place-preserved : goal.loop-place-preserved
loop-place-preserved g c =
    let items = c.items-item-items.result.now in
    let P : ℕ → Value → List ShapeStep → Type 0 = λ i item. Behind (Item i) (g.S.NodeSearch.wrong c.args.search.now (view item)) in
    let Q : Option (List ShapeStep) → Type 0 = λ found. IsLeast place_cmp (AmongFirst P items (c.loop-place.place + 1)) found in
    subst Q (sym c.earlier-found.ensures)
    (least_more place_cmp place_cmp_total P items c.loop-place.place c.item-item.result c.loop-place.found c.in_ok-first_in_item.field-0
    (slice_get_read items _ c.loop-place.place _ refl c.loop-place-test.true c.item-item.is)
    c.loop-place.invariant c.in_ok-first_in_item.ensures)

pub returns : goal.returns
returns g c =
    let items = c.items-item-items.result.now in
    let W = g.S.NodeSearch.wrong c.args.search.now in
    let P : ℕ → Value → List ShapeStep → Type 0 = λ i item. Behind (Item i) (W (view item)) in
    let Q : List Data → Type 0 = λ parts. IsLeast place_cmp (InItems W parts) c.loop-place.found in
    in_array W (part_of c.args.node) c.loop-place.found c.requires
    (subst Q c.items-item-items.ensures
    (least_mapped view (λ i part. Behind (Item i) (W part)) items c.loop-place.found
    (least_all place_cmp place_cmp_total P items c.loop-place.place c.loop-place.found c.loop-place-test.false c.loop-place.invariant)))
