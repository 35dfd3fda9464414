use Rattle.serde_json.specs.View.{view}
use Rattle.groupings.specs.least_fault.Least.{IsLeast}
use Rattle.groupings.proofs.least_fault.Leasts.{AmongFirst}
use Rattle.data_documents.specs.declared.shape_faults.place.ShapeStep.TheVariants.{Item}
use Rattle.data_documents.specs.shape_faults.Nodes.{Behind}
use Rattle.data_documents.specs.shape_faults.Places.{place_cmp}
use Rattle.data_documents.proofs.shape_faults.nodes.first_in_items.Given as goal

-- the first of what is wrong with the items that were passed
abbrev pub invariant-loop-place : goal.invariant-loop-place
invariant-loop-place g l =
    IsLeast place_cmp (AmongFirst (λ i item. Behind (Item i) (g.S.NodeSearch.wrong l.search (view item))) l.item-items l.place) l.found
