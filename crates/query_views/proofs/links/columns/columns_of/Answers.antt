use Rattle.std.proofs.Common.{◌++◌, List, All, Contains, sym, ap, subst, ◌∙◌}
use Rattle.std.specs.List.{AllZip}
use Rattle.round_trip.specs.Words.{ColId, Pair, PropId, key_props}
use Rattle.schema_laws.specs.state_demand.Owners.{props_in}
use Rattle.query_views.specs.LinkKeys.{IsPairedWith}
use Rattle.query_views.proofs.links.columns.columns_of.Goals as goal

-- what is so of the pairs and properties is so of lists that are these
abbrev HasAll : List Pair → List PropId → Type 0
HasAll pairs props = All (Contains (props_in pairs)) props

pub add_columns-requires : goal.add_columns-requires
add_columns-requires c =
    subst (λ pairs. HasAll pairs c.key_props.result.now) (sym c.as_slice.ensures.items) (subst (HasAll c.args.fragment.now.first) (sym c.key_props.ensures) c.requires.first)

pub add_columns-requires-2 : goal.add_columns-requires-2
add_columns-requires-2 c =
    subst (λ pairs. HasAll pairs c.key_props-2.result.now) (sym c.as_slice-2.ensures.items) (subst (HasAll c.args.fragment.now.second) (sym c.key_props-2.ensures) c.requires.second)

pub returns : goal.returns
returns c =
    let Paired : List Pair → List PropId → List ColId → Type 0 = λ pairs props cols. AllZip (IsPairedWith pairs) props cols in
    let first = c.in_ok-add_columns.ensures in
    let second = c.in_ok-add_columns-2.ensures in record {
      first = first.0;
      second = second.0;
      are = second.2 ∙ ap (λ list. list ++ second.0) (first.2 ∙ ap (λ list. list ++ first.0) c.new-columns.ensures.items);
      of_first = subst (λ pairs. Paired pairs (key_props c.args.model.now c.args.assoc.now.first.ty) first.0) c.as_slice.ensures.items (subst (λ props. Paired c.as_slice.result.now props first.0) c.key_props.ensures first.1);
      of_second = subst (λ pairs. Paired pairs (key_props c.args.model.now c.args.assoc.now.second.ty) second.0) c.as_slice-2.ensures.items (subst (λ props. Paired c.as_slice-2.result.now props second.0) c.key_props-2.ensures second.1);
    }
