-- Where a fragment agrees with the tables: entity by entity or link by link, and row by row.
use Rattle.std.proofs.Common.{◌≡◌, List, [], ◌++◌, sym, ap, subst, ◌∙◌}
use Rattle.std.specs.Prelude.{All, map}
use Rattle.std.specs.List.{AllByRecursion}
use Rattle.std.proofs.lemmas.List.Elements.{All-nil, All-from_recursion}
use Rattle.round_trip.specs.Words.{Value, Assoc, Fragment, LinkFragment, Cond, Schema, Entity, Link, Row, At, State, entities_in, links_in, Tables, rows_in, cells_of, MetByRow, Selects, Shows, ShowsLink, entity_cells, link_cells, IsWrittenTuple, IsShownTuple, IsWrittenLinkTuple, IsShownLinkTuple, AreSameTuples, Satisfies}
use Rattle.worked_examples.proofs.facts.Small.{each_of}

-- a row meets no conditions
pub meets_none : (row : Row) → All (λ (cond : Cond). MetByRow row cond.on cond.test) []
meets_none row = All-nil (λ cond. MetByRow row cond.on cond.test)

module _ (schema : Schema) (state : State) (tables : Tables) where
  abbrev pub Agrees : Fragment → Type 0
  Agrees fragment = AreSameTuples (IsWrittenTuple schema state fragment) (IsShownTuple tables fragment)

  abbrev pub LinksAgree : LinkFragment → Type 0
  LinksAgree fragment = AreSameTuples (IsWrittenLinkTuple schema state fragment) (IsShownLinkTuple tables fragment)

  pub satisfied_by_parts : AllByRecursion Agrees schema.mapping.fragments → AllByRecursion LinksAgree schema.mapping.links → Satisfies schema state tables
  satisfied_by_parts fragments links = record {
    fragments = All-from_recursion Agrees schema.mapping.fragments fragments;
    links = All-from_recursion LinksAgree schema.mapping.links links;
  }

  module _ (fragment : Fragment) where
    -- a row shows what the entity writes, if it is selected
    abbrev pub IsEntityShown : Entity → Type 0
    IsEntityShown entity = Selects schema.model fragment entity → IsShownTuple tables fragment (map (λ cell. cell.1) (entity_cells schema.model fragment entity))

    -- an entity writes what the row holds, if it is shown
    abbrev pub IsRowWritten : Row → Type 0
    IsRowWritten row = Shows fragment row → IsWrittenTuple schema state fragment (cells_of row (map (λ pair. pair.col) fragment.pairs))

    pub agrees : AllByRecursion IsEntityShown (entities_in state fragment.set) → AllByRecursion IsRowWritten (rows_in tables fragment.table) → Agrees fragment
    agrees shown written = record {
      shown = λ tuple by. subst (IsShownTuple tables fragment) (sym by.3) (each_of IsEntityShown (entities_in state fragment.set) by.0 shown by.1 by.2);
      written = λ tuple by. subst (IsWrittenTuple schema state fragment) (sym by.3) (each_of IsRowWritten (rows_in tables fragment.table) by.0 written by.1 by.2);
    }

  module _ (fragment : LinkFragment) (assoc : Assoc) (is : At schema.model.assocs fragment.assoc.index assoc) where
    -- what the link writes
    abbrev pub link_tuple : Link → List Value
    link_tuple link = map (λ cell. cell.1) (link_cells schema.model assoc fragment link)

    -- a row shows what the link writes
    abbrev pub IsLinkShown : Link → Type 0
    IsLinkShown link = IsShownLinkTuple tables fragment (link_tuple link)

    -- a link writes what the row holds, if it is shown
    abbrev pub IsRowLinked : Row → Type 0
    IsRowLinked row = ShowsLink fragment row → IsWrittenLinkTuple schema state fragment (cells_of row (map (λ pair. pair.col) (fragment.first ++ fragment.second)))

    tuple_is : (tuple : List Value) (by : IsWrittenLinkTuple schema state fragment tuple) → tuple ≡ link_tuple by.1
    tuple_is tuple by =
        let same : by.0 ≡ assoc = cc (by.2, is) in
        by.4 ∙ ap (λ a. map (λ cell. cell.1) (link_cells schema.model a fragment by.1)) same

    pub links_agree : AllByRecursion IsLinkShown (links_in state fragment.assoc) → AllByRecursion IsRowLinked (rows_in tables fragment.table) → LinksAgree fragment
    links_agree shown written = record {
      shown = λ tuple by. subst (IsShownLinkTuple tables fragment) (sym (tuple_is tuple by)) (each_of IsLinkShown (links_in state fragment.assoc) by.1 shown by.3);
      written = λ tuple by. subst (IsWrittenLinkTuple schema state fragment) (sym by.3) (each_of IsRowLinked (rows_in tables fragment.table) by.0 written by.1 by.2);
    }
