use Rattle.std.proofs.Common.{◌≡◌, ◌<◌, List, length, map, All, Contains, sym, ap, subst, ◌∙◌}
use Rattle.std.proofs.lemmas.Option.{slice_get_within}
use Rattle.std.proofs.lemmas.Result.{IfOk-weaker}
use Rattle.emc_base.proofs.Lists.{at_once}
use Rattle.cells.specs.Parts.{schema_in}
use Rattle.round_trip.specs.Words.{ColId, LinkFragment, Row, Schema, cells_of, key_props, rows_in}
use Rattle.schema_laws.specs.state_demand.Owners.{props_in}
use Rattle.query_views.specs.LinkKeys.{AreKeyColumns, ShowJoinedKeys, shown_keys}
use Rattle.query_views.proofs.links.JoinedRows.{rows_hold, table_within}
use Rattle.query_views.proofs.links.joined.joined_keys.Goals as goal

pub at-fragment-requires : goal.at-fragment-requires
at-fragment-requires c = slice_get_within c.args.parts.now.mapping.now.links c.args.number.index c.requires.joined.fragment c.requires.joined.is_fragment

pub columns_of-requires-clause-first : goal.columns_of-requires-clause-first
columns_of-requires-clause-first c =
    let joined = c.requires.joined in
    let same : joined.fragment ≡ c.at-fragment.result.now = at_once c.args.parts.now.mapping.now.links c.args.number.index joined.fragment c.at-fragment.result.now joined.is_fragment
    c.at-fragment.ensures in
    let Has : LinkFragment → Type 0 = λ one. All (Contains (props_in one.first)) (key_props c.args.parts.now.model.now c.args.assoc.now.first.ty) in
    subst Has same joined.joined.first.all

pub columns_of-requires-clause-second : goal.columns_of-requires-clause-second
columns_of-requires-clause-second c =
    let joined = c.requires.joined in
    let same : joined.fragment ≡ c.at-fragment.result.now = at_once c.args.parts.now.mapping.now.links c.args.number.index joined.fragment c.at-fragment.result.now joined.is_fragment
    c.at-fragment.ensures in
    let Has : LinkFragment → Type 0 = λ one. All (Contains (props_in one.second)) (key_props c.args.parts.now.model.now c.args.assoc.now.second.ty) in
    subst Has same joined.joined.second.all

pub rows-requires : goal.rows-requires
rows-requires c =
    let joined = c.requires.joined in
    let same : joined.fragment ≡ c.at-fragment.result.now = at_once c.args.parts.now.mapping.now.links c.args.number.index joined.fragment c.at-fragment.result.now joined.is_fragment
    c.at-fragment.ensures in
    let Within : LinkFragment → Type 0 = λ one. one.table.index < length c.args.tables.now in
    subst Within same (table_within (schema_in c.args.parts.now) c.requires.parts.sound c.args.tables.now c.requires.legal.shape joined.fragment joined.joined.is_fragment)

pub row_keys-requires : goal.row_keys-requires
row_keys-requires c =
    let schema : Schema = schema_in c.args.parts.now in
    let joined = c.requires.joined in
    let fragment : LinkFragment = c.at-fragment.result.now in
    let same : joined.fragment ≡ fragment = at_once c.args.parts.now.mapping.now.links c.args.number.index joined.fragment fragment joined.is_fragment c.at-fragment.ensures in
    let mapped : Contains schema.mapping.links fragment = subst (Contains schema.mapping.links) same joined.joined.is_fragment in
    let Hold : List ColId → List Row → Type 0 = λ cols rows. All (λ (row : Row). All (λ (col : ColId). col.index < length row.cells) cols) rows in
    let hold : Hold c.in_ok-columns.columns.items (rows_in c.args.tables.now fragment.table) =
    rows_hold schema c.requires.parts.sound c.args.tables.now c.requires.legal.shape fragment mapped c.args.assoc.now c.in_ok-columns.columns.items c.in_ok-columns.ensures in
    subst (λ rows. Hold c.as_slice-2.result.now rows) (sym (c.as_slice.ensures.items ∙ c.rows.ensures)) (subst (λ cols. Hold cols (rows_in c.args.tables.now fragment.table)) (sym c.as_slice-2.ensures.value) hold)

pub returns : goal.returns
returns c =
    let schema : Schema = schema_in c.args.parts.now in
    let fragment : LinkFragment = c.at-fragment.result.now in
    let rows : List Row = c.as_slice.result.now in
    let cols : List ColId = c.as_slice-2.result.now in
    let Columns : List ColId → Type 0 = λ list. AreKeyColumns schema.model c.args.assoc.now fragment list in
    let rows_are : rows ≡ rows_in c.args.tables.now fragment.table = c.as_slice.ensures.items ∙ c.rows.ensures in
    IfOk-weaker c.row_keys.result (λ keyed. shown_keys keyed.items ≡ map (λ (row : Row). cells_of row cols) rows)
    (λ keyed. ShowJoinedKeys schema c.args.assoc.now c.args.number c.args.tables.now (shown_keys keyed.items))
    (λ keyed are. record {
      fragment = fragment;
      is_fragment = c.at-fragment.ensures;
      cols = cols;
      are_columns = subst Columns (sym c.as_slice-2.ensures.value) c.in_ok-columns.ensures;
      are = are ∙ ap (map (λ (row : Row). cells_of row cols)) rows_are;
    }) c.row_keys.ensures
