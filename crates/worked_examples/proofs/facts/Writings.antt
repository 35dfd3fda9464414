-- What a state writes, by the fragments and link fragments of a mapping, and its tables by what it writes.
use Rattle.std.proofs.Common.{ℕ, ◌≡◌, ◌≢◌, ◌⊎◌, inl, inr, [], ◌∷◌, refl, sym, ap, subst, ◌∙◌}
use Rattle.std.specs.Prelude.{true, false}
use Rattle.std.specs.List.{AllByRecursion}
use Rattle.std.proofs.lemmas.List.Elements.{All-from_recursion, All-nil}
use Rattle.round_trip.specs.Words.{TableId, ColId, Value, Null, Assoc, Table, Column, Fragment, LinkFragment, Cond, Schema, Entity, Link, Row, At, State, entities_in, links_in, cell_of, row_key, Selects, Writing, entity_cells, link_cells, Writes, written_key, Fills, WritesRow, DemandsRow, HasNoClash, HasDemandedCells, AreDemandedRows}
use Rattle.edm_types.specs.declared.mapping.CondOn.TheVariants as on
use Rattle.edm_types.specs.declared.mapping.Test.TheVariants.{IsNull, Equals}
use Rattle.worked_examples.specs.Ids.{col_id}
use Rattle.worked_examples.proofs.facts.Small.{EachAt, each_at, each_of, any_here, all_pairs}

abbrev pub entity_writing : Schema → Fragment → Entity → Writing
entity_writing schema fragment entity = record { table = fragment.table; cells = entity_cells schema.model fragment entity; conds = fragment.conds }

abbrev pub link_writing : Schema → LinkFragment → Assoc → Link → Writing
link_writing schema fragment assoc link = record { table = fragment.table; cells = link_cells schema.model assoc fragment link; conds = fragment.conds }

module _ (schema : Schema) (state : State) (Q : Writing → Type 0) where
  -- Q of what an entity writes, if the fragment selects it
  abbrev pub OfEntity : Fragment → Entity → Type 0
  OfEntity fragment entity = Selects schema.model fragment entity → Q (entity_writing schema fragment entity)

  abbrev pub OfFragment : Fragment → Type 0
  OfFragment fragment = AllByRecursion (OfEntity fragment) (entities_in state fragment.set)

  abbrev pub OfLink : LinkFragment → Assoc → Link → Type 0
  OfLink fragment assoc link = Q (link_writing schema fragment assoc link)

  abbrev pub OfLinkFragment : LinkFragment → Type 0
  OfLinkFragment fragment = (assoc : Assoc) → At schema.model.assocs fragment.assoc.index assoc → AllByRecursion (OfLink fragment assoc) (links_in state fragment.assoc)

  -- Q of what the links of the fragment's association write
  pub of_links : (fragment : LinkFragment) (assoc : Assoc) → At schema.model.assocs fragment.assoc.index assoc
      → AllByRecursion (OfLink fragment assoc) (links_in state fragment.assoc) → OfLinkFragment fragment
  of_links fragment assoc is all other at =
      let same : assoc ≡ other = cc (is, at) in
      subst (λ a. AllByRecursion (OfLink fragment a) (links_in state fragment.assoc)) same all

  -- Q of each writing
  pub each_writing : AllByRecursion OfFragment schema.mapping.fragments → AllByRecursion OfLinkFragment schema.mapping.links
      → (writing : Writing) → Writes schema state writing → Q writing
  each_writing fragments links writing (inl by) =
      let all : OfFragment by.0 = each_of OfFragment schema.mapping.fragments by.0 fragments by.2.mapped in
      let one : OfEntity by.0 by.1 = each_of (OfEntity by.0) (entities_in state by.0.set) by.1 all by.2.stands in
      subst Q (sym by.3) (one by.2.selected)
  each_writing fragments links writing (inr by) =
      let all : OfLinkFragment by.0 = each_of OfLinkFragment schema.mapping.links by.0 links by.3.mapped in
      let one : OfLink by.0 by.1 by.2 = each_of (OfLink by.0 by.1) (links_in state by.0.assoc) by.2 (all by.1 by.3.is_assoc) by.3.stands in
      subst Q (sym by.4) one

-- the only writing to a table
pub record IsOnlyWriting (schema : Schema) (state : State) (t : TableId) (writing : Writing) : Type 0 where
  pub writes : Writes schema state writing
  pub to_table : writing.table ≡ t
  pub only : (other : Writing) → Writes schema state other → other.table ≡ t → other ≡ writing

-- what the writing gives stands in the row, and nothing else
pub record IsRowOf (schema : Schema) (table : Table) (writing : Writing) (row : Row) : Type 0 where
  pub key : written_key schema.store writing ≡ row_key table row
  pub given : (col : ColId) (value : Value) → Fills writing col value → cell_of row col ≡ value
  pub rest : (col : ColId) (column : Column) → At table.cols col.index column → (cell_of row col ≡ Null) ⊎ Fills writing col (cell_of row col)

module _ (schema : Schema) (state : State) (t : TableId) (table : Table) where
  -- a table to which there is one writing
  module _ (writing : Writing) (row : Row) (only : IsOnlyWriting schema state t writing) (made : IsRowOf schema table writing row) where
    writes_row : WritesRow schema state t (row_key table row) writing
    writes_row = record { writes = only.writes; to_table = only.to_table; to_key = made.key }

    abbrev DemandedAt : Row → Type 0
    DemandedAt r = DemandsRow schema state t (row_key table r)

    cells : HasDemandedCells schema state t table row
    cells = record {
      demanded = λ col value demands.
          let one : demands.0 ≡ writing = only.only demands.0 demands.1.writes demands.1.to_table in
          made.given col value (subst (λ w. Fills w col value) one demands.2);
      only = λ col column has. elim (made.rest col column has) [ inl none ↦ inl none | inr gives ↦ inr (writing, writes_row, gives) ];
    }

    pub one_row : AreDemandedRows schema state t table (row ∷ [])
    one_row = record {
      demanded = All-from_recursion DemandedAt (row ∷ []) ((writing, writes_row), tt);
      all = λ key demands.
          let one : demands.0 ≡ writing = only.only demands.0 demands.1.writes demands.1.to_table in
          let same : row_key table row ≡ key = sym made.key ∙ ap (written_key schema.store) (sym one) ∙ demands.1.to_key in
          any_here (λ r. row_key table r ≡ key) row [] same;
      once = all_pairs (λ r other. row_key table r ≢ row_key table other) (row ∷ []) (tt, tt);
      cells = All-from_recursion (HasDemandedCells schema state t table) (row ∷ []) (cells, tt);
    }

  -- a table to which nothing is written
  pub no_row : ((writing : Writing) → Writes schema state writing → writing.table ≢ t) → AreDemandedRows schema state t table []
  no_row none = record {
    demanded = All-nil (λ row. DemandsRow schema state t (row_key table row));
    all = λ key demands. absurd (none demands.0 demands.1.writes demands.1.to_table);
    once = all_pairs (λ row other. row_key table row ≢ row_key table other) [] tt;
    cells = All-nil (HasDemandedCells schema state t table);
  }

-- each table has at most one writing, and each writing gives each column one value
pub record AreApart (schema : Schema) (state : State) : Type 0 where
  pub only : (one two : Writing) → Writes schema state one → Writes schema state two → one.table ≡ two.table → one ≡ two
  pub value_at : Writing → ColId → Value
  pub given : (writing : Writing) → Writes schema state writing → (col : ColId) (value : Value) → Fills writing col value → value ≡ value_at writing col

pub no_clash : (schema : Schema) (state : State) → AreApart schema state → HasNoClash schema state
no_clash schema state apart t key col one two by_one by_two =
    let same : by_one.0 ≡ by_two.0 = apart.only by_one.0 by_two.0 by_one.1.writes by_two.1.writes (by_one.1.to_table ∙ sym by_two.1.to_table) in
    let gives_one : one ≡ apart.value_at by_one.0 col = apart.given by_one.0 by_one.1.writes col one by_one.2 in
    let gives_two : two ≡ apart.value_at by_two.0 col = apart.given by_two.0 by_two.1.writes col two by_two.2 in
    gives_one ∙ ap (λ w. apart.value_at w col) same ∙ sym gives_two

module _ (writing : Writing) (Q : ColId → Value → Type 0) where
  abbrev pub OfCell : ColId × Value → Type 0
  OfCell cell = Q cell.0 cell.1

  -- Q of what the condition gives its column
  pub record OfCond (cond : Cond) : Type 0 where
    pub constant : (col : ColId) (value : Value) → cond ≡ record { on = on.Col col; test = Equals value } → Q col value
    pub null : (col : ColId) → cond ≡ record { on = on.Col col; test = IsNull true } → Q col Null

  -- a Value condition gives its column the constant
  pub equals_given : (c : ColId) (constant : Value) → Q c constant → OfCond (record { on = on.Col c; test = Equals constant })
  equals_given c constant holds = record {
    constant = λ col value equal.
        let at : on.Col c ≡ on.Col col = ap (λ (cond : Cond). cond.on) equal in
        let test : Equals constant ≡ Equals value = ap (λ (cond : Cond). cond.test) equal in
        let same_value : constant ≡ value = cc in
        let same_col : c ≡ col = cc in
        subst (λ v. Q col v) same_value (subst (λ d. Q d constant) same_col holds);
    null = λ col equal. let test : Equals constant ≡ IsNull true = ap (λ (cond : Cond). cond.test) equal in absurd (cc);
  }

  -- an IsNull condition gives it null, if it asks for null, and else nothing
  pub null_given : (c : ColId) → Q c Null → OfCond (record { on = on.Col c; test = IsNull true })
  null_given c holds = record {
    constant = λ col value equal. let test : IsNull true ≡ Equals value = ap (λ (cond : Cond). cond.test) equal in absurd (cc);
    null = λ col equal.
        let at : on.Col c ≡ on.Col col = ap (λ (cond : Cond). cond.on) equal in
        let same_col : c ≡ col = cc in
        subst (λ d. Q d Null) same_col holds;
  }

  pub nothing_given : (c : ColId) → OfCond (record { on = on.Col c; test = IsNull false })
  nothing_given c = record {
    constant = λ col value equal. let test : IsNull false ≡ Equals value = ap (λ (cond : Cond). cond.test) equal in absurd (cc);
    null = λ col equal. let test : IsNull false ≡ IsNull true = ap (λ (cond : Cond). cond.test) equal in absurd (cc);
  }

  -- Q of each value that a writing gives a column
  pub each_given : AllByRecursion OfCell writing.cells → AllByRecursion OfCond writing.conds → (col : ColId) (value : Value) → Fills writing col value → Q col value
  each_given written conds col value (inl among) = each_of OfCell writing.cells (col, value) written among
  each_given written conds col value (inr (inl among)) = (each_of OfCond writing.conds (record { on = on.Col col; test = Equals value }) conds among).constant col value refl
  each_given written conds col value (inr (inr among)) =
      let of_null : OfCond (record { on = on.Col col; test = IsNull true }) = each_of OfCond writing.conds (record { on = on.Col col; test = IsNull true }) conds among.0 in
      subst (Q col) (sym among.1) (of_null.null col refl)

module _ (schema : Schema) (table : Table) (writing : Writing) (row : Row) where
  -- the value stands in the row's cell
  abbrev pub StandsIn : ColId → Value → Type 0
  StandsIn col value = cell_of row col ≡ value

  -- the row's i-th cell is null or written
  abbrev pub NullOrGiven : ℕ → Column → Type 0
  NullOrGiven i column = (cell_of row (col_id i) ≡ Null) ⊎ Fills writing (col_id i) (cell_of row (col_id i))

  -- a row of what is written, cell by cell
  pub row_made : written_key schema.store writing ≡ row_key table row
      → AllByRecursion (OfCell writing StandsIn) writing.cells → AllByRecursion (OfCond writing StandsIn) writing.conds
      → EachAt NullOrGiven table.cols → IsRowOf schema table writing row
  row_made key written conds rest = record {
    key = key;
    given = λ col value gives. each_given writing StandsIn written conds col value gives;
    rest = λ col column at. each_at NullOrGiven table.cols rest col.index column at;
  }
