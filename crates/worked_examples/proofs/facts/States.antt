-- Legal states and tables of small schemas, set by set, association by association, table by table.
use Rattle.std.proofs.Common.{◌≡◌, ℕ, List, [], ◌∷◌, length, sym, ap, subst, ◌∙◌}
use Rattle.std.specs.Prelude.{All, Some}
use Rattle.std.specs.List.{AllByRecursion}
use Rattle.std.proofs.lemmas.List.Elements.{All-nil, All-from_recursion}
use Rattle.round_trip.specs.Words.{EntityModel, EntitySet, Assoc, Constraint, Table, Schema, Entity, Row, IsEntity, State, entities_in, links_in, IsIndependent, IsLink, Tables, rows_in, cell_of, IsLegalSet, AreLegalLinks, HavePrincipals, IsLegal, Writing, Writes, Fills, HasNoClash, AreDemandedRows, TablesAre}
use Rattle.worked_examples.specs.Ids.{set_id, assoc_id, table_id}
use Rattle.worked_examples.proofs.facts.Small.{EachAt, each_at, each_list, PairsByRecursion}
use Rattle.worked_examples.proofs.facts.Entities.{MayStand, HaveOwnKeys, shaped_set, legal_set}
use Rattle.worked_examples.proofs.facts.Writings.{IsOnlyWriting, IsRowOf, AreApart, no_clash, one_row}

module _ (model : EntityModel) (state : State) where
  -- what legality asks of the s-th set, and of the a-th association
  abbrev pub LegalSetAt : ℕ → EntitySet → Type 0
  LegalSetAt s set = IsLegalSet model set (entities_in state (set_id s))

  pub record IsLegalAssocAt (a : ℕ) (assoc : Assoc) : Type 0 where
    pub shape : All (IsLink model assoc) (links_in state (assoc_id a))
    pub links : IsIndependent assoc → AreLegalLinks model state assoc (links_in state (assoc_id a))
    pub principals : (constraint : Constraint) → assoc.constraint ≡ Some constraint → HavePrincipals model state assoc constraint

  pub record IsLegalByParts : Type 0 where
    pub count : length state.entities ≡ length model.sets
    pub link_count : length state.links ≡ length model.assocs
    pub shapes : AllByRecursion (All (IsEntity model)) state.entities
    pub sets : EachAt LegalSetAt model.sets
    pub assocs : EachAt IsLegalAssocAt model.assocs

  pub legal_by_parts : IsLegalByParts → IsLegal model state
  legal_by_parts parts = record {
    shape = record {
      sets = parts.count;
      assocs = parts.link_count;
      entities = λ set. each_list (All (IsEntity model)) state.entities (All-nil (IsEntity model)) parts.shapes set.index;
      links = λ a assoc at. (each_at IsLegalAssocAt model.assocs parts.assocs a.index assoc at).shape;
    };
    sets = λ s set at. each_at LegalSetAt model.sets parts.sets s.index set at;
    links = λ a assoc at. (each_at IsLegalAssocAt model.assocs parts.assocs a.index assoc at).links;
    principals = λ a assoc constraint at. (each_at IsLegalAssocAt model.assocs parts.assocs a.index assoc at).principals constraint;
  }

-- a model of one set and no association
pub legal_set_alone : (model : EntityModel) (set : EntitySet) (entities : List Entity) → set ∷ [] ≡ model.sets → [] ≡ model.assocs
    → AllByRecursion (MayStand model set) entities → PairsByRecursion (HaveOwnKeys model) entities → IsLegal model (record { entities = entities ∷ []; links = [] })
legal_set_alone model set entities is_set no_assocs each own =
    let state : State = record { entities = entities ∷ []; links = [] } in
    legal_by_parts model state (record {
      count = ap length is_set;
      link_count = ap length no_assocs;
      shapes = (shaped_set model set entities each, tt);
      sets = subst (EachAt (LegalSetAt model state)) is_set (legal_set model set entities each own, tt);
      assocs = subst (EachAt (IsLegalAssocAt model state)) no_assocs tt;
    })

module _ (schema : Schema) (state : State) (tables : Tables) where
  -- the t-th table: its rows have its columns, and are the demanded ones
  pub record IsStoredAt (t : ℕ) (table : Table) : Type 0 where
    pub shape : All (λ row. length row.cells ≡ length table.cols) (rows_in tables (table_id t))
    pub rows : AreDemandedRows schema state (table_id t) table (rows_in tables (table_id t))

  pub stored_by_tables : length tables ≡ length schema.store.tables → HasNoClash schema state → EachAt IsStoredAt schema.store.tables → TablesAre schema state tables
  stored_by_tables count no_clash each = record {
    shape = record { each = count; rows = λ t table at. (each_at IsStoredAt schema.store.tables each t.index table at).shape };
    no_clash = no_clash;
    rows = λ t table at. (each_at IsStoredAt schema.store.tables each t.index table at).rows;
  }

-- a state that writes to one row of the only table
module _ (schema : Schema) (state : State) (table : Table) (writing : Writing) (row : Row) where
  pub record IsOnlyRow : Type 0 where
    pub is_table : table ∷ [] ≡ schema.store.tables
    pub to_table : writing.table ≡ table_id 0
    pub writes : Writes schema state writing
    pub only : (other : Writing) → Writes schema state other → other ≡ writing
    pub made : IsRowOf schema table writing row
    pub count : length row.cells ≡ length table.cols

  module _ (only : IsOnlyRow) where
    apart : AreApart schema state
    apart = record {
      only = λ one two by_one by_two same. only.only one by_one ∙ sym (only.only two by_two);
      value_at = λ w col. cell_of row col;
      given = λ other by col value gives. sym (only.made.given col value (subst (λ w. Fills w col value) (only.only other by) gives));
    }

    the_only : IsOnlyWriting schema state (table_id 0) writing
    the_only = record { writes = only.writes; to_table = only.to_table; only = λ other by same. only.only other by }

    abbrev HasAllCells : Row → Type 0
    HasAllCells r = length r.cells ≡ length table.cols

    stored_at : IsStoredAt schema state ((row ∷ []) ∷ []) 0 table
    stored_at = record {
      shape = All-from_recursion HasAllCells (row ∷ []) (only.count, tt);
      rows = one_row schema state (table_id 0) table writing row the_only only.made;
    }

    pub one_row_stored : TablesAre schema state ((row ∷ []) ∷ [])
    one_row_stored = stored_by_tables schema state ((row ∷ []) ∷ []) (ap length only.is_table) (no_clash schema state apart)
        (subst (EachAt (IsStoredAt schema state ((row ∷ []) ∷ []))) only.is_table (stored_at, tt))
