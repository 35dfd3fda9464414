-- Two states that differ in a link of an association that nothing maps have the same tables.
use Rattle.std.proofs.Common.{◌≡◌, ◌≢◌, ⊎_elim, inl, inr, List, [], Contains, refl, sym, subst}
use Rattle.std.proofs.lemmas.List.Elements.{All-contains}
use Rattle.std.proofs.lemmas.List.Sorted.{Contains-permutation, IsPermutation-refl}
use Rattle.round_trip.specs.Words.{AssocId, SetId, TableId, Value, Assoc, DemandsCell, FailsAt, Link, LinkFragment, Schema, State, Table, Tables, TablesAre, Writes, Writing, WritesRow, cell_of, entities_in, links_in, place_at, row_key, rows_in}
use Rattle.round_trip.specs.FailsAt.{IsSameAs, IsUnmapped}
use Rattle.round_trip.specs.declared.FailKind.TheVariants as kind
use Rattle.schema_laws.specs.sound_demand.Made.{tables_for}
use Rattle.schema_laws.proofs.sound_demand.Kept.{tables_there}
use Rattle.regions.specs.Basis.{Basis}
use Rattle.regions.specs.region_laws.IsBasis.{IsBasis}
use Rattle.region_states.specs.conflicts.There.{LinksFailThere, NoneFailsBy}
use Rattle.population.specs.LinkStates.{DifferInLink, plain_link}
use Rattle.conflict_laws.proofs.same.states.Legal.{unclashed}
use Rattle.conflict_laws.proofs.same.states.SameTables.{AgreeAt, tables_too}

-- the states hold the same entities, and the same links of other associations
record AreBeside (a : AssocId) (one two : State) : Type 0 where
  entities : (u : SetId) → entities_in one u ≡ entities_in two u
  links : (b : AssocId) → b ≢ a → links_in one b ≡ links_in two b

turned : (a : AssocId) (one two : State) → AreBeside a one two → AreBeside a two one
turned a one two are = record { entities = λ u. sym (are.entities u); links = λ b apart. sym (are.links b apart) }

module _ (schema : Schema) (a : AssocId) (assoc : Assoc) (unmapped : IsUnmapped schema a assoc) where
  module _ (one two : State) (are : AreBeside a one two) where
    -- so they write the same
    writes_too : (writing : Writing) → Writes schema one writing → Writes schema two writing
    writes_too writing (inl (fragment, entity, writes, is)) = inl (
      fragment,
      entity,
      record { mapped = writes.mapped; stands = subst (λ list. Contains list entity) (are.entities fragment.set) writes.stands; selected = writes.selected },
      is,
    )
    writes_too writing (inr (fragment, of, link, writes, is)) = inr (
      fragment,
      of,
      link,
      record {
        mapped = writes.mapped;
        is_assoc = writes.is_assoc;
        stands = subst (λ list. Contains list link)
            (are.links fragment.assoc (All-contains (λ (other : LinkFragment). other.assoc ≢ a) schema.mapping.links fragment unmapped.unmapped writes.mapped)) writes.stands;
      },
      is,
    )

    row_too : (t : TableId) (key : List Value) (writing : Writing) → WritesRow schema one t key writing → WritesRow schema two t key writing
    row_too t key writing writes = record { writes = writes_too writing writes.writes; to_table = writes.to_table; to_key = writes.to_key }

  -- and demand the same
  agree : (one two : State) → AreBeside a one two → (t : TableId) (table : Table) (key : List Value) → AgreeAt schema one two t table key
  agree one two are t table key = record {
    rows = ((λ demand. (demand.0, row_too one two are t key demand.0 demand.1)), λ demand. (demand.0, row_too two one back t key demand.0 demand.1));
    cells = λ row at_key cells. record {
      demanded = λ col value demand. cells.demanded col value (demand.0, row_too two one back t (row_key table row) demand.0 demand.1, demand.2);
      only = λ col column here. ⊎_elim inl
          (λ (demand : DemandsCell schema one t (row_key table row) col (cell_of row col)). inr (demand.0, row_too one two are t (row_key table row) demand.0 demand.1, demand.2))
          (cells.only col column here);
    };
  }
    where
      back : AreBeside a two one
      back = turned a one two are

module _ (basis : Basis) (is : IsBasis basis) (none : NoneFailsBy basis.schema kind.Clash) (a : AssocId) (assoc : Assoc) (unmapped : IsUnmapped basis.schema a assoc)
    (c d : State) (differ : DifferInLink basis.schema.model 0 a assoc c d) where
  abbrev link : Link
  link = plain_link basis.schema.model 0 assoc

  abbrev tables : Tables
  tables = tables_for basis.schema c

  defined : TablesAre basis.schema c tables
  defined = tables_there basis.schema is.sound c (unclashed basis.schema is.sound none c differ.one.legal)

  same_as : IsSameAs basis.schema c d (place_at assoc.set_name [] [])
  same_as = record {
    tables = tables;
    other_tables = tables;
    defined = defined;
    other_defined = tables_too basis.schema c d
        (λ t table here key. agree basis.schema a assoc unmapped c d (record { entities = differ.entities; links = differ.links }) t table key)
        (unclashed basis.schema is.sound none d differ.legal) tables defined;
    same_tables = λ t. IsPermutation-refl (rows_in tables t);
    other_legal = differ.legal;
    different = λ same. differ.without (Contains-permutation (links_in c a) (links_in d a) link (same.links a) differ.one.linked);
    differ = inr (a, assoc, unmapped, inl (link, differ.one.linked, differ.without), refl);
  }

  -- so two legal states have the same tables, and differ at the association set
  pub unmapped_link_fails : FailsAt basis.schema kind.Same (place_at assoc.set_name [] []) c d
  unmapped_link_fails = record { legal = differ.one.legal; fails = same_as }

  pub unmapped_there : LinksFailThere basis a kind.Same
  unmapped_there = record { place = place_at assoc.set_name [] []; c = c; d = d; legal = differ.one.legal; fails = (same_as, (assoc, unmapped, refl)) }
