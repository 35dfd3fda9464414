-- The rows that an entity demands with the links that it hosts, or a link of a joined association, by the pattern of its region or its association.
-- Source: the update views of Melnik, Adya and Bernstein, SIGMOD 2007; MSL version 3.
use Rattle.std.specs.Prelude.{◌≡◌, List, [], ◌∷◌, map, Contains, Option, Some, None}
use Rattle.round_trip.specs.Words.{SetId, TableId, AssocId, Assoc, LinkFragment, Entity, Hosted, Link}
use Rattle.table_files.specs.declared.tables.TableRow.{TableRow}
use Rattle.schema_laws.specs.state_demand.Owners.{IsJoinedTo}
use Rattle.regions.specs.declared.region.Region.{Region}
use Rattle.regions.specs.declared.pattern.Focus.TheVariants as focus
use Rattle.regions.specs.declared.pattern.PatternRow.{PatternRow}
use Rattle.regions.specs.Basis.{Basis}
use Rattle.regions.specs.Patterns.{Valuation, by_entity, by_link, pattern_of}
use Rattle.regions.specs.Regions.{Holds, regions_of}
use Rattle.regions.specs.region_laws.pattern.Allowed.{partner_parts}
use Rattle.regions.specs.region_laws.pattern.Described.{row_for}

-- a row of the pattern with these values: each cell holds the value of the first symbol that is listed there, and null where none is
abbrev pub table_row : Valuation → PatternRow → TableRow
table_row valuation pattern = record { table = pattern.table; row = row_for valuation pattern }

module _ (basis : Basis) where
  -- what an entity of the region demands with the links that it hosts, by its values and the keys of its partners
  abbrev pub entity_rows : Region → Entity → List Hosted → List TableRow
  entity_rows region entity links =
      map (table_row (by_entity basis.schema.model entity (partner_parts basis.schema.model links))) (pattern_of basis (focus.Entity region)).rows

  -- what a link of the association demands by itself, by its two keys
  abbrev pub link_rows : AssocId → Assoc → Link → List TableRow
  link_rows a assoc link = map (table_row (by_link basis.schema.model assoc link)) (pattern_of basis (focus.Link a)).rows

  -- The rows that are told of entities are those of their regions; those that are told of links of joined associations are those of their associations,
  -- one each; and of the links of other associations none are told.
  pub record FillsRows (local : SetId → Entity → List Hosted → List TableRow) (joined : AssocId → Option (Link → TableRow)) : Type 0 where
    pub entities : (s : SetId) (region : Region) → Contains (regions_of basis s) region → (entity : Entity) (links : List Hosted) → Holds basis region entity links
        → local s entity links ≡ entity_rows region entity links
    pub links : (t : TableId) (fragment : LinkFragment) (assoc : Assoc) → IsJoinedTo basis.schema t fragment assoc
        → (of_link : Link → TableRow) × (joined fragment.assoc ≡ Some of_link) × ((link : Link) → link_rows fragment.assoc assoc link ≡ of_link link ∷ [])
    pub others : (a : AssocId) → ((t : TableId) (fragment : LinkFragment) (assoc : Assoc) → IsJoinedTo basis.schema t fragment assoc → ¬ (fragment.assoc ≡ a))
        → joined a ≡ None
