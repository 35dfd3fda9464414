-- Rows of entities and of links, and what a pattern says of a table.
-- Source: this project's; MSL version 3, MappingFragment and AssociationSetMapping; the update views of Melnik, Adya and Bernstein, SIGMOD 2007.
use Rattle.std.specs.Prelude.{◌≡◌, ◌⊎◌, List, Contains}
use Rattle.round_trip.specs.Words.{SetId, TableId, ColId, Value, Assoc, Entity, Link, LinkFragment, State}
use Rattle.regions.specs.declared.pattern.Symbol.{Symbol}
use Rattle.regions.specs.declared.pattern.PatternRow.{PatternRow}
use Rattle.regions.specs.declared.pattern.Pattern.{Pattern}
use Rattle.regions.specs.Basis.{Basis}
use Rattle.regions.specs.Patterns.{Valuation, value_under}
use Rattle.regions.specs.region_laws.Held.{IsAtLinkRow, IsAtRow}
use Rattle.regions.specs.region_laws.pattern.Listed.{Lists}

-- the row of this key is that of an entity or of a link
abbrev pub IsRowOfOne : Basis → State → TableId → List Value → Type 0
IsRowOfOne basis state t key = ((s : SetId) × (entity : Entity) × IsAtRow basis state s entity t key)
    ⊎ ((fragment : LinkFragment) × (assoc : Assoc) × (link : Link) × IsAtLinkRow basis state fragment assoc link t key)

-- the pattern has a row of the table
abbrev pub HasRow : Pattern → TableId → Type 0
HasRow pattern t = (row : PatternRow) × Contains pattern.rows row × (row.table ≡ t)

-- the pattern lists a symbol of this value in the column of the table
abbrev pub ListsValue : Pattern → Valuation → TableId → ColId → Value → Type 0
ListsValue pattern valuation t col value = (one : Symbol) × Lists pattern t col one × (value ≡ value_under valuation one)
