-- The rows and cells that fragments give of an entity with its links, or of a link; and those that a pattern's rows have with the values of their symbols.
-- No state is looked at.
-- Source: MSL version 3, MappingFragment, AssociationSetMapping and Condition; the update views of Melnik, Adya and Bernstein, SIGMOD 2007.
use Rattle.std.specs.Prelude.{◌≡◌, ◌⊎◌, ◌↔◌, ◌==◌, List, [], ◌∷◌, map, filter, Contains, Bool, if◌then◌else◌}
use Rattle.round_trip.specs.Words.{SetId, TableId, ColId, AssocId, Value, Assoc, Fragment, LinkFragment, StoreModel, Entity, Hosted, Link, Writing, At, Fills, Selects, key_columns, key_of, written_key}
use Rattle.schema_laws.specs.state_demand.Writings.{entity_writing, link_writing}
use Rattle.regions.specs.declared.region.Region.{Region}
use Rattle.regions.specs.declared.pattern.Symbol.{Symbol}
use Rattle.regions.specs.declared.pattern.PatternRow.{PatternRow}
use Rattle.regions.specs.declared.pattern.Pattern.{Pattern}
use Rattle.regions.specs.declared.pattern.Focus.{Focus}
use Rattle.regions.specs.declared.pattern.Focus.TheVariants as focus
use Rattle.regions.specs.Basis.{Basis, Host, HostedAssoc}
use Rattle.regions.specs.Patterns.{Valuation, by_entity, by_link, value_under}
use Rattle.regions.specs.Shown.{cell_in}
use Rattle.regions.specs.region_laws.Held.{Holding}
use Rattle.regions.specs.region_laws.pattern.Allowed.{partner_parts}
use Rattle.regions.specs.region_laws.pattern.Described.{value_in}

-- the links of an association among these
abbrev pub links_of : List Hosted → AssocId → List Hosted
links_of links a = filter (λ hosted. hosted.assoc.index == a.index) links

-- one link for each flag of the region that is set, and none for one that isn't
pub record HasLinkPerFlag (basis : Basis) (region : Region) (links : List Hosted) : Type 0 where
  pub one : (host : Host) → Contains (basis.hosts region.set) host → Contains region.linked host.assoc → (hosted : Hosted) × (links_of links host.assoc ≡ hosted ∷ [])
  pub none : (host : Host) → Contains (basis.hosts region.set) host → ¬ Contains region.linked host.assoc → links_of links host.assoc ≡ []

-- the link that the entity of this key hosts, at the first end or the second, to a partner
abbrev pub hosted_link : Bool → List Value → List Value → Link
hosted_link first_hosts key partner = record { first = if first_hosts then key else partner; second = if first_hosts then partner else key }

-- a fragment of the set that selects the entity writes it so
pub record GivesEntity (basis : Basis) (s : SetId) (entity : Entity) (writing : Writing) : Type 0 where
  pub fragment : Fragment
  pub mapped : Contains basis.schema.mapping.fragments fragment
  pub of_set : fragment.set ≡ s
  pub selects : Selects basis.schema.model fragment entity
  pub is : writing ≡ entity_writing basis.schema.model fragment entity

-- a link fragment of an association that is hosted at the set writes so one of the entity's links
pub record GivesHosted (basis : Basis) (s : SetId) (entity : Entity) (links : List Hosted) (writing : Writing) : Type 0 where
  pub at : HostedAssoc basis s
  pub fragment : LinkFragment
  pub mapped : Contains basis.schema.mapping.links fragment
  pub of_assoc : fragment.assoc ≡ at.host.assoc
  pub hosted : Hosted
  pub among : Contains links hosted
  pub of_host : hosted.assoc ≡ at.host.assoc
  pub is : writing ≡ link_writing basis.schema.model fragment at.assoc (hosted_link at.host.first_hosts (key_of basis.schema.model entity) hosted.partner)

-- the fragments give this of an entity of the set with these links
abbrev pub Gives : Basis → SetId → Entity → List Hosted → Writing → Type 0
Gives basis s entity links writing = GivesEntity basis s entity writing ⊎ GivesHosted basis s entity links writing

-- a link fragment of the association gives this of a link
pub record GivesLink (basis : Basis) (a : AssocId) (assoc : Assoc) (link : Link) (writing : Writing) : Type 0 where
  pub fragment : LinkFragment
  pub mapped : Contains basis.schema.mapping.links fragment
  pub of_assoc : fragment.assoc ≡ a
  pub is : writing ≡ link_writing basis.schema.model fragment assoc link

-- what is given is to this row
pub record GivesToRow (store : StoreModel) (IsGiven : Writing → Type 0) (t : TableId) (key : List Value) (writing : Writing) : Type 0 where
  pub given : IsGiven writing
  pub to_table : writing.table ≡ t
  pub to_key : written_key store writing ≡ key

-- the row is given
abbrev pub GivesRow : StoreModel → (Writing → Type 0) → TableId → List Value → Type 0
GivesRow store IsGiven t key = (writing : Writing) × GivesToRow store IsGiven t key writing

-- the value of the cell is given
abbrev pub GivesCell : StoreModel → (Writing → Type 0) → TableId → List Value → ColId → Value → Type 0
GivesCell store IsGiven t key col value = (writing : Writing) × GivesToRow store IsGiven t key writing × Fills writing col value

-- the primary key of a pattern's row: the values of its cells
abbrev pub key_in : StoreModel → Valuation → PatternRow → List Value
key_in store values row = map (λ col. value_in values (cell_in row col)) (key_columns store row.table)

-- with these values the pattern has the row of this key
pub record HasConcreteRow (store : StoreModel) (pattern : Pattern) (values : Valuation) (t : TableId) (key : List Value) : Type 0 where
  pub row : PatternRow
  pub is_row : Contains pattern.rows row
  pub of_table : row.table ≡ t
  pub at_key : key_in store values row ≡ key

-- and a symbol that is listed in the row's cell has the value
pub record HasConcreteCell (store : StoreModel) (pattern : Pattern) (values : Valuation) (t : TableId) (key : List Value) (col : ColId) (value : Value) : Type 0 where
  pub at : HasConcreteRow store pattern values t key
  pub one : Symbol
  pub listed : Contains (cell_in at.row col) one
  pub is : value ≡ value_under values one

-- with these values the pattern has exactly the rows and cells that are given
pub record HasFacts (store : StoreModel) (pattern : Pattern) (values : Valuation) (IsGiven : Writing → Type 0) : Type 0 where
  pub rows : (t : TableId) (key : List Value) → GivesRow store IsGiven t key ↔ HasConcreteRow store pattern values t key
  pub cells : (t : TableId) (key : List Value) (col : ColId) (value : Value)
      → GivesCell store IsGiven t key col value ↔ HasConcreteCell store pattern values t key col value

-- the pattern has exactly the facts of its focus: of each entity that the region holds with one link for each flag, by its values and its partners' keys;
-- of each link of the association, by its keys
abbrev pub HasFactsOf : Basis → Focus → Pattern → Type 0
HasFactsOf basis (focus.Entity region) pattern = (held : Holding basis) → held.region ≡ region → HasLinkPerFlag basis held.region held.links
    → HasFacts basis.schema.store pattern (by_entity basis.schema.model held.entity (partner_parts basis.schema.model held.links)) (Gives basis held.s held.entity held.links)
HasFactsOf basis (focus.Link a) pattern = (assoc : Assoc) → At basis.schema.model.assocs a.index assoc → (link : Link)
    → HasFacts basis.schema.store pattern (by_link basis.schema.model assoc link) (GivesLink basis a assoc link)
