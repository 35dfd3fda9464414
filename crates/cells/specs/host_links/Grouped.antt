-- The links of a state by the entities that host them.
-- Source: this project's.
use Rattle.std.specs.Prelude.{◌≡◌, List, slice_get, option_and_then}
use Rattle.std.specs.BTreeMap.{BTreeMap, get}
use Rattle.std.specs.Cmp.Lexicographic.{slice_cmp}
use Rattle.std.specs.Option.{unwrap_or}
use Rattle.emc_base.specs.Order.{value_cmp}
use Rattle.round_trip.specs.Words.{SetId, Value, EntityModel, Hosted, State}
use Rattle.cells.specs.declared.cells.Cells.{Cells}
use Rattle.cells.specs.HostedLinks.{hosted_links}
use Rattle.cells.specs.declared.host_links.links.HostLinks.{HostLinks}

-- what a map holds at a key, and something given where it holds nothing there
abbrev pub links_at_key : BTreeMap (List Value) (List Hosted) → List Hosted → List Value → List Hosted
links_at_key by_key none key = unwrap_or (get (slice_cmp value_cmp) by_key key) none

-- what the map of a set holds at a key
abbrev pub links_of : List (BTreeMap (List Value) (List Hosted)) → List Hosted → SetId → List Value → List Hosted
links_of by_set none set key = unwrap_or (option_and_then (λ by_key. get (slice_cmp value_cmp) by_key key) (slice_get by_set set.index)) none

-- the links that are kept of the entity of this key in this set
abbrev pub links_in : HostLinks → SetId → List Value → List Hosted
links_in links set key = links_of links.by_set.items links.none set key

-- of the entity of each key in each set just those links are kept that it hosts, by association set and then in the order of their list
abbrev pub GroupsLinks : EntityModel → Cells → State → HostLinks → Type 0
GroupsLinks model cells state links = (set : SetId) (key : List Value) → links_in links set key ≡ hosted_links model cells state set key
