-- The key in a tuple is that of the entity at whose row it stands, and the keys in a link's tuple are the link's.
use Rattle.std.proofs.Common.{◌≡◌, ◌≢◌, ⊎_elim, List, [], ◌∷◌, ◌++◌, map, length, take, drop, ◌==◌, All, Contains, refl, sym, ap, ap₂, subst, ◌∙◌, ℕ}
use Rattle.std.proofs.lemmas.Bool.{cond-true, cond-false}
use Rattle.std.proofs.lemmas.Bool.Decides.{Decides-eqb, eqb_tells}
use Rattle.std.proofs.lemmas.List.{length-map, map-append}
use Rattle.std.proofs.lemmas.List.Elements.{All-contains}
use Rattle.std.proofs.lemmas.Simd.{map-map}
use Rattle.std.proofs.Math.Seq.{drop-append_seam, take-append_seam}
use Rattle.emc_base.specs.Lists.{AreApart}
use Rattle.emc_base.proofs.Mapped.{contains_map}
use Rattle.emc_base.proofs.Numbered.{map_contains}
use Rattle.round_trip.specs.Words.{SetId, TypeId, PropId, TableId, ColId, Value, Assoc, Entity, IsLegal, Link, LinkFragment, Pair, Row, Schema, State, Table, At, cell_of, cells_of, end_cells, key_of, key_props, link_cells, links_in, row_key, value_beside, value_of}
use Rattle.round_trip.specs.FailsAt.{key_in_tuple, keys_in_tuple}
use Rattle.round_trip.specs.soundness.mappings.Mappings.{IsSoundLinkFragment, IsSoundSchema}
use Rattle.round_trip.proofs.Lookups.{key_columns_at}
use Rattle.schema_laws.specs.state_demand.Owners.{IsOwned, StandsAt, props_in}
use Rattle.schema_laws.specs.state_demand.WellWritten.{cols_of}
use Rattle.schema_laws.proofs.state_demand.owners.Joined.{same_values}
use Rattle.schema_laws.proofs.state_demand.lists.Lists.{member_cases, none_in_nil}
use Rattle.schema_laws.proofs.state_demand.owners.Owners.{beside_map, element_key, link_is}
use Rattle.schema_laws.proofs.state_demand.lists.Permutations.{head_apart, rest_apart}
use Rattle.schema_laws.proofs.state_demand.lists.Places.{agree_by_map, map_agree}
use Rattle.schema_laws.proofs.sound_demand.Fitting.{sound_link}
use Rattle.schema_laws.proofs.sound_demand.Keys.{inherits_keys, keys_apart}

-- what stands beside a pair's property, where no property is paired twice
beside_pair : (value : Pair → Value) (pairs : List Pair) → AreApart (props_in pairs) → (pair : Pair) → Contains pairs pair
    → value_beside pair.prop (props_in pairs) (map value pairs) ≡ value pair
beside_pair value [] apart pair has = absurd (none_in_nil pair has)
beside_pair value (p ∷ ps) apart pair has =
    let Beside : Pair → Type 0 = λ one. value_beside one.prop (props_in (p ∷ ps)) (map value (p ∷ ps)) ≡ value one in
    ⊎_elim
    (λ (here : pair ≡ p). subst Beside (sym here)
    (cond-true (p.prop.index == p.prop.index) (value p) (value_beside p.prop (props_in ps) (map value ps)) ((Decides-eqb p.prop.index p.prop.index).1 refl)))
    (λ (later : Contains ps pair).
    let differs : p.prop ≢ pair.prop = head_apart p.prop (props_in ps) pair.prop apart (contains_map (λ (one : Pair). one.prop) ps pair later) in
    ⊎_elim
    (λ same. absurd (differs (λ k. record { index = same.1 k })))
    (λ other. cond-false (p.prop.index == pair.prop.index) (value p) (value_beside pair.prop (props_in ps) (map value ps)) other.0)
    (eqb_tells p.prop.index pair.prop.index)
    ∙ beside_pair value ps (rest_apart p.prop (props_in ps) apart) pair later)
    (member_cases p ps pair has)

-- a key beside its own properties
pub key_beside : (props : List PropId) (key : List Value) → AreApart props → length key ≡ length props → map (λ prop. value_beside prop props key) props ≡ key
key_beside props key apart count =
    let value : PropId → Value = λ prop. value_beside prop props key in
    same_values props (map value props) key (length-map props value) count apart (λ prop has. beside_map value props prop has)

-- the values of written cells
abbrev values_in : List (ColId × Value) → List Value
values_in cells = map (λ cell. cell.1) cells

-- the parts of two lists put together
module _ {X : Type 0} (n : ℕ) (xs ys : List X) (count : n ≡ length xs) where
  take_first : take n (xs ++ ys) ≡ xs
  take_first = ap (λ m. take m (xs ++ ys)) count ∙ take-append_seam xs ys

  drop_first : drop n (xs ++ ys) ≡ ys
  drop_first = ap (λ m. drop m (xs ++ ys)) count ∙ drop-append_seam xs ys

-- the cells of a row at the two ends of a link
module _ (fragment : LinkFragment) (row : Row) where
  cells_split : cells_of row (cols_of (fragment.first ++ fragment.second)) ≡ cells_of row (cols_of fragment.first) ++ cells_of row (cols_of fragment.second)
  cells_split = ap (map (cell_of row)) (map-append (λ (pair : Pair). pair.col) fragment.first fragment.second)
      ∙ map-append (cell_of row) (cols_of fragment.first) (cols_of fragment.second)

  cell_count : length fragment.first ≡ length (cells_of row (cols_of fragment.first))
  cell_count = sym (length-map (cols_of fragment.first) (cell_of row) ∙ length-map fragment.first (λ (pair : Pair). pair.col))

  pub first_in_row : take (length fragment.first) (cells_of row (cols_of (fragment.first ++ fragment.second))) ≡ cells_of row (cols_of fragment.first)
  first_in_row = ap (take (length fragment.first)) cells_split
      ∙ take_first (length fragment.first) (cells_of row (cols_of fragment.first)) (cells_of row (cols_of fragment.second)) cell_count

  pub second_in_row : drop (length fragment.first) (cells_of row (cols_of (fragment.first ++ fragment.second))) ≡ cells_of row (cols_of fragment.second)
  second_in_row = ap (drop (length fragment.first)) cells_split
      ∙ drop_first (length fragment.first) (cells_of row (cols_of fragment.first)) (cells_of row (cols_of fragment.second)) cell_count

module _ (schema : Schema) (sound : IsSoundSchema schema) (state : State) (legal : IsLegal schema.model state) where
  -- a table that a set owns
  module _ (t : TableId) (table : Table) (here : At schema.store.tables t.index table) (owner : SetId) (pairing : List Pair) (owned : IsOwned schema t owner pairing) (row : Row)
      (entity : Entity) (stands : StandsAt schema state owner pairing (row_key table row) entity) where
    -- a key column holds the value of the entity that stands at the row
    key_cell : (pair : Pair) → Contains pairing pair → cell_of row pair.col ≡ value_of schema.model entity pair.prop
    key_cell pair has =
        let columns : row_key table row ≡ cells_of row (cols_of pairing) = ap (map (cell_of row)) (sym (owned.cols ∙ key_columns_at schema.store t table here)) in
        sym (agree_by_map (λ (one : Pair). value_of schema.model entity one.prop) (λ (one : Pair). cell_of row one.col) pairing
        (stands.at_key ∙ columns ∙ map-map (cell_of row) (λ (one : Pair). one.col) pairing) pair has)

    -- the key in what pairs write of the row
    pub key_in_row : (pairs : List Pair) → AreApart (props_in pairs) → All (Contains pairs) pairing → (ty : TypeId)
        → key_props schema.model ty ≡ key_props schema.model owned.set.element
        → key_in_tuple schema.model ty pairs (cells_of row (cols_of pairs)) ≡ key_of schema.model entity
    key_in_row pairs apart writes ty is =
        let cells : List Value = cells_of row (cols_of pairs) in
        map_agree (λ (prop : PropId). value_beside prop (props_in pairs) cells) (value_of schema.model entity) (key_props schema.model ty) (λ prop has.
        let among : Contains (key_props schema.model owned.set.element) prop = subst (λ props. Contains props prop) is has in
        let found = map_contains (λ (pair : Pair). pair.prop) pairing prop
        (All-contains (Contains (props_in pairing)) (key_props schema.model owned.set.element) prop owned.paired among) in
        let pair : Pair = found.0 in
        let P : PropId → Type 0 = λ one. value_beside one (props_in pairs) cells ≡ value_of schema.model entity one in
        subst P found.2
        (ap (value_beside pair.prop (props_in pairs)) (map-map (cell_of row) (λ (one : Pair). one.col) pairs)
        ∙ beside_pair (λ (one : Pair). cell_of row one.col) pairs apart pair (All-contains (Contains pairs) pairing pair writes found.1)
        ∙ key_cell pair found.1))
        ∙ ap (map (value_of schema.model entity))
        (is ∙ sym (element_key schema (inherits_keys schema.model sound.model) t owner pairing owned state legal entity stands.stands))

  -- the key that is written at one end
  end_key_in : (ty : TypeId) (pairs : List Pair) (key : List Value) → length key ≡ length (key_props schema.model ty) → All (Contains (props_in pairs)) (key_props schema.model ty)
      → key_in_tuple schema.model ty pairs (values_in (end_cells schema.model ty pairs key)) ≡ key
  end_key_in ty pairs key count paired =
      let props : List PropId = key_props schema.model ty in
      let value : PropId → Value = λ prop. value_beside prop props key in
      let values : List Value = values_in (end_cells schema.model ty pairs key) in
      let written : values ≡ map value (props_in pairs) =
      map-map (λ (cell : ColId × Value). cell.1) (λ (pair : Pair). (pair.col, value pair.prop)) pairs ∙ sym (map-map value (λ (pair : Pair). pair.prop) pairs) in
      map_agree (λ (prop : PropId). value_beside prop (props_in pairs) values) value props (λ prop has.
      ap (value_beside prop (props_in pairs)) written ∙ beside_map value (props_in pairs) prop (All-contains (Contains (props_in pairs)) props prop paired has))
      ∙ key_beside props key (keys_apart schema.model sound.model ty) count

  module _ (fragment : LinkFragment) (mapped : Contains schema.mapping.links fragment) (assoc : Assoc) (is_assoc : At schema.model.assocs fragment.assoc.index assoc) (link : Link)
      (has : Contains (links_in state fragment.assoc) link) where
    is_sound : IsSoundLinkFragment schema fragment assoc
    is_sound = sound_link schema sound fragment mapped assoc is_assoc

    abbrev first_values : List Value
    first_values = values_in (end_cells schema.model assoc.first.ty fragment.first link.first)

    abbrev second_values : List Value
    second_values = values_in (end_cells schema.model assoc.second.ty fragment.second link.second)

    abbrev tuple : List Value
    tuple = values_in (link_cells schema.model assoc fragment link)

    tuple_split : tuple ≡ first_values ++ second_values
    tuple_split = map-append (λ (cell : ColId × Value). cell.1) (end_cells schema.model assoc.first.ty fragment.first link.first)
        (end_cells schema.model assoc.second.ty fragment.second link.second)

    value_count : length fragment.first ≡ length first_values
    value_count =
        sym (length-map (end_cells schema.model assoc.first.ty fragment.first link.first) (λ (cell : ColId × Value). cell.1)
        ∙ length-map fragment.first (λ (pair : Pair). (pair.col, value_beside pair.prop (key_props schema.model assoc.first.ty) link.first)))

    pub first_key_in : key_in_tuple schema.model assoc.first.ty fragment.first (take (length fragment.first) tuple) ≡ link.first
    first_key_in =
        ap (key_in_tuple schema.model assoc.first.ty fragment.first) (ap (take (length fragment.first)) tuple_split
        ∙ take_first (length fragment.first) first_values second_values value_count)
        ∙ end_key_in assoc.first.ty fragment.first link.first (link_is schema.model state legal fragment assoc is_assoc link has).first is_sound.first.all

    pub second_key_in : key_in_tuple schema.model assoc.second.ty fragment.second (drop (length fragment.first) tuple) ≡ link.second
    second_key_in =
        ap (key_in_tuple schema.model assoc.second.ty fragment.second) (ap (drop (length fragment.first)) tuple_split
        ∙ drop_first (length fragment.first) first_values second_values value_count)
        ∙ end_key_in assoc.second.ty fragment.second link.second (link_is schema.model state legal fragment assoc is_assoc link has).second is_sound.second.all

    -- the keys in a link's tuple
    pub keys_in : keys_in_tuple schema.model assoc fragment tuple ≡ link.first ++ link.second
    keys_in = ap₂ (λ first second. first ++ second) first_key_in second_key_in
