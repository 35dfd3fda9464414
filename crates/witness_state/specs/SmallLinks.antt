-- What states with links of an association are made of.
-- Source: this project's choice of the states that it shows.
use Rattle.std.specs.Prelude.{◌≡◌, ◌==◌, ℕ, List, [], ◌∷◌, map, flat_map, find, Contains, Bool, not}
use Rattle.std.specs.Option.{option_map_or}
use Rattle.round_trip.specs.Words.{AssocId, Assoc, EntityModel, Null, Pair, PropId, Row, TableId, TypeId, Value, cell_of, key_props}
use Rattle.regions.specs.declared.pattern.Pattern.{Pattern}
use Rattle.regions.specs.declared.pattern.PatternRow.{PatternRow}
use Rattle.population.specs.LinkStates.{PlainEnd, at_first, at_second, entity_at, key_at, of_assoc, other_at, other_link, placed_at, plain_link}
use Rattle.population.specs.Principals.{principals}
use Rattle.population.specs.Support.{support}
use Rattle.population.specs.declared.placed.PlacedKey.{PlacedKey}
use Rattle.population.specs.declared.placed.PlacedLink.{PlacedLink}
use Rattle.population.specs.declared.placed.Supporting.{Supporting}
use Rattle.witness_state.specs.declared.small_links.ends.EndAt.{EndAt}

-- an end that is lent, as it is
abbrev pub plain_end : EndAt → PlainEnd
plain_end one = record { end = one.end.now; index = one.index }

module _ (model : EntityModel) (outer : ℕ) where
  -- the key of the entity at an end, in its set
  abbrev pub root_at : PlainEnd → PlacedKey
  root_at one = record { set = one.end.set; key = key_at model outer one }

  -- what a state with the plain entities at these ends and with these links is made of
  abbrev pub supporting : List PlainEnd → List PlacedLink → Supporting
  supporting ends links = record {
    given = map (placed_at model outer) ends;
    keys = support model outer (map (placed_at model outer) ends) (flat_map (λ one. principals model one.end.set (entity_at model outer one)) ends);
    links = links;
  }

  -- both ends of an association, and those with a second partner of the entity at this end
  abbrev pub two_ends : Assoc → List PlainEnd
  two_ends assoc = at_first model outer assoc ∷ (at_second model outer assoc ∷ [])

  abbrev pub three_ends : Bool → Assoc → List PlainEnd
  three_ends first assoc = at_first model outer assoc ∷ (at_second model outer assoc ∷ (other_at model outer (not first) assoc ∷ []))

  -- the state with the link, that without it, and that in which the entity at this end has two partners
  abbrev pub linked : AssocId → Assoc → Supporting
  linked a assoc = supporting (two_ends assoc) (of_assoc model outer a (plain_link model outer assoc) ∷ [])

  abbrev pub unlinked : Assoc → Supporting
  unlinked assoc = supporting (two_ends assoc) []

  abbrev pub shared : AssocId → Assoc → Bool → Supporting
  shared a assoc first =
      supporting (three_ends first assoc) (of_assoc model outer a (plain_link model outer assoc) ∷ (of_assoc model outer a (other_link model outer first assoc) ∷ []))

-- the pattern has this row of the table
pub record IsRowAt (pattern : Pattern) (t : TableId) (row : PatternRow) : Type 0 where
  pub among : Contains pattern.rows row
  pub of_table : row.table ≡ t

-- the cell of a row where the first of these pairs writes the property; null where none does
abbrev pub part_in_row : Row → List Pair → PropId → Value
part_in_row row pairs p = option_map_or (λ pair. cell_of row pair.col) (find (λ pair. pair.prop.index == p.index) pairs) Null

-- the key of a type as the cells hold it
abbrev pub end_in_row : EntityModel → Row → TypeId → List Pair → List Value
end_in_row model row ty pairs = map (part_in_row row pairs) (key_props model ty)
