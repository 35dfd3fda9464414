-- What isn't touched stands in both states, and gives there the same rows.
use Rattle.std.proofs.Common.{◌≡◌, List, false, Contains, Option, Some, None, slice_get, unwrap_or, refl, sym, subst}
use Rattle.emc_base.proofs.Members.{contains_nil}
use Rattle.round_trip.specs.Words.{AssocId, EntityModel, Hosted, Link, State, key_of}
use Rattle.table_files.specs.declared.tables.TableRow.{TableRow}
use Rattle.table_owners.specs.declared.places.LinkPlace.{LinkPlace}
use Rattle.table_owners.specs.declared.places.LinkPlace.TheVariants as place
use Rattle.cells.specs.declared.cells.Cells.{Cells}
use Rattle.entity_changes.specs.declared.touched.Touched.{Touched}
use Rattle.entity_changes.specs.Touching.{DifferOnlyAt, IsJoined}
use Rattle.delta_plan.specs.RowsOf.{Giving, link_rows, unit_rows}
use Rattle.delta_plan.specs.Units.{Unit, is_touched, of_entity, of_link, units_of}
use Rattle.delta_plan.proofs.resting.Members.{key_untouched, link_untouched, stands, unit_of_entity, unit_of_link}

-- the other way round too
pub differ_back : (model : EntityModel) (cells : Cells) (touched : Touched) (old new : State) → DifferOnlyAt model cells touched old new
    → DifferOnlyAt model cells touched new old
differ_back model cells touched old new differ = record {
  entities = λ s entity apart. (let both = differ.entities s entity apart in (both.1, both.0));
  hosted = λ s entity apart has. sym (differ.hosted s entity apart ((differ.entities s entity apart).1 has));
  links = λ a link joined apart. (let both = differ.links a link joined apart in (both.1, both.0));
}

-- only a joined link has a row
pub joined_row : (cells : Cells) (a : AssocId) (joined : Option (Link → TableRow)) (link : Link) (one : TableRow)
    → Contains (link_rows (unwrap_or (slice_get cells.places a.index) place.Unmapped) joined link) one → IsJoined cells a
joined_row cells a joined link one has = by (slice_get cells.places a.index) refl has
  where
    at_place : (spot : LinkPlace) → slice_get cells.places a.index ≡ Some spot → Contains (link_rows spot joined link) one → IsJoined cells a
    at_place (place.Joined number) is there = (number, is)
    at_place (place.Hosted first number) is there = absurd (contains_nil one there)
    at_place place.Unmapped is there = absurd (contains_nil one there)
    at_place place.Constraint is there = absurd (contains_nil one there)

    by : (found : Option LinkPlace) → slice_get cells.places a.index ≡ found → Contains (link_rows (unwrap_or found place.Unmapped) joined link) one
        → IsJoined cells a
    by None is there = absurd (contains_nil one there)
    by (Some spot) is there = at_place spot is there

module _ (gives : Giving) (model : EntityModel) (cells : Cells) (touched : Touched) (old new : State) (differ : DifferOnlyAt model cells touched old new) where
  -- a unit that has a row and isn't touched stands in the other state, and has this row there
  pub stays : (unit : Unit) → is_touched model touched unit ≡ false → Contains (units_of old) unit → (one : TableRow)
      → Contains (unit_rows gives model cells old unit) one
      → Contains (units_of new) unit × Contains (unit_rows gives model cells new unit) one
  stays (of_entity s entity) apart has one gave =
      let away = key_untouched touched s (key_of model entity) apart in
      let stood = stands old (of_entity s entity) has in
      let Has : List Hosted → Type 0 = λ hosted. Contains (gives.local s entity hosted) one in
      (unit_of_entity new s entity ((differ.entities s entity away).0 stood), subst Has (differ.hosted s entity away stood) gave)
  stays (of_link a link) apart has one gave =
      let joined = joined_row cells a (gives.joined a) link one gave in
      (unit_of_link new a link ((differ.links a link joined (link_untouched touched a link apart)).0 (stands old (of_link a link) has)), gave)
