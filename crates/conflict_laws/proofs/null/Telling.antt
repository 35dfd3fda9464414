-- Null in a column that isn't nullable, in the row of an entity: the pattern of its region lists a symbol there that can be null, or none.
use Rattle.std.proofs.Common.{◌&&◌, List, Bool, Contains, IsTrue, refl, sym, subst}
use Rattle.round_trip.specs.Words.{AssocId, DemandsCell, IsLegal, Place, PropId, SetId, State, Value, key_of}
use Rattle.round_trip.specs.FailsAt.{LeavesNull}
use Rattle.round_trip.specs.declared.FailKind.TheVariants as kind
use Rattle.regions.specs.declared.region.Region.{Region}
use Rattle.regions.specs.declared.pattern.Focus.TheVariants as focus
use Rattle.regions.specs.declared.pattern.Symbol.{Symbol}
use Rattle.regions.specs.Basis.{Basis}
use Rattle.regions.specs.Patterns.{Valuation, by_entity, cell_symbols, pattern_of, value_under, writings_of}
use Rattle.regions.specs.Settled.{possible}
use Rattle.regions.specs.region_laws.IsBasis.{IsBasis}
use Rattle.regions.specs.region_laws.Partners.{HasFewPartners, part_by}
use Rattle.regions.specs.region_laws.pattern.Allowed.{CanBe}
use Rattle.regions.specs.region_laws.pattern.Listed.{HasCell}
use Rattle.regions.specs.region_laws.Held.{IsAtRow, IsHeldAt, LinkedEntity}
use Rattle.regions.proofs.region_laws.pattern.Laws.{symbol_possible}
use Rattle.region_states.specs.focus.Held.{HasRow}
use Rattle.region_states.proofs.focus.Demanded.{cells, rows}
use Rattle.region_states.proofs.focus.Flags.{held_at, some_region}
use Rattle.region_states.proofs.focus.Partners.{linked_allowed}
use Rattle.region_states.specs.conflicts.Conflicts.{IsConflictAt}
use Rattle.region_states.specs.conflicts.Facts.{can_be_null, has_row, is_null_in, is_required, listed_in, stands_for_null}
use Rattle.region_states.specs.conflicts.There.{FailsThere, IsRowOf}
use Rattle.region_states.specs.declared.conflicts.conflict.Conflict.{Conflict}
use Rattle.region_states.specs.declared.conflicts.conflict.Conflict.TheVariants as conflict
use Rattle.conflict_laws.proofs.clash.Listed.{cell_is}
use Rattle.conflict_laws.proofs.null.Listed.{Decides-row, cell_there}
use Rattle.conflict_laws.proofs.null.Nulls.{null_possible, some_stands}
use Rattle.conflict_laws.proofs.null.Required.{required_told}

module _ (basis : Basis) (is : IsBasis basis) (s : SetId) (state : State) (legal : IsLegal basis.schema.model state) where
  module _ (place : Place) (leaves : LeavesNull basis.schema state place) (row : IsRowOf basis state s leaves.t leaves.key) (region : Region)
      (part : AssocId → Bool → PropId → Value) (held : IsHeldAt basis state s row.entity region part) where
    abbrev linked : LinkedEntity basis
    linked = record { state = state; legal = legal; s = s; entity = row.entity; region = region; part = part; held = held }

    abbrev values : Valuation
    values = by_entity basis.schema.model row.entity part

    at_row : IsAtRow basis state s row.entity leaves.t leaves.key
    at_row = record { pairing = row.pairing; owned = row.owned; at = row.at }

    pattern_has : HasRow (pattern_of basis (focus.Entity region)) leaves.t
    pattern_has = (rows basis is linked leaves.t leaves.key at_row).0 leaves.demands_row

    abbrev cell : List Symbol
    cell = cell_symbols (writings_of basis (focus.Entity region)) leaves.t leaves.col

    here : HasCell (pattern_of basis (focus.Entity region)) leaves.t leaves.col cell
    here = cell_there basis is (focus.Entity region) leaves.t leaves.col leaves.table leaves.column leaves.has_column pattern_has

    -- each listed symbol can be null, since its value is demanded
    each_null : (one : Symbol) → Contains cell one → IsTrue (can_be_null (possible basis.schema.model region.atoms one))
    each_null one listed =
        let demanded : DemandsCell basis.schema state leaves.t leaves.key leaves.col (value_under values one) =
        (cells basis is linked leaves.t leaves.key at_row leaves.col (value_under values one)).1 (one, (cell, here, listed), refl) in
        let P : Value → Type 0 = λ value. CanBe (possible basis.schema.model region.atoms one) value in
        null_possible (possible basis.schema.model region.atoms one)
        (subst P (leaves.no_value (value_under values one) demanded)
        (symbol_possible basis is (record { of = focus.Entity region; is_focus = (s, held.listed); values = values; allowed = linked_allowed basis is linked })
        leaves.t leaves.col one (cell, here, listed)))

    -- so some symbol stands for null
    null_in : (one : Symbol) × IsTrue (is_null_in basis (focus.Entity region) leaves.t leaves.col one)
    null_in =
        let found = some_stands basis (focus.Entity region) cell each_null in
        let Stands : List Symbol → Type 0 = λ list. IsTrue (stands_for_null basis (focus.Entity region) list found.0) in
        let stands : Stands (listed_in (pattern_of basis (focus.Entity region)) leaves.t leaves.col) =
        subst Stands (sym (cell_is basis (focus.Entity region) leaves.t leaves.col cell here)) found.1 in
        let has : IsTrue (has_row (pattern_of basis (focus.Entity region)) leaves.t) = (Decides-row (pattern_of basis (focus.Entity region)) leaves.t).1 pattern_has in
        let needed : IsTrue (is_required basis.schema.store leaves.t leaves.col) =
        required_told basis.schema leaves.t leaves.col leaves.table leaves.column leaves.has_column leaves.not_nullable in
        (found.0, λ k. has k && needed k && stands k)

    null_conflict : (found : Conflict) × IsConflictAt basis s kind.Null found
    null_conflict = (
      conflict.NullIn (focus.Entity region) leaves.t leaves.col null_in.0,
      record { of_kind = refl; of_set = held.listed; holds = null_in.1 },
    )

-- a failure there is a conflict of this kind
pub null_told : (basis : Basis) → IsBasis basis → (s : SetId) → HasFewPartners basis s → FailsThere basis s kind.Null
    → (found : Conflict) × IsConflictAt basis s kind.Null found
null_told basis is s few there =
    let leaves : LeavesNull basis.schema there.c there.place = there.fails.0 in
    let row : IsRowOf basis there.c s leaves.t leaves.key = there.fails.1 in
    let found = some_region basis is (record { state = there.c; legal = there.legal; s = s; entity = row.entity; stands = row.at.stands }) in
    null_conflict basis is s there.c there.legal there.place leaves row found.0 (part_by basis there.c s (key_of basis.schema.model row.entity))
    (held_at basis is (record { state = there.c; legal = there.legal; s = s; entity = row.entity; region = found.0; of_region = found.1 }) few)
