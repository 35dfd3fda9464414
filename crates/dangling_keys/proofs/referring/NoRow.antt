-- Where an entity has the key that is shown, and its region has no row of the table, the row that refers finds none.
use Rattle.std.proofs.Common.{◌≡◌, inl, inr, List, Contains, Bool, Some, sym, subst, ◌∙◌}
use Rattle.std.proofs.lemmas.List.Elements.{All-contains}
use Rattle.round_trip.specs.Words.{DemandsRow, Entity, ForeignKey, Pair, PropId, Row, SetId, State, Value, cells_of, rows_in, value_of}
use Rattle.schema_laws.specs.state_demand.Owners.{IsOwned, paired_key}
use Rattle.schema_laws.proofs.sound_demand.owners.OneOwner.{one_owner, owned_or_joined}
use Rattle.schema_laws.proofs.state_demand.lists.Places.{map_agree}
use Rattle.regions.specs.Basis.{Basis}
use Rattle.regions.specs.Patterns.{Valuation, pattern_of, value_under}
use Rattle.regions.specs.Settled.{Settled, free}
use Rattle.regions.specs.declared.pattern.Focus.{Focus}
use Rattle.regions.specs.declared.pattern.Focus.TheVariants as focus
use Rattle.regions.specs.declared.pattern.Symbol.{Symbol}
use Rattle.regions.specs.region_laws.Held.{IsAtRow, LinkedEntity}
use Rattle.regions.specs.region_laws.IsBasis.{IsBasis}
use Rattle.regions.specs.region_laws.pattern.Allowed.{AllowedFocus}
use Rattle.region_states.specs.focus.Held.{HasRow, IsRowOfOne}
use Rattle.region_states.proofs.focus.Demanded.{rows}
use Rattle.forced_entities.specs.Forced.{part_in}
use Rattle.forced_entities.specs.declared.member.Forced.{Forced}
use Rattle.dangling_keys.specs.Dangling.{OwnsTable}
use Rattle.dangling_keys.specs.Showing.{Fits, IsShownPart, shown_at}
use Rattle.dangling_keys.proofs.told.Rows.{HoldsSettled, shown_is}
use Rattle.dangling_keys.proofs.referring.Target.{IsShown, target_demand, target_key, target_of, target_shows}

-- the entity has the key that is shown
abbrev pub HasShownKey : Basis → Focus → ForeignKey → Valuation → List Pair → Entity → Type 0
HasShownKey basis of key values pairing x = (pair : Pair) → Contains pairing pair
    → (one : Symbol) × (nullable : Bool) × (shown_at basis of key pair.col ≡ free one nullable) × (value_of basis.schema.model x pair.prop ≡ value_under values one)

-- one whose key is that of an entity that fits has it
pub fitting_shown : (basis : Basis) (of : Focus) (key : ForeignKey) (values : Valuation) (u : SetId) (pairing : List Pair) (one : Forced) (x : Entity) → Fits basis of key u pairing one
    → ((p : PropId) (part : Symbol) → part_in basis one p ≡ Some part → value_of basis.schema.model x p ≡ value_under values part) → HasShownKey basis of key values pairing x
fitting_shown basis of key values u pairing one x by parts pair has =
    let found = shown_is (shown_at basis of key pair.col) (part_in basis one pair.prop) (All-contains (λ (p : Pair). IsShownPart (shown_at basis of key p.col) (part_in basis one p.prop)) pairing pair by.parts has) in
    (found.0, found.1, found.2, parts pair.prop found.0 found.3)

module _ (basis : Basis) (is : IsBasis basis) (told : AllowedFocus basis) (key : ForeignKey) (c : State) (shown : IsShown basis told key c) (u : SetId) (pairing : List Pair) (owns : OwnsTable basis key.to u pairing)
    (linked : LinkedEntity basis) (state_is : linked.state ≡ c) (set_is : linked.s ≡ u) (keyed : HasShownKey basis told.of key told.values pairing linked.entity)
    (lacks : ¬ HasRow (pattern_of basis (focus.Entity linked.region)) key.to) where
  module _ (target : Row) (at_target : Contains (rows_in shown.tables key.to) target) (alike : cells_of target key.to_cols ≡ cells_of shown.row key.from_cols) where
    abbrev at_key : List Value
    at_key = target_key basis is told key c shown target at_target alike

    none_of : IsRowOfOne basis c key.to at_key → ⊥
    none_of (inr (fragment, assoc, link, at)) = owned_or_joined basis.schema is.sound key.to u pairing fragment assoc owns.owned at.joined
    none_of (inl (v, e, at)) =
        let same = one_owner basis.schema is.sound key.to v u at.pairing pairing at.owned owns.owned owns.written in
        let value : Entity → Pair → Value = λ entity pair. value_of basis.schema.model entity pair.prop in
        let alike_keys : paired_key basis.schema.model at.pairing linked.entity ≡ paired_key basis.schema.model at.pairing e =
        map_agree (value linked.entity) (value e) at.pairing (λ pair has.
        (let mine = keyed pair (subst (λ (list : List Pair). Contains list pair) same.1 has) in
        let held = subst (λ (cell : Settled). HoldsSettled told.values cell (value e pair)) mine.2 (target_shows basis is told key c shown target at_target alike v e at pair has) in
        mine.3 ∙ sym held.0)) in
        let stands_at : IsAtRow basis linked.state linked.s linked.entity key.to at_key = record {
          pairing = at.pairing;
          owned = subst (λ (w : SetId). IsOwned basis.schema key.to w at.pairing) (same.0 ∙ sym set_is) at.owned;
          at = record { stands = linked.held.stands; at_key = alike_keys ∙ at.at.at_key };
        } in
        lacks ((rows basis is linked key.to at_key stands_at).0
        (subst (λ (state : State). DemandsRow basis.schema state key.to at_key) (sym state_is) (target_demand basis is told key c shown target at_target alike)))

    pub none_found : ⊥
    none_found = none_of (target_of basis is told key c shown target at_target alike)
