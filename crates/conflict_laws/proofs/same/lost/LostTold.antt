-- Where one region holds two entities of one key in states with the same tables, a property in which they differ is lost.
use Rattle.std.proofs.Common.{◌≡◌, ◌≢◌, ◌&&◌, Bool, true, false, not, Contains, IsTrue, refl, sym, ap, subst, ◌∙◌}
use Rattle.std.proofs.lemmas.Bool.{and_from, false_from_ne_true, not_from_false}
use Rattle.round_trip.specs.Words.{SetId, TableId, ColId, AssocId, PropId, Entity, EntitySet, State, Tables, Value, At, key_of, key_props, props_of, value_of}
use Rattle.regions.specs.declared.region.Region.{Region}
use Rattle.regions.specs.declared.pattern.Focus.TheVariants as focus
use Rattle.regions.specs.declared.pattern.Symbol.TheVariants as symbol
use Rattle.regions.specs.Basis.{Basis}
use Rattle.regions.specs.Patterns.{by_entity, pattern_of}
use Rattle.regions.specs.Settled.{Possible, multi, possible, single}
use Rattle.regions.specs.region_laws.IsBasis.{IsBasis}
use Rattle.regions.specs.region_laws.pattern.Allowed.{IsAllowed}
use Rattle.regions.specs.region_laws.pattern.Listed.{Lists}
use Rattle.regions.specs.region_laws.Held.{IsHeldAt}
use Rattle.schema_laws.proofs.short_values.Places.{Decides-among}
use Rattle.region_states.specs.conflicts.SameFacts.{is_lost, is_multi, is_one_of, lists_anywhere}
use Rattle.region_states.proofs.focus.Partners.{linked_allowed}
use Rattle.conflict_laws.specs.rival.Alike.{AreWrittenAlike, IsClear}
use Rattle.conflict_laws.proofs.rival.Reading.{somewhere}
use Rattle.conflict_laws.proofs.same.rows.Cells.{value_is}
use Rattle.conflict_laws.proofs.same.states.Entities.{property_differs, single_value}
use Rattle.conflict_laws.proofs.same.states.Legal.{key_parts, parts_alike}
use Rattle.conflict_laws.proofs.same.rows.Rows.{HaveSameTables, written_alike, at_x, at_y}

-- what can't have one value alone may have several
several_or_one : (can : Possible) → ((v : Value) → ¬ (can ≡ single v)) → is_multi can ≡ true
several_or_one (single v) never = absurd (never v refl)
several_or_one (multi nullable) never = refl

module _ (basis : Basis) (is : IsBasis basis) (s : SetId) (set : EntitySet) (is_set : At basis.schema.model.sets s.index set) (c d : State) (tables others : Tables)
    (have : HaveSameTables basis c d tables others) (x y : Entity) (keyed : key_of basis.schema.model x ≡ key_of basis.schema.model y) (different : x ≢ y) (region : Region)
    (part : AssocId → Bool → PropId → Value) (held_x : IsHeldAt basis c s x region part) (held_y : IsHeldAt basis d s y region part) (clear : IsClear basis region) where
  -- they are written alike
  alike : AreWrittenAlike basis region region (by_entity basis.schema.model x part) (by_entity basis.schema.model y part)
  alike = written_alike basis is c d tables others have s x y keyed region region part part held_x held_y clear clear

  -- with values that the region allows
  allowed_x : IsAllowed basis region (by_entity basis.schema.model x part)
  allowed_x = linked_allowed basis is (at_x basis is c d tables others have s x y keyed region region part part held_x held_y)

  allowed_y : IsAllowed basis region (by_entity basis.schema.model y part)
  allowed_y = linked_allowed basis is (at_y basis is c d tables others have s x y keyed region region part part held_x held_y)

  -- a listed property has one value, that of its cell
  listed_same : (t : TableId) (col : ColId) (p : PropId) → Lists (pattern_of basis (focus.Entity region)) t col (symbol.Prop p)
      → value_of basis.schema.model x p ≡ value_of basis.schema.model y p
  listed_same t col p (cell, has, listed) =
      value_is basis is s region held_x.listed clear (by_entity basis.schema.model x part) allowed_x t col cell has (symbol.Prop p) listed
      ∙ alike.cells t col cell cell has has
      ∙ sym (value_is basis is s region held_x.listed clear (by_entity basis.schema.model y part) allowed_y t col cell has (symbol.Prop p) listed)

  -- and so has a property that can have one value alone
  single_same : (p : PropId) (v : Value) → possible basis.schema.model region.atoms (symbol.Prop p) ≡ single v
      → value_of basis.schema.model x p ≡ value_of basis.schema.model y p
  single_same p v can = single_value basis region (by_entity basis.schema.model x part) allowed_x p v can
      ∙ sym (single_value basis region (by_entity basis.schema.model y part) allowed_y p v can)

  -- and a part of the key
  key_same : (p : PropId) → Contains (key_props basis.schema.model region.ty) p → value_of basis.schema.model x p ≡ value_of basis.schema.model y p
  key_same p key =
      let types : key_props basis.schema.model region.ty ≡ key_props basis.schema.model set.element =
      ap (key_props basis.schema.model) (sym held_x.holds.typed) ∙ key_parts basis.schema is.sound s set is_set c have.legal_c x held_x.stands in
      parts_alike basis.schema is.sound s set is_set c d have.legal_c have.legal_d x y held_x.stands held_y.stands keyed p (subst (λ props. Contains props p) types key)

  -- so one in which they differ is lost
  pub lost_told : (p : PropId) × IsTrue (is_lost basis region p)
  lost_told =
      let found = property_differs basis.schema.model is.sound.model c d have.legal_c have.legal_d s x y held_x.stands held_y.stands (held_x.holds.typed ∙ sym held_y.holds.typed) different in
      let p : PropId = found.0 in
      let among : Contains (props_of basis.schema.model region.ty) p = subst (λ t. Contains (props_of basis.schema.model t) p) held_x.holds.typed found.1 in
      let is_prop : Bool = is_one_of p (props_of basis.schema.model region.ty) in
      let is_key : Bool = is_one_of p (key_props basis.schema.model region.ty) in
      let several : Bool = is_multi (possible basis.schema.model region.atoms (symbol.Prop p)) in
      let listed : Bool = lists_anywhere (pattern_of basis (focus.Entity region)) (symbol.Prop p) in
      let no_key : is_key ≡ false = false_from_ne_true is_key (λ told. found.2 (key_same p ((Decides-among (key_props basis.schema.model region.ty) p).0 told))) in
      let unlisted : listed ≡ false = false_from_ne_true listed (λ told.
      let at = somewhere (pattern_of basis (focus.Entity region)) (symbol.Prop p) told in found.2 (listed_same at.0 at.1 p at.2)) in
      let lost : IsTrue (is_lost basis region p) =
      and_from ((is_prop && not is_key) && several) (not listed)
      (and_from (is_prop && not is_key) several
      (and_from is_prop (not is_key) ((Decides-among (props_of basis.schema.model region.ty) p).1 among) (not_from_false is_key no_key))
      (several_or_one (possible basis.schema.model region.atoms (symbol.Prop p)) (λ v can. found.2 (single_same p v can))))
      (not_from_false listed unlisted) in
      (p, lost)
