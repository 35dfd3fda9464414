-- A row that refers and finds none, in a legal state: a foreign key dangles at the focus whose row it is.
use Rattle.std.proofs.Common.{◌≡◌, ◌⊎◌, ◌↔◌, ⊎_elim, inl, inr, List, map, Any, Contains, Option, Some, None, refl, sym, ap, subst, ◌∙◌}
use Rattle.std.proofs.lemmas.List.Elements.{All-contains}
use Rattle.std.proofs.lemmas.Option.{same_Some}
use Rattle.emc_base.proofs.Members.{in_map}
use Rattle.round_trip.specs.Words.{Assoc, ColId, DemandsCell, DemandsRow, Entity, FailsAt, ForeignKey, Fragment, IsA, IsLegal, IsWritten, Link, LinkFragment, Pair, Place, PropId, Row, Schema, SetId, State, TableId, TablesAre, TypeId, Value, cell_of, cells_of, entities_in, key_of, key_props, row_key, rows_in, value_of}
use Rattle.round_trip.specs.FailsAt.{Dangles}
use Rattle.round_trip.specs.declared.FailKind.TheVariants as kind
use Rattle.edm_types.specs.IsA.{same as itself}
use Rattle.round_trip.proofs.Lookups.{key_columns_at}
use Rattle.schema_laws.specs.state_demand.Owners.{IsJoinedTo, IsOwned, IsUnwritten, paired_key}
use Rattle.schema_laws.specs.state_demand.WellWritten.{cols_of}
use Rattle.schema_laws.proofs.sound_demand.Local.{is_local}
use Rattle.schema_laws.proofs.sound_demand.owners.OneOwner.{one_owner, owned_or_joined}
use Rattle.schema_laws.proofs.sound_demand.owners.Owned.{has_owner, table_or_not}
use Rattle.schema_laws.proofs.state_demand.lists.Lists.{any_of, any_or_none, of_any}
use Rattle.schema_laws.proofs.state_demand.lists.Places.{map_agree}
use Rattle.schema_laws.proofs.state_demand.tables.ReadBack.{cells_demanded, row_demanded}
use Rattle.cells.specs.Limits.{IsWithinLimits}
use Rattle.regions.specs.Basis.{Basis}
use Rattle.regions.specs.Patterns.{by_entity, by_link, pattern_of, value_under}
use Rattle.regions.specs.Settled.{Settled}
use Rattle.regions.specs.declared.pattern.Focus.{Focus}
use Rattle.regions.specs.declared.pattern.Focus.TheVariants as focus
use Rattle.regions.specs.declared.pattern.Symbol.TheVariants as symbol
use Rattle.regions.specs.declared.region.Region.{Region}
use Rattle.regions.specs.region_laws.IsBasis.{IsBasis}
use Rattle.regions.specs.region_laws.Held.{IsAtLinkRow, IsAtRow, LinkRow, LinkedEntity, StandingLink}
use Rattle.regions.specs.region_laws.Partners.{part_by}
use Rattle.regions.specs.region_laws.pattern.Allowed.{AllowedFocus}
use Rattle.regions.proofs.region_laws.listing.Listed.{set_is}
use Rattle.region_states.specs.focus.Held.{HasRow, IsRowOfOne, ListsValue}
use Rattle.region_states.specs.conflicts.There.{NoneFailsBy}
use Rattle.region_states.proofs.focus.Demanded.{cells, link_cells, link_rows, row_of_one, rows}
use Rattle.region_states.proofs.focus.Flags.{held_at, some_region}
use Rattle.region_states.proofs.focus.Partners.{linked_allowed}
use Rattle.host_states.specs.Hosting.{HaveFewPartners}
use Rattle.host_states.proofs.FewPartners.{few_by_clear}
use Rattle.conflict_laws.proofs.same.rows.Rows.{row_of_pattern}
use Rattle.failure_laws.proofs.links.LinkRows.{told_link}
use Rattle.population.proofs.plain.Placed.{place_of}
use Rattle.forced_entities.specs.Forced.{own_member, part_in}
use Rattle.forced_entities.specs.Held.{HoldsForced}
use Rattle.forced_entities.specs.declared.member.Forced.{Forced}
use Rattle.forced_entities.proofs.Holds.{entity_forces, link_forces}
use Rattle.forced_entities.proofs.Beside.{part_among, part_map}
use Rattle.dangling_keys.specs.Dangling.{IsRowFocus, IsDangling, IsOwn, IsThere, LacksRow, OwnsTable}
use Rattle.dangling_keys.specs.Members.{members, own_members}
use Rattle.dangling_keys.specs.Showing.{Fits, IsShownPart, MayRefer, col_beside, not_null_for, shown_at}
use Rattle.dangling_keys.specs.declared.key.DanglingKey.{DanglingKey}
use Rattle.dangling_keys.proofs.told.Matching.{alike_found, pair_alike}
use Rattle.dangling_keys.proofs.told.Members.{in_members, in_own, some_fits}
use Rattle.dangling_keys.proofs.told.Rows.{HoldsSettled, key_sound, may_refer_to, not_null_there, pair_shown, shown_is}

-- each entity of a legal state is of a region, with few partners
abbrev pub linked_by : (basis : Basis) → IsBasis basis → HaveFewPartners basis → (c : State) → IsLegal basis.schema.model c → (u : SetId) (entity : Entity) → Contains (entities_in c u) entity → LinkedEntity basis
linked_by basis is few c legal u entity stands =
    let found = some_region basis is (record { state = c; legal = legal; s = u; entity = entity; stands = stands }) in
    record {
      state = c;
      legal = legal;
      s = u;
      entity = entity;
      region = found.0;
      part = part_by basis c u (key_of basis.schema.model entity);
      held = held_at basis is (record { state = c; legal = legal; s = u; entity = entity; region = found.0; of_region = found.1 }) (few u);
    }

-- a region of a focus is the focus's
same_region : (one two : Region) → focus.Entity one ≡ focus.Entity two → one ≡ two
same_region one two same = cc

-- whether something writes the table
written_or_not : (schema : Schema) (t : TableId) → IsWritten schema.mapping t ⊎ ¬ IsWritten schema.mapping t
written_or_not schema t = ⊎_elim
    (λ (some : (fragment : Fragment) × Contains schema.mapping.fragments fragment × (fragment.table ≡ t)). inl (inl (any_of (λ (fragment : Fragment). fragment.table ≡ t) schema.mapping.fragments some.0 some.1 some.2)))
    (λ (none : (fragment : Fragment) → Contains schema.mapping.fragments fragment → ¬ (fragment.table ≡ t)). ⊎_elim
    (λ (some : (fragment : LinkFragment) × Contains schema.mapping.links fragment × (fragment.table ≡ t)). inl (inr (any_of (λ (fragment : LinkFragment). fragment.table ≡ t) schema.mapping.links some.0 some.1 some.2)))
    (λ (no_link : (fragment : LinkFragment) → Contains schema.mapping.links fragment → ¬ (fragment.table ≡ t)). inr (λ written. ⊎_elim
    (λ (any : Any (λ (fragment : Fragment). fragment.table ≡ t) schema.mapping.fragments). let found = of_any (λ (fragment : Fragment). fragment.table ≡ t) schema.mapping.fragments any in none found.0 found.1 found.2)
    (λ (any : Any (λ (fragment : LinkFragment). fragment.table ≡ t) schema.mapping.links). let found = of_any (λ (fragment : LinkFragment). fragment.table ≡ t) schema.mapping.links any in no_link found.0 found.1 found.2)
    written))
    (any_or_none (λ (fragment : LinkFragment). fragment.table ≡ t) (λ fragment. table_or_not fragment.table t) schema.mapping.links))
    (any_or_none (λ (fragment : Fragment). fragment.table ≡ t) (λ fragment. table_or_not fragment.table t) schema.mapping.fragments)

pub never_written : (schema : Schema) (t : TableId) → IsUnwritten schema t → IsWritten schema.mapping t → ⊥
never_written schema t nothing (inl any) =
    let found = of_any (λ (fragment : Fragment). fragment.table ≡ t) schema.mapping.fragments any in
    All-contains (λ (fragment : Fragment). ¬ (fragment.table ≡ t)) schema.mapping.fragments found.0 nothing.fragments found.1 found.2
never_written schema t nothing (inr any) =
    let found = of_any (λ (fragment : LinkFragment). fragment.table ≡ t) schema.mapping.links any in
    All-contains (λ (fragment : LinkFragment). ¬ (fragment.table ≡ t)) schema.mapping.links found.0 nothing.links found.1 found.2

-- the entity of a region stands, told by its own properties
abbrev pub own_holds : (basis : Basis) (at : LinkedEntity basis) → HoldsForced basis at.state (by_entity basis.schema.model at.entity at.part) (own_member basis at.region)
own_holds basis at = record {
  entity = at.entity;
  stands = subst (λ (s : SetId). Contains (entities_in at.state s) at.entity) (sym (set_is basis at.s at.region at.held.listed)) at.held.stands;
  typed = subst (λ (t : TypeId). IsA basis.schema.model at.entity.ty t) at.held.holds.typed (itself at.entity.ty);
  parts = λ p one is.
      (let keys = key_props basis.schema.model at.region.ty in
      let among = part_among keys (map (λ (q : PropId). Some (symbol.Prop q)) keys) p one is in
      let told : Some (symbol.Prop p) ≡ Some one = sym (part_map (λ (q : PropId). Some (symbol.Prop q)) keys p among) ∙ is in
      ap (value_under (by_entity basis.schema.model at.entity at.part)) (same_Some (symbol.Prop p) one told));
}

module _ (basis : Basis) (is : IsBasis basis) (limits : IsWithinLimits basis.schema) (few : HaveFewPartners basis) (c : State) (legal : IsLegal basis.schema.model c)
    (place : Place) (fails : Dangles basis.schema c place) where
  abbrev key : ForeignKey
  key = fails.key

  abbrev row : Row
  row = fails.row

  abbrev row_at : List Value
  row_at = row_key fails.table row

  module _ (told : AllowedFocus basis) (of_row : HasRow (pattern_of basis told.of) key.from)
      (cells_are : (col : ColId) (value : Value) → DemandsCell basis.schema c key.from row_at col value ↔ ListsValue (pattern_of basis told.of) told.values key.from col value)
      (stands : (one : Forced) → IsThere basis told.of key one → HoldsForced basis c told.values one) where
    abbrev Fitting : SetId → List Pair → Forced → Type 0
    Fitting u pairing one = Fits basis told.of key u pairing one

    -- the entities that stand for members which have the key that is shown
    module _ (u : SetId) (pairing : List Pair) (owns : OwnsTable basis key.to u pairing) where
      shown : (pair : Pair) → Contains pairing pair → (from : ColId) × (col_beside pair.col key.to_cols key.from_cols ≡ Some from)
          × HoldsSettled told.values (shown_at basis told.of key pair.col) (cell_of row from)
      shown = pair_shown basis is told c key.from fails.table fails.is_table row cells_are (cells_demanded basis.schema c fails.tables fails.defined key.from fails.table fails.is_table row fails.is_row)
          key fails.is_key refl of_row pairing owns.owned.cols

      -- a part of the key is what the row holds
      keyed : (one : Forced) → Fitting u pairing one → (holds : HoldsForced basis c told.values one) → (pair : Pair) (has : Contains pairing pair)
          → value_of basis.schema.model holds.entity pair.prop ≡ cell_of row (shown pair has).0
      keyed one by holds pair has =
          let part = All-contains (λ (p : Pair). IsShownPart (shown_at basis told.of key p.col) (part_in basis one p.prop)) pairing pair by.parts has in
          let found = shown_is (shown_at basis told.of key pair.col) (part_in basis one pair.prop) part in
          let held = subst (λ (cell : Settled). HoldsSettled told.values cell (cell_of row (shown pair has).0)) found.2 (shown pair has).2 in
          holds.parts pair.prop found.0 found.3 ∙ sym held.0

      here : (one : Forced) → Fitting u pairing one → (holds : HoldsForced basis c told.values one) → Contains (entities_in c u) holds.entity
      here one by holds = subst (λ (v : SetId). Contains (entities_in c v) holds.entity) by.of_set holds.stands

      -- all such are one
      one_entity : (one other : Forced) → Fitting u pairing one → Fitting u pairing other → (first : HoldsForced basis c told.values one) (second : HoldsForced basis c told.values other)
          → first.entity ≡ second.entity
      one_entity one other by too first second =
          let value : Entity → Pair → Value = λ entity pair. value_of basis.schema.model entity pair.prop in
          let alike : paired_key basis.schema.model pairing second.entity ≡ paired_key basis.schema.model pairing first.entity =
          map_agree (value second.entity) (value first.entity) pairing (λ pair has. keyed other too second pair has ∙ sym (keyed one by first pair has)) in
          (is_local basis.schema is.sound c legal key.to u pairing owns.owned).one (paired_key basis.schema.model pairing first.entity) first.entity second.entity
          (record { stands = here one by first; at_key = refl }) (record { stands = here other too second; at_key = alike })

      -- it has no row of the table: the row that refers would find it
      lacks : (one : Forced) → Fitting u pairing one → (holds : HoldsForced basis c told.values one) (linked : LinkedEntity basis) → (state_is : linked.state ≡ c) → linked.s ≡ u → linked.entity ≡ holds.entity
          → ¬ HasRow (pattern_of basis (focus.Entity linked.region)) key.to
      lacks one by holds linked state_is of_set of_entity has_row =
          let are : TablesAre basis.schema linked.state fails.tables = subst (λ (s : State). TablesAre basis.schema s fails.tables) (sym state_is) fails.defined in
          let found = row_of_pattern basis is linked fails.tables are key.to has_row in
          let at : IsAtRow basis linked.state linked.s linked.entity key.to (row_key found.table found.row) = found.at_row in
          let owned : IsOwned basis.schema key.to u at.pairing = subst (λ (v : SetId). IsOwned basis.schema key.to v at.pairing) of_set at.owned in
          let same : pairing ≡ at.pairing = (one_owner basis.schema is.sound key.to u u pairing at.pairing owns.owned owned owns.written).1 in
          let value : Pair → Value = λ pair. value_of basis.schema.model holds.entity pair.prop in
          let keys : paired_key basis.schema.model pairing holds.entity ≡ row_key found.table found.row =
          ap (λ (list : List Pair). paired_key basis.schema.model list holds.entity) same ∙ ap (paired_key basis.schema.model at.pairing) (sym of_entity) ∙ at.at.at_key in
          let by_pairs : map (cell_of found.row) (cols_of pairing) ≡ map value pairing =
          ap (map (cell_of found.row)) (owns.owned.cols ∙ key_columns_at basis.schema.store key.to found.table found.is_table) ∙ sym keys in
          let alike : cells_of found.row key.to_cols ≡ cells_of row key.from_cols =
          alike_found basis.schema.store key (key_sound basis is told c key.from fails.table fails.is_table row cells_are
          (cells_demanded basis.schema c fails.tables fails.defined key.from fails.table fails.is_table row fails.is_row) key fails.is_key refl of_row) found.row row (λ col from has beside.
          (let pair = in_map (λ (p : Pair). p.col) pairing col (subst (λ (cols : List ColId). Contains cols col) (sym owns.owned.cols) has) in
          let told_from = shown pair.0 pair.1 in
          let from_is : told_from.0 ≡ from = same_Some told_from.0 from (sym told_from.1 ∙ ap (λ (one : ColId). col_beside one key.to_cols key.from_cols) pair.2 ∙ beside) in
          ap (cell_of found.row) (sym pair.2) ∙ pair_alike (cell_of found.row) value pairing by_pairs pair.0 pair.1 ∙ keyed one by holds pair.0 pair.1 ∙ ap (cell_of row) from_is)) in
          fails.no_row (any_of (λ (target : Row). cells_of target key.to_cols ≡ cells_of row key.from_cols) (rows_in fails.tables key.to) found.row found.among alike)

    -- what has the key that is shown lacks a row, or nothing has it
    module _ (of_rows : IsRowFocus basis told.of)
        (own_lacks : (region : Region) → told.of ≡ focus.Entity region → (pairing : List Pair) → OwnsTable basis key.to region.set pairing → Fits basis (focus.Entity region) key region.set pairing (own_member basis region)
        → ¬ HasRow (pattern_of basis (focus.Entity region)) key.to) where
      refers : MayRefer basis told.of key
      refers = may_refer_to basis is told c key.from fails.table fails.is_table row cells_are
          (cells_demanded basis.schema c fails.tables fails.defined key.from fails.table fails.is_table row fails.is_row) key fails.is_key refl of_row fails.refers

      abbrev Told : Type 0
      Told = (told_key : DanglingKey) × (by : IsDangling basis told_key) × (by.key ≡ key)

      tell : (principal : Option Region) → LacksRow basis told.of key principal → Told
      tell principal lack =
          let at = place_of basis.schema.store.keys key fails.is_key in (
            record { focus = told.of; key = record { index = at.0 }; principal = principal },
            record { key = key; is_key = at.1; dangles = record { of_rows = of_rows; refers = refers; lacks = lack } },
            refl,
          )

      by_owner : (u : SetId) (pairing : List Pair) → OwnsTable basis key.to u pairing → Told
      by_owner u pairing owns = ⊎_elim
          (λ (own : (one : Forced) × Contains (own_members basis told.of) one × Fitting u pairing one). by_own own.0 ((in_own basis told.of own.0).0 own.1) own.2)
          (λ (no_own : (one : Forced) → Contains (own_members basis told.of) one → ¬ Fitting u pairing one). ⊎_elim
          (λ (some : (one : Forced) × Contains (members basis told.of key) one × Fitting u pairing one). by_other some.0 ((in_members basis is limits told.of key some.0).0 some.1) some.2
          (λ own is_own. no_own own ((in_own basis told.of own).1 is_own)))
          (λ (none : (one : Forced) → Contains (members basis told.of key) one → ¬ Fitting u pairing one). tell None (λ v others also one there by.
          (let same = one_owner basis.schema is.sound key.to u v pairing others owns.owned also.owned owns.written in
          let P : SetId → List Pair → Type 0 = λ w list. Fitting w list one in
          none one ((in_members basis is limits told.of key one).1 there) (subst (λ (w : SetId). P w pairing) (sym same.0) (subst (P v) (sym same.1) by)))))
          (some_fits basis told.of key u pairing (members basis told.of key)))
          (some_fits basis told.of key u pairing (own_members basis told.of))
        where
          by_own : (one : Forced) → IsOwn basis told.of one → Fitting u pairing one → Told
          by_own one own by = own_of told.of refl own
            where
              own_of : (of : Focus) → told.of ≡ of → IsOwn basis of one → Told
              own_of (focus.Link a) same never = absurd never
              own_of (focus.Entity region) same is_own =
                  let fits_own : Fits basis (focus.Entity region) key u pairing (own_member basis region) =
                  subst (Fits basis (focus.Entity region) key u pairing) is_own (subst (λ (of : Focus). Fits basis of key u pairing one) same by) in
                  let at_set : u ≡ region.set = sym fits_own.of_set in
                  let owns_own : OwnsTable basis key.to region.set pairing = subst (λ (v : SetId). OwnsTable basis key.to v pairing) at_set owns in
                  let fitting : Fits basis (focus.Entity region) key region.set pairing (own_member basis region) =
                  subst (λ (v : SetId). Fits basis (focus.Entity region) key v pairing (own_member basis region)) at_set fits_own in
                  tell (Some region) (inl (same, record { pairing = pairing; owns = owns_own; fits = fitting; no_row = own_lacks region same pairing owns_own fitting }))

          by_other : (one : Forced) → IsThere basis told.of key one → Fitting u pairing one → ((own : Forced) → IsOwn basis told.of own → ¬ Fitting u pairing own) → Told
          by_other one there by not_own =
              let holds = stands one there in
              let linked : LinkedEntity basis = linked_by basis is few c legal u holds.entity (here u pairing owns one by holds) in
              tell (Some linked.region) (inr (record {
                u = u;
                pairing = pairing;
                owns = owns;
                one = one;
                is_there = there;
                fits = by;
                not_own = not_own;
                listed = linked.held.listed;
                under = λ other other_there too.
                    (let second = stands other other_there in
                    let same = one_entity u pairing owns one other by too holds second in
                    subst (λ (t : _). IsA basis.schema.model t other.ty) (linked.held.holds.typed)
                    (subst (λ (e : Entity). IsA basis.schema.model e.ty other.ty) (sym same) second.typed));
                no_row = lacks u pairing owns one by holds linked refl refl refl;
              }))

      pub focus_told : Told
      focus_told = ⊎_elim
          (λ (written : IsWritten basis.schema.mapping key.to). ⊎_elim
          (λ (owned : (u : SetId) × (pairing : List Pair) × IsOwned basis.schema key.to u pairing). by_owner owned.0 owned.1 (record { owned = owned.2; written = written }))
          (λ (rest : ((fragment : LinkFragment) × (assoc : Assoc) × IsJoinedTo basis.schema key.to fragment assoc) ⊎ IsUnwritten basis.schema key.to). tell None (λ u pairing owns one there by. ⊎_elim
          (λ (joined : (fragment : LinkFragment) × (assoc : Assoc) × IsJoinedTo basis.schema key.to fragment assoc).
          owned_or_joined basis.schema is.sound key.to u pairing joined.0 joined.1 owns.owned joined.2)
          (λ (nothing : IsUnwritten basis.schema key.to). never_written basis.schema key.to nothing written)
          rest))
          (has_owner basis.schema is.sound key.to))
          (λ (nothing : ¬ IsWritten basis.schema.mapping key.to). tell None (λ u pairing owns one there by. nothing owns.written))
          (written_or_not basis.schema key.to)

  demand : DemandsRow basis.schema c key.from row_at
  demand = row_demanded basis.schema c fails.tables fails.defined key.from fails.table fails.is_table row fails.is_row

  -- the row of an entity
  module _ (s : SetId) (entity : Entity) (at : IsAtRow basis c s entity key.from row_at) where
    abbrev linked : LinkedEntity basis
    linked = linked_by basis is few c legal s entity at.at.stands

    abbrev region : Region
    region = linked.region

    abbrev told_entity : AllowedFocus basis
    told_entity = record { of = focus.Entity region; is_focus = (s, linked.held.listed); values = by_entity basis.schema.model entity linked.part; allowed = linked_allowed basis is linked }

    entity_row : HasRow (pattern_of basis (focus.Entity region)) key.from
    entity_row = (rows basis is linked key.from row_at at).0 demand

    entity_cells : (col : ColId) (value : Value) → DemandsCell basis.schema c key.from row_at col value
        ↔ ListsValue (pattern_of basis (focus.Entity region)) (by_entity basis.schema.model entity linked.part) key.from col value
    entity_cells = cells basis is linked key.from row_at at

    entity_stands : (one : Forced) → IsThere basis (focus.Entity region) key one → HoldsForced basis c (by_entity basis.schema.model entity linked.part) one
    entity_stands one (inl own) = subst (HoldsForced basis c (by_entity basis.schema.model entity linked.part)) (sym own) (own_holds basis linked)
    entity_stands one (inr forced) = entity_forces basis is.sound.model linked (not_null_for basis (focus.Entity region) key)
        (not_null_there basis is told_entity c key.from fails.table fails.is_table row entity_cells
        (cells_demanded basis.schema c fails.tables fails.defined key.from fails.table fails.is_table row fails.is_row) key fails.is_key refl entity_row fails.refers) one forced

    abbrev OwnLacksRow : Region → Type 0
    OwnLacksRow one = (pairing : List Pair) → OwnsTable basis key.to one.set pairing → Fits basis (focus.Entity one) key one.set pairing (own_member basis one)
        → ¬ HasRow (pattern_of basis (focus.Entity one)) key.to

    own_lacks_row : OwnLacksRow region
    own_lacks_row pairing owns by = lacks told_entity entity_row entity_cells entity_stands region.set pairing owns (own_member basis region) by (own_holds basis linked) linked refl
        (sym (set_is basis s region linked.held.listed)) refl

    entity_told : (told_key : DanglingKey) × (by : IsDangling basis told_key) × (by.key ≡ fails.key)
    entity_told = focus_told told_entity entity_row entity_cells entity_stands (s, linked.held.listed) (λ one same. subst OwnLacksRow (same_region region one same) own_lacks_row)

  -- the row of a link
  module _ (fragment : LinkFragment) (assoc : Assoc) (link : Link) (at : IsAtLinkRow basis c fragment assoc link key.from row_at) where
    abbrev its_row : LinkRow basis
    its_row = record { state = c; legal = legal; fragment = fragment; assoc = assoc; link = link; t = key.from; key = row_at; at = at }

    abbrev standing : StandingLink basis
    standing = record { state = c; legal = legal; a = fragment.assoc; assoc = assoc; is_assoc = at.joined.is_assoc; link = link; stands = at.stands }

    link_told : (told_key : DanglingKey) × (by : IsDangling basis told_key) × (by.key ≡ fails.key)
    link_told = focus_told (told_link basis is key.from fragment assoc at.joined c legal link at.stands) ((link_rows basis is its_row).0 demand) (link_cells basis is its_row)
        link_stands (key.from, record { fragment = fragment; assoc = assoc; joined = at.joined; of_assoc = refl }) (λ one never. absurd (never_same one never))
      where
        link_stands : (one : Forced) → IsThere basis (focus.Link fragment.assoc) key one → HoldsForced basis c (by_link basis.schema.model assoc link) one
        link_stands one (inl never) = absurd never
        link_stands one (inr forced) = link_forces basis is.sound.model standing (not_null_for basis (focus.Link fragment.assoc) key) one forced

        never_same : (one : Region) → focus.Link fragment.assoc ≡ focus.Entity one → ⊥
        never_same one never = let nothing : focus.Link fragment.assoc ≡ focus.Entity one = never in cc

  row_told : (told_key : DanglingKey) × (by : IsDangling basis told_key) × (by.key ≡ fails.key)
  row_told = by (row_of_one basis is c legal key.from row_at demand)
    where
      by : IsRowOfOne basis c key.from row_at → (told_key : DanglingKey) × (by : IsDangling basis told_key) × (by.key ≡ fails.key)
      by (inl (s, entity, at)) = entity_told s entity at
      by (inr (fragment, assoc, link, at)) = link_told fragment assoc link at

pub dangling_told : (basis : Basis) → IsBasis basis → IsWithinLimits basis.schema → NoneFailsBy basis.schema kind.Clash → (place : Place) (c d : State)
    → (fails : FailsAt basis.schema kind.Dangling place c d) → (told_key : DanglingKey) × (by : IsDangling basis told_key) × (by.key ≡ fails.fails.key)
dangling_told basis is limits none place c d fails = row_told basis is limits (few_by_clear basis is limits none) c fails.legal place fails.fails
