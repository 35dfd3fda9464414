-- Where two legal states with the same tables differ at a key of a set by an entity, this is told by a conflict of the set.
use Rattle.std.proofs.Common.{◌≡◌, ◌≢◌, ⊎_elim, [], ◌∷◌, List, Bool, true, false, not, Contains, IsTrue, refl, sym, subst, ◌∙◌}
use Rattle.std.specs.List.{list_any}
use Rattle.round_trip.specs.Words.{SetId, AssocId, PropId, Entity, EntitySet, State, Tables, Value, At, entities_in, key_of}
use Rattle.round_trip.specs.declared.FailKind.TheVariants as kind
use Rattle.schema_laws.proofs.state_demand.writings.Decisions.{key_or_not}
use Rattle.schema_laws.proofs.state_demand.lists.Lists.{any_or_none, head_stands}
use Rattle.regions.specs.declared.region.Region.{Region}
use Rattle.regions.specs.declared.pattern.Focus.TheVariants as focus
use Rattle.regions.specs.declared.pattern.PatternRow.{PatternRow}
use Rattle.regions.specs.Basis.{Basis}
use Rattle.regions.specs.Patterns.{pattern_of}
use Rattle.regions.specs.Regions.{regions_of}
use Rattle.regions.specs.region_laws.IsBasis.{IsBasis}
use Rattle.regions.specs.region_laws.Partners.{HasFewPartners, part_by}
use Rattle.regions.specs.region_laws.Held.{IsHeldAt, LinkedEntity}
use Rattle.regions.proofs.region_laws.listing.Listed.{set_is}
use Rattle.region_states.proofs.focus.Flags.{held_at, some_region}
use Rattle.region_states.specs.conflicts.Conflicts.{IsConflictAt}
use Rattle.region_states.specs.conflicts.SameFacts.{is_absent, same_region}
use Rattle.region_states.specs.declared.conflicts.conflict.Conflict.{Conflict}
use Rattle.region_states.specs.declared.conflicts.conflict.Conflict.TheVariants as conflict
use Rattle.conflict_laws.specs.rival.Alike.{IsClear}
use Rattle.conflict_laws.proofs.rival.Told.{told_same}
use Rattle.conflict_laws.proofs.same.rows.Rows.{HaveSameTables, entity_too, row_of_pattern}
use Rattle.conflict_laws.proofs.same.rows.Together.{HasLinksToo, StandTogether, stand_together}
use Rattle.conflict_laws.proofs.same.lost.LostTold.{lost_told}
use Rattle.conflict_laws.proofs.same.rivals.RivalTold.{rival_told}

-- a conflict of the set, of this kind
abbrev pub IsTold : Basis → SetId → Type 0
IsTold basis s = (it : Conflict) × IsConflictAt basis s kind.Same it

-- a pattern of which nothing is a row has none
never_rows : (rows : List PatternRow) → ((row : PatternRow) → ¬ Contains rows row) → not (list_any (λ (row : PatternRow). true) rows) ≡ true
never_rows [] never = refl
never_rows (row ∷ rest) never = absurd (never row (head_stands row rest))

module _ (basis : Basis) (is : IsBasis basis) (s : SetId) (few : HasFewPartners basis s) (set : EntitySet) (is_set : At basis.schema.model.sets s.index set)
    (clear : (region : Region) → Contains (regions_of basis s) region → IsClear basis region) (c d : State) (tables others : Tables)
    (have : HaveSameTables basis c d tables others) (x : Entity) (has_x : Contains (entities_in c s) x) where
  -- the entity has the same key
  abbrev HasItsKey : Entity → Type 0
  HasItsKey y = key_of basis.schema.model x ≡ key_of basis.schema.model y

  -- where the other state has no entity of the key, the region leaves no row
  absent_told : ((y : Entity) → Contains (entities_in d s) y → ¬ HasItsKey y) → IsTold basis s
  absent_told none =
      let found = some_region basis is (record { state = c; legal = have.legal_c; s = s; entity = x; stands = has_x }) in
      let region : Region = found.0 in
      let part : AssocId → Bool → PropId → Value = part_by basis c s (key_of basis.schema.model x) in
      let held : IsHeldAt basis c s x region part =
      held_at basis is (record { state = c; legal = have.legal_c; s = s; entity = x; region = region; of_region = found.1 }) few in
      let linked : LinkedEntity basis = record { state = c; legal = have.legal_c; s = s; entity = x; region = region; part = part; held = held } in
      let absent : IsTrue (is_absent basis region) = never_rows (pattern_of basis (focus.Entity region)).rows (λ row has.
      let by = row_of_pattern basis is linked tables have.are_c row.table (row, has, refl) in
      let other = entity_too basis is c d tables others have s x row.table by in
      none other.0 other.1 other.2) in
      (conflict.Absent region, record { of_kind = refl; of_set = held.listed; holds = absent })

  -- where it has another one, the regions of both are rivals, or they are one and a property is lost
  both_told : (y : Entity) → HasItsKey y → x ≢ y → StandTogether basis s c d x y → IsTold basis s
  both_told y keyed different together = by (same_region together.one together.two) refl
    where
      by : (b : Bool) → same_region together.one together.two ≡ b → IsTold basis s
      by false apart = (
        conflict.Rival together.one together.two,
        record {
          of_kind = refl;
          of_set = (together.held_x.listed, together.held_y.listed);
          holds = rival_told basis is s c d tables others have x y keyed together (clear together.one together.held_x.listed) (clear together.two together.held_y.listed) apart;
        },
      )
      by true told =
          let sets = set_is basis s together.one together.held_x.listed ∙ sym (set_is basis s together.two together.held_y.listed) in
          let one : together.one ≡ together.two = told_same together.one together.two sets told in
          let held_y = subst (λ r. IsHeldAt basis d s y r together.part) (sym one) together.held_y in
          let lost = lost_told basis is s set is_set c d tables others have x y keyed different together.one together.part together.held_x held_y
          (clear together.one together.held_x.listed) in
          (conflict.Lost together.one lost.0, record { of_kind = refl; of_set = together.held_x.listed; holds = lost.1 })

  -- so an entity that stands in the one state alone is told
  pub entity_told : HasLinksToo basis s c d → HasLinksToo basis s d c → ¬ Contains (entities_in d s) x → IsTold basis s
  entity_told there back gone = ⊎_elim
      (λ (found : (y : Entity) × Contains (entities_in d s) y × HasItsKey y).
      both_told found.0 found.2 (λ same. gone (subst (Contains (entities_in d s)) (sym same) found.1))
      (stand_together basis is s few c d have.legal_c have.legal_d there back x found.0 has_x found.1 found.2))
      (λ (none : (y : Entity) → Contains (entities_in d s) y → ¬ HasItsKey y). absent_told none)
      (any_or_none HasItsKey (λ y. key_or_not (key_of basis.schema.model x) (key_of basis.schema.model y)) (entities_in d s))
