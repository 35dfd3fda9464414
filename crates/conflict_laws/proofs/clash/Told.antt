-- Where a legal state clashes in the row of an entity that hosts few links, the pattern of the entity's region lists two symbols that can differ.
use Rattle.std.proofs.Common.{◌≡◌, ◌≢◌, Contains, refl, sym, ap, subst, ◌∙◌}
use Rattle.round_trip.specs.Words.{SetId, TableId, ColId, Value, DemandsCell, Entity, State}
use Rattle.round_trip.specs.FailsAt.{Clashes}
use Rattle.round_trip.specs.declared.FailKind.TheVariants as kind
use Rattle.cells.specs.Limits.{IsWithinLimits}
use Rattle.regions.specs.declared.region.Region.{Region}
use Rattle.regions.specs.declared.pattern.Symbol.{Symbol}
use Rattle.regions.specs.declared.pattern.Focus.TheVariants as focus
use Rattle.regions.specs.Basis.{Basis}
use Rattle.regions.specs.Patterns.{Valuation, by_entity, pattern_of, value_under}
use Rattle.regions.specs.Regions.{regions_of}
use Rattle.regions.specs.Settled.{Possible, possible, single}
use Rattle.regions.specs.region_laws.IsBasis.{IsBasis}
use Rattle.regions.specs.region_laws.pattern.Allowed.{CanBe, IsAllowed}
use Rattle.regions.specs.region_laws.pattern.Listed.{Lists}
use Rattle.regions.proofs.region_laws.pattern.Laws.{symbol_possible}
use Rattle.regions.specs.region_laws.Held.{HeldEntity}
use Rattle.region_states.specs.focus.Held.{ListsValue}
use Rattle.region_states.proofs.focus.Flags.{some_region}
use Rattle.region_states.specs.conflicts.Conflicts.{IsConflictAt}
use Rattle.region_states.specs.conflicts.There.{FailsThere, IsRowOf}
use Rattle.region_states.specs.declared.conflicts.conflict.Conflict.{Conflict}
use Rattle.region_states.specs.declared.conflicts.conflict.Conflict.TheVariants as conflict
use Rattle.conflict_laws.proofs.clash.Clashing.{Decides-clash}
use Rattle.conflict_laws.proofs.clash.Partners.{told_allowed, told_links, told_part}
use Rattle.conflict_laws.proofs.clash.Written.{demanded_listed}

-- two symbols that are listed and have different values are a conflict
module _ (basis : Basis) (is : IsBasis basis) (s : SetId) (region : Region) (has : Contains (regions_of basis s) region) (values : Valuation)
    (allowed : IsAllowed basis region values) (t : TableId) (c : ColId) where
  -- a symbol that can have one value alone has it
  value_is : (one : Symbol) → Lists (pattern_of basis (focus.Entity region)) t c one → (v : Value) → possible basis.schema.model region.atoms one ≡ single v
      → value_under values one ≡ v
  value_is one lists v is_one =
      let P : Possible → Type 0 = λ can. CanBe can (value_under values one) in
      subst P is_one (symbol_possible basis is (record { of = focus.Entity region; is_focus = (s, has); values = values; allowed = allowed }) t c one lists)

  conflict_of : (v w : Value) → v ≢ w → ListsValue (pattern_of basis (focus.Entity region)) values t c v
      → ListsValue (pattern_of basis (focus.Entity region)) values t c w → (it : Conflict) × IsConflictAt basis s kind.Clash it
  conflict_of v w different (one, lists_one, is_v) (two, lists_two, is_w) = (
    conflict.Clash (focus.Entity region) t c one two,
    record {
      of_kind = refl;
      of_set = has;
      holds = (Decides-clash basis (focus.Entity region) t c one two).1 (record {
        lists_one = lists_one;
        lists_two = lists_two;
        clash = record {
          different = λ same. different (is_v ∙ ap (value_under values) same ∙ sym is_w);
          not_alike = λ are. different (is_v ∙ value_is one lists_one are.0 are.1 ∙ sym (value_is two lists_two are.0 are.2) ∙ sym is_w);
        };
      });
    },
  )

module _ (basis : Basis) (is : IsBasis basis) (limits : IsWithinLimits basis.schema) (s : SetId) where
  -- in the row of an entity
  pub clash_told : FailsThere basis s kind.Clash → (it : Conflict) × IsConflictAt basis s kind.Clash it
  clash_told fails =
      let state : State = fails.c in
      let clash : Clashes basis.schema state fails.place = fails.fails.0 in
      let row : IsRowOf basis state s clash.t clash.key = fails.fails.1 in
      let entity : Entity = row.entity in
      let found = some_region basis is (record { state = state; legal = fails.legal; s = s; entity = entity; stands = row.at.stands }) in
      let region : Region = found.0 in
      let of = found.1 in
      let held : HeldEntity basis = record { state = state; legal = fails.legal; s = s; entity = entity; region = region; of_region = of } in
      let part = told_part basis state s entity in
      let values : Valuation = by_entity basis.schema.model entity part in
      let listed : (v : Value) → DemandsCell basis.schema state clash.t clash.key clash.col v → ListsValue (pattern_of basis (focus.Entity region)) values clash.t clash.col v =
      demanded_listed basis is held part (told_links basis is limits held row.few) clash.t clash.key
      (record { pairing = row.pairing; owned = row.owned; at = row.at }) clash.col in
      conflict_of basis is s region of.listed values (told_allowed basis is limits held) clash.t clash.col clash.one clash.two clash.different
      (listed clash.one clash.demands_one) (listed clash.two clash.demands_two)
