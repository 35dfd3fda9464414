-- Where no legal state clashes, no pattern does.
use Rattle.std.proofs.Common.{◌≡◌, List, Bool, true, false, Contains, IsTrue, refl}
use Rattle.graphs.proofs.base_chains.orders.Orders.{place_of_member}
use Rattle.emc_base.proofs.Lists.{all_from_members}
use Rattle.round_trip.specs.Words.{SetId, ColId}
use Rattle.round_trip.specs.declared.FailKind.TheVariants as kind
use Rattle.regions.specs.declared.region.Region.{Region}
use Rattle.regions.specs.declared.pattern.Symbol.{Symbol}
use Rattle.regions.specs.declared.pattern.PatternRow.{PatternRow}
use Rattle.regions.specs.declared.pattern.Focus.TheVariants as focus
use Rattle.regions.specs.Basis.{Basis}
use Rattle.regions.specs.Patterns.{pattern_of}
use Rattle.regions.specs.Regions.{regions_of}
use Rattle.regions.specs.Settled.{has_clash}
use Rattle.regions.specs.region_laws.pattern.Described.{HasNoClashes, HasTwoSymbols}
use Rattle.regions.specs.region_laws.pattern.Listed.{HasCell}
use Rattle.regions.proofs.region_laws.pattern.Settled.{clash_decided}
use Rattle.region_states.specs.conflicts.There.{FailsThere}
use Rattle.region_states.specs.declared.conflicts.conflict.Conflict.TheVariants as conflict
use Rattle.conflict_laws.proofs.clash.Clashing.{Decides-clash}
use Rattle.conflict_laws.proofs.clash.Fails.{fails_there}
use Rattle.conflict_laws.specs.States.{ClearStates}
use Rattle.conflict_laws.specs.rival.Alike.{IsClear}

module _ (basis : Basis) (states : ClearStates basis) (s : SetId) (region : Region) (has : Contains (regions_of basis s) region) where
  module _ (row : PatternRow) (is_row : Contains (pattern_of basis (focus.Entity region)).rows row) where
    -- two symbols of a cell that can differ are a conflict
    cell_clear : (cell : List Symbol) → Contains row.cells cell → IsTrue (has_clash basis.schema.model region.atoms cell) → ⊥
    cell_clear cell among told =
        let c : ColId = record { index = among.0 } in
        let two : HasTwoSymbols basis.schema.model region.atoms cell = (clash_decided basis.schema.model region.atoms cell).0 told in
        let there : HasCell (pattern_of basis (focus.Entity region)) row.table c cell = record {
          row = row;
          is_row = is_row;
          of_table = refl;
          is_cell = place_of_member row.cells cell among;
        } in
        let fails : FailsThere basis s kind.Clash = fails_there basis states.given s (conflict.Clash (focus.Entity region) row.table c two.one two.two) (record {
          of_kind = refl;
          of_set = has;
          holds = (Decides-clash basis (focus.Entity region) row.table c two.one two.two).1 (record {
            lists_one = (cell, there, two.lists_one);
            lists_two = (cell, there, two.lists_two);
            clash = record { different = two.different; not_alike = λ are. two.not_alike are.0 are.1 are.2 };
          });
        }) in
        states.no_clash fails.place fails.c fails.d (record { legal = fails.legal; fails = fails.fails.0 })

    row_clear : HasNoClashes basis.schema.model region.atoms row
    row_clear = all_from_members (λ cell. has_clash basis.schema.model region.atoms cell ≡ false) row.cells
        (λ cell among. by cell among (has_clash basis.schema.model region.atoms cell) refl)
      where
        by : (cell : List Symbol) → Contains row.cells cell → (b : Bool) → has_clash basis.schema.model region.atoms cell ≡ b → has_clash basis.schema.model region.atoms cell ≡ false
        by cell among false told = told
        by cell among true told = absurd (cell_clear cell among told)

  pub region_clear : IsClear basis region
  region_clear row is_row = row_clear row is_row
