-- What is planned, where it may be: the rows of what is touched, and what a plan of them comes to.
use Rattle.std.proofs.Common.{◌≡◌, ◌<◌, ◌≤◌, ◌+◌, ◌*◌, ℕ, All, length, arith}
use Rattle.emc_base.proofs.Lists.{all_from_members}
use Rattle.round_trip.specs.Words.{EntityModel, State, StoreModel, TableId, Tables, rows_in}
use Rattle.table_files.specs.declared.tables.TableRow.{TableRow}
use Rattle.cells.specs.declared.cells.Cells.{Cells}
use Rattle.entity_changes.specs.declared.touched.Touched.{Touched}
use Rattle.row_changes.proofs.leading.Primary.{legal_apart}
use Rattle.row_plans.specs.Plans.{AreKeyed}
use Rattle.row_plans.specs.declared.plan.RowPlan.{RowPlan}
use Rattle.delta_plan.specs.Planning.{CanBePlanned, IsPlanOfAsked, LeadsToKept}
use Rattle.delta_plan.specs.RowsOf.{Giving, named, touched_rows}
use Rattle.delta_plan.specs.Steps.{RoseAtMost, raised}
use Rattle.delta_plan.specs.Units.{count_at}
use Rattle.delta_plan.proofs.Stepped.{rose_after, rose_within}
use Rattle.delta_plan.proofs.resting.Few.{few_touched}
use Rattle.delta_plan.proofs.resting.Ready.{after_within, are_with_one_rest, before_within, both_legal}

module _ (gives : Giving) (model : EntityModel) (store : StoreModel) (cells : Cells) (tables : Tables) (touched : Touched) (before after : State)
    (can : CanBePlanned gives model store cells tables touched before after) where
  -- the rows of what is touched name tables of the store
  pub asked_all : All (λ one. one.table.index < length store.tables) (touched_rows gives model cells before touched)
  asked_all = all_from_members (λ (one : TableRow). one.table.index < length store.tables) (touched_rows gives model cells before touched)
      (before_within gives model store cells tables touched before after can.0 can.1 can.2 can.3).names

  pub wanted_all : All (λ one. one.table.index < length store.tables) (touched_rows gives model cells after touched)
  wanted_all = all_from_members (λ (one : TableRow). one.table.index < length store.tables) (touched_rows gives model cells after touched)
      (after_within gives model store cells tables touched before after can.0 can.1 can.2 can.3).names

  -- and none has the key of another
  pub asked_keyed : (asked : Tables) → length asked ≡ length store.tables → ((t : TableId) → rows_in asked t ≡ named t (touched_rows gives model cells before touched))
      → AreKeyed store tables asked
  asked_keyed asked size each = record {
    sound = can.3.sound;
    old_tables = can.3.legal.shape;
    new_tables = (before_within gives model store cells tables touched before after can.0 can.1 can.2 can.3).tables asked size each;
    old_apart = legal_apart store tables can.3.legal;
    new_apart = (before_within gives model store cells tables touched before after can.0 can.1 can.2 can.3).apart asked each;
  }

  pub wanted_keyed : (wanted : Tables) → length wanted ≡ length store.tables → ((t : TableId) → rows_in wanted t ≡ named t (touched_rows gives model cells after touched))
      → AreKeyed store tables wanted
  wanted_keyed wanted size each = record {
    sound = can.3.sound;
    old_tables = can.3.legal.shape;
    new_tables = (after_within gives model store cells tables touched before after can.0 can.1 can.2 can.3).tables wanted size each;
    old_apart = legal_apart store tables can.3.legal;
    new_apart = (after_within gives model store cells tables touched before after can.0 can.1 can.2 can.3).apart wanted each;
  }

  -- so many steps at most
  pub first_few : (old now : ℕ) → RoseAtMost (count_at model touched before) old now → RoseAtMost (2 * length touched.entities) old now
  first_few old now rose =
      let few : count_at model touched before ≤ length touched.entities = few_touched model touched before can.3.old_legal in
      rose_within (count_at model touched before) (2 * length touched.entities) old now (omega (arith, few)) rose

  pub both_few : (old between now : ℕ) → between ≡ raised (count_at model touched before) old → RoseAtMost (count_at model touched after) between now
      → RoseAtMost (2 * length touched.entities) old now
  both_few old between now first rose =
      let few : count_at model touched before ≤ length touched.entities = few_touched model touched before can.3.old_legal in
      let few_after : count_at model touched after ≤ length touched.entities = few_touched model touched after can.3.new_legal in
      rose_within (count_at model touched before + count_at model touched after) (2 * length touched.entities) old now (omega (arith, few, few_after))
      (rose_after (count_at model touched before) (count_at model touched after) old between now first rose)

-- a plan of what is touched leads from the tables to the kept ones
pub leads_to_kept : (gives : Giving) (model : EntityModel) (store : StoreModel) (cells : Cells) (tables : Tables) (touched : Touched) (before after : State)
    (asked wanted : Tables) → ((t : TableId) → rows_in asked t ≡ named t (touched_rows gives model cells before touched))
    → ((t : TableId) → rows_in wanted t ≡ named t (touched_rows gives model cells after touched))
    → (plan : RowPlan) → IsPlanOfAsked store cells tables asked wanted plan → LeadsToKept gives model store cells tables touched before after plan
leads_to_kept gives model store cells tables touched before after asked wanted asked_is wanted_is plan is = λ old_rows new_rows kept ready.
    let rest = are_with_one_rest gives model store cells tables touched before after old_rows new_rows kept ready asked wanted is.held is.kept asked_is wanted_is is.is_held is.is_kept in
    is.tells rest.0 tables kept rest.1 (both_legal gives model store cells tables touched before after old_rows new_rows kept ready)
