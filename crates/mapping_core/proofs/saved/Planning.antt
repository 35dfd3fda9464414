-- What planning asks, where the tables are those of a state and changes lead to a legal one.
use Rattle.std.proofs.Common.{◌≡◌, List, Option, Err, sym, subst}
use Rattle.round_trip.specs.Words.{AreKept, AreLegalTables, AreSameTables, IsFree, IsLegal, Schema, SetId, AssocId, Entity, Hosted, Link, State, StoreModel, Tables, TablesAre}
use Rattle.round_trip.specs.TablesAre.{HasNoClash}
use Rattle.table_files.specs.declared.tables.TableRow.{TableRow}
use Rattle.cells.specs.Cells.{TellsCells, is_free_in}
use Rattle.cells.specs.Parts.{AreParts, schema_in}
use Rattle.cells.specs.declared.cells.Cells.{Cells}
use Rattle.cells.specs.declared.parts.Parts.{Parts}
use Rattle.cells.proofs.Covering.{covers_model}
use Rattle.regions.specs.Basis.{Basis}
use Rattle.regions.specs.region_laws.IsBasis.{IsBasis}
use Rattle.regions.specs.region_laws.Partners.{HasFewPartners}
use Rattle.case_laws.specs.filled_rows.Filled.{FillsRows}
use Rattle.update_views.specs.Views.{AreViewsOf, joined_row, local_rows}
use Rattle.update_views.specs.declared.views.UpdateViews.{UpdateViews}
use Rattle.region_states.specs.region_basis.BasisOf.{basis_of}
use Rattle.region_states.proofs.region_basis.Bases.{basis_is}
use Rattle.schema_laws.proofs.state_demand.tables.SameTables.{same_tables}
use Rattle.keyed_rows.proofs.row_differences.OfState.{rows_apart}
use Rattle.entity_changes.specs.Changes.{after}
use Rattle.entity_changes.specs.Touching.{DifferOnlyAt}
use Rattle.entity_changes.specs.declared.change.Change.{Change}
use Rattle.entity_changes.specs.declared.touched.Touched.{Touched}
use Rattle.row_changes.proofs.joining.Reordered.{changes_too, cycle_too, difference_too, turned}
use Rattle.row_plans.specs.Plans.{IsPlan}
use Rattle.row_plans.specs.declared.plan.RowPlan.{RowPlan}
use Rattle.row_plans.specs.declared.plan.RowPlan.TheVariants.{Steps, Circular}
use Rattle.delta_plan.specs.Keeping.{Free}
use Rattle.delta_plan.specs.Planning.{LeadsToKept, MayBePlanned, TellsSteps}
use Rattle.delta_plan.specs.declared.planning.PlanFault.{PlanFault}
use Rattle.delta_plan.specs.declared.planning.PlanFault.TheVariants as fault
use Rattle.row_changes.specs.declared.change.RowChange.{RowChange}
use Rattle.delta_plan.specs.RowsOf.{AreTablesOf, Giving, giving, rows_of}
use Rattle.mapping_core.specs.Accepted.{IsAccepted}
use Rattle.mapping_core.specs.states.SaveParts.{CanBePlannedFor}
use Rattle.mapping_core.proofs.Comparing.{kept_keys, same_but_free}
use Rattle.mapping_core.proofs.OwnTables.{legal_moved}
use Rattle.mapping_core.proofs.Stored.{clear, few_partners}
use Rattle.mapping_core.proofs.Telling.{cells_decide}
use Rattle.mapping_core.proofs.saved.Following.{Followers, followers, keeps_too}
use Rattle.mapping_core.proofs.saved.InKeyOrder.{free_told, told_free}

-- a plan to tables is one to the same rows in another order
pub plan_too : (store : StoreModel) (old new other : Tables) → AreSameTables new other → (plan : RowPlan) → IsPlan store old new plan → IsPlan store old other plan
plan_too store old new other same (Steps changes) is = (difference_too store old new other same changes is.0, is.1)
plan_too store old new other same (Circular ring) is = (cycle_too store old new other same ring is.0, changes_too store old new other same ring is.1)

-- what is told of a ring
pub told_of_ring : (P : RowPlan → Type 0) (told : PlanFault) (ring : List RowChange) → told ≡ fault.Circular ring → TellsSteps P (Err told) → P (Circular ring)
told_of_ring P told ring is tells = subst (λ one. TellsSteps P (Err one)) is tells

-- what the law of the rows that views give says
abbrev pub SaysRows : Type 0
SaysRows = (basis : Basis) → IsBasis basis → (local : SetId → Entity → List Hosted → List TableRow) (joined : AssocId → Option (Link → TableRow))
    → FillsRows basis local joined → ((s : SetId) → HasFewPartners basis s) → (cells : Cells) → TellsCells basis.schema cells
    → (state : State) → IsLegal basis.schema.model state → HasNoClash basis.schema state
    → (rows : Tables) × AreTablesOf basis.schema.store (rows_of (giving local joined) basis.schema.model cells state) rows × TablesAre basis.schema state rows

module _ (parts : Parts) (are : AreParts parts) (accepted : IsAccepted (schema_in parts)) (views : UpdateViews) (are_views : AreViewsOf (basis_of parts) views) (says : SaysRows) where
  abbrev schema : Schema
  schema = schema_in parts

  abbrev cells : Cells
  cells = parts.cells.now

  abbrev gives : Giving
  gives = giving (local_rows views) (joined_row views)

  -- the rows of a state as tables
  pub record HasRows (state : State) : Type 0 where
    pub rows : Tables
    pub are_rows : AreTablesOf schema.store (rows_of gives schema.model cells state) rows
    pub own : TablesAre schema state rows

  has_rows : (state : State) → IsLegal schema.model state → HasRows state
  has_rows state legal =
      let told = says (basis_of parts) (basis_is parts are) (local_rows views) (joined_row views) are_views.fills (few_partners parts are accepted) cells are.cells
      state legal (clear schema accepted state legal) in
      record { rows = told.0; are_rows = told.1; own = told.2 }

  module _ (tables : Tables) (touched : Touched) (changes : List Change) (old new : State) (can : CanBePlannedFor schema tables changes old new)
      (differ : DifferOnlyAt schema.model cells touched old (after schema.model old changes)) where
    old_legal : IsLegal schema.model old
    old_legal = can.lead.told.loaded.legal

    of_old : HasRows old
    of_old = has_rows old old_legal

    of_new : HasRows new
    of_new = has_rows new can.legal

    -- kept tables in the order of the rows that the views give, for which planning may be asked
    pub record HasPlannedTables (kept : Tables) : Type 0 where
      pub old_rows : Tables
      pub new_rows : Tables
      pub in_order : Tables
      pub same : AreSameTables in_order kept
      pub may : MayBePlanned gives schema.model schema.store cells tables touched old new old_rows new_rows in_order

    pub planned_tables : (kept : Tables) → AreKept schema tables new kept → AreLegalTables schema.store kept → HasPlannedTables kept
    planned_tables kept are_kept legal_kept =
        let follow : Followers schema.store (IsFree schema) tables are_kept.tables kept of_new.rows are_kept.keeps
        (same_tables schema new are_kept.tables of_new.rows are_kept.are of_new.own) =
        followers schema.store (IsFree schema) tables are_kept.tables kept of_new.rows are_kept.keeps (same_tables schema new are_kept.tables of_new.rows are_kept.are of_new.own) in
        record {
          old_rows = of_old.rows;
          new_rows = of_new.rows;
          in_order = follow.tables;
          same = turned kept follow.tables follow.moved;
          may = record {
            sound = are.sound.store;
            cover = covers_model parts are;
            keys_kept = kept_keys (basis_of parts) (basis_is parts are) (is_free_in cells) (cells_decide parts are);
            old_legal = old_legal;
            new_legal = can.legal;
            differ = subst (DifferOnlyAt schema.model cells touched old) (sym can.lead.leads) differ;
            are_old = of_old.are_rows;
            old_apart = rows_apart schema old of_old.rows of_old.own;
            are_new = of_new.are_rows;
            new_apart = rows_apart schema new of_new.rows of_new.own;
            legal = can.lead.told.legal;
            same = same_but_free schema (is_free_in cells) (cells_decide parts are) tables old can.lead.told.loaded.has of_old.rows
                (same_tables schema old can.lead.told.loaded.has.erased of_old.rows can.lead.told.loaded.has.are of_old.own);
            keeps = keeps_too (IsFree schema) (Free cells) (told_free parts are) (free_told parts are) schema.store tables of_new.rows follow.tables follow.keep;
            kept_legal = legal_moved schema.store kept follow.tables follow.moved follow.shape legal_kept;
          };
        }

    -- a plan that leads to any such tables leads to the kept ones
    pub plans_kept : (plan : RowPlan) → LeadsToKept gives schema.model schema.store cells tables touched old new plan → (kept : Tables) → AreKept schema tables new kept
        → AreLegalTables schema.store kept → IsPlan schema.store tables kept plan
    plans_kept plan leads kept are_kept legal_kept =
        let has = planned_tables kept are_kept legal_kept in
        plan_too schema.store tables has.in_order kept has.same plan (leads has.old_rows has.new_rows has.in_order has.may)
