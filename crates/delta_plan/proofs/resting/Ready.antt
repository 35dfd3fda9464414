-- Where changes may be planned: the rows of what is touched, and what is held and kept at their keys.
use Rattle.std.proofs.Common.{◌≡◌, List}
use Rattle.round_trip.specs.Words.{EntityModel, State, StoreModel, TableId, Tables, rows_in}
use Rattle.table_files.specs.declared.tables.TableRow.{TableRow}
use Rattle.cells.specs.declared.cells.Cells.{Cells}
use Rattle.entity_changes.specs.declared.touched.Touched.{Touched}
use Rattle.row_changes.specs.Differences.{AreBothLegal}
use Rattle.row_changes.specs.Joined.{AreWithOneRest}
use Rattle.delta_plan.specs.Keeping.{HoldsHeld, HoldsKept}
use Rattle.delta_plan.specs.Planning.{MayBePlanned}
use Rattle.delta_plan.specs.RowsOf.{Giving, named, touched_rows}
use Rattle.delta_plan.proofs.resting.Asked.{AreWithin, asked_within}
use Rattle.delta_plan.proofs.resting.OneRest.{one_rest}
use Rattle.delta_plan.proofs.resting.Splits.{IsSplit, Stays, split, stayed, stays_there, told_so}

module _ (gives : Giving) (model : EntityModel) (store : StoreModel) (cells : Cells) (tables : Tables) (touched : Touched) (before after : State)
    (old_rows new_rows kept : Tables) (ready : MayBePlanned gives model store cells tables touched before after old_rows new_rows kept) where
  -- the rows of what is touched in a state
  abbrev pub asked : State → List TableRow
  asked state = touched_rows gives model cells state touched

  -- they are within the store
  pub before_within : AreWithin store (asked before)
  before_within = asked_within gives model cells before store old_rows ready.are_old touched ready.old_apart

  pub after_within : AreWithin store (asked after)
  after_within = asked_within gives model cells after store new_rows ready.are_new touched ready.new_apart

  -- the tables are legal, before and afterwards
  pub both_legal : AreBothLegal store tables kept
  both_legal = record { sound = ready.sound; old_legal = ready.legal; new_legal = ready.kept_legal }

  module _ (old_asked new_asked held fresh_kept : Tables) (old_is : (t : TableId) → rows_in old_asked t ≡ named t (asked before))
      (new_is : (t : TableId) → rows_in new_asked t ≡ named t (asked after)) (holds : HoldsHeld store tables old_asked held)
      (holds_kept : HoldsKept store cells held new_asked fresh_kept) where
    new_split : IsSplit store (Stays gives model cells touched before) new_rows new_asked
    new_split = told_so store (Stays gives model cells touched after) (Stays gives model cells touched before) new_rows new_asked
        (stayed gives model cells touched before after ready.differ) (stays_there gives model cells touched before after ready.differ)
        (split gives model cells touched after store new_rows ready.are_new ready.new_apart new_asked new_is)

    -- what is held at the keys of old rows, and what is kept of it in new ones, are parts of the tables with one rest
    pub are_with_one_rest : (rest : Tables) × AreWithOneRest store held fresh_kept rest tables kept
    are_with_one_rest = one_rest store cells (Stays gives model cells touched before) tables old_rows new_rows kept old_asked new_asked held fresh_kept
        (record {
          keys_kept = ready.keys_kept;
          legal = ready.legal;
          same = ready.same;
          keeps = ready.keeps;
          old = split gives model cells touched before store old_rows ready.are_old ready.old_apart old_asked old_is;
          new = new_split;
          holds = holds;
          holds_kept = holds_kept;
        })
