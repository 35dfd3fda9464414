use Rattle.std.proofs.Common.{IfOk, refl, sym, subst}
use Rattle.round_trip.specs.declared.FailKind.TheVariants as kind
use Rattle.regions.specs.declared.pattern.Focus.{Focus}
use Rattle.regions.specs.declared.pattern.Focus.TheVariants as focus
use Rattle.region_states.specs.declared.conflicts.conflict.Conflict.{Conflict}
use Rattle.region_states.specs.region_basis.BasisOf.{basis_of}
use Rattle.region_states.specs.declared.conflicts.conflict.Conflict.TheVariants as conflict
use Rattle.witness_state.specs.FirstConflict.{IsFirstConflict}
use Rattle.witness_state.specs.Shown.{IsShownOf}
use Rattle.witness_state.proofs.told.Listed.{link_joined}
use Rattle.witness_state.proofs.told.Cells.{null_shown, null_values_of}
use Rattle.witness_state.proofs.told.Links.{shown_link, table_of_row}
use Rattle.witness_state.proofs.one_state.null_failure.Goals as goal

pub region_state-requires-clause-values : goal.region_state-requires-clause-values
region_state-requires-clause-values c =
    let told : Focus → Conflict = λ of. conflict.NullIn of c.args.table c.args.col c.args.one.now in
    null_values_of c.args.parts.now c.in-Entity.region c.args.table c.args.col c.args.one.now
    (subst (λ (of : Focus). IsFirstConflict c.args.parts.now (told of)) c.in-Entity.is c.requires) c.in_ok-entity-in-Entity.entity c.in_ok-entity-in-Entity.ensures

pub returns-in_ok-state-in-Entity : goal.returns-in_ok-state-in-Entity
returns-in_ok-state-in-Entity c =
    let parts = c.args.parts.now in
    let told : Focus → Conflict = λ of. conflict.NullIn of c.args.table c.args.col c.args.one.now in
    let first = subst (λ (of : Focus). IsFirstConflict parts (told of)) c.in-Entity.is c.requires in
    subst (λ (of : Focus). IsShownOf (basis_of parts) (told of) c.alone.result) (sym c.in-Entity.is)
    (subst (IsShownOf (basis_of parts) (told (focus.Entity c.in-Entity.region))) (sym c.alone.ensures)
    (null_shown parts c.in-Entity.region c.args.table c.args.col c.args.one.now first c.in_ok-entity-in-Entity.entity c.in_ok-entity-in-Entity.ensures
    c.in_ok-place-in-Entity.place c.in_ok-place-in-Entity.ensures c.in_ok-state-in-Entity.state c.in_ok-state-in-Entity.ensures))

pub link_cell_place-requires-clause-of_table : goal.link_cell_place-requires-clause-of_table
link_cell_place-requires-clause-of_table c =
    let parts = c.args.parts.now in
    let told : Focus → Conflict = λ of. conflict.NullIn of c.args.table c.args.col c.args.one.now in
    let first = subst (λ (of : Focus). IsFirstConflict parts (told of)) c.in-Link.is c.requires in
    let own = link_joined (basis_of parts) c.in-Link.assoc first.of_one in
    table_of_row parts first.are c.in-Link.assoc own.0 own.1 c.args.table first.so.row

pub returns-in_ok-place-in-Link : goal.returns-in_ok-place-in-Link
returns-in_ok-place-in-Link c =
    let parts = c.args.parts.now in
    let told : Focus → Conflict = λ of. conflict.NullIn of c.args.table c.args.col c.args.one.now in
    let first = subst (λ (of : Focus). IsFirstConflict parts (told of)) c.in-Link.is c.requires in
    let own = link_joined (basis_of parts) c.in-Link.assoc first.of_one in
    subst (λ (of : Focus). IfOk c.joined_failure.result (IsShownOf (basis_of parts) (told of))) (sym c.in-Link.is)
    (shown_link parts first.are c.in-Link.assoc own.0 own.1 c.joined_failure.result kind.Null c.in_ok-place-in-Link.place c.joined_failure.ensures
    (told (focus.Link c.in-Link.assoc)) refl refl c.in_ok-place-in-Link.ensures)
