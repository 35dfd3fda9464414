use Rattle.std.proofs.Common.{List, ◌∙◌, ap, flat_map, subst, sym}
use Rattle.round_trip.specs.Words.{ColId, Row}
use Rattle.cells.specs.Cells.{is_free_in}
use Rattle.row_plans.specs.Sides.{AreRowGroups}
use Rattle.delta_plan.specs.Keeping.{AreKeptRows, Free, kept_of}
use Rattle.delta_plan.proofs.grouped.KeptRows.{are_kept}
use Rattle.delta_plan.proofs.keeping.kept_in.Goals as goal

pub returns : goal.returns
returns c =
    let table = c.args.table.now in
    let old = c.args.old.now in
    let fresh = c.args.fresh.now in
    let Kept : List Row → Type 0 = AreKeptRows (Free c.args.cells.now c.args.id) table old fresh in
    let Groups : List ColId → Type 0 = λ cols. AreRowGroups cols old fresh c.in_ok-groups.groups.items in
    subst Kept (sym (c.in_ok-rows.ensures ∙ ap (flat_map (kept_of (is_free_in c.args.cells.now c.args.id))) c.as_slice-2.ensures.value)) (are_kept (is_free_in c.args.cells.now c.args.id) table old fresh c.in_ok-groups.groups.items
    (subst Groups c.as_slice.ensures.items c.in_ok-groups.ensures) c.requires.old_long c.requires.new_long c.requires.old_apart c.requires.new_apart)
