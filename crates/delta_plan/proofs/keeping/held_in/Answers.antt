use Rattle.std.proofs.Common.{List, ◌∙◌, ap, flat_map, subst, sym}
use Rattle.round_trip.specs.Words.{ColId, Row}
use Rattle.row_plans.specs.Sides.{AreRowGroups}
use Rattle.delta_plan.specs.Keeping.{AreHeldRows, held_of}
use Rattle.delta_plan.proofs.grouped.Groups.{are_held}
use Rattle.delta_plan.proofs.keeping.held_in.Goals as goal

pub returns : goal.returns
returns c =
    let key = c.args.table.now.key in
    let old = c.args.old.now in
    let wanted = c.args.wanted.now in
    let Held : List Row → Type 0 = AreHeldRows key old wanted in
    let Groups : List ColId → Type 0 = λ cols. AreRowGroups cols old wanted c.in_ok-groups.groups.items in
    subst Held (sym (c.in_ok-rows.ensures ∙ ap (flat_map held_of) c.as_slice-2.ensures.value)) (are_held key old wanted c.in_ok-groups.groups.items (subst Groups c.as_slice.ensures.items c.in_ok-groups.ensures) c.requires.old_apart)
