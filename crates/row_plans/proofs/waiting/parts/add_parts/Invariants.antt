use Rattle.std.proofs.Common.{◌≡◌, ◌++◌, map, take}
use Rattle.std.specs.List.{flat_map}
use Rattle.keyed_rows.specs.row_groups.Shown.{shown_keyed}
use Rattle.row_plans.specs.Roles.{parts_in}
use Rattle.row_plans.proofs.waiting.parts.add_parts.Given as goal

-- the parts in the roles so far are added
abbrev pub invariant-loop-role : goal.invariant-loop-role
invariant-loop-role l = map shown_keyed l.parts.items
    ≡ map shown_keyed l.initial.parts.items ++ flat_map (λ role. parts_in l.key l.alteration (record { place = l.place; role = role })) (take l.role-index l.role-items)
