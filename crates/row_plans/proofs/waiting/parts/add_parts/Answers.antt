use Rattle.std.proofs.Common.{get_or, map}
use Rattle.std.proofs.lemmas.Option.{slice_get-get_or}
use Rattle.keyed_rows.specs.row_groups.Shown.{shown_keyed}
use Rattle.row_plans.specs.Roles.{all_roles, parts_in}
use Rattle.row_plans.specs.declared.waiting.parts.Role.{Role}
use Rattle.row_plans.specs.declared.waiting.parts.Role.TheVariants.{Comes}
use Rattle.row_plans.proofs.waiting.Given.{more_added}
use Rattle.row_plans.proofs.waiting.parts.add_parts.Goals as goal

pub loop-role-preserved : goal.loop-role-preserved
loop-role-preserved c = more_added (λ (role : Role). parts_in c.args.key.now c.args.alteration.now (record { place = c.args.place; role = role }))
    all_roles c.loop-role.role-index (get_or all_roles c.loop-role.role-index Comes) (map shown_keyed c.args.parts.now.items) (map shown_keyed c.loop-role.parts.items)
    (map shown_keyed c.add_part.new.parts.items) c.loop-role.invariant (slice_get-get_or all_roles c.loop-role.role-index Comes c.loop-role-test.true) c.in_ok-add_part.ensures
