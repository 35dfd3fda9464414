use Rattle.std.proofs.Common.{List, refl, subst}
use Rattle.round_trip.specs.Words.{Fragment}
use Rattle.round_trip.specs.Between.{schema_of}
use Rattle.member_groups.specs.joined_groups.Groups.{TellsGroups}
use Rattle.msl_checks.specs.barred_members.Added.{AddsAll}
use Rattle.msl_checks.specs.declared.barred_members.barred.Barred.{Barred}
use Rattle.msl_checks.proofs.barred_members.Barring.{tells_barred}
use Rattle.msl_checks.proofs.barred_members.barred.Barred.of.Goals as goal

pub returns-in-Ok : goal.returns-in-Ok
returns-in-Ok c =
    let model = c.args.model.now in
    let store = c.args.store.now in
    let mapping = c.args.mapping.now in
    let schema = schema_of model store mapping in
    let empty : Barred = record { groups = c.in_ok-of.field-0; labels = c.new.result } in
    let after = c.add_all.new.self in
    let Groups : List Fragment → Type 0 = λ fragments. TellsGroups model store fragments c.in_ok-of.field-0 in
    let added : AddsAll schema empty after = c.in-Ok.ensures in
    tells_barred schema empty added.0 after (subst Groups c.as_slice.ensures.items c.in_ok-of.ensures mapping refl) c.new.ensures.empty added.1 added.2
