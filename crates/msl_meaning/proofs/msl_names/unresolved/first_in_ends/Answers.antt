use Rattle.std.proofs.Common.{codes, sym}
use Rattle.layouts.specs.declared.fault.Fault.{Fault}
use Rattle.layouts.specs.rule_places.Places.{InList}
use Rattle.layouts.proofs.rule_places.Rules.{least_where_some}
use Rattle.round_trip.specs.Words.{Assoc}
use Rattle.msl_rules.specs.NameRules.{IsUnresolvedEnd}
use Rattle.msl_meaning.specs.msl_names.LinkNames.{IsUnresolvedInEnds}
use Rattle.msl_rules.proofs.Named.{least_at}
use Rattle.msl_meaning.proofs.msl_names.unresolved.first_in_ends.Goals as goal

pub returns : goal.returns
returns c =
    let names = c.args.names.now in
    let assocs = names.model.now.assocs in
    let Ends : Assoc → Fault → Type 0 = λ assoc. InList (codes "EndProperty") (IsUnresolvedEnd names.model.now names.store.now assoc) c.args.ends.now in
    least_where_some (IsUnresolvedInEnds names.model.now names.store.now c.args.ends.now) c.args.set c.in-Some.place c.in_ok-found.found c.in-Some.is
    (least_at Ends assocs c.in-Some.place c.in-Some-get.assoc.now c.in_ok-found.found (sym c.in-Some-get.ensures.item) c.in_ok-found.ensures)
