use Rattle.std.proofs.lemmas.Bool.{both_ways}
use Rattle.csdl_names.specs.csdl_lists.References.{names_in}
use Rattle.csdl_associations.specs.csdl_association_sets.SetEnds.{HasOtherDependent}
use Rattle.csdl_associations.proofs.csdl_association_sets.KnownConstraints.{breaks_dependent, keeps_dependent, without}
use Rattle.csdl_associations.proofs.csdl_association_sets.constraints.Constraints.has_other_dependent.Goals as goal

pub returns-in_default : goal.returns-in_default
returns-in_default c =
    let model = c.args.self.now in
    let set = c.args.set.now in
    (λ is. absurd cc, λ breaks. absurd (without model set c.in_default.ensures (HasOtherDependent (names_in model) model set) breaks))

pub returns-then-known : goal.returns-then-known
returns-then-known c =
    breaks_dependent c.args.self.now c.args.set.now c.in-Some.known c.in-Some.ensures c.has_other_element.result c.has_other_element.ensures c.if-known.true

pub returns-else-known : goal.returns-else-known
returns-else-known c = (
  λ key. absurd (both_ways c.in-Some.known.dependent.has_key_prop c.if-known.false key),
  λ breaks. absurd (keeps_dependent c.args.self.now c.args.set.now c.in-Some.known c.in-Some.ensures c.if-known.false breaks),
)
