use Rattle.std.proofs.Common.{IsTrue, slice_get, true, sym, ◌∙◌}
use Rattle.std.specs.Option.{option_copied}
use Rattle.std.proofs.lemmas.Bool.{both_ways}
use Rattle.layouts.proofs.rule_places.LeastFound.{at_none}
use Rattle.emc_base.specs.Lists.{At}
use Rattle.layouts.specs.declared.fault.Fault.{Fault}
use Rattle.csdl_names.specs.declared.csdl_lists.raw.RawAssociation.{RawAssociation}
use Rattle.csdl_associations.specs.csdl_constraints.Answered.{IsFaultBy}
use Rattle.csdl_associations.proofs.csdl_constraints.InModel.{marked_least}
use Rattle.csdl_associations.proofs.csdl_constraints.rules.RulesFinderRawAssociationFault.find.Goals as goal

pub returns-then-not-is_marked : goal.returns-then-not-is_marked
returns-then-not-is_marked c = λ fault wrong. both_ways c.is_marked.result c.if-not-is_marked.true (c.is_marked.ensures.1 wrong.0)

pub returns-in_default : goal.returns-in_default
returns-in_default c = λ fault wrong.
    let self = c.args.self.now in
    let model = self.sides.now.lookups.now.model.now in
    let By : RawAssociation → Fault → Type 0 = λ association. IsFaultBy model association (At self.others.now c.args.place true) in
    at_none (slice_get model.associations c.args.place) By (sym c.get.ensures.item ∙ (λ k. option_copied (c.in_default.is k))) fault wrong.1

pub returns : goal.returns
returns c =
    let self = c.args.self.now in
    let model = self.sides.now.lookups.now.model.now in
    marked_least model self.named.now self.others.now c.args.place c.in-Some.association.now (IsTrue c.is_marked-has_other.result) c.in_ok-found.found
    (c.is_marked.ensures.0 c.if-not-is_marked.false) (sym c.in-Some.ensures.item) c.is_marked-has_other.ensures c.in_ok-found.ensures
