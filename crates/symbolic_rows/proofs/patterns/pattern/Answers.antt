use Rattle.std.proofs.Common.{sym, subst}
use Rattle.std.proofs.lemmas.Result.{IfOk-weaker}
use Rattle.round_trip.specs.Words.{AssocId}
use Rattle.regions.specs.Basis.{Basis}
use Rattle.regions.specs.Patterns.{by_entity, pattern_of}
use Rattle.regions.specs.declared.pattern.Focus.{Focus}
use Rattle.regions.specs.declared.pattern.Focus.TheVariants as focus
use Rattle.regions.specs.declared.pattern.Pattern.{Pattern}
use Rattle.regions.specs.declared.region.Region.{Region}
use Rattle.regions.specs.region_laws.IsBasis.{IsBasis}
use Rattle.regions.specs.region_laws.pattern.Allowed.{partner_parts}
use Rattle.region_states.specs.focus.Given.{Gives, HasFacts, HasFactsOf}
use Rattle.region_states.specs.region_basis.BasisOf.{basis_of}
use Rattle.symbolic_rows.proofs.patterns.pattern.Goals as goal

pub returns-in-Entity-clause-facts : goal.returns-in-Entity-clause-facts
returns-in-Entity-clause-facts c =
    let basis : Basis = basis_of c.args.parts.now in
    let is : IsBasis basis = c.parts_are_a_basis.ensures.basis c.args.parts.now c.requires in
    let region : Region = c.in-Entity.region in
    let facts : HasFactsOf basis (focus.Entity region) (pattern_of basis (focus.Entity region)) =
    λ held same per_flag. (let P : Region → Type 0 = λ one. HasFacts basis.schema.store (pattern_of basis (focus.Entity one))
    (by_entity basis.schema.model held.entity (partner_parts basis.schema.model held.links)) (Gives basis held.s held.entity held.links) in
    subst P same (record {
      rows = c.a_pattern_is_the_facts.ensures.rows basis is held per_flag;
      cells = c.a_pattern_is_the_facts.ensures.cells basis is held per_flag;
    })) in
    let Of : Focus → Pattern → Type 0 = HasFactsOf basis in
    IfOk-weaker c.region_pattern.result _ _ (λ pattern same. subst (λ of. Of of pattern) (sym c.in-Entity.is) (subst (Of (focus.Entity region)) (sym same) facts))
    c.region_pattern.ensures

pub returns-in-Link-clause-facts : goal.returns-in-Link-clause-facts
returns-in-Link-clause-facts c =
    let basis : Basis = basis_of c.args.parts.now in
    let is : IsBasis basis = c.parts_are_a_basis.ensures.basis c.args.parts.now c.requires in
    let a : AssocId = c.in-Link.assoc in
    let facts : HasFactsOf basis (focus.Link a) (pattern_of basis (focus.Link a)) = λ assoc here link. record {
      rows = c.a_pattern_is_the_facts.ensures.link_rows basis is a assoc here link;
      cells = c.a_pattern_is_the_facts.ensures.link_cells basis is a assoc here link;
    } in
    let Of : Focus → Pattern → Type 0 = HasFactsOf basis in
    IfOk-weaker c.link_pattern.result _ _ (λ pattern same. subst (λ of. Of of pattern) (sym c.in-Link.is) (subst (Of (focus.Link a)) (sym same) facts)) c.link_pattern.ensures
