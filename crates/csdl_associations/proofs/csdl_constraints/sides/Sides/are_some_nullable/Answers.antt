use Rattle.std.proofs.Common.{refl, ◌<◌, arith}
use Rattle.std.proofs.lemmas.Bool.{both_ways}
use Rattle.std.proofs.lemmas.Option.{slice_get_read}
use Rattle.csdl_names.specs.csdl_lists.References.{names_in}
use Rattle.csdl_associations.specs.csdl_constraints.Sides.{IsNullable}
use Rattle.csdl_associations.proofs.csdl_constraints.Marking.{at_any, none_any, none_more}
use Rattle.csdl_associations.proofs.csdl_constraints.sides.Sides.are_some_nullable.Goals as goal

pub loop-name-init : goal.loop-name-init
loop-name-init c = λ j x here less holds. let none : j < 0 = less in omega arith

pub returns-then-is_nullable : goal.returns-then-is_nullable
returns-then-is_nullable c =
    let model = c.args.self.now.lookups.now.model.now in
    let here = slice_get_read _ _ c.loop-name.name-index _ refl c.loop-name-test.true c.name-item.is in
    (λ _. at_any (IsNullable (names_in model) model c.args.ty) c.args.props.now c.loop-name.name-index c.name-item.result here (c.is_nullable.ensures.0 c.if-is_nullable.true), λ _. refl)

pub loop-name-preserved : goal.loop-name-preserved
loop-name-preserved c =
    let model = c.args.self.now.lookups.now.model.now in
    let here = slice_get_read _ _ c.loop-name.name-index _ refl c.loop-name-test.true c.name-item.is in
    none_more (IsNullable (names_in model) model c.args.ty) c.args.props.now c.loop-name.name-index c.name-item.result here
    (λ holds. both_ways c.is_nullable.result c.if-is_nullable.false (c.is_nullable.ensures.1 holds)) c.loop-name.invariant

pub returns : goal.returns
returns c =
    let model = c.args.self.now.lookups.now.model.now in
    (λ no. absurd cc, λ any. absurd (none_any (IsNullable (names_in model) model c.args.ty) c.args.props.now c.loop-name.name-index c.loop-name-test.false c.loop-name.invariant any))
