use Rattle.std.proofs.Common.{◌≡◌, ◌<◌, length, refl, sym, ◌∙◌, arith}
use Rattle.std.proofs.lemmas.Bool.{both_ways}
use Rattle.std.proofs.lemmas.Option.{slice_get_read}
use Rattle.csdl_names.specs.csdl_lists.References.{names_in}
use Rattle.csdl_associations.specs.csdl_constraints.Sides.{type_in}
use Rattle.csdl_associations.proofs.csdl_constraints.Beside.{maps_same, same_all, same_more}
use Rattle.csdl_associations.proofs.csdl_constraints.matching.match_types.Goals as goal

pub returns-then-not-is_same : goal.returns-then-not-is_same
returns-then-not-is_same g c =
    let model = c.args.sides.now.lookups.now.model.now in
    let typing = g.T.Typing.types c.args.typing.now in
    let place = c.loop-place.place in
    let alike : length c.args.ones.now ≡ length c.args.others.now = c.if-ones-others.false in
    let inside : place < length c.args.ones.now = c.loop-place-test.true in
    let here_one = slice_get_read _ _ place _ refl inside c.index-ones-place.is in
    let here_other = slice_get_read _ _ place _ refl (let within : place < length c.args.others.now = omega arith in within) c.index-others-place.is in (
      λ no. absurd cc,
      λ same. absurd (both_ways c.is_same.result c.if-not-is_same.true (c.is_same.ensures.1
          (c.type_in.ensures
          ∙ maps_same (type_in (names_in model) model typing c.args.one) (type_in (names_in model) model typing c.args.other) c.args.ones.now c.args.others.now place
          c.index-ones-place.result c.index-others-place.result here_one here_other same
          ∙ sym c.type_in-in-loop-place.ensures))),
    )

pub loop-place-preserved : goal.loop-place-preserved
loop-place-preserved g c =
    let model = c.args.sides.now.lookups.now.model.now in
    let typing = g.T.Typing.types c.args.typing.now in
    let place = c.loop-place.place in
    let alike : length c.args.ones.now ≡ length c.args.others.now = c.if-ones-others.false in
    let inside : place < length c.args.ones.now = c.loop-place-test.true in
    let here_one = slice_get_read _ _ place _ refl inside c.index-ones-place.is in
    let here_other = slice_get_read _ _ place _ refl (let within : place < length c.args.others.now = omega arith in within) c.index-others-place.is in
    same_more (type_in (names_in model) model typing c.args.one) (type_in (names_in model) model typing c.args.other) c.args.ones.now c.args.others.now place
    c.index-ones-place.result c.index-others-place.result here_one here_other
    (sym c.type_in.ensures ∙ c.is_same.ensures.0 c.if-not-is_same.false ∙ c.type_in-in-loop-place.ensures) c.loop-place.invariant

pub returns : goal.returns
returns g c =
    let model = c.args.sides.now.lookups.now.model.now in
    let typing = g.T.Typing.types c.args.typing.now in (
      λ _. same_all (type_in (names_in model) model typing c.args.one) (type_in (names_in model) model typing c.args.other) c.args.ones.now c.args.others.now c.loop-place.place
          c.if-ones-others.false c.loop-place-test.false c.loop-place.invariant,
      λ _. refl,
    )
