use Rattle.std.proofs.Common.{◌<◌, ℕ, List, All, length, refl, sym, subst, ◌∙◌}
use Rattle.std.proofs.lemmas.Option.{slice_get_read}
use Rattle.csdl_meaning.specs.Meaning.{is_base}
use Rattle.csdl_meaning.proofs.csdl_making.Below.{types_inside}
use Rattle.csdl_meaning.proofs.csdl_making.forest.based_on.Goals as goal

pub returns-clause-inside : goal.returns-clause-inside
returns-clause-inside c =
    let raw = c.args.model.now in
    let P : List ℕ → Type 0 = λ places. All (λ i. i < length raw.types) places in
    let within : c.args.place < length c.args.children.now = subst (λ count. c.args.place < count) (sym c.requires.children.alike) c.requires.inside in
    subst P (sym (c.as_slice.ensures.items ∙ c.requires.children.each c.args.place c.index-children-place.result (slice_get_read _ _ c.args.place _ refl within c.index-children-place.is)))
    (types_inside raw (is_base raw c.args.place))
