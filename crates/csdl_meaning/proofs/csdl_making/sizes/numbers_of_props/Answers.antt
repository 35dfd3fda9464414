use Rattle.std.proofs.Common.{ℕ, ◌-◌, ◌^◌, min, refl, ap, ◌∙◌}
use Rattle.std.proofs.lemmas.Option.{slice_get_read}
use Rattle.csdl_names.specs.declared.csdl_lists.raw.RawProp.{RawProp}
use Rattle.csdl_meaning.specs.Kinds.{kind_of}
use Rattle.csdl_meaning.specs.csdl_making.Sizes.{numbers_in}
use Rattle.csdl_meaning.proofs.csdl_making.HeldNumbers.{counted_more}
use Rattle.csdl_meaning.proofs.csdl_making.sizes.numbers_of_props.Goals as goal

pub loop-prop-preserved : goal.loop-prop-preserved
loop-prop-preserved c =
    let most : ℕ = 2 ^ 64 - 1 in
    let held : RawProp → ℕ = λ prop. numbers_in (kind_of c.args.lookups.now.model.now prop) in
    c.saturating_add-held.ensures
    ∙ counted_more held c.as_slice-prop-items.result.now c.loop-prop.prop-index c.prop-item.result c.loop-prop.held c.numbers_of_prop.result most c.loop-prop.invariant
    (slice_get_read _ _ c.loop-prop.prop-index _ refl c.loop-prop-test.true c.prop-item.is) (ap (λ (n : ℕ). min n most) c.numbers_of_prop.ensures)
