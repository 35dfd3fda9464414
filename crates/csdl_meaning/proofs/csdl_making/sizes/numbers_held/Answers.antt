use Rattle.std.proofs.Common.{ℕ, ◌-◌, ◌^◌, List, min, sum_by, take_all, refl, sym, ap, ◌∙◌}
use Rattle.std.proofs.lemmas.Option.{slice_get_read}
use Rattle.csdl_names.specs.declared.csdl_lists.raw.RawType.{RawType}
use Rattle.csdl_meaning.proofs.csdl_making.HeldNumbers.{counted_more, held_by, held_together, stopped_once}
use Rattle.csdl_meaning.proofs.csdl_making.sizes.numbers_held.Goals as goal

pub loop-ty-preserved : goal.loop-ty-preserved
loop-ty-preserved c =
    let raw = c.args.lookups.now.model.now in
    let most : ℕ = 2 ^ 64 - 1 in
    c.saturating_add-held.ensures
    ∙ counted_more (held_by raw) c.as_slice-ty-items.result.now c.loop-ty.ty-index c.ty-item.result c.loop-ty.held c.numbers_of_props.result most c.loop-ty.invariant
    (slice_get_read _ _ c.loop-ty.ty-index _ refl c.loop-ty-test.true c.ty-item.is)
    (ap (λ (n : ℕ). min n most) c.numbers_of_props.ensures ∙ stopped_once (held_by raw c.ty-item.result) most)

pub returns : goal.returns
returns c =
    let raw = c.args.lookups.now.model.now in
    let most : ℕ = 2 ^ 64 - 1 in
    c.loop-ty.invariant
    ∙ ap (λ (types : List RawType). min (sum_by (held_by raw) types) most) (take_all c.loop-ty.ty-index c.as_slice-ty-items.result.now c.loop-ty-test.false ∙ c.as_slice-ty-items.ensures.items)
    ∙ ap (λ (n : ℕ). min n most) (sym (held_together raw))
