use Rattle.std.proofs.Common.{◌+◌, List, [], ◌∷◌, ◌++◌, sym, subst, refl, ◌∙◌, zero-add}
use Rattle.std.proofs.lemmas.List.FromFn.{map-range_with_len_more}
use Rattle.std.proofs.lemmas.Option.{slice_get_read}
use Rattle.emc_base.specs.Lists.{At}
use Rattle.csdl_names.specs.declared.csdl_lists.raw.RawType.{RawType}
use Rattle.csdl_meaning.specs.Meaning.{declared_before}
use Rattle.csdl_meaning.proofs.csdl_making.Numbered.{before_more}
use Rattle.csdl_meaning.proofs.csdl_making.ids.starts_of.Goals as goal

pub loop-ty-preserved : goal.loop-ty-preserved
loop-ty-preserved c =
    let raw = c.args.model.now in
    let i = c.loop-ty.ty-index in
    let here : At raw.types i c.ty-item.result =
    (let P : List RawType → Type 0 = λ types. At types i c.ty-item.result in
    subst P c.as_slice-ty-items.ensures.items (slice_get_read _ _ i _ refl c.loop-ty-test.true c.ty-item.is)) in (
      c.in_ok-push.ensures.ok ∙ (λ k. c.loop-ty.invariant.0 k ++ c.loop-ty.invariant.1 k ∷ []) ∙ sym (map-range_with_len_more (declared_before raw) 0 i i (zero-add i)),
      c.in_ok-before.ensures ∙ (λ k. c.loop-ty.invariant.1 k + c.len.ensures.count k) ∙ before_more raw i c.ty-item.result here,
    )
