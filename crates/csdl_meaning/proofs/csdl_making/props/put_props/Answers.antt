use Rattle.std.proofs.Common.{◌≡◌, ℕ, ◌+◌, List, [], ◌∷◌, ◌++◌, map, take, Some, slice_get, append_assoc, arith, refl, ap, ◌∙◌}
use Rattle.std.proofs.lemmas.Grind.{common_steps}
use Rattle.std.proofs.lemmas.Option.{slice_get_read}
use Rattle.emc_base.proofs.Turns.{mapped_more}
use Rattle.csdl_meaning.specs.Meaning.{prop_of}
use Rattle.csdl_meaning.proofs.csdl_making.props.put_props.Goals as goal

-- one image more, behind what was there
mapped_behind : {X Y : Type 0} (f : X → Y) (before : List Y) (items : List X) (i : ℕ) (item : X) (made : List Y) (one : Y) → made ≡ before ++ map f (take i items)
    → slice_get items i ≡ Some item → one ≡ f item → made ++ one ∷ [] ≡ before ++ map f (take (i + 1) items)
mapped_behind f before items i item made one is here one_is =
    ap (λ list. list ++ one ∷ []) is ∙ append_assoc before (map f (take i items)) (one ∷ [])
    ∙ ap (λ list. before ++ list) (mapped_more f items i item (map f (take i items)) one refl here one_is)

pub loop-prop-preserved : goal.loop-prop-preserved
loop-prop-preserved c =
    let items = c.as_slice-prop-items.result.now in
    c.in_ok-push.ensures.ok
    ∙ mapped_behind (prop_of c.args.lookups.now.model.now c.args.owner) c.args.props.now items c.loop-prop.prop-index c.prop-item.result c.loop-prop.props _
    c.loop-prop.invariant (slice_get_read items _ c.loop-prop.prop-index c.prop-item.result refl c.loop-prop-test.true c.prop-item.is) c.in_ok-make_prop.ensures

pub returns : goal.returns
returns c = grind (arith, common_steps)
