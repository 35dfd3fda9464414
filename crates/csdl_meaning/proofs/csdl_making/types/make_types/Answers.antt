use Rattle.std.proofs.Common.{◌≡◌, ℕ, ◌+◌, ◌<◌, ◌≤◌, List, [], length, map, set, get_or-set_other, ap, subst, ◌∙◌, arith}
use Rattle.std.specs.List.{enumerate_from}
use Rattle.round_trip.specs.Words.{EntityType}
use Rattle.csdl_names.specs.declared.csdl_lists.raw.RawType.{RawType}
use Rattle.csdl_meaning.specs.Meaning.{type_of}
use Rattle.csdl_meaning.specs.csdl_making.Making.{list_at}
use Rattle.csdl_meaning.proofs.csdl_making.Numbered.{type_is}
use Rattle.emc_base.proofs.Turns.{all_placed, at_place, mapped_more}
use Rattle.csdl_meaning.proofs.csdl_making.types.make_types.Goals as goal

-- what was taken out at one place changes no later one
later_kept : {X : Type 0} (before now : List (List X)) (i j : ℕ) → now ≡ set before i [] → i + 1 ≤ j → list_at now j ≡ list_at before j
later_kept before now i j is above =
    ap (λ lists. list_at lists j) is ∙ get_or-set_other before i j [] [] (λ (same : j ≡ i). absurd (omega (arith, same, above)))

pub loop-place-preserved : goal.loop-place-preserved
loop-place-preserved c =
    let raw = c.args.lookups.now.model.now in
    let i = c.loop-place.place in
    let f : ℕ × RawType → EntityType = λ place. type_of raw place.0 place.1 in
    let Inside : List RawType → Type 0 = λ types. i < length types in
    let inside : i < length raw.types = subst Inside c.as_slice-ty-items.ensures.items c.loop-place-test.true in
    let here : i ≤ i = omega arith in (
      c.in_ok-push.ensures.ok
          ∙ mapped_more f (enumerate_from 0 raw.types) i (i, c.ty-item.result) c.loop-place.types c.in_ok-make_type.field-0 c.loop-place.invariant.0
          (at_place c.as_slice-ty-items.result.now raw.types i c.ty-item.result c.as_slice-ty-items.ensures.items c.loop-place-test.true c.ty-item.is)
          (c.in_ok-make_type.ensures ∙ type_is raw i c.ty-item.result c.take_at-key.result c.take_at-of_type.result
          (c.take_at-key.ensures.list ∙ c.loop-place.invariant.1 i here ∙ c.requires.keys i inside)
          (c.take_at-of_type.ensures.list ∙ c.loop-place.invariant.2 i here ∙ c.requires.props i inside)),
      (λ j above. later_kept c.loop-place.keys.items c.take_at-key.new.lists.items i j c.take_at-key.ensures.left above ∙ c.loop-place.invariant.1 j (omega (arith, above))),
      (λ j above. later_kept c.loop-place.props.items c.take_at-of_type.new.lists.items i j c.take_at-of_type.ensures.left above ∙ c.loop-place.invariant.2 j (omega (arith, above))),
    )

pub returns : goal.returns
returns c =
    let raw = c.args.lookups.now.model.now in
    let f : ℕ × RawType → EntityType = λ place. type_of raw place.0 place.1 in
    c.loop-place.invariant.0 ∙ ap (map f) (all_placed c.as_slice-ty-items.result.now raw.types c.loop-place.place c.as_slice-ty-items.ensures.items c.loop-place-test.false)
