use Rattle.std.proofs.Common.{◌≡◌, ◌-◌, ◌^◌, min, sum_by, take}
use Rattle.csdl_meaning.specs.Kinds.{kind_of}
use Rattle.csdl_meaning.specs.csdl_making.Sizes.{numbers_in}
use Rattle.csdl_meaning.proofs.csdl_making.sizes.numbers_of_props.Given as goal

-- what the properties that were passed hold
abbrev pub invariant-loop-prop : goal.invariant-loop-prop
invariant-loop-prop l = l.held ≡ min (sum_by (λ prop. numbers_in (kind_of l.lookups.model.now prop)) (take l.prop-index l.prop-items)) (2 ^ 64 - 1)
