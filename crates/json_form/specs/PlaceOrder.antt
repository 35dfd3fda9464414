-- The order of places is total, and tells different places apart.
use Rattle.std.specs.Prelude.{◌≡◌}
use mathlib.Core.Path.{ap}
use Rattle.std.specs.Cmp.{IsTotalOrder, on_total}
use Rattle.std.specs.Cmp.Lexicographic.{lists_total, nat_list_cmp_total}
use Rattle.std.specs.FinMap.{IsAntisymmetric, nat_cmp-IsAntisymmetric, slice_cmp-IsAntisymmetric}
use Rattle.json_form.specs.declared.pointer.Step.{Step}
use Rattle.json_form.specs.declared.pointer.Step.TheVariants.{Member, Item}
use Rattle.json_form.specs.Pointers.{step_cmp, step_key, steps_cmp}

-- the order of steps is total
pub step_cmp_total : IsTotalOrder step_cmp
step_cmp_total = on_total step_key nat_list_cmp_total

-- steps that it doesn't tell apart are one
pub step_cmp_apart : IsAntisymmetric step_cmp
step_cmp_apart one two same = by one two (slice_cmp-IsAntisymmetric nat_cmp-IsAntisymmetric (step_key one) (step_key two) same)
  where
    by : (one two : Step) → step_key one ≡ step_key two → one ≡ two
    by (Member a) (Member b) is = ap Member cc
    by (Item a) (Item b) is = ap Item cc
    by (Member a) (Item b) is = absurd cc
    by (Item a) (Member b) is = absurd cc

-- the order of places is total
pub steps_cmp_total : IsTotalOrder steps_cmp
steps_cmp_total = lists_total step_cmp_total

-- places that it doesn't tell apart are one
pub steps_cmp_apart : IsAntisymmetric steps_cmp
steps_cmp_apart = slice_cmp-IsAntisymmetric step_cmp_apart
