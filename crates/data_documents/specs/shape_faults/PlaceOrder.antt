-- The order of places is total, and tells different places apart.
use Rattle.std.specs.Prelude.{◌≡◌, ◌∷◌}
use mathlib.Core.Path.{ap}
use Rattle.std.specs.Cmp.{IsTotalOrder, on_total}
use Rattle.std.specs.Cmp.Lexicographic.{lists_total, nat_list_cmp_total}
use Rattle.std.specs.FinMap.{IsAntisymmetric, nat_cmp-IsAntisymmetric, slice_cmp-IsAntisymmetric}
use Rattle.data_documents.specs.declared.shape_faults.place.ShapeStep.{ShapeStep}
use Rattle.data_documents.specs.declared.shape_faults.place.ShapeStep.TheVariants.{Member, Item, Missing}
use Rattle.data_documents.specs.shape_faults.Places.{place_cmp, sort_of, step_cmp, within_sort}

-- the order of steps is total
pub step_cmp_total : IsTotalOrder step_cmp
step_cmp_total = on_total (λ step. sort_of step ∷ within_sort step) nat_list_cmp_total

-- steps that it doesn't tell apart are one
pub step_cmp_apart : IsAntisymmetric step_cmp
step_cmp_apart one two same = by one two (slice_cmp-IsAntisymmetric nat_cmp-IsAntisymmetric (sort_of one ∷ within_sort one) (sort_of two ∷ within_sort two) same)
  where
    by : (one two : ShapeStep) → sort_of one ∷ within_sort one ≡ sort_of two ∷ within_sort two → one ≡ two
    by (Member a) (Member b) is = ap Member cc
    by (Item a) (Item b) is = ap Item cc
    by (Missing r a) (Missing s b) is = let rank : r ≡ s = cc in let name : a ≡ b = cc in λ i. Missing (rank i) (name i)
    by (Member a) (Item b) is = absurd cc
    by (Member a) (Missing s b) is = absurd cc
    by (Item a) (Member b) is = absurd cc
    by (Item a) (Missing s b) is = absurd cc
    by (Missing r a) (Member b) is = absurd cc
    by (Missing r a) (Item b) is = absurd cc

-- the order of places is total
pub place_cmp_total : IsTotalOrder place_cmp
place_cmp_total = lists_total step_cmp_total

-- places that it doesn't tell apart are one
pub place_cmp_apart : IsAntisymmetric place_cmp
place_cmp_apart = slice_cmp-IsAntisymmetric step_cmp_apart
