-- How many items a TypeName has.
use Rattle.std.proofs.Common.{◌≡◌, ◌==◌, ◌+◌, ◌<◌, ℕ, List, length, arith}
use Rattle.std.specs.List.{count_by, slice_split}
use Rattle.std.proofs.lemmas.List.{length-map}
use Rattle.std.proofs.lemmas.List.Splits.{length-slice_split}
use Rattle.msl_rules.specs.msl_lists.Picks.{pick_of, raw_picks}

-- one more than there are semicolons
pub item_count : (text : List ℕ) → length (raw_picks text) ≡ count_by (λ b. b == 59) text + 1
item_count text = let pieces = length-map (slice_split (λ b. b == 59) text) pick_of in let count = length-slice_split (λ b. b == 59) text in omega (arith, pieces, count)

-- so there is one
pub some_item : (text : List ℕ) → 0 < length (raw_picks text)
some_item text = let count = item_count text in omega (arith, count)
