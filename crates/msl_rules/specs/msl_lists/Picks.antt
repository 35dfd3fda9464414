-- The items of a TypeName. It is a text, and its items stand between semicolons: each is a reference to a type, or `IsTypeOf(reference)`
-- where the types below it are meant too. Spaces at both ends of an item don't count.
-- Source: MSL version 3, TypeName of an EntityTypeMapping.
use Rattle.std.specs.Prelude.{ℕ, List, [], ◌∷◌, ◌==◌, ◌-◌, length, take, map, true, false, Option, Some, None, if◌then◌else◌, codes}
use Rattle.std.specs.List.{ends_with, slice_split}
use Rattle.std.specs.Option.{option_and_then, option_map_or}
use Rattle.groupings.specs.name_places.Fronts.{rest_after}
use Rattle.msl_rules.specs.declared.msl_lists.raw.RawPick.{RawPick}

-- a text without the spaces at its front
abbrev pub skip_spaces : List ℕ → List ℕ
skip_spaces [] = []
skip_spaces (b ∷ bs) = if b == 32 then skip_spaces bs else b ∷ bs

-- a byte and what is left behind it; nothing where it is a space and nothing is left
abbrev pub before_left : ℕ → List ℕ → List ℕ
before_left b [] = if b == 32 then [] else b ∷ []
before_left b (c ∷ cs) = b ∷ c ∷ cs

-- a text without the spaces at its end
abbrev pub skip_last_spaces : List ℕ → List ℕ
skip_last_spaces [] = []
skip_last_spaces (b ∷ bs) = before_left b (skip_last_spaces bs)

-- what stands before a text at the end of another
abbrev pub rest_before : List ℕ → List ℕ → Option (List ℕ)
rest_before end text = if ends_with (λ one other. one == other) text end then Some (take (length text - length end) text) else None

-- the reference of `IsTypeOf(reference)`
abbrev pub below_reference : List ℕ → Option (List ℕ)
below_reference item = option_and_then (rest_before (codes ")")) (rest_after (codes "IsTypeOf(") item)

-- an item without spaces at its ends
abbrev pub bare_pick : List ℕ → RawPick
bare_pick item = option_map_or (λ reference. record { reference = reference; below = true }) (below_reference item) (record { reference = item; below = false })

-- an item
abbrev pub pick_of : List ℕ → RawPick
pick_of item = bare_pick (skip_last_spaces (skip_spaces item))

-- the items of a TypeName
abbrev pub raw_picks : List ℕ → List RawPick
raw_picks text = map pick_of (slice_split (λ b. b == 59) text)
