-- Names given in lists: where each is given first, and which was given before.
use Rattle.std.specs.Prelude.{◌≡◌, ℕ, ◌<◌, List, Option, Some, None, cond, position}
use Rattle.std.specs.Option.{option_or}
use Rattle.std.specs.Str.{bytes_eq}
use Rattle.emc_base.specs.Lists.{At}

module _ {X : Type 0} (name_in : X → List ℕ) (items : List X) where
  -- the first place at which the name is given
  abbrev pub first_place : List ℕ → Option ℕ
  first_place name = position (λ item. bytes_eq name (name_in item)) items

  -- an item with the same name stands before this place
  pub record IsGivenBefore (place : ℕ) (item : X) : Type 0 where
    pub i : ℕ
    pub other : X
    pub before : i < place
    pub here : At items i other
    pub same : name_in other ≡ name_in item

-- the places of names, with one place more: that of a name which has none yet
abbrev pub noted : (List ℕ → Option ℕ) → List ℕ → ℕ → List ℕ → Option ℕ
noted places name place other = option_or (places other) (cond (bytes_eq other name) (Some place) None)
