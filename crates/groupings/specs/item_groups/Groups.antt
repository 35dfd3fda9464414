-- Items by their keys.
-- Source: this project's.
use Rattle.std.specs.Prelude.{List, [], filter, map}
use Rattle.std.specs.declared.cmp.Ordering.{Ordering}
use Rattle.std.specs.Global.{Vec}
use Rattle.std.specs.BTreeMap.{BTreeMap, get}
use Rattle.std.specs.Option.{option_map_or}
use Rattle.std.specs.Ordering.{is_eq}

module _ {K X : Type 0} (cmp : K → K → Ordering) where
  -- what a map lists of a key; nothing where it doesn't have it
  abbrev pub items_at : BTreeMap K (Vec X) → K → List X
  items_at groups key = option_map_or (λ list. list.items) (get cmp groups key) []

  -- those of some items with keys that have this key
  abbrev pub items_of : List (K × X) → K → List X
  items_of keyed key = map (λ one. one.1) (filter (λ one. is_eq (cmp one.0 key)) keyed)
