-- The first item of a name in a list, and items that are found or not.
use Rattle.std.proofs.Common.{◌≡◌, ◌≢◌, ◌⊎◌, ⊎_elim, ℕ, suc, Bool, true, false, cond, List, [], ◌∷◌, map, find, AllPairs, Contains, Option, Some, None, refl, sym, ap, subst, ◌∙◌}
use Rattle.std.specs.Str.{bytes_eq}
use Rattle.std.proofs.lemmas.Bool.{both_ways}
use Rattle.std.proofs.lemmas.Option.{same_Some}
use Rattle.std.proofs.lemmas.Slice.Eq.{bytes_eq-Decides}
use Rattle.emc_base.specs.Lists.{At}
use Rattle.emc_base.proofs.Lists.{at_once, same_place}
use Rattle.emc_base.proofs.Members.{contains_nil, contains_cons_cases}

-- what isn't missing is there
pub there_is : {X : Type 0} (found : Option X) → found ≢ None → (x : X) × (found ≡ Some x)
there_is None some = absurd (some refl)
there_is (Some x) some = (x, refl)

module _ {X : Type 0} (name_in : X → List ℕ) (name : List ℕ) where
  -- the item that is found stands in the list and has the name
  pub found_named : (items : List X) (item : X) → find (λ item. bytes_eq name (name_in item)) items ≡ Some item → (k : ℕ) × At items k item × (name_in item ≡ name)
  found_named [] item is = absurd cc
  found_named (x ∷ items) item is = by (bytes_eq name (name_in x)) refl is (found_named items item)
    where
      by : (same : Bool) → bytes_eq name (name_in x) ≡ same → cond same (Some x) (find (λ item. bytes_eq name (name_in item)) items) ≡ Some item
          → (find (λ item. bytes_eq name (name_in item)) items ≡ Some item → (k : ℕ) × At items k item × (name_in item ≡ name))
          → (k : ℕ) × At (x ∷ items) k item × (name_in item ≡ name)
      by true same one rest =
          let this : x ≡ item = same_Some x item one in
          (0, one, ap name_in (sym this) ∙ sym ((bytes_eq-Decides name (name_in x)).0 same))
      by false same later rest = let found = rest later in (suc found.0, found.1, found.2)

  -- a name of an item is found
  pub named_found : (items : List X) → Contains (map name_in items) name → (item : X) × (find (λ item. bytes_eq name (name_in item)) items ≡ Some item)
  named_found [] has = absurd (contains_nil name has)
  named_found (x ∷ items) has = by (bytes_eq name (name_in x)) refl (contains_cons_cases (name_in x) (map name_in items) name has) (named_found items)
    where
      by : (same : Bool) → bytes_eq name (name_in x) ≡ same → (name ≡ name_in x) ⊎ Contains (map name_in items) name
          → (Contains (map name_in items) name → (item : X) × (find (λ item. bytes_eq name (name_in item)) items ≡ Some item))
          → (item : X) × (cond same (Some x) (find (λ item. bytes_eq name (name_in item)) items) ≡ Some item)
      by true same either rest = (x, refl)
      by false same either rest = ⊎_elim
          (λ (this : name ≡ name_in x). absurd (both_ways (bytes_eq name (name_in x)) same ((bytes_eq-Decides name (name_in x)).1 this)))
          (λ (later : Contains (map name_in items) name). rest later)
          either

-- where no two items have one name, each is found by its name
pub itself_found : {X : Type 0} (name_in : X → List ℕ) (items : List X) → AllPairs (λ one other. name_in one ≢ name_in other) items
    → (k : ℕ) (item : X) → At items k item → Contains (map name_in items) (name_in item) → find (λ other. bytes_eq (name_in item) (name_in other)) items ≡ Some item
itself_found {X} name_in items apart k item here has =
    let found = named_found name_in (name_in item) items has in
    let place = found_named name_in (name_in item) items found.0 found.1 in
    let P : ℕ → Type 0 = λ n. At items n found.0 in
    let same = same_place name_in items place.0 k found.0 item apart place.1 here place.2 in
    found.1 ∙ ap Some (at_once items k found.0 item (subst P same place.1) here)
