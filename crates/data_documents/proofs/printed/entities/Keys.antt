-- The array of a key at an end of a link: nothing is wrong with its shape, each part of it is told, and it gives the key.
use Rattle.std.proofs.Common.{◌≡◌, ◌-◌, ◌<◌, inl, inr, ℕ, List, length, map, Contains, unwrap_or, Some, option_and_then, slice_get, refl, sym, ap, subst, ◌∙◌}
use Rattle.std.specs.List.{enumerate_from}
use Rattle.std.proofs.Math.ListN.{length-map}
use Rattle.std.proofs.lemmas.List.Elements.{All-map}
use Rattle.std.proofs.lemmas.Option.{none-some}
use Rattle.serde_json.specs.Data.{Data}
use Rattle.emc_base.specs.Lists.{At}
use Rattle.emc_base.proofs.Joined.{at_map}
use Rattle.emc_base.proofs.Lists.{all_from_members, at_once}
use Rattle.emc_base.proofs.Mapped.{contains_at, map-enumerated}
use Rattle.emc_base.proofs.Numbered.{enumerated_at}
use Rattle.json_form.specs.Trees.{key_tree, value_tree}
use Rattle.json_form.specs.TreeParts.{items_in}
use Rattle.round_trip.specs.Words.{EntityModel, PropId, TypeId, Value, Null, key_props}
use Rattle.data_documents.specs.declared.shape_faults.place.ShapeStep.{ShapeStep}
use Rattle.data_documents.specs.entity_documents.Shapes.{IsKeyFault, value_for}
use Rattle.data_documents.specs.entity_documents.States.{key_in, part_at}
use Rattle.data_documents.proofs.printed.Entries.{array_whole, listed}
use Rattle.data_documents.proofs.printed.entities.Beside.{map_alike}
use Rattle.data_documents.proofs.printed.entities.Entities.{IsGoodValue, given_for}
use Rattle.data_documents.proofs.printed.spelled.Whole.{IsWhole}

-- a key of the type: a value for each property of its key, which the value's tree gives
pub record IsGoodKey (model : EntityModel) (ty : TypeId) (key : List Value) : Type 0 where
  pub value : PropId → Value
  pub is : key ≡ map value (key_props model ty)
  pub values : (prop : PropId) → Contains (key_props model ty) prop → IsGoodValue model prop (value prop)

module _ (model : EntityModel) (ty : TypeId) (value : PropId → Value) (values : (prop : PropId) → Contains (key_props model ty) prop → IsGoodValue model prop (value prop)) where
  abbrev props : List PropId
  props = key_props model ty

  abbrev parts : List Value
  parts = map value props

  -- the item beside a property is the tree of its value
  item_is : (i : ℕ) (prop : PropId) → At props i prop → At (items_in (key_tree parts)) i (value_tree (value prop))
  item_is i prop here = ap (λ items. slice_get items i) (listed (map value_tree parts)) ∙ at_map value_tree parts i (value prop) (at_map value props i prop here)

  -- and gives it
  item_gives : (i : ℕ) (prop : PropId) → At props i prop → value_for model prop (value_tree (value prop)) ≡ Some (value prop)
  item_gives i prop here = let good = values prop (contains_at props i prop here) in given_for model prop (value prop) good (value_tree (value prop)) good.good.back

  -- so does what is read there
  part_back : (entry : ℕ × PropId) → At props entry.0 entry.1 → part_at model (key_tree parts) entry ≡ value entry.1
  part_back entry here =
      ap (λ found. unwrap_or (option_and_then (value_for model entry.1) found) Null) (item_is entry.0 entry.1 here)
      ∙ ap (λ found. unwrap_or found Null) (item_gives entry.0 entry.1 here)

  -- all together are the values
  parts_back : key_in model ty (key_tree parts) ≡ parts
  parts_back =
      let beside : ℕ × PropId → Value = λ entry. value entry.1 in
      map_alike (part_at model (key_tree parts)) beside (enumerate_from 0 props)
      (all_from_members (λ entry. part_at model (key_tree parts) entry ≡ beside entry) (enumerate_from 0 props) (λ entry has. part_back entry (enumerated_at props entry has)))
      ∙ map-enumerated value 0 props

  -- there are as many items as properties, each of the form of its property
  parts_good : (place : List ShapeStep) → ¬ IsKeyFault model ty (key_tree parts) place
  parts_good place (inl short) = absurd (short.0 (refl, ap length (listed (map value_tree parts)) ∙ length-map parts value_tree ∙ length-map props value))
  parts_good place (inr among) =
      let tree : Data = value_tree (value among.item) in
      let part : among.holds.part ≡ tree = at_once (items_in (key_tree parts)) among.i among.holds.part tree among.holds.here (item_is among.i among.item among.here) in
      absurd (none-some (value among.item) (sym among.holds.wrong ∙ ap (value_for model among.item) part ∙ item_gives among.i among.item among.here))

  -- and each is told part by part
  parts_whole : (n : ℕ) → 0 < n → IsWhole n (key_tree parts)
  parts_whole n some = array_whole value_tree parts n some
      (All-map (λ v. IsWhole (n - 1) (value_tree v)) value props
      (all_from_members (λ prop. IsWhole (n - 1) (value_tree (value prop))) props (λ prop has. (values prop has).good.whole (n - 1))))

module _ (model : EntityModel) (ty : TypeId) (key : List Value) (good : IsGoodKey model ty key) where
  -- the array of a key gives the key
  pub key_back : key_in model ty (key_tree key) ≡ key
  key_back = ap (λ parts. key_in model ty (key_tree parts)) good.is ∙ parts_back model ty good.value good.values ∙ sym good.is

  -- nothing is wrong with its shape
  pub good_key : (place : List ShapeStep) → ¬ IsKeyFault model ty (key_tree key) place
  good_key place fault = parts_good model ty good.value good.values place (subst (λ (parts : List Value). IsKeyFault model ty (key_tree parts) place) good.is fault)

  -- and it is told part by part
  pub key_whole : (n : ℕ) → 0 < n → IsWhole n (key_tree key)
  key_whole n some = subst (λ (parts : List Value). IsWhole n (key_tree parts)) (sym good.is) (parts_whole model ty good.value good.values n some)
