-- The limits of a mapping as they are looked at: on the model, on the store, on the mapping, on constants and on regions.
use Rattle.std.proofs.Common.{◌≡◌, List, [], ◌++◌, flat_map, length, Result, Some, slice_get, sym, ap, subst, ◌∙◌}
use Rattle.std.specs.Bool.{⊤}
use Rattle.std.specs.List.{enumerate_from}
use Rattle.std.proofs.lemmas.List.{append_assoc}
use Rattle.round_trip.specs.Words.{LimitFault}
use Rattle.edm_types.specs.declared.faults.LimitKind.TheVariants as limit
use Rattle.regions.specs.Basis.{Basis}
use Rattle.region_partition.specs.declared.mapping_limits.passed.Passed.{Passed}
use Rattle.region_partition.specs.mapping_limits.Checked.{TellsFirst, fault_of, of_mapping, of_model, of_store, of_table}
use Rattle.region_partition.specs.mapping_limits.FirstLimit.{constants_passed, limits_passed, most_keys, most_tables, passed, regions_passed}
use Rattle.region_partition.proofs.mapping_limits.Firsts.{first_before}

-- the first of a list is that of what stands behind an empty one
first_behind : {X : Type 0} (xs ys : List X) (y : X) → xs ≡ [] → slice_get ys 0 ≡ Some y → slice_get (xs ++ ys) 0 ≡ Some y
first_behind {X} xs ys y none is = let First : List X → Type 0 = λ list. slice_get (list ++ ys) 0 ≡ Some y in subst First (sym none) is

none_both : {X : Type 0} (xs ys : List X) → xs ≡ [] → ys ≡ [] → xs ++ ys ≡ []
none_both xs ys first second = ap (λ list. list ++ ys) first ∙ second

module _ (basis : Basis) where
  abbrev model : List LimitFault
  model = of_model basis.schema.model

  abbrev store : List LimitFault
  store = of_store basis.schema.store

  abbrev mapping : List LimitFault
  mapping = of_mapping basis.schema.mapping

  abbrev constants : List LimitFault
  constants = flat_map (constants_passed basis) (enumerate_from 0 basis.schema.model.props)

  abbrev regions : List LimitFault
  regions = flat_map (regions_passed basis) (enumerate_from 0 basis.schema.model.sets)

  -- all limits are these, one after another
  in_turn : limits_passed basis ≡ model ++ store ++ mapping ++ constants ++ regions
  in_turn =
      let tables = passed limit.Tables [] (length basis.schema.store.tables) most_tables in
      let columns = flat_map of_table basis.schema.store.tables in
      let keys = passed limit.Foreign [] (length basis.schema.store.keys) most_keys in
      ap (λ list. list ++ mapping ++ constants ++ regions) (ap (λ list. list ++ keys) (append_assoc model tables columns) ∙ append_assoc model (tables ++ columns) keys)

  module _ (found : Passed) where
    -- a limit on the model is told first; and each other one where none before it is passed
    pub model_first : slice_get model 0 ≡ Some (fault_of found) → slice_get (limits_passed basis) 0 ≡ Some (fault_of found)
    model_first is = ap (λ list. slice_get list 0) in_turn ∙ (let y = fault_of found in
        first_before (model ++ store ++ mapping ++ constants) regions y (first_before (model ++ store ++ mapping) constants y
        (first_before (model ++ store) mapping y (first_before model store y is))))

    pub store_first : model ≡ [] → slice_get store 0 ≡ Some (fault_of found) → slice_get (limits_passed basis) 0 ≡ Some (fault_of found)
    store_first no_model is = ap (λ list. slice_get list 0) in_turn ∙ (let y = fault_of found in
        first_before (model ++ store ++ mapping ++ constants) regions y (first_before (model ++ store ++ mapping) constants y
        (first_before (model ++ store) mapping y (first_behind model store y no_model is))))

    pub mapping_first : model ≡ [] → store ≡ [] → slice_get mapping 0 ≡ Some (fault_of found) → slice_get (limits_passed basis) 0 ≡ Some (fault_of found)
    mapping_first no_model no_store is = ap (λ list. slice_get list 0) in_turn ∙ (let y = fault_of found in
        first_before (model ++ store ++ mapping ++ constants) regions y (first_before (model ++ store ++ mapping) constants y
        (first_behind (model ++ store) mapping y (none_both model store no_model no_store) is)))

    pub constants_first : model ≡ [] → store ≡ [] → mapping ≡ [] → slice_get constants 0 ≡ Some (fault_of found)
        → slice_get (limits_passed basis) 0 ≡ Some (fault_of found)
    constants_first no_model no_store no_mapping is = ap (λ list. slice_get list 0) in_turn ∙ (let y = fault_of found in
        first_before (model ++ store ++ mapping ++ constants) regions y
        (first_behind (model ++ store ++ mapping) constants y (none_both (model ++ store) mapping (none_both model store no_model no_store) no_mapping) is))

  -- where no other limit is passed, what is told of regions is told of all
  pub regions_last : (result : Result ⊤ Passed) → model ≡ [] → store ≡ [] → mapping ≡ [] → constants ≡ [] → TellsFirst regions result → TellsFirst (limits_passed basis) result
  regions_last result no_model no_store no_mapping no_constants told =
      let none = none_both (model ++ store ++ mapping) constants (none_both (model ++ store) mapping (none_both model store no_model no_store) no_mapping) no_constants in
      let Told : List LimitFault → Type 0 = λ list. TellsFirst list result in
      let Behind : List LimitFault → Type 0 = λ list. TellsFirst (list ++ regions) result in
      subst Told (sym in_turn) (subst Behind (sym none) told)
