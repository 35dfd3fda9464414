-- Which rule is told, by how far the three documents could be read.
use Rattle.std.proofs.Common.{◌≡◌, ◌≢◌, ◌+◌, ◌<◌, ◌≤◌, ℕ, List, [], Some, None, Result, Ok, Err, IsErrAnd, inl, inr, ⊎_elim, refl, sym, ap, subst, ◌∙◌, arith}
use Rattle.std.specs.Prelude.{unwrap_or}
use Rattle.std.proofs.lemmas.Bool.{cases_lt}
use Rattle.std.proofs.lemmas.Option.{same_Some}
use Rattle.std.specs.declared.cmp.Ordering.TheVariants.{Greater}
use Rattle.serde_json.specs.Data.{Data, null}
use Rattle.json_form.specs.TreeParts.{tree_at}
use Rattle.groupings.specs.least_fault.Least.{IsLeast}
use Rattle.layouts.specs.declared.fault.Fault.{Fault}
use Rattle.layouts.specs.declared.rule.Rule.TheVariants.{IsJson}
use Rattle.layouts.specs.Faults.{fault_cmp}
use Rattle.layouts.proofs.Faults.{not_after_itself, same_fault}
use Rattle.edm_types.specs.declared.faults.VocabFault.{VocabFault}
use Rattle.edm_types.specs.declared.faults.VocabFault.TheVariants as read
use Rattle.edm_types.specs.declared.faults.VocabFile.TheVariants.{Csdl, Ssdl, Msl}
use Rattle.round_trip.specs.Words.{EntityModel, StoreModel, Mapping, Schema, VocabFile}
use Rattle.csdl_names.specs.csdl_lists.Raw.{raw_model}
use Rattle.csdl_meaning.specs.ModelMeaning.{meaning}
use Rattle.csdl_model.specs.ModelFaults.{IsModelFault}
use Rattle.csdl_model.specs.ReadsModel.{IsModelOf}
use Rattle.ssdl_model.specs.ssdl_lists.RawStore.{raw_store}
use Rattle.ssdl_model.specs.ssdl_making.StoreMeaning.{store_meaning}
use Rattle.ssdl_model.specs.ReadsStore.{IsStoreOf}
use Rattle.ssdl_model.specs.StoreFaults.{IsStoreFault}
use Rattle.msl_rules.specs.msl_lists.Raw.{raw_mapping}
use Rattle.msl_rules.specs.MappingFaults.{IsMappingFault}
use Rattle.msl_rules.specs.MappingMeaning.{schema_in}
use Rattle.msl_fragments.specs.ReadsMapping.{IsMappingOf}
use Rattle.layouts.specs.told_rules.Reads.{Answers}
use Rattle.layouts.specs.told_rules.Told.{told_as}
use Rattle.mapping_core.specs.Compiles.{ReadsSchema}
use Rattle.mapping_core.specs.Reading.{IsReadOf, ReadsFile, ReadsTree}
use Rattle.mapping_core.specs.Rules.{Breaks, IsFaultBy, IsReadSchema, IsToldRule, file_number, model_in, schema_of_files, store_in, tree_in}

-- files of one number are one file
pub same_file : (one two : VocabFile) → file_number one ≡ file_number two → one ≡ two
same_file Csdl Csdl same = refl
same_file Csdl Ssdl same = cc
same_file Csdl Msl same = cc
same_file Ssdl Csdl same = cc
same_file Ssdl Ssdl same = refl
same_file Ssdl Msl same = cc
same_file Msl Csdl same = cc
same_file Msl Ssdl same = cc
same_file Msl Msl same = refl

-- the tree of a file that holds one
pub held_tree : (bytes : List ℕ) (d : Data) → tree_at bytes ≡ Some d → tree_in bytes ≡ d
held_tree bytes d held = ap (λ o. unwrap_or o null) held

module _ {X : Type 0} (file : VocabFile) (BreaksRule : Data → Fault → Type 0) (IsRead : Data → X → Type 0) (bytes : List ℕ) where
  -- a file that holds no tree has one fault, which is told
  treeless : tree_at bytes ≡ None → IsLeast fault_cmp (IsFaultBy BreaksRule bytes) (Some (record { rule = IsJson; place = [] }))
  treeless none = (
    inl (none, refl, refl),
    λ fault. ⊎_elim
        (λ is. let same : record { rule = IsJson; place = [] } ≡ fault = same_fault (record { rule = IsJson; place = [] }) fault (sym is.1) (sym is.2) in
        subst (λ (other : Fault). fault_cmp (record { rule = IsJson; place = [] }) other ≢ Greater) same (not_after_itself (record { rule = IsJson; place = [] })))
        (λ some. let no : None ≡ Some some.0 = sym none ∙ some.1 in absurd cc),
  )

  -- what stops the reading of its tree is told
  pub stops_at_tree : (told : VocabFault) (result : Result X VocabFault) → IsErrAnd result (λ fault. fault ≡ told) → ReadsTree file bytes (Err told)
      → ReadsFile file BreaksRule IsRead bytes result
  stops_at_tree told (Ok read) is reads = absurd is
  stops_at_tree told (Err (read.Rule rule)) is reads = by_told told is reads
    where
      by_told : (told : VocabFault) → read.Rule rule ≡ told → ReadsTree file bytes (Err told) → ReadsFile file BreaksRule IsRead bytes (Err (read.Rule rule))
      by_told (read.Rule other) is reads = (record { rule = IsJson; place = [] }, treeless reads.0, let same : read.Rule rule ≡ read.Rule other = is in cc)
      by_told read.Memory is reads = absurd cc
  stops_at_tree told (Err read.Memory) is reads = cc

  -- the faults of its tree are its own
  of_tree : (d : Data) → tree_at bytes ≡ Some d → (fault : Fault) → IsFaultBy BreaksRule bytes fault → BreaksRule d fault
  of_tree d held fault = ⊎_elim
      (λ is. let no : None ≡ Some d = sym is.0 ∙ held in absurd cc)
      (λ some. let same : some.0 ≡ d = same_Some some.0 d (sym some.1 ∙ held) in subst (λ (e : Data). BreaksRule e fault) same some.2)

  -- what was read of its tree, or is told of it
  pub reads_tree : (d : Data) → tree_at bytes ≡ Some d → (result : Result X VocabFault) → Answers file (BreaksRule d) (IsRead d) result → ReadsFile file BreaksRule IsRead bytes result
  reads_tree d held (Ok read) is = record { tree = d; held = held; is_read = is }
  reads_tree d held (Err (read.Rule rule)) is = (is.0, (inr (d, held, is.1.0), λ fault breaks. is.1.1 fault (of_tree d held fault breaks)), is.2)
  reads_tree d held (Err read.Memory) is = cc

  -- a file whose tree breaks no rule has no fault
  pub faultless_tree : (d : Data) → tree_at bytes ≡ Some d → ((fault : Fault) → ¬ BreaksRule d fault) → (fault : Fault) → ¬ IsFaultBy BreaksRule bytes fault
  faultless_tree d held none fault breaks = none fault (of_tree d held fault breaks)

module _ (csdl ssdl msl : List ℕ) where
  -- the file has no fault
  abbrev IsFaultless : VocabFile → Type 0
  IsFaultless file = IsLeast fault_cmp (Breaks csdl ssdl msl file) None

  -- so of the first files, so many of them
  abbrev AreFaultless : ℕ → Type 0
  AreFaultless count = (file : VocabFile) → file_number file < count → IsFaultless file

  -- no file is the first of none
  pub none_read : AreFaultless 0
  none_read file below = absurd (omega arith)

  -- and one more of them has none
  one_more_read : (file : VocabFile) → IsFaultless file → AreFaultless (file_number file) → AreFaultless (file_number file + 1)
  one_more_read file clean before other below = ⊎_elim
      (λ (earlier : file_number other < file_number file). before other earlier)
      (λ (later : file_number file ≤ file_number other). let same : file ≡ other = same_file file other (omega arith) in subst IsFaultless same clean)
      (cases_lt (file_number other) (file_number file))

  -- the least fault of the first file that has one is told
  tells_first : (file : VocabFile) (fault : Fault) → IsLeast fault_cmp (Breaks csdl ssdl msl file) (Some fault) → AreFaultless (file_number file)
      → IsToldRule csdl ssdl msl (told_as file fault)
  tells_first file fault is before = record {
    fault = fault;
    spelled = refl;
    broken = is.0;
    in_first_file = λ other else breaks. ⊎_elim
        (λ (earlier : file_number other < file_number file). absurd (before other earlier else breaks))
        (λ (later : file_number file ≤ file_number other). later)
        (cases_lt (file_number other) (file_number file));
    least = is.1;
  }

  -- what stops the reading of a file is told
  stops_at : (file : VocabFile) (fault : VocabFault) → Answers {X = Schema} file (Breaks csdl ssdl msl file) (λ read. ⊥) (Err fault) → AreFaultless (file_number file)
      → ReadsSchema csdl ssdl msl (Err fault)
  stops_at file (read.Rule told) reads before = subst (IsToldRule csdl ssdl msl) (sym reads.2) (tells_first file reads.0 reads.1 before)
  stops_at file read.Memory reads before = cc

-- what stops the reading is what it answers
handed_on : (csdl ssdl msl : List ℕ) (told : VocabFault) (result : Result Schema VocabFault) → IsErrAnd result (λ fault. fault ≡ told)
    → ReadsSchema csdl ssdl msl (Err told) → ReadsSchema csdl ssdl msl result
handed_on csdl ssdl msl told (Ok schema) is reads = absurd is
handed_on csdl ssdl msl told (Err fault) is reads = let P : VocabFault → Type 0 = λ other. ReadsSchema csdl ssdl msl (Err other) in subst P (sym is) reads

-- what was told of a file says nothing of what would have been read
told_alone : {X Y : Type 0} (file : VocabFile) (P : Fault → Type 0) (IsRead : X → Type 0) (IsOther : Y → Type 0) (fault : VocabFault)
    → Answers file P IsRead (Err fault) → Answers file P IsOther (Err fault)
told_alone file P IsRead IsOther (read.Rule told) answers = answers
told_alone file P IsRead IsOther read.Memory answers = answers

module _ (csdl ssdl msl : List ℕ) where
  -- the first file stops the reading
  pub stops_at_model : (told : VocabFault) (result : Result Schema VocabFault) → IsErrAnd result (λ fault. fault ≡ told) → ReadsFile Csdl IsModelFault IsModelOf csdl (Err told)
      → ReadsSchema csdl ssdl msl result
  stops_at_model told result is reads = handed_on csdl ssdl msl told result is
      (stops_at csdl ssdl msl Csdl told (told_alone Csdl (IsFaultBy IsModelFault csdl) (IsReadOf IsModelOf csdl) (λ (schema : Schema). ⊥) told reads) (none_read csdl ssdl msl))

  module _ (model : EntityModel) (of_model : IsReadOf IsModelOf csdl model) where
    -- the model is what the file means
    model_is : model ≡ model_in csdl
    model_is = of_model.is_read.meant ∙ ap (λ d. meaning (raw_model d)) (sym (held_tree csdl of_model.tree of_model.held))

    model_clean : AreFaultless csdl ssdl msl 1
    model_clean = one_more_read csdl ssdl msl Csdl (faultless_tree Csdl IsModelFault IsModelOf csdl of_model.tree of_model.held of_model.is_read.unbroken) (none_read csdl ssdl msl)

    -- the second file stops the reading
    pub stops_at_store : (told : VocabFault) (result : Result Schema VocabFault) → IsErrAnd result (λ fault. fault ≡ told) → ReadsFile Ssdl IsStoreFault IsStoreOf ssdl (Err told)
        → ReadsSchema csdl ssdl msl result
    stops_at_store told result is reads = handed_on csdl ssdl msl told result is
        (stops_at csdl ssdl msl Ssdl told (told_alone Ssdl (IsFaultBy IsStoreFault ssdl) (IsReadOf IsStoreOf ssdl) (λ (schema : Schema). ⊥) told reads) model_clean)

    module _ (store : StoreModel) (of_store : IsReadOf IsStoreOf ssdl store) where
      store_is : store ≡ store_in ssdl
      store_is = of_store.is_read.meant ∙ ap (λ d. store_meaning (raw_store d)) (sym (held_tree ssdl of_store.tree of_store.held))

      store_clean : AreFaultless csdl ssdl msl 2
      store_clean = one_more_read csdl ssdl msl Ssdl (faultless_tree Ssdl IsStoreFault IsStoreOf ssdl of_store.tree of_store.held of_store.is_read.unbroken) model_clean

      -- the third file stops the reading
      pub stops_at_mapping : (told : VocabFault) (result : Result Schema VocabFault) → IsErrAnd result (λ fault. fault ≡ told)
          → ReadsFile Msl (IsMappingFault model store) (IsMappingOf model store) msl (Err told) → ReadsSchema csdl ssdl msl result
      stops_at_mapping told result is reads = handed_on csdl ssdl msl told result is (stops_at csdl ssdl msl Msl told between store_clean)
        where
          Told : EntityModel → StoreModel → Type 0
          Told m s = Answers {X = Schema} Msl (IsFaultBy (IsMappingFault m s) msl) (λ read. ⊥) (Err told)

          between : Told (model_in csdl) (store_in ssdl)
          between = subst (λ (m : EntityModel). Told m (store_in ssdl)) model_is (subst (λ (s : StoreModel). Told model s) store_is
              (told_alone Msl (IsFaultBy (IsMappingFault model store) msl) (IsReadOf (IsMappingOf model store) msl) (λ (schema : Schema). ⊥) told reads))

      module _ (mapping : Mapping) (of_mapping : IsReadOf (IsMappingOf model store) msl mapping) where
        abbrev together : Schema
        together = record { model = model; store = store; mapping = mapping }

        together_is : together ≡ schema_of_files csdl ssdl msl
        together_is =
            let made : Mapping → Schema = λ m. record { model = model; store = store; mapping = m } in
            ap made of_mapping.is_read.meant
            ∙ ap (λ d. schema_in model store (raw_mapping d)) (sym (held_tree msl of_mapping.tree of_mapping.held))
            ∙ ap (λ m. schema_in m store (raw_mapping (tree_in msl))) model_is
            ∙ ap (λ s. schema_in (model_in csdl) s (raw_mapping (tree_in msl))) store_is

        mapping_clean : AreFaultless csdl ssdl msl 3
        mapping_clean = one_more_read csdl ssdl msl Msl (subst (λ (m : EntityModel). Clean m (store_in ssdl)) model_is (subst (λ (s : StoreModel). Clean model s) store_is here)) store_clean
          where
            Clean : EntityModel → StoreModel → Type 0
            Clean m s = (fault : Fault) → ¬ IsFaultBy (IsMappingFault m s) msl fault

            here : Clean model store
            here = faultless_tree Msl (IsMappingFault model store) (IsMappingOf model store) msl of_mapping.tree of_mapping.held of_mapping.is_read.unbroken

        unbroken : (file : VocabFile) (fault : Fault) → ¬ Breaks csdl ssdl msl file fault
        unbroken Csdl = mapping_clean Csdl (omega arith)
        unbroken Ssdl = mapping_clean Ssdl (omega arith)
        unbroken Msl = mapping_clean Msl (omega arith)

        -- the documents break no rule
        pub all_meant : IsReadSchema csdl ssdl msl together
        all_meant = record { means = record { unbroken = unbroken; meaning = together_is }; sound = of_mapping.is_read.sound }
