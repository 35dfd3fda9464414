-- What each end of a mapping of an association set writes. V29, V30 and V39.
use Rattle.std.proofs.Common.{◌≡◌, ◌≢◌, ⊎_elim, inl, inr, ℕ, ◌<◌, ◌≤◌, List, [], ◌∷◌, ◌++◌, length, map, All, Contains, Option, Some, codes, refl, sym, ap, subst, ◌∙◌, arith}
use Rattle.std.specs.Option.{MatchOption, option_map_or}
use Rattle.std.proofs.lemmas.Bool.{cases_lt}
use Rattle.std.proofs.lemmas.List.{map-append}
use Rattle.std.proofs.lemmas.List.Elements.{All-append, All-contains}
use Rattle.std.proofs.lemmas.Option.{slice_get_within}
use Rattle.emc_base.specs.Lists.{At, AreApart}
use Rattle.emc_base.proofs.Lists.{all_from_members, at_once}
use Rattle.emc_base.proofs.Mapped.{contains_at, contains_map}
use Rattle.emc_base.proofs.Members.{in_map}
use Rattle.graphs.proofs.base_chains.orders.Orders.{place_of_member}
use Rattle.json_form.specs.declared.pointer.Step.TheVariants.{Item, Member}
use Rattle.layouts.specs.declared.rule.Rule.TheVariants as rule
use Rattle.layouts.specs.rule_places.Places.{IsAt}
use Rattle.round_trip.specs.Words.{ColId, End, EntityModel, Pair, PropId, StoreModel, key_props}
use Rattle.round_trip.specs.soundness.mappings.Fragments.{WritesEndKey, WritesLinkOnce, WritesToFitting}
use Rattle.round_trip.specs.soundness.mappings.Mappings.{HasPairIds}
use Rattle.groupings.proofs.name_places.FirstPlaces.{names_apart}
use Rattle.schema_names.specs.SchemaNames.{column_named, prop_named}
use Rattle.layouts.proofs.rule_places.FaultPlaces.{fault_at, in_list}
use Rattle.emc_base.proofs.Joined.{apart-append, in_found}
use Rattle.schema_names.proofs.Places.{same_column_name}
use Rattle.msl_rules.specs.declared.msl_lists.raw.RawEndMapping.{RawEndMapping}
use Rattle.msl_rules.specs.declared.msl_lists.raw.RawMapping.{RawMapping}
use Rattle.msl_rules.specs.declared.msl_lists.raw.RawPair.{RawPair}
use Rattle.msl_rules.specs.Found.{end_pairs, pair_in, pairs_in, table_numbered}
use Rattle.msl_rules.specs.FragmentRules.{IsUnfitFault}
use Rattle.msl_rules.specs.KeepsMapping.{KeepsMappingRules}
use Rattle.msl_rules.specs.LinkRules.{IsWrittenAgain, WritesJust}
use Rattle.msl_rules.specs.MappingMeaning.{schema_in}
use Rattle.msl_fragments.proofs.sound_links.FoundPairs.{cols_apart, pair_parts, pairs_inside, props_apart}
use Rattle.msl_fragments.proofs.sound_links.KeptLinks.{none_of_end, role_found, roles_apart}
use Rattle.msl_fragments.proofs.sound_links.LinkEnds.{IsMappedEnd, first_mapped, second_mapped}
use Rattle.msl_fragments.proofs.sound_links.MeantLinks.{IsMeantLink, meant_by}
use Rattle.msl_fragments.proofs.sound_links.OneName.{named_prop, one_prop}
use Rattle.msl_fragments.proofs.sound_links.Placed.{just_stable}
use Rattle.msl_fragments.proofs.sound_links.Stable.{corresponds_stable}

module _ (model : EntityModel) (store : StoreModel) (raw : RawMapping) (keeps : KeepsMappingRules model store raw) (it : IsMeantLink model store raw) where
  -- the pairs of an end
  abbrev pairs_of : End → List Pair
  pairs_of end = end_pairs model store it.table end it.link.ends

  -- what a name of a property stands for at it
  abbrev named_at : End → List ℕ → Option PropId
  named_at end = prop_named model end.ty.index

  -- the roles of the association differ
  roles_differ : it.assoc.first.role ≢ it.assoc.second.role
  roles_differ = All-contains (λ assoc. assoc.first.role ≢ assoc.second.role) model.assocs it.assoc keeps.sound_model.names.roles (contains_at model.assocs it.set it.assoc it.is_assoc)

  two_ends : length it.link.ends ≡ 2
  two_ends = All-contains (λ link. length link.ends ≡ 2) raw.links it.link keeps.ends (contains_at raw.links it.place it.link it.here)

  -- so both ends are mapped
  first_end : IsMappedEnd it.assoc it.link.ends it.assoc.first
  first_end = first_mapped it.assoc roles_differ it.link.ends two_ends (roles_apart model store raw keeps it) (role_found model store raw keeps it)

  second_end : IsMappedEnd it.assoc it.link.ends it.assoc.second
  second_end = second_mapped it.assoc roles_differ it.link.ends two_ends (roles_apart model store raw keeps it) (role_found model store raw keeps it)

  module _ (end : End) (mapped : IsMappedEnd it.assoc it.link.ends end) where
    -- the pairs are those of the mapping
    pairs_are : pairs_of end ≡ pairs_in model store (named_at end) it.table mapped.mapping.pairs
    pairs_are = ap (λ (found : Option RawEndMapping). option_map_or (λ mapping. pairs_in model store (named_at end) it.table mapping.pairs) found []) mapped.is_found

    of_pairs : (P : List Pair → Type 0) → P (pairs_in model store (named_at end) it.table mapped.mapping.pairs) → P (pairs_of end)
    of_pairs P = subst P (sym pairs_are)

    -- their ids are in range
    ids : All (HasPairIds (schema_in model store raw) (table_numbered it.table)) (pairs_of end)
    ids = of_pairs (All (HasPairIds (schema_in model store raw) (table_numbered it.table))) (pairs_inside (schema_in model store raw) (named_at end) it.table
        (λ name prop is. let found = named_prop model end.ty.index name prop is in slice_get_within model.props prop.index found.0 found.1) mapped.mapping.pairs)

    -- V29
    kinds : All (WritesToFitting (schema_in model store raw) (table_numbered it.table)) (pairs_of end)
    kinds = of_pairs (All (WritesToFitting (schema_in model store raw) (table_numbered it.table))) (all_from_members (WritesToFitting (schema_in model store raw) (table_numbered it.table))
        (pairs_in model store (named_at end) it.table mapped.mapping.pairs) (λ pair has property column is_property is_column.
        let from = in_found (pair_in model store (named_at end) it.table) mapped.mapping.pairs pair has in
        corresponds_stable property column (λ not. unfit pair from.0 from.1 from.2 (λ fits. not (fits property column is_property is_column)))))
      where
        unfit : (pair : Pair) (from : RawPair) → Contains mapped.mapping.pairs from → pair_in model store (named_at end) it.table from ≡ Some pair
            → ¬ (¬ WritesToFitting (schema_in model store raw) (table_numbered it.table) pair)
        unfit pair from has is not =
            let P : Option Pair → Type 0 = λ found. MatchOption found ⊥ (λ pair. ¬ WritesToFitting (schema_in model store raw) (table_numbered it.table) pair) in
            none_of_end model store raw keeps it mapped.place mapped.mapping end mapped.here mapped.is_end
            (fault_at rule.Corresponds (Member (codes "ScalarProperty") ∷ Item has.0 ∷ []))
            (inl (in_list (IsUnfitFault (schema_in model store raw) (named_at end) it.table) (codes "ScalarProperty") mapped.mapping.pairs has.0 from rule.Corresponds []
            (place_of_member mapped.mapping.pairs from has) (subst P (sym is) not, (refl, refl))))

    -- V39: no pair is written again
    not_again : (k : ℕ) (pair : RawPair) → At mapped.mapping.pairs k pair → ¬ IsWrittenAgain it.link.ends mapped.place mapped.mapping k pair
    not_again k pair here again = none_of_end model store raw keeps it mapped.place mapped.mapping end mapped.here mapped.is_end
        (fault_at rule.WrittenOnce (Member (codes "ScalarProperty") ∷ Item k ∷ []))
        (inr (inr (in_list (λ k pair inside. IsWrittenAgain it.link.ends mapped.place mapped.mapping k pair × IsAt rule.WrittenOnce [] inside) (codes "ScalarProperty")
        mapped.mapping.pairs k pair rule.WrittenOnce [] here (again, (refl, refl)))))

    props_once : AreApart (map (λ pair. pair.prop) (pairs_of end))
    props_once = of_pairs (λ pairs. AreApart (map (λ pair. pair.prop) pairs)) (props_apart (schema_in model store raw) (named_at end) it.table (one_prop model end.ty.index) mapped.mapping.pairs
        (names_apart (λ pair. pair.prop) mapped.mapping.pairs (λ k pair here given. not_again k pair here (inl (inl given)))))

    cols_once : AreApart (map (λ pair. pair.col) (pairs_of end))
    cols_once = of_pairs (λ pairs. AreApart (map (λ pair. pair.col) pairs)) (cols_apart (schema_in model store raw) (named_at end) it.table mapped.mapping.pairs
        (names_apart (λ pair. pair.col) mapped.mapping.pairs (λ k pair here given. not_again k pair here (inl (inr given)))))

    -- V30
    just : WritesJust (key_props model end.ty) (pairs_of end)
    just = of_pairs (WritesJust (key_props model end.ty)) (just_stable (key_props model end.ty) (pairs_in model store (named_at end) it.table mapped.mapping.pairs) (λ unwritten.
        none_of_end model store raw keeps it mapped.place mapped.mapping end mapped.here mapped.is_end (fault_at rule.WritesKey []) (inr (inl (unwritten, (refl, refl))))))

    key : WritesEndKey model end.ty (pairs_of end)
    key = record { once = props_once; all = just.all; only = just.only }

    -- a column that is written is named by a pair
    col_named : (col : ColId) → Contains (map (λ pair. pair.col) (pairs_of end)) col
        → (from : RawPair) × Contains mapped.mapping.pairs from × (column_named store it.table from.col ≡ Some col.index)
    col_named col has =
        let P : List Pair → Type 0 = λ pairs. Contains (map (λ pair. pair.col) pairs) col in
        let pair = in_map (λ (pair : Pair). pair.col) (pairs_in model store (named_at end) it.table mapped.mapping.pairs) col (subst P pairs_are has) in
        let from = in_found (pair_in model store (named_at end) it.table) mapped.mapping.pairs pair.0 pair.1 in
        (from.0, from.1, (pair_parts (schema_in model store raw) (named_at end) it.table from.0 pair.0 from.2).1 ∙ ap (λ (col : ColId). Some col.index) pair.2)

  -- V39: a column of an end is none of an end that is mapped before
  none_earlier : (one other : End) (before : IsMappedEnd it.assoc it.link.ends one) (mapped : IsMappedEnd it.assoc it.link.ends other) → before.place < mapped.place
      → (first next : RawPair) → Contains before.mapping.pairs first → Contains mapped.mapping.pairs next → first.col ≢ next.col
  none_earlier one other before mapped earlier first next has here same =
      not_again other mapped here.0 next (place_of_member mapped.mapping.pairs next here) (inr (record {
        i = before.place;
        other = before.mapping;
        before = earlier;
        here = before.here;
        same = subst (Contains (map (λ pair. pair.col) before.mapping.pairs)) same (contains_map (λ pair. pair.col) before.mapping.pairs first has);
      }))

  -- the two ends are mapped at two places
  two_places : first_end.place ≢ second_end.place
  two_places same =
      let P : ℕ → Type 0 = λ place. At it.link.ends place first_end.mapping in
      let mapping = at_once it.link.ends second_end.place first_end.mapping second_end.mapping (subst P same first_end.here) second_end.here in
      roles_differ (sym first_end.is_role ∙ ap (λ (mapping : RawEndMapping). mapping.role) mapping ∙ second_end.is_role)

  -- so they have no column in common
  cols_differ : (first next : RawPair) → Contains first_end.mapping.pairs first → Contains second_end.mapping.pairs next → first.col ≢ next.col
  cols_differ first next has here same = ⊎_elim
      (λ (before : first_end.place < second_end.place). none_earlier it.assoc.first it.assoc.second first_end second_end before first next has here same)
      (λ (after : second_end.place ≤ first_end.place).
      let apart : first_end.place ≢ second_end.place = two_places in
      none_earlier it.assoc.second it.assoc.first second_end first_end (omega arith) next first here has (sym same))
      (cases_lt first_end.place second_end.place)

  -- V39
  pub writes_once : WritesLinkOnce (meant_by model store raw it)
  writes_once = record {
    first = props_once it.assoc.first first_end;
    second = props_once it.assoc.second second_end;
    cols = let P : List ColId → Type 0 = λ cols. AreApart cols in
        subst P (sym (map-append (λ (pair : Pair). pair.col) (pairs_of it.assoc.first) (pairs_of it.assoc.second)))
        (apart-append (λ one other. one ≢ other) (map (λ pair. pair.col) (pairs_of it.assoc.first)) (map (λ pair. pair.col) (pairs_of it.assoc.second))
        (cols_once it.assoc.first first_end) (cols_once it.assoc.second second_end)
        (all_from_members (λ one. All (λ other. one ≢ other) (map (λ pair. pair.col) (pairs_of it.assoc.second))) (map (λ pair. pair.col) (pairs_of it.assoc.first)) (λ one has.
        all_from_members (λ other. one ≢ other) (map (λ pair. pair.col) (pairs_of it.assoc.second)) (λ other there same.
        let first = col_named it.assoc.first first_end one has in
        let next = col_named it.assoc.second second_end other there in
        cols_differ first.0 next.0 first.1 next.1
        (same_column_name store it.table first.0.col next.0.col other.index (first.2 ∙ ap (λ (col : ColId). Some col.index) same) next.2)))));
  }

  -- the same of both ends
  pub pair_ids : All (HasPairIds (schema_in model store raw) (table_numbered it.table)) (pairs_of it.assoc.first ++ pairs_of it.assoc.second)
  pair_ids = All-append (HasPairIds (schema_in model store raw) (table_numbered it.table)) (pairs_of it.assoc.first) (pairs_of it.assoc.second)
      (ids it.assoc.first first_end) (ids it.assoc.second second_end)

  pub pair_kinds : All (WritesToFitting (schema_in model store raw) (table_numbered it.table)) (pairs_of it.assoc.first ++ pairs_of it.assoc.second)
  pair_kinds = All-append (WritesToFitting (schema_in model store raw) (table_numbered it.table)) (pairs_of it.assoc.first) (pairs_of it.assoc.second)
      (kinds it.assoc.first first_end) (kinds it.assoc.second second_end)

  pub first_key : WritesEndKey model it.assoc.first.ty (pairs_of it.assoc.first)
  first_key = key it.assoc.first first_end

  pub second_key : WritesEndKey model it.assoc.second.ty (pairs_of it.assoc.second)
  second_key = key it.assoc.second second_end
