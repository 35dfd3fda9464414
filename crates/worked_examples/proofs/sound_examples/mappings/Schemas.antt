-- Sound mappings, by their fragments, with who is told to own each table.
use Rattle.std.proofs.Common.{◌≡◌, ℕ, List, [], ◌∷◌, ◌++◌, map, subst}
use Rattle.std.specs.Prelude.{bytes_eq, true, Contains}
use Rattle.std.specs.List.{AllByRecursion}
use Rattle.round_trip.specs.Words.{PropId, TableId, ColId, Assoc, Fragment, LinkFragment, Schema, At}
use Rattle.round_trip.specs.soundness.mappings.Owners.{Owner}
use Rattle.round_trip.specs.soundness.mappings.Mappings.{HasLinkFragmentIds, IsSoundFragment, IsSoundLinkFragment, IsSoundMapping}
use Rattle.worked_examples.proofs.sound_examples.Names.{names_apart, same_assoc, same_col, assocs_decide, cols_decide}
use Rattle.worked_examples.proofs.sound_examples.Lists.{all_from, apart}
use Rattle.worked_examples.proofs.sound_examples.Tests.{all_true, each_true, is_new, are_new, all_new, not_in}
use Rattle.worked_examples.proofs.sound_examples.mappings.Mappings.{IsTold, LinkIsTold, OwnersAreTold, pairings, one_owner}

module _ (schema : Schema) (prop_of : TableId → ColId → PropId) (owner_of : TableId → Owner) where
  -- the fragment is sound, and writes its table as is told
  abbrev pub FragmentFits : Fragment → Type 0
  FragmentFits fragment = IsSoundFragment schema fragment × IsTold schema prop_of owner_of fragment.table fragment.set fragment.pairs

  -- so is a fragment of links, with the association that it maps
  abbrev pub LinkFits : LinkFragment → Type 0
  LinkFits fragment = (mapped : Assoc) × At schema.model.assocs fragment.assoc.index mapped
      × (HasLinkFragmentIds schema fragment × IsSoundLinkFragment schema fragment mapped) × LinkIsTold schema prop_of owner_of fragment mapped

  -- where the fragments stand
  abbrev places : List (List ℕ)
  places = map (λ fragment. fragment.place) schema.mapping.fragments ++ map (λ fragment. fragment.place) schema.mapping.links

  -- what holds of the association that is mapped
  as_mapped : (P : Assoc → Type 0) (one other : Assoc) (assocs : List Assoc) (i : ℕ) → At assocs i one → At assocs i other → P one → P other
  as_mapped P one other assocs i at at_other holds = let same : one ≡ other = cc (at, at_other) in subst P same holds

  told : AllByRecursion FragmentFits schema.mapping.fragments → AllByRecursion LinkFits schema.mapping.links → OwnersAreTold schema prop_of owner_of
  told fragments links = record {
    sets = all_from (λ fragment. IsTold schema prop_of owner_of fragment.table fragment.set fragment.pairs) FragmentFits schema.mapping.fragments (λ fragment fits. fits.1) fragments;
    links = all_from (λ fragment. (mapped : Assoc) → At schema.model.assocs fragment.assoc.index mapped → LinkIsTold schema prop_of owner_of fragment mapped) LinkFits schema.mapping.links
        (λ fragment fits mapped at. as_mapped (LinkIsTold schema prop_of owner_of fragment) fits.0 mapped schema.model.assocs fragment.assoc.index fits.1 at fits.3) links;
  }

  pub mapping_from : all_true (are_new bytes_eq places ∷ are_new same_assoc (map (λ fragment. fragment.assoc) schema.mapping.links) ∷ []) ≡ true
      → AllByRecursion FragmentFits schema.mapping.fragments → AllByRecursion LinkFits schema.mapping.links → IsSoundMapping schema
  mapping_from tests fragments links =
      let passed = each_true (are_new bytes_eq places ∷ are_new same_assoc (map (λ fragment. fragment.assoc) schema.mapping.links) ∷ []) tests in
      record {
        fragments = all_from (IsSoundFragment schema) FragmentFits schema.mapping.fragments (λ fragment fits. fits.0) fragments;
        link_ids = all_from (HasLinkFragmentIds schema) LinkFits schema.mapping.links (λ fragment fits. fits.2.0) links;
        links = all_from (λ fragment. (mapped : Assoc) → At schema.model.assocs fragment.assoc.index mapped → IsSoundLinkFragment schema fragment mapped) LinkFits schema.mapping.links
            (λ fragment fits mapped at. as_mapped (IsSoundLinkFragment schema fragment) fits.0 mapped schema.model.assocs fragment.assoc.index fits.1 at fits.2.1) links;
        places = names_apart places passed.0;
        assocs = apart (map (λ fragment. fragment.assoc) schema.mapping.links) (all_new same_assoc assocs_decide (map (λ fragment. fragment.assoc) schema.mapping.links) passed.1.0);
        pairings = pairings schema prop_of owner_of (told fragments links);
        owners = one_owner schema prop_of owner_of (told fragments links);
      }

-- what is outside the key
pub off_key : (P : Type 0) (key : List ColId) (c : ColId) → is_new same_col c key ≡ true → Contains key c → P
off_key P key c test among = absurd (not_in same_col cols_decide c key test among)
