-- Whoever writes a table that a set owns writes its key by the pairing; and the pairs of two ends write no column together.
use Rattle.std.proofs.Common.{◌≡◌, List, ◌++◌, Contains, subst}
use Rattle.std.proofs.lemmas.List.{map-append}
use Rattle.std.proofs.lemmas.List.Elements.{All-contains}
use Rattle.emc_base.specs.Lists.{AreApart}
use Rattle.emc_base.proofs.Mapped.{contains_map}
use Rattle.emc_base.proofs.facts.Pairs.{apart_between}
use Rattle.round_trip.specs.Words.{SetId, TableId, ColId, Assoc, Fragment, LinkFragment, Pair, Schema, At}
use Rattle.schema_laws.specs.state_demand.Owners.{IsHosted, IsOfOwner, IsOwned}
use Rattle.schema_laws.specs.state_demand.WellWritten.{cols_of}

module _ (schema : Schema) (t : TableId) (owner : SetId) (pairing : List Pair) (owned : IsOwned schema t owner pairing) where
  -- a fragment of entities does
  pub of_owner : (fragment : Fragment) → Contains schema.mapping.fragments fragment → fragment.table ≡ t → IsOfOwner owner pairing fragment
  of_owner fragment mapped to =
      let P : Fragment → Type 0 = λ f. f.table ≡ t → IsOfOwner owner pairing f in
      All-contains P schema.mapping.fragments fragment owned.fragments mapped to

  -- and so does one of links
  pub hosted_at : (fragment : LinkFragment) (assoc : Assoc) → Contains schema.mapping.links fragment → At schema.model.assocs fragment.assoc.index assoc → fragment.table ≡ t
      → IsHosted owner pairing assoc fragment
  hosted_at fragment assoc mapped here to =
      let P : LinkFragment → Type 0 = λ f. f.table ≡ t → (a : Assoc) → At schema.model.assocs f.assoc.index a → IsHosted owner pairing a f in
      All-contains P schema.mapping.links fragment owned.links mapped to assoc here

-- of pairs that write no column twice, two of which one stands in each of two lists write no column together
pub ends_apart : (first second : List Pair) → AreApart (cols_of (first ++ second)) → (one two : Pair) → Contains first one → Contains second two → one.col ≡ two.col → ⊥
ends_apart first second apart one two has_one has_two same =
    let column : Pair → ColId = λ pair. pair.col in
    apart_between (cols_of first) (cols_of second) two.col (subst AreApart (map-append column first second) apart)
    (subst (Contains (cols_of first)) same (contains_map column first one has_one)) (contains_map column second two has_two)
