-- Every table of a sound schema is owned by one set with one pairing, or by one joined association, or is written by nothing.
use Rattle.std.proofs.Common.{◌≡◌, ◌≢◌, ◌⊎◌, inl, inr, ⊎_elim, List, ◌++◌, Bool, true, false, true≢false, ◌==◌, All, Any, Contains, refl, sym, ap, subst, ◌∙◌}
use Rattle.std.proofs.lemmas.Bool.Decides.{Decides-eqb, Decides-like}
use Rattle.std.proofs.lemmas.List.Elements.{All-contains}
use Rattle.emc_base.proofs.Lists.{all_from_members, item_at}
use Rattle.emc_base.proofs.Mapped.{contains_map}
use Rattle.emc_base.proofs.Numbered.{map_contains}
use Rattle.round_trip.specs.Words.{SetId, PropId, TableId, ColId, AssocId, EntitySet, Assoc, Fragment, LinkFragment, Pair, Schema, At, key_props, key_columns}
use Rattle.round_trip.specs.FailsAt.{IsHostedAt}
use Rattle.round_trip.specs.soundness.Lookups.{set_key}
use Rattle.round_trip.specs.soundness.mappings.Mappings.{IsSoundSchema}
use Rattle.round_trip.specs.soundness.mappings.Owners.{IsJoined, IsOwner, IsPlaced, LinkMaps, Owner, Owns}
use Rattle.round_trip.specs.soundness.mappings.Owners as sound_owner
use Rattle.round_trip.proofs.Lookups.{assoc_of}
use Rattle.schema_laws.specs.state_demand.Owners.{HasOwner, IsHosted, IsJoinedTo, IsOfOwner, IsOwned, props_in}
use Rattle.schema_laws.specs.state_demand.WellWritten.{cols_of}
use Rattle.schema_laws.proofs.state_demand.writings.Decisions.{so_or_not}
use Rattle.schema_laws.proofs.state_demand.lists.Lists.{any_or_none, of_any, same_by_key}
use Rattle.schema_laws.proofs.state_demand.owners.Owners.{pairs_from_map}
use Rattle.schema_laws.proofs.sound_demand.Fitting.{sound_fragment, sound_link}
use Rattle.schema_laws.proofs.sound_demand.Keys.{keys_apart}
use Rattle.schema_laws.proofs.sound_demand.owners.Pairing.{ChosenFor, PairsKey, choose, key_of_set, pairs_key, sound_assoc}

-- the set of an owner; none is told of an association
set_in : Owner → SetId
set_in (sound_owner.set s) = s
set_in (sound_owner.assoc a) = record { index = 0 }

assoc_in : Owner → AssocId
assoc_in (sound_owner.set s) = record { index = 0 }
assoc_in (sound_owner.assoc a) = a

is_set : Owner → Bool
is_set (sound_owner.set s) = true
is_set (sound_owner.assoc a) = false

same_set : (s u : SetId) → sound_owner.set s ≡ sound_owner.set u → s ≡ u
unfolding set_in
same_set s u same = ap set_in same

same_assoc : (a b : AssocId) → sound_owner.assoc a ≡ sound_owner.assoc b → a ≡ b
unfolding assoc_in
same_assoc a b same = ap assoc_in same

never_both : (s : SetId) (a : AssocId) → sound_owner.set s ≢ sound_owner.assoc a
unfolding is_set
never_both s a same = true≢false (ap is_set same)

pub table_or_not : (t u : TableId) → (t ≡ u) ⊎ ¬ (t ≡ u)
table_or_not t u = so_or_not (t.index == u.index)
    (Decides-like (t.index == u.index) (λ same k. record { index = same k }) (λ same. ap (λ (one : TableId). one.index) same) (Decides-eqb t.index u.index))

module _ (schema : Schema) (sound : IsSoundSchema schema) where
  -- two sets that own a table are one
  pub one_set : (t : TableId) (s u : SetId) (pairs others : List Pair) → Owns schema t s pairs → Owns schema t u others → s ≡ u
  one_set t s u pairs others first second = same_set s u (sound.mapping.owners t (sound_owner.set s) (sound_owner.set u) (pairs, first) (others, second))

  -- a joined association's table is no set's
  no_set : (t : TableId) (s : SetId) (pairs : List Pair) (fragment : LinkFragment) (assoc : Assoc) → Owns schema t s pairs → LinkMaps schema t fragment assoc
      → IsJoined schema fragment assoc → ⊥
  no_set t s pairs fragment assoc owns maps joined =
      never_both s fragment.assoc (sound.mapping.owners t (sound_owner.set s) (sound_owner.assoc fragment.assoc) (pairs, owns) (fragment, assoc, maps, joined, refl))

  module _ (t : TableId) (owner : SetId) (pairs : List Pair) (owns : Owns schema t owner pairs) where
    written : PairsKey schema t (set_key schema.model owner) pairs
    written = pairs_key schema sound t owner pairs owns

    chosen : ChosenFor (set_key schema.model owner) pairs (key_columns schema.store t)
    chosen = choose (set_key schema.model owner) pairs (key_columns schema.store t) written.cols

    abbrev Chosen : Pair → Type 0
    Chosen pair = Contains pairs pair × Contains (set_key schema.model owner) pair.prop

    pair_chosen : (pair : Pair) → Contains chosen.pairing pair → Chosen pair
    pair_chosen pair has = All-contains Chosen chosen.pairing pair chosen.chosen has

    chosen_col : (pair : Pair) → Contains chosen.pairing pair → Contains (key_columns schema.store t) pair.col
    chosen_col pair has = subst (λ cols. Contains cols pair.col) chosen.are (contains_map (λ (one : Pair). one.col) chosen.pairing pair has)

    -- the set itself
    the_set : (set : EntitySet) × At schema.model.sets owner.index set
    the_set = by owns
      where
        by : Owns schema t owner pairs → (set : EntitySet) × At schema.model.sets owner.index set
        by (inl writes) =
            let P : SetId → Type 0 = λ s. (set : EntitySet) × At schema.model.sets s.index set in
            let fragment : Fragment = writes.fragment in
            subst P writes.of_set (item_at schema.model.sets fragment.set.index (sound_fragment schema sound fragment writes.is_fragment).ids.set)
        by (inr (fragment, assoc, maps, inl (hosted, is, pairs_are))) =
            let P : SetId → Type 0 = λ s. (set : EntitySet) × At schema.model.sets s.index set in
            let end = (sound_assoc schema sound fragment assoc maps.is_assoc).first in
            subst P is (end.under.0, end.under.1)
        by (inr (fragment, assoc, maps, inr (hosted, is, pairs_are))) =
            let P : SetId → Type 0 = λ s. (set : EntitySet) × At schema.model.sets s.index set in
            let end = (sound_assoc schema sound fragment assoc maps.is_assoc).second in
            subst P is (end.under.0, end.under.1)

    key_is : set_key schema.model owner ≡ key_props schema.model the_set.0.element
    key_is = key_of_set schema sound owner the_set.0 the_set.1

    -- each property of the key is paired
    paired : All (Contains (props_in chosen.pairing)) (set_key schema.model owner)
    paired = all_from_members (Contains (props_in chosen.pairing)) (set_key schema.model owner) (λ prop has.
        let Written : PropId → Type 0 = λ one. Any (λ (pair : Pair). (pair.prop ≡ one) × Contains (key_columns schema.store t) pair.col) pairs in
        let Here : Pair → Type 0 = λ pair. (pair.prop ≡ prop) × Contains (key_columns schema.store t) pair.col in
        let found = of_any Here pairs (All-contains Written (set_key schema.model owner) prop written.props has) in
        let other = map_contains (λ (pair : Pair). pair.col) chosen.pairing found.0.col (subst (λ cols. Contains cols found.0.col) (sym chosen.are) found.2.1) in
        let column : Pair → ColId = λ pair. pair.col in
        let same : other.0 ≡ found.0 = same_by_key column pairs other.0 found.0 (pairs_from_map (λ (a b : ColId). a ≢ b) column pairs written.once)
        (pair_chosen other.0 other.1).0 found.1 other.2 in
        subst (Contains (props_in chosen.pairing)) (ap (λ (pair : Pair). pair.prop) same ∙ found.2.0) (contains_map (λ (pair : Pair). pair.prop) chosen.pairing other.0 other.1))

    -- wherever the set owns the table, its key is written so
    alike : (others : List Pair) → Owns schema t owner others → All (Contains others) chosen.pairing
    alike others other = all_from_members (Contains others) chosen.pairing (λ pair has.
        let Written : ColId → Type 0 = λ col. Any (λ (one : Pair). (one.col ≡ col) × Contains (set_key schema.model owner) one.prop) others in
        let Here : Pair → Type 0 = λ one. (one.col ≡ pair.col) × Contains (set_key schema.model owner) one.prop in
        let col = chosen_col pair has in
        let found = of_any Here others (All-contains Written (key_columns schema.store t) pair.col (pairs_key schema sound t owner others other).cols col) in
        let props : pair.prop ≡ found.0.prop = sound.mapping.pairings t owner pairs others owns other pair found.0 (pair_chosen pair has).0 found.1 (sym found.2.0) col in
        let same : found.0 ≡ pair = λ k. record { prop = sym props k; col = found.2.0 k } in
        subst (Contains others) same found.1)

    of_owner : (fragment : Fragment) → Contains schema.mapping.fragments fragment → fragment.table ≡ t → IsOfOwner owner chosen.pairing fragment
    of_owner fragment mapped to =
        let own : Owns schema t fragment.set fragment.pairs = inl (record { fragment = fragment; is_fragment = mapped; to_table = to; of_set = refl; pairs_are = refl }) in
        let same : fragment.set ≡ owner = one_set t fragment.set owner fragment.pairs pairs own owns in
        let P : SetId → Type 0 = λ s. Owns schema t s fragment.pairs in
        record { of_set = same; writes = alike fragment.pairs (subst P same own); once = (sound_fragment schema sound fragment mapped).once.cols }

    hosted_by : (fragment : LinkFragment) → Contains schema.mapping.links fragment → fragment.table ≡ t → (assoc : Assoc) → At schema.model.assocs fragment.assoc.index assoc
        → IsHosted owner chosen.pairing assoc fragment
    hosted_by fragment mapped to assoc here = by (sound_link schema sound fragment mapped assoc here).placed
      where
        maps : LinkMaps schema t fragment assoc
        maps = record { is_fragment = mapped; is_assoc = here; to_table = to }

        by : IsPlaced schema fragment assoc → IsHosted owner chosen.pairing assoc fragment
        by (inl hosted) =
            let own : Owns schema t assoc.first.set fragment.first = inr (fragment, assoc, maps, inl (subst (λ u. IsHostedAt schema u fragment.first) to hosted, refl, refl)) in
            let same : assoc.first.set ≡ owner = one_set t assoc.first.set owner fragment.first pairs own owns in
            let P : SetId → Type 0 = λ s. Owns schema t s fragment.first in
            record {
              host = inl (record { of_set = same; writes = alike fragment.first (subst P same own) });
              once =
                  (sound_link schema sound fragment mapped assoc here).once.cols;
            }
        by (inr (inl hosted)) =
            let own : Owns schema t assoc.second.set fragment.second = inr (fragment, assoc, maps, inr (subst (λ u. IsHostedAt schema u fragment.second) to hosted, refl, refl)) in
            let same : assoc.second.set ≡ owner = one_set t assoc.second.set owner fragment.second pairs own owns in
            let P : SetId → Type 0 = λ s. Owns schema t s fragment.second in
            record {
              host = inr (record { of_set = same; writes = alike fragment.second (subst P same own) });
              once =
                  (sound_link schema sound fragment mapped assoc here).once.cols;
            }
        by (inr (inr joined)) = absurd (no_set t owner pairs fragment assoc owns maps joined)

    pub owned : (pairing : List Pair) × IsOwned schema t owner pairing
    owned = (
      chosen.pairing,
      record {
        set = the_set.0;
        is_set = the_set.1;
        cols = chosen.are;
        paired = subst (All (Contains (props_in chosen.pairing))) key_is paired;
        keyed = all_from_members (λ (pair : Pair). Contains (key_props schema.model the_set.0.element) pair.prop) chosen.pairing (λ pair has.
            subst (λ props. Contains props pair.prop) key_is (pair_chosen pair has).1);
        fragments = all_from_members (λ (fragment : Fragment). fragment.table ≡ t → IsOfOwner owner chosen.pairing fragment) schema.mapping.fragments of_owner;
        links = all_from_members
            (λ (fragment : LinkFragment). fragment.table ≡ t → (assoc : Assoc) → At schema.model.assocs fragment.assoc.index assoc → IsHosted owner chosen.pairing assoc fragment)
            schema.mapping.links hosted_by;
      },
    )

  -- the table of a joined association
  pub joined_to : (t : TableId) (fragment : LinkFragment) (assoc : Assoc) → LinkMaps schema t fragment assoc → IsJoined schema fragment assoc → IsJoinedTo schema t fragment assoc
  joined_to t fragment assoc maps joined =
      let is = sound_link schema sound fragment maps.is_fragment assoc maps.is_assoc in
      let both : List Pair = fragment.first ++ fragment.second in
      let to = maps.to_table in
      record {
        is_fragment = maps.is_fragment;
        is_assoc = maps.is_assoc;
        to_table = to;
        whole = all_from_members (Contains (key_columns schema.store t)) (cols_of both) (λ col has.
            let found = map_contains (λ (pair : Pair). pair.col) both col has in
            let Among : Pair → Type 0 = λ pair. Contains (key_columns schema.store fragment.table) pair.col in
            let P : TableId → ColId → Type 0 = λ u c. Contains (key_columns schema.store u) c in
            subst (λ u. P u col) to (subst (λ c. P fragment.table c) found.2 (All-contains Among both found.0 joined.columns.all found.1)));
        once = is.once.cols;
        first = is.first;
        second = is.second;
        keys = (keys_apart schema.model sound.model assoc.first.ty, keys_apart schema.model sound.model assoc.second.ty);
        fragments = all_from_members (λ (other : Fragment). ¬ (other.table ≡ t)) schema.mapping.fragments (λ other mapped here.
            no_set t other.set other.pairs fragment assoc (inl (record { fragment = other; is_fragment = mapped; to_table = here; of_set = refl; pairs_are = refl })) maps joined);
        links = all_from_members (λ (other : LinkFragment). other.table ≡ t → other ≡ fragment) schema.mapping.links (λ other mapped here.
            let found = assoc_of schema sound other mapped in
            one_fragment other mapped here found.0 found.1 (sound_link schema sound other mapped found.0 found.1).placed);
      }
    where
      one_fragment : (other : LinkFragment) → Contains schema.mapping.links other → other.table ≡ t → (joins : Assoc) → At schema.model.assocs other.assoc.index joins
          → IsPlaced schema other joins → other ≡ fragment
      one_fragment other mapped here joins there (inl hosted) =
          absurd (no_set t joins.first.set other.first fragment assoc
          (inr (
            other,
            joins,
            record { is_fragment = mapped; is_assoc = there; to_table = here },
            inl
                (subst (λ u. IsHostedAt schema u other.first) here hosted, refl, refl),
          )) maps joined)
      one_fragment other mapped here joins there (inr (inl hosted)) =
          absurd (no_set t joins.second.set other.second fragment assoc
          (inr (
            other,
            joins,
            record { is_fragment = mapped; is_assoc = there; to_table = here },
            inr
                (subst (λ u. IsHostedAt schema u other.second) here hosted, refl, refl),
          )) maps joined)
      one_fragment other mapped here joins there (inr (inr joined_too)) =
          let maps_too : LinkMaps schema t other joins = record { is_fragment = mapped; is_assoc = there; to_table = here } in
          let same = same_assoc other.assoc fragment.assoc
          (sound.mapping.owners t (sound_owner.assoc other.assoc) (sound_owner.assoc fragment.assoc) (other, joins, maps_too, joined_too, refl)
          (fragment, assoc, maps, joined, refl)) in
          let mapped_assoc : LinkFragment → AssocId = λ f. f.assoc in
          same_by_key mapped_assoc schema.mapping.links other fragment
          (pairs_from_map (λ (a b : AssocId). a ≢ b) mapped_assoc schema.mapping.links sound.mapping.assocs) mapped maps.is_fragment same

  -- who owns a table
  pub has_owner : (t : TableId) → HasOwner schema t
  has_owner t = ⊎_elim
      (λ (found : (fragment : Fragment) × Contains schema.mapping.fragments fragment × (fragment.table ≡ t)).
      by_set_of found.0.set found.0.pairs (inl (record { fragment = found.0; is_fragment = found.1; to_table = found.2; of_set = refl; pairs_are = refl })))
      (λ (none : (fragment : Fragment) → Contains schema.mapping.fragments fragment → ¬ (fragment.table ≡ t)). ⊎_elim
      (λ (found : (fragment : LinkFragment) × Contains schema.mapping.links fragment × (fragment.table ≡ t)).
      let assoc = assoc_of schema sound found.0 found.1 in
      by_link found.0 found.1 found.2 assoc.0 assoc.1 (sound_link schema sound found.0 found.1 assoc.0 assoc.1).placed)
      (λ (no_link : (fragment : LinkFragment) → Contains schema.mapping.links fragment → ¬ (fragment.table ≡ t)). inr (inr (record {
        fragments = all_from_members (λ (fragment : Fragment). ¬ (fragment.table ≡ t)) schema.mapping.fragments none;
        links = all_from_members (λ (fragment : LinkFragment). ¬ (fragment.table ≡ t)) schema.mapping.links no_link;
      })))
      (any_or_none (λ (fragment : LinkFragment). fragment.table ≡ t) (λ fragment. table_or_not fragment.table t) schema.mapping.links))
      (any_or_none (λ (fragment : Fragment). fragment.table ≡ t) (λ fragment. table_or_not fragment.table t) schema.mapping.fragments)
    where
      by_set_of : (s : SetId) (pairs : List Pair) → Owns schema t s pairs → HasOwner schema t
      by_set_of s pairs owns = let found = owned t s pairs owns in inl (s, found.0, found.1)

      by_link : (fragment : LinkFragment) → Contains schema.mapping.links fragment → fragment.table ≡ t → (assoc : Assoc) → At schema.model.assocs fragment.assoc.index assoc
          → IsPlaced schema fragment assoc → HasOwner schema t
      by_link fragment mapped to assoc here (inl hosted) =
          by_set_of assoc.first.set fragment.first
          (inr (fragment, assoc, record { is_fragment = mapped; is_assoc = here; to_table = to }, inl (subst (λ u. IsHostedAt schema u fragment.first) to hosted, refl, refl)))
      by_link fragment mapped to assoc here (inr (inl hosted)) =
          by_set_of assoc.second.set fragment.second
          (inr (fragment, assoc, record { is_fragment = mapped; is_assoc = here; to_table = to }, inr (subst (λ u. IsHostedAt schema u fragment.second) to hosted, refl, refl)))
      by_link fragment mapped to assoc here (inr (inr joined)) =
          inr (inl (fragment, assoc, joined_to t fragment assoc (record { is_fragment = mapped; is_assoc = here; to_table = to }) joined))
