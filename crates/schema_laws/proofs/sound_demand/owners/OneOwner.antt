-- A table that is written has one owner: one set with one pairing, or one joined association, and not both.
use Rattle.round_trip.specs.soundness.Lookups.{set_key}
use Rattle.std.proofs.Common.{◌≡◌, ◌≢◌, ◌⊎◌, inl, inr, ⊎_elim, List, [], ◌∷◌, ◌++◌, length, All, Any, Contains, refl, sym, ap, subst, ◌∙◌, arith, ℕ, ◌<◌, get_or}
use Rattle.std.proofs.lemmas.List.Elements.{All-contains, All-head, All-tail, Contains-append_left, Contains-append_right, Contains-get_or}
use Rattle.emc_base.specs.Lists.{AreApart, HoldsEachOnce}
use Rattle.emc_base.proofs.Lists.{item_at, all_from_members, at_once}
use Rattle.emc_base.proofs.Mapped.{contains_at, contains_map}
use Rattle.emc_base.proofs.Numbered.{map_contains, all_pairs_map}
use Rattle.emc_base.proofs.facts.Standing.{some_item}
use Rattle.round_trip.specs.Words.{SetId, TableId, ColId, Assoc, End, Table, Fragment, LinkFragment, Pair, Schema, At, IsWritten, key_columns, key_props, PropId}
use Rattle.round_trip.specs.soundness.mappings.Mappings.{IsSoundSchema}
use Rattle.round_trip.specs.soundness.models.ModelIds.{HasEndIds}
use Rattle.round_trip.specs.soundness.Stores.{IsSoundTable}
use Rattle.round_trip.proofs.Lookups.{assoc_of, key_columns_at}
use Rattle.schema_laws.specs.state_demand.Owners.{IsHostAt, IsJoinedTo, IsOwned, props_in}
use Rattle.schema_laws.specs.state_demand.WellWritten.{cols_of}
use Rattle.schema_laws.proofs.state_demand.lists.Lists.{of_any, same_by_key}
use Rattle.schema_laws.proofs.state_demand.owners.Owners.{pairs_from_map}
use Rattle.schema_laws.proofs.sound_demand.Fitting.{link_ids, sound_fragment, sound_link}
use Rattle.schema_laws.proofs.sound_demand.Keys.{keys_some}
use Rattle.schema_laws.proofs.sound_demand.owners.Pairing.{first_once, second_once, key_of_set}
use Rattle.schema_laws.proofs.state_demand.owners.Owning.{ends_apart, hosted_at, of_owner}

-- a pairing from some pairs, by its columns, is one
same_pairing : (pairs one two : List Pair) → AreApart (cols_of pairs) → All (Contains pairs) one → All (Contains pairs) two → cols_of one ≡ cols_of two → one ≡ two
same_pairing pairs [] [] apart ones twos same = refl
same_pairing pairs [] (q ∷ qs) apart ones twos same = let lengths = ap length same in absurd (omega (arith, lengths))
same_pairing pairs (p ∷ ps) [] apart ones twos same = let lengths = ap length same in absurd (omega (arith, lengths))
same_pairing pairs (p ∷ ps) (q ∷ qs) apart ones twos same =
    let column : Pair → ColId = λ pair. pair.col in
    let heads : p.col ≡ q.col = cc in
    let tails : cols_of ps ≡ cols_of qs = cc in
    let head : p ≡ q = same_by_key column pairs p q (pairs_from_map (λ (a b : ColId). a ≢ b) column pairs apart) (All-head (Contains pairs) p ps ones)
    (All-head (Contains pairs) q qs twos) heads in
    let tail : ps ≡ qs = same_pairing pairs ps qs apart (All-tail (Contains pairs) p ps ones) (All-tail (Contains pairs) q qs twos) tails in
    λ k. head k ∷ tail k

module _ (schema : Schema) (sound : IsSoundSchema schema) (t : TableId) where
  -- a primary key has a column
  key_some : (table : Table) → At schema.store.tables t.index table → (col : ColId) × Contains (key_columns schema.store t) col
  key_some table here =
      let is : IsSoundTable table = All-contains IsSoundTable schema.store.tables table sound.store.tables (contains_at schema.store.tables t.index table here) in
      some_item (key_columns schema.store t) (λ none. is.key.some (sym (key_columns_at schema.store t table here) ∙ none))

  module _ (owner : SetId) (pairing : List Pair) (owned : IsOwned schema t owner pairing) where
    -- each column of the primary key is paired
    pair_of : (col : ColId) → Contains (key_columns schema.store t) col → (pair : Pair) × Contains pairing pair × (pair.col ≡ col)
    pair_of col has = map_contains (λ (pair : Pair). pair.col) pairing col (subst (λ cols. Contains cols col) (sym owned.cols) has)

  module _ (owner other : SetId) (pairing others : List Pair) (owned : IsOwned schema t owner pairing) (too : IsOwned schema t other others) where
    by_fragment : (fragment : Fragment) → Contains schema.mapping.fragments fragment → fragment.table ≡ t → (owner ≡ other) × (pairing ≡ others)
    by_fragment fragment mapped to =
        let first = of_owner schema t owner pairing owned fragment mapped to in
        let second = of_owner schema t other others too fragment mapped to in
        (sym first.of_set ∙ second.of_set, same_pairing fragment.pairs pairing others first.once first.writes second.writes (owned.cols ∙ sym too.cols))

    -- the two can't be hosted at different ends
    fragment_col : (fragment : LinkFragment) → Contains schema.mapping.links fragment → fragment.table ≡ t → (col : ColId) × Contains (key_columns schema.store t) col
    fragment_col fragment mapped to =
        let found = item_at schema.store.tables fragment.table.index (link_ids schema sound fragment mapped).table in
        let P : TableId → Type 0 = λ u. At schema.store.tables u.index found.0 in
        key_some found.0 (subst P to found.1)

    at_both : (fragment : LinkFragment) → Contains schema.mapping.links fragment → fragment.table ≡ t → AreApart (cols_of (fragment.first ++ fragment.second))
        → All (Contains fragment.first) pairing → All (Contains fragment.second) others → ⊥
    at_both fragment mapped to apart ones twos =
        let col = fragment_col fragment mapped to in
        let one = pair_of owner pairing owned col.0 col.1 in
        let two = pair_of other others too col.0 col.1 in
        ends_apart fragment.first fragment.second apart one.0 two.0 (All-contains (Contains fragment.first) pairing one.0 ones one.1)
        (All-contains (Contains fragment.second) others two.0 twos two.1) (one.2 ∙ sym two.2)

    at_both_turned : (fragment : LinkFragment) → Contains schema.mapping.links fragment → fragment.table ≡ t → AreApart (cols_of (fragment.first ++ fragment.second))
        → All (Contains fragment.second) pairing → All (Contains fragment.first) others → ⊥
    at_both_turned fragment mapped to apart ones twos =
        let col = fragment_col fragment mapped to in
        let one = pair_of owner pairing owned col.0 col.1 in
        let two = pair_of other others too col.0 col.1 in
        ends_apart fragment.first fragment.second apart two.0 one.0 (All-contains (Contains fragment.first) others two.0 twos two.1)
        (All-contains (Contains fragment.second) pairing one.0 ones one.1) (two.2 ∙ sym one.2)

    by_link : (fragment : LinkFragment) → Contains schema.mapping.links fragment → fragment.table ≡ t → (assoc : Assoc) → At schema.model.assocs fragment.assoc.index assoc
        → (owner ≡ other) × (pairing ≡ others)
    by_link fragment mapped to assoc here = by (hosted_at schema t owner pairing owned fragment assoc mapped here to).host (hosted_at schema t other others too fragment assoc mapped here to).host
      where
        once : AreApart (cols_of (fragment.first ++ fragment.second))
        once = (hosted_at schema t owner pairing owned fragment assoc mapped here to).once

        by : IsHostAt owner pairing assoc.first fragment.first ⊎ IsHostAt owner pairing assoc.second fragment.second
            → IsHostAt other others assoc.first fragment.first ⊎ IsHostAt other others assoc.second fragment.second → (owner ≡ other) × (pairing ≡ others)
        by (inl one) (inl two) =
            (sym one.of_set ∙ two.of_set, same_pairing fragment.first pairing others (first_once schema sound fragment once) one.writes two.writes (owned.cols ∙ sym too.cols))
        by (inr one) (inr two) =
            (sym one.of_set ∙ two.of_set, same_pairing fragment.second pairing others (second_once schema sound fragment once) one.writes two.writes (owned.cols ∙ sym too.cols))
        by (inl one) (inr two) = absurd (at_both fragment mapped to once one.writes two.writes)
        by (inr one) (inl two) = absurd (at_both_turned fragment mapped to once one.writes two.writes)

    -- a set and a pairing own a table that is written
    pub one_owner : IsWritten schema.mapping t → (owner ≡ other) × (pairing ≡ others)
    one_owner written = ⊎_elim
        (λ (any : Any (λ (fragment : Fragment). fragment.table ≡ t) schema.mapping.fragments).
        let found = of_any (λ (fragment : Fragment). fragment.table ≡ t) schema.mapping.fragments any in
        by_fragment found.0 found.1 found.2)
        (λ (any : Any (λ (fragment : LinkFragment). fragment.table ≡ t) schema.mapping.links).
        let found = of_any (λ (fragment : LinkFragment). fragment.table ≡ t) schema.mapping.links any in
        let assoc = assoc_of schema sound found.0 found.1 in
        by_link found.0 found.1 found.2 assoc.0 assoc.1)
        written

  -- a pair at an end of a link
  end_pair : (end : End) → HasEndIds schema.model end → (pairs : List Pair) → HoldsEachOnce (key_props schema.model end.ty) (props_in pairs) → (pair : Pair) × Contains pairs pair
  end_pair end ids pairs holds =
      let type = item_at schema.model.types end.ty.index ids.1 in
      let prop = some_item (key_props schema.model end.ty) (keys_some schema.model sound.model end.ty type.0 type.1) in
      let found = map_contains (λ (pair : Pair). pair.prop) pairs prop.0 (All-contains (Contains (props_in pairs)) (key_props schema.model end.ty) prop.0 holds.all prop.1) in
      (found.0, found.1)

  -- no set owns the table of a joined association
  pub owned_or_joined : (owner : SetId) (pairing : List Pair) (fragment : LinkFragment) (assoc : Assoc) → IsOwned schema t owner pairing → IsJoinedTo schema t fragment assoc → ⊥
  owned_or_joined owner pairing fragment assoc owned joined = by (hosted_at schema t owner pairing owned fragment assoc joined.is_fragment joined.is_assoc joined.to_table).host
    where
      ids : HasEndIds schema.model assoc.first × HasEndIds schema.model assoc.second
      ids = All-contains (λ (one : Assoc). HasEndIds schema.model one.first × HasEndIds schema.model one.second) schema.model.assocs assoc sound.model.ids.ends
          (contains_at schema.model.assocs fragment.assoc.index assoc joined.is_assoc)

      paired : (pair : Pair) → Contains (fragment.first ++ fragment.second) pair → (one : Pair) × Contains pairing one × (one.col ≡ pair.col)
      paired pair has = pair_of owner pairing owned pair.col
          (All-contains (Contains (key_columns schema.store t)) (cols_of (fragment.first ++ fragment.second)) pair.col joined.whole
          (contains_map (λ (one : Pair). one.col) (fragment.first ++ fragment.second) pair has))

      by : IsHostAt owner pairing assoc.first fragment.first ⊎ IsHostAt owner pairing assoc.second fragment.second → ⊥
      by (inl host) =
          let pair = end_pair assoc.second ids.1 fragment.second joined.second in
          let one = paired pair.0 (Contains-append_right fragment.first fragment.second pair.0 pair.1) in
          ends_apart fragment.first fragment.second joined.once one.0 pair.0 (All-contains (Contains fragment.first) pairing one.0 host.writes one.1) pair.1 one.2
      by (inr host) =
          let pair = end_pair assoc.first ids.0 fragment.first joined.first in
          let one = paired pair.0 (Contains-append_left fragment.first fragment.second pair.0 pair.1) in
          ends_apart fragment.first fragment.second joined.once pair.0 one.0 pair.1 (All-contains (Contains fragment.second) pairing one.0 host.writes one.1) (sym one.2)

  -- two joined associations of a table are one
  pub one_joined : (fragment other : LinkFragment) (assoc joins : Assoc) → IsJoinedTo schema t fragment assoc → IsJoinedTo schema t other joins
      → (fragment ≡ other) × (assoc ≡ joins)
  one_joined fragment other assoc joins joined too =
      let Only : LinkFragment → Type 0 = λ f. f.table ≡ t → f ≡ other in
      let same : fragment ≡ other = All-contains Only schema.mapping.links fragment too.links joined.is_fragment joined.to_table in
      let Here : LinkFragment → Type 0 = λ f. At schema.model.assocs f.assoc.index assoc in
      (same, at_once schema.model.assocs other.assoc.index assoc joins (subst Here same joined.is_assoc) too.is_assoc)

  module _ (owner : SetId) (pairing : List Pair) (owned : IsOwned schema t owner pairing) (written : IsWritten schema.mapping t) where
    -- the pairing is part of pairs that write no property twice
    abbrev WrittenOnce : Type 0
    WrittenOnce = (pairs : List Pair) × All (Contains pairs) pairing × AreApart (props_in pairs) × ((table : Table) × At schema.store.tables t.index table)

    once_by_fragment : (fragment : Fragment) → Contains schema.mapping.fragments fragment → fragment.table ≡ t → WrittenOnce
    once_by_fragment fragment mapped to =
        let is = sound_fragment schema sound fragment mapped in
        let P : TableId → Type 0 = λ u. (table : Table) × At schema.store.tables u.index table in
        (fragment.pairs, (of_owner schema t owner pairing owned fragment mapped to).writes, is.once.props, subst P to (item_at schema.store.tables fragment.table.index is.ids.table))

    once_by_link : (fragment : LinkFragment) → Contains schema.mapping.links fragment → fragment.table ≡ t → WrittenOnce
    once_by_link fragment mapped to =
        let assoc = assoc_of schema sound fragment mapped in
        let is = sound_link schema sound fragment mapped assoc.0 assoc.1 in
        let P : TableId → Type 0 = λ u. (table : Table) × At schema.store.tables u.index table in
        let table = subst P to (item_at schema.store.tables fragment.table.index (link_ids schema sound fragment mapped).table) in
        ⊎_elim
        (λ (host : IsHostAt owner pairing assoc.0.first fragment.first). (fragment.first, host.writes, is.once.first, table))
        (λ (host : IsHostAt owner pairing assoc.0.second fragment.second). (fragment.second, host.writes, is.once.second, table))
        (hosted_at schema t owner pairing owned fragment assoc.0 mapped assoc.1 to).host

    written_once : WrittenOnce
    written_once = ⊎_elim
        (λ (any : Any (λ (fragment : Fragment). fragment.table ≡ t) schema.mapping.fragments).
        let found = of_any (λ (fragment : Fragment). fragment.table ≡ t) schema.mapping.fragments any in
        once_by_fragment found.0 found.1 found.2)
        (λ (any : Any (λ (fragment : LinkFragment). fragment.table ≡ t) schema.mapping.links).
        let found = of_any (λ (fragment : LinkFragment). fragment.table ≡ t) schema.mapping.links any in
        once_by_link found.0 found.1 found.2)
        written

    -- no column of the primary key stands twice
    cols_once : AreApart (cols_of pairing)
    cols_once =
        let table : Table = written_once.3.0 in
        let is : IsSoundTable table = All-contains IsSoundTable schema.store.tables table sound.store.tables (contains_at schema.store.tables t.index table written_once.3.1) in
        subst AreApart (sym (owned.cols ∙ key_columns_at schema.store t table written_once.3.1)) is.key.once

    props_once : AreApart (props_in pairing)
    props_once =
        let column : Pair → ColId = λ pair. pair.col in
        let property : Pair → PropId = λ pair. pair.prop in
        let pairs : List Pair = written_once.0 in
        all_pairs_map (λ one two. one ≢ two) property pairing (λ i j d below within same.
        let i_in : i < length pairing = omega (arith, below, within) in
        let among : (k : ℕ) → k < length pairing → Contains pairs (get_or pairing k d) = λ k inside.
        All-contains (Contains pairs) pairing (get_or pairing k d) written_once.1 (Contains-get_or pairing k d inside) in
        let one = same_by_key property pairs (get_or pairing i d) (get_or pairing j d) (pairs_from_map (λ (a b : PropId). a ≢ b) property pairs written_once.2) (among i i_in)
        (among j within) same in
        pairs_from_map (λ (a b : ColId). a ≢ b) column pairing cols_once i j d below within (ap column one))

    -- the pairing holds the set's key, each property once
    pub whole_key : HoldsEachOnce (set_key schema.model owner) (props_in pairing)
    whole_key =
        let is = key_of_set schema sound owner owned.set owned.is_set in
        let P : List PropId → Type 0 = λ key. HoldsEachOnce key (props_in pairing) in
        subst P (sym is) (record {
          once = props_once;
          all = owned.paired;
          only = all_from_members (Contains (key_props schema.model owned.set.element)) (props_in pairing) (λ prop has.
              let found = map_contains (λ (pair : Pair). pair.prop) pairing prop has in
              let Keyed : Pair → Type 0 = λ pair. Contains (key_props schema.model owned.set.element) pair.prop in
              subst (Contains (key_props schema.model owned.set.element)) found.2 (All-contains Keyed pairing found.0 owned.keyed found.1));
        })
