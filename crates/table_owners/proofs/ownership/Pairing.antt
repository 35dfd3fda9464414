-- In a sound schema the pairs of one writing of a set's key to a table tell how it is written by every other.
use Rattle.std.proofs.Common.{◌≡◌, ◌≢◌, inl, inr, ℕ, ◌<◌, List, [], length, map, Any, Contains, Option, Some, None, MatchOption, option_map, refl, sym, ap, subst, ◌∙◌, arith}
use Rattle.std.specs.List.{AllZip, filter_map}
use Rattle.std.specs.Option.{option_and_then, option_map_or, unwrap_or}
use Rattle.std.proofs.lemmas.List.Elements.{All-contains}
use Rattle.std.proofs.lemmas.Option.{slice_get_within}
use Rattle.emc_base.specs.Lists.{At}
use Rattle.emc_base.proofs.Lists.{item_at}
use Rattle.emc_base.proofs.Mapped.{contains_at, contains_map}
use Rattle.emc_base.proofs.Numbered.{map_contains}
use Rattle.emc_base.proofs.FoundItems.{member_of}
use Rattle.round_trip.specs.Words.{AssocId, ColId, End, Fragment, IsWritten, Pair, PropId, Schema, SetId, Table, TableId, key_columns, key_props}
use Rattle.round_trip.specs.FailsAt.{IsHostedAt}
use Rattle.round_trip.specs.soundness.models.Constraints.{IsSoundAssoc, IsSoundEnd}
use Rattle.round_trip.specs.soundness.mappings.Fragments.{WritesEndKey}
use Rattle.round_trip.specs.soundness.Lookups.{set_key}
use Rattle.round_trip.specs.soundness.mappings.Mappings.{IsSoundFragment, IsSoundSchema}
use Rattle.round_trip.specs.soundness.mappings.Owners as sound
use Rattle.round_trip.proofs.Lookups.{end_set_key}
use Rattle.table_owners.specs.declared.sources.Source.{Source}
use Rattle.table_owners.specs.Made.{Made}
use Rattle.table_owners.specs.Pairings.{IsPairedWith, TellPairings, TellsPairing}
use Rattle.table_owners.specs.Sources.{AreSources, IsSource, pairs_at, pairs_by, prop_beside, props_beside}
use Rattle.table_owners.proofs.lists.Found.{pair_found, zip_found}
use Rattle.table_owners.proofs.ownership.Owning.{owned_written, sound_links, source_owns}

module _ (schema : Schema) (sound_schema : IsSoundSchema schema) where
  -- one of the pairs writes a property of the set's key to the column
  abbrev WritesTo : SetId → List Pair → ColId → Type 0
  WritesTo s pairs col = (pair : Pair) × Contains pairs pair × (pair.col ≡ col) × Contains (set_key schema.model s) pair.prop

  -- a fragment of entities writes so to each column of the primary key
  by_entities : (fragment : Fragment) → Contains schema.mapping.fragments fragment → (col : ColId) → Contains (key_columns schema.store fragment.table) col
      → WritesTo fragment.set fragment.pairs col
  by_entities fragment has col in_key =
      let Writes : ColId → Type 0 = λ other. Any (λ (pair : Pair). (pair.col ≡ other) × Contains (set_key schema.model fragment.set) pair.prop) fragment.pairs in
      let writes : Writes col = All-contains Writes (key_columns schema.store fragment.table) col
      (All-contains (IsSoundFragment schema) schema.mapping.fragments fragment sound_schema.mapping.fragments has).key.cols in_key in
      let pair = member_of (λ (pair : Pair). (pair.col ≡ col) × Contains (set_key schema.model fragment.set) pair.prop) fragment.pairs writes in
      (pair.0, pair.1, pair.2.0, pair.2.1)

  -- and so do the pairs of an end at which links are hosted
  by_end : (t : TableId) (end : End) (pairs : List Pair) → IsSoundEnd schema.model end → WritesEndKey schema.model end.ty pairs → IsHostedAt schema t pairs
      → (col : ColId) → Contains (key_columns schema.store t) col
      → WritesTo end.set pairs col
  by_end t end pairs good writes hosted col in_key =
      let cols : List Pair → List ColId = map (λ (pair : Pair). pair.col) in
      let pair = map_contains (λ (other : Pair). other.col) pairs col (All-contains (Contains (cols pairs)) (key_columns schema.store t) col hosted.whole in_key) in
      let prop = All-contains (Contains (key_props schema.model end.ty)) (map (λ (other : Pair). other.prop) pairs) pair.0.prop writes.only
      (contains_map (λ (other : Pair). other.prop) pairs pair.0 pair.1) in
      (pair.0, pair.1, pair.2, subst (λ (key : List PropId). Contains key pair.0.prop) (end_set_key schema.model sound_schema.model end good) prop)

  -- so does everything by which a set owns a table
  owner_writes : (t : TableId) (s : SetId) (pairs : List Pair) → sound.Owns schema t s pairs → (col : ColId) → Contains (key_columns schema.store t) col → WritesTo s pairs col
  owner_writes t s pairs (inl writes) col in_key =
      let P : List Pair → Type 0 = λ others. WritesTo s others col in
      let Q : SetId → Type 0 = λ other. WritesTo other writes.fragment.pairs col in
      let R : TableId → Type 0 = λ table. Contains (key_columns schema.store table) col in
      subst P (sym writes.pairs_are) (subst Q writes.of_set (by_entities writes.fragment writes.is_fragment col (subst R (sym writes.to_table) in_key)))
  owner_writes t s pairs (inr (fragment, assoc, maps, either)) col in_key =
      let P : List Pair → Type 0 = λ others. WritesTo s others col in
      let good = sound_links schema sound_schema fragment assoc maps.is_fragment maps.is_assoc in
      let sound_assoc = All-contains (IsSoundAssoc schema.model) schema.model.assocs assoc sound_schema.model.assocs
      (contains_at schema.model.assocs fragment.assoc.index assoc maps.is_assoc) in
      elim either [
        | inl first ↦
            let Q : SetId → Type 0 = λ other. WritesTo other fragment.first col in
            subst P (sym first.2) (subst Q first.1 (by_end t assoc.first fragment.first sound_assoc.first good.first first.0 col in_key))
        | inr second ↦
            let Q : SetId → Type 0 = λ other. WritesTo other fragment.second col in
            subst P (sym second.2) (subst Q second.1 (by_end t assoc.second fragment.second sound_assoc.second good.second second.0 col in_key))
      ]

  -- a property that is found beside a column of the primary key is paired with it
  paired : (t : TableId) (s : SetId) (pairs : List Pair) → sound.Owns schema t s pairs → (col : ColId) → Contains (key_columns schema.store t) col
      → (prop : PropId) × (prop_beside pairs col ≡ Some prop) × IsPairedWith schema t s col prop
  paired t s pairs owns col in_key =
      let some = owner_writes t s pairs owns col in_key in
      let found = pair_found col pairs some.0 some.1 some.2 in
      let key_col : (one : Pair) → one.col ≡ col → Contains (key_columns schema.store t) one.col = λ one same. subst (Contains (key_columns schema.store t)) (sym same) in_key in
      let alike : (others : List Pair) → sound.Owns schema t s others → (other : Pair) → Contains others other → other.col ≡ col → found.0.prop ≡ other.prop =
      λ others own other has same. sound_schema.mapping.pairings t s pairs others owns own found.0 other found.2 has (found.3 ∙ sym same) (key_col found.0 found.3) in (
        found.0.prop,
        ap (option_map (λ (pair : Pair). pair.prop)) found.1,
        record {
          of_key = subst (Contains (set_key schema.model s)) (sym (alike pairs owns some.0 some.1 some.2)) some.3;
          written = λ others own.
              (let other = owner_writes t s others own col in_key in
              let prop : other.0.prop ≡ found.0.prop = sym (alike others own other.0 other.1 other.2) in
              let is : other.0 ≡ record { prop = found.0.prop; col = col } = (λ i. record { prop = prop i; col = other.2 i }) in
              subst (Contains others) is other.1);
        },
      )

  -- all that are found beside the columns
  pairing_found : (t : TableId) (s : SetId) (pairs : List Pair) → sound.Owns schema t s pairs
      → AllZip (IsPairedWith schema t s) (key_columns schema.store t) (filter_map (prop_beside pairs) (key_columns schema.store t))
  pairing_found t s pairs owns = zip_found (IsPairedWith schema t s) (prop_beside pairs) (key_columns schema.store t) (paired t s pairs owns)

  -- a set and an association are two owners
  two_owners : (s : SetId) (a : AssocId) → sound.set s ≢ sound.assoc a
  two_owners s a same = absurd cc

  same_set : (s other : SetId) → sound.set s ≡ sound.set other → s ≡ other
  same_set s other same = cc

  -- the pairing is told by what writes the table
  by_source : (t : TableId) (source : Option Source) → MatchOption source (¬ IsWritten schema.mapping t) (IsSource schema t)
      → TellsPairing schema t (props_beside (key_columns schema.store t) (option_and_then (pairs_by schema.mapping) source))
  by_source t None unwritten = record { owned = λ s owner. absurd (unwritten (owned_written schema t (sound.set s) owner)); other = λ never. refl }
  by_source t (Some source) is = elim (source_owns schema sound_schema t source is) [
    | inl (s, pairs, told, found, owns) ↦
        let P : Option (List Pair) → Type 0 = λ found. TellsPairing schema t (props_beside (key_columns schema.store t) found) in
        subst P (sym found) (record {
          owned = λ other owner.
              (let same : s ≡ other = same_set s other (sound_schema.mapping.owners t (sound.set s) (sound.set other) (pairs, owns) owner) in
              let Q : SetId → Type 0 = λ set. AllZip (IsPairedWith schema t set) (key_columns schema.store t) (filter_map (prop_beside pairs) (key_columns schema.store t)) in
              subst Q same (pairing_found t s pairs owns));
          other = λ never. absurd (never s (pairs, owns));
        })
    | inr (a, told, none, owner) ↦
        let P : Option (List Pair) → Type 0 = λ found. TellsPairing schema t (props_beside (key_columns schema.store t) found) in
        subst P (sym none)
        (record { owned = λ s set_owner. absurd (two_owners s a (sound_schema.mapping.owners t (sound.set s) (sound.assoc a) set_owner owner)); other = λ never. refl })
  ]

  -- what is made of each table in turn is told of it
  pub tell_pairings : (sources : List (Option Source)) (pairings : List (List PropId)) (n : ℕ) → n ≡ length schema.store.tables → AreSources schema sources
      → Made (λ t (table : Table) pairing. pairing ≡ props_beside table.key (pairs_at schema.mapping sources t)) schema.store.tables n pairings → TellPairings schema pairings
  tell_pairings sources pairings n all are made = record { size = made.size ∙ all; each = each }
    where
      each : (t : TableId) (pairing : List PropId) → At pairings t.index pairing → TellsPairing schema t pairing
      each t pairing here =
          let inside : t.index < length pairings = slice_get_within pairings t.index pairing here in
          let tables : length pairings ≡ length schema.store.tables = made.size ∙ all in
          let size : length sources ≡ length schema.store.tables = are.size in
          let table = item_at schema.store.tables t.index (omega (arith, inside, tables)) in
          let source = item_at sources t.index (omega (arith, inside, tables, size)) in
          let key : key_columns schema.store t ≡ table.0.key = ap (λ (found : Option Table). option_map_or (λ entry. entry.key) found []) table.1 in
          let known : pairs_at schema.mapping sources t.index ≡ option_and_then (pairs_by schema.mapping) source.0 =
          ap (λ (found : Option (Option Source)). option_and_then (pairs_by schema.mapping) (unwrap_or found None)) source.1 in
          let is : pairing ≡ props_beside (key_columns schema.store t) (option_and_then (pairs_by schema.mapping) source.0) =
          made.each t.index table.0 pairing table.1 here
          ∙ ap (props_beside table.0.key) known
          ∙ ap (λ (cols : List ColId). props_beside cols (option_and_then (pairs_by schema.mapping) source.0)) (sym key) in
          subst (TellsPairing schema t) (sym is) (by_source t source.0 (are.each t source.0 source.1))
