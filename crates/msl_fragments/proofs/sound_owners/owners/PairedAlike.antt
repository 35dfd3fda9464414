-- V31 kept: wherever a set owns a table, each column of the primary key is written with the same property.
use Rattle.std.proofs.Common.{List, Contains, refl, ap}
use Rattle.std.proofs.lemmas.List.Elements.{All-contains}
use Rattle.graphs.proofs.base_chains.orders.Orders.{place_of_member}
use Rattle.round_trip.specs.Words.{ColId, EntityModel, Pair, PropId, StoreModel, key_columns}
use Rattle.round_trip.specs.soundness.Lookups.{set_key}
use Rattle.round_trip.specs.soundness.mappings.Owners.{PairsKeysAlike}
use Rattle.table_owners.specs.declared.table_writers.writer.Writer.{Writer}
use Rattle.table_owners.proofs.table_writers.Agreeing.{one_pairing}
use Rattle.msl_rules.specs.declared.msl_lists.raw.RawMapping.{RawMapping}
use Rattle.msl_rules.specs.KeepsMapping.{KeepsMappingRules}
use Rattle.msl_rules.specs.MappingMeaning.{schema_in}
use Rattle.msl_rules.specs.OwnerRules.{key_pairs}
use Rattle.msl_fragments.proofs.sound_owners.Among.{key_pair, pair_of_key}
use Rattle.msl_fragments.proofs.sound_owners.owners.OneOwner.{never_otherwise}
use Rattle.msl_fragments.proofs.sound_owners.owners.OwnedKeys.{owned_key}
use Rattle.msl_fragments.proofs.sound_owners.owners.Writing.{all_writers, by_set, set_writes}

pub paired_alike : (model : EntityModel) (store : StoreModel) (raw : RawMapping) → KeepsMappingRules model store raw → PairsKeysAlike (schema_in model store raw)
paired_alike model store raw keeps table set pairs others owns owns_too one other has has_too same col =
    let key : List PropId = set_key model set in
    let cols : List ColId = key_columns store table in
    let writers : List Writer = all_writers model store raw in
    let mine : Writer = by_set model store raw table set pairs in
    let next : Writer = by_set model store raw table set others in
    let first = set_writes model store raw table set pairs owns in
    let second = set_writes model store raw table set others owns_too in
    let alike = one_pairing writers (never_otherwise model store raw keeps) first.0 second.0 mine next (place_of_member writers mine first) (place_of_member writers next second) refl refl in
    let of_key = (owned_key model store raw keeps table set pairs owns).of_key one has col in
    let there = pair_of_key key cols others one (All-contains (Contains (key_pairs key cols others)) (key_pairs key cols pairs) one alike.0 (key_pair key cols pairs one has of_key col)) in
    ap (λ (pair : Pair). pair.prop) ((owned_key model store raw keeps table set others owns_too).once one other there has_too same)
