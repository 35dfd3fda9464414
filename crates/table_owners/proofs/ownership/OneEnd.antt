-- In a sound schema the links of a fragment are hosted at one end at most.
use Rattle.std.proofs.Common.{◌≡◌, ℕ, ◌+◌, ◌-◌, ◌<◌, List, [], ◌++◌, length, get_or, map, Contains, Option, refl, sym, ap, subst, ◌∙◌, arith}
use Rattle.std.specs.Option.{option_map_or}
use Rattle.std.proofs.Math.ListN.{get_or-append}
use Rattle.std.proofs.lemmas.List.{get_or-append_right, length-append, map-append}
use Rattle.std.proofs.lemmas.List.Elements.{All-contains}
use Rattle.emc_base.specs.Lists.{AreApart}
use Rattle.emc_base.proofs.Lists.{item_at}
use Rattle.emc_base.proofs.Mapped.{contains_at}
use Rattle.emc_base.proofs.facts.Standing.{some_item}
use Rattle.round_trip.specs.Words.{ColId, LinkFragment, Pair, Schema, Table, key_columns}
use Rattle.round_trip.specs.FailsAt.{IsHostedAt}
use Rattle.round_trip.specs.soundness.mappings.Mappings.{HasLinkFragmentIds, IsSoundSchema}
use Rattle.round_trip.specs.soundness.Stores.{IsSoundTable}
use Rattle.round_trip.proofs.Lookups.{assoc_of}
use Rattle.table_owners.proofs.ownership.Owning.{sound_links}

-- what stands in one of two lists that are apart doesn't stand in the other
apart_lists : {X : Type 0} (xs ys : List X) (x : X) → AreApart (xs ++ ys) → Contains xs x → ¬ Contains ys x
apart_lists xs ys x apart one other =
    let early : one.0 < length xs = one.1 in
    let late : other.0 < length ys = other.1 in
    let whole : length (xs ++ ys) ≡ length xs + length ys = length-append xs ys in
    let place : length xs + other.0 - length xs ≡ other.0 = omega arith in
    apart one.0 (length xs + other.0) x (omega arith) (omega (arith, late, whole))
    (get_or-append xs ys x one.0 early ∙ one.2 ∙ sym other.2
    ∙ sym (get_or-append_right xs ys (length xs) (length xs + other.0) x refl (omega arith) ∙ ap (λ (k : ℕ). get_or ys k x) place))

module _ (schema : Schema) (fragment : LinkFragment) (sound : IsSoundSchema schema) (has : Contains schema.mapping.links fragment) where
  -- the table of a fragment of links has a primary key
  key_there : (col : ColId) × Contains (key_columns schema.store fragment.table) col
  key_there =
      let table = item_at schema.store.tables fragment.table.index (All-contains (HasLinkFragmentIds schema) schema.mapping.links fragment sound.mapping.link_ids has).table in
      let good = All-contains IsSoundTable schema.store.tables table.0 sound.store.tables (contains_at schema.store.tables fragment.table.index table.0 table.1) in
      let key : key_columns schema.store fragment.table ≡ table.0.key = ap (λ (found : Option Table). option_map_or (λ entry. entry.key) found []) table.1 in
      some_item (key_columns schema.store fragment.table) (λ none. good.key.some (sym key ∙ none))

  pub one_end : IsHostedAt schema fragment.table fragment.first → ¬ IsHostedAt schema fragment.table fragment.second
  one_end first second =
      let column : Pair → ColId = λ pair. pair.col in
      let key = key_columns schema.store fragment.table in
      let col = key_there in
      let assoc = assoc_of schema sound fragment has in
      let apart = (sound_links schema sound fragment assoc.0 has assoc.1).once.cols in
      apart_lists (map column fragment.first) (map column fragment.second) col.0 (subst AreApart (map-append column fragment.first fragment.second) apart)
      (All-contains (Contains (map column fragment.first)) key col.0 first.whole col.1)
      (All-contains (Contains (map column fragment.second)) key col.0 second.whole col.1)
