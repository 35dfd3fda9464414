-- In a sound schema by what a table is written tells who owns it.
use Rattle.std.proofs.Common.{◌≡◌, ◌⊎◌, inl, inr, List, map, Contains, Option, Some, None, MatchOption, slice_get, option_map, refl, sym, ap, subst, ◌∙◌}
use Rattle.std.specs.Option.{option_and_then}
use Rattle.std.proofs.lemmas.List.{length-map}
use Rattle.std.proofs.lemmas.List.Elements.{All-contains}
use Rattle.emc_base.specs.Lists.{At}
use Rattle.emc_base.proofs.Mapped.{contains_at}
use Rattle.emc_base.proofs.facts.Images.{map_at}
use Rattle.round_trip.specs.Words.{Assoc, AssocId, Fragment, IsWritten, LinkFragId, LinkFragment, Pair, Schema, SetId, TableId}
use Rattle.round_trip.specs.FailsAt.{IsHostedAt}
use Rattle.round_trip.specs.soundness.mappings.Mappings.{IsSoundLinkFragment, IsSoundSchema}
use Rattle.round_trip.specs.soundness.mappings.Owners as sound
use Rattle.round_trip.proofs.Lookups.{assoc_of}
use Rattle.table_owners.specs.declared.table_writers.writer.Owner.{Owner}
use Rattle.table_owners.specs.declared.table_writers.writer.Owner.TheVariants as owner
use Rattle.table_owners.specs.declared.sources.Source.{Source}
use Rattle.table_owners.specs.declared.sources.Source.TheVariants.{Entities, Links}
use Rattle.table_owners.specs.declared.sources.Standing.{Standing}
use Rattle.table_owners.specs.declared.sources.Standing.TheVariants.{Apart, AtFirst, AtSecond}
use Rattle.table_owners.specs.Owners.{TellOwners, TellsOwner}
use Rattle.table_owners.specs.Sources.{AreSources, IsSource, Stands, owner_by, owner_from, owner_of_links, pairs_by}
use Rattle.table_owners.proofs.lists.Items.{member_some}

module _ (schema : Schema) where
  -- a table that somebody owns is written
  pub owned_written : (t : TableId) (one : sound.Owner) → sound.IsOwner schema t one → IsWritten schema.mapping t
  owned_written t (sound.set s) (pairs, inl writes) =
      inl (member_some (λ (fragment : Fragment). fragment.table ≡ t) schema.mapping.fragments writes.fragment writes.is_fragment writes.to_table)
  owned_written t (sound.set s) (pairs, inr (fragment, assoc, maps, rest)) =
      inr (member_some (λ (other : LinkFragment). other.table ≡ t) schema.mapping.links fragment maps.is_fragment maps.to_table)
  owned_written t (sound.assoc a) (fragment, assoc, maps, joined, is) =
      inr (member_some (λ (other : LinkFragment). other.table ≡ t) schema.mapping.links fragment maps.is_fragment maps.to_table)

module _ (schema : Schema) (sound_schema : IsSoundSchema schema) where
  -- and is sound
  pub sound_links : (fragment : LinkFragment) (assoc : Assoc) → Contains schema.mapping.links fragment → At schema.model.assocs fragment.assoc.index assoc
      → IsSoundLinkFragment schema fragment assoc
  sound_links fragment assoc has here =
      All-contains (λ (other : LinkFragment). (known : Assoc) → At schema.model.assocs other.assoc.index known → IsSoundLinkFragment schema other known)
      schema.mapping.links fragment
      sound_schema.mapping.links has assoc here

  -- links that are hosted at no end are joined
  pub joined_there : (fragment : LinkFragment) (assoc : Assoc) → Contains schema.mapping.links fragment → At schema.model.assocs fragment.assoc.index assoc
      → Stands schema fragment Apart → sound.IsJoined schema fragment assoc
  joined_there fragment assoc has here stands = elim (sound_links fragment assoc has here).placed [
    | inl first ↦ absurd (stands.0 first)
    | inr rest ↦ elim rest [
      | inl second ↦ absurd (stands.1 second)
      | inr joined ↦ joined
    ]
  ]

  -- a set owns the table and writes its key by these pairs, or an association owns it: so it is told of the source
  abbrev pub SetOrAssoc : TableId → Source → Type 0
  SetOrAssoc t source =
      ((s : SetId) × (pairs : List Pair) × (owner_from schema.model schema.mapping source ≡ Some (owner.Set s)) × (pairs_by schema.mapping source ≡ Some pairs)
      × sound.Owns schema t s pairs)
      ⊎ ((a : AssocId) × (owner_from schema.model schema.mapping source ≡ Some (owner.Assoc a)) × (pairs_by schema.mapping source ≡ None) × sound.IsOwner schema t (sound.assoc a))

  -- who owns a table that is written by links
  links_own : (t : TableId) (number : LinkFragId) (fragment : LinkFragment) (assoc : Assoc) → At schema.mapping.links number.index fragment → sound.LinkMaps schema t fragment assoc
      → (standing : Standing) → Stands schema fragment standing → SetOrAssoc t (Links number standing)
  links_own t number fragment assoc here maps standing stands = by standing stands
    where
      Told : Standing → LinkFragment → Option Owner
      Told some other = option_map (λ (known : Assoc). owner_of_links other known some) (slice_get schema.model.assocs other.assoc.index)

      told : (some : Standing) → owner_from schema.model schema.mapping (Links number some) ≡ Some (owner_of_links fragment assoc some)
      told some = ap (option_and_then (Told some)) here ∙ ap (option_map (λ (known : Assoc). owner_of_links fragment known some)) maps.is_assoc

      by : (some : Standing) → Stands schema fragment some → SetOrAssoc t (Links number some)
      by AtFirst hosted =
          let Hosted : TableId → Type 0 = λ table. IsHostedAt schema table fragment.first in
          inl (
            assoc.first.set,
            fragment.first,
            told AtFirst,
            ap (option_map (λ (other : LinkFragment). other.first)) here,
            inr (fragment, assoc, maps, inl (subst Hosted maps.to_table hosted, refl, refl)),
          )
      by AtSecond hosted =
          let Hosted : TableId → Type 0 = λ table. IsHostedAt schema table fragment.second in
          inl (
            assoc.second.set,
            fragment.second,
            told AtSecond,
            ap (option_map (λ (other : LinkFragment). other.second)) here,
            inr (fragment, assoc, maps, inr (subst Hosted maps.to_table hosted, refl, refl)),
          )
      by Apart apart = inr (fragment.assoc, told Apart, refl, (fragment, assoc, maps, joined_there fragment assoc maps.is_fragment maps.is_assoc apart, refl))

  -- who owns a table by what writes it
  pub source_owns : (t : TableId) (source : Source) → IsSource schema t source → SetOrAssoc t source
  source_owns t (Entities number) (fragment, here, same) = inl (
    fragment.set,
    fragment.pairs,
    ap (option_map (λ (other : Fragment). owner.Set other.set)) here,
    ap (option_map (λ (other : Fragment). other.pairs)) here,
    inl (record { fragment = fragment; is_fragment = contains_at schema.mapping.fragments number.index fragment here; to_table = same; of_set = refl; pairs_are = refl }),
  )
  source_owns t (Links number standing) (fragment, here, same, stands) =
      let has = contains_at schema.mapping.links number.index fragment here in
      let known = assoc_of schema sound_schema fragment has in
      links_own t number fragment known.0 here (record { is_fragment = has; is_assoc = known.1; to_table = same }) standing stands

  -- the owners are told
  pub tell_owners : (sources : List (Option Source)) → AreSources schema sources → TellOwners schema (map (owner_by schema.model schema.mapping) sources)
  tell_owners sources are = record {
    size = length-map sources (owner_by schema.model schema.mapping) ∙ are.size;
    each = λ t told here.
        (let source = map_at (owner_by schema.model schema.mapping) sources t.index told here in
        subst (TellsOwner schema t) source.2 (by t source.0 (are.each t source.0 source.1)));
  }
    where
      by : (t : TableId) (source : Option Source) → MatchOption source (¬ IsWritten schema.mapping t) (IsSource schema t)
          → TellsOwner schema t (owner_by schema.model schema.mapping source)
      by t None unwritten = unwritten
      by t (Some source) is = elim (source_owns t source is) [
        | inl (s, pairs, told, found, owns) ↦ subst (TellsOwner schema t) (sym told) (pairs, owns)
        | inr (a, told, none, owns) ↦ subst (TellsOwner schema t) (sym told) owns
      ]
