-- The cell of a second partner in the row of the entity that has two.
use Rattle.std.proofs.Common.{◌≡◌, ◌<◌, inl, inr, ⊎_elim, List, [], ◌∷◌, ◌++◌, map, length, All, Contains, Bool, true, false, not, if◌then◌else◌, refl, sym, ap, subst, ◌∙◌, arith}
use Rattle.std.specs.List.{AllZip}
use Rattle.std.proofs.lemmas.List.Elements.{All-contains, Contains-append_left, Contains-append_right}
use Rattle.std.proofs.lemmas.Option.{slice_get_within}
use mathlib.Core.List.{map-map}
use Rattle.emc_base.proofs.Lists.{all_from_members, at_once}
use Rattle.emc_base.proofs.Mapped.{contains_at}
use Rattle.emc_base.proofs.Members.{contains_nil}
use Rattle.emc_base.proofs.Numbered.{map_contains}
use Rattle.round_trip.specs.Words.{Assoc, AssocId, At, Column, End, Entity, EntityModel, LinkFragId, LinkFragment, Pair, PropId, Schema, SetId, Table, key_props, value_of, values_of}
use Rattle.round_trip.specs.FailsAt.{IsHostedAt}
use Rattle.round_trip.specs.soundness.Lookups.{set_key}
use Rattle.round_trip.specs.soundness.mappings.Fragments.{WritesEndKey}
use Rattle.round_trip.specs.soundness.mappings.Mappings.{HasPairIds}
use Rattle.round_trip.specs.soundness.mappings.Owners.{Owns}
use Rattle.round_trip.specs.soundness.models.Constraints.{IsSoundEnd}
use Rattle.cells.specs.declared.parts.Parts.{Parts}
use Rattle.cells.specs.Parts.{AreParts, schema_in}
use Rattle.table_owners.specs.declared.places.LinkPlace.TheVariants as place
use Rattle.table_owners.specs.Pairings.{IsPairedWith, TellsPairing}
use Rattle.table_owners.specs.Places.{TellsPlace}
use Rattle.schema_laws.specs.state_demand.Owners.{IsHosted, IsOwned, paired_key, props_in}
use Rattle.schema_laws.specs.state_demand.WellWritten.{cols_of}
use Rattle.schema_laws.proofs.sound_demand.Fitting.{columns_are, link_ids, sound_link}
use Rattle.schema_laws.proofs.sound_demand.owners.Owned.{owned}
use Rattle.schema_laws.proofs.sound_demand.owners.Pairing as pairing_of
use Rattle.schema_laws.proofs.state_demand.owners.Told.{told_props}
use Rattle.regions.specs.Basis.{Basis, Host, HostedAssoc, host_end}
use Rattle.regions.specs.region_laws.IsBasis.{IsHostOf}
use Rattle.region_states.specs.region_basis.BasisOf.{basis_of}
use Rattle.region_states.proofs.region_basis.Bases.{basis_is}
use Rattle.population.specs.Numbered.{end_of}
use Rattle.population.proofs.plain.Numbered.{some_part, sound_end}

-- the pairs at an end, and those at the partner's
abbrev pub near_pairs : Bool → LinkFragment → List Pair
near_pairs first fragment = if first then fragment.first else fragment.second

abbrev pub far_pairs : Bool → LinkFragment → List Pair
far_pairs first fragment = if first then fragment.second else fragment.first

-- a list with a member isn't empty
some_length : {X : Type 0} (xs : List X) (x : X) → Contains xs x → 0 < length xs
some_length [] x has = absurd (contains_nil x has)
some_length (y ∷ ys) x has = omega arith

module _ (fragment : LinkFragment) where
  near_both : (first : Bool) (pair : Pair) → Contains (near_pairs first fragment) pair → Contains (fragment.first ++ fragment.second) pair
  near_both true pair has = Contains-append_left fragment.first fragment.second pair has
  near_both false pair has = Contains-append_right fragment.first fragment.second pair has

  far_both : (first : Bool) (pair : Pair) → Contains (far_pairs first fragment) pair → Contains (fragment.first ++ fragment.second) pair
  far_both true pair has = Contains-append_right fragment.first fragment.second pair has
  far_both false pair has = Contains-append_left fragment.first fragment.second pair has

  far_writes : (model : EntityModel) (assoc : Assoc) (first : Bool) → WritesEndKey model assoc.first.ty fragment.first → WritesEndKey model assoc.second.ty fragment.second
      → WritesEndKey model (end_of (not first) assoc).ty (far_pairs first fragment)
  far_writes model assoc true one two = two
  far_writes model assoc false one two = one

module _ (parts : Parts) (are : AreParts parts) (a : AssocId) (first_hosts : Bool) (number : LinkFragId)
    (told : At parts.cells.now.places a.index (place.Hosted first_hosts number)) where
  abbrev schema : Schema
  schema = schema_in parts

  abbrev basis : Basis
  basis = basis_of parts

  pub assoc_within : a.index < length schema.model.assocs
  assoc_within =
      let P : _ → Type 0 = λ n. a.index < n in
      subst P are.cells.places.size (slice_get_within parts.cells.now.places a.index (place.Hosted first_hosts number) told)

  module _ (assoc : Assoc) (here : At schema.model.assocs a.index assoc) where
    tells : TellsPlace schema a assoc (place.Hosted first_hosts number)
    tells = are.cells.places.each a assoc (place.Hosted first_hosts number) here told

    pub fragment_within : number.index < length schema.mapping.links
    fragment_within = slice_get_within schema.mapping.links number.index tells.0 tells.1.is_fragment

    module _ (fragment : LinkFragment) (there : At schema.mapping.links number.index fragment) where
      same : tells.0 ≡ fragment
      same = at_once schema.mapping.links number.index tells.0 fragment tells.1.is_fragment there

      pub of_assoc : fragment.assoc ≡ a
      of_assoc = ap (λ (f : LinkFragment). f.assoc) (sym same) ∙ tells.1.of_assoc

      pub mapped : Contains schema.mapping.links fragment
      mapped = contains_at schema.mapping.links number.index fragment there

      hosted : IsHostedAt schema fragment.table (near_pairs first_hosts fragment)
      hosted = let P : LinkFragment → Type 0 = λ f. IsHostedAt schema f.table (near_pairs first_hosts f) in subst P same tells.2

      of_fragment : At schema.model.assocs fragment.assoc.index assoc
      of_fragment = let P : AssocId → Type 0 = λ b. At schema.model.assocs b.index assoc in subst P (sym of_assoc) here

      abbrev pub host : Host
      host = record { assoc = a; first_hosts = first_hosts }

      abbrev pub s : SetId
      s = (host_end first_hosts assoc).set

      is_host : IsHostOf schema s host
      is_host = record { assoc = assoc; fragment = fragment; is_assoc = here; is_fragment = mapped; of_assoc = of_assoc; hosted = hosted; at_set = refl }

      pub hosts_there : Contains (basis.hosts s) host
      hosts_there = ((basis_is parts are).hosts s host).1 is_host

      abbrev pub at_host : HostedAssoc basis s
      at_host = record { host = host; hosts = hosts_there; assoc = assoc; is_assoc = here }

      owns_by : (first : Bool) → IsHostedAt schema fragment.table (near_pairs first fragment) → Owns schema fragment.table (host_end first assoc).set (near_pairs first fragment)
      owns_by true at = inr (fragment, assoc, record { is_fragment = mapped; is_assoc = of_fragment; to_table = refl }, inl (at, refl, refl))
      owns_by false at = inr (fragment, assoc, record { is_fragment = mapped; is_assoc = of_fragment; to_table = refl }, inr (at, refl, refl))

      owns : Owns schema fragment.table s (near_pairs first_hosts fragment)
      owns = owns_by first_hosts hosted

      pub owner : (pairing : List Pair) × IsOwned schema fragment.table s pairing
      owner = owned schema are.sound fragment.table s (near_pairs first_hosts fragment) owns

      -- the properties that are told of the table are those of the pairing
      is_hosted : IsHosted s owner.0 assoc fragment
      is_hosted =
          let P : LinkFragment → Type 0 = λ f. f.table ≡ fragment.table → (one : Assoc) → At schema.model.assocs f.assoc.index one → IsHosted s owner.0 one f in
          All-contains P schema.mapping.links fragment owner.1.links mapped refl assoc of_fragment

      all_both : All (Contains (fragment.first ++ fragment.second)) owner.0
      all_both = ⊎_elim
          (λ first. all_from_members (Contains (fragment.first ++ fragment.second)) owner.0 (λ pair has.
          Contains-append_left fragment.first fragment.second pair (All-contains (Contains fragment.first) owner.0 pair first.writes has)))
          (λ second. all_from_members (Contains (fragment.first ++ fragment.second)) owner.0 (λ pair has.
          Contains-append_right fragment.first fragment.second pair (All-contains (Contains fragment.second) owner.0 pair second.writes has)))
          is_hosted.host

      module _ (props : List PropId) (tells_props : TellsPairing schema fragment.table props) where
        props_told : props ≡ props_in owner.0
        props_told =
            let zip : AllZip (IsPairedWith schema fragment.table s) (cols_of owner.0) props =
            subst (λ cols. AllZip (IsPairedWith schema fragment.table s) cols props) (sym owner.1.cols) (tells_props.owned s (near_pairs first_hosts fragment, owns)) in
            told_props (fragment.first ++ fragment.second) is_hosted.once (IsPairedWith schema fragment.table s)
            (λ col prop is. near_both fragment first_hosts (record { prop = prop; col = col }) (is.written (near_pairs first_hosts fragment) owns))
            owner.0 all_both props zip

        pub key_shared : (entity : Entity) → values_of schema.model entity props ≡ paired_key schema.model owner.0 entity
        key_shared entity = ap (values_of schema.model entity) props_told ∙ map-map (value_of schema.model entity) (λ (pair : Pair). pair.prop) owner.0

      -- a part of the partner's key is written
      abbrev far : End
      far = end_of (not first_hosts) assoc

      far_sound : IsSoundEnd schema.model far
      far_sound = sound_end schema.model are.sound.model assoc (contains_at schema.model.assocs a.index assoc here) (not first_hosts)

      pub some_pair : 0 < length (far_pairs first_hosts fragment)
      some_pair =
          let part = some_part schema.model are.sound.model far.set far_sound.under.0 far_sound.under.1 in
          let key : key_props schema.model far.ty ≡ set_key schema.model far.set = pairing_of.end_key schema are.sound far far_sound in
          let link = sound_link schema are.sound fragment mapped assoc of_fragment in
          let writes : WritesEndKey schema.model far.ty (far_pairs first_hosts fragment) = far_writes fragment schema.model assoc first_hosts link.first link.second in
          let found = map_contains (λ (one : Pair). one.prop) (far_pairs first_hosts fragment) part.0
          (All-contains (Contains (map (λ (one : Pair). one.prop) (far_pairs first_hosts fragment))) (key_props schema.model far.ty) part.0 writes.all
          (subst (λ props. Contains props part.0) (sym key) part.1)) in
          some_length (far_pairs first_hosts fragment) found.0 found.1

      -- and its column is there
      pub table_within : fragment.table.index < length schema.store.tables
      table_within = (link_ids schema are.sound fragment mapped).table

      module _ (pair : Pair) (first : At (far_pairs first_hosts fragment) 0 pair) (table : Table) (is_table : At schema.store.tables fragment.table.index table) where
        pub paired : Contains (far_pairs first_hosts fragment) pair
        paired = contains_at (far_pairs first_hosts fragment) 0 pair first

        pub column_within : pair.col.index < length table.cols
        column_within =
            let of_pair = All-contains (HasPairIds schema fragment.table) (fragment.first ++ fragment.second) pair (link_ids schema are.sound fragment mapped).pairs
            (far_both fragment first_hosts pair paired) in
            let P : List Column → Type 0 = λ cols. pair.col.index < length cols in
            subst P (columns_are schema.store fragment.table table is_table) of_pair.1
