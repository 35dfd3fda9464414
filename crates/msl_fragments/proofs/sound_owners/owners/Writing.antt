-- Each owner of a table is one of the writers that stand in the list.
use Rattle.std.proofs.Common.{◌≡◌, ◌≢◌, ⊎_elim, ◌&&◌, Bool, true, not, if◌then◌else◌, List, [], ◌∷◌, ◌++◌, map, Contains, Option, refl, sym, subst}
use Rattle.std.specs.List.{flat_map}
use Rattle.std.specs.Option.{option_map_or}
use Rattle.std.proofs.lemmas.List.Elements.{Contains-append_left, Contains-append_right}
use Rattle.emc_base.specs.Lists.{At}
use Rattle.emc_base.proofs.Mapped.{contains_map}
use Rattle.emc_base.proofs.Members.{contains_head}
use Rattle.round_trip.specs.Words.{Assoc, End, EntityModel, Fragment, LinkFragment, Mult, Pair, SetId, StoreModel, TableId, key_columns}
use Rattle.round_trip.specs.FailsAt.{IsHostedAt}
use Rattle.edm_types.specs.declared.model.Mult.TheVariants.{One, ZeroOrOne, Many}
use Rattle.round_trip.specs.soundness.Lookups.{set_key}
use Rattle.round_trip.specs.soundness.mappings.Owners.{IsJoined, LinkMaps, Owns, SetHosts, SetWrites}
use Rattle.table_owners.specs.declared.table_writers.writer.Owner.TheVariants as owner
use Rattle.table_owners.specs.declared.table_writers.writer.Writer.{Writer}
use Rattle.emc_base.proofs.FoundItems.{contains_flat_map}
use Rattle.msl_rules.specs.declared.msl_lists.raw.RawMapping.{RawMapping}
use Rattle.msl_rules.specs.MappingMeaning.{schema_in}
use Rattle.msl_rules.specs.OwnerRules.{PlacedWriter, are_exactly, is_one, key_pairs, placed, with_assoc, writer_of_fragment, writers_at_link, writers_at_site, writers_in, writers_of_both, writers_of_end, writers_of_link}
use Rattle.msl_rules.specs.Sites.{LinkSite, Site, link_sites, sites}
use Rattle.msl_fragments.proofs.sound_owners.Among.{hosted_tells}
use Rattle.msl_fragments.proofs.sound_owners.Fragments.{IsLinkOf, fragment_of, link_of}

-- what is written where a test passes
one_if : {X : Type 0} (test : Bool) (x : X) → test ≡ true → Contains (if test then x ∷ [] else []) x
one_if {X} test x is = let P : Bool → Type 0 = λ test. Contains (if test then x ∷ [] else []) x in subst P (sym is) (contains_head x [])

-- an end that isn't mandatory
not_one : (mult : Mult) → mult ≢ One → not (is_one mult) ≡ true
not_one One never = absurd (never refl)
not_one ZeroOrOne never = refl
not_one Many never = refl

module _ (model : EntityModel) (store : StoreModel) (raw : RawMapping) where
  -- all that writes a table
  abbrev pub all_writers : List Writer
  all_writers = map (λ other. other.writer) (writers_in model store raw)

  -- a set with the pairs of its key that it writes to a table
  abbrev pub by_set : TableId → SetId → List Pair → Writer
  by_set table set pairs = record { table = table; owner = owner.Set set; key = key_pairs (set_key model set) (key_columns store table) pairs }

  -- what stands at a fragment, and at an association's mapping
  at_site : (site : Site) → Contains (sites raw) site → (one : PlacedWriter) → Contains (writers_at_site model store site) one → Contains all_writers one.writer
  at_site site has one gives = contains_map (λ (other : PlacedWriter). other.writer) (writers_in model store raw) one
      (Contains-append_right (flat_map (writers_at_link model store) (link_sites raw)) (flat_map (writers_at_site model store) (sites raw)) one
      (contains_flat_map (writers_at_site model store) (sites raw) site one has gives))

  at_link : (site : LinkSite) → Contains (link_sites raw) site → (one : PlacedWriter) → Contains (writers_at_link model store site) one → Contains all_writers one.writer
  at_link site has one gives = contains_map (λ (other : PlacedWriter). other.writer) (writers_in model store raw) one
      (Contains-append_left (flat_map (writers_at_link model store) (link_sites raw)) (flat_map (writers_at_site model store) (sites raw)) one
      (contains_flat_map (writers_at_link model store) (link_sites raw) site one has gives))

  -- a fragment of the mapping writes by its set
  fragment_writes : (table : TableId) (set : SetId) (pairs : List Pair) → SetWrites (schema_in model store raw) table set pairs → Contains all_writers (by_set table set pairs)
  fragment_writes table set pairs writes =
      let fragment = writes.fragment in
      let from = fragment_of model store raw fragment writes.is_fragment in
      let one : PlacedWriter = record { place = from.site.place; writer = writer_of_fragment model store fragment } in
      let P : Option Fragment → Type 0 = λ found. Contains (option_map_or (λ fragment. placed model store from.site.place (writer_of_fragment model store fragment ∷ [])) found []) one in
      let same : writer_of_fragment model store fragment ≡ by_set table set pairs = λ i. by_set (writes.to_table i) (writes.of_set i) (sym writes.pairs_are i) in
      subst (Contains all_writers) same (at_site from.site from.has one (subst P (sym from.given) (contains_head one [])))

  -- a link fragment writes what it does by its association
  link_writes : (fragment : LinkFragment) → IsLinkOf model store raw fragment → (assoc : Assoc) → At model.assocs fragment.assoc.index assoc
      → (writer : Writer) → Contains (writers_of_link model store fragment assoc) writer → Contains all_writers writer
  link_writes fragment from assoc here writer has =
      let one : PlacedWriter = record { place = from.site.place; writer = writer } in
      let P : Option LinkFragment → Type 0 = λ found. Contains (option_map_or (λ fragment. placed model store from.site.place (with_assoc model store fragment)) found []) one in
      let Q : Option Assoc → Type 0 = λ found. Contains (option_map_or (writers_of_link model store fragment) found []) writer in
      at_link from.site from.has one (subst P (sym from.given)
      (contains_map (λ (writer : Writer). record { place = from.site.place; writer = writer }) (with_assoc model store fragment) writer (subst Q (sym here) has)))

  module _ (table : TableId) (fragment : LinkFragment) (assoc : Assoc) (maps : LinkMaps (schema_in model store raw) table fragment assoc) where
    -- the writers that it may be by its ends
    abbrev firsts : List Writer
    firsts = writers_of_end model store fragment assoc.first fragment.first

    abbrev seconds : List Writer
    seconds = writers_of_end model store fragment assoc.second fragment.second

    -- what it writes by an end at which it is hosted
    end_writes : (end : End) (pairs : List Pair) → IsHostedAt (schema_in model store raw) table pairs
        → Contains (writers_of_end model store fragment end pairs) (by_set table end.set pairs)
    end_writes end pairs hosted =
        let P : TableId → Type 0 = λ t. are_exactly (key_columns store t) pairs ≡ true in
        let exactly : are_exactly (key_columns store fragment.table) pairs ≡ true = subst P (sym maps.to_table) (hosted_tells (schema_in model store raw) table pairs hosted) in
        let Q : TableId → Type 0 = λ t. Contains (writers_of_end model store fragment end pairs) (by_set t end.set pairs) in
        subst Q maps.to_table (one_if (are_exactly (key_columns store fragment.table) pairs) (by_set fragment.table end.set pairs) exactly)

    -- by its first end, by its second, and by both
    first_writes : IsHostedAt (schema_in model store raw) table fragment.first → Contains (writers_of_link model store fragment assoc) (by_set table assoc.first.set fragment.first)
    first_writes hosted =
        let writer : Writer = by_set table assoc.first.set fragment.first in
        Contains-append_left (firsts ++ seconds) (writers_of_both model store fragment assoc) writer
        (Contains-append_left firsts seconds writer (end_writes assoc.first fragment.first hosted))

    second_writes : IsHostedAt (schema_in model store raw) table fragment.second → Contains (writers_of_link model store fragment assoc) (by_set table assoc.second.set fragment.second)
    second_writes hosted =
        let writer : Writer = by_set table assoc.second.set fragment.second in
        Contains-append_left (firsts ++ seconds) (writers_of_both model store fragment assoc) writer
        (Contains-append_right firsts seconds writer (end_writes assoc.second fragment.second hosted))

    -- the association itself
    abbrev pub by_assoc : Writer
    by_assoc = record { table = fragment.table; owner = owner.Assoc fragment.assoc; key = [] }

    both_write : IsJoined (schema_in model store raw) fragment assoc → Contains (writers_of_link model store fragment assoc) by_assoc
    both_write joined =
        let exactly = hosted_tells (schema_in model store raw) fragment.table (fragment.first ++ fragment.second) joined.columns in
        let first = not_one assoc.first.mult joined.first in
        let second = not_one assoc.second.mult joined.second in
        Contains-append_right (firsts ++ seconds) (writers_of_both model store fragment assoc) by_assoc
        (one_if (are_exactly (key_columns store fragment.table) (fragment.first ++ fragment.second) && not (is_one assoc.first.mult) && not (is_one assoc.second.mult)) by_assoc
        (λ i. exactly i && first i && second i))

    pub joined_writes : IsJoined (schema_in model store raw) fragment assoc → Contains all_writers by_assoc
    joined_writes joined = link_writes fragment (link_of model store raw fragment maps.is_fragment) assoc maps.is_assoc by_assoc (both_write joined)

  -- a set that hosts an association writes
  host_writes : (table : TableId) (set : SetId) (pairs : List Pair) → SetHosts (schema_in model store raw) table set pairs → Contains all_writers (by_set table set pairs)
  host_writes table set pairs (fragment, assoc, maps, either) =
      let from = link_of model store raw fragment maps.is_fragment in
      ⊎_elim
      (λ first. (let same : by_set table assoc.first.set fragment.first ≡ by_set table set pairs = λ i. by_set table (first.1 i) (sym first.2 i) in
      subst (Contains all_writers) same (link_writes fragment from assoc maps.is_assoc (by_set table assoc.first.set fragment.first) (first_writes table fragment assoc maps first.0))))
      (λ second. (let same : by_set table assoc.second.set fragment.second ≡ by_set table set pairs = λ i. by_set table (second.1 i) (sym second.2 i) in
      subst (Contains all_writers) same (link_writes fragment from assoc maps.is_assoc (by_set table assoc.second.set fragment.second) (second_writes table fragment assoc maps second.0))))
      either

  -- each set that owns a table writes it
  pub set_writes : (table : TableId) (set : SetId) (pairs : List Pair) → Owns (schema_in model store raw) table set pairs → Contains all_writers (by_set table set pairs)
  set_writes table set pairs = ⊎_elim (fragment_writes table set pairs) (host_writes table set pairs)
