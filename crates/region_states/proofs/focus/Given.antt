-- What fragments give of an entity with a link for each flag of its region, or of a link, is what its pattern's writings say.
use Rattle.std.proofs.Common.{◌≡◌, ⊎_elim, inl, inr, List, [], ◌∷◌, map, filter, find, flat_map, slice_get, All, Contains, Option, None, Some, Bool, true, false, ◌==◌, ◌&&◌, IsTrue, if◌then◌else◌, refl, sym, ap, subst, ◌∙◌}
use Rattle.std.specs.Option.{option_map_or}
use Rattle.std.proofs.lemmas.Bool.Decides.{Decides-eqb}
use Rattle.std.proofs.lemmas.List.Elements.{Contains-append_left, Contains-append_right}
use Rattle.emc_base.proofs.Lists.{all_from_members, only_member, only_stands}
use Rattle.emc_base.proofs.Mapped.{contains_filter, contains_map}
use Rattle.emc_base.proofs.Numbered.{filter_contains, map_contains}
use Rattle.round_trip.specs.Words.{SetId, TypeId, AssocId, Value, Null, EntityModel, Assoc, Fragment, LinkFragment, Pair, Hosted, Link, Writing, At, IsA, key_of, key_props, value_beside, value_of}
use Rattle.round_trip.specs.soundness.mappings.Fragments.{WritesEndKey}
use Rattle.round_trip.specs.soundness.mappings.Mappings.{IsSoundLinkFragment}
use Rattle.round_trip.proofs.Lookups.{assoc_of}
use Rattle.schema_laws.specs.state_demand.MadeTables.{given_cells}
use Rattle.schema_laws.specs.state_demand.Writings.{entity_writing, link_writing}
use Rattle.schema_laws.proofs.state_demand.lists.Ids.{Decides-assoc}
use Rattle.schema_laws.proofs.state_demand.lists.Lists.{contains_flat_map, none_in_nil}
use Rattle.schema_laws.proofs.state_demand.owners.Owners.{beside_map}
use Rattle.schema_laws.proofs.state_demand.writings.Decisions.{so_or_not}
use Rattle.schema_laws.proofs.sound_demand.Fitting.{sound_link}
use Rattle.schema_laws.proofs.sound_demand.Keys.{inherits_keys}
use Rattle.schema_laws.proofs.sound_demand.owners.Pairing.{written_part}
use Rattle.regions.specs.Basis.{Basis, Host, host_end}
use Rattle.regions.specs.Symbols.{SymbolWriting, fragment_writing, fragments_of, host_writings, is_linked, link_fragment_writing, link_fragments_of, link_writings, region_writings, selects_region}
use Rattle.regions.specs.Patterns.{Valuation, by_entity, by_link}
use Rattle.regions.specs.region_laws.Concrete.{AreConcrete, IsConcrete, TellsEnd}
use Rattle.regions.specs.region_laws.Held.{Holding}
use Rattle.regions.specs.region_laws.IsBasis.{IsBasis}
use Rattle.regions.specs.region_laws.pattern.Allowed.{end_at, partner_parts}
use Rattle.regions.proofs.region_laws.entities.Selected.{Decides-selected}
use Rattle.regions.proofs.region_laws.pattern.Choices.{found_passes, none_passes}
use Rattle.regions.proofs.region_laws.pattern.symbols.Origins.{IsRegionWriter, chosen_of, link_of, linked_decided, region_writer}
use Rattle.regions.proofs.region_laws.pattern.types.Regions.{parts_of}
use Rattle.regions.proofs.region_laws.writings.Concrete.{entity_concrete, link_concrete}
use Rattle.regions.proofs.region_laws.writings.Patterns.{may_host}
use Rattle.region_states.specs.focus.Given.{Gives, GivesEntity, GivesHosted, GivesLink, HasLinkPerFlag, hosted_link, links_of}

module _ {X : Type 0} (test : X → Bool) where
  -- where one item passes, it is the first that does
  found_first : (xs : List X) (x : X) → filter test xs ≡ x ∷ [] → find test xs ≡ Some x
  found_first xs x one = by (find test xs) refl
    where
      by : (found : Option X) → find test xs ≡ found → find test xs ≡ Some x
      by None none = let kept = filter_contains test xs x (only_stands (filter test xs) x one) in absurd (none_passes test xs x none kept.0 kept.1)
      by (Some y) here =
          let passes = found_passes test xs y here in
          let same : y ≡ x = only_member (filter test xs) x y one (contains_filter test xs y passes.0 passes.1) in
          here ∙ (λ k. Some (same k))

module _ (basis : Basis) (is : IsBasis basis) (held : Holding basis) (per_flag : HasLinkPerFlag basis held.region held.links) where
  abbrev model : EntityModel
  model = basis.schema.model

  abbrev pub entity_values : Valuation
  entity_values = by_entity basis.schema.model held.entity (partner_parts basis.schema.model held.links)

  abbrev key : List Value
  key = key_of basis.schema.model held.entity

  of_region : held.region.set ≡ held.s
  of_region = (parts_of basis held.s held.region held.listed).of_set

  abbrev as_symbols : Host → LinkFragment → SymbolWriting
  as_symbols host = link_fragment_writing host.first_hosts (if host.first_hosts then false else true)

  abbrev of_link : Host → Assoc → LinkFragment → Hosted → Writing
  of_link host assoc fragment hosted = link_writing basis.schema.model fragment assoc (hosted_link host.first_hosts key hosted.partner)

  -- what the one link of a flagged association writes
  module _ (host : Host) (hosts : Contains (basis.hosts held.s) host) (linked : Contains held.region.linked host.assoc) (assoc : Assoc)
      (here : At basis.schema.model.assocs host.assoc.index assoc) (fragment : LinkFragment) (mapped : Contains basis.schema.mapping.links fragment)
      (of_assoc : fragment.assoc ≡ host.assoc) (hosted : Hosted) (alone : links_of held.links host.assoc ≡ hosted ∷ []) where
    here_too : At basis.schema.model.assocs fragment.assoc.index assoc
    here_too = let P : AssocId → Type 0 = λ a. At basis.schema.model.assocs a.index assoc in subst P (sym of_assoc) here

    link_sound : IsSoundLinkFragment basis.schema fragment assoc
    link_sound = sound_link basis.schema is.sound fragment mapped assoc here_too

    -- at the end that hosts, the entity's key
    own : (end : TypeId) (pairs : List Pair) → WritesEndKey basis.schema.model end pairs → IsTrue (basis.is_a held.region.ty end)
        → All (λ pair. value_of basis.schema.model held.entity pair.prop ≡ value_beside pair.prop (key_props basis.schema.model end) key) pairs
    own end pairs writes may =
        all_from_members (λ (pair : Pair). value_of basis.schema.model held.entity pair.prop ≡ value_beside pair.prop (key_props basis.schema.model end) key) pairs (λ pair has.
        let under : IsA basis.schema.model held.entity.ty end =
        (is.types.tells held.entity.ty end).0 (subst (λ t. IsTrue (basis.is_a t end)) (sym held.holds.typed) may) in
        let keys : key_props basis.schema.model held.entity.ty ≡ key_props basis.schema.model end =
        (inherits_keys basis.schema.model is.sound.model).same held.entity.ty end under in
        let in_own : Contains (key_props basis.schema.model held.entity.ty) pair.prop =
        subst (λ props. Contains props pair.prop) (sym keys) (written_part basis.schema is.sound end pairs writes pair has) in
        sym (ap (λ props. value_beside pair.prop props key) (sym keys)
        ∙ beside_map (value_of basis.schema.model held.entity) (key_props basis.schema.model held.entity.ty) pair.prop in_own))

    -- at the other, the partner's
    other : (first : Bool) (pairs : List Pair)
        → All (λ pair. partner_parts basis.schema.model held.links fragment.assoc first pair.prop
        ≡ value_beside pair.prop (key_props basis.schema.model (end_at first assoc).ty) hosted.partner) pairs
    other first pairs =
        all_from_members (λ (pair : Pair). partner_parts basis.schema.model held.links fragment.assoc first pair.prop
        ≡ value_beside pair.prop (key_props basis.schema.model (end_at first assoc).ty) hosted.partner) pairs (λ pair has.
        let alone_too : links_of held.links fragment.assoc ≡ hosted ∷ [] = subst (λ a. links_of held.links a ≡ hosted ∷ []) (sym of_assoc) alone in
        let found = found_first (λ (one : Hosted). one.assoc.index == fragment.assoc.index) held.links hosted alone_too in
        let part : Hosted → Assoc → Value = λ one a. value_beside pair.prop (key_props basis.schema.model (end_at first a).ty) one.partner in
        ap (λ one. option_map_or (λ h. option_map_or (part h) (slice_get basis.schema.model.assocs fragment.assoc.index) Null) one Null) found
        ∙ ap (λ a. option_map_or (part hosted) a Null) here_too)

    ends : (b : Bool) → IsTrue (basis.is_a held.region.ty (host_end b assoc).ty)
        → TellsEnd basis.schema.model entity_values fragment.assoc true b assoc.first.ty fragment.first (hosted_link b key hosted.partner).first
        × TellsEnd basis.schema.model entity_values fragment.assoc false (if b then false else true) assoc.second.ty fragment.second (hosted_link b key hosted.partner).second
    ends true may = (own assoc.first.ty fragment.first link_sound.first may, other false fragment.second)
    ends false may = (other true fragment.first, own assoc.second.ty fragment.second link_sound.second may)

    hosted_concrete : IsConcrete entity_values (as_symbols host fragment) (of_link host assoc fragment hosted)
    hosted_concrete =
        let told = ends host.first_hosts (may_host basis is held.s held.region held.listed host hosts linked assoc here) in
        record {
          table = refl;
          cells = link_concrete basis.schema.model fragment assoc (hosted_link host.first_hosts key hosted.partner) entity_values host.first_hosts
              (if host.first_hosts then false else true) told.0 told.1;
        }

  abbrev own_writings : List SymbolWriting
  own_writings = map fragment_writing (fragments_of basis held.region)

  abbrev linked_hosts : List Host
  linked_hosts = filter (λ host. is_linked basis held.region.linked host.assoc) (basis.hosts held.region.set)

  abbrev hosted_writings : List SymbolWriting
  hosted_writings = flat_map (host_writings basis) linked_hosts

  abbrev IsListed : Writing → Type 0
  IsListed writing = (one : SymbolWriting) × Contains (region_writings basis held.region) one × IsConcrete entity_values one writing

  entity_listed : (writing : Writing) → GivesEntity basis held.s held.entity writing → IsListed writing
  entity_listed writing by =
      let fragment : Fragment = by.fragment in
      let same_set : (fragment.set.index == held.region.set.index) ≡ true = (Decides-eqb fragment.set.index held.region.set.index).1 (ap
      (λ (one : SetId). one.index) (by.of_set ∙ sym of_region)) in
      let selects : selects_region basis held.region fragment ≡ true = (Decides-selected basis is fragment by.mapped held).1 by.selects in (
        fragment_writing fragment,
        Contains-append_left own_writings hosted_writings (fragment_writing fragment)
            (contains_map fragment_writing (fragments_of basis held.region) fragment
            (contains_filter (λ (one : Fragment). (one.set.index == held.region.set.index) && selects_region basis held.region one) basis.schema.mapping.fragments fragment
            by.mapped (λ k. same_set k && selects k))),
        record {
          table = ap (λ (one : Writing). one.table) by.is;
          cells = ap given_cells by.is ∙ entity_concrete basis.schema.model fragment held.entity (partner_parts basis.schema.model held.links);
        },
      )

  hosted_listed : (writing : Writing) → GivesHosted basis held.s held.entity held.links writing → IsListed writing
  hosted_listed writing by = ⊎_elim flagged not_flagged (so_or_not (is_linked basis held.region.linked host.assoc) (linked_decided basis held.region.linked host.assoc))
    where
      host : Host
      host = by.at.host

      host_there : Contains (basis.hosts held.region.set) host
      host_there = subst (λ u. Contains (basis.hosts u) host) (sym of_region) by.at.hosts

      there : Contains (links_of held.links host.assoc) by.hosted
      there = contains_filter (λ (one : Hosted). one.assoc.index == host.assoc.index) held.links by.hosted by.among ((Decides-assoc by.hosted.assoc host.assoc).1 by.of_host)

      not_flagged : ¬ Contains held.region.linked host.assoc → IsListed writing
      not_flagged none = absurd (none_in_nil by.hosted (subst (λ xs. Contains xs by.hosted) (per_flag.none host host_there none) there))

      flagged : Contains held.region.linked host.assoc → IsListed writing
      flagged linked =
          let found = per_flag.one host host_there linked in
          let same : found.0 ≡ by.hosted = sym (only_member (links_of held.links host.assoc) found.0 by.hosted found.1 there) in
          let alone : links_of held.links host.assoc ≡ by.hosted ∷ [] = found.1 ∙ (λ k. same k ∷ []) in
          let concrete_one = hosted_concrete host by.at.hosts linked by.at.assoc by.at.is_assoc by.fragment by.mapped by.of_assoc by.hosted alone in
          let told : is_linked basis held.region.linked host.assoc ≡ true = (linked_decided basis held.region.linked host.assoc).1 linked in (
            as_symbols host by.fragment,
            Contains-append_right own_writings hosted_writings (as_symbols host by.fragment)
                (contains_flat_map (host_writings basis) linked_hosts host (as_symbols host by.fragment)
                (contains_filter (λ (one : Host). is_linked basis held.region.linked one.assoc) (basis.hosts held.region.set) host host_there told)
                (contains_map (as_symbols host) (link_fragments_of basis host.assoc) by.fragment
                (contains_filter (λ (one : LinkFragment). one.assoc.index == host.assoc.index) basis.schema.mapping.links by.fragment by.mapped
                ((Decides-assoc by.fragment.assoc host.assoc).1 by.of_assoc)))),
            subst (IsConcrete entity_values (as_symbols host by.fragment)) (sym by.is) concrete_one,
          )

  abbrev IsWritten : SymbolWriting → Type 0
  IsWritten one = (writing : Writing) × Gives basis held.s held.entity held.links writing × IsConcrete entity_values one writing

  is_written : (one : SymbolWriting) → IsRegionWriter basis held.region one → IsWritten one
  is_written one (inl (fragment, among, same)) =
      let chosen = chosen_of basis held.region fragment among in
      let writing : Writing = entity_writing basis.schema.model fragment held.entity in
      let concrete_one : IsConcrete entity_values (fragment_writing fragment) writing =
      record { table = refl; cells = entity_concrete basis.schema.model fragment held.entity (partner_parts basis.schema.model held.links) } in (
        writing,
        inl (record {
          fragment = fragment;
          mapped = chosen.0;
          of_set = chosen.1.0 ∙ of_region;
          selects = (Decides-selected basis is fragment chosen.0 held).0 chosen.1.1;
          is = refl {a = writing};
        }),
        subst (λ w. IsConcrete entity_values w writing) same concrete_one,
      )
  is_written one (inr (host, fragment, is_host, linked, among, same)) =
      let by = link_of basis host.assoc fragment among in
      let found = assoc_of basis.schema is.sound fragment by.0 in
      let At_assoc : AssocId → Type 0 = λ a. At basis.schema.model.assocs a.index found.0 in
      let here : At_assoc host.assoc = subst At_assoc by.1 found.1 in
      let hosts : Contains (basis.hosts held.s) host = subst (λ u. Contains (basis.hosts u) host) of_region is_host in
      let link = per_flag.one host is_host linked in
      let kept = filter_contains (λ (one_link : Hosted). one_link.assoc.index == host.assoc.index) held.links link.0 (only_stands (links_of held.links host.assoc) link.0 link.1) in
      let writing : Writing = of_link host found.0 fragment link.0 in (
        writing,
        inr (record {
          at = record { host = host; hosts = hosts; assoc = found.0; is_assoc = here };
          fragment = fragment;
          mapped = by.0;
          of_assoc = by.1;
          hosted = link.0;
          among = kept.0;
          of_host = (Decides-assoc link.0.assoc host.assoc).0 kept.1;
          is = refl {a = writing};
        }),
        subst (λ w. IsConcrete entity_values w writing) same (hosted_concrete host hosts linked found.0 here fragment by.0 by.1 link.0 link.1),
      )

  -- what is given of the entity with its links
  pub entity_given : AreConcrete entity_values (region_writings basis held.region) (Gives basis held.s held.entity held.links)
  entity_given = record {
    listed = λ writing by. ⊎_elim (entity_listed writing) (hosted_listed writing) by;
    written = λ one has. is_written one (region_writer basis held.region one has);
  }

-- what is given of a link
module _ (basis : Basis) (a : AssocId) (assoc : Assoc) (link : Link) where
  abbrev pub link_values : Valuation
  link_values = by_link basis.schema.model assoc link

  link_is : (fragment : LinkFragment) → IsConcrete link_values (link_fragment_writing false false fragment) (link_writing basis.schema.model fragment assoc link)
  link_is fragment =
      let Told : TypeId → List Value → Pair → Type 0 =
      λ ty key pair. value_beside pair.prop (key_props basis.schema.model ty) key ≡ value_beside pair.prop (key_props basis.schema.model ty) key in
      record {
        table = refl;
        cells = link_concrete basis.schema.model fragment assoc link link_values false false
            (all_from_members (Told assoc.first.ty link.first) fragment.first (λ pair has. refl))
            (all_from_members (Told assoc.second.ty link.second) fragment.second (λ pair has. refl));
      }

  pub link_given : AreConcrete link_values (link_writings basis a) (GivesLink basis a assoc link)
  link_given = record {
    listed = λ writing by. (
      link_fragment_writing false false by.fragment,
      contains_map (link_fragment_writing false false) (link_fragments_of basis a) by.fragment
          (contains_filter (λ (one : LinkFragment). one.assoc.index == a.index) basis.schema.mapping.links by.fragment by.mapped ((Decides-assoc by.fragment.assoc a).1 by.of_assoc)),
      subst (IsConcrete link_values (link_fragment_writing false false by.fragment)) (sym by.is) (link_is by.fragment),
    );
    written = λ one has. (
        let made = map_contains (link_fragment_writing false false) (link_fragments_of basis a) one has in
        let by = link_of basis a made.0 made.1 in
        let writing : Writing = link_writing basis.schema.model made.0 assoc link in (
          writing,
          record { fragment = made.0; mapped = by.0; of_assoc = by.1; is = refl {a = writing} },
          subst (λ w. IsConcrete link_values w writing) made.2 (link_is made.0),
        ));
  }
