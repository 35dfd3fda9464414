-- Regions part the entities of a set: each that a legal state holds is held by its region alone.
use Rattle.std.proofs.Common.{◌≡◌, ◌≢◌, ◌↔◌, ⊎_elim, inl, inr, ℕ, List, [], ◌∷◌, map, filter, flat_map, slice_get, All, Any, Contains, Option, Some, None, Bool, true, not, ◌&&◌, true≢false, refl, sym, ap, subst, ◌∙◌}
use Rattle.std.specs.List.{enumerate_from}
use Rattle.std.specs.Option.{option_map_or}
use Rattle.std.proofs.lemmas.Bool.{false_from_ne_true}
use Rattle.std.proofs.lemmas.List.Elements.{All-contains, All-map}
use Rattle.std.proofs.lemmas.Slice.Zip.{AllZip-map}
use Rattle.emc_base.proofs.Lists.{all_from_members, item_at}
use Rattle.emc_base.proofs.Mapped.{contains_at, contains_enumerated, contains_filter, contains_map}
use Rattle.emc_base.proofs.Numbered.{filter_contains, map_contains}
use Rattle.round_trip.specs.Words.{SetId, TypeId, PropId, AssocId, EntitySet, EntityType, Prop, Assoc, Mult, Entity, Hosted, Link, At, IsLegalSet, HasProp, HasFittingType, HasAllowedNulls, HasValuesInDomain, entities_in, key_of, props_of, value_of}
use Rattle.edm_types.specs.declared.model.Mult.TheVariants.{Many}
use Rattle.round_trip.specs.soundness.mappings.Joined.{prop}
use Rattle.round_trip.specs.soundness.models.ModelIds.{IsPropId}
use Rattle.condition_logic.specs.declared.atoms.Atom.{Atom}
use Rattle.condition_logic.specs.declared.atoms.Atom.TheVariants as atom
use Rattle.condition_logic.specs.declared.atoms.AtomOf.{AtomOf}
use Rattle.schema_laws.proofs.state_demand.lists.Lists.{contains_flat_map, head_stands, member_of_flat_map, none_in_nil}
use Rattle.regions.specs.declared.region.Region.{Region}
use Rattle.regions.specs.Atoms.{Allows, LiesIn, atom_of, atoms_of}
use Rattle.regions.specs.Basis.{Basis, Host, host_end, partner_end, HostedAssoc}
use Rattle.regions.specs.Regions.{Holds, TellsLinks, atoms_at, flag_values, flagged, flags_at, model_of, regions_of, tested_props, types_of}
use Rattle.regions.specs.region_laws.IsBasis.{AreHostedLinks, IsBasis}
use Rattle.regions.specs.region_laws.RegionAt.{atom_in, flag_by, flag_in, has_link, links_at, region_at}
use Rattle.regions.proofs.region_laws.lists.Choices.{choice_by, choice_each, zip_too, zip_weaker}
use Rattle.regions.proofs.region_laws.entities.Flags.{Decides-flagged, Decides-link, bit_there, flag_is, flagged_only, flags_told, one_host}
use Rattle.regions.proofs.region_laws.entities.Hosting.{covered, link_among, link_of, no_link, one_link, there}
use Rattle.regions.proofs.region_laws.listing.Listed.{IsListed, is_listed, joined_map, listed, region_with}
use Rattle.regions.proofs.region_laws.values.Told.{atom_one, atom_only}
use Rattle.regions.specs.region_laws.Held.{Holding, Standing, HeldEntity}
use Rattle.regions.proofs.region_laws.entities.Held.{set_of_entity}

-- a property of a type is one of the model's
pub prop_there : (basis : Basis) → IsBasis basis → (t : TypeId) (p : PropId) → Contains (props_of (model_of basis) t) p
    → (declared : Prop) × At (model_of basis).props p.index declared
prop_there basis is t p = by (slice_get (model_of basis).types t.index) refl
  where
    by : (found : Option EntityType) → slice_get (model_of basis).types t.index ≡ found → Contains (option_map_or (λ (type : EntityType). type.props) found []) p
        → (declared : Prop) × At (model_of basis).props p.index declared
    by None here has = absurd (none_in_nil p has)
    by (Some type) here has =
        let Within : EntityType → Type 0 = λ one. All (IsPropId (model_of basis)) one.props in
        item_at (model_of basis).props p.index (All-contains (IsPropId (model_of basis)) type.props p
        (All-contains Within (model_of basis).types type is.sound.model.ids.props (contains_at (model_of basis).types t.index type here)) has)

module _ (basis : Basis) (is : IsBasis basis) where
  -- an atom in terms of the declared property
  pub atom_is : (entity : Entity) (p : PropId) (declared : Prop) → At (model_of basis).props p.index declared
      → (atom_in basis entity p).atom ≡ atom_of declared (basis.constants (prop p)) (value_of (model_of basis) entity p)
  atom_is entity p declared here =
      ap (λ found. option_map_or (λ (one : Prop). atom_of one (basis.constants (prop p)) (value_of (model_of basis) entity p)) found atom.Null) here

  -- a listed atom that holds the entity's value is this one
  atom_told : (entity : Entity) (p : PropId) (told : AtomOf) → Contains (atoms_at basis p) told
      → LiesIn (basis.constants (prop told.prop)) told.atom (value_of (model_of basis) entity told.prop) → told ≡ atom_in basis entity p
  atom_told entity p told = by (slice_get (model_of basis).props p.index) refl
    where
      Lies : AtomOf → Type 0
      Lies one = LiesIn (basis.constants (prop one.prop)) one.atom (value_of (model_of basis) entity one.prop)

      by : (found : Option Prop) → slice_get (model_of basis).props p.index ≡ found
          → Contains (option_map_or (λ declared. map (λ (a : Atom). record { prop = p; atom = a }) (atoms_of basis.fits declared (basis.constants (prop p)))) found []) told
          → LiesIn (basis.constants (prop told.prop)) told.atom (value_of (model_of basis) entity told.prop) → told ≡ atom_in basis entity p
      by None here has lies = absurd (none_in_nil told has)
      by (Some declared) here has lies =
          let as_told : Atom → AtomOf = λ a. record { prop = p; atom = a } in
          let found = map_contains as_told (atoms_of basis.fits declared (basis.constants (prop p))) told has in
          let P : AtomOf → Type 0 = λ one. LiesIn (basis.constants (prop one.prop)) one.atom (value_of (model_of basis) entity one.prop) in
          let same : found.0 ≡ (atom_in basis entity p).atom =
          atom_only basis is p declared here found.0 (value_of (model_of basis) entity p) found.1 (subst P (sym found.2) lies) ∙ sym (atom_is entity p declared here) in
          sym found.2 ∙ ap as_told same

  -- a region that is listed and holds an entity with its links is the entity's
  pub region_only : (held : Holding basis) → held.region ≡ region_at basis held.s held.entity held.links
  region_only held =
      let s : SetId = held.s in
      let entity : Entity = held.entity in
      let links : List Hosted = held.links in
      let by : IsListed basis held.s held.region = is_listed basis held.s held.region held.listed in
      let P : Region → Type 0 = λ one. Holds basis one entity links → one ≡ region_at basis s entity links in
      subst P (sym by.is) (λ holds.
      let typed : entity.ty ≡ by.ty = holds.typed in
      let Lies : AtomOf → Type 0 = λ told. LiesIn (basis.constants (prop told.prop)) told.atom (value_of (model_of basis) entity told.prop) in
      let atoms : by.atoms ≡ map (atom_in basis entity) (tested_props basis by.ty) =
      AllZip-map (atom_in basis entity) (tested_props basis by.ty) by.atoms
      (zip_weaker (λ p told. Lies told × Contains (atoms_at basis p) told) (λ p told. told ≡ atom_in basis entity p) (λ p told both. atom_told entity p told both.1 both.0)
      (tested_props basis by.ty) by.atoms
      (zip_too (λ p told. Contains (atoms_at basis p) told) Lies (tested_props basis by.ty) by.atoms
      (choice_each (atoms_at basis) (tested_props basis by.ty) by.atoms by.are_atoms) holds.atoms)) in
      let flags : by.flags ≡ map (flag_in basis by.ty links) (basis.hosts s) =
      flags_told basis by.ty links (basis.hosts s) by.flags (is.order s) (choice_each (flags_at basis by.ty) (basis.hosts s) by.flags by.are_flags)
      (λ host hosts. All-contains (TellsLinks basis (region_with basis s by.ty by.atoms by.flags) links) (basis.hosts s) host holds.flags hosts) in
      let linked : flat_map (λ flag. flag) by.flags ≡ flat_map (flag_in basis by.ty links) (basis.hosts s) =
      ap (flat_map (λ flag. flag)) flags ∙ joined_map (flag_in basis by.ty links) (basis.hosts s) in
      let atoms_too : by.atoms ≡ map (atom_in basis entity) (tested_props basis entity.ty) = atoms ∙ ap (λ t. map (atom_in basis entity) (tested_props basis t)) (sym typed) in
      let linked_too : flat_map (λ flag. flag) by.flags ≡ flat_map (flag_in basis entity.ty links) (basis.hosts s) =
      linked ∙ ap (λ t. flat_map (flag_in basis t links) (basis.hosts s)) (sym typed) in
      let back : by.ty ≡ entity.ty = sym typed in
      λ k. record { set = s; ty = back k; atoms = atoms_too k; linked = linked_too k }) held.holds

  module _ (standing : Standing basis) where
    abbrev set : EntitySet
    set = (set_of_entity basis standing.state standing.legal standing.s standing.entity standing.stands).0

    abbrev is_set : At (model_of basis).sets standing.s.index set
    is_set = (set_of_entity basis standing.state standing.legal standing.s standing.entity standing.stands).1

    legal_set : IsLegalSet (model_of basis) set (entities_in standing.state standing.s)
    legal_set = standing.legal.sets standing.s set is_set

    fitting : HasFittingType (model_of basis) set standing.entity
    fitting = All-contains (HasFittingType (model_of basis) set) (entities_in standing.state standing.s) standing.entity legal_set.types standing.stands

    type_among : Contains (types_of basis set) standing.entity.ty
    type_among =
        let type : EntityType = fitting.concrete.0 in
        let numbered : TypeId → ℕ × EntityType → Type 0 = λ t placed. t.index ≡ placed.0 in
        let keeps : ℕ × EntityType → Bool = λ placed. not placed.1.is_abstract && basis.is_a (record { index = placed.0 }) set.element in
        let abstract_not : not type.is_abstract ≡ true = ap not fitting.concrete.2 in
        let under : basis.is_a standing.entity.ty set.element ≡ true = (is.types.tells standing.entity.ty set.element).1 fitting.under in
        contains_map (λ (placed : ℕ × EntityType). record { index = placed.0 }) (filter keeps (enumerate_from 0 (model_of basis).types)) (standing.entity.ty.index, type)
        (contains_filter keeps (enumerate_from 0 (model_of basis).types) (standing.entity.ty.index, type)
        (contains_enumerated (model_of basis).types standing.entity.ty.index type fitting.concrete.1)
        ((λ k. abstract_not k && under k)))

    -- an entity's value of a property of its type is one that this may hold
    pub allowed : (p : PropId) (declared : Prop) → Contains (props_of (model_of basis) standing.entity.ty) p → At (model_of basis).props p.index declared
        → Allows declared (value_of (model_of basis) standing.entity p)
    allowed p declared has here =
        let is_prop : HasProp (model_of basis) standing.entity p declared = record { among = has; is_declared = here } in
        let entities : List Entity = entities_in standing.state standing.s in
        let nulls : HasAllowedNulls (model_of basis) standing.entity =
        All-contains (HasAllowedNulls (model_of basis)) entities standing.entity legal_set.nulls standing.stands in
        let domains : HasValuesInDomain (model_of basis) standing.entity =
        All-contains (HasValuesInDomain (model_of basis)) entities standing.entity legal_set.domains standing.stands in
        ⊎_elim (λ null. inl (null, nulls p declared is_prop null)) (λ within. inr within) (domains p declared is_prop)

    atoms_hold : (p : PropId) → Contains (tested_props basis standing.entity.ty) p
        → Contains (atoms_at basis p) (atom_in basis standing.entity p)
        × LiesIn (basis.constants (prop p)) (atom_in basis standing.entity p).atom (value_of (model_of basis) standing.entity p)
    atoms_hold p has =
        let among = (filter_contains (λ (q : PropId). basis.tested (prop q)) (props_of (model_of basis) standing.entity.ty) p has).0 in
        let declared = prop_there basis is standing.entity.ty p among in
        let told = atom_one basis is p declared.0 declared.1 (value_of (model_of basis) standing.entity p) (allowed p declared.0 among declared.1) in
        let as_told : Atom → AtomOf = λ a. record { prop = p; atom = a } in
        let same = atom_is standing.entity p declared.0 declared.1 in
        let Among : Option Prop → Type 0 = λ found. Contains (option_map_or (λ one. map as_told (atoms_of basis.fits one (basis.constants (prop p)))) found [])
        (atom_in basis standing.entity p) in
        let Lies : Atom → Type 0 = λ a. LiesIn (basis.constants (prop p)) a (value_of (model_of basis) standing.entity p) in (
          subst Among (sym declared.1) (subst (λ a. Contains (map as_told (atoms_of basis.fits declared.0 (basis.constants (prop p)))) (as_told a)) (sym same)
              (contains_map as_told (atoms_of basis.fits declared.0 (basis.constants (prop p))) (atom_of declared.0 (basis.constants (prop p)) (value_of
              (model_of basis) standing.entity p)) told.0)),
          subst Lies (sym same) told.1,
        )

    module _ (links : List Hosted) (hosted : AreHostedLinks basis standing.state standing.s standing.entity links) where
      flag_there : (host : Host) → Contains (basis.hosts standing.s) host → Contains (flags_at basis standing.entity.ty host) (flag_in basis standing.entity.ty links host)
      flag_there host hosts = by (slice_get (model_of basis).assocs host.assoc.index) refl
        where
          by : (found : Option Assoc) → slice_get (model_of basis).assocs host.assoc.index ≡ found
              → Contains (option_map_or (λ assoc. map (flagged host.assoc)
              (flag_values (basis.is_a standing.entity.ty (host_end host.first_hosts assoc).ty) (partner_end host.first_hosts assoc).mult)) found ([] ∷ []))
              (option_map_or (λ assoc. flagged host.assoc (flag_by (basis.is_a standing.entity.ty (host_end host.first_hosts assoc).ty) (partner_end host.first_hosts assoc).mult
              (has_link links host.assoc))) found [])
          by None here = head_stands [] []
          by (Some assoc) here =
              let may : Bool = basis.is_a standing.entity.ty (host_end host.first_hosts assoc).ty in
              let mult : Mult = (partner_end host.first_hosts assoc).mult in
              let decides = is.types.tells standing.entity.ty (host_end host.first_hosts assoc).ty in
              let linked : Bool = has_link links host.assoc in
              contains_map (flagged host.assoc) (flag_values may mult) (flag_by may mult linked) (bit_there may mult linked
              (λ barred few. false_from_ne_true linked (λ told.
              let found = link_of basis is standing.s host hosts assoc here standing.state standing.legal set is_set standing.entity standing.stands links hosted
              ((Decides-link links host.assoc).0 told) in
              let under = covered basis is standing.s host hosts assoc here standing.state standing.legal set is_set standing.entity standing.stands
              found.0 found.1 found.2 in
              true≢false (sym (decides.1 under) ∙ barred)))
              (λ allows one.
              let found = there basis is standing.s host hosts assoc here standing.state standing.legal set is_set standing.entity standing.stands (decides.0 allows) one in
              (Decides-link links host.assoc).1 (link_among basis is standing.s host hosts assoc here standing.state standing.legal set is_set standing.entity standing.stands
              links hosted found.0 found.1 found.2)))

      -- the region of an entity is listed
      pub region_among : Contains (regions_of basis standing.s) (region_at basis standing.s standing.entity links)
      region_among =
          let atoms : List AtomOf = map (atom_in basis standing.entity) (tested_props basis standing.entity.ty) in
          let flags : List (List AssocId) = map (flag_in basis standing.entity.ty links) (basis.hosts standing.s) in
          let unjoined = sym (joined_map (flag_in basis standing.entity.ty links) (basis.hosts standing.s)) in
          listed basis standing.s (region_at basis standing.s standing.entity links) (record {
            set = set;
            ty = standing.entity.ty;
            atoms = atoms;
            flags = flags;
            is_set = is_set;
            is_type = type_among;
            are_atoms = choice_by (atoms_at basis) (atom_in basis standing.entity) (tested_props basis standing.entity.ty)
                (all_from_members (λ p. Contains (atoms_at basis p) (atom_in basis standing.entity p)) (tested_props basis standing.entity.ty) (λ p has. (atoms_hold p has).0));
            are_flags = choice_by (flags_at basis standing.entity.ty) (flag_in basis standing.entity.ty links) (basis.hosts standing.s)
                (all_from_members (λ host. Contains (flags_at basis standing.entity.ty host) (flag_in basis standing.entity.ty links host)) (basis.hosts standing.s) flag_there);
            is = λ k. record { set = standing.s; ty = standing.entity.ty; atoms = atoms; linked = unjoined k };
          })

      linked_told : (host : Host) → Contains (basis.hosts standing.s) host → TellsLinks basis (region_at basis standing.s standing.entity links) links host
      linked_told host hosts assoc here few =
          let mult : Mult = (partner_end host.first_hosts assoc).mult in
          let linked : Bool = has_link links host.assoc in
          let flag : flag_in basis standing.entity.ty links host ≡ flagged host.assoc linked =
          ap (λ found. option_map_or (λ one. flagged host.assoc (flag_by (basis.is_a standing.entity.ty (host_end host.first_hosts one).ty)
          (partner_end host.first_hosts one).mult linked)) found []) here
          ∙ ap (flagged host.assoc) (flag_is (basis.is_a standing.entity.ty (host_end host.first_hosts assoc).ty) mult linked few) in (
            (λ has.
                let found = member_of_flat_map (flag_in basis standing.entity.ty links) (basis.hosts standing.s) host.assoc has in
                let same : found.0 ≡ host = one_host (basis.hosts standing.s) (is.order standing.s) found.0 host found.1 hosts (named found.0 found.2) in
                (Decides-link links host.assoc).0 ((Decides-flagged host.assoc linked).1
                (subst (λ xs. Contains xs host.assoc) flag (subst (λ one. Contains (flag_in basis standing.entity.ty links one) host.assoc) same found.2)))),
            (λ any. contains_flat_map (flag_in basis standing.entity.ty links) (basis.hosts standing.s) host host.assoc hosts
                (subst (λ xs. Contains xs host.assoc) (sym flag) ((Decides-flagged host.assoc linked).0 ((Decides-link links host.assoc).1 any)))),
          )
        where
          named : (other : Host) → Contains (flag_in basis standing.entity.ty links other) host.assoc → other.assoc ≡ host.assoc
          named other = go (slice_get (model_of basis).assocs other.assoc.index)
            where
              go : (found : Option Assoc) → Contains (option_map_or (λ one. flagged other.assoc (flag_by (basis.is_a standing.entity.ty (host_end other.first_hosts one).ty)
                  (partner_end other.first_hosts one).mult (has_link links other.assoc))) found []) host.assoc → other.assoc ≡ host.assoc
              go None has = absurd (none_in_nil host.assoc has)
              go (Some one) has = sym (flagged_only other.assoc (flag_by (basis.is_a standing.entity.ty (host_end other.first_hosts one).ty)
                  (partner_end other.first_hosts one).mult (has_link links other.assoc)) host.assoc has)

      -- and holds it
      pub region_holds : Holds basis (region_at basis standing.s standing.entity links) standing.entity links
      region_holds =
          let Lies : AtomOf → Type 0 = λ told. LiesIn (basis.constants (prop told.prop)) told.atom (value_of (model_of basis) standing.entity told.prop) in
          record {
            typed = refl;
            atoms = All-map Lies (atom_in basis standing.entity) (tested_props basis standing.entity.ty)
                (all_from_members (λ p. Lies (atom_in basis standing.entity p)) (tested_props basis standing.entity.ty) (λ p has. (atoms_hold p has).1));
            flags = all_from_members (TellsLinks basis (region_at basis standing.s standing.entity links) links) (basis.hosts standing.s) linked_told;
          }

      pub region_held : Contains (regions_of basis standing.s) (region_at basis standing.s standing.entity links)
          × Holds basis (region_at basis standing.s standing.entity links) standing.entity links
      region_held = (region_among, region_holds)

  -- where the partners are few, a flag tells of the links of the state
  module _ (held : HeldEntity basis) (at : HostedAssoc basis held.s) (few : (partner_end at.host.first_hosts at.assoc).mult ≢ Many) where
    abbrev found_set : (one : EntitySet) × At (model_of basis).sets held.s.index one
    found_set = set_of_entity basis held.state held.legal held.s held.entity held.of_region.stands

    told : Contains held.region.linked at.host.assoc ↔ Any (λ (one : Hosted). one.assoc ≡ at.host.assoc) held.of_region.links
    told =
        let of_set : held.region.set ≡ held.s = ap (λ (r : Region). r.set) (is_listed basis held.s held.region held.of_region.listed).is in
        All-contains (TellsLinks basis held.region held.of_region.links) (basis.hosts held.region.set) at.host held.of_region.holds.flags
        (subst (λ one. Contains (basis.hosts one) at.host) (sym of_set) at.hosts) at.assoc at.is_assoc few

    pub flag_one : Contains held.region.linked at.host.assoc → (link : Link) × (links_at held.state at.host (key_of (model_of basis) held.entity) ≡ link ∷ [])
    flag_one has =
        let of = held.of_region in
        let found = link_of basis is held.s at.host at.hosts at.assoc at.is_assoc held.state held.legal found_set.0 found_set.1 held.entity of.stands of.links of.hosted (told.0 has) in
        (found.0, one_link basis is held.s at.host at.hosts at.assoc at.is_assoc held.state held.legal found_set.0 found_set.1 held.entity of.stands few found.0 found.1 found.2)

    pub flag_none : ¬ Contains held.region.linked at.host.assoc → links_at held.state at.host (key_of (model_of basis) held.entity) ≡ []
    flag_none not_has =
        let of = held.of_region in
        no_link basis is held.s at.host at.hosts at.assoc at.is_assoc held.state held.legal found_set.0 found_set.1 held.entity of.stands (λ link has at_key.
        not_has (told.1 (link_among basis is held.s at.host at.hosts at.assoc at.is_assoc held.state held.legal found_set.0 found_set.1 held.entity of.stands of.links of.hosted
        link has at_key)))
