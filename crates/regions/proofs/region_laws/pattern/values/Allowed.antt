-- In a legal state the values of an entity and its partners' keys are allowed, and those of a link.
use Rattle.std.proofs.Common.{◌≡◌, ◌≢◌, ⊎_elim, inl, inr, ◌==◌, List, find, slice_get, Bool, true, false, not, IsTrue, Any, Contains, Option, Some, None, refl, sym, ap, subst, ◌∙◌}
use Rattle.std.specs.Option.{option_map_or}
use Rattle.std.proofs.lemmas.Bool.Decides.{Decides-eqb}
use Rattle.std.proofs.lemmas.List.Elements.{All-contains}
use Rattle.emc_base.specs.declared.value.Kind.TheVariants as kind
use Rattle.emc_base.proofs.Lists.{at_once}
use Rattle.emc_base.proofs.Mapped.{contains_at}
use Rattle.round_trip.specs.Words.{SetId, AssocId, PropId, EntitySet, Value, Null, Kind, Prop, Assoc, End, Entity, Hosted, Link, State, At, InDomain, HasAllowedNulls, HasEntityAt, HasProp, HasValuesInDomain, IsA, IsLegal, IsLink, entities_in, key_of, key_props, links_in, props_of, value_beside, value_of}
use Rattle.round_trip.specs.soundness.models.Constraints.{IsSoundAssoc, IsSoundEnd}
use Rattle.round_trip.specs.soundness.models.Inheritance.{IsKeyProp}
use Rattle.schema_laws.proofs.state_demand.lists.Lists.{of_any}
use Rattle.schema_laws.proofs.state_demand.owners.Owners.{beside_map}
use Rattle.schema_laws.proofs.sound_demand.Keys.{inherits_keys}
use Rattle.regions.specs.region_laws.IsBasis.{IsBasis}
use Rattle.regions.specs.declared.region.Region.{Region}
use Rattle.regions.specs.Atoms.{Allows}
use Rattle.regions.specs.Basis.{Basis, Host, IsHostedLink, partner_end, partner_key}
use Rattle.regions.specs.Patterns.{by_entity, by_link}
use Rattle.regions.specs.Regions.{Holds, TellsLinks}
use Rattle.regions.specs.region_laws.pattern.Allowed.{ArePartners, HasAllowedParts, HasFewPartners, IsAllowed, IsAllowedLink, end_at, partner_parts}
use Rattle.regions.proofs.region_laws.pattern.Choices.{found_passes, none_passes}
use Rattle.regions.proofs.region_laws.pattern.symbols.Hosting.{one_host}
use Rattle.regions.proofs.region_laws.pattern.types.Regions.{PartsOf, parts_of}
use Rattle.schema_laws.proofs.sound_types.Inherited.{key_among, key_prop}
use Rattle.regions.proofs.region_laws.pattern.Ends.{other_end}
use Rattle.regions.specs.region_laws.Held.{StandingLink, PartneredEntity, HeldEntity, IsOfRegion}

-- null is in no domain
pub no_null : (k : Kind) → InDomain Null k → ⊥
no_null kind.Boolean domain = domain
no_null kind.Byte domain = domain
no_null kind.Int16 domain = domain
no_null kind.Int32 domain = domain
no_null kind.Int64 domain = domain
no_null (kind.Text bound) domain = domain
no_null (kind.Binary bound) domain = domain
no_null (kind.Enum enumeration) domain = domain

pub domain_not_null : (value : Value) (k : Kind) → InDomain value k → value ≢ Null
domain_not_null value k domain null = let P : Value → Type 0 = λ v. InDomain v k in no_null k (subst P null domain)

module _ (basis : Basis) (is : IsBasis basis) (state : State) (legal : IsLegal basis.schema.model state) where
  -- each property of an entity allows its value
  entity_allows : (s : SetId) (set : EntitySet) → At basis.schema.model.sets s.index set → (entity : Entity) → Contains (entities_in state s) entity
      → (p : PropId) (declared : Prop) → Contains (props_of basis.schema.model entity.ty) p → At basis.schema.model.props p.index declared
      → Allows declared (value_of basis.schema.model entity p)
  entity_allows s set here entity stands p declared among is_declared =
      let has : HasProp basis.schema.model entity p declared = record { among = among; is_declared = is_declared } in
      let legal_set = legal.sets s set here in
      ⊎_elim
      (λ (null : value_of basis.schema.model entity p ≡ Null).
      inl (null, All-contains (HasAllowedNulls basis.schema.model) (entities_in state s) entity legal_set.nulls stands p declared has null))
      (λ (domain : InDomain (value_of basis.schema.model entity p) declared.kind). inr domain)
      (All-contains (HasValuesInDomain basis.schema.model) (entities_in state s) entity legal_set.domains stands p declared has)

  -- the value of a part of a key is in its domain
  key_domain : (s : SetId) (set : EntitySet) → At basis.schema.model.sets s.index set → (entity : Entity) → Contains (entities_in state s) entity → (p : PropId) (declared : Prop)
      → Contains (key_props basis.schema.model entity.ty) p → At basis.schema.model.props p.index declared → InDomain (value_of basis.schema.model entity p) declared.kind
  key_domain s set here entity stands p declared key is_declared =
      let is_key : IsKeyProp basis.schema.model p = key_prop basis.schema.model is.sound.model p entity.ty key in
      let same : is_key.declared ≡ declared = at_once basis.schema.model.props p.index is_key.declared declared is_key.is_declared is_declared in
      ⊎_elim
      (λ (null : (value_of basis.schema.model entity p ≡ Null) × IsTrue declared.nullable).
      let never : true ≡ false = sym null.1 ∙ sym (ap (λ (d : Prop). d.nullable) same) ∙ is_key.needed in cc)
      (λ (domain : InDomain (value_of basis.schema.model entity p) declared.kind). domain)
      (entity_allows s set here entity stands p declared (key_among basis.schema.model is.sound.model p entity.ty key) is_declared)

  -- and so is a part of the key of an entity at an end
  part_domain : (end : End) → IsSoundEnd basis.schema.model end → (key : List Value) → HasEntityAt basis.schema.model state end key
      → HasAllowedParts basis.schema.model end (λ p. value_beside p (key_props basis.schema.model end.ty) key)
  part_domain end sound key any p declared among is_declared =
      let Here : Entity → Type 0 = λ x. IsA basis.schema.model x.ty end.ty × (key_of basis.schema.model x ≡ key) in
      let found = of_any Here (entities_in state end.set) any in
      let x : Entity = found.0 in
      let keys : key_props basis.schema.model x.ty ≡ key_props basis.schema.model end.ty = (inherits_keys basis.schema.model is.sound.model).same x.ty end.ty found.2.0 in
      let among_x : Contains (key_props basis.schema.model x.ty) p = subst (λ props. Contains props p) (sym keys) among in
      let value_is : value_beside p (key_props basis.schema.model end.ty) key ≡ value_of basis.schema.model x p =
      ap (value_beside p (key_props basis.schema.model end.ty)) (sym found.2.1)
      ∙ ap (λ props. value_beside p props (key_of basis.schema.model x)) (sym keys)
      ∙ beside_map (value_of basis.schema.model x) (key_props basis.schema.model x.ty) p among_x in
      let P : Value → Type 0 = λ value. InDomain value declared.kind in
      subst P (sym value_is) (key_domain end.set sound.under.0 sound.under.1 x found.1 p declared among_x is_declared)

  assoc_sound : (a : AssocId) (assoc : Assoc) → At basis.schema.model.assocs a.index assoc → IsSoundAssoc basis.schema.model assoc
  assoc_sound a assoc here = All-contains (IsSoundAssoc basis.schema.model) basis.schema.model.assocs assoc is.sound.model.assocs
      (contains_at basis.schema.model.assocs a.index assoc here)

  -- the entities at the ends of a link
  ends_there : (a : AssocId) (assoc : Assoc) → At basis.schema.model.assocs a.index assoc → (link : Link) → Contains (links_in state a) link
      → HasEntityAt basis.schema.model state assoc.first link.first × HasEntityAt basis.schema.model state assoc.second link.second
  ends_there a assoc here link stands =
      let is_link : IsLink basis.schema.model assoc link = All-contains (IsLink basis.schema.model assoc) (links_in state a) link (legal.shape.links a assoc here) stands in
      let Ends : Link → Type 0 = λ one. HasEntityAt basis.schema.model state assoc.first one.first × HasEntityAt basis.schema.model state assoc.second one.second in
      All-contains Ends (links_in state a) link (legal.links a assoc here is_link.independent).ends stands

  the_link_allowed : (a : AssocId) (assoc : Assoc) → At basis.schema.model.assocs a.index assoc → (link : Link) → Contains (links_in state a) link → (first : Bool)
      → HasAllowedParts basis.schema.model (end_at first assoc) ((by_link basis.schema.model assoc link).part a first)
  the_link_allowed a assoc here link stands true = part_domain assoc.first (assoc_sound a assoc here).first link.first (ends_there a assoc here link stands).0
  the_link_allowed a assoc here link stands false = part_domain assoc.second (assoc_sound a assoc here).second link.second (ends_there a assoc here link stands).1

  -- a partner's key
  partner_allowed : (first_hosts : Bool) (a : AssocId) (assoc : Assoc) → At basis.schema.model.assocs a.index assoc → (link : Link) → Contains (links_in state a) link
      → HasAllowedParts basis.schema.model (partner_end first_hosts assoc)
      (λ p. value_beside p (key_props basis.schema.model (partner_end first_hosts assoc).ty) (partner_key first_hosts link))
  partner_allowed true a assoc here link stands = part_domain assoc.second (assoc_sound a assoc here).second link.second (ends_there a assoc here link stands).1
  partner_allowed false a assoc here link stands = part_domain assoc.first (assoc_sound a assoc here).first link.first (ends_there a assoc here link stands).0

-- the keys of a link, and the values of an entity with the keys of its partners
module _ (basis : Basis) (is : IsBasis basis) where
  pub link_allowed : (one : StandingLink basis) → IsAllowedLink basis one.a (by_link basis.schema.model one.assoc one.link)
  link_allowed one = record {
    parts = λ other at first. (let same : one.assoc ≡ other = at_once basis.schema.model.assocs one.a.index one.assoc other one.is_assoc at in
        let P : Assoc → Type 0 = λ assoc. HasAllowedParts basis.schema.model (end_at first assoc) ((by_link basis.schema.model one.assoc one.link).part one.a first) in
        subst P same (the_link_allowed basis is one.state one.legal one.a one.assoc one.is_assoc one.link one.stands first));
  }

  module _ (one : PartneredEntity basis) where
    abbrev held : HeldEntity basis
    held = one.held

    abbrev of : IsOfRegion basis held.state held.s held.entity held.region
    of = held.of_region

    abbrev parts : PartsOf basis held.s held.region
    parts = parts_of basis held.s held.region of.listed

    host_parts : (host : Host) (assoc : Assoc) → Contains (basis.hosts held.region.set) host → Contains held.region.linked host.assoc → At basis.schema.model.assocs host.assoc.index assoc
        → HasAllowedParts basis.schema.model (partner_end host.first_hosts assoc) (one.part host.assoc (not host.first_hosts))
    host_parts host assoc is_host linked here p declared among is_declared =
        let told = one.partners.tells host assoc is_host linked here in
        let seen : IsHostedLink held.state (basis.hosts held.s) (key_of basis.schema.model held.entity) told.0 = (of.hosted.tells told.0).0 told.1 in
        let same_set : Contains (basis.hosts held.s) host = subst (λ u. Contains (basis.hosts u) host) parts.of_set is_host in
        let of_assoc : seen.host.assoc ≡ host.assoc = sym (ap (λ (h : Hosted). h.assoc) seen.seen) ∙ told.2 in
        let same : seen.host ≡ host = one_host basis is held.s seen.host host seen.is_host same_set of_assoc in
        let Stands : Host → Type 0 = λ h. Contains (links_in held.state h.assoc) seen.link in
        let key : told.0.partner ≡ partner_key host.first_hosts seen.link =
        ap (λ (h : Hosted). h.partner) seen.seen ∙ ap (λ (h : Host). partner_key h.first_hosts seen.link) same in
        let allowed = partner_allowed basis is held.state held.legal host.first_hosts host.assoc assoc here seen.link (subst Stands same seen.stands) p declared among is_declared in
        let P : Value → Type 0 = λ value. InDomain value declared.kind in
        let Q : List Value → Type 0 = λ one. P (value_beside p (key_props basis.schema.model (partner_end host.first_hosts assoc).ty) one) in
        subst P (sym (told.3 p among)) (subst Q (sym key) allowed)

    pub region_allowed : IsAllowed basis held.region (by_entity basis.schema.model held.entity one.part)
    region_allowed = record {
      atoms = of.holds.atoms;
      props = λ p declared among is_declared. entity_allows basis is held.state held.legal held.s parts.set parts.is_set held.entity of.stands p declared
          (subst (λ t. Contains (props_of basis.schema.model t) p) (sym of.holds.typed) among) is_declared;
      parts = host_parts;
    }

-- a partner of each association of which a link is there, where none may have any number
module _ (basis : Basis) (region : Region) (entity : Entity) (links : List Hosted) (holds : Holds basis region entity links) (few : HasFewPartners basis region) where
  partner_there : (host : Host) (assoc : Assoc) → Contains (basis.hosts region.set) host → Contains region.linked host.assoc → At basis.schema.model.assocs host.assoc.index assoc
      → Any (λ hosted. hosted.assoc ≡ host.assoc) links
  partner_there host assoc is_host linked here =
      (All-contains (TellsLinks basis region links) (basis.hosts region.set) host holds.flags is_host assoc here (few host assoc is_host linked here)).0 linked

  pub partners_told : ArePartners basis region links (partner_parts basis.schema.model links)
  partners_told = record {
    tells = λ host assoc is_host linked here. by host assoc here (partner_there host assoc is_host linked here)
        (find (λ (hosted : Hosted). hosted.assoc.index == host.assoc.index) links) refl;
  }
    where
      value_told : (host : Host) (assoc : Assoc) → At basis.schema.model.assocs host.assoc.index assoc → (hosted : Hosted)
          → find (λ (one : Hosted). one.assoc.index == host.assoc.index) links ≡ Some hosted → (p : PropId)
          → partner_parts basis.schema.model links host.assoc (not host.first_hosts) p
          ≡ value_beside p (key_props basis.schema.model (partner_end host.first_hosts assoc).ty) hosted.partner
      value_told host assoc here hosted found p =
          let of_link : Option Assoc → Hosted → Value = λ at one.
          option_map_or (λ other. value_beside p (key_props basis.schema.model (end_at (not host.first_hosts) other).ty) one.partner) at Null in
          ap (λ one. option_map_or (of_link (slice_get basis.schema.model.assocs host.assoc.index)) one Null) found
          ∙ ap (λ at. of_link at hosted) here
          ∙ ap (λ (end : End). value_beside p (key_props basis.schema.model end.ty) hosted.partner) (other_end host.first_hosts assoc)

      by : (host : Host) (assoc : Assoc) → At basis.schema.model.assocs host.assoc.index assoc → Any (λ hosted. hosted.assoc ≡ host.assoc) links → (found : Option Hosted)
          → find (λ (hosted : Hosted). hosted.assoc.index == host.assoc.index) links ≡ found
          → (hosted : Hosted) × Contains links hosted × (hosted.assoc ≡ host.assoc)
          × ((p : PropId) → Contains (key_props basis.schema.model (partner_end host.first_hosts assoc).ty) p
          → partner_parts basis.schema.model links host.assoc (not host.first_hosts) p
          ≡ value_beside p (key_props basis.schema.model (partner_end host.first_hosts assoc).ty) hosted.partner)
      by host assoc here any None none =
          let there = of_any (λ (hosted : Hosted). hosted.assoc ≡ host.assoc) links any in
          absurd (none_passes (λ (hosted : Hosted). hosted.assoc.index == host.assoc.index) links there.0 none there.1
          ((Decides-eqb there.0.assoc.index host.assoc.index).1 (ap (λ (a : AssocId). a.index) there.2)))
      by host assoc here any (Some hosted) found =
          let passes = found_passes (λ (one : Hosted). one.assoc.index == host.assoc.index) links hosted found in
          let number = (Decides-eqb hosted.assoc.index host.assoc.index).0 passes.1 in
          let end : AssocId → Type 0 = λ a. hosted.assoc ≡ a in
          (hosted, passes.0, (let same : end host.assoc = λ k. record { index = number k } in same), λ p among. value_told host assoc here hosted found p)
