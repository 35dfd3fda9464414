-- In a state that holds an entity of allowed values, the region holds it with its partners, and it hosts few links.
use Rattle.std.proofs.Common.{◌≡◌, ⊎_elim, List, [], map, Any, Contains, refl, sym, ap, subst, ◌∙◌}
use Rattle.emc_base.proofs.Lists.{all_from_members, only_member}
use Rattle.emc_base.proofs.Mapped.{contains_map}
use Rattle.emc_base.proofs.Numbered.{map_contains}
use Rattle.round_trip.specs.Words.{AssocId, Entity, Hosted, Link, State, entities_in, key_of}
use Rattle.schema_laws.proofs.state_demand.writings.Decisions.{so_or_not}
use Rattle.schema_laws.proofs.state_demand.lists.Lists.{any_of, none_in_nil, of_any}
use Rattle.regions.specs.declared.region.Region.{Region}
use Rattle.regions.specs.Basis.{Basis}
use Rattle.regions.specs.Regions.{Holds, TellsLinks}
use Rattle.regions.specs.Symbols.{is_linked}
use Rattle.regions.specs.region_laws.IsBasis.{IsBasis}
use Rattle.regions.specs.region_laws.Partners.{HasPartners}
use Rattle.regions.specs.region_laws.RegionAt.{links_at}
use Rattle.regions.proofs.region_laws.listing.Listed.{set_is}
use Rattle.regions.specs.region_laws.pattern.Allowed.{IsAllowed, RegionValues}
use Rattle.regions.specs.region_laws.Held.{IsHeldAt}
use Rattle.regions.proofs.region_laws.pattern.symbols.Origins.{linked_decided}
use Rattle.region_states.specs.conflicts.There.{HasFewLinks}
use Rattle.region_states.specs.Entities.{focus_entity}
use Rattle.region_states.specs.HoldsFocus.{HoldsFocus}
use Rattle.region_states.proofs.Entities.{atoms_lie}

-- a link of each association of the region of which one is there
abbrev pub flag_link : AssocId → Hosted
flag_link a = record { assoc = a; partner = [] }

abbrev pub flag_links : Region → List Hosted
flag_links region = map flag_link region.linked

-- a flag is told by these links
flag_told : (region : Region) (a : AssocId) → Any (λ hosted. hosted.assoc ≡ a) (flag_links region) → Contains region.linked a
flag_told region a any =
    let found = of_any (λ (hosted : Hosted). hosted.assoc ≡ a) (flag_links region) any in
    let made = map_contains flag_link region.linked found.0 found.1 in
    subst (Contains region.linked) (ap (λ (hosted : Hosted). hosted.assoc) made.2 ∙ found.2) made.1

flag_linked : (region : Region) (a : AssocId) → Contains region.linked a → Any (λ hosted. hosted.assoc ≡ a) (flag_links region)
flag_linked region a linked =
    any_of (λ (hosted : Hosted). hosted.assoc ≡ a) (flag_links region) (flag_link a) (contains_map flag_link region.linked a linked) refl

module _ (basis : Basis) (is : IsBasis basis) (at : RegionValues basis) where
  abbrev entity : Entity
  entity = focus_entity basis at.region at.values

  -- the region holds an entity of allowed values, where the links are those that its flags tell
  pub flags_held : IsAllowed basis at.region at.values → Holds basis at.region entity (flag_links at.region)
  flags_held allowed = record {
    typed = refl;
    atoms = atoms_lie basis is at allowed;
    flags = all_from_members (TellsLinks basis at.region (flag_links at.region)) (basis.hosts at.region.set)
        (λ host hosts assoc here few. (flag_linked at.region host.assoc, flag_told at.region host.assoc));
  }

  partners_here : (state : State) → HoldsFocus basis at.region at.values state → HasPartners basis state at.s entity at.region at.values.part
  partners_here state holds = subst (λ u. HasPartners basis state u entity at.region at.values.part) (set_is basis at.s at.region at.listed) holds.partners

  pub focus_held : IsAllowed basis at.region at.values → (state : State) → HoldsFocus basis at.region at.values state → IsHeldAt basis state at.s entity at.region at.values.part
  focus_held allowed state holds = record {
    stands = subst (λ u. Contains (entities_in state u) entity) (set_is basis at.s at.region at.listed) holds.stands;
    listed = at.listed;
    links = flag_links at.region;
    holds = flags_held allowed;
    partners = partners_here state holds;
  }

  -- of each association that is hosted there it has one link, or none
  pub few_links : (state : State) → HoldsFocus basis at.region at.values state → HasFewLinks basis state at.s entity
  few_links state holds host hosts one two has_one has_two =
      let partners : HasPartners basis state at.s entity at.region at.values.part = partners_here state holds in
      let links : List Link = links_at state host (key_of basis.schema.model entity) in
      ⊎_elim
      (λ (linked : Contains at.region.linked host.assoc).
      let link = partners.one host hosts linked in
      only_member links link.0 one link.1 has_one ∙ sym (only_member links link.0 two link.1 has_two))
      (λ (not_linked : ¬ Contains at.region.linked host.assoc).
      absurd (none_in_nil one (subst (λ list. Contains list one) (partners.none host hosts not_linked) has_one)))
      (so_or_not (is_linked basis at.region.linked host.assoc) (linked_decided basis at.region.linked host.assoc))
