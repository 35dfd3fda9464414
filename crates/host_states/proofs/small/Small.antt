-- Small parts of states with an entity of a region: they hold it with its partners, and are alike where the states are.
use Rattle.std.proofs.Common.{◌≡◌, ◌↔◌, List, [], ◌∷◌, filter, slice_get, Contains, Bool, true, false, Some, refl, sym, ap, subst, ◌∙◌}
use Rattle.emc_base.proofs.Joined.{filter-drops, filter-keeps}
use Rattle.emc_base.proofs.Members.{contains_head}
use Rattle.emc_base.proofs.Numbered.{filter_contains}
use Rattle.round_trip.specs.Words.{SetId, TableId, Value, Assoc, Entity, EntityModel, Link, LinkFragment, State, At, IsLegal, entities_in, key_of, links_in}
use Rattle.schema_laws.specs.state_demand.Owners.{IsJoinedTo}
use Rattle.schema_laws.specs.state_demand.Selecting.{same_key}
use Rattle.regions.specs.declared.region.Region.{Region}
use Rattle.regions.specs.Basis.{Basis, Host, host_key}
use Rattle.regions.specs.Patterns.{Valuation}
use Rattle.regions.specs.region_laws.IsBasis.{IsBasis, IsHostOf}
use Rattle.regions.specs.region_laws.Partners.{HasPartners}
use Rattle.regions.specs.region_laws.RegionAt.{links_at}
use Rattle.region_states.specs.Entities.{focus_entity}
use Rattle.host_states.specs.Hosting.{DifferAtMostAt, HoldRivals, LeavesFocusOut}
use Rattle.region_states.specs.HoldsFocus.{HoldsFocus}
use Rattle.population.specs.Kept.{HoldsNeeded, has_ends, is_needed, key_at_end, needed_keys, part_of}
use Rattle.population.specs.declared.placed.PlacedKey.{PlacedKey}
use Rattle.population.proofs.pruning.Kept.{links_kept_of}
use Rattle.population.proofs.pruning.Needed.{root_needed}
use Rattle.population.proofs.pruning.NeededParts.{are_alike, holds_needed, needed_parts}

-- the order of two tests doesn't matter
filter_swap : {X : Type 0} (p q : X → Bool) (xs : List X) → filter p (filter q xs) ≡ filter q (filter p xs)
filter_swap p q [] = refl
filter_swap {X} p q (x ∷ xs) = by (p x) refl (q x) refl (filter_swap p q xs)
  where
    by : (one : Bool) → p x ≡ one → (two : Bool) → q x ≡ two → filter p (filter q xs) ≡ filter q (filter p xs) → filter p (filter q (x ∷ xs)) ≡ filter q (filter p (x ∷ xs))
    by true first true second rest = ap (filter p) (filter-keeps q x xs second) ∙ filter-keeps p x (filter q xs) first ∙ ap (λ list. x ∷ list) rest
        ∙ sym (ap (filter q) (filter-keeps p x xs first) ∙ filter-keeps q x (filter p xs) second)
    by true first false second rest = ap (filter p) (filter-drops q x xs second) ∙ rest ∙ sym (ap (filter q) (filter-keeps p x xs first) ∙ filter-drops q x (filter p xs) second)
    by false first true second rest = ap (filter p) (filter-keeps q x xs second) ∙ filter-drops p x (filter q xs) first ∙ rest ∙ sym (ap (filter q) (filter-drops p x xs first))
    by false first false second rest = ap (filter p) (filter-drops q x xs second) ∙ rest ∙ sym (ap (filter q) (filter-drops p x xs first))

-- the roots of a part name the entity, and both ends of each link that it hosts
pub record IsRooted (basis : Basis) (roots : List PlacedKey) (state : State) (region : Region) (values : Valuation) : Type 0 where
  pub focus : Contains roots (record { set = region.set; key = key_of basis.schema.model (focus_entity basis region values) })
  pub ends : (host : Host) → Contains (basis.hosts region.set) host → Contains region.linked host.assoc → (assoc : Assoc) → At basis.schema.model.assocs host.assoc.index assoc
      → (link : Link) → links_at state host (key_of basis.schema.model (focus_entity basis region values)) ≡ link ∷ [] → (first : Bool) → Contains roots (key_at_end first assoc link)

module _ (basis : Basis) (is : IsBasis basis) (states : List State) (legal : (one : State) → Contains states one → IsLegal basis.schema.model one) (roots : List PlacedKey) where
  abbrev model : EntityModel
  model = basis.schema.model

  abbrev part : State → State
  part state = part_of model states roots state

  -- each of them is legal
  pub part_legal : (state : State) → Contains states state → IsLegal model (part state)
  part_legal state among = needed_parts model is.sound.model states legal roots state among

  module _ (state : State) (among : Contains states state) where
    held : HoldsNeeded model states roots state
    held = holds_needed model states roots state (legal state among)

    module _ (host : Host) (assoc : Assoc) (here : At model.assocs host.assoc.index assoc) (key : List Value) where
      abbrev kept : Link → Bool
      kept = has_ends model (is_needed model states roots) state assoc

      -- the links at an entity are those of the state that are kept
      links_left : links_at (part state) host key ≡ filter kept (links_at state host key)
      links_left =
          let test : Link → Bool = λ link. same_key (host_key host.first_hosts link) key in
          ap (filter test) (links_kept_of model (is_needed model states roots) state host.assoc assoc here) ∙ filter_swap test kept (links_in state host.assoc)

      none_left : links_at state host key ≡ [] → links_at (part state) host key ≡ []
      none_left none = links_left ∙ ap (filter kept) none

      one_left : (link : Link) → links_at state host key ≡ link ∷ [] → ((first : Bool) → Contains roots (key_at_end first assoc link)) → links_at (part state) host key ≡ link ∷ []
      one_left link one ends =
          let stands = filter_contains (λ (other : Link). same_key (host_key host.first_hosts other) key) (links_in state host.assoc) link
          (subst (λ list. Contains list link) (sym one) (contains_head link [])) in
          let left : Contains (links_in (part state) host.assoc) link =
          (held.links host.assoc assoc here link).1 (stands.0, λ first. root_needed model states roots (key_at_end first assoc link) (ends first)) in
          let passes = filter_contains kept (links_in state host.assoc) link
          (subst (λ list. Contains list link) (links_kept_of model (is_needed model states roots) state host.assoc assoc here) left) in
          links_left ∙ ap (filter kept) one ∙ filter-keeps kept link [] passes.1

    module _ (region : Region) (values : Valuation) (rooted : IsRooted basis roots state region values) (holds : HoldsFocus basis region values state) where
      abbrev entity : Entity
      entity = focus_entity basis region values

      host_of : (host : Host) → Contains (basis.hosts region.set) host → IsHostOf basis.schema region.set host
      host_of host hosted = (is.hosts region.set host).0 hosted

      partners_left : HasPartners basis (part state) region.set entity region values.part
      partners_left = record {
        one = λ host hosted linked. (
            let by : IsHostOf basis.schema region.set host = host_of host hosted in
            let told = holds.partners.one host hosted linked in
            (told.0, one_left host by.assoc by.is_assoc (key_of model entity) told.0 told.1 (rooted.ends host hosted linked by.assoc by.is_assoc told.0 told.1), told.2));
        none = λ host hosted not_linked. (
            let by : IsHostOf basis.schema region.set host = host_of host hosted in
            none_left host by.assoc by.is_assoc (key_of model entity) (holds.partners.none host hosted not_linked));
      }

      -- the part holds the entity with its partners
      pub focus_left : HoldsFocus basis region values (part state)
      focus_left = record {
        legal = part_legal state among;
        stands = (held.entities region.set entity).1 (holds.stands, root_needed model states roots _ rooted.focus);
        partners = partners_left;
      }

    -- what stands in it stands in the state
    pub left_of : (u : SetId) (x : Entity) → Contains (entities_in (part state) u) x → Contains (entities_in state u) x
    left_of u x has = ((held.entities u x).0 has).0

  -- two parts differ where the states do
  pub differ_left : (c d : State) → Contains states c → Contains states d → (s : SetId) (key : List Value) → DifferAtMostAt basis s key c d → DifferAtMostAt basis s key (part c) (part d)
  differ_left c d has_c has_d s key differ =
      let alike = are_alike model states roots c d (legal c has_c) (legal d has_d) in
      record {
        entities = λ u entity other. alike.entities u entity (differ.entities u entity other);
        hosted = λ u host hosted other beside link.
            alike.passing (λ one. same_key (host_key host.first_hosts one) other) host.assoc link (differ.hosted u host hosted other beside link);
        joined = λ t fragment assoc joined link. alike.links fragment.assoc link (differ.joined t fragment assoc joined link);
      }
