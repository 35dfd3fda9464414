-- The value that is shown for a property of the key is that of the entity that has this key; and the roots of the state in which it stands.
use Rattle.std.proofs.Common.{◌≡◌, ◌==◌, ⊎_elim, ℕ, ◌<◌, List, [], ◌∷◌, ◌++◌, find, flat_map, Contains, not, Some, sym, ap, subst, ◌∙◌}
use Rattle.std.specs.Option.{option_map_or}
use Rattle.std.proofs.lemmas.Bool.{cond_both}
use Rattle.std.proofs.lemmas.Bool.Decides.{not_from_Decides}
use Rattle.std.proofs.lemmas.List.Elements.{Contains-append_right}
use Rattle.emc_base.proofs.FoundItems.{contains_flat_map}
use Rattle.emc_base.proofs.Members.{contains_cons_cases, contains_head, contains_nil, contains_tail}
use Rattle.round_trip.specs.Words.{Assoc, End, Entity, ForeignKey, Kind, Null, Pair, PropId, Value, key_of, value_of}
use Rattle.schema_laws.specs.short_values.Fresh.{fresh, most_indices}
use Rattle.schema_laws.specs.state_demand.Owners.{props_in}
use Rattle.schema_laws.proofs.state_demand.lists.Ids.{Decides-prop}
use Rattle.regions.specs.Basis.{Basis, Host}
use Rattle.regions.specs.Patterns.{Valuation, value_under}
use Rattle.regions.specs.Regions.{regions_of}
use Rattle.regions.specs.Settled.{free}
use Rattle.regions.specs.declared.pattern.Focus.{Focus}
use Rattle.regions.specs.declared.pattern.Symbol.{Symbol}
use Rattle.regions.specs.declared.region.Region.{Region}
use Rattle.regions.specs.region_laws.IsBasis.{IsBasis}
use Rattle.region_states.specs.Entities.{focus_entity}
use Rattle.population.specs.Numbered.{end_of}
use Rattle.population.specs.declared.placed.PlacedKey.{PlacedKey}
use Rattle.host_states.specs.FocusStates.{by_assoc, linked_hosts, told_key}
use Rattle.host_states.proofs.focus.HostEnds.{IsLinkedHost, is_linked_host, partner_side, to_assoc}
use Rattle.dangling_keys.specs.DanglingStates.{held_value, partner_root, principal_roots, principal_values}
use Rattle.dangling_keys.specs.Flow.{IsFlow}
use Rattle.dangling_keys.specs.Outer.{IsOuter, IsPartOrOuter}
use Rattle.dangling_keys.specs.Showing.{shown_at}
use Rattle.dangling_keys.proofs.referring.NoRow.{HasShownKey}

-- the first pair of a property tells its value
module _ (held : Pair → Value) (p : PropId) (value : Value) where
  first_tells : (pairs : List Pair) → ((pair : Pair) → Contains pairs pair → pair.prop ≡ p → held pair ≡ value) → Contains (props_in pairs) p
      → option_map_or held (find (λ pair. pair.prop.index == p.index) pairs) Null ≡ value
  first_tells [] each there = absurd (contains_nil p there)
  first_tells (pair ∷ rest) each there = cond_both (pair.prop.index == p.index) (Some pair) (find (λ one. one.prop.index == p.index) rest) (λ found. option_map_or held found Null ≡ value)
      (λ told. each pair (contains_head pair rest) ((Decides-prop pair.prop p).0 told))
      (λ told. first_tells rest (λ one has. each one (contains_tail pair rest one has))
      (⊎_elim
      (λ (is : p ≡ pair.prop). absurd (not_from_Decides (pair.prop.index == p.index) (Decides-prop pair.prop p) told (sym is)))
      (λ (later : Contains (props_in rest) p). later)
      (contains_cons_cases pair.prop (props_in rest) p there)))

module _ (basis : Basis) (outer : ℕ) (of : Focus) (key : ForeignKey) (values made : Valuation) (alike : (one : Symbol) (i : ℕ) → IsFlow basis of one i → value_under made one ≡ value_under values one)
    (pairing : List Pair) (e : Entity) (keyed : HasShownKey basis of key values pairing e)
    (parts : (pair : Pair) → Contains pairing pair → IsPartOrOuter basis outer of values (shown_at basis of key pair.col))
    (numbered : (pair : Pair) → Contains pairing pair → (k : Kind) × (i : ℕ) × (i < most_indices) × (value_of basis.schema.model e pair.prop ≡ fresh k outer i)) where
  held_is : (pair : Pair) → Contains pairing pair → held_value made (shown_at basis of key pair.col) ≡ value_of basis.schema.model e pair.prop
  held_is pair has =
      let told = keyed pair has in
      let number = numbered pair has in
      let part : IsPartOrOuter basis outer of values (free told.0 told.1) = subst (IsPartOrOuter basis outer of values) told.2 (parts pair has) in
      ap (held_value made) told.2 ∙ ⊎_elim
      (λ (flow : (i : ℕ) × IsFlow basis of told.0 i). alike told.0 flow.0 flow.1 ∙ sym told.3)
      (λ (outside : IsOuter outer (value_under values told.0)). absurd (outside number.0 number.1 number.2 (sym told.3 ∙ number.3)))
      part

  pub shown_is : (p : PropId) → Contains (props_in pairing) p
      → option_map_or (λ pair. held_value made (shown_at basis of key pair.col)) (find (λ pair. pair.prop.index == p.index) pairing) Null ≡ value_of basis.schema.model e p
  shown_is p there = first_tells (λ pair. held_value made (shown_at basis of key pair.col)) p (value_of basis.schema.model e p) pairing
      (λ pair has is. held_is pair has ∙ ap (value_of basis.schema.model e) is) there

-- the roots hold the key of the entity of the region, and those of its partners
module _ (basis : Basis) (is : IsBasis basis) (of : Focus) (key : ForeignKey) (pairing : List Pair) (q : Region) (listed : Contains (regions_of basis q.set) q) (first : List PlacedKey) where
  abbrev values : Valuation
  values = principal_values basis of key pairing q

  pub own_root : Contains (first ++ principal_roots basis of key pairing q) (record { set = q.set; key = key_of basis.schema.model (focus_entity basis q values) })
  own_root = Contains-append_right first (principal_roots basis of key pairing q) _ (contains_head (record { set = q.set; key = key_of basis.schema.model (focus_entity basis q values) })
      (flat_map (by_assoc basis (partner_root basis of key pairing q)) (linked_hosts basis q)))

  pub partner_roots : (host : Host) (assoc : Assoc) → IsLinkedHost basis q.set q host assoc
      → Contains (first ++ principal_roots basis of key pairing q) (record { set = (end_of (not host.first_hosts) assoc).set; key = told_key basis values host assoc })
  partner_roots host assoc by =
      let root = partner_root basis of key pairing q in
      let same : root host assoc ≡ record { set = (end_of (not host.first_hosts) assoc).set; key = told_key basis values host assoc } =
      λ k. record { set = ap (λ (end : End). end.set) (partner_side host.first_hosts assoc) k; key = told_key basis values host assoc } in
      subst (Contains (first ++ principal_roots basis of key pairing q)) same
      (Contains-append_right first (principal_roots basis of key pairing q) (root host assoc)
      (contains_tail _ _ (root host assoc) (contains_flat_map (by_assoc basis root) (linked_hosts basis q) host (root host assoc)
      (is_linked_host basis is q.set q listed host by.hosts by.linked) (to_assoc basis root host assoc by.is_assoc))))
