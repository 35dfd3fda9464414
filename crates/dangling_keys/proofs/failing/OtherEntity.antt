-- A foreign key that dangles at an entity, where another entity has the key that is shown and may lack the row: the small state of both fails.
use Rattle.std.proofs.Common.{◌≡◌, ◌≢◌, ◌⊎◌, ⊎_elim, inl, inr, ℕ, ◌<◌, ◌≤◌, List, [], ◌∷◌, flat_map, map, Contains, Bool, true, not, refl, sym, ap, subst, ◌∙◌}
use Rattle.std.proofs.lemmas.List.Elements.{All-contains, Contains-append_left}
use Rattle.emc_base.proofs.FoundItems.{contains_flat_map}
use Rattle.emc_base.proofs.Lists.{at_once, only_member}
use Rattle.emc_base.proofs.Mapped.{contains_map}
use Rattle.emc_base.proofs.Members.{contains_head, contains_tail}
use Rattle.round_trip.specs.Words.{Assoc, AssocId, End, Entity, EntityModel, ForeignKey, IsA, IsLegal, Kind, Null, Pair, PropId, SetId, State, Value, At, entities_in, key_of, key_props, place_at, props_of, row_key, value_of}
use Rattle.round_trip.specs.declared.FailKind.TheVariants as kind
use Rattle.round_trip.specs.soundness.Lookups.{set_key}
use Rattle.round_trip.specs.soundness.models.Constraints.{IsSoundEnd}
use Rattle.schema_laws.specs.short_values.Fresh.{fresh, most_indices}
use Rattle.round_trip.specs.soundness.mappings.Joined.{IsDependent}
use Rattle.schema_laws.specs.short_values.Short.{IsShort}
use Rattle.schema_laws.specs.state_demand.Owners.{props_in}
use Rattle.cells.specs.Limits.{IsWithinLimits}
use Rattle.regions.specs.Basis.{Basis, Host, partner_end}
use Rattle.regions.specs.Patterns.{Valuation, pattern_of, value_under}
use Rattle.regions.specs.Regions.{regions_of}
use Rattle.regions.specs.declared.pattern.Focus.{Focus}
use Rattle.regions.specs.declared.pattern.Focus.TheVariants as focus
use Rattle.regions.specs.declared.pattern.Symbol.{Symbol}
use Rattle.regions.specs.declared.region.Region.{Region}
use Rattle.regions.specs.region_laws.Held.{LinkedEntity}
use Rattle.regions.specs.region_laws.IsBasis.{IsBasis, IsHostOf}
use Rattle.regions.specs.region_laws.pattern.Allowed.{IsAllowed}
use Rattle.regions.proofs.region_laws.entities.Hosting.{at_set}
use Rattle.regions.proofs.region_laws.listing.Listed.{set_is}
use Rattle.region_states.specs.Entities.{focus_entity}
use Rattle.region_states.specs.HoldsFocus.{HoldsFocus}
use Rattle.region_states.specs.conflicts.There.{NoneFailsBy}
use Rattle.region_states.specs.focus.Held.{HasRow}
use Rattle.region_states.proofs.Held.{focus_held}
use Rattle.population.specs.Given.{AreGiven, AreLinked, HasShortParts, IsNotNumbered}
use Rattle.population.specs.Support.{support}
use Rattle.population.specs.Numbered.{end_number, end_of, number_count, numbered_key}
use Rattle.population.specs.Principals.{principals}
use Rattle.population.specs.Supported.{end_key, given_in, links_of}
use Rattle.population.specs.declared.placed.Placed.{Placed}
use Rattle.population.specs.declared.placed.PlacedKey.{PlacedKey}
use Rattle.population.specs.declared.placed.PlacedLink.{PlacedLink}
use Rattle.population.proofs.plain.Numbered.{end_within, set_key_is}
use Rattle.population.proofs.plain.Plain.{first_is}
use Rattle.population.proofs.supporting.Ends.{from_given, link_from}
use Rattle.population.proofs.supporting.Links.{far_key, near_key}
use Rattle.host_states.specs.FocusStates.{by_assoc, focus, given_by, linked_hosts, links_by, partner_of, told_key, wanted_by}
use Rattle.host_states.specs.SmallStates.{key_of_placed}
use Rattle.host_states.proofs.focus.Focus as first
use Rattle.host_states.proofs.focus.Focus.{HasRegion, IsMade}
use Rattle.host_states.proofs.focus.FocusLinks.{IsGivenLink, given_link, given_well, link_there, links_well, own_is, side_cases}
use Rattle.host_states.proofs.focus.FocusLinks as links_first
use Rattle.host_states.proofs.small.Small.{focus_left}
use Rattle.host_states.proofs.focus.HostEnds.{IsLinkedHost, far_sound, host_side, is_linked_host, near_covers, near_set, partner_side, to_assoc}
use Rattle.forced_entities.specs.Forced.{IsForced, own_member}
use Rattle.forced_entities.specs.Held.{HasNoNull, HoldsForced}
use Rattle.forced_entities.specs.declared.member.Forced.{Forced}
use Rattle.forced_entities.proofs.Holds.{entity_forces, own_stands}
use Rattle.dangling_keys.specs.Dangling.{IsThere, OwnsTable}
use Rattle.dangling_keys.specs.DanglingStates.{IsEntityRow, IsSupportedWhole, both_roots, both_state, principal_roots, principal_values, shown_value}
use Rattle.dangling_keys.specs.Flow.{IsFlow}
use Rattle.dangling_keys.specs.FlowStates.{AreOpen}
use Rattle.dangling_keys.specs.LeftOut.{IsMember, IsNumberKey, IsRead}
use Rattle.dangling_keys.specs.OtherStates.{keeps, other_given, other_key, other_links, other_state, other_wanted, own_links}
use Rattle.dangling_keys.specs.Showing.{Fits, MayRefer, shown_at}
use Rattle.dangling_keys.specs.Outer.{IsPartOrOuter}
use Rattle.dangling_keys.proofs.failing.Actor.{HasFlagLinks, HasOwnLinks, actor_holds, actor_rooted, link_by}
use Rattle.dangling_keys.proofs.failing.ShownValues.{own_root, partner_roots, shown_is}
use Rattle.dangling_keys.proofs.referring.EntityParts as parts
use Rattle.dangling_keys.proofs.left_out.EntityRead as reading
use Rattle.dangling_keys.proofs.referring.ShownEntity as at_key
use Rattle.dangling_keys.proofs.left_out.FlowValues.{flow_admissible}
use Rattle.dangling_keys.proofs.referring.KeyNumbers.{same_side}
use Rattle.dangling_keys.proofs.left_out.LeftOut as left
use Rattle.dangling_keys.proofs.left_out.LeftOut.{symbol_held}
use Rattle.dangling_keys.proofs.referring.NoRow.{HasShownKey, none_found}
use Rattle.dangling_keys.proofs.failing.OtherState as other
use Rattle.dangling_keys.proofs.failing.OtherValues.{other_allowed, other_key_is, other_part, other_short, partner_numbered}
use Rattle.dangling_keys.proofs.referring.Shown.{FailsShown, entity_place, entity_shown, told_entity}
use Rattle.dangling_keys.proofs.referring.Target.{IsShown, shown_fails}

module _ (basis : Basis) (is : IsBasis basis) (limits : IsWithinLimits basis.schema) (none : NoneFailsBy basis.schema kind.Clash) (s : SetId) (region : Region) (listed : Contains (regions_of basis s) region)
    (key : ForeignKey) (is_key : Contains basis.schema.store.keys key) (may : MayRefer basis (focus.Entity region) key) (q : Region) (pairing : List Pair) (owns : OwnsTable basis key.to q.set pairing)
    (one : Forced) (is_there : IsThere basis (focus.Entity region) key one) (fits : Fits basis (focus.Entity region) key q.set pairing one)
    (not_own : ¬ Fits basis (focus.Entity region) key q.set pairing (own_member basis region)) (q_listed : Contains (regions_of basis q.set) q)
    (under : (other : Forced) → IsThere basis (focus.Entity region) key other → Fits basis (focus.Entity region) key q.set pairing other → IsA basis.schema.model q.ty other.ty)
    (no_row : ¬ HasRow (pattern_of basis (focus.Entity q)) key.to) where
  abbrev model : EntityModel
  model = basis.schema.model

  abbrev The : Focus
  The = focus.Entity region

  abbrev outer : ℕ
  outer = parts.outer basis is limits s region listed key is_key may

  row : outer ≤ 4
  row = parts.row basis is limits s region listed key is_key may

  abbrev not_null : List PropId
  not_null = parts.not_null basis is limits s region listed key is_key may

  abbrev x : LinkedEntity basis
  x = parts.linked basis is limits s region listed key is_key may

  abbrev values : Valuation
  values = parts.values basis is limits s region listed key is_key may

  abbrev usual : Valuation
  usual = parts.usual basis is limits s region listed key is_key may

  abbrev open_ : AreOpen basis region not_null
  open_ = parts.open_ basis is limits s region listed key is_key may

  abbrev of : HasRegion basis outer s region
  of = left.of basis is limits outer row s region listed not_null open_

  abbrev hosts : List Host
  hosts = linked_hosts basis region

  abbrev given : List Placed
  given = given_by basis outer hosts region usual

  abbrev wanted : List PlacedKey
  wanted = wanted_by basis outer given

  abbrev links : List PlacedLink
  links = links_by basis region usual hosts

  made : IsMade basis outer s region usual hosts wanted
  made = reading.made basis outer s region of not_null open_

  abbrev x_key : List Value
  x_key = key_of model x.entity

  valued : (it : Symbol) (i : ℕ) → IsFlow basis The it i → value_under values it ≢ Null → (k : Kind) × (value_under values it ≡ fresh k outer i)
  valued = parts.valued basis is limits s region listed key is_key may

  no_null : HasNoNull basis not_null x.entity
  no_null = left.entity_no_null basis is limits outer row s region listed not_null open_

  -- the entity that has the key that is shown in the state of the focus
  stands_for : (it : Forced) → IsThere basis The key it → HoldsForced basis x.state values it
  stands_for it (inl own) = subst (HoldsForced basis x.state values) (sym own) (own_stands basis is.sound.model x)
  stands_for it (inr forced) = entity_forces basis is.sound.model x not_null no_null it forced

  abbrev held : HoldsForced basis x.state values one
  held = stands_for one is_there

  abbrev e : Entity
  e = held.entity

  cell_parts : (pair : Pair) → Contains pairing pair → IsPartOrOuter basis outer The values (shown_at basis The key pair.col)
  cell_parts = parts.entity_parts basis is limits s region listed key is_key may pairing owns.owned.cols

  told_read : (u : SetId) (entity : Entity) → Contains (entities_in x.state u) entity
      → IsNumberKey basis outer u (key_of model entity) ⊎ IsRead basis outer The values (IsMember basis The not_null) u (key_of model entity)
  told_read = parts.told_read basis is limits s region listed key is_key may

  e_stands : Contains (entities_in x.state q.set) e
  e_stands = at_key.e_stands basis is limits outer row The not_null values x.state x.legal valued told_read key q.set pairing owns cell_parts one fits held

  e_shown : HasShownKey basis The key values pairing e
  e_shown = at_key.e_shown basis is limits outer row The not_null values x.state x.legal valued told_read key q.set pairing owns cell_parts one fits held

  numbered : (p : PropId) → Contains (set_key model q.set) p → (k : Kind) × (i : ℕ) × (i < most_indices) × (value_of model e p ≡ fresh k outer i)
  numbered = at_key.numbered basis is limits outer row The not_null values x.state x.legal valued told_read key q.set pairing owns cell_parts one fits held

  in_key : (pair : Pair) → Contains pairing pair → Contains (set_key model q.set) pair.prop
  in_key = at_key.in_key basis is limits outer row The not_null values x.state x.legal valued told_read key q.set pairing owns cell_parts one fits held

  read_fits : {IsOne : Forced → Type 0} (read : IsRead basis outer The values IsOne q.set (key_of model e)) → Fits basis The key q.set pairing read.one
  read_fits read = at_key.told_fits basis is limits outer row The not_null values x.state x.legal valued told_read key q.set pairing owns cell_parts one fits held read

  never_numbered : (number : ℕ) → number < number_count model → key_of model e ≢ numbered_key model outer q.set number
  never_numbered = at_key.e_not_numbered basis is limits outer row The not_null values x.state x.legal valued told_read key q.set pairing owns cell_parts one fits held

  -- the focus has another key
  abbrev Told_by : (Forced → Type 0) → (Forced → Type 0) → SetId → List Value → Type 0
  Told_by IsOne P u at = (read : IsRead basis outer The usual IsOne u at) × P read.one

  fits_told : (IsOne P : Forced → Type 0) (u : SetId) (at : List Value) → u ≡ q.set → at ≡ key_of model e → Told_by IsOne P u at → (it : Forced) × IsOne it × P it × Fits basis The key q.set pairing it
  fits_told IsOne P u at same_set same_at told =
      let here : Told_by IsOne P q.set (key_of model e) = subst (λ (v : SetId). Told_by IsOne P v (key_of model e)) same_set (subst (Told_by IsOne P u) same_at told) in
      let read = parts.as_read basis is limits s region listed key is_key may IsOne q.set (key_of model e) here.0 in
      (here.0.one, here.0.is_one, here.1, read_fits read)

  x_apart : s ≡ q.set → x_key ≢ key_of model e
  x_apart same_set same_at =
      let told = reading.own_told basis outer s region of not_null open_ in
      let found = fits_told (IsMember basis The not_null) (λ (it : Forced). it ≡ own_member basis region) s x_key same_set same_at told in
      not_own (subst (Fits basis The key q.set pairing) found.2 found.3)

  -- the entity of the other region
  q_of : HasRegion basis outer q.set q
  q_of = record { is = is; limits = limits; row = row; listed = q_listed }

  abbrev given_value : PropId → Value
  given_value = shown_value basis The key pairing

  -- a part of its key is what is shown
  given_is : (p : PropId) → Contains (set_key model q.set) p → given_value p ≡ value_of model e p
  given_is p part = shown_is basis outer The key values usual (λ it i flow. sym (symbol_held basis is limits outer row s region listed not_null open_ it i flow)) pairing e e_shown cell_parts
      (λ pair has. numbered pair.prop (in_key pair has)) p
      (All-contains (Contains (props_in pairing)) (key_props model owns.owned.set.element) p owns.owned.paired
      (subst (λ (props : List PropId). Contains props p) (set_key_is model is.sound.model q.set owns.owned.set owns.owned.is_set) part))

  abbrev q_values : Valuation
  q_values = principal_values basis The key pairing q

  abbrev p_entity : Entity
  p_entity = focus_entity basis q q_values

  p_key : other_key basis outer q q_values ≡ key_of model e
  p_key = other_key_is basis outer q.set q q_of x.state x.legal e e_stands numbered given_value given_is

  not_numbered : IsNotNumbered model outer q.set (other_key basis outer q q_values)
  not_numbered number below equal = never_numbered number below (sym p_key ∙ equal)

  -- the premises of the state in which it stands
  first_short : (placed : Placed) → Contains given placed → (to : PlacedKey) → Contains (principals model placed.set placed.entity) to → HasShortParts model to.set to.key
  first_short placed there to asked = first.principals_short basis outer s region of usual made.admissible hosts made.each made.order placed
      (first.given_cases basis outer s region of usual made.admissible hosts made.each made.order placed there) to asked

  linked_host : (host : Host) → Contains hosts host → (assoc : Assoc) → At model.assocs host.assoc.index assoc → IsLinkedHost basis s region host assoc
  linked_host host there assoc here = let told = made.each host there in record { hosts = told.0; linked = told.1; is_assoc = here }

  abbrev EndIsGiven : End → List Value → Type 0
  EndIsGiven end at = (it : Placed) × Contains given it × (it.set ≡ end.set) × IsA model it.entity.ty end.ty × (key_of model it.entity ≡ at)

  -- a given link, as one to a partner of the focus
  record IsLinkTo (placed : PlacedLink) (assoc : Assoc) : Type 0 where
    pub host : Host
    pub there : Contains hosts host
    pub by : IsLinkedHost basis s region host assoc
    pub of_assoc : host.assoc ≡ placed.assoc
    pub link_is : placed.link ≡ link_by basis region usual host assoc

  link_to_partner : (placed : PlacedLink) → Contains links placed → (assoc : Assoc) → At model.assocs placed.assoc.index assoc → IsLinkTo placed assoc
  link_to_partner placed has assoc here =
      let own : IsGivenLink basis outer s region usual hosts wanted made placed = given_link basis outer s region usual hosts wanted made placed has in
      let P : PlacedLink → Type 0 = λ it. At model.assocs it.assoc.index assoc in
      let same_assoc : own.assoc ≡ assoc = at_once model.assocs own.host.assoc.index own.assoc assoc own.here (subst P own.is here) in
      record {
        host = own.host;
        there = own.there;
        by = subst (IsLinkedHost basis s region own.host) same_assoc (linked_host own.host own.there own.assoc own.here);
        of_assoc = sym (ap (λ (it : PlacedLink). it.assoc) own.is);
        link_is = ap (λ (it : PlacedLink). it.link) own.is ∙ ap (link_by basis region usual own.host) same_assoc;
      }

  ends : (placed : PlacedLink) → Contains links placed → (assoc : Assoc) → At model.assocs placed.assoc.index assoc → (side : Bool) → EndIsGiven (end_of side assoc) (end_key side placed.link)
  ends placed has assoc here side =
      let own : IsLinkTo placed assoc = link_to_partner placed has assoc here in
      let near_first = own.host.first_hosts in
      let told = told_key basis usual own.host assoc in
      let partner : Placed = partner_of basis outer usual own.host assoc in
      let far : End = partner_end near_first assoc in
      let sound : IsSoundEnd model far = far_sound basis is s region listed own.host assoc own.by in
      let near_set_is : region.set ≡ (end_of near_first assoc).set = set_is basis s region listed ∙ sym (near_set basis is s region listed own.host assoc own.by) in
      let near_key_is : x_key ≡ end_key near_first placed.link = sym (ap (end_key near_first) own.link_is ∙ near_key near_first x_key told) in
      let near : EndIsGiven (end_of near_first assoc) (end_key near_first placed.link) =
      (focus basis region usual, contains_head (focus basis region usual) (flat_map (by_assoc basis (partner_of basis outer usual)) hosts), near_set_is, near_covers basis is s region listed own.host assoc own.by, near_key_is) in
      let listed_partner : Contains given partner = contains_tail (focus basis region usual) (flat_map (by_assoc basis (partner_of basis outer usual)) hosts) partner
      (contains_flat_map (by_assoc basis (partner_of basis outer usual)) hosts own.host partner own.there (to_assoc basis (partner_of basis outer usual) own.host assoc own.by.is_assoc)) in
      let far_key_is : key_of model partner.entity ≡ end_key (not near_first) placed.link =
      first.partner_has basis outer s region of usual made.admissible own.host assoc own.by ∙ sym (ap (end_key (not near_first)) own.link_is ∙ far_key near_first x_key told) in
      let far_end : EndIsGiven (end_of (not near_first) assoc) (end_key (not near_first) placed.link) =
      subst (λ (end : End). EndIsGiven end (end_key (not near_first) placed.link)) (partner_side near_first assoc)
      (partner, listed_partner, refl, (first_is model is.sound.model far.ty sound.concrete).1, far_key_is) in
      ⊎_elim
      (λ (is_near : side ≡ near_first). subst (λ (b : Bool). EndIsGiven (end_of b assoc) (end_key b placed.link)) (sym is_near) near)
      (λ (is_far : side ≡ not near_first). subst (λ (b : Bool). EndIsGiven (end_of b assoc) (end_key b placed.link)) (sym is_far) far_end)
      (side_cases side near_first)

  -- at an end with its key and set it fits
  replaced : (placed : PlacedLink) → Contains links placed → (assoc : Assoc) → At model.assocs placed.assoc.index assoc → (side : Bool) → (end_of side assoc).set ≡ q.set
      → end_key side placed.link ≡ other_key basis outer q q_values → IsA model q.ty (end_of side assoc).ty
  replaced placed has assoc here side at_set_ at_key =
      let own : IsLinkTo placed assoc = link_to_partner placed has assoc here in
      let near_first = own.host.first_hosts in
      let told = told_key basis usual own.host assoc in
      let EndSet : Bool → Type 0 = λ b. (end_of b assoc).set ≡ q.set in
      let EndKey : Bool → Type 0 = λ b. end_key b placed.link ≡ other_key basis outer q q_values in
      let Fits_end : Bool → Type 0 = λ b. IsA model q.ty (end_of b assoc).ty in
      ⊎_elim
      (λ (is_near : side ≡ near_first).
      absurd (x_apart (sym (near_set basis is s region listed own.host assoc own.by) ∙ subst EndSet is_near at_set_)
      (sym (ap (end_key near_first) own.link_is ∙ near_key near_first x_key told) ∙ subst EndKey is_near at_key ∙ p_key)))
      (λ (is_far : side ≡ not near_first).
      let far : End = partner_end near_first assoc in
      let far_set : far.set ≡ q.set = ap (λ (end : End). end.set) (partner_side near_first assoc) ∙ subst EndSet is_far at_set_ in
      let far_at : told ≡ key_of model e = sym (ap (end_key (not near_first)) own.link_is ∙ far_key near_first x_key told) ∙ subst EndKey is_far at_key ∙ p_key in
      let found = fits_told (IsForced basis The not_null) (λ (it : Forced). it.ty ≡ far.ty) far.set told far_set far_at (reading.partner_told basis outer s region of not_null open_ own.host assoc own.by) in
      let below : IsA model q.ty far.ty = subst (IsA model q.ty) found.2 (under found.0 (inr found.1) found.3) in
      subst Fits_end (sym is_far) (subst (λ (end : End). IsA model q.ty end.ty) (partner_side near_first assoc) below))
      (side_cases side near_first)

  -- no link of the focus is at its key, by an association that its set hosts
  apart_at : (placed : PlacedLink) → Contains links placed → (host : Host) → Contains (basis.hosts q.set) host → host.assoc ≡ placed.assoc
      → end_key host.first_hosts placed.link ≢ other_key basis outer q q_values
  apart_at placed has host hosted of_assoc at_key =
      let by : IsHostOf basis.schema q.set host = (is.hosts q.set host).0 hosted in
      let here : At model.assocs placed.assoc.index by.assoc = subst (λ (a : AssocId). At model.assocs a.index by.assoc) of_assoc by.is_assoc in
      let own : IsLinkTo placed by.assoc = link_to_partner placed has by.assoc here in
      let told = told_key basis usual own.host by.assoc in
      let same_first : host.first_hosts ≡ own.host.first_hosts = same_side basis is q.set s host own.host hosted own.by.hosts (of_assoc ∙ sym own.of_assoc) in
      let EndKey : Bool → Type 0 = λ b. end_key b placed.link ≡ other_key basis outer q q_values in
      let host_set : (end_of own.host.first_hosts by.assoc).set ≡ q.set =
      ap (λ (b : Bool). (end_of b by.assoc).set) (sym same_first) ∙ ap (λ (end : End). end.set) (sym (host_side host.first_hosts by.assoc)) ∙ by.at_set in
      x_apart (sym (near_set basis is s region listed own.host by.assoc own.by) ∙ host_set)
      (sym (ap (end_key own.host.first_hosts) own.link_is ∙ near_key own.host.first_hosts x_key told) ∙ subst EndKey same_first at_key ∙ p_key)

  q_allowed : IsAllowed basis q q_values
  q_allowed = other_allowed basis outer q.set q q_of x.state x.legal e e_stands numbered given_value given_is

  q_short : (p : PropId) → Contains (props_of model q.ty) p → IsDependent model p → q_values.prop p ≢ Null → IsShort (q_values.prop p)
  q_short = other_short basis outer q.set q q_of x.state x.legal e e_stands numbered given_value given_is

  far_numbered : (host : Host) (assoc : Assoc) → IsLinkedHost basis q.set q host assoc
      → told_key basis q_values host assoc ≡ numbered_key model outer (partner_end host.first_hosts assoc).set (end_number (not host.first_hosts) host.assoc)
  far_numbered = partner_numbered basis outer q.set q q_of x.state x.legal e e_stands numbered given_value given_is

  first_given : AreGiven model outer given
  first_given = given_well basis outer s region usual hosts wanted made

  abbrev first_keys : List PlacedKey
  first_keys = support model outer given wanted

  first_links : AreLinked model outer given first_keys links
  first_links = links_well basis outer s region usual hosts wanted made

  abbrev c : State
  c = other_state basis outer q q_values given links

  abbrev all_given : List Placed
  all_given = other_given basis outer q q_values given

  abbrev all_keys : List PlacedKey
  all_keys = support model outer all_given (other_wanted basis outer q q_values given)

  abbrev all_links : List PlacedLink
  all_links = other_links basis outer q q_values links

  q_holds : HoldsFocus basis q q_values c
  q_holds = other.other_holds basis outer q q_of q_values q_allowed q_short not_numbered far_numbered given first_given first_short links first_links.once first_links.few ends replaced apart_at

  -- the small part of the state
  abbrev roots : List PlacedKey
  roots = both_roots basis The key pairing q

  abbrev small : State
  small = both_state basis The key pairing q

  legal : (it : State) → Contains (c ∷ []) it → IsLegal model it
  legal it has = subst (IsLegal model) (sym (only_member (c ∷ []) c it refl has)) q_holds.legal

  q_small : HoldsFocus basis q q_values small
  q_small = focus_left basis is (c ∷ []) legal roots c (contains_head c []) q q_values
      (other.other_rooted basis outer q q_of q_values q_allowed q_short not_numbered far_numbered given first_given first_short links first_links.once first_links.few ends replaced apart_at roots
      (own_root basis is The key pairing q q_listed (map (key_of_placed basis outer) given)) (partner_roots basis is The key pairing q q_listed (map (key_of_placed basis outer) given)))
      q_holds

  abbrev p : LinkedEntity basis
  p = record {
    state = small;
    legal = q_small.legal;
    s = q.set;
    entity = p_entity;
    region = q;
    part = q_values.part;
    held = focus_held basis is (record { s = q.set; region = q; listed = q_listed; values = q_values }) q_allowed small q_small;
  }

  -- the focus stands there too
  x_first : Contains (given_in given s) x.entity
  x_first = links_first.focus_given basis outer s region usual hosts wanted made

  x_given : Contains (given_in all_given s) x.entity
  x_given = ⊎_elim
      (λ (kept : keeps basis outer q q_values (focus basis region usual) ≡ true).
      subst (λ (v : SetId). Contains (given_in all_given v) x.entity) (set_is basis s region listed)
      (from_given all_given (focus basis region usual) (other.kept_given basis outer q q_of q_values q_allowed q_short not_numbered far_numbered given first_given first_short (focus basis region usual)
      (contains_head (focus basis region usual) (flat_map (by_assoc basis (partner_of basis outer usual)) hosts)) kept)))
      (λ (taken : (region.set ≡ q.set) × (x_key ≡ other_key basis outer q q_values)).
      absurd (x_apart (sym (set_is basis s region listed) ∙ taken.0) (taken.1 ∙ p_key)))
      (other.kept_or_not basis outer q q_of q_values q_allowed q_short not_numbered far_numbered given first_given first_short (focus basis region usual))

  own_links_x : HasOwnLinks basis s region usual all_links
  own_links_x host hosted assoc here link has at = ⊎_elim
      (λ (old : Contains (links_of links host.assoc) link).
      let told = own_is basis outer s region usual hosts wanted made host hosted assoc here link old in
      ((made.each host told.0).1, told.1))
      (λ (new : Contains (links_of (own_links basis outer q q_values) host.assoc) link). absurd (never new))
      (other.link_cases basis outer q q_of q_values q_allowed q_short not_numbered far_numbered given first_given first_short links first_links.once first_links.few ends replaced apart_at host.assoc link has)
    where
      never : Contains (links_of (own_links basis outer q q_values) host.assoc) link → ⊥
      never new =
          let found = link_from (own_links basis outer q q_values) host.assoc link new in
          let own = other.own_link basis outer q q_of q_values q_allowed q_short not_numbered far_numbered given first_given first_short found.0 found.1 in
          let Of : PlacedLink → Type 0 = λ it. it.assoc ≡ host.assoc in
          let same_id : own.host.assoc ≡ host.assoc = subst Of own.is found.2 in
          let same_assoc : own.assoc ≡ assoc = at_once model.assocs host.assoc.index own.assoc assoc (subst (λ (b : AssocId). At model.assocs b.index own.assoc) same_id own.by.is_assoc) here in
          let by : IsLinkedHost basis q.set q own.host assoc = subst (IsLinkedHost basis q.set q own.host) same_assoc own.by in
          let link_is : link ≡ link_by basis q q_values own.host assoc = sym found.3 ∙ ap (λ (it : PlacedLink). it.link) own.is ∙ ap (link_by basis q q_values own.host) same_assoc in
          let its = own.host.first_hosts in
          let at_s : (end_of host.first_hosts assoc).set ≡ s = ap (λ (end : End). end.set) (sym (host_side host.first_hosts assoc)) ∙ at_set basis is s host hosted assoc here in
          let EndKey : Bool → Type 0 = λ b. end_key b link ≡ x_key in
          let EndSet : Bool → Type 0 = λ b. (end_of b assoc).set ≡ s in
          ⊎_elim
          (λ (same_side_ : host.first_hosts ≡ its).
          x_apart (sym (subst EndSet same_side_ at_s) ∙ near_set basis is q.set q q_listed own.host assoc by)
          (sym (subst EndKey same_side_ at) ∙ ap (end_key its) link_is ∙ near_key its (other_key basis outer q q_values) (told_key basis q_values own.host assoc) ∙ p_key))
          (λ (other_side : host.first_hosts ≡ not its).
          let number = end_number (not its) own.host.assoc in
          let here_own : At model.assocs own.host.assoc.index assoc = by.is_assoc in
          let told : end_key (not its) link ≡ numbered_key model outer (end_of (not its) assoc).set number = ap (end_key (not its)) link_is
          ∙ other.far_is basis outer q q_of q_values q_allowed q_short not_numbered far_numbered given first_given first_short own.host assoc by in
          first_given.not_numbered s x.entity x_first number (end_within model is.sound.model own.host.assoc assoc here_own (not its))
          (sym (subst EndKey other_side at) ∙ told ∙ ap (λ (v : SetId). numbered_key model outer v number) (subst EndSet other_side at_s)))
          (side_cases host.first_hosts its)

  flag_links_x : HasFlagLinks basis s region usual all_links
  flag_links_x host hosted linked assoc here =
      other.old_link basis outer q q_of q_values q_allowed q_short not_numbered far_numbered given first_given first_short links first_links.once first_links.few ends replaced apart_at host.assoc
      (link_by basis region usual host assoc) (link_there basis outer s region usual hosts wanted made host hosted assoc here (is_linked_host basis is s region listed host hosted linked))

  x_holds : HoldsFocus basis region usual c
  x_holds = actor_holds basis outer s region of usual all_given all_keys all_links
      (other.other_given_well basis outer q q_of q_values q_allowed q_short not_numbered far_numbered given first_given first_short)
      (other.other_keys_well basis outer q q_of q_values q_allowed q_short not_numbered far_numbered given first_given first_short)
      (other.other_linked basis outer q q_of q_values q_allowed q_short not_numbered far_numbered given first_given first_short links first_links.once first_links.few ends replaced apart_at)
      x_given own_links_x flag_links_x

  given_root : (placed : Placed) → Contains given placed → Contains roots (key_of_placed basis outer placed)
  given_root placed has = Contains-append_left (map (key_of_placed basis outer) given) (principal_roots basis The key pairing q) (key_of_placed basis outer placed)
      (contains_map (key_of_placed basis outer) given placed has)

  x_partner : (host : Host) (assoc : Assoc) → IsLinkedHost basis s region host assoc
      → Contains roots (record { set = (end_of (not host.first_hosts) assoc).set; key = told_key basis usual host assoc })
  x_partner host assoc by =
      let partner : Placed = partner_of basis outer usual host assoc in
      let there : Contains given partner = contains_tail (focus basis region usual) (flat_map (by_assoc basis (partner_of basis outer usual)) hosts) partner
      (contains_flat_map (by_assoc basis (partner_of basis outer usual)) hosts host partner (is_linked_host basis is s region listed host by.hosts by.linked)
      (to_assoc basis (partner_of basis outer usual) host assoc by.is_assoc)) in
      let same : key_of_placed basis outer partner ≡ record { set = (end_of (not host.first_hosts) assoc).set; key = told_key basis usual host assoc } =
      λ k. record {
        set = ap (λ (end : End). end.set) (partner_side host.first_hosts assoc) k;
        key = first.partner_has basis outer s region of usual made.admissible host assoc by k;
      } in
      subst (Contains roots) same (given_root partner there)

  x_small : HoldsFocus basis region usual small
  x_small = focus_left basis is (c ∷ []) legal roots c (contains_head c []) region usual
      (actor_rooted basis outer s region of usual all_given all_keys all_links
      (other.other_given_well basis outer q q_of q_values q_allowed q_short not_numbered far_numbered given first_given first_short)
      (other.other_keys_well basis outer q q_of q_values q_allowed q_short not_numbered far_numbered given first_given first_short)
      (other.other_linked basis outer q q_of q_values q_allowed q_short not_numbered far_numbered given first_given first_short links first_links.once first_links.few ends replaced apart_at)
      x_given own_links_x flag_links_x roots
      (given_root (focus basis region usual) (contains_head (focus basis region usual) (flat_map (by_assoc basis (partner_of basis outer usual)) hosts))) x_partner)
      x_holds

  abbrev x_new : LinkedEntity basis
  x_new = record {
    state = small;
    legal = x_small.legal;
    s = s;
    entity = x.entity;
    region = region;
    part = usual.part;
    held = focus_held basis is (record { s = s; region = region; listed = listed; values = usual }) (flow_admissible basis outer s region of not_null open_).allowed small x_small;
  }

  shown : IsShown basis (told_entity basis is x_new) key small
  shown = entity_shown basis is none key is_key x_new may no_null

  p_shown : HasShownKey basis The key values pairing p_entity
  p_shown pair has =
      let told = e_shown pair has in
      (told.0, told.1, told.2, other_part basis outer q.set q q_of x.state x.legal e e_stands numbered given_value given_is pair.prop (in_key pair has) ∙ told.3)

  pub other_fails : FailsShown basis The key small
  unfolding shown
  other_fails = record {
    place = place_at shown.table.name (row_key shown.table shown.row) key.name;
    at = shown_fails basis is (told_entity basis is x_new) key small shown (λ target at alike.
        none_found basis is (told_entity basis is x_new) key small shown q.set pairing owns p refl refl p_shown no_row target at alike);
    only = λ it named. entity_place basis is none key is_key x_new may no_null it (subst (λ u. IsEntityRow basis key.from key.name u x.entity it) (set_is basis s region listed) named);
  }

  pub other_supported : IsSupportedWhole basis The key pairing q
  other_supported = record {
    legal = q_holds.legal;
    short = other.other_short_wanted basis outer q q_of q_values q_allowed q_short not_numbered far_numbered given first_given first_short;
  }
