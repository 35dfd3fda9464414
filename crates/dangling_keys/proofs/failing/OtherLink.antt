-- A foreign key that dangles at a link, where an entity that may lack the row has the key that is shown: the small state of both fails.
use Rattle.std.proofs.Common.{◌≡◌, ◌≢◌, ◌⊎◌, ⊎_elim, inl, inr, ℕ, ◌<◌, ◌≤◌, List, [], ◌∷◌, ◌++◌, map, AllPairs, Contains, Bool, true, false, not, Option, refl, sym, ap, subst, ◌∙◌, arith}
use Rattle.std.specs.Option.{option_map_or}
use Rattle.std.proofs.lemmas.List.Elements.{All-contains, Contains-append_left}
use Rattle.emc_base.proofs.Lists.{at_once, only_member}
use Rattle.emc_base.proofs.Mapped.{contains_map}
use Rattle.emc_base.proofs.Members.{contains_cons_cases, contains_head, contains_nil, contains_tail}
use Rattle.emc_base.proofs.Numbered.{map_contains}
use Rattle.round_trip.specs.Words.{Assoc, AssocId, End, Entity, EntityModel, ForeignKey, IsA, IsLegal, Kind, Link, LinkFragment, Null, Pair, PropId, SetId, State, Value, At, entities_in, key_of, key_props, links_in, place_at, props_of, row_key, value_of}
use Rattle.edm_types.specs.declared.model.Mult.TheVariants.{Many}
use Rattle.round_trip.specs.declared.FailKind.TheVariants as kind
use Rattle.round_trip.specs.soundness.Lookups.{set_key}
use Rattle.round_trip.specs.soundness.mappings.Joined.{IsDependent}
use Rattle.round_trip.specs.soundness.models.Constraints.{IsSoundEnd}
use Rattle.schema_laws.specs.short_values.Fresh.{fresh, most_indices}
use Rattle.schema_laws.specs.short_values.Short.{IsShort}
use Rattle.schema_laws.specs.state_demand.Owners.{IsJoinedTo, props_in}
use Rattle.cells.specs.Limits.{IsWithinLimits}
use Rattle.regions.specs.Basis.{Basis, Host, partner_end}
use Rattle.regions.specs.Patterns.{Valuation, pattern_of, value_under}
use Rattle.regions.specs.Regions.{regions_of}
use Rattle.regions.specs.declared.pattern.Focus.{Focus}
use Rattle.regions.specs.declared.pattern.Focus.TheVariants as focus
use Rattle.regions.specs.declared.pattern.Symbol.{Symbol}
use Rattle.regions.specs.declared.region.Region.{Region}
use Rattle.regions.specs.region_laws.Held.{LinkedEntity, StandingLink}
use Rattle.regions.specs.region_laws.IsBasis.{IsBasis}
use Rattle.regions.specs.region_laws.pattern.Allowed.{IsAllowed}
use Rattle.region_states.specs.Entities.{focus_entity}
use Rattle.region_states.specs.HoldsFocus.{HoldsFocus}
use Rattle.region_states.specs.conflicts.There.{NoneFailsBy}
use Rattle.region_states.specs.focus.Held.{HasRow}
use Rattle.region_states.proofs.Held.{focus_held}
use Rattle.failure_laws.specs.SmallLinks.{both_ends}
use Rattle.failure_laws.proofs.links.LinkRows.{told_link}
use Rattle.population.specs.Given.{AreGiven, HasNumbers, HasShortParts, IsNotNumbered}
use Rattle.population.specs.LinkStates.{HoldsLink, PlainEnd, at_end, key_at, of_assoc, placed_at, plain_link}
use Rattle.population.specs.Kept.{key_at_end, part_of}
use Rattle.population.specs.Numbered.{end_number, end_of, number_count, numbered_key}
use Rattle.population.proofs.plain.Numbered.{set_key_is}
use Rattle.population.proofs.pruning.Needed.{root_needed}
use Rattle.population.proofs.pruning.NeededParts.{holds_needed}
use Rattle.population.specs.Principals.{principals}
use Rattle.population.specs.Support.{support}
use Rattle.population.specs.Supported.{added_at, end_key, links_of}
use Rattle.population.specs.declared.placed.Placed.{Placed}
use Rattle.population.specs.declared.placed.PlacedKey.{PlacedKey}
use Rattle.population.specs.declared.placed.PlacedLink.{PlacedLink}
use Rattle.population.proofs.supporting.Ends.{are_given, end_has_key, end_principals, end_typed, from_link, link_pairs}
use Rattle.population.proofs.supporting.Entities.{links_are}
use Rattle.population.proofs.supporting.Links.{linked_is}
use Rattle.host_states.specs.FocusStates.{told_key}
use Rattle.host_states.specs.SmallStates.{key_of_placed}
use Rattle.host_states.proofs.small.Small.{focus_left}
use Rattle.host_states.proofs.focus.Focus.{HasRegion}
use Rattle.host_states.proofs.focus.HostEnds.{IsLinkedHost}
use Rattle.forced_entities.specs.Forced.{IsForced}
use Rattle.forced_entities.specs.Held.{HoldsForced}
use Rattle.forced_entities.specs.declared.member.Forced.{Forced}
use Rattle.forced_entities.proofs.Holds.{link_forces}
use Rattle.dangling_keys.specs.Dangling.{IsThere, OwnsTable}
use Rattle.dangling_keys.specs.DanglingStates.{IsSupportedWhole, both_state, lone_given, lone_links, principal_roots, principal_values, shown_value, whole_state}
use Rattle.dangling_keys.specs.Flow.{IsFlow}
use Rattle.dangling_keys.specs.LeftOut.{IsMember, IsNumberKey, IsRead}
use Rattle.dangling_keys.specs.FlowStates.{values_of_focus}
use Rattle.dangling_keys.specs.OtherStates.{other_given, other_key, other_links, other_state, other_wanted}
use Rattle.dangling_keys.specs.Showing.{Fits, MayRefer, shown_at}
use Rattle.dangling_keys.specs.Outer.{IsPartOrOuter}
use Rattle.dangling_keys.proofs.referring.EntityParts.{shown_parts}
use Rattle.dangling_keys.proofs.referring.Joined.{hosts_none}
use Rattle.dangling_keys.proofs.failing.LinkFails as first
use Rattle.dangling_keys.proofs.left_out.LinkRead as reading
use Rattle.dangling_keys.proofs.referring.NoRow.{HasShownKey, none_found}
use Rattle.dangling_keys.proofs.failing.OtherState as other
use Rattle.dangling_keys.proofs.failing.ShownValues.{own_root, partner_roots, shown_is}
use Rattle.dangling_keys.proofs.failing.OtherValues.{other_allowed, other_key_is, other_part, other_short, partner_numbered}
use Rattle.dangling_keys.proofs.referring.Shown.{FailsShown, link_place, link_shown}
use Rattle.dangling_keys.proofs.referring.ShownEntity as at_key
use Rattle.dangling_keys.proofs.referring.Target.{IsShown, shown_fails}

module _ (basis : Basis) (is : IsBasis basis) (limits : IsWithinLimits basis.schema) (none : NoneFailsBy basis.schema kind.Clash) (fragment : LinkFragment) (assoc : Assoc) (key : ForeignKey)
    (is_key : Contains basis.schema.store.keys key) (joined : IsJoinedTo basis.schema key.from fragment assoc) (may : MayRefer basis (focus.Link fragment.assoc) key) (q : Region) (pairing : List Pair)
    (owns : OwnsTable basis key.to q.set pairing) (one : Forced) (is_there : IsThere basis (focus.Link fragment.assoc) key one) (fits : Fits basis (focus.Link fragment.assoc) key q.set pairing one)
    (q_listed : Contains (regions_of basis q.set) q)
    (under : (it : Forced) → IsThere basis (focus.Link fragment.assoc) key it → Fits basis (focus.Link fragment.assoc) key q.set pairing it → IsA basis.schema.model q.ty it.ty)
    (no_row : ¬ HasRow (pattern_of basis (focus.Entity q)) key.to) where
  abbrev model : EntityModel
  model = basis.schema.model

  abbrev The : Focus
  The = focus.Link fragment.assoc

  abbrev outer : ℕ
  outer = first.outer basis is limits none fragment assoc key is_key joined may

  row : outer ≤ 4
  row = first.row basis is limits none fragment assoc key is_key joined may

  abbrev not_null : List PropId
  not_null = first.not_null basis is limits none fragment assoc key is_key joined may

  abbrev has : HasNumbers model outer
  has = first.has basis is limits none fragment assoc key is_key joined may

  abbrev a : AssocId
  a = fragment.assoc

  abbrev here : At model.assocs fragment.assoc.index assoc
  here = joined.is_assoc

  abbrev first_state : State
  first_state = first.shown_state basis is limits none fragment assoc key is_key joined may

  first_held : HoldsLink model outer fragment.assoc assoc first_state
  first_held = first.held basis is limits none fragment assoc key is_key joined may

  abbrev link : Link
  link = first.link basis is limits none fragment assoc key is_key joined may

  abbrev values : Valuation
  values = first.values basis is limits none fragment assoc key is_key joined may

  valued : (it : Symbol) (i : ℕ) → IsFlow basis The it i → value_under values it ≢ Null → (k : Kind) × (value_under values it ≡ fresh k outer i)
  valued it i flow some = first.valued basis is limits none fragment assoc key is_key joined may it i flow

  abbrev standing : StandingLink basis
  standing = record { state = first_state; legal = first_held.legal; a = fragment.assoc; assoc = assoc; is_assoc = here; link = link; stands = first_held.linked }

  stands_for : (it : Forced) → IsThere basis The key it → HoldsForced basis first_state values it
  stands_for it (inl own) = absurd own
  stands_for it (inr forced) = link_forces basis is.sound.model standing not_null it forced

  abbrev held : HoldsForced basis first_state values one
  held = stands_for one is_there

  abbrev e : Entity
  e = held.entity

  cell_parts : (pair : Pair) → Contains pairing pair → IsPartOrOuter basis outer The values (shown_at basis The key pair.col)
  cell_parts = shown_parts basis is key is_key The values (first.cell_part basis is limits none fragment assoc key is_key joined may) pairing owns.owned.cols

  told_read : (u : SetId) (entity : Entity) → Contains (entities_in first_state u) entity
      → IsNumberKey basis outer u (key_of model entity) ⊎ IsRead basis outer The values (IsMember basis The not_null) u (key_of model entity)
  told_read = reading.own_read basis is outer has fragment.assoc assoc here not_null

  e_stands : Contains (entities_in first_state q.set) e
  e_stands = at_key.e_stands basis is limits outer row The not_null values first_state first_held.legal valued told_read key q.set pairing owns cell_parts one fits held

  e_shown : HasShownKey basis The key values pairing e
  e_shown = at_key.e_shown basis is limits outer row The not_null values first_state first_held.legal valued told_read key q.set pairing owns cell_parts one fits held

  numbered : (p : PropId) → Contains (set_key model q.set) p → (k : Kind) × (i : ℕ) × (i < most_indices) × (value_of model e p ≡ fresh k outer i)
  numbered = at_key.numbered basis is limits outer row The not_null values first_state first_held.legal valued told_read key q.set pairing owns cell_parts one fits held

  in_key : (pair : Pair) → Contains pairing pair → Contains (set_key model q.set) pair.prop
  in_key = at_key.in_key basis is limits outer row The not_null values first_state first_held.legal valued told_read key q.set pairing owns cell_parts one fits held

  read_fits : {IsOne : Forced → Type 0} (read : IsRead basis outer The values IsOne q.set (key_of model e)) → Fits basis The key q.set pairing read.one
  read_fits read = at_key.told_fits basis is limits outer row The not_null values first_state first_held.legal valued told_read key q.set pairing owns cell_parts one fits held read

  never_numbered : (number : ℕ) → number < number_count model → key_of model e ≢ numbered_key model outer q.set number
  never_numbered = at_key.e_not_numbered basis is limits outer row The not_null values first_state first_held.legal valued told_read key q.set pairing owns cell_parts one fits held

  -- the entity of the region
  q_of : HasRegion basis outer q.set q
  q_of = record { is = is; limits = limits; row = row; listed = q_listed }

  abbrev given_value : PropId → Value
  given_value = shown_value basis The key pairing

  values_are : values_of_focus basis outer The not_null ≡ values
  values_are = reading.link_values_are basis is outer has fragment.assoc assoc here not_null

  -- a part of its key is what is shown
  given_is : (p : PropId) → Contains (set_key model q.set) p → given_value p ≡ value_of model e p
  given_is p part = shown_is basis outer The key values (values_of_focus basis outer The not_null) (λ it i flow. ap (λ (made : Valuation). value_under made it) values_are) pairing e e_shown cell_parts
      (λ pair among. numbered pair.prop (in_key pair among)) p
      (All-contains (Contains (props_in pairing)) (key_props model owns.owned.set.element) p owns.owned.paired
      (subst (λ (props : List PropId). Contains props p) (set_key_is model is.sound.model q.set owns.owned.set owns.owned.is_set) part))

  abbrev q_values : Valuation
  q_values = principal_values basis The key pairing q

  abbrev p_entity : Entity
  p_entity = focus_entity basis q q_values

  p_key : other_key basis outer q q_values ≡ key_of model e
  p_key = other_key_is basis outer q.set q q_of first_state first_held.legal e e_stands numbered given_value given_is

  not_numbered : IsNotNumbered model outer q.set (other_key basis outer q q_values)
  not_numbered number below equal = never_numbered number below (sym p_key ∙ equal)

  q_allowed : IsAllowed basis q q_values
  q_allowed = other_allowed basis outer q.set q q_of first_state first_held.legal e e_stands numbered given_value given_is

  q_short : (p : PropId) → Contains (props_of model q.ty) p → IsDependent model p → q_values.prop p ≢ Null → IsShort (q_values.prop p)
  q_short = other_short basis outer q.set q q_of first_state first_held.legal e e_stands numbered given_value given_is

  far_numbered : (host : Host) (also : Assoc) → IsLinkedHost basis q.set q host also
      → told_key basis q_values host also ≡ numbered_key model outer (partner_end host.first_hosts also).set (end_number (not host.first_hosts) host.assoc)
  far_numbered = partner_numbered basis outer q.set q q_of first_state first_held.legal e e_stands numbered given_value given_is

  -- the entities at the ends, and the link
  abbrev both : List PlainEnd
  both = reading.both basis is outer has fragment.assoc assoc here not_null

  abbrev given : List Placed
  given = map (placed_at model outer) both

  abbrev the_link : PlacedLink
  the_link = of_assoc model outer fragment.assoc link

  abbrev links : List PlacedLink
  links = the_link ∷ []

  sound : (end : PlainEnd) → Contains both end → IsSoundEnd model end.end
  sound = reading.sound basis is outer has fragment.assoc assoc here not_null

  small_end : (end : PlainEnd) → Contains both end → end.index ≤ 1900
  small_end = reading.small basis is outer has fragment.assoc assoc here not_null

  first_given : AreGiven model outer given
  first_given = are_given model outer has both sound small_end (reading.apart basis is outer has fragment.assoc assoc here not_null)

  first_short : (placed : Placed) → Contains given placed → (to : PlacedKey) → Contains (principals model placed.set placed.entity) to → HasShortParts model to.set to.key
  first_short placed there to asked =
      let found = map_contains (placed_at model outer) both placed there in
      end_principals model outer has found.0 (sound found.0 found.1) (small_end found.0 found.1) to
      (subst (λ (it : Placed). Contains (principals model it.set it.entity) to) (sym found.2) asked)

  -- of one link there is one
  alone : (R : Link → Link → Type 0) (b : AssocId) → AllPairs R (links_of links b)
  alone R b = link_pairs R links b (λ i j d below within first second. absurd (omega (arith, below, within)))

  the_only : (placed : PlacedLink) → Contains links placed → placed ≡ the_link
  the_only placed has_link = ⊎_elim
      (λ (is_it : placed ≡ the_link). is_it)
      (λ (never : Contains [] placed). absurd (contains_nil placed never))
      (contains_cons_cases the_link [] placed has_link)

  abbrev end : Bool → PlainEnd
  end side = at_end model outer side assoc

  end_there : (side : Bool) → Contains both (end side)
  end_there true = contains_head (end true) (end false ∷ [])
  end_there false = contains_tail (end true) (end false ∷ []) (end false) (contains_head (end false) [])

  end_is : (side : Bool) → (end side).end ≡ end_of side assoc
  end_is true = refl
  end_is false = refl

  link_key : (side : Bool) → key_at model outer (end side) ≡ end_key side link
  link_key true = refl
  link_key false = refl

  same_assoc : (placed : PlacedLink) → placed ≡ the_link → (also : Assoc) → At model.assocs placed.assoc.index also → assoc ≡ also
  same_assoc placed is_it also there = let P : PlacedLink → Type 0 = λ it. At model.assocs it.assoc.index also in at_once model.assocs fragment.assoc.index assoc also here (subst P is_it there)

  abbrev EndIsGiven : End → List Value → Type 0
  EndIsGiven of_end at = (it : Placed) × Contains given it × (it.set ≡ of_end.set) × IsA model it.entity.ty of_end.ty × (key_of model it.entity ≡ at)

  own_end : (side : Bool) → EndIsGiven (end_of side assoc) (end_key side link)
  own_end side = subst (λ (it : End). EndIsGiven it (end_key side link)) (end_is side) (
    placed_at model outer (end side),
    contains_map (placed_at model outer) both (end side) (end_there side),
    refl,
    end_typed model outer has (end side) (sound (end side) (end_there side)) (small_end (end side) (end_there side)),
    end_has_key model outer has (end side) (sound (end side) (end_there side)) (small_end (end side) (end_there side)) ∙ link_key side,
  )

  ends : (placed : PlacedLink) → Contains links placed → (also : Assoc) → At model.assocs placed.assoc.index also → (side : Bool) → EndIsGiven (end_of side also) (end_key side placed.link)
  ends placed has_link also there side =
      let is_it = the_only placed has_link in
      subst (λ (it : PlacedLink). EndIsGiven (end_of side also) (end_key side it.link)) (sym is_it)
      (subst (λ (it : Assoc). EndIsGiven (end_of side it) (end_key side link)) (same_assoc placed is_it also there) (own_end side))

  -- at an end with its key and set it fits
  fits_end : (side : Bool) → (end_of side assoc).set ≡ q.set → end_key side link ≡ other_key basis outer q q_values → IsA model q.ty (end_of side assoc).ty
  fits_end side at_set at_key_ =
      let Told_by : SetId → List Value → Type 0 = λ v at. (read : IsRead basis outer The values (IsForced basis The not_null) v at) × (read.one.ty ≡ (end side).end.ty) in
      let told : Told_by (end side).end.set (key_at model outer (end side)) = reading.end_told basis is outer has fragment.assoc assoc here not_null side in
      let found : Told_by q.set (key_of model e) = subst (λ (v : SetId). Told_by v (key_of model e)) (ap (λ (it : End). it.set) (end_is side) ∙ at_set)
      (subst (Told_by (end side).end.set) (link_key side ∙ at_key_ ∙ p_key) told) in
      subst (λ (it : End). IsA model q.ty it.ty) (end_is side) (subst (IsA model q.ty) found.1 (under found.0.one (inr found.0.is_one) (read_fits found.0)))

  replaced : (placed : PlacedLink) → Contains links placed → (also : Assoc) → At model.assocs placed.assoc.index also → (side : Bool) → (end_of side also).set ≡ q.set
      → end_key side placed.link ≡ other_key basis outer q q_values → IsA model q.ty (end_of side also).ty
  replaced placed has_link also there side =
      let is_it = the_only placed has_link in
      let Replaced : Assoc → Link → Type 0 = λ it its. (end_of side it).set ≡ q.set → end_key side its ≡ other_key basis outer q q_values → IsA model q.ty (end_of side it).ty in
      subst (λ (it : PlacedLink). Replaced also it.link) (sym is_it) (subst (λ (it : Assoc). Replaced it link) (same_assoc placed is_it also there) (fits_end side))

  -- no set hosts its association
  apart_at : (placed : PlacedLink) → Contains links placed → (host : Host) → Contains (basis.hosts q.set) host → host.assoc ≡ placed.assoc
      → end_key host.first_hosts placed.link ≢ other_key basis outer q q_values
  apart_at placed has_link host hosted same_id at = hosts_none basis is key.from fragment assoc joined q.set host hosted (same_id ∙ ap (λ (it : PlacedLink). it.assoc) (the_only placed has_link))

  first_few : (b : AssocId) (also : Assoc) → At model.assocs b.index also → (side : Bool) → (end_of (not side) also).mult ≢ Many → AllPairs (λ x y. end_key side x ≢ end_key side y) (links_of links b)
  first_few b also there side not_many = alone (λ x y. end_key side x ≢ end_key side y) b

  abbrev c : State
  c = other_state basis outer q q_values given links

  q_holds : HoldsFocus basis q q_values c
  q_holds = other.other_holds basis outer q q_of q_values q_allowed q_short not_numbered far_numbered given first_given first_short links (alone (λ x y. x ≢ y)) first_few ends replaced apart_at

  -- the small part of the state
  abbrev first_roots : List PlacedKey
  first_roots = map (key_of_placed basis outer) given

  abbrev roots : List PlacedKey
  roots = first_roots ++ principal_roots basis The key pairing q

  abbrev small : State
  small = part_of model (c ∷ []) roots c

  legal : (it : State) → Contains (c ∷ []) it → IsLegal model it
  legal it there = subst (IsLegal model) (sym (only_member (c ∷ []) c it refl there)) q_holds.legal

  q_small : HoldsFocus basis q q_values small
  q_small = focus_left basis is (c ∷ []) legal roots c (contains_head c []) q q_values
      (other.other_rooted basis outer q q_of q_values q_allowed q_short not_numbered far_numbered given first_given first_short links (alone (λ x y. x ≢ y)) first_few ends replaced apart_at roots
      (own_root basis is The key pairing q q_listed first_roots) (partner_roots basis is The key pairing q q_listed first_roots))
      q_holds

  abbrev p : LinkedEntity basis
  p = record {
    state = small;
    legal = q_small.legal;
    s = q.set;
    entity = p_entity;
    region = q;
    part = q_values.part;
    held = focus_held basis is (record { s = q.set; region = q; listed = q_listed; values = q_values }) q_allowed small q_small;
  }

  -- the link stands there too
  stands : Contains (links_in c fragment.assoc) link
  stands =
      let all_given : List Placed = other_given basis outer q q_values given in
      let all_keys : List PlacedKey = support model outer all_given (other_wanted basis outer q q_values given) in
      let all_links : List PlacedLink = other_links basis outer q q_values links in
      let own : List Link = links_of all_links fragment.assoc in
      let among : Contains own link = other.old_link basis outer q q_of q_values q_allowed q_short not_numbered far_numbered given first_given first_short links (alone (λ x y. x ≢ y)) first_few ends replaced apart_at
      fragment.assoc link (from_link links the_link (contains_head the_link [])) in
      subst (λ list. Contains list link) (sym (links_are model outer all_given all_keys all_links fragment.assoc
      ∙ linked_is model outer all_given all_keys all_links fragment.assoc assoc here (first.independent basis is limits none fragment assoc key is_key joined may)))
      (Contains-append_left own (added_at model outer all_given all_keys true fragment.assoc assoc own ++ added_at model outer all_given all_keys false fragment.assoc assoc own) link among)

  -- and in the part
  end_root : (side : Bool) → Contains roots (key_at_end side assoc link)
  end_root side =
      let placed : Placed = placed_at model outer (end side) in
      let same : key_of_placed basis outer placed ≡ key_at_end side assoc link = λ k. record {
        set = ap (λ (it : End). it.set) (end_is side) k;
        key = (end_has_key model outer has (end side) (sound (end side) (end_there side)) (small_end (end side) (end_there side)) ∙ link_key side) k;
      } in
      subst (Contains roots) same (Contains-append_left first_roots (principal_roots basis The key pairing q) (key_of_placed basis outer placed)
      (contains_map (key_of_placed basis outer) given placed (contains_map (placed_at model outer) both (end side) (end_there side))))

  stands_small : Contains (links_in small fragment.assoc) link
  stands_small = ((holds_needed model (c ∷ []) roots c q_holds.legal).links fragment.assoc assoc here link).1
      (stands, λ side. root_needed model (c ∷ []) roots (key_at_end side assoc link) (end_root side))

  shown : IsShown basis (told_link basis is key.from fragment assoc joined small q_small.legal link stands_small) key small
  shown = link_shown basis is none key is_key fragment assoc joined small q_small.legal link stands_small may

  p_shown : HasShownKey basis The key values pairing p_entity
  p_shown pair among =
      let told = e_shown pair among in
      (told.0, told.1, told.2, other_part basis outer q.set q q_of first_state first_held.legal e e_stands numbered given_value given_is pair.prop (in_key pair among) ∙ told.3)

  small_fails : FailsShown basis The key small
  unfolding shown
  small_fails = record {
    place = place_at shown.table.name (row_key shown.table shown.row) key.name;
    at = shown_fails basis is (told_link basis is key.from fragment assoc joined small q_small.legal link stands_small) key small shown (λ target at alike.
        none_found basis is (told_link basis is key.from fragment assoc joined small q_small.legal link stands_small) key small shown q.set pairing owns p refl refl p_shown no_row target at alike);
    only = link_place basis is none key is_key fragment assoc joined small q_small.legal link stands_small may outer refl;
  }

  -- the state is made of the entities at the ends and of the link
  given_are : lone_given basis The key ≡ given
  given_are = ap (λ (found : Option Assoc). option_map_or (λ (it : Assoc). map (placed_at model outer) (both_ends model outer fragment.assoc it)) found []) here

  links_are_so : lone_links basis The key ≡ links
  links_are_so = ap (λ (found : Option Assoc). option_map_or (λ (it : Assoc). of_assoc model outer fragment.assoc (plain_link model outer it) ∷ []) found []) here

  abbrev State_of : List Placed → List PlacedLink → State
  State_of some_given some_links = part_of model (other_state basis outer q q_values some_given some_links ∷ []) (map (key_of_placed basis outer) some_given ++ principal_roots basis The key pairing q)
      (other_state basis outer q q_values some_given some_links)

  pub other_link_fails : FailsShown basis The key (both_state basis The key pairing q)
  other_link_fails =
      let same : both_state basis The key pairing q ≡ small = λ k. State_of (given_are k) (links_are_so k) in
      subst (FailsShown basis The key) (sym same) small_fails

  pub other_link_supported : IsSupportedWhole basis The key pairing q
  other_link_supported =
      let Whole : List Placed → List PlacedLink → State = other_state basis outer q q_values in
      let whole_is : c ≡ whole_state basis The key pairing q = λ k. Whole (sym given_are k) (sym links_are_so k) in
      let Short : List Placed → Type 0 = λ all. (to : PlacedKey) → Contains (other_wanted basis outer q q_values all) to → HasShortParts model to.set to.key in
      record {
        legal = subst (IsLegal model) whole_is q_holds.legal;
        short = subst Short (sym given_are) (other.other_short_wanted basis outer q q_of q_values q_allowed q_short not_numbered far_numbered given first_given first_short);
      }
