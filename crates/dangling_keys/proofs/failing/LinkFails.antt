-- A foreign key that dangles at a link, where no entity has the key that is shown: the small state of the link fails.
use Rattle.std.proofs.Common.{◌≡◌, ⊎_elim, inl, inr, ℕ, ◌≤◌, List, [], ◌∷◌, map, flat_map, Contains, Option, refl, sym, ap, subst, ◌∙◌}
use Rattle.std.specs.Option.{option_map_or}
use Rattle.emc_base.proofs.Lists.{at_once}
use Rattle.emc_base.proofs.Members.{contains_cons_cases, contains_nil}
use Rattle.round_trip.specs.Words.{Assoc, AssocId, ColId, Entity, EntityModel, ForeignKey, IsIndependent, Kind, Link, LinkFragment, PropId, Row, SetId, State, Value, At, cells_of, entities_in, links_in, place_at, row_key, rows_in}
use Rattle.round_trip.specs.declared.FailKind.TheVariants as kind
use Rattle.schema_laws.specs.short_values.Fresh.{fresh}
use Rattle.schema_laws.specs.state_demand.Owners.{IsJoinedTo}
use Rattle.schema_laws.proofs.sound_demand.Fitting.{sound_link}
use Rattle.cells.specs.Limits.{IsWithinLimits}
use Rattle.regions.specs.Basis.{Basis}
use Rattle.regions.specs.Patterns.{Valuation, by_link, value_under}
use Rattle.regions.specs.declared.pattern.Focus.{Focus}
use Rattle.regions.specs.declared.pattern.Focus.TheVariants as focus
use Rattle.regions.specs.declared.pattern.Symbol.{Symbol}
use Rattle.regions.specs.region_laws.Held.{IsAtLinkRow}
use Rattle.regions.specs.region_laws.IsBasis.{IsBasis}
use Rattle.regions.specs.region_laws.pattern.Allowed.{AllowedFocus}
use Rattle.regions.proofs.region_laws.pattern.symbols.Hosting.{one_link}
use Rattle.region_states.specs.conflicts.There.{NoneFailsBy}
use Rattle.region_states.specs.focus.Held.{IsRowOfOne}
use Rattle.failure_laws.specs.SmallLinks.{both_ends, roots_at, small_link}
use Rattle.failure_laws.specs.Witnesses.{empty_state}
use Rattle.failure_laws.proofs.links.LinkRows.{told_link}
use Rattle.failure_laws.proofs.links.SmallLinks.{small_holds}
use Rattle.population.specs.Given.{HasNumbers}
use Rattle.population.specs.Kept.{HoldsNeeded}
use Rattle.population.specs.LinkStates.{HoldsLink, at_first, at_second, entity_at, link_state, of_assoc, placed_at, plain_link}
use Rattle.population.specs.Principals.{principals}
use Rattle.population.specs.Support.{support}
use Rattle.population.specs.Supported.{links_of}
use Rattle.population.specs.declared.placed.PlacedLink.{PlacedLink}
use Rattle.population.proofs.pruning.NeededParts.{holds_needed}
use Rattle.population.proofs.supporting.Ends.{link_from}
use Rattle.dangling_keys.specs.Dangling.{NoneFits}
use Rattle.dangling_keys.specs.DanglingStates.{lone_state}
use Rattle.dangling_keys.specs.Failing.{FailsAtKey}
use Rattle.dangling_keys.specs.Flow.{IsFlow}
use Rattle.dangling_keys.specs.FlowStates.{flow_state}
use Rattle.dangling_keys.specs.Outer.{IsPartOrOuter, outer_row}
use Rattle.dangling_keys.specs.Showing.{MayRefer, cell_at, not_null_for}
use Rattle.dangling_keys.proofs.referring.EntityParts.{link_part, outer_small, shown_parts}
use Rattle.dangling_keys.proofs.referring.Fitting.{fitting_one}
use Rattle.dangling_keys.proofs.referring.Joined.{joined_given}
use Rattle.dangling_keys.proofs.left_out.LeftOut.{link_held}
use Rattle.dangling_keys.proofs.left_out.LinkRead.{link_state_is, link_value, own_read}
use Rattle.dangling_keys.proofs.referring.OwnTable.{never_itself}
use Rattle.dangling_keys.proofs.referring.Shown.{FailsShown, link_place, link_shown}
use Rattle.dangling_keys.proofs.referring.Target.{IsShown, shown_fails, target_key, target_of, target_owned, target_shows}

module _ (basis : Basis) (is : IsBasis basis) (limits : IsWithinLimits basis.schema) (none : NoneFailsBy basis.schema kind.Clash) (fragment : LinkFragment) (assoc : Assoc) (key : ForeignKey)
    (is_key : Contains basis.schema.store.keys key) (joined : IsJoinedTo basis.schema key.from fragment assoc) (may : MayRefer basis (focus.Link fragment.assoc) key) where
  abbrev model : EntityModel
  model = basis.schema.model

  abbrev pub The : Focus
  The = focus.Link fragment.assoc

  abbrev pub outer : ℕ
  outer = outer_row basis The key

  abbrev pub not_null : List PropId
  not_null = not_null_for basis The key

  pub row : outer ≤ 4
  row = outer_small basis is key is_key The

  abbrev pub has : HasNumbers basis.schema.model outer
  has = record { sound = is.sound.model; few = limits.model.0; row = row }

  pub independent : IsIndependent assoc
  independent = (sound_link basis.schema is.sound fragment joined.is_fragment assoc joined.is_assoc).independent

  abbrev pub shown_state : State
  shown_state = flow_state basis outer The not_null

  pub held : HoldsLink basis.schema.model outer fragment.assoc assoc shown_state
  held = link_held basis is limits outer row fragment.assoc assoc joined.is_assoc independent not_null

  abbrev pub link : Link
  link = plain_link basis.schema.model outer assoc

  abbrev pub values : Valuation
  values = by_link basis.schema.model assoc link

  -- the small part of the state
  abbrev small : State
  small = lone_state basis The key

  lone_is : lone_state basis The key ≡ small_link basis.schema.model outer fragment.assoc assoc
  lone_is = ap (λ (found : Option Assoc). option_map_or (small_link basis.schema.model outer fragment.assoc) found (empty_state basis.schema.model)) joined.is_assoc

  small_held : HoldsLink basis.schema.model outer fragment.assoc assoc small
  small_held = subst (HoldsLink basis.schema.model outer fragment.assoc assoc) (sym lone_is) (small_holds basis.schema.model outer has fragment.assoc assoc joined.is_assoc independent)

  abbrev made_state : State
  made_state = link_state basis.schema.model outer fragment.assoc assoc

  made_is : shown_state ≡ made_state
  made_is = link_state_is basis is outer has fragment.assoc assoc joined.is_assoc not_null

  made_held : HoldsLink basis.schema.model outer fragment.assoc assoc made_state
  made_held = subst (HoldsLink basis.schema.model outer fragment.assoc assoc) made_is held

  needed : HoldsNeeded basis.schema.model (made_state ∷ []) (roots_at basis.schema.model outer (both_ends basis.schema.model outer fragment.assoc assoc)) made_state
  needed = holds_needed basis.schema.model (made_state ∷ []) (roots_at basis.schema.model outer (both_ends basis.schema.model outer fragment.assoc assoc)) made_state made_held.legal

  inside : (u : SetId) (one : Entity) → Contains (entities_in small u) one → Contains (entities_in shown_state u) one
  inside u one there = subst (λ (state : State). Contains (entities_in state u) one) (sym made_is)
      ((needed.entities u one).0 (subst (λ (state : State). Contains (entities_in state u) one) lone_is there)).0

  link_inside : (a : AssocId) (other : Assoc) → At basis.schema.model.assocs a.index other → (one : Link) → Contains (links_in small a) one → Contains (links_in shown_state a) one
  link_inside a other here one there = subst (λ (state : State). Contains (links_in state a) one) (sym made_is)
      ((needed.links a other here one).0 (subst (λ (state : State). Contains (links_in state a) one) lone_is there)).0

  abbrev told : AllowedFocus basis
  told = told_link basis is key.from fragment assoc joined small small_held.legal link small_held.linked

  shown : IsShown basis told key small
  shown = link_shown basis is none key is_key fragment assoc joined small small_held.legal link small_held.linked may

  -- the state fails at the link's row
  as_shown : FailsAtKey basis key (place_at shown.table.name (row_key shown.table shown.row) key.name) small → FailsShown basis The key small
  unfolding shown
  as_shown fails = record {
    place = place_at shown.table.name (row_key shown.table shown.row) key.name;
    at = fails;
    only = link_place basis is none key is_key fragment assoc joined small small_held.legal link small_held.linked may outer refl;
  }

  pub valued : (one : Symbol) (i : ℕ) → IsFlow basis The one i → (k : Kind) × (value_under values one ≡ fresh k outer i)
  valued = link_value basis is outer has fragment.assoc assoc joined.is_assoc not_null

  pub cell_part : (col : ColId) → Contains key.from_cols col → IsPartOrOuter basis outer The values (cell_at basis The key.from col)
  cell_part = link_part basis is fragment.assoc key is_key may values

  -- a link of this association is the link
  only_link : (one : Link) → Contains (links_in shown_state fragment.assoc) one → link ≡ one
  only_link one stands =
      let given = map (placed_at model outer) (at_first model outer assoc ∷ (at_second model outer assoc ∷ [])) in
      let wanted = flat_map (λ end. principals model end.end.set (entity_at model outer end)) (at_first model outer assoc ∷ (at_second model outer assoc ∷ [])) in
      let the_link : PlacedLink = of_assoc model outer fragment.assoc link in
      let among : Contains (links_of (the_link ∷ []) fragment.assoc) one = joined_given basis is key.from fragment assoc joined outer given (support model outer given wanted) (the_link ∷ []) one
      (subst (λ (state : State). Contains (links_in state fragment.assoc) one) (link_state_is basis is outer has fragment.assoc assoc joined.is_assoc not_null) stands) in
      let found = link_from (the_link ∷ []) fragment.assoc one among in
      ⊎_elim
      (λ (same_one : found.0 ≡ the_link). ap (λ (it : PlacedLink). it.link) (sym same_one) ∙ found.3)
      (λ (never : Contains [] found.0). absurd (contains_nil found.0 never))
      (contains_cons_cases the_link [] found.0 found.1)

  -- and one of another association with a table of its own isn't there
  one_assoc : (other : LinkFragment) (also : Assoc) (one : Link) → IsJoinedTo basis.schema key.to other also → Contains (links_in shown_state other.assoc) one → fragment.assoc ≡ other.assoc
  one_assoc other also one other_joined stands =
      let given = map (placed_at model outer) (at_first model outer assoc ∷ (at_second model outer assoc ∷ [])) in
      let wanted = flat_map (λ end. principals model end.end.set (entity_at model outer end)) (at_first model outer assoc ∷ (at_second model outer assoc ∷ [])) in
      let the_link : PlacedLink = of_assoc model outer fragment.assoc link in
      let among : Contains (links_of (the_link ∷ []) other.assoc) one = joined_given basis is key.to other also other_joined outer given (support model outer given wanted) (the_link ∷ []) one
      (subst (λ (state : State). Contains (links_in state other.assoc) one) (link_state_is basis is outer has fragment.assoc assoc joined.is_assoc not_null) stands) in
      let found = link_from (the_link ∷ []) other.assoc one among in
      ⊎_elim
      (λ (same_one : found.0 ≡ the_link). ap (λ (it : PlacedLink). it.assoc) (sym same_one) ∙ found.2)
      (λ (never : Contains [] found.0). absurd (contains_nil found.0 never))
      (contains_cons_cases the_link [] found.0 found.1)

  module _ (target : Row) (at : Contains (rows_in shown.tables key.to) target) (alike : cells_of target key.to_cols ≡ cells_of shown.row key.from_cols) where
    abbrev at_key : List Value
    at_key = target_key basis is told key small shown target at alike

    no_link : (other : LinkFragment) (also : Assoc) (one : Link) → IsAtLinkRow basis small other also one key.to at_key → ⊥
    no_link other also one by =
        let stands = link_inside other.assoc also by.joined.is_assoc one by.stands in
        let same_fragment : fragment ≡ other = one_link basis is fragment other joined.is_fragment by.joined.is_fragment (one_assoc other also one by.joined stands) in
        let same_assoc : assoc ≡ also = at_once model.assocs other.assoc.index assoc also (subst (λ (it : LinkFragment). At model.assocs it.assoc.index assoc) same_fragment joined.is_assoc) by.joined.is_assoc in
        let same_link : link ≡ one = only_link one (subst (λ (it : LinkFragment). Contains (links_in shown_state it.assoc) one) (sym same_fragment) stands) in
        let AtFragment : LinkFragment → Type 0 = λ it. IsAtLinkRow basis small it also one key.to at_key in
        let AtAssoc : Assoc → Type 0 = λ it. IsAtLinkRow basis small fragment it one key.to at_key in
        let AtLink : Link → Type 0 = λ it. IsAtLinkRow basis small fragment assoc it key.to at_key in
        never_itself basis is limits outer row fragment assoc key joined small small_held.legal link small_held.linked shown valued cell_part target at alike
        (subst AtLink (sym same_link) (subst AtAssoc (sym same_assoc) (subst AtFragment (sym same_fragment) by)))

    none_of : NoneFits basis The key → IsRowOfOne basis small key.to at_key → ⊥
    none_of never (inr (other, also, one, by)) = no_link other also one by
    none_of never (inl (u, entity, at_row)) =
        let stands = inside u entity at_row.at.stands in
        let owns = target_owned basis is told key small shown target at alike u entity at_row in
        let fitting = fitting_one basis is limits outer row The not_null values shown_state held.legal (λ one i flow some. valued one i flow) key u entity stands at_row.pairing owns
        (target_shows basis is told key small shown target at alike u entity at_row) (shown_parts basis is key is_key The values cell_part at_row.pairing at_row.owned.cols)
        (own_read basis is outer has fragment.assoc assoc joined.is_assoc not_null u entity stands) in
        never u at_row.pairing owns fitting.0 fitting.1 fitting.2

    none_there : NoneFits basis The key → ⊥
    none_there never = none_of never (target_of basis is told key small shown target at alike)

  pub link_none_fails : NoneFits basis The key → FailsShown basis The key small
  link_none_fails never = as_shown (shown_fails basis is told key small shown (λ target at alike. none_there target at alike never))
