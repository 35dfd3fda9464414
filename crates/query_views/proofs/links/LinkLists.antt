-- Keys of links that are grouped are the links of the association, each once and in their order.
use Rattle.std.proofs.Common.{◌≡◌, ◌≢◌, ◌⊎◌, ◌↔◌, inl, inr, ◌+◌, ℕ, List, [], ◌∷◌, ◌++◌, filter, map, length, All, AllPairs, Bool, true, false, Contains, refl, sym, ap, subst, ◌∙◌}
use Rattle.std.specs.Borrow.{Bor}
use Rattle.std.specs.Cmp.Lexicographic.{slice_cmp}
use Rattle.std.specs.Ordering.{is_eq}
use Rattle.std.specs.Global.{Vec}
use Rattle.std.proofs.lemmas.List.{length_push}
use Rattle.std.proofs.lemmas.Simd.{map-map}
use Rattle.table_owners.proofs.lists.Items.{at_push}
use Rattle.std.proofs.lemmas.List.Elements.{All-contains}
use Rattle.emc_base.proofs.Lists.{all_from_members, at_once}
use Rattle.emc_base.proofs.Mapped.{contains_at, contains_map}
use Rattle.emc_base.proofs.Numbered.{all_pairs_map, filter_contains, map_contains}
use Rattle.emc_base.proofs.facts.Orderings.{is_equal}
use Rattle.emc_base.specs.Order.{value_cmp}
use Rattle.emc_base.specs.OrderLaws.{key_cmp_apart}
use Rattle.emc_base.proofs.facts.Standing.{some_item}
use Rattle.round_trip.specs.Words.{Assoc, AssocId, At, ColId, EntityModel, IsIndependent, IsLink, Link, LinkFragment, SetId, TableId, Tables, Value, key_props}
use Rattle.schema_laws.proofs.sound_demand.Fitting.{sound_link}
use Rattle.regions.specs.Basis.{Basis, partner_end}
use Rattle.regions.specs.Regions.{regions_of}
use Rattle.regions.specs.region_laws.IsBasis.{IsBasis, IsHostOf}
use Rattle.regions.specs.region_laws.pattern.Allowed.{end_at}
use Rattle.regions.proofs.region_laws.listing.Listed.{set_is}
use Rattle.regions.proofs.region_laws.pattern.symbols.Hosting.{assoc_here, host_key_is, one_host, the_assoc}
use Rattle.region_states.specs.focus.Given.{hosted_link}
use Rattle.case_laws.specs.region_cases.Cases.{case_of, cases_of}
use Rattle.case_laws.specs.declared.region_cases.case.Case.{Case}
use Rattle.case_laws.specs.candidates.ViewedLinks.{IsBefore, IsHostedView, IsJoinedView, IsLinkBefore}
use Rattle.keyed_rows.specs.declared.row_groups.groups.KeyGroup.{KeyGroup}
use Rattle.keyed_rows.specs.row_groups.Shown.{shown_cells, shown_group, shown_keyed}
use Rattle.keyed_rows.specs.row_groups.KeyGroups.{AreKeyGroups, with_key}
use Rattle.query_views.specs.Answers.{AreLentLinks}
use Rattle.query_views.specs.Lent.{link_of, shown_links}
use Rattle.query_views.specs.LinkKeys.{AreLinkKeys, shown_keys}
use Rattle.query_views.specs.declared.links.lent.LentLinks.{LentLinks}
use Rattle.query_views.proofs.links.BothKeys.{rising_links, split_link}

-- the key of an item, or of a group
abbrev key_in : {Y : Type 0} → List Value × Y → List Value
key_in one = one.0

-- the keys of groups are those of what is grouped
module _ {X : Type 0} (keyed : List (List Value × X)) (groups : List (List Value × List X)) (are : AreKeyGroups keyed groups) where
  pub grouped : (key : List Value) → Contains (map key_in keyed) key → Contains (map key_in groups) key
  grouped key has =
      let one = map_contains key_in keyed key has in
      subst (Contains (map key_in groups)) one.2 (All-contains (λ (item : List Value × X). Contains (map key_in groups) item.0) keyed one.0 are.all one.1)

  pub ungrouped : (key : List Value) → Contains (map key_in groups) key → Contains (map key_in keyed) key
  ungrouped key has =
      let group = map_contains key_in groups key has in
      let items : group.0.1 ≡ with_key keyed group.0.0 = All-contains (λ (one : List Value × List X). one.1 ≡ with_key keyed one.0) groups group.0 are.items group.1 in
      let some = some_item group.0.1 (All-contains (λ (one : List Value × List X). one.1 ≢ []) groups group.0 are.some group.1) in
      let of_key : List Value × X → Bool = λ one. is_eq (slice_cmp value_cmp one.0 group.0.0) in
      let one = map_contains (λ (item : List Value × X). item.1) (filter of_key keyed) some.0 (subst (λ list. Contains list some.0) items some.1) in
      let passed = filter_contains of_key keyed one.0 one.1 in
      let same : one.0.0 ≡ group.0.0 = key_cmp_apart one.0.0 group.0.0 (is_equal (slice_cmp value_cmp one.0.0 group.0.0) passed.1) in
      subst (Contains (map key_in keyed)) (same ∙ group.2) (contains_map key_in keyed one.0 passed.0)

module _ (basis : Basis) (is : IsBasis basis) (is_free : TableId → ColId → Bool) (tables : Tables) (a : AssocId) (assoc : Assoc)
    (here : At basis.schema.model.assocs a.index assoc) where
  abbrev IsGiven : Link → Type 0
  IsGiven link = IsHostedView basis is_free tables a link ⊎ IsJoinedView basis is_free tables a link

  independent : (fragment : LinkFragment) → Contains basis.schema.mapping.links fragment → fragment.assoc ≡ a → IsIndependent assoc
  independent fragment mapped same =
      let Here : AssocId → Type 0 = λ b. At basis.schema.model.assocs b.index assoc in
      (sound_link basis.schema is.sound fragment mapped assoc (subst Here (sym same) here)).independent

  -- a link that an entity hosts has as many parts at each end as the end's key
  hosted_fits : (link : Link) → IsHostedView basis is_free tables a link → IsLink basis.schema.model assoc link
  hosted_fits link view = subst (IsLink basis.schema.model assoc) (sym view.is) (by view.host.first_hosts own other)
    where
      of : IsHostOf basis.schema view.s view.host
      of = (is.hosts view.s view.host).0 view.is_host

      model : EntityModel
      model = basis.schema.model

      same : of.assoc ≡ assoc
      same = let Here : AssocId → Type 0 = λ b. At model.assocs b.index of.assoc in at_once model.assocs a.index of.assoc assoc (subst Here view.of_assoc of.is_assoc) here

      -- the key of the host
      own : length view.key ≡ length (key_props model (end_at view.host.first_hosts assoc).ty)
      own =
          let fragment = of.fragment in
          let key = host_key_is basis is fragment of.is_fragment view.s view.host view.is_host of.of_assoc in
          let one : the_assoc basis is fragment of.is_fragment ≡ assoc =
          (let Here : AssocId → Type 0 = λ b. At model.assocs b.index (the_assoc basis is fragment of.is_fragment) in
          at_once model.assocs a.index (the_assoc basis is fragment of.is_fragment) assoc (subst Here (of.of_assoc ∙ view.of_assoc) (assoc_here basis is fragment of.is_fragment)) here) in
          view.rows.whole ∙ ap length (sym key) ∙ ap (λ (told : Assoc). length (key_props model (end_at view.host.first_hosts told).ty)) one

      of_set : view.viewed.case.region.set ≡ view.s
      of_set =
          let case : Case = view.viewed.case in
          let found = map_contains (case_of is_free basis) (regions_of basis view.s) case
          (contains_at (cases_of is_free basis view.s) view.viewed.first_met.place case view.viewed.first_met.is_case) in
          ap (λ (one : Case). one.region.set) (sym found.2) ∙ set_is basis view.s found.0 found.1

      -- and that of the partner
      other : length view.hosted.partner ≡ length (key_props model (partner_end view.host.first_hosts assoc).ty)
      other =
          let told = view.viewed.told in
          let HostsAt : SetId → Type 0 = λ u. Contains (basis.hosts u) told.host in
          let hosts : told.host ≡ view.host = one_host basis is view.s told.host view.host (subst HostsAt of_set told.is_host) view.is_host
          (told.of_assoc ∙ view.of_host ∙ sym view.of_assoc) in
          let Here : AssocId → Type 0 = λ b. At model.assocs b.index told.assoc in
          let one : told.assoc ≡ assoc = at_once model.assocs a.index told.assoc assoc (subst Here (told.of_assoc ∙ view.of_host) told.is_assoc) here in
          told.size ∙ (λ i. length (key_props model (partner_end (hosts i).first_hosts (one i)).ty))

      by : (first_hosts : Bool) → length view.key ≡ length (key_props model (end_at first_hosts assoc).ty)
          → length view.hosted.partner ≡ length (key_props model (partner_end first_hosts assoc).ty) → IsLink model assoc (hosted_link first_hosts view.key view.hosted.partner)
      by true long also = record { independent = independent of.fragment of.is_fragment (of.of_assoc ∙ view.of_assoc); first = long; second = also }
      by false long also = record { independent = independent of.fragment of.is_fragment (of.of_assoc ∙ view.of_assoc); first = also; second = long }

  -- and so has one that a row tells
  joined_fits : (link : Link) → IsJoinedView basis is_free tables a link → IsLink basis.schema.model assoc link
  joined_fits link view =
      let own = view.own in
      let Here : AssocId → Type 0 = λ b. At basis.schema.model.assocs b.index own.assoc in
      let same : own.assoc ≡ assoc = at_once basis.schema.model.assocs a.index own.assoc assoc (subst Here own.of_assoc own.joined.is_assoc) here in
      record {
        independent = independent own.fragment own.joined.is_fragment own.of_assoc;
        first = view.first.size ∙ ap (λ (told : Assoc). length (key_props basis.schema.model told.first.ty)) same;
        second = view.second.size ∙ ap (λ (told : Assoc). length (key_props basis.schema.model told.second.ty)) same;
      }

  fits : (link : Link) → IsGiven link → IsLink basis.schema.model assoc link
  fits link (inl view) = hosted_fits link view
  fits link (inr view) = joined_fits link view

  module _ (lent : LentLinks) (size : lent.first_len ≡ length (key_props basis.schema.model assoc.first.ty)) (keyed : List (Vec (Bor Value) × Unit))
      (are_keys : AreLinkKeys basis is_free tables a (shown_keys keyed)) (are : AreKeyGroups (map shown_keyed keyed) (map shown_group lent.keys.items)) where
    abbrev both_in : KeyGroup Unit → List Value
    both_in group = shown_cells group.key

    -- the keys of the groups
    abbrev keys : List (List Value)
    keys = map both_in lent.keys.items

    groups_are : map (key_in {Y = List Unit}) (map shown_group lent.keys.items) ≡ keys
    groups_are = map-map (key_in {Y = List Unit}) shown_group lent.keys.items

    keyed_are : map (key_in {Y = Unit}) (map shown_keyed keyed) ≡ shown_keys keyed
    keyed_are = map-map (key_in {Y = Unit}) shown_keyed keyed

    links_are : shown_links lent ≡ map (link_of lent.first_len) keys
    links_are = sym (map-map (link_of lent.first_len) both_in lent.keys.items)

    split : (link : Link) → IsGiven link → link_of lent.first_len (link.first ++ link.second) ≡ link
    split link given = split_link lent.first_len link ((fits link given).first ∙ sym size)

    is_given : (link : Link) → Contains (map (link_of lent.first_len) keys) link → IsGiven link
    is_given link has =
        let both = map_contains (link_of lent.first_len) keys link has in
        let among : Contains (shown_keys keyed) both.0 = subst (λ list. Contains list both.0) keyed_are
        (ungrouped (map shown_keyed keyed) (map shown_group lent.keys.items) are both.0 (subst (λ list. Contains list both.0) (sym groups_are) both.1)) in
        let found = (are_keys.are both.0).0 among in
        subst IsGiven (sym (split found.0 found.1) ∙ ap (link_of lent.first_len) (sym found.2) ∙ both.2) found.1

    given_there : (link : Link) → IsGiven link → Contains (map (link_of lent.first_len) keys) link
    given_there link given =
        let both : List Value = link.first ++ link.second in
        let among : Contains (map (key_in {Y = Unit}) (map shown_keyed keyed)) both = subst (λ list. Contains list both) (sym keyed_are) ((are_keys.are both).1 (link, given, refl)) in
        let has : Contains keys both = subst (λ list. Contains list both) groups_are (grouped (map shown_keyed keyed) (map shown_group lent.keys.items) are both among) in
        subst (Contains (map (link_of lent.first_len) keys)) (split link given) (contains_map (link_of lent.first_len) keys both has)

    rising : AllPairs IsBefore keys
    rising = subst (AllPairs IsBefore) groups_are (all_pairs_map IsBefore (key_in {Y = List Unit}) (map shown_group lent.keys.items) are.rising)

    pub lent_links : AreLentLinks basis is_free tables a lent
    lent_links =
        let Lists : List Link → Type 0 = λ links. ((link : Link) → Contains links link ↔ IsGiven link) × AllPairs IsLinkBefore links × All (IsLink basis.schema.model assoc) links in
        let all : Lists (shown_links lent) = subst Lists (sym links_are) (
          (λ link. (is_given link, given_there link)),
          rising_links lent.first_len keys rising,
          all_from_members (IsLink basis.schema.model assoc) (map (link_of lent.first_len) keys) (λ link has. fits link (is_given link has)),
        ) in
        record {
          viewed = record { are = all.0; rising = all.1 };
          fit = λ other at. subst (λ one. All (IsLink basis.schema.model one) (shown_links lent)) (at_once basis.schema.model.assocs a.index assoc other here at) all.2;
        }

-- the links of the first so many associations are lent
abbrev pub AreLentOfFirst : (basis : Basis) (is_free : TableId → ColId → Bool) (tables : Tables) → ℕ → List LentLinks → Type 0
AreLentOfFirst basis is_free tables n lists = (length lists ≡ n) × ((a : AssocId) (of_assoc : LentLinks) → At lists a.index of_assoc → AreLentLinks basis is_free tables a of_assoc)

module _ (basis : Basis) (is_free : TableId → ColId → Bool) (tables : Tables) where
  pub one_list_more : (i : ℕ) (lists : List LentLinks) (one : LentLinks) → AreLentOfFirst basis is_free tables i lists
      → AreLentLinks basis is_free tables (record { index = i }) one → AreLentOfFirst basis is_free tables (i + 1) (lists ++ one ∷ [])
  one_list_more i lists one first is = (
    length_push lists one ∙ ap (λ n. n + 1) first.0,
    λ a other at. elim (at_push lists one a.index other at) [
      | inl before ↦ first.1 a other before
      | inr last ↦
          let place : i ≡ a.index = sym first.0 ∙ sym last.0 in
          let P : ℕ → Type 0 = λ n. AreLentLinks basis is_free tables (record { index = n }) one in
          subst (AreLentLinks basis is_free tables a) last.1 (subst P place is)
    ],
  )
