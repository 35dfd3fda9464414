-- The small states with links fail at each place that is told of a conflict of links.
use Rattle.std.proofs.Common.{◌≡◌, ◌++◌, ◌==◌, ◌&&◌, ℕ, List, [], Contains, Bool, true, false, true≢false, IsTrue, Option, Decides, refl, sym, ap, subst, ◌∙◌, arith, unwrap_or}
use Rattle.std.proofs.lemmas.Bool.{false_from_ne_true}
use Rattle.std.proofs.lemmas.Bool.Decides.{Decides-and}
use Rattle.std.specs.Option.{option_map_or}
use Rattle.emc_base.proofs.Lists.{at_once}
use Rattle.edm_types.specs.declared.model.Mult.TheVariants.{Many}
use Rattle.round_trip.specs.Words.{Assoc, AssocId, At, ColId, End, FailsAt, IsIndependent, Place, SetId, State, TableId, place_at}
use Rattle.round_trip.specs.FailsAt.{IsUnmapped}
use Rattle.round_trip.specs.declared.FailKind.{FailKind}
use Rattle.round_trip.specs.declared.FailKind.TheVariants as kind
use Rattle.schema_laws.proofs.state_demand.lists.Ids.{Decides-assoc}
use Rattle.cells.specs.Limits.{IsWithinLimits}
use Rattle.regions.specs.declared.pattern.Focus.TheVariants as focus
use Rattle.regions.specs.declared.pattern.Symbol.{Symbol}
use Rattle.regions.specs.Basis.{Basis, Host, HostedAssoc, host_end, partner_end}
use Rattle.regions.specs.region_laws.IsBasis.{IsBasis, IsHostOf}
use Rattle.regions.proofs.region_laws.entities.Hosting.{at_set, independent}
use Rattle.region_states.specs.conflicts.Conflicts.{IsTableOf}
use Rattle.region_states.specs.conflicts.Facts.{disagrees_at, is_clash, is_null_in}
use Rattle.region_states.specs.conflicts.There.{NoneFailsBy}
use Rattle.population.specs.Given.{HasNumbers}
use Rattle.population.specs.LinkStates.{DifferInLink, HoldsLink, HoldsTwoLinks, plain_link}
use Rattle.population.specs.Numbered.{end_of}
use Rattle.host_states.proofs.focus.HostEnds.{partner_side}
use Rattle.conflict_laws.proofs.disagreement.Deciding.{Decides-some}
use Rattle.failure_laws.specs.Facts.{HasManyPartners}
use Rattle.failure_laws.specs.Places.{IsFragment, IsLinkCell, IsSharedCell}
use Rattle.failure_laws.specs.SmallLinks.{small_link, small_pair, small_shared}
use Rattle.failure_laws.specs.Witnesses.{alone, beside, empty_state, hosts_first, of_assoc}
use Rattle.failure_laws.proofs.links.LinkFails.{link_clash_fails, link_disagreement_fails, link_null_fails}
use Rattle.failure_laws.proofs.links.SmallLinks.{small_differ, small_holds, small_two_hold}
use Rattle.failure_laws.proofs.links.TwoLinks.{two_links_fail}
use Rattle.failure_laws.proofs.links.Unmapped.{unmapped_link_fails}
use Rattle.failure_laws.proofs.witness.facts.Hosted.{one_hosting}
use Rattle.failure_laws.proofs.witness.facts.LinkValues.{assoc_there, is_independent, numbers}

module _ (basis : Basis) (is : IsBasis basis) (limits : IsWithinLimits basis.schema) (a : AssocId) (place : Place) where
  -- what is shown of an association fails where that of the one that is there does
  abbrev FailsBy : FailKind → State × Option State → Type 0
  FailsBy by shown = FailsAt basis.schema by place shown.0 (unwrap_or shown.1 shown.0)

  of_assoc_there : (by : FailKind) (shown : Assoc → State × Option State) (assoc : Assoc) → At basis.schema.model.assocs a.index assoc → FailsBy by (shown assoc)
      → FailsBy by (of_assoc basis a shown)
  of_assoc_there by shown assoc here fails =
      let P : Option Assoc → Type 0 = λ found. FailsBy by (option_map_or shown found (alone (empty_state basis.schema.model))) in
      subst P (sym here) fails

  numbered : HasNumbers basis.schema.model 0
  numbered = record { sound = is.sound.model; few = limits.model.0; row = omega arith }

  small : (assoc : Assoc) → At basis.schema.model.assocs a.index assoc → IsIndependent assoc → HoldsLink basis.schema.model 0 a assoc (small_link basis.schema.model 0 a assoc)
  small assoc here free = small_holds basis.schema.model 0 numbered a assoc here free

  -- the link that is shown of an association with a table of its own
  abbrev link_shown : Assoc → State × Option State
  link_shown assoc = alone (small_link basis.schema.model 0 a assoc)

  module _ (t : TableId) (col : ColId) (cell : IsLinkCell basis a t col place) where
    abbrev own : IsTableOf basis a t
    own = record { fragment = cell.fragment; assoc = cell.assoc; joined = cell.joined; of_assoc = cell.of_assoc }

    abbrev state : State
    state = small_link basis.schema.model 0 a cell.assoc

    holds : HoldsLink basis.schema.model 0 a cell.assoc state
    holds = small cell.assoc (assoc_there basis is a t own) (is_independent basis is a t own)

    pub link_clash_shown : (one two : Symbol) → IsTrue (is_clash basis (focus.Link a) t col one two) → FailsBy kind.Clash (of_assoc basis a link_shown)
    link_clash_shown one two told = of_assoc_there kind.Clash link_shown cell.assoc (assoc_there basis is a t own)
        (link_clash_fails basis is a t col place cell state holds one two told state)

    pub link_null_shown : NoneFailsBy basis.schema kind.Clash → (one : Symbol) → IsTrue (is_null_in basis (focus.Link a) t col one) → FailsBy kind.Null (of_assoc basis a link_shown)
    link_null_shown none one told = of_assoc_there kind.Null link_shown cell.assoc (assoc_there basis is a t own)
        (link_null_fails basis is a t col place cell state holds none one told state)

  pub link_disagreement_shown : NoneFailsBy basis.schema kind.Clash → (t : TableId) → IsTableOf basis a t → (name : List ℕ) → IsTrue (disagrees_at basis (focus.Link a) name)
      → IsFragment basis (focus.Link a) name place → FailsBy kind.Disagrees (of_assoc basis a link_shown)
  link_disagreement_shown none t of name told (assoc, here, at) =
      let there : At basis.schema.model.assocs a.index of.assoc = assoc_there basis is a t of in
      let one : assoc ≡ of.assoc = at_once basis.schema.model.assocs a.index assoc of.assoc here there in
      let IsAt : Assoc → Type 0 = λ it. place ≡ place_at name ((plain_link basis.schema.model 0 it).first ++ (plain_link basis.schema.model 0 it).second) [] in
      let shown : State = small_link basis.schema.model 0 a of.assoc in
      let P : Place → Type 0 = λ it. FailsAt basis.schema kind.Disagrees it shown shown in
      of_assoc_there kind.Disagrees link_shown of.assoc there (subst P (sym (subst IsAt one at))
      (link_disagreement_fails basis is a none t of.fragment of.assoc of.joined of.of_assoc shown (small of.assoc there (is_independent basis is a t of)) name told shown))

  -- the state with two links of one entity
  module _ (s : SetId) (at : HostedAssoc basis s) (of : at.host.assoc ≡ a) where
    abbrev host : Host
    host = at.host

    there : At basis.schema.model.assocs a.index at.assoc
    there = let P : AssocId → Type 0 = λ b. At basis.schema.model.assocs b.index at.assoc in subst P of at.is_assoc

    abbrev IsFirstHost : Host → Type 0
    IsFirstHost one = (one.assoc ≡ a) × (one.first_hosts ≡ true)

    Decides-first : Decides (hosts_first basis a at.assoc) ((one : Host) × Contains (basis.hosts at.assoc.first.set) one × IsFirstHost one)
    Decides-first = Decides-some (λ (one : Host). (one.assoc.index == a.index) && one.first_hosts) IsFirstHost
        (λ one. Decides-and (one.assoc.index == a.index) one.first_hosts (Decides-assoc one.assoc a) ((λ so. so), λ so. so)) (basis.hosts at.assoc.first.set)

    -- whether its first end hosts is told by the set of this
    pub first_is : hosts_first basis a at.assoc ≡ host.first_hosts
    first_is = by host.first_hosts refl (at_set basis is s host at.hosts at.assoc at.is_assoc)
      where
        by : (first : Bool) → host.first_hosts ≡ first → (host_end first at.assoc).set ≡ s → hosts_first basis a at.assoc ≡ first
        by true hosts set = Decides-first.1 (host, subst (λ u. Contains (basis.hosts u) host) (sym set) at.hosts, (of, hosts))
        by false hosts set = false_from_ne_true (hosts_first basis a at.assoc) (λ told.
            let found = Decides-first.0 told in
            let one : found.0 ≡ host = one_hosting basis is at.assoc.first.set s found.0 host found.1 at.hosts (found.2.0 ∙ sym of) in
            true≢false (sym found.2.1 ∙ ap (λ (it : Host). it.first_hosts) one ∙ hosts))

    abbrev shared_shown : Assoc → State × Option State
    shared_shown assoc = alone (small_shared basis.schema.model 0 a assoc (hosts_first basis a assoc))

    shared_holds : (partner_end host.first_hosts at.assoc).mult ≡ Many
        → HoldsTwoLinks basis.schema.model 0 a host.first_hosts at.assoc (small_shared basis.schema.model 0 a at.assoc (hosts_first basis a at.assoc))
    shared_holds many =
        let P : Bool → Type 0 = λ first. HoldsTwoLinks basis.schema.model 0 a host.first_hosts at.assoc (small_shared basis.schema.model 0 a at.assoc first) in
        subst P (sym first_is) (small_two_hold basis.schema.model 0 numbered a at.assoc there (independent basis is s host at.hosts at.assoc at.is_assoc) host.first_hosts
        (ap (λ (end : End). end.mult) (sym (partner_side host.first_hosts at.assoc)) ∙ many))

  pub shared_links_shown : HasManyPartners basis a → IsSharedCell basis a place
      → FailsBy kind.Clash (of_assoc basis a (λ assoc. alone (small_shared basis.schema.model 0 a assoc (hosts_first basis a assoc))))
  shared_links_shown so cell =
      let hosts : so.at.host ≡ cell.at.host = one_hosting basis is so.s cell.s so.at.host cell.at.host so.at.hosts cell.at.hosts (so.of_assoc ∙ sym cell.of_assoc) in
      let assocs : so.at.assoc ≡ cell.at.assoc = at_once basis.schema.model.assocs a.index so.at.assoc cell.at.assoc (there so.s so.at so.of_assoc) (there cell.s cell.at cell.of_assoc) in
      let many : (partner_end cell.at.host.first_hosts cell.at.assoc).mult ≡ Many =
      (let P : Host → Assoc → Type 0 = λ one assoc. (partner_end one.first_hosts assoc).mult ≡ Many in
      subst (P cell.at.host) assocs (subst (λ one. P one so.at.assoc) hosts so.many)) in
      let shown : State = small_shared basis.schema.model 0 a cell.at.assoc (hosts_first basis a cell.at.assoc) in
      of_assoc_there kind.Clash (shared_shown cell.s cell.at cell.of_assoc) cell.at.assoc (there cell.s cell.at cell.of_assoc)
      (two_links_fail basis is a place cell shown (shared_holds cell.s cell.at cell.of_assoc many) shown)

  -- the states with a link that nothing maps and without it
  pub unmapped_shown : NoneFailsBy basis.schema kind.Clash → (assoc : Assoc) × IsUnmapped basis.schema a assoc
      → (assoc : Assoc) × At basis.schema.model.assocs a.index assoc × (place ≡ place_at assoc.set_name [] [])
      → FailsBy kind.Same (of_assoc basis a (λ assoc. beside (small_pair basis.schema.model 0 a assoc)))
  unmapped_shown none (assoc, so) (other, here, at) =
      let one : other ≡ assoc = at_once basis.schema.model.assocs a.index other assoc here so.is_assoc in
      let IsAt : Assoc → Type 0 = λ it. place ≡ place_at it.set_name [] [] in
      let both : State × State = small_pair basis.schema.model 0 a assoc in
      let P : Place → Type 0 = λ it. FailsAt basis.schema kind.Same it both.0 both.1 in
      of_assoc_there kind.Same (λ it. beside (small_pair basis.schema.model 0 a it)) assoc so.is_assoc (subst P (sym (subst IsAt one at))
      (unmapped_link_fails basis is none a assoc so both.0 both.1 (small_differ basis.schema.model 0 numbered a assoc so.is_assoc so.independent)))
