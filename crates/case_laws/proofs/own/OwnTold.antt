-- The rows of an entity tell the entity and the links that it hosts.
use Rattle.std.proofs.Common.{◌≡◌, List, [], length, Bool, true, false, not, Contains, refl, sym, ap, subst, ◌∙◌}
use Rattle.std.specs.Option.{option_map_or}
use Rattle.std.proofs.lemmas.List.Elements.{All-contains}
use Rattle.emc_base.proofs.Lists.{all_from_members, only_member}
use Rattle.emc_base.proofs.Mapped.{contains_filter}
use Rattle.emc_base.proofs.Numbered.{filter_contains}
use Rattle.emc_base.proofs.facts.Tests.{not_is}
use Rattle.round_trip.specs.Words.{SetId, TableId, ColId, PropId, Assoc, Entity, EntityType, Hosted, IsEntity, IsLegal, IsLink, Link, Null, State, Tables, Value, entities_in, key_of, key_props, links_in, props_of, value_beside, value_of}
use Rattle.condition_logic.specs.declared.atoms.Atom.{Atom}
use Rattle.condition_logic.specs.declared.atoms.Atom.TheVariants as atom
use Rattle.condition_logic.specs.declared.atoms.AtomOf.{AtomOf}
use Rattle.round_trip.specs.soundness.mappings.Joined.{prop}
use Rattle.schema_laws.specs.state_demand.Selecting.{same_key}
use Rattle.schema_laws.proofs.state_demand.lists.Lists.{any_of, head_stands}
use Rattle.schema_laws.proofs.state_demand.writings.Selecting.{Decides-key}
use Rattle.regions.specs.declared.region.Region.{Region}
use Rattle.regions.specs.declared.pattern.Symbol.{Symbol}
use Rattle.regions.specs.declared.pattern.Symbol.TheVariants as symbol
use Rattle.regions.specs.Atoms.{LiesIn}
use Rattle.regions.specs.Basis.{Basis, Host, IsHostedLink, host_key, partner_end, partner_key}
use Rattle.regions.specs.Regions.{TellsLinks}
use Rattle.regions.specs.Settled.{multi, possible}
use Rattle.regions.specs.region_laws.IsBasis.{IsBasis, IsHostOf}
use Rattle.regions.specs.region_laws.Partners.{HasFewPartners}
use Rattle.regions.specs.region_laws.RegionAt.{links_at}
use Rattle.regions.proofs.region_laws.listing.Listed.{set_is}
use Rattle.case_laws.specs.filled_rows.Demanded.{IsHeldWith}
use Rattle.conflict_laws.specs.rival.Alike.{IsClear}
use Rattle.case_laws.specs.declared.region_cases.case.Case.{Case}
use Rattle.case_laws.specs.region_cases.Cases.{case_of}
use Rattle.case_laws.specs.region_cases.Meets.{HaveLinksOf, IsEntityOf, IsLinkOf, ShowsPart}
use Rattle.case_laws.specs.Reading.{DecidesFree, HasStateTables}
use Rattle.case_laws.proofs.shown.Links.{part_listed}
use Rattle.case_laws.proofs.shown.Present.{present_cell}
use Rattle.case_laws.proofs.own.Own.{are_alone, held_at, meets, part, prop_value, symbol_value}
use Rattle.case_laws.proofs.shown.Shown.{ShowsSymbol, one_link, shows, shows_part}

-- an entity has a value for each property of its type
pub entity_size : (basis : Basis) (entity : Entity) → IsEntity basis.schema.model entity → length entity.values ≡ length (props_of basis.schema.model entity.ty)
entity_size basis entity (type, here, size) = size ∙ ap (λ found. length (option_map_or (λ (one : EntityType). one.props) found [])) (sym here)

-- a link's key at the end that doesn't host has a value for each part
partner_size : (basis : Basis) (assoc : Assoc) (link : Link) → IsLink basis.schema.model assoc link → (first_hosts : Bool)
    → length (partner_key first_hosts link) ≡ length (key_props basis.schema.model (partner_end first_hosts assoc).ty)
partner_size basis assoc link is_link true = is_link.second
partner_size basis assoc link is_link false = is_link.first

module _ (is_free : TableId → ColId → Bool) (basis : Basis) (is : IsBasis basis) (decides : DecidesFree basis.schema is_free) (state : State)
    (legal : IsLegal basis.schema.model state) (tables : Tables) (has : HasStateTables basis.schema state tables) (s : SetId) (few : HasFewPartners basis s) (entity : Entity)
    (links : List Hosted) (region : Region) (held : IsHeldWith basis state s entity links region) (clear : IsClear basis region) where
  abbrev case : Case
  case = case_of is_free basis region

  abbrev the_key : List Value
  the_key = key_of basis.schema.model entity

  abbrev Lies : AtomOf → Type 0
  Lies told = LiesIn (basis.constants (prop told.prop)) told.atom (value_of basis.schema.model entity told.prop)

  lies : (told : AtomOf) → Contains region.atoms told → Lies told
  lies told among = All-contains Lies region.atoms told held.holds.atoms among

  lies_as : (told : AtomOf) → Contains region.atoms told → (a : Atom) → told.atom ≡ a → LiesIn (basis.constants (prop told.prop)) a (value_of basis.schema.model entity told.prop)
  lies_as told among a same =
      let P : Atom → Type 0 = λ one. LiesIn (basis.constants (prop told.prop)) one (value_of basis.schema.model entity told.prop) in
      subst P same (lies told among)

  pub entity_told : IsEntityOf basis tables the_key case entity
  entity_told = record {
    typed = held.holds.typed;
    size = entity_size basis entity (All-contains (IsEntity basis.schema.model) (entities_in state s) entity (legal.shape.entities s) held.stands);
    shown = λ p value shown. sym (prop_value is_free basis is decides state legal tables has s few entity links region held clear p value shown);
    nulls = all_from_members (λ (told : AtomOf). told.atom ≡ atom.Null → value_of basis.schema.model entity told.prop ≡ Null) region.atoms
        (λ told among same. lies_as told among atom.Null same);
    single = λ value. all_from_members (λ (told : AtomOf). told.atom ≡ atom.Is value → value_of basis.schema.model entity told.prop ≡ value) region.atoms
        (λ told among same. lies_as told among (atom.Is value) same);
  }

  -- the links of a host at the entity
  module _ (host : Host) (is_host : Contains (basis.hosts s) host) where
    abbrev in_set : Contains (basis.hosts region.set) host
    in_set = subst (λ u. Contains (basis.hosts u) host) (sym (set_is basis s region held.listed)) is_host

    abbrev by : IsHostOf basis.schema s host
    by = (is.hosts s host).0 is_host

    abbrev keys : List PropId
    keys = key_props basis.schema.model (partner_end host.first_hosts by.assoc).ty

    abbrev seen : Link → Hosted
    seen link = record { assoc = host.assoc; partner = partner_key host.first_hosts link }

    abbrev at_key : Link → Bool
    at_key link = same_key (host_key host.first_hosts link) the_key

    flagged : (hosted : Hosted) → Contains links hosted → hosted.assoc ≡ host.assoc → Contains region.linked host.assoc
    flagged hosted among same =
        (All-contains (TellsLinks basis region links) (basis.hosts region.set) host held.holds.flags in_set by.assoc by.is_assoc (few host is_host by.assoc by.is_assoc)).1
        (any_of (λ (one : Hosted). one.assoc ≡ host.assoc) links hosted among same)

    -- a part of its partner's key is shown
    part_there : Contains region.linked host.assoc → (link : Link) → Contains (links_at state host the_key) link → (p : PropId) → Contains keys p
        → ShowsPart basis tables the_key case host.assoc p (value_beside p keys (partner_key host.first_hosts link))
    part_there linked link among p part_of =
        let found = part_listed basis is s region held.listed host in_set linked by.assoc by.is_assoc p part_of in
        let one : Symbol = symbol.End host.assoc (not host.first_hosts) p in
        let row = present_cell is_free basis region tables the_key (meets is_free basis is decides state legal tables has s few entity links region held clear) found.0 found.1 found.2 found.3 in
        let several : possible basis.schema.model region.atoms one ≡ multi false = refl in
        let shown = shows is_free basis is decides s region held.listed clear tables the_key found.0 row.0 row.1 found.1 found.2 found.3 one found.4 false several in
        let told = (held_at is_free basis is decides state legal tables has s few entity links region held clear).partners.one host is_host linked in
        let same : link ≡ told.0 = only_member (links_at state host the_key) told.0 link told.1 among in
        let P : Value → Type 0 = λ value. ShowsSymbol is_free basis is decides s region held.listed clear tables the_key one value in
        let value : _ ≡ value_beside p keys (partner_key host.first_hosts link) =
        symbol_value is_free basis is decides state legal tables has s few entity links region held clear one _ shown
        ∙ ap (λ b. part is_free basis is decides state legal tables has s few entity links region held clear host.assoc b p) (not_is host.first_hosts)
        ∙ told.2 by.assoc by.is_assoc p part_of ∙ ap (λ one_link. value_beside p keys (partner_key host.first_hosts one_link)) (sym same) in
        shows_part is_free basis is decides s region held.listed clear tables the_key host.assoc (not host.first_hosts) p
        (value_beside p keys (partner_key host.first_hosts link)) (subst P value shown)

    -- so a link that it hosts is told
    link_told : Contains region.linked host.assoc → (link : Link) → Contains (links_at state host the_key) link → IsLinkOf basis tables the_key case (seen link)
    link_told linked link among = record {
      linked = linked;
      host = host;
      assoc = by.assoc;
      is_host = in_set;
      of_assoc = refl;
      is_assoc = by.is_assoc;
      size = partner_size basis by.assoc link (All-contains (IsLink basis.schema.model by.assoc) (links_in state host.assoc) link
          (legal.shape.links host.assoc by.assoc by.is_assoc) (filter_contains at_key (links_in state host.assoc) link among).0) host.first_hosts;
      parts = all_from_members (λ (p : PropId). ShowsPart basis tables the_key case host.assoc p (value_beside p keys (partner_key host.first_hosts link))) keys
          (part_there linked link among);
    }

  hosted_told : (hosted : Hosted) → Contains links hosted → IsLinkOf basis tables the_key case hosted
  hosted_told hosted among =
      let at : IsHostedLink state (basis.hosts s) the_key hosted = (held.hosted.tells hosted).0 among in
      let same : hosted.assoc ≡ at.host.assoc = ap (λ (one : Hosted). one.assoc) at.seen in
      let there : Contains (links_at state at.host the_key) at.link = contains_filter (at_key at.host at.is_host) (links_in state at.host.assoc) at.link at.stands
      ((Decides-key (host_key at.host.first_hosts at.link) the_key).1 at.at_key) in
      subst (IsLinkOf basis tables the_key case) (sym at.seen) (link_told at.host at.is_host (flagged at.host at.is_host hosted among same) at.link there)

  told_hosted : (hosted : Hosted) → IsLinkOf basis tables the_key case hosted → Contains links hosted
  told_hosted hosted told =
      let host : Host = told.host in
      let is_host : Contains (basis.hosts s) host = subst (λ u. Contains (basis.hosts u) host) (set_is basis s region held.listed) told.is_host in
      let linked : Contains region.linked host.assoc = subst (Contains region.linked) (sym told.of_assoc) told.linked in
      let one = (held_at is_free basis is decides state legal tables has s few entity links region held clear).partners.one host is_host linked in
      let among : Contains (links_at state host the_key) one.0 = subst (λ list. Contains list one.0) (sym one.1) (head_stands one.0 []) in
      let kept = filter_contains (at_key host is_host) (links_in state host.assoc) one.0 among in
      let here : Contains links (seen host is_host one.0) = (held.hosted.tells (seen host is_host one.0)).1 (record {
        host = host;
        link = one.0;
        is_host = is_host;
        stands = kept.0;
        at_key = (Decides-key (host_key host.first_hosts one.0) the_key).0 kept.1;
        seen = refl;
      }) in
      let same : seen host is_host one.0 ≡ hosted = one_link is_free basis is decides s region held.listed clear tables the_key
      (are_alone is_free basis is decides state legal tables has s few entity links region held clear) (seen host is_host one.0) hosted
      (link_told host is_host linked one.0 among) told told.of_assoc in
      subst (Contains links) same here

  pub links_told : HaveLinksOf basis tables the_key case links
  links_told = record { tells = λ hosted. (hosted_told hosted, told_hosted hosted) }
