-- The parts of partners' keys are those that the rows at the key show.
use Rattle.std.proofs.Common.{◌≡◌, ◌==◌, List, find, slice_get, All, Bool, not, false, Contains, Option, Some, None, refl, sym, ap, subst, ◌∙◌}
use Rattle.std.specs.Option.{option_map_or}
use Rattle.std.proofs.lemmas.List.Elements.{All-contains}
use Rattle.emc_base.proofs.Lists.{all_from_members, at_once}
use Rattle.round_trip.specs.Words.{SetId, TableId, ColId, AssocId, PropId, Assoc, End, Hosted, Null, Tables, Value, At, key_props, value_beside}
use Rattle.schema_laws.proofs.sound_demand.Keys.{keys_apart}
use Rattle.regions.specs.declared.region.Region.{Region}
use Rattle.regions.specs.declared.pattern.Symbol.{Symbol}
use Rattle.regions.specs.declared.pattern.Symbol.TheVariants as symbol
use Rattle.regions.specs.Basis.{Basis, Host, partner_end}
use Rattle.regions.specs.Settled.{multi, possible}
use Rattle.regions.specs.region_laws.IsBasis.{IsBasis, IsHostOf}
use Rattle.regions.proofs.region_laws.listing.Listed.{set_is}
use Rattle.schema_laws.proofs.state_demand.lists.Ids.{Decides-assoc}
use Rattle.regions.specs.region_laws.pattern.Allowed.{end_at, partner_parts}
use Rattle.regions.proofs.region_laws.pattern.Choices.{found_passes, none_passes}
use Rattle.regions.proofs.region_laws.pattern.Ends.{other_end}
use Rattle.case_laws.specs.declared.region_cases.case.Case.{Case}
use Rattle.case_laws.specs.region_cases.Cases.{case_of}
use Rattle.case_laws.specs.region_cases.Meets.{HaveLinksOf, IsLinkOf, ShowsPart}
use Rattle.case_laws.specs.Reading.{DecidesFree}
use Rattle.case_laws.specs.Told.{IsMet, IsReadable}
use Rattle.case_laws.proofs.lists.Chosen.{AreChosen, chosen_values}
use Rattle.case_laws.proofs.shown.Links.{part_listed}
use Rattle.case_laws.proofs.shown.Present.{present_cell}
use Rattle.case_laws.proofs.shown.Shown.{same_host, shows, shows_part}

module _ (is_free : TableId → ColId → Bool) (basis : Basis) (is : IsBasis basis) (decides : DecidesFree basis.schema is_free) (s : SetId) (region : Region)
    (readable : IsReadable basis s region) (tables : Tables) (key : List Value) (met : IsMet basis is_free s region tables key) where
  abbrev case : Case
  case = case_of is_free basis region

  abbrev Shown : AssocId → PropId → Value → Type 0
  Shown = ShowsPart basis tables key case

  module _ (host : Host) (is_host : Contains (basis.hosts region.set) host) (linked : Contains region.linked host.assoc) where
    abbrev by : IsHostOf basis.schema s host
    by = (is.hosts s host).0 (subst (λ u. Contains (basis.hosts u) host) (set_is basis s region readable.listed) is_host)

    abbrev keys : List PropId
    keys = key_props basis.schema.model (partner_end host.first_hosts by.assoc).ty

    -- each part of the partner's key is shown
    part_there : (p : PropId) → Contains keys p → (value : Value) × Shown host.assoc p value
    part_there p among =
        let found = part_listed basis is s region readable.listed host is_host linked by.assoc by.is_assoc p among in
        let one : Symbol = symbol.End host.assoc (not host.first_hosts) p in
        let row = present_cell is_free basis region tables key met.meets found.0 found.1 found.2 found.3 in
        let several : possible basis.schema.model region.atoms one ≡ multi false = refl in
        let shown = shows is_free basis is decides s region readable.listed readable.clear tables key found.0 row.0 row.1 found.1 found.2 found.3 one found.4 false several in
        (_, shows_part is_free basis is decides s region readable.listed readable.clear tables key host.assoc (not host.first_hosts) p _ shown)

    -- so a link is told
    pub link_there : (hosted : Hosted) × IsLinkOf basis tables key case hosted × (hosted.assoc ≡ host.assoc)
    link_there =
        let chosen : AreChosen (Shown host.assoc) keys = chosen_values (Shown host.assoc) keys
        (keys_apart basis.schema.model is.sound.model (partner_end host.first_hosts by.assoc).ty) part_there in
        let hosted : Hosted = record { assoc = host.assoc; partner = chosen.values } in (
          hosted,
          record {
            linked = linked;
            host = host;
            assoc = by.assoc;
            is_host = is_host;
            of_assoc = refl;
            is_assoc = by.is_assoc;
            size = chosen.size;
            parts = all_from_members (λ (p : PropId). Shown host.assoc p (value_beside p keys chosen.values)) keys chosen.each;
          },
          refl,
        )

  -- the parts that links tell are those that are shown
  module _ (links : List Hosted) (told : HaveLinksOf basis tables key case links) (host : Host) (is_host : Contains (basis.hosts region.set) host)
      (linked : Contains region.linked host.assoc) (assoc : Assoc) (here : At basis.schema.model.assocs host.assoc.index assoc) where
    abbrev of_assoc : Hosted → Bool
    of_assoc hosted = hosted.assoc.index == host.assoc.index

    abbrev props : List PropId
    props = key_props basis.schema.model (partner_end host.first_hosts assoc).ty

    value_told : (hosted : Hosted) → find of_assoc links ≡ Some hosted → (p : PropId)
        → partner_parts basis.schema.model links host.assoc (not host.first_hosts) p ≡ value_beside p props hosted.partner
    value_told hosted found p =
        let of_link : Option Assoc → Hosted → Value = λ at one.
        option_map_or (λ other. value_beside p (key_props basis.schema.model (end_at (not host.first_hosts) other).ty) one.partner) at Null in
        ap (λ one. option_map_or (of_link (slice_get basis.schema.model.assocs host.assoc.index)) one Null) found
        ∙ ap (λ at. of_link at hosted) here
        ∙ ap (λ (end : End). value_beside p (key_props basis.schema.model end.ty) hosted.partner) (other_end host.first_hosts assoc)

    -- a link that is told shows the parts of its partner
    told_part : (hosted : Hosted) → IsLinkOf basis tables key case hosted → hosted.assoc ≡ host.assoc → (p : PropId) → Contains props p
        → Shown host.assoc p (value_beside p props hosted.partner)
    told_part hosted link same p among =
        let hosts : link.host ≡ host = same_host is_free basis is decides s region readable.listed readable.clear tables key link.host host link.is_host is_host
        (link.of_assoc ∙ same) in
        let Here : Host → Type 0 = λ one. At basis.schema.model.assocs one.assoc.index link.assoc in
        let assocs : link.assoc ≡ assoc = at_once basis.schema.model.assocs host.assoc.index link.assoc assoc (subst Here hosts link.is_assoc) here in
        let keys_are : key_props basis.schema.model (partner_end link.host.first_hosts link.assoc).ty ≡ props =
        λ k. key_props basis.schema.model (partner_end (hosts k).first_hosts (assocs k)).ty in
        let Parts : AssocId → List PropId → Type 0 = λ a list. All (λ q. Shown a q (value_beside q list hosted.partner)) list in
        let parts : Parts host.assoc props = subst (λ a. Parts a props) same (subst (Parts hosted.assoc) keys_are link.parts) in
        All-contains (λ q. Shown host.assoc q (value_beside q props hosted.partner)) props p parts among

    pub part_shows : (p : PropId) → Contains props p → Shown host.assoc p (partner_parts basis.schema.model links host.assoc (not host.first_hosts) p)
    part_shows p among = by_found (find of_assoc links) refl
      where
        by_found : (found : Option Hosted) → find of_assoc links ≡ found → Shown host.assoc p (partner_parts basis.schema.model links host.assoc (not host.first_hosts) p)
        by_found None none =
            let link = link_there host is_host linked in
            absurd (none_passes of_assoc links link.0 none ((told.tells link.0).1 link.1) ((Decides-assoc link.0.assoc host.assoc).1 link.2))
        by_found (Some hosted) found =
            let passes = found_passes of_assoc links hosted found in
            let P : Value → Type 0 = λ value. Shown host.assoc p value in
            subst P (sym (value_told hosted found p))
            (told_part hosted ((told.tells hosted).0 passes.0) ((Decides-assoc hosted.assoc host.assoc).0 passes.1) p among)
