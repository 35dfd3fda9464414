-- The keys that are gathered from entities are those of the links that the query views give at the entities' keys.
use Rattle.std.proofs.Common.{◌≡◌, ◌==◌, ⊎_elim, ℕ, List, ◌++◌, map, filter, All, Bool, true, false, Contains, refl, sym, ap, subst, ◌∙◌, ◌<◌, arith}
use Rattle.std.proofs.lemmas.Bool.{cases_lt, cases_eq}
use Rattle.emc_base.proofs.FoundItems.{contains_flat_map}
use Rattle.emc_base.proofs.Joined.{in_flat_map}
use Rattle.emc_base.proofs.Lists.{all_from_members, at_once}
use Rattle.emc_base.proofs.Mapped.{contains_at, contains_filter, contains_map}
use Rattle.emc_base.proofs.Numbered.{filter_contains, map_contains}
use Rattle.emc_base.proofs.facts.Standing.{place_of_member}
use Rattle.round_trip.specs.Words.{AssocId, At, ColId, Hosted, Link, SetId, TableId, Tables, Value}
use Rattle.schema_laws.proofs.state_demand.lists.Ids.{Decides-assoc}
use Rattle.regions.specs.Basis.{Basis, Host}
use Rattle.region_states.specs.focus.Given.{hosted_link}
use Rattle.case_laws.specs.region_cases.Cases.{cases_of}
use Rattle.case_laws.specs.region_cases.Meets.{IsLinkOf, MeetsCase}
use Rattle.case_laws.specs.declared.region_cases.case.Case.{Case}
use Rattle.case_laws.specs.candidates.Rows.{HasRows, shown_rows}
use Rattle.case_laws.specs.candidates.Viewed.{IsFirstMet, IsViewedLink}
use Rattle.case_laws.specs.candidates.ViewedLinks.{IsHostedView}
use Rattle.query_cases.specs.declared.case_reading.reading.LinkReading.{LinkReading}
use Rattle.keyed_rows.specs.row_groups.Shown.{shown_cells}
use Rattle.query_cases.specs.case_reading.Links.{read_link}
use Rattle.query_cases.specs.case_reading.Sources.{cell_at}
use Rattle.query_views.specs.Answers.{AreLent, IsLent}
use Rattle.query_views.specs.LinkKeys.{HaveLinkCells, host_keys, hosted_keys, keys_hosted_by}
use Rattle.query_views.specs.declared.lending.LentEntity.{LentEntity}
use Rattle.query_views.proofs.Zips.{before_holds, zip_before, zip_beside}

-- rows meet one case first
one_first : (basis : Basis) (is_free : TableId → ColId → Bool) (tables : Tables) (s : SetId) (key : List Value) (one other : Case)
    → IsFirstMet basis is_free tables s key one → IsFirstMet basis is_free tables s key other → one ≡ other
one_first basis is_free tables s key one other first also = ⊎_elim
    (λ (same : first.place ≡ also.place).
    let Here : ℕ → Type 0 = λ place. At (cases_of is_free basis s) place one in
    at_once (cases_of is_free basis s) also.place one other (subst Here same first.is_case) also.is_case)
    (λ not_same. absurd (⊎_elim
    (λ (less : first.place < also.place). before_holds Passed (cases_of is_free basis s) also.place also.first first.place one less first.is_case first.meets)
    (λ more. before_holds Passed (cases_of is_free basis s) first.place first.first also.place other (omega (arith, more, not_same)) also.is_case also.meets)
    (cases_lt first.place also.place)))
    (cases_eq first.place also.place)
  where
    Passed : Case → Type 0
    Passed case = ¬ MeetsCase basis tables key case

-- both keys of a link that an entity hosts stand as they do in the link
host_keys_are : (first_hosts : Bool) (lent : LentEntity) (link : LinkReading) (key partner : List Value) → shown_cells lent.key ≡ key
    → map (cell_at (shown_rows lent.rows.items)) link.parts ≡ partner
    → host_keys first_hosts lent link ≡ (hosted_link first_hosts key partner).first ++ (hosted_link first_hosts key partner).second
host_keys_are true lent link key partner same alike = λ i. same i ++ alike i
host_keys_are false lent link key partner same alike = λ i. alike i ++ same i

-- each part of a link's key that is read of lent entities stands in a row
pub cells_held : (basis : Basis) (is_free : TableId → ColId → Bool) (tables : Tables) (s : SetId) (lent : List LentEntity) → AreLent basis is_free tables s lent → All HaveLinkCells lent
cells_held basis is_free tables s lent are = all_from_members HaveLinkCells lent (λ entity has.
    let beside = zip_before (IsLent basis is_free tables s) are.keys lent has.0 entity are.each (place_of_member lent entity has) in
    beside.2.places)

module _ (basis : Basis) (is_free : TableId → ColId → Bool) (tables : Tables) (a : AssocId) (s : SetId) (host : Host) (is_host : Contains (basis.hosts s) host)
    (of_assoc : host.assoc ≡ a) (lent : List LentEntity) (are : AreLent basis is_free tables s lent) where
  abbrev IsView : Link → Type 0
  IsView = IsHostedView basis is_free tables a

  abbrev of_this : LinkReading → Bool
  of_this link = link.assoc.index == a.index

  -- the keys of a link that is given
  abbrev IsGiven : List Value → Type 0
  IsGiven both = (link : Link) × IsView link × (both ≡ link.first ++ link.second)

  given : (entity : LentEntity) → Contains lent entity → (both : List Value) → Contains (keys_hosted_by a host.first_hosts entity) both → IsGiven both
  given entity among both has =
      let i = among.0 in
      let beside = zip_before (IsLent basis is_free tables s) are.keys lent i entity are.each (place_of_member lent entity among) in
      let key : List Value = beside.0 in
      let is : IsLent basis is_free tables s key entity = beside.2 in
      let links : List LinkReading = entity.met.reading.now.links in
      let rows = shown_rows entity.rows.items in
      let found = map_contains (host_keys host.first_hosts entity) (filter of_this links) both has in
      let link : LinkReading = found.0 in
      let passed = filter_contains of_this links link found.1 in
      let hosted : Hosted = read_link rows link in
      let of_link : hosted.assoc ≡ a = (Decides-assoc link.assoc a).0 passed.1 in (
        hosted_link host.first_hosts key hosted.partner,
        record {
          s = s;
          key = key;
          rows = (are.are key).0 (contains_at are.keys i key beside.1);
          host = host;
          is_host = is_host;
          of_assoc = of_assoc;
          hosted = hosted;
          viewed = record {
            case = entity.met.case.now;
            first_met = is.first_met;
            told = (is.links.tells hosted).0 (contains_map (read_link rows) links link passed.0);
          };
          of_host = of_link;
          is = refl;
        },
        sym found.2 ∙ host_keys_are host.first_hosts entity link key hosted.partner is.at_key refl,
      )

  pub all_given : (both : List Value) → Contains (hosted_keys a host.first_hosts lent) both → IsGiven both
  all_given both has =
      let found = in_flat_map (keys_hosted_by a host.first_hosts) lent both has in
      given found.0 found.1 both found.2

  -- and each link that is given has its keys there, if no other set hosts the association
  module _ (only : (u : SetId) (other : Host) → Contains (basis.hosts u) other → other.assoc ≡ a → (u ≡ s) × (other ≡ host)) (link : Link) (view : IsView link) where
    there : (u : SetId) → u ≡ s → HasRows basis.schema tables u view.key → IsViewedLink basis is_free tables u view.key view.hosted
        → link ≡ hosted_link host.first_hosts view.key view.hosted.partner → Contains (hosted_keys a host.first_hosts lent) (link.first ++ link.second)
    there u same rows viewed is =
        let Rows : SetId → Type 0 = λ v. HasRows basis.schema tables v view.key in
        let Viewed : SetId → Type 0 = λ v. IsViewedLink basis is_free tables v view.key view.hosted in
        let here : Viewed s = subst Viewed same viewed in
        let among : Contains are.keys view.key = (are.are view.key).1 (subst Rows same rows) in
        let beside = zip_beside (IsLent basis is_free tables s) are.keys lent among.0 view.key are.each (place_of_member are.keys view.key among) in
        let entity : LentEntity = beside.0 in
        let of_entity : IsLent basis is_free tables s view.key entity = beside.2 in
        let links : List LinkReading = entity.met.reading.now.links in
        let rows_there = shown_rows entity.rows.items in
        let case : here.case ≡ entity.met.case.now = one_first basis is_free tables s view.key here.case entity.met.case.now here.first_met of_entity.first_met in
        let Tells : Case → Type 0 = λ told. IsLinkOf basis tables view.key told view.hosted in
        let read = map_contains (read_link rows_there) links view.hosted ((of_entity.links.tells view.hosted).1 (subst Tells case here.told)) in
        let passes : of_this read.0 ≡ true = (Decides-assoc read.0.assoc a).1 (ap (λ (told : Hosted). told.assoc) read.2 ∙ view.of_host) in
        let both : host_keys host.first_hosts entity read.0 ≡ link.first ++ link.second =
        host_keys_are host.first_hosts entity read.0 view.key view.hosted.partner of_entity.at_key (ap (λ (told : Hosted). told.partner) read.2)
        ∙ (λ i. (sym is i).first ++ (sym is i).second) in
        contains_flat_map (keys_hosted_by a host.first_hosts) lent entity (link.first ++ link.second) (contains_at lent among.0 entity beside.1)
        (subst (Contains (keys_hosted_by a host.first_hosts entity)) both
        (contains_map (host_keys host.first_hosts entity) (filter of_this links) read.0 (contains_filter of_this links read.0 read.1 passes)))

    pub gathered : Contains (hosted_keys a host.first_hosts lent) (link.first ++ link.second)
    gathered =
        let own = only view.s view.host view.is_host view.of_assoc in
        let Is : Host → Type 0 = λ one. link ≡ hosted_link one.first_hosts view.key view.hosted.partner in
        there view.s own.0 view.rows view.viewed (subst Is own.1 view.is)
