-- The state of the entities and links of all sets, and the first key, by set and key, whose rows meet no case.
use Rattle.std.proofs.Common.{◌≡◌, ◌<◌, inl, inr, ℕ, List, [], map, length, get_or, All, Contains, Bool, Option, Some, None, Err, slice_get, refl, sym, ap, subst, ◌∙◌, arith}
use Rattle.std.specs.Global.{Vec}
use Rattle.std.specs.Option.{option_map, option_map_or, unwrap_or}
use Rattle.std.proofs.lemmas.List.{length-map}
use Rattle.std.proofs.lemmas.Option.{slice_get-get_or, slice_get-map, slice_get_within}
use Rattle.emc_base.proofs.Lists.{item_at}
use Rattle.emc_base.proofs.Mapped.{contains_at}
use Rattle.emc_base.proofs.Numbered.{map_contains}
use Rattle.emc_base.proofs.facts.Standing.{place_of_member}
use Rattle.emc_base.proofs.facts.Images.{map_at}
use Rattle.round_trip.specs.Words.{Assoc, AssocId, At, ColId, Entity, EntityModel, EntityType, IsEntity, IsLink, IsState, Link, Place, SetId, State, TableId, Tables, TypeId, Value, entities_in, links_in}
use Rattle.regions.specs.Basis.{Basis}
use Rattle.regions.specs.Regions.{regions_of}
use Rattle.regions.specs.region_laws.IsBasis.{IsBasis}
use Rattle.regions.proofs.region_laws.listing.Listed.{is_listed}
use Rattle.regions.proofs.region_laws.listing.Possible.{type_fits}
use Rattle.case_laws.specs.region_cases.Cases.{case_of, cases_of}
use Rattle.case_laws.specs.declared.region_cases.case.Case.{Case}
use Rattle.region_partition.proofs.set_regions.Sets.{AreOfFirst}
use Rattle.case_laws.specs.candidates.Candidates.{AreViewed, IsCandidate, IsEarlier, IsFirstLack}
use Rattle.case_laws.specs.candidates.ViewedLinks.{AreViewedLinks, IsBefore}
use Rattle.case_laws.specs.candidates.Viewed.{IsViewed, LacksCase}
use Rattle.query_views.specs.Answers.{AreLent, AreLentLinks, AreLentLists, AreLentSets, IsLent, Lends, LendsSet, LendsSets, TellsKey}
use Rattle.query_views.specs.declared.fault.StateFault.{StateFault}
use Rattle.query_views.specs.declared.fault.StateFault.TheVariants as fault
use Rattle.query_views.specs.Lent.{lent_entity, lent_state, shown_links}
use Rattle.query_views.specs.declared.lending.LentEntity.{LentEntity}
use Rattle.query_views.specs.declared.links.lent.LentLinks.{LentLinks}
use Rattle.query_views.specs.declared.loaded.Loaded.{Loaded}
use Rattle.query_views.proofs.Viewed.{met_not_lacking}
use Rattle.query_views.proofs.Zips.{zip_before, zip_beside, zip_made, zip_members}

module _ (basis : Basis) (is_free : TableId → ColId → Bool) (tables : Tables) where
  abbrev model : EntityModel
  model = basis.schema.model

  -- the entities of a set are lent
  abbrev pub AreLentOf : SetId → Vec LentEntity → Type 0
  AreLentOf s lent = AreLent basis is_free tables s lent.items

  -- then the rows at no key of the set lack a case
  no_lack : (s : SetId) (lent : List LentEntity) → AreLent basis is_free tables s lent → (key : List Value) → ¬ LacksCase basis is_free tables s key
  no_lack s lent are key lacks =
      let among : Contains are.keys key = (are.are key).1 lacks.rows in
      let beside = zip_beside (IsLent basis is_free tables s) are.keys lent among.0 key are.each (place_of_member are.keys key among) in
      let is_lent : IsLent basis is_free tables s key beside.0 = beside.2 in
      met_not_lacking basis is_free tables s key beside.0.met.case.now is_lent.first_met lacks

  -- the first key of a set that lacks a case is the first of all, if no earlier set has one
  pub first_of_sets : (i : ℕ) (sets : List (Vec LentEntity)) → AreOfFirst AreLentOf i sets → (place : Place)
      → (lack : (key : List Value) × TellsKey model (record { index = i }) key place × LacksCase basis is_free tables (record { index = i }) key
      × ((other : List Value) → IsBefore other key → ¬ LacksCase basis is_free tables (record { index = i }) other))
      → IsFirstLack basis is_free tables place
  first_of_sets i sets are place (key, told, lacks, first) = record {
    s = s;
    set = told.0;
    key = key;
    is_set = told.1;
    lacks = lacks;
    first = λ u other earlier. by u other earlier;
    told = told.2;
  }
    where
      s : SetId
      s = record { index = i }

      by : (u : SetId) (other : List Value) → IsEarlier u other s key → ¬ LacksCase basis is_free tables u other
      by u other (inl below) lacking =
          let count : length sets ≡ i = are.0 in
          let there = item_at sets u.index (omega (arith, below, count)) in
          no_lack u there.0.items (are.1 u there.0 there.1) other lacking
      by u other (inr same) lacking = first other same.1 (subst (λ (v : SetId). LacksCase basis is_free tables v other) same.0 lacking)

  -- what is told of a set is told of all
  pub lack_all : (i : ℕ) (sets : List (Vec LentEntity)) → AreOfFirst AreLentOf i sets → (fault : StateFault) → LendsSet basis is_free tables (record { index = i }) (Err fault)
      → LendsSets basis is_free tables (Err fault)
  lack_all i sets are (fault.NoCase place) told = first_of_sets i sets are place told
  lack_all i sets are fault.Memory told = tt

  -- where no entities of all sets are lent, no state is
  pub lends_none : (fault : StateFault) → LendsSets basis is_free tables (Err fault) → Lends basis is_free tables (Err fault)
  lends_none (fault.NoCase place) lack = lack
  lends_none fault.Memory told = tt

  module _ (is : IsBasis basis) where
    -- what a query view gives is an entity of the model
    is_entity : (s : SetId) (key : List Value) (entity : Entity) → IsViewed basis is_free tables s key entity → IsEntity model entity
    is_entity s key entity viewed =
        let case = viewed.case in
        let among : Contains (cases_of is_free basis s) case = contains_at (cases_of is_free basis s) viewed.first_met.place case viewed.first_met.is_case in
        let found = map_contains (case_of is_free basis) (regions_of basis s) case among in
        let set = is_listed basis s found.0 found.1 in
        let fits = type_fits basis is s found.0 found.1 set.set set.is_set in
        let type = fits.0.0 in
        let typed : entity.ty ≡ found.0.ty = viewed.told.typed ∙ ap (λ (c : Case). c.region.ty) (sym found.2) in
        let here : At model.types entity.ty.index type = subst (λ (t : TypeId). At model.types t.index type) (sym typed) fits.0.1 in
        (type, here, viewed.told.size ∙ ap length (ap (λ (found : Option EntityType). option_map_or (λ t. t.props) found []) here))

    all_entities : (s : SetId) (entities : List Entity) → AreViewed basis is_free tables s entities → All (IsEntity model) entities
    all_entities s entities viewed k d within =
        let here : At entities k (get_or entities k d) = slice_get-get_or entities k d within in
        let key = zip_before (IsViewed basis is_free tables s) viewed.keys entities k (get_or entities k d) viewed.each here in
        is_entity s key.0 (get_or entities k d) key.2

    -- the entities that are lent are those that the query view gives
    are_viewed : (s : SetId) (lent : List LentEntity) → AreLent basis is_free tables s lent → AreViewed basis is_free tables s (map lent_entity lent)
    are_viewed s lent are = record {
      keys = are.keys;
      are = are.are;
      rising = are.rising;
      each = zip_made (IsViewed basis is_free tables s) lent_entity are.keys lent
          (zip_members (IsLent basis is_free tables s) (λ key one. IsViewed basis is_free tables s key (lent_entity one)) are.keys lent
          (λ key one among so. record { case = one.met.case.now; first_met = so.first_met; told = so.told }) are.each);
    }

    module _ (loaded : Loaded) (are : AreLentSets basis is_free tables loaded.sets.items) (linked : AreLentLists basis is_free tables loaded.links.items) where
      abbrev state : State
      state = lent_state loaded

      viewed : (s : SetId) (entities : List Entity) → At state.entities s.index entities → AreViewed basis is_free tables s entities
      viewed s entities here =
          let found = map_at (λ (of_set : Vec LentEntity). map lent_entity of_set.items) loaded.sets.items s.index entities here in
          subst (AreViewed basis is_free tables s) found.2 (are_viewed s found.0.items (are.each s found.0 found.1))

      entities : (s : SetId) → All (IsEntity model) (entities_in state s)
      entities s = by (slice_get state.entities s.index) refl
        where
          by : (found : Option (List Entity)) → slice_get state.entities s.index ≡ found → All (IsEntity model) (unwrap_or found [])
          by None here = λ k d within. absurd (omega arith)
          by (Some entities) here = all_entities s entities (viewed s entities here)

      -- the links of an association
      links_there : (a : AssocId) (assoc : Assoc) → At model.assocs a.index assoc
          → (of_assoc : LentLinks) × (shown_links of_assoc ≡ links_in state a) × AreLentLinks basis is_free tables a of_assoc
      links_there a assoc here =
          let inside : a.index < length model.assocs = slice_get_within model.assocs a.index assoc here in
          let long = linked.count in
          let there = item_at loaded.links.items a.index (omega (arith, inside, long)) in
          let is : slice_get state.links a.index ≡ Some (shown_links there.0) = slice_get-map shown_links loaded.links.items a.index ∙ ap (option_map shown_links) there.1 in
          (there.0, sym (ap (λ (found : Option (List Link)). unwrap_or found []) is), linked.each a there.0 there.1)

      shape : IsState model state
      shape = record {
        sets = length-map loaded.sets.items (λ (of_set : Vec LentEntity). map lent_entity of_set.items) ∙ are.count;
        assocs = length-map loaded.links.items shown_links ∙ linked.count;
        entities = entities;
        links = λ a assoc here. (let found = links_there a assoc here in subst (All (IsLink model assoc)) found.1 (found.2.fit assoc here));
      }

      -- the state of the lent entities and links of all sets is the candidate
      pub is_candidate : IsCandidate basis is_free tables state
      is_candidate = record {
        entities = record {
          shape = shape;
          sets = λ s set here.
              (let inside : s.index < length model.sets = slice_get_within model.sets s.index set here in
              let long = shape.sets in
              let there = item_at state.entities s.index (omega (arith, inside, long)) in
              subst (AreViewed basis is_free tables s) (sym (ap (λ (found : Option (List Entity)). unwrap_or found []) there.1)) (viewed s there.0 there.1));
        };
        assocs = λ a assoc here. (let found = links_there a assoc here in subst (AreViewedLinks basis is_free tables a) found.1 found.2.viewed);
      }
