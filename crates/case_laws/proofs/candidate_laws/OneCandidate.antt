-- Tables have one candidate at most.
use Rattle.std.proofs.Common.{◌≡◌, ◌↔◌, ⊎_elim, inl, inr, ℕ, ◌<◌, List, [], ◌∷◌, length, get_or, AllPairs, Bool, Contains, refl, sym, ap, subst, ◌∙◌, slice_get, unwrap_or}
use Rattle.std.specs.Ordering.{ordering_reverse}
use Rattle.std.specs.declared.cmp.Ordering.TheVariants.{Greater, Less}
use Rattle.std.specs.List.{AllZip}
use Rattle.std.proofs.lemmas.List.{get_or_default, same_lists}
use Rattle.std.proofs.lemmas.List.Elements.{All-contains}
use Rattle.std.proofs.lemmas.Option.{unwrap_or-slice_get}
use Rattle.emc_base.specs.OrderLaws.{key_cmp_total}
use Rattle.emc_base.proofs.Lists.{item_at}
use Rattle.emc_base.proofs.Mapped.{contains_at}
use Rattle.emc_base.proofs.Numbered.{map_contains}
use Rattle.round_trip.specs.Words.{SetId, TableId, ColId, AssocId, Assoc, Entity, EntitySet, At, Hosted, Link, RoundTrips, State, Tables, Value, entities_in, links_in}
use Rattle.cells.specs.Limits.{IsWithinLimits}
use Rattle.schema_laws.proofs.state_demand.lists.Lists.{head_stands, member_cases, none_in_nil, tail_stands}
use Rattle.regions.specs.declared.region.Region.{Region}
use Rattle.regions.specs.Basis.{Basis}
use Rattle.regions.specs.Regions.{regions_of}
use Rattle.regions.specs.region_laws.IsBasis.{IsBasis}
use Rattle.regions.proofs.region_laws.lists.Choices.{pairs_head, pairs_tail}
use Rattle.case_laws.specs.declared.region_cases.case.Case.{Case}
use Rattle.case_laws.specs.region_cases.Cases.{case_of, cases_of}
use Rattle.case_laws.specs.region_cases.Meets.{IsEntityOf, MeetsCase}
use Rattle.case_laws.specs.candidates.Candidates.{AreViewed, IsCandidate}
use Rattle.case_laws.specs.candidates.Rows.{HasRows}
use Rattle.case_laws.specs.candidates.Viewed.{IsViewed}
use Rattle.case_laws.specs.candidates.ViewedLinks.{AreViewedLinks, IsBefore, IsLinkBefore}
use Rattle.case_laws.specs.Reading.{DecidesFree, HaveOneRowPerKey}
use Rattle.case_laws.specs.Told.{AreTold, IsMet}
use Rattle.case_laws.proofs.own.OneCase.{one_case, reading}
use Rattle.case_laws.proofs.own.Reading.{IsReading}
use Rattle.case_laws.proofs.reading.ReadBack.{alone_by_keys}
use Rattle.case_laws.proofs.reading.RoundTripping.{readable}
use Rattle.case_laws.proofs.reading.Whole.{one_entity}

module _ {X : Type 0} (R : X → X → Type 0) (never_both : (x y : X) → R x y → R y x → ⊥) where
  -- of two rising lists with the same members the first items are one, and so are the lists
  module _ (x y : X) (xs ys : List X) (rising : AllPairs R (x ∷ xs)) (also : AllPairs R (y ∷ ys)) (same : (z : X) → Contains (x ∷ xs) z ↔ Contains (y ∷ ys) z) where
    one_head : x ≡ y
    one_head = ⊎_elim (λ (here : x ≡ y). here)
        (λ (later : Contains ys x). ⊎_elim (λ (here : y ≡ x). sym here)
        (λ (late : Contains xs y). absurd (never_both x y (All-contains (R x) xs y (pairs_head R x xs rising) late) (All-contains (R y) ys x (pairs_head R y ys also) later)))
        (member_cases x xs y ((same y).1 (head_stands y ys))))
        (member_cases y ys x ((same x).0 (head_stands x xs)))

    tail_there : (z : X) → Contains xs z → Contains ys z
    tail_there z among = ⊎_elim
        (λ (here : z ≡ y). let after : R x z = All-contains (R x) xs z (pairs_head R x xs rising) among in
        let itself : R x x = subst (R x) (here ∙ sym one_head) after in absurd (never_both x x itself itself))
        (λ (later : Contains ys z). later)
        (member_cases y ys z ((same z).0 (tail_stands x xs z among)))

  pub rising_same : (xs ys : List X) → AllPairs R xs → AllPairs R ys → ((z : X) → Contains xs z ↔ Contains ys z) → xs ≡ ys
  rising_same [] [] rising also same = refl
  rising_same [] (y ∷ ys) rising also same = absurd (none_in_nil y ((same y).1 (head_stands y ys)))
  rising_same (x ∷ xs) [] rising also same = absurd (none_in_nil x ((same x).0 (head_stands x xs)))
  rising_same (x ∷ xs) (y ∷ ys) rising also same =
      let back : (z : X) → Contains (y ∷ ys) z ↔ Contains (x ∷ xs) z = λ z. ((same z).1, (same z).0) in
      let rest = rising_same xs ys (pairs_tail R x xs rising) (pairs_tail R y ys also)
      (λ z. (tail_there x y xs ys rising also same z, tail_there y x ys xs also rising back z)) in
      λ k. one_head x y xs ys rising also same k ∷ rest k

-- lists beside one list are one where each item has one at most
one_beside : {K X : Type 0} (V : K → X → Type 0) (ks : List K) (xs ys : List X) → ((k : K) (x y : X) → Contains ks k → V k x → V k y → x ≡ y) → AllZip V ks xs → AllZip V ks ys
    → xs ≡ ys
one_beside V [] [] [] one each also = refl
one_beside V [] [] (y ∷ ys) one each also = absurd also
one_beside V [] (x ∷ xs) ys one each also = absurd each
one_beside V (k ∷ ks) [] ys one each also = absurd each
one_beside V (k ∷ ks) (x ∷ xs) [] one each also = absurd also
one_beside V (k ∷ ks) (x ∷ xs) (y ∷ ys) one each also =
    let first = one k x y (head_stands k ks) each.0 also.0 in
    let rest = one_beside V ks xs ys (λ q v w among. one q v w (tail_stands k ks q among)) each.1 also.1 in
    λ j. first j ∷ rest j

-- of two keys one comes before the other at most, and of two links
keys_apart : (one other : List Value) → IsBefore one other → IsBefore other one → ⊥
keys_apart one other less more = let never : Less ≡ Greater = sym less ∙ key_cmp_total.antisymm one other ∙ ap ordering_reverse more in cc

links_apart : (one other : Link) → IsLinkBefore one other → IsLinkBefore other one → ⊥
links_apart one other (inl less) (inl more) = keys_apart one.first other.first less more
links_apart one other (inl less) (inr (same, more)) = let itself : IsBefore one.first one.first = subst (IsBefore one.first) same less in keys_apart one.first one.first itself itself
links_apart one other (inr (same, less)) (inl more) = let itself : IsBefore other.first other.first = subst (IsBefore other.first) same more in
    keys_apart other.first other.first itself itself
links_apart one other (inr (same, less)) (inr (alike, more)) = keys_apart one.second other.second less more

module _ (basis : Basis) (is : IsBasis basis) (limits : IsWithinLimits basis.schema) (round : RoundTrips basis.schema) (is_free : TableId → ColId → Bool)
    (decides : DecidesFree basis.schema is_free) (tables : Tables) (have : HaveOneRowPerKey basis.schema.store tables) where
  module _ (s : SetId) (key : List Value) (rows : HasRows basis.schema tables s key) where
    -- what is given at a key is told by the case of a region, with some links
    record Given (entity : Entity) : Type 0 where
      region : Region
      of_set : IsReading is_free basis is decides s tables key region
      links : List Hosted
      told : AreTold basis is_free s region tables key entity links

    given : (entity : Entity) → IsViewed basis is_free tables s key entity → Given entity
    given entity view =
        let found = map_contains (case_of is_free basis) (regions_of basis s) view.case
        (contains_at (cases_of is_free basis s) view.first_met.place view.case view.first_met.is_case) in
        let region : Region = found.0 in
        let Met : Case → Type 0 = λ case. MeetsCase basis tables key case in
        let Tells : Case → Type 0 = λ case. IsEntityOf basis tables key case entity in
        let met : IsMet basis is_free s region tables key = record { meets = subst Met (sym found.2) view.first_met.meets; whole = rows.whole } in
        let of_set : IsReading is_free basis is decides s tables key region = reading basis is limits round is_free decides s tables key region found.1 met
        (alone_by_keys is_free basis is decides s region (readable basis is limits round s region found.1) tables have key) in
        record {
          region = region;
          of_set = of_set;
          links = of_set.links;
          told = record { entity_told = subst Tells (sym found.2) view.told; links_told = of_set.told.links_told };
        }

    -- so one entity is given there
    one_given : (entity other : Entity) → IsViewed basis is_free tables s key entity → IsViewed basis is_free tables s key other → entity ≡ other
    one_given entity other view also =
        let one : Given entity = given entity view in
        let two : Given other = given other also in
        let same : two.region ≡ one.region = one_case basis is limits round is_free decides s tables key two.region one.region two.of_set one.of_set in
        let Told : Region → Type 0 = λ region. AreTold basis is_free s region tables key other two.links in
        one_entity is_free basis is decides s one.region one.of_set.can tables key one.of_set.met entity other one.links two.links one.told (subst Told same two.told)

  module _ (one two : State) (first : IsCandidate basis is_free tables one) (second : IsCandidate basis is_free tables two) where
    same_entities : (s : SetId) (set : EntitySet) → At basis.schema.model.sets s.index set → entities_in one s ≡ entities_in two s
    same_entities s set here =
        let views : AreViewed basis is_free tables s (entities_in one s) = first.entities.sets s set here in
        let others : AreViewed basis is_free tables s (entities_in two s) = second.entities.sets s set here in
        let keys : others.keys ≡ views.keys = rising_same IsBefore keys_apart others.keys views.keys others.rising views.rising
        (λ key. ((λ among. (views.are key).1 ((others.are key).0 among)), λ among. (others.are key).1 ((views.are key).0 among))) in
        let V : List Value → Entity → Type 0 = IsViewed basis is_free tables s in
        let Beside : List (List Value) → Type 0 = λ ks. AllZip V ks (entities_in two s) in
        one_beside V views.keys (entities_in one s) (entities_in two s) (λ key x y among. one_given s key ((views.are key).0 among) x y) views.each (subst Beside keys others.each)

    same_links : (a : AssocId) (assoc : Assoc) → At basis.schema.model.assocs a.index assoc → links_in one a ≡ links_in two a
    same_links a assoc here =
        let views : AreViewedLinks basis is_free tables a (links_in one a) = first.assocs a assoc here in
        let others : AreViewedLinks basis is_free tables a (links_in two a) = second.assocs a assoc here in
        rising_same IsLinkBefore links_apart (links_in one a) (links_in two a) views.rising others.rising
        (λ link. ((λ among. (others.are link).1 ((views.are link).0 among)), λ among. (views.are link).1 ((others.are link).0 among)))

    pub one_candidate : one ≡ two
    one_candidate =
        let entities : one.entities ≡ two.entities = same_lists one.entities two.entities (first.entities.shape.sets ∙ sym second.entities.shape.sets) (λ i d within.
        let s : SetId = record { index = i } in
        let set = item_at basis.schema.model.sets i (subst (λ n. i < n) first.entities.shape.sets within) in
        list_at one.entities two.entities i d within (subst (λ n. i < n) (first.entities.shape.sets ∙ sym second.entities.shape.sets) within) (same_entities s set.0 set.1)) in
        let links : one.links ≡ two.links = same_lists one.links two.links (first.entities.shape.assocs ∙ sym second.entities.shape.assocs) (λ i d within.
        let a : AssocId = record { index = i } in
        let assoc = item_at basis.schema.model.assocs i (subst (λ n. i < n) first.entities.shape.assocs within) in
        list_at one.links two.links i d within (subst (λ n. i < n) (first.entities.shape.assocs ∙ sym second.entities.shape.assocs) within) (same_links a assoc.0 assoc.1)) in
        λ k. record { entities = entities k; links = links k }
      where
        list_at : {X : Type 0} (lists others : List (List X)) (i : ℕ) (d : List X) → i < length lists → i < length others → unwrap_or (slice_get lists i) [] ≡ unwrap_or (slice_get others i) []
            → get_or lists i d ≡ get_or others i d
        list_at lists others i d within also same = get_or_default lists i d [] within ∙ sym (unwrap_or-slice_get lists i []) ∙ same ∙ unwrap_or-slice_get others i []
            ∙ get_or_default others i [] d also
