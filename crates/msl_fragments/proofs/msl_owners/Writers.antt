-- The writers of a document, list by list: where they stand, and that their places rise.
use Rattle.std.proofs.Common.{◌≡◌, ℕ, ◌<◌, List, [], ◌∷◌, All, Option, Some, None, get_or, codes, sym, subst, refl, arith}
use Rattle.std.specs.List.{enumerate_from, flat_map}
use Rattle.std.specs.Option.{option_map_or}
use Rattle.std.proofs.lemmas.List.Elements.{All-map, All-nil, All-weaker}
use Rattle.std.proofs.lemmas.List.Folds.{flat_map-map}
use Rattle.json_form.specs.declared.pointer.Step.{Step}
use Rattle.json_form.specs.declared.pointer.Step.TheVariants.{Member, Item}
use Rattle.round_trip.specs.Words.{EntityModel, StoreModel}
use Rattle.table_owners.specs.declared.table_writers.writer.Writer.{Writer}
use Rattle.msl_rules.specs.declared.msl_lists.raw.RawFragment.{RawFragment}
use Rattle.msl_rules.specs.declared.msl_lists.raw.RawTypeMapping.{RawTypeMapping}
use Rattle.msl_rules.specs.declared.msl_lists.raw.RawSetMapping.{RawSetMapping}
use Rattle.msl_rules.specs.declared.msl_lists.raw.RawLinkMapping.{RawLinkMapping}
use Rattle.msl_rules.specs.declared.msl_lists.raw.RawMapping.{RawMapping}
use Rattle.msl_rules.specs.MappingMeaning.{fragment_at, link_at}
use Rattle.msl_rules.specs.OwnerRules.{PlacedWriter, placed, with_assoc, writer_of_fragment, writers_at_link, writers_at_site, writers_in}
use Rattle.msl_rules.specs.Sites.{Site, LinkSite, at_item, fragment_place, link_place, link_sites, sites, sites_of_set, sites_of_types}
use Rattle.msl_fragments.proofs.msl_owners.Flat.{flat_map-flat_map}
use Rattle.msl_fragments.proofs.msl_owners.Order.{IsFrom, NotAfter, Rises, Upto, all_from, rises_append, rises_in_items, upto_behind, upto_items, upto_itself}

-- the place of a writer
abbrev pub place : PlacedWriter → List Step
place one = one.place

-- these steps come before others
abbrev Steps : Type 0
Steps = List Step → List Step

-- they change nothing of the order
abbrev KeepsOrder : Steps → Type 0
KeepsOrder before = (one other : List Step) → Upto one other → Upto (before one) (before other)

-- a writer stands behind these steps
abbrev IsBehind : Steps → PlacedWriter → Type 0
IsBehind before one = (rest : List Step) × (one.place ≡ before rest)

-- writers that stand behind these steps, and whose places rise
pub record Stand (before : Steps) (writers : List PlacedWriter) : Type 0 where
  pub rises : Rises place writers
  pub behind : All (IsBehind before) writers

-- they stand behind fewer steps too
wider : (before : Steps) (step : Step) (writers : List PlacedWriter) → Stand (λ rest. before (step ∷ rest)) writers → Stand before writers
wider before step writers stand = record {
  rises = stand.rises;
  behind = All-weaker (IsBehind (λ rest. before (step ∷ rest))) (IsBehind before) (λ one is. (step ∷ is.0, is.1)) writers stand.behind;
}

-- the items of a list at a member, each of whose writers stand behind the steps to it
module _ (before : Steps) (keeps : KeepsOrder before) (member : List ℕ) where
  -- the steps to an item
  abbrev to_item : ℕ → Steps
  to_item k rest = before (at_item member k rest)

  -- they keep the order too
  item_keeps : (k : ℕ) → KeepsOrder (to_item k)
  item_keeps k one other upto =
      keeps (at_item member k one) (at_item member k other) (upto_behind (Member member) (Item k ∷ one) (Item k ∷ other) (upto_behind (Item k) one other upto))

  -- and those to an earlier item don't come after
  item_rises : (i j : ℕ) (one other : List Step) → i < j → Upto (to_item i one) (to_item j other)
  item_rises i j one other less =
      keeps (at_item member i one) (at_item member j other) (upto_behind (Member member) (Item i ∷ one) (Item j ∷ other) (upto_items i j one other less))

  stand_in_list : {X : Type 0} (f : ℕ × X → List PlacedWriter) → ((entry : ℕ × X) → Stand (to_item entry.0) (f entry)) → (xs : List X)
      → Stand (λ rest. before (Member member ∷ rest)) (flat_map f (enumerate_from 0 xs))
  stand_in_list {X} f each xs = record {
    rises = rises_in_items place to_item item_rises f behind (λ entry. (each entry).rises) 0 xs;
    behind = All-weaker (IsFrom place to_item item_rises f 0) (IsBehind (λ rest. before (Member member ∷ rest))) (λ one from. (Item from.0 ∷ from.1, from.3)) (flat_map f (enumerate_from 0 xs))
        (all_from place to_item item_rises f behind 0 xs);
  }
    where
      behind : (entry : ℕ × X) → All (IsBehind (to_item entry.0)) (f entry)
      behind entry = (each entry).behind

-- writers that all stand at one place
stand_at : (before : Steps) (writers : List PlacedWriter) → All (λ one. one.place ≡ before []) writers → Stand before writers
stand_at before writers all = record {
  rises = λ i j d below within.
      let P : List Step → Type 0 = λ p. Upto p (get_or writers j d).place in
      let Q : List Step → Type 0 = λ p. Upto (before []) p in
      subst P (sym (all i d (omega arith))) (subst Q (sym (all j d within)) (upto_itself (before [])));
  behind = All-weaker (λ one. one.place ≡ before []) (IsBehind before) (λ one is. ([], is)) writers all;
}

-- the steps to the container
abbrev to_container : Steps
to_container rest = Member (codes "EntityContainerMapping") ∷ rest

container_keeps : KeepsOrder to_container
container_keeps = upto_behind (Member (codes "EntityContainerMapping"))

-- mappings of association sets come first
links_first : (one other : List Step)
    → Upto (to_container (Member (codes "AssociationSetMapping") ∷ one)) (to_container (Member (codes "EntitySetMapping") ∷ other))
links_first one other = container_keeps (Member (codes "AssociationSetMapping") ∷ one) (Member (codes "EntitySetMapping") ∷ other) (λ is. absurd cc)

module _ (model : EntityModel) (store : StoreModel) where
  -- the writers of a fragment, of an association's mapping
  abbrev at_site : Site → List PlacedWriter
  at_site = writers_at_site model store

  abbrev at_link : LinkSite → List PlacedWriter
  at_link = writers_at_link model store

  -- the writers of what may be there stand at its place
  all_found : {X : Type 0} (at : List Step) (f : X → List Writer) (found : Option X) → All (λ one. one.place ≡ at) (option_map_or (λ x. placed model store at (f x)) found [])
  all_found at f None = All-nil (λ one. one.place ≡ at)
  all_found at f (Some x) = All-map (λ one. one.place ≡ at) (λ (writer : Writer). record { place = at; writer = writer }) (f x) (λ k d within. refl)

  -- a fragment
  abbrev pub site_at : ℕ → RawSetMapping → ℕ → RawTypeMapping → ℕ × RawFragment → Site
  site_at i set j types entry = record { place = fragment_place i j entry.0; set = set; types = types; fragment = entry.1 }

  -- an association's mapping
  abbrev pub link_site_at : ℕ × RawLinkMapping → LinkSite
  link_site_at entry = record { place = link_place entry.0; link = entry.1 }

  -- the writers of an item of each list
  abbrev pub of_fragment : ℕ → RawSetMapping → ℕ → RawTypeMapping → ℕ × RawFragment → List PlacedWriter
  of_fragment i set j types entry = at_site (site_at i set j types entry)

  abbrev pub of_types : ℕ → RawSetMapping → ℕ × RawTypeMapping → List PlacedWriter
  of_types i set entry = flat_map at_site (sites_of_types i set entry.0 entry.1)

  abbrev pub of_set : ℕ × RawSetMapping → List PlacedWriter
  of_set entry = flat_map at_site (sites_of_set entry.0 entry.1)

  abbrev pub of_link : ℕ × RawLinkMapping → List PlacedWriter
  of_link entry = at_link (link_site_at entry)

  -- the writers of a list, item by item
  pub types_each : (i : ℕ) (set : RawSetMapping) (j : ℕ) (types : RawTypeMapping)
      → flat_map at_site (sites_of_types i set j types) ≡ flat_map (of_fragment i set j types) (enumerate_from 0 types.fragments)
  types_each i set j types = flat_map-map at_site (site_at i set j types) (enumerate_from 0 types.fragments)

  pub set_each : (i : ℕ) (set : RawSetMapping) → flat_map at_site (sites_of_set i set) ≡ flat_map (of_types i set) (enumerate_from 0 set.types)
  set_each i set = flat_map-flat_map at_site (λ (entry : ℕ × RawTypeMapping). sites_of_types i set entry.0 entry.1) (enumerate_from 0 set.types)

  pub sets_each : (raw : RawMapping) → flat_map at_site (sites raw) ≡ flat_map of_set (enumerate_from 0 raw.sets)
  sets_each raw = flat_map-flat_map at_site (λ (entry : ℕ × RawSetMapping). sites_of_set entry.0 entry.1) (enumerate_from 0 raw.sets)

  pub links_each : (raw : RawMapping) → flat_map at_link (link_sites raw) ≡ flat_map of_link (enumerate_from 0 raw.links)
  links_each raw = flat_map-map at_link link_site_at (enumerate_from 0 raw.links)

  -- the steps to the mapping of an entity set, and to a type mapping
  abbrev to_set : ℕ → Steps
  to_set = to_item to_container container_keeps (codes "EntitySetMapping")

  set_keeps : (i : ℕ) → KeepsOrder (to_set i)
  set_keeps = item_keeps to_container container_keeps (codes "EntitySetMapping")

  abbrev to_types : ℕ → ℕ → Steps
  to_types i = to_item (to_set i) (set_keeps i) (codes "EntityTypeMapping")

  types_keep : (i j : ℕ) → KeepsOrder (to_types i j)
  types_keep i = item_keeps (to_set i) (set_keeps i) (codes "EntityTypeMapping")

  -- where the writers of a list stand
  types_stand : (i : ℕ) (set : RawSetMapping) (j : ℕ) (types : RawTypeMapping) → Stand (to_types i j) (flat_map at_site (sites_of_types i set j types))
  types_stand i set j types = subst (Stand (to_types i j)) (sym (types_each i set j types))
      (wider (to_types i j) (Member (codes "MappingFragment")) (flat_map (of_fragment i set j types) (enumerate_from 0 types.fragments))
      (stand_in_list (to_types i j) (types_keep i j) (codes "MappingFragment") (of_fragment i set j types) each types.fragments))
    where
      each : (entry : ℕ × RawFragment) → Stand (to_item (to_types i j) (types_keep i j) (codes "MappingFragment") entry.0) (of_fragment i set j types entry)
      each entry = stand_at (to_item (to_types i j) (types_keep i j) (codes "MappingFragment") entry.0) (of_fragment i set j types entry)
          (all_found (fragment_place i j entry.0) (λ fragment. writer_of_fragment model store fragment ∷ []) (fragment_at model store (site_at i set j types entry)))

  set_stand : (i : ℕ) (set : RawSetMapping) → Stand (to_set i) (flat_map at_site (sites_of_set i set))
  set_stand i set =
      subst (Stand (to_set i)) (sym (set_each i set))
      (wider (to_set i) (Member (codes "EntityTypeMapping")) (flat_map (of_types i set) (enumerate_from 0 set.types))
      (stand_in_list (to_set i) (set_keeps i) (codes "EntityTypeMapping") (of_types i set) (λ entry. types_stand i set entry.0 entry.1) set.types))

  sets_stand : (raw : RawMapping) → Stand (λ rest. to_container (Member (codes "EntitySetMapping") ∷ rest)) (flat_map at_site (sites raw))
  sets_stand raw = subst (Stand (λ rest. to_container (Member (codes "EntitySetMapping") ∷ rest))) (sym (sets_each raw))
      (stand_in_list to_container container_keeps (codes "EntitySetMapping") of_set (λ entry. set_stand entry.0 entry.1) raw.sets)

  links_stand : (raw : RawMapping) → Stand (λ rest. to_container (Member (codes "AssociationSetMapping") ∷ rest)) (flat_map at_link (link_sites raw))
  links_stand raw = subst (Stand (λ rest. to_container (Member (codes "AssociationSetMapping") ∷ rest))) (sym (links_each raw))
      (stand_in_list to_container container_keeps (codes "AssociationSetMapping") of_link each raw.links)
    where
      each : (entry : ℕ × RawLinkMapping) → Stand (to_item to_container container_keeps (codes "AssociationSetMapping") entry.0) (of_link entry)
      each entry = stand_at (to_item to_container container_keeps (codes "AssociationSetMapping") entry.0) (of_link entry)
          (all_found (link_place entry.0) (with_assoc model store) (link_at model store (link_site_at entry)))

  -- the places of all writers rise
  pub writers_rise : (raw : RawMapping) → Rises place (writers_in model store raw)
  writers_rise raw =
      let links = flat_map at_link (link_sites raw) in
      let of_sets = flat_map at_site (sites raw) in
      rises_append place links of_sets (links_stand raw).rises (sets_stand raw).rises
      (All-weaker (IsBehind (λ rest. to_container (Member (codes "AssociationSetMapping") ∷ rest))) (λ one. All (NotAfter place one) of_sets) apart links (links_stand raw).behind)
    where
      apart : (one : PlacedWriter) → IsBehind (λ rest. to_container (Member (codes "AssociationSetMapping") ∷ rest)) one → All (NotAfter place one) (flat_map at_site (sites raw))
      apart one is = All-weaker (IsBehind (λ rest. to_container (Member (codes "EntitySetMapping") ∷ rest))) (NotAfter place one) later (flat_map at_site (sites raw)) (sets_stand raw).behind
        where
          later : (other : PlacedWriter) → IsBehind (λ rest. to_container (Member (codes "EntitySetMapping") ∷ rest)) other → NotAfter place one other
          later other there =
              let P : List Step → Type 0 = λ p. Upto p other.place in
              let Q : List Step → Type 0 = λ p. Upto (to_container (Member (codes "AssociationSetMapping") ∷ is.0)) p in
              subst P (sym is.1) (subst Q (sym there.1) (links_first is.0 there.0))
