-- What the entity with a key needs in a supported state.
use Rattle.std.proofs.Common.{◌≡◌, ◌↔◌, ◌==◌, ◌&&◌, ℕ, List, [], ◌++◌, map, filter, flat_map, Contains, Option, None, Some, Bool, true, false, not, if◌then◌else◌, refl, sym, ap, subst, ◌∙◌}
use Rattle.std.specs.List.{enumerate_from}
use Rattle.std.specs.Option.{option_map_or}
use Rattle.std.proofs.lemmas.Bool.Decides.{Decides-and}
use Rattle.std.proofs.lemmas.List.Elements.{filter-append}
use Rattle.emc_base.proofs.Numbered.{enumerated_at}
use Rattle.emc_base.proofs.facts.Images.{flat_map_agree}
use Rattle.edm_types.specs.declared.model.Mult.TheVariants.{One}
use Rattle.round_trip.specs.Words.{SetId, AssocId, Value, EntityModel, Assoc, Constraint, Entity, Link, State, At, IsIndependent, key_of, links_in}
use Rattle.schema_laws.specs.state_demand.Selecting.{same_key}
use Rattle.schema_laws.proofs.state_demand.lists.Ids.{Decides-set}
use Rattle.population.specs.Given.{HasNumbers}
use Rattle.population.specs.Kept.{key_at_end, needs, partners_at, partners_by}
use Rattle.population.specs.Made.{AreWhole, entities_at, links_from, needs_of, partners_from, partners_of, state_of}
use Rattle.population.specs.Numbered.{end_number, end_of, numbered_key}
use Rattle.population.specs.Principals.{PlacedKey, principals}
use Rattle.population.specs.Supported.{added_at, added_link, all_links, end_key, is_none, is_one, lacks_link, links_of, stands_in}
use Rattle.population.specs.declared.placed.Supporting.{Supporting}
use Rattle.population.proofs.made.Filters.{filter_made, none_told, where_told}
use Rattle.population.proofs.made.Picked.{entities_picked, picked}
use Rattle.population.proofs.supporting.Entities.{links_are}
use Rattle.population.proofs.supporting.Links.{Decides-one, added_are, linked_for, near_key}

-- the state has no links of an association with a constraint
pub none_constrained : (model : EntityModel) (outer : ℕ) (one : Supporting) (a : AssocId) (assoc : Assoc) → At model.assocs a.index assoc → (constraint : Constraint)
    → assoc.constraint ≡ Some constraint → links_in (state_of model outer one) a ≡ []
none_constrained model outer one a assoc here constraint is =
    let own : List Link = links_of one.links a in
    links_are model outer one.given one.keys one.links a
    ∙ ap (λ found. option_map_or (all_links model outer one.given one.keys a own) found []) here
    ∙ ap (λ found. if is_none found then own ++ (added_at model outer one.given one.keys true a assoc own ++ added_at model outer one.given one.keys false a assoc own) else []) is

module _ (model : EntityModel) (outer : ℕ) (has : HasNumbers model outer) (one : Supporting) (whole : AreWhole model one.keys) where
  abbrev state : State
  state = state_of model outer one

  module _ (placed : PlacedKey) (first : Bool) (a : AssocId) (assoc : Assoc) (here : At model.assocs a.index assoc) where
    abbrev near : SetId
    near = (end_of first assoc).set

    abbrev given_links : List Link
    given_links = links_of one.links a

    abbrev own : Link → Bool
    own link = same_key (end_key first link) placed.key

    abbrev keyed : Entity → Bool
    keyed entity = same_key (key_of model entity) placed.key

    abbrev far_key : List Value
    far_key = numbered_key model outer (end_of (not first) assoc).set (end_number (not first) a)

    -- the links from the entity, where the other end is `1`
    links_from_one : IsIndependent assoc → (end_of (not first) assoc).mult ≡ One → near ≡ placed.set → filter own (links_in state a) ≡ links_from model outer one placed first a assoc
    links_from_one independent far_one same =
        let lacks : Entity → Bool = lacks_link model first assoc given_links in
        let make : Entity → Link = added_link model outer first a assoc in
        let stands : SetId → List Entity = stands_in model outer one.given one.keys in
        ap (filter own) (links_are model outer one.given one.keys one.links a
        ∙ linked_for model outer has.sound one.given one.keys one.links a assoc here independent first far_one
        ∙ ap (λ added. given_links ++ added) (added_are model outer one.given one.keys a assoc given_links first far_one))
        ∙ filter-append own given_links (map make (filter lacks (stands near)))
        ∙ ap (λ added. filter own given_links ++ added) (filter_made make own keyed lacks (stands near) (entities_at model outer one placed)
        (ap (λ u. filter keyed (stands u)) same ∙ picked model outer has one whole placed.set (λ key. same_key key placed.key))
        (λ entity. ap (λ key. same_key key placed.key) (near_key first (key_of model entity) far_key)))

    abbrev asked : Bool
    asked = is_one (end_of (not first) assoc).mult && (near.index == placed.set.index)

    abbrev partners : List Link → List PlacedKey
    partners links = map (key_at_end (not first) assoc) links

    -- the partners that are asked of it
    partners_are : partners_by model state placed first a assoc ≡ partners_from model outer one placed first a assoc
    partners_are = by assoc.constraint refl
      where
        by : (found : Option Constraint) → assoc.constraint ≡ found
            → partners_by model state placed first a assoc ≡ (if is_none found && asked then partners (links_from model outer one placed first a assoc) else [])
        by None independent = where_told asked (partners (filter own (links_in state a))) (partners (links_from model outer one placed first a assoc)) (λ told.
            let both = (Decides-and (is_one (end_of (not first) assoc).mult) (near.index == placed.set.index) (Decides-one (end_of (not first) assoc).mult) (Decides-set near placed.set)).0 told in
            ap partners (links_from_one independent both.0 both.1))
        by (Some constraint) is = none_told asked (partners (filter own (links_in state a))) (ap (λ links. partners (filter own links)) (none_constrained model outer one a assoc here constraint is))

  -- what it needs
  pub needs_are : (placed : PlacedKey) → needs model state placed ≡ needs_of model outer one placed
  needs_are placed =
      let entries : List (ℕ × Assoc) = enumerate_from 0 model.assocs in
      let same : flat_map (partners_at model state placed) entries ≡ flat_map (partners_of model outer one placed) entries =
      flat_map_agree (partners_at model state placed) (partners_of model outer one placed) entries (λ entry among.
      let a : AssocId = record { index = entry.0 } in
      let here : At model.assocs a.index entry.1 = enumerated_at model.assocs entry among in
      λ k. partners_are placed true a entry.1 here k ++ partners_are placed false a entry.1 here k) in
      λ k. flat_map (principals model placed.set) (entities_picked model outer has one whole placed k) ++ same k

pub needs_made : (model : EntityModel) (outer : ℕ) → HasNumbers model outer → (one : Supporting) → AreWhole model one.keys → (placed to : PlacedKey)
    → Contains (needs model (state_of model outer one) placed) to ↔ Contains (needs_of model outer one placed) to
needs_made model outer has one whole placed to =
    let same = needs_are model outer has one whole placed in
    let P : List PlacedKey → Type 0 = λ list. Contains list to in
    (subst P same, subst P (sym same))
