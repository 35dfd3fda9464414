-- The part of a supported state that holds what is needed.
use Rattle.std.proofs.Common.{◌≡◌, ◌&&◌, ℕ, List, [], ◌++◌, map, filter, length, slice_get, Contains, Option, None, Some, Bool, true, false, not, if◌then◌else◌, refl, sym, ap, ◌∙◌}
use Rattle.std.specs.Option.{option_map_or}
use Rattle.std.proofs.Math.Bool.{and_comm}
use Rattle.std.proofs.lemmas.Bool.{and_from, and_parts}
use Rattle.std.proofs.lemmas.Bool.Decides.{same_from_decides}
use Rattle.std.proofs.lemmas.List.Elements.{filter-append}
use Rattle.round_trip.specs.Words.{SetId, AssocId, Value, EntityModel, Assoc, Constraint, Entity, Link, State, At, IsLegal, links_in}
use Rattle.schema_laws.specs.short_values.Numbers.{numbers_from}
use Rattle.population.specs.Given.{HasNumbers}
use Rattle.population.specs.Kept.{has_ends, key_at_end, key_in, kept_in, kept_links, kept_state}
use Rattle.population.specs.Made.{AreWhole, needed_added, needed_entities, needed_links, part_made, state_of}
use Rattle.population.specs.Numbered.{end_number, end_of, numbered_key}
use Rattle.population.specs.Principals.{PlacedKey}
use Rattle.population.specs.Supported.{added_at, added_link, is_none, is_one, lacks_link, links_of, stands_in}
use Rattle.population.specs.declared.placed.Supporting.{Supporting}
use Rattle.population.proofs.made.Filters.{filter_made_if, filter_members}
use Rattle.population.proofs.made.Linked.{none_constrained}
use Rattle.population.proofs.made.Picked.{picked}
use Rattle.population.proofs.pruning.Kept.{Decides-ends, HasKeptEnd}
use Rattle.population.proofs.pruning.KeptLegal.{entity_at}
use Rattle.population.proofs.supporting.Entities.{entities_are, links_are}
use Rattle.population.proofs.supporting.Links.{linked_is}

-- whether the keys at both ends of a link are needed
abbrev needed_both : (PlacedKey → Bool) → Assoc → Link → Bool
needed_both needed assoc link = needed (key_at_end true assoc link) && needed (key_at_end false assoc link)

-- entities whose keys are needed stand at both ends of a legal state's link just where both keys are needed
module _ (model : EntityModel) (state : State) (legal : IsLegal model state) (needed : PlacedKey → Bool) where
  abbrev keep : SetId → Entity → Bool
  keep u entity = needed (key_in model u entity)

  module _ (a : AssocId) (assoc : Assoc) (here : At model.assocs a.index assoc) (link : Link) (has : Contains (links_in state a) link) where
    abbrev is_needed : Bool → List Value → Bool
    is_needed first key = needed (record { set = (end_of first assoc).set; key = key })

    end_needed : (first : Bool) → HasKeptEnd model keep state first assoc link → needed (key_at_end first assoc link) ≡ true
    end_needed first end = ap (is_needed first) (sym end.3) ∙ end.2

    end_kept : (first : Bool) → needed (key_at_end first assoc link) ≡ true → HasKeptEnd model keep state first assoc link
    end_kept first told =
        let found = entity_at model state legal a assoc here link has first in
        (found.0, found.1, ap (is_needed first) found.3 ∙ told, found.3)

    ends_alike : has_ends model keep state assoc link ≡ needed_both needed assoc link
    ends_alike =
        let one : Bool = needed (key_at_end true assoc link) in
        let other : Bool = needed (key_at_end false assoc link) in
        same_from_decides (has_ends model keep state assoc link) (needed_both needed assoc link) (Decides-ends model keep state assoc link) (
          (λ told. at (and_parts one other told)),
          (λ each. and_from one other (end_needed true (each true)) (end_needed false (each false))),
        )
      where
        at : (needed (key_at_end true assoc link) ≡ true) × (needed (key_at_end false assoc link) ≡ true) → (first : Bool) → HasKeptEnd model keep state first assoc link
        at both true = end_kept true both.0
        at both false = end_kept false both.1

module _ (model : EntityModel) (outer : ℕ) (has : HasNumbers model outer) (one : Supporting) (whole : AreWhole model one.keys) (needed : PlacedKey → Bool) where
  abbrev made : State
  made = state_of model outer one

  abbrev kept : SetId → Entity → Bool
  kept u entity = needed (key_in model u entity)

  -- the entities of a set that are kept
  stands_needed : (u : SetId) → filter (kept u) (stands_in model outer one.given one.keys u) ≡ needed_entities model outer one needed u
  stands_needed u = picked model outer has one whole u (λ key. needed (record { set = u; key = key }))

  pub entities_needed : (u : SetId) → kept_in model kept made u ≡ needed_entities model outer one needed u
  entities_needed u = ap (filter (kept u)) (entities_are model outer one.given one.keys one.links u) ∙ stands_needed u

  module _ (a : AssocId) (assoc : Assoc) where
    abbrev own : List Link
    own = links_of one.links a

    abbrev added : Bool → List Link
    added first = added_at model outer one.given one.keys first a assoc own

    abbrev both : Link → Bool
    both = needed_both needed assoc

    abbrev far_needed : Bool → Bool
    far_needed first = needed (record { set = (end_of (not first) assoc).set; key = numbered_key model outer (end_of (not first) assoc).set (end_number (not first) a) })

    link_needed : (first : Bool) (entity : Entity) → both (added_link model outer first a assoc entity) ≡ (kept (end_of first assoc).set entity && far_needed first)
    link_needed true entity = refl
    link_needed false entity = and_comm (far_needed false) (kept assoc.second.set entity)

    -- those of the added links that are kept
    added_needed : (first : Bool) → filter both (added first) ≡ needed_added model outer one needed first a assoc
    added_needed first =
        let u : SetId = (end_of first assoc).set in
        filter_made_if (added_link model outer first a assoc) both (kept u) (lacks_link model first assoc own) (stands_in model outer one.given one.keys u)
        (needed_entities model outer one needed u) (stands_needed u) (is_one (end_of (not first) assoc).mult) (far_needed first) (link_needed first)

    module _ (legal : IsLegal model made) (here : At model.assocs a.index assoc) where
      -- the links that are kept
      links_of_assoc : filter (has_ends model kept made assoc) (links_in made a) ≡ needed_links model outer one needed a assoc
      links_of_assoc = by assoc.constraint refl
        where
          by : (found : Option Constraint) → assoc.constraint ≡ found → filter (has_ends model kept made assoc) (links_in made a)
              ≡ (if is_none found then filter both own ++ (needed_added model outer one needed true a assoc ++ needed_added model outer one needed false a assoc) else [])
          by None independent =
              filter_members (has_ends model kept made assoc) both (links_in made a) (ends_alike model made legal needed a assoc here)
              ∙ ap (filter both) (links_are model outer one.given one.keys one.links a ∙ linked_is model outer one.given one.keys one.links a assoc here independent)
              ∙ filter-append both own (added true ++ added false)
              ∙ ap (λ list. filter both own ++ list) (filter-append both (added true) (added false) ∙ (λ k. added_needed true k ++ added_needed false k))
          by (Some constraint) is = ap (filter (has_ends model kept made assoc)) (none_constrained model outer one a assoc here constraint is)

  links_needed : IsLegal model made → (a : AssocId) → kept_links model kept made a ≡ option_map_or (needed_links model outer one needed a) (slice_get model.assocs a.index) []
  links_needed legal a = by (slice_get model.assocs a.index) refl
    where
      by : (found : Option Assoc) → slice_get model.assocs a.index ≡ found
          → option_map_or (λ assoc. filter (has_ends model kept made assoc) (links_in made a)) found [] ≡ option_map_or (needed_links model outer one needed a) found []
      by None none = refl
      by (Some assoc) here = links_of_assoc a assoc legal here

pub part_is_made : (model : EntityModel) (outer : ℕ) → HasNumbers model outer → (one : Supporting) → AreWhole model one.keys → IsLegal model (state_of model outer one)
    → (needed : PlacedKey → Bool) → kept_state model (λ u entity. needed (key_in model u entity)) (state_of model outer one) ≡ part_made model outer one needed
part_is_made model outer has one whole legal needed = λ k. record {
  entities = map (λ n. entities_needed model outer has one whole needed (record { index = n }) k) (numbers_from 0 (length model.sets));
  links = map (λ n. links_needed model outer has one whole needed legal (record { index = n }) k) (numbers_from 0 (length model.assocs));
}
