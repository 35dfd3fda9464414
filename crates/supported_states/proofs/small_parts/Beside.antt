-- What the entities of a key need, and the links between those that are looked for, are what the definitions say.
use Rattle.std.proofs.Common.{◌≡◌, ◌++◌, ℕ, List, [], map, filter, flat_map, length, slice_get, unwrap_or, not, Bool, true, false, if◌then◌else◌, sym, ap, ◌∙◌}
use Rattle.std.specs.List.{enumerate_from}
use Rattle.std.specs.Option.{option_map_or}
use Rattle.std.proofs.lemmas.List.{map-append}
use Rattle.std.proofs.lemmas.Option.{slice_get_past}
use Rattle.round_trip.specs.Words.{SetId, AssocId, Assoc, Entity, Link}
use Rattle.schema_laws.specs.state_demand.Selecting.{same_key}
use Rattle.population.specs.Kept.{key_at_end}
use Rattle.population.specs.Made.{entities_at, needed_in, needs_of, partners_from, partners_of}
use Rattle.population.specs.Principals.{principals}
use Rattle.population.specs.Supported.{added_link, end_key, lacks_link, links_of}
use Rattle.population.specs.declared.placed.PlacedKey.{PlacedKey}
use Rattle.population.proofs.plain.Lists.{made_at}
use Rattle.supported_states.specs.small_parts.Parts.{are_sought}
use Rattle.supported_states.specs.small_parts.Sides.{is_asking, needs_beside, partners_at_side, partners_of_assoc}
use Rattle.supported_states.specs.small_parts.Sought.{sought_in}
use Rattle.supported_states.specs.Spots.{passes}
use Rattle.supported_states.specs.declared.small_parts.needs.Seat.{Seat}
use Rattle.supported_states.specs.declared.small_parts.sought.Sought.{Sought}

module _ (seat : Seat) (all : seat.entities.now ≡ entities_at seat.model.now seat.row seat.one.now seat.placed.now) where
  side_is : (first : Bool) (a : AssocId) (assoc : Assoc) → partners_at_side seat first a assoc ≡ partners_from seat.model.now seat.row seat.one.now seat.placed.now first a assoc
  side_is first a assoc =
      let one = seat.one.now in
      let f : Link → PlacedKey = key_at_end (not first) assoc in
      let added : List Entity → List Link = λ entities. map (added_link seat.model.now seat.row first a assoc) (filter (lacks_link seat.model.now first assoc (links_of one.links a)) entities) in
      let given : List Link = filter (λ link. same_key (end_key first link) seat.placed.now.key) (links_of one.links a) in
      let joined : map f given ++ map f (added seat.entities.now) ≡ map f (given ++ added (entities_at seat.model.now seat.row one seat.placed.now)) =
      ap (λ entities. map f given ++ map f (added entities)) all ∙ sym (map-append f given (added (entities_at seat.model.now seat.row one seat.placed.now))) in
      ap (λ list. if is_asking first a assoc seat.placed.now.set then list else []) joined

  -- what they need is what the entity with the key needs
  pub needs_are : needs_beside seat ≡ needs_of seat.model.now seat.row seat.one.now seat.placed.now
  needs_are =
      let model = seat.model.now in
      let made : (entry : ℕ × Assoc) → partners_of_assoc seat entry ≡ partners_of model seat.row seat.one.now seat.placed.now entry =
      λ entry k. side_is true (record { index = entry.0 }) entry.1 k ++ side_is false (record { index = entry.0 }) entry.1 k in
      λ k. flat_map (principals model seat.placed.now.set) (all k) ++ flat_map (λ entry. made entry k) (enumerate_from 0 model.assocs)

-- the list of a set's entities
pub list_is : (sought : Sought) (lists : List (List Entity)) → lists ≡ are_sought sought → (u : SetId) → unwrap_or (slice_get lists u.index) [] ≡ sought_in sought u
list_is sought lists is u =
    ap (λ list. unwrap_or (slice_get list u.index) []) is
    ∙ made_at (λ n. sought_in sought (record { index = n })) (length sought.model.now.sets) u.index
    (λ past. ap (λ found. option_map_or (needed_in sought.model.now sought.row sought.one.now (passes sought.pick) u) found []) (slice_get_past sought.model.now.sets u.index past))
