-- The lent entity at a place of a set, and that of the state; and the links of an association.
use Rattle.std.proofs.Common.{◌≡◌, ◌∙◌, ℕ, List, [], map, length, Option, Some, None, slice_get, unwrap_or, sym, ap, arith}
use Rattle.std.specs.Global.{Vec}
use Rattle.std.specs.Option.{option_map}
use Rattle.std.proofs.lemmas.Option.{slice_get-map, slice_get_past, slice_get_within}
use Rattle.round_trip.specs.Words.{At, Entity, Link}
use Rattle.query_views.specs.Lent.{lent_entity, shown_links}
use Rattle.query_views.specs.declared.links.lent.LentLinks.{LentLinks}
use Rattle.query_views.specs.declared.lending.LentEntity.{LentEntity}

module _ (sets : List (Vec LentEntity)) (s i : ℕ) where
  abbrev in_state : Option Entity
  in_state = slice_get (unwrap_or (slice_get (map (λ (of_set : Vec LentEntity). map lent_entity of_set.items) sets) s) []) i

  abbrev by_set : Option (Vec LentEntity) → Option Entity
  by_set found = slice_get (unwrap_or (option_map (λ of_set. map lent_entity of_set.items) found) []) i

  in_set : (found : Option (Vec LentEntity)) → slice_get sets s ≡ found → in_state ≡ by_set found
  in_set found is = ap (λ (lists : Option (List Entity)). slice_get (unwrap_or lists []) i) (slice_get-map (λ (of_set : Vec LentEntity). map lent_entity of_set.items) sets s) ∙ ap by_set is

  pub entity_there : (of_set : Vec LentEntity) → At sets s of_set → option_map lent_entity (slice_get of_set.items i) ≡ in_state
  entity_there of_set here = sym (in_set (Some of_set) here ∙ slice_get-map lent_entity of_set.items i)

  pub none_there : slice_get sets s ≡ None → None ≡ in_state
  none_there is = sym (in_set None is ∙ slice_get_past [] i (omega arith))

-- the links at the place of an association, and that there are none where there is no such place
module _ (lists : List LentLinks) (a : ℕ) where
  abbrev of_state : List Link
  of_state = unwrap_or (slice_get (map shown_links lists) a) []

  pub links_there : (of_assoc : LentLinks) → At lists a of_assoc → of_state ≡ shown_links of_assoc
  links_there of_assoc here = ap (λ (found : Option (List Link)). unwrap_or found []) (slice_get-map shown_links lists a ∙ ap (option_map shown_links) here)

  pub no_links : slice_get lists a ≡ None → (i : ℕ) (link : Link) → ¬ At of_state i link
  no_links none i link here =
      let empty : of_state ≡ [] = ap (λ (found : Option (List Link)). unwrap_or found []) (slice_get-map shown_links lists a ∙ ap (option_map shown_links) none) in
      let within = slice_get_within of_state i link here in
      let long : length of_state ≡ 0 = ap (λ (list : List Link). length list) empty in
      omega (arith, within, long)
