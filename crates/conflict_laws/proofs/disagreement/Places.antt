-- Fragments with one place are one, and none of entities has the place of one of links.
use Rattle.std.proofs.Common.{◌≡◌, ◌≢◌, ℕ, List, [], ◌∷◌, ◌++◌, map, Contains, subst, arith}
use Rattle.std.proofs.lemmas.List.Elements.{Contains-append_left}
use Rattle.std.proofs.lemmas.List.Kept.{AllPairs-cons}
use Rattle.emc_base.specs.Lists.{AreApart}
use Rattle.emc_base.proofs.Lists.{all_from_members}
use Rattle.emc_base.proofs.Mapped.{contains_map}
use Rattle.emc_base.proofs.facts.Pairs.{apart_between}
use Rattle.round_trip.specs.Words.{Fragment, LinkFragment, Schema}
use Rattle.round_trip.specs.soundness.mappings.Mappings.{IsSoundSchema}
use Rattle.schema_laws.proofs.state_demand.lists.Lists.{same_by_key}
use Rattle.schema_laws.proofs.state_demand.owners.Owners.{pairs_from_map}
use Rattle.schema_laws.proofs.state_demand.lists.Permutations.{head_apart, rest_apart}

module _ {X : Type 0} where
  -- the parts of a list without repeats have none
  apart_left : (xs ys : List X) → AreApart (xs ++ ys) → AreApart xs
  apart_left [] ys apart = λ i j d below within. absurd (omega arith)
  apart_left (x ∷ xs) ys apart = AllPairs-cons (λ a b. a ≢ b) x xs
      (all_from_members (λ y. x ≢ y) xs (λ y has. head_apart x (xs ++ ys) y apart (Contains-append_left xs ys y has)))
      (apart_left xs ys (rest_apart x (xs ++ ys) apart))

  apart_right : (xs ys : List X) → AreApart (xs ++ ys) → AreApart ys
  apart_right [] ys apart = apart
  apart_right (x ∷ xs) ys apart = apart_right xs ys (rest_apart x (xs ++ ys) apart)

module _ (schema : Schema) (sound : IsSoundSchema schema) where
  abbrev place_in : Fragment → List ℕ
  place_in fragment = fragment.place

  abbrev link_place : LinkFragment → List ℕ
  link_place fragment = fragment.place

  -- entity fragments with one place are one
  pub one_fragment : (one two : Fragment) → Contains schema.mapping.fragments one → Contains schema.mapping.fragments two → one.place ≡ two.place → one ≡ two
  one_fragment one two has_one has_two same = same_by_key place_in schema.mapping.fragments one two
      (pairs_from_map (λ (a b : List ℕ). a ≢ b) place_in schema.mapping.fragments
      (apart_left (map place_in schema.mapping.fragments) (map link_place schema.mapping.links) sound.mapping.places)) has_one has_two same

  -- so are link fragments
  pub one_link_fragment : (one two : LinkFragment) → Contains schema.mapping.links one → Contains schema.mapping.links two → one.place ≡ two.place → one ≡ two
  one_link_fragment one two has_one has_two same = same_by_key link_place schema.mapping.links one two
      (pairs_from_map (λ (a b : List ℕ). a ≢ b) link_place schema.mapping.links
      (apart_right (map place_in schema.mapping.fragments) (map link_place schema.mapping.links) sound.mapping.places)) has_one has_two same

  -- and no two of both kinds have one place
  pub no_fragment : (one : Fragment) (two : LinkFragment) → Contains schema.mapping.fragments one → Contains schema.mapping.links two → one.place ≢ two.place
  no_fragment one two has_one has_two same =
      apart_between (map place_in schema.mapping.fragments) (map link_place schema.mapping.links) two.place sound.mapping.places
      (subst (Contains (map place_in schema.mapping.fragments)) same (contains_map place_in schema.mapping.fragments one has_one))
      (contains_map link_place schema.mapping.links two has_two)
