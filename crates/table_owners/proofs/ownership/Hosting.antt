-- In a sound schema links are told as hosted at an end exactly where they are.
use Rattle.std.proofs.Common.{◌≡◌, ◌≢◌, ◌↔◌, ◌<◌, ℕ, List, Bool, true, false, length, map, AllPairs, Contains, refl, sym, subst, ◌∙◌, if◌then◌else◌, arith}
use Rattle.std.proofs.lemmas.List.{get_or-map, length-map}
use Rattle.std.proofs.lemmas.List.Elements.{All-contains}
use Rattle.std.proofs.lemmas.Option.{slice_get_within}
use Rattle.emc_base.specs.Lists.{At, AreApart}
use Rattle.emc_base.proofs.Lists.{at_once, item_at, same_place}
use Rattle.emc_base.proofs.Mapped.{contains_at}
use Rattle.emc_base.proofs.facts.Standing.{place_of_member}
use Rattle.round_trip.specs.Words.{Assoc, AssocId, LinkFragId, LinkFragment, Schema}
use Rattle.round_trip.specs.FailsAt.{IsHostedAt}
use Rattle.round_trip.specs.soundness.mappings.Mappings.{IsSoundSchema}
use Rattle.table_owners.specs.declared.places.LinkPlace.{LinkPlace}
use Rattle.table_owners.specs.declared.places.LinkPlace.TheVariants as place
use Rattle.table_owners.specs.Places.{AreHosted, AreToldHosted, IsMappedBy, StandApart, TellPlaces, TellsPlace}
use Rattle.table_owners.proofs.ownership.OneEnd.{one_end}
use Rattle.table_owners.proofs.ownership.Owning.{sound_links}

-- items of one image are one, where no image stands twice
one_image : {X Y : Type 0} (f : X → Y) (xs : List X) → AreApart (map f xs) → (x y : X) → Contains xs x → Contains xs y → f x ≡ f y → x ≡ y
one_image {X} {Y} f xs apart x y has_x has_y same =
    let place = same_place f xs has_x.0 has_y.0 x y images (place_of_member xs x has_x) (place_of_member xs y has_y) same in
    let P : ℕ → Type 0 = λ k. At xs k x in
    at_once xs has_y.0 x y (subst P place (place_of_member xs x has_x)) (place_of_member xs y has_y)
  where
    images : AllPairs (λ a b. f a ≢ f b) xs
    images i j d below within both =
        let inside : i < length xs = omega (arith, below, within) in
        let Below : ℕ → Type 0 = λ n. j < n in
        apart i j (f d) below (subst Below (sym (length-map xs f)) within)
        (get_or-map f xs i d (f d) inside ∙ both ∙ sym (get_or-map f xs j d (f d) within))

module _ (schema : Schema) (sound : IsSoundSchema schema) (a : AssocId) (assoc : Assoc) (here : At schema.model.assocs a.index assoc) where
  -- two fragments that map the association set are one
  one_fragment : (one other : LinkFragment) → Contains schema.mapping.links one → Contains schema.mapping.links other → one.assoc ≡ a → other.assoc ≡ a → one ≡ other
  one_fragment one other has too of_one of_other = one_image (λ (fragment : LinkFragment). fragment.assoc) schema.mapping.links sound.mapping.assocs one other has too (of_one ∙ sym of_other)

  -- a fragment isn't hosted at another end too
  same_end : (fragment : LinkFragment) → Contains schema.mapping.links fragment → (one other : Bool) → IsHostedAt schema fragment.table (if one then fragment.first else fragment.second)
      → IsHostedAt schema fragment.table (if other then fragment.first else fragment.second) → other ≡ one
  same_end fragment has true true at_one at_other = refl
  same_end fragment has false false at_one at_other = refl
  same_end fragment has true false at_one at_other = absurd (one_end schema fragment sound has at_one at_other)
  same_end fragment has false true at_one at_other = absurd (one_end schema fragment sound has at_other at_one)

  -- and at none where it stands apart
  not_apart : (first_hosts : Bool) (fragment : LinkFragment) → StandApart schema fragment assoc → ¬ IsHostedAt schema fragment.table (if first_hosts then fragment.first else fragment.second)
  not_apart true fragment apart hosted = apart.first hosted
  not_apart false fragment apart hosted = apart.second hosted

  module _ (first_hosts : Bool) (are : AreHosted schema a first_hosts) where
    hosted_as : (one : LinkFragment) → one ≡ are.fragment → IsHostedAt schema one.table (if first_hosts then one.first else one.second)
    hosted_as one same =
        let P : LinkFragment → Type 0 = λ fragment. IsHostedAt schema fragment.table (if first_hosts then fragment.first else fragment.second) in
        subst P (sym same) are.hosted

    mapped_is : (number : LinkFragId) (one : LinkFragment) → IsMappedBy schema a assoc number one → one ≡ are.fragment
    mapped_is number one maps = one_fragment one are.fragment (contains_at schema.mapping.links number.index one maps.is_fragment) are.is_fragment maps.of_assoc are.of_assoc

    -- what is told of links that are hosted at this end
    told_as : (told : LinkPlace) → TellsPlace schema a assoc told → (number : LinkFragId) × (told ≡ place.Hosted first_hosts number)
    told_as (place.Hosted other number) (one, maps, hosted) =
        let has = contains_at schema.mapping.links number.index one maps.is_fragment in
        let same : other ≡ first_hosts = same_end one has first_hosts other (hosted_as one (mapped_is number one maps)) hosted in
        (number, λ i. place.Hosted (same i) number)
    told_as (place.Joined number) (one, maps, apart) = absurd (not_apart first_hosts one apart (hosted_as one (mapped_is number one maps)))
    told_as place.Unmapped unmapped =
        absurd (All-contains (λ (fragment : LinkFragment). fragment.assoc ≢ a) schema.mapping.links are.fragment unmapped.unmapped are.is_fragment are.of_assoc)
    told_as place.Constraint constrained =
        let P : AssocId → Type 0 = λ id. At schema.model.assocs id.index assoc in
        absurd (constrained (sound_links schema sound are.fragment assoc are.is_fragment (subst P (sym are.of_assoc) here)).independent)

module _ (schema : Schema) (sound : IsSoundSchema schema) (places : List LinkPlace) (tell : TellPlaces schema places) (a : AssocId) (assoc : Assoc)
    (here : At schema.model.assocs a.index assoc) (first_hosts : Bool) where
  pub told_hosted : AreToldHosted places a first_hosts ↔ AreHosted schema a first_hosts
  told_hosted = (
    (λ told.
        let tells = tell.each a assoc (place.Hosted first_hosts told.0) here told.1 in
        record { fragment = tells.0; is_fragment = contains_at schema.mapping.links (told.0).index tells.0 (tells.1).is_fragment; of_assoc = (tells.1).of_assoc; hosted = tells.2 }),
    (λ are.
        let size : length places ≡ length schema.model.assocs = tell.size in
        let known : a.index < length schema.model.assocs = slice_get_within schema.model.assocs a.index assoc here in
        let there = item_at places a.index (omega (arith, size, known)) in
        let told = told_as schema sound a assoc here first_hosts are there.0 (tell.each a assoc there.0 here there.1) in
        (told.0, subst (λ (found : LinkPlace). At places a.index found) told.1 there.1)),
  )
