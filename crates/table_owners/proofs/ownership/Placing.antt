-- In a sound schema the fragment that maps an association set tells where its links stand.
use Rattle.std.proofs.Common.{◌≡◌, ◌≢◌, inl, inr, ℕ, List, length, map, All, Option, Some, None, refl, sym, ap, subst, ◌∙◌}
use Rattle.std.specs.Option.{option_map_or}
use Rattle.std.proofs.lemmas.List.{length-map}
use Rattle.emc_base.specs.Lists.{At}
use Rattle.emc_base.proofs.Lists.{all_from_members, at_once}
use Rattle.emc_base.proofs.Mapped.{contains_at}
use Rattle.emc_base.proofs.facts.Standing.{place_of_member}
use Rattle.emc_base.proofs.facts.Images.{map_at}
use Rattle.round_trip.specs.Words.{Assoc, AssocId, Constraint, LinkFragment, Schema}
use Rattle.round_trip.specs.soundness.mappings.Mappings.{IsSoundSchema}
use Rattle.table_owners.specs.declared.places.LinkPlace.{LinkPlace}
use Rattle.table_owners.specs.declared.places.LinkPlace.TheVariants as place
use Rattle.table_owners.specs.declared.sources.Standing.{Standing}
use Rattle.table_owners.specs.declared.sources.Standing.TheVariants.{Apart, AtFirst, AtSecond}
use Rattle.table_owners.specs.Places.{IsLinkPlace, IsMappedBy, TellPlaces, TellsPlace, maps_to, place_by, place_without}
use Rattle.table_owners.specs.Puts.{Puts}
use Rattle.table_owners.specs.Sources.{Stands}
use Rattle.table_owners.proofs.ownership.Owning.{joined_there, sound_links}

module _ (schema : Schema) (sound : IsSoundSchema schema) where
  -- where the links of a fragment stand
  by_standing : (a : AssocId) (assoc : Assoc) (number : ℕ) (fragment : LinkFragment) → At schema.model.assocs fragment.assoc.index assoc
      → IsMappedBy schema a assoc (record { index = number }) fragment
      → (standing : Standing) → Stands schema fragment standing → TellsPlace schema a assoc (place_by (record { index = number }) standing)
  by_standing a assoc number fragment known maps AtFirst stands = (fragment, maps, stands)
  by_standing a assoc number fragment known maps AtSecond stands = (fragment, maps, stands)
  by_standing a assoc number fragment known maps Apart stands = (
    fragment,
    maps,
    record {
      joined = joined_there schema sound fragment assoc (contains_at schema.mapping.links number fragment maps.is_fragment) known stands;
      first = stands.0;
      second = stands.1;
    },
  )

  -- where no fragment maps the association set
  unmapped : (a : AssocId) (assoc : Assoc) → At schema.model.assocs a.index assoc → All (λ fragment. fragment.assoc ≢ a) schema.mapping.links
      → TellsPlace schema a assoc (place_without assoc)
  unmapped a assoc here never = by assoc.constraint refl
    where
      by : (constraint : Option Constraint) → assoc.constraint ≡ constraint → TellsPlace schema a assoc (option_map_or (λ some. place.Constraint) constraint place.Unmapped)
      by None is = record { is_assoc = here; independent = is; unmapped = never }
      by (Some constraint) is = λ independent. let both : Some constraint ≡ None = sym is ∙ independent in cc

  module _ (start places : List LinkPlace) (first : start ≡ map place_without schema.model.assocs)
      (puts : Puts maps_to (IsLinkPlace schema) schema.mapping.links (length schema.mapping.links) start places) where
    each : (a : AssocId) (assoc : Assoc) (place : LinkPlace) → At schema.model.assocs a.index assoc → At places a.index place → TellsPlace schema a assoc place
    each a assoc place here there = elim (puts.each a.index place there) [
      | inl put ↦
          let fragment : LinkFragment = put.1 in
          let same : fragment.assoc ≡ a = (let index : fragment.assoc.index ≡ a.index = put.4 in λ i. record { index = index i }) in
          let P : AssocId → Type 0 = λ id. At schema.model.assocs id.index assoc in
          let known : At schema.model.assocs fragment.assoc.index assoc = subst P (sym same) here in
          let good = sound_links schema sound fragment assoc (contains_at schema.mapping.links put.0 fragment put.3) known in
          subst (TellsPlace schema a assoc) (sym put.5.2)
          (by_standing a assoc put.0 fragment known (record { independent = good.independent; is_fragment = put.3; of_assoc = same }) put.5.0 put.5.1)
      | inr kept ↦
          let old = map_at place_without schema.model.assocs a.index place (subst (λ (list : List LinkPlace). At list a.index place) first kept.0) in
          let is : place_without assoc ≡ place = ap place_without (at_once schema.model.assocs a.index assoc old.0 here old.1) ∙ old.2 in
          subst (TellsPlace schema a assoc) is
          (unmapped a assoc here (all_from_members (λ (fragment : LinkFragment). fragment.assoc ≢ a) schema.mapping.links (λ fragment has same.
          (let at = place_of_member schema.mapping.links fragment has in
          kept.1 has.0 fragment has.1 at (ap (λ (id : AssocId). id.index) same)))))
    ]

    pub tell_places : TellPlaces schema places
    tell_places = record { size = puts.size ∙ ap length first ∙ length-map schema.model.assocs place_without; each = each }
