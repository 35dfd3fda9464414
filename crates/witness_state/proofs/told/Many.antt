-- What is shown of two partners of one entity.
use Rattle.std.proofs.Common.{◌≡◌, ◌<◌, [], length, Bool, not, None, refl, sym, ap, subst, ◌∙◌}
use Rattle.std.proofs.lemmas.Option.{slice_get_within}
use Rattle.emc_base.proofs.Lists.{at_once}
use Rattle.edm_types.specs.declared.model.Mult.TheVariants.{Many}
use Rattle.round_trip.specs.Words.{Assoc, AssocId, At, LinkFragId, Place, State, place_at}
use Rattle.round_trip.specs.declared.FailKind.TheVariants as kind
use Rattle.table_owners.specs.declared.places.LinkPlace.{LinkPlace}
use Rattle.table_owners.specs.declared.places.LinkPlace.TheVariants as place
use Rattle.table_owners.specs.Places.{AreToldHosted}
use Rattle.table_owners.proofs.ownership.Hosting.{told_hosted}
use Rattle.cells.specs.Parts.{AreParts, schema_in}
use Rattle.cells.specs.declared.parts.Parts.{Parts}
use Rattle.regions.specs.Basis.{Basis, Host}
use Rattle.regions.specs.region_laws.IsBasis.{IsHostOf}
use Rattle.region_states.specs.declared.conflicts.conflict.Conflict.TheVariants as conflict
use Rattle.region_states.specs.region_basis.BasisOf.{basis_of}
use Rattle.region_states.proofs.region_basis.Bases.{basis_is}
use Rattle.population.specs.Numbered.{end_of}
use Rattle.host_states.proofs.focus.HostEnds.{partner_side}
use Rattle.failure_laws.specs.Facts.{HasManyPartners}
use Rattle.failure_laws.specs.Places.{IsSharedCell}
use Rattle.failure_laws.specs.SmallLinks.{small_shared}
use Rattle.failure_laws.specs.Witnesses.{alone, hosts_first}
use Rattle.failure_laws.proofs.witness.Links.{first_is}
use Rattle.witness_state.specs.Shown.{IsShownOf, shown_alone}
use Rattle.witness_state.proofs.told.Links.{of_assoc_is}

-- whether links stand at the first end; of those that don't stand at an end, anything
abbrev at_first_end : Bool → LinkPlace → Bool
at_first_end usual (place.Hosted first_hosts number) = first_hosts
at_first_end usual (place.Joined number) = usual
at_first_end usual place.Unmapped = usual
at_first_end usual place.Constraint = usual

module _ (parts : Parts) (are : AreParts parts) (a : AssocId) (many : HasManyPartners (basis_of parts) a) where
  abbrev basis : Basis
  basis = basis_of parts

  abbrev host : Host
  host = many.at.host

  hosted : IsHostOf (schema_in parts) many.s host
  hosted = ((basis_is parts are).hosts many.s host).0 many.at.hosts

  pub told_there : AreToldHosted parts.cells.now.places a host.first_hosts
  told_there =
      let told = (told_hosted (schema_in parts) are.sound parts.cells.now.places are.cells.places host.assoc hosted.assoc hosted.is_assoc host.first_hosts).1
      (record { fragment = hosted.fragment; is_fragment = hosted.is_fragment; of_assoc = hosted.of_assoc; hosted = hosted.hosted }) in
      subst (λ b. AreToldHosted parts.cells.now.places b host.first_hosts) many.of_assoc told

  -- it is told as hosted
  pub is_told : (found : LinkPlace) → At parts.cells.now.places a.index found → found ≡ place.Hosted host.first_hosts told_there.0
  is_told found there = at_once parts.cells.now.places a.index found (place.Hosted host.first_hosts told_there.0) there told_there.1

  assoc_there : At (schema_in parts).model.assocs a.index many.at.assoc
  assoc_there = subst (λ (b : AssocId). At (schema_in parts).model.assocs b.index many.at.assoc) many.of_assoc many.at.is_assoc

  pub many_within : a.index < length (schema_in parts).model.assocs
  many_within = slice_get_within (schema_in parts).model.assocs a.index many.at.assoc assoc_there

  module _ (first_hosts : Bool) (number : LinkFragId) (told : At parts.cells.now.places a.index (place.Hosted first_hosts number)) where
    first_same : first_hosts ≡ host.first_hosts
    first_same = ap (at_first_end first_hosts) (is_told (place.Hosted first_hosts number) told)

    module _ (assoc : Assoc) (here : At (schema_in parts).model.assocs a.index assoc) where
      assoc_same : many.at.assoc ≡ assoc
      assoc_same = at_once (schema_in parts).model.assocs a.index many.at.assoc assoc assoc_there here

      pub partner_many : (end_of (not first_hosts) assoc).mult ≡ Many
      partner_many =
          let near : (end_of (not host.first_hosts) many.at.assoc).mult ≡ Many = subst (λ (end : _). end.mult ≡ Many) (partner_side host.first_hosts many.at.assoc) many.many in
          subst (λ (first : Bool). (end_of (not first) assoc).mult ≡ Many) (sym first_same) (subst (λ (one : Assoc). (end_of (not host.first_hosts) one).mult ≡ Many) assoc_same near)

      first_told : hosts_first basis a assoc ≡ first_hosts
      first_told = subst (λ (one : Assoc). hosts_first basis a one ≡ host.first_hosts) assoc_same
          (first_is basis (basis_is parts are) are.limits a (place_at [] [] []) many.s many.at many.of_assoc) ∙ sym first_same

      pub many_shown : (at : Place) → IsSharedCell basis a at → (state : State) → state ≡ small_shared basis.schema.model 0 a assoc first_hosts
          → IsShownOf basis (conflict.ManyLinks a) (shown_alone kind.Clash at state)
      many_shown at cell state is =
          let small : state ≡ small_shared basis.schema.model 0 a assoc (hosts_first basis a assoc) = is ∙ ap (small_shared basis.schema.model 0 a assoc) (sym first_told) in
          record {
            of_kind = refl;
            at_place = cell;
            states = (λ k. (small k, None)) ∙ of_assoc_is parts are a (λ one. alone (small_shared basis.schema.model 0 a one (hosts_first basis a one))) assoc here;
          }
