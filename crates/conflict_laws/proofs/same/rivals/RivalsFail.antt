-- Rivals: the states with their entities have the same tables.
use Rattle.std.proofs.Common.{◌≡◌, ◌≢◌, ◌&&◌, ◌==◌, [], Bool, true, true≢false, map, not, IsTrue, refl, sym, ap, subst, ◌∙◌}
use Rattle.std.proofs.lemmas.Bool.{and_parts, not-true}
use Rattle.round_trip.specs.Words.{AssocId, Entity, EntitySet, FailsAt, State, At, key_of, place_at}
use Rattle.round_trip.specs.declared.FailKind.TheVariants as kind
use Rattle.regions.specs.declared.region.Region.{Region}
use Rattle.regions.specs.Basis.{Basis}
use Rattle.regions.specs.Patterns.{Valuation}
use Rattle.regions.specs.Regions.{tested_props}
use Rattle.regions.specs.region_laws.IsBasis.{IsBasis}
use Rattle.regions.specs.region_laws.RegionAt.{atom_in, region_at}
use Rattle.regions.specs.region_laws.Held.{IsHeldAt, Holding}
use Rattle.regions.proofs.region_laws.listing.Listed.{set_is}
use Rattle.regions.proofs.region_laws.entities.Regions.{region_only}
use Rattle.schema_laws.proofs.state_demand.lists.Ids.{Decides-assoc}
use Rattle.region_states.specs.defaults.Admissible.{IsAdmissible}
use Rattle.region_states.specs.conflicts.SameFacts.{match_all, same_region}
use Rattle.region_states.specs.Entities.{focus_entity}
use Rattle.host_states.specs.Hosting.{HoldRivals}
use Rattle.region_states.proofs.Held.{focus_held}
use Rattle.conflict_laws.specs.rival.Alike.{AreComparable, patterns_match, HaveOneKey, AreTwins}
use Rattle.conflict_laws.specs.rival.RivalValues.{first_values, second_values}
use Rattle.conflict_laws.proofs.rival.Matching.{match_same}
use Rattle.conflict_laws.proofs.rival.Rivals.{one_focus_key, rival_keys, rivals_admissible}
use Rattle.conflict_laws.proofs.rival.Told.{told_one}
use Rattle.conflict_laws.proofs.rival.Written.{written_alike}
use Rattle.conflict_laws.proofs.same.rivals.Rivals.{twins_fail}
use Rattle.conflict_laws.specs.States.{RivalStates}
use Rattle.conflict_laws.specs.Told.{RivalRegions}
use Rattle.conflict_laws.proofs.clash.Clear.{region_clear}

-- regions of a set of which the same links are there, and that hold one entity, are one
pub one_region : (basis : Basis) → IsBasis basis → (mine theirs : Holding basis) → mine.s ≡ theirs.s → mine.region.linked ≡ theirs.region.linked → mine.entity ≡ theirs.entity
    → mine.region ≡ theirs.region
one_region basis is mine theirs one_set linked same =
    let first : mine.region ≡ region_at basis mine.s mine.entity mine.links = region_only basis is mine in
    let second : theirs.region ≡ region_at basis theirs.s theirs.entity theirs.links = region_only basis is theirs in
    let sets : mine.region.set ≡ theirs.region.set = set_is basis mine.s mine.region mine.listed ∙ one_set ∙ sym (set_is basis theirs.s theirs.region theirs.listed) in
    let types : mine.region.ty ≡ theirs.region.ty = ap (λ (r : Region). r.ty) first ∙ ap (λ e. e.ty) same ∙ sym (ap (λ (r : Region). r.ty) second) in
    let atoms : mine.region.atoms ≡ theirs.region.atoms = ap (λ (r : Region). r.atoms) first
    ∙ ap (λ e. map (atom_in basis e) (tested_props basis e.ty)) same
    ∙ sym (ap (λ (r : Region). r.atoms) second) in
    λ k. record { set = sets k; ty = types k; atoms = atoms k; linked = linked k }

module _ (basis : Basis) (given : RivalStates basis) (at : RivalRegions basis) where
  -- whether the same links are there
  abbrev links_match : Bool
  links_match = match_all (λ (a b : AssocId). a.index == b.index) at.one.linked at.two.linked

  -- what it is to be rivals, part by part
  parts : ((not (same_region at.one at.two) && links_match) ≡ true) × (patterns_match basis at.one at.two ≡ true)
  parts = and_parts (not (same_region at.one at.two) && links_match) (patterns_match basis at.one at.two) at.rivals

  -- the same links are there
  pub linked : at.one.linked ≡ at.two.linked
  linked = match_same (λ (a b : AssocId). a.index == b.index) (λ a b. (Decides-assoc a b).0) at.one.linked at.two.linked (and_parts (not (same_region at.one at.two)) links_match parts.0).1

  -- the regions are different
  differ : at.one ≢ at.two
  differ same =
      let not_same = not-true (same_region at.one at.two) (and_parts (not (same_region at.one at.two)) links_match parts.0).0 in
      true≢false (sym (subst (λ r. IsTrue (same_region at.one r)) same (told_one at.one)) ∙ not_same)

  -- and comparable
  pub comparable : AreComparable basis at.s at.one at.two
  comparable = record {
    is_one = at.is_one;
    is_two = at.is_two;
    linked = linked;
    clear_one = region_clear basis given.clear at.s at.one at.is_one;
    clear_two = region_clear basis given.clear at.s at.two at.is_two;
  }

  -- the values, and the states that hold entities with these
  abbrev values : Valuation
  values = first_values basis at.one at.two

  abbrev others : Valuation
  others = second_values basis at.one at.two

  abbrev c : State
  c = (given.rivals at.one (first_values basis at.one at.two) at.two (second_values basis at.one at.two)).0

  abbrev d : State
  d = (given.rivals at.one (first_values basis at.one at.two) at.two (second_values basis at.one at.two)).1

  -- the values are admissible
  pub admissible : IsAdmissible basis 0 at.one values × IsAdmissible basis 0 at.two others
  admissible = rivals_admissible basis given.clear.given.is_basis at.s at.one at.two comparable given.clear.given.limits parts.1

  -- give the entities one key
  pub keyed : HaveOneKey basis at.one values others
  keyed = rival_keys basis given.clear.given.is_basis at.s at.one at.two comparable

  -- and write entities of both regions alike
  twins : AreTwins basis at.s at.one at.two values others
  twins = record {
    comparable = comparable;
    allowed = admissible.0.allowed;
    others_allowed = admissible.1.allowed;
    alike = written_alike basis given.clear.given.is_basis given.clear.given.limits at.s at.one at.two comparable parts.1;
  }

  -- so the states fail
  pub rivals_fail : (set : EntitySet) → At basis.schema.model.sets at.s.index set
      → FailsAt basis.schema kind.Same (place_at set.name (key_of basis.schema.model (focus_entity basis at.one (first_values basis at.one at.two))) [])
      (given.rivals at.one (first_values basis at.one at.two) at.two (second_values basis at.one at.two)).0
      (given.rivals at.one (first_values basis at.one at.two) at.two (second_values basis at.one at.two)).1
  rivals_fail set is_set =
      let is : IsBasis basis = given.clear.given.is_basis in
      let hold : HoldRivals basis at.one at.two values others c d = given.hold.hold given.few (record {
        s = at.s;
        one = at.one;
        two = at.two;
        is_one = at.is_one;
        is_two = at.is_two;
        linked = linked;
        values = values;
        others = others;
        admissible = admissible.0;
        others_admissible = admissible.1;
        partners = refl;
        keys = one_focus_key basis is at.s at.one at.two comparable values others keyed;
      }) in
      let mine : Entity = focus_entity basis at.one values in
      let theirs : Entity = focus_entity basis at.two others in
      let held_one : IsHeldAt basis c at.s mine at.one values.part =
      focus_held basis is (record { s = at.s; region = at.one; listed = at.is_one; values = values }) admissible.0.allowed c hold.first in
      let held_two : IsHeldAt basis d at.s theirs at.two others.part =
      focus_held basis is (record { s = at.s; region = at.two; listed = at.is_two; values = others }) admissible.1.allowed d hold.second in
      twins_fail basis is given.clear.no_clash at.s set is_set at.one at.two values others twins keyed c d hold (λ same. differ (one_region basis is
      (record { s = at.s; region = at.one; entity = mine; links = held_one.links; listed = at.is_one; holds = held_one.holds })
      (record { s = at.s; region = at.two; entity = theirs; links = held_two.links; listed = at.is_two; holds = held_two.holds })
      refl linked same))
