-- Pairs of entities that are shown: of rivals, and of a lost property.
use Rattle.std.proofs.Common.{◌≡◌, Contains, None, IsTrue, refl, sym, ap, ◌∙◌}
use Rattle.round_trip.specs.Words.{Entity, PropId, SetId, key_of}
use Rattle.round_trip.specs.declared.FailKind.TheVariants as kind
use Rattle.cells.specs.Parts.{AreParts, schema_in}
use Rattle.cells.specs.declared.parts.Parts.{Parts}
use Rattle.regions.specs.Basis.{Basis}
use Rattle.regions.specs.Regions.{regions_of}
use Rattle.regions.specs.declared.region.Region.{Region}
use Rattle.region_states.specs.conflicts.SameFacts.{are_rivals, is_absent, is_lost}
use Rattle.region_states.specs.conflicts.There.{NoneFailsBy}
use Rattle.region_states.specs.Entities.{focus_entity}
use Rattle.region_states.specs.region_basis.BasisOf.{basis_of}
use Rattle.region_states.proofs.region_basis.Bases.{basis_is}
use Rattle.host_states.specs.Hosting.{HasOneEntityPerKey, HaveFewPartners}
use Rattle.host_states.proofs.FewPartners.{few_by_clear}
use Rattle.conflict_laws.specs.States.{RivalStates}
use Rattle.conflict_laws.specs.Told.{RivalRegions}
use Rattle.conflict_laws.specs.rival.RivalValues.{first_values, second_values}
use Rattle.conflict_laws.specs.same.SameValues.{first_several, with_one, with_other}
use Rattle.conflict_laws.proofs.Exact.{small_states}
use Rattle.conflict_laws.proofs.rival.Rivals.{one_focus_key}
use Rattle.conflict_laws.proofs.same.lost.Absent.{one_per_key}
use Rattle.conflict_laws.proofs.same.lost.Lost.{lost_differ, lost_keys, lost_told}
use Rattle.conflict_laws.proofs.same.rivals.RivalsFail.{admissible, comparable, keyed, linked}
use Rattle.regions.proofs.region_laws.pattern.types.Regions.{parts_of}
use Rattle.witness_state.specs.Small.{ArePair}

module _ (parts : Parts) (are : AreParts parts) (none : NoneFailsBy (schema_in parts) kind.Clash) where
  abbrev basis : Basis
  basis = basis_of parts

  abbrev states : RivalStates basis
  states = small_states basis (basis_is parts are) are.limits none

  -- no association lets an entity have any number of partners
  pub few_partners : HaveFewPartners basis
  few_partners = few_by_clear basis (basis_is parts are) are.limits none

  module _ (s : SetId) where
    -- two rivals
    module _ (one two : Region) (is_one : Contains (regions_of basis s) one) (is_two : Contains (regions_of basis s) two) (told : IsTrue (are_rivals basis one two))
        (first second : Entity) (first_is : first ≡ focus_entity basis one (first_values basis one two)) (second_is : second ≡ focus_entity basis two (second_values basis one two)) where
      abbrev at : RivalRegions basis
      at = record { s = s; one = one; two = two; is_one = is_one; is_two = is_two; rivals = told }

      pub rival_pair : ArePair basis 0 one two first second (first_values basis one two) (second_values basis one two)
      rival_pair = record {
        one_has = record { s = s; listed = is_one; is = first_is; admissible = (admissible basis states at).0; parts = refl };
        two_has = record { s = s; listed = is_two; is = second_is; admissible = (admissible basis states at).1; parts = refl };
        one_set = refl;
        linked = linked basis states at;
        keys = ap (key_of basis.schema.model) first_is
            ∙ one_focus_key basis (basis_is parts are) s one two (comparable basis states at) (first_values basis one two) (second_values basis one two) (keyed basis states at)
            ∙ sym (ap (key_of basis.schema.model) second_is);
      }

    module _ (region : Region) (has : Contains (regions_of basis s) region) where
      -- two entities that differ in a lost property
      pub lost_pair : (p : PropId) → IsTrue (is_lost basis region p) → (first second : Entity) → first ≡ focus_entity basis region (with_one basis region p)
          → second ≡ focus_entity basis region (with_other basis region p) → ArePair basis 0 region region first second (with_one basis region p) (with_other basis region p)
      lost_pair p told first second first_is second_is =
          let of = parts_of basis s region has in
          let differ = lost_differ basis states s of.set of.is_set region has p (lost_told basis region p told) in
          record {
            one_has = record { s = s; listed = has; is = first_is; admissible = differ.0; parts = differ.2.one_parts };
            two_has = record { s = s; listed = has; is = second_is; admissible = differ.1; parts = differ.2.two_parts };
            one_set = refl;
            linked = refl;
            keys = ap (key_of basis.schema.model) first_is ∙ lost_keys basis states s of.set of.is_set region has p (lost_told basis region p told)
                ∙ sym (ap (key_of basis.schema.model) second_is);
          }

      -- a region without rows that has one entity for each key
      pub one_entity : IsTrue (is_absent basis region) → first_several basis region ≡ None → HasOneEntityPerKey basis region
      one_entity told no_several = one_per_key basis (basis_is parts are) (record { s = s; region = region; listed = has; absent = told }) no_several
