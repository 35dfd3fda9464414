-- Which properties are lost, by the rows that are at hand.
use Rattle.std.proofs.Common.{◌≡◌, ◌==◌, ◌&&◌, Decides, List, find, Some, None, Contains, Bool, true, false, not, refl, sym, subst}
use Rattle.std.proofs.lemmas.Bool.{and_from, and_parts}
use Rattle.std.proofs.lemmas.Bool.Decides.{Decides-like}
use Rattle.emc_base.proofs.facts.Tests.{fails_by}
use Rattle.round_trip.specs.Words.{PropId, key_props, props_of}
use Rattle.regions.specs.declared.pattern.Pattern.{Pattern}
use Rattle.regions.specs.declared.pattern.Symbol.TheVariants as symbol
use Rattle.regions.specs.declared.pattern.Focus.TheVariants as focus
use Rattle.regions.specs.Basis.{Basis}
use Rattle.regions.specs.Patterns.{pattern_of}
use Rattle.regions.specs.Settled.{possible}
use Rattle.schema_laws.proofs.state_demand.lists.Ids.{Decides-prop}
use Rattle.schema_laws.proofs.state_demand.lists.Lists.{Decides-any, any_of, of_any}
use Rattle.regions.proofs.region_laws.pattern.Choices.{found_passes, none_passes}
use Rattle.region_states.specs.conflicts.SameFacts.{is_lost, is_multi, is_one_of, lists_anywhere}
use Rattle.containment.specs.declared.same_conflicts.written.Written.{Written}
use Rattle.containment.specs.same_conflicts.Lost.{is_lost_by}
use Rattle.containment.specs.same_conflicts.Written.{IsWritten, region_in}

-- whether a property is one of these
Decides-one_of : (p : PropId) (props : List PropId) → Decides (is_one_of p props) (Contains props p)
Decides-one_of p props = Decides-like (is_one_of p props)
    (λ any. let found = of_any (λ (other : PropId). other ≡ p) props any in subst (Contains props) found.2 found.1)
    (λ has. any_of (λ (other : PropId). other ≡ p) props p has refl)
    (Decides-any (λ (other : PropId). other.index == p.index) (λ (other : PropId). other ≡ p) (λ other. Decides-prop other p) props)

module _ (basis : Basis) (one : Written) (written : IsWritten basis one) where
  abbrev props : List PropId
  props = props_of basis.schema.model (region_in one).ty

  abbrev has : PropId → Bool
  has p = is_one_of p props

  abbrev part : PropId → Bool
  part p = not (is_one_of p (key_props basis.schema.model (region_in one).ty))

  abbrev several : PropId → Bool
  several p = is_multi (possible basis.schema.model (region_in one).atoms (symbol.Prop p))

  abbrev unlisted : PropId → Pattern → Bool
  unlisted p pattern = not (lists_anywhere pattern (symbol.Prop p))

  -- a property that is found is lost
  pub found_lost : (p : PropId) → find (is_lost_by basis.schema.model one) props ≡ Some p → is_lost basis (region_in one) p ≡ true
  found_lost p found =
      let passes = found_passes (is_lost_by basis.schema.model one) props p found in
      let parts = and_parts (part p && several p) (unlisted p one.pattern) passes.1 in
      let firsts = and_parts (part p) (several p) parts.0 in
      and_from ((has p && part p) && several p) (unlisted p (pattern_of basis (focus.Entity (region_in one))))
      (and_from (has p && part p) (several p) (and_from (has p) (part p) ((Decides-one_of p props).1 passes.0) firsts.0) firsts.1)
      (subst (λ pattern. unlisted p pattern ≡ true) written parts.1)

  -- where none is found, none is
  pub none_lost : find (is_lost_by basis.schema.model one) props ≡ None → (p : PropId) → is_lost basis (region_in one) p ≡ false
  none_lost none p = fails_by (is_lost basis (region_in one) p) lost
    where
      lost : is_lost basis (region_in one) p ≡ true → ⊥
      lost told =
          let parts = and_parts ((has p && part p) && several p) (unlisted p (pattern_of basis (focus.Entity (region_in one)))) told in
          let firsts = and_parts (has p && part p) (several p) parts.0 in
          let both = and_parts (has p) (part p) firsts.0 in
          none_passes (is_lost_by basis.schema.model one) props p none ((Decides-one_of p props).0 both.0)
          (and_from (part p && several p) (unlisted p one.pattern) (and_from (part p) (several p) both.1 firsts.1)
          (subst (λ pattern. unlisted p pattern ≡ true) (sym written) parts.1))
