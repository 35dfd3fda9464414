-- What is told of the regions of a set are its conflicts.
use Rattle.std.proofs.Common.{◌≡◌, List, find, map, Some, None, All, Contains, IsTrue, true, false, true≢false, not, refl, sym, ap, subst, ◌∙◌}
use Rattle.std.specs.List.{list_any}
use Rattle.std.proofs.lemmas.List.Elements.{All-contains}
use Rattle.emc_base.proofs.Mapped.{contains_map}
use Rattle.emc_base.proofs.Numbered.{map_contains}
use Rattle.round_trip.specs.Words.{SetId, PropId}
use Rattle.round_trip.specs.declared.FailKind.TheVariants as kind
use Rattle.regions.specs.declared.region.Region.{Region}
use Rattle.regions.specs.declared.pattern.Pattern.{Pattern}
use Rattle.regions.specs.Basis.{Basis}
use Rattle.regions.specs.Regions.{regions_of}
use Rattle.regions.proofs.region_laws.pattern.Choices.{found_passes, none_passes}
use Rattle.region_states.specs.conflicts.Conflicts.{IsConflictAt}
use Rattle.region_states.specs.conflicts.SameFacts.{are_rivals, is_absent, is_lost}
use Rattle.region_states.specs.declared.conflicts.conflict.Conflict.{Conflict}
use Rattle.region_states.specs.declared.conflicts.conflict.Conflict.TheVariants as conflict
use Rattle.containment.specs.declared.same_conflicts.written.Written.{Written}
use Rattle.containment.specs.same_conflicts.Written.{AreWritten, IsWritten, leaves_no_row, region_in}

module _ (basis : Basis) (s : SetId) (written : List Written) (are : AreWritten basis (regions_of basis s) written) where
  abbrev of_set : Region → Type 0
  of_set region = Contains (regions_of basis s) region

  -- a region that is lent is one of the set
  in_set : (region : Region) → Contains (map region_in written) region → Contains (regions_of basis s) region
  in_set region has = subst (λ regions. Contains regions region) are.of has

  -- a region leaves no row where there is none at hand
  absent_is : (one : Written) → Contains written one → is_absent basis (region_in one) ≡ leaves_no_row one
  absent_is one has = ap (λ (pattern : Pattern). not (list_any (λ row. true) pattern.rows)) (sym (All-contains (IsWritten basis) written one are.rows has))

  -- the first region that leaves no row
  pub absent_told : (one : Written) → find leaves_no_row written ≡ Some one → (region : Region) → region ≡ region_in one
      → IsConflictAt basis s kind.Same (conflict.Absent region)
  absent_told one found region same =
      let passes = found_passes leaves_no_row written one found in
      record {
        of_kind = refl;
        of_set = subst (Contains (regions_of basis s)) (sym same) (in_set (region_in one) (contains_map region_in written one passes.0));
        holds = ap (is_absent basis) same ∙ absent_is one passes.0 ∙ passes.1;
      }

  -- a property that is lost
  pub lost_told : (found : Region) (p : PropId) → Contains (map region_in written) found → IsTrue (is_lost basis found p) → (region : Region) → region ≡ found
      → IsConflictAt basis s kind.Same (conflict.Lost region p)
  lost_told found p has told region same = record {
    of_kind = refl;
    of_set = subst (Contains (regions_of basis s)) (sym same) (in_set found has);
    holds = ap (λ one. is_lost basis one p) same ∙ told;
  }

  -- two rivals
  pub rivals_told : (first second : Region) → Contains (map region_in written) first → Contains (map region_in written) second → IsTrue (are_rivals basis first second)
      → (one two : Region) → one ≡ first → two ≡ second → IsConflictAt basis s kind.Same (conflict.Rival one two)
  rivals_told first second has has_too told one two same same_too = record {
    of_kind = refl;
    of_set = (subst (Contains (regions_of basis s)) (sym same) (in_set first has), subst (Contains (regions_of basis s)) (sym same_too) (in_set second has_too));
    holds = (λ k. are_rivals basis (same k) (same_too k)) ∙ told;
  }

  -- where nothing is found there is no conflict
  module _ (no_absent : find leaves_no_row written ≡ None) (no_lost : All (λ one. (p : PropId) → is_lost basis (region_in one) p ≡ false) written)
      (no_rivals : (one two : Region) → Contains (map region_in written) one → Contains (map region_in written) two → are_rivals basis one two ≡ false) where
    lent : (region : Region) → Contains (regions_of basis s) region → Contains (map region_in written) region
    lent region has = subst (λ regions. Contains regions region) (sym are.of) has

    pub none_told : (one : Conflict) → ¬ IsConflictAt basis s kind.Same one
    none_told (conflict.Clash of t col one two) is = let never = is.of_kind in cc
    none_told (conflict.NullIn of t col one) is = let never = is.of_kind in cc
    none_told (conflict.Disagree of place) is = let never = is.of_kind in cc
    none_told (conflict.ManyLinks a) is = is.of_set
    none_told (conflict.Unmapped a) is = is.of_set
    none_told (conflict.Absent region) is =
        let found = map_contains region_in written region (lent region is.of_set) in
        none_passes leaves_no_row written found.0 no_absent found.1 (sym (absent_is found.0 found.1) ∙ ap (is_absent basis) found.2 ∙ is.holds)
    none_told (conflict.Rival one two) is = true≢false (sym is.holds ∙ no_rivals one two (lent one is.of_set.0) (lent two is.of_set.1))
    none_told (conflict.Lost region p) is =
        let found = map_contains region_in written region (lent region is.of_set) in
        true≢false (sym is.holds ∙ ap (λ one. is_lost basis one p) (sym found.2) ∙ All-contains (λ one. (q : PropId) → is_lost basis (region_in one) q ≡ false) written found.0 no_lost found.1 p)
