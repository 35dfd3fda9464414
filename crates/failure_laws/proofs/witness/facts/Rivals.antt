-- Different regions, of which some values make all cells equal, are rivals, and the other way round.
use Rattle.std.proofs.Common.{◌≡◌, ◌==◌, ◌&&◌, Bool, Contains, IsTrue, true, true≢false, not, refl, sym, subst, ◌∙◌}
use Rattle.std.proofs.lemmas.Bool.{and_from, and_parts, false_from_ne_true, not-true, not_from_false}
use Rattle.round_trip.specs.Words.{AssocId, SetId}
use Rattle.schema_laws.proofs.state_demand.lists.Ids.{Decides-assoc}
use Rattle.regions.specs.declared.region.Region.{Region}
use Rattle.regions.specs.Basis.{Basis}
use Rattle.regions.specs.Regions.{regions_of}
use Rattle.regions.proofs.region_laws.listing.Listed.{set_is}
use Rattle.region_states.specs.conflicts.SameFacts.{are_rivals, match_all, same_region}
use Rattle.conflict_laws.specs.rival.Alike.{AreComparable, AreTwins, patterns_match}
use Rattle.conflict_laws.specs.rival.RivalValues.{first_values, second_values}
use Rattle.conflict_laws.specs.States.{ClearStates}
use Rattle.conflict_laws.proofs.clash.Clear.{region_clear}
use Rattle.conflict_laws.proofs.rival.Alike.{alike_match}
use Rattle.conflict_laws.proofs.rival.Matching.{match_same, match_self}
use Rattle.conflict_laws.proofs.rival.Rivals.{rivals_admissible}
use Rattle.conflict_laws.proofs.rival.Told.{told_one, told_same}
use Rattle.conflict_laws.proofs.rival.Written.{written_alike}
use Rattle.failure_laws.specs.Facts.{AreEqual}

module _ (basis : Basis) (states : ClearStates basis) (s : SetId) (one two : Region) (is_one : Contains (regions_of basis s) one) (is_two : Contains (regions_of basis s) two) where
  abbrev apart : Bool
  apart = not (same_region one two)

  abbrev links_match : Bool
  links_match = match_all (λ (a b : AssocId). a.index == b.index) one.linked two.linked

  abbrev cells_match : Bool
  cells_match = patterns_match basis one two

  comparable : one.linked ≡ two.linked → AreComparable basis s one two
  comparable linked = record {
    is_one = is_one;
    is_two = is_two;
    linked = linked;
    clear_one = region_clear basis states s one is_one;
    clear_two = region_clear basis states s two is_two;
  }

  pub rivals_computed : AreEqual basis one two → IsTrue (are_rivals basis one two)
  rivals_computed so =
      let twins : AreTwins basis s one two so.values so.others = record {
        comparable = comparable so.linked;
        allowed = so.allowed;
        others_allowed = so.others_allowed;
        alike = so.alike;
      } in
      let sets = set_is basis s one is_one ∙ sym (set_is basis s two is_two) in
      let different : IsTrue apart = not_from_false (same_region one two) (false_from_ne_true (same_region one two) (λ told. so.different (told_same one two sets told))) in
      let self : IsTrue (match_all (λ (a b : AssocId). a.index == b.index) one.linked one.linked) =
      match_self (λ (a b : AssocId). a.index == b.index) (λ a. (Decides-assoc a a).1 refl) one.linked in
      let P : _ → Type 0 = λ linked. IsTrue (match_all (λ (a b : AssocId). a.index == b.index) one.linked linked) in
      and_from (apart && links_match) cells_match
      (and_from apart links_match different (subst P so.linked self))
      (alike_match basis states.given.is_basis s one two so.values so.others twins)

  pub rivals_so : IsTrue (are_rivals basis one two) → AreEqual basis one two
  rivals_so told =
      let last = and_parts (apart && links_match) cells_match told in
      let first = and_parts apart links_match last.0 in
      let linked : one.linked ≡ two.linked = match_same (λ (a b : AssocId). a.index == b.index) (λ a b. (Decides-assoc a b).0) one.linked two.linked first.1 in
      let admissible = rivals_admissible basis states.given.is_basis s one two (comparable linked) states.given.limits last.1 in
      let P : Region → Type 0 = λ other. IsTrue (same_region one other) in
      record {
        different = λ same. true≢false (sym (subst P same (told_one one)) ∙ not-true (same_region one two) first.0);
        linked = linked;
        values = first_values basis one two;
        others = second_values basis one two;
        allowed = admissible.0.allowed;
        others_allowed = admissible.1.allowed;
        alike = written_alike basis states.given.is_basis states.given.limits s one two (comparable linked) last.1;
      }
