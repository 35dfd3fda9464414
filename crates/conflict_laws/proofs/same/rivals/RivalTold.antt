-- Where different regions with the same flags and partners hold two entities of one key in states with the same tables, they are rivals.
use Rattle.std.proofs.Common.{◌≡◌, ◌&&◌, ◌==◌, Bool, true, false, not, IsTrue, refl, subst}
use Rattle.std.proofs.lemmas.Bool.{and_from, not_from_false}
use Rattle.round_trip.specs.Words.{SetId, AssocId, Entity, State, Tables, key_of}
use Rattle.regions.specs.Basis.{Basis}
use Rattle.regions.specs.Patterns.{by_entity}
use Rattle.regions.specs.region_laws.IsBasis.{IsBasis}
use Rattle.schema_laws.proofs.state_demand.lists.Ids.{Decides-assoc}
use Rattle.region_states.specs.conflicts.SameFacts.{are_rivals, match_all, same_region}
use Rattle.region_states.proofs.focus.Partners.{linked_allowed}
use Rattle.conflict_laws.specs.rival.Alike.{AreComparable, IsClear, PatternsMatch, patterns_match}
use Rattle.conflict_laws.proofs.rival.Alike.{alike_match}
use Rattle.conflict_laws.proofs.rival.Matching.{match_self}
use Rattle.conflict_laws.proofs.same.rows.Rows.{HaveSameTables, written_alike, at_x, at_y}
use Rattle.conflict_laws.proofs.same.rows.Together.{StandTogether}

module _ (basis : Basis) (is : IsBasis basis) (s : SetId) (c d : State) (tables others : Tables) (have : HaveSameTables basis c d tables others) (x y : Entity)
    (keyed : key_of basis.schema.model x ≡ key_of basis.schema.model y) (together : StandTogether basis s c d x y) (clear_one : IsClear basis together.one)
    (clear_two : IsClear basis together.two) where
  -- the two are comparable
  comparable : AreComparable basis s together.one together.two
  comparable = record {
    is_one = together.held_x.listed;
    is_two = together.held_y.listed;
    linked = together.linked;
    clear_one = clear_one;
    clear_two = clear_two;
  }

  -- and match, since the entities are written alike
  matching : PatternsMatch basis together.one together.two
  matching =
      let mine = at_x basis is c d tables others have s x y keyed together.one together.two together.part together.part together.held_x together.held_y in
      let theirs = at_y basis is c d tables others have s x y keyed together.one together.two together.part together.part together.held_x together.held_y in
      alike_match basis is s together.one together.two (by_entity basis.schema.model x together.part) (by_entity basis.schema.model y together.part) (record {
        comparable = comparable;
        allowed = linked_allowed basis is mine;
        others_allowed = linked_allowed basis is theirs;
        alike = written_alike basis is c d tables others have s x y keyed together.one together.two together.part together.part together.held_x together.held_y
            clear_one clear_two;
      })

  -- so they are rivals
  pub rival_told : same_region together.one together.two ≡ false → IsTrue (are_rivals basis together.one together.two)
  rival_told apart =
      let same_assoc : AssocId → AssocId → Bool = λ a b. a.index == b.index in
      let same_flags : Bool = match_all same_assoc together.one.linked together.two.linked in
      let flags : same_flags ≡ true = subst (λ list. match_all same_assoc together.one.linked list ≡ true) together.linked
      (match_self same_assoc (λ a. (Decides-assoc a a).1 refl) together.one.linked) in
      let differ : Bool = not (same_region together.one together.two) in
      and_from (differ && same_flags) (patterns_match basis together.one together.two)
      (and_from differ same_flags (not_from_false (same_region together.one together.two) apart) flags) matching
