-- States of people and their bosses: which are legal, and what their links are.
use Rattle.std.proofs.Common.{◌≡◌, ◌≢◌, ℕ, ◌≤◌, List, [], ◌∷◌, refl, ap, arith}
use Rattle.std.specs.Prelude.{Contains, pos}
use Rattle.std.specs.List.{AllByRecursion}
use Rattle.std.proofs.lemmas.List.Elements.{All-from_recursion, All-weaker}
use Rattle.round_trip.specs.Words.{Value, Null, Whole, Mult, Entity, Link, IsA, key_of, IsLink, HasEntityAt, HasCount, AreLegalLinks, IsLegal}
use Rattle.edm_types.specs.IsA.{same}
use Rattle.worked_examples.specs.Ids.{type_id}
use Rattle.worked_examples.specs.people.People.{people_set, person}
use Rattle.worked_examples.specs.bosses.Bosses.{bosses, bossed_model, boss_of, with_bosses}
use Rattle.worked_examples.proofs.facts.Small.{PairsByRecursion, all_pairs}
use Rattle.worked_examples.proofs.facts.Entities.{MayStand, HaveOwnKeys, shaped_set, legal_set}
use Rattle.worked_examples.proofs.facts.States.{legal_by_parts}
use Rattle.worked_examples.proofs.people.People.{may_stand_with, no_name, ids_differ}

-- another person, or another boss, makes another link
pub links_differ : (a b c d : ℕ) → (a ≡ c → b ≢ d) → boss_of (pos a) (pos b) ≢ boss_of (pos c) (pos d)
links_differ a b c d other equal =
    let firsts : Whole (pos a) ∷ [] ≡ Whole (pos c) ∷ [] = ap (λ (link : Link). link.first) equal in
    let seconds : Whole (pos b) ∷ [] ≡ Whole (pos d) ∷ [] = ap (λ (link : Link). link.second) equal in
    let same : a ≡ c = cc (firsts) in
    other same (cc (seconds))

abbrev pub unnamed : ℕ → Entity
unnamed id = person (pos id) Null

abbrev pub three_unnamed : List Entity
three_unnamed = unnamed 1 ∷ unnamed 2 ∷ unnamed 3 ∷ []

abbrev pub two_unnamed : List Entity
two_unnamed = unnamed 1 ∷ unnamed 2 ∷ []

module _ (mult : Mult) where
  pub unnamed_stands : (id : ℕ) → id ≤ 2147483647 → MayStand (bossed_model mult) people_set (unnamed id)
  unnamed_stands id below = may_stand_with (bosses mult ∷ []) id Null below no_name

  pub unnamed_differ : (one two : ℕ) → one ≢ two → HaveOwnKeys (bossed_model mult) (unnamed one) (unnamed two)
  unnamed_differ one two other = ids_differ (bosses mult ∷ []) one two Null Null other

  pub three_stand : AllByRecursion (MayStand (bossed_model mult) people_set) three_unnamed
  three_stand = (unnamed_stands 1 (omega arith), (unnamed_stands 2 (omega arith), (unnamed_stands 3 (omega arith), tt)))

  pub three_own_keys : PairsByRecursion (HaveOwnKeys (bossed_model mult)) three_unnamed
  three_own_keys = ((unnamed_differ 1 2 (omega arith), (unnamed_differ 1 3 (omega arith), tt)), ((unnamed_differ 2 3 (omega arith), tt), (tt, tt)))

  pub two_stand : AllByRecursion (MayStand (bossed_model mult) people_set) two_unnamed
  two_stand = (unnamed_stands 1 (omega arith), (unnamed_stands 2 (omega arith), tt))

  pub two_own_keys : PairsByRecursion (HaveOwnKeys (bossed_model mult)) two_unnamed
  two_own_keys = ((unnamed_differ 1 2 (omega arith), tt), (tt, tt))

  pub is_link : (staff manager : ℕ) → IsLink (bossed_model mult) (bosses mult) (boss_of (pos staff) (pos manager))
  is_link staff manager = record { independent = refl; first = refl; second = refl }

  module _ (people : List Entity) (links : List Link) where
    -- both ends of a link stand
    abbrev pub HasEnds : Link → Type 0
    HasEnds link = HasEntityAt (bossed_model mult) (with_bosses people links) (bosses mult).first link.first
        × HasEntityAt (bossed_model mult) (with_bosses people links) (bosses mult).second link.second

    -- a link stands between two of the people
    pub has_ends : {id boss_id : ℕ} {name boss_name : Value} → Contains people (person (pos id) name) → Contains people (person (pos boss_id) boss_name)
        → HasEnds (boss_of (pos id) (pos boss_id))
    has_ends one other = ((one.0, _, one.1, one.2, (same (type_id 0), refl)), (other.0, _, other.1, other.2, (same (type_id 0), refl)))

    -- a person has as many bosses as the multiplicity allows
    abbrev pub HasItsBosses : Entity → Type 0
    HasItsBosses entity = HasCount mult (λ link. link.first ≡ key_of (bossed_model mult) entity) links

    pub record MayBeBossed : Type 0 where
      pub stand : AllByRecursion (MayStand (bossed_model mult) people_set) people
      pub own_keys : PairsByRecursion (HaveOwnKeys (bossed_model mult)) people
      pub shapes : AllByRecursion (IsLink (bossed_model mult) (bosses mult)) links
      pub ends : AllByRecursion HasEnds links
      pub once : PairsByRecursion (λ link other. link ≢ other) links
      pub partners : AllByRecursion HasItsBosses people

    module _ (may : MayBeBossed) where
      abbrev HasItsBossesIfTyped : Entity → Type 0
      HasItsBossesIfTyped entity = IsA (bossed_model mult) entity.ty (bosses mult).first.ty → HasItsBosses entity

      legal_links : AreLegalLinks (bossed_model mult) (with_bosses people links) (bosses mult) links
      legal_links = record {
        ends = All-from_recursion HasEnds links may.ends;
        once = all_pairs (λ link other. link ≢ other) links may.once;
        first_partners = All-weaker HasItsBosses HasItsBossesIfTyped (λ entity has typed. has) people (All-from_recursion HasItsBosses people may.partners);
        second_partners = λ k d below typed. tt;
      }

      pub legal_bossed : IsLegal (bossed_model mult) (with_bosses people links)
      legal_bossed = legal_by_parts (bossed_model mult) (with_bosses people links) (record {
        count = refl;
        link_count = refl;
        shapes = (shaped_set (bossed_model mult) people_set people may.stand, tt);
        sets = (legal_set (bossed_model mult) people_set people may.stand may.own_keys, tt);
        assocs = (
          record {
            shape = All-from_recursion (IsLink (bossed_model mult) (bosses mult)) links may.shapes;
            links = λ independent. legal_links;
            principals = λ constraint none. absurd (cc);
          },
          tt,
        );
      })
