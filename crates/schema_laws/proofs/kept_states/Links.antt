-- Where no legal state fails, legal states with the same tables have the same links: those of mapped associations are told by the tables, and where nothing maps an
-- association two such states would fail.
use Rattle.std.proofs.Common.{◌≡◌, ◌≢◌, ◌⊎◌, ⊎_elim, inl, inr, ◌<◌, ◌≤◌, ◌==◌, List, [], map, length, take, drop, Contains, IsPermutation, Option, Some, None, refl, sym, ap, subst, ◌∙◌}
use Rattle.std.proofs.lemmas.Bool.{cases_lt}
use Rattle.std.proofs.lemmas.List.Elements.{All-contains}
use Rattle.std.proofs.lemmas.List.Sorted.{IsPermutation-sym, Contains-permutation}
use Rattle.emc_base.proofs.Lists.{all_from_members, at_once, item_at}
use Rattle.emc_base.proofs.facts.Pairs.{both_none}
use Rattle.emc_base.proofs.facts.Standing.{none_stands}
use Rattle.round_trip.specs.Words.{AreSameTables, AreSameTuples, Assoc, AssocId, At, Constraint, FailsAt, IsIndependent, IsLegal, IsLink, IsSameState, IsShownLinkTuple, IsWrittenLinkTuple, Link, LinkFragment, Place, RoundTrips, Satisfies, Schema, State, Tables, TablesAre, Value, link_cells, links_in, place_at, rows_in}
use Rattle.round_trip.specs.FailsAt.{key_in_tuple}
use Rattle.round_trip.specs.declared.FailKind.TheVariants as kind
use Rattle.round_trip.specs.soundness.mappings.Mappings.{IsSoundSchema}
use Rattle.schema_laws.specs.sound_demand.Deriving.{derives}
use Rattle.schema_laws.proofs.state_demand.lists.Ids.{Decides-assoc}
use Rattle.schema_laws.proofs.state_demand.lists.Lists.{any_or_none}
use Rattle.schema_laws.proofs.state_demand.lists.Permutations.{same_members_permute}
use Rattle.schema_laws.proofs.state_demand.tables.Good.{satisfied}
use Rattle.schema_laws.proofs.state_demand.writings.Decisions.{both_or_not, key_or_not, so_or_not}
use Rattle.schema_laws.proofs.sound_demand.Deriving.{decides_types}
use Rattle.schema_laws.proofs.sound_demand.Fitting.{has_assocs}
use Rattle.schema_laws.proofs.sound_demand.tuples.TupleKeys.{first_key_in, second_key_in}
use Rattle.schema_laws.proofs.kept_states.Entities.{past_none}

-- links with the same keys are one
link_or_not : (one two : Link) → (one ≡ two) ⊎ (one ≢ two)
link_or_not one two = ⊎_elim
    (λ (same : (one.first ≡ two.first) × (one.second ≡ two.second)). inl (λ i. record { first = same.0 i; second = same.1 i }))
    (λ (not : ¬ ((one.first ≡ two.first) × (one.second ≡ two.second))). inr (λ same. not (ap (λ (x : Link). x.first) same, ap (λ (x : Link). x.second) same)))
    (both_or_not (key_or_not one.first two.first) (key_or_not one.second two.second))

-- a link stands in a list, or it doesn't
link_stands_or_not : (links : List Link) (link : Link) → Contains links link ⊎ ¬ Contains links link
link_stands_or_not links link = ⊎_elim
    (λ (found : (other : Link) × Contains links other × (link ≡ other)). inl (subst (Contains links) (sym found.2) found.1))
    (λ (none : (other : Link) → Contains links other → link ≢ other). inr (λ has. none link has refl))
    (any_or_none (λ (other : Link). link ≡ other) (link_or_not link) links)

-- an association is independent, or it isn't
independent_or_not : (assoc : Assoc) → IsIndependent assoc ⊎ ¬ IsIndependent assoc
independent_or_not assoc = by assoc.constraint refl
  where
    by : (told : Option Constraint) → assoc.constraint ≡ told → IsIndependent assoc ⊎ ¬ IsIndependent assoc
    by None is = inl is
    by (Some constraint) is = inr (λ independent. let never : None ≡ Some constraint = sym independent ∙ is in cc)

module _ (schema : Schema) (sound : IsSoundSchema schema) where
  module _ (agrees : (place : Place) (c d : State) → ¬ FailsAt schema kind.Disagrees place c d) where
    -- where none disagrees, the fragments agree with the tables of a legal state
    agree : (state : State) → IsLegal schema.model state → (tables : Tables) → TablesAre schema state tables → Satisfies schema state tables
    agree state legal tables are = satisfied schema (derives schema.model) (decides_types schema.model sound.model) (has_assocs schema sound) state tables are
        (λ place fails. agrees place state state (record { legal = legal; fails = fails }))

    module _ (c d : State) (legal_c : IsLegal schema.model c) (legal_d : IsLegal schema.model d) (tables others : Tables) (are_c : TablesAre schema c tables)
        (are_d : TablesAre schema d others) (same : AreSameTables tables others) (fragment : LinkFragment) (mapped : Contains schema.mapping.links fragment) where
      abbrev Agrees : State → Tables → LinkFragment → Type 0
      Agrees state held f = AreSameTuples (IsWrittenLinkTuple schema state f) (IsShownLinkTuple held f)

      -- a link's tuple is that of a link of the other state
      tuple_too : (tuple : List Value) → IsWrittenLinkTuple schema c fragment tuple → IsWrittenLinkTuple schema d fragment tuple
      tuple_too tuple written =
          let shown = (All-contains (Agrees c tables) schema.mapping.links fragment (agree c legal_c tables are_c).links mapped).shown tuple written in
          let there = Contains-permutation (rows_in tables fragment.table) (rows_in others fragment.table) shown.0 (same fragment.table) shown.1 in
          (All-contains (Agrees d others) schema.mapping.links fragment (agree d legal_d others are_d).links mapped).written tuple (shown.0, there, shown.2, shown.3)

      -- and this is the same link, for the tuple tells both keys
      pub link_too : (assoc : Assoc) → At schema.model.assocs fragment.assoc.index assoc → (link : Link) → Contains (links_in c fragment.assoc) link
          → Contains (links_in d fragment.assoc) link
      link_too assoc here link has =
          let tuple_of : Assoc → Link → List Value = λ a one. map (λ cell. cell.1) (link_cells schema.model a fragment one) in
          let found = tuple_too (tuple_of assoc link) (assoc, link, here, has, refl) in
          let other : Link = found.1 in
          let is_assoc : found.0 ≡ assoc = at_once schema.model.assocs fragment.assoc.index found.0 assoc found.2 here in
          let tuples : tuple_of assoc link ≡ tuple_of assoc other = found.4 ∙ ap (λ a. tuple_of a other) is_assoc in
          let firsts : link.first ≡ other.first =
          sym (first_key_in schema sound c legal_c fragment mapped assoc here link has)
          ∙ ap (λ tuple. key_in_tuple schema.model assoc.first.ty fragment.first (take (length fragment.first) tuple)) tuples
          ∙ first_key_in schema sound d legal_d fragment mapped assoc here other found.3 in
          let seconds : link.second ≡ other.second =
          sym (second_key_in schema sound c legal_c fragment mapped assoc here link has)
          ∙ ap (λ tuple. key_in_tuple schema.model assoc.second.ty fragment.second (drop (length fragment.first) tuple)) tuples
          ∙ second_key_in schema sound d legal_d fragment mapped assoc here other found.3 in
          let is_other : link ≡ other = λ k. record { first = firsts k; second = seconds k } in
          subst (Contains (links_in d fragment.assoc)) (sym is_other) found.3

  module _ (round_trips : RoundTrips schema) where
    -- an association of the model holds each link of the one state in the other too
    module _ (c d : State) (s t : Tables) (is_c : IsLegal schema.model c) (is_d : IsLegal schema.model d) (are_c : TablesAre schema c s) (are_d : TablesAre schema d t)
        (same : AreSameTables s t) (a : AssocId) (assoc : Assoc) (here : At schema.model.assocs a.index assoc) (link : Link) (has : Contains (links_in c a) link) where
      abbrev independent : IsIndependent assoc
      independent = (All-contains (IsLink schema.model assoc) (links_in c a) link (is_c.shape.links a assoc here) has).independent

      mapped_too : (fragment : LinkFragment) → Contains schema.mapping.links fragment → fragment.assoc ≡ a → Contains (links_in d a) link
      mapped_too fragment mapped of_assoc =
          let At_assoc : AssocId → Type 0 = λ b. At schema.model.assocs b.index assoc in
          let In : State → AssocId → Type 0 = λ state b. Contains (links_in state b) link in
          subst (In d) of_assoc (link_too (round_trips kind.Disagrees) c d is_c is_d s t are_c are_d same fragment mapped assoc (subst At_assoc (sym of_assoc) here) link
          (subst (In c) (sym of_assoc) has))

      unmapped_too : ((fragment : LinkFragment) → Contains schema.mapping.links fragment → fragment.assoc ≢ a) → Contains (links_in d a) link
      unmapped_too none = ⊎_elim
          (λ there. there)
          (λ (not_there : ¬ Contains (links_in d a) link). absurd (round_trips kind.Same (place_at assoc.set_name [] []) c d (record {
            legal = is_c;
            fails = record {
              tables = s;
              other_tables = t;
              defined = are_c;
              other_defined = are_d;
              same_tables = same;
              other_legal = is_d;
              different = λ (alike : IsSameState c d). not_there (Contains-permutation (links_in c a) (links_in d a) link (alike.links a) has);
              differ = inr (
                a,
                assoc,
                record { is_assoc = here; independent = independent; unmapped = all_from_members (λ (fragment : LinkFragment). fragment.assoc ≢ a) schema.mapping.links none },
                inl (link, has, not_there),
                refl,
              );
            };
          })))
          (link_stands_or_not (links_in d a) link)

      stands_too : Contains (links_in d a) link
      stands_too = ⊎_elim
          (λ (found : (fragment : LinkFragment) × Contains schema.mapping.links fragment × (fragment.assoc ≡ a)). mapped_too found.0 found.1 found.2)
          (λ (none : (fragment : LinkFragment) → Contains schema.mapping.links fragment → fragment.assoc ≢ a). unmapped_too none)
          (any_or_none (λ (fragment : LinkFragment). fragment.assoc ≡ a) (λ fragment. so_or_not (fragment.assoc.index == a.index) (Decides-assoc fragment.assoc a)) schema.mapping.links)

    module _ (c d : State) (s t : Tables) (is_c : IsLegal schema.model c) (is_d : IsLegal schema.model d) (are_c : TablesAre schema c s) (are_d : TablesAre schema d t)
        (same : AreSameTables s t) where
      -- an association of the model holds the same links in both
      same_of_assoc : (a : AssocId) (assoc : Assoc) → At schema.model.assocs a.index assoc → IsPermutation (links_in c a) (links_in d a)
      same_of_assoc a assoc here = ⊎_elim
          (λ (independent : IsIndependent assoc). same_members_permute (links_in c a) (links_in d a)
          (is_c.links a assoc here independent).once
          (is_d.links a assoc here independent).once
          (stands_too c d s t is_c is_d are_c are_d same a assoc here)
          (stands_too d c t s is_d is_c are_d are_c (λ table. IsPermutation-sym (rows_in s table) (rows_in t table) (same table)) a assoc here))
          (λ (constrained : ¬ IsIndependent assoc). both_none (links_in c a) (links_in d a)
          (none_stands (links_in c a) (λ link has. constrained (All-contains (IsLink schema.model assoc) (links_in c a) link (is_c.shape.links a assoc here) has).independent))
          (none_stands (links_in d a) (λ link has. constrained (All-contains (IsLink schema.model assoc) (links_in d a) link (is_d.shape.links a assoc here) has).independent)))
          (independent_or_not assoc)

      -- and past these both hold none
      pub same_links : (a : AssocId) → IsPermutation (links_in c a) (links_in d a)
      same_links a = ⊎_elim
          (λ (within : a.index < length schema.model.assocs). let found = item_at schema.model.assocs a.index within in same_of_assoc a found.0 found.1)
          (λ (past : length schema.model.assocs ≤ a.index). both_none (links_in c a) (links_in d a)
          (past_none c.links (length schema.model.assocs) a.index is_c.shape.assocs past)
          (past_none d.links (length schema.model.assocs) a.index is_d.shape.assocs past))
          (cases_lt a.index (length schema.model.assocs))
