-- The tests that a table keeps, by the basis of the mapping.
-- Source: this project's; the cells by which the mapping compiler of Melnik, Adya and Bernstein, SIGMOD 2007, divides entities.
use Rattle.std.specs.Prelude.{◌≡◌, ◌==◌, ◌++◌, ◌&&◌, ◌<◌, ℕ, List, [], map, filter, flat_map, take, length, position, slice_get, Bool, true, false, not, Option, Some, None, unwrap_or, if◌then◌else◌}
use Rattle.std.specs.List.{enumerate_from}
use Rattle.std.specs.Option.{option_map_or}
use Rattle.round_trip.specs.Words.{SetId, TypeId, PropId, AssocId, EntityType, EntitySet, Mult, props_of}
use Rattle.edm_types.specs.declared.model.Mult.TheVariants.{One, ZeroOrOne, Many}
use Rattle.round_trip.specs.soundness.mappings.Joined.{prop}
use Rattle.regions.specs.Basis.{Basis, Host, host_end, partner_end}
use Rattle.regions.specs.Regions.{atoms_at, model_of, most_counted, regions_by, regions_of, tested_props}
use Rattle.region_partition.specs.region_lists.Counts.{capped}
use Rattle.update_views.specs.declared.region_table.telling.Test.{Test}
use Rattle.update_views.specs.declared.region_table.telling.Test.TheVariants as test
use Rattle.update_views.specs.declared.region_table.telling.LinkRule.{LinkRule}
use Rattle.update_views.specs.declared.region_table.telling.LinkRule.TheVariants as rule
use Rattle.update_views.specs.declared.region_table.numbering.TypeTests.{TypeTests}

-- where a property stands among these; their number where it doesn't
abbrev pub place_among : List PropId → PropId → ℕ
place_among properties p = unwrap_or (position (λ other. other.index == p.index) properties) (length properties)

-- which flags there may be, by whether there may be a link and by how many partners there may be
abbrev pub rule_of : Bool → Mult → LinkRule
rule_of may Many = rule.Unlooked
rule_of false partners = rule.Barred
rule_of true One = rule.Needed
rule_of true ZeroOrOne = rule.Free

-- the test of an association with this rule
abbrev pub link_by : AssocId → LinkRule → Test
link_by a told = test.Link (record { assoc = a; rule = told })

module _ (basis : Basis) where
  -- the test of a property of a type that has these
  abbrev pub value_test : List PropId → PropId → Test
  value_test properties p = test.Value (record { place = place_among properties p; constants = basis.constants (prop p); atoms = atoms_at basis p })

  -- the tests of the tested ones among a type's properties
  abbrev pub value_tests : List PropId → List Test
  value_tests properties = map (value_test properties) (filter (λ p. basis.tested (prop p)) properties)

  -- the test of a hosted association, for entities of a type
  abbrev pub link_test : TypeId → Host → Test
  link_test t host = link_by host.assoc (option_map_or
      (λ assoc. rule_of (basis.is_a t (host_end host.first_hosts assoc).ty) (partner_end host.first_hosts assoc).mult)
      (slice_get (model_of basis).assocs host.assoc.index) rule.Unlooked)

  -- the tests of a type, where so many regions come before
  abbrev pub tests_by : SetId → TypeId → ℕ → TypeTests
  tests_by s t first = record { first = first; tests = map (value_test (props_of (model_of basis) t)) (tested_props basis t) ++ map (link_test t) (basis.hosts s) }

  -- whether a numbered type is one of the set's, and concrete
  abbrev pub is_type_of : EntitySet → ℕ × EntityType → Bool
  is_type_of set placed = not placed.1.is_abstract && basis.is_a (record { index = placed.0 }) set.element

  -- those of the set before a place
  abbrev pub types_before : EntitySet → ℕ → List TypeId
  types_before set i = map (λ placed. record { index = placed.0 }) (filter (is_type_of set) (take i (enumerate_from 0 (model_of basis).types)))

  -- how many regions have one of these
  abbrev pub count_before : SetId → EntitySet → ℕ → ℕ
  count_before s set i = capped (length (flat_map (regions_by basis s) (types_before set i)))

  -- the tests of a numbered type, if it is one of the set's, and concrete
  abbrev pub type_tests : SetId → EntitySet → ℕ × EntityType → Option TypeTests
  type_tests s set placed = if is_type_of set placed then Some (tests_by s (record { index = placed.0 }) (count_before s set placed.0)) else None

  -- the regions are few, and these are the tests by the model's types; none where there is no such set
  pub record AreTypeTests (s : SetId) (types : List (Option TypeTests)) : Type 0 where
    pub few : length (regions_of basis s) < most_counted
    pub are : types ≡ option_map_or (λ set. map (type_tests s set) (enumerate_from 0 (model_of basis).types)) (slice_get (model_of basis).sets s.index) []
