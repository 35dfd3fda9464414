-- Values by which entities of two regions are written alike.
-- Source: this project's choice of the values in the states that it shows.
use Rattle.std.specs.Prelude.{◌==◌, ◌&&◌, ℕ, List, [], ◌∷◌, slice_get, Bool, false, not, Option, Some, None, suc, if◌then◌else◌}
use Rattle.std.specs.List.{enumerate_from, list_any}
use Rattle.std.specs.Option.{option_map_or}
use Rattle.round_trip.specs.Words.{PropId, GroupId, Value, Null, Prop, key_props, props_of}
use Rattle.round_trip.specs.soundness.mappings.Joined.{prop}
use Rattle.schema_laws.specs.state_demand.Selecting.{same_value}
use Rattle.regions.specs.declared.region.Region.{Region}
use Rattle.regions.specs.declared.pattern.Focus.TheVariants as focus
use Rattle.regions.specs.declared.pattern.Symbol.TheVariants as symbol
use Rattle.regions.specs.declared.pattern.PatternRow.{PatternRow}
use Rattle.regions.specs.Basis.{Basis}
use Rattle.regions.specs.Patterns.{Valuation, pattern_of}
use Rattle.regions.specs.Settled.{Settled, known, free, possible, settle}
use Rattle.region_states.specs.defaults.Candidates.{first_free}
use Rattle.region_states.specs.defaults.Defaults.{changed, default_valuation}
use Rattle.schema_laws.specs.short_values.Places.{is_dependent}
use Rattle.schema_laws.specs.short_values.Fresh.{first_shared, fresh, second_shared}
use Rattle.region_states.specs.conflicts.Facts.{listed_in, lists}
use Rattle.region_states.specs.conflicts.SameFacts.{is_multi, is_one_of, lists_anywhere}

-- whether two answers name one group
abbrev pub same_group : Option GroupId → Option GroupId → Bool
same_group (Some one) (Some other) = one.index == other.index
same_group one other = false

-- whether a cell holds null for certain
abbrev pub is_null_cell : Settled → Bool
is_null_cell (known value) = same_value value Null
is_null_cell (free one nullable) = false

module _ (basis : Basis) where
  -- whether two properties are in one group
  abbrev pub in_one_group : PropId → PropId → Bool
  in_one_group p q = same_group (basis.group (prop p)) (basis.group (prop q))

  -- how many of these properties stand before the first one in the group of p; None where none is in it
  abbrev pub group_place : PropId → List PropId → Option ℕ
  group_place p [] = None
  group_place p (q ∷ props) = if in_one_group p q then Some 0 else option_map_or (λ place. Some (suc place)) (group_place p props) None

  -- whether some property in the group of p is a dependent one
  abbrev pub tells_other : PropId → Bool
  tells_other p = list_any (λ placed. is_dependent basis.schema.model (record { index = placed.0 }) && in_one_group p (record { index = placed.0 }))
      (enumerate_from 0 basis.schema.model.props)

  -- whether a column in which the region's pattern lists the property holds null for certain in the other region's pattern
  abbrev pub faces_null_in : Region → PropId → PatternRow → Bool
  faces_null_in other p row = list_any (λ placed. lists placed.1 (symbol.Prop p)
      && is_null_cell (settle basis.schema.model other.atoms (listed_in (pattern_of basis (focus.Entity other)) row.table (record { index = placed.0 }))))
      (enumerate_from 0 row.cells)

  abbrev pub faces_null : Region → Region → PropId → Bool
  faces_null region other p = list_any (faces_null_in other p) (pattern_of basis (focus.Entity region)).rows

  module _ (one two : Region) where
    -- the index of the value that both regions share in the group of p, where this has a dependent property: by the group's first property of the one
    -- type, or else of the other
    abbrev pub shared_index : PropId → ℕ
    shared_index p = option_map_or first_shared (group_place p (props_of basis.schema.model one.ty))
        (option_map_or second_shared (group_place p (props_of basis.schema.model two.ty)) (first_shared 0))

    -- the value that properties in the group of p share
    abbrev pub shared_value : PropId → Prop → Value
    shared_value p declared = if tells_other p then fresh declared.kind 0 (shared_index p) else first_free declared.kind (basis.constants (prop p))

    -- the value of a property that is no part of the key, may have several and is listed in the region's pattern: null where it faces null, else the
    -- shared one
    abbrev pub rival_value : Region → Region → PropId → Option Value
    rival_value region other p =
        if not (is_one_of p (key_props basis.schema.model region.ty)) && is_multi (possible basis.schema.model region.atoms (symbol.Prop p))
        && lists_anywhere (pattern_of basis (focus.Entity region)) (symbol.Prop p)
        then (if faces_null region other p then Some Null else option_map_or (λ declared. Some (shared_value p declared)) (slice_get basis.schema.model.props p.index) None)
        else None

    -- the values of the one region's entity
    abbrev pub first_values : Valuation
    first_values = changed (default_valuation basis 0 one) (rival_value one two)

    -- those of the other region's
    abbrev pub second_values : Valuation
    second_values = changed (default_valuation basis 0 two) (rival_value two one)
