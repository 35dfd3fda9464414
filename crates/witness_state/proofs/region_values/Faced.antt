-- Whether a column holds null for certain in the pattern of another region, and the value of a property that follows.
use Rattle.std.proofs.Common.{◌≡◌, ◌&&◌, ℕ, List, Bool, true, false, not, slice_get, Option, Some, None, if◌then◌else◌, sym, ap, ◌∙◌}
use Rattle.std.specs.Option.{option_map_or}
use Rattle.round_trip.specs.Words.{PropId, Value, Null, key_props}
use Rattle.region_states.specs.conflicts.Facts.{listed_in, lists}
use Rattle.region_states.specs.conflicts.SameFacts.{is_multi, is_one_of, lists_anywhere}
use Rattle.regions.specs.declared.region.Region.{Region}
use Rattle.regions.specs.declared.pattern.Focus.TheVariants as focus
use Rattle.regions.specs.declared.pattern.Pattern.{Pattern}
use Rattle.regions.specs.declared.pattern.PatternRow.{PatternRow}
use Rattle.regions.specs.declared.pattern.Symbol.{Symbol}
use Rattle.regions.specs.declared.pattern.Symbol.TheVariants as symbol
use Rattle.regions.specs.Basis.{Basis}
use Rattle.regions.specs.Patterns.{pattern_of}
use Rattle.regions.specs.Settled.{possible, settle}
use Rattle.conflict_laws.specs.rival.RivalValues.{faces_null, is_null_cell, rival_value, shared_value}
use Rattle.witness_state.specs.declared.region_values.rivals.Rival.{Rival}
use Rattle.witness_state.specs.region_values.Rivals.{IsRival}

module _ (basis : Basis) where
  -- a column that lists the property holds null in this pattern of the other region
  abbrev pub faces_in : Region → PropId → PatternRow → Pattern → ℕ × List Symbol → Bool
  faces_in other p row facing placed = lists placed.1 (symbol.Prop p)
      && is_null_cell (settle basis.schema.model other.atoms (listed_in facing row.table (record { index = placed.0 })))

  -- in its pattern
  abbrev pub faces_at : Region → PropId → PatternRow → ℕ × List Symbol → Bool
  faces_at other p row = faces_in other p row (pattern_of basis (focus.Entity other))

  module _ (rival : Rival) (is : IsRival basis rival) (p : PropId) where
    -- what is told by the pattern that is at hand
    pub told_at : (row : PatternRow) (placed : ℕ × List Symbol) (b : Bool) → b ≡ faces_in rival.other.now p row rival.facing.now placed
        → faces_at rival.other.now p row placed ≡ b
    told_at row placed b told = sym (told ∙ ap (λ facing. faces_in rival.other.now p row facing placed) is.faced)

    -- a property is no part of the key, may have several values and is listed in the pattern
    abbrev pub is_open : Pattern → Bool
    is_open pattern = not (is_one_of p (key_props basis.schema.model rival.region.now.ty))
        && is_multi (possible basis.schema.model rival.region.now.atoms (symbol.Prop p)) && lists_anywhere pattern (symbol.Prop p)

    abbrev shared : Option Value
    shared = option_map_or (λ declared. Some (shared_value basis rival.first.now rival.second.now p declared)) (slice_get basis.schema.model.props p.index) None

    abbrev by_tests : Bool → Bool → Option Value
    by_tests opened faced = if opened then (if faced then Some Null else shared) else None

    abbrev Gives : Option Value → Type 0
    Gives value = value ≡ rival_value basis rival.first.now rival.second.now rival.region.now rival.other.now p

    by_patterns : (opened faced : Bool) → opened ≡ is_open rival.pattern.now → faced ≡ faces_null basis rival.region.now rival.other.now p → Gives (by_tests opened faced)
    by_patterns opened faced open_is faced_is =
        ap (λ b. by_tests b faced) (open_is ∙ ap is_open is.own)
        ∙ ap (by_tests (is_open (pattern_of basis (focus.Entity rival.region.now)))) faced_is

    -- it isn't so
    pub stays : false ≡ is_open rival.pattern.now → Gives None
    stays closed = ap (λ b. by_tests b (faces_null basis rival.region.now rival.other.now p)) (closed ∙ ap is_open is.own)

    -- it is so, and faces null
    pub is_null : true ≡ is_open rival.pattern.now → true ≡ faces_null basis rival.region.now rival.other.now p → Gives (Some Null)
    is_null open_is faced_is = by_patterns true true open_is faced_is

    -- it is so, and faces none
    pub is_shared : true ≡ is_open rival.pattern.now → false ≡ faces_null basis rival.region.now rival.other.now p
        → Gives (option_map_or (λ declared. Some (shared_value basis rival.first.now rival.second.now p declared)) (slice_get basis.schema.model.props p.index) None)
    is_shared open_is faced_is = by_patterns true false open_is faced_is
