-- Properties whose values leave no trace, by the rows that are at hand.
-- Source: this project's.
use Rattle.std.specs.Prelude.{◌&&◌, Bool, not}
use Rattle.round_trip.specs.Words.{PropId, EntityModel, key_props}
use Rattle.regions.specs.declared.pattern.Symbol.TheVariants as symbol
use Rattle.regions.specs.Settled.{possible}
use Rattle.region_states.specs.conflicts.SameFacts.{is_multi, is_one_of, lists_anywhere}
use Rattle.containment.specs.declared.same_conflicts.written.Written.{Written}
use Rattle.containment.specs.same_conflicts.Written.{region_in}

-- whether a property is no part of the key, may have several values, and isn't listed
abbrev pub is_lost_by : EntityModel → Written → PropId → Bool
is_lost_by model one p = not (is_one_of p (key_props model (region_in one).ty)) && is_multi (possible model (region_in one).atoms (symbol.Prop p))
    && not (lists_anywhere one.pattern (symbol.Prop p))
