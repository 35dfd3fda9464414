-- The rows at a key meet one case alone.
use Rattle.std.proofs.Common.{◌≡◌, List, Bool, true, false, Contains, refl, sym, ◌∙◌}
use Rattle.round_trip.specs.Words.{SetId, TableId, ColId, RoundTrips, Tables, Value}
use Rattle.cells.specs.Limits.{IsWithinLimits}
use Rattle.regions.specs.declared.region.Region.{Region}
use Rattle.regions.specs.Basis.{Basis}
use Rattle.regions.specs.Regions.{regions_of}
use Rattle.regions.specs.region_laws.IsBasis.{IsBasis}
use Rattle.regions.proofs.region_laws.listing.Listed.{set_is}
use Rattle.region_states.specs.conflicts.SameFacts.{same_region}
use Rattle.conflict_laws.proofs.rival.Told.{told_same}
use Rattle.case_laws.specs.Reading.{DecidesFree}
use Rattle.case_laws.specs.Told.{IsMet, IsReadable}
use Rattle.case_laws.proofs.own.Flags.{same_flags}
use Rattle.case_laws.proofs.own.Reading.{IsReading, rivals}
use Rattle.case_laws.proofs.reading.RoundTripping.{no_rivals, readable}
use Rattle.case_laws.proofs.reading.Telling.{some_told}
use Rattle.case_laws.proofs.shown.Shown.{AreAlone}

module _ (basis : Basis) (is : IsBasis basis) (limits : IsWithinLimits basis.schema) (round : RoundTrips basis.schema)
    (is_free : TableId → ColId → Bool) (decides : DecidesFree basis.schema is_free) (s : SetId) (tables : Tables) (key : List Value) where
  -- a region whose case the rows meet can be read
  pub reading : (region : Region) (listed : Contains (regions_of basis s) region) → IsMet basis is_free s region tables key
      → AreAlone is_free basis is decides s region listed (readable basis is limits round s region listed).clear tables key
      → IsReading is_free basis is decides s tables key region
  reading region listed met are_alone =
      let can : IsReadable basis s region = readable basis is limits round s region listed in
      let found = some_told is_free basis is decides s region can tables key met are_alone in
      record { can = can; met = met; are_alone = are_alone; entity = found.0; links = found.1; told = found.2 }

  pub one_case : (one two : Region) → IsReading is_free basis is decides s tables key one → IsReading is_free basis is decides s tables key two → one ≡ two
  one_case one two of_one of_two = by (same_region one two) refl
    where
      by : (b : Bool) → same_region one two ≡ b → one ≡ two
      by true told = told_same one two (set_is basis s one of_one.can.listed ∙ sym (set_is basis s two of_two.can.listed)) told
      by false apart = absurd (no_rivals basis is limits round s one two of_one.can.listed of_two.can.listed
          (rivals is_free basis is decides s tables key one two of_one of_two
          (same_flags is_free basis is limits round decides s tables key one two of_one of_two) apart))
