-- Pairs of which no two write one column: the properties that are told column by column are those of the pairing.
use Rattle.std.proofs.Common.{◌≡◌, ◌≢◌, List, [], ◌∷◌, All, Contains, refl, ap}
use Rattle.std.specs.List.{AllZip}
use Rattle.std.proofs.lemmas.List.Elements.{All-head, All-tail}
use Rattle.emc_base.specs.Lists.{AreApart}
use Rattle.round_trip.specs.Words.{ColId, PropId, Pair}
use Rattle.schema_laws.specs.state_demand.Owners.{props_in}
use Rattle.schema_laws.specs.state_demand.WellWritten.{cols_of}
use Rattle.schema_laws.proofs.state_demand.lists.Lists.{same_by_key}
use Rattle.schema_laws.proofs.state_demand.owners.Owners.{pairs_from_map}

module _ (pairs : List Pair) (once : AreApart (cols_of pairs)) where
  -- of pairs that write no column twice, one property is written to a column
  pub one_prop : (pair : Pair) → Contains pairs pair → (prop : PropId) → Contains pairs (record { prop = prop; col = pair.col }) → prop ≡ pair.prop
  one_prop pair has prop too =
      let column : Pair → ColId = λ one. one.col in
      let other : Pair = record { prop = prop; col = pair.col } in
      ap (λ (one : Pair). one.prop) (same_by_key column pairs other pair (pairs_from_map (λ (a b : ColId). a ≢ b) column pairs once) too has refl)

  -- so the properties that are told column by column are those of the pairing
  pub told_props : (R : ColId → PropId → Type 0) → ((col : ColId) (prop : PropId) → R col prop → Contains pairs (record { prop = prop; col = col }))
      → (pairing : List Pair) → All (Contains pairs) pairing → (props : List PropId) → AllZip R (cols_of pairing) props → props ≡ props_in pairing
  told_props R each [] all [] zip = refl
  told_props R each [] all (prop ∷ props) zip = absurd zip
  told_props R each (pair ∷ pairing) all [] zip = absurd zip
  told_props R each (pair ∷ pairing) all (prop ∷ props) zip =
      let head : prop ≡ pair.prop = one_prop pair (All-head (Contains pairs) pair pairing all) prop (each pair.col prop zip.0) in
      let tail : props ≡ props_in pairing = told_props R each pairing (All-tail (Contains pairs) pair pairing all) props zip.1 in
      λ k. head k ∷ tail k
