-- For each region and each key that can stand a base.
use Rattle.std.proofs.Common.{◌≤◌, sym, subst}
use Rattle.std.proofs.lemmas.Slice.Zip.{AllZip-long}
use Rattle.round_trip.specs.Words.{key_props}
use Rattle.schema_laws.proofs.sound_demand.Keys.{keys_few}
use Rattle.host_states.specs.BaseStates.{FitsProp}
use Rattle.host_states.proofs.bases.BaseFor.{base_for}
use Rattle.host_states.proofs.bases.OuterRow.{outer_row}
use Rattle.host_states.proofs.bases.Stated.{key_stated}
use Rattle.host_states.proofs.base_states.each_region_has_a_base_population.Goals as goal

pub returns : goal.returns
returns c = record {
  holds = λ basis is limits s region listed key stated outer few is_outer.
      base_for basis outer s region (record { is = is; limits = limits; row = few; listed = listed }) key stated is_outer;
  row = λ basis is region key fits. outer_row key
      (subst (λ n. n ≤ 4) (sym (AllZip-long (FitsProp basis.schema.model) (key_props basis.schema.model region.ty) key fits)) (keys_few basis.schema.model is.sound.model region.ty));
  stated = key_stated;
}
