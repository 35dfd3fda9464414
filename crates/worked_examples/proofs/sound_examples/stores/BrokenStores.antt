-- Stores that aren't sound.
use Rattle.std.proofs.Common.{◌≡◌, [], ◌∷◌, refl, arith}
use Rattle.std.specs.Prelude.{Contains, false, codes}
use Rattle.round_trip.specs.Words.{Column}
use Rattle.emc_base.specs.declared.value.Kind.TheVariants as kind
use Rattle.worked_examples.specs.Ids.{table_id, col_id, optional_column}
use Rattle.round_trip.specs.soundness.Stores.{IsKeyColumn, IsSoundStore}
use Rattle.worked_examples.specs.sound_examples.BrokenStores.{optional_table, optional_key, one_name, to_itself, to_half}
use Rattle.worked_examples.proofs.sound_examples.Names.{other_col}
use Rattle.worked_examples.proofs.sound_examples.Lists.{not_among}

no_key : (column : Column) → optional_column (codes "Id") kind.Int32 ≡ column → ¬ (column.nullable ≡ false)
no_key column is needed = absurd (cc)

pub no_optional_key : ¬ IsSoundStore optional_key
no_optional_key sound =
    let id : IsKeyColumn optional_table (col_id 0) = (sound.tables 0 optional_table (omega arith)).key.columns 0 (col_id 0) (omega arith) in
    let is : optional_column (codes "Id") kind.Int32 ≡ id.column = cc (id.is_column) in
    no_key id.column is id.needed

pub no_one_name : ¬ IsSoundStore one_name
no_one_name sound = sound.names.columns 0 optional_table (omega arith) 0 1 [] (omega arith) (omega arith) refl

pub no_to_itself : ¬ IsSoundStore to_itself
no_to_itself sound = (sound.keys 0 (record { name = []; from = table_id 0; from_cols = []; to = table_id 0; to_cols = [] }) (omega arith)).elsewhere (refl, refl)

pub no_to_half : ¬ IsSoundStore to_half
no_to_half sound =
    let all : Contains (col_id 0 ∷ []) (col_id 1)
    = (sound.keys 0 (record { name = []; from = table_id 0; from_cols = []; to = table_id 0; to_cols = [] }) (omega arith)).columns.whole.all 1 (col_id 1) (omega arith) in
    not_among (col_id 0 ∷ []) (col_id 1) (other_col (col_id 1) (col_id 0) refl, tt) all
