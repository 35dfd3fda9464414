use Rattle.std.proofs.Common.{rules}
use Rattle.schema_names.proofs.columns.table_columns.Goals as goal

pub stand_first-apart-requires : goal.stand_first-apart-requires
stand_first-apart-requires c = c.in_ok-places.ensures (λ col. col.name) (λ col name lent. search rules)

pub returns : goal.returns
returns c = record { places = c.in_ok-places.ensures (λ col. col.name) (λ col name lent. search rules); apart = c.stand_first-apart.ensures }
