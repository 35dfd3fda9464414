use Rattle.std.proofs.Common.{List, All, subst₂, sym}
use Rattle.round_trip.specs.Words.{Row}
use Rattle.table_files.specs.table_legality.References.{KeepsAmong}
use Rattle.table_files.proofs.table_legality.legal.keep_key.Goals as goal

pub returns : goal.returns
returns c =
    let P : List Row → List Row → Type 0 = λ targets rows. All (KeepsAmong targets c.args.key.now) rows in (
      λ is. record { rows = subst₂ P c.rows_at-targets.ensures c.rows_at-rows.ensures (c.keep_one.ensures.0 is) },
      λ kept. c.keep_one.ensures.1 (subst₂ P (sym c.rows_at-targets.ensures) (sym c.rows_at-rows.ensures) kept.rows),
    )
