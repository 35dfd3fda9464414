use Rattle.std.proofs.Common.{◌∙◌, ap, length}
use Rattle.std.proofs.lemmas.List.{length-map}
use Rattle.round_trip.specs.Words.{Table, Tables, rows_in}
use Rattle.delta_plan.proofs.Gathered.{no_row, none_named}
use Rattle.delta_plan.proofs.gathering.gathered.Goals as goal

pub loop-one-init : goal.loop-one-init
loop-one-init c = (
  ap (λ (tables : Tables). length tables) c.in_ok-tables.ensures ∙ length-map c.args.store.now.tables (λ (_ : Table). no_row),
  λ t. ap (λ (tables : Tables). rows_in tables t) c.in_ok-tables.ensures ∙ none_named c.args.store.now t,
)

pub loop-one-preserved : goal.loop-one-preserved
loop-one-preserved c = (
  c.in_ok-put.ensures.size ∙ c.loop-one.invariant.0,
  λ t. c.in_ok-put.ensures.more t c.loop-one.yielded (c.loop-one.invariant.1 t),
)
