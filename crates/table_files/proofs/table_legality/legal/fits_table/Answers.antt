use Rattle.std.proofs.Common.{refl, sym, subst, ◌∙◌, List}
use Rattle.std.proofs.lemmas.Option.{slice_get_read}
use Rattle.emc_base.specs.Lists.{At}
use Rattle.round_trip.specs.Words.{Column, cell_of}
use Rattle.table_files.proofs.table_legality.Leaves.{none_told, some_told}
use Rattle.entity_state.proofs.breach_order.Turns.{each_all, each_more, each_none}
use Rattle.table_files.proofs.table_legality.legal.fits_table.Goals as goal

pub loop-j-init : goal.loop-j-init
loop-j-init c = each_none _ _

pub returns-then-is_some : goal.returns-then-is_some
returns-then-is_some c = (
  λ no. absurd cc,
  λ fits.
      (let j = c.loop-j.j in
      let column = c.index-columns-j.result in
      let here = slice_get_read _ _ j _ refl c.loop-j-test.true c.index-columns-j.is in
      let P : List Column → Type 0 = λ list. At list j column in
      absurd (some_told (cell_of c.args.row.now (record { index = j })) column c.broken_rule.result (sym c.is_some.ensures ∙ c.if-is_some.true) c.broken_rule.ensures
      (fits.each j column (subst P c.as_slice-columns.ensures.items here)))),
)

pub loop-j-preserved : goal.loop-j-preserved
loop-j-preserved c =
    let j = c.loop-j.j in
    each_more _ _ j c.index-columns-j.result (slice_get_read _ _ j _ refl c.loop-j-test.true c.index-columns-j.is)
    (none_told (cell_of c.args.row.now (record { index = j })) c.index-columns-j.result c.broken_rule.result (sym c.is_some.ensures ∙ c.if-is_some.false) c.broken_rule.ensures)
    c.loop-j.invariant

pub returns : goal.returns
returns c = (
  λ _. record {
    each = λ j column here.
        (let P : List Column → Type 0 = λ list. At list j column in
        each_all _ _ c.loop-j.j c.loop-j-test.false c.loop-j.invariant j column (subst P (sym c.as_slice-columns.ensures.items) here));
  },
  λ _. refl,
)
