use Rattle.std.proofs.Common.{List, refl, subst, sym}
use Rattle.std.proofs.lemmas.Bool.{both_ways}
use Rattle.std.proofs.lemmas.Option.{slice_get_read}
use Rattle.round_trip.specs.Words.{AreLegalRows, Row}
use Rattle.entity_state.proofs.breach_order.Turns.{each_all, each_more, each_none}
use Rattle.table_files.proofs.table_legality.legal.have_legal_rows.Goals as goal

pub loop-t-init : goal.loop-t-init
loop-t-init c = each_none _ _

pub returns-then-not-are_legal_rows : goal.returns-then-not-are_legal_rows
returns-then-not-are_legal_rows c = (
  λ no. absurd cc,
  λ all.
      (let t = c.loop-t.t in
      let table = c.index-declared-t.result in
      let P : List Row → Type 0 = λ rows. AreLegalRows table rows in
      absurd (both_ways c.are_legal_rows.result c.if-not-are_legal_rows.true (c.are_legal_rows.ensures.1
      (subst P (sym c.rows_at.ensures) (all t table (slice_get_read _ _ t _ refl c.loop-t-test.true c.index-declared-t.is)))))),
)

pub loop-t-preserved : goal.loop-t-preserved
loop-t-preserved c =
    let t = c.loop-t.t in
    let table = c.index-declared-t.result in
    let P : List Row → Type 0 = λ rows. AreLegalRows table rows in
    each_more _ _ t table (slice_get_read _ _ t _ refl c.loop-t-test.true c.index-declared-t.is)
    (subst P c.rows_at.ensures (c.are_legal_rows.ensures.0 c.if-not-are_legal_rows.false)) c.loop-t.invariant

pub returns : goal.returns
returns c = (λ _. each_all _ _ c.loop-t.t c.loop-t-test.false c.loop-t.invariant, λ _. refl)
