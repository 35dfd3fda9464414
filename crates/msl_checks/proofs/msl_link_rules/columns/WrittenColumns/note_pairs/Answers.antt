use Rattle.std.proofs.Common.{refl, ap, ◌∙◌}
use Rattle.std.proofs.lemmas.List.{take_all}
use Rattle.std.proofs.lemmas.Option.{slice_get_read}
use Rattle.msl_checks.specs.msl_link_rules.WrittenColumns.{end_in, noted_where, writes}
use Rattle.msl_checks.proofs.msl_link_rules.FirstWriting.{noted_pair}
use Rattle.msl_checks.proofs.msl_link_rules.columns.WrittenColumns.note_pairs.Goals as goal

pub loop-pair-preserved : goal.loop-pair-preserved
loop-pair-preserved c = λ col.
    noted_pair c.args.pairs.now c.loop-pair.pair-index c.pair-item.result c.args.end col (end_in c.args.self.now col) (end_in c.loop-pair.self col) (end_in c.note.new.self col)
    (slice_get_read _ _ c.loop-pair.pair-index _ refl c.loop-pair-test.true c.pair-item.is) (c.loop-pair.invariant col) (c.in_ok-note.ensures col)

pub returns : goal.returns
returns c = λ col.
    c.loop-pair.invariant col
    ∙ ap (λ pairs. noted_where (writes col pairs) c.args.end (end_in c.args.self.now col)) (take_all c.loop-pair.pair-index c.args.pairs.now c.loop-pair-test.false)
