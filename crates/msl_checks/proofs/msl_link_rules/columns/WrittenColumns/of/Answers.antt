use Rattle.std.proofs.Common.{List, ap, ◌∙◌, refl}
use Rattle.std.proofs.lemmas.List.{take_all}
use Rattle.std.proofs.lemmas.Option.{slice_get_read}
use Rattle.msl_rules.specs.declared.msl_lists.raw.RawPair.{RawPair}
use Rattle.msl_checks.specs.msl_link_rules.WrittenColumns.{end_in, first_writing, noted_where, writes}
use Rattle.msl_checks.proofs.msl_link_rules.FirstWriting.{noted_end}
use Rattle.msl_checks.proofs.msl_link_rules.columns.WrittenColumns.of.Goals as goal

pub loop-place-preserved : goal.loop-place-preserved
loop-place-preserved c = λ col.
    let end = c.index-ends-place.result in
    let place = c.loop-place.place in
    noted_end c.args.ends.now place end col (end_in c.loop-place.columns col) (end_in c.note_pairs.new.self col)
    (slice_get_read _ _ place _ refl c.loop-place-test.true c.index-ends-place.is) (c.loop-place.invariant col)
    (c.in_ok-note_pairs.ensures col ∙ ap (λ (pairs : List RawPair). noted_where (writes col pairs) place (end_in c.loop-place.columns col)) c.as_slice.ensures.items)

pub returns : goal.returns
returns c = λ k col.
    (c.loop-place.invariant col
    ∙ ap (λ ends. first_writing ends col) (take_all c.loop-place.place c.args.ends.now c.loop-place-test.false)) k
