use Rattle.std.proofs.Common.{◌≡◌, ◌<◌, length, refl, sym, ◌∙◌, arith}
use Rattle.std.proofs.lemmas.Bool.{not-false}
use Rattle.std.proofs.lemmas.Slice.Eq.{bytes_eq-Decides}
use Rattle.std.proofs.lemmas.Option.{slice_get_read}
use Rattle.ssdl_model.proofs.ssdl_rules.Told.{taken_more}
use Rattle.ssdl_model.proofs.ssdl_rules.foreign.are_same.Goals as goal

pub loop-place-preserved : goal.loop-place-preserved
loop-place-preserved c =
    let place = c.loop-place.place in
    let alike : length c.args.ones.now ≡ length c.args.others.now = c.if-ones-others.false in
    let inside : place < length c.args.ones.now = c.loop-place-test.true in
    let here_one = slice_get_read _ _ place _ refl inside c.index-ones-place.is in
    let here_other = slice_get_read _ _ place _ refl (let within : place < length c.args.others.now = omega arith in within) c.index-others-place.is in
    let same : c.index-ones-place.result ≡ c.index-others-place.result =
    sym c.as_str.ensures.text
    ∙ (bytes_eq-Decides c.as_str.result.now c.as_str-in-loop-place.result.now).0 (not-false _ (sym c.ne.ensures ∙ c.if-ne.false))
    ∙ c.as_str-in-loop-place.ensures.text in
    taken_more c.args.ones.now c.args.others.now place c.index-ones-place.result c.index-others-place.result here_one here_other same c.loop-place.invariant
