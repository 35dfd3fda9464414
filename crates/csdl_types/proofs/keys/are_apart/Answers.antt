use Rattle.std.proofs.Common.{◌≢◌, List, ℕ, AllPairs, subst, refl}
use Rattle.std.proofs.lemmas.Bool.{both_ways}
use Rattle.std.proofs.lemmas.List.{take_all}
use Rattle.std.proofs.lemmas.Option.{slice_get_read}
use Rattle.csdl_types.proofs.Names.{apart_more}
use Rattle.csdl_types.proofs.keys.are_apart.Goals as goal

pub loop-place-preserved : goal.loop-place-preserved
loop-place-preserved c = apart_more c.args.names.now c.loop-place.place c.index-names-place.result
    (slice_get_read _ _ c.loop-place.place _ refl c.loop-place-test.true c.index-names-place.is)
    (λ has. both_ways c.stands_in.result c.if-stands_in.false (c.stands_in.ensures.1 has)) c.loop-place.invariant

pub returns : goal.returns
returns c =
    let P : List (List ℕ) → Type 0 = λ names. AllPairs (λ one other. one ≢ other) names in
    (λ _. subst P (take_all c.loop-place.place c.args.names.now c.loop-place-test.false) c.loop-place.invariant, λ _. refl)
