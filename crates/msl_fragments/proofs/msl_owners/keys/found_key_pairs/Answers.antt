use Rattle.std.proofs.Common.{ap, refl, ◌∙◌}
use Rattle.std.specs.List.{filter_map}
use Rattle.std.proofs.lemmas.List.{take_all}
use Rattle.std.proofs.lemmas.Option.{slice_get_read}
use Rattle.emc_base.proofs.Turns.{found_more}
use Rattle.msl_meaning.specs.msl_found.NamedAt.{named_at}
use Rattle.msl_rules.specs.Found.{pair_in}
use Rattle.msl_fragments.specs.msl_owners.KeyPairs.{of_key}
use Rattle.msl_fragments.proofs.msl_owners.KeyPairs.{key_pairs_found}
use Rattle.msl_fragments.proofs.msl_owners.keys.found_key_pairs.Goals as goal

pub loop-pair-preserved : goal.loop-pair-preserved
loop-pair-preserved c =
    let place = c.args.place.now in
    let model = place.names.now.model.now in
    c.in_ok-put_found.ensures
    ∙ found_more (λ pair. of_key c.args.key.now c.args.cols.now (pair_in model place.names.now.store.now (named_at model place.ty) place.table pair))
    c.args.pairs.now c.loop-pair.pair-index c.pair-item.result c.loop-pair.kept c.found_key_pair.result c.loop-pair.invariant
    (slice_get_read _ _ c.loop-pair.pair-index _ refl c.loop-pair-test.true c.pair-item.is) c.found_key_pair.ensures

pub returns : goal.returns
returns c =
    let place = c.args.place.now in
    let model = place.names.now.model.now in
    let found = pair_in model place.names.now.store.now (named_at model place.ty) place.table in
    c.loop-pair.invariant
    ∙ ap (filter_map (λ pair. of_key c.args.key.now c.args.cols.now (found pair))) (take_all c.loop-pair.pair-index c.args.pairs.now c.loop-pair-test.false)
    ∙ key_pairs_found c.args.key.now c.args.cols.now found c.args.pairs.now
