use Rattle.std.proofs.Common.{◌≡◌, take}
use Rattle.std.specs.List.{filter_map}
use Rattle.msl_meaning.specs.msl_found.NamedAt.{named_at}
use Rattle.msl_rules.specs.Found.{pair_in}
use Rattle.msl_fragments.specs.msl_owners.KeyPairs.{of_key}
use Rattle.msl_fragments.proofs.msl_owners.keys.found_key_pairs.Given as goal

-- those of the key among the pairs that were passed
abbrev pub invariant-loop-pair : goal.invariant-loop-pair
invariant-loop-pair l =
    let model = l.place.names.now.model.now in
    l.kept ≡ filter_map (λ pair. of_key l.key l.cols (pair_in model l.place.names.now.store.now (named_at model l.place.ty) l.place.table pair)) (take l.pair-index l.pairs)
