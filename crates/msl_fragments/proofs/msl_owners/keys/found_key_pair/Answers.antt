use Rattle.std.proofs.Common.{sym, ◌∙◌}
use Rattle.msl_meaning.specs.msl_found.NamedAt.{named_at}
use Rattle.msl_fragments.proofs.msl_owners.KeyPairs.{no_column}
use Rattle.msl_fragments.proofs.msl_owners.keys.found_key_pair.Goals as goal

pub returns-then-not-is_one_named : goal.returns-then-not-is_one_named
returns-then-not-is_one_named c =
    let place = c.args.place.now in
    let model = place.names.now.model.now in
    sym (no_column model place.names.now.store.now (named_at model place.ty) place.table c.args.key.now c.args.cols.now c.args.pair.now c.in_ok-table.table.now (sym c.in_ok-table.ensures.item)
    (sym c.is_one_named.ensures ∙ c.if-not-is_one_named.true))
