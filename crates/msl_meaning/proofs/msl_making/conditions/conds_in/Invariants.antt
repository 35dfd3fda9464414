use Rattle.std.proofs.Common.{◌≡◌, take}
use Rattle.msl_rules.specs.Found.{conds_in}
use Rattle.msl_meaning.specs.msl_found.NamedAt.{named_at}
use Rattle.msl_meaning.proofs.msl_making.conditions.conds_in.Given as goal

-- the conditions that were passed
abbrev pub invariant-loop-cond : goal.invariant-loop-cond
invariant-loop-cond l =
    let model = l.place.names.now.model.now in
    l.found ≡ conds_in model l.place.names.now.store.now (named_at model l.place.ty) l.place.table (take l.cond-index l.cond-items)
