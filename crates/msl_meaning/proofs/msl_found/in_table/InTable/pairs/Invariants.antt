use Rattle.std.proofs.Common.{◌≡◌, take}
use Rattle.msl_rules.specs.Found.{pairs_in}
use Rattle.msl_meaning.specs.msl_found.NamedAt.{named_at}
use Rattle.msl_meaning.proofs.msl_found.in_table.InTable.pairs.Given as goal

-- the pairs that were passed
abbrev pub invariant-loop-pair : goal.invariant-loop-pair
invariant-loop-pair l =
    let model = l.self.names.now.model.now in
    l.found ≡ pairs_in model l.self.names.now.store.now (named_at model l.self.ty) l.self.table (take l.pair-index l.pair-items)
