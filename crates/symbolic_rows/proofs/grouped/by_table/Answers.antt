use Rattle.std.proofs.Common.{List, [], ◌∷◌, map, subst, sym}
use Rattle.std.proofs.lemmas.List.{map-append}
use Rattle.member_groups.specs.group_numbers.Numbers.{HoldsEach}
use Rattle.regions.specs.Symbols.{SymbolWriting}
use Rattle.symbolic_rows.specs.Grouped.{AreTo}
use Rattle.symbolic_rows.specs.Written.{in_symbols}
use Rattle.symbolic_rows.proofs.grouped.by_table.Goals as goal

pub loop-writing-preserved : goal.loop-writing-preserved
loop-writing-preserved c =
    let passed = c.loop-writing.yielded in
    let Holds : List SymbolWriting → Type 0 = λ writings. HoldsEach (AreTo writings) c.args.count c.put.new.grouped.items in
    subst Holds (sym (map-append in_symbols passed (c.in-Some.writing ∷ []))) (c.in_ok-put.ensures (map in_symbols passed) c.args.count c.loop-writing.invariant)
