use Rattle.std.proofs.Common.{◌≡◌, ◌++◌, map, string_bytes}
use Rattle.std.specs.Vec.Iter.{into_iter_items}
use Rattle.mapping_run.proofs.arguments.each_text.Given as goal

-- the texts so far are followed by those that are still to come
abbrev pub invariant-loop-argument : goal.invariant-loop-argument
invariant-loop-argument l = l.texts ++ map string_bytes (into_iter_items l.argument-iterator) ≡ map string_bytes (into_iter_items l.fn.arguments)
