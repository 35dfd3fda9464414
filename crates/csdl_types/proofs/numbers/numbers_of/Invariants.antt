use Rattle.std.proofs.Common.{◌≡◌, ◌+◌, ◌++◌, drop, pos, ◌≤ℤ◌}
use Rattle.csdl_types.specs.Numbers.{numbers_from, numbers_of}
use Rattle.csdl_types.proofs.numbers.numbers_of.Given as goal

-- the numbers that were made, and those of the members that are left, are all numbers; the next isn't far past those of 64 bits
abbrev pub invariant-loop-member : goal.invariant-loop-member
invariant-loop-member l =
    (l.numbers.items ++ numbers_from l.next (drop l.member-index l.member-items) ≡ numbers_of l.enumeration)
    × (l.next ≤ℤ pos (9223372036854775808 + l.member-index))
