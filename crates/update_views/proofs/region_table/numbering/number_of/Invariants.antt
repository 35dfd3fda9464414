use Rattle.std.proofs.Common.{◌≡◌, ◌≤◌, drop}
use Rattle.update_views.specs.region_table.Numbers.{numbered}
use Rattle.update_views.proofs.region_table.numbering.number_of.Given as goal

-- the number of the digits so far, and the tests that are left
abbrev pub invariant-loop-test : goal.invariant-loop-test
invariant-loop-test l = (numbered l.entity l.links 0 l.tests ≡ numbered l.entity l.links l.number (drop l.test-index l.tests)) × (l.number ≤ 1048576)
