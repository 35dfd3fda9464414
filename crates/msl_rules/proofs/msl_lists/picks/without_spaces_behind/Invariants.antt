use Rattle.std.proofs.Common.{◌≡◌, length}
use denote.Text.{Utf8}
use denote.Shadow.{shadow}
use Rattle.msl_rules.specs.msl_lists.Picks.{skip_last_spaces}
use Rattle.msl_rules.proofs.msl_lists.picks.without_spaces_behind.Given as goal

-- the spaces that are left go
abbrev pub invariant-loop-rest : goal.invariant-loop-rest
invariant-loop-rest l = shadow (Utf8 l.text) × (skip_last_spaces l.text ≡ skip_last_spaces l.fn.text)

abbrev pub decreases-loop-rest : goal.decreases-loop-rest
decreases-loop-rest l = length l.text
