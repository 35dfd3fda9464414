-- Numbers that stand with two different properties or columns.
use Rattle.std.specs.Prelude.{◌≢◌, ℕ}
use Rattle.member_groups.specs.declared.mapping_asks.member.MemberId.{MemberId}

-- among these, the number stands with two
abbrev pub StandsWithTwo : (ℕ × MemberId → Type 0) → ℕ → Type 0
StandsWithTwo Stands k = (one other : MemberId) × Stands (k, one) × Stands (k, other) × (one ≢ other)
