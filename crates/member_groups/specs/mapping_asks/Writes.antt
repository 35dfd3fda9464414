-- What entity fragments write: the number of a property, with the column that it is written to.
use Rattle.std.specs.Prelude.{◌≡◌, ℕ}
use Rattle.round_trip.specs.Words.{TableId, Fragment, Pair}
use Rattle.member_groups.specs.declared.mapping_asks.member.MemberId.{MemberId}
use Rattle.member_groups.specs.declared.mapping_asks.member.MemberId.TheVariants.{Column}
use Rattle.member_groups.specs.mapping_asks.Adding.{Each}

-- it is what this pair of a fragment to this table writes
abbrev pub IsWriteBy : TableId → Pair → ℕ × MemberId → Type 0
IsWriteBy table pair write = write ≡ (pair.prop.index, Column table pair.col)

-- it is what a pair of this fragment writes
abbrev pub WritesBy : Fragment → ℕ × MemberId → Type 0
WritesBy fragment = Each (IsWriteBy fragment.table) fragment.pairs
