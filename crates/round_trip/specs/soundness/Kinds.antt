-- Kinds: which are sound, which a key may have, and which correspond.
-- Source: CSDL version 3, the simple types, MaxLength and EnumType; SSDL version 3, the column types.
use Rattle.std.specs.Prelude.{◌≡◌, ◌≢◌, ℕ, ◌≤◌, ◌<ℤ◌, [], All, AllPairs, Option, Some, None, MatchOption, ⊤}
use Rattle.round_trip.specs.Words.{Whole, Kind, InDomain}
use Rattle.emc_base.specs.declared.value.EnumKind.{EnumKind}
use Rattle.emc_base.specs.declared.value.Under.{Under}
use Rattle.emc_base.specs.declared.value.Kind.TheVariants as kind
use Rattle.emc_base.specs.declared.value.Under.TheVariants as under

-- the largest bound of a text or a byte list
abbrev pub largest_bound : ℕ
largest_bound = 1048576

-- V13: there is no bound, or it is 1 to the largest
abbrev pub IsSoundBound : Option ℕ → Type 0
IsSoundBound bound = MatchOption bound ⊤ (λ most. (1 ≤ most) × (most ≤ largest_bound))

-- the kind of an enumeration's numbers
abbrev pub under_kind : Under → Kind
under_kind under.Byte = kind.Byte
under_kind under.Int16 = kind.Int16
under_kind under.Int32 = kind.Int32
under_kind under.Int64 = kind.Int64

-- V12: an enumeration has numbers, in order without repeats, which its underlying kind allows
pub record IsSoundEnum (enumeration : EnumKind) : Type 0 where
  pub some : enumeration.members ≢ []
  pub rising : AllPairs (λ one next. one <ℤ next) enumeration.members
  pub within : All (λ number. InDomain (Whole number) (under_kind enumeration.under)) enumeration.members

-- V12, V13: the bound of a text or a byte list, and the numbers of an enumeration
abbrev pub IsSoundKind : Kind → Type 0
IsSoundKind (kind.Text bound) = IsSoundBound bound
IsSoundKind (kind.Binary bound) = IsSoundBound bound
IsSoundKind (kind.Enum enumeration) = IsSoundEnum enumeration
IsSoundKind _ = ⊤

-- an enumeration
abbrev pub IsEnum : Kind → Type 0
IsEnum (kind.Enum enumeration) = ⊤
IsEnum _ = ⊥

-- a list of bytes
abbrev pub IsBinary : Kind → Type 0
IsBinary (kind.Binary bound) = ⊤
IsBinary _ = ⊥

-- V10, V23: what a part of a key may be
abbrev pub IsKeyKind : Kind → Type 0
IsKeyKind kind.Int16 = ⊤
IsKeyKind kind.Int32 = ⊤
IsKeyKind kind.Int64 = ⊤
IsKeyKind (kind.Text bound) = ⊤
IsKeyKind _ = ⊥

-- a kind, its bound aside
abbrev pub without_bound : Kind → Kind
without_bound (kind.Text bound) = kind.Text None
without_bound (kind.Binary bound) = kind.Binary None
without_bound other = other

-- the second bound is no smaller than the first, no bound being the largest
abbrev pub IsNoSmaller : Option ℕ → Option ℕ → Type 0
IsNoSmaller first None = ⊤
IsNoSmaller None (Some second) = ⊥
IsNoSmaller (Some first) (Some second) = first ≤ second

-- V29: a column of the second kind holds what a property of the first does. An enumeration is held as its underlying kind.
abbrev pub Corresponds : Kind → Kind → Type 0
Corresponds (kind.Text bound) (kind.Text column) = IsNoSmaller bound column
Corresponds (kind.Binary bound) (kind.Binary column) = IsNoSmaller bound column
Corresponds (kind.Enum enumeration) column = column ≡ under_kind enumeration.under
Corresponds property column = property ≡ column
