-- What is found at a region, or at a link of an association: a conflict of a kind, or none.
-- Source: this project's; the round-trip criterion of Melnik, Adya and Bernstein, SIGMOD 2007, part by part.
use Rattle.std.specs.Prelude.{◌≡◌, Option, None, Some, IsTrue}
use Rattle.round_trip.specs.declared.FailKind.{FailKind}
use Rattle.regions.specs.Basis.{Basis}
use Rattle.regions.specs.declared.pattern.Focus.{Focus}
use Rattle.region_states.specs.conflicts.Conflicts.{is_fact, kind_of}
use Rattle.region_states.specs.declared.conflicts.conflict.Conflict.{Conflict}
use Rattle.region_states.specs.declared.conflicts.conflict.Conflict.TheVariants as conflict

-- whom a conflict tells of, where it is one of a cell or of a fragment
abbrev pub focus_of : Conflict → Option Focus
focus_of (conflict.Clash at t col one two) = Some at
focus_of (conflict.NullIn at t col one) = Some at
focus_of (conflict.Disagree at place) = Some at
focus_of (conflict.Absent region) = None
focus_of (conflict.Rival one two) = None
focus_of (conflict.Lost region p) = None
focus_of (conflict.ManyLinks a) = None
focus_of (conflict.Unmapped a) = None

-- the conflict is one of this kind, at a cell or a fragment of this region or of a link of this association
pub record IsOneOf (basis : Basis) (of : Focus) (kind : FailKind) (conflict : Conflict) : Type 0 where
  pub of_kind : kind_of conflict ≡ kind
  pub of_focus : focus_of conflict ≡ Some of
  pub holds : IsTrue (is_fact basis conflict)

-- what is found is one; where nothing is found there is none
abbrev pub FindsOne : Basis → Focus → FailKind → Option Conflict → Type 0
FindsOne basis of kind (Some conflict) = IsOneOf basis of kind conflict
FindsOne basis of kind None = (conflict : Conflict) → ¬ IsOneOf basis of kind conflict
