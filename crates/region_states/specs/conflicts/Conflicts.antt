-- Of which kind a conflict is, of whom it tells, and whether it is one.
-- Source: this project's; the round-trip criterion of Melnik, Adya and Bernstein, SIGMOD 2007, part by part.
use Rattle.std.specs.Prelude.{◌≡◌, Contains, Bool, IsTrue}
use Rattle.round_trip.specs.Words.{SetId, AssocId, TableId, Assoc, LinkFragment}
use Rattle.schema_laws.specs.state_demand.Owners.{IsJoinedTo}
use Rattle.round_trip.specs.declared.FailKind.{FailKind}
use Rattle.round_trip.specs.declared.FailKind.TheVariants as kind
use Rattle.regions.specs.declared.pattern.Focus.{Focus}
use Rattle.regions.specs.declared.pattern.Focus.TheVariants as focus
use Rattle.regions.specs.Basis.{Basis}
use Rattle.regions.specs.Regions.{regions_of}
use Rattle.region_states.specs.declared.conflicts.conflict.Conflict.{Conflict}
use Rattle.region_states.specs.declared.conflicts.conflict.Conflict.TheVariants as conflict
use Rattle.region_states.specs.conflicts.Facts.{is_clash, is_many_links, is_null_in, is_unmapped, disagrees_at}
use Rattle.region_states.specs.conflicts.SameFacts.{is_absent, is_lost, are_rivals}

-- the kind by which a state fails
abbrev pub kind_of : Conflict → FailKind
kind_of (conflict.Clash focus t col one two) = kind.Clash
kind_of (conflict.ManyLinks a) = kind.Clash
kind_of (conflict.NullIn focus t col one) = kind.Null
kind_of (conflict.Disagree focus place) = kind.Disagrees
kind_of (conflict.Absent region) = kind.Same
kind_of (conflict.Rival one two) = kind.Same
kind_of (conflict.Lost region p) = kind.Same
kind_of (conflict.Unmapped a) = kind.Same

-- the focus is a region of the set
abbrev pub IsRegionOf : Basis → SetId → Focus → Type 0
IsRegionOf basis s (focus.Entity region) = Contains (regions_of basis s) region
IsRegionOf basis s (focus.Link a) = ⊥

-- the conflict tells of regions of the set
abbrev pub TellsOfSet : Basis → SetId → Conflict → Type 0
TellsOfSet basis s (conflict.Clash focus t col one two) = IsRegionOf basis s focus
TellsOfSet basis s (conflict.ManyLinks a) = ⊥
TellsOfSet basis s (conflict.NullIn focus t col one) = IsRegionOf basis s focus
TellsOfSet basis s (conflict.Disagree focus place) = IsRegionOf basis s focus
TellsOfSet basis s (conflict.Absent region) = Contains (regions_of basis s) region
TellsOfSet basis s (conflict.Rival one two) = Contains (regions_of basis s) one × Contains (regions_of basis s) two
TellsOfSet basis s (conflict.Lost region p) = Contains (regions_of basis s) region
TellsOfSet basis s (conflict.Unmapped a) = ⊥

-- what is told is so
abbrev pub is_fact : Basis → Conflict → Bool
is_fact basis (conflict.Clash focus t col one two) = is_clash basis focus t col one two
is_fact basis (conflict.ManyLinks a) = is_many_links basis a
is_fact basis (conflict.NullIn focus t col one) = is_null_in basis focus t col one
is_fact basis (conflict.Disagree focus place) = disagrees_at basis focus place
is_fact basis (conflict.Absent region) = is_absent basis region
is_fact basis (conflict.Rival one two) = are_rivals basis one two
is_fact basis (conflict.Lost region p) = is_lost basis region p
is_fact basis (conflict.Unmapped a) = is_unmapped basis a

-- a conflict of this kind at the set
pub record IsConflictAt (basis : Basis) (s : SetId) (kind : FailKind) (conflict : Conflict) : Type 0 where
  pub of_kind : kind_of conflict ≡ kind
  pub of_set : TellsOfSet basis s conflict
  pub holds : IsTrue (is_fact basis conflict)

-- the table is the association's own: its link fragment alone writes it, with the keys of both ends
pub record IsTableOf (basis : Basis) (a : AssocId) (t : TableId) : Type 0 where
  pub fragment : LinkFragment
  pub assoc : Assoc
  pub joined : IsJoinedTo basis.schema t fragment assoc
  pub of_assoc : fragment.assoc ≡ a

-- the focus is a link of the association, which has a table of its own
abbrev pub IsLinkOf : Basis → AssocId → Focus → Type 0
IsLinkOf basis a (focus.Entity region) = ⊥
IsLinkOf basis a (focus.Link b) = (b ≡ a) × (t : TableId) × IsTableOf basis a t

-- the conflict tells of links of the association
abbrev pub TellsOfLinks : Basis → AssocId → Conflict → Type 0
TellsOfLinks basis a (conflict.Clash focus t col one two) = IsLinkOf basis a focus
TellsOfLinks basis a (conflict.ManyLinks b) = b ≡ a
TellsOfLinks basis a (conflict.NullIn focus t col one) = IsLinkOf basis a focus
TellsOfLinks basis a (conflict.Disagree focus place) = IsLinkOf basis a focus
TellsOfLinks basis a (conflict.Absent region) = ⊥
TellsOfLinks basis a (conflict.Rival one two) = ⊥
TellsOfLinks basis a (conflict.Lost region p) = ⊥
TellsOfLinks basis a (conflict.Unmapped b) = b ≡ a

-- a conflict of this kind at the links of the association
pub record IsLinkConflictAt (basis : Basis) (a : AssocId) (kind : FailKind) (conflict : Conflict) : Type 0 where
  pub of_kind : kind_of conflict ≡ kind
  pub of_links : TellsOfLinks basis a conflict
  pub holds : IsTrue (is_fact basis conflict)
