-- What the states that are shown of dangling keys are made by, what they rest on, and what is shown.
-- Source: this project's choice of the states that it shows.
use Rattle.std.specs.Prelude.{◌≡◌, ◌≤◌, Contains, List, Option, None}
use Rattle.round_trip.specs.Words.{At, ForeignKey, Pair}
use Rattle.round_trip.specs.declared.FailKind.TheVariants as kind
use Rattle.cells.specs.Parts.{AreParts, schema_in}
use Rattle.cells.specs.declared.parts.Parts.{Parts}
use Rattle.regions.specs.Basis.{Basis}
use Rattle.regions.specs.declared.pattern.Focus.{Focus}
use Rattle.regions.specs.declared.region.Region.{Region}
use Rattle.region_states.specs.conflicts.There.{NoneFailsBefore}
use Rattle.region_states.specs.region_basis.BasisOf.{basis_of}
use Rattle.dangling_keys.specs.Dangling.{DanglesAt, IsDangling, IsRowFocus}
use Rattle.dangling_keys.specs.DanglingStates.{IsRowPlace, dangling_state}
use Rattle.dangling_keys.specs.Laws.{HasNoClash, IsPairedBy}
use Rattle.dangling_keys.specs.Outer.{outer_row}
use Rattle.dangling_keys.specs.Showing.{MayRefer, not_null_for}
use Rattle.dangling_keys.specs.declared.key.DanglingKey.{DanglingKey}
use Rattle.dangling_search.specs.Lent.{IsLook}
use Rattle.witness_state.specs.declared.failure.Failure.{Failure}
use Rattle.dangling_states.specs.declared.referring.Referring.{Referring}

-- the row of numbers and the properties are those of the key at the focus
pub record IsReferring (basis : Basis) (one : Referring) : Type 0 where
  pub look : IsLook basis one.look
  pub row : one.row ≡ outer_row basis one.look.of.now one.key.now
  pub few : one.row ≤ 4
  pub not_null : one.not_null.now ≡ not_null_for basis one.look.of.now one.key.now

-- the focus has a row that may refer by a key of the store
pub record Refers (basis : Basis) (of : Focus) (key : ForeignKey) : Type 0 where
  pub of_rows : IsRowFocus basis of
  pub refers : MayRefer basis of key
  pub is_key : Contains basis.schema.store.keys key

-- a key of the store dangles at the focus, where no legal state clashes
pub record IsDanglingAt (basis : Basis) (of : Focus) (key : ForeignKey) (principal : Option Region) : Type 0 where
  pub given : HasNoClash basis
  pub is_key : Contains basis.schema.store.keys key
  pub dangles : DanglesAt basis of key principal

-- sound parts, and a key that dangles as it is told, where no legal state fails by a kind that is told before
pub record IsFirstDangling (parts : Parts) (told : DanglingKey) : Type 0 where
  pub are : AreParts parts
  pub dangling : IsDangling (basis_of parts) told
  pub earlier : NoneFailsBefore (schema_in parts) kind.Dangling

-- the state that is shown of what is told, alone, at the place of the row of its focus
pub record IsShownOfKey (basis : Basis) (told : DanglingKey) (failure : Failure) : Type 0 where
  pub of_kind : failure.kind ≡ kind.Dangling
  pub alone : failure.other ≡ None
  pub key : ForeignKey
  pub is_key : At basis.schema.store.keys told.key.index key
  pub at_place : IsRowPlace basis told.focus key failure.place
  pub pairing : List Pair
  pub paired : IsPairedBy basis key pairing told.principal
  pub state : failure.state ≡ dangling_state basis told.focus key pairing told.principal
