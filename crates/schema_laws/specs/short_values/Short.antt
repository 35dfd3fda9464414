-- Short values: those that lie in the domain of each property that may be a part of a key, whatever its bound.
-- Source: CSDL version 3, the simple types and MaxLength; the kinds that this project's profile lets a key have.
use Rattle.std.specs.Prelude.{◌≡◌, ℕ, pos, [], ◌∷◌, encode_utf8_all, IsTrue, ⊤}
use Rattle.std.specs.Str.{all_scalars}
use Rattle.emc_base.specs.Domain.{IsBetween}
use Rattle.emc_base.specs.declared.value.Value.TheVariants as value
use Rattle.emc_base.specs.declared.value.Kind.TheVariants as kind
use Rattle.round_trip.specs.Words.{PropId, Value, Kind, EntityModel, Prop, At, InDomain}

-- a whole number from 0 to 32,767, or a text of one Unicode scalar value
abbrev pub IsShort : Value → Type 0
IsShort (value.Whole number) = IsBetween (pos 0) (pos 32767) number
IsShort (value.Text text) = (code : ℕ) × IsTrue (all_scalars (code ∷ [])) × (encode_utf8_all (code ∷ []) ≡ text)
IsShort _ = ⊥

-- the value is of the sort that the kind's values are: a number, a flag, a text or a byte list
abbrev pub IsOfSort : Kind → Value → Type 0
IsOfSort kind.Boolean (value.Flag flag) = ⊤
IsOfSort kind.Boolean _ = ⊥
IsOfSort (kind.Text bound) (value.Text text) = ⊤
IsOfSort (kind.Text bound) _ = ⊥
IsOfSort (kind.Binary bound) (value.Bytes bytes) = ⊤
IsOfSort (kind.Binary bound) _ = ⊥
IsOfSort _ (value.Whole number) = ⊤
IsOfSort _ _ = ⊥

-- each short value of its sort is in the domain of the property
abbrev pub TakesShort : EntityModel → PropId → Type 0
TakesShort model p = (declared : Prop) → At model.props p.index declared → (short : Value) → IsShort short → IsOfSort declared.kind short → InDomain short declared.kind
