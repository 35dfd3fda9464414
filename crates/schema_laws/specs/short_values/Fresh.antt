-- Numbered values, all different, and what each number is for.
-- Source: this project's choice of the values in the states that it shows.
use Rattle.std.specs.Prelude.{ℕ, ◌+◌, ◌*◌, ◌<◌, ◌≤◌, slice_get}
use Rattle.std.specs.Option.{option_map_or}
use Rattle.emc_base.specs.declared.value.Kind.TheVariants as kind
use Rattle.round_trip.specs.Words.{PropId, Value, Null, Kind, EntityModel}
use Rattle.schema_laws.specs.short_values.Numbers.{letter, number}

-- the value of a kind with this index, of five rows of such values: a text of one character, or a number
abbrev pub fresh : Kind → ℕ → ℕ → Value
fresh (kind.Text bound) outer index = letter (5 * index + outer + 97)
fresh _ outer index = number (5 * index + outer + 7)

-- the value of a property's kind with this index, of one of these rows
abbrev pub fresh_at : EntityModel → ℕ → PropId → ℕ → Value
fresh_at model outer p index = option_map_or (λ declared. fresh declared.kind outer index) (slice_get model.props p.index) Null

-- a part of the key of the entity that is looked at; these come first, so that the keys that are shown are small
abbrev pub focus_key : ℕ → ℕ
focus_key part = part

-- a part of the key of a second partner
abbrev pub second_key : ℕ → ℕ
second_key part = 4 + part

-- a part of the key at the first end of a link that is looked at
abbrev pub first_end_key : ℕ → ℕ
first_end_key part = 8 + part

-- a part of the key at its second end
abbrev pub second_end_key : ℕ → ℕ
second_end_key part = 12 + part

-- two values of a dependent property that is written to no column
abbrev pub lost_value : ℕ → ℕ
lost_value which = 16 + which

-- the dependent property at this place of a type's properties
abbrev pub dependent_value : ℕ → ℕ
dependent_value place = 20 + place

-- the value that two entities share in the group of the property at this place of the first one's properties
abbrev pub first_shared : ℕ → ℕ
first_shared place = 280 + place

-- the same, of the second one's properties
abbrev pub second_shared : ℕ → ℕ
second_shared place = 536 + place

-- a part of the key of the partner by this association
abbrev pub partner_key : ℕ → ℕ → ℕ
partner_key assoc part = 800 + 4 * assoc + part

-- one of the entities that are added
abbrev pub added_value : ℕ → ℕ
added_value which = 2000 + which

-- what an index is for
pub data Use : Type 0 where
  focus : ℕ → Use
  second : ℕ → Use
  first_end : ℕ → Use
  second_end : ℕ → Use
  lost : ℕ → Use
  dependent : ℕ → Use
  shared_first : ℕ → Use
  shared_second : ℕ → Use
  partner : ℕ → ℕ → Use
  added : ℕ → Use

-- the index for it
abbrev pub index_of : Use → ℕ
index_of (focus part) = focus_key part
index_of (second part) = second_key part
index_of (first_end part) = first_end_key part
index_of (second_end part) = second_end_key part
index_of (lost which) = lost_value which
index_of (dependent place) = dependent_value place
index_of (shared_first place) = first_shared place
index_of (shared_second place) = second_shared place
index_of (partner assoc part) = partner_key assoc part
index_of (added which) = added_value which

-- within the limits: keys of four parts, types of 256 properties, 256 associations, and 513 entities that are added
abbrev pub IsUse : Use → Type 0
IsUse (focus part) = part < 4
IsUse (second part) = part < 4
IsUse (first_end part) = part < 4
IsUse (second_end part) = part < 4
IsUse (lost which) = which < 2
IsUse (dependent place) = place < 256
IsUse (shared_first place) = place < 256
IsUse (shared_second place) = place < 256
IsUse (partner assoc part) = (assoc < 256) × (part < 4)
IsUse (added which) = which ≤ 512

-- no index is as large
abbrev pub most_indices : ℕ
most_indices = 4096
