-- What is known of barred properties and columns.
-- Source: the groups of properties and columns of this project's profile, over MSL version 3, Condition.
use Rattle.std.specs.Prelude.{◌↔◌, IsTrue, Bool}
use Rattle.std.specs.BTreeSet.{contains}
use Rattle.round_trip.specs.Words.{Schema}
use Rattle.round_trip.specs.soundness.mappings.Joined.{Member, IsBarred}
use Rattle.member_groups.specs.joined_groups.Labels.{label_cmp, label_of}
use Rattle.msl_checks.specs.declared.barred_members.barred.Barred.{Barred}

-- whether a property or a column is known as barred: what it is known by is that of one that tells another entity
abbrev pub is_told : Barred → Member → Bool
is_told barred member = contains label_cmp barred.labels (label_of barred.groups member)

-- what is known is just which properties and columns are barred in the schema
abbrev pub TellsBarred : Schema → Barred → Type 0
TellsBarred schema barred = (member : Member) → IsTrue (is_told barred member) ↔ IsBarred schema member
