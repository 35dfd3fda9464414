-- The entities among which one may have the key that is shown, as a list.
-- Source: this project's; CSDL version 3, ReferentialConstraint.
use Rattle.std.specs.Prelude.{List, [], ◌∷◌, ◌++◌}
use Rattle.round_trip.specs.Words.{ForeignKey}
use Rattle.regions.specs.Basis.{Basis}
use Rattle.regions.specs.declared.pattern.Focus.{Focus}
use Rattle.regions.specs.declared.pattern.Focus.TheVariants as focus
use Rattle.forced_entities.specs.Forced.{own_member}
use Rattle.forced_entities.specs.Listed.{forced_by}
use Rattle.forced_entities.specs.declared.member.Forced.{Forced}
use Rattle.dangling_keys.specs.Showing.{not_null_for}

module _ (basis : Basis) where
  -- the focus itself, where it is an entity
  abbrev pub own_members : Focus → List Forced
  own_members (focus.Entity region) = own_member basis region ∷ []
  own_members (focus.Link a) = []

  -- and what it forces where none of its properties that a column of the key shows is null
  abbrev pub members : Focus → ForeignKey → List Forced
  members of key = own_members of ++ forced_by basis of (not_null_for basis of key)
