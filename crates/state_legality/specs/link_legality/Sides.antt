-- The two sides of an association, and what is seen from each.
-- Source: CSDL version 3, Association, End and Multiplicity.
use Rattle.std.specs.Prelude.{ℕ, List}
use Rattle.round_trip.specs.Words.{Value, Assoc, End, Mult, Link}
use Rattle.state_legality.specs.declared.link_legality.side.Side.{Side}
use Rattle.state_legality.specs.declared.link_legality.side.Side.TheVariants.{First, Second}

-- the end at the side
abbrev pub end_at : Assoc → Side → End
end_at assoc First = assoc.first
end_at assoc Second = assoc.second

-- how many partners an entity at the side may have: the multiplicity of the other end
abbrev pub partners_at : Assoc → Side → Mult
partners_at assoc First = assoc.second.mult
partners_at assoc Second = assoc.first.mult

-- the key that a link has at the side
abbrev pub key_at : Link → Side → List Value
key_at link First = link.first
key_at link Second = link.second

-- the number that stands for the side in a spot
abbrev pub side_number : Side → ℕ
side_number First = 0
side_number Second = 1
