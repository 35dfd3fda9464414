-- Places that links join, and the classes of those that links lead between.
-- Source: the usual words for relations (the least equivalence that holds a relation).
use Rattle.std.specs.Prelude.{◌≡◌, ◌↔◌, ℕ, ◌<◌, List, length, slice_get, Contains}
use Rattle.groupings.specs.declared.linked_places.classes.Classes.{Classes}
use Rattle.groupings.specs.declared.linked_places.classes.Link.{Link}

-- the list links the two places, both of which are among so many
abbrev pub IsLink : ℕ → List Link → ℕ → ℕ → Type 0
IsLink count links one other = Contains links (record { one = one; other = other }) × (one < count) × (other < count)

-- the least equivalence that holds each link: each place with itself, by a link, the other way round, and over a third place
pub data Linked (Is : ℕ → ℕ → Type 0) : ℕ → ℕ → Type 0 where
  same : (one : ℕ) → Linked Is one one
  link : (one other : ℕ) → Is one other → Linked Is one other
  back : (one other : ℕ) → Linked Is one other → Linked Is other one
  chain : (one next other : ℕ) → Linked Is one next → Linked Is next other → Linked Is one other

-- each of so many places has the number of its class: two places have one number exactly where they are linked
pub record IsClasses (count : ℕ) (links : List Link) (classes : Classes) : Type 0 where
  pub size : length classes.numbers ≡ count
  pub each : (one other : ℕ) → one < count → other < count
      → (slice_get classes.numbers one ≡ slice_get classes.numbers other) ↔ Linked (IsLink count links) one other
