-- How many objects the generated documents hold.
use Rattle.std.specs.Prelude.{◌≡◌, ℕ, ◌+◌, ◌*◌, ◌/◌, ◌==◌, if◌then◌else◌, length}
use Rattle.drill_documents.specs.Lists.{documents, people}

-- as many people and as many documents as the count says, together twice as many entities
pub record HasTwiceAsManyEntities (seed count : ℕ) : Type 0 where
  pub as_many_people : length (people seed count) ≡ count
  pub as_many_documents : length (documents seed count) ≡ count
  pub twice_as_many : length (people seed count) + length (documents seed count) ≡ 2 * count

-- half of the count, rounded down, one for who comes, and one for the document that goes, where there is one
abbrev pub change_count : ℕ → ℕ
change_count count = count / 2 + 1 + (if count == 0 then 0 else 1)
