-- Places in JSON documents: lists of steps, their order, and the pointers that are printed for them.
-- Source: RFC 6901.
use Rattle.std.specs.Prelude.{ℕ, List, [], ◌∷◌, ◌==◌, if◌then◌else◌, flat_map, codes, decimal, encode_utf8}
use Rattle.std.specs.Str.{chars}
use Rattle.std.specs.declared.cmp.Ordering.{Ordering}
use Rattle.std.specs.Ordering.{nat_cmp}
use Rattle.std.specs.Cmp.Lexicographic.{slice_cmp}
use Rattle.json_form.specs.declared.pointer.Step.{Step}
use Rattle.json_form.specs.declared.pointer.Step.TheVariants.{Member, Item}

-- a step as numbers: members before items
abbrev pub step_key : Step → List ℕ
step_key (Member name) = 0 ∷ name
step_key (Item place) = 1 ∷ place ∷ []

-- members are ordered by the bytes of their names, and items by their number
abbrev pub step_cmp : Step → Step → Ordering
step_cmp one two = slice_cmp nat_cmp (step_key one) (step_key two)

-- places are ordered step by step; a place comes before the places inside it. A member that is missing has the place at which it would
-- stand.
abbrev pub steps_cmp : List Step → List Step → Ordering
steps_cmp one two = slice_cmp step_cmp one two

-- a character of a name in a pointer: ~ is spelled ~0 and / is spelled ~1
abbrev pub escaped : ℕ → List ℕ
escaped character = if character == 126 then codes "~0" else if character == 47 then codes "~1" else encode_utf8 character

-- a step in a pointer: a slash, and the name or the number
abbrev pub step_text : Step → List ℕ
step_text (Member name) = 47 ∷ flat_map escaped (chars name)
step_text (Item place) = 47 ∷ decimal place

-- the pointer of a place; that of the root is empty
abbrev pub pointer_of : List Step → List ℕ
pointer_of steps = flat_map step_text steps
