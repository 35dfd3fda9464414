-- Places in documents, and their order: that in which a document is gone through, with what an object lacks after all that it has.
-- Source: RFC 8259, RFC 6901.
use Rattle.std.specs.Prelude.{ℕ, List, [], ◌∷◌, map}
use Rattle.std.specs.declared.cmp.Ordering.{Ordering}
use Rattle.std.specs.Ordering.{nat_cmp}
use Rattle.std.specs.Cmp.Lexicographic.{slice_cmp}
use Rattle.json_form.specs.declared.pointer.Step.{Step}
use Rattle.json_form.specs.declared.pointer.Step.TheVariants as plain
use Rattle.json_form.specs.Pointers.{pointer_of}
use Rattle.data_documents.specs.declared.shape_faults.place.ShapeStep.{ShapeStep}
use Rattle.data_documents.specs.declared.shape_faults.place.ShapeStep.TheVariants.{Member, Item, Missing}

-- members come first, then items, then missing members
abbrev pub sort_of : ShapeStep → ℕ
sort_of (Member name) = 0
sort_of (Item place) = 1
sort_of (Missing rank name) = 2

-- among their own, members are ordered by the bytes of their names, items by their number, missing ones by their rank
abbrev pub within_sort : ShapeStep → List ℕ
within_sort (Member name) = name
within_sort (Item place) = place ∷ []
within_sort (Missing rank name) = rank ∷ name

-- the order of steps from one node
abbrev pub step_cmp : ShapeStep → ShapeStep → Ordering
step_cmp one two = slice_cmp nat_cmp (sort_of one ∷ within_sort one) (sort_of two ∷ within_sort two)

-- places are ordered step by step; a place comes before the places inside it
abbrev pub place_cmp : List ShapeStep → List ShapeStep → Ordering
place_cmp one two = slice_cmp step_cmp one two

-- a step as it is spelled: a missing member like one that is there
abbrev pub plain_step : ShapeStep → Step
plain_step (Member name) = plain.Member name
plain_step (Item place) = plain.Item place
plain_step (Missing rank name) = plain.Member name

-- the JSON pointer of a place
abbrev pub pointer_of_place : List ShapeStep → List ℕ
pointer_of_place place = pointer_of (map plain_step place)
