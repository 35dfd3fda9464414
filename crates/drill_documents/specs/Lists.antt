-- The lists of the generated documents, by a seed and a count.
use Rattle.std.specs.Prelude.{ℕ, List, [], ◌∷◌, ◌++◌, ◌+◌, ◌-◌, ◌%◌, ◌==◌, ◌&&◌, not, Bool, Option, None, if◌then◌else◌, map, filter, filter_map, option_map}
use Rattle.std.specs.List.{last_or, range_with_len}
use Rattle.serde_json.specs.Data.{Data}
use Rattle.drill_documents.specs.Draws.{draw}
use Rattle.drill_documents.specs.Objects.{document, first_document_gone, hired, is_employee, link, person, renamed}

-- the Ids: from 1 to the count
abbrev pub ids : ℕ → List ℕ
ids count = range_with_len 1 count

-- a person for each Id
abbrev pub people : ℕ → ℕ → List Data
people seed count = map (λ i. person i (draw seed i)) (ids count)

-- a document for each Id
abbrev pub documents : ℕ → ℕ → List Data
documents seed count = map (λ i. document i (draw seed i)) (ids count)

-- the Employee of the largest Id up to this one
abbrev pub last_employee : ℕ → ℕ → Option ℕ
last_employee seed i = last_or None (filter (λ k. is_employee (draw seed k)) (ids i))

-- whether person i of a draw looks for a manager: an Employee whose draw is no multiple of 3
abbrev pub seeks_manager : ℕ → Bool
seeks_manager d = is_employee d && not (d % 3 == 0)

-- the link of person i, who looks for a manager, to the Employee of the largest smaller Id, where there is one
abbrev pub link_of : ℕ → ℕ → Option Data
link_of seed i = if seeks_manager (draw seed i) then option_map (link i) (last_employee seed (i - 1)) else None

-- the links, by the Ids of those who are linked to a manager
abbrev pub links : ℕ → ℕ → List Data
links seed count = filter_map (link_of seed) (ids count)

-- each person of an even Id gets another name
abbrev pub renamings : ℕ → ℕ → List Data
renamings seed count = map (λ i. renamed i (draw seed i)) (filter (λ i. i % 2 == 0) (ids count))

-- the changes: the renamings; an Employee of the next Id comes; and document 1 goes, where there is one
abbrev pub changes : ℕ → ℕ → List Data
changes seed count = renamings seed count ++ hired (count + 1) ∷ (if count == 0 then [] else first_document_gone ∷ [])
