-- The generated documents hold no float, so that their text is known.
use Rattle.std.proofs.Common.{◌≡◌, ◌++◌, ◌∷◌, ◌==◌, ◌%◌, ◌+◌, ◌-◌, ◌||◌, codes, decimal, ℕ, List, [], Bool, Option, None, Some, true, false, refl, filter, filter_map, option_map, if◌then◌else◌}
use Rattle.std.specs.Prelude.{⊤}
use Rattle.std.specs.List.{cons_option}
use Rattle.json_form.proofs.Objects.{array_of-plain}
use Rattle.json_form.specs.Trees.{array_of}
use Rattle.serde_json.specs.Data.{Data}
use Rattle.serde_json.specs.Written.{has_float}
use Rattle.drill_documents.specs.Documents.{changes_tree, entities_tree}
use Rattle.drill_documents.specs.Draws.{draw}
use Rattle.drill_documents.specs.Lists.{documents, ids, last_employee, link_of, renamings, seeks_manager}
use Rattle.drill_documents.specs.Objects.{document, employee, first_document_gone, hired, is_employee, link, person, person_named, plain_person, renamed, whole, change_of_person}

named_by : (i d : ℕ) (name : List ℕ) (b : Bool) → has_float (if b then employee i name (whole d) else plain_person i name) ≡ false
named_by i d name true = refl
named_by i d name false = refl

person_plain : (i d : ℕ) (name : List ℕ) → has_float (person_named i d name) ≡ false
person_plain i d name = named_by i d name (is_employee d)

document_by : (i d : ℕ) (b : Bool) → d % 5 == 0 ≡ b → has_float (document i d) ≡ false
document_by i d true is = rw is refl
document_by i d false is = rw is refl

renamed_plain : (i d : ℕ) (name : List ℕ) → has_float (change_of_person (codes "update") (person_named i d name)) ≡ false
renamed_plain i d name = rw (person_plain i d name) refl

both_plain : (a b : Bool) → a ≡ false → b ≡ false → (a || b) ≡ false
both_plain a b first second = rw (first, second) refl

-- it may be missing, and has no float
abbrev IsPlainIfAny : Option Data → Type 0
IsPlainIfAny None = ⊤
IsPlainIfAny (Some d) = has_float d ≡ false

link_by : (i : ℕ) (b : Bool) (manager : Option ℕ) → IsPlainIfAny (if b then option_map (link i) manager else None)
link_by i false manager = tt
link_by i true None = tt
link_by i true (Some manager) = refl

one_more : (tree : Option Data) (trees : List Data) → IsPlainIfAny tree → has_float (array_of trees) ≡ false → has_float (array_of (cons_option tree trees)) ≡ false
one_more None trees plain rest = rest
one_more (Some d) trees plain rest = both_plain (has_float d) (has_float (array_of trees)) plain rest

links_by : (seed : ℕ) (run : List ℕ) → has_float (array_of (filter_map (link_of seed) run)) ≡ false
links_by seed [] = refl
links_by seed (i ∷ run) = one_more (link_of seed i) (filter_map (link_of seed) run) (link_by i (seeks_manager (draw seed i)) (last_employee seed (i - 1))) (links_by seed run)

joined : (one other : List Data) → has_float (array_of one) ≡ false → has_float (array_of other) ≡ false → has_float (array_of (one ++ other)) ≡ false
joined [] other first second = second
joined (d ∷ one) other first second =
    let parts = none_of (has_float d) (has_float (array_of one)) first in
    both_plain (has_float d) (has_float (array_of (one ++ other))) parts.0 (joined one other parts.1 second)
  where
    none_of : (a b : Bool) → (a || b) ≡ false → (a ≡ false) × (b ≡ false)
    none_of true b h = cc
    none_of false b h = (refl, h)

last_by : (i : ℕ) (b : Bool) → has_float (array_of (hired i ∷ (if b then [] else first_document_gone ∷ []))) ≡ false
last_by i true = refl
last_by i false = refl

pub entities_plain : (seed count : ℕ) → has_float (entities_tree seed count) ≡ false
entities_plain seed count = rw (
  links_by seed (ids count),
  array_of-plain (λ i. document i (draw seed i)) (ids count) (λ i. document_by i (draw seed i) (draw seed i % 5 == 0) refl),
  array_of-plain (λ i. person i (draw seed i)) (ids count) (λ i. person_plain i (draw seed i) (codes "n" ++ decimal (draw seed i))),
) refl

pub changes_plain : (seed count : ℕ) → has_float (changes_tree seed count) ≡ false
changes_plain seed count =
    joined (renamings seed count) (hired (count + 1) ∷ (if count == 0 then [] else first_document_gone ∷ []))
    (array_of-plain (λ i. renamed i (draw seed i)) (filter (λ i. i % 2 == 0) (ids count)) (λ i. renamed_plain i (draw seed i) (codes "m" ++ decimal i)))
    (last_by (count + 1) (count == 0))
