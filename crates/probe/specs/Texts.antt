-- What is printed of a data document.
-- Source: this project's answers on documents of entities and of tables.
use Rattle.std.specs.Prelude.{ℕ, List, ◌∷◌, ◌++◌, [], Option, Some, None, Result, Ok, Err, codes, decimal}
use Rattle.serde_json.specs.Written.{compact_text}
use Rattle.json_form.specs.Trees.{place_tree, quoted}
use Rattle.round_trip.specs.Words.{Breach}
use Rattle.edm_types.specs.declared.faults.VocabFault.TheVariants.{Rule}
use Rattle.data_documents.specs.declared.shape_faults.fault.ShapeFault.TheVariants as shape
use Rattle.probe.specs.declared.data.refusal.Refusal.{Refusal}
use Rattle.probe.specs.declared.data.refusal.Refusal.TheVariants.{Shape, Vocabulary}
use Rattle.probe.specs.declared.data.text.DataKind.{DataKind}
use Rattle.probe.specs.declared.data.text.DataKind.TheVariants.{Entities, Tables}

-- the letter of a fault in the document
abbrev pub form_letter : DataKind → List ℕ
form_letter Entities = codes "E"
form_letter Tables = codes "T"

-- the letter of a rule on what it holds
abbrev pub rule_letter : DataKind → List ℕ
rule_letter Entities = codes "S"
rule_letter Tables = codes "B"

abbrev pub line : List ℕ → List ℕ
line text = text ++ 10 ∷ []

-- the first place of another shape, and the first breach
unfoldable pub shape_text : DataKind → List ℕ → List ℕ
shape_text kind pointer = codes "data " ++ (form_letter kind ++ (codes "1 " ++ line (quoted pointer)))

unfoldable pub breach_text : DataKind → Breach → List ℕ
breach_text kind breach =
    codes "data " ++ (form_letter kind ++ (codes "2 " ++ (rule_letter kind ++ (decimal breach.rule ++ (codes " " ++ line (compact_text (place_tree breach.place)))))))

-- a broken rule of the CSDL or SSDL document
unfoldable pub rule_text : ℕ → List ℕ → List ℕ
rule_text rule pointer = codes "rule V" ++ (decimal rule ++ (codes " " ++ line (quoted pointer)))

-- what is printed; nothing where memory ran out
abbrev pub told_text : DataKind → Result (Option Breach) Refusal → Option (List ℕ)
told_text kind (Ok None) = Some (line (codes "legal"))
told_text kind (Ok (Some breach)) = Some (breach_text kind breach)
told_text kind (Err (Shape (shape.Shape pointer))) = Some (shape_text kind pointer)
told_text kind (Err (Vocabulary (Rule fault))) = Some (rule_text fault.rule fault.place)
told_text kind _ = None
