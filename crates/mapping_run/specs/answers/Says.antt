-- What an answer says: a text, a status, and whether anything is saved.
use Rattle.std.specs.Prelude.{◌≡◌, ℕ, List, None}
use Rattle.mapping_run.specs.declared.answers.answer.Answer.{Answer}
use Rattle.mapping_run.specs.declared.answers.status.Status.{Status}

-- this is printed, the program ends so, and nothing is saved
abbrev pub Says : List ℕ → Status → Answer → Type 0
Says text status answer = (answer.text ≡ text) × (answer.status ≡ status) × (answer.saved ≡ None)

-- a text of this kind is printed, the program ends so, and nothing is saved
abbrev pub SaysSome : (List ℕ → Type 0) → Status → Answer → Type 0
SaysSome IsText status answer = IsText answer.text × (answer.status ≡ status) × (answer.saved ≡ None)
