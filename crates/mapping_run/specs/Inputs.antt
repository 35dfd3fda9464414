-- The input files of a command: their contents, and what is told of the first that isn't read.
use Rattle.std.specs.Prelude.{◌≡◌, ◌⊎◌, ℕ, ◌<◌, ◌≤◌, List, [], ◌∷◌, length, take, Option, Some, None, IfSome, codes, ⊤}
use Rattle.emc_files.specs.Files.{FileMap}
use Rattle.emc_base.specs.Lists.{At}
use Rattle.texts.specs.command_texts.Texts.{file_text}

-- the largest input file, in bytes
abbrev pub largest_file : ℕ
largest_file = 16777216

-- the content is what stands at the name, where that is told; where it isn't, it may be any
abbrev pub StandsAt : Option FileMap → List ℕ → Option (List ℕ) → Type 0
StandsAt held name content = IfSome held (λ files. files name ≡ content)

-- the file is present and not too large, and this is its content
pub record IsInput (held : Option FileMap) (name bytes : List ℕ) : Type 0 where
  pub stands : StandsAt held name (Some bytes)
  pub fits : length bytes ≤ largest_file

-- each of the files is present and not too large, and these are their contents
abbrev pub AreInputs : Option FileMap → List (List ℕ) → List (List ℕ) → Type 0
AreInputs held [] [] = ⊤
AreInputs held (name ∷ names) (bytes ∷ contents) = IsInput held name bytes × AreInputs held names contents
AreInputs held [] (bytes ∷ contents) = ⊥
AreInputs held (name ∷ names) [] = ⊥

-- one of the files, before which each is present and not too large
pub record IsFirstUnread (held : Option FileMap) (names : List (List ℕ)) (name : List ℕ) : Type 0 where
  pub i : ℕ
  pub contents : List (List ℕ)
  pub named : At names i name
  pub before : AreInputs held (take i names) contents

-- the file is missing or too large, and the text says so
abbrev pub IsLacking : Option FileMap → List ℕ → List ℕ → Type 0
IsLacking held name text =
    (StandsAt held name None × (text ≡ file_text (codes "missing") name))
    ⊎ ((bytes : List ℕ) × StandsAt held name (Some bytes) × (largest_file < length bytes) × (text ≡ file_text (codes "toolarge") name))

-- the text tells the first of the files that is missing or too large
abbrev pub LacksInput : Option FileMap → List (List ℕ) → List ℕ → Type 0
LacksInput held names text = (name : List ℕ) × IsFirstUnread held names name × IsLacking held name text

-- The text tells a file that may fail to be read, and before which each is present and not too large. What may fail is a member of the
-- trait of files: of files in general, only a call that failed shows that one may.
abbrev pub FailsToRead : (List ℕ → Type 0) → Option FileMap → List (List ℕ) → List ℕ → Type 0
FailsToRead may_fail held names text = (name : List ℕ) × IsFirstUnread held names name × may_fail name × (text ≡ file_text (codes "failed") name)
