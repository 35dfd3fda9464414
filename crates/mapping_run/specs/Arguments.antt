-- The words of a process, by the arguments that the system gives it.
use Rattle.std.specs.Prelude.{ℕ, List, [], drop, map, String, string_bytes, Result, Ok, Err}
use Rattle.std.specs.Vec.Iter.{into_iter_items}
use Rattle.std.specs.declared.alloc.Global.{Global}
use Rattle.std.specs.declared.io.Error.{Error}
use Rattle.std.specs.declared.vec.IntoIter.{IntoIter}

-- the arguments, or why they can't be read: one isn't a text, or memory ran out
abbrev pub Arguments : Type 0
Arguments = Result (IntoIter (String Global) Global) Error

-- the arguments as texts; none where they can't be read
abbrev pub texts_in : Arguments → List (List ℕ)
texts_in (Ok arguments) = map string_bytes (into_iter_items arguments)
texts_in (Err error) = []

-- the words of a process, which follow the program's own name
abbrev pub words_in : Arguments → List (List ℕ)
words_in arguments = drop 1 (texts_in arguments)
