-- What a call on files tells of their content and leaves of it, and when it may tell a fault.
use Rattle.std.specs.Prelude.{◌≡◌, ◌≢◌, ◌⊎◌, ℕ, ◌<◌, List, length, Option, Some, None, Result, Ok, Err, IsSomeAnd, ⊤}
use Rattle.emc_files.specs.declared.files.ReadFault.{ReadFault}
use Rattle.emc_files.specs.declared.files.ReadFault.TheVariants as read
use Rattle.emc_files.specs.declared.files.ReplaceFault.{ReplaceFault}
use Rattle.emc_files.specs.declared.files.ReplaceFault.TheVariants as replace
use Rattle.emc_base.specs.Faults.{RoseOrStands}

-- a finite map from names to byte lists, as its look-up
abbrev pub FileMap : Type 0
FileMap = List ℕ → Option (List ℕ)

-- Where the content is told, the answer agrees with what stands at the name. Failed and Memory say nothing of it.
abbrev pub Tells : Option FileMap → List ℕ → ℕ → Result (List ℕ) ReadFault → Type 0
Tells None name limit answer = ⊤
Tells (Some map) name limit (Ok bytes) = map name ≡ Some bytes
Tells (Some map) name limit (Err read.Missing) = map name ≡ None
Tells (Some map) name limit (Err read.TooLarge) = IsSomeAnd (map name) (λ bytes. limit < length bytes)
Tells (Some map) name limit (Err read.Failed) = ⊤
Tells (Some map) name limit (Err read.Memory) = ⊤

-- Failed comes only where the count rose or stands at its last value, and no other answer moves the count
abbrev pub CountsRead : ℕ → ℕ → Result (List ℕ) ReadFault → Type 0
CountsRead before now (Err read.Failed) = RoseOrStands before now
CountsRead before now (Ok bytes) = now ≡ before
CountsRead before now (Err read.Missing) = now ≡ before
CountsRead before now (Err read.TooLarge) = now ≡ before
CountsRead before now (Err read.Memory) = now ≡ before

-- what is told of files of which nothing is told
abbrev pub untold : Option FileMap
untold = None

-- a call on any file may fail
abbrev pub any_may_fail : List ℕ → Type 0
any_may_fail name = ⊤

-- new has the bytes at the name, and every other name as old has it
pub record PutsFile (old new : FileMap) (name bytes : List ℕ) : Type 0 where
  pub here : new name ≡ Some bytes
  pub elsewhere : (other : List ℕ) → other ≢ name → new other ≡ old other

-- Where the content is told it stays told: after Ok the bytes stand at the name, and every other name is as before; after
-- Failed all is as before, or that; after Memory all is as before.
abbrev pub Replaces : Option FileMap → Option FileMap → List ℕ → List ℕ → Result (Unit {0}) ReplaceFault → Type 0
Replaces None after name bytes answer = after ≡ None
Replaces (Some old) after name bytes (Ok done) = IsSomeAnd after (λ new. PutsFile old new name bytes)
Replaces (Some old) after name bytes (Err replace.Failed) = (after ≡ Some old) ⊎ IsSomeAnd after (λ new. PutsFile old new name bytes)
Replaces (Some old) after name bytes (Err replace.Memory) = after ≡ Some old

-- the same of the count as CountsRead
abbrev pub CountsReplace : ℕ → ℕ → Result (Unit {0}) ReplaceFault → Type 0
CountsReplace before now (Err replace.Failed) = RoseOrStands before now
CountsReplace before now (Ok done) = now ≡ before
CountsReplace before now (Err replace.Memory) = now ≡ before

-- nothing is there
abbrev pub HoldsNothing : FileMap → Type 0
HoldsNothing map = (name : List ℕ) → map name ≡ None
