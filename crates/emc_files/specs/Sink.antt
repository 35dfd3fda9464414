-- What a call on a sink leaves written, and when it may tell a fault.
use Rattle.std.specs.Prelude.{◌≡◌, ℕ, List, ◌++◌, take, Option, option_map, Result, Ok, Err}
use Rattle.emc_files.specs.declared.sink.SinkFault.{SinkFault}
use Rattle.emc_files.specs.declared.sink.SinkFault.TheVariants.{Failed, Memory}
use Rattle.emc_base.specs.Faults.{RoseOrStands}

-- Where it is told, what is written grew by all of the bytes, after Failed by some of the first of them, after Memory not
-- at all.
abbrev pub Puts : Option (List ℕ) → Option (List ℕ) → List ℕ → Result (Unit {0}) SinkFault → Type 0
Puts before after bytes (Ok done) = after ≡ option_map (λ written. written ++ bytes) before
Puts before after bytes (Err Failed) = (count : ℕ) × (after ≡ option_map (λ written. written ++ take count bytes) before)
Puts before after bytes (Err Memory) = after ≡ before

-- Failed comes only where the count rose or stands at its last value, and no other answer moves the count
abbrev pub CountsPut : ℕ → ℕ → Result (Unit {0}) SinkFault → Type 0
CountsPut before now (Ok done) = now ≡ before
CountsPut before now (Err Failed) = RoseOrStands before now
CountsPut before now (Err Memory) = now ≡ before
