-- Facts of keys hold where they can't but hold.
use Rattle.std.proofs.Common.{⊎_elim, ℕ, ◌<◌, ◌≤◌, List, length, Option, Some, None, arith}
use Rattle.std.proofs.lemmas.Bool.{cases_lt}
use Rattle.csdl_types.specs.declared.simple.Simple.{Simple}
use Rattle.csdl_types.specs.declared.simple.Simple.TheVariants.{Byte, Int16, Int32, Int64, Boolean, Text, Binary}
use Rattle.csdl_types.specs.Keys.{IsKey, IsKeySimple}

-- names are a key
pub some_key : (names : List (List ℕ)) → ¬ (¬ IsKey names) → IsKey names
some_key names never = record {
  some = λ none. never (λ key. key.some none);
  few = ⊎_elim (λ (many : 4 < length names). absurd (never (λ key. let most : length names ≤ 4 = key.few in omega arith))) (λ (few : length names ≤ 4). few) (cases_lt 4 (length names));
  once = λ i j d before within same. never (λ key. key.once i j d before within same);
}

-- a simple type is one for keys
pub for_keys : (found : Option Simple) → ¬ (¬ IsKeySimple found) → IsKeySimple found
for_keys None never = absurd (never (λ no. no))
for_keys (Some Byte) never = absurd (never (λ no. no))
for_keys (Some Int16) never = tt
for_keys (Some Int32) never = tt
for_keys (Some Int64) never = tt
for_keys (Some Boolean) never = absurd (never (λ no. no))
for_keys (Some Text) never = tt
for_keys (Some Binary) never = absurd (never (λ no. no))
