-- Names: texts of 1 to 480 Unicode scalar values. A Namespace holds none of ; ( ) $, and may hold dots; names of types, sets and properties
-- hold no dot either.
-- Source: the profile's names of CSDL, SSDL and MSL.
use Rattle.std.specs.Prelude.{◌≡◌, ◌≢◌, ◌⊎◌, ℕ, ◌≤◌, List, All, length}
use Rattle.std.specs.Str.{chars}

-- the most Unicode scalar values of a name
abbrev pub longest_name : ℕ
longest_name = 480

-- 1 to 480 Unicode scalar values
pub record IsName (text : List ℕ) : Type 0 where
  pub some : 1 ≤ length (chars text)
  pub few : length (chars text) ≤ longest_name

-- one of ; ( ) $
abbrev pub IsBracketOrSign : ℕ → Type 0
IsBracketOrSign byte = (byte ≡ 59) ⊎ (byte ≡ 40) ⊎ (byte ≡ 41) ⊎ (byte ≡ 36)

-- a name that holds none of ; ( ) $
pub record IsNamespace (text : List ℕ) : Type 0 where
  pub name : IsName text
  pub free : All (λ byte. ¬ IsBracketOrSign byte) text

-- a name that holds none of . ; ( ) $
pub record IsPlainName (text : List ℕ) : Type 0 where
  pub namespace : IsNamespace text
  pub dotless : All (λ byte. byte ≢ 46) text
