-- What stands before a text at the end of another, as std tells it.
use Rattle.std.proofs.Common.{◌≡◌, ℕ, ◌-◌, ◌≤◌, List, length, take, Bool, true, false, cond, Option, Some, None, Bor, refl, sym, ap, subst, arith}
use Rattle.std.specs.Option.{MatchOption, option_map}
use Rattle.std.specs.Str.Pattern.{FindsTextSuffix, StripsSuffix}
use Rattle.std.proofs.lemmas.Str.Pattern.{ends_text}
use Rattle.std.specs.Str.{IsCharBoundary}
use Rattle.msl_rules.specs.msl_lists.Picks.{rest_before}

pub before_is : (end text : List ℕ) (rest : Option (Bor (List ℕ)))
    → MatchOption rest (FindsTextSuffix end text None) (λ found. StripsSuffix (FindsTextSuffix end) text found.now)
    → option_map (λ found. found.now) rest ≡ rest_before end text
before_is end text None lacks =
    let P : Bool → Type 0 = λ ends. None ≡ cond ends (Some (take (length text - length end) text)) None in
    subst P (ends_text false end text lacks) refl
before_is end text (Some found) strips =
    let P : Bool → Type 0 = λ ends. Some found.now ≡ cond ends (Some (take (length text - length end) text)) None in
    let Q : ℕ → Type 0 = λ n. Some found.now ≡ Some (take (length text - n) text) in
    let B : ℕ → Type 0 = λ n. IsCharBoundary text (length text - n) in
    let fits : strips.0 ≤ length text = let all = strips.3 in omega (arith, all) in
    subst P (ends_text true end text (strips.0, strips.1, fits, subst B (sym strips.1.0) strips.1.2))
    (subst Q strips.1.0 (ap (λ (rest : List ℕ). Some rest) strips.2))
