-- What follows a text at the front of another, as std tells it.
use Rattle.std.proofs.Common.{◌≡◌, ℕ, List, length, drop, Bool, true, false, cond, Option, Some, None, Bor, refl, sym, ap, subst}
use Rattle.std.specs.Option.{MatchOption, option_map}
use Rattle.std.specs.Str.Pattern.{FindsTextPrefix, StripsPrefix}
use Rattle.std.proofs.lemmas.Str.Pattern.{starts_text}
use Rattle.std.specs.Str.{IsCharBoundary}
use Rattle.groupings.specs.name_places.Fronts.{rest_after}

pub rest_is : (front text : List ℕ) (rest : Option (Bor (List ℕ)))
    → MatchOption rest (FindsTextPrefix front text None) (λ found. StripsPrefix (FindsTextPrefix front) text found.now)
    → option_map (λ found. found.now) rest ≡ rest_after front text
rest_is front text None lacks =
    let P : Bool → Type 0 = λ starts. None ≡ cond starts (Some (drop (length front) text)) None in
    subst P (starts_text false front text lacks) refl
rest_is front text (Some found) strips =
    let P : Bool → Type 0 = λ starts. Some found.now ≡ cond starts (Some (drop (length front) text)) None in
    let Q : ℕ → Type 0 = λ n. Some found.now ≡ Some (drop n text) in
    subst P (starts_text true front text (strips.0, strips.1, subst (IsCharBoundary text) (sym strips.1.0) strips.1.2))
    (subst Q strips.1.0 (ap (λ (rest : List ℕ). Some rest) strips.2))
