-- A text is cut beside a character of ASCII into texts.
use Rattle.std.proofs.Common.{◌≡◌, ◌+◌, ◌<◌, ℕ, List, [], ◌∷◌, ◌++◌, length, drop, get_or, IsUtf8, refl, sym, ap, subst, ◌∙◌, arith, append_assoc, length-append, take_at, drop_at}
use Rattle.std.proofs.lemmas.List.{get_or_at}
use Rattle.std.proofs.lemmas.Str.{IsCharBoundary-after_ascii, IsCharBoundary-before_ascii, IsUtf8-drop, IsUtf8-take}

module _ (front : List ℕ) (x : ℕ) (xs : List ℕ) (small : x < 128) (text : IsUtf8 (front ++ x ∷ xs)) where
  abbrev whole : List ℕ
  whole = front ++ x ∷ xs

  abbrev n : ℕ
  n = length front

  here : get_or whole n 0 ≡ x
  here = get_or_at front x xs 0 n refl

  within : n < length whole
  within = omega (arith, length-append front (x ∷ xs))

  -- what stands before it
  pub text_before : IsUtf8 front
  text_before = subst IsUtf8 (take_at front (x ∷ xs) n refl) (IsUtf8-take whole n text (IsCharBoundary-before_ascii whole n within (omega (arith, here, small))))

  -- and what stands behind it
  pub text_behind : IsUtf8 xs
  text_behind =
      let long : length (front ++ x ∷ []) ≡ n + 1 = length-append front (x ∷ []) in
      let rest : drop (n + 1) whole ≡ xs = ap (drop (n + 1)) (sym (append_assoc front (x ∷ []) xs)) ∙ drop_at (front ++ x ∷ []) xs (n + 1) long in
      subst IsUtf8 rest (IsUtf8-drop whole (n + 1) text (IsCharBoundary-after_ascii whole n text within (omega (arith, here, small))))

-- what stands behind the first character, where that is of ASCII
pub text_tail : (x : ℕ) (xs : List ℕ) → x < 128 → IsUtf8 (x ∷ xs) → IsUtf8 xs
text_tail x xs small text = text_behind [] x xs small text
