-- The content of a string in a text is a text.
use Rattle.std.proofs.Common.{◌≡◌, ℕ, ◌<◌, Bool, true, false, cond, ◌&&◌, ◌==◌, nat_lt, List, [], ◌∷◌, ◌++◌, IsUtf8, Option, Some, None, option_and_then, refl, sym, subst, arith, append_assoc, append-nil, eqb-true}
use Rattle.std.proofs.lemmas.Bool.{and_parts}
use Rattle.std.proofs.lemmas.Option.{none-some, same_Some}
use Rattle.std.proofs.lemmas.Str.{IsUtf8-append, IsUtf8-encode}
use Rattle.std.specs.Char.{encode_utf8}
use Rattle.json.specs.Text.{code_unit, short_escape, is_high_surrogate, is_low_surrogate, surrogate_pair, plain, after_backslash, after_u, after_high, prepend, content}
use Rattle.data_documents.proofs.printed.texts.Cuts.{text_before, text_behind, text_tail}
use Rattle.data_documents.proofs.printed.texts.Units.{IsUnit, pair_scalar, short_small, unit_is, unit_scalar, one_byte}

-- what is found behind some bytes
prepended : (bytes : List ℕ) (rest : Option (List ℕ)) (s : List ℕ) → prepend bytes rest ≡ Some s → (t : List ℕ) × (rest ≡ Some t) × (bytes ++ t ≡ s)
prepended bytes None s is = absurd (none-some s is)
prepended bytes (Some t) s is = (t, refl, same_Some (bytes ++ t) s is)

-- what is found behind the bytes of a text, where the rest is a text
behind_text : (bytes : List ℕ) (rest : Option (List ℕ)) (s : List ℕ) → IsUtf8 bytes → ((t : List ℕ) → rest ≡ Some t → IsUtf8 t) → prepend bytes rest ≡ Some s → IsUtf8 s
behind_text bytes rest s text each is = let found = prepended bytes rest s is in subst IsUtf8 found.2 (IsUtf8-append bytes found.0 text (each found.0 found.1))

module _ (xs : List ℕ) (s : List ℕ) where
  by_byte : (front : List ℕ) (x : ℕ) (q b c : Bool) → (x == 34) ≡ q → (x == 92) ≡ b → IsUtf8 (front ++ x ∷ xs)
      → (IsUtf8 xs → content after_backslash xs ≡ Some s → IsUtf8 s) → ((t : List ℕ) → IsUtf8 ((front ++ x ∷ []) ++ xs) → content plain xs ≡ Some t → IsUtf8 ((front ++ x ∷ []) ++ t))
      → cond q (Some []) (cond b (content after_backslash xs) (cond c None (prepend (x ∷ []) (content plain xs)))) ≡ Some s → IsUtf8 (front ++ s)
  by_byte front x true b c quote slash text escaped more is =
      let small : x < 128 = let same : x ≡ 34 = eqb-true x 34 quote in omega (arith, same) in
      subst (λ t. IsUtf8 (front ++ t)) (same_Some [] s is) (subst IsUtf8 (sym (append-nil front)) (text_before front x xs small text))
  by_byte front x false true c quote slash text escaped more is =
      let small : x < 128 = let same : x ≡ 92 = eqb-true x 92 slash in omega (arith, same) in
      IsUtf8-append front s (text_before front x xs small text) (escaped (text_behind front x xs small text) is)
  by_byte front x false false true quote slash text escaped more is = absurd (none-some s is)
  by_byte front x false false false quote slash text escaped more is =
      let found = prepended (x ∷ []) (content plain xs) s is in
      subst (λ t. IsUtf8 (front ++ t)) found.2
      (subst IsUtf8 (append_assoc front (x ∷ []) found.0) (more found.0 (subst IsUtf8 (sym (append_assoc front (x ∷ []) xs)) text) found.1))

  by_escape : (x : ℕ) (o : Option ℕ) → short_escape x ≡ o → IsUtf8 (x ∷ xs) → ((t : List ℕ) → IsUtf8 xs → content plain xs ≡ Some t → IsUtf8 t)
      → option_and_then (λ c. prepend (c ∷ []) (content plain xs)) o ≡ Some s → IsUtf8 s
  by_escape x None short text more is = absurd (none-some s is)
  by_escape x (Some c) short text more is =
      let small = short_small x c short in
      behind_text (c ∷ []) (content plain xs) s (one_byte c small.1) (λ t. more t (text_tail x xs small.0 text)) is

  by_slash : (x : ℕ) (u : Bool) → (x == 117) ≡ u → IsUtf8 (x ∷ xs) → (IsUtf8 xs → content after_u xs ≡ Some s → IsUtf8 s) → ((t : List ℕ) → IsUtf8 xs → content plain xs ≡ Some t → IsUtf8 t)
      → cond u (content after_u xs) (option_and_then (λ c. prepend (c ∷ []) (content plain xs)) (short_escape x)) ≡ Some s → IsUtf8 s
  by_slash x true letter text unit more is = unit (text_tail x xs (let same : x ≡ 117 = eqb-true x 117 letter in omega (arith, same)) text) is
  by_slash x false letter text unit more is = by_escape x (short_escape x) refl text more is

  -- behind the four digits of a code unit
  four_behind : (a b c d u : ℕ) → IsUnit a b c d u → IsUtf8 (a ∷ b ∷ c ∷ d ∷ xs) → IsUtf8 xs
  four_behind a b c d u is text =
      text_tail d xs is.fourth (text_tail c (d ∷ xs) is.third (text_tail b (c ∷ d ∷ xs) is.second (text_tail a (b ∷ c ∷ d ∷ xs) is.first text)))

  by_low : (u : ℕ) (low : Bool) → is_low_surrogate u ≡ low → u < 65536 → is_high_surrogate u ≡ false → ((t : List ℕ) → content plain xs ≡ Some t → IsUtf8 t)
      → cond low None (prepend (encode_utf8 u) (content plain xs)) ≡ Some s → IsUtf8 s
  by_low u true low small high more is = absurd (none-some s is)
  by_low u false low small high more is = behind_text (encode_utf8 u) (content plain xs) s (IsUtf8-encode u (unit_scalar u small high low)) more is

  by_high : (u : ℕ) (high : Bool) → is_high_surrogate u ≡ high → u < 65536 → (is_high_surrogate u ≡ true → content (after_high u) xs ≡ Some s → IsUtf8 s) → ((t : List ℕ) → content plain xs ≡ Some t → IsUtf8 t)
      → cond high (content (after_high u) xs) (cond (is_low_surrogate u) None (prepend (encode_utf8 u) (content plain xs))) ≡ Some s → IsUtf8 s
  by_high u true high small pair more is = pair high is
  by_high u false high small pair more is = by_low u (is_low_surrogate u) refl small high more is

  by_unit : (a b c d : ℕ) (o : Option ℕ) → code_unit a b c d ≡ o → IsUtf8 (a ∷ b ∷ c ∷ d ∷ xs)
      → ((u : ℕ) → IsUtf8 xs → is_high_surrogate u ≡ true → content (after_high u) xs ≡ Some s → IsUtf8 s) → ((t : List ℕ) → IsUtf8 xs → content plain xs ≡ Some t → IsUtf8 t)
      → option_and_then (λ u. cond (is_high_surrogate u) (content (after_high u) xs) (cond (is_low_surrogate u) None (prepend (encode_utf8 u) (content plain xs)))) o ≡ Some s → IsUtf8 s
  by_unit a b c d None unit text pair more is = absurd (none-some s is)
  by_unit a b c d (Some u) unit text pair more is =
      let fits = unit_is a b c d u unit in
      let rest = four_behind a b c d u fits text in
      by_high u (is_high_surrogate u) refl fits.small (pair u rest) (λ t. more t rest) is

  by_second : (h l : ℕ) (low : Bool) → is_low_surrogate l ≡ low → is_high_surrogate h ≡ true → ((t : List ℕ) → content plain xs ≡ Some t → IsUtf8 t)
      → cond low (prepend (encode_utf8 (surrogate_pair h l)) (content plain xs)) None ≡ Some s → IsUtf8 s
  by_second h l false low high more is = absurd (none-some s is)
  by_second h l true low high more is = behind_text (encode_utf8 (surrogate_pair h l)) (content plain xs) s (IsUtf8-encode (surrogate_pair h l) (pair_scalar h l high low)) more is

  by_pair : (h a b c d : ℕ) (o : Option ℕ) → code_unit a b c d ≡ o → IsUtf8 (a ∷ b ∷ c ∷ d ∷ xs) → is_high_surrogate h ≡ true → ((t : List ℕ) → IsUtf8 xs → content plain xs ≡ Some t → IsUtf8 t)
      → option_and_then (λ l. cond (is_low_surrogate l) (prepend (encode_utf8 (surrogate_pair h l)) (content plain xs)) None) o ≡ Some s → IsUtf8 s
  by_pair h a b c d None unit text high more is = absurd (none-some s is)
  by_pair h a b c d (Some l) unit text high more is =
      let fits = unit_is a b c d l unit in
      by_second h l (is_low_surrogate l) refl high (λ t. more t (four_behind a b c d l fits text)) is

by_marks : (h x y a b c d : ℕ) (xs s : List ℕ) (marks : Bool) → ((x == 92) && (y == 117)) ≡ marks → IsUtf8 (x ∷ y ∷ a ∷ b ∷ c ∷ d ∷ xs) → is_high_surrogate h ≡ true
    → ((t : List ℕ) → IsUtf8 xs → content plain xs ≡ Some t → IsUtf8 t)
    → cond marks (option_and_then (λ l. cond (is_low_surrogate l) (prepend (encode_utf8 (surrogate_pair h l)) (content plain xs)) None) (code_unit a b c d)) None ≡ Some s → IsUtf8 s
by_marks h x y a b c d xs s false marks text high more is = absurd (none-some s is)
by_marks h x y a b c d xs s true marks text high more is =
    let parts = and_parts (x == 92) (y == 117) marks in
    let slash : x < 128 = let same : x ≡ 92 = eqb-true x 92 parts.0 in omega (arith, same) in
    let letter : y < 128 = let same : y ≡ 117 = eqb-true y 117 parts.1 in omega (arith, same) in
    let rest = text_tail y (a ∷ b ∷ c ∷ d ∷ xs) letter (text_tail x (y ∷ a ∷ b ∷ c ∷ d ∷ xs) slash text) in
    by_pair xs s h a b c d (code_unit a b c d) refl rest high more is

mutual
  unfolding content

  content_behind : (xs front s : List ℕ) → IsUtf8 (front ++ xs) → content plain xs ≡ Some s → IsUtf8 (front ++ s)
  content_behind [] front s text is = absurd (none-some s is)
  content_behind (x ∷ xs) front s text is =
      by_byte xs s front x (x == 34) (x == 92) (nat_lt x 32) refl refl text (λ rest. content_escaped xs s rest) (λ t. content_behind xs (front ++ x ∷ []) t) is

  content_escaped : (xs s : List ℕ) → IsUtf8 xs → content after_backslash xs ≡ Some s → IsUtf8 s
  content_escaped [] s text is = absurd (none-some s is)
  content_escaped (x ∷ xs) s text is = by_slash xs s x (x == 117) refl text (λ rest. content_unit xs s rest) (λ t. content_behind xs [] t) is

  content_unit : (xs s : List ℕ) → IsUtf8 xs → content after_u xs ≡ Some s → IsUtf8 s
  content_unit [] s text is = absurd (none-some s is)
  content_unit (a ∷ []) s text is = absurd (none-some s is)
  content_unit (a ∷ b ∷ []) s text is = absurd (none-some s is)
  content_unit (a ∷ b ∷ c ∷ []) s text is = absurd (none-some s is)
  content_unit (a ∷ b ∷ c ∷ d ∷ xs) s text is =
      by_unit xs s a b c d (code_unit a b c d) refl text (λ u rest high. content_pair xs u s rest high) (λ t. content_behind xs [] t) is

  content_pair : (xs : List ℕ) (h : ℕ) (s : List ℕ) → IsUtf8 xs → is_high_surrogate h ≡ true → content (after_high h) xs ≡ Some s → IsUtf8 s
  content_pair [] h s text high is = absurd (none-some s is)
  content_pair (x ∷ []) h s text high is = absurd (none-some s is)
  content_pair (x ∷ y ∷ []) h s text high is = absurd (none-some s is)
  content_pair (x ∷ y ∷ a ∷ []) h s text high is = absurd (none-some s is)
  content_pair (x ∷ y ∷ a ∷ b ∷ []) h s text high is = absurd (none-some s is)
  content_pair (x ∷ y ∷ a ∷ b ∷ c ∷ []) h s text high is = absurd (none-some s is)
  content_pair (x ∷ y ∷ a ∷ b ∷ c ∷ d ∷ xs) h s text high is =
      by_marks h x y a b c d xs s ((x == 92) && (y == 117)) refl text high (λ t. content_behind xs [] t) is

-- the content of a string, whose closing quote is within a text, is a text
pub content_text : (xs s : List ℕ) → IsUtf8 xs → content plain xs ≡ Some s → IsUtf8 s
content_text xs s text is = content_behind xs [] s text is
