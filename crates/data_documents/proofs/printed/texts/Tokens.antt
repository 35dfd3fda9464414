-- The tokens of a text hold texts.
use Rattle.std.proofs.Common.{◌≡◌, ◌∷◌, ◌++◌, ◌-◌, ◌==◌, ◌&&◌, ℕ, List, [], length, take, drop, nat_eq, Bool, true, false, cond, IsUtf8, Option, Some, None, refl, sym, subst, arith, append_assoc, eqb-true}
use Rattle.std.specs.Prelude.{⊤}
use Rattle.std.specs.List.{starts_with}
use Rattle.json.specs.Token.{Token, begin_object, end_object, begin_array, end_array, key, string, number, boolean, null, bad}
use Rattle.json.specs.Text.{content, plain}
use Rattle.json.specs.Word.{after_number, ends_word, head, is_operator, is_space, literal, number_before, word}
use Rattle.json.specs.Lex.{Class, Lexeme, Mode, Place, token, comma, colon, quote, backslash, operator, space, other, class, operator_lexeme, string_token, between, in_word, in_string, in_escape, lex_byte, lex, fresh, after_value, after_comma, after_key, begins_colon, may_begin, may_close, if_allowed, place_token, punctuate, tokens}
use Rattle.json.specs.Ascii as ascii
use Rattle.data_documents.proofs.printed.texts.Cuts.{text_behind}
use Rattle.data_documents.proofs.printed.texts.Contents.{content_text}

-- what a token holds is a text
abbrev pub IsTextToken : Token → Type 0
IsTextToken begin_object = ⊤
IsTextToken end_object = ⊤
IsTextToken begin_array = ⊤
IsTextToken end_array = ⊤
IsTextToken (key s) = IsUtf8 s
IsTextToken (string s) = IsUtf8 s
IsTextToken (number s) = ⊤
IsTextToken (boolean b) = ⊤
IsTextToken null = ⊤
IsTextToken bad = ⊤

abbrev pub AreTextTokens : List Token → Type 0
AreTextTokens [] = ⊤
AreTextTokens (t ∷ ts) = IsTextToken t × AreTextTokens ts

abbrev AreTextLexemes : List Lexeme → Type 0
AreTextLexemes [] = ⊤
AreTextLexemes (token t ∷ ls) = IsTextToken t × AreTextLexemes ls
AreTextLexemes (comma ∷ ls) = AreTextLexemes ls
AreTextLexemes (colon ∷ ls) = AreTextLexemes ls

either : (b : Bool) (t u : Token) → IsTextToken t → IsTextToken u → IsTextToken (cond b t u)
either true t u first second = first
either false t u first second = second

number_token : (t : List ℕ) (o : Option (List ℕ)) → IsTextToken (number_before t o)
number_token t None = tt
number_token t (Some rest) = either (ends_word rest) (number (take (length t - length rest) t)) bad tt tt

literal_token : (name : List ℕ) (u : Token) (t : List ℕ) → IsTextToken u → IsTextToken (literal name u t)
literal_token name u t is = either (starts_with nat_eq t name && ends_word (drop (length name) t)) u bad is tt

word_token : (t : List ℕ) → IsTextToken (word t)
unfolding word
word_token t =
    let numbers = number_before t (after_number t) in
    let nulls = cond (head t == ascii.lower_n) (literal ascii.null_text null t) numbers in
    let falses = cond (head t == ascii.lower_f) (literal ascii.false_text (boolean false) t) nulls in
    either (head t == ascii.lower_t) (literal ascii.true_text (boolean true) t) falses (literal_token ascii.true_text (boolean true) t tt)
    (either (head t == ascii.lower_f) (literal ascii.false_text (boolean false) t) nulls (literal_token ascii.false_text (boolean false) t tt)
    (either (head t == ascii.lower_n) (literal ascii.null_text null t) numbers (literal_token ascii.null_text null t tt) (number_token t (after_number t))))

text_token : (xs : List ℕ) (o : Option (List ℕ)) → IsUtf8 xs → content plain xs ≡ o → IsTextToken (string_token o)
text_token xs None text is = tt
text_token xs (Some s) text is = content_text xs s text is

operator_by : (a b c d e : Bool) (ls : List Lexeme) → AreTextLexemes ls
    → AreTextLexemes (cond a (token begin_object) (cond b (token end_object) (cond c (token begin_array) (cond d (token end_array) (cond e comma colon)))) ∷ ls)
operator_by true b c d e ls rest = (tt, rest)
operator_by false true c d e ls rest = (tt, rest)
operator_by false false true d e ls rest = (tt, rest)
operator_by false false false true e ls rest = (tt, rest)
operator_by false false false false true ls rest = rest
operator_by false false false false false ls rest = rest

operator_lexemes : (x : ℕ) (ls : List Lexeme) → AreTextLexemes ls → AreTextLexemes (operator_lexeme x ∷ ls)
operator_lexemes x ls rest = operator_by _ _ _ _ _ ls rest

byte_lexemes : (m : Mode) (c : Class) (x : ℕ) (xs : List ℕ) (k : Mode → List Lexeme) → (c ≡ quote → IsUtf8 xs) → ((next : Mode) → AreTextLexemes (k next)) → AreTextLexemes (lex_byte m c x xs k)
byte_lexemes between quote x xs k text rest = (text_token xs (content plain xs) (text refl) refl, rest in_string)
byte_lexemes between backslash x xs k text rest = (tt, rest in_word)
byte_lexemes between operator x xs k text rest = operator_lexemes x (k between) (rest between)
byte_lexemes between space x xs k text rest = rest between
byte_lexemes between other x xs k text rest = (word_token (x ∷ xs), rest in_word)
byte_lexemes in_word quote x xs k text rest = rest in_word
byte_lexemes in_word backslash x xs k text rest = rest in_word
byte_lexemes in_word operator x xs k text rest = operator_lexemes x (k between) (rest between)
byte_lexemes in_word space x xs k text rest = rest between
byte_lexemes in_word other x xs k text rest = rest in_word
byte_lexemes in_string quote x xs k text rest = rest between
byte_lexemes in_string backslash x xs k text rest = rest in_escape
byte_lexemes in_string operator x xs k text rest = rest in_string
byte_lexemes in_string space x xs k text rest = rest in_string
byte_lexemes in_string other x xs k text rest = rest in_string
byte_lexemes in_escape c x xs k text rest = rest in_string

is_quote : (q b o s : Bool) → cond q quote (cond b backslash (cond o operator (cond s space other))) ≡ quote → q ≡ true
is_quote true b o s is = refl
is_quote false true o s is = absurd cc
is_quote false false true s is = absurd cc
is_quote false false false true is = absurd cc
is_quote false false false false is = absurd cc

lexemes : (m : Mode) (xs front : List ℕ) → IsUtf8 (front ++ xs) → AreTextLexemes (lex m xs)
unfolding lex
lexemes m [] front text = tt
lexemes m (x ∷ xs) front text =
    byte_lexemes m (class x) x xs (λ next. lex next xs)
    (λ is. let same : x ≡ 34 = eqb-true x 34 (is_quote (x == 34) (x == 92) (is_operator x) (is_space x) is) in text_behind front x xs (omega (arith, same)) text)
    (λ next. lexemes next xs (front ++ x ∷ []) (subst IsUtf8 (sym (append_assoc front (x ∷ []) xs)) text))

allowed : (b : Bool) (t : Token) (k : Place → List Token) (next : Place) → IsTextToken t → ((p : Place) → AreTextTokens (k p)) → AreTextTokens (if_allowed b t k next)
allowed true t k next one rest = (one, rest next)
allowed false t k next one rest = (tt, tt)

placed : (p : Place) (t : Token) (before_colon : Bool) (k : Place → List Token) → IsTextToken t → ((q : Place) → AreTextTokens (k q)) → AreTextTokens (place_token p t before_colon k)
placed p begin_object before k one rest = allowed (may_begin p) begin_object k fresh tt rest
placed p end_object before k one rest = allowed (may_close p) end_object k after_value tt rest
placed p begin_array before k one rest = allowed (may_begin p) begin_array k fresh tt rest
placed p end_array before k one rest = allowed (may_close p) end_array k after_value tt rest
placed p (key s) before k one rest = (tt, tt)
placed p (string s) true k one rest = allowed (may_begin p) (key s) k after_key one rest
placed p (string s) false k one rest = allowed (may_begin p) (string s) k after_value one rest
placed p (number s) before k one rest = allowed (may_begin p) (number s) k after_value tt rest
placed p (boolean b) before k one rest = allowed (may_begin p) (boolean b) k after_value tt rest
placed p null before k one rest = allowed (may_begin p) null k after_value tt rest
placed p bad before k one rest = (tt, tt)

punctuated : (p : Place) (ls : List Lexeme) → AreTextLexemes ls → AreTextTokens (punctuate p ls)
unfolding punctuate
punctuated fresh [] texts = tt
punctuated after_value [] texts = tt
punctuated after_comma [] texts = (tt, tt)
punctuated after_key [] texts = (tt, tt)
punctuated fresh (token t ∷ ls) texts = placed fresh t (begins_colon ls) (λ next. punctuate next ls) texts.0 (λ next. punctuated next ls texts.1)
punctuated after_value (token t ∷ ls) texts = placed after_value t (begins_colon ls) (λ next. punctuate next ls) texts.0 (λ next. punctuated next ls texts.1)
punctuated after_comma (token t ∷ ls) texts = placed after_comma t (begins_colon ls) (λ next. punctuate next ls) texts.0 (λ next. punctuated next ls texts.1)
punctuated after_key (token t ∷ ls) texts = placed after_key t (begins_colon ls) (λ next. punctuate next ls) texts.0 (λ next. punctuated next ls texts.1)
punctuated fresh (comma ∷ ls) texts = (tt, tt)
punctuated after_value (comma ∷ ls) texts = punctuated after_comma ls texts
punctuated after_comma (comma ∷ ls) texts = (tt, tt)
punctuated after_key (comma ∷ ls) texts = (tt, tt)
punctuated fresh (colon ∷ ls) texts = (tt, tt)
punctuated after_value (colon ∷ ls) texts = (tt, tt)
punctuated after_comma (colon ∷ ls) texts = (tt, tt)
punctuated after_key (colon ∷ ls) texts = punctuated fresh ls texts

pub tokens_of_text : (text : List ℕ) → IsUtf8 text → AreTextTokens (tokens text)
tokens_of_text text is = punctuated fresh (lex between text) (lexemes between text [] is)
