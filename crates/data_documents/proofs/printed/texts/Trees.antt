-- A tree that is read of a text holds texts.
use Rattle.std.proofs.Common.{◌≡◌, ◌∷◌, ℕ, zero, suc, List, [], length, IsUtf8, Option, Some, None, option_map, option_and_then, Ordering, Less, Equal, Greater, refl, subst}
use Rattle.std.specs.Prelude.{⊤}
use Rattle.std.specs.Ordering.{match_ordering, nat_cmp}
use Rattle.std.specs.Cmp.Lexicographic.{slice_cmp}
use Rattle.json.specs.Token.{Token}
use Rattle.json.specs.Lex.{tokens}
use Rattle.json.specs.Json as json
use Rattle.json.specs.Json.{Json, Parse, parse_map, after_end_array, read_key, items_step, members_step, items, members, value_with, value, if_last}
use Rattle.serde_json.specs.Data.{Num, Data, number, array, object, item, Members, no_members, member, put}
use Rattle.serde_json.specs.Read.{max_depth, number_of, of_items, of_json, of_members, read}
use Rattle.data_documents.specs.printed.Texts.{HasTexts, ItemsHaveTexts, MembersHaveTexts}
use Rattle.data_documents.proofs.printed.texts.Tokens.{AreTextTokens, tokens_of_text}

abbrev mutual
  JsonTexts : Json → Type 0
  JsonTexts json.null = ⊤
  JsonTexts (json.boolean b) = ⊤
  JsonTexts (json.number s) = ⊤
  JsonTexts (json.string s) = IsUtf8 s
  JsonTexts (json.array js) = ItemTexts js
  JsonTexts (json.object ms) = MemberTexts ms

  ItemTexts : json.Items → Type 0
  ItemTexts json.no_items = ⊤
  ItemTexts (json.item j js) = JsonTexts j × ItemTexts js

  MemberTexts : json.Members → Type 0
  MemberTexts json.no_members = ⊤
  MemberTexts (json.member k j ms) = IsUtf8 k × JsonTexts j × MemberTexts ms

-- what is parsed holds texts, and so does what is left
abbrev Gives : {A : Type 0} → (A → Type 0) → Option (A × List Token) → Type 0
Gives P None = ⊤
Gives P (Some found) = P found.0 × AreTextTokens found.1

abbrev Parses : {A : Type 0} → (A → Type 0) → Parse A → Type 0
Parses P p = (ts : List Token) → AreTextTokens ts → Gives P (p ts)

mapped : {A B : Type 0} (P : A → Type 0) (Q : B → Type 0) (h : A → B) → ((a : A) → P a → Q (h a)) → (o : Option (A × List Token)) → Gives P o → Gives Q (parse_map h o)
mapped P Q h gives None x = tt
mapped P Q h gives (Some found) x = (gives found.0 x.0, x.1)

and_more : {B : Type 0} (Q : B → Type 0) (h : Json → B → B) → ((j : Json) (b : B) → JsonTexts j → Q b → Q (h j b)) → (more : Parse B) → Parses Q more
    → (o : Option (Json × List Token)) → Gives JsonTexts o → Gives Q (option_and_then (λ q. parse_map (h q.0) (more q.1)) o)
and_more Q h gives more parses None x = tt
and_more Q h gives more parses (Some q) x = mapped Q Q (h q.0) (λ b y. gives q.0 b x.0 y) (more q.1) (parses q.1 x.1)

after_end : (ts : List Token) → AreTextTokens ts → (o : Option (List Token)) → after_end_array ts ≡ o → (r : List Token) → o ≡ Some r → AreTextTokens r
after_end [] texts o is r some = absurd cc
after_end (Token.end_array ∷ ts) texts o is r some = let same : ts ≡ r = cc in subst AreTextTokens same texts.1
after_end (Token.begin_object ∷ ts) texts o is r some = absurd cc
after_end (Token.end_object ∷ ts) texts o is r some = absurd cc
after_end (Token.begin_array ∷ ts) texts o is r some = absurd cc
after_end (Token.key s ∷ ts) texts o is r some = absurd cc
after_end (Token.string s ∷ ts) texts o is r some = absurd cc
after_end (Token.number s ∷ ts) texts o is r some = absurd cc
after_end (Token.boolean b ∷ ts) texts o is r some = absurd cc
after_end (Token.null ∷ ts) texts o is r some = absurd cc
after_end (Token.bad ∷ ts) texts o is r some = absurd cc

-- a key that is read is a text
abbrev IsTextKey : Option (List ℕ) → Type 0
IsTextKey None = ⊤
IsTextKey (Some k) = IsUtf8 k

key_read : Parses IsTextKey read_key
key_read [] texts = tt
key_read (Token.begin_object ∷ ts) texts = tt
key_read (Token.end_object ∷ ts) texts = (tt, texts.1)
key_read (Token.begin_array ∷ ts) texts = tt
key_read (Token.end_array ∷ ts) texts = tt
key_read (Token.key s ∷ ts) texts = texts
key_read (Token.string s ∷ ts) texts = tt
key_read (Token.number s ∷ ts) texts = tt
key_read (Token.boolean b ∷ ts) texts = tt
key_read (Token.null ∷ ts) texts = tt
key_read (Token.bad ∷ ts) texts = tt

module _ (p : Parse Json) (parses : Parses JsonTexts p) where
  item_turn : (more : Parse json.Items) → Parses ItemTexts more → (ts : List Token) → AreTextTokens ts → (o : Option (List Token)) → after_end_array ts ≡ o → Gives ItemTexts (items_step p more ts o)
  item_turn more again ts texts (Some r) is = (tt, after_end ts texts (Some r) is r refl)
  item_turn more again ts texts None is = and_more ItemTexts json.item (λ j b x y. (x, y)) more again (p ts) (parses ts texts)

  parses_items : (n : ℕ) → Parses ItemTexts (items p n)
  unfolding items
  parses_items zero ts texts = tt
  parses_items (suc n) ts texts = item_turn (items p n) (parses_items n) ts texts (after_end_array ts) refl

  member_turn : (more : Parse json.Members) → Parses MemberTexts more → (o : Option (Option (List ℕ) × List Token)) → Gives IsTextKey o → Gives MemberTexts (option_and_then (λ q. members_step p more q.0 q.1) o)
  member_turn more again None x = tt
  member_turn more again (Some (None, s)) x = (tt, x.1)
  member_turn more again (Some (Some k, s)) x = and_more MemberTexts (json.member k) (λ j b y z. (x.0, y, z)) more again (p s) (parses s x.1)

  parses_members : (n : ℕ) → Parses MemberTexts (members p n)
  unfolding members
  parses_members zero ts texts = tt
  parses_members (suc n) ts texts = member_turn (members p n) (parses_members n) (read_key ts) (key_read ts texts)

one_level : (a : Parse json.Items) (o : Parse json.Members) → ((ts : List Token) → AreTextTokens ts → Gives JsonTexts (parse_map json.array (a ts)))
    → ((ts : List Token) → AreTextTokens ts → Gives JsonTexts (parse_map json.object (o ts))) → Parses JsonTexts (value_with a o)
one_level a o p q [] texts = tt
one_level a o p q (Token.begin_object ∷ ts) texts = q ts texts.1
one_level a o p q (Token.end_object ∷ ts) texts = tt
one_level a o p q (Token.begin_array ∷ ts) texts = p ts texts.1
one_level a o p q (Token.end_array ∷ ts) texts = tt
one_level a o p q (Token.key s ∷ ts) texts = tt
one_level a o p q (Token.string s ∷ ts) texts = texts
one_level a o p q (Token.number s ∷ ts) texts = (tt, texts.1)
one_level a o p q (Token.boolean b ∷ ts) texts = (tt, texts.1)
one_level a o p q (Token.null ∷ ts) texts = (tt, texts.1)
one_level a o p q (Token.bad ∷ ts) texts = tt

parses_value : (d : ℕ) → Parses JsonTexts (value d)
unfolding value
parses_value zero = one_level (λ ts. None) (λ ts. None) (λ ts texts. tt) (λ ts texts. tt)
parses_value (suc d) =
    one_level (λ ts. items (value d) (length ts) ts) (λ ts. members (value d) (length ts) ts)
    (λ ts texts. mapped ItemTexts JsonTexts json.array (λ js x. x) (items (value d) (length ts) ts) (parses_items (value d) (parses_value d) (length ts) ts texts))
    (λ ts texts. mapped MemberTexts JsonTexts json.object (λ ms x. x) (members (value d) (length ts) ts) (parses_members (value d) (parses_value d) (length ts) ts texts))

-- what is found, if anything is
abbrev pub Finds : {A : Type 0} → (A → Type 0) → Option A → Type 0
Finds P None = ⊤
Finds P (Some a) = P a

finds_map : {A B : Type 0} (P : A → Type 0) (Q : B → Type 0) (h : A → B) → ((a : A) → P a → Q (h a)) → (o : Option A) → Finds P o → Finds Q (option_map h o)
finds_map P Q h gives None x = tt
finds_map P Q h gives (Some a) x = gives a x

pub finds_then : {A B : Type 0} (P : A → Type 0) (Q : B → Type 0) (h : A → Option B) → ((a : A) → P a → Finds Q (h a)) → (o : Option A) → Finds P o → Finds Q (option_and_then h o)
finds_then P Q h gives None x = tt
finds_then P Q h gives (Some a) x = gives a x

texts_put : (k : List ℕ) (d : Data) (ms : Members) → IsUtf8 k → HasTexts d → MembersHaveTexts ms → MembersHaveTexts (put k d ms)
texts_put k d no_members name texts rest = (name, texts, tt)
texts_put k d (member l e ms) name texts rest = by (slice_cmp nat_cmp k l) (texts_put k d ms name texts rest.2)
  where
    by : (o : Ordering) → MembersHaveTexts (put k d ms) → MembersHaveTexts (match_ordering o (member k d (member l e ms)) (member l d ms) (member l e (put k d ms)))
    by Less later = (name, texts, rest)
    by Equal later = (rest.0, texts, rest.2)
    by Greater later = (rest.0, rest.1, later)

any_number : (o : Option Num) → Finds HasTexts (option_map number o)
any_number None = tt
any_number (Some n) = tt

mutual
  json_texts : (j : Json) → JsonTexts j → Finds HasTexts (of_json j)
  json_texts json.null x = tt
  json_texts (json.boolean b) x = tt
  json_texts (json.number s) x = any_number (number_of s)
  json_texts (json.string s) x = x
  json_texts (json.array js) x = finds_map ItemsHaveTexts HasTexts array (λ ds y. y) (of_items js) (items_texts js x)
  json_texts (json.object ms) x = finds_map MembersHaveTexts HasTexts object (λ ms y. y) (of_members ms no_members) (members_texts ms no_members x tt)

  items_texts : (js : json.Items) → ItemTexts js → Finds ItemsHaveTexts (of_items js)
  items_texts json.no_items x = tt
  items_texts (json.item j js) x =
      finds_then HasTexts ItemsHaveTexts (λ d. option_map (item d) (of_items js)) (λ d y. finds_map ItemsHaveTexts ItemsHaveTexts (item d) (λ ds z. (y, z)) (of_items js) (items_texts js x.1))
      (of_json j) (json_texts j x.0)

  members_texts : (ms : json.Members) (found : Members) → MemberTexts ms → MembersHaveTexts found → Finds MembersHaveTexts (of_members ms found)
  members_texts json.no_members found x y = y
  members_texts (json.member k j ms) found x y =
      finds_then HasTexts MembersHaveTexts (λ d. of_members ms (put k d found)) (λ d z. members_texts ms (put k d found) x.2 (texts_put k d found x.0 z y)) (of_json j) (json_texts j x.1)

last_texts : (o : Option (Json × List Token)) → Gives JsonTexts o → Finds JsonTexts (option_and_then (λ p. if_last p.0 p.1) o)
last_texts None x = tt
last_texts (Some (j, [])) x = x.0
last_texts (Some (j, t ∷ r)) x = tt

pub read_texts : (text : List ℕ) (d : Data) → IsUtf8 text → read text ≡ Some d → HasTexts d
read_texts text d is found =
    subst (Finds HasTexts) found
    (finds_then JsonTexts HasTexts of_json (λ j x. json_texts j x) (option_and_then (λ p. if_last p.0 p.1) (value max_depth (tokens text)))
    (last_texts (value max_depth (tokens text)) (parses_value max_depth (tokens text) (tokens_of_text text is))))
