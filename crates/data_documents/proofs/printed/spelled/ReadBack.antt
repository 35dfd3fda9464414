-- A tree that is printed as a line is read back.
use Rattle.std.proofs.Common.{◌≡◌, ℕ, ◌-◌, ◌≤◌, List, [], ◌∷◌, ◌++◌, Bool, true, false, IsUtf8, Option, Some, option_map, option_and_then, refl, sym, ap, ◌∙◌, arith, append-nil}
use Rattle.std.proofs.lemmas.Str.{IsUtf8-append}
use Rattle.json.specs.Token.{Token}
use Rattle.json.specs.Lex.{tokens}
use Rattle.json.specs.Json as json
use Rattle.json.specs.Tree as tree
use Rattle.json.specs.Tree.{json_tokens, HasNumbers, ItemsHaveNumbers, MembersHaveNumbers}
use Rattle.json.specs.Print.{quoted}
use Rattle.json.proofs.Printed.Trees.{value-json_tokens, ArePrintable-json_tokens}
use Rattle.json.proofs.Printed.Utf8.{IsUtf8-are_ascii, IsUtf8-quoted, IsUtf8-boolean}
use Rattle.serde_json.specs.Data.{Data, null, boolean, number, string, array, object, Items, no_items, item, Members, no_members, member, put}
use Rattle.serde_json.specs.Read.{of_json, of_items, of_members, read, max_depth}
use Rattle.serde_json.specs.Written.{outline, items_outline, members_outline, comma_if, compact_text, items_text, members_text}
use Rattle.serde_json.proofs.Texts.{print-outline}
use Rattle.data_documents.proofs.printed.spelled.Lines.{tokens_line}
use Rattle.data_documents.proofs.printed.spelled.Rising.{join, join_rising}
use Rattle.data_documents.proofs.printed.spelled.Whole.{IsWhole, AreWhole, HaveWhole}

mutual
  has_numbers : (n : ℕ) (d : Data) → IsWhole n d → HasNumbers (outline d)
  has_numbers n null whole = tt
  has_numbers n (boolean b) whole = tt
  has_numbers n (number x) whole = whole.is_number
  has_numbers n (string s) whole = tt
  has_numbers n (array ds) whole = items_have (n - 1) ds whole.1
  has_numbers n (object ms) whole = members_have (n - 1) ms whole.1

  items_have : (n : ℕ) (ds : Items) → AreWhole n ds → ItemsHaveNumbers (items_outline ds)
  items_have n no_items whole = tt
  items_have n (item d ds) whole = (has_numbers n d whole.0, items_have n ds whole.1)

  members_have : (n : ℕ) (ms : Members) → HaveWhole n ms → MembersHaveNumbers (members_outline ms)
  members_have n no_members whole = tt
  members_have n (member k d ms) whole = (has_numbers n d whole.1, members_have n ms whole.2)

mutual
  shallow : (n : ℕ) (d : Data) → IsWhole n d → tree.depth (outline d) ≤ n
  shallow n null whole = omega arith
  shallow n (boolean b) whole = omega arith
  shallow n (number x) whole = omega arith
  shallow n (string s) whole = omega arith
  shallow n (array ds) whole = omega (arith, shallow_items (n - 1) ds whole.1, whole.0)
  shallow n (object ms) whole = omega (arith, shallow_members (n - 1) ms whole.1, whole.0)

  shallow_items : (n : ℕ) (ds : Items) → AreWhole n ds → tree.items_depth (items_outline ds) ≤ n
  shallow_items n no_items whole = omega arith
  shallow_items n (item d ds) whole = omega (arith, shallow n d whole.0, shallow_items n ds whole.1)

  shallow_members : (n : ℕ) (ms : Members) → HaveWhole n ms → tree.members_depth (members_outline ms) ≤ n
  shallow_members n no_members whole = omega arith
  shallow_members n (member k d ms) whole = omega (arith, shallow n d whole.1, shallow_members n ms whole.2)

mutual
  told_back : (n : ℕ) (d : Data) → IsWhole n d → of_json (outline d) ≡ Some d
  told_back n null whole = refl
  told_back n (boolean b) whole = refl
  told_back n (number x) whole = ap (option_map number) whole.told
  told_back n (string s) whole = refl
  told_back n (array ds) whole = ap (option_map array) (items_back (n - 1) ds whole.1)
  told_back n (object ms) whole = ap (option_map object) (members_back (n - 1) ms no_members whole.1) ∙ ap (λ (found : Members). Some (object found)) (join_rising ms whole.2)

  items_back : (n : ℕ) (ds : Items) → AreWhole n ds → of_items (items_outline ds) ≡ Some ds
  items_back n no_items whole = refl
  items_back n (item d ds) whole =
      ap (option_and_then (λ e. option_map (item e) (of_items (items_outline ds)))) (told_back n d whole.0) ∙ ap (option_map (item d)) (items_back n ds whole.1)

  members_back : (n : ℕ) (ms found : Members) → HaveWhole n ms → of_members (members_outline ms) found ≡ Some (join found ms)
  members_back n no_members found whole = refl
  members_back n (member k d ms) found whole =
      ap (option_and_then (λ e. of_members (members_outline ms) (put k e found))) (told_back n d whole.1) ∙ members_back n ms (put k d found) whole.2

abbrev whole_of : Option (json.Json × List Token) → Option Data
whole_of o = option_and_then of_json (option_and_then (λ p. json.if_last p.0 p.1) o)

pub read_back : (d : Data) → IsWhole max_depth d → read (compact_text d ++ 10 ∷ []) ≡ Some d
read_back d whole =
    let ts = json_tokens (outline d) in
    let line : tokens (compact_text d ++ 10 ∷ []) ≡ ts =
    ap (λ (t : List ℕ). tokens (t ++ 10 ∷ [])) (sym (print-outline d)) ∙ tokens_line ts (ArePrintable-json_tokens (outline d) (has_numbers max_depth d whole)) in
    ap whole_of (ap (json.value max_depth) (line ∙ sym (append-nil ts)) ∙ value-json_tokens (outline d) max_depth [] (shallow max_depth d whole)) ∙ told_back max_depth d whole

comma_text : (later : Bool) → IsUtf8 (comma_if later)
comma_text true = IsUtf8-are_ascii (44 ∷ []) refl
comma_text false = IsUtf8-are_ascii [] refl

mutual
  text_of : (n : ℕ) (d : Data) → IsWhole n d → IsUtf8 (compact_text d)
  text_of n null whole = IsUtf8-are_ascii (110 ∷ 117 ∷ 108 ∷ 108 ∷ []) refl
  text_of n (boolean b) whole = IsUtf8-boolean b
  text_of n (number x) whole = whole.text
  text_of n (string s) whole = IsUtf8-quoted s whole
  text_of n (array ds) whole = IsUtf8-append (91 ∷ []) (items_text false ds) (IsUtf8-are_ascii (91 ∷ []) refl) (text_of_items (n - 1) false ds whole.1)
  text_of n (object ms) whole = IsUtf8-append (123 ∷ []) (members_text false ms) (IsUtf8-are_ascii (123 ∷ []) refl) (text_of_members (n - 1) false ms whole.1)

  text_of_items : (n : ℕ) (later : Bool) (ds : Items) → AreWhole n ds → IsUtf8 (items_text later ds)
  text_of_items n later no_items whole = IsUtf8-are_ascii (93 ∷ []) refl
  text_of_items n later (item d ds) whole =
      IsUtf8-append (comma_if later) (compact_text d ++ items_text true ds) (comma_text later)
      (IsUtf8-append (compact_text d) (items_text true ds) (text_of n d whole.0) (text_of_items n true ds whole.1))

  text_of_members : (n : ℕ) (later : Bool) (ms : Members) → HaveWhole n ms → IsUtf8 (members_text later ms)
  text_of_members n later no_members whole = IsUtf8-are_ascii (125 ∷ []) refl
  text_of_members n later (member k d ms) whole =
      let value = IsUtf8-append (compact_text d) (members_text true ms) (text_of n d whole.1) (text_of_members n true ms whole.2) in
      let colon = IsUtf8-append (58 ∷ []) (compact_text d ++ members_text true ms) (IsUtf8-are_ascii (58 ∷ []) refl) value in
      IsUtf8-append (comma_if later) (quoted k ++ 58 ∷ (compact_text d ++ members_text true ms)) (comma_text later)
      (IsUtf8-append (quoted k) (58 ∷ (compact_text d ++ members_text true ms)) (IsUtf8-quoted k whole.0) colon)

pub printed_text : (d : Data) → IsWhole max_depth d → IsUtf8 (compact_text d ++ 10 ∷ [])
printed_text d whole = IsUtf8-append (compact_text d) (10 ∷ []) (text_of max_depth d whole) (IsUtf8-are_ascii (10 ∷ []) refl)
