-- The pointers of fragments' places tell the places apart.
use Rattle.std.proofs.Common.{◌≡◌, ◌≢◌, ℕ, ◌<◌, ◌^◌, ◌==◌, false, cond, List, [], ◌∷◌, ◌++◌, codes, decimal, flat_map, get_or, encode_utf8, refl, sym, ap, ◌∙◌, arith}
use Rattle.std.specs.Str.{IsAscii, chars}
use Rattle.std.proofs.lemmas.List.{append_cancel_left}
use Rattle.std.proofs.lemmas.List.Elements.{All-cons, All-nil}
use Rattle.std.proofs.lemmas.Str.{chars-IsAscii, chars-append, encode_ascii, IsUtf8-from_ascii}
use Rattle.std.proofs.lemmas.Str.Ascii.{IsAscii-from_all}
use Rattle.json_form.specs.declared.pointer.Step.TheVariants.{Member}
use Rattle.json_form.specs.Pointers.{escaped, pointer_of, step_text}
use Rattle.msl_rules.specs.Sites.{fragment_place, link_place}
use Rattle.msl_fragments.proofs.sound_owners.places.Decimals.{split_number}

-- a letter at the front of a name is spelled as it is
pub front_letter : (letter : ℕ) (name : List ℕ) → letter < 128 → (letter == 126) ≡ false → (letter == 47) ≡ false
    → step_text (Member (letter ∷ name)) ≡ 47 ∷ letter ∷ flat_map escaped (chars name)
front_letter letter name small no_tilde no_slash =
    let ascii : IsAscii (letter ∷ []) = IsAscii-from_all (letter ∷ []) (All-cons (λ b. b < 128) letter [] small (All-nil (λ b. b < 128))) in
    let character : chars (letter ∷ name) ≡ letter ∷ chars name =
    chars-append (letter ∷ []) name (IsUtf8-from_ascii (letter ∷ []) ascii) ∙ ap (λ front. front ++ chars name) (chars-IsAscii (letter ∷ []) ascii) in
    let spelled : escaped letter ≡ letter ∷ [] =
    (λ i. cond (no_tilde i) (codes "~0") (cond (no_slash i) (codes "~1") (encode_utf8 letter))) ∙ encode_ascii letter small in
    ap (λ characters. 47 ∷ flat_map escaped characters) character ∙ ap (λ front. 47 ∷ (front ++ flat_map escaped (chars name))) spelled

-- the steps to members on the way to a fragment
abbrev to_container : List ℕ
to_container = step_text (Member (codes "EntityContainerMapping"))

abbrev to_sets : List ℕ
to_sets = step_text (Member (codes "EntitySetMapping"))

abbrev to_types : List ℕ
to_types = step_text (Member (codes "EntityTypeMapping"))

abbrev to_fragments : List ℕ
to_fragments = step_text (Member (codes "MappingFragment"))

abbrev to_links : List ℕ
to_links = step_text (Member (codes "AssociationSetMapping"))

-- fragments at one pointer have the same numbers
pub same_fragment_place : (i j k l m n : ℕ) → i < 2 ^ 32 → j < 2 ^ 32 → k < 2 ^ 32 → l < 2 ^ 32 → m < 2 ^ 32 → n < 2 ^ 32
    → pointer_of (fragment_place i j k) ≡ pointer_of (fragment_place l m n) → (i ≡ l) × (j ≡ m) × (k ≡ n)
same_fragment_place i j k l m n few_i few_j few_k few_l few_m few_n same =
    let last : ℕ → List ℕ = λ c. decimal c ++ [] in
    let third : ℕ → List ℕ = λ c. to_fragments ++ (47 ∷ last c) in
    let middle : ℕ → ℕ → List ℕ = λ b c. decimal b ++ third c in
    let second : ℕ → ℕ → List ℕ = λ b c. to_types ++ (47 ∷ middle b c) in
    let first : ℕ → ℕ → ℕ → List ℕ = λ a b c. decimal a ++ second b c in
    let sets = split_number i l (second j k) (second m n) few_i few_l (λ digit. omega arith) (λ digit. omega arith)
    (behind to_sets (first i j k) (first l m n) (append_cancel_left to_container (to_sets ++ (47 ∷ first i j k)) (to_sets ++ (47 ∷ first l m n)) same)) in
    let types = split_number j m (third k) (third n) few_j few_m (λ digit. omega arith) (λ digit. omega arith) (behind to_types (middle j k) (middle m n) sets.1) in
    let fragments = split_number k n [] [] few_k few_n tt tt (behind to_fragments (last k) (last n) types.1) in
    (sets.0, types.0, fragments.0)
  where
    behind : (member one other : List ℕ) → member ++ (47 ∷ one) ≡ member ++ (47 ∷ other) → one ≡ other
    behind member one other same = append_cancel_left (47 ∷ []) one other (append_cancel_left member (47 ∷ one) (47 ∷ other) same)

-- and so have mappings of associations
pub same_link_place : (i k : ℕ) → i < 2 ^ 32 → k < 2 ^ 32 → pointer_of (link_place i) ≡ pointer_of (link_place k) → i ≡ k
same_link_place i k few_i few_k same =
    (split_number i k [] [] few_i few_k tt tt
    (append_cancel_left (47 ∷ []) (decimal i ++ []) (decimal k ++ [])
    (append_cancel_left to_links (47 ∷ (decimal i ++ [])) (47 ∷ (decimal k ++ []))
    (append_cancel_left to_container (to_links ++ (47 ∷ (decimal i ++ []))) (to_links ++ (47 ∷ (decimal k ++ []))) same)))).0

-- no fragment has the place of an association's mapping
pub other_place : (i j k l : ℕ) → pointer_of (fragment_place i j k) ≢ pointer_of (link_place l)
other_place i j k l same =
    let one : List ℕ = 47 ∷ (decimal i ++ (to_types ++ (47 ∷ (decimal j ++ (to_fragments ++ (47 ∷ (decimal k ++ []))))))) in
    let other : List ℕ = 47 ∷ (decimal l ++ []) in
    let members : to_sets ++ one ≡ to_links ++ other = append_cancel_left to_container (to_sets ++ one) (to_links ++ other) same in
    let set_letter : get_or (to_sets ++ one) 1 0 ≡ 69 = ap (λ text. get_or (text ++ one) 1 0) (front_letter 69 (codes "ntitySetMapping") (omega arith) refl refl) in
    let link_letter : get_or (to_links ++ other) 1 0 ≡ 65 = ap (λ text. get_or (text ++ other) 1 0) (front_letter 65 (codes "ssociationSetMapping") (omega arith) refl refl) in
    let letters : 69 ≡ 65 = sym set_letter ∙ ap (λ text. get_or text 1 0) members ∙ link_letter in
    absurd (omega (arith, letters))
