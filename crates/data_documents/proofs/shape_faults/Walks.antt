-- What is first wrong in an array and in an object, and the walk over the entries of a map.
use Rattle.std.proofs.Common.{◌≡◌, ⊎_elim, inl, inr, ◌+◌, ℕ, suc, List, [], ◌∷◌, drop, Option, Some, None, IsSome, String, Global, refl, sym, ap, subst, ◌∙◌, arith}
use Rattle.serde_json.specs.Data.{Data, Members}
use Rattle.serde_json.specs.Find.{as_array, as_object}
use Rattle.serde_json.specs.View.{members_view}
use Rattle.serde_json.specs.declared.value.Value.{Value}
use Rattle.emc_base.proofs.facts.Behind.{all_dropped, dropped}
use Rattle.json_form.specs.TreeParts.{items_in, members_in}
use Rattle.json_form.proofs.Views.{members_in-entries, shown}
use Rattle.groupings.specs.least_fault.Least.{IsLeast, earlier}
use Rattle.groupings.proofs.least_fault.Leasts.{AmongFirst, least_all, least_more, least_same, least_start}
use Rattle.data_documents.specs.declared.shape_faults.place.ShapeStep.{ShapeStep}
use Rattle.data_documents.specs.declared.shape_faults.place.ShapeStep.TheVariants.{Member}
use Rattle.data_documents.specs.shape_faults.Entries.{AtEntry, InEntries}
use Rattle.data_documents.specs.shape_faults.Nodes.{Behind, InItems, InMembers, IsArrayFault, IsObjectFault}
use Rattle.data_documents.specs.shape_faults.PlaceOrder.{place_cmp_total}
use Rattle.data_documents.specs.shape_faults.Places.{place_cmp}
use Rattle.data_documents.proofs.shape_faults.Leasts.{here_first, least_mapped}

-- a node that is no array is wrong itself
pub no_array : (P : Data → List ShapeStep → Type 0) (d : Data) → ¬ IsSome (as_array d) → IsLeast place_cmp (IsArrayFault P d) (Some [])
no_array P d none = (inl (none, refl), λ place fault. here_first place)

-- in an array that alone is wrong which is so of its items
pub in_array : (P : Data → List ShapeStep → Type 0) (d : Data) (found : Option (List ShapeStep)) → IsSome (as_array d)
    → IsLeast place_cmp (InItems P (items_in d)) found → IsLeast place_cmp (IsArrayFault P d) found
in_array P d found some is = least_same place_cmp (InItems P (items_in d)) (IsArrayFault P d) found
    (λ place. inr) (λ place. ⊎_elim (λ other. absurd (other.0 some)) (λ inside. inside)) is

-- a node that is no object is wrong itself
pub no_object : (P : List ℕ → Data → List ShapeStep → Type 0) (d : Data) → None ≡ as_object d → IsLeast place_cmp (IsObjectFault P d) (Some [])
no_object P d none = (inl ((λ some. absurd (nothing (subst IsSome (sym none) some))), refl), λ place fault. here_first place)
  where
    nothing : ¬ IsSome {T = Members} None
    nothing some = absurd cc

-- in an object that alone is wrong which is so of its members
pub in_object : (P : List ℕ → Data → List ShapeStep → Type 0) (d : Data) (entries : List (String Global × Value)) (found : Option (List ShapeStep))
    → Some (members_view entries) ≡ as_object d → IsLeast place_cmp (InEntries P entries) found → IsLeast place_cmp (IsObjectFault P d) found
in_object P d entries found is least = least_same place_cmp (InMembers P (members_in d)) (IsObjectFault P d) found
    (λ place. inr) (λ place. ⊎_elim (λ other. absurd (other.0 (subst IsSome is refl))) (λ inside. inside))
    (let Q : List (List ℕ × Data) → Type 0 = λ members. IsLeast place_cmp (InMembers P members) found in
    subst Q (sym (members_in-entries d entries is))
    (least_mapped shown (λ i member. Behind (Member member.0) (P member.0 member.1)) entries found least))

-- the entries of a map
abbrev pub Entries : Type 0
Entries = List (String Global × Value)

-- the entries are passed up to a place; these are left
pub record Passed (P : List ℕ → Data → List ShapeStep → Type 0) (entries left : Entries) (found : Option (List ShapeStep)) : Type 0 where
  pub n : ℕ
  pub left_is : left ≡ drop n entries
  pub least : IsLeast place_cmp (AmongFirst (AtEntry P) entries n) found

module _ (P : List ℕ → Data → List ShapeStep → Type 0) (entries left : Entries) where
  pub passed_none : left ≡ entries → Passed P entries left None
  passed_none is = record { n = 0; left_is = is; least = least_start place_cmp place_cmp_total (AtEntry P) entries }

  -- one entry more
  pub passed_more : (found more : Option (List ShapeStep)) (entry : String Global × Value) (rest : Entries)
      → left ≡ entry ∷ rest → ((i : ℕ) → IsLeast place_cmp (AtEntry P i entry) more) → Passed P entries left found
      → Passed P entries rest (earlier place_cmp found more)
  passed_more found more entry rest is least passed =
      let at = dropped entries passed.n entry rest (sym passed.left_is ∙ is) in
      record {
        n = passed.n + 1;
        left_is = sym at.1 ∙ ap (λ n. drop n entries) (let next : suc passed.n ≡ passed.n + 1 = omega arith in next);
        least = least_more place_cmp place_cmp_total (AtEntry P) entries passed.n entry found more at.0 passed.least (least passed.n);
      }

  -- all of them
  pub passed_all : (found : Option (List ShapeStep)) → left ≡ [] → Passed P entries left found → IsLeast place_cmp (InEntries P entries) found
  passed_all found none passed =
      least_all place_cmp place_cmp_total (AtEntry P) entries passed.n found (all_dropped entries passed.n (sym passed.left_is ∙ none)) passed.least
