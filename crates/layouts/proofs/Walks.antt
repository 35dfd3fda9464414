-- The walk over a document: what is least inside an array and inside an object.
use Rattle.std.proofs.Common.{◌≡◌, ◌⊎◌, ⊎_elim, inl, inr, ◌+◌, ℕ, suc, List, [], ◌∷◌, map, drop, slice_get, Option, Some, None, String, Global, refl, sym, ap, subst, ◌∙◌, arith, Bor, string_bytes}
use Rattle.std.specs.Option.{option_map}
use Rattle.std.proofs.lemmas.Option.{slice_get-map}
use Rattle.serde_json.specs.Data.{Data}
use Rattle.serde_json.specs.View.{view}
use Rattle.serde_json.specs.declared.value.Value.{Value}
use Rattle.emc_base.specs.Lists.{At}
use Rattle.emc_base.proofs.facts.Behind.{all_dropped, dropped}
use Rattle.json_form.specs.declared.pointer.Step.{Step}
use Rattle.json_form.specs.declared.pointer.Step.TheVariants.{Member, Item}
use Rattle.json_form.specs.TreeParts.{items_in, members_in}
use Rattle.json_form.proofs.Views.{shown}
use Rattle.groupings.specs.least_fault.Least.{Among, IsLeast, earlier}
use Rattle.groupings.proofs.least_fault.Leasts.{AmongFirst, least_all, least_more, least_of_both, least_same, least_start}
use Rattle.layouts.specs.declared.fault.Fault.{Fault}
use Rattle.layouts.specs.declared.form.Entry.{Entry}
use Rattle.layouts.specs.declared.form.Form.{Form}
use Rattle.layouts.specs.declared.form.Form.TheVariants.{One, Object, Array, Pair, List as ListOf}
use Rattle.layouts.specs.declared.form.Leaf.{Leaf}
use Rattle.layouts.specs.declared.form.Shape.{Shape}
use Rattle.layouts.specs.declared.rule.Rule.{Rule}
use Rattle.layouts.specs.FaultOrder.{fault_cmp_total}
use Rattle.layouts.specs.Faults.{fault_cmp}
use Rattle.layouts.specs.Forms.{Breaks, Fits, IsFaultOf, IsSetFlag, Lacks}
use Rattle.layouts.specs.Inside.{IsEntryFault, IsItemFault, IsLackFault, IsPartFault}
use Rattle.layouts.specs.Layouts.{as_rows, rows_of}
use Rattle.layouts.proofs.Rows.{required_row}

-- the members of an object, as entries of the map
abbrev pub Entries : Type 0
Entries = List (String Global × Value)

-- the entries are passed up to a place; these are left
pub record Passed (shape : Shape) (entries left : Entries) (found : Option Fault) : Type 0 where
  pub n : ℕ
  pub left_is : left ≡ drop n entries
  pub least : IsLeast fault_cmp (AmongFirst (IsEntryFault shape) entries n) found

pub passed_none : (shape : Shape) (entries left : Entries) → left ≡ entries → Passed shape entries left None
passed_none shape entries left is = record { n = 0; left_is = is; least = least_start fault_cmp fault_cmp_total (IsEntryFault shape) entries }

-- one entry more
pub passed_more : (shape : Shape) (entries left : Entries) (found more : Option Fault) (entry : String Global × Value) (rest : Entries)
    → left ≡ entry ∷ rest → ((i : ℕ) → IsLeast fault_cmp (IsEntryFault shape i entry) more) → Passed shape entries left found
    → Passed shape entries rest (earlier fault_cmp found more)
passed_more shape entries left found more entry rest is least passed =
    let at = dropped entries passed.n entry rest (sym passed.left_is ∙ is) in
    record {
      n = passed.n + 1;
      left_is = sym at.1 ∙ ap (λ n. drop n entries) (let next : suc passed.n ≡ passed.n + 1 = omega arith in next);
      least = least_more fault_cmp fault_cmp_total (IsEntryFault shape) entries passed.n entry found more at.0 passed.least (least passed.n);
    }

-- all of them
pub passed_all : (shape : Shape) (entries left : Entries) (found : Option Fault) → left ≡ [] → Passed shape entries left found
    → IsLeast fault_cmp (Among (IsEntryFault shape) entries) found
passed_all shape entries left found none passed =
    least_all fault_cmp fault_cmp_total (IsEntryFault shape) entries passed.n found (all_dropped entries passed.n (sym passed.left_is ∙ none)) passed.least

-- the next of the entries that are left stands among them
pub passed_next : (shape : Shape) (entries left : Entries) (found : Option Fault) (entry : String Global × Value) (rest : Entries)
    → left ≡ entry ∷ rest → Passed shape entries left found → (i : ℕ) × At entries i entry
passed_next shape entries left found entry rest is passed = (passed.n, (dropped entries passed.n entry rest (sym passed.left_is ∙ is)).0)

-- What is least among the items is least in the array: inside it faults stand behind its items alone.
module _ (form item : Form) (d : Data)
    (in_item : (rule : Rule) (i : ℕ) (place : List Step) (part : Data) → At (items_in d) i part → Breaks rule item part place
    → Breaks rule form d (Item i ∷ place))
    (of_item : (rule : Rule) (i : ℕ) (place : List Step) → Breaks rule form d (Item i ∷ place)
    → (part : Data) × At (items_in d) i part × Breaks rule item part place)
    (no_member : (rule : Rule) (name : List ℕ) (place : List Step) → ¬ Breaks rule form d (Member name ∷ place))
    (not_here : (rule : Rule) → ¬ Breaks rule form d []) where
  pub least_of_items : (found : Option Fault) → IsLeast fault_cmp (Among (IsItemFault item) (items_in d)) found → IsLeast fault_cmp (IsFaultOf form d) found
  least_of_items found is =
      least_same fault_cmp (Among (IsItemFault item) (items_in d)) (IsFaultOf form d) found to (λ fault. back fault.rule fault.place) is
    where
      to : (fault : Fault) → Among (IsItemFault item) (items_in d) fault → IsFaultOf form d fault
      to fault some =
          let P : List Step → Type 0 = λ place. Breaks fault.rule form d place in
          subst P (sym some.holds.reached) (in_item fault.rule some.i some.holds.rest some.item some.here some.holds.holds)

      back : (rule : Rule) (place : List Step) → Breaks rule form d place → Among (IsItemFault item) (items_in d) (record { rule = rule; place = place })
      back rule [] broken = absurd (not_here rule broken)
      back rule (Member name ∷ place) broken = absurd (no_member rule name place broken)
      back rule (Item i ∷ place) broken =
          let some = of_item rule i place broken in
          record { i = i; item = some.0; here = some.1; holds = record { rest = place; reached = refl; holds = some.2 } }

-- an array of objects
pub array_least : (shape : Shape) (d : Data) (found : Option Fault) → Fits (Array shape) d
    → IsLeast fault_cmp (Among (IsItemFault (Object shape)) (items_in d)) found → IsLeast fault_cmp (IsFaultOf (Array shape) d) found
array_least shape d = λ found fits. least_of_items (Array shape) (Object shape) d
    (λ rule i place part at inside. (part, at, inside)) (λ rule i place broken. broken)
    (λ rule name place broken. broken) (λ rule. ⊎_elim (λ misfit. misfit.1 fits) (λ set. set.1)) found

-- two of them
pub pair_least : (shape : Shape) (d : Data) (found : Option Fault) → Fits (Pair shape) d
    → IsLeast fault_cmp (Among (IsItemFault (Object shape)) (items_in d)) found → IsLeast fault_cmp (IsFaultOf (Pair shape) d) found
pair_least shape d = λ found fits. least_of_items (Pair shape) (Object shape) d
    (λ rule i place part at inside. (fits, part, at, inside)) (λ rule i place broken. (broken.1, broken.2, broken.3))
    (λ rule name place broken. broken) (λ rule. ⊎_elim (λ misfit. misfit.1 fits) (λ set. set.1)) found

-- an array of nodes without parts
pub list_least : (leaf : Leaf) (d : Data) (found : Option Fault) → Fits (ListOf leaf) d
    → IsLeast fault_cmp (Among (IsItemFault (One leaf)) (items_in d)) found → IsLeast fault_cmp (IsFaultOf (ListOf leaf) d) found
list_least leaf d = λ found fits. least_of_items (ListOf leaf) (One leaf) d
    (λ rule i place part at inside. (part, at, inside)) (λ rule i place broken. broken)
    (λ rule name place broken. broken) (λ rule. ⊎_elim (λ misfit. misfit.1 fits) (λ set. set.1)) found

-- what a map gives comes of something
mapped : (entry : Option (String Global × Value)) (member : List ℕ × Data) → option_map shown entry ≡ Some member
    → (found : String Global × Value) × (entry ≡ Some found) × (shown found ≡ member)
mapped None member is = absurd cc
mapped (Some found) member is = (found, refl, let same : shown found ≡ member = cc in same)

-- An object, by the rows of its shape and by its members.
module _ (shape : Shape) (d : Data) (rows : List (Bor (List ℕ) × Entry)) (entries : Entries)
    (rows_are : as_rows rows ≡ rows_of shape) (members_are : members_in d ≡ map shown entries) where
  -- a lacking member, or a fault at a member
  abbrev LackFault : Fault → Type 0
  LackFault = Among (λ i row. IsLackFault shape d row.0.now) rows

  abbrev EntryFault : Fault → Type 0
  EntryFault = Among (IsEntryFault shape) entries

  pub object_least : (missing inside : Option Fault) → Fits (Object shape) d → IsLeast fault_cmp LackFault missing
      → IsLeast fault_cmp EntryFault inside → IsLeast fault_cmp (IsFaultOf (Object shape) d) (earlier fault_cmp missing inside)
  object_least missing inside fits least_missing least_inside =
      least_same fault_cmp (λ fault. LackFault fault ⊎ EntryFault fault) (IsFaultOf (Object shape) d) (earlier fault_cmp missing inside)
      to (λ fault. back fault.rule fault.place)
      (least_of_both fault_cmp fault_cmp_total LackFault EntryFault missing inside least_missing least_inside)
    where
      is_broken : Fault → List Step → Type 0
      is_broken fault place = Breaks fault.rule (Object shape) d place

      of_lack : (fault : Fault) → LackFault fault → IsFaultOf (Object shape) d fault
      of_lack fault some = subst (is_broken fault) (sym some.holds.place) (inl (some.holds.rule, refl, some.holds.lacks))

      of_entry : (fault : Fault) → EntryFault fault → IsFaultOf (Object shape) d fault
      of_entry fault some =
          let P : List (List ℕ × Data) → Type 0 = λ members. At members some.i (shown some.item) in
          let there : At (map shown entries) some.i (shown some.item) = slice_get-map shown entries some.i ∙ ap (option_map shown) some.here in
          subst (is_broken fault) (sym some.holds.reached) (inr (view some.item.1, (some.i, subst P (sym members_are) there), some.holds.holds))

      to : (fault : Fault) → LackFault fault ⊎ EntryFault fault → IsFaultOf (Object shape) d fault
      to fault = ⊎_elim (of_lack fault) (of_entry fault)

      back : (rule : Rule) (place : List Step) → Breaks rule (Object shape) d place
          → LackFault (record { rule = rule; place = place }) ⊎ EntryFault (record { rule = rule; place = place })
      back rule [] broken = absurd (⊎_elim (λ misfit. misfit.1 fits) (λ set. set.1) broken)
      back rule (Item i ∷ place) broken = absurd broken
      back rule (Member name ∷ place) (inl lack) =
          let row = required_row shape name rows rows_are lack.2.required in
          let P : List ℕ → Type 0 = λ other. Lacks shape d other in
          inl (record {
            i = row.0;
            item = row.1;
            here = row.2;
            holds = record { rule = lack.0; place = λ i. Member (sym row.3 i) ∷ lack.1 i; lacks = subst P (sym row.3) lack.2 };
          })
      back rule (Member name ∷ place) (inr (part, has, inside)) =
          let P : List (List ℕ × Data) → Type 0 = λ members. At members has.0 (name, part) in
          let found = mapped (slice_get entries has.0) (name, part) (sym (slice_get-map shown entries has.0) ∙ subst P members_are has.1) in
          let named : string_bytes found.0.0 ≡ name = ap (λ (p : List ℕ × Data). p.0) found.2 in
          let shows : view found.0.1 ≡ part = ap (λ (p : List ℕ × Data). p.1) found.2 in
          inr (record {
            i = has.0;
            item = found.0;
            here = found.1;
            holds = record {
              rest = place;
              reached = λ i. Member (sym named i) ∷ place;
              holds = subst (λ (p : List ℕ × Data). IsPartFault shape p.0 p.1 (record { rule = rule; place = place })) (sym found.2) inside;
            };
          })

-- a node that is what the leaf says has no fault, unless it is true where that is left out
pub leaf_faultless : (leaf : Leaf) (d : Data) → Fits (One leaf) d → ¬ IsSetFlag (One leaf) d → (fault : Fault) → ¬ IsFaultOf (One leaf) d fault
leaf_faultless leaf d fits unset fault = by fault.rule fault.place
  where
    by : (rule : Rule) (place : List Step) → ¬ Breaks rule (One leaf) d place
    by rule [] broken = ⊎_elim (λ misfit. misfit.1 fits) (λ set. unset set.1) broken
    by rule (Member name ∷ place) broken = broken
    by rule (Item i ∷ place) broken = broken

-- the same of items before they are seen as data
pub among_map : (form : Form) (items : List Value) (found : Option Fault)
    → IsLeast fault_cmp (Among (λ i item. IsItemFault form i (view item)) items) found
    → IsLeast fault_cmp (Among (IsItemFault form) (map view items)) found
among_map form items found is =
    least_same fault_cmp (Among (λ i item. IsItemFault form i (view item)) items) (Among (IsItemFault form) (map view items)) found to back is
  where
    to : (fault : Fault) → Among (λ i item. IsItemFault form i (view item)) items fault → Among (IsItemFault form) (map view items) fault
    to fault some = record { i = some.i; item = view some.item; here = slice_get-map view items some.i ∙ ap (option_map view) some.here; holds = some.holds }

    seen : (item : Option Value) (d : Data) → option_map view item ≡ Some d → (found : Value) × (item ≡ Some found) × (view found ≡ d)
    seen None d is = absurd cc
    seen (Some found) d is = (found, refl, let same : view found ≡ d = cc in same)

    back : (fault : Fault) → Among (IsItemFault form) (map view items) fault → Among (λ i item. IsItemFault form i (view item)) items fault
    back fault some =
        let item = seen (slice_get items some.i) some.item (sym (slice_get-map view items some.i) ∙ some.here) in
        let P : Data → Type 0 = λ d. IsItemFault form some.i d fault in
        record { i = some.i; item = item.0; here = item.1; holds = subst P (sym item.2) some.holds }

-- nothing is among no items
pub among_none : {X : Type 0} (P : ℕ → X → Fault → Type 0) → IsLeast fault_cmp (Among P []) None
among_none {X = X} P = λ fault some. nowhere some.i some.item some.here
  where
    nowhere : (i : ℕ) (item : X) → ¬ At [] i item
    nowhere i item here = absurd cc
