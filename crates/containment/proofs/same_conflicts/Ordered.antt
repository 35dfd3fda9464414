-- The order of forms: forms that show the same are equal, and equal ones have the same links.
use Rattle.std.proofs.Common.{◌≡◌, ℕ, List, [], ◌∷◌, map, refl, sym, ap, ◌∙◌}
use Rattle.std.specs.Cmp.{IsTotalOrder}
use Rattle.std.specs.Cmp.Lexicographic.{slice_cmp}
use Rattle.std.specs.Ordering.{nat_cmp, ordering_then}
use Rattle.std.specs.declared.cmp.Ordering.{Ordering}
use Rattle.std.specs.declared.cmp.Ordering.TheVariants.{Less, Equal, Greater}
use Rattle.std.proofs.lemmas.Cmp.{nat_cmp_total, tied_itself}
use Rattle.std.proofs.lemmas.Map.Lookups.{exact_bytes}
use Rattle.emc_base.specs.OrderLaws.{value_cmp_total}
use Rattle.containment.specs.contracts.same_conflicts.forms.FormOrd.TheImpl.Laws.{total-law}
use Rattle.containment.specs.contracts.same_conflicts.forms.HeldOrd.TheImpl as held_ord
use Rattle.containment.specs.contracts.same_conflicts.forms.RowFormOrd.TheImpl as row_ord
use Rattle.containment.specs.declared.same_conflicts.forms.Form.{Form}
use Rattle.containment.specs.declared.same_conflicts.forms.Held.{Held}
use Rattle.containment.specs.declared.same_conflicts.forms.Held.TheVariants.{Unsure, Known, Several}
use Rattle.containment.specs.declared.same_conflicts.forms.RowForm.{RowForm}
use Rattle.containment.specs.same_conflicts.Forms.{form_cmp, shown_form, shown_row}

abbrev held_cmp : Held → Held → Ordering
held_cmp = (held_ord.ghosts).cmp

abbrev row_cmp : RowForm → RowForm → Ordering
row_cmp = (row_ord.ghosts).cmp

-- the order of forms is total
pub form_total : IsTotalOrder form_cmp
form_total = total-law

-- what is certain of a cell is equal to itself
held_itself : (one : Held) → held_cmp one one ≡ Equal
held_itself Unsure = refl
held_itself (Known value) = tied_itself value_cmp_total value
held_itself Several = refl

-- lists of which the items show the same one by one are equal, where such items are
lists_same : {X Y : Type 0} (cmp : X → X → Ordering) (f : X → Y) → ((x y : X) → f x ≡ f y → cmp x y ≡ Equal) → (xs ys : List X) → map f xs ≡ map f ys
    → slice_cmp cmp xs ys ≡ Equal
lists_same cmp f told [] [] same = refl
lists_same cmp f told [] (y ∷ ys) same = cc
lists_same cmp f told (x ∷ xs) [] same = cc
lists_same cmp f told (x ∷ xs) (y ∷ ys) same =
    let head : f x ≡ f y = cc in
    let rest : map f xs ≡ map f ys = cc in
    ap (λ order. ordering_then order (slice_cmp cmp xs ys)) (told x y head) ∙ lists_same cmp f told xs ys rest

-- a list whose items are equal to themselves is equal to itself
list_itself : {X : Type 0} (cmp : X → X → Ordering) → ((x : X) → cmp x x ≡ Equal) → (xs : List X) → slice_cmp cmp xs xs ≡ Equal
list_itself cmp told [] = refl
list_itself cmp told (x ∷ xs) = ap (λ order. ordering_then order (slice_cmp cmp xs xs)) (told x) ∙ list_itself cmp told xs

-- rows that show the same are equal
rows_same : (one two : RowForm) → shown_row one ≡ shown_row two → row_cmp one two ≡ Equal
rows_same one two same =
    let table : one.table ≡ two.table = ap (λ (p : ℕ × List Held). p.0) same in
    let cells : one.cells.items ≡ two.cells.items = ap (λ (p : ℕ × List Held). p.1) same in
    (λ k. ordering_then (nat_cmp one.table (sym table k)) (slice_cmp held_cmp one.cells.items (sym cells k)))
    ∙ ap (λ order. ordering_then order (slice_cmp held_cmp one.cells.items one.cells.items)) (tied_itself nat_cmp_total one.table)
    ∙ list_itself held_cmp held_itself one.cells.items

-- and so are forms
pub forms_same : (one two : Form) → shown_form one ≡ shown_form two → form_cmp one two ≡ Equal
forms_same one two same =
    let linked : one.linked.items ≡ two.linked.items = ap (λ (p : List ℕ × List (ℕ × List Held)). p.0) same in
    let rows : map shown_row one.rows.items ≡ map shown_row two.rows.items = ap (λ (p : List ℕ × List (ℕ × List Held)). p.1) same in
    (λ k. ordering_then (slice_cmp nat_cmp one.linked.items (sym linked k)) (slice_cmp row_cmp one.rows.items two.rows.items))
    ∙ ap (λ order. ordering_then order (slice_cmp row_cmp one.rows.items two.rows.items)) (list_itself nat_cmp (tied_itself nat_cmp_total) one.linked.items)
    ∙ lists_same row_cmp shown_row rows_same one.rows.items two.rows.items rows

-- what comes first decides
first_equal : (first rest : Ordering) → ordering_then first rest ≡ Equal → first ≡ Equal
first_equal Less rest told = cc
first_equal Equal rest told = refl
first_equal Greater rest told = cc

-- equal forms have the same links
pub links_same : (one two : Form) → form_cmp one two ≡ Equal → one.linked.items ≡ two.linked.items
links_same one two told = exact_bytes one.linked.items two.linked.items
    (first_equal (slice_cmp nat_cmp one.linked.items two.linked.items) (slice_cmp row_cmp one.rows.items two.rows.items) told)
