-- Values that are the same, and rows with the same cells.
use Rattle.std.proofs.Common.{◌≡◌, ◌↔◌, zero, suc, List, [], ◌∷◌, drop, get_or, IsTrue, Contains, refl, sym, ap, ◌∙◌, arith}
use Rattle.std.specs.Cmp.{Equal-is, tied_itself}
use Rattle.std.specs.Ordering.{is_eq}
use Rattle.std.proofs.lemmas.List.Elements.{Contains-append_right}
use Rattle.emc_base.specs.Order.{value_cmp}
use Rattle.emc_base.specs.OrderLaws.{value_cmp_apart, value_cmp_total}
use Rattle.round_trip.specs.Words.{ColId, Value, Null, Row, cell_of, cells_of}

-- values that their order doesn't tell apart are one
pub same_value : (x y : Value) → IsTrue (is_eq (value_cmp x y)) ↔ (x ≡ y)
same_value x y = (
  λ even. value_cmp_apart x y ((Equal-is (value_cmp x y)).0 even),
  λ same. ap is_eq (ap (value_cmp x) (sym same) ∙ tied_itself value_cmp_total x),
)

-- rows with the same cells in some columns have the same in each of these
same_cell : (one two : Row) (cols : List ColId) (col : ColId) → cells_of one cols ≡ cells_of two cols → Contains cols col → cell_of one col ≡ cell_of two col
same_cell one two [] col same (k, within, is) = absurd (omega arith)
same_cell one two (c ∷ cols) col same (zero, within, is) = ap (cell_of one) (sym is) ∙ ap (λ cells. get_or cells 0 Null) same ∙ ap (cell_of two) is
same_cell one two (c ∷ cols) col same (suc k, within, is) = same_cell one two cols col (ap (λ cells. drop 1 cells) same) (k, omega arith, is)

-- and so in any columns that are among these
pub same_cells : (one two : Row) (cols key : List ColId) → cells_of one cols ≡ cells_of two cols → ((col : ColId) → Contains key col → Contains cols col) → cells_of one key ≡ cells_of two key
same_cells one two cols [] same among = refl
same_cells one two cols (col ∷ key) same among =
    let first = same_cell one two cols col same (among col (0, omega arith, refl)) in
    let rest = same_cells one two cols key same (λ c has. among c (Contains-append_right (col ∷ []) key c has)) in
    λ k. first k ∷ rest k
