-- What is so of each place of a list so far.
use Rattle.std.proofs.Common.{◌≡◌, ⊎_elim, ◌<◌, ◌≤◌, ◌+◌, ℕ, List, length, sym, subst, arith}
use Rattle.std.specs.List.{AllZip}
use Rattle.std.proofs.lemmas.Bool.{cases_eq}
use Rattle.std.proofs.lemmas.Option.{slice_get-get_or, slice_get_within}
use Rattle.round_trip.specs.Words.{TableId, Row, At, cell_of}
use Rattle.regions.specs.declared.region.Region.{Region}
use Rattle.regions.specs.Basis.{Basis}
use Rattle.case_laws.specs.declared.region_cases.case.CaseCell.{CaseCell}
use Rattle.case_laws.specs.declared.region_cases.case.CaseRow.{CaseRow}
use Rattle.query_cases.specs.case_cells.Holding.{MayHold, MayHoldCells}
use Rattle.query_cases.proofs.case_reading.Zips.{zip_from}

-- so of each place below one
abbrev pub Below : (ℕ → Type 0) → ℕ → Type 0
Below P i = (j : ℕ) → j < i → P j

module _ (P : ℕ → Type 0) where
  pub none_below : Below P 0
  none_below j below = absurd (omega (arith, below))

  pub one_below : (i : ℕ) → Below P i → P i → Below P (i + 1)
  one_below i so_far this j below = ⊎_elim
      (λ (same : j ≡ i). subst P (sym same) this)
      (λ (other : ¬ (j ≡ i)). so_far j (omega (arith, below, other)))
      (cases_eq j i)

-- the items at a place of two lists are so
abbrev pub PairSo : {X Y : Type 0} → (X → Y → Type 0) → List X → List Y → ℕ → Type 0
PairSo {X} {Y} R xs ys j = (x : X) (y : Y) → At xs j x → At ys j y → R x y

pub pairs_so : {X Y : Type 0} (R : X → Y → Type 0) (xs : List X) (ys : List Y) (n : ℕ) → length xs ≡ length ys → length xs ≤ n → Below (PairSo R xs ys) n
    → AllZip R xs ys
pairs_so R xs ys n long end all = zip_from R xs ys long
    (λ i x y within. all i (omega (arith, within, end)) _ _ (slice_get-get_or xs i x within) (slice_get-get_or ys i y (subst (λ m. i < m) long within)))

-- a row is of the table of the case's row, and each of its cells may hold its value
abbrev pub MayRow : Basis → Region → CaseRow → TableId × Row → Type 0
MayRow basis region row placed = (row.table ≡ placed.0) × MayHoldCells basis region row.cells placed.1

-- the cell of a row at a column may hold its value
abbrev pub CellMay : Basis → Region → List CaseCell → Row → ℕ → Type 0
CellMay basis region cells held j = (told : CaseCell) → At cells j told → MayHold basis region told (cell_of held (record { index = j }))

pub cells_may : (basis : Basis) (region : Region) (cells : List CaseCell) (held : Row) (n : ℕ) → length cells ≤ n → Below (CellMay basis region cells held) n
    → MayHoldCells basis region cells held
cells_may basis region cells held n end all col told here =
    let within = slice_get_within cells col.index told here in
    all col.index (omega (arith, within, end)) told here
