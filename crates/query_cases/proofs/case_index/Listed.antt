-- The rows of cases, listed by their tables.
use Rattle.std.proofs.Common.{◌≡◌, ℕ, List, map, filter, All, Contains, sym, ap, subst, ◌∙◌}
use Rattle.std.specs.BTreeMap.{BTreeMap}
use Rattle.std.specs.Global.{Vec}
use Rattle.std.specs.List.{flat_map}
use Rattle.std.specs.Ordering.{is_eq, nat_cmp}
use Rattle.std.proofs.lemmas.Cmp.{nat_cmp_total, tied_itself}
use Rattle.std.proofs.lemmas.List.Elements.{All-contains}
use Rattle.emc_base.proofs.Mapped.{contains_filter, contains_map}
use Rattle.emc_base.proofs.Numbered.{map_contains}
use Rattle.groupings.specs.item_groups.Groups.{items_at, items_of}
use Rattle.schema_laws.proofs.state_demand.lists.Lists.{contains_flat_map}
use Rattle.regions.specs.declared.region.Region.{Region}
use Rattle.regions.specs.Basis.{Basis}
use Rattle.case_laws.specs.declared.region_cases.case.Case.{Case}
use Rattle.case_laws.specs.declared.region_cases.case.CaseRow.{CaseRow}
use Rattle.query_cases.specs.declared.case_index.telling.Column.{Column}
use Rattle.query_cases.specs.declared.case_index.told.ToldRow.{ToldRow}
use Rattle.query_cases.specs.case_index.Telling.{ColumnTells, Tells}
use Rattle.query_cases.specs.case_index.Told.{GroupRows, case_row, case_rows, keyed_row, listed_at, shown_told}

-- a map that lists all rows of the cases lists each at its table
pub rows_listed : (cases : List Case) (told : List (ℕ × ToldRow)) → map keyed_row told ≡ flat_map case_rows cases → (groups : BTreeMap ℕ (Vec ToldRow))
    → ((key : ℕ) → items_at nat_cmp groups key ≡ items_of nat_cmp told key) → GroupRows cases groups
rows_listed cases told are groups grouped case row among stands =
    let t = row.table.index in
    let Of : ℕ × ToldRow → _ = λ one. is_eq (nat_cmp one.0 t) in
    let all : Contains (flat_map case_rows cases) (case_row case.region row) =
    contains_flat_map case_rows cases case (case_row case.region row) among (contains_map (case_row case.region) case.rows row stands) in
    let one = map_contains keyed_row told (case_row case.region row) (subst (λ (rows : List (ℕ × (Region × CaseRow))). Contains rows (case_row case.region row)) (sym are) all) in
    let key : one.0.0 ≡ t = ap (λ (p : ℕ × (Region × CaseRow)). p.0) one.2 in
    let kept = contains_filter Of told one.0 one.1 (ap (λ n. is_eq (nat_cmp n t)) key ∙ ap is_eq (tied_itself nat_cmp_total t)) in
    let listed = contains_map shown_told (items_of nat_cmp told t) one.0.1 (contains_map (λ (e : ℕ × ToldRow). e.1) (filter Of told) one.0 kept) in
    let here : Contains (map shown_told (items_of nat_cmp told t)) (case.region, row) =
    subst (Contains (map shown_told (items_of nat_cmp told t))) (ap (λ (p : ℕ × (Region × CaseRow)). p.1) one.2) listed in
    subst (λ (items : List ToldRow). Contains (map shown_told items) (case.region, row)) (sym (grouped t)) here

-- so a column that tells what it holds in all rows that are listed of a table tells the cases apart
pub listed_tell : (basis : Basis) (cases : List Case) (by_table : BTreeMap ℕ (Vec ToldRow)) → GroupRows cases by_table → (t : ℕ) (column : Column)
    → All (λ told. ColumnTells basis column (shown_told told)) (listed_at by_table t) → Tells basis cases t column
listed_tell basis cases by_table grouped t column all case row among stands same =
    let here = subst (λ n. Contains (map shown_told (listed_at by_table n)) (case.region, row)) same (grouped case row among stands) in
    let one = map_contains shown_told (listed_at by_table t) (case.region, row) here in
    subst (ColumnTells basis column) one.2 (All-contains (λ told. ColumnTells basis column (shown_told told)) (listed_at by_table t) one.0 all one.1)
