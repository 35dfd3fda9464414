-- The tables that are kept of a region are those in which its pattern has a row.
use Rattle.std.proofs.Common.{◌≡◌, ◌==◌, ◌||◌, ℕ, zero, suc, List, [], ◌∷◌, map, filter, length, Contains, Bool, true, false, not, Option, Some, None, if◌then◌else◌, refl, sym, ap, subst, ◌∙◌}
use Rattle.std.specs.List.{cons_option, filter_map, list_any}
use Rattle.std.proofs.lemmas.Bool.Decides.{not_from_Decides}
use Rattle.std.proofs.lemmas.Option.{none-some, same_Some}
use Rattle.emc_base.specs.Lists.{At}
use Rattle.emc_base.proofs.Mapped.{contains_at}
use Rattle.round_trip.specs.Words.{ForeignKey, SetId, TableId}
use Rattle.regions.specs.Basis.{Basis}
use Rattle.regions.specs.Patterns.{pattern_of}
use Rattle.regions.specs.Regions.{regions_of}
use Rattle.regions.specs.declared.pattern.Focus.TheVariants as focus
use Rattle.regions.specs.declared.pattern.PatternRow.{PatternRow}
use Rattle.regions.specs.declared.region.Region.{Region}
use Rattle.region_states.specs.conflicts.Facts.{has_row}
use Rattle.conflict_laws.proofs.null.Listed.{Decides-row}
use Rattle.dangling_keys.specs.Dangling.{DanglesAt, IsRowFocus}
use Rattle.dangling_search.specs.Found.{lacks_row}
use Rattle.dangling_search.specs.Rows.{AreRows, lacking, region_rows, writes}
use Rattle.dangling_search.specs.declared.region_rows.RegionRows.{RegionRows}

any_mapped : (t : TableId) (rows : List PatternRow) → list_any (λ one. one.index == t.index) (map (λ row. row.table) rows) ≡ list_any (λ row. row.table.index == t.index) rows
any_mapped t [] = refl
any_mapped t (row ∷ rows) = ap (λ rest. (row.table.index == t.index) || rest) (any_mapped t rows)

pub writes_is : (basis : Basis) (t : TableId) (region : Region) → writes t (region_rows basis region) ≡ has_row (pattern_of basis (focus.Entity region)) t
writes_is basis t region = any_mapped t (pattern_of basis (focus.Entity region)).rows

-- the regions, told back
pub regions_back : (basis : Basis) (regions : List Region) → map (λ (one : RegionRows). one.region) (map (region_rows basis) regions) ≡ regions
regions_back basis [] = refl
regions_back basis (region ∷ regions) = ap (λ rest. region ∷ rest) (regions_back basis regions)

-- those that lack a row
put : (has : Bool) (region : Region) (rest : List Region) → cons_option (if has then None else Some region) rest ≡ (if not has then region ∷ rest else rest)
put true region rest = refl
put false region rest = refl

pub lacking_are : (basis : Basis) (t : TableId) (regions : List Region) → filter_map (lacking t) (map (region_rows basis) regions) ≡ filter (lacks_row basis t) regions
lacking_are basis t [] = refl
lacking_are basis t (region ∷ regions) =
    put (writes t (region_rows basis region)) region (filter_map (lacking t) (map (region_rows basis) regions))
    ∙ (λ k. if not (writes_is basis t region k) then region ∷ lacking_are basis t regions k else lacking_are basis t regions k)

-- an item of a mapped list is made of the item at its place
mapped_at : {X Y : Type 0} (f : X → Y) (xs : List X) (i : ℕ) (y : Y) → At (map f xs) i y → (x : X) × At xs i x × (y ≡ f x)
mapped_at f [] i y at = absurd (none-some y at)
mapped_at f (x ∷ xs) zero y at = (x, refl, sym (same_Some (f x) y at))
mapped_at f (x ∷ xs) (suc i) y at = mapped_at f xs i y at

module _ (basis : Basis) (rows : List (List RegionRows)) (are : AreRows basis rows) where
  -- those of a set
  pub rows_at : (s : SetId) (of_set : List RegionRows) → At rows s.index of_set → of_set ≡ map (region_rows basis) (regions_of basis s)
  rows_at s of_set at =
      let found = mapped_at (map (region_rows basis)) are.regions s.index of_set (subst (λ (list : List (List RegionRows)). At list s.index of_set) are.made at) in
      found.2 ∙ ap (map (region_rows basis)) (are.are.each s found.0 found.1)

  -- there are as many as sets
  pub rows_count : length rows ≡ length basis.schema.model.sets
  rows_count = ap length are.made ∙ as_long (map (region_rows basis)) are.regions ∙ are.are.count
    where
      as_long : {X Y : Type 0} (f : X → Y) (xs : List X) → length (map f xs) ≡ length xs
      as_long f [] = refl
      as_long f (x ∷ xs) = ap suc (as_long f xs)

-- an item of those of a set is made of one of its regions
pub made_of : (basis : Basis) (s : SetId) (rows : List RegionRows) → rows ≡ map (region_rows basis) (regions_of basis s) → (items : List RegionRows) → items ≡ rows → (i : ℕ) (one : RegionRows) → At items i one
    → (one ≡ region_rows basis one.region) × IsRowFocus basis (focus.Entity one.region)
made_of basis s rows made items are i one at =
    let found = mapped_at (region_rows basis) (regions_of basis s) i one (subst (λ (list : List RegionRows). At list i one) (are ∙ made) at) in
    let region : one.region ≡ found.0 = ap (λ (r : RegionRows). r.region) found.2 in (
      found.2 ∙ ap (region_rows basis) (sym region),
      (s, subst (Contains (regions_of basis s)) (sym region) (contains_at (regions_of basis s) i found.0 found.1)),
    )

-- where a region has no row of the table from which the key points, the key doesn't dangle
pub never_without : (basis : Basis) (key : ForeignKey) (rows : RegionRows) → rows ≡ region_rows basis rows.region → writes key.from rows ≡ false
    → (principal : Option Region) → ¬ DanglesAt basis (focus.Entity rows.region) key principal
never_without basis key rows made none principal dangles =
    let has : has_row (pattern_of basis (focus.Entity rows.region)) key.from ≡ false = sym (writes_is basis key.from rows.region) ∙ ap (writes key.from) (sym made) ∙ none in
    absurd (not_from_Decides (has_row (pattern_of basis (focus.Entity rows.region)) key.from) (Decides-row (pattern_of basis (focus.Entity rows.region)) key.from) has dangles.refers.row)
