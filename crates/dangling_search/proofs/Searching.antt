-- What was looked at so far, in a search for a focus at which a key dangles.
use Rattle.std.proofs.Common.{◌≡◌, ◌↔◌, ⊎_elim, ℕ, ◌<◌, ◌≤◌, ◌+◌, List, [], ◌∷◌, filter, map, take, All, Contains, Option, Some, None, IsSome, Result, Ok, Err, IfOk, length, slice_get, refl, sym, ap, subst, ◌∙◌, arith}
use Rattle.std.proofs.lemmas.Bool.{cases_lt}
use Rattle.std.proofs.lemmas.Option.{none-some, slice_get_within}
use Rattle.std.proofs.lemmas.List.{take_all}
use Rattle.std.proofs.lemmas.List.Elements.{All-contains, All-same}
use Rattle.emc_base.specs.declared.memory.Memory.{Memory}
use Rattle.emc_base.proofs.Lists.{item_at}
use Rattle.emc_base.proofs.Members.{contains_head}
use Rattle.emc_base.proofs.Numbered.{map_contains}
use Rattle.round_trip.specs.Words.{ForeignKey, SetId, TableId}
use Rattle.round_trip.specs.declared.FailKind.TheVariants as kind
use Rattle.cells.specs.Limits.{IsWithinLimits}
use Rattle.regions.specs.Basis.{Basis}
use Rattle.regions.specs.Regions.{regions_of}
use Rattle.regions.specs.declared.pattern.Focus.{Focus}
use Rattle.regions.specs.declared.pattern.Focus.TheVariants as focus
use Rattle.regions.specs.declared.region.Region.{Region}
use Rattle.regions.specs.region_laws.IsBasis.{IsBasis}
use Rattle.regions.proofs.region_laws.listing.Listed.{is_listed}
use Rattle.region_states.specs.conflicts.There.{NoneFailsBy}
use Rattle.dangling_keys.specs.Dangling.{DanglesAt, IsRowFocus, IsDangling}
use Rattle.dangling_keys.specs.declared.key.DanglingKey.{DanglingKey}
use Rattle.dangling_keys.proofs.failing.Whole.{told_fails}
use Rattle.dangling_keys.proofs.told.Told.{dangling_told}
use Rattle.dangling_search.specs.Found.{lacks_row}
use Rattle.dangling_search.specs.Rows.{AreRows}
use Rattle.dangling_search.specs.Searched.{FindsAmong, FindsIn, FindsKey, SomeFails}
use Rattle.dangling_search.specs.declared.first.Spot.{Spot}
use Rattle.dangling_search.specs.declared.region_rows.RegionRows.{RegionRows}
use Rattle.dangling_search.proofs.Tables.{rows_count}

-- the key dangles nowhere at the focus
abbrev pub NeverAt : Basis → ForeignKey → Focus → Type 0
NeverAt basis key of = (principal : Option Region) → ¬ DanglesAt basis of key principal

-- of all numbers below one it is so
abbrev pub IsSoBelow : (ℕ → Type 0) → ℕ → Type 0
IsSoBelow IsSo n = (i : ℕ) → i < n → IsSo i

pub so_of_none : (IsSo : ℕ → Type 0) → IsSoBelow IsSo 0
so_of_none IsSo i below = absurd (omega (arith, below))

pub so_of_one_more : (IsSo : ℕ → Type 0) (n : ℕ) → IsSoBelow IsSo n → IsSo n → IsSoBelow IsSo (n + 1)
so_of_one_more IsSo n so is i below = ⊎_elim
    (λ (less : i < n). so i less)
    (λ (no_less : n ≤ i). let place : n ≡ i = omega (arith, below, no_less) in subst IsSo place is)
    (cases_lt i n)

-- what is found dangles, and where nothing is found nothing does; so something is found exactly where some legal state fails
exact_found : (IsOne : DanglingKey → Type 0) (Fails : Type 0) (found : Option DanglingKey) → ((made : DanglingKey) → found ≡ Some made → IsOne made)
    → (found ≡ None → (made : DanglingKey) → ¬ IsOne made) → (((made : DanglingKey) × IsOne made) ↔ Fails) → IsSome found ↔ Fails
exact_found IsOne Fails None told free exact = (λ some. (let never = some in cc), λ fails. (let found = exact.1 fails in absurd (free refl found.0 found.1)))
exact_found IsOne Fails (Some made) told free exact = (λ some. exact.0 (made, told made refl), λ fails. refl)

by_law : (basis : Basis) → IsBasis basis → IsWithinLimits basis.schema → NoneFailsBy basis.schema kind.Clash → ((told : DanglingKey) × IsDangling basis told) ↔ SomeFails basis.schema
by_law basis is limits none = (
  λ told. (let by = told_fails basis (record { sound = record { is_basis = is; limits = limits }; none = none }) told.0 told.1 in (by.place, by.state, by.state, by.at.fails)),
  λ fails. (let by = dangling_told basis is limits none fails.0 fails.1 fails.2 fails.3 in (by.0, by.1)),
)

pub found_exactly : (basis : Basis) → IsBasis basis → IsWithinLimits basis.schema → NoneFailsBy basis.schema kind.Clash → (result : Result (Option DanglingKey) Memory)
    → IfOk result (λ found. (told : DanglingKey) → found ≡ Some told → IsDangling basis told) → IfOk result (λ found. found ≡ None → (told : DanglingKey) → ¬ IsDangling basis told)
    → IfOk result (λ found. IsSome found ↔ SomeFails basis.schema)
found_exactly basis is limits none (Ok found) told free = exact_found (IsDangling basis) (SomeFails basis.schema) found told free (by_law basis is limits none)
found_exactly basis is limits none (Err memory) told free = _

-- a focus has rows, and the key dangles there, or not
pub not_there : (basis : Basis) (key : ForeignKey) (of : Focus) → ¬ IsRowFocus basis of → NeverAt basis key of
not_there basis key of none principal dangles = none dangles.of_rows

-- the regions of a list were looked at
pub none_in : (basis : Basis) (key : ForeignKey) (rows items : List RegionRows) → items ≡ rows → (i : ℕ) → length items ≤ i → All (λ one. NeverAt basis key (focus.Entity one.region)) (take i items)
    → FindsIn basis key (map (λ one. one.region) rows) None
none_in basis key rows items are i end none of among =
    let all : All (λ one. NeverAt basis key (focus.Entity one.region)) rows = All-same (λ (one : RegionRows). NeverAt basis key (focus.Entity one.region)) rows (take i items) (sym (take_all i items end ∙ are)) none in
    let found = map_contains (λ (one : RegionRows). one.region) rows among.0 among.1 in
    subst (NeverAt basis key) (sym among.2) (subst (λ (region : Region). NeverAt basis key (focus.Entity region)) found.2
    (All-contains (λ (one : RegionRows). NeverAt basis key (focus.Entity one.region)) rows found.0 all found.1))

-- what is found among focuses outside of which the key dangles nowhere
pub found_among : (basis : Basis) (key : ForeignKey) (Among : Focus → Type 0) → ((of : Focus) (principal : Option Region) → DanglesAt basis of key principal → Among of)
    → (found : Option Spot) → FindsAmong basis key Among found → FindsKey basis key found
found_among basis key Among only None none = λ of any principal dangles. none of (only of principal dangles) principal dangles
found_among basis key Among only (Some spot) dangles = dangles

-- a set that isn't there has no region
pub none_listed : (basis : Basis) (rows : List (List RegionRows)) → AreRows basis rows → (s : SetId) → slice_get rows s.index ≡ None → (region : Region) → ¬ Contains (regions_of basis s) region
none_listed basis rows are s past region has =
    let listed = is_listed basis s region has in
    let inside = slice_get_within basis.schema.model.sets s.index listed.set listed.is_set in
    let count = rows_count basis rows are in
    let there = item_at rows s.index (omega (arith, inside, count)) in
    none-some there.0 (sym past ∙ there.1)

pub none_past : (basis : Basis) (rows : List (List RegionRows)) → AreRows basis rows → (key : ForeignKey) (s : SetId) → slice_get rows s.index ≡ None → FindsIn basis key (regions_of basis s) None
none_past basis rows are key s past of among = absurd (none_listed basis rows are s past among.0 among.1)

no_items : {X : Type 0} (xs : List X) → ((x : X) → ¬ Contains xs x) → [] ≡ xs
no_items [] none = refl
no_items (x ∷ xs) none = absurd (none x (contains_head x xs))

pub none_lacking : (basis : Basis) (rows : List (List RegionRows)) → AreRows basis rows → (s : SetId) → slice_get rows s.index ≡ None → (t : TableId) → [] ≡ filter (lacks_row basis t) (regions_of basis s)
none_lacking basis rows are s past t = ap (filter (lacks_row basis t)) (no_items (regions_of basis s) (none_listed basis rows are s past))
