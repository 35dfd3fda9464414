-- Lists of what stands beside something, and of pairs.
use Rattle.std.specs.Prelude.{◌&&◌, ◌||◌, if◌then◌else◌}
use Rattle.std.specs.List.{cons_option, filter_map, list_all}
use Rattle.std.proofs.Common.{arith, ◌≡◌, ℕ, ◌+◌, List, [], ◌∷◌, ◌++◌, length, filter, take, Bool, true, false, not, None, Some, refl, sym, ap, ◌∙◌}
use Rattle.std.proofs.lemmas.List.Elements.{filter-append}
use Rattle.emc_base.specs.Lists.{At}
use Rattle.emc_base.proofs.Loops.{take_item}
use Rattle.round_trip.specs.Words.{ColId, Pair, PropId}
use Rattle.schema_laws.specs.state_demand.Owners.{props_in}
use Rattle.schema_laws.specs.state_demand.WellWritten.{cols_of}
use Rattle.dangling_keys.specs.Showing.{col_beside}
use Rattle.dangling_search.specs.Found.{pairs_by}

-- nothing stands beside where a list is at its end
pub none_beside_first : (col : ColId) (cols others : List ColId) → length cols ≡ 0 → col_beside col cols others ≡ None
none_beside_first col [] others long = refl
none_beside_first col (one ∷ cols) others long = absurd (omega (arith, long))

pub none_beside_second : (col : ColId) (cols others : List ColId) → length others ≡ 0 → col_beside col cols others ≡ None
none_beside_second col [] others long = refl
none_beside_second col (one ∷ cols) [] long = refl
none_beside_second col (one ∷ cols) (other ∷ others) long = absurd (omega (arith, long))

pub no_pairs_first : (cols : List ColId) (props : List PropId) → length cols ≡ 0 → pairs_by cols props ≡ []
no_pairs_first [] props long = refl
no_pairs_first (col ∷ cols) props long = absurd (omega (arith, long))

pub no_pairs_second : (cols : List ColId) (props : List PropId) → length props ≡ 0 → pairs_by cols props ≡ []
no_pairs_second [] props long = refl
no_pairs_second (col ∷ cols) [] long = refl
no_pairs_second (col ∷ cols) (prop ∷ props) long = absurd (omega (arith, long))

-- the pairs of the columns and the properties of pairs are these
pub pairs_are : (pairing : List Pair) → pairs_by (cols_of pairing) (props_in pairing) ≡ pairing
pairs_are [] = refl
pairs_are (pair ∷ pairs) = ap (λ rest. pair ∷ rest) (pairs_are pairs)

-- one item more of those that pass
pub passes_more : {X : Type 0} (p : X → Bool) (xs : List X) (i : ℕ) (x : X) → At xs i x → filter p (take i xs) ++ filter p (x ∷ []) ≡ filter p (take (i + 1) xs)
passes_more p xs i x at = sym (filter-append p (take i xs) (x ∷ [])) ∙ ap (filter p) (sym (take_item xs i x at))

-- what is so of the types of those that pass is so of each that passes
of_passing : {Y : Type 0} (b : Bool) (y : Y) (g : Y → Bool) (rest : List Y) (others : Bool) → list_all g rest ≡ others → list_all g (cons_option (if b then Some y else None) rest) ≡ ((not b || g y) && others)
of_passing true y g rest others is = ap (λ more. g y && more) is
of_passing false y g rest others is = is

pub all_passing : {X Y : Type 0} (f : X → Bool) (ty : X → Y) (g : Y → Bool) (xs : List X)
    → list_all g (filter_map (λ x. if f x then Some (ty x) else None) xs) ≡ list_all (λ x. not (f x) || g (ty x)) xs
all_passing f ty g [] = refl
all_passing f ty g (x ∷ xs) = of_passing (f x) (ty x) g (filter_map (λ one. if f one then Some (ty one) else None) xs) (list_all (λ one. not (f one) || g (ty one)) xs) (all_passing f ty g xs)
