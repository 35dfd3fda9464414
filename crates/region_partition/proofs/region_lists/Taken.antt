-- Lists that a loop makes, with one item more.
use Rattle.std.proofs.Common.{◌≡◌, ℕ, ◌+◌, List, [], ◌∷◌, ◌++◌, append-nil, map, flat_map, take, sum_by, sym, ap, ◌∙◌, add-zero}
use Rattle.std.proofs.lemmas.List.Concat.{flat_map-append}
use Rattle.std.proofs.lemmas.List.Sums.{sum_by-append, sum_by-cons}
use Rattle.emc_base.specs.Lists.{At}
use Rattle.emc_base.proofs.Loops.{take_item}
use Rattle.region_partition.specs.region_lists.Counts.{capped}
use Rattle.region_partition.specs.region_lists.Listing.{beside}
use Rattle.region_partition.proofs.region_lists.Counts.{capped_sum}

-- what the items that were passed give, with one more
pub flat_map_one : {X Y : Type 0} (f : X → List Y) (before : List X) (x : X) → flat_map f (before ++ x ∷ []) ≡ flat_map f before ++ f x
flat_map_one f before x = flat_map-append f before (x ∷ []) ∙ ap (λ ys. flat_map f before ++ ys) (append-nil (f x))

pub flat_map_taken : {X Y : Type 0} (f : X → List Y) (xs : List X) (i : ℕ) (x : X) → At xs i x → flat_map f (take (i + 1) xs) ≡ flat_map f (take i xs) ++ f x
flat_map_taken f xs i x here = ap (flat_map f) (take_item xs i x here) ∙ flat_map_one f (take i xs) x

-- a sum that is counted up to the bound, with one number more
pub more_counted : {X : Type 0} (f : X → ℕ) (before : List X) (x : X) (total more : ℕ) → total ≡ capped (sum_by f before) → more ≡ capped (f x)
    → capped (total + more) ≡ capped (sum_by f (before ++ x ∷ []))
more_counted f before x total more is one =
    let both : capped (total + more) ≡ capped (capped (sum_by f before) + capped (f x)) = λ i. capped (is i + one i) in
    let last : sum_by f (x ∷ []) ≡ f x = sum_by-cons f x [] ∙ add-zero (f x) in
    both ∙ capped_sum (sum_by f before) (f x) ∙ ap capped (sym (sum_by-append f before (x ∷ []) ∙ ap (λ n. sum_by f before + n) last))

-- lists with others behind them, with one list more
pub beside_taken : {X : Type 0} (firsts seconds others : List (List X)) (i : ℕ) (first : List X) (made more : List (List X)) → At firsts i first → others ≡ seconds
    → made ≡ beside (take i firsts) seconds → more ≡ made ++ map (λ second. first ++ second) others → more ≡ beside (take (i + 1) firsts) seconds
beside_taken firsts seconds others i first made more here same is next =
    next
    ∙ (λ k. is k ++ map (λ second. first ++ second) (same k))
    ∙ sym (flat_map_taken (λ one. map (λ second. one ++ second) seconds) firsts i first here)
