-- What becomes of a list where no change is foretold.
use Rattle.std.proofs.Common.{◌≡◌, ℕ, zero, suc, List, [], ◌∷◌, ◌++◌, map, reverse, slice_get, unwrap_or, append-nil, All, refl, ap, ◌∙◌}
use Rattle.std.specs.BTreeMap.{is_at}
use Rattle.std.specs.Borrow.{Bor}
use Rattle.std.specs.Global.{Vec}
use Rattle.std.specs.List.{cons_option}
use Rattle.std.specs.Map.{lookup}
use Rattle.std.proofs.lemmas.List.Elements.{All-head, All-tail}
use Rattle.entity_changes.specs.declared.making.fates.Fate.{Fate}
use Rattle.entity_changes.specs.declared.making.fates.Fates.{Fates}
use Rattle.entity_changes.specs.Spots.{Spot, spot_cmp}
use Rattle.entity_changes.specs.making.Fates.{IsFresh, becomes, survivor, survivors}
use Rattle.entity_changes.proofs.Kept.{shown_lists}

module _ {X : Type 0} (fates : Fates X) (count : ℕ) (fresh : IsFresh count fates) (spot_of : X → Spot) (place : ℕ) where
  -- where nothing is known, each item stays
  each_stays : (xs : List X) → survivors fates spot_of xs ≡ xs
  each_stays [] = refl
  each_stays (x ∷ xs) =
      ap (λ (entries : List (Spot × Fate X)). cons_option (survivor (lookup (is_at (spot_cmp (spot_of x))) entries) x) (survivors fates spot_of xs)) fresh.empty
      ∙ ap (λ rest. x ∷ rest) (each_stays xs)

  none_behind : (lists : List (Vec (Bor X))) → All (λ list. list.items ≡ []) lists → (i : ℕ) → unwrap_or (slice_get (shown_lists lists) i) [] ≡ []
  none_behind [] all i = refl
  none_behind (list ∷ lists) all zero = let empty : list.items ≡ [] = All-head (λ (one : Vec (Bor X)). one.items ≡ []) list lists all in ap
      (map (λ item. item.now)) empty
  none_behind (list ∷ lists) all (suc i) = none_behind lists (All-tail (λ (one : Vec (Bor X)). one.items ≡ []) list lists all) i

  -- and nothing comes
  pub stays : (xs : List X) → becomes fates spot_of place xs ≡ xs
  stays xs = (λ i. each_stays xs i ++ reverse (none_behind fates.behind.items fresh.none place i)) ∙ append-nil xs
