-- The fate of the items of a spot, where they are replaced.
use Rattle.std.proofs.Common.{◌≡◌, Option, None, Some, is_some, Bool, true, false, cond, refl, sym, ap, ◌∙◌}
use Rattle.std.specs.Borrow.{Bor}
use Rattle.std.specs.BTreeMap.{BTreeMap, get}
use Rattle.entity_changes.specs.Spots.{Spot, same_spot, spot_cmp}
use Rattle.entity_changes.specs.declared.making.fates.Fate.{Fate}
use Rattle.entity_changes.specs.declared.making.fates.Fate.TheVariants.{Replaced, Gone}
use Rattle.entity_changes.specs.making.Fates.{survivor}
use Rattle.entity_changes.proofs.SpotOrder.{Decides-spot}

module _ {X : Type 0} (spot : Spot) where
  none_known : (found : Option (Fate X)) → is_some found ≡ false → found ≡ None
  none_known None told = refl
  none_known (Some fate) told = cc

  -- where no later fate is known, they become the item
  pub put_first : (item : Bor X) (old new : BTreeMap Spot (Fate X)) → is_some (get spot_cmp old spot) ≡ false
      → ((q : Spot) → get spot_cmp new q ≡ cond (same_spot spot q) (Some (Replaced item)) (get spot_cmp old q))
      → (q : Spot) (one : X) → survivor (get spot_cmp new q) one ≡ survivor (get spot_cmp old q) (cond (same_spot spot q) item.now one)
  put_first item old new absent updates q one = ap (λ found. survivor found one) (updates q) ∙ by (same_spot spot q) refl
    where
      by : (b : Bool) → same_spot spot q ≡ b → survivor (cond b (Some (Replaced item)) (get spot_cmp old q)) one ≡ survivor (get spot_cmp old q) (cond b item.now one)
      by true same = sym (ap (λ found. survivor found item.now) (ap (get spot_cmp old) (sym ((Decides-spot spot q).0 same))
          ∙ none_known (get spot_cmp old spot) absent))
      by false same = refl

  known_anyway : (found : Option (Fate X)) (item one : X) → is_some found ≡ true → survivor found one ≡ survivor found item
  known_anyway None item one told = cc
  known_anyway (Some (Replaced other)) item one told = refl
  known_anyway (Some Gone) item one told = refl

  -- where one is, it stays
  pub put_never : (item : X) (old : BTreeMap Spot (Fate X)) → is_some (get spot_cmp old spot) ≡ true
      → (q : Spot) (one : X) → survivor (get spot_cmp old q) one ≡ survivor (get spot_cmp old q) (cond (same_spot spot q) item one)
  put_never item old there q one = by (same_spot spot q) refl
    where
      by : (b : Bool) → same_spot spot q ≡ b → survivor (get spot_cmp old q) one ≡ survivor (get spot_cmp old q) (cond b item one)
      by true same = known_anyway (get spot_cmp old q) item one (ap (λ p. is_some (get spot_cmp old p)) (sym ((Decides-spot spot q).0 same)) ∙ there)
      by false same = refl
