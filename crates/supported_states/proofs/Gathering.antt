-- One key more is gathered, or found.
use Rattle.std.proofs.Common.{◌≡◌, ◌||◌, List, [], ◌∷◌, ◌++◌, Bool, true, false, not, cond, refl, sym, ap, ◌∙◌}
use Rattle.std.specs.BTreeSet.{BTreeSet, Updates}
use Rattle.std.specs.BTreeMap.{is_at}
use Rattle.std.specs.List.{list_any}
use Rattle.std.proofs.lemmas.Bool.{cond-true, cond-false}
use Rattle.std.proofs.lemmas.List.{reverse-append}
use Rattle.schema_laws.specs.state_demand.MadeTables.{distinct}
use Rattle.population.specs.Support.{same_placed}
use Rattle.population.specs.declared.placed.PlacedKey.{PlacedKey}
use Rattle.supported_states.specs.Gathered.{IsGathered}
use Rattle.supported_states.specs.Spots.{HoldsJust, holds, spot_cmp, spot_of}
use Rattle.supported_states.specs.declared.spots.Spot.{Spot}
use Rattle.supported_states.proofs.Order.{spot_same}

either : (b c : Bool) → cond b true c ≡ (b || c)
either true c = refl
either false c = refl

pub not-no : (b : Bool) → not b ≡ false → b ≡ true
not-no true told = refl
not-no false told = cc

-- what is known when a key has come
pub known_more : (keys : List PlacedKey) (spots after : BTreeSet Spot) (placed : PlacedKey) → HoldsJust keys spots → Updates spot_cmp spots after (spot_of placed) true
    → HoldsJust (placed ∷ keys) after
known_more keys spots after placed known updates other =
    updates.0 (spot_of other)
    ∙ either (is_at (spot_cmp (spot_of placed)) (spot_of other)) (holds spots other)
    ∙ ap (λ b. b || holds spots other) (spot_same placed other)
    ∙ ap (λ b. same_placed other placed || b) (known other)

module _ (behind : List PlacedKey) (spots after : BTreeSet Spot) (kept : List PlacedKey) (placed : PlacedKey) (gathered : IsGathered behind spots kept)
    (updates : Updates spot_cmp spots after (spot_of placed) true) where
  -- a key that wasn't there is kept
  pub gathers_new : holds spots placed ≡ false → IsGathered (placed ∷ behind) after (kept ++ placed ∷ [])
  gathers_new absent = record {
    once = reverse-append kept (placed ∷ []) ∙ ap (λ list. placed ∷ list) gathered.once
        ∙ sym (cond-false (list_any (same_placed placed) behind) (distinct same_placed behind) (placed ∷ distinct same_placed behind) (sym (gathered.known placed) ∙ absent));
    known = known_more behind spots after placed gathered.known updates;
  }

  -- one that was there isn't kept again
  pub gathers_old : holds spots placed ≡ true → IsGathered (placed ∷ behind) after kept
  gathers_old there = record {
    once = gathered.once
        ∙ sym (cond-true (list_any (same_placed placed) behind) (distinct same_placed behind) (placed ∷ distinct same_placed behind) (sym (gathered.known placed) ∙ there));
    known = known_more behind spots after placed gathered.known updates;
  }

-- nothing is gathered at first
pub gathers_none : (spots : BTreeSet Spot) → spots.keys ≡ [] → IsGathered [] spots []
gathers_none spots empty = record { once = refl; known = λ placed. ap (list_any (is_at (spot_cmp (spot_of placed)))) empty }
