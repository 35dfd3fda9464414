-- What is found in a list, and what is found or else taken.
use Rattle.std.proofs.Common.{◌≡◌, List, find, unwrap_or, Contains, Option, Some, None, Bool, true, refl, ap}
use Rattle.regions.proofs.region_laws.pattern.Choices.{found_passes, none_passes}

module _ {X : Type 0} (test : X → Bool) (xs : List X) where
  -- the only member that passes is found
  pub found_only : (x : X) → Contains xs x → test x ≡ true → ((y : X) → Contains xs y → test y ≡ true → y ≡ x) → find test xs ≡ Some x
  found_only x has passes only = by (find test xs) refl
    where
      by : (found : Option X) → find test xs ≡ found → found ≡ Some x
      by None none = absurd (none_passes test xs x none has passes)
      by (Some y) found = let there = found_passes test xs y found in ap Some (only y there.0 there.1)

  -- where some member passes, what is found or else taken is a member that passes
  pub found_or : (x d : X) → Contains xs x → test x ≡ true → Contains xs (unwrap_or (find test xs) d) × (test (unwrap_or (find test xs) d) ≡ true)
  found_or x d has passes = by (find test xs) refl
    where
      by : (found : Option X) → find test xs ≡ found → Contains xs (unwrap_or found d) × (test (unwrap_or found d) ≡ true)
      by None none = absurd (none_passes test xs x none has passes)
      by (Some y) found = found_passes test xs y found
