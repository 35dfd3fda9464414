-- Spaces at the front and at the end of a text, taken off one by one.
use Rattle.std.proofs.Common.{◌≡◌, ◌≢◌, ◌==◌, ℕ, List, [], ◌∷◌, ◌++◌, cond, refl, ap}
use Rattle.std.proofs.lemmas.Bool.{cond-false, ne_eqb}
use Rattle.msl_rules.specs.msl_lists.Picks.{before_left, skip_last_spaces, skip_spaces}

-- another byte is no space
other_stays : (b : ℕ) (gone kept : List ℕ) → b ≢ 32 → cond (b == 32) gone kept ≡ kept
other_stays b gone kept other = cond-false (b == 32) gone kept (ne_eqb b 32 other)

-- where no space is at the front, nothing goes
pub front_stays : (text : List ℕ) → ((rest : List ℕ) → text ≢ 32 ∷ rest) → skip_spaces text ≡ text
front_stays [] none = refl
front_stays (b ∷ bs) none = other_stays b (skip_spaces bs) (b ∷ bs) (λ is. none bs (ap (λ first. first ∷ bs) is))

-- a space at the end goes
pub last_goes : (text : List ℕ) → skip_last_spaces (text ++ 32 ∷ []) ≡ skip_last_spaces text
last_goes [] = refl
last_goes (b ∷ bs) = ap (before_left b) (last_goes bs)

-- where none is there, nothing goes
pub end_stays : (text : List ℕ) → ((front : List ℕ) → text ≢ front ++ 32 ∷ []) → skip_last_spaces text ≡ text
end_stays [] none = refl
end_stays (b ∷ []) none = other_stays b [] (b ∷ []) (λ is. none [] (ap (λ last. last ∷ []) is))
end_stays (b ∷ c ∷ cs) none = ap (before_left b) (end_stays (c ∷ cs) (λ front is. none (b ∷ front) (ap (λ rest. b ∷ rest) is)))
