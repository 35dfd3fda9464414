-- What tests tell of tables and foreign keys.
use Rattle.std.proofs.Common.{◌≡◌, ◌↔◌, ◌⊎◌, inl, inr, ℕ, ◌+◌, List, ◌∷◌, [], ◌++◌, take, sym, ◌∙◌}
use Rattle.emc_base.specs.Lists.{At}
use Rattle.emc_base.proofs.Loops.{take_item}
use Rattle.csdl_names.specs.declared.csdl_lists.raw.RawBound.{RawBound}
use Rattle.csdl_names.specs.declared.csdl_lists.raw.RawBound.TheVariants.{Absent, Max, Number}
use Rattle.csdl_types.specs.PropTypes.{BreaksBound}

-- a bound may be judged by a test
pub bound_told : {A B : Type 0} (bound : RawBound) → (A ↔ B) → (BreaksBound A bound ↔ BreaksBound B bound)
bound_told Absent same = (λ never. never, λ never. never)
bound_told Max same = (λ lacks has. lacks (same.1 has), λ lacks has. lacks (same.0 has))
bound_told (Number number) same = (by (λ lacks has. lacks (same.1 has)), by (λ lacks has. lacks (same.0 has)))
  where
    by : {N O P : Type 0} → (N → O) → N ⊎ P → O ⊎ P
    by to (inl lacks) = inl (to lacks)
    by to (inr past) = inr past

-- the last of five may be said in other words
pub last_told : {A B C D O P : Type 0} → (O → P) → A ⊎ B ⊎ C ⊎ D ⊎ O → A ⊎ B ⊎ C ⊎ D ⊎ P
last_told to (inl one) = inl one
last_told to (inr (inl two)) = inr (inl two)
last_told to (inr (inr (inl three))) = inr (inr (inl three))
last_told to (inr (inr (inr (inl four)))) = inr (inr (inr (inl four)))
last_told to (inr (inr (inr (inr five)))) = inr (inr (inr (inr (to five))))

-- lists that are the same up to a place, and at it, are the same with it
pub taken_more : {X : Type 0} (xs ys : List X) (i : ℕ) (x y : X) → At xs i x → At ys i y → x ≡ y → take i xs ≡ take i ys → take (i + 1) xs ≡ take (i + 1) ys
taken_more xs ys i x y at_x at_y is before = take_item xs i x at_x ∙ (λ k. before k ++ is k ∷ []) ∙ sym (take_item ys i y at_y)
