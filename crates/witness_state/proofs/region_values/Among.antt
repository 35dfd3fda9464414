-- A free value that is looked for among the candidates.
use Rattle.std.proofs.Common.{◌≡◌, ◌≢◌, ◌+◌, ◌-◌, ◌≤◌, ℕ, zero, suc, List, [], ◌∷◌, true, false, drop, filter, length, slice_get, unwrap_or, refl, sym, ap, subst, arith}
use Rattle.std.proofs.lemmas.List.{drop_all}
use Rattle.emc_base.specs.Lists.{At}
use Rattle.emc_base.specs.declared.value.Kind.TheVariants as kind
use Rattle.round_trip.specs.Words.{Value, Null, Kind}
use Rattle.region_states.specs.defaults.Candidates.{candidates, free_values}
use Rattle.witness_state.specs.region_values.Free.{is_left}
use Rattle.witness_state.proofs.region_values.Dropped.{item_kept, item_left}

all_kept : {X : Type 0} (xs : List X) → xs ≡ filter (λ x. true) xs
all_kept [] = refl
all_kept (x ∷ xs) = ap (λ ys. x ∷ ys) (all_kept xs)

-- the free values are those candidates that count as free
pub free_are : (k : Kind) (constants : List Value) → free_values k constants ≡ filter (is_left k constants) (candidates k)
free_are kind.Boolean constants = refl
free_are kind.Byte constants = refl
free_are kind.Int16 constants = refl
free_are kind.Int32 constants = refl
free_are kind.Int64 constants = refl
free_are (kind.Text bound) constants = refl
free_are (kind.Binary bound) constants = refl
free_are (kind.Enum enumeration) constants = all_kept (candidates (kind.Enum enumeration))

module _ (k : Kind) (constants : List Value) where
  -- the free one among some candidates before which so many others stand
  abbrev pub free_among : List Value → ℕ → Value
  free_among values n = unwrap_or (slice_get (filter (is_left k constants) values) n) Null

  pub free_is : (n : ℕ) → free_among (candidates k) n ≡ unwrap_or (slice_get (free_values k constants) n) Null
  free_is n = ap (λ values. unwrap_or (slice_get values n) Null) (sym (free_are k constants))

  module _ (value : Value) (place : ℕ) (here : At (candidates k) place value) where
    -- it stands here
    pub stands_here : is_left k constants value ≡ true → value ≡ free_among (drop place (candidates k)) 0
    stands_here left = sym (ap (λ values. unwrap_or (slice_get values 0) Null) (item_kept (candidates k) place value here (is_left k constants) left))

    -- one more was passed
    pub one_fewer : (n : ℕ) → n ≢ 0 → is_left k constants value ≡ true
        → free_among (drop place (candidates k)) n ≡ free_among (drop (place + 1) (candidates k)) (n - 1)
    one_fewer zero some left = absurd (some refl)
    one_fewer (suc n) some left =
        let one : n ≡ suc n - 1 = omega arith in
        let P : ℕ → Type 0 = λ m. free_among (drop place (candidates k)) (suc n) ≡ free_among (drop (place + 1) (candidates k)) m in
        subst P one (ap (λ values. unwrap_or (slice_get values (suc n)) Null) (item_kept (candidates k) place value here (is_left k constants) left))

    -- one that doesn't count was passed
    pub as_many : (n : ℕ) → is_left k constants value ≡ false → free_among (drop place (candidates k)) n ≡ free_among (drop (place + 1) (candidates k)) n
    as_many n taken = ap (λ values. unwrap_or (slice_get values n) Null) (item_left (candidates k) place value here (is_left k constants) taken)

  -- none is left
  pub stands_nowhere : (place n : ℕ) → length (candidates k) ≤ place → free_among (drop place (candidates k)) n ≡ Null
  stands_nowhere place n end = ap (λ values. free_among values n) (drop_all place (candidates k) end)
