-- What stands at an id, and the first step from a type to one that it is derived from.
use Rattle.std.proofs.Common.{◌≡◌, ◌⊎◌, ⊎_elim, inl, inr, ◌≤◌, [], length, sym, ap, subst, refl}
use Rattle.std.specs.Option.{option_map_or, unwrap_or}
use Rattle.std.proofs.lemmas.Option.{slice_get_past}
use Rattle.edm_types.specs.Types.{EntityModel, EntityType, TypeId, TableId, At}
use Rattle.edm_types.specs.Words.{Tables, HasBase, IsA, key_props, rows_in}
use Rattle.edm_types.specs.IsA.{same, base, chain}

-- the key of a type that stands in the model
pub key_at : (model : EntityModel) (t : TypeId) (type : EntityType) → At model.types t.index type → key_props model t ≡ type.key
key_at model t type here = ap (λ found. option_map_or (λ (one : EntityType). one.key) found []) here

-- there are no rows past the last table
pub rows_beyond : (tables : Tables) (t : TableId) → length tables ≤ t.index → rows_in tables t ≡ []
rows_beyond tables t beyond = ap (λ found. unwrap_or found []) (slice_get_past tables t.index beyond)

-- tables with one number are one
pub same_table : (t u : TableId) → t.index ≡ u.index → t ≡ u
same_table t u one = λ k. record { index = one k }

-- what a type is derived from it is itself, or its base type is derived from that
pub first_step : (model : EntityModel) (t u : TypeId) → IsA model t u → (t.index ≡ u.index) ⊎ ((v : TypeId) × HasBase model t v × IsA model v u)
first_step model t u (same _) = inl refl
first_step model t u (base _ _ has) = inr (u, has, same u)
first_step model t u (chain _ v _ first second) = ⊎_elim
    (λ (one : t.index ≡ v.index).
    let P : TypeId → Type 0 = λ s. (s.index ≡ u.index) ⊎ ((w : TypeId) × HasBase model s w × IsA model w u) in
    let alike : t ≡ v = λ k. record { index = one k } in
    subst P (sym alike) (first_step model v u second))
    (λ (step : (w : TypeId) × HasBase model t w × IsA model w v). inr (step.0, step.1, chain step.0 v u step.2 second))
    (first_step model t v first)
