-- The first concrete type at or below a type.
use Rattle.std.proofs.Common.{◌≡◌, ◌&&◌, ◌+◌, ◌≤◌, ℕ, zero, suc, List, [], ◌∷◌, ◌++◌, filter, map, length, slice_get, take, option_map, unwrap_or, None, Some, Bool, true, false, not, sym, ap, ◌∙◌}
use Rattle.std.specs.List.{enumerate_from}
use Rattle.std.proofs.lemmas.Bool.{cond_both}
use Rattle.std.proofs.lemmas.List.Elements.{filter-append}
use Rattle.std.proofs.lemmas.Option.{slice_get-map}
use Rattle.emc_base.specs.Lists.{At}
use Rattle.emc_base.proofs.Joined.{filter-drops, filter-keeps}
use Rattle.emc_base.proofs.Loops.{take_item, take-enumerated}
use Rattle.emc_base.proofs.Numbered.{numbered_at}
use Rattle.round_trip.specs.Words.{TypeId, EntityModel, EntityType}
use Rattle.schema_laws.specs.sound_demand.Deriving.{derives}
use Rattle.population.specs.Plain.{first_concrete}

-- whether a type with its place is concrete and under another
abbrev pub is_found : EntityModel → TypeId → ℕ × EntityType → Bool
is_found model t placed = not placed.1.is_abstract && derives model (record { index = placed.0 }) t

module _ {X : Type 0} (p : X → Bool) where
  -- where none of the first items passes and the next one does, it is the first that does
  pub first_of : (xs : List X) (i : ℕ) (x : X) → At xs i x → filter p (take i xs) ≡ [] → p x ≡ true → slice_get (filter p xs) 0 ≡ Some x
  first_of [] i x here none told = let never : None ≡ Some x = here in cc
  first_of (y ∷ ys) zero x here none told =
      let is : y ≡ x = (let both : Some y ≡ Some x = here in cc) in
      ap (λ list. slice_get list 0) (filter-keeps p y ys (ap p is ∙ told)) ∙ ap Some is
  first_of (y ∷ ys) (suc i) x here none told =
      cond_both (p y) (y ∷ filter p (take i ys)) (filter p (take i ys)) (λ list. list ≡ [] → slice_get (filter p (y ∷ ys)) 0 ≡ Some x)
      (λ passes empty. absurd (let never : y ∷ filter p (take i ys) ≡ [] = empty in cc))
      (λ fails empty. ap (λ list. slice_get list 0) (filter-drops p y ys fails) ∙ first_of ys i x here empty told) none

  -- one more doesn't pass
  pub none_more : (xs : List X) (i : ℕ) (x : X) → At xs i x → filter p (take i xs) ≡ [] → p x ≡ false → filter p (take (i + 1) xs) ≡ []
  none_more xs i x here none fails =
      ap (filter p) (take_item xs i x here) ∙ filter-append p (take i xs) (x ∷ []) ∙ ap (λ list. list ++ filter p (x ∷ [])) none ∙ filter-drops p x [] fails

module _ (model : EntityModel) (t : TypeId) where
  -- the first type that is found
  pub concrete_first : (i : ℕ) (type : EntityType) → At model.types i type → filter (is_found model t) (take i (enumerate_from 0 model.types)) ≡ [] → is_found model t (i, type) ≡ true
      → record { index = i } ≡ first_concrete model t
  concrete_first i type here none told =
      let found = first_of (is_found model t) (enumerate_from 0 model.types) i (i, type) (numbered_at model.types i type here) none told in
      let f : ℕ × EntityType → TypeId = λ placed. record { index = placed.0 } in
      sym (ap (λ one. unwrap_or one t) (slice_get-map f (filter (is_found model t) (enumerate_from 0 model.types)) 0 ∙ ap (option_map f) found))

  -- none is found
  pub concrete_none : (i : ℕ) → length model.types ≤ i → filter (is_found model t) (take i (enumerate_from 0 model.types)) ≡ [] → t ≡ first_concrete model t
  concrete_none i end none =
      let f : ℕ × EntityType → TypeId = λ placed. record { index = placed.0 } in
      let all = ap (filter (is_found model t)) (sym (take-enumerated model.types i end)) ∙ none in
      sym (ap (λ list. unwrap_or (slice_get (map f list) 0) t) all)
