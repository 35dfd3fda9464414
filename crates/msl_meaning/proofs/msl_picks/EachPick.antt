-- Names that stand for a property in the type of each pick, or not.
use Rattle.std.proofs.Common.{◌≡◌, ◌↔◌, ℕ, List, [], ◌∷◌, All, Option, Some, None, map, length, not, refl, sym, ap, subst, ◌∙◌, arith}
use Rattle.std.specs.Option.{option_and_then}
use Rattle.std.proofs.lemmas.List.Elements.{All-cons, All-head, All-map, All-nil, All-tail, All-weaker}
use Rattle.std.proofs.lemmas.Option.{none-some, same_Some}
use Rattle.round_trip.specs.Words.{EntityModel, PropId}
use Rattle.msl_rules.specs.declared.msl_lists.raw.RawPick.{RawPick}
use Rattle.schema_names.specs.SchemaNames.{prop_named, type_named}
use Rattle.msl_meaning.specs.msl_picks.PickedProps.{pick_type, prop_in}
use Rattle.msl_rules.specs.NameRules.{NamesNoShared}

-- what is looked up in what was found
found_in : (f : ℕ → Option PropId) (known : Option ℕ) (p : PropId) → option_and_then f known ≡ Some p → (t : ℕ) × (known ≡ Some t) × (f t ≡ Some p)
found_in f None p is = absurd cc
found_in f (Some t) p is = (t, refl, is)

-- and back
find_in : (f : ℕ → Option PropId) (known : Option ℕ) (p : PropId) → (t : ℕ) × (known ≡ Some t) × (f t ≡ Some p) → option_and_then f known ≡ Some p
find_in f known p some = ap (option_and_then f) some.1 ∙ some.2

module _ (model : EntityModel) (name : List ℕ) where
  -- the name stands for this property in the type of a pick
  abbrev pub Picks : PropId → RawPick → Type 0
  Picks p pick = (t : ℕ) × (type_named model pick.reference ≡ Some t) × (prop_named model t name ≡ Some p)

  -- it does so in a type
  abbrev pub Has : PropId → Option ℕ → Type 0
  Has p ty = prop_in model name ty ≡ Some p

  -- in the types of all picks, and back
  has_each : (p : PropId) (picks : List RawPick) → All (Picks p) picks → All (Has p) (map (pick_type model) picks)
  has_each p picks all = All-map (Has p) (pick_type model) picks
      (All-weaker (Picks p) (λ pick. Has p (pick_type model pick)) (λ pick. find_in (λ t. prop_named model t name) (type_named model pick.reference) p) picks all)

  picks_each : (p : PropId) (picks : List RawPick) → All (Has p) (map (pick_type model) picks) → All (Picks p) picks
  picks_each p [] all = All-nil (Picks p)
  picks_each p (pick ∷ picks) all =
      All-cons (Picks p) pick picks (found_in (λ t. prop_named model t name) (type_named model pick.reference) p (All-head (Has p) (pick_type model pick) (map (pick_type model) picks) all))
      (picks_each p picks (All-tail (Has p) (pick_type model pick) (map (pick_type model) picks) all))

  -- where the types of the picks are these
  module _ (picks : List RawPick) (types : List (Option ℕ)) (named : types ≡ map (pick_type model) picks) where
    -- it is this one in the first type, and not in each of the others
    pub unshared : (first : Option ℕ) (others : List (Option ℕ)) (shared : PropId) → types ≡ first ∷ others → prop_in model name first ≡ Some shared
        → (¬ All (Has shared) others) ↔ NamesNoShared model picks name
    unshared first others shared are is = (
      to,
      λ never all. never shared (picks_each shared picks (subst (All (Has shared)) (sym are ∙ named) (All-cons (Has shared) first others is all))),
    )
      where
        to : (¬ All (Has shared) others) → NamesNoShared model picks name
        to not p all =
            let each : All (Has p) (first ∷ others) = subst (All (Has p)) (sym named ∙ are) (has_each p picks all) in
            let one : p ≡ shared = same_Some p shared (sym (All-head (Has p) first others each) ∙ is) in
            not (subst (λ (q : PropId). All (Has q) others) one (All-tail (Has p) first others each))

    -- it is none in the first type
    pub nowhere : (first : Option ℕ) (others : List (Option ℕ)) → types ≡ first ∷ others → prop_in model name first ≡ None → NamesNoShared model picks name
    nowhere first others are none p all =
        let each : All (Has p) (first ∷ others) = subst (All (Has p)) (sym named ∙ are) (has_each p picks all) in
        none-some p (sym none ∙ All-head (Has p) first others each)

  -- with no pick each property is shared
  pub none_picked : (picks : List RawPick) (types : List (Option ℕ)) → types ≡ map (pick_type model) picks → length types ≡ 0 → ¬ NamesNoShared model picks name
  none_picked [] types named none never = never (record { index = 0 }) (All-nil (Picks (record { index = 0 })))
  none_picked (pick ∷ picks) types named none never =
      let some : length (map (pick_type model) (pick ∷ picks)) ≡ 0 = subst (λ (tys : List (Option ℕ)). length tys ≡ 0) named none in
      absurd (omega arith)
