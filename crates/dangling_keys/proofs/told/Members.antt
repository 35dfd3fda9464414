-- The members are just the focus and what it forces, and whether one has the key that is shown is decided.
use Rattle.std.proofs.Common.{◌≡◌, ◌⊎◌, ◌↔◌, ⊎_elim, inl, inr, ◌==◌, List, [], ◌∷◌, Contains, Decides, Option, Some, None, true, false, sym, ap, subst, arith}
use Rattle.std.specs.List.{list_all}
use Rattle.std.proofs.lemmas.Bool.Decides.{Decides-and, Decides-like}
use Rattle.std.proofs.lemmas.List.Elements.{Contains-append_cases, Contains-append_left, Contains-append_right}
use Rattle.emc_base.proofs.Members.{contains_cons_cases, contains_head, contains_nil}
use Rattle.round_trip.specs.Words.{ForeignKey, Pair, PropId, SetId}
use Rattle.schema_laws.proofs.state_demand.lists.Ids.{Decides-set}
use Rattle.schema_laws.proofs.state_demand.lists.Lists.{Decides-all, any_or_none}
use Rattle.schema_laws.proofs.state_demand.writings.Decisions.{so_or_not}
use Rattle.cells.specs.Limits.{IsWithinLimits}
use Rattle.regions.specs.Basis.{Basis}
use Rattle.regions.specs.Settled.{Settled, free, known}
use Rattle.regions.specs.Symbols.{same_symbol}
use Rattle.regions.specs.declared.pattern.Focus.{Focus}
use Rattle.regions.specs.declared.pattern.Focus.TheVariants as focus
use Rattle.regions.specs.declared.pattern.Symbol.{Symbol}
use Rattle.regions.specs.region_laws.IsBasis.{IsBasis}
use Rattle.regions.proofs.region_laws.values.Symbols.{Decides-symbol}
use Rattle.population.specs.Given.{HasNumbers}
use Rattle.forced_entities.specs.Forced.{IsForced, own_member, part_in}
use Rattle.forced_entities.specs.Listed.{forced_by}
use Rattle.forced_entities.specs.declared.member.Forced.{Forced}
use Rattle.forced_entities.proofs.Listed.{forced_listed}
use Rattle.dangling_keys.specs.Dangling.{IsOwn, IsThere}
use Rattle.dangling_keys.specs.Members.{members, own_members}
use Rattle.dangling_keys.specs.Showing.{Fits, IsShownPart, fits, is_shown_part, is_symbol, not_null_for, shown_at}

module _ (basis : Basis) where
  pub in_own : (of : Focus) (one : Forced) → Contains (own_members basis of) one ↔ IsOwn basis of one
  in_own (focus.Entity region) one = (
    λ has. ⊎_elim (λ (here : one ≡ own_member basis region). here) (λ (later : Contains [] one). absurd (contains_nil one later)) (contains_cons_cases (own_member basis region) [] one has),
    λ is. subst (Contains (own_member basis region ∷ [])) (sym is) (contains_head (own_member basis region) []),
  )
  in_own (focus.Link a) one = (λ has. absurd (contains_nil one has), λ never. absurd never)

  -- the members
  pub in_members : IsBasis basis → IsWithinLimits basis.schema → (of : Focus) (key : ForeignKey) (one : Forced) → Contains (members basis of key) one ↔ IsThere basis of key one
  in_members is limits of key one =
      let has : HasNumbers basis.schema.model 0 = record { sound = is.sound.model; few = limits.model.0; row = omega arith } in
      let not_null : List PropId = not_null_for basis of key in
      let listed = forced_listed basis is has of not_null one in (
        λ among. ⊎_elim
            (λ (own : Contains (own_members basis of) one). inl ((in_own of one).0 own))
            (λ (forced : Contains (forced_by basis of not_null) one). inr (listed.0 forced))
            (Contains-append_cases (own_members basis of) (forced_by basis of not_null) one among),
        λ there. ⊎_elim
            (λ (own : IsOwn basis of one). Contains-append_left (own_members basis of) (forced_by basis of not_null) one ((in_own of one).1 own))
            (λ (forced : IsForced basis of not_null one). Contains-append_right (own_members basis of) (forced_by basis of not_null) one (listed.1 forced))
            there,
      )

Decides-is_symbol : (one : Symbol) (part : Option Symbol) → Decides (is_symbol one part) (part ≡ Some one)
Decides-is_symbol one None = (λ told. absurd (let never : false ≡ true = told in cc), λ is. absurd (let never : None ≡ Some one = is in cc))
Decides-is_symbol one (Some part) = Decides-like (same_symbol part one) (λ same. ap Some same) (λ is. let same : Some part ≡ Some one = is in cc) (Decides-symbol part one)

Decides-part : (cell : Settled) (part : Option Symbol) → Decides (is_shown_part cell part) (IsShownPart cell part)
Decides-part (known value) part = (λ told. absurd (let never : false ≡ true = told in cc), λ never. absurd never)
Decides-part (free one nullable) part = Decides-is_symbol one part

module _ (basis : Basis) (of : Focus) (key : ForeignKey) (u : SetId) (pairing : List Pair) where
  pub Decides-fits : (one : Forced) → Decides (fits basis of key u pairing one) (Fits basis of key u pairing one)
  Decides-fits one =
      let IsPart : Pair → Type 0 = λ pair. IsShownPart (shown_at basis of key pair.col) (part_in basis one pair.prop) in
      Decides-like (fits basis of key u pairing one) (λ both. record { of_set = both.0; parts = both.1 }) (λ by. (by.of_set, by.parts))
      (Decides-and (one.set.index == u.index) (list_all (λ (pair : Pair). is_shown_part (shown_at basis of key pair.col) (part_in basis one pair.prop)) pairing)
      (Decides-set one.set u)
      (Decides-all (λ (pair : Pair). is_shown_part (shown_at basis of key pair.col) (part_in basis one pair.prop)) IsPart
      (λ pair. Decides-part (shown_at basis of key pair.col) (part_in basis one pair.prop)) pairing))

  pub fits_or_not : (one : Forced) → Fits basis of key u pairing one ⊎ ¬ Fits basis of key u pairing one
  fits_or_not one = so_or_not (fits basis of key u pairing one) (Decides-fits one)

  -- some member has the key, or none
  pub some_fits : (list : List Forced) → ((one : Forced) × Contains list one × Fits basis of key u pairing one) ⊎ ((one : Forced) → Contains list one → ¬ Fits basis of key u pairing one)
  some_fits list = any_or_none (Fits basis of key u pairing) fits_or_not list
