-- The state where the row of an entity of a region is missing, by what the search for the owner and the comparison of keys came to.
use Rattle.std.proofs.Common.{◌≡◌, List, Contains, Bool, true, false, Some, Result, IfOk, sym, ap, subst, ◌∙◌}
use Rattle.std.proofs.lemmas.Bool.{cond_both}
use Rattle.emc_base.specs.declared.memory.Memory.{Memory}
use Rattle.round_trip.specs.Words.{ForeignKey, Pair, SetId, State}
use Rattle.schema_laws.proofs.sound_demand.owners.OneOwner.{one_owner}
use Rattle.regions.specs.Basis.{Basis}
use Rattle.regions.specs.declared.pattern.Focus.{Focus}
use Rattle.regions.specs.declared.region.Region.{Region}
use Rattle.regions.specs.region_laws.IsBasis.{IsBasis}
use Rattle.dangling_keys.specs.Dangling.{DanglesAt, OwnsTable}
use Rattle.dangling_keys.specs.DanglingStates.{IsSupportedWhole, both_state, dangling_state, has_shown_key, lone_state}
use Rattle.dangling_keys.specs.Laws.{HasNoClash}
use Rattle.dangling_keys.proofs.failing.Whole.{both_supported, own_pairing}
use Rattle.dangling_states.proofs.Results.{told_as}

-- by the definition
module _ (basis : Basis) (of : Focus) (key : ForeignKey) (pairing : List Pair) (region : Region) where
  lone_is : has_shown_key basis of key pairing of region ≡ true → lone_state basis of key ≡ dangling_state basis of key pairing (Some region)
  lone_is own = cond_both (has_shown_key basis of key pairing of region) (lone_state basis of key) (both_state basis of key pairing region) (λ (state : State). lone_state basis of key ≡ state)
      (λ told. λ k. lone_state basis of key) (λ told. absurd (let never : true ≡ false = sym own ∙ told in cc))

  both_is : has_shown_key basis of key pairing of region ≡ false → both_state basis of key pairing region ≡ dangling_state basis of key pairing (Some region)
  both_is other = cond_both (has_shown_key basis of key pairing of region) (lone_state basis of key) (both_state basis of key pairing region) (λ (state : State). both_state basis of key pairing region ≡ state)
      (λ told. absurd (let never : true ≡ false = sym told ∙ other in cc)) (λ told. λ k. both_state basis of key pairing region)

module _ (basis : Basis) (is : IsBasis basis) (of : Focus) (key : ForeignKey) (region : Region) (u : SetId) (found : List Pair) (owns : OwnsTable basis key.to u found) (own : Bool)
    (own_is : (one : Region) → u ≡ one.set → own ≡ has_shown_key basis of key found of one) where
  module _ (pairing : List Pair) (paired : OwnsTable basis key.to region.set pairing) where
    same_owner : (u ≡ region.set) × (found ≡ pairing)
    same_owner = one_owner basis.schema is.sound key.to u region.set found pairing owns.owned paired.owned owns.written

    pub own_told : own ≡ true → (result : Result State Memory) → IfOk result (λ state. state ≡ lone_state basis of key) → IfOk result (λ state. state ≡ dangling_state basis of key pairing (Some region))
    own_told so result came = told_as (λ (state : State). state) (lone_state basis of key) (dangling_state basis of key pairing (Some region))
        (lone_is basis of key pairing region (ap (λ (list : List Pair). has_shown_key basis of key list of region) (sym same_owner.1) ∙ sym (own_is region same_owner.0) ∙ so)) result came

    pub other_told : own ≡ false → (slice : List Pair) → slice ≡ found → (result : Result State Memory) → IfOk result (λ state. state ≡ both_state basis of key slice region)
        → IfOk result (λ state. state ≡ dangling_state basis of key pairing (Some region))
    other_told so slice same result came = told_as (λ (state : State). state) (both_state basis of key slice region) (dangling_state basis of key pairing (Some region))
        (ap (λ (list : List Pair). both_state basis of key list region) (same ∙ same_owner.1)
        ∙ both_is basis of key pairing region (ap (λ (list : List Pair). has_shown_key basis of key list of region) (sym same_owner.1) ∙ sym (own_is region same_owner.0) ∙ so)) result came

  module _ (given : HasNoClash basis) (is_key : Contains basis.schema.store.keys key) (dangles : DanglesAt basis of key (Some region)) where
    pub supported_at : own ≡ false → (slice : List Pair) → slice ≡ found → IsSupportedWhole basis of key slice region
    supported_at so slice same =
        let mine = own_pairing basis given key is_key of (Some region) dangles.lacks in
        let same_set = (same_owner mine.0 mine.1).0 in
        let here : OwnsTable basis key.to region.set found = subst (λ (v : SetId). OwnsTable basis key.to v found) same_set owns in
        subst (λ (list : List Pair). IsSupportedWhole basis of key list region) (sym same) (both_supported basis given key is_key of region dangles found here (sym (own_is region same_set) ∙ so))
