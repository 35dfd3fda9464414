-- The focus and the entity of a region that has the key that is shown: what the state is made of, and the state, are those of the definition.
use Rattle.std.proofs.Common.{◌≡◌, ◌≤◌, ℕ, List, [], ◌∷◌, ◌++◌, append_assoc, filter, flat_map, map, Result, IfOk, sym, ap, subst, ◌∙◌}
use Rattle.emc_base.specs.declared.memory.Memory.{Memory}
use Rattle.round_trip.specs.Words.{Entity, EntityModel, ForeignKey, Pair, State, Value, key_of}
use Rattle.cells.specs.Limits.{IsWithinLimits}
use Rattle.host_states.specs.FocusStates.{by_assoc, linked_hosts, wanted_by}
use Rattle.population.specs.Given.{HasNumbers}
use Rattle.population.specs.Kept.{key_in, part_of}
use Rattle.population.specs.Made.{state_of}
use Rattle.population.specs.declared.placed.Placed.{Placed}
use Rattle.population.specs.declared.placed.PlacedKey.{PlacedKey}
use Rattle.population.specs.declared.placed.PlacedLink.{PlacedLink}
use Rattle.population.specs.declared.placed.Supporting.{Supporting}
use Rattle.regions.specs.Basis.{Basis, Host}
use Rattle.regions.specs.Patterns.{Valuation}
use Rattle.regions.specs.declared.pattern.Focus.{Focus}
use Rattle.regions.specs.declared.region.Region.{Region}
use Rattle.regions.specs.region_laws.IsBasis.{IsBasis}
use Rattle.region_states.specs.Entities.{focus_entity}
use Rattle.supported_states.specs.small_parts.Small.{IsSupported}
use Rattle.dangling_keys.specs.DanglingStates.{IsSupportedWhole, both_roots, both_state, lone_given, lone_links, principal_values}
use Rattle.dangling_keys.specs.OtherStates.{other_given, other_links, other_wanted}
use Rattle.dangling_keys.specs.Outer.{outer_row}
use Rattle.witness_state.specs.SmallRegions.{host_of, supporting}
use Rattle.witness_state.specs.declared.small_regions.hosts.Hosting.{Hosting}
use Rattle.witness_state.proofs.small.Hosted.{by_hosts}
use Rattle.witness_state.proofs.small.Whole.{support_whole}
use Rattle.dangling_states.specs.Numbers.{number_link, number_root, stays}
use Rattle.dangling_states.proofs.Results.{told_as}

module _ (basis : Basis) (of : Focus) (key : ForeignKey) (pairing : List Pair) (region : Region) (row : ℕ) (row_is : row ≡ outer_row basis of key) where
  abbrev model : EntityModel
  model = basis.schema.model

  abbrev outer : ℕ
  outer = outer_row basis of key

  abbrev values : Valuation
  values = principal_values basis of key pairing region

  abbrev its_key : List Value
  its_key = key_of model (focus_entity basis region values)

  -- what the state is made of
  abbrev pub the_one : Supporting
  the_one = supporting model outer (other_given basis outer region values (lone_given basis of key)) (other_wanted basis outer region values (lone_given basis of key))
      (other_links basis outer region values (lone_links basis of key))

  module _ (entity : Entity) (entity_is : entity ≡ focus_entity basis region values) (own : List Value) (own_is : own ≡ key_of model entity) where
    key_is : own ≡ its_key
    key_is = own_is ∙ ap (key_of model) entity_is

    pub given_is : (given all : List Placed) → given ≡ lone_given basis of key → all ≡ record { set = region.set; entity = entity } ∷ filter (stays model region.set own) given
        → all ≡ other_given basis outer region values (lone_given basis of key)
    given_is given all so made = made ∙ (λ k. record { set = region.set; entity = entity_is k } ∷ filter (stays model region.set (key_is k)) (so k))

    module _ (slice hosts : List Hosting) (same : slice ≡ hosts) (hosts_are : map host_of hosts ≡ linked_hosts basis region) where
      pub links_are : (lone all : List PlacedLink) → lone ≡ lone_links basis of key → all ≡ lone ++ flat_map (λ host. by_assoc basis (number_link basis row own) (host_of host)) slice
          → all ≡ other_links basis outer region values (lone_links basis of key)
      links_are lone all so made =
          let Make : ℕ → List Value → Host → List PlacedLink = λ n at. by_assoc basis (number_link basis n at) in
          made ∙ ap (λ (more : List PlacedLink). lone ++ more) (by_hosts basis region (Make row own) slice hosts same hosts_are)
          ∙ (λ k. so k ++ flat_map (Make (row_is k) (key_is k)) (linked_hosts basis region))

      pub roots_are : (given slice_given : List Placed) (none first second roots : List PlacedKey) → slice_given ≡ given → given ≡ lone_given basis of key → none ≡ []
          → first ≡ none ++ map (λ placed. key_in model placed.set placed.entity) slice_given → second ≡ first ++ record { set = region.set; key = own } ∷ []
          → roots ≡ second ++ flat_map (λ host. by_assoc basis (number_root basis row) (host_of host)) slice → roots ≡ both_roots basis of key pairing region
      roots_are given slice_given none first second roots alike so nothing keys one last =
          let Make : ℕ → Host → List PlacedKey = λ n. by_assoc basis (number_root basis n) in
          let all : List PlacedKey = map (λ (placed : Placed). key_in model placed.set placed.entity) (lone_given basis of key) in
          let first_is : first ≡ all = keys ∙ (λ k. nothing k ++ map (λ (placed : Placed). key_in model placed.set placed.entity) ((alike ∙ so) k)) in
          let second_is : second ≡ all ++ record { set = region.set; key = its_key } ∷ [] = one ∙ (λ k. first_is k ++ record { set = region.set; key = key_is k } ∷ []) in
          last ∙ ap (λ (more : List PlacedKey). second ++ more) (by_hosts basis region (Make row) slice hosts same hosts_are)
          ∙ (λ k. second_is k ++ flat_map (Make (row_is k)) (linked_hosts basis region))
          ∙ append_assoc all (record { set = region.set; key = its_key } ∷ []) (flat_map (Make outer) (linked_hosts basis region))

  pub one_is : (one : Supporting) (given : List Placed) (links : List PlacedLink) → given ≡ other_given basis outer region values (lone_given basis of key)
      → links ≡ other_links basis outer region values (lone_links basis of key) → one ≡ supporting model row given (wanted_by basis outer given) links → one ≡ the_one
  one_is one given links given_so links_so made = made ∙ (λ k. supporting model (row_is k) (given_so k) (wanted_by basis outer (given_so k)) (links_so k))

  -- the whole is supported
  pub supported : IsBasis basis → IsWithinLimits basis.schema → row ≤ 4 → IsSupportedWhole basis of key pairing region → (one : Supporting) → one ≡ the_one → IsSupported model row one
  supported is limits few whole one made =
      let has : HasNumbers model outer = subst (HasNumbers model) row_is (record { sound = is.sound.model; few = limits.model.0; row = few }) in
      let the : IsSupported model outer the_one = record {
        numbers = has;
        whole = support_whole model outer has (other_given basis outer region values (lone_given basis of key)) (other_wanted basis outer region values (lone_given basis of key)) whole.short;
        legal = whole.legal;
      } in
      subst (λ (n : ℕ). IsSupported model n one) (sym row_is) (subst (IsSupported model outer) (sym made) the)

  -- and the small state is the one that is told
  pub state_told : (one : Supporting) (roots : List PlacedKey) → one ≡ the_one → roots ≡ both_roots basis of key pairing region → (result : Result State Memory)
      → IfOk result (λ state. state ≡ part_of model (state_of model row one ∷ []) roots (state_of model row one)) → IfOk result (λ state. state ≡ both_state basis of key pairing region)
  state_told one roots made rooted result came = told_as (λ (state : State). state) (part_of model (state_of model row one ∷ []) roots (state_of model row one)) (both_state basis of key pairing region)
      (λ k. part_of model (state_of model (row_is k) (made k) ∷ []) (rooted k) (state_of model (row_is k) (made k))) result came
