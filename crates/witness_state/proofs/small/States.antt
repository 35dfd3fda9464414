-- What is made of entities of regions is a legal state with whole keys, and its small part is the one that is told.
use Rattle.std.proofs.Common.{◌≡◌, ℕ, ◌≤◌, List, [], ◌∷◌, ◌++◌, Contains, map, Result, Ok, Err, IfOk, sym, ap, subst, ◌∙◌}
use Rattle.round_trip.specs.Words.{SetId, EntityModel, Entity, key_of}
use Rattle.cells.specs.declared.parts.Parts.{Parts}
use Rattle.cells.specs.Parts.{AreParts}
use Rattle.regions.specs.declared.region.Region.{Region}
use Rattle.regions.specs.Basis.{Basis}
use Rattle.regions.specs.Patterns.{Valuation}
use Rattle.regions.specs.Regions.{regions_of}
use Rattle.regions.specs.region_laws.pattern.Allowed.{RegionValues}
use Rattle.region_states.specs.Entities.{focus_entity}
use Rattle.region_states.specs.region_basis.BasisOf.{basis_of}
use Rattle.region_states.proofs.region_basis.Bases.{basis_is}
use Rattle.population.specs.Kept.{part_of}
use Rattle.population.specs.Made.{state_of}
use Rattle.population.specs.declared.placed.Placed.{Placed}
use Rattle.population.specs.declared.placed.PlacedKey.{PlacedKey}
use Rattle.population.specs.declared.placed.PlacedLink.{PlacedLink}
use Rattle.population.specs.declared.placed.Supporting.{Supporting}
use Rattle.supported_states.specs.small_parts.Small.{IsSupported}
use Rattle.host_states.specs.FocusStates.{given_by, linked_hosts, links_by, wanted_by, wanted_by_both}
use Rattle.host_states.specs.Hosting.{HasOneEntityPerKey, HaveFewPartners}
use Rattle.host_states.specs.SmallStates.{key_of_placed, roots_of, small_focus, small_leaving, small_rivals}
use Rattle.host_states.proofs.Hosts.{states_leave}
use Rattle.host_states.proofs.focus.Focus.{HasRegion, IsMade, numbers}
use Rattle.host_states.proofs.focus.FocusLinks.{state_legal}
use Rattle.host_states.proofs.pairs.Rivals.{focus_made, focus_wants_short, one_made, two_made}
use Rattle.witness_state.specs.Small.{ArePair, HasValues}
use Rattle.witness_state.specs.SmallRegions.{given_with, links_with, supporting}
use Rattle.witness_state.proofs.small.Made.{given_is, links_are}
use Rattle.witness_state.proofs.small.Whole.{support_whole}

-- two facts on what came
pub both_ok : {X Y : Type 0} (P Q R : X → Type 0) → ((x : X) → P x → Q x → R x) → (r : Result X Y) → IfOk r P → IfOk r Q → IfOk r R
both_ok P Q R give (Ok x) p q = give x p q
both_ok P Q R give (Err e) p q = tt

-- what is added to nothing, and what is added to that
added : {X Y : Type 0} (f : X → List Y) (before after : List Y) (x y : X) → before ≡ [] → after ≡ before ++ f x → x ≡ y → after ≡ f y
added f before after x y none is same = is ∙ (λ i. none i ++ f (same i))

added_both : {X Y : Type 0} (f : X → List Y) (before so_far after : List Y) (x y u v : X) → before ≡ [] → so_far ≡ before ++ f x → after ≡ so_far ++ f u → x ≡ y → u ≡ v
    → after ≡ f y ++ f v
added_both f before so_far after x y u v none first second same also =
    let one : so_far ≡ f y = added f before so_far x y none first same in
    second ∙ (λ i. one i ++ f (also i))

module _ (basis : Basis) (outer : ℕ) (region : Region) (values : Valuation) where
  -- what the state with wanted keys is made of
  abbrev pub made_by : List PlacedKey → Supporting
  made_by wanted = supporting basis.schema.model outer (given_by basis outer (linked_hosts basis region) region values) wanted (links_by basis region values (linked_hosts basis region))

  module _ (entity : Entity) (has : HasValues basis outer region entity values) where
    -- and what is made by the entity
    pub made_is : (wanted so : List PlacedKey) (given : List Placed) (links : List PlacedLink) (one : Supporting) → given ≡ given_with basis outer region entity
        → links ≡ links_with basis outer region entity → wanted ≡ so → one ≡ supporting basis.schema.model outer given wanted links → one ≡ made_by so
    made_is wanted so given links one gives joins wants is =
        let given_so : given ≡ given_by basis outer (linked_hosts basis region) region values = gives ∙ given_is basis outer region entity values has in
        let links_so : links ≡ links_by basis region values (linked_hosts basis region) = joins ∙ links_are basis outer region entity values has in
        is ∙ (λ i. supporting basis.schema.model outer (given_so i) (wants i) (links_so i))

  supported_by : (s : SetId) (wanted : List PlacedKey) → IsMade basis outer s region values (linked_hosts basis region) wanted → IsSupported basis.schema.model outer (made_by wanted)
  supported_by s wanted made = record {
    numbers = numbers basis outer s region made.of;
    whole = support_whole basis.schema.model outer (numbers basis outer s region made.of) (given_by basis outer (linked_hosts basis region) region values) wanted made.short;
    legal = state_legal basis outer s region values (linked_hosts basis region) wanted made;
  }

module _ (parts : Parts) (are : AreParts parts) (outer : ℕ) (row : outer ≤ 4) where
  abbrev basis : Basis
  basis = basis_of parts

  abbrev model : EntityModel
  model = basis.schema.model

  of_set : (s : SetId) (region : Region) → Contains (regions_of basis s) region → HasRegion basis outer s region
  of_set s region listed = record { is = basis_is parts are; limits = are.limits; row = row; listed = listed }

  module _ (region : Region) (entity : Entity) (values : Valuation) (has : HasValues basis outer region entity values) where
    abbrev pub wanted_of : List PlacedKey
    wanted_of = wanted_by basis outer (given_by basis outer (linked_hosts basis region) region values)

    of_region : HasRegion basis outer has.s region
    of_region = of_set has.s region has.listed

    pub focus_supported : IsSupported model outer (made_by basis outer region values wanted_of)
    focus_supported = supported_by basis outer region values has.s wanted_of
        (focus_made basis outer has.s region of_region values has.admissible wanted_of (focus_wants_short basis outer has.s region of_region values has.admissible) (λ to there. there))

    -- what is made of the entity, by what came of its given entities
    module _ (slice given : List Placed) (same : slice ≡ given) (gives : given ≡ given_with basis outer region entity) (before : List PlacedKey) (none : before ≡ []) where
      slice_is : slice ≡ given_by basis outer (linked_hosts basis region) region values
      slice_is = same ∙ gives ∙ given_is basis outer region entity values has

      pub wanted_is : (wanted : List PlacedKey) → wanted ≡ before ++ wanted_by basis outer slice → wanted ≡ wanted_of
      wanted_is wanted is = added (wanted_by basis outer) before wanted slice (given_by basis outer (linked_hosts basis region) region values) none is slice_is

      pub roots_are : (roots : List PlacedKey) → roots ≡ before ++ map (key_of_placed basis outer) slice → roots ≡ roots_of basis outer region values
      roots_are roots is = added (map (key_of_placed basis outer)) before roots slice (given_by basis outer (linked_hosts basis region) region values) none is slice_is

    pub focus_is : (one : Supporting) (roots : List PlacedKey) → one ≡ made_by basis outer region values wanted_of → roots ≡ roots_of basis outer region values
        → part_of model (state_of model outer one ∷ []) roots (state_of model outer one) ≡ small_focus basis outer region values
    focus_is one roots is same = λ i. part_of model (state_of model outer (is i) ∷ []) (same i) (state_of model outer (is i))

    -- without the entity
    abbrev pub left_by : Supporting
    left_by = supporting model outer [] wanted_of []

    pub left_supported : HaveFewPartners basis → HasOneEntityPerKey basis region → IsSupported model outer left_by
    left_supported few single =
        let at : RegionValues basis = record { s = has.s; region = region; listed = has.listed; values = values } in
        record {
          numbers = numbers basis outer has.s region of_region;
          whole = support_whole model outer (numbers basis outer has.s region of_region) [] wanted_of (focus_wants_short basis outer has.s region of_region values has.admissible);
          legal = ((states_leave basis (basis_is parts are) are.limits outer row).leave few at single has.admissible).second;
        }

    pub left_is : (wanted : List PlacedKey) (given : List Placed) (links : List PlacedLink) (one : Supporting) → given ≡ [] → links ≡ [] → wanted ≡ wanted_of
        → one ≡ supporting model outer given wanted links → one ≡ left_by
    left_is wanted given links one no_given no_links wants is = is ∙ (λ i. supporting model outer (no_given i) (wants i) (no_links i))

    pub leaving_is : (one two : Supporting) (roots : List PlacedKey) → one ≡ made_by basis outer region values wanted_of → two ≡ left_by → roots ≡ roots_of basis outer region values
        → (part_of model (state_of model outer one ∷ (state_of model outer two ∷ [])) roots (state_of model outer one) ≡ (small_leaving basis outer region values).0)
        × (part_of model (state_of model outer one ∷ (state_of model outer two ∷ [])) roots (state_of model outer two) ≡ (small_leaving basis outer region values).1)
    leaving_is one two roots is also same = (
      λ i. part_of model (state_of model outer (is i) ∷ (state_of model outer (also i) ∷ [])) (same i) (state_of model outer (is i)),
      λ i. part_of model (state_of model outer (is i) ∷ (state_of model outer (also i) ∷ [])) (same i) (state_of model outer (also i)),
    )

  module _ (one two : Region) (first second : Entity) (values others : Valuation) (pair : ArePair basis outer one two first second values others) where
    abbrev pub wanted_of_both : List PlacedKey
    wanted_of_both = wanted_by_both basis outer one values two others

    abbrev s : SetId
    s = pair.one_has.s

    of_one : HasRegion basis outer s one
    of_one = of_set s one pair.one_has.listed

    of_two : HasRegion basis outer s two
    of_two = of_set s two (subst (λ u. Contains (regions_of basis u) two) (sym pair.one_set) pair.two_has.listed)

    keys_are : key_of model (focus_entity basis one values) ≡ key_of model (focus_entity basis two others)
    keys_are = ap (key_of model) (sym pair.one_has.is) ∙ pair.keys ∙ ap (key_of model) pair.two_has.is

    pub one_supported : IsSupported model outer (made_by basis outer one values wanted_of_both)
    one_supported = supported_by basis outer one values s wanted_of_both
        (one_made basis outer s one two of_one of_two pair.linked values others pair.one_has.admissible pair.two_has.admissible (pair.one_has.parts ∙ sym pair.two_has.parts) keys_are)

    pub two_supported : IsSupported model outer (made_by basis outer two others wanted_of_both)
    two_supported = supported_by basis outer two others s wanted_of_both
        (two_made basis outer s one two of_one of_two pair.linked values others pair.one_has.admissible pair.two_has.admissible (pair.one_has.parts ∙ sym pair.two_has.parts) keys_are)

    -- what is made of both entities, by what came of their given entities
    module _ (slice given : List Placed) (same : slice ≡ given) (gives : given ≡ given_with basis outer one first) (other more : List Placed) (also : other ≡ more)
        (gives_more : more ≡ given_with basis outer two second) (before : List PlacedKey) (none : before ≡ []) where
      first_is : slice ≡ given_by basis outer (linked_hosts basis one) one values
      first_is = same ∙ gives ∙ given_is basis outer one first values pair.one_has

      second_is : other ≡ given_by basis outer (linked_hosts basis two) two others
      second_is = also ∙ gives_more ∙ given_is basis outer two second others pair.two_has

      pub both_wanted : (so_far wanted : List PlacedKey) → so_far ≡ before ++ wanted_by basis outer slice → wanted ≡ so_far ++ wanted_by basis outer other → wanted ≡ wanted_of_both
      both_wanted so_far wanted is next = added_both (wanted_by basis outer) before so_far wanted slice (given_by basis outer (linked_hosts basis one) one values)
          other (given_by basis outer (linked_hosts basis two) two others) none is next first_is second_is

      pub both_roots : (so_far roots : List PlacedKey) → so_far ≡ before ++ map (key_of_placed basis outer) slice → roots ≡ so_far ++ map (key_of_placed basis outer) other
          → roots ≡ roots_of basis outer one values ++ roots_of basis outer two others
      both_roots so_far roots is next = added_both (map (key_of_placed basis outer)) before so_far roots slice (given_by basis outer (linked_hosts basis one) one values)
          other (given_by basis outer (linked_hosts basis two) two others) none is next first_is second_is

    pub rivals_are : (near far : Supporting) (roots : List PlacedKey) → near ≡ made_by basis outer one values wanted_of_both → far ≡ made_by basis outer two others wanted_of_both
        → roots ≡ roots_of basis outer one values ++ roots_of basis outer two others
        → (part_of model (state_of model outer near ∷ (state_of model outer far ∷ [])) roots (state_of model outer near) ≡ (small_rivals basis outer one values two others).0)
        × (part_of model (state_of model outer near ∷ (state_of model outer far ∷ [])) roots (state_of model outer far) ≡ (small_rivals basis outer one values two others).1)
    rivals_are near far roots is also same = (
      λ i. part_of model (state_of model outer (is i) ∷ (state_of model outer (also i) ∷ [])) (same i) (state_of model outer (is i)),
      λ i. part_of model (state_of model outer (is i) ∷ (state_of model outer (also i) ∷ [])) (same i) (state_of model outer (also i)),
    )
