-- Pairs that match a key, put into the order of the key.
use Rattle.std.proofs.Common.{◌≡◌, ◌≢◌, ◌<◌, ℕ, List, [], ◌∷◌, map, length, get_or, All, AllPairs, Contains, Some, refl, sym, ap, subst, ◌∙◌, arith}
use Rattle.std.proofs.lemmas.List.{length-map, get_or-map}
use Rattle.std.proofs.lemmas.List.Elements.{All-nil, All-cons, All-head, All-tail, All-contains, All-map, All-contains_itself, Contains-get_or}
use Rattle.std.proofs.lemmas.Option.{slice_get-get_or}
use Rattle.emc_base.specs.Lists.{At, AreApart, HoldsEachOnce}
use Rattle.emc_base.proofs.Lists.{all_from_members, at_once, same_place}
use Rattle.emc_base.proofs.Mapped.{contains_map}
use Rattle.emc_base.proofs.Numbered.{all_pairs_map, map_contains}
use Rattle.edm_types.specs.Types.{PropId, ColId}
use Rattle.edm_types.specs.declared.mapping.Pair.{Pair}
use Rattle.table_owners.specs.key_matching.Completions.{Completes}
use Rattle.table_owners.specs.key_matching.Matchings.{Matches}
use Rattle.table_owners.proofs.key_matching.Taking.{cols_of, props_of}

module _ {X Y : Type 0} (f : X → Y) (xs : List X) (apart : AreApart (map f xs)) where
  -- no two items have one image
  images_apart : AllPairs (λ x z. f x ≢ f z) xs
  images_apart i j d below within same =
      let inside : i < length xs = omega (arith, below, within) in
      let Below : ℕ → Type 0 = λ n. j < n in
      apart i j (f d) below (subst Below (sym (length-map xs f)) within)
      (get_or-map f xs i d (f d) inside ∙ same ∙ sym (get_or-map f xs j d (f d) within))

  stands_at : (x : X) (has : Contains xs x) → At xs has.0 x
  stands_at x has = slice_get-get_or xs has.0 x has.1 ∙ ap Some has.2

  -- items of one image are one
  one_image : (x y : X) → Contains xs x → Contains xs y → f x ≡ f y → x ≡ y
  one_image x y has_x has_y same =
      let place = same_place f xs has_x.0 has_y.0 x y images_apart (stands_at x has_x) (stands_at y has_y) same in
      let P : ℕ → Type 0 = λ k. At xs k x in
      at_once xs has_y.0 x y (subst P place (stands_at x has_x)) (stands_at y has_y)

-- pairs that name these properties in their order
record Picked (chosen : List Pair) (props : List PropId) : Type 0 where
  picked : List Pair
  named : props_of picked ≡ props
  among : All (Contains chosen) picked

-- each property is named by one of the chosen pairs
pick : (chosen : List Pair) (props : List PropId) → All (Contains (props_of chosen)) props → Picked chosen props
pick chosen [] all = record { picked = []; named = refl; among = All-nil (Contains chosen) }
pick chosen (prop ∷ props) all =
    let first = map_contains (λ (pair : Pair). pair.prop) chosen prop (All-head (Contains (props_of chosen)) prop props all) in
    let rest = pick chosen props (All-tail (Contains (props_of chosen)) prop props all) in
    record {
      picked = first.0 ∷ rest.picked;
      named = λ i. first.2 i ∷ rest.named i;
      among = All-cons (Contains chosen) first.0 rest.picked first.1 rest.among;
    }

module _ (key : List PropId) (cols : List ColId) (pairs : List Pair) (apart : AreApart key) where
  -- what completes a matching of which no column is taken yet is one
  pub from_completion : Completes key cols [] pairs → Matches key cols pairs
  from_completion whole =
      let Held : List PropId → Type 0 = HoldsEachOnce key in
      let itself : HoldsEachOnce key key = record { once = apart; all = All-contains_itself key; only = All-contains_itself key } in
      record {
        chosen = whole.chosen;
        among = whole.among;
        props = subst Held (sym whole.named) itself;
        columns = record { once = whole.once; all = whole.all; only = whole.inside };
      }

  module _ (matching : Matches key cols pairs) (pick : Picked matching.chosen key) where
    from_chosen : (pair : Pair) → Contains pick.picked pair → Contains matching.chosen pair
    from_chosen pair has = All-contains (Contains matching.chosen) pick.picked pair pick.among has

    names_apart : AllPairs (λ (x : Pair) (z : Pair). x.prop ≢ z.prop) pick.picked
    names_apart = images_apart (λ (pair : Pair). pair.prop) pick.picked (subst AreApart (sym pick.named) apart)

    cols_apart : AllPairs (λ (x : Pair) (z : Pair). x.col ≢ z.col) pick.picked
    cols_apart i j d below within same =
        let inside : i < length pick.picked = omega (arith, below, within) in
        let one = get_or pick.picked i d in
        let other = get_or pick.picked j d in
        let is : one ≡ other = one_image (λ (pair : Pair). pair.col) matching.chosen matching.columns.once one other
        (from_chosen one (Contains-get_or pick.picked i d inside)) (from_chosen other (Contains-get_or pick.picked j d within)) same in
        names_apart i j d below within (ap (λ (pair : Pair). pair.prop) is)

    holds_column : (col : ColId) → Contains cols col → Contains (cols_of pick.picked) col
    holds_column col has =
        let its = map_contains (λ (pair : Pair). pair.col) matching.chosen col (All-contains (Contains (cols_of matching.chosen)) cols col matching.columns.all has) in
        let in_key = All-contains (Contains key) (props_of matching.chosen) its.0.prop matching.props.only (contains_map (λ (pair : Pair). pair.prop) matching.chosen its.0 its.1) in
        let Named : List PropId → Type 0 = λ props. Contains props its.0.prop in
        let same = map_contains (λ (pair : Pair). pair.prop) pick.picked its.0.prop (subst Named (sym pick.named) in_key) in
        let is : same.0 ≡ its.0 = one_image (λ (pair : Pair). pair.prop) matching.chosen matching.props.once same.0 its.0 (from_chosen same.0 same.1) its.1 same.2 in
        let P : ColId → Type 0 = Contains (cols_of pick.picked) in
        subst P (ap (λ (pair : Pair). pair.col) is ∙ its.2) (contains_map (λ (pair : Pair). pair.col) pick.picked same.0 same.1)

    in_order : Completes key cols [] pairs
    in_order = record {
      chosen = pick.picked;
      among = all_from_members (Contains pairs) pick.picked (λ pair has. All-contains (Contains pairs) matching.chosen pair matching.among (from_chosen pair has));
      named = pick.named;
      inside = All-map (Contains cols) (λ (pair : Pair). pair.col) pick.picked (all_from_members (λ (pair : Pair). Contains cols pair.col) pick.picked (λ pair has.
          All-contains (Contains cols) (cols_of matching.chosen) pair.col matching.columns.only (contains_map (λ (pair : Pair). pair.col) matching.chosen pair (from_chosen pair has))));
      free = λ k d within none. let no : none.0 < 0 = none.1 in absurd (omega (arith, no));
      once = all_pairs_map (λ x y. x ≢ y) (λ (pair : Pair). pair.col) pick.picked cols_apart;
      all = all_from_members (Contains (cols_of pick.picked)) cols holds_column;
    }

  -- and a matching completes one of which no column is taken yet
  pub to_completion : Matches key cols pairs → Completes key cols [] pairs
  to_completion matching = in_order matching (pick matching.chosen key matching.props.all)
