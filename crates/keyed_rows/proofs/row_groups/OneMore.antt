-- Groups by keys that rise, and an item more whose key is the greatest.
use Rattle.std.proofs.Common.{◌≡◌, ◌≢◌, ℕ, ◌<◌, ◌≤◌, ◌+◌, ◌-◌, ⊎_elim, List, [], ◌∷◌, ◌++◌, length, map, take, get_or, false, true≢false, All, AllPairs, Contains, refl, sym, ap, subst, ◌∙◌, arith}
use Rattle.std.specs.Cmp.{tied_itself}
use Rattle.std.specs.Cmp.Lexicographic.{slice_cmp}
use Rattle.std.specs.Ordering.{is_eq, is_lt, ordering_reverse}
use Rattle.std.specs.declared.cmp.Ordering.{Ordering}
use Rattle.std.specs.declared.cmp.Ordering.TheVariants.{Less, Equal, Greater}
use Rattle.std.proofs.lemmas.List.{map-append, take_all, take_more}
use Rattle.std.proofs.lemmas.List.Elements.{All-contains, All-push, All-weaker, Contains-append_left, Contains-push}
use Rattle.std.proofs.lemmas.List.Quantifiers.{all_pairs_push}
use Rattle.std.proofs.lemmas.Bool.{cases_lt}
use Rattle.std.proofs.lemmas.Grind.{common_steps}
use Rattle.emc_base.proofs.Numbered.{map_contains}
use Rattle.emc_base.proofs.Lists.{all_from_members}
use Rattle.emc_base.specs.Order.{value_cmp}
use Rattle.emc_base.specs.OrderLaws.{key_cmp_apart, key_cmp_total}
use Rattle.edm_types.specs.Types.{Value}
use Rattle.groupings.proofs.item_groups.Keyed.{item_behind, item_elsewhere}
use Rattle.keyed_rows.specs.row_groups.KeyGroups.{AreKeyGroups, HasOneMore, joined, started, with_key}
use Rattle.keyed_rows.proofs.row_groups.WithKey.{has_its_key}

-- the order of keys
abbrev key_cmp : List Value → List Value → Ordering
key_cmp = slice_cmp value_cmp

-- what is neither below a key nor the key itself is above it
below_other : (one other : List Value) → is_lt (key_cmp other one) ≡ false → one ≢ other → key_cmp one other ≡ Less
below_other one other not_less apart = key_cmp_total.antisymm one other ∙ ap ordering_reverse (by (key_cmp other one) refl)
  where
    by : (order : Ordering) → key_cmp other one ≡ order → key_cmp other one ≡ Greater
    by Less is = absurd (true≢false (sym (ap is_lt is) ∙ not_less))
    by Equal is = absurd (apart (sym (key_cmp_apart other one is)))
    by Greater is = is

-- a key is not equal to one below it
not_equal : (one other : List Value) → key_cmp one other ≡ Less → is_eq (key_cmp other one) ≡ false
not_equal one other less = ap is_eq (key_cmp_total.antisymm other one ∙ ap ordering_reverse less)

less_not_equal : Less ≢ Equal
less_not_equal same = cc

-- a list that isn't empty ends with its last item
pub last_of : {X : Type 0} (xs : List X) (d : X) (len : ℕ) → len ≡ length xs → 0 < length xs → xs ≡ take (len - 1) xs ++ get_or xs (len - 1) d ∷ []
last_of xs d len long some =
    let more : len ≡ len - 1 + 1 = omega arith in
    sym (take_all len xs (omega arith)) ∙ ap (λ n. take n xs) more ∙ take_more xs (len - 1) d (omega arith)

-- a list with an item behind it is not empty
not_nil : {X : Type 0} (xs : List X) (x : X) → (xs ++ x ∷ []) ≢ []
not_nil [] x same = cc
not_nil (y ∷ xs) x same = cc

module _ {X : Type 0} (R : X → X → Type 0) (before : List X) (last : X) (pairs : AllPairs R (before ++ last ∷ [])) where
  -- what is so by pairs is so of those before the last
  pairs_before : AllPairs R before
  pairs_before i j d lower within =
      let first : get_or (before ++ last ∷ []) i d ≡ get_or before i d = grind (arith, common_steps) in
      let second : get_or (before ++ last ∷ []) j d ≡ get_or before j d = grind (arith, common_steps) in
      let long : length (before ++ last ∷ []) ≡ length before + 1 = grind (arith, common_steps) in
      subst (λ y. R (get_or before i d) y) second (subst (λ y. R y (get_or (before ++ last ∷ []) j d)) first (pairs i j d lower (omega arith)))

  -- and of each of them and the last
  pairs_last : All (λ x. R x last) before
  pairs_last i d within =
      let first : get_or (before ++ last ∷ []) i d ≡ get_or before i d = grind (arith, common_steps) in
      let second : get_or (before ++ last ∷ []) (length before) d ≡ last = grind (arith, common_steps) in
      let long : length (before ++ last ∷ []) ≡ length before + 1 = grind (arith, common_steps) in
      subst (λ y. R (get_or before i d) y) second (subst (λ y. R y (get_or (before ++ last ∷ []) (length before) d)) first (pairs i (length before) d within (omega arith)))

module _ {X : Type 0} (told : List (List Value × X)) (key : List Value) (item : X) (greatest : All (λ one. is_lt (key_cmp key one.0) ≡ false) told) where
  abbrev Group : Type 0
  Group = List Value × List X

  abbrev Rises : Group → Group → Type 0
  Rises one later = key_cmp one.0 later.0 ≡ Less

  abbrev told_more : List (List Value × X)
  told_more = told ++ (key, item) ∷ []

  abbrev HasItems : Group → Type 0
  HasItems group = group.1 ≡ with_key told group.0

  abbrev HasItemsNow : Group → Type 0
  HasItemsNow group = group.1 ≡ with_key told_more group.0

  abbrev HasSome : Group → Type 0
  HasSome group = group.1 ≢ []

  abbrev keys : List Group → List (List Value)
  keys groups = map (λ (group : Group). group.0) groups

  abbrev IsGrouped : List Group → List Value × X → Type 0
  IsGrouped groups one = Contains (keys groups) one.0

  -- a group of a lower key keeps its items
  kept_items : (group : Group) → key_cmp group.0 key ≡ Less → HasItems group → HasItemsNow group
  kept_items group lower has = has ∙ sym (item_elsewhere key_cmp key_cmp_total told key item group.0 (not_equal group.0 key lower))

  -- the items of the key, with this one behind them
  with_item : (items : List X) → items ≡ with_key told key → items ++ item ∷ [] ≡ with_key told_more key
  with_item items are = ap (λ list. list ++ item ∷ []) are ∙ sym (item_behind key_cmp key_cmp_total told key item key (ap is_eq (tied_itself key_cmp_total key)))

  -- a group has an item, so its key isn't above the greatest
  not_above : (group : Group) → HasItems group → HasSome group → is_lt (key_cmp key group.0) ≡ false
  not_above group has some = by group.1 refl
    where
      by : (items : List X) → group.1 ≡ items → is_lt (key_cmp key group.0) ≡ false
      by [] is = absurd (some is)
      by (x ∷ items) is =
          All-contains (λ (one : List Value × X). is_lt (key_cmp key one.0) ≡ false) told (group.0, x) greatest
          (has_its_key told group.0 x (subst (λ list. Contains list x) (sym is ∙ has) (0, omega arith, refl)))

  -- groups of which the last has the key
  module _ (before : List Group) (items : List X) (are : AreKeyGroups told (before ++ (key, items) ∷ [])) where
    abbrev last : Group
    last = (key, items)

    abbrev groups : List Group
    groups = before ++ last ∷ []

    abbrev longer : Group
    longer = (key, items ++ item ∷ [])

    before_in : (P : Group → Type 0) → All P groups → All P before
    before_in P all = all_from_members P before (λ group has. All-contains P groups group all (Contains-append_left before (last ∷ []) group has))

    last_in : (P : Group → Type 0) → All P groups → P last
    last_in P all = All-contains P groups last all (Contains-push before last)

    all_before_lower : All (λ (group : Group). key_cmp group.0 key ≡ Less) before
    all_before_lower = pairs_last Rises before last are.rising

    same_keys : keys (before ++ longer ∷ []) ≡ keys groups
    same_keys = map-append (λ (group : Group). group.0) before (longer ∷ []) ∙ sym (map-append (λ (group : Group). group.0) before (last ∷ []))

    key_groups_joined : AreKeyGroups told_more (before ++ longer ∷ [])
    key_groups_joined = record {
      rising = all_pairs_push Rises before longer (pairs_before Rises before last are.rising) all_before_lower;
      items = All-push HasItemsNow before longer
          (all_from_members HasItemsNow before (λ group has. kept_items group (All-contains (λ (one : Group). key_cmp one.0 key ≡ Less) before group all_before_lower has)
          (All-contains HasItems before group (before_in HasItems are.items) has)))
          (with_item items (last_in HasItems are.items));
      some = All-push HasSome before longer (before_in HasSome are.some) (not_nil items item);
      all = subst (λ list. All (λ (one : List Value × X). Contains list one.0) told_more) (sym same_keys)
          (All-push (IsGrouped groups) told (key, item) are.all (subst (λ list. Contains list key) (sym (map-append (λ (group : Group). group.0) before (last ∷ [])))
          (Contains-push (keys before) key)));
    }

  -- groups of which the last has another key
  module _ (groups : List Group) (are : AreKeyGroups told groups) (apart : (before : List Group) (last : Group) → groups ≡ before ++ last ∷ [] → last.0 ≢ key) where
    abbrev Lower : Group → Type 0
    Lower group = key_cmp group.0 key ≡ Less

    abbrev single : Group
    single = (key, item ∷ [])

    last_lower : (d : Group) → 0 < length groups → Lower (get_or groups (length groups - 1) d)
    last_lower d some =
        let end = length groups - 1 in
        below_other (get_or groups end d).0 key
        (not_above (get_or groups end d) (are.items end d (omega arith)) (are.some end d (omega arith)))
        (apart (take end groups) (get_or groups end d) (last_of groups d (length groups) refl some))

    all_lower : All Lower groups
    all_lower k d within =
        let end = length groups - 1 in
        ⊎_elim
        (λ (earlier : k < end). key_cmp_total.trans (get_or groups k d).0 (get_or groups end d).0 key (are.rising k end d earlier (omega arith)) (last_lower d (omega arith)))
        (λ (later : end ≤ k). subst (λ n. Lower (get_or groups n d)) {x = end} {y = k} (omega arith) (last_lower d (omega arith)))
        (cases_lt k end)

    -- no group has the key, so no item has
    none : with_key told key ≡ []
    none = by (with_key told key) refl
      where
        by : (items : List X) → with_key told key ≡ items → with_key told key ≡ []
        by [] is = is
        by (x ∷ items) is =
            let stands = has_its_key told key x (subst (λ list. Contains list x) (sym is) (0, omega arith, refl)) in
            let found = map_contains (λ (group : Group). group.0) groups key (All-contains (IsGrouped groups) told (key, x) are.all stands) in
            let less : Lower found.0 = All-contains Lower groups found.0 all_lower found.1 in
            let same : key_cmp found.0.0 key ≡ Equal = ap (λ one. key_cmp one key) found.2 ∙ tied_itself key_cmp_total key in
            absurd (less_not_equal (sym less ∙ same))

    key_groups_started : AreKeyGroups told_more (groups ++ single ∷ [])
    key_groups_started = record {
      rising = all_pairs_push Rises groups single are.rising all_lower;
      items = All-push HasItemsNow groups single
          (all_from_members HasItemsNow groups (λ group has. kept_items group (All-contains Lower groups group all_lower has) (All-contains HasItems groups group are.items has)))
          (with_item [] (sym none));
      some = All-push HasSome groups single are.some (not_nil [] item);
      all = subst (λ list. All (λ (one : List Value × X). Contains list one.0) told_more) (sym (map-append (λ (group : Group). group.0) groups (single ∷ [])))
          (All-push (λ (one : List Value × X). Contains (keys groups ++ key ∷ []) one.0) told (key, item)
          (All-weaker (IsGrouped groups) (λ (one : List Value × X). Contains (keys groups ++ key ∷ []) one.0)
          (λ one has. Contains-append_left (keys groups) (key ∷ []) one.0 has) told are.all)
          (Contains-push (keys groups) key));
    }

  -- so what an item more gives are its groups
  pub more_groups : (groups more : List Group) → AreKeyGroups told groups → HasOneMore groups key item more → AreKeyGroups told_more more
  more_groups groups more are one_more = elim one_more [
    | joined before items was is ↦ subst (AreKeyGroups told_more) (sym is) (key_groups_joined before items (subst (AreKeyGroups told) was are))
    | started apart is ↦ subst (AreKeyGroups told_more) (sym is) (key_groups_started groups are apart)
  ]
