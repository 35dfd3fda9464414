-- Groups of items with lent keys, which are put in order first.
use Rattle.std.proofs.Common.{◌≡◌, ◌≢◌, ℕ, ◌<◌, ◌-◌, List, [], ◌∷◌, ◌++◌, length, map, get_or, set, take, true, false, true≢false, All, Contains, sym, ap, subst, ◌∙◌, arith}
use Rattle.std.specs.Borrow.{Bor}
use Rattle.std.specs.Cmp.Lexicographic.{slice_cmp}
use Rattle.std.specs.Global.{Vec}
use Rattle.std.specs.List.Sorted.{IsSortedByKey}
use Rattle.std.specs.Ordering.{is_eq, is_lt}
use Rattle.std.specs.Cmp.{tied_itself}
use Rattle.std.specs.declared.cmp.Ordering.TheVariants.{Equal}
use Rattle.emc_base.specs.OrderLaws.{key_cmp_apart, key_cmp_total}
use Rattle.keyed_rows.proofs.row_groups.OneMore.{last_of, more_groups}
use Rattle.std.proofs.lemmas.Grind.{common_steps}
use Rattle.std.proofs.lemmas.List.Elements.{All-contains, All-map}
use Rattle.std.proofs.lemmas.List.Sorted.{ranks_by, sorted_far}
use Rattle.emc_base.proofs.Lists.{all_from_members}
use Rattle.emc_base.proofs.Mapped.{contains_map}
use Rattle.std.proofs.lemmas.List.{get_or-map, length-map, length-take-le, map-append, same_from_push, set_at}
use Rattle.emc_base.specs.Order.{value_cmp}
use Rattle.edm_types.specs.Types.{Value}
use Rattle.groupings.specs.item_groups.Groups.{items_of}
use Rattle.keyed_rows.specs.row_groups.KeyGroups.{AreKeyGroups, HasOneMore, joined, with_key}
use Rattle.keyed_rows.specs.row_groups.Shown.{shown_cells, shown_group, shown_keyed}
use Rattle.keyed_rows.specs.declared.row_groups.groups.KeyGroup.{KeyGroup}
use Rattle.keyed_rows.proofs.row_groups.LentKeys.{lent_cmp, lent_total, shown_cmp, shown_items}
use Rattle.keyed_rows.proofs.row_groups.WithKey.{has_its_key, key_has}

module _ {X : Type 0} where
  -- of sorted items the key of one isn't below those before it
  greatest_so_far : (sorted before after : List (Vec (Bor Value) × X)) (key : Vec (Bor Value)) (item : X) → IsSortedByKey (λ one. one.0) lent_cmp sorted
      → sorted ≡ before ++ (key, item) ∷ after → All (λ one. is_lt (slice_cmp value_cmp (shown_cells key) one.0) ≡ false) (map shown_keyed before)
  greatest_so_far sorted before after key item rises is = All-map (λ one. is_lt (slice_cmp value_cmp (shown_cells key) one.0) ≡ false) shown_keyed before
      (λ k d within.
      let whole = before ++ (key, item) ∷ after in
      let earlier : get_or whole k d ≡ get_or before k d = grind (arith, common_steps) in
      let own : get_or whole (length before) d ≡ (key, item) = grind (arith, common_steps) in
      let long : length before < length whole = grind (arith, common_steps) in
      let far = sorted_far (λ one other. is_lt (lent_cmp one.0 other.0)) (ranks_by lent_total (λ one. one.0)) whole (subst (IsSortedByKey (λ one. one.0) lent_cmp) is rises)
      k (length before) d (omega arith) long in
      let read : is_lt (lent_cmp key (get_or before k d).0) ≡ false =
      subst (λ one. is_lt (lent_cmp key one.0) ≡ false) earlier (subst (λ one. is_lt (lent_cmp one.0 (get_or whole k d).0) ≡ false) own far) in
      ap is_lt (sym (shown_cmp key (get_or before k d).0)) ∙ read)

  -- there is a group of an item's key
  abbrev IsGrouped : List (KeyGroup X) → List Value × X → Type 0
  IsGrouped groups one = Contains (map (λ (group : List Value × List X). group.0) (map shown_group groups)) one.0

  -- groups of sorted items are those of the items as they stood
  pub same_groups : (keyed sorted : List (Vec (Bor Value) × X)) (groups : List (KeyGroup X)) → ((key : Vec (Bor Value)) → items_of lent_cmp sorted key ≡ items_of lent_cmp keyed key)
      → AreKeyGroups (map shown_keyed sorted) (map shown_group groups) → AreKeyGroups (map shown_keyed keyed) (map shown_group groups)
  same_groups keyed sorted groups same are = record {
    rising = are.rising;
    items = All-map (λ group. group.1 ≡ with_key (map shown_keyed keyed) group.0) shown_group groups
        (λ k d within. are_items (get_or groups k d) (shown_at k d within));
    some = are.some;
    all = All-map (IsGrouped groups) shown_keyed keyed (all_from_members (λ one. IsGrouped groups (shown_keyed one)) keyed grouped);
  }
    where
      same_items : (key : Vec (Bor Value)) → with_key (map shown_keyed sorted) (shown_cells key) ≡ with_key (map shown_keyed keyed) (shown_cells key)
      same_items key = sym (shown_items sorted key) ∙ same key ∙ shown_items keyed key

      shown_at : (k : _) (d : KeyGroup X) → k < length groups → (shown_group (get_or groups k d)).1 ≡ with_key (map shown_keyed sorted) (shown_group (get_or groups k d)).0
      shown_at k d within =
          let at : get_or (map shown_group groups) k (shown_group d) ≡ shown_group (get_or groups k d) = get_or-map shown_group groups k d (shown_group d) within in
          subst (λ group. group.1 ≡ with_key (map shown_keyed sorted) group.0) at (are.items k (shown_group d) (subst (λ n. k < n) (sym (length-map groups shown_group)) within))

      are_items : (group : KeyGroup X) → (shown_group group).1 ≡ with_key (map shown_keyed sorted) (shown_group group).0
          → (shown_group group).1 ≡ with_key (map shown_keyed keyed) (shown_group group).0
      are_items group is = is ∙ same_items group.key

      grouped : (one : Vec (Bor Value) × X) → Contains keyed one → IsGrouped groups (shown_keyed one)
      grouped one has =
          let among : Contains (with_key (map shown_keyed sorted) (shown_cells one.0)) one.1 =
          subst (λ list. Contains list one.1) (sym (same_items one.0)) (key_has (map shown_keyed keyed) (shown_cells one.0) one.1 (contains_map shown_keyed keyed one has)) in
          All-contains (IsGrouped groups) (map shown_keyed sorted) (shown_keyed one) are.all (has_its_key (map shown_keyed sorted) (shown_cells one.0) one.1 among)

  -- groups of which the last has an item more
  pub one_joined : (groups : List (KeyGroup X)) (last : KeyGroup X) (key : Vec (Bor Value)) (item : X) (items : Vec X) (len : ℕ) → len ≡ length groups → 0 < length groups
      → last ≡ get_or groups (len - 1) last → lent_cmp last.key key ≡ Equal → items.items ≡ last.items.items ++ item ∷ []
      → HasOneMore (map shown_group groups) (shown_cells key) item (map shown_group (set groups (len - 1) record { key = last.key; items = items }))
  one_joined groups last key item items len long some read same are =
      let before = take (len - 1) groups in
      let added : KeyGroup X = record { key = last.key; items = items } in
      let was : groups ≡ before ++ last ∷ [] = last_of groups last len long some ∙ ap (λ one. before ++ one ∷ []) (sym read) in
      let is : set groups (len - 1) added ≡ before ++ added ∷ [] =
      ap (λ list. set list (len - 1) added) was ∙ set_at before last [] added (len - 1) (length-take-le (len - 1) groups (omega arith)) in
      let same_key : shown_cells last.key ≡ shown_cells key = key_cmp_apart (shown_cells last.key) (shown_cells key) (sym (shown_cmp last.key key) ∙ same) in
      joined (map shown_group before) last.items.items
      (ap (map shown_group) was ∙ map-append shown_group before (last ∷ []) ∙ ap (λ one. map shown_group before ++ (one, last.items.items) ∷ []) same_key)
      (ap (map shown_group) is ∙ map-append shown_group before (added ∷ []) ∙ (λ i. map shown_group before ++ (same_key i, are i) ∷ []))

  -- the last group of some is the last of what they show
  pub last_apart : (groups : List (KeyGroup X)) (last : KeyGroup X) (key : Vec (Bor Value)) (len : ℕ) → len ≡ length groups → 0 < length groups
      → last ≡ get_or groups (len - 1) last → is_eq (lent_cmp last.key key) ≡ false
      → (before : List (List Value × List X)) (end : List Value × List X) → map shown_group groups ≡ before ++ end ∷ [] → end.0 ≢ shown_cells key
  last_apart groups last key len long some read apart before end is same =
      let front = take (len - 1) groups in
      let was : groups ≡ front ++ last ∷ [] = last_of groups last len long some ∙ ap (λ one. front ++ one ∷ []) (sym read) in
      let ends : shown_group last ≡ end = (same_from_push (map shown_group front) before (shown_group last) end
      (sym (map-append shown_group front (last ∷ [])) ∙ sym (ap (map shown_group) was) ∙ is)).1 in
      let keys : shown_cells last.key ≡ shown_cells key = ap (λ (group : List Value × List X). group.0) ends ∙ same in
      let equal : is_eq (lent_cmp last.key key) ≡ true =
      ap is_eq (shown_cmp last.key key) ∙ ap (λ one. is_eq (slice_cmp value_cmp one (shown_cells key))) keys ∙ ap is_eq (tied_itself key_cmp_total (shown_cells key)) in
      true≢false (sym equal ∙ apart)

  -- nothing is the last of no groups
  pub none_last : (before : List (List Value × List X)) (end : List Value × List X) → [] ≢ (before ++ end ∷ [])
  none_last [] end same = cc
  none_last (one ∷ before) end same = cc

  -- groups with a group of one item behind them
  pub one_started : (groups more : List (KeyGroup X)) (key : Vec (Bor Value)) (item : X) (items : Vec X) → more ≡ groups ++ record { key = key; items = items } ∷ []
      → items.items ≡ item ∷ [] → map shown_group more ≡ map shown_group groups ++ (shown_cells key, item ∷ []) ∷ []
  one_started groups more key item items is are =
      ap (map shown_group) is ∙ map-append shown_group groups (record { key = key; items = items } ∷ []) ∙ ap (λ one. map shown_group groups ++ (shown_cells key, one) ∷ []) are

  -- what an item more gives are the groups of the items so far
  pub next_grouped : (all so_far left : List (Vec (Bor Value) × X)) (key : Vec (Bor Value)) (item : X) (groups more : List (KeyGroup X)) → IsSortedByKey (λ one. one.0) lent_cmp all
      → all ≡ so_far ++ (key, item) ∷ left → AreKeyGroups (map shown_keyed so_far) (map shown_group groups)
      → HasOneMore (map shown_group groups) (shown_cells key) item (map shown_group more) → AreKeyGroups (map shown_keyed (so_far ++ (key, item) ∷ [])) (map shown_group more)
  next_grouped all so_far left key item groups more rises is are one_more =
      subst (λ told. AreKeyGroups told (map shown_group more)) (sym (map-append shown_keyed so_far ((key, item) ∷ [])))
      (more_groups (map shown_keyed so_far) (shown_cells key) item (greatest_so_far all so_far left key item rises is) (map shown_group groups) (map shown_group more) are one_more)
