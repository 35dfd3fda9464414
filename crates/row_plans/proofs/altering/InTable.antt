-- What the groups of a table's rows add are the alterations of the table.
use Rattle.std.proofs.Common.{◌≡◌, ◌≢◌, List, [], ◌∷◌, Bool, true, false, All, AllPairs, Contains, Option, None, Some, if◌then◌else◌, map, refl, sym, ap, subst, ◌∙◌, arith}
use Rattle.std.specs.Borrow.{Bor}
use Rattle.std.specs.List.{flat_map}
use Rattle.std.specs.Option.{option_copied}
use Rattle.std.specs.Cmp.Lexicographic.{slice_cmp}
use Rattle.std.specs.declared.cmp.Ordering.TheVariants.{Equal, Less}
use Rattle.std.specs.Cmp.{tied_itself}
use Rattle.std.proofs.lemmas.List.Concat.{flat_map-cons}
use Rattle.std.proofs.lemmas.List.Elements.{All-contains}
use Rattle.emc_base.specs.Order.{value_cmp}
use Rattle.emc_base.specs.OrderLaws.{key_cmp_total}
use Rattle.emc_base.proofs.FoundItems.{contains_flat_map}
use Rattle.emc_base.proofs.Joined.{apart-append, in_flat_map, pairs_head, pairs_tail}
use Rattle.emc_base.proofs.Lists.{all_from_members}
use Rattle.emc_base.proofs.Members.{contains_head, contains_nil, contains_tail}
use Rattle.emc_base.proofs.Lists.{only_member}
use Rattle.emc_base.proofs.Numbered.{map_contains}
use Rattle.round_trip.specs.Words.{Row, StoreModel, TableId, Tables, Value, key_columns, rows_in}
use Rattle.keyed_rows.specs.row_groups.Shown.{shown_cells}
use Rattle.keyed_rows.specs.declared.row_groups.groups.KeyGroup.{KeyGroup}
use Rattle.row_changes.specs.Changes.{key_in, key_of_change}
use Rattle.row_changes.proofs.leading.Primary.{AreApartBy}
use Rattle.row_orders.specs.declared.alteration.Alteration.{Alteration}
use Rattle.row_orders.specs.Alterations.{IsAlteration, IsRowThere, change_of, whose}
use Rattle.row_plans.specs.Altered.{altered_in, differ, first_of}
use Rattle.row_plans.specs.Sides.{AreRowGroups}
use Rattle.row_plans.specs.declared.altered.sides.Side.{Side}
use Rattle.row_plans.specs.declared.altered.sides.Side.TheVariants.{Before, Afterwards}
use Rattle.row_plans.specs.declared.altered.sides.SidedRow.{SidedRow}
use Rattle.row_plans.proofs.altering.Differ.{at_its_key, one_row_told, row_once, two_rows}
use Rattle.row_plans.proofs.altering.FirstOf.{found_row, none_found}

-- all alterations of one table, each key's once
pub record AreAlterationsIn (store : StoreModel) (old new : Tables) (t : TableId) (alterations : List Alteration) : Type 0 where
  pub only : All (IsAlteration store old new) alterations
  pub here : All (λ one. one.table ≡ t) alterations
  pub all : (key : List Value) (one two : Option Row) → IsRowThere store old t key one → IsRowThere store new t key two → one ≢ two
      → (alteration : Alteration) × Contains alterations alteration × (whose store alteration ≡ (t, key))
  pub once : AllPairs (λ one later. whose store one ≢ whose store later) alterations

-- a key isn't below itself
pub not_below : (x y : List Value) → slice_cmp value_cmp x y ≡ Less → x ≢ y
not_below x y less same = equal_is_not (sym (ap (slice_cmp value_cmp x) (sym same) ∙ tied_itself key_cmp_total x) ∙ less)
  where
    equal_is_not : ¬ (Equal ≡ Less)
    equal_is_not is = cc

-- what each of some gives is apart where these are, and what one gives is one at most
pub pairs_of_flat_map : {X Y : Type 0} (R : X → X → Type 0) (S : Y → Y → Type 0) (f : X → List Y) (xs : List X) → AllPairs R xs
    → ((x : X) → AllPairs S (f x)) → ((x z : X) (y w : Y) → Contains xs x → Contains xs z → R x z → Contains (f x) y → Contains (f z) w → S y w) → AllPairs S (flat_map f xs)
pairs_of_flat_map R S f [] pairs each apart = λ i j d below within. absurd (omega arith)
pairs_of_flat_map {X} {Y} R S f (x ∷ xs) pairs each apart = subst (AllPairs S) (sym (flat_map-cons f x xs))
    (apart-append S (f x) (flat_map f xs) (each x)
    (pairs_of_flat_map R S f xs (pairs_tail R x xs pairs) each (λ a b y w has_a has_b. apart a b y w (contains_tail x xs a has_a) (contains_tail x xs b has_b)))
    (all_from_members (λ (y : Y). All (S y) (flat_map f xs)) (f x) (λ y has_y. all_from_members (S y) (flat_map f xs) (λ w has_w.
    (let found = in_flat_map f xs w has_w in
    apart x found.0 y w (contains_head x xs) (contains_tail x xs found.0 found.1) (All-contains (R x) xs found.0 (pairs_head R x xs pairs) found.1) has_y found.2)))))

module _ (store : StoreModel) (old new : Tables) (t : TableId) (groups : List (KeyGroup SidedRow)) (are : AreRowGroups (key_columns store t) (rows_in old t) (rows_in new t) groups) where
  abbrev key_of : KeyGroup SidedRow → List Value
  key_of group = shown_cells group.key

  module _ (group : KeyGroup SidedRow) (there : Contains groups group) where
    abbrev first : Option (Bor Row)
    first = first_of Before group.items.items

    abbrev second : Option (Bor Row)
    second = first_of Afterwards group.items.items

    -- the rows of a group are those of its key
    row_before : (found : Option Row) → option_copied first ≡ found → IsRowThere store old t (key_of group) found
    row_before None is = λ row has. none_found Before group.items.items is row ((are.rows group Before row there).1 has)
    row_before (Some row) is = (are.rows group Before row there).0 (found_row Before group.items.items row is)

    row_afterwards : (found : Option Row) → option_copied second ≡ found → IsRowThere store new t (key_of group) found
    row_afterwards None is = λ row has. none_found Afterwards group.items.items is row ((are.rows group Afterwards row there).1 has)
    row_afterwards (Some row) is = (are.rows group Afterwards row there).0 (found_row Afterwards group.items.items row is)

    abbrev made : Alteration
    made = record { table = t; old = first; new = second }

    -- where they differ, they are altered
    is_altered : differ (option_copied first) (option_copied second) ≡ true → IsAlteration store old new made × (whose store made ≡ (t, key_of group))
    is_altered told =
        let was = row_before (option_copied first) refl in
        let is = row_afterwards (option_copied second) refl in
        let apart = two_rows (option_copied first) (option_copied second) told in
        let key : key_of_change store (change_of store made) ≡ key_of group =
        at_its_key store old new t (key_of group) (option_copied first) (option_copied second) was is apart in (
          record {
            before = subst (λ k. IsRowThere store old t k (option_copied first)) (sym key) was;
            afterwards = subst (λ k. IsRowThere store new t k (option_copied second)) (sym key) is;
            differ = apart;
          },
          λ i. (t, key i),
        )

    -- what a group adds
    added : (b : Bool) → differ (option_copied first) (option_copied second) ≡ b → (one : Alteration) → Contains (if b then made ∷ [] else []) one → (b ≡ true) × (one ≡ made)
    added true told one has = (refl, only_member (made ∷ []) made one refl has)
    added false told one has = absurd (contains_nil one has)

    is_added : (one : Alteration) → Contains (altered_in t group) one → (differ (option_copied first) (option_copied second) ≡ true) × (one ≡ made)
    is_added one has = added (differ (option_copied first) (option_copied second)) refl one has

    alteration_in : (one : Alteration) → Contains (altered_in t group) one → IsAlteration store old new one × (whose store one ≡ (t, key_of group)) × (one.table ≡ t)
    alteration_in one has =
        let is = is_added one has in
        let altered = is_altered is.0 in (
          subst (IsAlteration store old new) (sym is.1) altered.0,
          ap (whose store) is.1 ∙ altered.1,
          ap (λ (a : Alteration). a.table) is.1,
        )

    adds : differ (option_copied first) (option_copied second) ≡ true → Contains (altered_in t group) made
    adds told = subst (λ (b : Bool). Contains (if b then made ∷ [] else []) made) (sym told) (contains_head made [])

  -- a row of a side has a group
  group_of : (side : Side) (key : List Value) (row : Row) → Contains (map (λ (group : KeyGroup SidedRow). shown_cells group.key) groups) (key_in store t row) → key_in store t row ≡ key
      → (group : KeyGroup SidedRow) × Contains groups group × (key_of group ≡ key)
  group_of side key row has is = let found = map_contains (λ (group : KeyGroup SidedRow). shown_cells group.key) groups (key_in store t row) has in (found.0, found.1, found.2 ∙ is)

  some_group : (key : List Value) (one two : Option Row) → IsRowThere store old t key one → IsRowThere store new t key two → one ≢ two
      → (group : KeyGroup SidedRow) × Contains groups group × (key_of group ≡ key)
  some_group key None None was is apart = absurd (apart refl)
  some_group key (Some row) two was is apart = group_of Before key row (are.all Before row was.0) was.1
  some_group key None (Some row) was is apart = group_of Afterwards key row (are.all Afterwards row is.0) is.1

  module _ (old_apart : AreApartBy store old t) (new_apart : AreApartBy store new t) where
    all_of : (key : List Value) (one two : Option Row) → IsRowThere store old t key one → IsRowThere store new t key two → one ≢ two
        → (alteration : Alteration) × Contains (flat_map (altered_in t) groups) alteration × (whose store alteration ≡ (t, key))
    all_of key one two was is apart = by (differ (option_copied (first group there)) (option_copied (second group there))) refl
      where
        found : (group : KeyGroup SidedRow) × Contains groups group × (key_of group ≡ key)
        found = some_group key one two was is apart

        group : KeyGroup SidedRow
        group = found.0

        there : Contains groups group
        there = found.1

        same_one : one ≡ option_copied (first group there)
        same_one = row_once store old t key old_apart one (option_copied (first group there)) was
            (subst (λ k. IsRowThere store old t k (option_copied (first group there))) found.2 (row_before group there (option_copied (first group there)) refl))

        same_two : two ≡ option_copied (second group there)
        same_two = row_once store new t key new_apart two (option_copied (second group there)) is
            (subst (λ k. IsRowThere store new t k (option_copied (second group there))) found.2 (row_afterwards group there (option_copied (second group there)) refl))

        by : (b : Bool) → differ (option_copied (first group there)) (option_copied (second group there)) ≡ b
            → (alteration : Alteration) × Contains (flat_map (altered_in t) groups) alteration × (whose store alteration ≡ (t, key))
        by true told = (
          made group there,
          contains_flat_map (altered_in t) groups group (made group there) there (adds group there told),
          (is_altered group there told).1 ∙ (λ i. (t, found.2 i)),
        )
        by false told = absurd (apart (same_one ∙ one_row_told (option_copied (first group there)) (option_copied (second group there)) told ∙ sym same_two))

    one_at_most : (b : Bool) (one : Alteration) → AllPairs (λ x y. whose store x ≢ whose store y) (if b then one ∷ [] else [])
    one_at_most true one = λ i j d below within. absurd (omega (arith, below, within))
    one_at_most false one = λ i j d below within. absurd (omega (arith, below, within))

    -- they are the alterations of the table
    pub are_alterations : AreAlterationsIn store old new t (flat_map (altered_in t) groups)
    are_alterations = record {
      only = all_from_members (IsAlteration store old new) (flat_map (altered_in t) groups) (λ one has.
          (let from = in_flat_map (altered_in t) groups one has in (alteration_in from.0 from.1 one from.2).0));
      here = all_from_members (λ (one : Alteration). one.table ≡ t) (flat_map (altered_in t) groups) (λ one has.
          (let from = in_flat_map (altered_in t) groups one has in (alteration_in from.0 from.1 one from.2).2));
      all = all_of;
      once = pairs_of_flat_map (λ (one later : KeyGroup SidedRow). slice_cmp value_cmp (key_of one) (key_of later) ≡ Less) (λ (x y : Alteration). whose store x ≢ whose store y)
          (altered_in t) groups are.rising
          (λ group. one_at_most (differ (option_copied (first_of Before group.items.items)) (option_copied (first_of Afterwards group.items.items))) _)
          (λ one later x y has_one has_later rises has_x has_y same.
          not_below (key_of one) (key_of later) rises
          (ap (λ (p : TableId × List Value). p.1) (sym (alteration_in one has_one x has_x).1 ∙ same ∙ (alteration_in later has_later y has_y).1)));
    }
