-- The numbers of groups tell which properties and columns are in one group, and which are joined.
use Rattle.std.proofs.Common.{◌≡◌, ◌↔◌, inl, inr, ℕ, ◌<◌, List, [], length, get_or, slice_get, Option, Some, None, IsSome, true≢false, refl, sym, ap, subst, ◌∙◌, arith}
use Rattle.std.specs.List.{IsDistinct}
use Rattle.std.specs.Option.{option_map_or}
use Rattle.std.specs.Prelude.{option_and_then}
use Rattle.std.proofs.lemmas.Bool.{cases_eq, cases_lt}
use Rattle.std.proofs.lemmas.Map.Keys.{apart_from_distinct}
use Rattle.std.proofs.lemmas.Option.{get_or_from_slice_get, same_Some, slice_get_within}
use Rattle.emc_base.proofs.Lists.{at_once, item_at}
use Rattle.emc_base.proofs.facts.Found.{some_found}
use Rattle.round_trip.specs.Words.{GroupId, Schema, Table, TableId, At}
use Rattle.round_trip.specs.soundness.mappings.Joined.{IsNoKey, Joined, Member, col, prop}
use Rattle.round_trip.specs.soundness.mappings.Joined as joined
use Rattle.round_trip.specs.soundness.Lookups.{columns_of}
use Rattle.member_groups.specs.joined_groups.Groups.{AreGroups, group_of}
use Rattle.member_groups.specs.joined_groups.Labels.{label_eq, label_of}
use Rattle.member_groups.specs.declared.joined_groups.labels.Label.{Label}
use Rattle.member_groups.proofs.joined_groups.Grouping.{joined_free}
use Rattle.member_groups.proofs.joined_groups.Labelled.{equals_label, one_label}
use Rattle.member_groups.specs.declared.group_numbers.numbered.Numbered.{Numbered}
use Rattle.member_groups.specs.group_numbers.Joint.{IsJointAt}
use Rattle.member_groups.specs.group_numbers.Numbers.{AreNumbers, number_in}
use Rattle.member_groups.specs.Tested.{AreInOneGroup, IsMember}

-- where no label comes twice it stands at one place
label_once : (labels : List Label) (i j : ℕ) (one other : Label) → IsDistinct label_eq labels → At labels i one → At labels j other → one ≡ other → i ≡ j
label_once labels i j one other apart at_i at_j same = elim (cases_eq i j) [
  | inl here ↦ here
  | inr there ↦ elim (cases_lt i j) [
    | inl below ↦ absurd (clash i j one other below at_i at_j same)
    | inr above ↦ absurd (clash j i other one (omega (arith, there, above)) at_j at_i (sym same))
  ]
]
  where
    clash : (a b : ℕ) (x y : Label) → a < b → At labels a x → At labels b y → x ≡ y → ⊥
    clash a b x y below at_a at_b is =
        let never = apart_from_distinct label_eq labels a b x apart below (slice_get_within labels b y at_b) in
        let first : get_or labels a x ≡ x = get_or_from_slice_get labels a x x at_a in
        let second : get_or labels b x ≡ y = get_or_from_slice_get labels b y x at_b in
        true≢false (sym ((equals_label (get_or labels a x) (get_or labels b x)).1 (first ∙ is ∙ sym second)) ∙ never)

-- what is no part of a key is a property or a column
pub free_member : (schema : Schema) (member : Member) → IsNoKey schema member → IsMember schema member
free_member schema (prop p) (declared, at, free) = slice_get_within schema.model.props p.index declared at
free_member schema (col t c) (column, at, free) = slice_get_within (columns_of schema.store t) c.index column at

module _ (schema : Schema) (numbered : Numbered) (are_groups : AreGroups schema numbered.groups) (are : AreNumbers numbered.groups schema.model schema.store numbered.numbers) where
  abbrev number : Member → Option GroupId
  number = number_in numbered.numbers

  abbrev label : Member → Label
  label = label_of numbered.groups

  -- the columns of a table have numbers
  abbrev HasColumns : TableId → List GroupId → Type 0
  HasColumns t columns = (table : Table) × At schema.store.tables t.index table × (length columns ≡ length table.cols)
      × ((i : ℕ) (group : GroupId) → At columns i group → At are.labels group.index (label (col t (record { index = i }))))

  has_columns : (t : TableId) (columns : List GroupId) → At numbered.numbers.tables t.index columns → HasColumns t columns
  has_columns t columns at = let has = are.tables.each t.index columns at in (has.0, has.1, has.2.size, has.2.each)

  -- the label of what has a number stands at it
  label_here : (member : Member) (group : GroupId) → number member ≡ Some group → At are.labels group.index (label member)
  label_here (prop p) group is = are.props.each p.index group is
  label_here (col t c) group is = by (slice_get numbered.numbers.tables t.index) refl is
    where
      by : (found : Option (List GroupId)) → slice_get numbered.numbers.tables t.index ≡ found → option_and_then (λ columns. slice_get columns c.index) found ≡ Some group
          → At are.labels group.index (label (col t c))
      by (Some columns) at here = (has_columns t columns at).3 c.index group here
      by None at here = absurd (let never : None ≡ Some group = here in cc)

  -- just properties and columns have numbers
  pub some_number : (member : Member) → IsMember schema member → IsSome (number member)
  some_number (prop p) within =
      let size : length numbered.numbers.props ≡ length schema.model.props = are.props.size in
      let found = item_at numbered.numbers.props p.index (omega (arith, within, size)) in
      some_found (slice_get numbered.numbers.props p.index) found.0 found.1
  some_number (col t c) within = by (slice_get schema.store.tables t.index) refl within
    where
      by : (found : Option Table) → slice_get schema.store.tables t.index ≡ found → c.index < length (option_map_or (λ entry. entry.cols) found []) → IsSome (number (col t c))
      by None at inside = absurd (let none : c.index < 0 = inside in omega (arith, none))
      by (Some table) at inside =
          let below : t.index < length schema.store.tables = slice_get_within schema.store.tables t.index table at in
          let count : length numbered.numbers.tables ≡ length schema.store.tables = are.tables.size in
          let columns = item_at numbered.numbers.tables t.index (omega (arith, below, count)) in
          let has = has_columns t columns.0 columns.1 in
          let same : has.0 ≡ table = at_once schema.store.tables t.index has.0 table has.1 at in
          let size : length columns.0 ≡ length table.cols = has.2 ∙ ap (λ (one : Table). length one.cols) same in
          let here : c.index < length table.cols = inside in
          let found = item_at columns.0 c.index (omega (arith, here, size)) in
          let P : Option (List GroupId) → Type 0 = λ o. IsSome (option_and_then (λ some. slice_get some c.index) o) in
          subst P (sym columns.1) (some_found (slice_get columns.0 c.index) found.0 found.1)

  pub only_number : (member : Member) → IsSome (number member) → IsMember schema member
  only_number (prop p) some = by (slice_get numbered.numbers.props p.index) refl some
    where
      by : (found : Option GroupId) → slice_get numbered.numbers.props p.index ≡ found → IsSome found → p.index < length schema.model.props
      by None at none = absurd cc
      by (Some group) at found =
          let size : length numbered.numbers.props ≡ length schema.model.props = are.props.size in
          let inside : p.index < length numbered.numbers.props = slice_get_within numbered.numbers.props p.index group at in
          omega (arith, inside, size)
  only_number (col t c) some = by (slice_get numbered.numbers.tables t.index) refl some
    where
      within : (columns : List GroupId) → HasColumns t columns → (found : Option GroupId) → slice_get columns c.index ≡ found → IsSome found → IsMember schema (col t c)
      within columns has None at none = absurd cc
      within columns has (Some group) at found =
          let inside : c.index < length columns = slice_get_within columns c.index group at in
          let size : length columns ≡ length (has.0).cols = has.2 in
          let P : Option Table → Type 0 = λ o. c.index < length (option_map_or (λ entry. entry.cols) o []) in
          subst P (sym has.1) (omega (arith, inside, size))

      by : (found : Option (List GroupId)) → slice_get numbered.numbers.tables t.index ≡ found → IsSome (option_and_then (λ columns. slice_get columns c.index) found)
          → IsMember schema (col t c)
      by None at none = absurd cc
      by (Some columns) at found = within columns (has_columns t columns at) (slice_get columns c.index) refl found

  -- each number is below the count of groups
  pub number_below : (member : Member) (group : GroupId) → number member ≡ Some group → group.index < numbered.numbers.count
  number_below member group is =
      let inside : group.index < length are.labels = slice_get_within are.labels group.index (label member) (label_here member group is) in
      let count : numbered.numbers.count ≡ length are.labels = are.count in
      omega (arith, inside, count)

  -- two have one number just where they have one label
  one_number : (one other : Member) (first second : GroupId) → number one ≡ Some first → number other ≡ Some second → (first ≡ second) ↔ (label one ≡ label other)
  one_number one other first second is_first is_second = (
    λ same.
        (let P : GroupId → Type 0 = λ group. At are.labels group.index (label one) in
        at_once are.labels second.index (label one) (label other) (subst P same (label_here one first is_first)) (label_here other second is_second)),
    λ same.
        (let place = label_once are.labels first.index second.index (label one) (label other) are.unique (label_here one first is_first) (label_here other second is_second) same in
        λ i. record { index = place i }),
  )

  -- just those in one group have the same
  pub same_number : (one other : Member) → IsMember schema one → IsMember schema other → (number one ≡ number other) ↔ AreInOneGroup schema one other
  same_number one other is_one is_other = by (number one) (number other) refl refl (some_number one is_one) (some_number other is_other)
    where
      by : (a b : Option GroupId) → number one ≡ a → number other ≡ b → IsSome a → IsSome b → (number one ≡ number other) ↔ AreInOneGroup schema one other
      by (Some first) (Some second) is_first is_second some more = (
        λ same. (one_label schema numbered.groups are_groups one other).0
            ((one_number one other first second is_first is_second).0 (same_Some first second (sym is_first ∙ same ∙ is_second))),
        λ together. is_first
            ∙ ap Some ((one_number one other first second is_first is_second).1 ((one_label schema numbered.groups are_groups one other).1 together))
            ∙ sym is_second,
      )
      by (Some first) None is_first is_second some none = absurd cc
      by None b is_first is_second none more = absurd cc

  -- what has this number and is no part of a key
  pub joint_parts : (member : Member) (k : ℕ) → IsJointAt numbered member k → IsNoKey schema member × (number member ≡ Some (record { index = k }))
  joint_parts member k is = by (group_of numbered.groups member) refl is
    where
      by : (found : Option ℕ) → group_of numbered.groups member ≡ found → option_and_then (λ _. number member) found ≡ Some (record { index = k })
          → IsNoKey schema member × (number member ≡ Some (record { index = k }))
      by None at here = absurd (let never : None ≡ Some (record { index = k }) = here in cc)
      by (Some group) at here = (are_groups.only member (some_found (group_of numbered.groups member) group at), here)

  -- just what is joined to something has the number of its group
  pub joint_told : (member other : Member) (k : ℕ) → number member ≡ Some (record { index = k }) → Joined schema member other ↔ IsJointAt numbered other k
  joint_told member other k is = (to, from)
    where
      to : Joined schema member other → IsJointAt numbered other k
      to are_joined = by (group_of numbered.groups other) (number other) refl refl (are_groups.some other free) (some_number other (free_member schema other free))
        where
          free : IsNoKey schema other
          free = (joined_free schema member other are_joined).1

          by : (a : Option ℕ) (b : Option GroupId) → group_of numbered.groups other ≡ a → number other ≡ b → IsSome a → IsSome b → IsJointAt numbered other k
          by (Some group) (Some own) is_group is_own some more =
              let one = (one_number member other (record { index = k }) own is is_own).1 ((one_label schema numbered.groups are_groups member other).1 (inr are_joined)) in
              let P : Option ℕ → Type 0 = λ found. option_and_then (λ _. number other) found ≡ Some (record { index = k }) in
              subst P (sym is_group) (is_own ∙ ap Some (sym one))
          by None b is_group is_own none more = absurd cc
          by (Some group) None is_group is_own some none = absurd cc

      from : IsJointAt numbered other k → Joined schema member other
      from at =
          let parts = joint_parts other k at in
          let group : GroupId = record { index = k } in
          elim ((one_label schema numbered.groups are_groups member other).0 ((one_number member other group group is parts.1).0 refl)) [
            | inl same ↦ subst (λ (one : Member). Joined schema one other) (sym same) (joined.same other parts.0)
            | inr are_joined ↦ are_joined
          ]
