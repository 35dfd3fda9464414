-- The groups that are told are those of the schema.
use Rattle.std.proofs.Common.{◌≡◌, ◌⊎◌, ◌↔◌, inl, inr, ℕ, ◌<◌, List, length, Some, true, Contains, refl, sym, ap, subst, ◌∙◌, arith}
use Rattle.std.specs.BTreeSet.{BTreeSet, contains}
use Rattle.std.specs.Ordering.{nat_cmp}
use Rattle.std.proofs.lemmas.Bool.{cases_eq}
use Rattle.emc_base.specs.declared.value.EnumKind.{EnumKind}
use Rattle.emc_base.proofs.Lists.{item_at}
use Rattle.round_trip.specs.Words.{GroupId, Prop, PropId, Schema, Value, Whole, At}
use Rattle.round_trip.specs.soundness.mappings.Joined.{IsNoKey, Joined, Member, col, prop}
use Rattle.member_groups.specs.joined_groups.Groups.{AreGroups}
use Rattle.member_groups.specs.declared.mapping_asks.asks.Ask.{Ask}
use Rattle.member_groups.specs.declared.mapping_asks.member.MemberId.TheVariants as id
use Rattle.member_groups.specs.declared.group_numbers.numbered.Numbered.{Numbered}
use Rattle.member_groups.specs.mapping_asks.Adding.{Each, EachBelow, HasKey, Tells}
use Rattle.member_groups.specs.mapping_asks.Asks.{Asks, member_at}
use Rattle.member_groups.specs.group_constants.Constants.{IsValueOf, ListsGroups}
use Rattle.member_groups.specs.group_numbers.Joint.{IsJointAt}
use Rattle.member_groups.specs.MemberGroups.{TellsMemberGroups}
use Rattle.member_groups.specs.group_numbers.Numbers.{AreNumbers, number_in}
use Rattle.member_groups.specs.mapping_asks.Several.{StandsWithTwo}
use Rattle.member_groups.specs.Tested.{IsConstant, IsOfEnum, IsTested, MakesTested, SharesEnum}
use Rattle.member_groups.specs.Causes.{AreTested, AsksGroup, IsSharer, MarksGroup}
use Rattle.member_groups.proofs.Asked.{asked_listed, asked_tests, asks_what, compared_listed, compares_with, implied_asks, written_twice}
use Rattle.member_groups.proofs.Marks.{HasCause, kind_from, kind_told, mark_from, mark_told}
use Rattle.member_groups.proofs.group_constants.Entries.{numbers_from, numbers_told}
use Rattle.member_groups.proofs.Numbering.{free_member, joint_parts, joint_told, number_below, only_number, same_number, some_number}

module _ (schema : Schema) (numbered : Numbered) (are_groups : AreGroups schema numbered.groups) (are : AreNumbers numbered.groups schema.model schema.store numbered.numbers) where
  -- a property that is in a group is one of the model
  below : (p : PropId) (k : ℕ) → IsJointAt numbered (prop p) k → p.index < length schema.model.props
  below p k at = free_member schema (prop p) (joint_parts schema numbered are_groups are (prop p) k at).0

  -- two properties in a group are joined
  two_joined : (p other : PropId) (k : ℕ) → IsJointAt numbered (prop p) k → Joined schema (prop p) (prop other) ↔ IsJointAt numbered (prop other) k
  two_joined p other k at = joint_told schema numbered are_groups are (prop p) (prop other) k (joint_parts schema numbered are_groups are (prop p) k at).1

  abbrev Shares : ℕ × id.the_data → Type 0
  Shares = EachBelow (IsSharer numbered) (length schema.model.props)

  -- an enumeration that shares its group with another property
  two_share : (p : PropId) (enumeration : EnumKind) (k : ℕ) → IsOfEnum schema p enumeration → IsJointAt numbered (prop p) k → StandsWithTwo Shares k → SharesEnum schema p
  two_share p enumeration k of_enum at (a, b, (i, i_below, (at_i, a_is)), (j, j_below, (at_j, b_is)), apart) = elim (cases_eq p.index i) [
    | inl same ↦ (
      enumeration,
      record { index = j },
      of_enum,
      λ one. apart (a_is ∙ (let index : i ≡ j = sym same ∙ ap (λ (q : PropId). q.index) one in λ n. id.Prop (record { index = index n })) ∙ sym b_is),
      (two_joined p (record { index = j }) k at).1 at_j,
    )
    | inr other ↦ (
      enumeration,
      record { index = i },
      of_enum,
      λ one. other (ap (λ (q : PropId). q.index) one),
      (two_joined p (record { index = i }) k at).1 at_i,
    )
  ]

  shares_two : (p : PropId) (k : ℕ) → IsJointAt numbered (prop p) k → SharesEnum schema p → StandsWithTwo Shares k
  shares_two p k at (enumeration, other, of_enum, apart, are_joined) =
      let at_other = (two_joined p other k at).0 are_joined in (
        id.Prop p,
        id.Prop other,
        (p.index, below p k at, (at, refl)),
        (other.index, below other k at_other, (at_other, refl)),
        λ same. apart (let index : p.index ≡ other.index = cc in λ i. record { index = index i }),
      )

  module _ (asks : List Ask) (are_asks : Tells (Contains asks) (Asks schema.mapping)) (tested : BTreeSet ℕ)
      (are_tested : AreTested schema.model schema.mapping numbered asks tested) (member : Member) (k : ℕ) (here : number_in numbered.numbers member ≡ Some (record { index = k })) where
    joint : (other : Member) → Joined schema member other ↔ IsJointAt numbered other k
    joint other = joint_told schema numbered are_groups are member other k here

    -- what is asked of something joined to it is asked of the group
    group_asked : (other : Member) → Joined schema member other → (ask : Ask) × Asks schema.mapping ask × (member_at ask.on ≡ other) → Each (AsksGroup numbered) asks k
    group_asked other are_joined (ask, asked, is) =
        let At_k : Member → Type 0 = λ one. IsJointAt numbered one k in
        (ask, (are_asks ask).1 asked, subst At_k (sym is) ((joint other).0 are_joined))

    abbrev Marks : ℕ → Type 0
    Marks = EachBelow (MarksGroup schema.model numbered are_tested.twice are_tested.shared) (length schema.model.props)

    -- a property that makes its group tested by itself
    marks_tested : Marks k → IsTested schema member
    marks_tested (i, i_below, (declared, at, mark)) =
        let p : PropId = record { index = i } in
        let told = mark_told numbered are_tested.twice are_tested.shared p declared.kind k mark in (
          prop p,
          (joint (prop p)).1 told.0,
          elim told.1 [
            | inl written ↦ inr (inl ((written_twice schema p).0 ((are_tested.are_twice p.index).0 written)))
            | inr by_kind ↦ let enum = kind_told declared.kind (contains nat_cmp are_tested.shared k) by_kind in
                elim enum.2 [
                  | inl shared ↦ inr (inr (inl (two_share p enum.0 k (declared, at, enum.1) told.0 ((are_tested.are_shared k).0 shared))))
                  | inr one ↦ inr (inr (inr (enum.0, (declared, at, enum.1), one)))
                ]
          ],
        )

    tested_marks : (other : Member) → Joined schema member other → MakesTested schema other → Each (AsksGroup numbered) asks k ⊎ Marks k
    tested_marks (col t c) are_joined (inl asked) = inl (group_asked (col t c) are_joined (asked_listed schema (col t c) asked))
    tested_marks (col t c) are_joined (inr by) = inl (group_asked (col t c) are_joined (implied_asks schema (col t c) by))
    tested_marks (prop p) are_joined (inl asked) = inl (group_asked (prop p) are_joined (asked_listed schema (prop p) asked))
    tested_marks (prop p) are_joined (inr by) = inr (elim by [
      | inl twice ↦ mark free.0 free.1 (inl ((are_tested.are_twice p.index).1 ((written_twice schema p).1 twice)))
      | inr by_kind ↦ elim by_kind [
        | inl shares ↦ enum shares.2 (inl ((are_tested.are_shared k).1 (shares_two p k at shares)))
        | inr one ↦ enum one.1 (inr one.2)
      ]
    ])
      where
        at : IsJointAt numbered (prop p) k
        at = (joint (prop p)).0 are_joined

        free : IsNoKey schema (prop p)
        free = (joint_parts schema numbered are_groups are (prop p) k at).0

        mark : (declared : Prop) → At schema.model.props p.index declared → HasCause numbered are_tested.twice are_tested.shared p declared.kind k → Marks k
        mark declared there cause = (p.index, below p k at, (declared, there, mark_from numbered are_tested.twice are_tested.shared p declared.kind k at cause))

        enum : {enumeration : EnumKind} → IsOfEnum schema p enumeration → (contains nat_cmp are_tested.shared k ≡ true) ⊎ (length enumeration.members ≡ 1) → Marks k
        enum {enumeration} (declared, there, is) either = mark declared there (inr (kind_from declared.kind (contains nat_cmp are_tested.shared k) (enumeration, is, either)))

    -- just the tested groups are known as tested
    pub tested_told : HasKey tested k ↔ IsTested schema member
    tested_told = (
      λ has. elim ((are_tested.are_tested k).0 has) [
        | inl asked ↦ (
          member_at asked.0.on,
          (joint (member_at asked.0.on)).1 asked.2,
          asked_tests schema (member_at asked.0.on) (asks_what schema asked.0 ((are_asks asked.0).0 asked.1)),
        )
        | inr marks ↦ marks_tested marks
      ],
      λ is. (are_tested.are_tested k).1 (tested_marks is.0 is.1 is.2),
    )

    -- just the constants of the group are its values
    pub values_told : (value : Value) → IsValueOf schema.model numbered asks tested (k, value) ↔ IsConstant schema member value
    values_told value = (to, from)
      where
        to : IsValueOf schema.model numbered asks tested (k, value) → IsConstant schema member value
        to (inl (ask, has, (at, constant))) =
            inl (member_at ask.on, (joint (member_at ask.on)).1 at, compares_with schema ask value ((are_asks ask).0 has) constant)
        to (inr (i, i_below, (declared, group, there, at, numbers))) =
            let told = numbers_told tested group (k, value) declared.kind numbers in
            let number : k ≡ group.index = ap (λ (e : ℕ × Value). e.0) told.3.2 in
            let Has : ℕ → Type 0 = λ n. HasKey tested n in
            let joint_at : IsJointAt numbered (prop (record { index = i })) k = at ∙ (λ n. Some (record { index = sym number n })) in
            inr (
              tested_told.0 (subst Has (sym number) told.2),
              (
                record { index = i },
                told.0,
                told.3.0,
                (joint (prop (record { index = i }))).1 joint_at,
                (declared, there, told.1),
                told.3.1,
                ap (λ (e : ℕ × Value). e.1) told.3.2,
              ),
            )

        from : IsConstant schema member value → IsValueOf schema.model numbered asks tested (k, value)
        from (inl (other, are_joined, compared)) =
            let listed = compared_listed schema other value compared in
            let At_k : Member → Type 0 = λ one. IsJointAt numbered one k in
            inl (listed.0, (are_asks listed.0).1 listed.1, (subst At_k (sym listed.2) ((joint other).0 are_joined), listed.3))
        from (inr (is_tested, (p, enumeration, number, are_joined, (declared, there, is), among, same))) =
            let at = (joint (prop p)).0 are_joined in
            let group : GroupId = record { index = k } in
            let entry : (k, value) ≡ (k, Whole number) = λ n. (k, same n) in
            inr (
              p.index,
              below p k at,
              (
                declared,
                group,
                there,
                at,
                numbers_from tested group (k, value) declared.kind (enumeration, is, tested_told.1 is_tested, (number, among, entry)),
              ),
            )

  -- numbers, tested groups and constants together tell the groups
  pub tells_groups : (asks : List Ask) → Tells (Contains asks) (Asks schema.mapping) → (tested : BTreeSet ℕ) → AreTested schema.model schema.mapping numbered asks tested
      → (constants : List (List Value)) → ListsGroups schema.model numbered asks tested constants
      → TellsMemberGroups schema (record { numbers = numbered.numbers; tested = tested; constants = constants })
  tells_groups asks are_asks tested are_tested constants lists = record {
    some = some_number schema numbered are_groups are;
    only = only_number schema numbered are_groups are;
    same = same_number schema numbered are_groups are;
    constants = λ member group is.
        (let within : group.index < numbered.numbers.count = number_below schema numbered are_groups are member group is in
        let size : length constants ≡ numbered.numbers.count = lists.size in
        let found = item_at constants group.index (omega (arith, within, size)) in
        let just = lists.each group.index found.0 found.1 in
        let same = values_told asks are_asks tested are_tested member group.index is in (
          found.0,
          found.1,
          record {
            sorted = just.sorted;
            each = λ value. (λ has. (same value).0 ((just.each value).0 has), λ constant. (just.each value).1 ((same value).1 constant));
          },
        ));
    tested = λ member group is. tested_told asks are_asks tested are_tested member group.index is;
  }
