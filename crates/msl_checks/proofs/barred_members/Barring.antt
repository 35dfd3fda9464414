-- Who tell another entity are those of the associations' constraints and of the link fragments, and who are known are the barred.
use Rattle.std.proofs.Common.{◌≡◌, ◌⊎◌, ◌↔◌, inl, inr, List, false, true≢false, Contains, map, refl, sym, ap, subst, ◌∙◌}
use Rattle.std.specs.BTreeSet.{IsEmpty, contains}
use Rattle.std.specs.BTreeMap.{is_at}
use Rattle.std.specs.List.{list_any}
use Rattle.emc_base.proofs.Mapped.{contains_map}
use Rattle.emc_base.proofs.Numbered.{map_contains}
use Rattle.round_trip.specs.Words.{ColId, LinkFragment, Pair, Schema, TableId}
use Rattle.round_trip.specs.FailsAt.{IsHostedAt}
use Rattle.round_trip.specs.soundness.mappings.Joined.{Member, TellsOther, col, prop}
use Rattle.member_groups.specs.declared.joined_groups.groups.Groups.{Groups}
use Rattle.member_groups.specs.joined_groups.Groups.{AreGroups}
use Rattle.msl_checks.specs.barred_members.Added.{Adds, Constrains, Each, Hosts, HostsAt}
use Rattle.member_groups.specs.joined_groups.Labels.{label_cmp, label_of}
use Rattle.msl_checks.specs.barred_members.Told.{TellsBarred}
use Rattle.msl_checks.specs.declared.barred_members.barred.Barred.{Barred}
use Rattle.msl_checks.proofs.barred_members.Adding.{adds_both}
use Rattle.member_groups.proofs.joined_groups.Labelled.{one_label}

module _ (schema : Schema) where
  -- told by a constraint, or by a link fragment
  abbrev IsSource : Member → Type 0
  IsSource member = Each Constrains schema.model.assocs member ⊎ Each (Hosts schema) schema.mapping.links member

  -- one of the partner's columns, as one of its pairs
  hosts_at : (t : TableId) (c : ColId) (table : TableId) (own partner : List Pair) → table ≡ t → (IsHostedAt schema t own × Contains (map (λ (pair : Pair). pair.col) partner) c)
      ↔ HostsAt schema table own partner (col t c)
  hosts_at t c table own partner same = (
    λ hosts.
        (let pair = map_contains (λ (pair : Pair). pair.col) partner c hosts.1 in
        let Hosted : TableId → Type 0 = λ other. IsHostedAt schema other own in
        (subst Hosted (sym same) hosts.0, (pair.0, pair.1, λ i. col (sym same i) (sym pair.2 i)))),
    λ hosts.
        (let pair : Pair = hosts.1.0 in
        let is : col t c ≡ col table pair.col = hosts.1.2 in
        let column : pair.col ≡ c = cc in
        let Hosted : TableId → Type 0 = λ other. IsHostedAt schema other own in
        (subst Hosted same hosts.0, subst (Contains (map (λ (other : Pair). other.col) partner)) column (contains_map (λ (other : Pair). other.col) partner pair hosts.1.1))),
  )

  -- who tells another entity does by a constraint or by a link fragment
  told_by : (member : Member) → TellsOther schema member → IsSource member
  told_by (prop p) dependent = inl (dependent.assoc, dependent.is_assoc, (dependent.constraint, dependent.constrained, (p, dependent.among, refl)))
  told_by (col t c) hosts = inr (
    hosts.fragment,
    hosts.is_fragment,
    elim hosts.partner [
      | inl first ↦ inl ((hosts_at t c hosts.fragment.table hosts.fragment.first hosts.fragment.second hosts.to_table).0 first)
      | inr second ↦ inr ((hosts_at t c hosts.fragment.table hosts.fragment.second hosts.fragment.first hosts.to_table).0 second)
    ],
  )

  -- a column to which a link fragment writes is one of its table
  in_table : (t : TableId) (c : ColId) (fragment : LinkFragment) → Hosts schema fragment (col t c) → fragment.table ≡ t
  in_table t c fragment hosts = elim hosts [
    | inl first ↦ let is : col t c ≡ col fragment.table first.1.0.col = first.1.2 in cc
    | inr second ↦ let is : col t c ≡ col fragment.table second.1.0.col = second.1.2 in cc
  ]

  -- and the other way
  tells : (member : Member) → IsSource member → TellsOther schema member
  tells (prop p) (inl (assoc, has, (constraint, constrained, (q, among, is)))) =
      let same : q ≡ p = cc in
      record { assoc = assoc; constraint = constraint; is_assoc = has; constrained = constrained; among = subst (Contains constraint.dependent) same among }
  tells (prop p) (inr (fragment, has, hosts)) = absurd (elim hosts [
    | inl first ↦ let never : prop p ≡ col fragment.table first.1.0.col = first.1.2 in cc
    | inr second ↦ let never : prop p ≡ col fragment.table second.1.0.col = second.1.2 in cc
  ])
  tells (col t c) (inl (assoc, has, (constraint, constrained, (q, among, is)))) = absurd cc
  tells (col t c) (inr (fragment, has, hosts)) =
      let table : fragment.table ≡ t = in_table t c fragment hosts in
      record {
        fragment = fragment;
        is_fragment = has;
        to_table = table;
        partner = elim hosts [
          | inl first ↦ inl ((hosts_at t c fragment.table fragment.first fragment.second table).1 first)
          | inr second ↦ inr ((hosts_at t c fragment.table fragment.second fragment.first table).1 second)
        ];
      }

  -- no label is known at first; who are known when those of the constraints and of the link fragments have come are the barred
  pub tells_barred : (empty between after : Barred) → AreGroups schema empty.groups → IsEmpty empty.labels → Adds (Each Constrains schema.model.assocs) empty between
      → Adds (Each (Hosts schema) schema.mapping.links) between after → TellsBarred schema after
  tells_barred empty between after are_groups none first second = λ member.
      let added = adds_both (Each Constrains schema.model.assocs) (Each (Hosts schema) schema.mapping.links) empty between after first second in
      let label = label_of after.groups member in
      let known : label ≡ label_of empty.groups member = ap (λ (groups : Groups). label_of groups member) added.groups in
      let never : contains label_cmp empty.labels label ≡ false = ap (list_any (is_at (label_cmp label))) none in (
        λ is. elim ((added.labels label).0 is) [
          | inl old ↦ absurd (true≢false (sym old ∙ never))
          | inr by ↦ (by.0, tells by.0 by.1, (one_label schema empty.groups are_groups by.0 member).0 (by.2 ∙ known))
        ],
        λ barred. (added.labels label).1 (inr (barred.0, told_by barred.0 barred.1, (one_label schema empty.groups are_groups barred.0 member).1 barred.2 ∙ sym known)),
      )
