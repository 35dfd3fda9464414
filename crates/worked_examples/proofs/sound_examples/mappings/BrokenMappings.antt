-- Mappings that aren't sound.
use Rattle.std.proofs.Common.{◌≡◌, inl, inr, ℕ, ◌≤◌, [], ◌∷◌, refl, ap, arith}
use Rattle.std.specs.Prelude.{pos, Some, None, Contains, List, codes}
use Rattle.round_trip.specs.Words.{Whole, Kind, Cond, Pair}
use Rattle.emc_base.specs.declared.value.Kind.TheVariants as kind
use Rattle.edm_types.specs.declared.mapping.CondOn.TheVariants as on
use Rattle.edm_types.specs.declared.model.Mult.TheVariants.{ZeroOrOne}
use Rattle.worked_examples.specs.Ids.{type_id, set_id, prop_id, table_id, col_id, pair_of, just, optional}
use Rattle.worked_examples.specs.bosses.Bosses.{bosses, boss_links, boss_column}
use Rattle.worked_examples.specs.staff.Owners.{owner, owner_constraint}
use Rattle.worked_examples.proofs.facts.Small.{here, any_one}
use Rattle.round_trip.specs.soundness.mappings.Joined.{prop, col, HostsPartner, Joined, IsBarred, pair, back}
use Rattle.round_trip.specs.soundness.mappings.Mappings.{IsSoundFragment, IsSoundSchema}
use Rattle.round_trip.specs.soundness.mappings.Owners.{Owner, set}
use Rattle.worked_examples.specs.sound_examples.BrokenMappings as broken
use Rattle.worked_examples.proofs.sound_examples.Names.{other_number, other_prop, other_col}
use Rattle.worked_examples.proofs.sound_examples.Lists.{not_among}
use Rattle.worked_examples.proofs.sound_examples.mappings.BossesMapped.{hosted_at}

pub no_keyless : ¬ IsSoundSchema broken.keyless
no_keyless sound =
    let sound_fragment : IsSoundFragment broken.keyless broken.keyless_fragment = sound.mapping.fragments 0 broken.keyless_fragment (omega arith) in
    let written = any_one (λ (p : Pair). (p.prop ≡ prop_id 0) × Contains (col_id 0 ∷ []) p.col) (pair_of 1 1) (sound_fragment.key.props 0 (prop_id 0) (omega arith)) in
    other_prop (prop_id 1) (prop_id 0) refl written.0

pub no_one_id : ¬ IsSoundSchema broken.one_id
no_one_id sound =
    (sound.mapping.fragments 0 broken.one_id_fragment (omega arith)).no_key_column (col_id 0) (0, broken.is_value (on.Col (col_id 0)) (Whole (pos 1)), omega arith, refl, refl) (here (col_id 0) [])

pub no_wrong_sort : ¬ IsSoundSchema broken.wrong_sort
no_wrong_sort sound =
    ((sound.mapping.fragments 0 broken.wrong_sort_fragment (omega arith)).constants 0 (broken.is_value (on.Prop (prop_id 1)) (Whole (pos 1))) (omega arith) (Whole (pos 1)) refl (kind.Text (Some 20)) refl).0

pub no_short : ¬ IsSoundSchema broken.short
no_short sound =
    let less : 20 ≤ 10 = (sound.mapping.fragments 0 broken.all_people (omega arith)).kinds 1 (pair_of 1 1) (omega arith) (kind.Text (Some 20)) (kind.Text (Some 10)) refl refl in
    absurd (omega arith)

pub no_salaried : ¬ IsSoundSchema broken.salaried
no_salaried sound =
    let among : Contains (prop_id 0 ∷ prop_id 1 ∷ []) (prop_id 2)
    = (sound.mapping.fragments 0 broken.salaried_persons (omega arith)).props (prop_id 2) (inl (2, pair_of 2 3, omega arith, refl, refl)) 0 (just (type_id 0)) (omega arith) in
    not_among (prop_id 0 ∷ prop_id 1 ∷ []) (prop_id 2) (other_prop (prop_id 2) (prop_id 0) refl, (other_prop (prop_id 2) (prop_id 1) refl, tt)) among

pub no_doubled : ¬ IsSoundSchema broken.doubled
no_doubled sound = sound.mapping.places 0 1 [] (omega arith) (omega arith) refl

-- the numbers of two sets
abbrev set_number : Owner → ℕ
set_number (set s) = s.index
set_number other = 0

pub no_crowded : ¬ IsSoundSchema broken.crowded
no_crowded sound =
    let same : set (set_id 0) ≡ set (set_id 1) = sound.mapping.owners (table_id 0) (set (set_id 0)) (set (set_id 1))
    (pair_of 0 0 ∷ pair_of 1 1 ∷ [], inl (record { fragment = broken.all_people; is_fragment = (0, omega arith, refl); to_table = refl; of_set = refl; pairs_are = refl }))
    (pair_of 0 0 ∷ pair_of 1 1 ∷ [], inl (record { fragment = broken.all_others; is_fragment = (1, omega arith, refl); to_table = refl; of_set = refl; pairs_are = refl })) in
    other_number 0 1 refl (ap set_number same)

-- the third column hosts the boss
hosts : HostsPartner broken.one_boss (table_id 0) (col_id 2)
hosts = record {
  fragment = broken.one_boss_links;
  is_fragment = here broken.one_boss_links [];
  to_table = refl;
  partner = inl (hosted_at broken.one_boss (table_id 0) (pair_of 0 0 ∷ []) (here (col_id 0) [], tt) (here (col_id 0) [], tt), here (col_id 2) []);
}

pub no_one_boss : ¬ IsSoundSchema broken.one_boss
no_one_boss sound =
    (sound.mapping.links 0 broken.one_boss_links (omega arith) (bosses ZeroOrOne) refl).barred 0 (broken.is_value (on.Col (col_id 2)) (Whole (pos 1))) (omega arith)
    (Whole (pos 1)) refl (col (table_id 0) (col_id 2), hosts, inl refl)

-- and the property is joined to it
module _ (k : Kind) (conds : List Cond) where
  told_hosts : HostsPartner (broken.told_boss_by k conds) (table_id 0) (col_id 2)
  told_hosts = record {
    fragment = boss_links;
    is_fragment = here boss_links [];
    to_table = refl;
    partner = inl (hosted_at (broken.told_boss_by k conds) (table_id 0) (pair_of 0 0 ∷ []) (here (col_id 0) [], tt) (here (col_id 0) [], tt), here (col_id 2) []);
  }

  told_joined : Joined (broken.told_boss_by k conds) (col (table_id 0) (col_id 2)) (prop (prop_id 2))
  told_joined = back (prop (prop_id 2)) (col (table_id 0) (col_id 2))
      (pair (broken.told_boss_fragment conds) (pair_of 2 2) (0, omega arith, refl) (2, omega arith, refl)
      (optional (type_id 0) (codes "BossId") k, refl, not_among (prop_id 0 ∷ []) (prop_id 2) (other_prop (prop_id 2) (prop_id 0) refl, tt))
      (boss_column, refl, not_among (col_id 0 ∷ []) (col_id 2) (other_col (col_id 2) (col_id 0) refl, tt)))

  told_barred : IsBarred (broken.told_boss_by k conds) (prop (prop_id 2))
  told_barred = (col (table_id 0) (col_id 2), told_hosts, inr told_joined)

pub no_told_boss : ¬ IsSoundSchema broken.told_boss
no_told_boss sound =
    (sound.mapping.fragments 0 (broken.told_boss_fragment broken.boss_is_one) (omega arith)).barred 0 (broken.is_value (on.Prop (prop_id 2)) (Whole (pos 1))) (omega arith)
    (Whole (pos 1)) refl (told_barred kind.Int32 broken.boss_is_one)

pub no_enum_boss : ¬ IsSoundSchema broken.enum_boss
no_enum_boss sound =
    (sound.mapping.fragments 0 (broken.told_boss_fragment []) (omega arith)).enums 2 (pair_of 2 2) (omega arith) (optional (type_id 0) (codes "BossId") broken.enum_kind) refl tt
    (told_barred broken.enum_kind [])

pub no_mapped_owner : ¬ IsSoundSchema broken.mapped_owner
no_mapped_owner sound =
    let independent : Some owner_constraint ≡ None = (sound.mapping.links 0 broken.owner_links (omega arith) owner refl).independent in
    absurd (cc)
