-- A person who is their own boss has the row of one with no boss, where links are written nowhere.
use Rattle.std.proofs.Common.{◌≡◌, inl, inr, List, [], ◌∷◌, refl, arith}
use Rattle.std.specs.Prelude.{Contains, pos}
use Rattle.std.proofs.lemmas.List.Elements.{All-nil}
use Rattle.std.proofs.lemmas.List.Sorted.{IsPermutation-refl, Contains-permutation}
use Rattle.round_trip.specs.Words.{Null, EntityModel, LinkFragment, Link, Row, Tables, rows_in, MetByEntity, Selects, IsLegal, Writing, TablesAre}
use Rattle.edm_types.specs.declared.model.Mult.TheVariants.{Many}
use Rattle.worked_examples.specs.Ids.{type_id, assoc_id, just}
use Rattle.worked_examples.specs.people.People.{people_table, person_row, only_rows}
use Rattle.worked_examples.specs.bosses.Bosses.{bosses, bossed_model, boss_of, with_bosses, all_people}
use Rattle.worked_examples.specs.bosses.BossLost.{unlinked, own_boss, no_boss, BossIsLost}
use Rattle.worked_examples.proofs.facts.Writings.{entity_writing, each_writing, row_made}
use Rattle.worked_examples.proofs.facts.States.{one_row_stored}
use Rattle.worked_examples.proofs.bosses.Bosses.{unnamed, unnamed_stands, is_link, has_ends, legal_bossed}

abbrev model : EntityModel
model = bossed_model Many

abbrev own_link : Link
own_link = boss_of (pos 1) (pos 1)

own_boss_legal : IsLegal model own_boss
own_boss_legal = legal_bossed Many (unnamed 1 ∷ []) (own_link ∷ []) (record {
  stand = (unnamed_stands Many 1 (omega arith), tt);
  own_keys = (tt, tt);
  shapes = (is_link Many 1 1, tt);
  ends = (has_ends Many (unnamed 1 ∷ []) (own_link ∷ []) (0, omega arith, refl) (0, omega arith, refl), tt);
  once = (tt, tt);
  partners = (tt, tt);
})

no_boss_legal : IsLegal model no_boss
no_boss_legal = legal_bossed Many (unnamed 1 ∷ []) [] (record {
  stand = (unnamed_stands Many 1 (omega arith), tt);
  own_keys = (tt, tt);
  shapes = tt;
  ends = tt;
  once = tt;
  partners = (tt, tt);
})

abbrev row : Row
row = person_row (pos 1) Null

abbrev tables : Tables
tables = only_rows (row ∷ [])

abbrev written : Writing
written = entity_writing unlinked all_people (unnamed 1)

selected : Selects model all_people (unnamed 1)
selected = record { picked = (0, just (type_id 0), omega arith, refl, refl); meets = All-nil (λ cond. MetByEntity model (unnamed 1) cond.on cond.test) }

-- whatever the links, the person alone is written
stored : (links : List Link) → TablesAre unlinked (with_bosses (unnamed 1 ∷ []) links) tables
stored links = one_row_stored unlinked (with_bosses (unnamed 1 ∷ []) links) people_table written row (record {
  is_table = refl;
  to_table = refl;
  writes = inl (all_people, unnamed 1, record { mapped = (0, omega arith, refl); stands = (0, omega arith, refl); selected = selected }, refl);
  only = λ writing by. each_writing unlinked (with_bosses (unnamed 1 ∷ []) links) (λ w. w ≡ written) ((λ s. refl, tt), tt) tt writing by;
  made = row_made unlinked people_table written row refl (refl, (refl, tt)) tt (inr (inl (0, omega arith, refl)), (inr (inl (1, omega arith, refl)), tt));
  count = refl;
})

nowhere : ¬ Contains [] own_link
nowhere among = absurd (omega (arith, among.1))

pub boss_is_lost : BossIsLost
boss_is_lost = record {
  legal = own_boss_legal;
  fails = record {
    tables = tables;
    other_tables = tables;
    defined = stored (own_link ∷ []);
    other_defined = stored [];
    same_tables = λ t. IsPermutation-refl (rows_in tables t);
    other_legal = no_boss_legal;
    different = λ equal. nowhere (Contains-permutation (own_link ∷ []) [] own_link (equal.links (assoc_id 0)) (0, omega arith, refl));
    differ = inr (
      assoc_id 0,
      bosses Many,
      record { is_assoc = refl; independent = refl; unmapped = All-nil (λ (fragment : LinkFragment). ¬ (fragment.assoc ≡ assoc_id 0)) },
      inl (own_link, (0, omega arith, refl), nowhere),
      refl,
    );
  };
}
