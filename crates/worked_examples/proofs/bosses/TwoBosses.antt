-- A person with two bosses: both stand in one cell.
use Rattle.std.proofs.Common.{inl, inr, ℕ, List, [], ◌∷◌, refl, arith}
use Rattle.std.specs.Prelude.{Contains, pos}
use Rattle.round_trip.specs.Words.{Whole, Link, IsLegal, DemandsCell}
use Rattle.edm_types.specs.declared.model.Mult.TheVariants.{Many}
use Rattle.worked_examples.specs.Ids.{table_id, col_id}
use Rattle.worked_examples.specs.bosses.Bosses.{bosses, bossed, bossed_model, bossed_table, boss_column, boss_links, boss_of}
use Rattle.worked_examples.specs.bosses.TwoBosses.{two_bosses, TwoBossesClash}
use Rattle.worked_examples.proofs.facts.Writings.{link_writing}
use Rattle.worked_examples.proofs.bosses.Bosses.{links_differ, is_link, three_unnamed, three_stand, three_own_keys, has_ends, legal_bossed}

abbrev links : List Link
links = boss_of (pos 1) (pos 2) ∷ boss_of (pos 1) (pos 3) ∷ []

legal : IsLegal (bossed_model Many) two_bosses
legal = legal_bossed Many three_unnamed links (record {
  stand = three_stand Many;
  own_keys = three_own_keys Many;
  shapes = (is_link Many 1 2, (is_link Many 1 3, tt));
  ends = (
    has_ends Many three_unnamed links (0, omega arith, refl) (1, omega arith, refl),
    (has_ends Many three_unnamed links (0, omega arith, refl) (2, omega arith, refl), tt),
  );
  once = ((links_differ 1 2 1 3 (λ one. omega arith), tt), (tt, tt));
  partners = (tt, (tt, (tt, tt)));
})

-- where the first of the people is linked to a boss, the boss is demanded
demands : (id : ℕ) → Contains links (boss_of (pos 1) (pos id)) → DemandsCell (bossed Many) two_bosses (table_id 0) (Whole (pos 1) ∷ []) (col_id 2) (Whole (pos id))
demands id linked = (
  link_writing (bossed Many) boss_links (bosses Many) (boss_of (pos 1) (pos id)),
  record {
    writes = inr (boss_links, bosses Many, boss_of (pos 1) (pos id), record { mapped = (0, omega arith, refl); is_assoc = refl; stands = linked }, refl);
    to_table = refl;
    to_key = refl;
  },
  inl (1, omega arith, refl),
)

pub two_bosses_clash : TwoBossesClash
two_bosses_clash other = record {
  legal = legal;
  fails = record {
    t = table_id 0;
    table = bossed_table;
    col = col_id 2;
    column = boss_column;
    key = Whole (pos 1) ∷ [];
    one = Whole (pos 2);
    two = Whole (pos 3);
    has_column = record { is_table = refl; is_column = refl };
    demands_one = demands 2 (0, omega arith, refl);
    demands_two = demands 3 (1, omega arith, refl);
    different = λ equal. absurd (cc);
    place_is = refl;
  };
}
