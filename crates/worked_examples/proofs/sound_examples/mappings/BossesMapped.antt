-- People with bosses, in a column of their own table and in a table of links: the mappings are sound.
use Rattle.std.proofs.Common.{◌≡◌, inl, inr, [], ◌∷◌, List, refl, arith}
use Rattle.std.specs.List.{AllByRecursion}
use Rattle.std.specs.Prelude.{◌==◌, Contains, map, if◌then◌else◌}
use Rattle.round_trip.specs.Words.{TableId, Mult, Pair, Schema, key_columns}
use Rattle.round_trip.specs.FailsAt.{IsHostedAt}
use Rattle.edm_types.specs.declared.model.Mult.TheVariants.{Many}
use Rattle.edm_types.specs.IsA.{same}
use Rattle.worked_examples.specs.Ids.{type_id, set_id, prop_id, table_id, col_id, assoc_id, pair_of}
use Rattle.worked_examples.specs.people.People.{people_set}
use Rattle.worked_examples.specs.bosses.Bosses.{bossed, bosses, all_people, boss_links}
use Rattle.worked_examples.specs.bosses.JoinedBosses.{joined, joined_links}
use Rattle.round_trip.specs.soundness.mappings.Mappings.{IsSoundFragment, IsSoundSchema}
use Rattle.round_trip.specs.soundness.mappings.Owners.{Owner, set, assoc, IsJoined}
use Rattle.worked_examples.proofs.sound_examples.Lists.{all}
use Rattle.worked_examples.proofs.sound_examples.mappings.Schemas.{LinkFits, mapping_from, off_key}
use Rattle.worked_examples.proofs.sound_examples.mappings.Mappings.{LinkIsTold}
use Rattle.worked_examples.proofs.sound_examples.mappings.FragmentFacts.{fragment_from}
use Rattle.worked_examples.proofs.sound_examples.mappings.LinkFacts.{links_from}
use Rattle.worked_examples.proofs.sound_examples.models.Bosses as model
use Rattle.worked_examples.proofs.sound_examples.stores.SoundStores as stores

-- the columns of the pairs are the table's key
pub hosted_at : (schema : Schema) (table : TableId) (pairs : List Pair) → AllByRecursion (λ pair. Contains (key_columns schema.store table) pair.col) pairs
    → AllByRecursion (Contains (map (λ pair. pair.col) pairs)) (key_columns schema.store table) → IsHostedAt schema table pairs
hosted_at schema table pairs each whole = record {
  all = all (λ pair. Contains (key_columns schema.store table) pair.col) pairs each;
  whole = all (Contains (map (λ pair. pair.col) pairs)) (key_columns schema.store table) whole;
}

module _ (mult : Mult) where
  hosted_people : IsSoundFragment (bossed mult) all_people
  hosted_people = fragment_from (bossed mult) all_people refl ((people_set, refl, same (type_id 0)), tt) (((λ e. e), refl), (((λ e. e), omega arith), tt)) tt

  -- the table is that of the people, at whose end the links are hosted
  hosted_told : LinkIsTold (bossed mult) (λ t c. prop_id 0) (λ t. set (set_id 0)) boss_links (bosses mult)
  hosted_told = record {
    first = λ hosted. (refl, refl);
    second = λ hosted. (refl, refl);
    joined = λ by. off_key (assoc (assoc_id 0) ≡ set (set_id 0)) (col_id 0 ∷ []) (col_id 2) refl (by.columns.all 1 (pair_of 0 2) (omega arith));
  }

  hosted_links : LinkFits (bossed mult) (λ t c. prop_id 0) (λ t. set (set_id 0)) boss_links
  hosted_links = (
    bosses mult,
    refl,
    links_from (bossed mult) boss_links (bosses mult) refl tt (((λ e. e), refl), (((λ e. e), refl), tt)) refl
        (inl (hosted_at (bossed mult) (table_id 0) (pair_of 0 0 ∷ []) ((0, omega arith, refl), tt) ((0, omega arith, refl), tt))),
    hosted_told,
  )

  pub hosted_sound : IsSoundSchema (bossed mult)
  hosted_sound = record {
    model = model.sound mult;
    store = stores.bossed;
    mapping = mapping_from (bossed mult) (λ t c. prop_id 0) (λ t. set (set_id 0)) refl ((hosted_people, (refl, refl)), tt) (hosted_links, tt);
  }

-- the table of links is the association's, and the other that of the people
abbrev joined_owner : TableId → Owner
joined_owner t = if t.index == 0 then set (set_id 0) else assoc (assoc_id 0)

joined_people : IsSoundFragment joined all_people
joined_people = fragment_from joined all_people refl ((people_set, refl, same (type_id 0)), tt) (((λ e. e), refl), (((λ e. e), omega arith), tt)) tt

is_joined : IsJoined joined joined_links (bosses Many)
is_joined = record {
  columns = hosted_at joined (table_id 1) (pair_of 0 0 ∷ pair_of 0 1 ∷ []) ((0, omega arith, refl), ((1, omega arith, refl), tt)) ((0, omega arith, refl), ((1, omega arith, refl), tt));
  first = λ e. absurd (cc);
  second = λ e. absurd (cc);
}

-- no end hosts the links: its column is not the whole key
joined_told : LinkIsTold joined (λ t c. prop_id 0) joined_owner joined_links (bosses Many)
joined_told = record {
  first = λ hosted. (refl, off_key (set (set_id 0) ≡ assoc (assoc_id 0)) (col_id 0 ∷ []) (col_id 1) refl (hosted.whole 1 (col_id 1) (omega arith)));
  second = λ hosted. (refl, off_key (set (set_id 0) ≡ assoc (assoc_id 0)) (col_id 1 ∷ []) (col_id 0) refl (hosted.whole 0 (col_id 0) (omega arith)));
  joined = λ by. refl;
}

own_links : LinkFits joined (λ t c. prop_id 0) joined_owner joined_links
own_links = (bosses Many, refl, links_from joined joined_links (bosses Many) refl tt (((λ e. e), refl), (((λ e. e), refl), tt)) refl (inr (inr is_joined)), joined_told)

pub joined_sound : IsSoundSchema joined
joined_sound = record {
  model = model.sound Many;
  store = stores.joined;
  mapping = mapping_from joined (λ t c. prop_id 0) joined_owner refl ((joined_people, (refl, refl)), tt) (own_links, tt);
}
