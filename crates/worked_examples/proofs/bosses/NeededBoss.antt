-- Two people who need one boss each.
use Rattle.std.proofs.Common.{◌≡◌, ◌≢◌, ℕ, List, [], ◌∷◌, refl, sym, ◌∙◌, arith}
use Rattle.std.specs.Prelude.{pos}
use Rattle.round_trip.specs.Words.{Value, Whole, Link, AtMostOne, HasCount, AreLegalLinks}
use Rattle.edm_types.specs.declared.model.Mult.TheVariants.{One}
use Rattle.edm_types.specs.IsA.{same}
use Rattle.worked_examples.specs.Ids.{type_id, assoc_id}
use Rattle.worked_examples.specs.bosses.Bosses.{bosses, bossed_model, boss_of}
use Rattle.worked_examples.specs.bosses.NeededBoss.{pair_with, EachOthersBossIsLegal, MissingBossIsNot}
use Rattle.worked_examples.proofs.facts.Small.{any_one, at_most_one}
use Rattle.worked_examples.proofs.bosses.Bosses.{unnamed, two_unnamed, two_stand, two_own_keys, links_differ, is_link, has_ends, legal_bossed}

abbrev links : List Link
links = boss_of (pos 1) (pos 2) ∷ boss_of (pos 2) (pos 1) ∷ []

abbrev key : ℕ → List Value
key id = Whole (pos id) ∷ []

keys_differ : (one other : ℕ) → one ≢ other → key one ≢ key other
keys_differ one other differ equal = differ (cc)

-- the two links are of two people
at_most : (id : ℕ) → AtMostOne (λ (link : Link). link.first ≡ key id) links
at_most id = at_most_one (λ (link : Link). link.first ≡ key id) links
    (((λ first second. absurd (keys_differ 1 2 (omega arith) (first ∙ sym second))), tt), (tt, tt))

pub each_others_boss_is_legal : EachOthersBossIsLegal
each_others_boss_is_legal = legal_bossed One two_unnamed links (record {
  stand = two_stand One;
  own_keys = two_own_keys One;
  shapes = (is_link One 1 2, (is_link One 2 1, tt));
  ends = (
    has_ends One two_unnamed links (0, omega arith, refl) (1, omega arith, refl),
    (has_ends One two_unnamed links (1, omega arith, refl) (0, omega arith, refl), tt),
  );
  once = ((links_differ 1 2 2 1 (λ equal. absurd (omega (arith, equal))), tt), (tt, tt));
  partners = (
    ((0, boss_of (pos 1) (pos 2), omega arith, refl, refl), at_most 1),
    (((1, boss_of (pos 2) (pos 1), omega arith, refl, refl), at_most 2), tt),
  );
})

-- the second person would have a link of the first
pub missing_boss_is_not : MissingBossIsNot
missing_boss_is_not legal =
    let legal_links : AreLegalLinks (bossed_model One) (pair_with (boss_of (pos 1) (pos 2) ∷ [])) (bosses One) (boss_of (pos 1) (pos 2) ∷ []) =
    legal.links (assoc_id 0) (bosses One) refl refl in
    let count : HasCount One (λ (link : Link). link.first ≡ key 2) (boss_of (pos 1) (pos 2) ∷ []) = legal_links.first_partners 1 (unnamed 2) (omega arith) (same (type_id 0)) in
    keys_differ 1 2 (omega arith) (any_one (λ (link : Link). link.first ≡ key 2) (boss_of (pos 1) (pos 2)) count.0)
