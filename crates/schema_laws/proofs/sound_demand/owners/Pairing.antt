-- How a set that owns a table pairs its key with the primary key.
use Rattle.std.proofs.Common.{◌≡◌, inl, inr, ℕ, suc, ◌<◌, List, [], ◌∷◌, ◌++◌, length, get_or, All, Any, Contains, refl, sym, ap, subst, ◌∙◌, arith}
use Rattle.std.specs.Option.{option_map_or}
use Rattle.std.proofs.lemmas.List.{get_or_append_left, length-append, map-append}
use Rattle.std.proofs.lemmas.List.Elements.{All-cons, All-contains, All-head, All-nil, All-tail}
use Rattle.emc_base.specs.Lists.{AreApart}
use Rattle.emc_base.proofs.Lists.{all_from_members}
use Rattle.emc_base.proofs.Mapped.{contains_at, contains_map}
use Rattle.emc_base.proofs.Numbered.{map_contains}
use Rattle.round_trip.specs.Words.{SetId, PropId, TableId, ColId, EntitySet, Assoc, End, LinkFragment, Pair, Schema, At, key_props, key_columns, TypeId}
use Rattle.round_trip.specs.FailsAt.{IsHostedAt}
use Rattle.round_trip.specs.soundness.models.Constraints.{IsSoundAssoc, IsSoundEnd}
use Rattle.round_trip.specs.soundness.mappings.Fragments.{WritesEndKey}
use Rattle.round_trip.specs.soundness.Lookups.{set_key}
use Rattle.round_trip.specs.soundness.mappings.Mappings.{IsSoundSchema}
use Rattle.round_trip.specs.soundness.mappings.Owners.{Owns, SetWrites}
use Rattle.schema_laws.specs.state_demand.Owners.{props_in}
use Rattle.schema_laws.specs.state_demand.WellWritten.{cols_of}
use Rattle.schema_laws.proofs.state_demand.lists.Lists.{any_of, of_any}
use Rattle.schema_laws.proofs.sound_demand.Fitting.{sound_fragment, sound_link}
use Rattle.schema_laws.proofs.sound_demand.Keys.{inherits_keys}

-- no column stands twice in a part of a list where none does in the whole
pub apart_first : {X : Type 0} (xs ys : List X) → AreApart (xs ++ ys) → AreApart xs
apart_first xs ys apart i j d below within =
    let longer = length-append xs ys in
    let i_in : i < length xs = omega (arith, below, within) in
    let at : (k : ℕ) → k < length xs → get_or (xs ++ ys) k d ≡ get_or xs k d = λ k inside. get_or_append_left xs ys d k inside in
    λ same. apart i j d below (omega (arith, within, longer)) (at i i_in ∙ same ∙ sym (at j within))

pub apart_second : {X : Type 0} (xs ys : List X) → AreApart (xs ++ ys) → AreApart ys
apart_second [] ys apart = apart
apart_second (x ∷ xs) ys apart = apart_second xs ys (λ i j d below within. apart (suc i) (suc j) d (omega (arith, below)) (omega (arith, within)))

-- a key is written to a table's primary key by these pairs, among others
pub record PairsKey (schema : Schema) (t : TableId) (key : List PropId) (pairs : List Pair) : Type 0 where
  pub cols : All (λ col. Any (λ pair. (pair.col ≡ col) × Contains key pair.prop) pairs) (key_columns schema.store t)
  pub props : All (λ prop. Any (λ pair. (pair.prop ≡ prop) × Contains (key_columns schema.store t) pair.col) pairs) key
  pub once : AreApart (cols_of pairs)

-- the pairs of some columns
pub record ChosenFor (key : List PropId) (pairs : List Pair) (cols : List ColId) : Type 0 where
  pub pairing : List Pair
  pub are : cols_of pairing ≡ cols
  pub chosen : All (λ pair. Contains pairs pair × Contains key pair.prop) pairing

pub choose : (key : List PropId) (pairs : List Pair) (cols : List ColId) → All (λ col. Any (λ pair. (pair.col ≡ col) × Contains key pair.prop) pairs) cols
    → ChosenFor key pairs cols
choose key pairs [] all = record { pairing = []; are = refl; chosen = All-nil (λ (pair : Pair). Contains pairs pair × Contains key pair.prop) }
choose key pairs (col ∷ cols) all =
    let Written : ColId → Type 0 = λ one. Any (λ (pair : Pair). (pair.col ≡ one) × Contains key pair.prop) pairs in
    let Chosen : Pair → Type 0 = λ pair. Contains pairs pair × Contains key pair.prop in
    let Here : Pair → Type 0 = λ pair. (pair.col ≡ col) × Contains key pair.prop in
    let found = of_any Here pairs (All-head Written col cols all) in
    let rest = choose key pairs cols (All-tail Written col cols all) in
    record {
      pairing = found.0 ∷ rest.pairing;
      are = λ k. found.2.0 k ∷ rest.are k;
      chosen = All-cons Chosen found.0 rest.pairing (found.1, found.2.1) rest.chosen;
    }

module _ (schema : Schema) (sound : IsSoundSchema schema) where
  -- the key of a set
  pub key_of_set : (s : SetId) (set : EntitySet) → At schema.model.sets s.index set → set_key schema.model s ≡ key_props schema.model set.element
  key_of_set s set here = ap (λ found. option_map_or (λ (entry : EntitySet). key_props schema.model entry.element) found []) here

  pub sound_assoc : (fragment : LinkFragment) (assoc : Assoc) → At schema.model.assocs fragment.assoc.index assoc → IsSoundAssoc schema.model assoc
  sound_assoc fragment assoc here =
      All-contains (IsSoundAssoc schema.model) schema.model.assocs assoc sound.model.assocs (contains_at schema.model.assocs fragment.assoc.index assoc here)

  -- the key at an end is that of the end's set
  pub end_key : (end : End) → IsSoundEnd schema.model end → key_props schema.model end.ty ≡ set_key schema.model end.set
  end_key end is =
      let set : EntitySet = is.under.0 in
      (inherits_keys schema.model sound.model).same end.ty set.element is.under.2 ∙ sym (key_of_set end.set set is.under.1)

  -- what is written at an end is a part of the key there
  pub written_part : (ty : TypeId) (pairs : List Pair) → WritesEndKey schema.model ty pairs → (pair : Pair) → Contains pairs pair
      → Contains (key_props schema.model ty) pair.prop
  written_part ty pairs writes pair has =
      All-contains (Contains (key_props schema.model ty)) (props_in pairs) pair.prop writes.only (contains_map (λ (one : Pair). one.prop) pairs pair has)

  by_set : (t : TableId) (s : SetId) (pairs : List Pair) → SetWrites schema t s pairs → PairsKey schema t (set_key schema.model s) pairs
  by_set t s pairs by =
      let is = sound_fragment schema sound by.fragment by.is_fragment in
      let P : TableId → SetId → List Pair → Type 0 = λ u one ps. PairsKey schema u (set_key schema.model one) ps in
      let told : P by.fragment.table by.fragment.set by.fragment.pairs = record { cols = is.key.cols; props = is.key.props; once = is.once.cols } in
      subst (λ ps. P t s ps) (sym by.pairs_are) (subst (λ one. P t one by.fragment.pairs) by.of_set (subst (λ u. P u by.fragment.set by.fragment.pairs) by.to_table told))

  -- one end of a hosted link fragment
  by_end : (t : TableId) (end : End) (pairs : List Pair) → IsSoundEnd schema.model end → IsHostedAt schema t pairs → WritesEndKey schema.model end.ty pairs
      → AreApart (cols_of pairs)
      → PairsKey schema t (set_key schema.model end.set) pairs
  by_end t end pairs is hosted writes apart =
      let keys : List ColId = key_columns schema.store t in
      let key : List PropId = key_props schema.model end.ty in
      let P : List PropId → Type 0 = λ props. PairsKey schema t props pairs in
      subst P (end_key end is) (record {
        cols = all_from_members (λ (col : ColId). Any (λ (pair : Pair). (pair.col ≡ col) × Contains key pair.prop) pairs) keys (λ col has.
            let found = map_contains (λ (pair : Pair). pair.col) pairs col (All-contains (Contains (cols_of pairs)) keys col hosted.whole has) in
            let among : Contains key found.0.prop = written_part end.ty pairs writes found.0 found.1 in
            any_of (λ (pair : Pair). (pair.col ≡ col) × Contains key pair.prop) pairs found.0 found.1 (found.2, among));
        props = all_from_members (λ (prop : PropId). Any (λ (pair : Pair). (pair.prop ≡ prop) × Contains keys pair.col) pairs) key (λ prop has.
            let found = map_contains (λ (pair : Pair). pair.prop) pairs prop (All-contains (Contains (props_in pairs)) key prop writes.all has) in
            let Among : Pair → Type 0 = λ pair. Contains keys pair.col in
            any_of (λ (pair : Pair). (pair.prop ≡ prop) × Contains keys pair.col) pairs found.0 found.1 (found.2, All-contains Among pairs found.0 hosted.all found.1));
        once = apart;
      })

  -- the columns of both ends
  pub first_once : (fragment : LinkFragment) → AreApart (cols_of (fragment.first ++ fragment.second)) → AreApart (cols_of fragment.first)
  first_once fragment apart =
      apart_first (cols_of fragment.first) (cols_of fragment.second) (subst AreApart (map-append (λ (pair : Pair). pair.col) fragment.first fragment.second) apart)

  pub second_once : (fragment : LinkFragment) → AreApart (cols_of (fragment.first ++ fragment.second)) → AreApart (cols_of fragment.second)
  second_once fragment apart =
      apart_second (cols_of fragment.first) (cols_of fragment.second) (subst AreApart (map-append (λ (pair : Pair). pair.col) fragment.first fragment.second) apart)

  -- a set that owns a table pairs its key
  pub pairs_key : (t : TableId) (s : SetId) (pairs : List Pair) → Owns schema t s pairs → PairsKey schema t (set_key schema.model s) pairs
  pairs_key t s pairs (inl by) = by_set t s pairs by
  pairs_key t s pairs (inr (fragment, assoc, maps, inl (hosted, is_set, pairs_are))) =
      let is = sound_link schema sound fragment maps.is_fragment assoc maps.is_assoc in
      let P : SetId → List Pair → Type 0 = λ one ps. PairsKey schema t (set_key schema.model one) ps in
      subst (λ ps. P s ps) (sym pairs_are) (subst (λ one. P one fragment.first) is_set
      (by_end t assoc.first fragment.first (sound_assoc fragment assoc maps.is_assoc).first hosted is.first (first_once fragment is.once.cols)))
  pairs_key t s pairs (inr (fragment, assoc, maps, inr (hosted, is_set, pairs_are))) =
      let is = sound_link schema sound fragment maps.is_fragment assoc maps.is_assoc in
      let P : SetId → List Pair → Type 0 = λ one ps. PairsKey schema t (set_key schema.model one) ps in
      subst (λ ps. P s ps) (sym pairs_are) (subst (λ one. P one fragment.second) is_set
      (by_end t assoc.second fragment.second (sound_assoc fragment assoc maps.is_assoc).second hosted is.second (second_once fragment is.once.cols)))
