-- The arrows in groups of parts are just those from alterations to those that they wait for.
use Rattle.std.proofs.Common.{◌≡◌, ◌≢◌, ⊎_elim, inl, inr, ◌↔◌, ℕ, List, [], ◌∷◌, map, All, Bool, true, false, Contains, refl, sym, ap, subst, ◌∙◌, nat_eq, eqb-true}
use Rattle.std.specs.Prelude.{if◌then◌else◌}
use Rattle.std.specs.List.{flat_map}
use Rattle.std.proofs.lemmas.Bool.{eqb-false}
use Rattle.std.proofs.lemmas.List.Elements.{All-contains}
use Rattle.emc_base.specs.Lists.{At}
use Rattle.emc_base.proofs.FoundItems.{contains_flat_map}
use Rattle.emc_base.proofs.Joined.{in_flat_map}
use Rattle.emc_base.proofs.Mapped.{contains_map}
use Rattle.emc_base.proofs.Members.{contains_cons_cases, contains_head, contains_nil, in_map}
use Rattle.round_trip.specs.Words.{ForeignKey, Null, Value, cells_of}
use Rattle.keyed_rows.specs.row_groups.KeyGroups.{AreKeyGroups, with_key}
use Rattle.keyed_rows.specs.row_groups.Shown.{shown_cells, shown_group}
use Rattle.keyed_rows.specs.declared.row_groups.groups.KeyGroup.{KeyGroup}
use Rattle.row_orders.specs.declared.alteration.Alteration.{Alteration}
use Rattle.row_orders.specs.Waiting.{WaitsToGo, WaitsToRefer}
use Rattle.row_plans.specs.Roles.{all_parts, cols_in}
use Rattle.row_plans.specs.Waits.{HasArrow, WaitsBy, arrows_between, arrows_by, arrows_from, arrows_in, arrows_in_groups, is_target}
use Rattle.row_plans.specs.declared.waiting.arrows.Arrow.{Arrow}
use Rattle.row_plans.specs.declared.waiting.parts.Part.{Part}
use Rattle.row_plans.specs.declared.waiting.parts.Role.{Role}
use Rattle.row_plans.specs.declared.waiting.parts.Role.TheVariants.{Comes, Refers, Goes, Referred}
use Rattle.row_plans.proofs.waiting.OfKey.{has_its_key, key_has}
use Rattle.row_plans.proofs.waiting.Playing.{IsPart, Plays, all_values, are_values, is_part, part_listed}

-- where a test fails
in_unless : {X : Type 0} (b : Bool) (xs : List X) (y : X) → Contains (if b then [] else xs) y → (b ≡ false) × Contains xs y
in_unless true xs y has = absurd (contains_nil y has)
in_unless false xs y has = (refl, has)

in_where : {X : Type 0} (b : Bool) (xs : List X) (y : X) → Contains (if b then xs else []) y → (b ≡ true) × Contains xs y
in_where true xs y has = (refl, has)
in_where false xs y has = absurd (contains_nil y has)

apart_test : (m n : ℕ) → m ≢ n → nat_eq m n ≡ false
apart_test m n apart = by_value (nat_eq m n) refl
  where
    by_value : (b : Bool) → nat_eq m n ≡ b → nat_eq m n ≡ false
    by_value true is = absurd (apart (eqb-true m n is))
    by_value false is = is

only_one : (arrow other : Arrow) → Contains (arrow ∷ []) other → other ≡ arrow
only_one arrow other has = ⊎_elim
    (λ (is : other ≡ arrow). is)
    (λ (no_more : Contains [] other). absurd (contains_nil other no_more))
    (contains_cons_cases arrow [] other has)

-- which roles an arrow stands between, and where it leads
pub data IsBetween (target other : Role) (m n : ℕ) (arrow : Arrow) : Type 0 where
  to_refer : target ≡ Comes → other ≡ Refers → arrow ≡ record { from = n; to = m } → IsBetween target other m n arrow
  to_go : target ≡ Goes → other ≡ Referred → arrow ≡ record { from = m; to = n } → IsBetween target other m n arrow

between : (target other : Role) (m n : ℕ) (arrow : Arrow) → Contains (arrows_by target other m n) arrow → IsBetween target other m n arrow
between Comes Refers m n arrow has = to_refer refl refl (only_one (record { from = n; to = m }) arrow has)
between Goes Referred m n arrow has = to_go refl refl (only_one (record { from = m; to = n }) arrow has)
between Comes Comes m n arrow has = absurd (contains_nil arrow has)
between Comes Goes m n arrow has = absurd (contains_nil arrow has)
between Comes Referred m n arrow has = absurd (contains_nil arrow has)
between Goes Comes m n arrow has = absurd (contains_nil arrow has)
between Goes Goes m n arrow has = absurd (contains_nil arrow has)
between Goes Refers m n arrow has = absurd (contains_nil arrow has)
between Refers other m n arrow has = absurd (contains_nil arrow has)
between Referred other m n arrow has = absurd (contains_nil arrow has)

-- the arrow stands between a part that is referred to and another of the same cells
pub record IsPair (keyed : List (List Value × Part)) (arrow : Arrow) : Type 0 where
  pub cells : List Value
  pub target : Part
  pub has_target : Contains keyed (cells, target)
  pub other : Part
  pub has_other : Contains keyed (cells, other)
  pub target_role : is_target target.role ≡ true
  pub between : Contains (arrows_between target other) arrow

module _ (keyed : List (List Value × Part)) (groups : List (KeyGroup Part)) (are : AreKeyGroups keyed (map shown_group groups)) where
  -- the parts of a group are those of its key
  own_items : (group : KeyGroup Part) → Contains groups group → group.items.items ≡ with_key keyed (shown_cells group.key)
  own_items group has = All-contains (λ (one : List Value × List Part). one.1 ≡ with_key keyed one.0) (map shown_group groups) (shown_group group) are.items
      (contains_map shown_group groups group has)

  -- what stands in a group has its key
  in_group : (group : KeyGroup Part) → Contains groups group → (part : Part) → Contains group.items.items part → Contains keyed (shown_cells group.key, part)
  in_group group has part among = let P : List Part → Type 0 = λ parts. Contains parts part in
      has_its_key keyed (shown_cells group.key) part (subst P (own_items group has) among)

  -- an arrow in the groups stands between two parts
  pub is_pair : (arrow : Arrow) → Contains (arrows_in_groups groups) arrow → IsPair keyed arrow
  is_pair arrow has =
      let found = in_flat_map (λ (group : KeyGroup Part). arrows_in group.items.items) groups arrow has in
      let group : KeyGroup Part = found.0 in
      let parts : List Part = group.items.items in
      let target = in_flat_map (arrows_from parts) parts arrow found.2 in
      let from = in_where (is_target target.0.role) (flat_map (arrows_between target.0) parts) arrow target.2 in
      let other = in_flat_map (arrows_between target.0) parts arrow from.1 in
      record {
        cells = shown_cells group.key;
        target = target.0;
        has_target = in_group group found.1 target.0 target.1;
        other = other.0;
        has_other = in_group group found.1 other.0 other.1;
        target_role = from.0;
        between = other.2;
      }

  -- each key of a part has a group
  group_of : (cells : List Value) (part : Part) → Contains keyed (cells, part) → (group : KeyGroup Part) × Contains groups group × (shown_cells group.key ≡ cells)
  group_of cells part has =
      let Grouped : List Value × Part → Type 0 = λ one. Contains (map (λ (group : List Value × List Part). group.0) (map shown_group groups)) one.0 in
      let shown = in_map (λ (group : List Value × List Part). group.0) (map shown_group groups) cells (All-contains Grouped keyed (cells, part) are.all has) in
      let found = in_map shown_group groups shown.0 shown.1 in
      (found.0, found.1, ap (λ (group : List Value × List Part). group.0) found.2 ∙ shown.2)

  -- in which all parts of the key stand
  among_own : (group : KeyGroup Part) → Contains groups group → (cells : List Value) → shown_cells group.key ≡ cells → (part : Part) → Contains keyed (cells, part)
      → Contains group.items.items part
  among_own group has cells same part stands =
      let P : List Value → Type 0 = λ key. Contains keyed (key, part) in
      let Q : List Part → Type 0 = λ parts. Contains parts part in
      subst Q (sym (own_items group has)) (key_has keyed (shown_cells group.key) part (subst P (sym same) stands))

  -- and each such arrow stands in them
  pub pair_listed : (arrow : Arrow) → IsPair keyed arrow → Contains (arrows_in_groups groups) arrow
  pair_listed arrow pair =
      let found = group_of pair.cells pair.target pair.has_target in
      let group : KeyGroup Part = found.0 in
      let parts : List Part = group.items.items in
      let is_from : flat_map (arrows_between pair.target) parts ≡ arrows_from parts pair.target =
      ap (λ (b : Bool). if b then flat_map (arrows_between pair.target) parts else []) (sym pair.target_role) in
      let P : List Arrow → Type 0 = λ list. Contains list arrow in
      contains_flat_map (λ (one : KeyGroup Part). arrows_in one.items.items) groups group arrow found.1
      (contains_flat_map (arrows_from parts) parts pair.target arrow (among_own group found.1 pair.cells found.2 pair.target pair.has_target)
      (subst P is_from (contains_flat_map (arrows_between pair.target) parts pair.other arrow
      (among_own group found.1 pair.cells found.2 pair.other pair.has_other) pair.between)))

module _ (key : ForeignKey) (alterations : List Alteration) where
  -- of a row that comes and one that refers to it
  refers_by : (cells : List Value) (target other : Part) → IsPart key alterations cells target → IsPart key alterations cells other
      → target.role ≡ Comes → other.role ≡ Refers → target.place ≢ other.place → WaitsBy key alterations other.place target.place
  refers_by cells target other of_target of_other role other_role apart =
      let P : Role → Type 0 = λ role. Plays key role of_target.one of_target.row in
      let Q : Role → Type 0 = λ role. Plays key role of_other.one of_other.row in
      let stands : Plays key Comes of_target.one of_target.row = subst P role of_target.plays in
      let shows : Plays key Refers of_other.one of_other.row = subst Q other_role of_other.plays in
      let own : cells ≡ cells_of of_other.row key.from_cols = of_other.are ∙ ap (λ one. cells_of of_other.row (cols_in key one)) other_role in
      let there : cells ≡ cells_of of_target.row key.to_cols = of_target.are ∙ ap (λ one. cells_of of_target.row (cols_in key one)) role in
      let R : List Value → Type 0 = λ values. All (λ value. value ≢ Null) values in
      let waits : WaitsToRefer key of_other.one of_target.one = record {
        from = shows.0;
        row = of_other.row;
        shows = shows.1;
        to = stands.0;
        target = of_target.row;
        missing = stands.1;
        comes = stands.2;
        refers = (subst R own (all_values cells of_other.whole), sym there ∙ own);
      } in
      record { apart = λ same. apart (sym same); one = of_other.one; at_one = of_other.at; other = of_target.one; at_other = of_target.at; by_key = inl waits }

  -- of a row that goes and one that referred to it
  goes_by : (cells : List Value) (target other : Part) → IsPart key alterations cells target → IsPart key alterations cells other
      → target.role ≡ Goes → other.role ≡ Referred → target.place ≢ other.place → WaitsBy key alterations target.place other.place
  goes_by cells target other of_target of_other role other_role apart =
      let P : Role → Type 0 = λ role. Plays key role of_target.one of_target.row in
      let Q : Role → Type 0 = λ role. Plays key role of_other.one of_other.row in
      let stood : Plays key Goes of_target.one of_target.row = subst P role of_target.plays in
      let showed : Plays key Referred of_other.one of_other.row = subst Q other_role of_other.plays in
      let own : cells ≡ cells_of of_other.row key.from_cols = of_other.are ∙ ap (λ one. cells_of of_other.row (cols_in key one)) other_role in
      let there : cells ≡ cells_of of_target.row key.to_cols = of_target.are ∙ ap (λ one. cells_of of_target.row (cols_in key one)) role in
      let R : List Value → Type 0 = λ values. All (λ value. value ≢ Null) values in
      let waits : WaitsToGo key of_target.one of_other.one = record {
        to = stood.0;
        target = of_target.row;
        stood = stood.2;
        gone = stood.1;
        from = showed.0;
        row = of_other.row;
        showed = showed.1;
        refers = (subst R own (all_values cells of_other.whole), sym there ∙ own);
      } in
      record { apart = apart; one = of_target.one; at_one = of_target.at; other = of_other.one; at_other = of_other.at; by_key = inr waits }

  abbrev parts : List (List Value × Part)
  parts = all_parts key alterations

  -- an arrow between two parts is one to an alteration that is waited for
  waits_by : (arrow : Arrow) → IsPair parts arrow → WaitsBy key alterations arrow.from arrow.to
  waits_by arrow pair =
      let one = is_part key alterations pair.cells pair.target pair.has_target in
      let two = is_part key alterations pair.cells pair.other pair.has_other in
      let m : ℕ = pair.target.place in
      let n : ℕ = pair.other.place in
      let split = in_unless (nat_eq m n) (arrows_by pair.target.role pair.other.role m n) arrow pair.between in
      let apart : m ≢ n = λ same. eqb-false m n split.0 same in
      let P : Arrow → Type 0 = λ it. WaitsBy key alterations it.from it.to in
      elim (between pair.target.role pair.other.role m n arrow split.1) [
        | to_refer role other_role is ↦ subst P (sym is) (refers_by pair.cells pair.target pair.other one two role other_role apart)
        | to_go role other_role is ↦ subst P (sym is) (goes_by pair.cells pair.target pair.other one two role other_role apart)
      ]

  abbrev arrow_of : ℕ → ℕ → Arrow
  arrow_of i j = record { from = i; to = j }

  pair_to_refer : (i j : ℕ) → i ≢ j → (one other : Alteration) → At alterations i one → At alterations j other → WaitsToRefer key one other → IsPair parts (arrow_of i j)
  pair_to_refer i j apart one other at_one at_other waits =
      let cells : List Value = cells_of waits.row key.from_cols in
      let target : Part = record { place = j; role = Comes } in
      let shows : Part = record { place = i; role = Refers } in
      let whole = are_values cells waits.refers.0 in
      let of_target : IsPart key alterations cells target = record {
        one = other;
        at = at_other;
        row = waits.target;
        plays = (waits.to, waits.missing, waits.comes);
        whole = whole;
        are = sym waits.refers.1;
      } in
      let of_other : IsPart key alterations cells shows = record {
        one = one;
        at = at_one;
        row = waits.row;
        plays = (waits.from, waits.shows);
        whole = whole;
        are = refl;
      } in
      let P : Bool → Type 0 = λ b. Contains (if b then [] else arrow_of i j ∷ []) (arrow_of i j) in
      record {
        cells = cells;
        target = target;
        has_target = part_listed key alterations cells target of_target;
        other = shows;
        has_other = part_listed key alterations cells shows of_other;
        target_role = refl;
        between = subst P (sym (apart_test j i (λ same. apart (sym same)))) (contains_head (arrow_of i j) []);
      }

  pair_to_go : (i j : ℕ) → i ≢ j → (one other : Alteration) → At alterations i one → At alterations j other → WaitsToGo key one other → IsPair parts (arrow_of i j)
  pair_to_go i j apart one other at_one at_other waits =
      let cells : List Value = cells_of waits.row key.from_cols in
      let target : Part = record { place = i; role = Goes } in
      let showed : Part = record { place = j; role = Referred } in
      let whole = are_values cells waits.refers.0 in
      let of_target : IsPart key alterations cells target = record {
        one = one;
        at = at_one;
        row = waits.target;
        plays = (waits.to, waits.gone, waits.stood);
        whole = whole;
        are = sym waits.refers.1;
      } in
      let of_other : IsPart key alterations cells showed = record {
        one = other;
        at = at_other;
        row = waits.row;
        plays = (waits.from, waits.showed);
        whole = whole;
        are = refl;
      } in
      let P : Bool → Type 0 = λ b. Contains (if b then [] else arrow_of i j ∷ []) (arrow_of i j) in
      record {
        cells = cells;
        target = target;
        has_target = part_listed key alterations cells target of_target;
        other = showed;
        has_other = part_listed key alterations cells showed of_other;
        target_role = refl;
        between = subst P (sym (apart_test i j apart)) (contains_head (arrow_of i j) []);
      }

  pair_of : (i j : ℕ) → WaitsBy key alterations i j → IsPair parts (arrow_of i j)
  pair_of i j waits = ⊎_elim
      (λ (by : WaitsToRefer key waits.one waits.other). pair_to_refer i j waits.apart waits.one waits.other waits.at_one waits.at_other by)
      (λ (by : WaitsToGo key waits.one waits.other). pair_to_go i j waits.apart waits.one waits.other waits.at_one waits.at_other by)
      waits.by_key

  -- the arrows in groups of all parts
  pub arrows_are_waits : (groups : List (KeyGroup Part)) → AreKeyGroups parts (map shown_group groups) → (i j : ℕ)
      → HasArrow (arrows_in_groups groups) i j ↔ WaitsBy key alterations i j
  arrows_are_waits groups are i j =
      (λ has. waits_by (arrow_of i j) (is_pair parts groups are (arrow_of i j) has), λ waits. pair_listed parts groups are (arrow_of i j) (pair_of i j waits))
