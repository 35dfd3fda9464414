-- Where patterns match, the values write entities of both regions alike.
use Rattle.std.proofs.Common.{◌≡◌, ◌⊎◌, ⊎_elim, inl, inr, ◌==◌, List, [], ◌∷◌, Contains, Bool, true, refl, sym, ap, subst, ◌∙◌}
use Rattle.emc_base.proofs.Lists.{only_member, only_stands}
use Rattle.emc_base.proofs.Numbered.{map_contains}
use Rattle.round_trip.specs.Words.{SetId, PropId, TableId, ColId, EntityModel, Pair, Prop}
use Rattle.round_trip.specs.soundness.mappings.Joined.{IsNoKey, Joined, col, prop}
use Rattle.round_trip.specs.soundness.mappings.Joined as joined
use Rattle.round_trip.specs.soundness.Kinds.{IsEnum}
use Rattle.schema_laws.proofs.state_demand.writings.Decisions.{so_or_not}
use Rattle.schema_laws.proofs.state_demand.writings.Selecting.{Decides-value}
use Rattle.cells.specs.Limits.{IsWithinLimits}
use Rattle.regions.specs.declared.region.Region.{Region}
use Rattle.regions.specs.declared.pattern.Symbol.{Symbol}
use Rattle.regions.specs.declared.pattern.Symbol.TheVariants as symbol
use Rattle.regions.specs.declared.pattern.Focus.TheVariants as focus
use Rattle.regions.specs.Basis.{Basis}
use Rattle.regions.specs.Patterns.{Valuation, pattern_of, value_under}
use Rattle.regions.specs.Settled.{Settled, free, known, multi, possible, settle}
use Rattle.regions.specs.region_laws.IsBasis.{IsBasis}
use Rattle.schema_laws.proofs.state_demand.lists.Ids.{Decides-prop}
use Rattle.regions.specs.region_laws.pattern.Allowed.{IsAllowed}
use Rattle.regions.specs.region_laws.pattern.Described.{value_in}
use Rattle.regions.specs.region_laws.pattern.Listed.{HasCell}
use Rattle.regions.proofs.region_laws.pattern.Keys.{owned_here}
use Rattle.regions.proofs.region_laws.pattern.Laws.{listed_from, same_group}
use Rattle.regions.proofs.region_laws.pattern.symbols.Origins.{From}
use Rattle.regions.proofs.region_laws.pattern.symbols.Standing.{Stands, StandsFree, StandsInKey, joined_by, listed_prop, prop_stands}
use Rattle.schema_laws.proofs.sound_types.Inherited.{part_of_type}
use Rattle.region_states.specs.conflicts.SameFacts.{are_compatible}
use Rattle.conflict_laws.specs.rival.Alike.{AreComparable, AreWrittenAlike, PatternsMatch}
use Rattle.conflict_laws.specs.rival.RivalValues.{first_values, second_values}
use Rattle.conflict_laws.proofs.rival.Alike.{comparable_back}
use Rattle.conflict_laws.proofs.rival.Clear.{free_value, known_value}
use Rattle.conflict_laws.proofs.rival.Facing.{faced, group_value, key_pair, no_enum}
use Rattle.conflict_laws.proofs.rival.Linked.{end_too}
use Rattle.conflict_laws.proofs.rival.Rivals.{rival_admissible, rival_keys}
use Rattle.conflict_laws.proofs.rival.Rows.{AreMatched, are_matched, matched_back}
use Rattle.conflict_laws.proofs.rival.Shared.{shared_same}

module _ (basis : Basis) (is : IsBasis basis) where
  abbrev model : EntityModel
  model = basis.schema.model

  module _ (limits : IsWithinLimits basis.schema) (s : SetId) (one two : Region) (comparable : AreComparable basis s one two) (matched : AreMatched basis one two) where
    abbrev firsts : Valuation
    firsts = first_values basis one two

    abbrev seconds : Valuation
    seconds = second_values basis one two

    back : AreComparable basis s two one
    back = comparable_back basis s one two comparable

    turned : AreMatched basis two one
    turned = matched_back basis one two matched

    allowed : IsAllowed basis one firsts
    allowed = (rival_admissible basis is s one two limits one two comparable matched).allowed

    allowed_too : IsAllowed basis two seconds
    allowed_too = (rival_admissible basis is s one two limits two one back turned).allowed

    module _ (t : TableId) (c : ColId) (cell other : List Symbol) (has : HasCell (pattern_of basis (focus.Entity one)) t c cell)
        (has_other : HasCell (pattern_of basis (focus.Entity two)) t c other) where
      -- two properties that stand alone
      module _ (p q : PropId) (m n : Bool) (at_one : settle model one.atoms cell ≡ free (symbol.Prop p) m) (at_two : settle model two.atoms other ≡ free (symbol.Prop q) n)
          (alone : cell ≡ symbol.Prop p ∷ []) (alone_too : other ≡ symbol.Prop q ∷ [])
          (several : possible model one.atoms (symbol.Prop p) ≡ multi m) (several_too : possible model two.atoms (symbol.Prop q) ≡ multi n) where
        from : From basis (focus.Entity one) t c (symbol.Prop p)
        from = listed_from basis is (focus.Entity one) t c (symbol.Prop p) (cell, has, only_stands cell (symbol.Prop p) alone)

        from_too : From basis (focus.Entity two) t c (symbol.Prop q)
        from_too = listed_from basis is (focus.Entity two) t c (symbol.Prop q) (other, has_other, only_stands other (symbol.Prop q) alone_too)

        -- parts of keys are one
        keys_same : StandsInKey basis t c p → firsts.prop p ≡ seconds.prop q
        keys_same stands =
            let owned = owned_here basis is s one comparable.is_one (record { t = t; col = c; cell = cell; has = has }) in
            let pair = map_contains (λ (one_pair : Pair). one_pair.col) owned.0 c (subst (λ cols. Contains cols c) (sym owned.1.cols) stands.key_col) in
            let is_p : p ≡ pair.0.prop = key_pair basis is s one two one two comparable matched t c cell other has has_other p m alone several owned.0 owned.1 pair.0 pair.1 pair.2 in
            let is_q : q ≡ pair.0.prop = key_pair basis is s one two two one back turned t c other cell has_other has q n alone_too several_too owned.0 owned.1 pair.0 pair.1 pair.2 in
            let key = part_of_type model is.sound.model p one.ty (listed_prop basis is s one comparable.is_one t c p from) stands.part in
            (rival_keys basis is s one two comparable).keys p key ∙ ap seconds.prop (is_p ∙ sym is_q)

        -- others are in the column's group
        groups_same : StandsFree basis t c p → StandsFree basis t c q → firsts.prop p ≡ seconds.prop q
        groups_same stands stands_too =
            let group : basis.group (prop p) ≡ basis.group (prop q) =
            same_group basis is p (record { of = focus.Entity one; t = t; col = c; lists = (cell, has, only_stands cell (symbol.Prop p) alone) })
            (s, comparable.is_one) stands.free_prop
            ∙ sym (same_group basis is q (record { of = focus.Entity two; t = t; col = c; lists = (other, has_other, only_stands other (symbol.Prop q) alone_too) })
            (s, comparable.is_two) stands_too.free_prop) in
            let joins : Joined basis.schema (prop p) (prop q) =
            joined.chain (prop p) (col t c) (prop q) (joined_by basis t c p stands) (joined.back (prop q) (col t c) (joined_by basis t c q stands_too)) in
            let first : Prop = stands.free_prop.0 in
            let second : Prop = stands_too.free_prop.0 in
            let one_or_plain : (p ≡ q) ⊎ ((¬ IsEnum first.kind) × (¬ IsEnum second.kind)) = ⊎_elim
            (λ (same : p ≡ q). inl same)
            (λ (different : ¬ (p ≡ q)). inr (
              no_enum basis is s one two one two comparable matched t c cell other has has_other p m alone several stands q different joins first stands.free_prop.1,
              no_enum basis is s one two two one back turned t c other cell has_other has q n alone_too several_too stands_too p (λ same. different (sym same))
                  (joined.back (prop p) (prop q) joins) second stands_too.free_prop.1,
            ))
            (so_or_not (p.index == q.index) (Decides-prop p q)) in
            group_value basis is s one two one two comparable matched t c cell other has has_other p m alone several stands (symbol.Prop q) n at_two first stands.free_prop.1
            ∙ shared_same basis is one two p q first second stands.free_prop.1 stands_too.free_prop.1 group one_or_plain
            ∙ sym (group_value basis is s one two two one back turned t c other cell has_other has q n alone_too several_too stands_too (symbol.Prop p) m at_one second stands_too.free_prop.1)

        -- in the primary key or outside it
        props_same : firsts.prop p ≡ seconds.prop q
        props_same = by (prop_stands basis is (focus.Entity one) (s, comparable.is_one) t c p from) (prop_stands basis is (focus.Entity two) (s, comparable.is_two) t c q from_too)
          where
            by : Stands basis t c p → Stands basis t c q → firsts.prop p ≡ seconds.prop q
            by (inl stands) stands_too = keys_same stands
            by (inr stands) (inl stands_too) = absurd (stands.free_col.2 stands_too.key_col)
            by (inr stands) (inr stands_too) = groups_same stands stands_too

      -- two symbols that stand alone
      symbols_same : (one_symbol other_symbol : Symbol) (m n : Bool) → settle model one.atoms cell ≡ free one_symbol m → settle model two.atoms other ≡ free other_symbol n
          → cell ≡ one_symbol ∷ [] → other ≡ other_symbol ∷ [] → possible model one.atoms one_symbol ≡ multi m → possible model two.atoms other_symbol ≡ multi n
          → value_under firsts one_symbol ≡ value_under seconds other_symbol
      symbols_same symbol.Null two_symbol m n at_one at_two alone alone_too several several_too = cc
      symbols_same (symbol.Const v) two_symbol m n at_one at_two alone alone_too several several_too = cc
      symbols_same (symbol.End a first r) two_symbol m n at_one at_two alone alone_too several several_too =
          let there = end_too basis is s two one comparable.is_two comparable.is_one (sym comparable.linked) t c a first r other has_other
          (cell, has, only_stands cell (symbol.End a first r) alone) in
          ap (value_under seconds) (only_member other two_symbol (symbol.End a first r) alone_too there)
      symbols_same (symbol.Prop p) symbol.Null m n at_one at_two alone alone_too several several_too = cc
      symbols_same (symbol.Prop p) (symbol.Const v) m n at_one at_two alone alone_too several several_too = cc
      symbols_same (symbol.Prop p) (symbol.Prop q) m n at_one at_two alone alone_too several several_too =
          props_same p q m n at_one at_two alone alone_too several several_too
      symbols_same (symbol.Prop p) (symbol.End a first r) m n at_one at_two alone alone_too several several_too =
          let there = end_too basis is s one two comparable.is_one comparable.is_two comparable.linked t c a first r cell has
          (other, has_other, only_stands other (symbol.End a first r) alone_too) in
          let never : symbol.End a first r ≡ symbol.Prop p = only_member cell (symbol.Prop p) (symbol.End a first r) alone there in
          cc

      -- both cells hold the same
      cells_same : value_in firsts cell ≡ value_in seconds other
      cells_same = by (settle model one.atoms cell) refl (settle model two.atoms other) refl
        where
          by : (first : Settled) → settle model one.atoms cell ≡ first → (second : Settled) → settle model two.atoms other ≡ second
              → value_in firsts cell ≡ value_in seconds other
          by (known v) at (known w) at_other =
              let Compatible : Settled → Settled → Type 0 = λ held faced. are_compatible held faced ≡ true in
              let match : Compatible (known v) (known w) = subst (Compatible (known v)) at_other
              (subst (λ held. Compatible held (settle model two.atoms other)) at (matched.cells t c cell other has has_other)) in
              known_value basis one comparable.clear_one t c cell has is s comparable.is_one firsts allowed v at
              ∙ (Decides-value v w).0 match
              ∙ sym (known_value basis two comparable.clear_two t c other has_other is s comparable.is_two seconds allowed_too w at_other)
          by (known v) at (free q n) at_other =
              known_value basis one comparable.clear_one t c cell has is s comparable.is_one firsts allowed v at
              ∙ sym (faced basis is s one two two one back turned t c other cell has_other has limits v at q n at_other)
          by (free p m) at (known w) at_other =
              faced basis is s one two one two comparable matched t c cell other has has_other limits w at_other p m at
              ∙ sym (known_value basis two comparable.clear_two t c other has_other is s comparable.is_two seconds allowed_too w at_other)
          by (free p m) at (free q n) at_other =
              let first = free_value basis one comparable.clear_one t c cell has is s comparable.is_one firsts allowed p m at in
              let second = free_value basis two comparable.clear_two t c other has_other is s comparable.is_two seconds allowed_too q n at_other in
              first.1 ∙ symbols_same p q m n at at_other first.0 second.0 first.2 second.2 ∙ sym second.1

  -- and both patterns have rows of the same tables
  pub written_alike : IsWithinLimits basis.schema → (s : SetId) (one two : Region) → AreComparable basis s one two → PatternsMatch basis one two
      → AreWrittenAlike basis one two (first_values basis one two) (second_values basis one two)
  written_alike limits s one two comparable match =
      let matched : AreMatched basis one two = are_matched basis one two match in
      record { rows = matched.rows; cells = cells_same limits s one two comparable matched }
