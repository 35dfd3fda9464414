-- Cells that hold the same under some allowed values match.
use Rattle.std.proofs.Common.{◌≡◌, ◌≢◌, ⊎_elim, ◌⊎◌, inl, inr, ℤ, List, [], ◌∷◌, Bool, true, false, Contains, IsTrue, None, Some, refl, sym, ap, subst, ◌∙◌}
use Rattle.std.proofs.lemmas.Bool.{and_from}
use Rattle.emc_base.proofs.Lists.{only_stands}
use Rattle.emc_base.specs.declared.value.EnumKind.{EnumKind}
use Rattle.emc_base.specs.declared.value.Value.TheVariants as value
use Rattle.emc_base.specs.declared.value.Kind.TheVariants as kind
use Rattle.round_trip.specs.Words.{SetId, TableId, ColId, PropId, Value, Null, Whole, EntityModel, Prop, Test, InDomain, key_columns}
use Rattle.edm_types.specs.declared.mapping.Test.TheVariants.{IsNull, Equals}
use Rattle.round_trip.specs.soundness.mappings.Joined.{Joined, col, prop}
use Rattle.round_trip.specs.soundness.mappings.Joined as joined
use Rattle.round_trip.proofs.Classes.{class_of, joined_class}
use Rattle.condition_logic.specs.declared.atoms.Atom.TheVariants as atom
use Rattle.condition_logic.specs.declared.atoms.AtomOf.{AtomOf}
use Rattle.member_groups.specs.Tested.{IsMember, IsTested}
use Rattle.member_groups.proofs.Numbering.{free_member}
use Rattle.schema_laws.specs.state_demand.Selecting.{same_value}
use Rattle.schema_laws.proofs.state_demand.writings.Decisions.{value_or_not}
use Rattle.schema_laws.proofs.state_demand.lists.Lists.{head_stands}
use Rattle.schema_laws.proofs.state_demand.writings.Selecting.{Decides-value}
use Rattle.regions.specs.declared.region.Region.{Region}
use Rattle.regions.specs.declared.pattern.Symbol.{Symbol}
use Rattle.regions.specs.declared.pattern.Symbol.TheVariants as symbol
use Rattle.regions.specs.declared.pattern.Focus.TheVariants as focus
use Rattle.regions.specs.Atoms.{atom_at}
use Rattle.regions.specs.Basis.{Basis}
use Rattle.regions.specs.Patterns.{Valuation, pattern_of, value_under}
use Rattle.regions.specs.Settled.{Settled, free, known, multi, possible, settle, single}
use Rattle.regions.specs.region_laws.IsBasis.{IsBasis}
use Rattle.regions.specs.region_laws.pattern.Allowed.{IsAllowed}
use Rattle.regions.specs.region_laws.pattern.Described.{value_in}
use Rattle.regions.specs.region_laws.pattern.Listed.{HasCell, IsTelling}
use Rattle.regions.proofs.region_laws.pattern.types.Groups.{compared_constant, is_tested, joined_tested, no_key_asked, told_tested}
use Rattle.regions.proofs.region_laws.pattern.Laws.{listed_from, telling_tested}
use Rattle.regions.proofs.region_laws.pattern.symbols.Origins.{From, GivesSymbol, by_cond, by_end, by_host, by_pair}
use Rattle.regions.proofs.region_laws.pattern.types.Regions.{atom_there, lies_in}
use Rattle.regions.proofs.region_laws.pattern.symbols.Standing.{StandsFree, StandsInKey, joined_by, listed_prop, prop_stands}
use Rattle.schema_laws.proofs.sound_types.Inherited.{part_of_type}
use Rattle.region_states.proofs.defaults.Candidates.{IsPlainKind}
use Rattle.region_states.proofs.defaults.groups.Classes.{at_class, class_at}
use Rattle.region_states.proofs.defaults.Listed.{IsTold, found_told, tested_no_key}
use Rattle.region_states.proofs.defaults.Valued.{Tells, atom_tells}
use Rattle.region_states.specs.conflicts.SameFacts.{are_compatible}
use Rattle.conflict_laws.specs.rival.Alike.{AreComparable, PatternsMatch, AreTwins}
use Rattle.conflict_laws.proofs.rival.Atoms.{constant_moves, is_atom, kind_cases, open_atom, plain_class}
use Rattle.conflict_laws.proofs.rival.Clear.{free_value, known_single, known_value, listed_free}
use Rattle.conflict_laws.proofs.rival.Linked.{end_too}
use Rattle.conflict_laws.proofs.rival.Rows.{patterns_match}

-- the same two regions the other way
pub comparable_back : (basis : Basis) (s : SetId) (one two : Region) → AreComparable basis s one two → AreComparable basis s two one
comparable_back basis s one two comparable = record {
  is_one = comparable.is_two;
  is_two = comparable.is_one;
  linked = sym comparable.linked;
  clear_one = comparable.clear_two;
  clear_two = comparable.clear_one;
}

-- a value that is known and isn't null is that of a symbol that is listed
known_head : (model : EntityModel) (atoms : List AtomOf) (cell : List Symbol) (v : Value) → v ≢ Null → settle model atoms cell ≡ known v
    → (one : Symbol) × Contains cell one × (possible model atoms one ≡ single v)
known_head model atoms [] v some settled = absurd (some (let is : Null ≡ v = cc in sym is))
known_head model atoms (one ∷ others) v some settled = (one, head_stands one others, known_single one (possible model atoms one) v settled)

-- a condition that gives a constant compares with it
gives_equals : (test : Test) (v : Value) → GivesSymbol test (symbol.Const v) → test ≡ Equals v
gives_equals (IsNull asked) v gives = let never = gives.1 in cc
gives_equals (Equals constant) v gives = let is : constant ≡ v = cc in λ k. Equals (is k)

-- a value in the domain of an enumeration is one of its numbers
in_enum : (v : Value) (enumeration : EnumKind) → InDomain v (kind.Enum enumeration) → (n : ℤ) × Contains enumeration.members n × (v ≡ Whole n)
in_enum value.Null enumeration fits = absurd fits
in_enum (value.Whole n) enumeration fits = (n, fits, refl)
in_enum (value.Flag flag) enumeration fits = absurd fits
in_enum (value.Text text) enumeration fits = absurd fits
in_enum (value.Bytes bytes) enumeration fits = absurd fits

-- what has one value tells it
telling : (model : EntityModel) (atoms : List AtomOf) (one : Symbol) (v : Value) → possible model atoms one ≡ single v → IsTelling model atoms one
telling model atoms symbol.Null v is = tt
telling model atoms (symbol.Const w) v is = tt
telling model atoms (symbol.Prop q) v is = (v, is)
telling model atoms (symbol.End a first q) v is = tt

module _ (basis : Basis) (is : IsBasis basis) (s : SetId) (region other : Region) (comparable : AreComparable basis s region other) (t : TableId) (c : ColId)
    (cell cell_too : List Symbol) (has : HasCell (pattern_of basis (focus.Entity region)) t c cell) (has_too : HasCell (pattern_of basis (focus.Entity other)) t c cell_too) where
  abbrev model : EntityModel
  model = basis.schema.model

  module _ (v : Value) (some : v ≢ Null) (settled : settle model region.atoms cell ≡ known v) where
    -- the first symbol has the value
    head : (one : Symbol) × Contains cell one × (possible model region.atoms one ≡ single v)
    head = known_head model region.atoms cell v some settled

    -- and each symbol comes from somewhere
    from : (one : Symbol) → Contains cell one → From basis (focus.Entity region) t c one
    from one listed = listed_from basis is (focus.Entity region) t c one (cell, has, listed)

    -- a cell of the primary key holds nothing that is known
    key_never : Contains (key_columns basis.schema.store t) c → ⊥
    key_never key = by head.0 head.1 head.2
      where
        by_const : (w : Value) → From basis (focus.Entity region) t c (symbol.Const w) → ⊥
        by_const w (by_pair fragment pair mapped to among at_col same chosen) = cc
        by_const w (by_host fragment first pair mapped to among at_col same hosting) = cc
        by_const w (by_end fragment first pair mapped to among at_col same partner) = cc
        by_const w (by_cond cond asked on_col gives) = no_key_asked basis is t c cond asked on_col key

        by_prop : (q : PropId) → possible model region.atoms (symbol.Prop q) ≡ single v → StandsInKey basis t c q ⊎ StandsFree basis t c q → ⊥
        by_prop q one (inl stands) =
            let told : IsTold basis is s region comparable.is_one q (atom.Is v) =
            found_told basis is s region comparable.is_one q (atom.Is v) (is_atom model region.atoms q v some one) in
            tested_no_key basis is q told.declared told.is_declared region.ty told.of_type told.tested (part_of_type model is.sound.model q region.ty told.of_type stands.part)
        by_prop q one (inr stands) = stands.free_col.2 key

        by : (one : Symbol) → Contains cell one → possible model region.atoms one ≡ single v → ⊥
        by symbol.Null listed one = some (let same : Null ≡ v = cc in sym same)
        by (symbol.Const w) listed one = by_const w (from (symbol.Const w) listed)
        by (symbol.Prop q) listed one = by_prop q one (prop_stands basis is (focus.Entity region) (s, comparable.is_one) t c q (from (symbol.Prop q) listed))
        by (symbol.End a first q) listed one = cc

    -- a property that faces it with several values, and is no part of a key
    module _ (p : PropId) (n : Bool) (listed : Contains cell_too (symbol.Prop p)) (several : possible model other.atoms (symbol.Prop p) ≡ multi n)
        (stands : StandsFree basis t c p) where
      abbrev constants : List Value
      constants = basis.constants (prop p)

      member : IsMember basis.schema (prop p)
      member = free_member basis.schema (prop p) stands.free_prop

      -- its group is tested
      group_tested : IsTested basis.schema (prop p)
      group_tested =
          let told : IsTrue (basis.tested (col t c)) = telling_tested basis is head.0
          (record { of = focus.Entity region; t = t; col = c; lists = (cell, has, head.1) }) (s, comparable.is_one) stands.free_col.2 (telling model region.atoms head.0 v head.2) in
          joined_tested basis is (col t c) (prop p) (joined.back (prop p) (col t c) (joined_by basis t c p stands))
          (is_tested basis is (col t c) (free_member basis.schema (col t c) stands.free_col) told)

      -- so the last atom is told of it
      last_atom : atom_at other.atoms p ≡ Some atom.Other
      last_atom =
          let among = listed_prop basis is s other comparable.is_two t c p
          (listed_from basis is (focus.Entity other) t c (symbol.Prop p) (cell_too, has_too, listed)) in
          let found = atom_there basis is s other comparable.is_two p among (told_tested basis is (prop p) stands.free_prop group_tested) in
          ⊎_elim
          (λ (none : atom_at other.atoms p ≡ None). let never : None ≡ Some found.0 = sym none ∙ found.1 in cc)
          (λ (last : atom_at other.atoms p ≡ Some atom.Other). last)
          (open_atom model other.atoms p n several)

      -- which is told of kinds alone that are neither flags nor enumerations
      told : IsTold basis is s other comparable.is_two p atom.Other
      told = found_told basis is s other comparable.is_two p atom.Other last_atom

      plain : IsPlainKind told.declared.kind
      plain = atom_tells basis.fits is.domains constants told.declared atom.Other told.among

      -- what is known is a constant of its group
      from_prop : (q : PropId) → StandsFree basis t c q → atom_at region.atoms q ≡ Some (atom.Is v) → Contains constants v
      from_prop q stands_q at =
          let told_q : IsTold basis is s region comparable.is_one q (atom.Is v) = found_told basis is s region comparable.is_one q (atom.Is v) at in
          let declared : Prop = told_q.declared in
          let tells : Tells declared (basis.constants (prop q)) (atom.Is v) =
          atom_tells basis.fits is.domains (basis.constants (prop q)) declared (atom.Is v) told_q.among in
          let joins : Joined basis.schema (prop p) (prop q) =
          joined.chain (prop p) (col t c) (prop q) (joined_by basis t c p stands) (joined.back (prop q) (col t c) (joined_by basis t c q stands_q)) in
          ⊎_elim
          (λ (is_plain : IsPlainKind declared.kind).
          constant_moves basis is (prop q) (prop p) (free_member basis.schema (prop q) stands_q.free_prop) member joins v (tells.1 is_plain))
          (λ (rest : (declared.kind ≡ kind.Boolean) ⊎ ((enumeration : EnumKind) × (declared.kind ≡ kind.Enum enumeration))). ⊎_elim
          (λ (flag : declared.kind ≡ kind.Boolean).
          let class = (joined_class basis.schema is.sound (prop p) (prop q) joins (class_of declared.kind)).1 (class_at basis.schema q declared told_q.is_declared) in
          let same : class_of told.declared.kind ≡ class_of declared.kind = at_class basis.schema p (class_of declared.kind) told.declared told.is_declared class in
          absurd (plain_class told.declared.kind plain (same ∙ ap class_of flag)))
          (λ (of_enum : (enumeration : EnumKind) × (declared.kind ≡ kind.Enum enumeration)).
          let number = in_enum v of_enum.0 (subst (InDomain v) of_enum.1 tells.0) in
          ((is.constants (prop p) member).each v).1
          (inr (group_tested, (q, of_enum.0, number.0, joins, (declared, told_q.is_declared, of_enum.1), number.1, number.2))))
          rest)
          (kind_cases declared.kind)

      -- so is a constant of a condition
      from_const : (w : Value) → From basis (focus.Entity region) t c (symbol.Const w) → Contains constants w
      from_const w (by_pair fragment pair mapped to among at_col same chosen) = cc
      from_const w (by_host fragment first pair mapped to among at_col same hosting) = cc
      from_const w (by_end fragment first pair mapped to among at_col same partner) = cc
      from_const w (by_cond cond asked on_col gives) = compared_constant basis is p t c (joined_by basis t c p stands) cond asked on_col w (gives_equals cond.test w gives)

      -- whichever the symbol is
      known_constant : Contains constants v
      known_constant = by head.0 head.1 head.2
        where
          by : (one : Symbol) → Contains cell one → possible model region.atoms one ≡ single v → Contains constants v
          by symbol.Null here one = absurd (some (let same : Null ≡ v = cc in sym same))
          by (symbol.Const w) here one = let same : w ≡ v = cc in subst (Contains constants) same (from_const w (from (symbol.Const w) here))
          by (symbol.Prop q) here one = ⊎_elim
              (λ (key : StandsInKey basis t c q). absurd (stands.free_col.2 key.key_col))
              (λ (free_q : StandsFree basis t c q). from_prop q free_q (is_atom model region.atoms q v some one))
              (prop_stands basis is (focus.Entity region) (s, comparable.is_one) t c q (from (symbol.Prop q) here))
          by (symbol.End a first q) here one = cc

      -- which it isn't itself
      prop_never : (others : Valuation) → IsAllowed basis other others → v ≡ others.prop p → ⊥
      prop_never others allowed same = (lies_in basis other others allowed p atom.Other last_atom).1 (subst (Contains constants) same known_constant)

    -- so nothing with several values faces what is known and isn't null, and is the same
    never : (others : Valuation) → IsAllowed basis other others → (one : Symbol) (n : Bool) → Contains cell_too one → possible model other.atoms one ≡ multi n
        → v ≡ value_under others one → ⊥
    never others allowed symbol.Null n listed several same = cc
    never others allowed (symbol.Const w) n listed several same = cc
    never others allowed (symbol.End a first q) n listed several same =
        let here = end_too basis is s region other comparable.is_one comparable.is_two comparable.linked t c a first q cell has (cell_too, has_too, listed) in
        let here_free : settle model region.atoms cell ≡ free (symbol.End a first q) false =
        listed_free basis region comparable.clear_one t c cell has (symbol.End a first q) here false refl in
        let impossible : known v ≡ free (symbol.End a first q) false = sym settled ∙ here_free in
        cc
    never others allowed (symbol.Prop p) n listed several same = ⊎_elim
        (λ (key : StandsInKey basis t c p). key_never key.key_col)
        (λ (stands : StandsFree basis t c p). prop_never p n listed several stands others allowed same)
        (prop_stands basis is (focus.Entity other) (s, comparable.is_two) t c p
        (listed_from basis is (focus.Entity other) t c (symbol.Prop p) (cell_too, has_too, listed)))

  -- a known value against that of a symbol
  pub mixed : (others : Valuation) → IsAllowed basis other others → (v : Value) → settle model region.atoms cell ≡ known v
      → (one : Symbol) (n : Bool) → settle model other.atoms cell_too ≡ free one n → v ≡ value_in others cell_too → are_compatible (known v) (free one n) ≡ true
  mixed others allowed v settled one n settled_too same =
      let told = free_value basis other comparable.clear_two t c cell_too has_too is s comparable.is_two others allowed one n settled_too in
      let is_value : v ≡ value_under others one = same ∙ told.1 in
      ⊎_elim
      (λ (null : v ≡ Null). and_from (same_value v Null) n ((Decides-value v Null).1 null) (told.3 (sym is_value ∙ null)))
      (λ (some : v ≢ Null). absurd (never v some settled others allowed one n (only_stands cell_too one told.0) told.2 is_value))
      (value_or_not v Null)

module _ (basis : Basis) (is : IsBasis basis) (s : SetId) (one two : Region) (values others : Valuation) (twins : AreTwins basis s one two values others) where
  -- cells that hold the same match
  alike_cells : (t : TableId) (c : ColId) (cell other : List Symbol) → HasCell (pattern_of basis (focus.Entity one)) t c cell → HasCell (pattern_of basis (focus.Entity two)) t c other
      → are_compatible (settle basis.schema.model one.atoms cell) (settle basis.schema.model two.atoms other) ≡ true
  alike_cells t c cell other has has_other = by (settle basis.schema.model one.atoms cell) refl (settle basis.schema.model two.atoms other) refl
    where
      by : (first : Settled) → settle basis.schema.model one.atoms cell ≡ first → (second : Settled) → settle basis.schema.model two.atoms other ≡ second
          → are_compatible first second ≡ true
      by (known v) at (known w) at_other = (Decides-value v w).1
          (sym (known_value basis one twins.comparable.clear_one t c cell has is s twins.comparable.is_one values twins.allowed v at)
          ∙ twins.alike.cells t c cell other has has_other
          ∙ known_value basis two twins.comparable.clear_two t c other has_other is s twins.comparable.is_two others twins.others_allowed w at_other)
      by (known v) at (free q n) at_other = mixed basis is s one two twins.comparable t c cell other has has_other others twins.others_allowed v at q n at_other
          (sym (known_value basis one twins.comparable.clear_one t c cell has is s twins.comparable.is_one values twins.allowed v at) ∙ twins.alike.cells t c cell other has has_other)
      by (free p m) at (known w) at_other =
          mixed basis is s two one (comparable_back basis s one two twins.comparable) t c other cell has_other has values twins.allowed w at_other p m at
          (sym (known_value basis two twins.comparable.clear_two t c other has_other is s twins.comparable.is_two others twins.others_allowed w at_other)
          ∙ sym (twins.alike.cells t c cell other has has_other))
      by (free p m) at (free q n) at_other = refl

  -- and so the patterns do
  pub alike_match : PatternsMatch basis one two
  alike_match = patterns_match basis one two (record { rows = twins.alike.rows; cells = alike_cells })
