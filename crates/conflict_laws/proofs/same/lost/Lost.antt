-- A lost property: the states with entities that differ in it alone have the same tables.
use Rattle.std.proofs.Common.{◌≡◌, ◌≢◌, ◌&&◌, [], ◌∷◌, List, Bool, true, true≢false, not, Contains, IsTrue, refl, sym, ap, subst, ◌∙◌, arith}
use Rattle.std.specs.Option.{option_map_or}
use Rattle.std.proofs.lemmas.Bool.{and_parts, not-true}
use Rattle.round_trip.specs.Words.{SetId, TableId, ColId, PropId, Prop, EntitySet, Entity, FailsAt, At, key_of, key_props, place_at, props_of, value_of}
use Rattle.round_trip.specs.declared.FailKind.TheVariants as kind
use Rattle.schema_laws.proofs.state_demand.lists.Lists.{head_stands}
use Rattle.regions.specs.declared.region.Region.{Region}
use Rattle.regions.specs.declared.pattern.Focus.TheVariants as focus
use Rattle.regions.specs.declared.pattern.Symbol.{Symbol}
use Rattle.regions.specs.declared.pattern.Symbol.TheVariants as symbol
use Rattle.regions.specs.Basis.{Basis}
use Rattle.regions.specs.Patterns.{Valuation, pattern_of, value_under}
use Rattle.regions.specs.Regions.{regions_of}
use Rattle.regions.specs.Settled.{Possible, multi, possible, single}
use Rattle.regions.proofs.region_laws.entities.Regions.{prop_there}
use Rattle.regions.specs.region_laws.pattern.Described.{value_in}
use Rattle.regions.specs.region_laws.pattern.Listed.{HasCell, Lists}
use Rattle.region_states.specs.defaults.Admissible.{AreTwoChoices, DifferAt, IsAdmissible, SeveralOf}
use Rattle.region_states.specs.defaults.Defaults.{alone, changed, default_valuation, one_value, other_value}
use Rattle.region_states.proofs.defaults.Changes.{differ_at, two_choices}
use Rattle.region_states.proofs.defaults.Defaults.{default_admissible}
use Rattle.schema_laws.proofs.short_values.Places.{Decides-among}
use Rattle.region_states.specs.conflicts.SameFacts.{is_lost, is_multi, is_one_of, lists_anywhere}
use Rattle.region_states.specs.Entities.{focus_entity}
use Rattle.host_states.specs.Hosting.{HoldRivals}
use Rattle.region_states.proofs.Entities.{has_value}
use Rattle.conflict_laws.proofs.rival.Reading.{anywhere}
use Rattle.conflict_laws.specs.same.SameValues.{with_one, with_other}
use Rattle.conflict_laws.proofs.same.rows.Cells.{one_cell}
use Rattle.conflict_laws.proofs.same.rivals.Rivals.{twins_fail}
use Rattle.conflict_laws.proofs.rival.Rivals.{one_focus_key}
use Rattle.conflict_laws.specs.States.{RivalStates}
use Rattle.conflict_laws.proofs.clash.Clear.{region_clear}
use Rattle.conflict_laws.specs.Told.{LostProp}
use Rattle.conflict_laws.specs.rival.Alike.{AreComparable, AreTwins, HaveOneKey}

-- what may have several values, by the fact
several_of : (can : Possible) → is_multi can ≡ true → (nullable : Bool) × (can ≡ multi nullable)
several_of (single v) told = absurd (true≢false (sym told))
several_of (multi nullable) told = (nullable, refl)

-- a property that is lost: one of the type, no part of the key, with several values, which the pattern doesn't list
pub record IsLost (basis : Basis) (region : Region) (p : PropId) : Type 0 where
  pub among : Contains (props_of basis.schema.model region.ty) p
  pub no_key : ¬ Contains (key_props basis.schema.model region.ty) p
  pub several : (nullable : Bool) × (possible basis.schema.model region.atoms (symbol.Prop p) ≡ multi nullable)
  pub unlisted : (t : TableId) (col : ColId) → ¬ Lists (pattern_of basis (focus.Entity region)) t col (symbol.Prop p)

module _ (basis : Basis) (region : Region) (p : PropId) where
  -- the parts of the fact
  abbrev is_prop : Bool
  is_prop = is_one_of p (props_of basis.schema.model region.ty)

  abbrev is_key : Bool
  is_key = is_one_of p (key_props basis.schema.model region.ty)

  abbrev has_several : Bool
  has_several = is_multi (possible basis.schema.model region.atoms (symbol.Prop p))

  abbrev is_listed : Bool
  is_listed = lists_anywhere (pattern_of basis (focus.Entity region)) (symbol.Prop p)

  -- so it is where the fact says so
  pub lost_told : IsTrue (is_lost basis region p) → IsLost basis region p
  lost_told told =
      let third = and_parts ((is_prop && not is_key) && has_several) (not is_listed) told in
      let second = and_parts (is_prop && not is_key) has_several third.0 in
      let first = and_parts is_prop (not is_key) second.0 in
      record {
        among = (Decides-among (props_of basis.schema.model region.ty) p).0 first.0;
        no_key = λ key. true≢false (sym ((Decides-among (key_props basis.schema.model region.ty) p).1 key) ∙ not-true is_key first.1);
        several = several_of (possible basis.schema.model region.atoms (symbol.Prop p)) second.1;
        unlisted = λ t col lists. true≢false (sym (anywhere (pattern_of basis (focus.Entity region)) (symbol.Prop p) t col lists) ∙ not-true is_listed third.1);
      }

module _ (basis : Basis) (region : Region) (p : PropId) (lost : IsLost basis region p) (base one two : Valuation) (differ : DifferAt base one two p) where
  -- each symbol that is listed has one value by both
  same_symbol_value : (t : TableId) (col : ColId) (it : Symbol) → Lists (pattern_of basis (focus.Entity region)) t col it → value_under one it ≡ value_under two it
  same_symbol_value t col symbol.Null lists = refl
  same_symbol_value t col (symbol.Const v) lists = refl
  same_symbol_value t col (symbol.Prop q) lists =
      let other : q ≢ p = λ same. lost.unlisted t col (subst (λ r. Lists (pattern_of basis (focus.Entity region)) t col (symbol.Prop r)) same lists) in
      differ.one_others q other ∙ sym (differ.two_others q other)
  same_symbol_value t col (symbol.End a first q) lists = ap (λ part. part a first q) (differ.one_parts ∙ sym differ.two_parts)

  -- and so has each cell
  same_value : (t : TableId) (col : ColId) (cell : List Symbol) → HasCell (pattern_of basis (focus.Entity region)) t col cell → value_in one cell ≡ value_in two cell
  same_value t col [] has = refl
  same_value t col (first ∷ rest) has = same_symbol_value t col first (first ∷ rest, has, head_stands first rest)

module _ (basis : Basis) (given : RivalStates basis) (s : SetId) (set : EntitySet) (is_set : At basis.schema.model.sets s.index set)
    (region : Region) (listed : Contains (regions_of basis s) region) (p : PropId) (lost : IsLost basis region p) where
  abbrev FailsWith : Valuation → Valuation → Type 0
  FailsWith one two = FailsAt basis.schema kind.Same (place_at set.name (key_of basis.schema.model (focus_entity basis region one)) [])
      (given.rivals region one region two).0 (given.rivals region one region two).1

  -- the region is comparable with itself
  comparable : AreComparable basis s region region
  comparable =
      let clear_region = region_clear basis given.clear s region listed in
      record { is_one = listed; is_two = listed; linked = refl; clear_one = clear_region; clear_two = clear_region }

  -- values that differ in the property alone give one key
  keyed : (base one two : Valuation) → DifferAt base one two p → HaveOneKey basis region one two
  keyed base one two differ = record {
    keys = λ q key.
        let other : q ≢ p = λ same. lost.no_key (subst (Contains (key_props basis.schema.model region.ty)) same key) in
        differ.one_others q other ∙ sym (differ.two_others q other);
    parts = differ.one_parts ∙ sym differ.two_parts;
  }

  one_key : (base one two : Valuation) → DifferAt base one two p → key_of basis.schema.model (focus_entity basis region one) ≡ key_of basis.schema.model (focus_entity basis region two)
  one_key base one two differ = one_focus_key basis given.clear.given.is_basis s region region comparable one two (keyed base one two differ)

  -- and the states with them fail
  differ_fails : (base one two : Valuation) → IsAdmissible basis 0 region one → IsAdmissible basis 0 region two → DifferAt base one two p → FailsWith one two
  differ_fails base one two admissible_one admissible_two differ =
      let twins : AreTwins basis s region region one two = record {
        comparable = comparable;
        allowed = admissible_one.allowed;
        others_allowed = admissible_two.allowed;
        alike = record {
          rows = λ t. ((λ there. there), (λ there. there));
          cells = λ t col cell other has_cell too.
              same_value basis region p lost base one two differ t col cell has_cell
              ∙ ap (value_in two) (one_cell basis given.clear.given.is_basis (focus.Entity region) t col cell other has_cell too);
        };
      } in
      let hold : HoldRivals basis region region one two (given.rivals region one region two).0 (given.rivals region one region two).1 =
      given.hold.hold given.few (record {
        s = s;
        one = region;
        two = region;
        is_one = listed;
        is_two = listed;
        linked = refl;
        values = one;
        others = two;
        admissible = admissible_one;
        others_admissible = admissible_two;
        partners = differ.one_parts ∙ sym differ.two_parts;
        keys = one_key base one two differ;
      }) in
      twins_fail basis given.clear.given.is_basis given.clear.no_clash s set is_set region region one two twins (keyed base one two differ)
      (given.rivals region one region two).0 (given.rivals region one region two).1 hold
      (λ same. differ.different (sym (has_value basis region one p lost.among) ∙ ap (λ (e : Entity). value_of basis.schema.model e p) same
      ∙ has_value basis region two p lost.among))

  -- admissible values that differ in the property alone
  abbrev pub Differing : Valuation → Valuation → Type 0
  Differing one two = IsAdmissible basis 0 region one × IsAdmissible basis 0 region two × DifferAt (default_valuation basis 0 region) one two p

  -- such are the usual ones with the one value, and with the other
  pub lost_differ : Differing (with_one basis region p) (with_other basis region p)
  lost_differ =
      let found = prop_there basis given.clear.given.is_basis region.ty p lost.among in
      let declared : Prop = found.0 in
      let several : SeveralOf basis = record {
        s = s;
        region = region;
        listed = listed;
        p = p;
        declared = declared;
        nullable = lost.several.0;
        several = record { is_declared = found.1; among = lost.among; no_key = lost.no_key; several = lost.several.1 };
      } in
      let base : Valuation = default_valuation basis 0 region in
      let choices : AreTwoChoices basis region p (one_value basis p declared) (other_value basis p declared) =
      two_choices basis given.clear.given.is_basis several given.clear.given.limits in
      let differ = differ_at basis given.clear.given.is_basis 0 (record { s = s; region = region; listed = listed; values = base })
      (default_admissible basis given.clear.given.is_basis given.clear.given.limits s region listed 0 (omega arith)) p (one_value basis p declared) (other_value basis p declared)
      choices in
      let first : with_one basis region p ≡ changed base (alone p (one_value basis p declared)) =
      ap (λ there. option_map_or (λ (d : Prop). changed (default_valuation basis 0 region) (alone p (one_value basis p d))) there (default_valuation basis 0 region)) found.1 in
      let second : with_other basis region p ≡ changed base (alone p (other_value basis p declared)) =
      ap (λ there. option_map_or (λ (d : Prop). changed (default_valuation basis 0 region) (alone p (other_value basis p d))) there (default_valuation basis 0 region)) found.1 in
      subst (Differing (with_one basis region p)) (sym second)
      (subst (λ one. Differing one (changed base (alone p (other_value basis p declared)))) (sym first) differ)

  pub lost_keys : key_of basis.schema.model (focus_entity basis region (with_one basis region p)) ≡ key_of basis.schema.model (focus_entity basis region (with_other basis region p))
  lost_keys = one_key (default_valuation basis 0 region) (with_one basis region p) (with_other basis region p) lost_differ.2

  -- and so the states with these fail
  the_lost_fail : FailsWith (with_one basis region p) (with_other basis region p)
  the_lost_fail = differ_fails (default_valuation basis 0 region) (with_one basis region p) (with_other basis region p) lost_differ.0 lost_differ.1 lost_differ.2

pub lost_fails : (basis : Basis) (given : RivalStates basis) (at : LostProp basis) (set : EntitySet) → At basis.schema.model.sets at.s.index set
    → FailsAt basis.schema kind.Same (place_at set.name (key_of basis.schema.model (focus_entity basis at.region (with_one basis at.region at.p))) [])
    (given.rivals at.region (with_one basis at.region at.p) at.region (with_other basis at.region at.p)).0
    (given.rivals at.region (with_one basis at.region at.p) at.region (with_other basis at.region at.p)).1
lost_fails basis given at set is_set = the_lost_fail basis given at.s set is_set at.region at.listed at.p (lost_told basis at.region at.p at.lost)
