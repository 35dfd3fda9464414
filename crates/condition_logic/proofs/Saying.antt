-- What the expressions of picks, conditions and columns say.
use Rattle.std.proofs.Common.{◌≡◌, ◌≢◌, ◌↔◌, ⊎_elim, Bool, true, false, MatchBool, List, [], ◌∷◌, ◌++◌, map, Any, Result, Ok, Err, IfOk, sym, ap, subst, if◌then◌else◌}
use Rattle.std.proofs.lemmas.List.Elements.{All-contains, All-map, All-nil}
use Rattle.emc_base.proofs.Lists.{all_from_members}
use Rattle.emc_base.proofs.Mapped.{contains_map}
use Rattle.emc_base.specs.declared.memory.Memory.{Memory}
use Rattle.condition_logic.specs.Words.{TypeId, PropId, ColId, Value, Null, EntityModel, Fragment, Pick, Cond, CondOn, Test, Entity, Row, Passes, MetByEntity, MetByRow, IsPicked, LinkFragment, Pair, Selects, Shows, ShowsLink, IsA, cell_of}
use Rattle.edm_types.specs.declared.mapping.CondOn.TheVariants as on
use Rattle.edm_types.specs.declared.mapping.Test.TheVariants as test
use Rattle.condition_logic.specs.declared.expr.Expr.{Expr}
use Rattle.condition_logic.specs.declared.expr.Expr.TheVariants as expr
use Rattle.condition_logic.specs.declared.making.Side.TheVariants as side
use Rattle.condition_logic.specs.Readings.{by_values, entity_value, of_entity, of_row, row_value}
use Rattle.condition_logic.specs.Holds.{Holds}
use Rattle.condition_logic.specs.Mentions.{Mentions, IsOn, IsComparison, IsOnType}
use Rattle.condition_logic.specs.Selecting.{SaysSelected, SaysShown, ShowsRow}
use Rattle.condition_logic.specs.Made.{AreOf, IsOfPick, IsOfTest, IsOfCond, IsOfColumn, IsOnSide}
use Rattle.condition_logic.proofs.Parts.{iff_trans, all_two, any_two}
use Rattle.condition_logic.proofs.Meaning.{holds_all, holds_any, mentions_all, mentions_any}
use Rattle.condition_logic.proofs.Made.{all_made, any_made, some_made}

-- the expression of a pick
module _ (pick : Pick) (made : Expr) (is : IsOfPick pick made) where
  pub pick_holds : (model : EntityModel) (entity : Entity) → Holds (of_entity model entity) made ↔ IsPicked model entity.ty pick
  pick_holds model entity =
      let P : Expr → Type 0 = λ e. Holds (of_entity model entity) e ↔ IsPicked model entity.ty pick in subst P (sym is) (by pick.below)
    where
      by : (below : Bool) → Holds (of_entity model entity) (if below then expr.IsOf pick.ty else expr.OnlyOf pick.ty)
          ↔ MatchBool below (IsA model entity.ty pick.ty) (entity.ty ≡ pick.ty)
      by true = (λ h. h, λ h. h)
      by false = (λ h. h, λ h. h)

  pick_mentions : (Is : Expr → Type 0) → ¬ Is (expr.IsOf pick.ty) → ¬ Is (expr.OnlyOf pick.ty) → ¬ Mentions Is made
  pick_mentions Is not_of not_only mentions = by pick.below (subst (Mentions Is) is mentions)
    where
      by : (below : Bool) → ¬ Mentions Is (if below then expr.IsOf pick.ty else expr.OnlyOf pick.ty)
      by true = not_of
      by false = not_only

  pub pick_names : (what : CondOn) → ¬ Mentions (IsOn what) made
  pick_names what = pick_mentions (IsOn what) (λ h. h) (λ h. h)

  pub pick_compares : (what : CondOn) (value : Value) → ¬ Mentions (IsComparison what value) made
  pick_compares what value = pick_mentions (IsComparison what value) (λ h. h) (λ h. h)

-- the expression of a test
test_holds : (IsOf IsOnlyOf : TypeId → Type 0) (value : CondOn → Value) (what : CondOn) (test : Test) (made : Expr) → IsOfTest what test made
    → Holds (by_values IsOf IsOnlyOf value) made ↔ Passes test (value what)
test_holds IsOf IsOnlyOf value what (test.IsNull true) made is =
    let P : Expr → Type 0 = λ e. Holds (by_values IsOf IsOnlyOf value) e ↔ (value what ≡ Null) in subst P (sym is) (λ h. h, λ h. h)
test_holds IsOf IsOnlyOf value what (test.IsNull false) made is =
    let P : Expr → Type 0 = λ e. Holds (by_values IsOf IsOnlyOf value) e ↔ (value what ≢ Null) in
    let Q : Expr → Type 0 = λ e. (¬ Holds (by_values IsOf IsOnlyOf value) e) ↔ (value what ≢ Null) in
    subst P (sym is.1) (subst Q (sym is.2) (λ h. h, λ h. h))
test_holds IsOf IsOnlyOf value what (test.Equals constant) made is =
    let P : Expr → Type 0 = λ e. Holds (by_values IsOf IsOnlyOf value) e ↔ ((value what ≡ constant) × (value what ≢ Null)) in subst P (sym is) (λ h. h, λ h. h)

test_names : (what other : CondOn) (test : Test) (made : Expr) → IsOfTest what test made → Mentions (IsOn other) made → what ≡ other
test_names what other (test.IsNull true) made is names = subst (Mentions (IsOn other)) is names
test_names what other (test.IsNull false) made is names = subst (Mentions (IsOn other)) is.2 (subst (Mentions (IsOn other)) is.1 names)
test_names what other (test.Equals constant) made is names = subst (Mentions (IsOn other)) is names

test_compares : (what other : CondOn) (value : Value) (asked : Test) (made : Expr) → IsOfTest what asked made → Mentions (IsComparison other value) made
    → (what ≡ other) × (asked ≡ test.Equals value)
test_compares what other value (test.IsNull true) made is compares = absurd (subst (Mentions (IsComparison other value)) is compares)
test_compares what other value (test.IsNull false) made is compares =
    absurd (subst (Mentions (IsComparison other value)) is.2 (subst (Mentions (IsComparison other value)) is.1 compares))
test_compares what other value (test.Equals constant) made is compares =
    let told = subst (Mentions (IsComparison other value)) is compares in (told.0, ap test.Equals told.1)

test_types : (what : CondOn) (test : Test) (made : Expr) → IsOfTest what test made → ¬ Mentions IsOnType made
test_types what (test.IsNull true) made is names = subst (Mentions IsOnType) is names
test_types what (test.IsNull false) made is names = subst (Mentions IsOnType) is.2 (subst (Mentions IsOnType) is.1 names)
test_types what (test.Equals constant) made is names = subst (Mentions IsOnType) is names

-- a condition on a property is of entities
prop_met : (model : EntityModel) (entity : Entity) (what : CondOn) (test : Test) → IsOnSide side.Props what
    → Passes test (entity_value model entity what) ↔ MetByEntity model entity what test
prop_met model entity (on.Prop prop) test is = (λ h. h, λ h. h)
prop_met model entity (on.Col col) test is = absurd is

prop_left : (model : EntityModel) (entity : Entity) (what : CondOn) (test : Test) → ¬ IsOnSide side.Props what → MetByEntity model entity what test
prop_left model entity (on.Prop prop) test left = absurd (left tt)
prop_left model entity (on.Col col) test left = tt

prop_only : (what : CondOn) (col : ColId) → IsOnSide side.Props what → what ≢ on.Col col
prop_only (on.Prop prop) col is same = cc
prop_only (on.Col other) col is same = absurd is

-- a condition on a column is of rows
col_met : (row : Row) (what : CondOn) (test : Test) → IsOnSide side.Cols what → Passes test (row_value row what) ↔ MetByRow row what test
col_met row (on.Prop prop) test is = absurd is
col_met row (on.Col col) test is = (λ h. h, λ h. h)

col_left : (row : Row) (what : CondOn) (test : Test) → ¬ IsOnSide side.Cols what → MetByRow row what test
col_left row (on.Prop prop) test left = tt
col_left row (on.Col col) test left = absurd (left tt)

col_only : (what : CondOn) (prop : PropId) → IsOnSide side.Cols what → what ≢ on.Prop prop
col_only (on.Prop other) prop is same = absurd is
col_only (on.Col col) prop is same = cc

-- the expression of a fragment's picks and conditions
module _ (fragment : Fragment) (picks conds : List Expr) (of_picks : AreOf IsOfPick (λ pick. ⊥) fragment.picks picks)
    (of_conds : AreOf (IsOfCond side.Props) (λ cond. ¬ IsOnSide side.Props cond.on) fragment.conds conds) where
  abbrev whole : Expr
  whole = expr.All (expr.Any picks ∷ expr.All conds ∷ [])

  select_holds : (model : EntityModel) (entity : Entity) → Holds (of_entity model entity) whole ↔ Selects model fragment entity
  select_holds model entity =
      let reading = of_entity model entity in
      let Meets : Cond → Type 0 = λ cond. MetByEntity model entity cond.on cond.test in
      let parts : Holds reading whole ↔ (Holds reading (expr.Any picks) × Holds reading (expr.All conds)) =
      iff_trans (holds_all reading (expr.Any picks ∷ expr.All conds ∷ [])) (all_two (Holds reading) (expr.Any picks) (expr.All conds)) in
      let picked = iff_trans (holds_any reading picks) (any_made IsOfPick (λ pick. ⊥) fragment.picks picks of_picks (Holds reading) (IsPicked model entity.ty)
      (λ pick made is. pick_holds pick made is model entity) (λ pick none. none)) in
      let meets = iff_trans (holds_all reading conds) (all_made (IsOfCond side.Props) (λ cond. ¬ IsOnSide side.Props cond.on) fragment.conds conds of_conds (Holds reading) Meets
      (λ cond made is. iff_trans (test_holds (IsA model entity.ty) (λ t. entity.ty ≡ t) (entity_value model entity) cond.on cond.test made is.1)
      (prop_met model entity cond.on cond.test is.0))
      (λ cond left. prop_left model entity cond.on cond.test left)) in (
        λ holds. record { picked = picked.0 (parts.0 holds).0; meets = meets.0 (parts.0 holds).1 },
        λ selects. parts.1 (picked.1 selects.picked, meets.1 selects.meets),
      )

  -- what it mentions one of its conditions does
  select_mentions : (Is : Expr → Type 0) (Q : Cond → Type 0) → ((pick : Pick) (made : Expr) → IsOfPick pick made → ¬ Mentions Is made)
      → ((cond : Cond) (made : Expr) → IsOfCond side.Props cond made → Mentions Is made → Q cond) → Mentions Is whole → Any Q fragment.conds
  select_mentions Is Q no_pick tells mentions = ⊎_elim
      (λ (in_picks : Mentions Is (expr.Any picks)). let Never : Pick → Type 0 = λ pick. ⊥ in
      absurd ((some_made IsOfPick (λ pick. ⊥) fragment.picks picks of_picks (Mentions Is) Never no_pick ((mentions_any Is picks).0 in_picks)).4))
      (λ (in_conds : Mentions Is (expr.All conds)).
      some_made (IsOfCond side.Props) (λ cond. ¬ IsOnSide side.Props cond.on) fragment.conds conds of_conds (Mentions Is) Q tells ((mentions_all Is conds).0 in_conds))
      (any_two (Mentions Is) (expr.Any picks) (expr.All conds) ((mentions_all Is (expr.Any picks ∷ expr.All conds ∷ [])).0 mentions))

  pub says_selected : SaysSelected fragment whole
  says_selected = record {
    holds = select_holds;
    columns = λ col names. let Never : Cond → Type 0 = λ cond. ⊥ in
        (select_mentions (IsOn (on.Col col)) Never (λ pick made is. pick_names pick made is (on.Col col))
        (λ cond made is told. prop_only cond.on col is.0 (test_names cond.on (on.Col col) cond.test made is.1 told)) names).4;
    props = λ prop names. let Q : Cond → Type 0 = λ cond. cond.on ≡ on.Prop prop in
        select_mentions (IsOn (on.Prop prop)) Q (λ pick made is. pick_names pick made is (on.Prop prop))
        (λ cond made is told. test_names cond.on (on.Prop prop) cond.test made is.1 told) names;
    constants = λ prop value compares. let Q : Cond → Type 0 = λ cond. (cond.on ≡ on.Prop prop) × (cond.test ≡ test.Equals value) in
        select_mentions (IsComparison (on.Prop prop) value) Q (λ pick made is. pick_compares pick made is (on.Prop prop) value)
        (λ cond made is told. test_compares cond.on (on.Prop prop) value cond.test made is.1 told) compares;
  }

  -- and so does what is made of both, if memory is found
  pub selected_by : (made : Result Expr Memory) → IfOk made (λ e. e ≡ whole) → IfOk made (SaysSelected fragment)
  selected_by (Ok e) is = subst (SaysSelected fragment) (sym is) says_selected
  selected_by (Err none) is = tt

-- the expression of column conditions and of columns that aren't null
module _ (asked : List Cond) (cols : List ColId) (conds filled : List Expr) (of_conds : AreOf (IsOfCond side.Cols) (λ cond. ¬ IsOnSide side.Cols cond.on) asked conds)
    (of_cols : AreOf IsOfColumn (λ col. ⊥) cols filled) where
  abbrev shown : Expr
  shown = expr.All (expr.All conds ∷ expr.All filled ∷ [])

  show_holds : (row : Row) → Holds (of_row row) shown ↔ ShowsRow asked cols row
  show_holds row =
      let reading = of_row row in
      let Meets : Cond → Type 0 = λ cond. MetByRow row cond.on cond.test in
      let Filled : ColId → Type 0 = λ col. cell_of row col ≢ Null in
      let parts : Holds reading shown ↔ (Holds reading (expr.All conds) × Holds reading (expr.All filled)) =
      iff_trans (holds_all reading (expr.All conds ∷ expr.All filled ∷ [])) (all_two (Holds reading) (expr.All conds) (expr.All filled)) in
      let meets = iff_trans (holds_all reading conds) (all_made (IsOfCond side.Cols) (λ cond. ¬ IsOnSide side.Cols cond.on) asked conds of_conds (Holds reading) Meets
      (λ cond made is. iff_trans (test_holds (λ t. ⊥) (λ t. ⊥) (row_value row) cond.on cond.test made is.1) (col_met row cond.on cond.test is.0))
      (λ cond left. col_left row cond.on cond.test left)) in
      let none_null = iff_trans (holds_all reading filled) (all_made IsOfColumn (λ col. ⊥) cols filled of_cols (Holds reading) Filled
      (λ col made is. test_holds (λ t. ⊥) (λ t. ⊥) (row_value row) (on.Col col) (test.IsNull false) made is) (λ col none. absurd none)) in (
        λ holds. record { meets = meets.0 (parts.0 holds).0; not_null = none_null.0 (parts.0 holds).1 },
        λ shows. parts.1 (meets.1 shows.meets, none_null.1 shows.not_null),
      )

  -- it mentions nothing that none of its parts does
  show_mentions : (Is : Expr → Type 0)
      → ((what : CondOn) (test : Test) (made : Expr) → IsOnSide side.Cols what → IsOfTest what test made → ¬ Mentions Is made) → ¬ Mentions Is shown
  show_mentions Is none mentions = ⊎_elim
      (λ (in_conds : Mentions Is (expr.All conds)). let Never : Cond → Type 0 = λ cond. ⊥ in
      (some_made (IsOfCond side.Cols) (λ cond. ¬ IsOnSide side.Cols cond.on) asked conds of_conds (Mentions Is) Never
      (λ cond made is. none cond.on cond.test made is.0 is.1) ((mentions_all Is conds).0 in_conds)).4)
      (λ (in_cols : Mentions Is (expr.All filled)). let Never : ColId → Type 0 = λ col. ⊥ in
      (some_made IsOfColumn (λ col. ⊥) cols filled of_cols (Mentions Is) Never
      (λ col made is. none (on.Col col) (test.IsNull false) made tt is) ((mentions_all Is filled).0 in_cols)).4)
      (any_two (Mentions Is) (expr.All conds) (expr.All filled) ((mentions_all Is (expr.All conds ∷ expr.All filled ∷ [])).0 mentions))

  pub says_shown : SaysShown asked cols shown
  says_shown = record {
    holds = show_holds;
    props = λ prop. show_mentions (IsOn (on.Prop prop)) (λ what test made side is names. col_only what prop side (test_names what (on.Prop prop) test made is names));
    types = show_mentions IsOnType (λ what test made side is. test_types what test made is);
  }

  pub shown_by : (made : Result Expr Memory) → IfOk made (λ e. e ≡ shown) → IfOk made (SaysShown asked cols)
  shown_by (Ok e) is = subst (SaysShown asked cols) (sym is) says_shown
  shown_by (Err none) is = tt

-- an expression of rows says what fragments show
pub shown_by_fragment : (fragment : Fragment) (made : Expr) → SaysShown fragment.conds [] made → (row : Row) → Holds (of_row row) made ↔ Shows fragment row
shown_by_fragment fragment made says row =
    let Filled : ColId → Type 0 = λ col. cell_of row col ≢ Null in
    iff_trans (says.holds row) ((λ shows. shows.meets), (λ meets. record { meets = meets; not_null = All-nil Filled }))

pub shown_by_links : (fragment : LinkFragment) (made : Expr) → SaysShown fragment.conds (map (λ pair. pair.col) (fragment.first ++ fragment.second)) made → (row : Row)
    → Holds (of_row row) made ↔ ShowsLink fragment row
shown_by_links fragment made says row =
    let Filled : ColId → Type 0 = λ col. cell_of row col ≢ Null in
    let Keyed : Pair → Type 0 = λ pair. cell_of row pair.col ≢ Null in
    let pairs = fragment.first ++ fragment.second in
    iff_trans (says.holds row) (
      (λ shows. record {
        meets = shows.meets;
        keys = all_from_members Keyed pairs
            (λ pair has. All-contains Filled (map (λ p. p.col) pairs) pair.col shows.not_null (contains_map (λ p. p.col) pairs pair has));
      }),
      (λ shows. record { meets = shows.meets; not_null = All-map Filled (λ p. p.col) pairs shows.keys }),
    )
