-- What the listed asks and writes of a mapping say of its properties and columns.
use Rattle.std.proofs.Common.{◌≡◌, ◌⊎◌, ◌↔◌, inl, inr, ℕ, ◌++◌, Some, None, Contains, refl, sym, ap, ◌∙◌}
use Rattle.std.proofs.lemmas.List.Elements.{Contains-append_cases, Contains-append_left, Contains-append_right}
use Rattle.round_trip.specs.Words.{PropId, TableId, Value, Pair, LinkFragment, Cond, Test, Schema}
use Rattle.edm_types.specs.declared.mapping.Test.TheVariants.{Equals, IsNull}
use Rattle.round_trip.specs.soundness.mappings.Joined.{Member, col, prop, member_of}
use Rattle.member_groups.specs.declared.mapping_asks.asks.Ask.{Ask}
use Rattle.member_groups.specs.declared.mapping_asks.member.MemberId.{MemberId}
use Rattle.member_groups.specs.declared.mapping_asks.member.MemberId.TheVariants.{Column, Prop}
use Rattle.member_groups.specs.mapping_asks.Adding.{Each}
use Rattle.member_groups.specs.mapping_asks.Asks.{Asks, AsksByLink, ask_by, constant_in, id_of, member_at}
use Rattle.member_groups.specs.mapping_asks.Several.{StandsWithTwo}
use Rattle.member_groups.specs.Tested.{HasCondition, IsAsked, IsComparedWith, IsImplied, IsWrittenTo, IsWrittenTwice, MakesTested}
use Rattle.member_groups.specs.mapping_asks.Writes.{WritesBy}

-- ids tell properties and columns
pub at_id : (member : Member) → member_at (id_of member) ≡ member
at_id (prop p) = refl
at_id (col t c) = refl

pub id_at : (id : MemberId) → id_of (member_at id) ≡ id
id_at (Prop p) = refl
id_at (Column t c) = refl

-- a condition that has a constant compares with it
compares : (test : Test) (constant : Value) → constant_in test ≡ Some constant → test ≡ Equals constant
compares (IsNull is_null) constant is = absurd (let never : None ≡ Some constant = is in cc)
compares (Equals value) constant is = let same : value ≡ constant = cc in ap Equals same

module _ (schema : Schema) where
  -- the implied condition on the column of a pair
  abbrev implied : LinkFragment → Pair → Ask
  implied fragment pair = record { on = Column fragment.table pair.col; constant = None }

  -- whence it is asked
  abbrev HasOrigin : Ask → Type 0
  HasOrigin ask = ((table : TableId) × (cond : Cond) × HasCondition schema table cond × (ask ≡ ask_by table cond))
      ⊎ ((fragment : LinkFragment) × (pair : Pair) × Contains schema.mapping.links fragment × Contains (fragment.first ++ fragment.second) pair × (ask ≡ implied fragment pair))

  origin : (ask : Ask) → Asks schema.mapping ask → HasOrigin ask
  origin ask (inl (fragment, has, (cond, among, is))) = inl (fragment.table, cond, inl (fragment, has, refl, among), is)
  origin ask (inr (fragment, has, by)) = by_link by
    where
      by_link : AsksByLink fragment ask → HasOrigin ask
      by_link (inl (inl (cond, among, is))) = inl (fragment.table, cond, inr (fragment, has, refl, among), is)
      by_link (inl (inr (pair, among, is))) = inr (fragment, pair, has, Contains-append_left fragment.first fragment.second pair among, is)
      by_link (inr (pair, among, is)) = inr (fragment, pair, has, Contains-append_right fragment.first fragment.second pair among, is)

  -- each condition is listed
  condition_listed : (table : TableId) (cond : Cond) → HasCondition schema table cond → Asks schema.mapping (ask_by table cond)
  condition_listed table cond (inl (fragment, has, same, among)) = inl (fragment, has, (cond, among, (let By : TableId → Ask = λ t. ask_by t cond in ap By (sym same))))
  condition_listed table cond (inr (fragment, has, same, among)) =
      inr (fragment, has, inl (inl (cond, among, (let By : TableId → Ask = λ t. ask_by t cond in ap By (sym same)))))

  -- and each that is implied
  implied_listed : (fragment : LinkFragment) (pair : Pair) → Contains schema.mapping.links fragment → Contains (fragment.first ++ fragment.second) pair
      → Asks schema.mapping (implied fragment pair)
  implied_listed fragment pair has among = inr (
    fragment,
    has,
    elim (Contains-append_cases fragment.first fragment.second pair among) [
      | inl first ↦ inl (inr (pair, first, refl))
      | inr second ↦ inr (pair, second, refl)
    ],
  )

  -- what is asked is on what it names
  on_condition : (ask : Ask) (table : TableId) (cond : Cond) → ask ≡ ask_by table cond → member_of table cond.on ≡ member_at ask.on
  on_condition ask table cond is = let On : Ask → Member = λ one. member_at one.on in sym (ap On is ∙ at_id (member_of table cond.on))

  -- what is asked of a property or a column, one way
  pub asks_what : (ask : Ask) → Asks schema.mapping ask → IsAsked schema (member_at ask.on) ⊎ IsImplied schema (member_at ask.on)
  asks_what ask asked = elim (origin ask asked) [
    | inl by ↦ inl (by.0, by.1, by.2, on_condition ask by.0 by.1 by.3)
    | inr by ↦ inr (by.0, by.1, by.2, by.3, (let On : Ask → Member = λ one. member_at one.on in sym (ap On by.4)))
  ]

  -- and the other way
  pub asked_listed : (member : Member) → IsAsked schema member → (ask : Ask) × Asks schema.mapping ask × (member_at ask.on ≡ member)
  asked_listed member (table, cond, has, is) = (ask_by table cond, condition_listed table cond has, at_id (member_of table cond.on) ∙ is)

  pub implied_asks : (member : Member) → IsImplied schema member → (ask : Ask) × Asks schema.mapping ask × (member_at ask.on ≡ member)
  implied_asks member (fragment, pair, has, among, is) = (implied fragment pair, implied_listed fragment pair has among, is)

  -- the constant of what is asked is compared with it
  pub compares_with : (ask : Ask) (constant : Value) → Asks schema.mapping ask → ask.constant ≡ Some constant → IsComparedWith schema (member_at ask.on) constant
  compares_with ask constant asked is = elim (origin ask asked) [
    | inl by ↦ (
      by.0,
      by.1,
      by.2,
      on_condition ask by.0 by.1 by.3,
      compares by.1.test constant (sym (ap (λ (one : Ask). one.constant) by.3) ∙ is),
    )
    | inr by ↦ absurd (let never : None ≡ Some constant = sym (ap (λ (one : Ask). one.constant) by.4) ∙ is in cc)
  ]

  pub compared_listed : (member : Member) (constant : Value) → IsComparedWith schema member constant
      → (ask : Ask) × Asks schema.mapping ask × (member_at ask.on ≡ member) × (ask.constant ≡ Some constant)
  compared_listed member constant (table, cond, has, is, test) = (ask_by table cond, condition_listed table cond has, at_id (member_of table cond.on) ∙ is, ap constant_in test)

  -- what is asked makes a group tested
  pub asked_tests : (member : Member) → IsAsked schema member ⊎ IsImplied schema member → MakesTested schema member
  asked_tests (prop p) (inl asked) = inl asked
  asked_tests (prop p) (inr (fragment, pair, has, among, is)) = absurd (let never : col fragment.table pair.col ≡ prop p = is in cc)
  asked_tests (col t c) (inl asked) = inl asked
  asked_tests (col t c) (inr by) = inr by

  -- what is written is listed with the number of its property
  write_told : (p : PropId) (target : MemberId) → Each WritesBy schema.mapping.fragments (p.index, target) → IsWrittenTo schema p (member_at target)
  write_told p target (fragment, has, (pair, among, is)) =
      let index : p.index ≡ pair.prop.index = ap (λ (e : ℕ × MemberId). e.0) is in
      let column : target ≡ Column fragment.table pair.col = ap (λ (e : ℕ × MemberId). e.1) is in
      (fragment, pair, has, among, (λ i. record { index = sym index i }), ap member_at (sym column))

  write_listed : (p : PropId) (target : Member) → IsWrittenTo schema p target → Each WritesBy schema.mapping.fragments (p.index, id_of target)
  write_listed p target (fragment, pair, has, among, of_prop, to) = (fragment, has, (pair, among, λ i. ((sym of_prop i).index, id_of (sym to i))))

  -- just the properties that are written twice stand with two columns
  pub written_twice : (p : PropId) → StandsWithTwo (Each WritesBy schema.mapping.fragments) p.index ↔ IsWrittenTwice schema p
  written_twice p = (
    λ two. (
      member_at two.0,
      member_at two.1,
      write_told p two.0 two.2,
      write_told p two.1 two.3,
      λ same. two.4 (sym (id_at two.0) ∙ ap id_of same ∙ id_at two.1),
    ),
    λ twice. (
      id_of twice.0,
      id_of twice.1,
      write_listed p twice.0 twice.2,
      write_listed p twice.1 twice.3,
      λ same. twice.4 (sym (at_id twice.0) ∙ ap member_at same ∙ at_id twice.1),
    ),
  )
