-- Cells without a clash: their symbols have one value, which is known or that of one symbol.
use Rattle.std.proofs.Common.{◌≡◌, ◌≢◌, ◌⊎◌, ⊎_elim, inl, inr, ◌↔◌, List, [], ◌∷◌, Bool, false, not, IsTrue, AllPairs, Any, Contains, Decides, refl, sym, ap, subst, ◌∙◌}
use Rattle.std.specs.List.{list_any}
use Rattle.std.proofs.lemmas.Bool.Decides.{Decides-and, Decides-like, Decides-not, not_from_Decides}
use Rattle.round_trip.specs.Words.{Value, Null, EntityModel}
use Rattle.condition_logic.specs.declared.atoms.AtomOf.{AtomOf}
use Rattle.schema_laws.specs.state_demand.Selecting.{same_value}
use Rattle.schema_laws.proofs.state_demand.writings.Decisions.{so_or_not}
use Rattle.schema_laws.proofs.state_demand.lists.Lists.{Decides-any, any_of, head_stands, none_in_nil, of_any, tail_stands}
use Rattle.schema_laws.proofs.state_demand.lists.Permutations.{head_apart}
use Rattle.schema_laws.proofs.state_demand.writings.Selecting.{Decides-value}
use Rattle.regions.specs.declared.pattern.Symbol.{Symbol}
use Rattle.regions.specs.Symbols.{same_symbol}
use Rattle.regions.specs.Patterns.{Valuation, value_under}
use Rattle.regions.specs.Settled.{Possible, are_one, clashes, free, has_clash, known, multi, possible, settle, settled_by, single}
use Rattle.regions.specs.region_laws.pattern.Allowed.{CanBe}
use Rattle.regions.specs.region_laws.pattern.Described.{HasTwoSymbols}
use Rattle.regions.proofs.region_laws.values.Symbols.{Decides-symbol}

-- both can be one and the same value alone
abbrev AreOne : Possible → Possible → Type 0
AreOne one two = (value : Value) × (one ≡ single value) × (two ≡ single value)

Decides-one : (one two : Possible) → Decides (are_one one two) (AreOne one two)
Decides-one (single one) (single two) = Decides-like (same_value one two) (λ same. (one, refl, (let is : single two ≡ single one = λ k. single (sym same k) in is)))
    (λ (are : AreOne (single one) (single two)). (let first : one ≡ are.0 = cc in let second : two ≡ are.0 = cc in first ∙ sym second)) (Decides-value one two)
Decides-one (single one) (multi n) = (λ told. cc, λ are. let never = are.2 in cc)
Decides-one (multi n) (single two) = (λ told. cc, λ are. let never = are.1 in cc)
Decides-one (multi n) (multi m) = (λ told. cc, λ are. let never = are.1 in cc)

module _ (model : EntityModel) (atoms : List AtomOf) where
  abbrev can : Symbol → Possible
  can = possible model atoms

  abbrev Clash : Symbol → Symbol → Type 0
  Clash one two = (one ≢ two) × ¬ AreOne (can one) (can two)

  Decides-clashes : (one two : Symbol) → Decides (clashes model atoms one two) (Clash one two)
  Decides-clashes one two = Decides-and (not (same_symbol one two)) (not (are_one (can one) (can two)))
      (Decides-not (same_symbol one two) (Decides-symbol one two))
      (Decides-not (are_one (can one) (can two)) (Decides-one (can one) (can two)))

  module _ (cell : List Symbol) where
    Decides-has : Decides (has_clash model atoms cell) (Any (λ one. Any (Clash one) cell) cell)
    Decides-has = Decides-any (λ one. list_any (clashes model atoms one) cell) (λ one. Any (Clash one) cell)
        (λ one. Decides-any (clashes model atoms one) (Clash one) (Decides-clashes one) cell) cell

    pub clash_decided : IsTrue (has_clash model atoms cell) ↔ HasTwoSymbols model atoms cell
    clash_decided = (
      λ told.
          let first = of_any (λ one. Any (Clash one) cell) cell (Decides-has.0 told) in
          let second = of_any (Clash first.0) cell first.2 in
          record {
            one = first.0;
            two = second.0;
            lists_one = first.1;
            lists_two = second.1;
            different = second.2.0;
            not_alike = λ value is_one is_two. second.2.1 (value, is_one, is_two);
          },
      λ has. Decides-has.1 (any_of (λ one. Any (Clash one) cell) cell has.one has.lists_one
          (any_of (Clash has.one) cell has.two has.lists_two (has.different, λ are. has.not_alike are.0 are.1 are.2))),
    )

    module _ (none : has_clash model atoms cell ≡ false) where
      -- two listed symbols are one, or the same value alone
      alike : (one two : Symbol) → Contains cell one → Contains cell two → (one ≡ two) ⊎ AreOne (can one) (can two)
      alike one two has_one has_two = ⊎_elim
          (λ (same : one ≡ two). inl same)
          (λ (different : ¬ (one ≡ two)). ⊎_elim
          (λ (are : AreOne (can one) (can two)). inr are)
          (λ (not_one : ¬ AreOne (can one) (can two)). absurd (not_from_Decides (has_clash model atoms cell) Decides-has none
          (any_of (λ one. Any (Clash one) cell) cell one has_one (any_of (Clash one) cell two has_two (different, not_one)))))
          (so_or_not (are_one (can one) (can two)) (Decides-one (can one) (can two))))
          (so_or_not (same_symbol one two) (Decides-symbol one two))

      module _ (valuation : Valuation) (each : (symbol : Symbol) → Contains cell symbol → CanBe (can symbol) (value_under valuation symbol)) where
        single_is : (symbol : Symbol) → Contains cell symbol → (value : Value) → can symbol ≡ single value → value_under valuation symbol ≡ value
        single_is symbol has value is = let P : Possible → Type 0 = λ found. CanBe found (value_under valuation symbol) in subst P is (each symbol has)

        pub one_value : (one two : Symbol) → Contains cell one → Contains cell two → value_under valuation one ≡ value_under valuation two
        one_value one two has_one has_two = ⊎_elim
            (λ (same : one ≡ two). ap (value_under valuation) same)
            (λ (are : AreOne (can one) (can two)). single_is one has_one are.0 are.1 ∙ sym (single_is two has_two are.0 are.2))
            (alike one two has_one has_two)

-- what the first symbol settles
module _ (model : EntityModel) (atoms : List AtomOf) where
  first_known : (first : Symbol) (found : Possible) (value : Value) → settled_by first found ≡ known value → found ≡ single value
  first_known first (single one) value is = let same : one ≡ value = cc in λ k. single (same k)
  first_known first (multi n) value is = cc

  first_free : (first : Symbol) (found : Possible) (one : Symbol) (n : Bool) → settled_by first found ≡ free one n → (first ≡ one) × (found ≡ multi n)
  first_free first (single value) one n is = cc
  first_free first (multi m) one n is = ((let same : first ≡ one = cc in same), (let same : m ≡ n = cc in λ k. multi (same k)))

  pub known_is : (cell : List Symbol) → has_clash model atoms cell ≡ false → (valuation : Valuation)
      → ((symbol : Symbol) → Contains cell symbol → CanBe (possible model atoms symbol) (value_under valuation symbol))
      → (value : Value) → settle model atoms cell ≡ known value → (symbol : Symbol) → Contains cell symbol → value_under valuation symbol ≡ value
  known_is [] none valuation each value is symbol has = absurd (none_in_nil symbol has)
  known_is (first ∷ rest) none valuation each value is symbol has =
      let head = head_stands first rest in
      one_value model atoms (first ∷ rest) none valuation each symbol first has head
      ∙ single_is model atoms (first ∷ rest) none valuation each first head value (first_known first (possible model atoms first) value is)

  pub known_empty : (value : Value) → settle model atoms [] ≡ known value → value ≡ Null
  known_empty value is = cc

  pub free_is : (cell : List Symbol) → AllPairs (λ x y. x ≢ y) cell → has_clash model atoms cell ≡ false
      → (one : Symbol) (n : Bool) → settle model atoms cell ≡ free one n → (cell ≡ one ∷ []) × (possible model atoms one ≡ multi n)
  free_is [] apart none one n is = cc
  free_is (first ∷ []) apart none one n is = let by = first_free first (possible model atoms first) one n is in
      ((λ k. by.0 k ∷ []), subst (λ s. possible model atoms s ≡ multi n) by.0 by.1)
  free_is (first ∷ second ∷ rest) apart none one n is =
      let by = first_free first (possible model atoms first) one n is in
      let there = tail_stands first (second ∷ rest) second (head_stands second rest) in
      ⊎_elim
      (λ (same : first ≡ second). absurd (head_apart first (second ∷ rest) second apart (head_stands second rest) same))
      (λ (are : AreOne (possible model atoms first) (possible model atoms second)). (let never : multi n ≡ single are.0 = sym by.1 ∙ are.1 in cc))
      (alike model atoms (first ∷ second ∷ rest) none first second (head_stands first (second ∷ rest)) there)
