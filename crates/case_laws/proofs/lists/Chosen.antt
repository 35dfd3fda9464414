-- Lists of items that are chosen for each item of another list.
use Rattle.std.proofs.Common.{◌≡◌, ◌≢◌, ⊎_elim, List, [], ◌∷◌, length, suc, Contains, refl, sym, ap, subst}
use Rattle.std.proofs.lemmas.List.Elements.{All-contains}
use Rattle.emc_base.specs.Lists.{AreApart}
use Rattle.round_trip.specs.Words.{PropId, Value, value_beside}
use Rattle.schema_laws.proofs.state_demand.lists.Lists.{head_stands, member_cases, none_in_nil, tail_stands}
use Rattle.regions.proofs.region_laws.lists.Choices.{pairs_head, pairs_tail}
use Rattle.case_laws.proofs.lists.Beside.{beside_first, beside_later}

-- values that are chosen for properties
pub record AreChosen (P : PropId → Value → Type 0) (props : List PropId) : Type 0 where
  pub values : List Value
  pub size : length values ≡ length props
  pub each : (p : PropId) → Contains props p → P p (value_beside p props values)

pub chosen_values : (P : PropId → Value → Type 0) (props : List PropId) → AreApart props → ((p : PropId) → Contains props p → (value : Value) × P p value) → AreChosen P props
chosen_values P [] apart choose = record { values = []; size = refl; each = λ p among. absurd (none_in_nil p among) }
chosen_values P (p ∷ props) apart choose =
    let Other : PropId → PropId → Type 0 = λ one two. one ≢ two in
    let first = choose p (head_stands p props) in
    let rest = chosen_values P props (pairs_tail Other p props apart) (λ q among. choose q (tail_stands p props q among)) in
    record {
      values = first.0 ∷ rest.values;
      size = ap suc rest.size;
      each = λ q among. ⊎_elim
          (λ (here : q ≡ p).
          let At_ : PropId → Type 0 = λ one. P one (value_beside one (p ∷ props) (first.0 ∷ rest.values)) in
          subst At_ (sym here) (subst (P p) (sym (beside_first p props first.0 rest.values)) first.1))
          (λ (later : Contains props q).
          subst (P q) (sym (beside_later p q props first.0 rest.values (All-contains (Other p) props q (pairs_head Other p props apart) later))) (rest.each q later))
          (member_cases p props q among);
    }

-- items that are chosen for others
pub record AreChosenFor {X Y : Type 0} (P : X → Y → Type 0) (xs : List X) : Type 0 where
  pub items : List Y
  pub all : (x : X) → Contains xs x → (y : Y) × Contains items y × P x y
  pub only : (y : Y) → Contains items y → (x : X) × Contains xs x × P x y

pub chosen_items : {X Y : Type 0} (P : X → Y → Type 0) (xs : List X) → ((x : X) → Contains xs x → (y : Y) × P x y) → AreChosenFor P xs
chosen_items P [] choose = record { items = []; all = λ x among. absurd (none_in_nil x among); only = λ y among. absurd (none_in_nil y among) }
chosen_items {X} {Y} P (x ∷ xs) choose =
    let first = choose x (head_stands x xs) in
    let rest = chosen_items P xs (λ z among. choose z (tail_stands x xs z among)) in
    record {
      items = first.0 ∷ rest.items;
      all = λ z among. ⊎_elim
          (λ (here : z ≡ x).
          let Q : X → Type 0 = λ one. (y : Y) × Contains (first.0 ∷ rest.items) y × P one y in
          subst Q (sym here) (first.0, head_stands first.0 rest.items, first.1))
          (λ (later : Contains xs z). let found = rest.all z later in (found.0, tail_stands first.0 rest.items found.0 found.1, found.2))
          (member_cases x xs z among);
      only = λ y among. ⊎_elim
          (λ (here : y ≡ first.0). (x, head_stands x xs, subst (P x) (sym here) first.1))
          (λ (later : Contains rest.items y). let found = rest.only y later in (found.0, tail_stands x xs found.0 found.1, found.2))
          (member_cases first.0 rest.items y among);
    }
