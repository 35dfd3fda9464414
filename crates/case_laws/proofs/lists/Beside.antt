-- Values beside properties tell the list of values.
use Rattle.std.proofs.Common.{◌≡◌, ◌≢◌, ◌==◌, List, [], ◌∷◌, length, map, Bool, true, false, if◌then◌else◌, Contains, refl, sym, ap, ◌∙◌, arith}
use Rattle.std.proofs.lemmas.List.Elements.{All-contains}
use Rattle.emc_base.specs.Lists.{AreApart}
use Rattle.regions.proofs.region_laws.lists.Choices.{pairs_head, pairs_tail}
use Rattle.schema_laws.proofs.state_demand.lists.Ids.{Decides-prop}
use Rattle.round_trip.specs.Words.{PropId, Value, value_beside}
use Rattle.schema_laws.proofs.state_demand.lists.Lists.{head_stands, tail_stands}
use Rattle.schema_laws.proofs.state_demand.owners.Owners.{beside_map}
use Rattle.std.proofs.lemmas.List.{length-map}

abbrev beside : Bool → Value → Value → Value
beside b value other = if b then value else other

-- the first property has the first value
pub beside_first : (p : PropId) (props : List PropId) (value : Value) (values : List Value) → value_beside p (p ∷ props) (value ∷ values) ≡ value
beside_first p props value values = ap (λ b. beside b value (value_beside p props values)) ((Decides-prop p p).1 refl)

-- another has one of the others
pub beside_later : (p q : PropId) (props : List PropId) (value : Value) (values : List Value) → p ≢ q
    → value_beside q (p ∷ props) (value ∷ values) ≡ value_beside q props values
beside_later p q props value values other = by (p.index == q.index) refl
  where
    by : (b : Bool) → p.index == q.index ≡ b → beside b value (value_beside q props values) ≡ value_beside q props values
    by false told = refl
    by true told = absurd (other ((Decides-prop p q).0 told))

-- lists of values that are the same beside each property are one
pub same_beside : (props : List PropId) (xs ys : List Value) → AreApart props → length xs ≡ length props → length ys ≡ length props
    → ((p : PropId) → Contains props p → value_beside p props xs ≡ value_beside p props ys) → xs ≡ ys
same_beside [] [] [] apart long also same = refl
same_beside [] [] (y ∷ ys) apart long also same = absurd (omega (arith, also))
same_beside [] (x ∷ xs) ys apart long also same = absurd (omega (arith, long))
same_beside (p ∷ props) [] ys apart long also same = absurd (omega (arith, long))
same_beside (p ∷ props) (x ∷ xs) [] apart long also same = absurd (omega (arith, also))
same_beside (p ∷ props) (x ∷ xs) (y ∷ ys) apart long also same =
    let Other : PropId → PropId → Type 0 = λ one two. one ≢ two in
    let first : x ≡ y = sym (beside_first p props x xs) ∙ same p (head_stands p props) ∙ beside_first p props y ys in
    let rest : xs ≡ ys = same_beside props xs ys (pairs_tail Other p props apart) (omega (arith, long)) (omega (arith, also))
    (λ q among.
    let other : p ≢ q = All-contains (Other p) props q (pairs_head Other p props apart) among in
    sym (beside_later p q props x xs other) ∙ same q (tail_stands p props q among) ∙ beside_later p q props y ys other) in
    λ k. first k ∷ rest k

-- a list of values is that of those that stand beside each property
pub all_beside : (props : List PropId) (xs : List Value) → AreApart props → length xs ≡ length props → map (λ p. value_beside p props xs) props ≡ xs
all_beside props xs apart long = same_beside props (map (λ (p : PropId). value_beside p props xs) props) xs apart (length-map props (λ (p : PropId). value_beside p props xs)) long
    (λ p among. beside_map (λ (q : PropId). value_beside q props xs) props p among)
