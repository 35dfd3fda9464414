-- What is told beside properties, and what stands beside those that a constraint matches.
use Rattle.std.proofs.Common.{◌≡◌, ⊎_elim, ◌==◌, List, [], ◌∷◌, map, length, Contains, Option, Some, None, refl, sym, ap, subst, arith}
use Rattle.std.proofs.lemmas.Bool.{cond-true, cond_both}
use Rattle.std.proofs.lemmas.Bool.Decides.{not_from_Decides}
use Rattle.emc_base.proofs.Members.{contains_cons_cases, contains_head, contains_nil, contains_tail}
use Rattle.round_trip.specs.Words.{PropId, Value, value_beside}
use Rattle.regions.specs.declared.pattern.Symbol.{Symbol}
use Rattle.schema_laws.proofs.state_demand.lists.Ids.{Decides-prop}
use Rattle.forced_entities.specs.Forced.{part_beside}

-- what is told beside a property of what is told of each
pub part_map : (told : PropId → Option Symbol) (props : List PropId) (p : PropId) → Contains props p → part_beside p props (map told props) ≡ told p
part_map told [] p has = absurd (contains_nil p has)
part_map told (q ∷ props) p has =
    let P : Option Symbol → Type 0 = λ part. part ≡ told p in
    cond_both (q.index == p.index) (told q) (part_beside p props (map told props)) P
    (λ is. ap told ((Decides-prop q p).0 is))
    (λ is. ⊎_elim
    (λ (here : p ≡ q). absurd (not_from_Decides (q.index == p.index) (Decides-prop q p) is (sym here)))
    (λ (later : Contains props p). part_map told props p later)
    (contains_cons_cases q props p has))

-- what has something beside it is one of the properties
pub part_among : (props : List PropId) (parts : List (Option Symbol)) (p : PropId) (symbol : Symbol) → part_beside p props parts ≡ Some symbol → Contains props p
part_among [] parts p symbol is = absurd (let never : None ≡ Some symbol = is in cc)
part_among (q ∷ props) [] p symbol is = absurd (let never : None ≡ Some symbol = is in cc)
part_among (q ∷ props) (part ∷ parts) p symbol is =
    let P : Option Symbol → Type 0 = λ found. found ≡ Some symbol → Contains (q ∷ props) p in
    cond_both (q.index == p.index) part (part_beside p props parts) P
    (λ told found. subst (Contains (q ∷ props)) ((Decides-prop q p).0 told) (contains_head q props))
    (λ told found. contains_tail q props p (part_among props parts p symbol found)) is

-- the dependent property that stands beside a principal one, by its value and by what is told of it
pub record IsBeside (principal dependent : List PropId) (p : PropId) : Type 0 where
  pub other : PropId
  pub among : Contains dependent other
  pub value : (f : PropId → Value) → value_beside p principal (map f dependent) ≡ f other
  pub part : (f : PropId → Option Symbol) → part_beside p principal (map f dependent) ≡ f other

pub beside : (principal dependent : List PropId) → length principal ≡ length dependent → (p : PropId) → Contains principal p → IsBeside principal dependent p
beside [] dependent same p has = absurd (contains_nil p has)
beside (q ∷ principal) [] same p has = absurd (let none : ⊥ = cc in none)
beside (q ∷ principal) (d ∷ dependent) same p has = ⊎_elim
    (λ (here : p ≡ q). record {
      other = d;
      among = contains_head d dependent;
      value = λ f. cond-true (q.index == p.index) (f d) (value_beside p principal (map f dependent)) ((Decides-prop q p).1 (sym here));
      part = λ f. cond-true (q.index == p.index) (f d) (part_beside p principal (map f dependent)) ((Decides-prop q p).1 (sym here));
    })
    (λ (later : Contains principal p). let rest : IsBeside principal dependent p = beside principal dependent (let tails : length principal ≡ length dependent = cc in tails) p later in
    cond_both (q.index == p.index) d rest.other
    (λ one. IsBeside (q ∷ principal) (d ∷ dependent) p)
    (λ told. record {
      other = d;
      among = contains_head d dependent;
      value = λ f. cond-true (q.index == p.index) (f d) (value_beside p principal (map f dependent)) told;
      part = λ f. cond-true (q.index == p.index) (f d) (part_beside p principal (map f dependent)) told;
    })
    (λ told. record {
      other = rest.other;
      among = contains_tail d dependent rest.other rest.among;
      value = λ f. cond_both (q.index == p.index) (f d) (value_beside p principal (map f dependent)) (λ v. v ≡ f rest.other)
          (λ is. absurd (not_from_Decides (q.index == p.index) (Decides-prop q p) told ((Decides-prop q p).0 is)))
          (λ is. rest.value f);
      part = λ f. cond_both (q.index == p.index) (f d) (part_beside p principal (map f dependent)) (λ v. v ≡ f rest.other)
          (λ is. absurd (not_from_Decides (q.index == p.index) (Decides-prop q p) told ((Decides-prop q p).0 is)))
          (λ is. rest.part f);
    }))
    (contains_cons_cases q principal p has)

-- nothing stands beside a property where one list is at its end
module _ (p : PropId) where
  pub none_beside_first : (props : List PropId) (parts : List (Option Symbol)) → length props ≡ 0 → None ≡ part_beside p props parts
  none_beside_first [] parts none = refl
  none_beside_first (q ∷ props) parts none = absurd (omega arith)

  pub none_beside_second : (props : List PropId) (parts : List (Option Symbol)) → length parts ≡ 0 → None ≡ part_beside p props parts
  none_beside_second [] parts none = refl
  none_beside_second (q ∷ props) [] none = refl
  none_beside_second (q ∷ props) (part ∷ parts) none = absurd (omega arith)
