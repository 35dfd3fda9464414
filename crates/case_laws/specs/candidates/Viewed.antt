-- What the query view of an entity set gives at a key.
-- Source: the query views of Melnik, Adya and Bernstein, SIGMOD 2007.
use Rattle.std.specs.Prelude.{List, ℕ, take, All, Bool}
use Rattle.round_trip.specs.Words.{SetId, TableId, ColId, Value, Entity, Hosted, Tables, At}
use Rattle.regions.specs.Basis.{Basis}
use Rattle.case_laws.specs.declared.region_cases.case.Case.{Case}
use Rattle.case_laws.specs.region_cases.Cases.{cases_of}
use Rattle.case_laws.specs.region_cases.Meets.{IsEntityOf, IsLinkOf, MeetsCase}
use Rattle.case_laws.specs.candidates.Rows.{HasRows}

module _ (basis : Basis) (is_free : TableId → ColId → Bool) (tables : Tables) (s : SetId) (key : List Value) where
  -- the first of the set's cases, in their order, that the rows at the key meet
  pub record IsFirstMet (case : Case) : Type 0 where
    pub place : ℕ
    pub is_case : At (cases_of is_free basis s) place case
    pub meets : MeetsCase basis tables key case
    pub first : All (λ other. ¬ MeetsCase basis tables key other) (take place (cases_of is_free basis s))

  -- the entity that the query view gives: the one that is told by this case
  pub record IsViewed (entity : Entity) : Type 0 where
    pub case : Case
    pub first_met : IsFirstMet case
    pub told : IsEntityOf basis tables key case entity

  -- a link that it gives: one that is told by this case
  pub record IsViewedLink (hosted : Hosted) : Type 0 where
    pub case : Case
    pub first_met : IsFirstMet case
    pub told : IsLinkOf basis tables key case hosted

  -- rows stand at the key, and meet no case
  pub record LacksCase : Type 0 where
    pub rows : HasRows basis.schema tables s key
    pub none : All (λ case. ¬ MeetsCase basis tables key case) (cases_of is_free basis s)
