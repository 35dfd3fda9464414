-- What loading tables by an accepted mapping answers, and the text of the state that they tell.
-- Source: the query views of Melnik, Adya and Bernstein, SIGMOD 2007; RFC 8259. What a free column holds plays no part.
use Rattle.std.specs.Prelude.{◌≡◌, ℕ, List, Bool, Result, Ok, Err, ⊤}
use Rattle.serde_json.specs.Data.{Data}
use Rattle.json_form.specs.Documents.{printed}
use Rattle.entity_state.specs.Tells.{IsTreeInKeyOrder}
use Rattle.round_trip.specs.Words.{TableId, ColId, Breach, Schema, State, Tables, AreLegalTables, IsBreachOf, IsLegal, IsSameState, TablesAre}
use Rattle.round_trip.specs.legality.TableBreaches.{IsBreachOfTables}
use Rattle.cells.specs.declared.parts.Parts.{Parts}
use Rattle.cells.specs.Cells.{is_free_in}
use Rattle.cells.specs.Parts.{AreParts, schema_in}
use Rattle.region_states.specs.region_basis.BasisOf.{basis_of}
use Rattle.update_views.specs.Views.{AreViewsOf}
use Rattle.query_views.specs.Views.{AreQueryViewsOf}
use Rattle.mapping_core.specs.declared.compiled.CompiledParts.{CompiledParts}
use Rattle.mapping_core.specs.Accepted.{IsAccepted}
use Rattle.mapping_core.specs.Rules.{IsRead}
use Rattle.regions.specs.Basis.{Basis}
use Rattle.regions.specs.region_laws.IsBasis.{IsBasis}
use Rattle.case_laws.specs.Reading.{DecidesFree, HasStateTables}
use Rattle.case_laws.specs.candidates.Candidates.{IsCandidate, IsFirstLack}
use Rattle.keyed_rows.specs.declared.row_differences.differences.Difference.{Difference}
use Rattle.keyed_rows.specs.row_differences.Differences.{IsFirstDifference}
use Rattle.keyed_rows.specs.row_differences.SameButFree.{AreSameButFree}
use Rattle.query_views.specs.declared.fault.StateFault.{StateFault}
use Rattle.query_views.specs.declared.fault.StateFault.TheVariants as query
use Rattle.mapping_core.specs.declared.loading.LoadFault.{LoadFault}
use Rattle.mapping_core.specs.declared.loading.LoadFault.TheVariants.{Breach as NotLegal, NoCase, Illegal, Differs, Memory}

-- a basis of the schema, by which its regions and cases are told, and an answer which columns are free
pub record IsReadBy (schema : Schema) (basis : Basis) (is_free : TableId → ColId → Bool) : Type 0 where
  pub is_basis : IsBasis basis
  pub of_schema : basis.schema ≡ schema
  pub free : DecidesFree basis.schema is_free

-- no legal state has the tables, free cells aside
abbrev pub HasNoState : Schema → Tables → Type 0
HasNoState schema tables = (state : State) → IsLegal schema.model state → ¬ HasStateTables schema state tables

-- the state that tables tell: it is legal and they are its tables, free cells aside; no other state is; and it is what the query views give, in the order of keys
pub record IsLoaded (schema : Schema) (tables : Tables) (state : State) : Type 0 where
  pub legal : IsLegal schema.model state
  pub has : HasStateTables schema state tables
  pub only : (other : State) → IsLegal schema.model other → HasStateTables schema other tables → IsSameState other state
  pub basis : Basis
  pub is_free : TableId → ColId → Bool
  pub read_by : IsReadBy schema basis is_free
  pub candidate : IsCandidate basis is_free tables state

-- no legal state has the tables, and this is why, by the query views
pub record HasNoStateBy (schema : Schema) (tables : Tables) (Why : Basis → (TableId → ColId → Bool) → Type 0) : Type 0 where
  pub none : HasNoState schema tables
  pub basis : Basis
  pub is_free : TableId → ColId → Bool
  pub read_by : IsReadBy schema basis is_free
  pub why : Why basis is_free

-- the state that the query views give isn't legal, by this breach
pub record TellsIllegal (tables : Tables) (breach : Breach) (basis : Basis) (is_free : TableId → ColId → Bool) : Type 0 where
  pub candidate : State
  pub is : IsCandidate basis is_free tables candidate
  pub breaks : IsBreachOf basis.schema.model candidate breach

-- the state that they give is legal, and its tables are others, by this row
pub record TellsDifferent (tables : Tables) (found : Difference) (basis : Basis) (is_free : TableId → ColId → Bool) : Type 0 where
  pub candidate : State
  pub is : IsCandidate basis is_free tables candidate
  pub legal : IsLegal basis.schema.model candidate
  pub fresh : Tables
  pub are : TablesAre basis.schema candidate fresh
  pub first : IsFirstDifference basis.schema.store is_free tables fresh found

-- of legal tables: the state that they tell; or, where none has them, why: a key whose rows meet no case, a breach of the state that is told, or a row that differs
abbrev pub LoadsLegal : Schema → Tables → Result State LoadFault → Type 0
LoadsLegal schema tables (Ok state) = IsLoaded schema tables state
LoadsLegal schema tables (Err (NotLegal breach)) = ⊥
LoadsLegal schema tables (Err (NoCase place)) = HasNoStateBy schema tables (λ basis is_free. IsFirstLack basis is_free tables place)
LoadsLegal schema tables (Err (Illegal breach)) = HasNoStateBy schema tables (TellsIllegal tables breach)
LoadsLegal schema tables (Err (Differs place held demanded)) =
    HasNoStateBy schema tables (TellsDifferent tables (record { place = place; held = held; demanded = demanded }))
LoadsLegal schema tables (Err Memory) = ⊤

-- the first breach of the rules of tables; or, where they are legal, the same as above. Memory says nothing.
abbrev pub Loads : Schema → Tables → Result State LoadFault → Type 0
Loads schema tables (Err (NotLegal breach)) = IsBreachOfTables schema.store tables breach
Loads schema tables (Err Memory) = ⊤
Loads schema tables result = AreLegalTables schema.store tables × LoadsLegal schema tables result

-- what an accepted mapping is made of
pub record AreAcceptedParts (made : CompiledParts) : Type 0 where
  pub read : IsRead (schema_in made.parts)
  pub accepted : IsAccepted (schema_in made.parts)
  pub parts : AreParts made.parts
  pub update_views : AreViewsOf (basis_of made.parts) made.update_views.now
  pub query_views : AreQueryViewsOf (basis_of made.parts) (is_free_in made.parts.cells.now) made.query_views.now

-- the tables are those of the state, free cells aside; or the first row in which they differ, so that they aren't. Memory says nothing.
abbrev pub Compares : Parts → Tables → State → Result Unit LoadFault → Type 0
Compares parts tables state (Ok done) = HasStateTables (schema_in parts) state tables
Compares parts tables state (Err (Differs place held demanded)) = (fresh : Tables) × TablesAre (schema_in parts) state fresh
    × IsFirstDifference parts.store.now (is_free_in parts.cells.now) tables fresh (record { place = place; held = held; demanded = demanded })
    × ¬ AreSameButFree parts.store.now (is_free_in parts.cells.now) tables fresh
Compares parts tables state (Err Memory) = ⊤
Compares parts tables state (Err fault) = ⊥

-- the fault tells what the query views told
abbrev pub TellsLack : StateFault → LoadFault → Type 0
TellsLack (query.NoCase place) fault = fault ≡ NoCase place
TellsLack query.Memory fault = fault ≡ Memory

-- the printed document of the state, with the entities of each set in the order of their keys
abbrev pub IsStateText : Schema → State → List ℕ → Type 0
IsStateText schema state text = (tree : Data) × IsTreeInKeyOrder schema.model state tree × (text ≡ printed tree)
