-- The state that tables tell by query views, or why there is none.
use Rattle.std.proofs.Common.{Bool, Err, IsErrAnd, Ok, Result, refl, sym, subst, ◌≡◌}
use Rattle.round_trip.specs.Words.{Breach, ColId, IsBreachOf, IsLegal, Place, State, TableId, Tables, TablesAre}
use Rattle.cells.specs.Cells.{is_free_in}
use Rattle.cells.specs.Parts.{AreParts, schema_in}
use Rattle.cells.specs.declared.parts.Parts.{Parts}
use Rattle.region_states.specs.region_basis.BasisOf.{basis_of}
use Rattle.region_states.proofs.region_basis.Bases.{basis_is}
use Rattle.regions.specs.Basis.{Basis}
use Rattle.regions.specs.region_laws.IsBasis.{IsBasis}
use Rattle.case_laws.specs.candidates.Candidates.{IsCandidate, IsFirstLack}
use Rattle.case_laws.proofs.candidate_laws.FreeCells.{cells_tell}
use Rattle.case_laws.proofs.candidate_laws.OwnView.{case_met}
use Rattle.case_laws.proofs.candidate_laws.SameCandidate.{legal_too, rows_same, same}
use Rattle.case_laws.specs.Reading.{DecidesFree, HasStateTables}
use Rattle.keyed_rows.specs.row_differences.Differences.{IsFirstDifference}
use Rattle.keyed_rows.specs.row_differences.SameButFree.{AreSameButFree}
use Rattle.keyed_rows.specs.declared.row_differences.differences.Difference.{Difference}
use Rattle.state_legality.proofs.Joined.{no_first_breach}
use Rattle.mapping_core.specs.Accepted.{IsAccepted}
use Rattle.query_views.specs.Answers.{StateOf}
use Rattle.query_views.specs.declared.fault.StateFault.{StateFault}
use Rattle.query_views.specs.declared.fault.StateFault.TheVariants as query
use Rattle.mapping_core.specs.states.Loads.{Compares, HasNoState, HasNoStateBy, IsLoaded, IsReadBy, LoadsLegal, TellsDifferent, TellsIllegal, TellsLack}
use Rattle.mapping_core.specs.declared.loading.LoadFault.{LoadFault}
use Rattle.mapping_core.specs.declared.loading.LoadFault.TheVariants.{Breach as NotLegal, NoCase, Illegal, Differs, Memory}
use Rattle.mapping_core.proofs.Comparing.{same_but_free}

-- cells answer which columns are free
pub cells_decide : (parts : Parts) → AreParts parts → DecidesFree (schema_in parts) (is_free_in parts.cells.now)
cells_decide parts are = record { tells = cells_tell parts are }

module _ (parts : Parts) (accepted : IsAccepted (schema_in parts)) (are : AreParts parts) where
  abbrev basis : Basis
  basis = basis_of parts

  abbrev is_free : TableId → ColId → Bool
  is_free = is_free_in parts.cells.now

  is : IsBasis basis
  is = basis_is parts are

  decides : DecidesFree basis.schema is_free
  decides = cells_decide parts are

  read_by : IsReadBy (schema_in parts) basis is_free
  read_by = record { is_basis = is; of_schema = refl; free = decides }

  module _ (tables : Tables) where
    -- no legal state has the tables, for some reason
    none_by : (Why : Basis → (TableId → ColId → Bool) → Type 0) → HasNoState (schema_in parts) tables → Why basis is_free → HasNoStateBy (schema_in parts) tables Why
    none_by Why none why = record { none = none; basis = basis; is_free = is_free; read_by = read_by; why = why }

    pub no_case : (place : Place) → IsFirstLack basis is_free tables place → HasNoStateBy (schema_in parts) tables (λ b f. IsFirstLack b f tables place)
    no_case place lack = none_by (λ b f. IsFirstLack b f tables place)
        (λ state legal has. case_met basis is are.limits accepted.round_trips is_free decides state legal tables has lack.s lack.key lack.lacks) lack

    -- what the query views tell, where they tell no state
    pub lacks : (fault : StateFault) (result : Result State LoadFault) → IsErrAnd result (TellsLack fault) → StateOf basis is_free tables (Err fault)
        → LoadsLegal (schema_in parts) tables result
    lacks fault (Ok state) is_told lack = absurd is_told
    lacks (query.NoCase place) (Err given) is_told lack =
        let Told : LoadFault → Type 0 = λ told. LoadsLegal (schema_in parts) tables (Err told) in subst Told (sym is_told) (no_case place lack)
    lacks query.Memory (Err given) is_told lack =
        let Told : LoadFault → Type 0 = λ told. LoadsLegal (schema_in parts) tables (Err told) in subst Told (sym is_told) tt

    module _ (candidate : State) (of_tables : IsCandidate basis is_free tables candidate) where
      pub illegal : (breach : Breach) → IsBreachOf (schema_in parts).model candidate breach → HasNoStateBy (schema_in parts) tables (TellsIllegal tables breach)
      illegal breach breaks = none_by (TellsIllegal tables breach)
          (λ state legal has. no_first_breach (schema_in parts).model candidate breach
          (legal_too basis is are.limits accepted.round_trips is_free decides tables candidate of_tables state legal has) breaks)
          (record { candidate = candidate; is = of_tables; breaks = breaks })

      module _ (legal : IsLegal (schema_in parts).model candidate) where
        pub differs : (found : Difference) (fresh : Tables) → TablesAre (schema_in parts) candidate fresh → IsFirstDifference (schema_in parts).store is_free tables fresh found
            → ¬ AreSameButFree (schema_in parts).store is_free tables fresh → HasNoStateBy (schema_in parts) tables (TellsDifferent tables found)
        differs found fresh are_fresh first apart = none_by (TellsDifferent tables found)
            (λ state legal has. apart (same_but_free (schema_in parts) is_free decides tables state has fresh
            (rows_same basis is are.limits accepted.round_trips is_free decides tables candidate of_tables state legal has fresh are_fresh)))
            (record { candidate = candidate; is = of_tables; legal = legal; fresh = fresh; are = are_fresh; first = first })

        pub loaded : HasStateTables (schema_in parts) candidate tables → IsLoaded (schema_in parts) tables candidate
        loaded has = record {
          legal = legal;
          has = has;
          only = λ other other_legal other_has. same basis is are.limits accepted.round_trips is_free decides tables candidate of_tables other other_legal other_has;
          basis = basis;
          is_free = is_free;
          read_by = read_by;
          candidate = of_tables;
        }

        -- what the comparison tells, where the tables are others
        told : (fault : LoadFault) → Compares parts tables candidate (Err fault) → LoadsLegal (schema_in parts) tables (Err fault)
        told (NotLegal breach) never = absurd never
        told (NoCase place) never = absurd never
        told (Illegal breach) never = absurd never
        told (Differs place held demanded) compared = differs (record { place = place; held = held; demanded = demanded }) compared.0 compared.1 compared.2 compared.3
        told Memory compared = tt

        pub refused : (fault : LoadFault) (result : Result State LoadFault) → IsErrAnd result (λ given. given ≡ fault) → Compares parts tables candidate (Err fault)
            → LoadsLegal (schema_in parts) tables result
        refused fault (Ok state) is_told compared = absurd is_told
        refused fault (Err given) is_told compared =
            let Told : LoadFault → Type 0 = λ one. LoadsLegal (schema_in parts) tables (Err one) in subst Told (sym is_told) (told fault compared)
