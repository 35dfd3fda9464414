-- The state of all entities that the query views give is the legal state whose tables these are; so it is as legal, and has the same tables.
use Rattle.std.proofs.Common.{⊎_elim, ◌<◌, ◌≤◌, length, Bool, IsPermutation, ap, ◌∙◌, arith}
use Rattle.std.proofs.lemmas.Bool.{cases_lt}
use Rattle.emc_base.proofs.Lists.{item_at}
use Rattle.emc_base.proofs.facts.Pairs.{both_none}
use Rattle.round_trip.specs.Words.{SetId, TableId, ColId, AssocId, AreSameTables, IsLegal, IsSameState, RoundTrips, State, Tables, TablesAre, entities_in, links_in}
use Rattle.cells.specs.Limits.{IsWithinLimits}
use Rattle.schema_laws.proofs.kept_states.Entities.{past_none}
use Rattle.schema_laws.proofs.same_states.SameState.{as_legal}
use Rattle.schema_laws.proofs.same_states.SameTables.{tables_too, turned}
use Rattle.schema_laws.proofs.state_demand.tables.SameTables.{same_tables}
use Rattle.regions.specs.Basis.{Basis}
use Rattle.regions.specs.region_laws.IsBasis.{IsBasis}
use Rattle.case_laws.specs.candidates.Candidates.{IsCandidate}
use Rattle.case_laws.specs.Reading.{DecidesFree, HasStateTables}
use Rattle.case_laws.proofs.candidate_laws.Candidate.{same_entities}
use Rattle.case_laws.proofs.candidate_laws.SameLinks.{same_links}

module _ (basis : Basis) (is : IsBasis basis) (limits : IsWithinLimits basis.schema) (round : RoundTrips basis.schema)
    (is_free : TableId → ColId → Bool) (decides : DecidesFree basis.schema is_free) (tables : Tables) (candidate : State)
    (of_tables : IsCandidate basis is_free tables candidate) (state : State) (legal : IsLegal basis.schema.model state) (has : HasStateTables basis.schema state tables) where
  entities_same : (s : SetId) → IsPermutation (entities_in state s) (entities_in candidate s)
  entities_same s = ⊎_elim
      (λ (within : s.index < length basis.schema.model.sets).
      let found = item_at basis.schema.model.sets s.index within in
      same_entities basis is limits round is_free decides state legal tables has s (entities_in candidate s) (of_tables.entities.sets s found.0 found.1) found.0 found.1)
      (λ (past : length basis.schema.model.sets ≤ s.index). both_none (entities_in state s) (entities_in candidate s)
      (past_none state.entities (length basis.schema.model.sets) s.index legal.shape.sets past)
      (past_none candidate.entities (length basis.schema.model.sets) s.index of_tables.entities.shape.sets past))
      (cases_lt s.index (length basis.schema.model.sets))

  links_same : (a : AssocId) → IsPermutation (links_in state a) (links_in candidate a)
  links_same a = ⊎_elim
      (λ (within : a.index < length basis.schema.model.assocs).
      let found = item_at basis.schema.model.assocs a.index within in
      same_links basis is limits round is_free decides state legal tables has candidate of_tables a found.0 found.1)
      (λ (past : length basis.schema.model.assocs ≤ a.index). both_none (links_in state a) (links_in candidate a)
      (past_none state.links (length basis.schema.model.assocs) a.index legal.shape.assocs past)
      (past_none candidate.links (length basis.schema.model.assocs) a.index of_tables.entities.shape.assocs past))
      (cases_lt a.index (length basis.schema.model.assocs))

  pub same : IsSameState state candidate
  same = record { entities = entities_same; links = links_same }

  -- so it is legal
  pub legal_too : IsLegal basis.schema.model candidate
  legal_too = as_legal basis.schema.model state candidate same of_tables.entities.shape legal

  -- and its tables are these, but for what free cells hold
  pub rows_same : (fresh : Tables) → TablesAre basis.schema candidate fresh → AreSameTables has.erased fresh
  rows_same fresh are = same_tables basis.schema state has.erased fresh has.are (tables_too basis.schema candidate state (turned state candidate same) fresh are)
