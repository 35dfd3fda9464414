-- What is shown of links.
use Rattle.std.proofs.Common.{◌≡◌, ℕ, ◌<◌, ◌≤◌, length, Option, Result, Ok, Err, IfOk, sym, subst, ap, ◌∙◌}
use Rattle.std.specs.Option.{option_map_or}
use Rattle.std.proofs.lemmas.Option.{slice_get_within}
use Rattle.emc_base.proofs.Lists.{at_once}
use Rattle.emc_base.specs.declared.memory.Memory.{Memory}
use Rattle.round_trip.specs.Words.{Assoc, AssocId, At, ColId, Column, IsIndependent, Place, State, Table, TableId}
use Rattle.round_trip.specs.declared.FailKind.{FailKind}
use Rattle.region_states.specs.conflicts.Conflicts.{kind_of}
use Rattle.region_states.specs.declared.conflicts.conflict.Conflict.{Conflict}
use Rattle.failure_laws.specs.Places.{IsPlaceOf}
use Rattle.failure_laws.specs.SmallLinks.{small_link}
use Rattle.witness_state.specs.declared.failure.Failure.{Failure}
use Rattle.witness_state.specs.Shown.{IsShownOf, shown_alone}
use Rattle.round_trip.specs.FailsAt.{HasColumn}
use Rattle.cells.specs.Parts.{AreParts, schema_in}
use Rattle.cells.specs.declared.parts.Parts.{Parts}
use Rattle.regions.specs.Basis.{Basis}
use Rattle.regions.specs.Patterns.{pattern_of, writings_of}
use Rattle.regions.specs.declared.pattern.Focus.TheVariants as focus
use Rattle.regions.specs.declared.pattern.Symbol.{Symbol}
use Rattle.regions.specs.region_laws.pattern.Listed.{Lists}
use Rattle.regions.proofs.region_laws.pattern.Cells.{cell_of}
use Rattle.region_states.specs.conflicts.Conflicts.{IsTableOf}
use Rattle.region_states.specs.focus.Held.{HasRow}
use Rattle.region_states.specs.region_basis.BasisOf.{basis_of}
use Rattle.region_states.proofs.region_basis.Bases.{basis_is}
use Rattle.region_states.proofs.focus.Listed.{row_joined}
use Rattle.failure_laws.specs.Witnesses.{alone, empty_state, of_assoc, witness_of}
use Rattle.failure_laws.proofs.witness.facts.LinkValues.{assoc_there, is_independent}
use Rattle.witness_state.specs.Small.{IsLinkable}

module _ (parts : Parts) (are : AreParts parts) (a : AssocId) where
  abbrev basis : Basis
  basis = basis_of parts

  -- the association is there
  pub joined_there : (t : TableId) → IsTableOf basis a t → (assoc : Assoc) × At basis.schema.model.assocs a.index assoc
  joined_there t of = (of.assoc, assoc_there basis (basis_is parts are) a t of)

  pub joined_linkable : (outer : ℕ) → outer ≤ 4 → (t : TableId) (of : IsTableOf basis a t) (assoc : Assoc) → At basis.schema.model.assocs a.index assoc
      → IsLinkable basis.schema.model outer a assoc
  joined_linkable outer row t of assoc here =
      let same : of.assoc ≡ assoc = at_once basis.schema.model.assocs a.index of.assoc assoc (assoc_there basis (basis_is parts are) a t of) here in
      let is = basis_is parts are in
      record {
        numbers = record { sound = is.sound.model; few = are.limits.model.0; row = row };
        here = here;
        independent = subst IsIndependent same (is_independent basis is a t of);
      }

  pub assoc_within : (t : TableId) → IsTableOf basis a t → a.index < length (schema_in parts).model.assocs
  assoc_within t of = let found = joined_there t of in slice_get_within (schema_in parts).model.assocs a.index found.0 found.1

  -- all rows of its pattern are of its own table
  pub table_of_row : (t : TableId) → IsTableOf basis a t → (u : TableId) → HasRow (pattern_of basis (focus.Link a)) u → IsTableOf basis a u
  table_of_row t of u row =
      let P : AssocId → Type 0 = λ b. HasRow (pattern_of basis (focus.Link b)) u in
      let here = subst P (sym of.of_assoc) row in
      let same : u ≡ t = sym here.2 ∙ row_joined basis (basis_is parts are) t of.fragment of.assoc of.joined here.0 here.1 in
      subst (IsTableOf basis a) (sym same) of

  pub listed_column : (t : TableId) (col : ColId) (one : Symbol) → Lists (pattern_of basis (focus.Link a)) t col one
      → (table : Table) × (column : Column) × HasColumn (schema_in parts) t table col column
  listed_column t col one lists =
      let cell = cell_of basis.schema.store (writings_of basis (focus.Link a)) t col lists.0 lists.1 in
      (cell.table, cell.column, record { is_table = cell.is_table; is_column = cell.is_column })

  -- what is shown of an association that is there
  pub of_assoc_is : (make : Assoc → State × Option State) (assoc : Assoc) → At basis.schema.model.assocs a.index assoc → make assoc ≡ of_assoc basis a make
  of_assoc_is make assoc here = sym (ap (λ (found : Option Assoc). option_map_or make found (alone (empty_state basis.schema.model))) here)

  -- the states and the kind of what is shown of a link of an association with a table of its own
  pub states_of_link : (t : TableId) → IsTableOf basis a t → (shown : Failure) → (how : FailKind) → (place : Place)
      → ((assoc : Assoc) → At basis.schema.model.assocs a.index assoc → shown ≡ shown_alone how place (small_link basis.schema.model 0 a assoc))
      → (told : Conflict) → kind_of told ≡ how → witness_of basis told ≡ of_assoc basis a (λ assoc. alone (small_link basis.schema.model 0 a assoc)) → IsPlaceOf basis told place
      → IsShownOf basis told shown
  states_of_link t of shown how place is told kind_is witness at_place =
      let here = joined_there t of in
      let at = is here.0 here.1 in
      record {
        of_kind = ap (λ (f : Failure). f.kind) at ∙ sym kind_is;
        at_place = subst (IsPlaceOf basis told) (sym (ap (λ (f : Failure). f.place) at)) at_place;
        states = ap (λ (f : Failure). (f.state, f.other)) at ∙ of_assoc_is (λ assoc. alone (small_link basis.schema.model 0 a assoc)) here.0 here.1 ∙ sym witness;
      }

  pub shown_link : (t : TableId) → IsTableOf basis a t → (result : Result Failure Memory) → (how : FailKind) → (place : Place)
      → ((assoc : Assoc) → At basis.schema.model.assocs a.index assoc → IfOk result (λ shown. shown ≡ shown_alone how place (small_link basis.schema.model 0 a assoc)))
      → (told : Conflict) → kind_of told ≡ how → witness_of basis told ≡ of_assoc basis a (λ assoc. alone (small_link basis.schema.model 0 a assoc)) → IsPlaceOf basis told place
      → IfOk result (IsShownOf basis told)
  shown_link t of (Ok shown) how place is told kind_is witness at_place = states_of_link t of shown how place is told kind_is witness at_place
  shown_link t of (Err memory) how place is told kind_is witness at_place = _
