-- Rows as long as their tables have cells for the columns of each foreign key.
use Rattle.std.proofs.Common.{◌≡◌, ◌<◌, ℕ, List, get_or, length, All, Contains, sym, subst}
use Rattle.std.proofs.lemmas.List.Elements.{All-contains}
use Rattle.emc_base.proofs.Lists.{all_from_members}
use Rattle.round_trip.specs.Words.{ColId, ForeignKey, Row, StoreModel, TableId}
use Rattle.round_trip.specs.soundness.Lookups.{columns_of}
use Rattle.round_trip.specs.soundness.Stores.{HasForeignIds, IsColId, IsSoundStore}
use Rattle.row_orders.specs.declared.alteration.Alteration.{Alteration}
use Rattle.row_plans.specs.Roles.{Fits, FitsIn}
use Rattle.row_plans.specs.Waits.{AreAsLong, HasLongRows, IsAsLong}
use Rattle.row_plans.specs.declared.waiting.parts.Role.{Role}
use Rattle.row_plans.specs.declared.waiting.parts.Role.TheVariants.{Comes, Refers, Goes, Referred}
use Rattle.row_plans.proofs.waiting.Playing.{plays}

module _ (store : StoreModel) (key : ForeignKey) (ids : HasForeignIds store key) where
  within : (t u : TableId) (cols : List ColId) (row : Row) → u ≡ t → All (IsColId store t) cols → IsAsLong store u row → All (λ col. col.index < length row.cells) cols
  within t u cols row same inside long k d there =
      let P : TableId → Type 0 = λ id. length row.cells ≡ length (columns_of store id) in
      let Q : ℕ → Type 0 = λ n. (get_or cols k d).index < n in
      subst Q (sym (subst P same long)) (inside k d there)

  fits_in : (one : Alteration) → HasLongRows store one → (role : Role) → FitsIn key one role
  fits_in one long Comes row is = let role = plays key Comes one row is in within key.to one.table key.to_cols row role.0 ids.to_cols (long.new row role.2)
  fits_in one long Refers row is = let role = plays key Refers one row is in within key.from one.table key.from_cols row role.0 ids.from_cols (long.new row role.1)
  fits_in one long Goes row is = let role = plays key Goes one row is in within key.to one.table key.to_cols row role.0 ids.to_cols (long.old row role.2)
  fits_in one long Referred row is = let role = plays key Referred one row is in within key.from one.table key.from_cols row role.0 ids.from_cols (long.old row role.1)

-- so it is for the rows of all alterations
pub all_fit : (store : StoreModel) → IsSoundStore store → (key : ForeignKey) → Contains store.keys key → (alterations : List Alteration) → AreAsLong store alterations
    → All (Fits key) alterations
all_fit store sound key is_key alterations long =
    let ids = All-contains (HasForeignIds store) store.keys key sound.ids.foreign is_key in
    all_from_members (Fits key) alterations (λ one has. fits_in store key ids one (All-contains (HasLongRows store) alterations one long has))
