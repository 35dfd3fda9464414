-- Something is told of each association set, table and column of sound parts.
use Rattle.std.proofs.Common.{◌≡◌, length, arith}
use Rattle.emc_base.proofs.facts.Found.{some_found}
use Rattle.round_trip.specs.soundness.mappings.Joined.{col}
use Rattle.member_groups.specs.MemberGroups.{constants_in}
use Rattle.cells.specs.declared.parts.Parts.{Parts}
use Rattle.cells.specs.Parts.{AreParts, CoverModel, CoverStore}

module _ (parts : Parts) (are : AreParts parts) where
  pub covers_model : CoverModel parts.model.now parts.cells.now
  covers_model = record {
    sound = are.sound.model;
    places = let size : length parts.cells.now.places ≡ length parts.model.now.assocs = are.cells.places.size in omega (arith, size);
  }

  pub covers_store : CoverStore parts.store.now parts.cells.now
  covers_store = record {
    sound = are.sound.store;
    owners = let size : length parts.cells.now.owners ≡ length parts.store.now.tables = are.cells.owners.size in omega (arith, size);
    pairings = let size : length parts.cells.now.pairings ≡ length parts.store.now.tables = are.cells.pairings.size in omega (arith, size);
    groups = λ t c known. are.cells.groups.some (col t c) known;
    constants = λ t c known group is.
        (let told = are.cells.groups.constants (col t c) group is in
        some_found (constants_in parts.cells.now.groups group) told.0 told.1);
  }
