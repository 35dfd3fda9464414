-- Orders owned by people: the mapping is sound.
use Rattle.std.proofs.Common.{refl, arith}
use Rattle.std.specs.Prelude.{◌==◌, if◌then◌else◌}
use Rattle.round_trip.specs.Words.{PropId, TableId, ColId}
use Rattle.edm_types.specs.IsA.{same, base}
use Rattle.worked_examples.specs.Ids.{type_id, set_id, prop_id}
use Rattle.worked_examples.specs.people.People.{people_set}
use Rattle.worked_examples.specs.staff.Owners.{shop, employee_type, orders_set, all_people, all_employees, orders}
use Rattle.round_trip.specs.soundness.mappings.Mappings.{IsSoundFragment, IsSoundSchema}
use Rattle.round_trip.specs.soundness.mappings.Owners.{Owner, set}
use Rattle.worked_examples.proofs.sound_examples.mappings.Schemas.{mapping_from}
use Rattle.worked_examples.proofs.sound_examples.mappings.FragmentFacts.{fragment_from}
use Rattle.worked_examples.proofs.sound_examples.models.Shop as model
use Rattle.worked_examples.proofs.sound_examples.stores.SoundStores as stores

sound_people : IsSoundFragment shop all_people
sound_people = fragment_from shop all_people refl ((people_set, refl, same (type_id 0)), tt) (((λ e. e), refl), (((λ e. e), omega arith), tt)) tt

sound_employees : IsSoundFragment shop all_employees
sound_employees = fragment_from shop all_employees refl ((people_set, refl, base (type_id 1) (type_id 0) (employee_type, refl, refl)), tt) (((λ e. e), refl), tt) tt

sound_orders : IsSoundFragment shop orders
sound_orders = fragment_from shop orders refl ((orders_set, refl, same (type_id 2)), tt) (((λ e. e), refl), (((λ e. e), refl), tt)) tt

-- the third table is that of the orders, and the others are the people's
abbrev prop_of : TableId → ColId → PropId
prop_of t c = if t.index == 2 then prop_id 2 else prop_id 0

abbrev owner_of : TableId → Owner
owner_of t = if t.index == 2 then set (set_id 1) else set (set_id 0)

pub sound : IsSoundSchema shop
sound = record {
  model = model.sound;
  store = stores.shop;
  mapping = mapping_from shop prop_of owner_of refl ((sound_people, (refl, refl)), ((sound_employees, (refl, refl)), ((sound_orders, (refl, refl)), tt))) tt;
}
