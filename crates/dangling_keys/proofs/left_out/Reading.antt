-- Where the keys of given entities, and the wanted keys, are told by the focus and what this forces, so are those of all entities that they support.
use Rattle.std.proofs.Common.{◌≢◌, ◌⊎◌, inl, inr, ℕ, List, Contains, sym, subst, arith}
use Rattle.edm_types.specs.IsA.{same as itself}
use Rattle.round_trip.specs.Words.{SetId, PropId, Value, Entity, EntityModel, EntitySet, At, key_of}
use Rattle.population.specs.Given.{AreGiven, AreKeys, HasNumbers}
use Rattle.population.specs.Numbered.{numbered_key}
use Rattle.population.specs.Support.{IsTaken, support}
use Rattle.population.specs.Supported.{given_in, stands_in}
use Rattle.population.specs.declared.placed.Placed.{Placed}
use Rattle.population.specs.declared.placed.PlacedKey.{PlacedKey}
use Rattle.population.proofs.plain.Numbered.{asked_concrete, numbered_has}
use Rattle.population.proofs.supporting.Arrows.{step_from}
use Rattle.population.proofs.supporting.Entities.{Stands, key_has, of_given, of_key, of_number, set_there, stands_cases}
use Rattle.population.proofs.supporting.Support.{key_in, support_all}
use Rattle.regions.specs.Basis.{Basis}
use Rattle.regions.specs.Patterns.{Valuation}
use Rattle.regions.specs.declared.pattern.Focus.{Focus}
use Rattle.forced_entities.specs.Forced.{IsForced}
use Rattle.dangling_keys.specs.LeftOut.{IsMember, IsNumberKey, IsRead}
use Rattle.dangling_keys.proofs.left_out.Serving.{plain_leads}

module _ (basis : Basis) (outer : ℕ) (has : HasNumbers basis.schema.model outer) (of : Focus) (not_null : List PropId) (values : Valuation) (given : List Placed) (wanted : List PlacedKey) where
  abbrev model : EntityModel
  model = basis.schema.model

  abbrev pub ReadForced : SetId → List Value → Type 0
  ReadForced u key = IsRead basis outer of values (IsForced basis of not_null) u key

  abbrev pub ReadMember : SetId → List Value → Type 0
  ReadMember u key = IsRead basis outer of values (IsMember basis of not_null) u key

  -- what is read by what is forced is read by a member
  pub as_member : (u : SetId) (key : List Value) → ReadForced u key → ReadMember u key
  as_member u key read = record { one = read.one; is_one = inr read.is_one; of_set = read.of_set; under = read.under; reads = read.reads }

  abbrev keys : List PlacedKey
  keys = support model outer given wanted

  -- number zero is taken
  pub beyond_zero : (to : PlacedKey) → ¬ IsTaken model outer given to → to.key ≢ numbered_key model outer to.set 0
  beyond_zero to free zero = free (inl (0, omega arith, zero))

  module _ (each : (to : PlacedKey) → Contains wanted to → ¬ IsTaken model outer given to → ReadForced to.set to.key) where
    support_read : (placed : PlacedKey) → Contains keys placed → ReadForced placed.set placed.key
    support_read = support_all model outer given (λ placed. ReadForced placed.set placed.key) (λ from to read has_step free.
        (let step = step_from model outer has from to has_step in
        plain_leads basis outer has of not_null values from.set step.0.element from.key (asked_concrete model has.sound from.set step.0 step.1 0)
        (step.0, step.1, itself step.0.element) read to step.2 (beyond_zero to free))) wanted each

    module _ (are_given : AreGiven model outer given) (are_keys : AreKeys model outer given keys)
        (each_given : (u : SetId) (entity : Entity) → Contains (given_in given u) entity → ReadMember u (key_of model entity)) where
      pub stands_read : (u : SetId) (entity : Entity) → Contains (stands_in model outer given keys u) entity → IsNumberKey basis outer u (key_of model entity) ⊎ ReadMember u (key_of model entity)
      stands_read u entity stands = let set = set_there model outer given keys u entity stands in by set.0 set.1 entity (stands_cases model outer given keys u set.0 set.1 entity stands)
        where
          by : (set : EntitySet) (here : At model.sets u.index set) (one : Entity) → Stands model outer given keys u set here one → IsNumberKey basis outer u (key_of model one) ⊎ ReadMember u (key_of model one)
          by set here _ (of_number number below) = inl (record { number = number; below = below; is = numbered_has model outer has u set here number below })
          by set here _ (of_given one there) = inr (each_given u one there)
          by set here _ (of_key key there) = inr (subst (ReadMember u) (sym (key_has model outer has given keys are_given are_keys u set here key there))
              (as_member u key (support_read (record { set = u; key = key }) (key_in keys u key there))))
