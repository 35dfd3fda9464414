-- What the small states that are shown are made of.
-- Source: this project's choice of the states that it shows.
use Rattle.std.specs.Prelude.{◌≡◌, ℕ, Contains}
use Rattle.round_trip.specs.Words.{SetId, AssocId, Assoc, At, Entity, EntityModel, IsIndependent, key_of}
use Rattle.population.specs.Given.{HasNumbers}
use Rattle.regions.specs.declared.region.Region.{Region}
use Rattle.regions.specs.Basis.{Basis}
use Rattle.regions.specs.Patterns.{Valuation}
use Rattle.regions.specs.Regions.{regions_of}
use Rattle.region_states.specs.defaults.Admissible.{IsAdmissible}
use Rattle.region_states.specs.defaults.Defaults.{default_part}
use Rattle.region_states.specs.Entities.{focus_entity}

-- the entity of a region of a set has these values, which are admissible beside numbers of this row; its partners have the usual keys, of the same row
pub record HasValues (basis : Basis) (outer : ℕ) (region : Region) (entity : Entity) (values : Valuation) : Type 0 where
  pub s : SetId
  pub listed : Contains (regions_of basis s) region
  pub is : entity ≡ focus_entity basis region values
  pub admissible : IsAdmissible basis outer region values
  pub parts : values.part ≡ default_part basis outer

-- entities of two regions of one set, of which the same links are there, have one key
pub record ArePair (basis : Basis) (outer : ℕ) (one two : Region) (first second : Entity) (values others : Valuation) : Type 0 where
  pub one_has : HasValues basis outer one first values
  pub two_has : HasValues basis outer two second others
  pub one_set : one_has.s ≡ two_has.s
  pub linked : one.linked ≡ two.linked
  pub keys : key_of basis.schema.model first ≡ key_of basis.schema.model second

-- an independent association of a model with numbers of this row
pub record IsLinkable (model : EntityModel) (outer : ℕ) (a : AssocId) (assoc : Assoc) : Type 0 where
  pub numbers : HasNumbers model outer
  pub here : At model.assocs a.index assoc
  pub independent : IsIndependent assoc
