-- States of given entities, and of links of which each is of an association of its own: they are legal.
use Rattle.std.proofs.Common.{◌≡◌, ◌≢◌, inl, ℕ, ◌≤◌, List, [], get_or, length, refl, sym, subst, ◌∙◌, arith}
use Rattle.std.specs.Prelude.{AllPairs, Any, Bool, Contains, false}
use Rattle.std.specs.List.{AllByRecursion}
use Rattle.std.proofs.lemmas.Bool.Decides.{not_from_Decides}
use Rattle.std.proofs.lemmas.Int.{ints}
use Rattle.emc_base.proofs.FoundItems.{contains_flat_map, some_member}
use Rattle.emc_base.proofs.Lists.{at_once}
use Rattle.round_trip.specs.Words.{Assoc, AssocId, At, End, Entity, EntityModel, EntitySet, HasFittingType, IsA, IsLegal, Link, Prop, PropId, SetId, State, key_of}
use Rattle.round_trip.specs.soundness.models.Models.{IsSoundModel}
use Rattle.schema_laws.specs.short_values.Numbers.{number}
use Rattle.schema_laws.specs.short_values.Short.{IsOfSort}
use Rattle.population.specs.Given.{AreGiven, AreKeys, AreLinked, AreWanted, HasNumbers, HasShortParts, IsNotNumbered, IsShortFor, StandsAtEnd, StandsWell}
use Rattle.population.specs.Numbered.{end_of}
use Rattle.population.specs.Principals.{principals}
use Rattle.population.specs.declared.placed.PlacedKey.{PlacedKey}
use Rattle.population.specs.Support.{is_taken, same_placed}
use Rattle.population.specs.Supported.{end_key, links_of, stands_in}
use Rattle.population.specs.declared.placed.Placed.{Placed}
use Rattle.population.specs.declared.placed.PlacedLink.{PlacedLink}
use Rattle.population.proofs.supporting.Ends.{from_given, given_from, given_pairs, link_from, link_pairs}
use Rattle.population.proofs.supporting.Entities.{given_stands}
use Rattle.population.proofs.supporting.Legal.{supported_legal}
use Rattle.population.proofs.plain.Placed.{Decides-placed}
use Rattle.population.proofs.supporting.Support.{Decides-taken, support_fits}
use Rattle.worked_examples.specs.supported.Supports.{asked_by, first_asked, state_of}
use Rattle.worked_examples.proofs.facts.Entities.{MayStand, domains_fit, nulls_fit}
use Rattle.worked_examples.proofs.facts.Small.{PairsByRecursion, all_pairs, each_of}

-- a small number is a short value for a property of numbers
pub short_for : (model : EntityModel) (p : PropId) (declared : Prop) → At model.props p.index declared → (n : ℕ) → IsOfSort declared.kind (number n) → n ≤ 32767 → IsShortFor model p (number n)
short_for model p declared is n of_sort small = record { declared = declared; is_declared = is; short = (omega (arith, ints), omega (arith, ints)); of_sort = of_sort }

module _ (model : EntityModel) where
  -- the key of a placed entity
  abbrev pub own_key : Placed → PlacedKey
  own_key one = record { set = one.set; key = key_of model one.entity }

  -- the entity may stand in its set, and no number's key is its own
  pub record MayBeGiven (one : Placed) : Type 0 where
    pub set : EntitySet
    pub is_set : At model.sets one.set.index set
    pub stands : MayStand model set one.entity
    pub free : is_taken model 0 [] (own_key one) ≡ false

  -- so may each, no two have one key, and the keys that they ask for are short
  pub record GivenFacts (given : List Placed) : Type 0 where
    pub each : AllByRecursion MayBeGiven given
    pub apart : PairsByRecursion (λ x y. same_placed (own_key x) (own_key y) ≡ false) given
    pub short : AllByRecursion (λ placed. HasShortParts model placed.set placed.key) (first_asked model given)

  module _ (sound : IsSoundModel model) (few : length model.assocs ≤ 256) (given : List Placed) (facts : GivenFacts given) where
    abbrev numbers : HasNumbers model 0
    numbers = record { sound = sound; few = few; row = omega arith }

    may_be : (one : Placed) → Contains given one → MayBeGiven one
    may_be one among = each_of MayBeGiven given one facts.each among

    well : (one : Placed) → MayBeGiven one → StandsWell model one.set one.entity
    well one may = record {
      is_entity = may.stands.shape;
      fits = λ set is. subst (λ (s : EntitySet). HasFittingType model s one.entity) (at_once model.sets one.set.index may.set set may.is_set is) may.stands.type;
      nulls = nulls_fit model one.entity may.stands.fits;
      domains = domains_fit model one.entity may.stands.fits;
    }

    not_numbered : (one : Placed) → MayBeGiven one → IsNotNumbered model 0 one.set (key_of model one.entity)
    not_numbered one may n below equal = not_from_Decides (is_taken model 0 [] (own_key one)) (Decides-taken model 0 [] (own_key one)) may.free (inl (n, below, equal))

    differ : AllPairs (λ x y. x.set ≡ y.set → key_of model x.entity ≢ key_of model y.entity) given
    differ i j d below within sets equal =
        let one : Placed = get_or given i d in
        let two : Placed = get_or given j d in
        not_from_Decides (same_placed (own_key one) (own_key two)) (Decides-placed (own_key one) (own_key two))
        (all_pairs (λ x y. same_placed (own_key x) (own_key y) ≡ false) given facts.apart i j d below within) (λ k. record { set = sets k; key = equal k })

    are_given : AreGiven model 0 given
    are_given = record {
      well = λ u entity among. (let one = given_from given u entity among in
          let P : SetId → Entity → Type 0 = λ v other. StandsWell model v other in
          subst (λ v. P v entity) one.2 (subst (P one.0.set) one.3 (well one.0 (may_be one.0 one.1))));
      apart = given_pairs (λ x y. key_of model x ≢ key_of model y) given differ;
      not_numbered = λ u entity among. (let one = given_from given u entity among in
          let P : SetId → Entity → Type 0 = λ v other. IsNotNumbered model 0 v (key_of model other) in
          subst (λ v. P v entity) one.2 (subst (P one.0.set) one.3 (not_numbered one.0 (may_be one.0 one.1))));
    }

    are_wanted : AreWanted model given (first_asked model given)
    are_wanted = record {
      short = λ placed among. each_of (λ one. HasShortParts model one.set one.key) (first_asked model given) placed facts.short among;
      of_given = λ u entity among to asked. (let one = given_from given u entity among in
          let P : SetId → Entity → Type 0 = λ v other. Contains (principals model v other) to in
          contains_flat_map (λ (placed : Placed). principals model placed.set placed.entity) given one.0 to one.1
          (subst (P one.0.set) (sym one.3) (subst (λ v. P v entity) (sym one.2) asked)));
    }

    are_keys : AreKeys model 0 given (asked_by model given)
    are_keys = support_fits model 0 numbers given (first_asked model given) are_given are_wanted

    -- a given entity stands at an end
    pub stands_at : (end : End) (one : Placed) → Contains given one → one.set ≡ end.set → IsA model one.entity.ty end.ty
        → StandsAtEnd model 0 given (asked_by model given) end (key_of model one.entity)
    stands_at end one among in_set covers =
        let may : MayBeGiven one = may_be one among in
        let Is : Entity → Type 0 = λ entity. IsA model entity.ty end.ty × (key_of model entity ≡ key_of model one.entity) in
        subst (λ u. Any Is (stands_in model 0 given (asked_by model given) u)) in_set
        (some_member Is (stands_in model 0 given (asked_by model given) one.set) one.entity
        (given_stands model 0 given (asked_by model given) one.set may.set may.is_set one.entity (from_given given one among)) (covers, refl))

    -- entities stand at both ends of the link
    pub record MayLink (one : PlacedLink) : Type 0 where
      pub assoc : Assoc
      pub is_assoc : At model.assocs one.assoc.index assoc
      pub ends : (first : Bool) → StandsAtEnd model 0 given (asked_by model given) (end_of first assoc) (end_key first one.link)

    module _ (links : List PlacedLink) (each : AllByRecursion MayLink links) (others : PairsByRecursion (λ x y. x.assoc ≢ y.assoc) links) where
      -- any two are of different associations
      never : (R : Link → Link → Type 0) (a : AssocId) → AllPairs R (links_of links a)
      never R a = link_pairs R links a (λ i j d below within one two. absurd (all_pairs (λ x y. x.assoc ≢ y.assoc) links others i j d below within (one ∙ sym two)))

      are_linked : AreLinked model 0 given (asked_by model given) links
      are_linked = record {
        once = never (λ x y. x ≢ y);
        ends = λ a assoc is link among first. (let one = link_from links a link among in
            let may : MayLink one.0 = each_of MayLink links one.0 each one.1 in
            let At_end : Assoc → Link → Type 0 = λ of other. StandsAtEnd model 0 given (asked_by model given) (end_of first of) (end_key first other) in
            let here : At model.assocs a.index may.assoc = subst (λ (b : AssocId). At model.assocs b.index may.assoc) one.2 may.is_assoc in
            subst (λ of. At_end of link) (at_once model.assocs a.index may.assoc assoc here is) (subst (At_end may.assoc) one.3 (may.ends first)));
        few = λ a assoc is first bounded. never (λ x y. end_key first x ≢ end_key first y) a;
      }

      linked_legal : IsLegal model (state_of model given links)
      linked_legal = supported_legal model 0 numbers given (asked_by model given) links are_given are_keys are_linked

      -- the state as it is written out
      pub legal_with : (state : State) → state_of model given links ≡ state → IsLegal model state
      legal_with state is = subst (IsLegal model) is linked_legal

    pub legal_without : (state : State) → state_of model given [] ≡ state → IsLegal model state
    legal_without = legal_with [] tt tt
