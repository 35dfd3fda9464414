-- In a sound model the key of an end's type is that of its set, and each end of an association is found by its role.
use Rattle.std.proofs.Common.{◌≡◌, ◌≢◌, ℕ, Bool, true, false, if◌then◌else◌, List, Option, Some, None, option_map, refl, sym, ap}
use Rattle.std.specs.Str.{bytes_eq}
use Rattle.std.proofs.lemmas.Bool.{false_from_ne_true}
use Rattle.std.proofs.lemmas.List.Elements.{All-contains}
use Rattle.std.proofs.lemmas.Slice.Eq.{bytes_eq-Decides}
use Rattle.emc_base.specs.Lists.{At}
use Rattle.emc_base.proofs.Mapped.{contains_at}
use Rattle.round_trip.specs.Words.{Assoc, End, EntityModel}
use Rattle.round_trip.specs.soundness.models.Constraints.{IsSoundAssoc}
use Rattle.round_trip.specs.soundness.models.Models.{IsSoundModel}
use Rattle.schema_names.specs.declared.ends.WhichEnd.TheVariants.{First, Second}
use Rattle.msl_rules.specs.Found.{end_at, role_end}

module _ (model : EntityModel) (sound : IsSoundModel model) where
  module _ (a : ℕ) (assoc : Assoc) (here : At model.assocs a assoc) where
    -- the association is sound
    pub sound_assoc : IsSoundAssoc model assoc
    sound_assoc = All-contains (IsSoundAssoc model) model.assocs assoc sound.assocs (contains_at model.assocs a assoc here)

    -- the end that a role is of, by what the tests say
    abbrev role_by : Bool → Bool → Option End
    role_by first second = option_map (end_at assoc) (if first then Some First else (if second then Some Second else None))

    -- a text is equal to itself
    same_text : (text : List ℕ) → bytes_eq text text ≡ true
    same_text text = (bytes_eq-Decides text text).1 refl

    -- the first end is found by its role, and so is the second
    pub first_role : role_end assoc assoc.first.role ≡ Some assoc.first
    first_role = ap (λ test. role_by test (bytes_eq assoc.first.role assoc.second.role)) (same_text assoc.first.role)

    pub second_role : role_end assoc assoc.second.role ≡ Some assoc.second
    second_role =
        let roles : assoc.first.role ≢ assoc.second.role =
        All-contains (λ (assoc : Assoc). assoc.first.role ≢ assoc.second.role) model.assocs assoc sound.names.roles (contains_at model.assocs a assoc here) in
        let other : bytes_eq assoc.second.role assoc.first.role ≡ false =
        false_from_ne_true (bytes_eq assoc.second.role assoc.first.role) (λ same. roles (sym ((bytes_eq-Decides assoc.second.role assoc.first.role).0 same))) in
        (λ i. role_by (other i) (same_text assoc.second.role i))
