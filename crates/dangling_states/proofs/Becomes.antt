-- What is shown of a key that dangles is a failure.
use Rattle.std.proofs.Common.{◌≡◌, ◌↔◌, ⊎_elim, ◌≤◌, ◌<◌, IsSome, List, None, Option, unwrap_or, sym, subst, ◌∙◌, arith}
use Rattle.std.proofs.lemmas.Bool.{cases_lt}
use Rattle.emc_base.proofs.Lists.{at_once}
use Rattle.emc_base.proofs.Mapped.{contains_at}
use Rattle.round_trip.specs.Words.{At, FailsAt, ForeignKey, Pair, Place, State, kind_number}
use Rattle.round_trip.specs.declared.FailKind.{FailKind}
use Rattle.round_trip.specs.declared.FailKind.TheVariants as kind
use Rattle.cells.specs.declared.parts.Parts.{Parts}
use Rattle.regions.specs.Basis.{Basis}
use Rattle.region_states.specs.region_basis.BasisOf.{basis_of}
use Rattle.region_states.proofs.region_basis.Bases.{basis_is}
use Rattle.dangling_keys.specs.Dangling.{DanglesAt}
use Rattle.dangling_keys.specs.DanglingStates.{IsRowPlace, dangling_state}
use Rattle.dangling_keys.specs.Failing.{FailsAtKey}
use Rattle.dangling_keys.specs.Laws.{HasNoClash, IsPairedBy, IsShownToFail}
use Rattle.dangling_keys.specs.declared.key.DanglingKey.{DanglingKey}
use Rattle.witness_state.specs.Failures.{IsFailureOf}
use Rattle.witness_state.specs.declared.failure.Failure.{Failure}
use Rattle.dangling_states.specs.Referring.{IsDanglingAt, IsFirstDangling, IsShownOfKey}

none_given : IsSome {T = State} None → ⊥
none_given some = let never = some in (let no : ⊥ = cc in no)

-- where no other state is given, the kind isn't that of same tables
given_so : (other : Option State) (how : FailKind) → other ≡ None → how ≡ kind.Dangling → IsSome other ↔ (how ≡ kind.Same)
given_so other how none is = (
  λ some. absurd (none_given (subst (λ (found : Option State). IsSome found) none some)),
  λ same. absurd (let never : kind.Dangling ≡ kind.Same = sym is ∙ same in cc),
)

module _ (parts : Parts) (told : DanglingKey) (first : IsFirstDangling parts told) where
  abbrev basis : Basis
  basis = basis_of parts

  -- no legal state clashes
  pub no_clash : HasNoClash basis
  no_clash = record { sound = record { is_basis = basis_is parts first.are; limits = first.are.limits }; none = first.earlier kind.Clash (omega arith) }

  -- the key that is told dangles at the focus that is told
  pub dangling_at : (key : ForeignKey) → At basis.schema.store.keys told.key.index key → IsDanglingAt basis told.focus key told.principal
  dangling_at key here =
      let same = at_once basis.schema.store.keys told.key.index first.dangling.key key first.dangling.is_key here in
      record {
        given = no_clash;
        is_key = contains_at basis.schema.store.keys told.key.index key here;
        dangles = subst (λ (one : ForeignKey). DanglesAt basis told.focus one told.principal) same first.dangling.dangles;
      }

  module _ (law : IsShownToFail basis told first.dangling) where
    shown_fails : (key : ForeignKey) → first.dangling.key ≡ key → (pairing : List Pair) → IsPairedBy basis key pairing told.principal → (place : Place) → IsRowPlace basis told.focus key place
        → FailsAtKey basis key place (dangling_state basis told.focus key pairing told.principal)
    shown_fails key same = subst (λ (one : ForeignKey). (pairing : List Pair) → IsPairedBy basis one pairing told.principal → (place : Place) → IsRowPlace basis told.focus one place
        → FailsAtKey basis one place (dangling_state basis told.focus one pairing told.principal)) same law

    earliest : (other : FailKind) (place : Place) (c d : State) → FailsAt basis.schema other place c d → kind_number kind.Dangling ≤ kind_number other
    earliest other place c d fails_by = ⊎_elim
        (λ (before : kind_number other < kind_number kind.Dangling). absurd (first.earlier other before place c d fails_by))
        (λ (not_before : kind_number kind.Dangling ≤ kind_number other). not_before)
        (cases_lt (kind_number other) (kind_number kind.Dangling))

    pub becomes : (failure : Failure) → IsShownOfKey basis told failure → IsFailureOf basis.schema failure
    becomes failure shown =
        let same = at_once basis.schema.store.keys told.key.index first.dangling.key shown.key first.dangling.is_key shown.is_key in
        let fails = shown_fails shown.key same shown.pairing shown.paired failure.place shown.at_place in
        let Fails : FailKind → State → Option State → Type 0 = λ how state other. FailsAt basis.schema how failure.place state (unwrap_or other state) in
        record {
          fails = subst (λ (how : FailKind). Fails how failure.state failure.other) (sym shown.of_kind)
              (subst (Fails kind.Dangling failure.state) (sym shown.alone) (subst (λ (state : State). Fails kind.Dangling state None) (sym shown.state) fails.fails));
          earliest = λ other place c d by. subst (λ (how : FailKind). kind_number how ≤ kind_number other) (sym shown.of_kind) (earliest other place c d by);
          given = given_so failure.other failure.kind shown.alone shown.of_kind;
        }
