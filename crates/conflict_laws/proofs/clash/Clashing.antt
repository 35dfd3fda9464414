-- What it says that two symbols of a cell clash.
use Rattle.std.proofs.Common.{◌≡◌, ◌≢◌, ◌&&◌, List, not, Decides, refl, sym, ◌∙◌}
use Rattle.std.proofs.lemmas.Bool.Decides.{Decides-and, Decides-like, Decides-not}
use Rattle.round_trip.specs.Words.{TableId, ColId, Value, EntityModel}
use Rattle.condition_logic.specs.declared.atoms.AtomOf.{AtomOf}
use Rattle.schema_laws.specs.state_demand.Selecting.{same_value}
use Rattle.schema_laws.proofs.state_demand.writings.Selecting.{Decides-value}
use Rattle.regions.specs.declared.pattern.Symbol.{Symbol}
use Rattle.regions.specs.declared.pattern.Focus.{Focus}
use Rattle.regions.specs.Basis.{Basis}
use Rattle.regions.specs.Patterns.{pattern_of}
use Rattle.regions.specs.Settled.{Possible, are_one, clashes, multi, possible, single}
use Rattle.regions.specs.Symbols.{same_symbol}
use Rattle.regions.proofs.region_laws.values.Symbols.{Decides-symbol}
use Rattle.regions.specs.region_laws.pattern.Allowed.{told_of}
use Rattle.regions.specs.region_laws.pattern.Listed.{Lists}
use Rattle.region_states.specs.conflicts.Facts.{is_clash, listed_in, lists}
use Rattle.conflict_laws.proofs.clash.Listed.{Decides-listed}

-- both can be one and the same value alone
abbrev pub AreOne : Possible → Possible → Type 0
AreOne one two = (value : Value) × (one ≡ single value) × (two ≡ single value)

-- whether it is so
Decides-one : (one two : Possible) → Decides (are_one one two) (AreOne one two)
Decides-one (single one) (single two) = Decides-like (same_value one two) (λ same. (one, refl, (let is : single two ≡ single one = λ k. single (sym same k) in is)))
    (λ (are : AreOne (single one) (single two)). (let first : one ≡ are.0 = cc in let second : two ≡ are.0 = cc in first ∙ sym second)) (Decides-value one two)
Decides-one (single one) (multi n) = (λ told. cc, λ are. let never = are.2 in cc)
Decides-one (multi n) (single two) = (λ told. cc, λ are. let never = are.1 in cc)
Decides-one (multi n) (multi m) = (λ told. cc, λ are. let never = are.1 in cc)

-- two symbols differ, and it isn't so that both can be one value alone
pub record Clash (model : EntityModel) (atoms : List AtomOf) (one two : Symbol) : Type 0 where
  pub different : one ≢ two
  pub not_alike : ¬ AreOne (possible model atoms one) (possible model atoms two)

-- whether two symbols do
Decides-clashes : (model : EntityModel) (atoms : List AtomOf) (one two : Symbol) → Decides (clashes model atoms one two) (Clash model atoms one two)
Decides-clashes model atoms one two =
    let can : Symbol → Possible = possible model atoms in
    Decides-like (clashes model atoms one two)
    (λ (both : (one ≢ two) × ¬ AreOne (can one) (can two)). record { different = both.0; not_alike = both.1 })
    (λ clash. (clash.different, clash.not_alike))
    (Decides-and (not (same_symbol one two)) (not (are_one (can one) (can two)))
    (Decides-not (same_symbol one two) (Decides-symbol one two))
    (Decides-not (are_one (can one) (can two)) (Decides-one (can one) (can two))))

-- a cell lists two symbols that clash
pub record IsClash (basis : Basis) (of : Focus) (t : TableId) (c : ColId) (one two : Symbol) : Type 0 where
  pub lists_one : Lists (pattern_of basis of) t c one
  pub lists_two : Lists (pattern_of basis of) t c two
  pub clash : Clash basis.schema.model (told_of of) one two

-- whether a cell does
pub Decides-clash : (basis : Basis) (of : Focus) (t : TableId) (c : ColId) (one two : Symbol) → Decides (is_clash basis of t c one two) (IsClash basis of t c one two)
Decides-clash basis of t c one two =
    let cell : List Symbol = listed_in (pattern_of basis of) t c in
    let L : Symbol → Type 0 = Lists (pattern_of basis of) t c in
    Decides-like (is_clash basis of t c one two)
    (λ (all : (L one × L two) × Clash basis.schema.model (told_of of) one two). record { lists_one = all.0.0; lists_two = all.0.1; clash = all.1 })
    (λ is. ((is.lists_one, is.lists_two), is.clash))
    (Decides-and (lists cell one && lists cell two) (clashes basis.schema.model (told_of of) one two)
    (Decides-and (lists cell one) (lists cell two) (Decides-listed basis of t c one) (Decides-listed basis of t c two))
    (Decides-clashes basis.schema.model (told_of of) one two))

-- they clash the other way round, too
pub turned : (basis : Basis) (of : Focus) (t : TableId) (c : ColId) (one two : Symbol) → IsClash basis of t c one two → IsClash basis of t c two one
turned basis of t c one two is = record {
  lists_one = is.lists_two;
  lists_two = is.lists_one;
  clash = record {
    different = λ same. is.clash.different (sym same);
    not_alike = λ are. is.clash.not_alike (are.0, are.2, are.1);
  };
}
