-- The constants in the domain of a kind, while a loop passes them.
use Rattle.std.proofs.Common.{◌≡◌, ◌↔◌, ◌+◌, ℕ, List, [], ◌∷◌, ◌++◌, map, filter, length, take, Bool, true, false, IsTrue, refl, sym, ap, ◌∙◌}
use Rattle.std.proofs.lemmas.List.{append_assoc, length-append, map-append}
use Rattle.emc_base.specs.Lists.{At}
use Rattle.emc_base.proofs.Numbered.{filter_kept, filter_left}
use Rattle.round_trip.specs.Words.{PropId, Value, Kind, InDomain}
use Rattle.condition_logic.specs.declared.atoms.Atom.TheVariants.{Is}
use Rattle.condition_logic.specs.declared.atoms.AtomOf.{AtomOf}
use Rattle.regions.specs.Fitting.{fits}
use Rattle.regions.proofs.region_laws.values.Domains.{decides_domains}
use Rattle.region_partition.specs.region_lists.Listing.{told_atoms}

-- two answers that tell the same
same_answer : (one other : Bool) → (one ≡ true → other ≡ true) → (other ≡ true → one ≡ true) → one ≡ other
same_answer true other to from = sym (to refl)
same_answer false true to from = from refl
same_answer false false to from = refl

module _ (kind : Kind) (constants : List Value) (i : ℕ) (value : Value) (here : At constants i value) (told : Bool) (tells : IsTrue told ↔ InDomain value kind) where
  abbrev fitting : List Value → List Value
  fitting values = filter (λ one. fits one kind) values

  fits_as : fits value kind ≡ told
  fits_as = same_answer (fits value kind) told (λ passes. tells.1 ((decides_domains.tells value kind).0 passes)) (λ passes. (decides_domains.tells value kind).1 (tells.0 passes))

  pub fitting_kept : told ≡ true → fitting (take (i + 1) constants) ≡ fitting (take i constants) ++ value ∷ []
  fitting_kept passes = filter_kept (λ one. fits one kind) constants i value here (fits_as ∙ passes)

  pub fitting_left : told ≡ false → fitting (take (i + 1) constants) ≡ fitting (take i constants)
  fitting_left fails = filter_left (λ one. fits one kind) constants i value here (fits_as ∙ fails)

  pub count_kept : told ≡ true → (count : ℕ) → count ≡ length (fitting (take i constants)) → count + 1 ≡ length (fitting (take (i + 1) constants))
  count_kept passes count is = ap (λ n. n + 1) is ∙ sym (ap (λ (list : List Value). length list) (fitting_kept passes) ∙ length-append (fitting (take i constants)) (value ∷ []))

  pub count_left : told ≡ false → (count : ℕ) → count ≡ length (fitting (take i constants)) → count ≡ length (fitting (take (i + 1) constants))
  count_left fails count is = is ∙ sym (ap (λ (list : List Value). length list) (fitting_left fails))

-- atoms of values, with one value more
pub more_told : (p : PropId) (initial made : List AtomOf) (before : List Value) (value : Value) → made ≡ initial ++ told_atoms p (map (λ one. Is one) before)
    → made ++ told_atoms p (Is value ∷ []) ≡ initial ++ told_atoms p (map (λ one. Is one) (before ++ value ∷ []))
more_told p initial made before value is =
    let atoms = map (λ (one : Value). Is one) before in
    let split : told_atoms p (map (λ one. Is one) (before ++ value ∷ [])) ≡ told_atoms p atoms ++ told_atoms p (Is value ∷ []) =
    ap (told_atoms p) (map-append (λ (one : Value). Is one) before (value ∷ [])) ∙ map-append (λ atom. record { prop = p; atom = atom }) atoms (Is value ∷ []) in
    ap (λ list. list ++ told_atoms p (Is value ∷ [])) is ∙ append_assoc initial (told_atoms p atoms) (told_atoms p (Is value ∷ [])) ∙ ap (λ list. initial ++ list) (sym split)
