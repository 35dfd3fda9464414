-- What a test says that is turned round, and two tests of which one decides before the other.
use Rattle.std.proofs.Common.{◌≡◌, ◌⊎◌, ⊎_elim, inl, inr, Bool, true, false, cond, not, true≢false, refl, sym}
use Rattle.std.specs.Prelude.{if◌then◌else◌}

-- a test turned round
pub not_true : (b : Bool) → not b ≡ true → b ≡ false
not_true true is = absurd (true≢false (sym is))
not_true false is = refl

pub not_is : (b : Bool) → not b ≡ (if b then false else true)
not_is true = refl
not_is false = refl

-- one that can't pass fails
pub fails_by : (b : Bool) → (b ≡ true → ⊥) → b ≡ false
fails_by true never = absurd (never refl)
fails_by false never = refl

-- some other test passes, or the first one does
pub old_or_new : {P : Type 0} (eq old : Bool) → (eq ≡ true → P) → cond eq true old ≡ true → (old ≡ true) ⊎ P
old_or_new true old found is = inr (found refl)
old_or_new false old found is = inl is

pub by_either : (eq old : Bool) → (old ≡ true) ⊎ (eq ≡ true) → cond eq true old ≡ true
by_either true old either = refl
by_either false true either = refl
by_either false false either = ⊎_elim (λ is. is) (λ is. is) either

pub by_new : (eq old : Bool) → eq ≡ true → cond eq true old ≡ true
by_new eq old is = by_either eq old (inr is)

pub by_old : (eq old : Bool) → old ≡ true → cond eq true old ≡ true
by_old eq old is = by_either eq old (inl is)

-- two things that are so or not
pub both_decided : {P Q : Type 0} → P ⊎ ¬ P → Q ⊎ ¬ Q → (P × Q) ⊎ ¬ (P × Q)
both_decided (inl p) (inl q) = inl (p, q)
both_decided (inl p) (inr not) = inr (λ pair. not pair.1)
both_decided (inr not) other = inr (λ pair. not pair.0)
