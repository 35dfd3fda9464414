-- Total orders that tell different things apart: two of which neither comes after the other are one.
use Rattle.std.proofs.Common.{◌≡◌, ◌≢◌, refl}
use Rattle.std.specs.declared.cmp.Ordering.{Ordering}
use Rattle.std.specs.declared.cmp.Ordering.TheVariants.{Less, Equal, Greater}
use Rattle.std.specs.Cmp.{IsTotalOrder}
use Rattle.std.specs.FinMap.{IsAntisymmetric}
use Rattle.std.specs.Ordering.{ordering_reverse}

neither : (order turned : Ordering) → order ≡ ordering_reverse turned → order ≢ Greater → turned ≢ Greater → order ≡ Equal
neither order Less is not_after other = absurd (not_after is)
neither order Equal is not_after other = is
neither order Greater is not_after other = absurd (other refl)

pub neither_after : {X : Type 0} (cmp : X → X → Ordering) → IsTotalOrder cmp → IsAntisymmetric cmp → (one two : X) → cmp one two ≢ Greater → cmp two one ≢ Greater → one ≡ two
neither_after cmp total apart one two not_after other = apart one two (neither (cmp one two) (cmp two one) (total.antisymm one two) not_after other)
