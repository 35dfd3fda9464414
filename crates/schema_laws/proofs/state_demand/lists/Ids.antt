-- Whether two ids are one is decided by their numbers.
use Rattle.std.proofs.Common.{◌≡◌, ◌==◌, Decides, ap}
use Rattle.std.proofs.lemmas.Bool.Decides.{Decides-eqb, Decides-like}
use Rattle.round_trip.specs.Words.{PropId, AssocId, SetId}

pub Decides-prop : (one two : PropId) → Decides (one.index == two.index) (one ≡ two)
Decides-prop one two = Decides-like (one.index == two.index) (λ same i. record { index = same i }) (λ same. ap (λ (p : PropId). p.index) same) (Decides-eqb one.index two.index)

pub Decides-assoc : (one two : AssocId) → Decides (one.index == two.index) (one ≡ two)
Decides-assoc one two = Decides-like (one.index == two.index) (λ same i. record { index = same i }) (λ same. ap
    (λ (a : AssocId). a.index) same) (Decides-eqb one.index two.index)

pub Decides-set : (one two : SetId) → Decides (one.index == two.index) (one ≡ two)
Decides-set one two = Decides-like (one.index == two.index) (λ same i. record { index = same i }) (λ same. ap (λ (s : SetId). s.index) same) (Decides-eqb one.index two.index)
