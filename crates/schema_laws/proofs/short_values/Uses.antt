-- No index is for two things, and each is below the largest.
use Rattle.std.proofs.Common.{◌≡◌, ◌<◌, ap, arith}
use Rattle.schema_laws.specs.short_values.Fresh.{Use, focus, second, first_end, second_end, lost, dependent, shared_first, shared_second, partner, added, IsUse, index_of, most_indices}

pub index_below : (use_ : Use) → IsUse use_ → index_of use_ < most_indices
index_below (focus part) within = omega (arith, within)
index_below (second part) within = omega (arith, within)
index_below (first_end part) within = omega (arith, within)
index_below (second_end part) within = omega (arith, within)
index_below (lost which) within = omega (arith, within)
index_below (dependent place) within = omega (arith, within)
index_below (shared_first place) within = omega (arith, within)
index_below (shared_second place) within = omega (arith, within)
index_below (partner assoc part) within = omega (arith, within.0, within.1)
index_below (added which) within = omega (arith, within)

-- what has one index is one
pub one_use : (one other : Use) → IsUse one → IsUse other → index_of one ≡ index_of other → one ≡ other
one_use (focus i) (focus j) one other same = ap focus same
one_use (focus i) (partner a b) one other same = absurd (omega (arith, one, other.0, other.1, same))
one_use (focus i) _ one other same = absurd (omega (arith, one, other, same))
one_use (second i) (second j) one other same = ap second (omega (arith, same))
one_use (second i) (partner a b) one other same = absurd (omega (arith, one, other.0, other.1, same))
one_use (second i) _ one other same = absurd (omega (arith, one, other, same))
one_use (first_end i) (first_end j) one other same = ap first_end (omega (arith, same))
one_use (first_end i) (partner a b) one other same = absurd (omega (arith, one, other.0, other.1, same))
one_use (first_end i) _ one other same = absurd (omega (arith, one, other, same))
one_use (second_end i) (second_end j) one other same = ap second_end (omega (arith, same))
one_use (second_end i) (partner a b) one other same = absurd (omega (arith, one, other.0, other.1, same))
one_use (second_end i) _ one other same = absurd (omega (arith, one, other, same))
one_use (lost i) (lost j) one other same = ap lost (omega (arith, same))
one_use (lost i) (partner a b) one other same = absurd (omega (arith, one, other.0, other.1, same))
one_use (lost i) _ one other same = absurd (omega (arith, one, other, same))
one_use (dependent i) (dependent j) one other same = ap dependent (omega (arith, same))
one_use (dependent i) (partner a b) one other same = absurd (omega (arith, one, other.0, other.1, same))
one_use (dependent i) _ one other same = absurd (omega (arith, one, other, same))
one_use (shared_first i) (shared_first j) one other same = ap shared_first (omega (arith, same))
one_use (shared_first i) (partner a b) one other same = absurd (omega (arith, one, other.0, other.1, same))
one_use (shared_first i) _ one other same = absurd (omega (arith, one, other, same))
one_use (shared_second i) (shared_second j) one other same = ap shared_second (omega (arith, same))
one_use (shared_second i) (partner a b) one other same = absurd (omega (arith, one, other.0, other.1, same))
one_use (shared_second i) _ one other same = absurd (omega (arith, one, other, same))
one_use (added i) (added j) one other same = ap added (omega (arith, same))
one_use (added i) (partner a b) one other same = absurd (omega (arith, one, other.0, other.1, same))
one_use (added i) _ one other same = absurd (omega (arith, one, other, same))
one_use (partner a i) (partner b j) one other same =
    let assocs : a ≡ b = omega (arith, one.1, other.1, same) in
    let parts : i ≡ j = omega (arith, one.1, other.1, same) in
    λ k. partner (assocs k) (parts k)
one_use (partner a i) _ one other same = absurd (omega (arith, one.0, one.1, other, same))
