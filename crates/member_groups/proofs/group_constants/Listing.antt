-- Lists of the values of sets, with one set more.
use Rattle.std.proofs.Common.{ℕ, ◌++◌, ◌∷◌, [], List, length, sym, subst}
use Rattle.std.specs.BTreeSet.{BTreeSet}
use Rattle.std.proofs.lemmas.List.{length_push}
use Rattle.emc_base.proofs.Members.{at_push_last, at_push_old}
use Rattle.round_trip.specs.Words.{Value, At}
use Rattle.member_groups.specs.group_constants.Constants.{AreListed, IsListOf}
use Rattle.member_groups.specs.group_numbers.Numbers.{HoldsEach}
use Rattle.member_groups.proofs.group_numbers.Holding.{holds_as, holds_more}

pub listed_more : (sets : List (BTreeSet Value)) (set : BTreeSet Value) (lists : List (List Value)) (list : List Value) → AreListed sets lists → IsListOf set list
    → AreListed (sets ++ set ∷ []) (lists ++ list ∷ [])
listed_more sets set lists list so_far is =
    let Is : List (BTreeSet Value) → ℕ → List Value → Type 0 = λ some i one. (values : BTreeSet Value) × At some i values × IsListOf values one in
    let all = sets ++ set ∷ [] in
    let n = length sets in
    let old = holds_as (Is sets) (Is all) (λ i one same. (same.0, at_push_old sets set i same.0 same.1, same.2)) n lists so_far in
    let Holds : ℕ → Type 0 = λ count. HoldsEach (Is all) count (lists ++ list ∷ []) in
    subst Holds (sym (length_push sets set)) (holds_more (Is all) n lists list old (set, at_push_last sets set, is))
