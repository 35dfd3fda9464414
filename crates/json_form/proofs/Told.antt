-- What stands in an object that is made of members.
use Rattle.std.proofs.Common.{◌≡◌, ◌≢◌, ⊎_elim, ℕ, List, map, Some, IsSome, AllPairs, Contains, sym, subst}
use Rattle.serde_json.specs.Data.{Data, no_members}
use Rattle.serde_json.specs.Find.{get, get_member}
use Rattle.emc_base.specs.Lists.{AreApart}
use Rattle.json_form.specs.Trees.{object_of}
use Rattle.json_form.proofs.Members.{get_member-put_all, names-put_all}

-- each member stands under its name, where no two have one name
pub told : (entries : List (List ℕ × Data)) (names : List (List ℕ)) → map (λ entry. entry.0) entries ≡ names → AreApart names
    → (entry : List ℕ × Data) → Contains entries entry → get entry.0 (object_of entries) ≡ Some entry.1
told entries names are apart entry has = get_member-put_all no_members entries entry (subst (λ ns. AllPairs (λ one other. one ≢ other) ns) (sym are) apart) has

-- and nothing else stands there
pub told_only : (entries : List (List ℕ × Data)) (names : List (List ℕ)) → map (λ entry. entry.0) entries ≡ names
    → (name : List ℕ) → IsSome (get name (object_of entries)) → Contains names name
told_only entries names are name some =
    subst (λ ns. Contains ns name) are (⊎_elim (λ (none : IsSome (get_member name no_members)). cc) (λ has. has) (names-put_all name no_members entries some))
