-- Members that an object lacks.
use Rattle.std.proofs.Common.{◌≡◌, ℕ, List, Bool, true, false, not, Option, Some, None, refl, sym}
use Rattle.std.specs.Option.{is_some, option_map}
use Rattle.std.specs.Bool.{IsTrue}
use Rattle.serde_json.specs.Data.{Data}
use Rattle.serde_json.specs.Find.{get}
use Rattle.json_form.specs.Members.{HasMember}
use Rattle.json_form.proofs.MemberByName.{member_found, member_missing}

-- whether no member of a name is found, and whether there is none
pub none_told : {X : Type 0} (part_of : X → Data) (b : Bool) (found : Option X) (d : Data) (name : List ℕ)
    → is_some found ≡ not b → option_map part_of found ≡ get name d
    → (IsTrue b → (part : Data) → ¬ HasMember d name part) × (((part : Data) → ¬ HasMember d name part) → IsTrue b)
none_told part_of true None d name told is = (λ yes. member_missing d name (sym is), λ none. refl)
none_told part_of false (Some x) d name told is = (λ yes. absurd cc, λ none. absurd (none (part_of x) (member_found d name (part_of x) (sym is))))
none_told part_of true (Some x) d name told is = absurd cc
none_told part_of false None d name told is = absurd cc
