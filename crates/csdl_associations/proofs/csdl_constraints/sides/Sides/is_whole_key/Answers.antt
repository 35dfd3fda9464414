use Rattle.std.proofs.Common.{◌↔◌, ℕ, List, Option, MatchOption, sym, subst, subst₂, ◌∙◌}
use Rattle.std.proofs.lemmas.List.{map-id}
use Rattle.std.specs.Bool.{IsTrue}
use Rattle.emc_base.specs.Lists.{HoldsEachOnce}
use Rattle.csdl_names.specs.csdl_lists.References.{names_in}
use Rattle.csdl_associations.specs.csdl_constraints.Sides.{key_names}
use Rattle.csdl_associations.proofs.csdl_constraints.sides.Sides.is_whole_key.Goals as goal

pub returns : goal.returns
returns c =
    let model = c.args.self.now.lookups.now.model.now in
    let props = c.args.side.now.props in
    let P : Option ℕ → Type 0 = λ type. IsTrue c.in_ok-answer.answer ↔ MatchOption type ⊥ (λ i. HoldsEachOnce (key_names (names_in model) model i) props) in
    let Q : List (List ℕ) → List (List ℕ) → Type 0 = λ keys named. IsTrue c.in_ok-answer.answer ↔ HoldsEachOnce keys named in
    subst P (sym c.in-Some.is ∙ c.type_of_role.ensures)
    (subst₂ Q (map-id c.key_of.result.now ∙ c.key_of.ensures) (map-id c.as_slice.result.now ∙ c.as_slice.ensures.items) c.in_ok-answer.ensures)

pub returns-in_default : goal.returns-in_default
returns-in_default c =
    let model = c.args.self.now.lookups.now.model.now in
    let P : Option ℕ → Type 0 = λ type. MatchOption type ⊥ (λ i. HoldsEachOnce (key_names (names_in model) model i) c.args.side.now.props) in
    (λ no. absurd cc, λ whole. absurd (subst P (sym c.type_of_role.ensures ∙ c.in_default.is) whole))
