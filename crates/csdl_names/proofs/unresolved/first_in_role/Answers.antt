use Rattle.std.proofs.Common.{◌≡◌, ◌∷◌, [], ℕ, MatchOption, None, codes, ap, sym, ◌∙◌}
use Rattle.std.specs.Option.{is_some}
use Rattle.std.proofs.lemmas.Result.{IfOk-weaker}
use Rattle.json_form.specs.declared.pointer.Step.TheVariants.{Member}
use Rattle.layouts.specs.declared.fault.Fault.{Fault}
use Rattle.layouts.specs.declared.rule.Rule.TheVariants.{Resolves}
use Rattle.layouts.specs.rule_places.Places.{InList, IsAt}
use Rattle.csdl_names.specs.csdl_lists.References.{names_in}
use Rattle.csdl_names.specs.Unresolved.{IsUnresolvedProp, end_of_role, type_of_role}
use Rattle.layouts.proofs.rule_places.Rules.{least_searches, least_where, least_where_some}
use Rattle.layouts.proofs.rule_places.LeastFound.{at_none, first_only, lent_some, none_of, none_tells}
use Rattle.csdl_names.proofs.unresolved.first_in_role.Goals as goal

pub returns-in_default : goal.returns-in_default
returns-in_default c =
    let model = c.args.lookups.now.model.now in
    let role = c.args.role.now in
    let end = end_of_role c.args.association.now role.role in
    let type = type_of_role (names_in model) model c.args.association.now role.role in
    let Role : Fault → Type 0 = λ fault. (end ≡ None) × IsAt Resolves (Member (codes "Role") ∷ []) fault in
    let Props : ℕ → Fault → Type 0 = λ type. InList (codes "PropertyRef") (IsUnresolvedProp (names_in model) model type) role.props in
    IfOk-weaker c.fault_if-end.result _ _
    (λ found least. first_only Role (λ fault. MatchOption type ⊥ (λ place. Props place fault)) found
    (at_none type Props (sym c.type_of_role.ensures ∙ none_of c.type_of_role.result c.in_default.not-Some))
    (least_where (IsAt Resolves (Member (codes "Role") ∷ [])) found
    (none_tells c.is_none-is_lacking.result end (ap is_some (sym c.end_of_role.ensures) ∙ lent_some c.end_of_role.result ∙ c.is_none-is_lacking.ensures)) least))
    c.fault_if-end.ensures

pub returns : goal.returns
returns c =
    let model = c.args.lookups.now.model.now in
    let role = c.args.role.now in
    let end = end_of_role c.args.association.now role.role in
    let type = type_of_role (names_in model) model c.args.association.now role.role in
    let Role : Fault → Type 0 = λ fault. (end ≡ None) × IsAt Resolves (Member (codes "Role") ∷ []) fault in
    let Props : ℕ → Fault → Type 0 = λ type. InList (codes "PropertyRef") (IsUnresolvedProp (names_in model) model type) role.props in
    least_searches Role (λ fault. MatchOption type ⊥ (λ place. Props place fault)) c.fault_if-end.result c.first_at-props.result c.earlier_of.result c.earlier_of.ensures
    (IfOk-weaker c.fault_if-end.result _ _ (λ found. least_where (IsAt Resolves (Member (codes "Role") ∷ [])) found
    (none_tells c.is_none-is_lacking.result end (ap is_some (sym c.end_of_role.ensures) ∙ lent_some c.end_of_role.result ∙ c.is_none-is_lacking.ensures))) c.fault_if-end.ensures)
    (IfOk-weaker c.first_at-props.result _ _ (λ found. least_where_some Props type c.in-Some.ty found (sym c.type_of_role.ensures ∙ c.in-Some.is)) c.first_at-props.ensures)
