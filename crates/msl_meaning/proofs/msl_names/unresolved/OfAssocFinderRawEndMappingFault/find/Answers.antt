use Rattle.std.proofs.Common.{◌≡◌, ◌∷◌, [], MatchOption, None, Bor, codes, ap, sym, ◌∙◌}
use Rattle.json_form.specs.declared.pointer.Step.TheVariants.{Member}
use Rattle.layouts.specs.declared.fault.Fault.{Fault}
use Rattle.layouts.specs.declared.rule.Rule.TheVariants.{Resolves}
use Rattle.layouts.specs.rule_places.Places.{InList, IsAt}
use Rattle.layouts.proofs.rule_places.LeastFound.{at_none, first_only, none_of}
use Rattle.layouts.proofs.rule_places.Rules.{least_joined, least_where, least_where_some}
use Rattle.round_trip.specs.Words.{End}
use Rattle.msl_rules.specs.Found.{role_end}
use Rattle.msl_rules.specs.NameRules.{LacksProp}
use Rattle.msl_rules.proofs.Named.{none_mapped}
use Rattle.msl_meaning.proofs.msl_names.unresolved.OfAssocFinderRawEndMappingFault.find.Goals as goal

pub returns-in_default : goal.returns-in_default
returns-in_default c =
    let self = c.args.self.now in
    let mapping = c.args.item.now in
    let known = role_end self.assoc.now mapping.role in
    let named = none_mapped (λ (end : Bor End). end.now) c.end-end.result known (c.end-end.ensures ∙ ap (role_end self.assoc.now) c.as_str.ensures.text) in
    let Role : Fault → Type 0 = λ fault. (known ≡ None) × IsAt Resolves (Member (codes "Name") ∷ []) fault in
    let Props : End → Fault → Type 0 = λ end. InList (codes "ScalarProperty") (LacksProp self.names.now.model.now self.names.now.store.now end) mapping.pairs in
    first_only Role (λ fault. MatchOption known ⊥ (λ end. Props end fault)) c.in_ok-role.role
    (at_none known Props (named.0 (none_of c.end-end.result c.in_default.not-Some)))
    (least_where (IsAt Resolves (Member (codes "Name") ∷ [])) c.in_ok-role.role named c.in_ok-role.ensures)

pub returns : goal.returns
returns c =
    let self = c.args.self.now in
    let mapping = c.args.item.now in
    let known = role_end self.assoc.now mapping.role in
    let named = none_mapped (λ (end : Bor End). end.now) c.end-end.result known (c.end-end.ensures ∙ ap (role_end self.assoc.now) c.as_str.ensures.text) in
    let Role : Fault → Type 0 = λ fault. (known ≡ None) × IsAt Resolves (Member (codes "Name") ∷ []) fault in
    let Props : End → Fault → Type 0 = λ end. InList (codes "ScalarProperty") (LacksProp self.names.now.model.now self.names.now.store.now end) mapping.pairs in
    least_joined Role (λ fault. MatchOption known ⊥ (λ end. Props end fault)) c.in_ok-role.role c.in_ok-props.props c.earlier.result c.earlier.ensures
    (least_where (IsAt Resolves (Member (codes "Name") ∷ [])) c.in_ok-role.role named c.in_ok-role.ensures)
    (least_where_some Props known c.in-Some.end.now c.in_ok-props.props (ap (role_end self.assoc.now) (sym c.as_str.ensures.text) ∙ sym c.in-Some.ensures) c.in_ok-props.ensures)
