-- A state's tree has no float.
use Rattle.std.proofs.Common.{◌≡◌, ◌∙◌, ap, filter, false, refl, codes, zip}
use Rattle.std.specs.List.{enumerate_from}
use Rattle.serde_json.specs.Data.{string, no_members, put}
use Rattle.serde_json.specs.Written.{has_float, members_have_float}
use Rattle.json_form.specs.Trees.{key_tree, put_all}
use Rattle.json_form.proofs.Members.{put_all-both}
use Rattle.json_form.proofs.Objects.{members_have_float-put, put_all-plain, array_of-plain, value_tree-plain, key_tree-plain}
use Rattle.round_trip.specs.Words.{EntityModel, Assoc, Entity, Link, props_of, State, entities_in, links_in}
use Rattle.entity_state.specs.StateTree.{assoc_member, assoc_members, entity_tree, full_name, is_independent, link_tree, named_value, set_member, set_members, state_tree}

pub entity_tree-plain : (model : EntityModel) (entity : Entity) → has_float (entity_tree model entity) ≡ false
entity_tree-plain model entity =
    put_all-plain (put (codes "$type") (string (full_name model entity.ty)) no_members) (named_value model) (zip (props_of model entity.ty) entity.values)
    (λ beside. value_tree-plain beside.1) refl

link_tree-plain : (assoc : Assoc) (link : Link) → has_float (link_tree assoc link) ≡ false
link_tree-plain assoc link =
    members_have_float-put assoc.second.role (key_tree link.second) (put assoc.first.role (key_tree link.first) no_members) (key_tree-plain link.second)
    (members_have_float-put assoc.first.role (key_tree link.first) no_members (key_tree-plain link.first) refl)

pub state_tree-plain : (model : EntityModel) (state : State) → has_float (state_tree model state) ≡ false
state_tree-plain model state =
    let sets = enumerate_from 0 model.sets in
    let assocs = filter (λ entry. is_independent entry.1) (enumerate_from 0 model.assocs) in
    ap members_have_float (put_all-both no_members (set_members model state) (assoc_members model state))
    ∙ put_all-plain (put_all no_members (set_members model state)) (assoc_member state) assocs
    (λ entry. array_of-plain (link_tree entry.1) (links_in state (record { index = entry.0 })) (link_tree-plain entry.1))
    (put_all-plain no_members (set_member model state) sets
    (λ entry. array_of-plain (entity_tree model) (entities_in state (record { index = entry.0 })) (entity_tree-plain model)) refl)
