use Rattle.std.proofs.Common.{◌≡◌, ◌∙◌, ap, refl, codes, false}
use Rattle.serde_json.specs.Data.{string, no_members, put}
use Rattle.serde_json.specs.Written.{compact_text, has_float}
use Rattle.emc_base.specs.declared.place.Place.{Place}
use Rattle.json_form.specs.Trees.{key_tree, place_tree}
use Rattle.json_form.proofs.Objects.{members_have_float-put, key_tree-plain}
use Rattle.json_form.proofs.tree.place_text.Goals as goal

-- a place's tree has no float
place_tree-plain : (place : Place) → has_float (place_tree place) ≡ false
place_tree-plain place =
    members_have_float-put (codes "part") (string place.part) (put (codes "name") (string place.name) (put (codes "key") (key_tree place.key) no_members)) refl
    (members_have_float-put (codes "name") (string place.name) (put (codes "key") (key_tree place.key) no_members) refl
    (members_have_float-put (codes "key") (key_tree place.key) no_members (key_tree-plain place.key) refl))

pub returns : goal.returns
returns c =
    c.in_ok-to_string.ensures.text (ap has_float c.in_ok-tree.ensures ∙ place_tree-plain c.args.place.now)
    ∙ ap compact_text c.in_ok-tree.ensures
