use Rattle.std.proofs.Common.{◌++◌, ◌∷◌, [], ℕ, List, ap, ◌∙◌}
use Rattle.groupings.proofs.linked_places.Alone.{alone_more}
use Rattle.groupings.proofs.linked_places.joining.Joining.add_place.Goals as goal

pub returns : goal.returns
returns c =
    let old = c.args.self.now in
    alone_more c.args.place old (record { numbers = c.push-2.new.self; members = c.push-3.new.self }) c.requires c.in_ok-push-2.ensures.items
    (c.in_ok-push-3.ensures.items ∙ ap (λ (xs : List ℕ). old.members.items ++ xs ∷ []) (c.in_ok-push.ensures.ok ∙ ap (λ (xs : List ℕ). xs ++ c.args.place ∷ []) c.empty-alone.ensures))
