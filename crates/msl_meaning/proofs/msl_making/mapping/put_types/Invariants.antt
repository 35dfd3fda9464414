use Rattle.std.proofs.Common.{◌≡◌, ◌++◌, take}
use Rattle.std.specs.List.{enumerate_from, filter_map}
use Rattle.json_form.specs.Pointers.{pointer_of}
use Rattle.msl_rules.specs.Sites.{fragment_place}
use Rattle.msl_meaning.specs.msl_making.Walk.{fragment_of}
use Rattle.msl_meaning.proofs.msl_making.mapping.put_types.Given as goal

-- the fragments that were passed stand behind the others
abbrev pub invariant-loop-last : goal.invariant-loop-last
invariant-loop-last l =
    l.made ≡ l.initial.made ++ filter_map
    (λ k. fragment_of l.names.model.now l.names.store.now l.set (pointer_of (fragment_place l.places.0 l.places.1 k.0)) l.types k.1)
    (take l.last (enumerate_from 0 l.types.fragments))
