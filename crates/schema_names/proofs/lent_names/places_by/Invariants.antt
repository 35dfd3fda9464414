use Rattle.std.proofs.Common.{◌≡◌, ℕ, List, map, take}
use Rattle.schema_names.proofs.lent_names.places_by.Given as goal

-- the names of the items that were passed, whatever names the closure lends; it may be called again
abbrev pub invariant-loop-item : goal.invariant-loop-item
invariant-loop-item g l =
    ((name_in : g.row.T.Denot → List ℕ) → ((x : _) (name : _) → goal.F-post g l.name_of x name → name.now ≡ name_in x.now)
    → map (λ given. given.now) l.names.items ≡ map name_in (take l.item-index l.items))
    × goal.F-IsAlwaysCallable g l.name_of
