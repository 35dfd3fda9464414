use Rattle.std.proofs.Common.{◌∙◌, ap, subst, sym}
use Rattle.std.specs.List.{filter_map}
use Rattle.region_states.specs.region_basis.BasisOf.{basis_of}
use Rattle.regions.specs.Regions.{regions_of}
use Rattle.dangling_search.specs.Found.{OwnedHere}
use Rattle.dangling_search.specs.Rows.{lacking}
use Rattle.dangling_search.proofs.Searching.{none_lacking}
use Rattle.dangling_search.proofs.Tables.{lacking_are, rows_at}
use Rattle.dangling_search.proofs.target.target_of.Goals.{in-Some-get+in_ok-lacking-in-Some-get, in-None}
use Rattle.dangling_search.proofs.target.target_of.Goals as goal

pub returns : goal.returns
returns c =
    let basis = basis_of c.args.parts.now in
    let set = c.in-Some.owned.set in
    let t = c.args.key.now.to in (
      subst (OwnedHere basis t) c.in-Some.is c.in_ok-owned.ensures,
      elim c.match-get.branch [
        | in-Some-get+in_ok-lacking-in-Some-get w ↦
            w.lacking-is ∙ w.in_ok-lacking-in-Some-get.ensures ∙ ap (filter_map (lacking t)) (rows_at basis c.args.rows.now c.requires.rows set w.in-Some-get.of_set.now (sym w.in-Some-get.ensures.item))
            ∙ lacking_are basis t (regions_of basis set)
        | in-None w ↦ w.lacking-is ∙ w.empty-lacking.ensures ∙ none_lacking basis c.args.rows.now c.requires.rows set (sym w.in-None.ensures.item) t
      ],
    )
