use Rattle.std.proofs.Common.{◌≡◌, ◌+◌, ◌++◌, ◌≤◌, append-nil, List, Bool, Option, Some, length, map, ap, sym, subst, ◌∙◌}
use Rattle.std.proofs.lemmas.Option.{slice_get-get_or}
use Rattle.emc_base.specs.Lists.{At}
use Rattle.round_trip.specs.Words.{Assoc, AssocId}
use Rattle.regions.specs.Basis.{Host}
use Rattle.regions.specs.Regions.{flagged, flags_at}
use Rattle.region_states.specs.region_basis.BasisOf.{basis_of, host_at, hosts_told}
use Rattle.region_partition.specs.region_lists.Listing.{beside, joined_choices}
use Rattle.region_partition.proofs.region_lists.Further.{joined_more}
use Rattle.region_partition.proofs.region_lists.Hosts.{flags_here, hosts_before, hosts_here, hosts_more, hosts_whole}
use Rattle.region_partition.proofs.region_lists.choices.linked_choices.Goals as goal
use Rattle.region_partition.proofs.region_lists.choices.linked_choices.Goals.{in-Some+in_ok-linked-2, in_default}

pub loop-index-preserved : goal.loop-index-preserved
loop-index-preserved c =
    let parts = c.args.parts.now in
    let s = c.args.set in
    let i = c.loop-index.index in
    let a : AssocId = record { index = i } in
    let flags = flags_at (basis_of parts) c.args.ty in
    let assoc : Assoc = c.assoc-item.result in
    let items = c.as_slice-assoc-items.result.now in
    let stands : At items i assoc = slice_get-get_or items i assoc c.loop-index-test.true ∙ ap Some (sym c.assoc-item.is) in
    let here : At parts.model.now.assocs i assoc = subst (λ (list : List Assoc). At list i assoc) c.as_slice-assoc-items.ensures.items stands in
    let told : host_at parts.cells.now.places s (i, assoc) ≡ hosts_told a c.hosting_end.result =
    hosts_here parts s a assoc c.link_place.result c.hosting_end.result c.link_place.ensures c.hosting_end.ensures in
    let more : hosts_before parts s (i + 1) ≡ hosts_before parts s i ++ hosts_told a c.hosting_end.result =
    hosts_more parts s i assoc here ∙ ap (λ (hosts : List Host). hosts_before parts s i ++ hosts) told in
    let linked = λ (end : Option Bool). joined_choices (map flags (hosts_before parts s i ++ hosts_told a end)) in
    let after = ap (λ (hosts : List Host). joined_choices (map flags hosts)) (sym more) in
    elim c.match-hosting_end.branch [
      | in-Some+in_ok-linked-2 w ↦
          let host : Host = record { assoc = a; first_hosts = w.in-Some.first_hosts } in
          let list = ap (map (flagged a)) w.flag_values-flags.ensures ∙ sym (flags_here parts s c.args.ty a assoc w.in-Some.first_hosts here) in
          w.linked-is
          ∙ joined_more flags (hosts_before parts s i) host c.loop-index.linked w.in_ok-linked-2.linked c.loop-index.invariant
          (w.in_ok-linked-2.ensures ∙ ap (beside c.loop-index.linked) list)
          ∙ ap linked (sym w.in-Some.is)
          ∙ after
      | in_default w ↦
          w.linked-is
          ∙ c.loop-index.invariant
          ∙ ap (λ (hosts : List Host). joined_choices (map flags hosts)) (sym (append-nil (hosts_before parts s i)))
          ∙ ap linked (sym w.in_default.is)
          ∙ after
    ]

pub returns : goal.returns
returns c =
    let parts = c.args.parts.now in
    let P : List Assoc → Type 0 = λ items. length items ≤ c.loop-index.index in
    let past = subst P c.as_slice-assoc-items.ensures.items c.loop-index-test.false in
    c.loop-index.invariant ∙ ap (λ (hosts : List Host). joined_choices (map (flags_at (basis_of parts) c.args.ty) hosts)) (hosts_whole parts c.args.set c.loop-index.index past)
