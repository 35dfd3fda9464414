use Rattle.std.proofs.Common.{◌≡◌, ◌==◌, ◌++◌, ◌∷◌, [], All, Bool, true, List, filter, map, refl, ap, subst, ◌∙◌}
use Rattle.std.specs.Borrow.{Bor}
use Rattle.std.specs.Global.{Vec}
use Rattle.std.proofs.lemmas.Bool.{false_from_ne_true}
use Rattle.std.proofs.lemmas.Bool.Decides.{Decides-eqb}
use Rattle.std.proofs.lemmas.List.{map-append, take_all}
use Rattle.std.proofs.lemmas.List.Elements.{All-contains}
use Rattle.std.proofs.lemmas.Option.{slice_get_read}
use Rattle.case_laws.specs.candidates.Rows.{shown_rows}
use Rattle.emc_base.proofs.Mapped.{contains_at}
use Rattle.keyed_rows.specs.row_groups.Shown.{shown_cells}
use Rattle.round_trip.specs.Words.{At, Value}
use Rattle.query_cases.specs.declared.case_reading.reading.LinkReading.{LinkReading}
use Rattle.query_cases.specs.case_reading.Links.{HasPlace}
use Rattle.query_views.specs.LinkKeys.{host_keys, shown_keys}
use Rattle.query_views.proofs.Zips.{chosen_more, chosen_none}
use Rattle.query_views.proofs.links.hosted.add_keys.Goals as goal
use Rattle.query_views.proofs.links.hosted.add_keys.Goals.{then-link-assoc+in_ok-host_keys+in_ok-push, else-link-assoc}

pub host_keys-requires : goal.host_keys-requires
host_keys-requires c =
    let links : List LinkReading = c.args.entity.now.met.reading.now.links in
    let i = c.loop-link.link-index in
    let here : At c.links-link-items.result.now i c.link-item.result = slice_get_read _ _ i _ refl c.loop-link-test.true c.link-item.is in
    let there : At links i c.link-item.result = subst (λ (list : List LinkReading). At list i c.link-item.result) c.links-link-items.ensures here in
    All-contains (λ (link : LinkReading). All (HasPlace (shown_rows c.args.entity.now.rows.items)) link.parts) links c.link-item.result c.requires (contains_at links i c.link-item.result there)

pub loop-link-preserved : goal.loop-link-preserved
loop-link-preserved c =
    let links : List LinkReading = c.links-link-items.result.now in
    let i = c.loop-link.link-index in
    let link : LinkReading = c.link-item.result in
    let a = c.args.assoc in
    let both : LinkReading → List Value = host_keys c.args.first_hosts c.args.entity.now in
    let of_this : LinkReading → Bool = λ one. one.assoc.index == a.index in
    let here : At links i link = slice_get_read _ _ i _ refl c.loop-link-test.true c.link-item.is in
    let before : List (List Value) = shown_keys c.args.keyed.now.items in
    let so_far : List (List Value) = shown_keys c.loop-link.keyed.items in
    let after : List (List Value) = shown_keys c.if-link-assoc.keyed.items in
    elim c.if-link-assoc.branch [
      | then-link-assoc+in_ok-host_keys+in_ok-push w ↦
          let more : after ≡ so_far ++ both link ∷ [] =
          ap (λ (keyed : Vec (Vec (Bor Value) × Unit)). shown_keys keyed.items) w.keyed-is ∙ ap shown_keys w.in_ok-push.ensures.items
          ∙ map-append (λ (one : Vec (Bor Value) × Unit). shown_cells one.0) c.loop-link.keyed.items ((w.in_ok-host_keys.field-0, tt) ∷ [])
          ∙ ap (λ (key : List Value). so_far ++ key ∷ []) w.in_ok-host_keys.ensures in
          chosen_more both of_this links i link here before so_far after c.loop-link.invariant ((Decides-eqb link.assoc.index a.index).1 w.if-link-assoc.true) more
      | else-link-assoc w ↦
          let same : after ≡ so_far = ap (λ (keyed : Vec (Vec (Bor Value) × Unit)). shown_keys keyed.items) w.keyed-is in
          chosen_none both of_this links i link here before so_far after c.loop-link.invariant
          (false_from_ne_true (of_this link) (λ is. w.if-link-assoc.false ((Decides-eqb link.assoc.index a.index).0 is))) same
    ]

pub returns : goal.returns
returns c = c.loop-link.invariant ∙ ap (λ (links : List LinkReading). shown_keys c.args.keyed.now.items
    ++ map (host_keys c.args.first_hosts c.args.entity.now) (filter (λ link. link.assoc.index == c.args.assoc.index) links))
    (take_all c.loop-link.link-index c.links-link-items.result.now c.loop-link-test.false ∙ c.links-link-items.ensures)
