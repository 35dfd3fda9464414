use Rattle.region_states.specs.region_basis.BasisOf.{basis_of}
use Rattle.region_states.proofs.region_basis.Bases.{basis_is}
use Rattle.dangling_states.proofs.Together.{given_is, links_are, one_is, roots_are, state_told, supported}
use Rattle.dangling_states.proofs.both.both_state.Goals as goal

pub small_state-requires : goal.small_state-requires
small_state-requires c =
    let basis = basis_of c.args.parts.now in
    let of = c.args.referring.look.of.now in
    let key = c.args.referring.key.now in
    let given_so = given_is basis of key c.args.pairing.now c.args.region.now c.args.referring.row c.requires.referring.row c.in_ok-entity.entity c.in_ok-entity.ensures c.in_ok-key.key c.in_ok-key.ensures
    c.in_ok-lone.lone.given c.in_ok-given.given c.in_ok-lone.ensures.given c.in_ok-given.ensures in
    let links_so = links_are basis of key c.args.pairing.now c.args.region.now c.args.referring.row c.requires.referring.row c.in_ok-entity.entity c.in_ok-entity.ensures c.in_ok-key.key c.in_ok-key.ensures
    c.as_slice-2.result.now c.in_ok-hosts.hosts c.as_slice-2.ensures.items c.in_ok-hosts.ensures c.in_ok-lone.lone.links c.add_partner_links.new.links c.in_ok-lone.ensures.links
    c.in_ok-add_partner_links.ensures in
    supported basis of key c.args.pairing.now c.args.region.now c.args.referring.row c.requires.referring.row (basis_is c.args.parts.now c.requires.parts) c.requires.parts.limits
    c.requires.referring.few c.requires.supported c.in_ok-one.one
    (one_is basis of key c.args.pairing.now c.args.region.now c.args.referring.row c.requires.referring.row c.in_ok-one.one c.in_ok-given.given c.add_partner_links.new.links given_so links_so c.in_ok-one.ensures)

pub returns : goal.returns
returns c =
    let basis = basis_of c.args.parts.now in
    let of = c.args.referring.look.of.now in
    let key = c.args.referring.key.now in
    let given_so = given_is basis of key c.args.pairing.now c.args.region.now c.args.referring.row c.requires.referring.row c.in_ok-entity.entity c.in_ok-entity.ensures c.in_ok-key.key c.in_ok-key.ensures
    c.in_ok-lone.lone.given c.in_ok-given.given c.in_ok-lone.ensures.given c.in_ok-given.ensures in
    let links_so = links_are basis of key c.args.pairing.now c.args.region.now c.args.referring.row c.requires.referring.row c.in_ok-entity.entity c.in_ok-entity.ensures c.in_ok-key.key c.in_ok-key.ensures
    c.as_slice-2.result.now c.in_ok-hosts.hosts c.as_slice-2.ensures.items c.in_ok-hosts.ensures c.in_ok-lone.lone.links c.add_partner_links.new.links c.in_ok-lone.ensures.links
    c.in_ok-add_partner_links.ensures in
    let roots_so = roots_are basis of key c.args.pairing.now c.args.region.now c.args.referring.row c.requires.referring.row c.in_ok-entity.entity c.in_ok-entity.ensures c.in_ok-key.key c.in_ok-key.ensures
    c.as_slice-3.result.now c.in_ok-hosts.hosts c.as_slice-3.ensures.items c.in_ok-hosts.ensures c.in_ok-lone.lone.given c.as_slice.result.now c.empty-roots.result c.add_keys.new.keys
    c.push.new.self c.add_partner_roots.new.roots c.as_slice.ensures.items c.in_ok-lone.ensures.given c.empty-roots.ensures c.in_ok-add_keys.ensures c.in_ok-push.ensures.ok
    c.in_ok-add_partner_roots.ensures in
    state_told basis of key c.args.pairing.now c.args.region.now c.args.referring.row c.requires.referring.row c.in_ok-one.one c.add_partner_roots.new.roots
    (one_is basis of key c.args.pairing.now c.args.region.now c.args.referring.row c.requires.referring.row c.in_ok-one.one c.in_ok-given.given c.add_partner_links.new.links given_so links_so c.in_ok-one.ensures)
    roots_so c.small_state.result c.small_state.ensures
