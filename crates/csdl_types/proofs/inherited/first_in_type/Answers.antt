use Rattle.std.proofs.Common.{◌≡◌, ℕ, List, Option, Some, sym, subst}
use Rattle.std.specs.Cmp.{nat_cmp_total}
use Rattle.std.specs.Ordering.{nat_cmp}
use Rattle.groupings.specs.least_fault.Least.{Among, IsLeast}
use Rattle.groupings.proofs.least_fault.Leasts.{least_of_both}
use Rattle.csdl_names.specs.declared.csdl_lists.raw.RawNav.{RawNav}
use Rattle.csdl_names.specs.declared.csdl_lists.raw.RawProp.{RawProp}
use Rattle.csdl_types.specs.OwnNames.{IsPlaceOfName}
use Rattle.groupings.specs.name_places.PlacesIn.{place_in}
use Rattle.csdl_types.proofs.inherited.first_in_type.Goals as goal

pub returns : goal.returns
returns c =
    let known = place_in c.args.own.now in
    let P : Option ℕ → Type 0 = λ found. IsLeast nat_cmp (IsPlaceOfName known c.args.ty.now) found in
    subst P (sym c.earlier.ensures) (least_of_both nat_cmp nat_cmp_total
    (Among (λ _ prop k. known prop.name ≡ Some k) c.args.ty.now.props) (Among (λ _ nav k. known nav.name ≡ Some k) c.args.ty.now.navs)
    c.in_ok-prop.prop c.in_ok-nav.nav
    (subst (λ (props : List RawProp). IsLeast nat_cmp (Among (λ _ prop k. known prop.name ≡ Some k) props) c.in_ok-prop.prop) c.as_slice.ensures.items c.in_ok-prop.ensures)
    (subst (λ (navs : List RawNav). IsLeast nat_cmp (Among (λ _ nav k. known nav.name ≡ Some k) navs) c.in_ok-nav.nav) c.as_slice-2.ensures.items c.in_ok-nav.ensures))
