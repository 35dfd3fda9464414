-- Links that are added to a map, each at the key of its host.
use Rattle.std.proofs.Common.{◌≡◌, ◌+◌, ℕ, List, [], ◌∷◌, ◌++◌, append-nil, map, filter, take, cond, Bool, true, false, refl, sym, ap, ◌∙◌}
use Rattle.std.specs.BTreeMap.{BTreeMap, get}
use Rattle.std.specs.Cmp.Lexicographic.{slice_cmp}
use Rattle.std.specs.Option.{unwrap_or}
use Rattle.std.specs.Ordering.{is_eq}
use Rattle.std.proofs.lemmas.List.{append_assoc, map-append}
use Rattle.std.proofs.lemmas.List.Elements.{filter-append}
use Rattle.emc_base.specs.Lists.{At}
use Rattle.emc_base.specs.Order.{value_cmp}
use Rattle.emc_base.proofs.Loops.{take_item}
use Rattle.round_trip.specs.Words.{AssocId, Hosted, Link, Value}
use Rattle.schema_laws.proofs.state_demand.writings.Selecting.{Decides-key}
use Rattle.cells.specs.HostedLinks.{host_key, of_key, partner_key}
use Rattle.cells.specs.host_links.Grouped.{links_at_key}

module _ (first_hosts : Bool) (a : AssocId) where
  abbrev seen : Link → Hosted
  seen link = record { assoc = a; partner = partner_key first_hosts link }

  abbrev test : List Value → Link → Bool
  test q link = is_eq (slice_cmp value_cmp (host_key first_hosts link) q)

  -- those of one link alone
  abbrev of_one : List Value → Link → List Hosted
  of_one q link = map seen (cond (test q link) (link ∷ []) [])

  -- one link more
  more : (q : List Value) (links : List Link) (link : Link) → of_key first_hosts a q (links ++ link ∷ []) ≡ of_key first_hosts a q links ++ of_one q link
  more q links link = ap (map seen) (filter-append (test q) links (link ∷ [])) ∙ map-append seen (filter (test q) links) (filter (test q) (link ∷ []))

  module _ (was now : BTreeMap (List Value) (List Hosted)) (link : Link)
      (own : links_at_key now [] (host_key first_hosts link) ≡ links_at_key was [] (host_key first_hosts link) ++ seen link ∷ [])
      (others : (q : List Value) → test q link ≡ false → get (slice_cmp value_cmp) now q ≡ get (slice_cmp value_cmp) was q) where
    abbrev k : List Value
    k = host_key first_hosts link

    -- a link that is added stands at its key alone
    one_added : (q : List Value) → links_at_key now [] q ≡ links_at_key was [] q ++ of_one q link
    one_added q = by (test q link) refl
      where
        by : (b : Bool) → test q link ≡ b → links_at_key now [] q ≡ links_at_key was [] q ++ of_one q link
        by true is =
            let same : k ≡ q = (Decides-key k q).0 is in
            ap (links_at_key now []) (sym same) ∙ own ∙ ap (λ key. links_at_key was [] key ++ seen link ∷ []) same
            ∙ sym (ap (λ b. links_at_key was [] q ++ map seen (cond b (link ∷ []) [])) is)
        by false is =
            ap (λ found. unwrap_or found []) (others q is) ∙ sym (append-nil (links_at_key was [] q))
            ∙ sym (ap (λ b. links_at_key was [] q ++ map seen (cond b (link ∷ []) [])) is)

    -- so a turn of the loop adds one
    pub one_more : (old : BTreeMap (List Value) (List Hosted)) (links : List Link) (i : ℕ) → At links i link
        → ((q : List Value) → links_at_key was [] q ≡ links_at_key old [] q ++ of_key first_hosts a q (take i links))
        → (q : List Value) → links_at_key now [] q ≡ links_at_key old [] q ++ of_key first_hosts a q (take (i + 1) links)
    one_more old links i here before q =
        one_added q
        ∙ ap (λ found. found ++ of_one q link) (before q)
        ∙ append_assoc (links_at_key old [] q) (of_key first_hosts a q (take i links)) (of_one q link)
        ∙ ap (λ found. links_at_key old [] q ++ found) (sym (more q (take i links) link) ∙ sym (ap (of_key first_hosts a q) (take_item links i link here)))
