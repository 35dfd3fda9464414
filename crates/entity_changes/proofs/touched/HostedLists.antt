-- The links that an entity hosts, as a link comes or goes that it doesn't host.
use Rattle.std.proofs.Common.{◌≡◌, ◌≢◌, ◌==◌, ⊎_elim, ℕ, List, [], ◌∷◌, ◌++◌, append-nil, map, filter, slice_get, flat_map, Contains, Option, None, Some, unwrap_or, Bool, true, false, not, cond, if◌then◌else◌, refl, sym, ap, subst, ◌∙◌}
use Rattle.std.specs.Cmp.Lexicographic.{slice_cmp}
use Rattle.std.specs.List.{enumerate_from}
use Rattle.std.specs.Ordering.{eq_by_cmp}
use Rattle.std.proofs.lemmas.Bool.{cases_eq}
use Rattle.std.proofs.lemmas.Bool.Decides.{Decides-eqb}
use Rattle.std.proofs.lemmas.List.Elements.{filter-append}
use Rattle.emc_base.specs.Lists.{At}
use Rattle.emc_base.specs.Order.{value_cmp}
use Rattle.emc_base.proofs.Members.{contains_head, contains_tail}
use Rattle.emc_base.proofs.Numbered.{enumerated_at}
use Rattle.round_trip.specs.Words.{SetId, AssocId, LinkFragId, Value, EntityModel, Assoc, Link, State, links_in}
use Rattle.schema_laws.proofs.state_demand.writings.Selecting.{Decides-key}
use Rattle.table_owners.specs.declared.places.LinkPlace.{LinkPlace}
use Rattle.table_owners.specs.declared.places.LinkPlace.TheVariants as place
use Rattle.cells.specs.declared.cells.Cells.{Cells}
use Rattle.cells.specs.HostedLinks.{host_key, host_set, hosted_at, hosted_by, hosted_links, of_key, partner_key}
use Rattle.entity_changes.specs.Changes.{same_link}
use Rattle.entity_changes.specs.Touching.{Hosts}
use Rattle.entity_changes.proofs.Afterwards.{same_set}
use Rattle.entity_changes.proofs.Pushes.{false_from}
use Rattle.entity_changes.proofs.SpotOrder.{Decides-link}

module _ {X Y : Type 0} where
  -- lists that are the same of each item are the same of all
  flat_map_same : (f g : X → List Y) (xs : List X) → ((x : X) → Contains xs x → f x ≡ g x) → flat_map f xs ≡ flat_map g xs
  flat_map_same f g [] same = refl
  flat_map_same f g (x ∷ xs) same = λ i. same x (contains_head x xs) i ++ flat_map_same f g xs (λ y has. same y (contains_tail x xs y has)) i

module _ {X : Type 0} (p q : X → Bool) (implied : (x : X) → p x ≡ true → q x ≡ true) where
  one_less : (b d : Bool) (x : X) (kept : List X) → (b ≡ true → d ≡ true) → p x ≡ b → filter p (cond d (x ∷ kept) kept) ≡ cond b (x ∷ filter p kept) (filter p kept)
  one_less true true x kept both is = ap (λ b. cond b (x ∷ filter p kept) (filter p kept)) is
  one_less true false x kept both is = let no : false ≡ true = both refl in cc
  one_less false true x kept both is = ap (λ b. cond b (x ∷ filter p kept) (filter p kept)) is
  one_less false false x kept both is = refl

  -- where nothing goes that passes a test, the same items pass it
  pub filter_less : (xs : List X) → filter p (filter q xs) ≡ filter p xs
  filter_less [] = refl
  filter_less (x ∷ xs) = one_less (p x) (q x) x (filter q xs) (implied x) refl ∙ ap (λ kept. cond (p x) (x ∷ kept) kept) (filter_less xs)

module _ (first_hosts : Bool) (b : AssocId) (key : List Value) (xs : List Link) (link : Link) (not_host : host_key first_hosts link ≢ key) where
  test : Link → Bool
  test one = eq_by_cmp (slice_cmp value_cmp) (host_key first_hosts one) key

  fails : test link ≡ false
  unfolding test
  fails = false_from (eq_by_cmp (slice_cmp value_cmp) (host_key first_hosts link) key) (λ told. not_host ((Decides-key (host_key first_hosts link) key).0 told))

  -- a link of another host comes
  pub key_pushed : of_key first_hosts b key (xs ++ link ∷ []) ≡ of_key first_hosts b key xs
  unfolding test
  key_pushed = ap (map (λ one. record { assoc = b; partner = partner_key first_hosts one }))
      (filter-append test xs (link ∷ []) ∙ ap (λ b. filter test xs ++ cond b (link ∷ []) []) fails ∙ append-nil (filter test xs))

  -- or goes
  pub key_left : of_key first_hosts b key (filter (λ other. not (same_link other link)) xs) ≡ of_key first_hosts b key xs
  unfolding test
  key_left = ap (map (λ one. record { assoc = b; partner = partner_key first_hosts one }))
      (filter_less test (λ other. not (same_link other link))
      (λ other told. ap not (false_from (same_link other link)
      (λ same. not_host (ap (host_key first_hosts) (sym ((Decides-link other link).0 same)) ∙ (Decides-key (host_key first_hosts other) key).0 told)))) xs)

module _ (model : EntityModel) (cells : Cells) (old new : State) (a : AssocId) (s : SetId) (key : List Value) (link : Link)
    (untouched : ¬ Hosts model cells a link s key)
    (others : (b : AssocId) → b.index ≢ a.index → links_in new b ≡ links_in old b)
    (own : (first_hosts : Bool) → host_key first_hosts link ≢ key → of_key first_hosts a key (links_in new a) ≡ of_key first_hosts a key (links_in old a)) where
  -- a change of a link leaves what entities host that don't host it
  pub hosted_same : hosted_links model cells old s key ≡ hosted_links model cells new s key
  hosted_same = flat_map_same (hosted_by cells old s key) (hosted_by cells new s key) (enumerate_from 0 model.assocs)
      (λ entry has. one entry.0 entry.1 (enumerated_at model.assocs entry has))
    where
      here : (assoc : Assoc) → At model.assocs a.index assoc → hosted_by cells old s key (a.index, assoc) ≡ hosted_by cells new s key (a.index, assoc)
      here assoc at = by (slice_get cells.places a.index) refl
        where
          hosted : (first_hosts : Bool) (number : LinkFragId) → slice_get cells.places a.index ≡ Some (place.Hosted first_hosts number)
              → (b : Bool) → ((host_set first_hosts assoc).index == s.index) ≡ b
              → (if b then of_key first_hosts a key (links_in old a) else []) ≡ (if b then of_key first_hosts a key (links_in new a) else [])
          hosted first_hosts number is true told = sym (own first_hosts (λ same. untouched (record {
            assoc = assoc;
            is_assoc = at;
            first_hosts = first_hosts;
            number = number;
            place_is = is;
            set_is = same_set (host_set first_hosts assoc) s ((Decides-eqb (host_set first_hosts assoc).index s.index).0 told);
            key_is = same;
          })))
          hosted first_hosts number is false told = refl

          by : (found : Option LinkPlace) → slice_get cells.places a.index ≡ found
              → hosted_at (unwrap_or found place.Unmapped) a assoc s key (links_in old a) ≡ hosted_at (unwrap_or found place.Unmapped) a assoc s key (links_in new a)
          by None is = refl
          by (Some (place.Joined number)) is = refl
          by (Some place.Unmapped) is = refl
          by (Some place.Constraint) is = refl
          by (Some (place.Hosted first_hosts number)) is = hosted first_hosts number is ((host_set first_hosts assoc).index == s.index) refl

      one : (i : ℕ) (assoc : Assoc) → At model.assocs i assoc → hosted_by cells old s key (i, assoc) ≡ hosted_by cells new s key (i, assoc)
      one i assoc at = ⊎_elim
          (λ (same : i ≡ a.index).
          let P : ℕ → Type 0 = λ n. hosted_by cells old s key (n, assoc) ≡ hosted_by cells new s key (n, assoc) in
          subst P (sym same) (here assoc (subst (λ n. At model.assocs n assoc) same at)))
          (λ (apart : i ≢ a.index).
          ap (hosted_at (unwrap_or (slice_get cells.places i) place.Unmapped) (record { index = i }) assoc s key) (sym (others (record { index = i }) apart)))
          (cases_eq i a.index)
