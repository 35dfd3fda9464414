-- Items that are left to be looked at, where those before are clean.
use Rattle.std.proofs.Common.{◌≡◌, List, [], ◌∷◌, All, Contains, sym, subst}
use Rattle.std.proofs.lemmas.List.Elements.{All-cons, All-contains_itself, All-head, All-nil, All-tail}

module _ {X : Type 0} (Clean : X → Type 0) where
  -- what is left is of the list, and where it is clean all is
  pub record AreLeft (all left : List X) : Type 0 where
    pub among : All (Contains all) left
    pub clean : All Clean left → All Clean all

  -- first all are
  pub left_all : (all : List X) → AreLeft all all
  left_all all = record { among = All-contains_itself all; clean = λ clean. clean }

  -- the next is one of the list
  pub left_head : (all left rest : List X) (x : X) → AreLeft all left → left ≡ x ∷ rest → Contains all x
  left_head all left rest x are is = All-head (Contains all) x rest (subst (All (Contains all)) is are.among)

  -- where it is clean, the others are left
  pub left_rest : (all left rest : List X) (x : X) → AreLeft all left → left ≡ x ∷ rest → Clean x → AreLeft all rest
  left_rest all left rest x are is head = record {
    among = All-tail (Contains all) x rest (subst (All (Contains all)) is are.among);
    clean = λ clean. are.clean (subst (All Clean) (sym is) (All-cons Clean x rest head clean));
  }

  -- where nothing is left, all are clean
  pub left_none : (all left : List X) → AreLeft all left → left ≡ [] → All Clean all
  left_none all left are none = are.clean (subst (All Clean) (sym none) (All-nil Clean))
