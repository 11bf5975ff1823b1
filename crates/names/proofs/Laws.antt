-- Laws of the names: what it is to spell one, and where it stands in its list.
-- Assumes nothing.
use borrow.Author.Tests.{le-leb, lt-leb, lt-ltb, le-ltb, ltb-true, ltb-false, ne_eqb}
use mathlib.Core.Path.{◌≡◌, refl, ap}
use mathlib.Core.Bool.{Bool, true, false}
use mathlib.Core.List.{List, [], ◌∷◌}
use Prim.Native.Nat.{ℕ, suc, ◌+◌, ◌-◌, ◌≤◌, ◌<◌}
use native.Mathlib.Omega.{arith}
use lib.Dec.{ltb, eqb, lit<}
use lib.ListN.{length, get_or, replicate}
use lib.Seq.{take-append_seam}
use Rattle.wire.specs.Pick.{both}
use Rattle.names.specs.declared.NameList.{NameList}
use Rattle.names.specs.Names.{method_names, request_names, response_names, attribute_names, names_in, first_code, is_listed, name_for, letter, same_name}
use Rattle.names.specs.Row.{name_room, row_of, padded, name_bytes}
use Rattle.names.specs.Private.{first_of}

-- the bytes of a name that is handed out are the name's
pub bytes_padded : (name : List ℕ) → name_bytes (padded name) ≡ name
bytes_padded name = take-append_seam name (replicate (name_room - length name) 0)

-- a name that is handed out, from its row and its length
pub as_padded : (name bytes : List ℕ) (n : ℕ) → bytes ≡ row_of name → n ≡ length name → record { bytes = bytes; len = n } ≡ padded name
as_padded name bytes n p q = rw (p, q)

-- a name and a text that differ in length
pub same_length : (ignoring : Bool) (a b : List ℕ) → (length a ≡ length b → ⊥) → same_name ignoring a b ≡ false
unfolding same_name
same_length ignoring [] [] h = absurd (h refl)
same_length ignoring [] (y ∷ b) h = refl
same_length ignoring (x ∷ a) [] h = refl
same_length ignoring (x ∷ a) (y ∷ b) h =
    rw (same_length ignoring a b (λ e. h (ap suc e))) (both_false (eqb (letter ignoring x) (letter ignoring y)))
  where
    both_false : (t : Bool) → both t false ≡ false
    both_false true = refl
    both_false false = refl

-- a name and a text that differ in their first letter
pub same_first : (ignoring : Bool) (a b : List ℕ) → (first_of ignoring a ≡ first_of ignoring b → ⊥) → same_name ignoring a b ≡ false
unfolding same_name
same_first ignoring [] [] h = absurd (h refl)
same_first ignoring [] (y ∷ b) h = refl
same_first ignoring (x ∷ a) [] h = refl
same_first ignoring (x ∷ a) (y ∷ b) h = rw (ne_eqb (letter ignoring x) (letter ignoring y) h)

-- every code fits two bytes
pub code_room : (list : NameList) → first_code list + length (names_in list) < 65536
unfolding method_names request_names response_names attribute_names
code_room NameList.Methods = lit< tt
code_room NameList.RequestHeaders = lit< tt
code_room NameList.ResponseHeaders = lit< tt
code_room NameList.Attributes = lit< tt

-- a bound that is a sum, as a bound of the difference
ltb_shift : (n a b : ℕ) → a ≤ n → ltb n (a + b) ≡ ltb (n - a) b
ltb_shift n a b h = go (ltb (n - a) b) refl
  where
    go : (t : Bool) → ltb (n - a) b ≡ t → ltb n (a + b) ≡ t
    go true e = lt-ltb n (a + b) (omega (arith, ltb-true))
    go false e = le-ltb n (a + b) (omega (arith, ltb-false))

-- a code below a list's first, and a code from it on at its distance from the first
module _ (list : NameList) (n : ℕ) where
  pub listed_below : n < first_code list → is_listed list n ≡ false
  unfolding is_listed
  listed_below h = rw (lt-leb (first_code list) n h)

  pub name_below : n < first_code list → name_for list n ≡ []
  unfolding name_for
  name_below h = rw (lt-leb (first_code list) n h)

  module _ (first : ℕ) (is : first ≡ first_code list) (h : first ≤ n) where
    pub listed_from : is_listed list n ≡ ltb (n - first) (length (names_in list))
    unfolding is_listed
    listed_from = rw (← is, le-leb first n h) (ltb_shift n first (length (names_in list)) h)

    pub name_from : name_for list n ≡ get_or (names_in list) (n - first) []
    unfolding name_for
    name_from = rw (← is, le-leb first n h)
