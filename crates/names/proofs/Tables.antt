-- The tables of names: what it is to compare a text with a name, and where the first name stands that a text spells.
-- Assumes nothing.
use borrow.Author.Tests.{ltb-true, eq-eqb}
use borrow.Author.Rules.{rules}
use mathlib.Core.Path.{◌≡◌, refl, sym, ap, ◌∙◌}
use mathlib.Core.Bool.{Bool, true, false, not}
use mathlib.Core.List.{List, [], ◌∷◌, map}
use Prim.Native.Nat.{ℕ, suc, ◌+◌, ◌-◌, ◌≤◌, ◌<◌}
use native.Mathlib.Nat.{add-zero}
use native.Mathlib.Omega.{arith}
use lib.Dec.{ltb, eqb}
use lib.ListN.{length, get_or, get_or-eq_default}
use denote.Ref.{Bor}
use Rattle.std.proofs.Common.{cond, Some, None}
use Rattle.std.specs.Bool.{IsTrue}
use Rattle.std.specs.Prelude.{◌↔◌, Some, None}
use Rattle.std.specs.Char.{to_ascii_lowercase}
use Rattle.std.specs.Str.{bytes_eq}
use Rattle.std.specs.Cmp.Lexicographic.{pointwise}
use Rattle.std.specs.List.{position, position_or_len}
use Rattle.std.proofs.lemmas.List.{length-map, get_or-map}
use Rattle.std.proofs.lemmas.Bool.Decides.{nat_tests, same_from_decides}
use Rattle.std.proofs.lemmas.Slice.Eq.{bytes_eq-Decides}
use Rattle.wire.specs.Pick.{pick}
use Rattle.names.proofs.Laws.{name_from, code_room}
use Rattle.names.specs.declared.NameList.{NameList}
use Rattle.names.specs.Names.{names_in, first_code, ignores_case, name_for, letter, same_name, code_from, code_in}

-- where case is ignored, a letter is compared as the small one
letter_small : (b : ℕ) → letter true b ≡ to_ascii_lowercase b
unfolding letter
letter_small b = grind (arith, nat_tests)

-- names are compared as they stand, byte by byte
pub same_exact : (a b : List ℕ) → same_name false a b ≡ pointwise eqb a b
unfolding same_name letter
same_exact [] [] = refl
same_exact [] (y ∷ b) = refl
same_exact (x ∷ a) [] = refl
same_exact (x ∷ a) (y ∷ b) = rw (same_exact a b)

-- or in small letters
same_small : (a b : List ℕ) → same_name true a b ≡ bytes_eq (map to_ascii_lowercase a) (map to_ascii_lowercase b)
unfolding same_name
same_small [] [] = refl
same_small [] (y ∷ b) = refl
same_small (x ∷ a) [] = refl
same_small (x ∷ a) (y ∷ b) = rw (letter_small x, letter_small y, same_small a b)

-- so the library's comparison without case is that of a name and a text
pub same_ignoring : (a b : List ℕ) (r : Bool) → (IsTrue r ↔ (map to_ascii_lowercase a ≡ map to_ascii_lowercase b)) → r ≡ same_name true a b
same_ignoring a b r h =
    same_from_decides r _ (search rules) (bytes_eq-Decides (map to_ascii_lowercase a) (map to_ascii_lowercase b)) ∙ sym (same_small a b)

-- whether a text spells a name of a table
abbrev pub is_spelled : Bool → List ℕ → Bor (List ℕ) → Bool
is_spelled ignoring text name = same_name ignoring name.now text

-- a name is the same as itself
same_itself : (ignoring : Bool) (a : List ℕ) → same_name ignoring a a ≡ true
unfolding same_name
same_itself ignoring [] = refl
same_itself ignoring (x ∷ a) = rw (eq-eqb (letter ignoring x) (letter ignoring x) refl, same_itself ignoring a)

-- and so is a text with the same bytes
pub same_bytes : (ignoring : Bool) (a b : List ℕ) (r : Bool) → r ≡ pointwise eqb a b → r ≡ true → r ≡ same_name ignoring a b
same_bytes ignoring a b r e h =
    let q : a ≡ b = (bytes_eq-Decides a b).0 (sym e ∙ h) in
    h ∙ sym (rw (← q) (same_itself ignoring a))

-- the names of a table
abbrev pub texts : List (Bor (List ℕ)) → List (List ℕ)
texts names = map (λ (name : Bor (List ℕ)). name.now) names

-- a list has as many names as its table
pub count : (list : NameList) (names : List (Bor (List ℕ))) → texts names ≡ names_in list → length names ≡ length (names_in list)
count list names all = sym (length-map names (λ (name : Bor (List ℕ)). name.now)) ∙ ap length all

-- there is a first place where there is a name
starts : (n : ℕ) → ltb 0 (suc n) ≡ true
starts n = grind (arith, nat_tests)

-- a place and a number of names, each one more
later : (k n : ℕ) → ltb (1 + k) (suc n) ≡ ltb k n
later k n = grind (arith, nat_tests)

-- the code of the first name that a text spells, by its place
place_code : (ignoring : Bool) (text : List ℕ) (first : ℕ) (names : List (Bor (List ℕ)))
    → code_from ignoring first (texts names) text
    ≡ cond (ltb (position_or_len (is_spelled ignoring text) names) (length names))
    (Some (first + position_or_len (is_spelled ignoring text) names)) None
unfolding code_from
place_code ignoring text first [] = refl
place_code ignoring text first (name ∷ names) =
    go (same_name ignoring name.now text) (position_or_len (is_spelled ignoring text) names) (place_code ignoring text (first + 1) names)
  where
    go : (t : Bool) (k : ℕ)
        → code_from ignoring (first + 1) (texts names) text ≡ cond (ltb k (length names)) (Some (first + 1 + k)) None
        → pick t (Some first) (code_from ignoring (first + 1) (texts names) text)
        ≡ cond (ltb (cond (not t) (1 + k) 0) (suc (length names))) (Some (first + cond (not t) (1 + k) 0)) None
    go true k e = rw (starts (length names), add-zero first)
    go false k e =
        let q : first + (1 + k) ≡ first + 1 + k = omega arith in
        rw (e, q, later k (length names))

-- what the place of the first name that a text spells says of its code, where the names are those of a list
module _ (list : NameList) (text : List ℕ) (ignoring : Bool) (first : ℕ) (names : List (Bor (List ℕ))) (all : texts names ≡ names_in list)
    (starts : first ≡ first_code list) (compared : ignoring ≡ ignores_case list) where
  by_place : code_in list text
      ≡ cond (ltb (position_or_len (is_spelled ignoring text) names) (length names))
      (Some (first + position_or_len (is_spelled ignoring text) names)) None
  unfolding code_in
  by_place = rw (← compared, ← starts, ← all) (place_code ignoring text first names)

  pub place_found : (k : ℕ) → Some k ≡ position (is_spelled ignoring text) names
      → (first + k < 65536) × (Some (first + k) ≡ code_in list text)
  place_found k e = go (ltb (position_or_len (is_spelled ignoring text) names) (length names)) refl e by_place
    where
      go : (t : Bool) → ltb (position_or_len (is_spelled ignoring text) names) (length names) ≡ t
          → Some k ≡ cond t (Some (position_or_len (is_spelled ignoring text) names)) None
          → code_in list text ≡ cond t (Some (first + position_or_len (is_spelled ignoring text) names)) None
          → (first + k < 65536) × (Some (first + k) ≡ code_in list text)
      go true t e f =
          let q : k ≡ position_or_len (is_spelled ignoring text) names = cc in
          (omega (arith, ltb-true _ _ t, count list names all, code_room list), rw q (sym f))
      go false t e f = absurd (cc)

  pub place_none : None ≡ position (is_spelled ignoring text) names → None ≡ code_in list text
  place_none e = go (ltb (position_or_len (is_spelled ignoring text) names) (length names)) e by_place
    where
      go : (t : Bool) → None ≡ cond t (Some (position_or_len (is_spelled ignoring text) names)) None
          → code_in list text ≡ cond t (Some (first + position_or_len (is_spelled ignoring text) names)) None
          → None ≡ code_in list text
      go true e f = absurd (cc)
      go false e f = sym f

-- the name for a code that is no less than the list's first, by its place in the table
module _ (list : NameList) (code first : ℕ) (names : List (Bor (List ℕ))) (all : texts names ≡ names_in list) (starts : first ≡ first_code list)
    (from : first ≤ code) where
  pub name_at : (k : ℕ) (name : Bor (List ℕ)) → k ≡ code - first → k < length names → name ≡ get_or names k name → name.now ≡ name_for list code
  name_at k name place h e =
      ap (λ (b : Bor (List ℕ)). b.now) e
      ∙ sym (name_from list code first starts from
      ∙ ap (λ (i : ℕ). get_or (names_in list) i []) (sym place)
      ∙ ap (λ (l : List (List ℕ)). get_or l k []) (sym all)
      ∙ get_or-map (λ (b : Bor (List ℕ)). b.now) names k name [] h)

  pub name_past : (k : ℕ) → k ≡ code - first → length names ≤ k → [] ≡ name_for list code
  name_past k place h =
      sym (name_from list code first starts from ∙ get_or-eq_default (names_in list) [] (omega (arith, count list names all)))
