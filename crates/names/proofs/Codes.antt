-- What holds of the tables as a whole: how many bytes a name may hold, how long a name is, and that codes and names go both ways.
-- Assumes nothing.
use borrow.Author.Tests.{leb-true, ltb-true, le-leb, lt-leb, lt-ltb}
use mathlib.Core.Path.{◌≡◌, refl, sym, ap, ◌∙◌}
use mathlib.Core.Bool.{Bool, true, false}
use mathlib.Core.List.{List, [], ◌∷◌, map}
use Prim.Native.Nat.{ℕ, zero, suc, ◌+◌, ◌-◌, ◌%◌, ◌≤◌, ◌<◌}
use native.Mathlib.Nat.{le_of_suc-le-suc, not-suc-le-zero}
use native.Mathlib.Omega.{arith}
use lib.Dec.{leb, ltb, lit≤}
use lib.ListN.{length, get_or}
use Rattle.wire.specs.Pick.{pick, both, between, all, any}
use Rattle.wire.specs.Refusal.{none, name_wrong}
use Rattle.wire.specs.Field.{barred, holds_barred}
use Rattle.packet.specs.declared.Direction.{Direction}
use Rattle.wire.proofs.Tests.{both_first, both_second}
use Rattle.wire.specs.Bits.{bit}
use Rattle.names.specs.declared.NameList.{NameList}
use Rattle.std.specs.Prelude.{Option, Some, None}
use Rattle.names.specs.Token.{token_byte, is_token}
use Rattle.names.specs.Attribute.{attribute_kind, is_served}
use Rattle.names.specs.Header.{header_names, is_found, unlisted_fault, spelled_fault}
use Rattle.names.specs.Method.{head_method}
use Rattle.names.specs.Names.{ascii, method_names, request_names, response_names, attribute_names, names_in, first_code, ignores_case, is_listed, name_for, letter, same_name, code_from, code_in}
use Rattle.names.specs.Row.{name_room, padded, name_bytes}
use Rattle.names.specs.Private.{has_all, alphabet_place}
use Rattle.names.proofs.Rule.{values, agree}
use Rattle.names.proofs.Rows.{all_short, name_room_lem}
use Rattle.names.proofs.Laws.{bytes_padded, same_length, same_first, name_from}

-- how many tests hold
abbrev pub how_many : List Bool → ℕ
how_many [] = 0
how_many (t ∷ ts) = pick t (suc (how_many ts)) (how_many ts)

-- exactly 77 of the 256 byte values are token bytes
pub token_count : how_many (values token_byte 0 256) ≡ 77
unfolding token_byte
token_count = refl

-- no token byte is barred from strings: antt looks at all 256
token_byte_clear : (b : ℕ) → b < 256 → token_byte b ≡ true → barred b ≡ false
unfolding token_byte
token_byte_clear b h e = ap (λ (t : Bool). both t (barred b)) (sym e) ∙ agree (λ (k : ℕ). both (token_byte k) (barred k)) (λ (k : ℕ). false) false 256 refl b h

-- so a token holds no barred byte
pub token_clear : (text : List ℕ) → ((i : ℕ) → get_or text i 0 < 256) → is_token text ≡ true → holds_barred text ≡ false
unfolding all any
token_clear [] bytes e = refl
token_clear (b ∷ text) bytes e =
    rw (token_byte_clear b (bytes 0) (both_first (token_byte b) (is_token text) e))
    (token_clear text (λ i. bytes (suc i)) (both_second (token_byte b) (is_token text) e))

-- and neither does a spelled name that has no fault
pub spelled_clear : (d : Direction) (text : List ℕ) → ((i : ℕ) → get_or text i 0 < 256) → spelled_fault d text ≡ none → holds_barred text ≡ false
unfolding spelled_fault
spelled_clear d text bytes e = go (is_token text) refl e
  where
    go : (t : Bool) → is_token text ≡ t
        → pick t (pick (is_found (code_in (header_names d) text)) name_wrong (unlisted_fault d text)) name_wrong ≡ none → holds_barred text ≡ false
    go true h e = token_clear text bytes h
    go false h e = absurd (omega arith)

-- no name for a code is longer than its room, and what is handed out has the name's bytes and no other
pub name_length : (list : NameList) (n : ℕ)
    → (length (name_for list n) ≤ name_room) × (name_bytes (padded (name_for list n)) ≡ name_for list n)
unfolding name_for
name_length list n = (go (leb (first_code list) n), bytes_padded (name_for list n))
  where
    go : (t : Bool) → length (pick t (get_or (names_in list) (n - first_code list) []) []) ≤ name_room
    go true = name_room_lem list (n - first_code list)
    go false = lit≤ tt

-- where a listed code lies
listed_within : (list : NameList) (n : ℕ)
    → is_listed list n ≡ true → (first_code list ≤ n) × (n < first_code list + length (names_in list))
unfolding is_listed
listed_within list n h =
    let first = leb (first_code list) n in
    let last = ltb n (first_code list + length (names_in list)) in
    (leb-true _ _ (both_first first last h), ltb-true _ _ (both_second first last h))

-- the code that a list's name at a place is found to have, and the one that it has
abbrev found : NameList → ℕ → Option ℕ
found list k = code_in list (get_or (names_in list) k [])

abbrev due : NameList → ℕ → Option ℕ
due list k = Some (first_code list + k)

-- a list's names are found at their own places: antt looks each of them up
at_place : (list : NameList) (k : ℕ) → k < length (names_in list) → found list k ≡ due list k
unfolding method_names request_names response_names attribute_names letter same_name code_from code_in
at_place list k h = agree (found list) (due list) None (length (names_in list)) (looked_up list) k h
  where
    looked_up : (list : NameList) → values (found list) 0 (length (names_in list)) ≡ values (due list) 0 (length (names_in list))
    looked_up NameList.Methods = refl
    looked_up NameList.RequestHeaders = refl
    looked_up NameList.ResponseHeaders = refl
    looked_up NameList.Attributes = refl

-- the name for a listed code has that code
pub round_trip : (list : NameList) (n : ℕ) → is_listed list n ≡ true → code_in list (name_for list n) ≡ Some n
round_trip list n h =
    let w = listed_within list n h in
    let e : first_code list + (n - first_code list) ≡ n = omega arith in
    ap (code_in list) (name_from list n (first_code list) refl w.0)
    ∙ at_place list (n - first_code list) (omega arith)
    ∙ ap Some e

-- the code that is taken for HEAD has that name in the list, and looking that name up gives this code
pub head_named : (name_for NameList.Methods head_method ≡ ascii "HEAD") × (code_in NameList.Methods (ascii "HEAD") ≡ Some head_method)
unfolding method_names name_for letter same_name code_from code_in
head_named = (refl, refl)

-- a code that is found is at a place of the names
found_within : (ignoring : Bool) (first : ℕ) (names : List (List ℕ)) (text : List ℕ) (n : ℕ)
    → code_from ignoring first names text ≡ Some n
    → (first ≤ n) × (n < first + length names)
unfolding code_from
found_within ignoring first [] text n e = let z : ◌≡◌ {A = ℕ} 0 1 = cc in absurd (omega arith)
found_within ignoring first (name ∷ names) text n e =
    go (same_name ignoring name text) e (found_within ignoring (first + 1) names text n)
  where
    go : (t : Bool) → pick t (Some first) (code_from ignoring (first + 1) names text) ≡ Some n
        → (code_from ignoring (first + 1) names text ≡ Some n → (first + 1 ≤ n) × (n < first + 1 + length names))
        → (first ≤ n) × (n < first + suc (length names))
    go true e ih = let q : first ≡ n = cc in omega arith
    go false e ih = omega (arith, ih e)

-- a code that is found is listed
pub found_listed : (list : NameList) (text : List ℕ) (n : ℕ) → code_in list text ≡ Some n → is_listed list n ≡ true
unfolding is_listed code_in
found_listed list text n e =
    let w = found_within _ _ _ text n e in
    rw (le-leb (first_code list) n w.0, lt-ltb n (first_code list + length (names_in list)) w.1)

-- the name at a found code's place is the one that the text spells
found_name : (ignoring : Bool) (first : ℕ) (names : List (List ℕ)) (text : List ℕ) (n : ℕ)
    → code_from ignoring first names text ≡ Some n → same_name ignoring (get_or names (n - first) []) text ≡ true
unfolding code_from
found_name ignoring first [] text n e = let z : ◌≡◌ {A = ℕ} 0 1 = cc in absurd (omega arith)
found_name ignoring first (name ∷ names) text n e =
    go (same_name ignoring name text) refl e (found_name ignoring (first + 1) names text n) (found_within ignoring (first + 1) names text n)
  where
    go : (t : Bool) → same_name ignoring name text ≡ t
        → pick t (Some first) (code_from ignoring (first + 1) names text) ≡ Some n
        → (code_from ignoring (first + 1) names text ≡ Some n → same_name ignoring (get_or names (n - (first + 1)) []) text ≡ true)
        → (code_from ignoring (first + 1) names text ≡ Some n → (first + 1 ≤ n) × (n < first + 1 + length names))
        → same_name ignoring (get_or (name ∷ names) (n - first) []) text ≡ true
    go true s e ih w = let q : n - first ≡ 0 = let p : first ≡ n = cc in omega arith in rw q s
    go false s e ih w = let q : n - first ≡ suc (n - (first + 1)) = omega (arith, w e) in rw q (ih e)

-- a text spells the name for the code that it is found to have
pub found_spelled : (list : NameList) (text : List ℕ) (n : ℕ) → code_in list text ≡ Some n
    → same_name (ignores_case list) (name_for list n) text ≡ true
unfolding code_in
found_spelled list text n e =
    let w = found_within (ignores_case list) (first_code list) (names_in list) text n e in
    ap (λ (name : List ℕ). same_name (ignores_case list) name text) (name_from list n (first_code list) refl w.0)
    ∙ found_name (ignores_case list) (first_code list) (names_in list) text n e

-- where a test holds of a number of every name, it holds of that of the name at a place
at_all : (p : ℕ → Bool) (f : List ℕ → ℕ) (names : List (List ℕ)) (k : ℕ) → k < length names → all p (map f names) ≡ true
    → p (f (get_or names k [])) ≡ true
unfolding all
at_all p f [] k h e = absurd (not-suc-le-zero h)
at_all p f (name ∷ names) zero h e = both_first (p (f name)) _ e
at_all p f (name ∷ names) (suc k) h e = at_all p f names k (le_of_suc-le-suc h) (both_second (p (f name)) _ e)

-- A text is not listed where a test holds of a number of every name and not of the text's, if a text that spells a name has its number.
told_apart : (list : NameList) (text : List ℕ) (p : ℕ → Bool) (f : List ℕ → ℕ)
    → ((name : List ℕ) → (f name ≡ f text → ⊥) → same_name (ignores_case list) name text ≡ false)
    → all p (map f (names_in list)) ≡ true → p (f text) ≡ false → code_in list text ≡ None
unfolding code_in
told_apart list text p f differ all_have not_this = go (code_in list text) refl
  where
    go : (r : Option ℕ) → code_in list text ≡ r → r ≡ None
    go None e = refl
    go (Some n) e =
        let w = found_within (ignores_case list) (first_code list) (names_in list) text n e in
        let name : List ℕ = get_or (names_in list) (n - first_code list) [] in
        let same : same_name (ignores_case list) name text ≡ true = found_name (ignores_case list) (first_code list) (names_in list) text n e in
        let has : p (f name) ≡ true = at_all p f (names_in list) (n - first_code list) (omega arith) all_have in
        let other : same_name (ignores_case list) name text ≡ false =
        differ name (λ q. let z : ◌≡◌ {A = ℕ} 0 1 = cc in omega arith) in
        let z : ◌≡◌ {A = ℕ} 0 1 = cc in
        absurd (omega arith)

-- a letter's place in the alphabet is that of the letter as it is compared
letter_place : (ignoring : Bool) (b : ℕ) → letter ignoring b % 32 ≡ b % 32
unfolding letter
letter_place ignoring b = go (both ignoring (between 65 90 b))
  where
    go : (t : Bool) → pick t (b + 32) b % 32 ≡ b % 32
    go true = omega arith
    go false = refl

-- a text that is told from every listed name: it is longer, has another length, or another first letter
module _ (list : NameList) (text : List ℕ) where
  pub unlisted_long : name_room < length text → code_in list text ≡ None
  unlisted_long h =
      told_apart list text (λ (n : ℕ). leb n name_room) length (λ name. same_length (ignores_case list) name text) (all_short list)
      (lt-leb (length text) name_room h)

  pub unlisted_length : (set : ℕ) → has_all set (map length (names_in list)) ≡ true → bit set (length text) ≡ false
      → code_in list text ≡ None
  unlisted_length set has not_this =
      told_apart list text (bit set) length (λ name. same_length (ignores_case list) name text) has not_this

  pub unlisted_letter : (set : ℕ) → has_all set (map alphabet_place (names_in list)) ≡ true → bit set (alphabet_place text) ≡ false
      → code_in list text ≡ None
  unlisted_letter set has not_this =
      told_apart list text (bit set) alphabet_place
      (λ name d. same_first (ignores_case list) name text
      (λ q. d (sym (letter_place (ignores_case list) (get_or name 0 0))
      ∙ ap (λ (b : ℕ). b % 32) q
      ∙ letter_place (ignores_case list) (get_or text 0 0))))
      has not_this

-- the attribute codes that are served are those that have a name
pub served_listed : (n : ℕ) → n < 256 → is_served (attribute_kind n) ≡ is_listed NameList.Attributes n
unfolding attribute_kind is_listed attribute_names
served_listed n h = agree (λ (k : ℕ). is_served (attribute_kind k)) (is_listed NameList.Attributes) false 256 refl n h
