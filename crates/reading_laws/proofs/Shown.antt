-- The views show what reading read: an integer, a string and a header's name at a place, in any packet; and bytes behind the packet make no
-- difference to what is shown of a field that lies in it.
-- Assumes nothing.
use mathlib.Core.Path.{◌≡◌, refl, sym, ap, subst, ◌∙◌}
use mathlib.Core.Bool.{Bool, true, false}
use mathlib.Core.List.{List, [], ◌++◌}
use Prim.Native.Nat.{ℕ, ◌+◌, ◌≤◌}
use native.Mathlib.Omega.{arith}
use borrow.Author.Tests.{le-leb, ne_eqb}
use lib.Dec.{leb, eqb}
use lib.ListN.{length, get_or, drop, length-append, length-drop, take-append-drop, get_or-append}
use lib.Seq.{take-append-le, drop-append-le}
use Rattle.wire.specs.Pick.{pick}
use Rattle.wire.specs.Bytes.{part, integer_in}
use Rattle.wire.specs.Field.{integer_at, null_length, string_at, is_optional}
use Rattle.packet.specs.declared.Direction.{Direction}
use Rattle.wire.specs.declared.StringField.{StringField}
use Rattle.wire.specs.Read.{NumberRead, StringRead}
use Rattle.wire.specs.Facts.{TextRead, NullRead}
use Rattle.wire.proofs.Field.{integer_inside, text_read, null_read}
use Rattle.names.specs.Attribute.{attribute_kind}
use Rattle.headers.specs.Headers.{name_at}
use Rattle.headers.specs.Read.{NameRead}
use Rattle.payload.proofs.Handed.{NameFine, name_fine}
use Rattle.headers.proofs.Laws.{part_none}
use Rattle.packet.specs.declared.HeaderName.{HeaderName}
use Rattle.views.specs.View.{integer_view, null_view, text_view, name_view}
use Rattle.views.proofs.Laws.{number_is, null_is, text_null, text_is, name_is}

-- an integer that was read is the number that is shown
pub integer_shown : (s : List ℕ) (at value next : ℕ) → integer_at s at ≡ NumberRead.Number value next → integer_view s at ≡ value
integer_shown s at value next e = sym (number_is s at (NumberRead.Number value next) e)

-- where two bytes are there, the number that is shown is theirs
number_there : (s : List ℕ) (at : ℕ) → at + 2 ≤ length s → integer_view s at ≡ integer_in s at
unfolding integer_view
number_there s at h = rw (le-leb (at + 2) (length s) h)

-- a string that was read as a text is shown as not null, with that text's bytes
pub text_shown_lem : (s : List ℕ) (at : ℕ) (optional : Bool) (start len next : ℕ) → string_at s at optional ≡ StringRead.Text start len next
    → (null_view s at ≡ false) × (text_view s at ≡ part s start len)
text_shown_lem s at optional start len next e =
    let r : TextRead s at optional start len next = text_read s at optional start len next e in
    let n : len ≡ integer_view s at = r.length_is ∙ sym (number_there s at (omega (arith, r.starts, r.ends, r.fits))) in
    let some : eqb len null_length ≡ false = ne_eqb len null_length r.not_null in
    (sym (null_is s at len n) ∙ some, sym (text_is s at len n some) ∙ ap (λ (k : ℕ). part s k len) (sym r.starts))

-- a string that was read as null is shown as null, with no bytes
pub null_shown : (s : List ℕ) (at : ℕ) (optional : Bool) (next : ℕ) → string_at s at optional ≡ StringRead.Null next
    → (null_view s at ≡ true) × (text_view s at ≡ [])
null_shown s at optional next e =
    let r : NullRead s at optional next = null_read s at optional next e in
    let n : null_length ≡ integer_view s at = sym r.length_is ∙ sym (number_there s at (omega (arith, r.ends, r.fits))) in
    (sym (null_is s at null_length n), sym (text_null s at null_length n refl) ∙ part_none s)

-- a name that was read as a code is shown as that code
pub code_shown : (d : Direction) (s : List ℕ) (at code next : ℕ) → name_at d s at ≡ NameRead.Code code next → name_view s at ≡ HeaderName.Code code
code_shown d s at code next e =
    let fine = subst (NameFine d s at) e (name_fine d s at) in
    let inside = integer_inside s at (NumberRead.Number code next) fine.1 in
    sym (name_is s at code true true (le-leb (at + 1) (length s) (omega (arith, inside.0, inside.1))) fine.0 (sym (integer_shown s at code next fine.1)))

-- a name that was read as a spelled one is shown as one, with its bytes
pub spelled_shown : (d : Direction) (s : List ℕ) (at start len next : ℕ) → name_at d s at ≡ NameRead.Spelled start len next
    → (name_view s at ≡ HeaderName.Spelled) × (text_view s at ≡ part s start len)
spelled_shown d s at start len next e =
    let fine = subst (NameFine d s at) e (name_fine d s at) in
    let r : TextRead s at (is_optional StringField.HeaderName) start len next = text_read s at (is_optional StringField.HeaderName) start len next fine.1 in (
      sym (name_is s at (integer_view s at) true false (le-leb (at + 1) (length s) (omega (arith, r.starts, r.ends, r.fits))) fine.0 refl),
      (text_shown_lem s at (is_optional StringField.HeaderName) start len next fine.1).1,
    )

-- a part that lies in the first of two lists is a part of both together
part_more : (s rest : List ℕ) (start len : ℕ) → start + len ≤ length s → part (s ++ rest) start len ≡ part s start len
unfolding part
part_more s rest start len h =
    rw (drop-append-le start s rest (omega arith)) (take-append-le len (drop start s) rest (rw (length-drop start s) (omega arith)))

-- bytes behind a packet: a field whose first two bytes are in the packet is shown the same with them
module _ (s rest : List ℕ) (at : ℕ) (there : at + 2 ≤ length s) where
  -- the number
  pub number_more : integer_view (s ++ rest) at ≡ integer_view s at
  unfolding integer_in
  number_more =
      let same : integer_in (s ++ rest) at ≡ integer_in s at =
      rw (get_or-append s rest 0 at (omega arith), get_or-append s rest 0 (at + 1) (omega arith)) in
      number_there (s ++ rest) at (omega (arith, length-append s rest)) ∙ same ∙ sym (number_there s at there)

  -- whether a string is null
  pub null_more : null_view (s ++ rest) at ≡ null_view s at
  null_more = sym (null_is (s ++ rest) at (integer_view s at) (sym number_more)) ∙ null_is s at (integer_view s at) refl

  -- a string's bytes, where it is null or they are in the packet too
  pub text_more : (null_view s at ≡ false → at + 2 + integer_view s at ≤ length s) → text_view (s ++ rest) at ≡ text_view s at
  unfolding text_view
  text_more h = rw (null_more, number_more) (go (null_view s at) refl)
    where
      go : (t : Bool) → null_view s at ≡ t → pick t [] (part (s ++ rest) (at + 2) (integer_view s at)) ≡ pick t [] (part s (at + 2) (integer_view s at))
      go true e = refl
      go false e = part_more s rest (at + 2) (integer_view s at) (h e)

  -- a header's name
  pub name_more : name_view (s ++ rest) at ≡ name_view s at
  unfolding name_view
  name_more =
      let p : leb (at + 1) (length (s ++ rest)) ≡ true = le-leb (at + 1) (length (s ++ rest)) (omega (arith, length-append s rest)) in
      let q : leb (at + 1) (length s) ≡ true = le-leb (at + 1) (length s) (omega arith) in
      rw (p, q, get_or-append s rest 0 at (omega arith), number_more)

-- bytes of which the packet is the first n are the packet and more behind it
pub lent_is : (s : List ℕ) (n : ℕ) → part s 0 n ++ drop n s ≡ s
unfolding part
lent_is s n = take-append-drop n s

-- so they show a string of the packet with its own bytes
pub text_lent : (s : List ℕ) (n at : ℕ) (optional : Bool) (start len next : ℕ) → string_at (part s 0 n) at optional ≡ StringRead.Text start len next
    → text_view s at ≡ part (part s 0 n) start len
text_lent s n at optional start len next e =
    let packet : List ℕ = part s 0 n in
    let r : TextRead packet at optional start len next = text_read packet at optional start len next e in
    let there : at + 2 ≤ length packet = omega (arith, r.starts, r.ends, r.fits) in
    let size : integer_view packet at ≡ len = number_there packet at there ∙ sym r.length_is in
    let fits : at + 2 + integer_view packet at ≤ length packet = omega (arith, r.starts, r.ends, r.fits) in
    ap (λ (l : List ℕ). text_view l at) (sym (lent_is s n)) ∙ text_more packet (drop n s) at there (λ _. fits)
    ∙ (text_shown_lem packet at optional start len next e).1

module _ (s : List ℕ) (n at : ℕ) (there : at + 2 ≤ length (part s 0 n)) where
  -- and they show an integer, null and a header's name as the packet does
  pub number_lent : integer_view s at ≡ integer_view (part s 0 n) at
  number_lent = ap (λ (l : List ℕ). integer_view l at) (sym (lent_is s n)) ∙ number_more (part s 0 n) (drop n s) at there

  pub null_lent : null_view s at ≡ null_view (part s 0 n) at
  null_lent = ap (λ (l : List ℕ). null_view l at) (sym (lent_is s n)) ∙ null_more (part s 0 n) (drop n s) at there

  pub name_lent : name_view s at ≡ name_view (part s 0 n) at
  name_lent = ap (λ (l : List ℕ). name_view l at) (sym (lent_is s n)) ∙ name_more (part s 0 n) (drop n s) at there

-- and an attribute's code, and by it the kind of its value
module _ (s : List ℕ) (n at : ℕ) (there : at + 1 ≤ length (part s 0 n)) where
  pub attribute_code_lent : get_or s at 0 ≡ get_or (part s 0 n) at 0
  attribute_code_lent = ap (λ (l : List ℕ). get_or l at 0) (sym (lent_is s n)) ∙ get_or-append (part s 0 n) (drop n s) 0 at (omega arith)

  pub attribute_kind_lent : attribute_kind (get_or s at 0) ≡ attribute_kind (get_or (part s 0 n) at 0)
  attribute_kind_lent = ap attribute_kind attribute_code_lent

-- and a body or a chunk is the same part of both
pub bytes_lent : (s : List ℕ) (n start len : ℕ) → start + len ≤ length (part s 0 n) → part s start len ≡ part (part s 0 n) start len
bytes_lent s n start len h =
    ap (λ (l : List ℕ). part l start len) (sym (lent_is s n)) ∙ part_more (part s 0 n) (drop n s) start len h
