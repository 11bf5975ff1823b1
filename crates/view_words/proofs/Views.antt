-- The words of a string say the part of the packet that the view shows.
-- Assumes nothing.
use native.Mathlib.Omega.{arith}
use native.Mathlib.Nat.{min-le_left}
use borrow.Author.Tests.{leb-true, leb-false}
use mathlib.Core.Path.{◌≡◌, refl, sym, ◌∙◌}
use mathlib.Core.Bool.{Bool, true, false}
use mathlib.Core.List.{List, [], ◌∷◌}
use Prim.Native.Nat.{ℕ, min, ◌+◌, ◌≤◌}
use lib.Dec.{leb}
use lib.ListN.{length, take, drop, length-take}
use lib.Seq.{take-take, take-length}
use Rattle.wire.specs.Pick.{pick}
use Rattle.wire.specs.Bytes.{part, integer_in}
use Rattle.wire.proofs.Parts.{part_zero}
use Rattle.views.specs.View.{integer_view, null_view, text_view}
use Rattle.words.specs.Number.{word, flag_in}
use Rattle.view_words.specs.View.{length_size, text_start_place, text_length_place, text_null_place, text_start, text_words}
use Rattle.wire.specs.Field.{boolean_number}

-- the bytes start behind the length, or at the packet's end where that is nearer
pub start_least : (packet : List ℕ) (at : ℕ) → min (at + length_size) (length packet) ≡ text_start packet at
unfolding text_start
start_least packet at = go (leb (at + length_size) (length packet)) refl
  where
    go : (t : Bool) → leb (at + length_size) (length packet) ≡ t
        → min (at + length_size) (length packet) ≡ pick t (at + length_size) (length packet)
    go true e = omega (arith, leb-true (at + length_size) (length packet) e)
    go false e = omega (arith, leb-false (at + length_size) (length packet) e)

-- a part has no more bytes than were asked for
part_most : (s : List ℕ) (start len : ℕ) → length (part s start len) ≤ len
unfolding part
part_most s start len = rw length-take (min-le_left len (length (drop start s)))

-- as many bytes as a part has are the part
part_shown : (s : List ℕ) (start len : ℕ) → part s start (length (part s start len)) ≡ part s start len
unfolding part
part_shown s start len =
    sym (take-take (length (take len (drop start s))) len (drop start s) (part_most s start len)) ∙ take-length (take len (drop start s))

-- the bytes start inside the packet or at its end, at most two bytes behind the place
pub start_within : (packet : List ℕ) (at : ℕ) → (text_start packet at ≤ length packet) × (text_start packet at ≤ at + length_size)
unfolding text_start
start_within packet at = go (leb (at + length_size) (length packet)) refl
  where
    go : (t : Bool) → leb (at + length_size) (length packet) ≡ t
        → (pick t (at + length_size) (length packet) ≤ length packet) × (pick t (at + length_size) (length packet) ≤ at + length_size)
    go true e = (leb-true (at + length_size) (length packet) e, omega arith)
    go false e = (omega arith, omega (arith, leb-false (at + length_size) (length packet) e))

-- a string shows no more bytes than its length says
pub text_most : (packet : List ℕ) (at : ℕ) → length (text_view packet at) ≤ integer_view packet at
unfolding text_view
text_most packet at = go (null_view packet at)
  where
    go : (t : Bool) → length (pick t [] (part packet (at + length_size) (integer_view packet at))) ≤ integer_view packet at
    go true = omega arith
    go false = part_most packet (at + length_size) (integer_view packet at)

-- the part that the words say, from the start on as many bytes as are told, is what the view shows
pub words_show : (packet : List ℕ) (at : ℕ) → part packet (text_start packet at) (length (text_view packet at)) ≡ text_view packet at
unfolding text_start text_view integer_view
words_show packet at = go (leb (at + length_size) (length packet)) (null_view packet at)
  where
    go : (there null : Bool)
        → part packet (pick there (at + length_size) (length packet)) (length (pick null [] (part packet (at + length_size) (pick there (integer_in packet at) 0))))
        ≡ pick null [] (part packet (at + length_size) (pick there (integer_in packet at) 0))
    go there true = part_zero packet (pick there (at + length_size) (length packet))
    go true false = part_shown packet (at + length_size) (integer_in packet at)
    go false false = rw part_zero (part_zero packet (length packet))

-- the words, one by one
pub words_are : (packet : List ℕ) (at : ℕ) {start len null : ℕ} → start ≡ text_start packet at → len ≡ length (text_view packet at)
    → null ≡ boolean_number (null_view packet at) → start ∷ len ∷ null ∷ [] ≡ text_words packet at
unfolding text_words
words_are packet at p q r = rw (p, q, r) refl

-- so it is with the words themselves: their first two say that part, and the third whether the string is null
pub words_say : (packet : List ℕ) (at : ℕ) → let words = text_words packet at in
    (part packet (word words text_start_place) (word words text_length_place) ≡ text_view packet at) × (flag_in (word words text_null_place) ≡ null_view packet at)
unfolding text_words
words_say packet at = (words_show packet at, go (null_view packet at))
  where
    go : (null : Bool) → flag_in (boolean_number null) ≡ null
    go true = refl
    go false = refl
