-- What the fixed fields are at most: a field that is read lies inside the packet, and a number is at most what it is held against.
-- Assumes nothing.
use mathlib.Core.Path.{◌≡◌, refl, sym, subst}
use mathlib.Core.Bool.{Bool, true, false}
use mathlib.Core.List.{List}
use Prim.Native.Nat.{ℕ, ◌≤◌}
use native.Mathlib.Omega.{arith}
use borrow.Author.Tests.{leb-true}
use lib.Dec.{leb}
use lib.ListN.{length}
use Rattle.wire.specs.Pick.{pick, between}
use Rattle.wire.specs.Field.{integer_at, string_at, is_optional}
use Rattle.wire.specs.declared.StringField.{StringField}
use Rattle.wire.specs.Read.{NumberRead, StringRead}
use Rattle.wire.proofs.Tests.{both_second}
use Rattle.wire.specs.Facts.{StringInside}
use Rattle.wire.proofs.Field.{string_inside}
use Rattle.connection.specs.Connection.{max_packet}
use Rattle.payload.specs.Read.{FieldRead}
use Rattle.payload.specs.Sequence.{behind, string_as_field, string_field_at, string_after, bounded, integer_after}
use Rattle.payload.specs.Facts.{FieldInside}
use Rattle.payload.specs.Private.{Within, Counts}

-- a field behind another lies inside, whatever that other is, if each one that is read does
behind_inside : (size : ℕ) (read : ℕ → FieldRead) (before : FieldRead) → ((at : ℕ) → FieldInside size (read at)) → FieldInside size (behind read before)
behind_inside size read (FieldRead.Refused n) h = tt
behind_inside size read (FieldRead.Field at value next) h = h next

-- a string that is read as a field lies inside
string_field_inside : (size at : ℕ) (r : StringRead) → StringInside size at r → FieldInside size (string_as_field at r)
string_field_inside size at (StringRead.Refused n) h = tt
string_field_inside size at (StringRead.Null next) h = (omega arith, h.1)
string_field_inside size at (StringRead.Text start len next) h = (omega arith, h.1.1)

-- a string behind a field lies inside
pub string_after_inside : (s : List ℕ) (field : StringField) (before : FieldRead) → FieldInside (length s) (string_after s field before)
unfolding string_after string_field_at
string_after_inside s field before =
    behind_inside (length s) (string_field_at s field) before
    (λ at. string_field_inside (length s) at (string_at s at (is_optional field)) (string_inside s at (is_optional field) (string_at s at (is_optional field)) refl))

-- the place of a field that lies inside is at most any number that the packet's size is at most
pub inside_within : (size most : ℕ) (f : FieldRead) → size ≤ most → FieldInside size f → Within most f
inside_within size most (FieldRead.Refused n) h i = tt
inside_within size most (FieldRead.Field at value next) h i = omega arith

-- the place of a string behind a field, in a packet that is not too long, is at most a packet's size
pub string_within : (s : List ℕ) (field : StringField) (before r : FieldRead) → length s ≤ max_packet → r ≡ string_after s field before
    → Within max_packet r
string_within s field before r h e =
    subst (Within max_packet) (sym e) (inside_within (length s) max_packet (string_after s field before) h (string_after_inside s field before))

-- and so is that of a string at a place
pub string_place : (s : List ℕ) (field : StringField) (place at value next : ℕ) → length s ≤ max_packet
    → FieldRead.Field at value next ≡ string_field_at s field place → at ≤ max_packet
unfolding string_after
string_place s field place at value next h e = string_within s field (FieldRead.Field place 0 place) (FieldRead.Field at value next) h e

-- a number as a field is at most `high`
bounded_counts : (at low high fault : ℕ) (r : NumberRead) → Counts high (bounded at low high fault r)
bounded_counts at low high fault (NumberRead.Refused n) = tt
bounded_counts at low high fault (NumberRead.Number value next) = go (between low high value) refl
  where
    go : (t : Bool) → between low high value ≡ t → Counts high (pick t (FieldRead.Field at value next) (FieldRead.Refused fault))
    go true e = leb-true value high (both_second (leb low value) (leb value high) e)
    go false e = tt

-- an integer behind a field is at most `high`
pub integer_counts : (s : List ℕ) (low high fault : ℕ) (before r : FieldRead) → r ≡ integer_after s low high fault before → Counts high r
unfolding integer_after
integer_counts s low high fault before r e = subst (Counts high) (sym e) (go before)
  where
    go : (f : FieldRead) → Counts high (behind (λ at. bounded at low high fault (integer_at s at)) f)
    go (FieldRead.Refused n) = tt
    go (FieldRead.Field at value next) = bounded_counts next low high fault (integer_at s next)
