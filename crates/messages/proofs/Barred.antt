-- A string with a zero or a line end in it is told as 6, read and written, before the rules of names and lengths: reading and building judge
-- the string itself first, and by one and the same test.
-- Assumes nothing.
use mathlib.Core.Path.{◌≡◌, refl, sym, ap, ◌∙◌}
use mathlib.Core.Bool.{Bool, true, false, not}
use mathlib.Core.List.{List}
use Prim.Native.Nat.{ℕ, ◌+◌, ◌≤◌}
use native.Mathlib.Omega.{arith}
use borrow.Author.Tests.{le-leb, ne_eqb}
use lib.Dec.{eqb}
use lib.ListN.{length, get_or}
use Rattle.wire.specs.Pick.{pick, both}
use Rattle.wire.specs.Refusal.{string_wrong}
use Rattle.wire.specs.Bytes.{integer_in}
use Rattle.wire.specs.Field.{integer_at, null_length, is_optional, lacks, holds_barred, after_length, string_at, string_allowed}
use Rattle.wire.specs.declared.StringField.{StringField}
use Rattle.wire.specs.Read.{NumberRead, StringRead}
use Rattle.wire.proofs.Field.{number_read, string_is, after_is, text_barred}
use Rattle.packet.specs.declared.Direction.{Direction}
use Rattle.names.specs.Header.{begins_code, spelled_fault}
use Rattle.headers.specs.Headers.{spelled_of, name_at, declared_after, header_value_of, header_value_at}
use Rattle.headers.specs.Read.{NameRead, HeaderRead}
use Rattle.std.specs.Prelude.{Option, None}
use Rattle.building.specs.Fault.{or_else, string_fault}
use Rattle.pieces.specs.Header.{length_fault, value_fault}
use Rattle.messages.specs.Barred.{BarredAt, BarredFirst}

-- a string that is read
string_barred : (field : StringField) (s : List ℕ) (at : ℕ) → BarredAt s at → string_at s at (is_optional field) ≡ StringRead.Refused string_wrong
unfolding integer_at
string_barred field s at h =
    let len : ℕ = integer_in s at in
    string_is s at (is_optional field) (NumberRead.Number len (at + 2)) (sym (number_read 2 len s at (omega (arith, h.whole))))
    ∙ go (lacks (is_optional field) false len) refl
  where
    some : eqb (integer_in s at) null_length ≡ false
    some = ne_eqb (integer_in s at) null_length h.not_null

    go : (t : Bool) → lacks (is_optional field) false (integer_in s at) ≡ t
        → after_length s (is_optional field) (integer_in s at) (at + 2) ≡ StringRead.Refused string_wrong
    go true e =
        sym (after_is s (is_optional field) (integer_in s at) (at + 2) true false
        (ap (λ (none : Bool). lacks (is_optional field) none (integer_in s at)) some ∙ e) some)
    go false e =
        sym (after_is s (is_optional field) (integer_in s at) (at + 2) false false
        (ap (λ (none : Bool). lacks (is_optional field) none (integer_in s at)) some ∙ e) some)
        ∙ sym (text_barred s (at + 2) (integer_in s at) h.whole h.held)

-- a header's name that is read
name_barred : (d : Direction) (s : List ℕ) (at : ℕ) → begins_code (get_or s at 0) ≡ false → BarredAt s at → name_at d s at ≡ NameRead.Refused string_wrong
unfolding name_at
name_barred d s at spelled h =
    let there : at + 2 ≤ length s = omega (arith, h.whole) in
    rw (le-leb (at + 2) (length s) there, spelled) (ap (spelled_of d s) (string_barred StringField.HeaderName s at h))

-- a header's value that is read
value_barred : (s : List ℕ) (at : ℕ) (is_length : Bool) (before : Option ℕ) → BarredAt s at → header_value_at s at is_length before ≡ HeaderRead.Refused string_wrong
unfolding header_value_at
value_barred s at is_length before h = ap (header_value_of s at is_length before) (string_barred StringField.HeaderValue s at h)

-- a string that is to be written
fault_barred : (field : StringField) (bytes : List ℕ) → holds_barred bytes ≡ true → string_fault field false bytes ≡ string_wrong
unfolding string_fault string_allowed
fault_barred field bytes held = rw held (go (lacks (is_optional field) false (length bytes)))
  where
    go : (t : Bool) → pick (both (not t) false) 0 string_wrong ≡ string_wrong
    go true = refl
    go false = refl

-- no zero and no line end is told as anything but 6
pub barred_first : BarredFirst
unfolding value_fault
barred_first = record {
  read = string_barred;
  read_name = name_barred;
  read_value = value_barred;
  written = fault_barred;
  written_name = λ d bytes held. ap (λ (fault : ℕ). or_else fault (spelled_fault d bytes)) (fault_barred StringField.HeaderName bytes held);
  written_value = λ is_length bytes held.
      ap (λ (fault : ℕ). or_else fault (length_fault (declared_after is_length None false bytes))) (fault_barred StringField.HeaderValue bytes held);
}
