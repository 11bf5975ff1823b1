-- A string is judged for building as reading judges it: what is written of it reads back where it has no fault, and is refused with its
-- fault where it has one.
-- Assumes nothing.
use native.Mathlib.Omega.{arith}
use borrow.Author.Tests.{ne_eqb}
use mathlib.Core.Path.{◌≡◌, refl, sym, ap, ◌∙◌}
use mathlib.Core.Bool.{Bool, true, false, not, false≢true}
use mathlib.Core.List.{List, [], ◌∷◌, ◌++◌, append_assoc}
use Prim.Native.Nat.{ℕ, suc, ◌+◌, ◌<◌}
use lib.Dec.{eqb}
use lib.ListN.{length, length-append}
use Rattle.wire.specs.Pick.{pick, both}
use Rattle.wire.specs.Bytes.{integer_bytes}
use Rattle.wire.specs.Field.{is_optional, lacks, holds_barred, text_at, string_of, string_at, string_bytes, string_allowed, null_length}
use Rattle.wire.specs.declared.StringField.{StringField}
use Rattle.wire.specs.Read.{NumberRead}
use Rattle.wire.specs.Read.{StringRead}
use Rattle.wire.proofs.Bytes.{part_middle}
use Rattle.wire.proofs.Field.{string_is, after_is, text_barred}
use Rattle.wire.proofs.RoundTrip.{integer_written, string_written}
use Rattle.wire.specs.Refusal.{string_wrong}
use Rattle.building.specs.Fault.{string_fault}
use Rattle.building.specs.Judged.{judged}

-- a text that holds a byte which no string may hold, and is written with a zero behind it
written_barred : (p t b : List ℕ) → holds_barred t ≡ true → text_at (p ++ (t ++ (0 ∷ b))) (length p) (length t) ≡ StringRead.Refused string_wrong
written_barred p t b held =
    let s : List ℕ = p ++ (t ++ (0 ∷ b)) in
    let n : length s ≡ length p + (length t + suc (length b)) = length-append p (t ++ (0 ∷ b)) ∙ ap (λ (m : ℕ). length p + m) (length-append t (0 ∷ b)) in
    sym (text_barred s (length p) (length t) (omega arith) (ap holds_barred (part_middle p t (0 ∷ b)) ∙ held))

-- a text that may not stand in the field
text_refused : (a b : List ℕ) (optional : Bool) (text : List ℕ) → length text < null_length → string_allowed optional false text ≡ false
    → string_at (a ++ (integer_bytes (length text) ++ (text ++ (0 ∷ [])) ++ b)) (length a) optional ≡ StringRead.Refused string_wrong
unfolding string_allowed
text_refused a b optional text h bad = go (lacks optional false n) (holds_barred text) refl refl bad
  where
    n : ℕ
    n = length text

    s : List ℕ
    s = a ++ (integer_bytes n ++ (text ++ (0 ∷ []) ++ b))

    p : List ℕ
    p = a ++ integer_bytes n

    some : eqb n null_length ≡ false
    some = ne_eqb n null_length (λ e. omega arith)

    begun : string_at s (length a) optional ≡ string_of s optional (NumberRead.Number n (length a + 2))
    begun = string_is s (length a) optional (NumberRead.Number n (length a + 2)) (integer_written a (text ++ (0 ∷ []) ++ b) n (omega arith))

    two : length p ≡ length a + 2
    two = length-append a (integer_bytes n)

    parted : s ≡ p ++ (text ++ (0 ∷ b))
    parted = ap (λ (r : List ℕ). a ++ (integer_bytes n ++ r)) (append_assoc text (0 ∷ []) b) ∙ sym (append_assoc a (integer_bytes n) (text ++ (0 ∷ b)))

    go : (lack held : Bool) → lacks optional false n ≡ lack → holds_barred text ≡ held → both (not lack) (not held) ≡ false
        → string_at s (length a) optional ≡ StringRead.Refused string_wrong
    go true held e f g =
        begun ∙ sym (after_is s optional n (length a + 2) true false (ap (λ (t : Bool). lacks optional t n) some ∙ e) some)
    go false true e f g =
        begun
        ∙ sym (after_is s optional n (length a + 2) false false (ap (λ (t : Bool). lacks optional t n) some ∙ e) some)
        ∙ ap (λ (l : List ℕ). text_at l (length a + 2) n) parted
        ∙ ap (λ (i : ℕ). text_at (p ++ (text ++ (0 ∷ b))) i n) (sym two)
        ∙ written_barred p text b f
    go false false e f g = absurd (false≢true (sym g))

-- a string that may not stand in the field
pub string_refused : (a b : List ℕ) (optional null : Bool) (text : List ℕ) → length text < null_length → string_allowed optional null text ≡ false
    → string_at (a ++ (string_bytes null text ++ b)) (length a) optional ≡ StringRead.Refused string_wrong
unfolding string_bytes string_allowed
string_refused a b true true text h bad = absurd (false≢true (sym bad))
string_refused a b false true text h bad =
    string_is (a ++ (integer_bytes null_length ++ b)) (length a) false (NumberRead.Number null_length (length a + 2)) (integer_written a b null_length (omega arith))
    ∙ sym (after_is (a ++ (integer_bytes null_length ++ b)) false null_length (length a + 2) true true refl refl)
string_refused a b optional false text h bad = text_refused a b optional text h bad

-- what reading answers where a string was written is what it was judged to be
pub string_judged : (a b : List ℕ) (field : StringField) (null : Bool) (text : List ℕ) → length text < null_length
    → string_at (a ++ (string_bytes null text ++ b)) (length a) (is_optional field) ≡ judged (string_fault field null text) (length a) null text
unfolding string_fault
string_judged a b field null text h = go (string_allowed (is_optional field) null text) refl
  where
    go : (t : Bool) → string_allowed (is_optional field) null text ≡ t
        → string_at (a ++ (string_bytes null text ++ b)) (length a) (is_optional field) ≡ judged (pick t 0 string_wrong) (length a) null text
    go true e = string_written a b (is_optional field) null text h e
    go false e = string_refused a b (is_optional field) null text h e
