-- Fields there and back: reading a field that was written gives it, and writing a field that was read gives its bytes.
-- Assumes nothing.
use mathlib.Core.Path.{◌≡◌, refl, sym, ap, ◌∙◌}
use mathlib.Core.Bool.{Bool, true, false, not, false≢true}
use mathlib.Core.List.{List, [], ◌∷◌, ◌++◌, append_assoc}
use Prim.Native.Nat.{ℕ, suc, ◌+◌, ◌-◌, ◌*◌, ◌/◌, ◌%◌, ◌≤◌, ◌<◌}
use native.Mathlib.Omega.{arith}
use borrow.Author.Tests.{ne_eqb, leb-true, eqb-true, not-true}
use lib.Dec.{leb, eqb}
use lib.ListN.{length, get_or, length-append}
use lib.Seq.{get_or-append_seam, get_or-append-add}
use Rattle.wire.specs.Pick.{pick}
use Rattle.wire.specs.Bytes.{part, integer_in, integer_bytes}
use Rattle.wire.specs.Refusal.{cut_short, out_of_range}
use Rattle.wire.specs.Field.{byte_at, integer_at, boolean_of, boolean_at, boolean_bytes, null_length, lacks, holds_barred, text_at, after_length, string_at, string_bytes, string_allowed}
use Rattle.wire.specs.Read.{NumberRead, BooleanRead, StringRead}
use Rattle.wire.proofs.Tests.{both_first, both_second}
use Rattle.wire.proofs.Bytes.{length_part, part_middle, part_add, part_one}
use Rattle.wire.proofs.Field.{number_read, boolean_is, string_is, after_is, text_closed, text_read, null_read}
use Rattle.wire.specs.Facts.{TextRead, NullRead, Bytes, written}

-- an integer that was written reads back
pub integer_back : (a b : List ℕ) (n : ℕ) → n < 65536 → integer_in (a ++ (integer_bytes n ++ b)) (length a) ≡ n
unfolding integer_in
integer_back a b n h =
    rw (get_or-append_seam a (n / 256 % 256) (n % 256 ∷ b) 0, get_or-append-add a (integer_bytes n ++ b) 1 0) (omega arith)

pub integer_written : (a b : List ℕ) (n : ℕ) → n < 65536
    → integer_at (a ++ (integer_bytes n ++ b)) (length a) ≡ NumberRead.Number n (length a + 2)
unfolding integer_at
integer_written a b n h =
    sym (number_read 2 (integer_in (a ++ (integer_bytes n ++ b)) (length a)) (a ++ (integer_bytes n ++ b)) (length a) (omega (arith, length-append a (integer_bytes n ++ b))))
    ∙ ap (λ (m : ℕ). NumberRead.Number m (length a + 2)) (integer_back a b n h)

-- so do a byte and a boolean
pub byte_written : (a b : List ℕ) (n : ℕ) → byte_at (a ++ (n ∷ b)) (length a) ≡ NumberRead.Number n (length a + 1)
unfolding byte_at
byte_written a b n =
    sym (number_read 1 (get_or (a ++ (n ∷ b)) (length a) 0) (a ++ (n ∷ b)) (length a) (omega (arith, length-append a (n ∷ b))))
    ∙ ap (λ (m : ℕ). NumberRead.Number m (length a + 1)) (get_or-append_seam a n b 0)

pub boolean_written : (a b : List ℕ) (v : Bool) → boolean_at (a ++ (boolean_bytes v ++ b)) (length a) ≡ BooleanRead.Boolean v (length a + 1)
boolean_written a b true = boolean_is (a ++ (1 ∷ b)) (length a) (NumberRead.Number 1 (length a + 1)) (byte_written a b 1)
boolean_written a b false = boolean_is (a ++ (0 ∷ b)) (length a) (NumberRead.Number 0 (length a + 1)) (byte_written a b 0)

-- a text and its zero that were written read back
pub text_written : (p t b : List ℕ) → holds_barred t ≡ false
    → text_at (p ++ (t ++ (0 ∷ b))) (length p) (length t) ≡ StringRead.Text (length p) (length t) (length p + length t + 1)
text_written p t b clean =
    let s : List ℕ = p ++ (t ++ (0 ∷ b)) in
    let n : length s ≡ length p + (length t + suc (length b)) = length-append p (t ++ (0 ∷ b)) ∙ ap (λ (m : ℕ). length p + m) (length-append t (0 ∷ b)) in
    let last : get_or s (length p + length t) 0 ≡ 0 = get_or-append-add p (t ++ (0 ∷ b)) (length t) 0 ∙ get_or-append_seam t 0 b 0 in
    sym (text_closed s (length p) (length t) false (omega arith) last (sym (ap holds_barred (part_middle p t (0 ∷ b)) ∙ clean)))

-- a text, where it may stand in the field
text_back : (a b : List ℕ) (optional : Bool) (text : List ℕ) → length text < null_length → string_allowed optional false text ≡ true
    → string_at (a ++ (integer_bytes (length text) ++ (text ++ (0 ∷ [])) ++ b)) (length a) optional ≡ written (length a) false text
unfolding string_allowed
text_back a b optional text h ok =
    let n : ℕ = length text in
    let p : List ℕ = a ++ integer_bytes n in
    let s : List ℕ = a ++ (integer_bytes n ++ (text ++ (0 ∷ []) ++ b)) in
    let two : length p ≡ length a + 2 = length-append a (integer_bytes n) in
    let parted : s ≡ p ++ (text ++ (0 ∷ b)) =
    ap (λ (r : List ℕ). a ++ (integer_bytes n ++ r)) (append_assoc text (0 ∷ []) b) ∙ sym (append_assoc a (integer_bytes n) (text ++ (0 ∷ b))) in
    let whole : Bool = lacks optional false n in
    let lack : lacks optional false n ≡ false = not-true whole (both_first (not whole) (not (holds_barred text)) ok) in
    let clean : holds_barred text ≡ false = not-true (holds_barred text) (both_second (not whole) (not (holds_barred text)) ok) in
    let some : eqb n null_length ≡ false = ne_eqb n null_length (λ e. omega arith) in
    string_is s (length a) optional (NumberRead.Number n (length a + 2)) (integer_written a (text ++ (0 ∷ []) ++ b) n (omega arith))
    ∙ sym (after_is s optional n (length a + 2) false false (ap (λ (t : Bool). lacks optional t n) some ∙ lack) some)
    ∙ ap (λ (l : List ℕ). text_at l (length a + 2) n) parted
    ∙ ap (λ (i : ℕ). text_at (p ++ (text ++ (0 ∷ b))) i n) (sym two)
    ∙ text_written p text b clean
    ∙ ap (λ (i : ℕ). StringRead.Text i n (i + n + 1)) two

-- a string that was written reads back, where it may stand in the field
pub string_written : (a b : List ℕ) (optional null : Bool) (text : List ℕ) → length text < null_length → string_allowed optional null text ≡ true
    → string_at (a ++ (string_bytes null text ++ b)) (length a) optional ≡ written (length a) null text
unfolding string_at string_bytes string_allowed after_length
string_written a b true true text h ok = rw (integer_written a b null_length (omega arith))
string_written a b false true text h ok = absurd (false≢true ok)
string_written a b optional false text h ok = text_back a b optional text h ok

-- the two bytes of an integer that was read are its bytes
pub integer_kept : (s : List ℕ) (at : ℕ) → Bytes s → at + 2 ≤ length s → part s at 2 ≡ integer_bytes (integer_in s at)
unfolding integer_in
integer_kept s at bytes h =
    let high : get_or s at 0 < 256 = bytes at in
    let low : get_or s (at + 1) 0 < 256 = bytes (at + 1) in
    let p : (get_or s at 0 * 256 + get_or s (at + 1) 0) / 256 % 256 ≡ get_or s at 0 = omega arith in
    let q : (get_or s at 0 * 256 + get_or s (at + 1) 0) % 256 ≡ get_or s (at + 1) 0 = omega arith in
    part_add s at 1 1 ∙ rw (part_one s at (omega arith), part_one s (at + 1) (omega arith), p, q)

-- a byte that is neither 0 nor 1 reads as no boolean
untold : (b n : ℕ) (v : Bool) (next : ℕ) → eqb b 0 ≡ false → eqb b 1 ≡ false → boolean_of (NumberRead.Number b n) ≡ BooleanRead.Boolean v next → ⊥
untold b n v next p q r =
    let e : BooleanRead.Refused out_of_range ≡ BooleanRead.Boolean v next = rw (p, q) at r in
    let z : ◌≡◌ {A = ℕ} 0 1 = cc in
    omega arith

-- what the two tests on a byte say of the boolean that it reads as
told : (b : ℕ) (u w : Bool) (n : ℕ) (v : Bool) (next : ℕ) → eqb b 0 ≡ u → eqb b 1 ≡ w → boolean_of (NumberRead.Number b n) ≡ BooleanRead.Boolean v next
    → v ≡ pick u false w
told b true w n v next p q r = let e : BooleanRead.Boolean false n ≡ BooleanRead.Boolean v next = rw p at r in cc
told b false true n v next p q r = let e : BooleanRead.Boolean true n ≡ BooleanRead.Boolean v next = rw (p, q) at r in cc
told b false false n v next p q r = absurd (untold b n v next p q r)

-- and the byte of a boolean that was read is its byte
pub boolean_kept : (s : List ℕ) (at : ℕ) (v : Bool) (next : ℕ) → boolean_at s at ≡ BooleanRead.Boolean v next → part s at 1 ≡ boolean_bytes v
unfolding boolean_at byte_at
boolean_kept s at v next e = go (leb (at + 1) (length s)) (eqb (get_or s at 0) 0) (eqb (get_or s at 0) 1) refl refl refl e
  where
    go : (t u w : Bool) → leb (at + 1) (length s) ≡ t → eqb (get_or s at 0) 0 ≡ u → eqb (get_or s at 0) 1 ≡ w
        → boolean_of (pick t (NumberRead.Number (get_or s at 0) (at + 1)) (NumberRead.Refused cut_short)) ≡ BooleanRead.Boolean v next → part s at 1 ≡ boolean_bytes v
    go true true w h p q r =
        let z : get_or s at 0 ≡ 0 = eqb-true (get_or s at 0) 0 p in
        let x : v ≡ false = told (get_or s at 0) true w (at + 1) v next p q r in
        part_one s at (omega (arith, leb-true (at + 1) (length s) h)) ∙ rw (z, x)
    go true false true h p q r =
        let z : get_or s at 0 ≡ 1 = eqb-true (get_or s at 0) 1 q in
        let x : v ≡ true = told (get_or s at 0) false true (at + 1) v next p q r in
        part_one s at (omega (arith, leb-true (at + 1) (length s) h)) ∙ rw (z, x)
    go true false false h p q r = absurd (untold (get_or s at 0) (at + 1) v next p q r)
    go false u w h p q r = absurd (let z : ◌≡◌ {A = ℕ} 0 1 = cc in omega arith)

-- the bytes of a string that was read are those that writing it gives
pub text_kept : (s : List ℕ) (at : ℕ) (optional : Bool) (start len next : ℕ) → Bytes s → string_at s at optional ≡ StringRead.Text start len next
    → part s at (next - at) ≡ string_bytes false (part s start len)
unfolding string_bytes
text_kept s at optional start len next bytes e =
    let r : TextRead s at optional start len next = text_read s at optional start len next e in
    let width : next - at ≡ 2 + (len + 1) = omega (arith, r.starts, r.ends) in
    let two : at + 2 ≡ start = omega (arith, r.starts) in
    let inside : start + len < length s = omega (arith, r.ends, r.fits) in
    let size : length (part s start len) ≡ integer_in s at = length_part s start len (omega arith) ∙ r.length_is in
    rw (width, part_add s at 2 (len + 1), part_add s (at + 2) len 1, two, integer_kept s at bytes (omega arith), part_one s (start + len) inside, r.zero_last, size)

pub null_kept : (s : List ℕ) (at : ℕ) (optional : Bool) (next : ℕ) (text : List ℕ) → Bytes s → string_at s at optional ≡ StringRead.Null next
    → part s at (next - at) ≡ string_bytes true text
unfolding string_bytes
null_kept s at optional next text bytes e =
    let r : NullRead s at optional next = null_read s at optional next e in
    let width : next - at ≡ 2 = omega (arith, r.ends) in
    rw (width, integer_kept s at bytes (omega (arith, r.ends, r.fits)), r.length_is)
