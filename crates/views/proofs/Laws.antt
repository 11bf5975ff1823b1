-- Laws of the views: what each shows by what is read at the place.
-- Assumes nothing.
use mathlib.Core.Path.{◌≡◌, refl, sym, ap, ◌∙◌}
use mathlib.Core.Bool.{Bool, true, false}
use mathlib.Core.List.{List, []}
use Prim.Native.Nat.{ℕ, ◌+◌, ◌<◌}
use native.Mathlib.Omega.{arith}
use borrow.Author.Tests.{leb-false, le-leb}
use lib.Dec.{leb, eqb}
use lib.ListN.{length, get_or, get_or-eq_default}
use Rattle.wire.specs.Pick.{pick, both}
use Rattle.wire.specs.Refusal.{cut_short}
use Rattle.wire.specs.Bytes.{part, integer_in}
use Rattle.wire.specs.Field.{byte_at, integer_at, null_length}
use Rattle.wire.specs.Read.{NumberRead}
use Rattle.names.specs.Header.{begins_code}
use Rattle.packet.specs.declared.HeaderName.{HeaderName}
use Rattle.views.specs.View.{integer_view, null_view, text_view, name_view}

-- a number as read, 0 where it is refused
abbrev pub number_of : NumberRead → ℕ
number_of (NumberRead.Refused n) = 0
number_of (NumberRead.Number value next) = value

-- the number at a place, by what is read there
pub number_is : (s : List ℕ) (at : ℕ) (r : NumberRead) → integer_at s at ≡ r → number_of r ≡ integer_view s at
unfolding integer_at integer_view
number_is s at r e = ap number_of (sym e) ∙ go (leb (at + 2) (length s))
  where
    go : (there : Bool) → number_of (pick there (NumberRead.Number (integer_in s at) (at + 2)) (NumberRead.Refused cut_short)) ≡ pick there (integer_in s at) 0
    go true = refl
    go false = refl

-- the byte at a place, by what is read there
pub byte_is : (s : List ℕ) (at : ℕ) (r : NumberRead) → byte_at s at ≡ r → number_of r ≡ get_or s at 0
unfolding byte_at
byte_is s at r e = ap number_of (sym e) ∙ go (leb (at + 1) (length s)) refl
  where
    go : (there : Bool) → leb (at + 1) (length s) ≡ there
        → number_of (pick there (NumberRead.Number (get_or s at 0) (at + 1)) (NumberRead.Refused cut_short)) ≡ get_or s at 0
    go true q = refl
    go false q =
        let past : length s < at + 1 = leb-false (at + 1) (length s) q in
        sym (get_or-eq_default s 0 (omega arith))

-- whether it is null, by the number
pub null_is : (s : List ℕ) (at n : ℕ) → n ≡ integer_view s at → eqb n null_length ≡ null_view s at
unfolding null_view
null_is s at n e = ap (λ (k : ℕ). eqb k null_length) e

-- the text, where it is null and where it is not
pub text_null : (s : List ℕ) (at n : ℕ) → n ≡ integer_view s at → eqb n null_length ≡ true → part s 0 0 ≡ text_view s at
unfolding text_view part
text_null s at n e q = rw (sym (null_is s at n e) ∙ q)

pub text_is : (s : List ℕ) (at n : ℕ) → n ≡ integer_view s at → eqb n null_length ≡ false → part s (at + 2) n ≡ text_view s at
unfolding text_view
text_is s at n e q = rw (sym (null_is s at n e) ∙ q, e)

-- the text, by what is read at the place as its length: none where it is null or not there
abbrev pub text_of : List ℕ → NumberRead → List ℕ
text_of s (NumberRead.Refused n) = []
text_of s (NumberRead.Number value next) = pick (eqb value null_length) [] (part s next value)

pub text_by : (s : List ℕ) (at : ℕ) (r : NumberRead) → integer_at s at ≡ r → text_of s r ≡ text_view s at
unfolding integer_at integer_view null_view text_view part
text_by s at r e = ap (text_of s) (sym e) ∙ go (leb (at + 2) (length s))
  where
    go : (there : Bool)
        → text_of s (pick there (NumberRead.Number (integer_in s at) (at + 2)) (NumberRead.Refused cut_short))
        ≡ pick (eqb (pick there (integer_in s at) 0) null_length) [] (part s (at + 2) (pick there (integer_in s at) 0))
    go true = refl
    go false = refl

-- and so by whether it is null
pub text_shown : (s : List ℕ) (at value next : ℕ) (null : Bool) → integer_at s at ≡ NumberRead.Number value next → eqb value null_length ≡ null
    → pick null [] (part s next value) ≡ text_view s at
text_shown s at value next null e q =
    ap (λ (t : Bool). pick t [] (part s next value)) (sym q) ∙ text_by s at (NumberRead.Number value next) e

-- a header's name, by its first byte
pub name_is : (s : List ℕ) (at n : ℕ) (there code : Bool) → leb (at + 1) (length s) ≡ there → begins_code (get_or s at 0) ≡ code → n ≡ integer_view s at
    → pick (both there code) (HeaderName.Code n) HeaderName.Spelled ≡ name_view s at
unfolding name_view
name_is s at n there code p q e = rw (p, q, e)

-- and so where the byte is there
pub name_there : (s : List ℕ) (at byte n : ℕ) (code : Bool) → at < length s → byte ≡ get_or s at 0 → begins_code byte ≡ code → n ≡ integer_view s at
    → pick code (HeaderName.Code n) HeaderName.Spelled ≡ name_view s at
name_there s at byte n code h e q r = name_is s at n true code (le-leb (at + 1) (length s) (omega arith)) (ap begins_code (sym e) ∙ q) r
