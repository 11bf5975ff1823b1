-- What reading a field refuses with is a number of document 01.
-- Assumes nothing.
use mathlib.Core.Path.{◌≡◌, refl, sym, subst}
use mathlib.Core.Bool.{Bool, true, false, not, false≢true}
use mathlib.Core.List.{List}
use Prim.Native.Nat.{ℕ, ◌+◌}
use lib.Dec.{leb, eqb}
use lib.ListN.{length, get_or}
use Rattle.wire.specs.Pick.{pick, both, either}
use Rattle.wire.specs.Refusal.{none, cut_short, string_wrong, out_of_range, is_refusal, is_fault}
use Rattle.wire.specs.Bytes.{part, integer_in}
use Rattle.wire.specs.Field.{number_at, byte_at, integer_at, boolean_of, boolean_at, null_length, lacks, holds_barred, text_at, after_length, string_of, string_at}
use Rattle.wire.specs.Read.{NumberRead, BooleanRead, StringRead}

-- a fault that is not none is a refusal
pub fault_refusal : (n : ℕ) → is_fault n ≡ true → eqb n none ≡ false → is_refusal n ≡ true
fault_refusal n h e = go (eqb n none) (is_refusal n) h e
  where
    go : (t u : Bool) → either t u ≡ true → t ≡ false → u ≡ true
    go true u h e = absurd (false≢true (sym e))
    go false u h e = h

-- a number, where it is refused
abbrev pub NumberRefusal : NumberRead → Type 0
NumberRefusal (NumberRead.Refused n) = is_refusal n ≡ true
NumberRefusal (NumberRead.Number value next) = Unit

number_refusal : (width value : ℕ) (s : List ℕ) (at : ℕ) → NumberRefusal (number_at width value s at)
number_refusal width value s at = go (leb (at + width) (length s))
  where
    go : (t : Bool) → NumberRefusal (pick t (NumberRead.Number value (at + width)) (NumberRead.Refused cut_short))
    go true = tt
    go false = refl

pub byte_refusal : (s : List ℕ) (at : ℕ) (r : NumberRead) → byte_at s at ≡ r → NumberRefusal r
unfolding byte_at
byte_refusal s at r e = subst NumberRefusal e (number_refusal 1 (get_or s at 0) s at)

pub integer_refusal : (s : List ℕ) (at : ℕ) (r : NumberRead) → integer_at s at ≡ r → NumberRefusal r
unfolding integer_at
integer_refusal s at r e = subst NumberRefusal e (number_refusal 2 (integer_in s at) s at)

-- a boolean, where it is refused
abbrev pub BooleanRefusal : BooleanRead → Type 0
BooleanRefusal (BooleanRead.Refused n) = is_refusal n ≡ true
BooleanRefusal (BooleanRead.Boolean value next) = Unit

boolean_of_refusal : (r : NumberRead) → NumberRefusal r → BooleanRefusal (boolean_of r)
boolean_of_refusal (NumberRead.Refused n) h = h
boolean_of_refusal (NumberRead.Number value next) h = go (eqb value 0) (eqb value 1)
  where
    go : (t u : Bool)
        → BooleanRefusal (pick t (BooleanRead.Boolean false next) (pick u (BooleanRead.Boolean true next) (BooleanRead.Refused out_of_range)))
    go true u = tt
    go false true = tt
    go false false = refl

pub boolean_refusal : (s : List ℕ) (at : ℕ) (r : BooleanRead) → boolean_at s at ≡ r → BooleanRefusal r
unfolding boolean_at
boolean_refusal s at r e = subst BooleanRefusal e (boolean_of_refusal (byte_at s at) (byte_refusal s at (byte_at s at) refl))

-- a string, where it is refused
abbrev pub StringRefusal : StringRead → Type 0
StringRefusal (StringRead.Refused n) = is_refusal n ≡ true
StringRefusal (StringRead.Null next) = Unit
StringRefusal (StringRead.Text start len next) = Unit

text_refusal : (s : List ℕ) (start len : ℕ) → StringRefusal (text_at s start len)
unfolding text_at
text_refusal s start len =
    go (leb (start + (len + 1)) (length s)) (both (eqb (get_or s (start + len) 0) 0) (not (holds_barred (part s start len))))
  where
    go : (t u : Bool)
        → StringRefusal (pick t (pick u (StringRead.Text start len (start + len + 1)) (StringRead.Refused string_wrong)) (StringRead.Refused cut_short))
    go true true = tt
    go true false = refl
    go false u = refl

after_refusal : (s : List ℕ) (optional : Bool) (len start : ℕ) → StringRefusal (after_length s optional len start)
unfolding after_length
after_refusal s optional len start = go (lacks optional (eqb len null_length) len) (eqb len null_length)
  where
    go : (t u : Bool) → StringRefusal (pick t (StringRead.Refused string_wrong) (pick u (StringRead.Null start) (text_at s start len)))
    go true u = refl
    go false true = tt
    go false false = text_refusal s start len

string_of_refusal : (s : List ℕ) (optional : Bool) (r : NumberRead) → NumberRefusal r → StringRefusal (string_of s optional r)
string_of_refusal s optional (NumberRead.Refused n) h = h
string_of_refusal s optional (NumberRead.Number len start) h = after_refusal s optional len start

pub string_refusal : (s : List ℕ) (at : ℕ) (optional : Bool) (r : StringRead) → string_at s at optional ≡ r → StringRefusal r
unfolding string_at
string_refusal s at optional r e =
    subst StringRefusal e (string_of_refusal s optional (integer_at s at) (integer_refusal s at (integer_at s at) refl))
