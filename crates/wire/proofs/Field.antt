-- Laws of the fields' definitions: each outcome stated once, and that what is answered lies inside the packet.
-- Assumes nothing.
use mathlib.Core.Path.{◌≡◌, refl, sym, ap, subst, ◌∙◌}
use mathlib.Core.Bool.{Bool, true, false, not, false≢true}
use mathlib.Core.List.{List, [], ◌∷◌, ◌++◌}
use Prim.Native.Nat.{ℕ, ◌+◌, ◌≤◌}
use native.Mathlib.Omega.{arith}
use borrow.Author.Tests.{le-leb, ne_eqb, leb-true, eqb-true, eqb-false}
use lib.Dec.{leb, eqb}
use lib.ListN.{length, get_or, length-append}
use Rattle.wire.specs.Pick.{pick, both, either}
use Rattle.wire.specs.Refusal.{cut_short, string_wrong, out_of_range}
use Rattle.wire.specs.Bytes.{part, integer_in, integer_bytes}
use Rattle.wire.specs.Field.{number_at, byte_at, integer_at, boolean_of, boolean_at, null_length, lacks, holds_barred, text_at, after_length, string_of, string_at, string_bytes, string_allowed}
use Rattle.wire.specs.Packet.{leading, packet_head}
use Rattle.wire.specs.Facts.{NumberInside, BooleanInside, StringInside, TextRead, NullRead}
use Rattle.packet.specs.declared.Direction.{Direction}
use Rattle.wire.specs.Read.{NumberRead, BooleanRead, StringRead}
use Rattle.wire.proofs.Bytes.{length_part}

-- a number, where its bytes are there and where they are not
module _ (width value : ℕ) (s : List ℕ) (at : ℕ) where
  pub number_read : at + width ≤ length s → NumberRead.Number value (at + width) ≡ number_at width value s at
  number_read h = simp (le-leb (at + width) (length s) h)

-- a boolean, by what the byte reads as
pub boolean_is : (s : List ℕ) (at : ℕ) (r : NumberRead) → byte_at s at ≡ r → boolean_at s at ≡ boolean_of r
unfolding boolean_at
boolean_is s at r e = ap boolean_of e

-- a string, by what its length reads as
pub string_is : (s : List ℕ) (at : ℕ) (optional : Bool) (r : NumberRead) → integer_at s at ≡ r → string_at s at optional ≡ string_of s optional r
unfolding string_at
string_is s at optional r e = ap (string_of s optional) e

-- what follows a length, by the two tests on it; a proof that does not reach a test says `refl`
pub after_is : (s : List ℕ) (optional : Bool) (len start : ℕ) (lack null : Bool) → lacks optional (eqb len null_length) len ≡ lack → eqb len null_length ≡ null
    → pick lack (StringRead.Refused string_wrong) (pick null (StringRead.Null start) (text_at s start len)) ≡ after_length s optional len start
unfolding after_length
after_is s optional len start lack null p q = rw (p, q)

-- the outcomes of a string's bytes
module _ (s : List ℕ) (start len : ℕ) where
  pub text_open : start + (len + 1) ≤ length s → (get_or s (start + len) 0 ≡ 0 → ⊥) → StringRead.Refused string_wrong ≡ text_at s start len
  unfolding text_at
  text_open h z = simp (le-leb, ne_eqb)

  pub text_closed : (t : Bool) → start + (len + 1) ≤ length s → get_or s (start + len) 0 ≡ 0 → t ≡ holds_barred (part s start len)
      → pick t (StringRead.Refused string_wrong) (StringRead.Text start len (start + len + 1)) ≡ text_at s start len
  unfolding text_at
  text_closed true h z e = simp (le-leb, z, ← e)
  text_closed false h z e = simp (le-leb, z, ← e)

  -- with a barred byte among them, whatever the byte behind them is
  pub text_barred : start + (len + 1) ≤ length s → holds_barred (part s start len) ≡ true → StringRead.Refused string_wrong ≡ text_at s start len
  text_barred h held = go (eqb (get_or s (start + len) 0) 0) refl
    where
      go : (t : Bool) → eqb (get_or s (start + len) 0) 0 ≡ t → StringRead.Refused string_wrong ≡ text_at s start len
      go true e = text_closed true h (eqb-true (get_or s (start + len) 0) 0 e) (sym held)
      go false e = text_open h (eqb-false (get_or s (start + len) 0) 0 e)

-- the test on a string to be written, by its tests; a proof that does not reach a test says `refl`
pub allowed_is : (optional null : Bool) (text : List ℕ) (lack none barred : Bool) → lacks optional null (length text) ≡ lack → null ≡ none
    → holds_barred text ≡ barred → both (not lack) (either none (not barred)) ≡ string_allowed optional null text
unfolding string_allowed
allowed_is optional null text lack none barred p q r = rw (← p, ← q, ← r)

-- a string's bytes and how many they are
module _ (null : Bool) (text : List ℕ) where
  pub null_bytes : null ≡ true → string_bytes null text ≡ integer_bytes null_length
  unfolding string_bytes
  null_bytes e = rw e

  pub text_bytes_lem : null ≡ false → string_bytes null text ≡ integer_bytes (length text) ++ (text ++ (0 ∷ []))
  unfolding string_bytes
  text_bytes_lem e = rw e

  pub size_null : null ≡ true → length (string_bytes null text) ≡ 2
  size_null e = ap length (null_bytes e)

  pub size_text : null ≡ false → length (string_bytes null text) ≡ length text + 3
  size_text e = ap length (text_bytes_lem e) ∙ omega (arith, length-append text (0 ∷ []))

-- a packet's leading bytes are two, and its head has four
pub length_leading : (d : Direction) → length (leading d) ≡ 2
length_leading Direction.ToContainer = refl
length_leading Direction.ToServer = refl

pub head_four : (d : Direction) (n : ℕ) → length (packet_head d n) ≡ 4
head_four Direction.ToContainer n = refl
head_four Direction.ToServer n = refl

-- what is answered lies inside the packet: a number
pub number_inside : (width value : ℕ) (s : List ℕ) (at : ℕ) → NumberInside (length s) at width (number_at width value s at)
number_inside width value s at = go (leb (at + width) (length s)) refl
  where
    go : (t : Bool) → leb (at + width) (length s) ≡ t
        → NumberInside (length s) at width (pick t (NumberRead.Number value (at + width)) (NumberRead.Refused cut_short))
    go true h = (refl, leb-true (at + width) (length s) h)
    go false h = tt

pub byte_inside : (s : List ℕ) (at : ℕ) (r : NumberRead) → byte_at s at ≡ r → NumberInside (length s) at 1 r
unfolding byte_at
byte_inside s at r e = subst (NumberInside (length s) at 1) e (number_inside 1 (get_or s at 0) s at)

pub integer_inside : (s : List ℕ) (at : ℕ) (r : NumberRead) → integer_at s at ≡ r → NumberInside (length s) at 2 r
unfolding integer_at
integer_inside s at r e = subst (NumberInside (length s) at 2) e (number_inside 2 (integer_in s at) s at)

-- a boolean
boolean_of_inside : (n at : ℕ) (r : NumberRead) → NumberInside n at 1 r → BooleanInside n at (boolean_of r)
boolean_of_inside n at (NumberRead.Refused k) h = tt
boolean_of_inside n at (NumberRead.Number value next) h = go (eqb value 0) (eqb value 1)
  where
    go : (t u : Bool) → BooleanInside n at (pick t (BooleanRead.Boolean false next) (pick u (BooleanRead.Boolean true next) (BooleanRead.Refused out_of_range)))
    go true u = h
    go false true = h
    go false false = tt

pub boolean_inside : (s : List ℕ) (at : ℕ) (r : BooleanRead) → boolean_at s at ≡ r → BooleanInside (length s) at r
unfolding boolean_at
boolean_inside s at r e = subst (BooleanInside (length s) at) e (boolean_of_inside (length s) at (byte_at s at) (byte_inside s at (byte_at s at) refl))

-- what a string that is read is, by how it reads
abbrev Found : List ℕ → ℕ → Bool → StringRead → Type 0
Found s at optional (StringRead.Refused k) = Unit
Found s at optional (StringRead.Null next) = NullRead s at optional next
Found s at optional (StringRead.Text start len next) = TextRead s at optional start len next

-- a text that reading lets by may stand in the field
standing : (s : List ℕ) (start len : ℕ) (optional : Bool) → lacks optional false len ≡ false → holds_barred (part s start len) ≡ false
    → start + (len + 1) ≤ length s → string_allowed optional false (part s start len) ≡ true
standing s start len optional p q h =
    sym (allowed_is optional false (part s start len) false false false (ap (lacks optional false) (length_part s start len (omega arith)) ∙ p) refl q)

-- a text's bytes
found_text : (s : List ℕ) (at : ℕ) (optional : Bool) (len : ℕ) → len ≡ integer_in s at → (len ≡ null_length → ⊥) → lacks optional false len ≡ false
    → Found s at optional (text_at s (at + 2) len)
unfolding text_at
found_text s at optional len e k present =
    go (leb (at + 2 + (len + 1)) (length s)) (eqb (get_or s (at + 2 + len) 0) 0) (holds_barred (part s (at + 2) len)) refl refl refl
  where
    go : (t u v : Bool) → leb (at + 2 + (len + 1)) (length s) ≡ t → eqb (get_or s (at + 2 + len) 0) 0 ≡ u → holds_barred (part s (at + 2) len) ≡ v
        → Found s at optional (pick t (pick (both u (not v)) (StringRead.Text (at + 2) len (at + 2 + len + 1)) (StringRead.Refused string_wrong)) (StringRead.Refused cut_short))
    go true true false h z c =
        let f : at + 2 + (len + 1) ≤ length s = leb-true (at + 2 + (len + 1)) (length s) h in
        record {
          starts = refl;
          ends = refl;
          fits = omega arith;
          length_is = e;
          not_null = k;
          zero_last = eqb-true (get_or s (at + 2 + len) 0) 0 z;
          may_stand = standing s (at + 2) len optional present c f;
        }
    go true true true h z c = tt
    go true false v h z c = tt
    go false u v h z c = tt

-- null is accepted where the field is optional
null_optional : (optional : Bool) (len : ℕ) → lacks optional true len ≡ false → optional ≡ true
null_optional true len e = refl
null_optional false len e = absurd (false≢true (sym e))

found_length : (s : List ℕ) (at : ℕ) (optional : Bool) → at + 2 ≤ length s → Found s at optional (after_length s optional (integer_in s at) (at + 2))
unfolding after_length
found_length s at optional h = go (lacks optional (eqb (integer_in s at) null_length) (integer_in s at)) (eqb (integer_in s at) null_length) refl refl
  where
    go : (t u : Bool) → lacks optional (eqb (integer_in s at) null_length) (integer_in s at) ≡ t → eqb (integer_in s at) null_length ≡ u
        → Found s at optional (pick t (StringRead.Refused string_wrong) (pick u (StringRead.Null (at + 2)) (text_at s (at + 2) (integer_in s at))))
    go true u p q = tt
    go false true p q =
        record {
          ends = refl;
          fits = h;
          length_is = eqb-true (integer_in s at) null_length q;
          may_stand = null_optional optional (integer_in s at) (ap (λ (b : Bool). lacks optional b (integer_in s at)) (sym q) ∙ p);
        }
    go false false p q =
        found_text s at optional (integer_in s at) refl (eqb-false (integer_in s at) null_length q) (ap (λ (b : Bool). lacks optional b (integer_in s at)) (sym q) ∙ p)

found : (s : List ℕ) (at : ℕ) (optional : Bool) (r : StringRead) → string_at s at optional ≡ r → Found s at optional r
unfolding string_at integer_at
found s at optional r e = subst (Found s at optional) e (go (leb (at + 2) (length s)) refl)
  where
    go : (t : Bool) → leb (at + 2) (length s) ≡ t
        → Found s at optional (string_of s optional (pick t (NumberRead.Number (integer_in s at) (at + 2)) (NumberRead.Refused cut_short)))
    go true h = found_length s at optional (leb-true (at + 2) (length s) h)
    go false h = tt

pub text_read : (s : List ℕ) (at : ℕ) (optional : Bool) (start len next : ℕ) → string_at s at optional ≡ StringRead.Text start len next
    → TextRead s at optional start len next
text_read s at optional start len next e = found s at optional (StringRead.Text start len next) e

pub null_read : (s : List ℕ) (at : ℕ) (optional : Bool) (next : ℕ) → string_at s at optional ≡ StringRead.Null next → NullRead s at optional next
null_read s at optional next e = found s at optional (StringRead.Null next) e

-- a string
pub string_inside : (s : List ℕ) (at : ℕ) (optional : Bool) (r : StringRead) → string_at s at optional ≡ r → StringInside (length s) at r
string_inside s at optional r e = go r (found s at optional r e)
  where
    go : (r : StringRead) → Found s at optional r → StringInside (length s) at r
    go (StringRead.Refused k) h = tt
    go (StringRead.Null next) h = (h.ends, h.fits)
    go (StringRead.Text start len next) h = (h.starts, (h.ends, h.fits))
