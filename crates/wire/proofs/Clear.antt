-- What no string holds: a text that may stand in a field has no byte that ends a string or a line, and any text without such a byte may, where
-- it lacks nothing that the field asks for. And what the scan for such bytes stands on: a barred byte is a low one, so a text without low
-- bytes holds none.
-- Assumes nothing.
use mathlib.Core.Path.{◌≡◌, refl, sym, ap, ◌∙◌}
use mathlib.Core.Bool.{Bool, true, false, not, false≢true}
use mathlib.Core.List.{List}
use Prim.Native.Nat.{ℕ, ◌<◌}
use native.Mathlib.Omega.{arith}
use borrow.Author.Tests.{eqb-true, ltb-false, not-true}
use lib.Dec.{eqb, lit<}
use lib.ListN.{length, get_or}
use Rattle.wire.specs.Pick.{either}
use Rattle.wire.specs.Field.{line_feed, carriage_return, barred, holds_barred, lacks, string_allowed}
use Rattle.wire.specs.Private.{above_barred, low, holds_low}
use Rattle.wire.specs.Facts.{ClearByte, Clear}
use Rattle.wire.proofs.Tests.{both_second}
use Rattle.wire.proofs.Scan.{none_each, each_none}

-- a byte that is not barred ends neither a string nor a line: 0, 10 and 13 are barred
pub clear_byte : (b : ℕ) → barred b ≡ false → ClearByte b
clear_byte b e = (unlike 0 refl, unlike 10 refl, unlike 13 refl)
  where
    unlike : (n : ℕ) → barred n ≡ true → b ≡ n → ⊥
    unlike n held is = false≢true (sym e ∙ ap barred is ∙ held)

-- nor does any byte of a text that holds none that is barred
pub clear_text : (text : List ℕ) → holds_barred text ≡ false → Clear text
clear_text text e i h = clear_byte (get_or text i 0) (none_each barred text e i h)

-- a text that may stand in a field, whichever it is, is clear
pub allowed_clear : (optional : Bool) (text : List ℕ) → string_allowed optional false text ≡ true → Clear text
unfolding string_allowed
allowed_clear optional text e =
    clear_text text (not-true (holds_barred text) (both_second (not (lacks optional false (length text))) (not (holds_barred text)) e))

-- and no other byte is barred
clear_not_barred : (b : ℕ) → ClearByte b → barred b ≡ false
clear_not_barred b clear = go (eqb b 0) (eqb b line_feed) (eqb b carriage_return) refl refl refl
  where
    go : (x y z : Bool) → eqb b 0 ≡ x → eqb b line_feed ≡ y → eqb b carriage_return ≡ z → either x (either y z) ≡ false
    go true y z p q r = absurd (clear.0 (eqb-true b 0 p))
    go false true z p q r = absurd (clear.1 (eqb-true b line_feed q))
    go false false true p q r = absurd (clear.2 (eqb-true b carriage_return r))
    go false false false p q r = refl

-- so a clear text holds none
pub clear_holds : (text : List ℕ) → Clear text → holds_barred text ≡ false
clear_holds text clear = each_none barred text (λ i h. clear_not_barred (get_or text i 0) (clear i h))

-- and may stand in a field, where it lacks nothing that the field asks for
pub clear_allowed : (optional : Bool) (text : List ℕ) → lacks optional false (length text) ≡ false → Clear text → string_allowed optional false text ≡ true
unfolding string_allowed
clear_allowed optional text present clear = rw (present, clear_holds text clear)

-- a byte that is not low is clear
high_clear : (b : ℕ) → low b ≡ false → ClearByte b
high_clear b e = (unlike 0 (lit< tt), unlike 10 (lit< tt), unlike 13 (lit< tt))
  where
    unlike : (n : ℕ) → n < above_barred → b ≡ n → ⊥
    unlike n below is = omega (arith, ltb-false b above_barred e)

-- so a text without low bytes holds none that is barred
pub none_barred : (text : List ℕ) → holds_low text ≡ false → holds_barred text ≡ false
none_barred text e = clear_holds text (λ i h. high_clear (get_or text i 0) (none_each low text e i h))
