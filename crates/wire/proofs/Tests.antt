-- Facts about two tests.
-- Assumes nothing.
use mathlib.Core.Path.{◌≡◌, refl, sym}
use mathlib.Core.Bool.{Bool, true, false, false≢true}
use Rattle.wire.specs.Pick.{both, either}

pub either_assoc : (a b c : Bool) → either (either a b) c ≡ either a (either b c)
either_assoc true b c = refl
either_assoc false b c = refl

pub both_assoc : (a b c : Bool) → both (both a b) c ≡ both a (both b c)
both_assoc true b c = refl
both_assoc false b c = refl

pub either_false : (a : Bool) → either a false ≡ a
either_false true = refl
either_false false = refl

pub both_true : (a : Bool) → both a true ≡ a
both_true true = refl
both_true false = refl

-- of two tests that both hold, each does
pub both_first : (a b : Bool) → both a b ≡ true → a ≡ true
both_first true b e = refl
both_first false b e = e

pub both_second : (a b : Bool) → both a b ≡ true → b ≡ true
both_second true b e = e
both_second false b e = absurd (false≢true e)

-- of two tests of which none holds, the first does not
pub neither_first : (a b : Bool) → either a b ≡ false → a ≡ false
neither_first true b e = e
neither_first false b e = refl

-- nor does the second
pub neither_second : (a b : Bool) → either a b ≡ false → b ≡ false
neither_second true b e = absurd (false≢true (sym e))
neither_second false b e = e
