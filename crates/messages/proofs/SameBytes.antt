-- The test whether two packets have the same bytes holds exactly where they do.
-- Assumes nothing.
use borrow.Author.Tests.{eq-eqb, eqb-true}
use mathlib.Core.Path.{◌≡◌, refl}
use mathlib.Core.Bool.{true, false≢true}
use mathlib.Core.List.{List, [], ◌∷◌}
use Prim.Native.Nat.{ℕ}
use lib.Dec.{eqb}
use Rattle.wire.proofs.Tests.{both_first, both_second}
use Rattle.messages.specs.ReadOnly.{same_bytes}

-- bytes are the same as themselves
pub same_self : (s : List ℕ) → same_bytes s s ≡ true
unfolding same_bytes
same_self [] = refl
same_self (x ∷ xs) = rw (eq-eqb x x refl) (same_self xs)

-- bytes that the test finds to be the same are
pub same_bytes_lem : (l r : List ℕ) → same_bytes l r ≡ true → l ≡ r
unfolding same_bytes
same_bytes_lem [] [] e = refl
same_bytes_lem [] (y ∷ ys) e = absurd (false≢true e)
same_bytes_lem (x ∷ xs) [] e = absurd (false≢true e)
same_bytes_lem (x ∷ xs) (y ∷ ys) e =
    let first : x ≡ y = eqb-true x y (both_first (eqb x y) (same_bytes xs ys) e) in
    let later : xs ≡ ys = same_bytes_lem xs ys (both_second (eqb x y) (same_bytes xs ys) e) in
    rw (first, later)
