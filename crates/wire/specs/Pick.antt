-- Choices by a test, and tests of numbers and of lists. Every definition of the library that goes by cases on a number is
-- made of these, so that a proof puts a test's value in its place and the definition goes on.
-- Assumes nothing.
use Rattle.std.specs.Prelude.{Bool, true, false, ◌&&◌, ◌||◌, List, [], ◌∷◌, ℕ, leb, eqb}

-- the first where the test holds, else the second
abbrev pub pick : {A : Type 0} → Bool → A → A → A
pick true a b = a
pick false a b = b

-- both tests hold
abbrev pub both : Bool → Bool → Bool
both a b = a && b

-- one of two tests holds
abbrev pub either : Bool → Bool → Bool
either a b = a || b

-- a number from lo to hi, both ends included
abbrev pub between : ℕ → ℕ → ℕ → Bool
between lo hi n = both (leb lo n) (leb n hi)

-- a number is in the list
abbrev pub one_of : List ℕ → ℕ → Bool
one_of [] n = false
one_of (x ∷ xs) n = either (eqb x n) (one_of xs n)

-- every element passes the test
unfoldable pub all : (ℕ → Bool) → List ℕ → Bool
all p [] = true
all p (x ∷ xs) = both (p x) (all p xs)

-- some element passes the test
unfoldable pub any : (ℕ → Bool) → List ℕ → Bool
any p [] = false
any p (x ∷ xs) = either (p x) (any p xs)
