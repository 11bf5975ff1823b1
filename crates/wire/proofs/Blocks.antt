-- A list tested in parts that cover it and may overlap: some element of it passes where some element of one of the parts does. For any test.
-- Assumes nothing.
use mathlib.Core.Path.{◌≡◌, refl, sym, ap, ◌∙◌}
use mathlib.Core.Bool.{Bool, true, false}
use mathlib.Core.List.{List, [], ◌∷◌, ◌++◌}
use Prim.Native.Nat.{ℕ, ◌+◌, ◌-◌, ◌≤◌}
use native.Mathlib.Omega.{arith}
use lib.ListN.{length, take, drop, length-drop, take-append-drop}
use lib.Seq.{take_all, take-add}
use Rattle.wire.specs.Pick.{either, any}
use Rattle.wire.specs.Bytes.{part}
use Rattle.wire.proofs.Tests.{either_assoc}

-- one of three tests holds, the middle one asked twice
either_twice : (x y z : Bool) → either (either x y) (either y z) ≡ either x (either y z)
either_twice true y z = refl
either_twice false true z = refl
either_twice false false z = refl

-- a test that holds of the second of three
either_second : (x y z : Bool) → y ≡ true → either x (either y z) ≡ true
either_second true y z e = refl
either_second false y z e = rw e

module _ (p : ℕ → Bool) where
  -- some element of two lists put together
  any_append : (a b : List ℕ) → any p (a ++ b) ≡ either (any p a) (any p b)
  unfolding any
  any_append [] b = refl
  any_append (x ∷ a) b = ap (either (p x)) (any_append a b) ∙ sym (either_assoc (p x) (any p a) (any p b))

  -- the elements before a place, and those from it on
  any_two : (at : ℕ) (s : List ℕ) → any p s ≡ either (any p (take at s)) (any p (drop at s))
  any_two at s = ap (any p) (sym (take-append-drop at s)) ∙ any_append (take at s) (drop at s)

  module _ (s : List ℕ) where
    -- the elements before a place, a part from there on, and the rest
    any_three : (at len : ℕ) → any p s ≡ either (any p (take at s)) (either (any p (part s at len)) (any p (drop len (drop at s))))
    unfolding part
    any_three at len = any_two at s ∙ ap (either (any p (take at s))) (any_two len (drop at s))

    -- a part that has the whole list
    pub any_whole : (len : ℕ) → length s ≤ len → any p (part s 0 len) ≡ any p s
    unfolding part
    any_whole len h = ap (any p) (take_all len s h)

    -- no elements
    pub any_none : any p (part s 0 0) ≡ false
    unfolding part any
    any_none = refl

    -- one part more, right behind those before it
    pub any_more : (i len : ℕ) → any p (part s 0 i) ≡ false → any p (part s i len) ≡ false → any p (part s 0 (i + len)) ≡ false
    unfolding part
    any_more i len before found =
        ap (any p) (take-add i len s) ∙ any_append (take i s) (take len (drop i s)) ∙ rw (before, found)

    -- one part is enough
    pub any_within : (at len : ℕ) → any p (part s at len) ≡ true → any p s ≡ true
    any_within at len found = any_three at len ∙ either_second (any p (take at s)) (any p (part s at len)) (any p (drop len (drop at s))) found

    -- the elements up to some behind a place, and all from that place on
    any_overlap : (start shared : ℕ) → either (any p (take (start + shared) s)) (any p (drop start s)) ≡ any p s
    unfolding part
    any_overlap start shared =
        let first = any p (take start s) in
        let middle = any p (take shared (drop start s)) in
        let last = any p (drop shared (drop start s)) in
        let front : any p (take (start + shared) s) ≡ either first middle =
        ap (any p) (take-add start shared s) ∙ any_append (take start s) (take shared (drop start s)) in
        rw (front, any_two shared (drop start s)) (either_twice first middle last ∙ sym (any_three start shared))

    -- the first elements, and the last ones from a place among them on
    pub any_ends : (end start len : ℕ) → start ≤ end → length s ≤ start + len
        → either (any p (part s 0 end)) (any p (part s start len)) ≡ any p s
    unfolding part
    any_ends end start len h k =
        let split : end ≡ start + (end - start) = omega arith in
        ap (λ (n : ℕ). either (any p (take n s)) (any p (take len (drop start s)))) split
        ∙ rw (take_all len (drop start s) (simp length-drop (omega arith))) (any_overlap start (end - start))

    -- the last elements, where none of the first ones passes
    pub any_last : (end start len : ℕ) → start ≤ end → length s ≤ start + len → any p (part s 0 end) ≡ false
        → any p (part s start len) ≡ any p s
    any_last end start len h k before = rw before at (any_ends end start len h k)
