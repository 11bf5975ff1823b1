-- Laws of `part` and `over`: lengths, parts side by side, bytes side by side, what bytes laid over a list leave alone.
-- Assumes nothing.
use mathlib.Core.Path.{◌≡◌, refl, sym, ap, ◌∙◌}
use mathlib.Core.Bool.{Bool, true, false, not}
use mathlib.Core.List.{List, [], ◌∷◌, ◌++◌, append_assoc}
use Prim.Native.Nat.{ℕ, ◌+◌, ◌-◌, ◌≤◌, ◌<◌}
use native.Mathlib.Omega.{arith}
use native.Mathlib.Nat.{add-zero, add_assoc}
use native.Mathlib.Numerals.{add-one}
use borrow.Author.Tests.{leb-true, leb-false, not-false}
use lib.Dec.{leb}
use lib.ListN.{length, take, drop, set, get_or, length-set, length-append, length-drop, take-append-drop, drop_of_length-le}
use lib.Seq.{set_split, take_at, take_all, drop_at, drop-cons, drop-drop, drop-append-add, length-take-le, take-suc, take-add, take-nil}
use Rattle.wire.specs.Bytes.{part, over}

-- a part that lies within the list has its length
pub length_part : (s : List ℕ) (start len : ℕ) → start + len ≤ length s → length (part s start len) ≡ len
unfolding part
length_part s start len h = simp (length-take-le len (drop start s) (simp length-drop (omega arith)))

-- what a slice from a place to another holds
pub part_to : (s : List ℕ) (start end len : ℕ) → end ≡ start + len → take (end - start) (drop start s) ≡ part s start len
unfolding part
part_to s start end len e = let k : end - start ≡ len = omega arith in rw k

-- what a slice from a place to the end holds, where the part asks for as much or more
pub part_rest : (s : List ℕ) (start len : ℕ) → length s - start ≤ len → take (length s - start) (drop start s) ≡ part s start len
unfolding part
part_rest s start len h =
    take_all (length s - start) (drop start s) (simp length-drop (omega arith))
    ∙ sym (take_all len (drop start s) (simp length-drop (omega arith)))

-- a slice from a place to the same place is empty
pub part_none : (s : List ℕ) (n : ℕ) → take (n - n) (drop n s) ≡ []
part_none s n = let e : n - n ≡ 0 = omega arith in rw e

-- a part that starts past the end is empty
pub part_past : (s : List ℕ) (start len : ℕ) → length s ≤ start → [] ≡ part s start len
unfolding part
part_past s start len h = simp (drop_of_length-le s h, take-nil)

-- the middle of three
pub part_middle : (p t r : List ℕ) → part (p ++ (t ++ r)) (length p) (length t) ≡ t
unfolding part
part_middle p t r = rw (drop_at p (t ++ r) (length p) refl) (take_at t r (length t) refl)

-- two parts side by side are one
pub part_add : (s : List ℕ) (at n m : ℕ) → part s at (n + m) ≡ part s at n ++ part s (at + n) m
unfolding part
part_add s at n m = take-add n m (drop at s) ∙ ap (λ (r : List ℕ). take n (drop at s) ++ take m r) (drop-drop n at s)

-- a part of one element
pub part_one : (s : List ℕ) (at : ℕ) → at < length s → part s at 1 ≡ get_or s at 0 ∷ []
unfolding part
part_one s at h = rw (drop-cons s at 0 h)

-- what the test of room says
pub room_yes : (r : Bool) (a n : ℕ) → r ≡ leb a n → r ≡ true → a ≤ n
room_yes r a n e t = leb-true a n (sym e ∙ t)

pub room_no : (r : Bool) (a n : ℕ) → r ≡ leb a n → r ≡ false → n < a
room_no r a n e t = leb-false a n (sym e ∙ t)

pub room_in : (r : Bool) (a n : ℕ) → r ≡ leb a n → not r ≡ false → a ≤ n
room_in r a n e t = room_yes r a n e (not-false r t)

-- no bytes laid over a list leave it
pub over_none : (l : List ℕ) (at : ℕ) → over l at [] ≡ l
unfolding over
over_none l at = rw (add-zero, take-append-drop)

-- a store is one byte laid over
pub over_set : (l : List ℕ) (at v : ℕ) → at < length l → set l at v ≡ over l at (v ∷ [])
unfolding over
over_set l at v h = rw (add-one, set_split l at v h)

head_length : (l : List ℕ) (at : ℕ) (a : List ℕ) → at + length a ≤ length l → length (take at l ++ a) ≡ at + length a
head_length l at a h = let k : at ≤ length l = omega arith in rw (length-append, length-take-le at l k)

pub length_over : (l : List ℕ) (at : ℕ) (a : List ℕ) → at + length a ≤ length l → length (over l at a) ≡ length l
unfolding over
length_over l at a h =
    let k : at ≤ length l = omega arith in
    simp (length-append, length-take-le at l k, length-drop) (omega arith)

drop_beyond : (p r : List ℕ) (n k : ℕ) → length p ≡ n → drop (n + k) (p ++ r) ≡ drop k r
drop_beyond p r n k e = rw (← e) (drop-append-add p r k)

-- bytes, and bytes right behind them
pub over_over : (l : List ℕ) (i j : ℕ) (a b : List ℕ) → j ≡ i + length a → i + length a ≤ length l
    → over (over l i a) j b ≡ over l i (a ++ b)
unfolding over
over_over l i j a b e h =
    let r : List ℕ = drop (i + length a) l in
    let q : take i l ++ (a ++ r) ≡ take i l ++ a ++ r = sym (append_assoc (take i l) a r) in
    let n : length (take i l ++ a) ≡ i + length a = head_length l i a h in
    let front : take j (take i l ++ (a ++ r)) ≡ take i l ++ a = rw (q, e) (take_at (take i l ++ a) r (i + length a) n) in
    let back : drop (j + length b) (take i l ++ (a ++ r)) ≡ drop (i + length (a ++ b)) l =
    rw (q, e, drop_beyond (take i l ++ a) r (i + length a) (length b) n, drop-drop (length b) (i + length a) l, length-append, add_assoc) in
    rw (front, back) (simp append_assoc)

-- a copy of j elements, and the store that makes it one more
pub over_more : (l : List ℕ) (at : ℕ) (s : List ℕ) (j : ℕ) → j < length s → at + length s ≤ length l
    → set (over l at (take j s)) (at + j) (get_or s j 0) ≡ over l at (take (j + 1) s)
over_more l at s j h k =
    let n : length (take j s) ≡ j = length-take-le j s (omega arith) in
    let f : at + length (take j s) ≤ length l = omega arith in
    let m : at + j < length (over l at (take j s)) = rw (length_over l at (take j s) f) (omega arith) in
    over_set (over l at (take j s)) (at + j) (get_or s j 0) m
    ∙ over_over l at (at + j) (take j s) (get_or s j 0 ∷ []) (omega arith) f
    ∙ ap (over l at) (rw (add-one, take-suc s j 0 h))

-- two stores side by side
pub over_two : (l : List ℕ) (i a b : ℕ) → i + 2 ≤ length l → set (set l i a) (i + 1) b ≡ over l i (a ∷ b ∷ [])
over_two l i a b h =
    let k : i < length l = omega arith in
    let m : i + 1 < length (set l i a) = simp length-set (omega arith) in
    over_set (set l i a) (i + 1) b m
    ∙ ap (λ (x : List ℕ). over x (i + 1) (b ∷ [])) (over_set l i a k)
    ∙ over_over l i (i + 1) (a ∷ []) (b ∷ []) refl (omega arith)

-- bytes laid over two lists that are alike around them
over_alike : (m l : List ℕ) (at : ℕ) (b : List ℕ) → take at m ≡ take at l → drop (at + length b) m ≡ drop (at + length b) l → over m at b ≡ over l at b
unfolding over
over_alike m l at b p q = rw (p, q)

-- what bytes laid over a list leave, and what they put there
module _ (l : List ℕ) (at : ℕ) (a : List ℕ) (fits : at + length a ≤ length l) where
  seam : over l at a ≡ take at l ++ a ++ drop (at + length a) l
  unfolding over
  seam = sym (append_assoc (take at l) a (drop (at + length a) l))

  -- all up to their end
  pub over_upto : take (at + length a) (over l at a) ≡ take at l ++ a
  over_upto = rw seam (take_at (take at l ++ a) (drop (at + length a) l) (at + length a) (head_length l at a fits))

  -- all behind them
  pub over_behind : drop (at + length a) (over l at a) ≡ drop (at + length a) l
  over_behind = rw seam (drop_at (take at l ++ a) (drop (at + length a) l) (at + length a) (head_length l at a fits))

  -- all before them
  pub over_before : take at (over l at a) ≡ take at l
  unfolding over
  over_before = take_at (take at l) (a ++ drop (at + length a) l) at (length-take-le at l (omega arith))

  -- they themselves
  pub over_there : part (over l at a) at (length a) ≡ a
  unfolding part over
  over_there =
      rw (drop_at (take at l) (a ++ drop (at + length a) l) at (length-take-le at l (omega arith)))
      (take_at a (drop (at + length a) l) (length a) refl)

  -- as many other bytes laid over them
  pub over_again : (b : List ℕ) → length b ≡ length a → over (over l at a) at b ≡ over l at b
  over_again b e = over_alike (over l at a) l at b over_before (rw e over_behind)

-- a part laid over its own place changes nothing
pub over_same : (l : List ℕ) (at len : ℕ) → at + len ≤ length l → over l at (part l at len) ≡ l
unfolding over part
over_same l at len h = go (part l at len) refl (length_part l at len h)
  where
    go : (p : List ℕ) → p ≡ take len (drop at l) → length p ≡ len → over l at p ≡ l
    go p q e = rw (e, ← drop-drop len at l, q, take-append-drop len (drop at l), take-append-drop at l)
