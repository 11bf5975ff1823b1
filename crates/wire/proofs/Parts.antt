-- Parts of a list of bytes, and bytes that are laid over a buffer from its first place on: they stand there one behind the other, and as many
-- others may be laid over those in the middle. All of it is what `take` and `drop` do with lists put together.
-- Assumes nothing.
use native.Mathlib.Omega.{arith}
use borrow.Author.Tests.{ltb-true, ltb-false}
use mathlib.Core.Path.{◌≡◌, refl, sym, ap, ◌∙◌}
use mathlib.Core.Bool.{Bool, true, false}
use mathlib.Core.List.{List, [], ◌++◌, append_assoc}
use Prim.Native.Nat.{ℕ, ◌+◌, ◌-◌, ◌≤◌, ◌<◌}
use lib.Dec.{ltb}
use lib.ListN.{length, take, drop, get_or, length-append, length-take, length-drop, get_or-eq_default}
use lib.Seq.{take_all, take_at, drop_at, drop-append-add, get_or-take, get_or-drop}
use Rattle.wire.specs.Bytes.{part, over}
use Rattle.wire.proofs.Bytes.{part_middle, part_add, over_there}
use Rattle.wire.specs.Facts.{Bytes}

-- a part without bytes
pub part_zero : (s : List ℕ) (at : ℕ) → part s at 0 ≡ []
unfolding part
part_zero s at = refl

-- what stands behind a place is a part of its own length
pub rest_part : (s : List ℕ) (at n : ℕ) → length s ≡ at + n → drop at s ≡ part s at n
unfolding part
rest_part s at n e = sym (take_all n (drop at s) (omega (arith, length-drop at s)))

-- two parts side by side are one
pub part_join : (s : List ℕ) (at middle end : ℕ) → at ≤ middle → middle ≤ end
    → part s at (end - at) ≡ part s at (middle - at) ++ part s middle (end - middle)
part_join s at middle end h k =
    let whole : end - at ≡ (middle - at) + (end - middle) = omega arith in
    let seam : at + (middle - at) ≡ middle = omega arith in
    ap (part s at) whole
    ∙ part_add s at (middle - at) (end - middle)
    ∙ ap (λ (i : ℕ). part s at (middle - at) ++ part s i (end - middle)) seam

-- two lists that are one, parted at the same place, have the same first part
pub same_front : (a b c d : List ℕ) → a ++ b ≡ c ++ d → length a ≡ length c → a ≡ c
same_front a b c d e n = sym (take_at a b (length c) n) ∙ ap (take (length c)) e ∙ take_at c d (length c) refl

-- and the same second part
pub same_rest : (a b c d : List ℕ) → a ++ b ≡ c ++ d → length a ≡ length c → b ≡ d
same_rest a b c d e n = sym (drop_at a b (length c) n) ∙ ap (drop (length c)) e ∙ drop_at c d (length c) refl

-- every part of a list of bytes is one
pub bytes_part : (s : List ℕ) (start len : ℕ) → Bytes s → Bytes (part s start len)
unfolding part
bytes_part s start len bytes i = go (ltb i len) refl
  where
    go : (t : Bool) → ltb i len ≡ t → get_or (take len (drop start s)) i 0 < 256
    go true e = rw (get_or-take len (drop start s) i 0 (ltb-true i len e), get_or-drop start s i 0) (bytes (start + i))
    go false e =
        let past : length (take len (drop start s)) ≤ i = omega (arith, length-take len (drop start s), ltb-false i len e) in
        rw (get_or-eq_default (take len (drop start s)) 0 past) (omega arith)

-- bytes that were laid over a buffer from its first place on stand there
pub stands_there : (own buffer left : List ℕ) (n : ℕ) → n ≡ length own → left ≡ over buffer 0 own → length own ≤ length buffer → part left 0 n ≡ own
stands_there own buffer left n size is fits = rw (is, size) (over_there buffer 0 own (omega arith))

-- two lists that were laid over a table from its start on
module _ (table first second : List ℕ) where
  -- they stand one behind the other
  over_both : over table 0 (first ++ second) ≡ first ++ (second ++ drop (0 + length (first ++ second)) table)
  unfolding over
  over_both = append_assoc first second (drop (0 + length (first ++ second)) table)

  -- the first is at its start
  pub over_first : part (over table 0 (first ++ second)) 0 (length first) ≡ first
  over_first =
      ap (λ (l : List ℕ). part l 0 (length first)) over_both ∙ part_middle [] first (second ++ drop (0 + length (first ++ second)) table)

  -- and the second is behind it
  pub over_second : part (over table 0 (first ++ second)) (length first) (length second) ≡ second
  over_second =
      ap (λ (l : List ℕ). part l (length first) (length second)) over_both
      ∙ part_middle first second (drop (0 + length (first ++ second)) table)

-- bytes laid over as many bytes in the middle of a list
over_middle : (a x y b : List ℕ) → length x ≡ length y → over (a ++ (x ++ b)) (length a) y ≡ a ++ (y ++ b)
unfolding over
over_middle a x y b e =
    let back : drop (length a + length y) (a ++ (x ++ b)) ≡ b = drop-append-add a (x ++ b) (length y) ∙ drop_at x b (length y) e in
    rw (take_at a (x ++ b) (length a) refl, back)

-- bytes in three parts from a buffer's first place on
over_parts : (buffer a x b : List ℕ) (n : ℕ) → length x ≡ n
    → over buffer 0 (a ++ (x ++ b)) ≡ a ++ (x ++ (b ++ drop (length a + (n + length b)) buffer))
unfolding over
over_parts buffer a x b n e =
    let size : 0 + length (a ++ (x ++ b)) ≡ length a + (n + length b) = omega (arith, length-append a (x ++ b), length-append x b) in
    rw (size, append_assoc a (x ++ b), append_assoc x b)

-- as many other bytes laid over the middle one
pub over_inside : (buffer a x y b : List ℕ) (at : ℕ) → at ≡ length a → length x ≡ length y
    → over (over buffer 0 (a ++ (x ++ b))) at y ≡ over buffer 0 (a ++ (y ++ b))
over_inside buffer a x y b at e f =
    let rest : List ℕ = drop (length a + (length y + length b)) buffer in
    ap (λ (i : ℕ). over (over buffer 0 (a ++ (x ++ b))) i y) e
    ∙ ap (λ (l : List ℕ). over l (length a) y) (over_parts buffer a x b (length y) f)
    ∙ over_middle a x y (b ++ rest) f
    ∙ sym (over_parts buffer a y b (length y) refl)
