-- A loop that goes over a whole list with a flag for its answer so far, and a fold that does. What the loop keeps true: the flag and the test of
-- the elements still to come, put together, are the test of all elements: a law for a turn and one for the end. And `any` place by place: no
-- element passes a test exactly where none at any place does.
-- Assumes nothing.
use mathlib.Core.Path.{◌≡◌, refl, sym, ◌∙◌}
use mathlib.Core.Bool.{Bool, false}
use mathlib.Core.List.{List, [], ◌∷◌}
use Prim.Native.Nat.{ℕ, zero, suc, ◌+◌, ◌≤◌, ◌<◌}
use native.Mathlib.Numerals.{add-one}
use native.Mathlib.Omega.{arith}
use lib.ListN.{length, get_or, drop}
use lib.Seq.{drop-cons, drop-length}
use Rattle.std.specs.List.{fold}
use Rattle.wire.specs.Pick.{both, either, all, any}
use Rattle.wire.proofs.Tests.{either_assoc, either_false, both_assoc, both_true, neither_first, neither_second}

module _ (p : ℕ → Bool) (s : List ℕ) (flag : Bool) (i : ℕ) where
  -- one element more is passed: t is its test
  pub all_step : (t : Bool) → i < length s → t ≡ p (get_or s i 0) → both flag (all p (drop i s)) ≡ all p s
      → both (both flag t) (all p (drop (i + 1) s)) ≡ all p s
  unfolding all
  all_step t h e so_far =
      rw (both_assoc flag t (all p (drop (i + 1) s)), e, add-one i) (rw (drop-cons s i 0 h) at so_far)

  -- all are passed
  pub all_end : i ≤ length s → length s ≤ i → both flag (all p (drop i s)) ≡ all p s → flag ≡ all p s
  unfolding all
  all_end h k so_far =
      let e : i ≡ length s = omega arith in
      sym (both_true flag) ∙ (rw (e, drop-length s) at so_far)

-- a fold with a flag that is set where an element passes
pub any_fold : (p : ℕ → Bool) (flag : Bool) (s : List ℕ) → fold (λ found x. either found (p x)) flag s ≡ either flag (any p s)
unfolding any
any_fold p flag [] = sym (either_false flag)
any_fold p flag (x ∷ s) = any_fold p (either flag (p x)) s ∙ either_assoc flag (p x) (any p s)

-- place by place
module _ (p : ℕ → Bool) where
  -- where no element passes, none at a place does
  pub none_each : (s : List ℕ) → any p s ≡ false → (i : ℕ) → i < length s → p (get_or s i 0) ≡ false
  unfolding any
  none_each [] e i h = absurd (omega arith)
  none_each (x ∷ s) e zero h = neither_first (p x) (any p s) e
  none_each (x ∷ s) e (suc i) h = none_each s (neither_second (p x) (any p s) e) i (omega arith)

  -- and the other way
  pub each_none : (s : List ℕ) → ((i : ℕ) → i < length s → p (get_or s i 0) ≡ false) → any p s ≡ false
  unfolding any
  each_none [] f = refl
  each_none (x ∷ s) f =
      let here : p x ≡ false = f 0 (omega arith) in
      let behind : any p s ≡ false = each_none s (λ i h. f (suc i) (omega arith)) in
      rw (here, behind)
