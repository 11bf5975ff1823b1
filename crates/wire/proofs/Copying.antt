-- A loop that copies a list over another from a place on, element by element: how far it has come, its start, its turn and its end.
-- Assumes nothing.
use native.Mathlib.Omega.{arith}
use mathlib.Core.Path.{◌≡◌, refl, sym, ap, ◌∙◌}
use mathlib.Core.List.{List, ◌++◌}
use Prim.Native.Nat.{ℕ, ◌+◌, ◌≤◌, ◌<◌}
use lib.ListN.{length, take, set, get_or, length-set, get_or-append}
use lib.Seq.{take-length}
use Rattle.wire.specs.Bytes.{over}
use Rattle.wire.proofs.Bytes.{over_none, over_more}

-- the first i elements are copied, and the others are the list's own
abbrev pub Copying : List ℕ → ℕ → List ℕ → List ℕ → ℕ → Type 0
Copying entry at from list i = (i ≤ length from) × ((list ≡ over entry at (take i from)) × (length list ≡ length entry))

module _ (entry : List ℕ) (at : ℕ) (from : List ℕ) where
  pub copying_start : Copying entry at from entry 0
  copying_start = (omega arith, (sym (over_none entry at), refl))

  module _ (list : List ℕ) (i : ℕ) (c : Copying entry at from list i) where
    -- one element more
    pub copying_turn : (place : ℕ) → place ≡ at + i → i < length from → at + length from ≤ length entry → Copying entry at from (set list place (get_or from i 0)) (i + 1)
    copying_turn place e h fits = (
      omega arith,
      (
        ap (λ (l : List ℕ). set l place (get_or from i 0)) c.1.0 ∙ rw e (over_more entry at from i h fits),
        length-set list place (get_or from i 0) ∙ c.1.1,
      ),
    )

    -- one element more, from another list that has them at its front
    pub copying_front : (front behind : List ℕ) → front ≡ from → i < length from → at + length from ≤ length entry
        → Copying entry at from (set list (at + i) (get_or (front ++ behind) i 0)) (i + 1)
    copying_front front behind e h fits = rw (e, get_or-append from behind 0 i h) (copying_turn (at + i) refl h fits)

    -- all of them
    pub copying_end : length from ≤ i → list ≡ over entry at from
    copying_end h =
        let few : i ≤ length from = c.0 in
        let e : i ≡ length from = omega arith in
        c.1.0 ∙ ap (over entry at) (rw e (take-length from))
