-- A table that follows a rule at every entry: the table is the list of the rule's values, which antt computes and compares.
-- Assumes nothing.
use mathlib.Core.Path.{◌≡◌, ◌∙◌, ap, sym}
use mathlib.Core.List.{List, [], ◌∷◌}
use Prim.Native.Nat.{ℕ, zero, suc, ◌+◌, ◌<◌}
use native.Mathlib.Nat.{add-zero, zero-add, add-suc, suc-add, le_of_suc-le-suc, not-suc-le-zero}
use lib.ListN.{get_or}

module _ {A : Type 0} (rule : ℕ → A) where
  -- the rule's values at n numbers from i on
  abbrev pub values : ℕ → ℕ → List A
  values i zero = []
  values i (suc n) = rule i ∷ values (suc i) n

  from : (i n k : ℕ) (d : A) → k < n → get_or (values i n) k d ≡ rule (i + k)
  from i zero k d h = absurd (not-suc-le-zero h)
  from i (suc n) zero d h = ap rule (sym (add-zero i))
  from i (suc n) (suc k) d h = from (suc i) n k d (le_of_suc-le-suc h) ∙ ap rule (suc-add i k ∙ sym (add-suc i k))

  -- what stands at a place of the table
  pub at : (n k : ℕ) (d : A) → k < n → get_or (values 0 n) k d ≡ rule k
  at n k d h = from 0 n k d h ∙ ap rule (zero-add k)

-- two rules that agree at each of n numbers, which antt computes
pub agree : {A : Type 0} (f g : ℕ → A) (d : A) (n : ℕ) → values f 0 n ≡ values g 0 n → (i : ℕ) → i < n → f i ≡ g i
agree f g d n e i h = sym (at f n i d h) ∙ ap (λ l. get_or l i d) e ∙ at g n i d h
