-- A capture in parts, as a caller feeds it: the bytes that no whole packet has yet taken are kept, and the next part is put behind them.
-- Document 02, A1.
-- Assumes nothing.
use Rattle.std.specs.Prelude.{List, [], ◌∷◌, ◌++◌, ℕ, ◌-◌, drop}
use Rattle.checking.specs.declared.Checking.{Checking}
use Rattle.checking.specs.Checking.{begun, gone_on}

-- a check on the way, and the bytes that are kept
pub record Feeding : Type 0 where
  pub checking : Checking
  pub kept : List ℕ

-- how many bytes one step takes: by so many its place moves
abbrev pub taken_by : Checking → Checking → ℕ
taken_by before after = after.place - before.place

-- one more part
abbrev pub fed_part : Feeding → List ℕ → Feeding
fed_part f part = record {
  checking = gone_on f.checking (f.kept ++ part);
  kept = drop (taken_by f.checking (gone_on f.checking (f.kept ++ part))) (f.kept ++ part);
}

-- parts, one after the other
abbrev pub fed_parts : Feeding → List (List ℕ) → Feeding
fed_parts f [] = f
fed_parts f (part ∷ later) = fed_parts (fed_part f part) later

-- from the beginning
abbrev pub feeding_begun : Feeding
feeding_begun = record { checking = begun; kept = [] }
