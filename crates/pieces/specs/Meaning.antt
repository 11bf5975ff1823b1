-- What the answer of a piece says, in document 01's terms: refused with a number, or the next building record.
-- Document 01, 'Building'.
-- Assumes nothing.
use Rattle.std.specs.Prelude.{ℕ, Result, Ok, Err}
use Rattle.wire.specs.Refusal.{number_of}
use Rattle.wire.specs.declared.refusal.Refusal.{Refusal}
use Rattle.building.specs.Call.{Outcome, refused, done}
use Rattle.building_record.specs.declared.Building.{Building}

-- what each case of the answer says
abbrev pub added_outcome : Result Building Refusal → Outcome Building
added_outcome (Err refusal) = refused (number_of refusal)
added_outcome (Ok r) = done r

-- the same of an answer that tells the number
abbrev pub numbered_outcome : Result Building ℕ → Outcome Building
numbered_outcome (Err n) = refused n
numbered_outcome (Ok r) = done r
