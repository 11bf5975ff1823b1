-- A string that is lent to be built, None for null: whether it is null, and its bytes, none of null.
-- Assumes nothing.
use Rattle.std.specs.Prelude.{Bool, true, false, List, [], ℕ, Option, Some, None}
use denote.Ref.{Bor}

abbrev pub is_null : Option (Bor (List ℕ)) → Bool
is_null None = true
is_null (Some text) = false

abbrev pub bytes_in : Option (Bor (List ℕ)) → List ℕ
bytes_in None = []
bytes_in (Some text) = text.now
