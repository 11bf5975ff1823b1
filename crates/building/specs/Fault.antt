-- A fault is a refusal number, 0 for none. Of several faults the first one counts.
-- Document 01, 'Refusal numbers': first fault wins; 'Building': the order in which a call checks.
-- Assumes nothing.
use Rattle.std.specs.Prelude.{◌≡◌, Bool, true, List, [], ◌∷◌, ℕ, leb, eqb}
use Rattle.wire.specs.Pick.{pick, between}
use Rattle.wire.specs.Refusal.{none, too_long, string_wrong, out_of_range, buffer_too_short, is_fault}
use Rattle.wire.specs.Field.{is_optional, string_allowed}
use Rattle.wire.specs.declared.StringField.{StringField}
use Rattle.connection.specs.Connection.{max_packet}

-- the fault of a test that does not hold
abbrev pub unless : Bool → ℕ → ℕ
unless holds fault = pick holds none fault

-- a fault, or where there is none the one that is looked for behind it
abbrev pub or_else : ℕ → ℕ → ℕ
or_else fault later = pick (eqb fault none) later fault

-- the first fault of those that were found before and of a list
abbrev pub fault_after : ℕ → List ℕ → ℕ
fault_after before [] = before
fault_after before (fault ∷ later) = fault_after (or_else before fault) later

-- the first fault of a list
abbrev pub first_fault : List ℕ → ℕ
first_fault = fault_after none

-- every number of a list is a fault
abbrev pub AllFaults : List ℕ → Type 0
AllFaults [] = Unit
AllFaults (fault ∷ later) = (is_fault fault ≡ true) × AllFaults later

-- a string that may not stand in a field is 6
unfoldable pub string_fault : StringField → Bool → List ℕ → ℕ
string_fault field null text = unless (string_allowed (is_optional field) null text) string_wrong

-- a number that is not from `low` to `high` is 7
unfoldable pub range_fault : ℕ → ℕ → ℕ → ℕ
range_fault low high n = unless (between low high n) out_of_range

-- bytes that end at a place, in a buffer with so much room: past 8192 is 2, and then past the buffer is 15
unfoldable pub fit_fault : ℕ → ℕ → ℕ
fit_fault end room = pick (leb end max_packet) (unless (leb end room) buffer_too_short) too_long
