-- Names as they are handed out: by value, with zeros behind them.
-- Assumes nothing.
use Rattle.std.specs.Prelude.{List, ◌++◌, ℕ, ◌-◌, length, take, replicate}
use Rattle.packet.specs.declared.Name.{Name}

-- room for the longest name, transfer-encoding
abbrev pub name_room : ℕ
name_room = 17

-- a name's bytes with zeros behind them
abbrev pub row_of : List ℕ → List ℕ
row_of name = name ++ replicate (name_room - length name) 0

-- a name as it is handed out: its bytes with zeros behind them, and how many it has
abbrev pub padded : List ℕ → Name
padded name = record { bytes = row_of name; len = length name }

-- the bytes of a name that was handed out
abbrev pub name_bytes : Name → List ℕ
name_bytes name = take name.len name.bytes
