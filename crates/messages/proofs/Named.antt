-- A header whose name is given as a text (`header::named`) is the header of a message too: by its code where the name is listed, and else
-- spelled out.
-- Assumes nothing.
use mathlib.Core.List.{List}
use mathlib.Core.Path.{◌≡◌, refl}
use Prim.Native.Nat.{ℕ}
use Rattle.std.specs.Prelude.{Option, Some, None}
use Rattle.names.specs.Header.{header_names}
use Rattle.names.specs.Names.{code_in}
use Rattle.building_record.specs.declared.Building.{Building}
use Rattle.pieces.specs.Header.{named_by, named_call}
use Rattle.building_record.specs.Record.{direction_in}
use Rattle.messages.specs.Message.{Text, MessageName, coded, spelled, is_null, content_of}
use Rattle.messages.specs.Writing.{header_call_by}

-- the name of a message for a text, by the code that was found for it
abbrev pub name_for : List ℕ → Option ℕ → MessageName
name_for name (Some code) = coded code
name_for name None = spelled name

-- the call is that of a header with this name
pub named_writes : (r : Building) (buffer name : List ℕ) (value : Text)
    → named_call r buffer name (is_null value) (content_of value) ≡ header_call_by r buffer value (name_for name (code_in (header_names (direction_in r)) name))
unfolding named_call
named_writes r buffer name value = go (code_in (header_names (direction_in r)) name)
  where
    go : (found : Option ℕ) → named_by r buffer name (is_null value) (content_of value) found ≡ header_call_by r buffer value (name_for name found)
    go (Some code) = refl
    go None = refl
