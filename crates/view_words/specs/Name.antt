-- The lists of names by their numbers, and what the calls on names and codes tell.
-- The C boundary.
-- Assumes nothing.
use Rattle.std.specs.Prelude.{List, ℕ, leb, eqb, length}
use Rattle.wire.specs.Pick.{pick, both}
use Rattle.names.specs.Names.{is_listed, name_for}
use Rattle.names.specs.Row.{name_room, row_of}
use Rattle.std.specs.Prelude.{Option, Some, None}
use Rattle.names.specs.declared.NameList.{NameList}
use Rattle.building.specs.Fault.{unless, or_else}
use Rattle.words.specs.Status as status
use Rattle.words.specs.Number.{capped}

-- the last of the lists' numbers
abbrev pub last_list : ℕ
last_list = 3

-- the list that a number says
unfoldable pub list_in : ℕ → NameList
list_in word =
    pick (eqb word 0) NameList.Methods
    (pick (eqb word 1) NameList.RequestHeaders (pick (eqb word 2) NameList.ResponseHeaders NameList.Attributes))

-- the fault of a list's number
abbrev pub list_fault : ℕ → ℕ
list_fault list = unless (leb list last_list) status.argument

-- the fault of a call that tells a name: by the array lent for it and by the list's number
unfoldable pub name_fault : ℕ → List ℕ → ℕ
name_fault list name = or_else (unless (eqb (length name) name_room) status.answer_length) (list_fault list)

-- the array after it: the name with zeros behind it where it is listed
unfoldable pub name_after : ℕ → ℕ → List ℕ → List ℕ
name_after list code name =
    pick (both (eqb (name_fault list name) status.done) (is_listed (list_in list) (capped code))) (row_of (name_for (list_in list) (capped code))) name

-- the number of a code that was looked for: 0 where the name is not listed
abbrev pub code_number : Option ℕ → ℕ
code_number (Some code) = code
code_number None = 0
