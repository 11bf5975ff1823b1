-- Fields without fault, header by header and attribute by attribute: what every piece asks of its own.
-- Assumes nothing.
use mathlib.Core.Path.{◌≡◌}
use mathlib.Core.List.{List, [], ◌∷◌}
use Rattle.packet.specs.declared.Direction.{Direction}
use Rattle.building.specs.Fault.{first_fault}
use Rattle.building.specs.Field.{Field, faults_of}
use Rattle.messages.specs.Message.{Header, Attribute}
use Rattle.messages.specs.Bytes.{header_fields, attribute_fields}

-- fields without fault
abbrev pub FieldsFine : List Field → Type 0
FieldsFine own = first_fault (faults_of own) ≡ 0

-- each header's fields are
abbrev pub HeadersFine : Direction → List Header → Type 0
HeadersFine direction [] = Unit
HeadersFine direction (header ∷ later) = FieldsFine (header_fields direction header) × HeadersFine direction later

-- each attribute's fields are
abbrev pub AttributesFine : List Attribute → Type 0
AttributesFine [] = Unit
AttributesFine (attribute ∷ later) = FieldsFine (attribute_fields attribute) × AttributesFine later
