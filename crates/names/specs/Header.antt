-- What a header's name may be: a listed code, or a text that is spelled out.
-- Document 01, 'Server to container', Header, and rows 8 and 10 of its refusals.
-- Assumes nothing.
use Rattle.std.specs.Prelude.{Bool, true, false, List, ℕ, eqb, Option, Some, None}
use Rattle.wire.specs.Pick.{pick, both}
use Rattle.wire.specs.Refusal.{none, name_wrong, content_length_wrong}
use Rattle.packet.specs.declared.Direction.{Direction}
use Rattle.names.specs.declared.NameList.{NameList}
use Rattle.names.specs.Token.{is_token}
use Rattle.names.specs.Names.{ascii, is_listed, same_name, code_in}

-- whether a name that begins with this byte is a code; if not, its first two bytes are a string's length
abbrev pub begins_code : ℕ → Bool
begins_code first = eqb first 0xA0

-- the header names of a direction
abbrev pub header_names : Direction → NameList
header_names Direction.ToContainer = NameList.RequestHeaders
header_names Direction.ToServer = NameList.ResponseHeaders

-- a code that is not listed is 8
unfoldable pub code_fault : Direction → ℕ → ℕ
code_fault direction n = pick (is_listed (header_names direction) n) none name_wrong

-- a code was found
abbrev pub is_found : Option ℕ → Bool
is_found (Some n) = true
is_found None = false

-- a text that spells transfer-encoding, case ignored
unfoldable pub is_transfer_encoding : List ℕ → Bool
is_transfer_encoding text = same_name true (ascii "transfer-encoding") text

-- a request is what goes to the container
abbrev pub is_request : Direction → Bool
is_request Direction.ToContainer = true
is_request Direction.ToServer = false

-- of the names that are not listed, transfer-encoding is 10 in a request
unfoldable pub unlisted_fault : Direction → List ℕ → ℕ
unlisted_fault direction text = pick (both (is_request direction) (is_transfer_encoding text)) content_length_wrong none

-- a spelled name that is no token is 8, and so is a listed one
unfoldable pub spelled_fault : Direction → List ℕ → ℕ
spelled_fault direction text =
    pick (is_token text)
    (pick (is_found (code_in (header_names direction) text)) name_wrong (unlisted_fault direction text))
    name_wrong
