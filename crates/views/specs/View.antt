-- What the fields of a packet show at a place. Any bytes and any place have an answer; that it is the field of the packet, where reading
-- gave the place, is shown beside the proofs.
-- Document 01, 'Bytes and numbers': strings; 'Server to container', Header.
-- Assumes nothing.
use Rattle.std.specs.Prelude.{Bool, List, [], ℕ, ◌+◌, leb, eqb, length, get_or}
use Rattle.wire.specs.Pick.{pick, both}
use Rattle.wire.specs.Bytes.{part, integer_in}
use Rattle.wire.specs.Field.{null_length}
use Rattle.names.specs.Header.{begins_code}
use Rattle.packet.specs.declared.HeaderName.{HeaderName}

-- the integer at a place, 0 where it is not there
unfoldable pub integer_view : List ℕ → ℕ → ℕ
integer_view s at = pick (leb (at + 2) (length s)) (integer_in s at) 0

-- the string at a place is null
unfoldable pub null_view : List ℕ → ℕ → Bool
null_view s at = eqb (integer_view s at) null_length

-- the bytes of the string at a place
unfoldable pub text_view : List ℕ → ℕ → List ℕ
text_view s at = pick (null_view s at) [] (part s (at + 2) (integer_view s at))

-- the header's name at a place: a code where its first byte says so, else a string
unfoldable pub name_view : List ℕ → ℕ → HeaderName
name_view s at =
    pick (both (leb (at + 1) (length s)) (begins_code (get_or s at 0))) (HeaderName.Code (integer_view s at)) HeaderName.Spelled
