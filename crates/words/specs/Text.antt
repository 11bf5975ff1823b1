-- A string that a flag and a text are: null where the flag is set, whatever the text.
-- The C boundary.
-- Assumes nothing.
use Rattle.std.specs.Prelude.{Bool, List, ℕ, Option, Some, None}
use denote.Ref.{Bor}
use Rattle.wire.specs.Pick.{pick}
use Rattle.pieces.specs.declared.forward.Nulls.{Nulls}
use Rattle.pieces.specs.declared.forward.Strings.{Strings}

unfoldable pub given : Bool → Bor (List ℕ) → Option (Bor (List ℕ))
given null text = pick null None (Some text)

-- a Forward's five
abbrev pub strings_given : Nulls → (protocol uri addr host name : Bor (List ℕ)) → Strings
strings_given nulls protocol uri addr host name = record {
  protocol = given nulls.protocol protocol;
  req_uri = given nulls.req_uri uri;
  remote_addr = given nulls.remote_addr addr;
  remote_host = given nulls.remote_host host;
  server_name = given nulls.server_name name;
}
