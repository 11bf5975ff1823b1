-- A Forward's fixed numbers and flags as eight words: the method, the port, whether the request came over SSL, and which strings are null.
-- The method and is_ssl may be any words: document 01 refuses one that is out of range (7). For a port above 65535 and for a mark of a null
-- string that is no flag it has no number, so these are errors.
-- The C boundary.
-- Assumes nothing.
use Rattle.std.specs.Prelude.{Bool, List, ℕ, eqb, length}
use Rattle.wire.specs.Pick.{pick, both}
use Rattle.wire.specs.Refusal.{out_of_range}
use Rattle.building.specs.Fault.{unless}
use Rattle.pieces.specs.declared.forward.Numbers.{Numbers}
use Rattle.pieces.specs.declared.forward.Nulls.{Nulls}
use Rattle.words.specs.Status as status
use Rattle.words.specs.Number.{word, is_flag, flag_in, is_number, capped}

-- how many words, and where each stands
abbrev pub fixed_size : ℕ
fixed_size = 8

abbrev pub method_place : ℕ
method_place = 0

abbrev pub port_place : ℕ
port_place = 1

abbrev pub ssl_place : ℕ
ssl_place = 2

abbrev pub no_protocol_place : ℕ
no_protocol_place = 3

abbrev pub no_uri_place : ℕ
no_uri_place = 4

abbrev pub no_addr_place : ℕ
no_addr_place = 5

abbrev pub no_host_place : ℕ
no_host_place = 6

abbrev pub no_name_place : ℕ
no_name_place = 7

-- a port that is a 16-bit number and five flags, whatever the method and is_ssl
abbrev pub are_fixed : List ℕ → Bool
are_fixed words =
    both
    (both
    (both
    (both (both (is_number (word words port_place)) (is_flag (word words no_protocol_place))) (is_flag (word words no_uri_place)))
    (is_flag (word words no_addr_place)))
    (is_flag (word words no_host_place)))
    (is_flag (word words no_name_place))

-- their fault
unfoldable pub fixed_fault : List ℕ → ℕ
fixed_fault words = pick (eqb (length words) fixed_size) (unless (are_fixed words) status.fixed_word) status.fixed_length

-- is_ssl that is no flag: 7
abbrev pub ssl_fault : List ℕ → ℕ
ssl_fault words = unless (is_flag (word words ssl_place)) out_of_range

-- the numbers that they are, and which strings they say to be null
unfoldable pub numbers_in : List ℕ → Numbers
numbers_in words = record {
  method = capped (word words method_place);
  server_port = capped (word words port_place);
  is_ssl = flag_in (word words ssl_place);
}

unfoldable pub nulls_in : List ℕ → Nulls
nulls_in words = record {
  protocol = flag_in (word words no_protocol_place);
  req_uri = flag_in (word words no_uri_place);
  remote_addr = flag_in (word words no_addr_place);
  remote_host = flag_in (word words no_host_place);
  server_name = flag_in (word words no_name_place);
}
