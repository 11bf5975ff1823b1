-- Strings that are given as a flag and a text: a piece is the same as with the flag and the text themselves, since the text of a null string
-- does not matter.
-- Assumes nothing.
use mathlib.Core.Path.{◌≡◌, refl}
use mathlib.Core.Bool.{Bool, true, false}
use mathlib.Core.List.{List}
use Prim.Native.Nat.{ℕ}
use denote.Ref.{Bor}
use Rattle.wire.specs.Text.{is_null, bytes_in}
use Rattle.building.specs.Field.{SameText}
use Rattle.building_record.specs.declared.Building.{Building}
use Rattle.pieces.specs.declared.forward.Numbers.{Numbers}
use Rattle.pieces.specs.declared.forward.Nulls.{Nulls}
use Rattle.pieces.specs.Fixed.{forward_call, send_headers_call}
use Rattle.pieces.specs.Strings.{forward_with}
use Rattle.pieces.specs.Header.{coded_call, spelled_call, named_call}
use Rattle.pieces.specs.Attribute.{text_call, pair_call}
use Rattle.pieces.proofs.Nulls.{forward_same, send_headers_same, coded_same, spelled_same, named_same, text_same, pair_same}
use Rattle.words.specs.Text.{given, strings_given}

-- whether it is null is the flag, and its bytes are the text where they matter
null_given : (null : Bool) (text : Bor (List ℕ)) → is_null (given null text) ≡ null
unfolding given
null_given true text = refl
null_given false text = refl

bytes_given : (null : Bool) (text : Bor (List ℕ)) → SameText null (bytes_in (given null text)) text.now
unfolding given
bytes_given true text e = absurd (let z : ◌≡◌ {A = Bool} true false = e in cc)
bytes_given false text e = refl

pub coded_given : (r : Building) (buffer : List ℕ) (code : ℕ) (null : Bool) (value : Bor (List ℕ))
    → coded_call r buffer code (is_null (given null value)) (bytes_in (given null value)) ≡ coded_call r buffer code null value.now
coded_given r buffer code null value = rw null_given (coded_same r buffer code null _ _ (bytes_given null value))

pub spelled_given : (r : Building) (buffer : List ℕ) (noname : Bool) (name : Bor (List ℕ)) (novalue : Bool) (value : Bor (List ℕ))
    → spelled_call r buffer (is_null (given noname name)) (bytes_in (given noname name)) (is_null (given novalue value)) (bytes_in (given novalue value))
    ≡ spelled_call r buffer noname name.now novalue value.now
spelled_given r buffer noname name novalue value =
    rw (null_given noname name, null_given novalue value) (spelled_same r buffer noname _ _ novalue _ _ (bytes_given noname name) (bytes_given novalue value))

pub named_given : (r : Building) (buffer name : List ℕ) (null : Bool) (value : Bor (List ℕ))
    → named_call r buffer name (is_null (given null value)) (bytes_in (given null value)) ≡ named_call r buffer name null value.now
named_given r buffer name null value = rw null_given (named_same r buffer name null _ _ (bytes_given null value))

pub text_given : (r : Building) (buffer : List ℕ) (code : ℕ) (null : Bool) (value : Bor (List ℕ))
    → text_call r buffer code (is_null (given null value)) (bytes_in (given null value)) ≡ text_call r buffer code null value.now
text_given r buffer code null value = rw null_given (text_same r buffer code null _ _ (bytes_given null value))

pub pair_given : (r : Building) (buffer : List ℕ) (code : ℕ) (noname : Bool) (name : Bor (List ℕ)) (novalue : Bool) (value : Bor (List ℕ))
    → pair_call r buffer code (is_null (given noname name)) (bytes_in (given noname name)) (is_null (given novalue value)) (bytes_in (given novalue value))
    ≡ pair_call r buffer code noname name.now novalue value.now
pair_given r buffer code noname name novalue value =
    rw (null_given noname name, null_given novalue value) (pair_same r buffer code noname _ _ novalue _ _ (bytes_given noname name) (bytes_given novalue value))

pub send_headers_given : (status : ℕ) (null : Bool) (message : Bor (List ℕ))
    → send_headers_call status (is_null (given null message)) (bytes_in (given null message)) ≡ send_headers_call status null message.now
send_headers_given status null message = rw null_given (send_headers_same status null _ _ (bytes_given null message))

pub forward_given : (numbers : Numbers) (nulls : Nulls) (protocol uri addr host name : Bor (List ℕ))
    → forward_with numbers (strings_given nulls protocol uri addr host name)
    ≡ forward_call numbers nulls protocol.now uri.now addr.now host.now name.now
forward_given numbers nulls protocol uri addr host name =
    rw (null_given nulls.protocol protocol, null_given nulls.req_uri uri, null_given nulls.remote_addr addr, null_given nulls.remote_host host, null_given nulls.server_name name)
    (forward_same numbers nulls _ _ _ _ _ _ _ _ _ _ (bytes_given nulls.protocol protocol) (bytes_given nulls.req_uri uri) (bytes_given nulls.remote_addr addr) (bytes_given nulls.remote_host host) (bytes_given nulls.server_name name))
