-- The length of the body that a message declares: the decimal value of the one content-length among a Forward's headers, 0 where there is
-- none. It is said of the headers as they are shown, and by the list of names, not by how reading judges them.
-- Document 01, 'Server to container', Header: content-length; 'The cycle': declared.
-- Assumes nothing.
use Rattle.std.specs.Prelude.{◌≡◌, Bool, true, List, [], ◌∷◌, ℕ, ◌+◌, ◌-◌, ◌*◌, ◌≤◌}
use Rattle.wire.specs.Pick.{pick, between, all}
use Rattle.names.specs.Names.{ascii, name_for, same_name}
use Rattle.names.specs.declared.NameList.{NameList}
use Rattle.messages.specs.Message.{Text, null, text, MessageName, coded, spelled, Header, Message, cping, cpong, forward, body, get_body, send_headers, body_chunk, end}

-- the text of a request header's name: the listed one for a code, or as it is spelled out
abbrev pub name_text : MessageName → List ℕ
name_text (coded n) = name_for NameList.RequestHeaders n
name_text (spelled bytes) = bytes

-- whether it is content-length, in capital or small letters
abbrev pub names_length : MessageName → Bool
names_length name = same_name true (ascii "content-length") (name_text name)

-- the values of the headers whose name is content-length
abbrev pub length_values : List Header → List Text
length_values [] = []
length_values (header ∷ later) = pick (names_length header.name) (header.value ∷ length_values later) (length_values later)

-- the byte of the digit 0, and that of 9
abbrev pub zero_digit : ℕ
zero_digit = 48

abbrev pub nine_digit : ℕ
nine_digit = 57

-- the decimal value of digits behind those that make n: each makes ten times so far and its own
abbrev pub value_from : ℕ → List ℕ → ℕ
value_from n [] = n
value_from n (digit ∷ later) = value_from (n * 10 + (digit - zero_digit)) later

-- the decimal value of digits
abbrev pub decimal_value : List ℕ → ℕ
decimal_value digits = value_from 0 digits

-- the most that a request may declare
abbrev pub most_declared : ℕ
most_declared = 4294967295

-- n is what these values of content-length declare: 0 where there is none, else the decimal value of the one; there are no two, and none is null
abbrev pub LengthDeclared : ℕ → List Text → Type 0
LengthDeclared n [] = n ≡ 0
LengthDeclared n (null ∷ later) = ⊥
LengthDeclared n (text digits ∷ []) = (n ≡ decimal_value digits) × (all (between zero_digit nine_digit) digits ≡ true) × (n ≤ most_declared)
LengthDeclared n (text digits ∷ second ∷ later) = ⊥

-- n is what a message declares: only a Forward does
abbrev pub MessageDeclares : ℕ → Message → Type 0
MessageDeclares n cping = n ≡ 0
MessageDeclares n cpong = n ≡ 0
MessageDeclares n (forward request) = LengthDeclared n (length_values request.headers)
MessageDeclares n (body bytes) = n ≡ 0
MessageDeclares n (get_body asked) = n ≡ 0
MessageDeclares n (send_headers response) = n ≡ 0
MessageDeclares n (body_chunk bytes) = n ≡ 0
MessageDeclares n (end reuse) = n ≡ 0
