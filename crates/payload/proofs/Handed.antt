-- What a packet that was read hands out is what was read in it: each number at its own place, each string, header and attribute where the
-- one before it ends, from behind the packet's code to its last byte. Each fixed field that ends somewhere was read where the one before it
-- ends, so from the last one back to the code all places and numbers are known.
-- Assumes nothing.
use mathlib.Core.Path.{◌≡◌, refl, sym, ap, subst, ◌∙◌}
use mathlib.Core.Bool.{Bool, true, false}
use mathlib.Core.List.{List, [], ◌∷◌, ◌++◌}
use Prim.Native.Nat.{ℕ, zero, suc, ◌+◌, ◌≤◌}
use native.Mathlib.Omega.{arith}
use borrow.Author.Tests.{leb-true, ltb-false, eqb-true}
use lib.Dec.{leb, ltb, eqb}
use lib.ListN.{length, get_or, length-append}
use Rattle.wire.specs.Pick.{pick, one_of, between}
use Rattle.wire.specs.Refusal.{none, out_of_range, cut_short, string_wrong, too_many, left_over}
use Rattle.wire.specs.Bytes.{part}
use Rattle.wire.specs.Field.{number_at, byte_at, integer_at, boolean_at, string_at, is_optional, boolean_number}
use Rattle.packet.specs.declared.Direction.{Direction}
use Rattle.wire.specs.declared.StringField.{StringField}
use Rattle.wire.specs.Read.{NumberRead, BooleanRead, StringRead}
use Rattle.wire.proofs.Field.{integer_inside}
use Rattle.headers.specs.Length.{declared_length}
use Rattle.wire.proofs.Tests.{both_second}
use Rattle.names.specs.Method.{is_head_method}
use Rattle.names.specs.Header.{begins_code, code_fault, spelled_fault}
use Rattle.names.specs.Attribute.{attribute_kind, attribute_fault}
use Rattle.packet.specs.declared.AttributeKind.{AttributeKind}
use Rattle.std.specs.Prelude.{Option, None}
use Rattle.headers.specs.Read.{LengthRead, NameRead, HeaderRead, HeadersRead}
use Rattle.places.specs.Entries.{Entries, ended, max_headers, max_attributes}
use Rattle.headers.specs.Headers.{name_unless, code_name_of, spelled_at, spelled_of, name_at, declared_after, header_valued, header_value_of, header_value_at, header_of, header_at, header_then, headers_at}
use Rattle.attributes.specs.Attributes.{last_mark, text_value_of, text_value_at, integer_value_of, integer_value_at, pair_value_of, pair_value_at, attribute_value_at, with_value, coded_at, attribute_at, attribute_then, attributes_at, ValueRead, AttributeRead, AttributesRead}
use Rattle.connection.specs.declared.Kind.{Kind}
use Rattle.packet.specs.declared.Forward.{Forward}
use Rattle.packet.specs.declared.SendHeaders.{SendHeaders}
use Rattle.packet.specs.declared.Part.{Part}
use Rattle.packet.specs.declared.Packet.{Packet}
use Rattle.payload.specs.Read.{FieldRead, ListsRead, PacketRead}
use Rattle.payload.specs.declared.Context.{Context}
use Rattle.payload.specs.Sequence.{after_code, behind, string_as_field, string_field_at, string_after, boolean_as_field, boolean_field_at, boolean_after, number_as_field, any_integer_after, bounded, byte_after, integer_after, field_place, field_number}
use Rattle.payload.specs.Facts.{ForwardPlaces, SendHeadersPlaces}
use Rattle.payload.specs.Packet.{part_from, finished}
use Rattle.payload.specs.End.{end_of, end_at}
use Rattle.payload.specs.GetBody.{get_of, get_at}
use Rattle.payload.specs.Body.{body_start, body_of_size, sized_at, sized_of, body_at}
use Rattle.payload.specs.BodyChunk.{chunk_start, chunk_of, chunk_by, chunk_at}
use Rattle.payload.specs.Lists.{headers_after, lists_of, attributes_behind, behind_headers, lists_at}
use Rattle.payload.specs.Forward.{first_method, last_method, forward_reads, forward_of, forward_at}
use Rattle.payload.specs.SendHeaders.{least_status, greatest_status, send_headers_reads, send_headers_of, send_headers_at}
use Rattle.payload.specs.Kinds.{packet_at, packet_kind, forward_move}
use Rattle.payload.specs.Handed.{StringEnds, NumberEnds, NameEnds, StringThere, declares_read, read_null, read_bytes, DeclaresThen, HeadersHanded, ValueThere, AttributesHanded, ListsHanded, ForwardHanded, SendHeadersHanded, BodyHanded, ChunkHanded, GetHanded, EndHanded, BareHanded, PacketHanded}
use Rattle.payload.proofs.Below.{attributes_many, attributes_few}
use Rattle.payload.proofs.Listing.{HeadersPlaces, headers_places}
use Rattle.payload.proofs.Parsed.{parsed_kind}
use Rattle.wire.specs.Packet.{payload_place, after_code_place}

-- a header that is read with a name: the name up to its value, the value up to its end, and what is declared after it
abbrev HeaderThere : Direction → List ℕ → NameRead → Option ℕ → HeaderRead → Type 0
HeaderThere d s name before (HeaderRead.Refused n) = Unit
HeaderThere d s name before (HeaderRead.Header value after next) =
    NameEnds value name × StringThere s StringField.HeaderValue value next
    × DeclaresThen d s before name (string_at s value (is_optional StringField.HeaderValue)) after

-- a header whose name ends where its value is read
value_there : (d : Direction) (s : List ℕ) (name : NameRead) (value : ℕ) (before : Option ℕ) → NameEnds value name
    → HeaderThere d s name before (header_value_at s value (declares_read d name) before)
unfolding header_value_at
value_there d s name value before named = go (string_at s value (is_optional StringField.HeaderValue)) refl
  where
    by : (next : ℕ) (v : StringRead) → string_at s value (is_optional StringField.HeaderValue) ≡ v → StringEnds next v
        → (r : LengthRead) → declared_after (declares_read d name) before (read_null v) (read_bytes s v) ≡ r
        → HeaderThere d s name before (header_valued value next r)
    by next v e h (LengthRead.Refused n) q = tt
    by next v e h (LengthRead.Now after) q =
        (named, subst (StringEnds next) (sym e) h, subst (λ (v : StringRead). DeclaresThen d s before name v after) (sym e) q)

    go : (v : StringRead) → string_at s value (is_optional StringField.HeaderValue) ≡ v
        → HeaderThere d s name before (header_value_of s value (declares_read d name) before v)
    go (StringRead.Refused n) e = tt
    go (StringRead.Null next) e = by next (StringRead.Null next) e refl (declared_after (declares_read d name) before true []) refl
    go (StringRead.Text start len next) e =
        by next (StringRead.Text start len next) e refl (declared_after (declares_read d name) before false (part s start len)) refl

-- a header, where it is read at a place
header_there : (d : Direction) (s : List ℕ) (at : ℕ) (before : Option ℕ) → HeaderThere d s (name_at d s at) before (header_at d s at before)
unfolding header_at
header_there d s at before = go (name_at d s at)
  where
    go : (name : NameRead) → HeaderThere d s name before (header_of d s before name)
    go (NameRead.Refused n) = tt
    go (NameRead.Code code next) = value_there d s (NameRead.Code code next) next before refl
    go (NameRead.Spelled start len next) = value_there d s (NameRead.Spelled start len next) next before refl

-- headers with these places, where none is refused
abbrev HeadersTo : Direction → List ℕ → ℕ → Option ℕ → List ℕ → HeadersRead → Type 0
HeadersTo d s at before places (HeadersRead.Refused n) = Unit
HeadersTo d s at before places (HeadersRead.Headers after end) = HeadersHanded d s at before places end after

-- a header in front of others
header_front : (d : Direction) (s : List ℕ) (at value next : ℕ) (before declared : Option ℕ) (places : List ℕ) (r : HeadersRead)
    → HeaderThere d s (name_at d s at) before (HeaderRead.Header value declared next) → HeadersTo d s next declared places r
    → HeadersTo d s at before (at ∷ value ∷ places) r
header_front d s at value next before declared places (HeadersRead.Refused n) h later = tt
header_front d s at value next before declared places (HeadersRead.Headers after end) h later = (next, refl, h.0, h.1, declared, h.2, later)

-- so many headers from a place on: their places are those of their names and values
headers_to : (d : Direction) (s : List ℕ) (at count : ℕ) (before : Option ℕ)
    → HeadersTo d s at before (headers_at d s at count before).places (headers_at d s at count before).end
unfolding headers_at
headers_to d s at zero before = (refl, refl)
headers_to d s at (suc count) before =
    go (header_at d s at before) (header_there d s at before) (λ after next. headers_to d s next count after)
  where
    go : (r : HeaderRead) → HeaderThere d s (name_at d s at) before r
        → ((after : Option ℕ) (next : ℕ) → HeadersTo d s next after (headers_at d s next count after).places (headers_at d s next count after).end)
        → HeadersTo d s at before (header_then at r (λ after next. headers_at d s next count after)).places (header_then at r (λ after next. headers_at d s next count after)).end
    go (HeaderRead.Refused n) h later = tt
    go (HeaderRead.Header value after next) h later =
        header_front d s at value next before after (headers_at d s next count after).places (headers_at d s next count after).end h (later after next)

-- a header to the server declares nothing
header_declares : (s : List ℕ) (before : Option ℕ) (name : NameRead) (value : StringRead) (after : Option ℕ)
    → DeclaresThen Direction.ToServer s before name value after → before ≡ after
unfolding declared_after
header_declares s before (NameRead.Refused n) value after e = cc
header_declares s before (NameRead.Code code next) value after e = cc
header_declares s before (NameRead.Spelled start len next) value after e = cc

-- nor do several
headers_declare : (s : List ℕ) (at : ℕ) (before : Option ℕ) (places : List ℕ) (end : ℕ) (after : Option ℕ)
    → HeadersHanded Direction.ToServer s at before places end after → before ≡ after
headers_declare s at before [] end after h = h.1
headers_declare s at before (p ∷ []) end after h = absurd h
headers_declare s at before (p ∷ q ∷ rest) end after (next, place, named, there, declared, now, later) =
    header_declares s before (name_at Direction.ToServer s p) (string_at s q (is_optional StringField.HeaderValue)) declared now
    ∙ headers_declare s next declared rest end after later

-- a name that is read: what its first byte says, the integer or the string there, without fault
abbrev pub NameFine : Direction → List ℕ → ℕ → NameRead → Type 0
NameFine d s at (NameRead.Refused n) = Unit
NameFine d s at (NameRead.Code code next) =
    (begins_code (get_or s at 0) ≡ true) × (integer_at s at ≡ NumberRead.Number code next) × (code_fault d code ≡ none)
NameFine d s at (NameRead.Spelled start len next) =
    (begins_code (get_or s at 0) ≡ false) × (string_at s at (is_optional StringField.HeaderName) ≡ StringRead.Text start len next)
    × (spelled_fault d (part s start len) ≡ none)

-- each name that is read is
pub name_fine : (d : Direction) (s : List ℕ) (at : ℕ) → NameFine d s at (name_at d s at)
unfolding name_at code_name_of spelled_at
name_fine d s at = go (leb (at + 2) (length s)) (begins_code (get_or s at 0)) refl
  where
    unless : (fault : ℕ) (name : NameRead) → (fault ≡ none → NameFine d s at name) → NameFine d s at (name_unless fault name)
    unless fault name h = by (eqb fault none) refl
      where
        by : (t : Bool) → eqb fault none ≡ t → NameFine d s at (pick t name (NameRead.Refused fault))
        by true e = h (eqb-true fault none e)
        by false e = tt

    coded : begins_code (get_or s at 0) ≡ true → (r : NumberRead) → integer_at s at ≡ r → NameFine d s at (code_name_of d r)
    coded q (NumberRead.Refused n) e = tt
    coded q (NumberRead.Number code next) e = unless (code_fault d code) (NameRead.Code code next) (λ fine. (q, e, fine))

    spelled : begins_code (get_or s at 0) ≡ false → (r : StringRead) → string_at s at (is_optional StringField.HeaderName) ≡ r
        → NameFine d s at (spelled_of d s r)
    spelled q (StringRead.Refused n) e = tt
    spelled q (StringRead.Null next) e = tt
    spelled q (StringRead.Text start len next) e =
        unless (spelled_fault d (part s start len)) (NameRead.Spelled start len next) (λ fine. (q, e, fine))

    go : (t u : Bool) → begins_code (get_or s at 0) ≡ u
        → NameFine d s at
        (pick t (pick u (code_name_of d (integer_at s at)) (spelled_of d s (string_at s at (is_optional StringField.HeaderName)))) (NameRead.Refused cut_short))
    go true true q = coded q (integer_at s at) refl
    go true false q = spelled q (string_at s at (is_optional StringField.HeaderName)) refl
    go false u q = tt

-- a value, where one of its kind is read
abbrev ValueRight : List ℕ → AttributeKind → ℕ → ValueRead → Type 0
ValueRight s kind from (ValueRead.Refused n) = Unit
ValueRight s kind from (ValueRead.Value value next) = ValueThere s kind from value next

-- a string, behind what gives its place
text_right : (s : List ℕ) (kind : AttributeKind) (from at : ℕ)
    → ((next : ℕ) → StringThere s StringField.AttributeValue at next → ValueThere s kind from at next) → ValueRight s kind from (text_value_at s at)
unfolding text_value_at
text_right s kind from at so = go (string_at s at (is_optional StringField.AttributeValue)) refl
  where
    go : (r : StringRead) → string_at s at (is_optional StringField.AttributeValue) ≡ r → ValueRight s kind from (text_value_of at r)
    go (StringRead.Refused n) e = tt
    go (StringRead.Null next) e = so next (subst (StringEnds next) (sym e) refl)
    go (StringRead.Text start len next) e = so next (subst (StringEnds next) (sym e) refl)

-- an integer
integer_right : (s : List ℕ) (at : ℕ) → ValueRight s AttributeKind.Integer at (integer_value_at s at)
unfolding integer_value_at
integer_right s at = go (integer_at s at) refl
  where
    go : (r : NumberRead) → integer_at s at ≡ r → ValueRight s AttributeKind.Integer at (integer_value_of at r)
    go (NumberRead.Refused n) e = tt
    go (NumberRead.Number value next) e = (refl, subst (NumberEnds next) (sym e) refl)

-- a name string and a value string
pair_right : (s : List ℕ) (at : ℕ) → ValueRight s AttributeKind.Pair at (pair_value_at s at)
unfolding pair_value_at
pair_right s at = go (string_at s at (is_optional StringField.AttributeName)) refl
  where
    go : (r : StringRead) → string_at s at (is_optional StringField.AttributeName) ≡ r → ValueRight s AttributeKind.Pair at (pair_value_of s r)
    go (StringRead.Refused n) e = tt
    go (StringRead.Null next) e = tt
    go (StringRead.Text start len next) e =
        text_right s AttributeKind.Pair at next (λ end h. (subst (StringEnds next) (sym e) refl, h))

-- a value of any kind
value_right : (s : List ℕ) (kind : AttributeKind) (at : ℕ) → ValueRight s kind at (attribute_value_at s at kind)
value_right s AttributeKind.NotServed at = tt
value_right s AttributeKind.Text at = text_right s AttributeKind.Text at at (λ end h. (refl, h))
value_right s AttributeKind.Integer at = integer_right s at
value_right s AttributeKind.Pair at = pair_right s at

-- an attribute that is read at a place, or FF there
abbrev AttributeThere : List ℕ → ℕ → AttributeRead → Type 0
AttributeThere s at (AttributeRead.Refused n) = Unit
AttributeThere s at (AttributeRead.Last next) = AttributesHanded s at [] next
AttributeThere s at (AttributeRead.Attribute code value next) = ValueThere s (attribute_kind (get_or s at 0)) (at + 1) value next

-- an attribute, where it is read at a place
attribute_there : (s : List ℕ) (at : ℕ) (full : Bool) (seen : ℕ → Bool) → AttributeThere s at (attribute_at s at full seen)
unfolding attribute_at coded_at
attribute_there s at full seen =
    go (leb (at + 1) (length s)) (eqb (get_or s at 0) last_mark) full (eqb (attribute_fault (get_or s at 0) (seen (get_or s at 0))) none) refl
  where
    by : (r : ValueRead) → ValueRight s (attribute_kind (get_or s at 0)) (at + 1) r → AttributeThere s at (with_value (get_or s at 0) r)
    by (ValueRead.Refused n) h = tt
    by (ValueRead.Value value next) h = h

    go : (t u v w : Bool) → eqb (get_or s at 0) last_mark ≡ u
        → AttributeThere s at
        (pick t
        (pick u (AttributeRead.Last (at + 1))
        (pick v (AttributeRead.Refused too_many)
        (pick w (with_value (get_or s at 0) (attribute_value_at s (at + 1) (attribute_kind (get_or s at 0))))
        (AttributeRead.Refused (attribute_fault (get_or s at 0) (seen (get_or s at 0)))))))
        (AttributeRead.Refused cut_short))
    go false u v w e = tt
    go true true v w e = (eqb-true (get_or s at 0) last_mark e, refl)
    go true false true w e = tt
    go true false false true e =
        by (attribute_value_at s (at + 1) (attribute_kind (get_or s at 0))) (value_right s (attribute_kind (get_or s at 0)) (at + 1))
    go true false false false e = tt

-- attributes with these places, where none is refused
abbrev AttributesTo : List ℕ → ℕ → List ℕ → AttributesRead → Type 0
AttributesTo s at places (AttributesRead.Refused n) = Unit
AttributesTo s at places (AttributesRead.Attributes count end) = AttributesHanded s at places end

-- an attribute in front of others
attribute_front : (s : List ℕ) (at code value next : ℕ) (places : List ℕ) (r : AttributesRead)
    → AttributeThere s at (AttributeRead.Attribute code value next) → AttributesTo s next places r → AttributesTo s at (at ∷ value ∷ places) r
attribute_front s at code value next places (AttributesRead.Refused n) h later = tt
attribute_front s at code value next places (AttributesRead.Attributes count end) h later = (next, refl, h, later)

-- an attribute and the later ones, if what is later is right
attributes_more : (s : List ℕ) (at count : ℕ) (r : AttributeRead) (later : ℕ → ℕ → Entries AttributesRead) → AttributeThere s at r
    → ((code next : ℕ) → AttributesTo s next (later code next).places (later code next).end)
    → AttributesTo s at (attribute_then at count r later).places (attribute_then at count r later).end
attributes_more s at count (AttributeRead.Refused n) later h so = tt
attributes_more s at count (AttributeRead.Last next) later h so = h
attributes_more s at count (AttributeRead.Attribute code value next) later h so =
    attribute_front s at code value next (later code next).places (later code next).end h (so code next)

-- attributes from a place on: their places are those of their codes and values
attributes_to : (s : List ℕ) (at most : ℕ) (codes : List ℕ)
    → AttributesTo s at (attributes_at s at most codes).places (attributes_at s at most codes).end
unfolding attributes_at
attributes_to s at zero codes =
    attributes_more s at (length codes) (attribute_at s at true (one_of codes)) (λ code next. ended (AttributesRead.Refused too_many))
    (attribute_there s at true (one_of codes)) (λ code next. tt)
attributes_to s at (suc most) codes =
    attributes_more s at (length codes) (attribute_at s at false (one_of codes)) (λ code next. attributes_at s next most (code ∷ codes))
    (attribute_there s at false (one_of codes)) (λ code next. attributes_to s next most (code ∷ codes))

-- a fixed field that is read, by where it ends
abbrev FieldEnds : ℕ → FieldRead → Type 0
FieldEnds end (FieldRead.Refused n) = ⊥
FieldEnds end (FieldRead.Field at value next) = next ≡ end

-- a string that is read behind a field: it is read where that field ends
string_behind : (s : List ℕ) (field : StringField) (before : FieldRead) (end : ℕ) → FieldEnds end (string_after s field before)
    → FieldEnds (field_place (string_after s field before)).0 before × StringThere s field (field_place (string_after s field before)).0 end
unfolding string_after string_field_at
string_behind s field (FieldRead.Refused n) end h = absurd h
string_behind s field (FieldRead.Field from value at) end h = go (string_at s at (is_optional field)) refl h
  where
    go : (r : StringRead) → string_at s at (is_optional field) ≡ r → FieldEnds end (string_as_field at r)
        → (at ≡ (field_place (string_as_field at r)).0) × StringThere s field (field_place (string_as_field at r)).0 end
    go (StringRead.Refused n) e q = absurd q
    go (StringRead.Null next) e q = (refl, subst (StringEnds end) (sym e) q)
    go (StringRead.Text start len next) e q = (refl, subst (StringEnds end) (sym e) q)

-- a number in a range that is read behind a field: it is what is read where that field ends
number_behind : (read : ℕ → NumberRead) (low high fault : ℕ) (before : FieldRead) (end : ℕ)
    → (let f = behind (λ at. bounded at low high fault (read at)) before in
    FieldEnds end f
    → FieldEnds (field_place f).0 before × (read (field_place f).0 ≡ NumberRead.Number (field_number f) end) × (between low high (field_number f) ≡ true))
number_behind read low high fault (FieldRead.Refused n) end h = absurd h
number_behind read low high fault (FieldRead.Field from value at) end h = go (read at) refl h
  where
    by : (number next : ℕ) → read at ≡ NumberRead.Number number next → (t : Bool) → between low high number ≡ t
        → (let f = pick t (FieldRead.Field at number next) (FieldRead.Refused fault) in
        FieldEnds end f → (at ≡ (field_place f).0) × (read (field_place f).0 ≡ NumberRead.Number (field_number f) end) × (between low high (field_number f) ≡ true))
    by number next e true q ends = (refl, e ∙ ap (NumberRead.Number number) ends, q)
    by number next e false q ends = absurd ends

    go : (r : NumberRead) → read at ≡ r
        → (let f = bounded at low high fault r in
        FieldEnds end f → (at ≡ (field_place f).0) × (read (field_place f).0 ≡ NumberRead.Number (field_number f) end) × (between low high (field_number f) ≡ true))
    go (NumberRead.Refused n) e ends = absurd ends
    go (NumberRead.Number number next) e ends = by number next e (between low high number) refl ends

-- so is an integer that may be any
any_integer_behind : (s : List ℕ) (before : FieldRead) (end : ℕ) → FieldEnds end (any_integer_after s before)
    → (let f = any_integer_after s before in
    FieldEnds (field_place f).0 before × (integer_at s (field_place f).0 ≡ NumberRead.Number (field_number f) end))
unfolding any_integer_after
any_integer_behind s (FieldRead.Refused n) end h = absurd h
any_integer_behind s (FieldRead.Field from value at) end h = go (integer_at s at) refl h
  where
    go : (r : NumberRead) → integer_at s at ≡ r → FieldEnds end (number_as_field at r)
        → (at ≡ (field_place (number_as_field at r)).0) × (integer_at s (field_place (number_as_field at r)).0 ≡ NumberRead.Number (field_number (number_as_field at r)) end)
    go (NumberRead.Refused n) e q = absurd q
    go (NumberRead.Number number next) e q = (refl, e ∙ ap (NumberRead.Number number) q)

-- so is a boolean
boolean_behind : (s : List ℕ) (before : FieldRead) (end : ℕ) → FieldEnds end (boolean_after s before)
    → (let f = boolean_after s before in
    FieldEnds (field_place f).0 before × (boolean_at s (field_place f).0 ≡ BooleanRead.Boolean (eqb (field_number f) (boolean_number true)) end))
unfolding boolean_after boolean_field_at
boolean_behind s (FieldRead.Refused n) end h = absurd h
boolean_behind s (FieldRead.Field from value at) end h = go (boolean_at s at) refl h
  where
    go : (r : BooleanRead) → boolean_at s at ≡ r → FieldEnds end (boolean_as_field at r)
        → (at ≡ (field_place (boolean_as_field at r)).0)
        × (boolean_at s (field_place (boolean_as_field at r)).0 ≡ BooleanRead.Boolean (eqb (field_number (boolean_as_field at r)) (boolean_number true)) end)
    go (BooleanRead.Refused n) e q = absurd q
    go (BooleanRead.Boolean true next) e q = (refl, e ∙ ap (BooleanRead.Boolean true) q)
    go (BooleanRead.Boolean false next) e q = (refl, e ∙ ap (BooleanRead.Boolean false) q)

-- headers behind a count, where they are read
abbrev HeadersBehind : Direction → List ℕ → FieldRead → List ℕ → HeadersRead → Type 0
HeadersBehind d s count places (HeadersRead.Refused n) = Unit
HeadersBehind d s count places (HeadersRead.Headers after end) =
    (at : ℕ) × FieldEnds at count × HeadersHanded d s at None places end after

-- they are read from where the count ends
headers_behind : (d : Direction) (s : List ℕ) (count : FieldRead)
    → HeadersBehind d s count (headers_after d s count).places (headers_after d s count).end
unfolding headers_after
headers_behind d s (FieldRead.Refused n) = tt
headers_behind d s (FieldRead.Field from count at) = go (headers_at d s at count None).end (headers_to d s at count None)
  where
    go : (r : HeadersRead) → HeadersTo d s at None (headers_at d s at count None).places r
        → HeadersBehind d s (FieldRead.Field from count at) (headers_at d s at count None).places r
    go (HeadersRead.Refused n) h = tt
    go (HeadersRead.Headers after end) h = (at, refl, h)

-- the lists behind a count, where they are read
abbrev ListsTo : List ℕ → FieldRead → List ℕ → ListsRead → Type 0
ListsTo s count places (ListsRead.Refused n) = Unit
ListsTo s count places (ListsRead.Lists declared attributes) =
    (at : ℕ) × FieldEnds at count × ListsHanded s at (field_number count) attributes declared.0 places

-- they are read from where the count ends, the attributes where the headers end
lists_to : (s : List ℕ) (count : FieldRead) → ListsTo s count (lists_at s count).places (lists_at s count).end
unfolding lists_at attributes_behind
lists_to s count = go (headers_after Direction.ToContainer s count).end refl (headers_behind Direction.ToContainer s count)
  where
    headers : List ℕ
    headers = (headers_after Direction.ToContainer s count).places

    go : (r : HeadersRead) → (headers_after Direction.ToContainer s count).end ≡ r → HeadersBehind Direction.ToContainer s count headers r
        → ListsTo s count (headers ++ (behind_headers s r).places) (behind_headers s r).end
    go (HeadersRead.Refused n) e h = tt
    go (HeadersRead.Headers after middle) e h =
        by (attributes_at s middle max_attributes []).end refl (attributes_to s middle max_attributes [])
      where
        attributes : List ℕ
        attributes = (attributes_at s middle max_attributes []).places

        last : (many end : ℕ) → (attributes_at s middle max_attributes []).end ≡ AttributesRead.Attributes many end
            → AttributesHanded s middle attributes end → (t : Bool) → eqb end (length s) ≡ t
            → ListsTo s count (headers ++ attributes)
            (pick t (ListsRead.Lists (record { 0 = declared_length after }) many) (ListsRead.Refused left_over))
        last many end q a false p = tt
        last many end q a true p = (
          h.0,
          h.1,
          record {
            of_headers = headers;
            of_attributes = attributes;
            are = refl;
            headers_many = headers_places Direction.ToContainer s count (HeadersRead.Headers after middle) e;
            attributes_many = attributes_many s middle many end q;
            attributes_most = attributes_few s middle many end q;
            middle = middle;
            of_length = after;
            headers_there = h.2;
            declared_is = refl;
            attributes_there = subst (AttributesHanded s middle attributes) (eqb-true end (length s) p) a;
          },
        )

        by : (r : AttributesRead) → (attributes_at s middle max_attributes []).end ≡ r → AttributesTo s middle attributes r
            → ListsTo s count (headers ++ attributes) (lists_of (length s) after r)
        by (AttributesRead.Refused n) q a = tt
        by (AttributesRead.Attributes many end) q a = last many end q a (eqb end (length s)) refl

-- a number in a range from 0 is at most its end
range_most : (high n : ℕ) → between 0 high n ≡ true → n ≤ high
range_most high n e = leb-true n high (both_second (leb 0 n) (leb n high) e)

-- two Forwards that are found to be the same packet are the same
forward_same : (g f : Forward) → PacketRead.Packet (Packet.Forward g) ≡ PacketRead.Packet (Packet.Forward f) → g ≡ f
forward_same g f e = cc

-- a Forward that is found by how its lists end
forward_found : (s : List ℕ) (f : Forward) (places : List ℕ) (r : ListsRead) → ListsTo s (forward_reads s).headers places r
    → forward_of (forward_reads s) r ≡ PacketRead.Packet (Packet.Forward f) → ForwardHanded s f places
unfolding forward_reads byte_after integer_after
forward_found s f places (ListsRead.Refused n) h e = let z : ◌≡◌ {A = ℕ} 0 1 = cc in absurd (omega arith)
forward_found s f places (ListsRead.Lists declared attributes) h e =
    let reads = forward_reads s in
    let count = number_behind (integer_at s) 0 max_headers too_many reads.ssl h.0 h.1 in
    let ssl = boolean_behind s reads.port (field_place reads.headers).0 count.0 in
    let port = any_integer_behind s reads.name (field_place reads.ssl).0 ssl.0 in
    let name = string_behind s StringField.ServerName reads.host (field_place reads.port).0 port.0 in
    let host = string_behind s StringField.RemoteHost reads.addr (field_place reads.name).0 name.0 in
    let addr = string_behind s StringField.RemoteAddr reads.uri (field_place reads.host).0 host.0 in
    let uri = string_behind s StringField.ReqUri reads.protocol (field_place reads.addr).0 addr.0 in
    let protocol = string_behind s StringField.Protocol reads.method (field_place reads.uri).0 uri.0 in
    let method = number_behind (byte_at s) first_method last_method out_of_range after_code (field_place reads.protocol).0 protocol.0 in
    subst (λ (g : Forward). ForwardHanded s g places) (forward_same _ f e)
    (record {
      method_read = ap (byte_at s) method.0 ∙ method.1;
      method_range = method.2;
      protocol_there = protocol.1;
      uri_there = uri.1;
      addr_there = addr.1;
      host_there = host.1;
      port_place = (field_place reads.port).0;
      name_there = name.1;
      ssl_place = (field_place reads.ssl).0;
      port_read = port.1;
      count_place = (field_place reads.headers).0;
      ssl_read = ssl.1;
      lists_place = h.0;
      count_read = count.1;
      headers_most = range_most max_headers (field_number reads.headers) count.2;
      lists = h.2;
    })

-- what a Forward that was read hands out was read in it
pub forward_handed : (s : List ℕ) (f : Forward) → (forward_at s).end ≡ PacketRead.Packet (Packet.Forward f) → ForwardHanded s f (forward_at s).places
unfolding forward_at
forward_handed s f e =
    let lists = lists_at s (forward_reads s).headers in
    forward_found s f lists.places lists.end (lists_to s (forward_reads s).headers) e

-- so it has two places for each header and each attribute
pub forward_places : (s : List ℕ) (f : Forward) → (forward_at s).end ≡ PacketRead.Packet (Packet.Forward f) → ForwardPlaces f (forward_at s).places
forward_places s f e =
    let handed = forward_handed s f e in
    let lists = handed.lists in
    record {
      many = omega (arith, ap length lists.are, length-append lists.of_headers lists.of_attributes, lists.headers_many, lists.attributes_many);
      headers_most = handed.headers_most;
      attributes_most = lists.attributes_most;
    }

-- nothing stands behind a packet's last field, and the packet is the one that was found
finished_is : (size next : ℕ) (found packet : Packet) → finished size next found ≡ PacketRead.Packet packet → (next ≡ size) × (found ≡ packet)
finished_is size next found packet = go (eqb next size) refl
  where
    go : (t : Bool) → eqb next size ≡ t → pick t (PacketRead.Packet found) (PacketRead.Refused left_over) ≡ PacketRead.Packet packet
        → (next ≡ size) × (found ≡ packet)
    go true q e = let same : found ≡ packet = cc in (eqb-true next size q, same)
    go false q e = let z : ◌≡◌ {A = ℕ} 0 1 = cc in absurd (omega arith)

-- two Send Headers that are the same packet are the same
send_headers_equal : (g h : SendHeaders) → Packet.SendHeaders g ≡ Packet.SendHeaders h → g ≡ h
send_headers_equal g h e = cc

-- a Send Headers that is found by how its headers end
send_headers_found : (s : List ℕ) (h : SendHeaders) (places : List ℕ) (r : HeadersRead)
    → HeadersBehind Direction.ToServer s (send_headers_reads s).headers places r
    → HeadersPlaces (field_number (send_headers_reads s).headers) (length places) r
    → send_headers_of (length s) (send_headers_reads s) r ≡ PacketRead.Packet (Packet.SendHeaders h) → SendHeadersHanded s h places
unfolding send_headers_reads integer_after
send_headers_found s h places (HeadersRead.Refused n) b many e = let z : ◌≡◌ {A = ℕ} 0 1 = cc in absurd (omega arith)
send_headers_found s h places (HeadersRead.Headers after end) b many e =
    let reads = send_headers_reads s in
    let found = finished_is (length s) end _ (Packet.SendHeaders h) e in
    let nothing : HeadersHanded Direction.ToServer s b.0 None places end None =
    subst (HeadersHanded Direction.ToServer s b.0 None places end) (sym (headers_declare s b.0 None places end after b.2)) b.2 in
    let count = number_behind (integer_at s) 0 max_headers too_many reads.message b.0 b.1 in
    let message = string_behind s StringField.Message reads.status (field_place reads.headers).0 count.0 in
    let status = number_behind (integer_at s) least_status greatest_status out_of_range after_code (field_place reads.message).0 message.0 in
    subst (λ (g : SendHeaders). SendHeadersHanded s g places) (send_headers_equal _ h found.1)
    (record {
      status_read = ap (integer_at s) status.0 ∙ status.1;
      status_range = status.2;
      count_place = (field_place reads.headers).0;
      message_there = message.1;
      headers_place = b.0;
      count_read = count.1;
      headers_most = range_most max_headers (field_number reads.headers) count.2;
      headers_many = many;
      headers_there = subst (λ (i : ℕ). HeadersHanded Direction.ToServer s b.0 None places i None) found.0 nothing;
    })

-- what a Send Headers that was read hands out was read in it
pub send_headers_handed : (s : List ℕ) (h : SendHeaders) → (send_headers_at s).end ≡ PacketRead.Packet (Packet.SendHeaders h)
    → SendHeadersHanded s h (send_headers_at s).places
unfolding send_headers_at
send_headers_handed s h e =
    let count = (send_headers_reads s).headers in
    let headers = headers_after Direction.ToServer s count in
    send_headers_found s h headers.places headers.end (headers_behind Direction.ToServer s count)
    (headers_places Direction.ToServer s count headers.end refl) e

-- so it has two places for each header
pub send_headers_places : (s : List ℕ) (h : SendHeaders) → (send_headers_at s).end ≡ PacketRead.Packet (Packet.SendHeaders h)
    → SendHeadersPlaces h (send_headers_at s).places
send_headers_places s h e =
    let handed = send_headers_handed s h e in
    record { many = handed.headers_many; headers_most = handed.headers_most }

-- a CPing or a CPong
pub bare_handed : (s : List ℕ) (packet : Packet) → finished (length s) after_code_place packet ≡ PacketRead.Packet packet → BareHanded s []
bare_handed s packet e = record { ends = sym (finished_is (length s) after_code_place packet packet e).0; no_places = refl }

-- a Get Body Chunk
pub get_handed : (s : List ℕ) (asked : ℕ) → get_at s ≡ PacketRead.Packet (Packet.GetBody asked) → GetHanded s asked []
unfolding get_at
get_handed s asked = go (integer_at s after_code_place) refl
  where
    go : (r : NumberRead) → integer_at s after_code_place ≡ r → get_of (length s) r ≡ PacketRead.Packet (Packet.GetBody asked) → GetHanded s asked []
    go (NumberRead.Refused n) q e = let z : ◌≡◌ {A = ℕ} 0 1 = cc in absurd (omega arith)
    go (NumberRead.Number value next) q e =
        let f = finished_is (length s) next (Packet.GetBody value) (Packet.GetBody asked) e in
        let g : Packet.GetBody value ≡ Packet.GetBody asked = f.1 in
        let same : value ≡ asked = cc in
        let ends : next ≡ length s = f.0 in
        record { asked_read = q ∙ rw (same, ends); no_places = refl }

-- an End
pub end_handed : (s : List ℕ) (reuse : Bool) → end_at s ≡ PacketRead.Packet (Packet.End reuse) → EndHanded s reuse []
unfolding end_at
end_handed s reuse = go (boolean_at s after_code_place) refl
  where
    go : (r : BooleanRead) → boolean_at s after_code_place ≡ r → end_of (length s) r ≡ PacketRead.Packet (Packet.End reuse) → EndHanded s reuse []
    go (BooleanRead.Refused n) q e = let z : ◌≡◌ {A = ℕ} 0 1 = cc in absurd (omega arith)
    go (BooleanRead.Boolean value next) q e =
        let f = finished_is (length s) next (Packet.End value) (Packet.End reuse) e in
        let g : Packet.End value ≡ Packet.End reuse = f.1 in
        let same : value ≡ reuse = cc in
        let ends : next ≡ length s = f.0 in
        record { reuse_read = q ∙ rw (same, ends); no_places = refl }

-- two body packets that are found to be the same, and two chunks
body_same : (p q : Part) → PacketRead.Packet (Packet.Body p) ≡ PacketRead.Packet (Packet.Body q) → p ≡ q
body_same p q e = cc

chunk_same : (p q : Part) → Packet.BodyChunk p ≡ Packet.BodyChunk q → p ≡ q
chunk_same p q e = cc

-- a body packet
pub body_handed_lem : (s : List ℕ) (p : Part) → body_at s ≡ PacketRead.Packet (Packet.Body p) → BodyHanded s p []
unfolding body_at sized_at
body_handed_lem s p = by_length (eqb (length s) payload_place) refl
  where
    by_tests : (len : ℕ) → eqb (length s) payload_place ≡ false → integer_at s payload_place ≡ NumberRead.Number len body_start → (a b : Bool)
        → ltb (length s) (body_start + len) ≡ a → ltb (body_start + len) (length s) ≡ b
        → pick a (PacketRead.Refused cut_short) (pick b (PacketRead.Refused left_over) (PacketRead.Packet (Packet.Body (body_of_size len))))
        ≡ PacketRead.Packet (Packet.Body p) → BodyHanded s p []
    by_tests len some f true b x y q = let z : ◌≡◌ {A = ℕ} 0 1 = cc in absurd (omega arith)
    by_tests len some f false true x y q = let z : ◌≡◌ {A = ℕ} 0 1 = cc in absurd (omega arith)
    by_tests len some f false false x y q =
        subst (λ (p : Part). BodyHanded s p []) (body_same (body_of_size len) p q)
        (record {
          behind = body_start;
          size_read = rw some f;
          rest = omega (arith, ltb-false (length s) (body_start + len) x, ltb-false (body_start + len) (length s) y);
          start_is = refl;
          no_places = refl;
        })

    by_size : eqb (length s) payload_place ≡ false → (r : NumberRead) → integer_at s payload_place ≡ r
        → sized_of (length s) r ≡ PacketRead.Packet (Packet.Body p) → BodyHanded s p []
    by_size some (NumberRead.Refused n) f q = let z : ◌≡◌ {A = ℕ} 0 1 = cc in absurd (omega arith)
    by_size some (NumberRead.Number len next) f q =
        by_tests len some (f ∙ ap (NumberRead.Number len) (integer_inside s payload_place (NumberRead.Number len next) f).0)
        (ltb (length s) (body_start + len)) (ltb (body_start + len) (length s)) refl refl q

    by_length : (t : Bool) → eqb (length s) payload_place ≡ t
        → pick t (PacketRead.Packet (Packet.Body (body_of_size 0))) (sized_of (length s) (integer_at s payload_place))
        ≡ PacketRead.Packet (Packet.Body p) → BodyHanded s p []
    by_length true none q =
        subst (λ (p : Part). BodyHanded s p []) (body_same (body_of_size 0) p q)
        (record {
          behind = payload_place;
          size_read = rw none;
          rest = sym (eqb-true (length s) payload_place none);
          start_is = refl;
          no_places = refl;
        })
    by_length false some q = by_size some (integer_at s payload_place) refl q

-- a body packet that is read has its part inside it
pub body_inside : (s : List ℕ) (p : Part) → body_at s ≡ PacketRead.Packet (Packet.Body p) → p.start.0 + p.len ≤ length s
body_inside s p e =
    let h = body_handed_lem s p e in
    go h.behind (eqb (length s) payload_place) (eqb p.len 0) refl h.size_read h.rest h.start_is
  where
    -- the size ends at the payload's place or behind it
    far : (t : Bool) (behind : ℕ) → pick t (NumberRead.Number 0 payload_place) (integer_at s payload_place) ≡ NumberRead.Number p.len behind
        → payload_place ≤ behind
    far true behind q = let z : payload_place ≡ behind = cc in omega (arith, z)
    far false behind q = omega (arith, (integer_inside s payload_place (NumberRead.Number p.len behind) q).0)

    go : (behind : ℕ) (t none : Bool) → eqb p.len 0 ≡ none
        → pick t (NumberRead.Number 0 payload_place) (integer_at s payload_place) ≡ NumberRead.Number p.len behind
        → behind + p.len ≡ length s → p.start.0 ≡ pick none payload_place behind → p.start.0 + p.len ≤ length s
    go behind t true n q all starts = omega (arith, eqb-true p.len 0 n, starts, far t behind q, all)
    go behind t false n q all starts = omega (arith, starts, all)

-- a chunk
pub chunk_handed : (s : List ℕ) (p : Part) → chunk_at s ≡ PacketRead.Packet (Packet.BodyChunk p) → ChunkHanded s p []
unfolding chunk_at chunk_of
chunk_handed s p = by_length (integer_at s after_code_place) refl
  where
    by_tests : (len : ℕ) → integer_at s after_code_place ≡ NumberRead.Number len chunk_start → (a b : Bool) → eqb (get_or s (chunk_start + len) 0) 0 ≡ b
        → pick a
        (pick b (finished (length s) (chunk_start + len + 1) (Packet.BodyChunk (part_from chunk_start len))) (PacketRead.Refused string_wrong))
        (PacketRead.Refused cut_short)
        ≡ PacketRead.Packet (Packet.BodyChunk p) → ChunkHanded s p []
    by_tests len f false b g q = let z : ◌≡◌ {A = ℕ} 0 1 = cc in absurd (omega arith)
    by_tests len f true false g q = let z : ◌≡◌ {A = ℕ} 0 1 = cc in absurd (omega arith)
    by_tests len f true true g q =
        let done = finished_is (length s) (chunk_start + len + 1) (Packet.BodyChunk (part_from chunk_start len)) (Packet.BodyChunk p) q in
        subst (λ (p : Part). ChunkHanded s p []) (chunk_same (part_from chunk_start len) p done.1)
        (record { size_read = f; closed = eqb-true (get_or s (chunk_start + len) 0) 0 g; rest = done.0; no_places = refl })

    by_length : (r : NumberRead) → integer_at s after_code_place ≡ r → chunk_by s r ≡ PacketRead.Packet (Packet.BodyChunk p)
        → ChunkHanded s p []
    by_length (NumberRead.Refused n) f q = let z : ◌≡◌ {A = ℕ} 0 1 = cc in absurd (omega arith)
    by_length (NumberRead.Number len next) f q =
        let ends : next ≡ chunk_start = (integer_inside s after_code_place (NumberRead.Number len next) f).0 in
        by_tests len (f ∙ ap (NumberRead.Number len) ends) (leb (chunk_start + (len + 1)) (length s)) (eqb (get_or s (chunk_start + len) 0) 0) refl q

-- a packet that was read as its own kind
handed_by : (context : Context) (s : List ℕ) (packet : Packet) → (packet_at context (packet_kind packet) s).end ≡ PacketRead.Packet packet
    → PacketHanded s packet (packet_at context (packet_kind packet) s).places
handed_by context s Packet.CPing e = bare_handed s Packet.CPing e
handed_by context s Packet.CPong e = bare_handed s Packet.CPong e
handed_by context s (Packet.Forward f) e = forward_handed s f e
handed_by context s (Packet.Body p) e = body_handed_lem s p e
handed_by context s (Packet.GetBody asked) e = get_handed s asked e
handed_by context s (Packet.SendHeaders h) e = send_headers_handed s h e
handed_by context s (Packet.BodyChunk p) e = chunk_handed s p e
handed_by context s (Packet.End reuse) e = end_handed s reuse e

-- what any packet that was read hands out was read in it
pub packet_handed : (context : Context) (kind : Kind) (s : List ℕ) (packet : Packet) → (packet_at context kind s).end ≡ PacketRead.Packet packet
    → PacketHanded s packet (packet_at context kind s).places
packet_handed context kind s packet e =
    let k = parsed_kind context kind s packet e in
    subst (λ (k : Kind). PacketHanded s packet (packet_at context k s).places) k
    (handed_by context s packet (subst (λ (k : Kind). (packet_at context k s).end ≡ PacketRead.Packet packet) (sym k) e))

-- a number that was read: its value is the one that stands there, in so many bytes
pub number_found : (width there : ℕ) (s : List ℕ) (at value next : ℕ) → number_at width there s at ≡ NumberRead.Number value next
    → (there ≡ value) × (at + width ≡ next) × (at + width ≤ length s)
number_found width there s at value next = go (leb (at + width) (length s)) refl
  where
    go : (t : Bool) → leb (at + width) (length s) ≡ t
        → pick t (NumberRead.Number there (at + width)) (NumberRead.Refused cut_short) ≡ NumberRead.Number value next
        → (there ≡ value) × (at + width ≡ next) × (at + width ≤ length s)
    go true h e =
        let same : there ≡ value = cc in
        let ends : at + width ≡ next = cc in
        (same, ends, leb-true (at + width) (length s) h)
    go false h e = absurd (let z : ◌≡◌ {A = ℕ} 0 1 = cc in omega arith)

-- whether a Forward is HEAD goes by the byte behind its code, and by nothing else that stands in it
pub forward_head : (s : List ℕ) (f : Forward) → (forward_at s).end ≡ PacketRead.Packet (Packet.Forward f)
    → (forward_move f).head ≡ is_head_method (get_or s after_code_place 0)
unfolding byte_at
forward_head s f e =
    let method = number_found 1 (get_or s after_code_place 0) s after_code_place f.method f.protocol.0 (forward_handed s f e).method_read in
    ap is_head_method (sym method.0)
