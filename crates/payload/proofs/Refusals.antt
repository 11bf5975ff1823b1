-- What reading a packet refuses with is a number of document 01.
-- Assumes nothing.
use mathlib.Core.Path.{◌≡◌, refl, subst}
use mathlib.Core.Bool.{Bool, true, false}
use mathlib.Core.List.{List, []}
use Prim.Native.Nat.{ℕ, ◌+◌}
use lib.Dec.{leb, ltb, eqb}
use lib.ListN.{length, get_or}
use Rattle.wire.specs.Pick.{pick, between}
use Rattle.wire.specs.Refusal.{cut_short, string_wrong, out_of_range, too_many, left_over, is_refusal}
use Rattle.wire.specs.Field.{byte_at, integer_at, boolean_at, string_at, is_optional}
use Rattle.wire.specs.declared.StringField.{StringField}
use Rattle.wire.specs.Read.{NumberRead, BooleanRead, StringRead}
use Rattle.wire.proofs.Refusals.{NumberRefusal, byte_refusal, integer_refusal, BooleanRefusal, boolean_refusal, StringRefusal, string_refusal}
use Rattle.packet.specs.declared.Direction.{Direction}
use Rattle.packet.specs.declared.Packet.{Packet}
use Rattle.headers.specs.Length.{declared_length}
use Rattle.std.specs.Prelude.{Option, None}
use Rattle.connection.specs.declared.Kind.{Kind}
use Rattle.places.specs.Entries.{max_headers, max_attributes}
use Rattle.headers.specs.Read.{HeadersRead}
use Rattle.headers.proofs.Refusals.{HeadersRefusal, headers_refusal}
use Rattle.attributes.specs.Attributes.{attributes_at, AttributesRead}
use Rattle.attributes.proofs.Refusals.{AttributesRefusal, attributes_refusal}
use Rattle.payload.specs.Read.{KindRead, FieldRead, ListsRead, PacketRead}
use Rattle.payload.specs.declared.Context.{Context}
use Rattle.payload.specs.Code.{kind_of_code, kind_at}
use Rattle.payload.specs.Sequence.{after_code, behind, string_as_field, string_field_at, string_after, boolean_as_field, boolean_field_at, boolean_after, number_as_field, any_integer_after, bounded, byte_after, integer_after}
use Rattle.payload.specs.Packet.{part_from, finished}
use Rattle.payload.specs.End.{end_of, end_at}
use Rattle.payload.specs.GetBody.{get_of, get_at}
use Rattle.payload.specs.Body.{body_start, body_of_size, sized_at, sized_of, body_at}
use Rattle.payload.specs.BodyChunk.{chunk_start, chunk_of, chunk_by, chunk_at}
use Rattle.payload.specs.Lists.{headers_after, lists_of, attributes_behind, behind_headers, lists_at}
use Rattle.payload.specs.Forward.{first_method, last_method, forward_reads, forward_of, forward_at}
use Rattle.payload.specs.SendHeaders.{least_status, greatest_status, send_headers_reads, send_headers_of, send_headers_at}
use Rattle.payload.specs.Kinds.{packet_at}
use Rattle.wire.specs.Packet.{payload_place, code_place, after_code_place}
use Rattle.payload.proofs.Laws.{code_cases}

-- a packet's kind, where it is refused
abbrev KindRefusal : KindRead → Type 0
KindRefusal (KindRead.Refused n) = is_refusal n ≡ true
KindRefusal (KindRead.Kind kind) = Unit

code_read_refusal : (d : Direction) (r : NumberRead) → NumberRefusal r → KindRefusal (kind_of_code d r)
code_read_refusal d (NumberRead.Refused n) h = h
code_read_refusal d (NumberRead.Number code next) h = code_cases KindRefusal d code (λ k way. tt) refl refl

kind_at_refusal : (context : Context) (s : List ℕ) → KindRefusal (kind_at context s)
unfolding kind_at
kind_at_refusal context s = go context.body
  where
    go : (body : Bool) → KindRefusal (pick body (KindRead.Kind Kind.Body) (kind_of_code context.direction (byte_at s code_place)))
    go true = tt
    go false = code_read_refusal context.direction (byte_at s code_place) (byte_refusal s code_place (byte_at s code_place) refl)

-- a packet whose kind is refused is refused with a number of document 01
pub kind_refusal : (context : Context) (s : List ℕ) (n : ℕ) → kind_at context s ≡ KindRead.Refused n → is_refusal n ≡ true
kind_refusal context s n e = subst KindRefusal e (kind_at_refusal context s)

-- a fixed field, where it is refused
abbrev FieldRefusal : FieldRead → Type 0
FieldRefusal (FieldRead.Refused n) = is_refusal n ≡ true
FieldRefusal (FieldRead.Field at value next) = Unit

behind_refusal : (read : ℕ → FieldRead) (before : FieldRead) → ((at : ℕ) → FieldRefusal (read at)) → FieldRefusal before
    → FieldRefusal (behind read before)
behind_refusal read (FieldRead.Refused n) f h = h
behind_refusal read (FieldRead.Field at value next) f h = f next

string_after_refusal : (s : List ℕ) (field : StringField) (before : FieldRead) → FieldRefusal before → FieldRefusal (string_after s field before)
unfolding string_after string_field_at
string_after_refusal s field before =
    behind_refusal (string_field_at s field) before
    (λ at. go at (string_at s at (is_optional field)) (string_refusal s at (is_optional field) (string_at s at (is_optional field)) refl))
  where
    go : (at : ℕ) (r : StringRead) → StringRefusal r → FieldRefusal (string_as_field at r)
    go at (StringRead.Refused n) h = h
    go at (StringRead.Null next) h = tt
    go at (StringRead.Text start len next) h = tt

boolean_after_refusal : (s : List ℕ) (before : FieldRead) → FieldRefusal before → FieldRefusal (boolean_after s before)
unfolding boolean_after boolean_field_at
boolean_after_refusal s before =
    behind_refusal (boolean_field_at s) before (λ at. go at (boolean_at s at) (boolean_refusal s at (boolean_at s at) refl))
  where
    go : (at : ℕ) (r : BooleanRead) → BooleanRefusal r → FieldRefusal (boolean_as_field at r)
    go at (BooleanRead.Refused n) h = h
    go at (BooleanRead.Boolean value next) h = tt

any_integer_refusal : (s : List ℕ) (before : FieldRead) → FieldRefusal before → FieldRefusal (any_integer_after s before)
unfolding any_integer_after
any_integer_refusal s before =
    behind_refusal (λ at. number_as_field at (integer_at s at)) before (λ at. go at (integer_at s at) (integer_refusal s at (integer_at s at) refl))
  where
    go : (at : ℕ) (r : NumberRead) → NumberRefusal r → FieldRefusal (number_as_field at r)
    go at (NumberRead.Refused n) h = h
    go at (NumberRead.Number value next) h = tt

bounded_refusal : (at low high fault : ℕ) (r : NumberRead) → is_refusal fault ≡ true → NumberRefusal r → FieldRefusal (bounded at low high fault r)
bounded_refusal at low high fault (NumberRead.Refused n) f h = h
bounded_refusal at low high fault (NumberRead.Number value next) f h = go (between low high value)
  where
    go : (t : Bool) → FieldRefusal (pick t (FieldRead.Field at value next) (FieldRead.Refused fault))
    go true = tt
    go false = f

byte_after_refusal : (s : List ℕ) (low high fault : ℕ) (before : FieldRead) → is_refusal fault ≡ true → FieldRefusal before
    → FieldRefusal (byte_after s low high fault before)
unfolding byte_after
byte_after_refusal s low high fault before f =
    behind_refusal (λ at. bounded at low high fault (byte_at s at)) before
    (λ at. bounded_refusal at low high fault (byte_at s at) f (byte_refusal s at (byte_at s at) refl))

integer_after_refusal : (s : List ℕ) (low high fault : ℕ) (before : FieldRead) → is_refusal fault ≡ true → FieldRefusal before
    → FieldRefusal (integer_after s low high fault before)
unfolding integer_after
integer_after_refusal s low high fault before f =
    behind_refusal (λ at. bounded at low high fault (integer_at s at)) before
    (λ at. bounded_refusal at low high fault (integer_at s at) f (integer_refusal s at (integer_at s at) refl))

headers_after_refusal : (d : Direction) (s : List ℕ) (count : FieldRead) → FieldRefusal count → HeadersRefusal (headers_after d s count).end
unfolding headers_after
headers_after_refusal d s (FieldRead.Refused n) h = h
headers_after_refusal d s (FieldRead.Field at value next) h = headers_refusal d s next value None

-- a Forward's lists, where they are refused
abbrev ListsRefusal : ListsRead → Type 0
ListsRefusal (ListsRead.Refused n) = is_refusal n ≡ true
ListsRefusal (ListsRead.Lists declared attributes) = Unit

lists_of_refusal : (size : ℕ) (declared : Option ℕ) (r : AttributesRead) → AttributesRefusal r → ListsRefusal (lists_of size declared r)
lists_of_refusal size declared (AttributesRead.Refused n) h = h
lists_of_refusal size declared (AttributesRead.Attributes count next) h = go (eqb next size)
  where
    go : (t : Bool) → ListsRefusal (pick t (ListsRead.Lists (record { 0 = declared_length declared }) count) (ListsRead.Refused left_over))
    go true = tt
    go false = refl

behind_headers_refusal : (s : List ℕ) (r : HeadersRead) → HeadersRefusal r → ListsRefusal (behind_headers s r).end
unfolding attributes_behind
behind_headers_refusal s (HeadersRead.Refused n) h = h
behind_headers_refusal s (HeadersRead.Headers declared next) h =
    lists_of_refusal (length s) declared (attributes_at s next max_attributes []).end (attributes_refusal s next max_attributes [])

lists_refusal : (s : List ℕ) (count : FieldRead) → FieldRefusal count → ListsRefusal (lists_at s count).end
unfolding lists_at
lists_refusal s count h =
    behind_headers_refusal s (headers_after Direction.ToContainer s count).end (headers_after_refusal Direction.ToContainer s count h)

-- a packet, where it is refused
abbrev PacketRefusal : PacketRead → Type 0
PacketRefusal (PacketRead.Refused n) = is_refusal n ≡ true
PacketRefusal (PacketRead.Packet p) = Unit

finished_refusal : (size next : ℕ) (found : Packet) → PacketRefusal (finished size next found)
finished_refusal size next found = go (eqb next size)
  where
    go : (t : Bool) → PacketRefusal (pick t (PacketRead.Packet found) (PacketRead.Refused left_over))
    go true = tt
    go false = refl

forward_refusal : (s : List ℕ) → PacketRefusal (forward_at s).end
unfolding forward_at forward_reads
forward_refusal s =
    go (lists_at s (forward_reads s).headers).end
    (lists_refusal s _
    (integer_after_refusal s 0 max_headers too_many _ refl
    (boolean_after_refusal s _
    (any_integer_refusal s _
    (string_after_refusal s StringField.ServerName _
    (string_after_refusal s StringField.RemoteHost _
    (string_after_refusal s StringField.RemoteAddr _
    (string_after_refusal s StringField.ReqUri _
    (string_after_refusal s StringField.Protocol _ (byte_after_refusal s first_method last_method out_of_range after_code refl tt))))))))))
  where
    go : (r : ListsRead) → ListsRefusal r → PacketRefusal (forward_of (forward_reads s) r)
    go (ListsRead.Refused n) h = h
    go (ListsRead.Lists declared attributes) h = tt

send_headers_refusal : (s : List ℕ) → PacketRefusal (send_headers_at s).end
unfolding send_headers_at send_headers_reads
send_headers_refusal s =
    go (headers_after Direction.ToServer s (send_headers_reads s).headers).end
    (headers_after_refusal Direction.ToServer s _
    (integer_after_refusal s 0 max_headers too_many _ refl
    (string_after_refusal s StringField.Message _ (integer_after_refusal s least_status greatest_status out_of_range after_code refl tt))))
  where
    go : (r : HeadersRead) → HeadersRefusal r → PacketRefusal (send_headers_of (length s) (send_headers_reads s) r)
    go (HeadersRead.Refused n) h = h
    go (HeadersRead.Headers declared next) h = finished_refusal (length s) next _

end_refusal : (s : List ℕ) → PacketRefusal (end_at s)
unfolding end_at
end_refusal s = go (boolean_at s after_code_place) (boolean_refusal s after_code_place (boolean_at s after_code_place) refl)
  where
    go : (r : BooleanRead) → BooleanRefusal r → PacketRefusal (end_of (length s) r)
    go (BooleanRead.Refused n) h = h
    go (BooleanRead.Boolean reuse next) h = finished_refusal (length s) next (Packet.End reuse)

get_refusal : (s : List ℕ) → PacketRefusal (get_at s)
unfolding get_at
get_refusal s = go (integer_at s after_code_place) (integer_refusal s after_code_place (integer_at s after_code_place) refl)
  where
    go : (r : NumberRead) → NumberRefusal r → PacketRefusal (get_of (length s) r)
    go (NumberRead.Refused n) h = h
    go (NumberRead.Number asked next) h = finished_refusal (length s) next (Packet.GetBody asked)

sized_refusal : (size len : ℕ) → PacketRefusal (sized_at size len)
unfolding sized_at
sized_refusal size len = go (ltb size (body_start + len)) (ltb (body_start + len) size)
  where
    go : (t u : Bool)
        → PacketRefusal
        (pick t (PacketRead.Refused cut_short) (pick u (PacketRead.Refused left_over) (PacketRead.Packet (Packet.Body (body_of_size len)))))
    go true u = refl
    go false true = refl
    go false false = tt

body_refusal : (s : List ℕ) → PacketRefusal (body_at s)
unfolding body_at
body_refusal s = go (eqb (length s) payload_place) (integer_at s payload_place) (integer_refusal s payload_place (integer_at s payload_place) refl)
  where
    go : (t : Bool) (r : NumberRead) → NumberRefusal r
        → PacketRefusal (pick t (PacketRead.Packet (Packet.Body (body_of_size 0))) (sized_of (length s) r))
    go true r h = tt
    go false (NumberRead.Refused n) h = h
    go false (NumberRead.Number len next) h = sized_refusal (length s) len

chunk_refusal : (s : List ℕ) → PacketRefusal (chunk_at s)
unfolding chunk_at chunk_of
chunk_refusal s = go (integer_at s after_code_place) (integer_refusal s after_code_place (integer_at s after_code_place) refl)
  where
    by : (len : ℕ) (t u : Bool)
        → PacketRefusal
        (pick t
        (pick u (finished (length s) (chunk_start + len + 1) (Packet.BodyChunk (part_from chunk_start len))) (PacketRead.Refused string_wrong))
        (PacketRead.Refused cut_short))
    by len true true = finished_refusal (length s) (chunk_start + len + 1) (Packet.BodyChunk (part_from chunk_start len))
    by len true false = refl
    by len false u = refl

    go : (r : NumberRead) → NumberRefusal r → PacketRefusal (chunk_by s r)
    go (NumberRead.Refused n) h = h
    go (NumberRead.Number len next) h = by len (leb (chunk_start + (len + 1)) (length s)) (eqb (get_or s (chunk_start + len) 0) 0)

-- a packet of any kind
read_refusal : (context : Context) (kind : Kind) (s : List ℕ) → PacketRefusal (packet_at context kind s).end
read_refusal context Kind.CPing s = finished_refusal (length s) after_code_place Packet.CPing
read_refusal context Kind.CPong s = finished_refusal (length s) after_code_place Packet.CPong
read_refusal context Kind.Forward s = forward_refusal s
read_refusal context Kind.Body s = body_refusal s
read_refusal context Kind.GetBody s = get_refusal s
read_refusal context Kind.SendHeaders s = send_headers_refusal s
read_refusal context Kind.BodyChunk s = chunk_refusal s
read_refusal context Kind.End s = end_refusal s

-- a packet of any kind is refused with a number of document 01
pub packet_refusal : (context : Context) (kind : Kind) (s : List ℕ) (n : ℕ) → (packet_at context kind s).end ≡ PacketRead.Refused n
    → is_refusal n ≡ true
packet_refusal context kind s n e = subst PacketRefusal e (read_refusal context kind s)
