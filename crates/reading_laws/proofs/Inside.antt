-- What reading answers lies inside the packet: every place for the table, every fixed string's place, and the body's or chunk's bytes; and
-- there are at most so many headers, attributes and places.
-- Assumes nothing.
use mathlib.Core.Path.{◌≡◌, refl, sym, subst}
use mathlib.Core.Bool.{Bool, true}
use mathlib.Core.List.{List, [], ◌∷◌, ◌++◌}
use Prim.Native.Nat.{ℕ, ◌+◌, ◌<◌}
use native.Mathlib.Omega.{arith}
use borrow.Author.Tests.{lt-ltb, leb-true}
use lib.Dec.{leb, ltb}
use lib.ListN.{length}
use Rattle.wire.specs.Pick.{all}
use Rattle.packet.specs.declared.Direction.{Direction}
use Rattle.wire.specs.declared.StringField.{StringField}
use Rattle.wire.specs.Facts.{StringInside}
use Rattle.wire.specs.Field.{string_at, is_optional}
use Rattle.wire.specs.Read.{StringRead}
use Rattle.wire.proofs.Field.{string_inside}
use Rattle.wire.proofs.Tests.{both_first, both_second}
use Rattle.std.specs.Prelude.{None}
use Rattle.places.specs.Entries.{max_attributes}
use Rattle.headers.specs.Read.{HeadersRead}
use Rattle.headers.proofs.Laws.{headers_within}
use Rattle.attributes.proofs.Laws.{attributes_inside}
use Rattle.connection.specs.declared.Kind.{Kind}
use Rattle.payload.specs.Lists.{headers_after, attributes_behind, behind_headers, lists_at}
use Rattle.payload.specs.Forward.{forward_at}
use Rattle.payload.specs.SendHeaders.{send_headers_at}
use Rattle.payload.specs.Kinds.{packet_at, packet_kind}
use Rattle.payload.specs.Read.{FieldRead, PacketRead}
use Rattle.packet.specs.declared.Forward.{Forward}
use Rattle.packet.specs.declared.Packet.{Packet}
use Rattle.payload.specs.declared.Context.{Context}
use Rattle.payload.specs.Handed.{StringEnds, StringThere, ForwardHanded}
use Rattle.payload.proofs.Handed.{forward_handed, forward_places, send_headers_handed, send_headers_places, body_inside, chunk_handed}
use Rattle.payload.proofs.Parsed.{parsed_kind}
use Rattle.reader.specs.Meaning.{headers_in, attributes_in}
use Rattle.reading_laws.specs.Inside.{AllBelow, FieldsInside, PacketInside}

-- where every element passes a test, it passes a weaker one
all_weaker : (p q : ℕ → Bool) → ((n : ℕ) → p n ≡ true → q n ≡ true) → (l : List ℕ) → all p l ≡ true → all q l ≡ true
unfolding all
all_weaker p q h [] e = refl
all_weaker p q h (x ∷ xs) e =
    rw (h x (both_first (p x) (all p xs) e)) (all_weaker p q h xs (both_second (p x) (all p xs) e))

-- where every element of two lists passes a test, every one of both together does
all_both : (p : ℕ → Bool) (l r : List ℕ) → all p l ≡ true → all p r ≡ true → all p (l ++ r) ≡ true
unfolding all
all_both p [] r e f = f
all_both p (x ∷ xs) r e f =
    rw (both_first (p x) (all p xs) e) (all_both p xs r (both_second (p x) (all p xs) e) f)

-- no place
none_below : (size : ℕ) → AllBelow size []
unfolding all
none_below size = refl

-- the places of the headers behind their count
headers_below : (d : Direction) (s : List ℕ) (count : FieldRead) → AllBelow (length s) (headers_after d s count).places
unfolding headers_after
headers_below d s (FieldRead.Refused n) = none_below (length s)
headers_below d s (FieldRead.Field at value next) =
    all_weaker (λ (p : ℕ). leb (p + 2) (length s)) (λ (p : ℕ). ltb p (length s))
    (λ p h. lt-ltb p (length s) (omega (arith, leb-true (p + 2) (length s) h)))
    _ (headers_within d s next value None)

-- the places of the attributes behind the headers
attributes_below : (s : List ℕ) (r : HeadersRead) → AllBelow (length s) (behind_headers s r).places
unfolding attributes_behind
attributes_below s (HeadersRead.Refused n) = none_below (length s)
attributes_below s (HeadersRead.Headers declared next) = (attributes_inside s next max_attributes []).within

-- the places of a Forward's headers and attributes
lists_below : (s : List ℕ) (count : FieldRead) → AllBelow (length s) (lists_at s count).places
unfolding lists_at
lists_below s count =
    let headers = headers_after Direction.ToContainer s count in
    all_both (λ (p : ℕ). ltb p (length s)) headers.places (behind_headers s headers.end).places
    (headers_below Direction.ToContainer s count) (attributes_below s headers.end)

-- every place that a packet has for the table is inside the packet
pub places_inside : (context : Context) (kind : Kind) (s : List ℕ) → AllBelow (length s) (packet_at context kind s).places
unfolding forward_at send_headers_at
places_inside context Kind.CPing s = none_below (length s)
places_inside context Kind.CPong s = none_below (length s)
places_inside context Kind.Forward s = lists_below s _
places_inside context Kind.Body s = none_below (length s)
places_inside context Kind.GetBody s = none_below (length s)
places_inside context Kind.SendHeaders s = headers_below Direction.ToServer s _
places_inside context Kind.BodyChunk s = none_below (length s)
places_inside context Kind.End s = none_below (length s)

-- a string that is read at a place is inside the packet
string_below : (s : List ℕ) (field : StringField) (at end : ℕ) → StringThere s field at end → at < length s
string_below s field at end =
    go (string_at s at (is_optional field)) (string_inside s at (is_optional field) (string_at s at (is_optional field)) refl)
  where
    go : (r : StringRead) → StringInside (length s) at r → StringEnds end r → at < length s
    go (StringRead.Refused n) h there = absurd there
    go (StringRead.Null next) h there = omega (arith, h.0, h.1)
    go (StringRead.Text start len next) h there = omega (arith, h.0, h.1.0, h.1.1)

-- the strings of a Forward that was read
forward_in : (s : List ℕ) (f : Forward) (places : List ℕ) → ForwardHanded s f places → FieldsInside (length s) (Packet.Forward f)
forward_in s f places h = (
  string_below s StringField.Protocol _ _ h.protocol_there,
  string_below s StringField.ReqUri _ _ h.uri_there,
  string_below s StringField.RemoteAddr _ _ h.addr_there,
  string_below s StringField.RemoteHost _ _ h.host_there,
  string_below s StringField.ServerName _ _ h.name_there,
)

-- a packet that has no headers and no attributes
plain_inside : (size : ℕ) (packet : Packet) → headers_in packet ≡ 0 → attributes_in packet ≡ 0 → FieldsInside size packet → PacketInside size packet
plain_inside size packet headers attributes fields =
    record {
      fields_in = fields;
      headers_most = omega arith;
      attributes_most = omega arith;
      places_most = omega arith;
    }

-- a packet that was read as its own kind
own_inside : (context : Context) (s : List ℕ) (packet : Packet) → (packet_at context (packet_kind packet) s).end ≡ PacketRead.Packet packet → PacketInside (length s) packet
own_inside context s Packet.CPing e = plain_inside (length s) Packet.CPing refl refl tt
own_inside context s Packet.CPong e = plain_inside (length s) Packet.CPong refl refl tt
own_inside context s (Packet.Forward forward) e =
    let f = forward_places s forward e in
    record {
      fields_in = forward_in s forward (forward_at s).places (forward_handed s forward e);
      headers_most = f.headers_most;
      attributes_most = f.attributes_most;
      places_most = omega (arith, f.headers_most, f.attributes_most);
    }
own_inside context s (Packet.Body part) e =
    plain_inside (length s) (Packet.Body part) refl refl (body_inside s part e)
own_inside context s (Packet.GetBody asked) e = plain_inside (length s) (Packet.GetBody asked) refl refl tt
own_inside context s (Packet.SendHeaders response) e =
    let f = send_headers_places s response e in
    record {
      fields_in = string_below s StringField.Message _ _ (send_headers_handed s response e).message_there;
      headers_most = f.headers_most;
      attributes_most = omega arith;
      places_most = omega (arith, f.headers_most);
    }
own_inside context s (Packet.BodyChunk part) e =
    plain_inside (length s) (Packet.BodyChunk part) refl refl (omega (arith, (chunk_handed s part e).rest))
own_inside context s (Packet.End reuse) e = plain_inside (length s) (Packet.End reuse) refl refl tt

-- what is handed out of a packet that was read lies inside it
pub packet_inside : (context : Context) (kind : Kind) (s : List ℕ) (packet : Packet) → (packet_at context kind s).end ≡ PacketRead.Packet packet → PacketInside (length s) packet
packet_inside context kind s packet e =
    own_inside context s packet (subst (λ (k : Kind). (packet_at context k s).end ≡ PacketRead.Packet packet) (sym (parsed_kind context kind s packet e)) e)
