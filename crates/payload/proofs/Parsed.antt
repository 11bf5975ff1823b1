-- What a packet that was read is: of the kind that it was read as.
-- Assumes nothing.
use mathlib.Core.Path.{◌≡◌, refl, subst}
use mathlib.Core.Bool.{Bool, true, false}
use mathlib.Core.List.{List}
use Prim.Native.Nat.{ℕ, ◌+◌}
use lib.Dec.{leb, ltb, eqb}
use lib.ListN.{length, get_or}
use Rattle.wire.specs.Pick.{pick}
use Rattle.wire.specs.Refusal.{left_over, cut_short, string_wrong}
use Rattle.wire.specs.Field.{integer_at, boolean_at}
use Rattle.wire.specs.Packet.{payload_place, after_code_place}
use Rattle.packet.specs.declared.Direction.{Direction}
use Rattle.wire.specs.Read.{NumberRead, BooleanRead}
use Rattle.connection.specs.declared.Kind.{Kind}
use Rattle.connection.specs.Cycle.{move_kind}
use Rattle.headers.specs.Read.{HeadersRead}
use Rattle.packet.specs.declared.Packet.{Packet}
use Rattle.payload.specs.Read.{ListsRead, PacketRead}
use Rattle.payload.specs.declared.Context.{Context}
use Rattle.payload.specs.Packet.{part_from, finished}
use Rattle.payload.specs.End.{end_of, end_at}
use Rattle.payload.specs.GetBody.{get_of, get_at}
use Rattle.payload.specs.Body.{body_start, body_of_size, sized_at, sized_of, body_at}
use Rattle.payload.specs.BodyChunk.{chunk_start, chunk_of, chunk_by, chunk_at}
use Rattle.payload.specs.Lists.{headers_after, lists_at}
use Rattle.payload.specs.Forward.{ForwardReads, forward_reads, forward_of, forward_at}
use Rattle.payload.specs.SendHeaders.{SendHeadersReads, send_headers_reads, send_headers_of, send_headers_at}
use Rattle.payload.specs.Kinds.{packet_at, packet_kind, packet_move}

-- a packet, where one is read, is of this kind
abbrev KindIs : Kind → PacketRead → Type 0
KindIs kind (PacketRead.Refused n) = Unit
KindIs kind (PacketRead.Packet p) = packet_kind p ≡ kind

-- a packet behind whose last field nothing stands keeps its kind
finished_kind : (size next : ℕ) (found : Packet) → KindIs (packet_kind found) (finished size next found)
finished_kind size next found = go (eqb next size)
  where
    go : (t : Bool) → KindIs (packet_kind found) (pick t (PacketRead.Packet found) (PacketRead.Refused left_over))
    go true = refl
    go false = tt

-- what is read as an End is one
end_kind : (s : List ℕ) → KindIs Kind.End (end_at s)
unfolding end_at
end_kind s = go (boolean_at s after_code_place)
  where
    go : (r : BooleanRead) → KindIs Kind.End (end_of (length s) r)
    go (BooleanRead.Refused n) = tt
    go (BooleanRead.Boolean reuse next) = finished_kind (length s) next (Packet.End reuse)

-- what is read as a Get Body Chunk is one
get_kind : (s : List ℕ) → KindIs Kind.GetBody (get_at s)
unfolding get_at
get_kind s = go (integer_at s after_code_place)
  where
    go : (r : NumberRead) → KindIs Kind.GetBody (get_of (length s) r)
    go (NumberRead.Refused n) = tt
    go (NumberRead.Number asked next) = finished_kind (length s) next (Packet.GetBody asked)

-- what is read as a body packet with a size is a body packet
sized_kind : (size len : ℕ) → KindIs Kind.Body (sized_at size len)
unfolding sized_at
sized_kind size len = go (ltb size (body_start + len)) (ltb (body_start + len) size)
  where
    go : (t u : Bool) → KindIs Kind.Body
        (pick t (PacketRead.Refused cut_short) (pick u (PacketRead.Refused left_over) (PacketRead.Packet (Packet.Body (body_of_size len)))))
    go true u = tt
    go false true = tt
    go false false = refl

-- what is read as a body packet is one
body_kind : (s : List ℕ) → KindIs Kind.Body (body_at s)
unfolding body_at
body_kind s = go (eqb (length s) payload_place) (integer_at s payload_place)
  where
    go : (t : Bool) (r : NumberRead) → KindIs Kind.Body
        (pick t (PacketRead.Packet (Packet.Body (body_of_size 0))) (sized_of (length s) r))
    go true r = refl
    go false (NumberRead.Refused n) = tt
    go false (NumberRead.Number len next) = sized_kind (length s) len

-- what is read as a Send Body Chunk is one
chunk_kind : (s : List ℕ) → KindIs Kind.BodyChunk (chunk_at s)
unfolding chunk_at chunk_of
chunk_kind s = go (integer_at s after_code_place)
  where
    by : (len : ℕ) (t u : Bool) → KindIs Kind.BodyChunk
        (pick t
        (pick u (finished (length s) (chunk_start + len + 1) (Packet.BodyChunk (part_from chunk_start len))) (PacketRead.Refused string_wrong))
        (PacketRead.Refused cut_short))
    by len true true = finished_kind (length s) (chunk_start + len + 1) (Packet.BodyChunk (part_from chunk_start len))
    by len true false = tt
    by len false u = tt

    go : (r : NumberRead) → KindIs Kind.BodyChunk (chunk_by s r)
    go (NumberRead.Refused n) = tt
    go (NumberRead.Number len next) = by len (leb (chunk_start + (len + 1)) (length s)) (eqb (get_or s (chunk_start + len) 0) 0)

-- what is read as a Forward is one
forward_kind : (reads : ForwardReads) (r : ListsRead) → KindIs Kind.Forward (forward_of reads r)
forward_kind reads (ListsRead.Refused n) = tt
forward_kind reads (ListsRead.Lists declared attributes) = refl

-- what is read as a Send Headers is one
send_headers_kind : (size : ℕ) (reads : SendHeadersReads) (r : HeadersRead) → KindIs Kind.SendHeaders (send_headers_of size reads r)
send_headers_kind size reads (HeadersRead.Refused n) = tt
send_headers_kind size reads (HeadersRead.Headers declared next) = finished_kind size next _

-- what is read as a kind is of that kind
packet_kind_lem : (context : Context) (kind : Kind) (s : List ℕ) → KindIs kind (packet_at context kind s).end
unfolding forward_at send_headers_at
packet_kind_lem context Kind.CPing s = finished_kind (length s) after_code_place Packet.CPing
packet_kind_lem context Kind.CPong s = finished_kind (length s) after_code_place Packet.CPong
packet_kind_lem context Kind.Forward s = forward_kind (forward_reads s) (lists_at s (forward_reads s).headers).end
packet_kind_lem context Kind.Body s = body_kind s
packet_kind_lem context Kind.GetBody s = get_kind s
packet_kind_lem context Kind.SendHeaders s = send_headers_kind (length s) (send_headers_reads s) (headers_after Direction.ToServer s (send_headers_reads s).headers).end
packet_kind_lem context Kind.BodyChunk s = chunk_kind s
packet_kind_lem context Kind.End s = end_kind s

-- a packet that was read is of the kind that it was read as
pub parsed_kind : (context : Context) (kind : Kind) (s : List ℕ) (p : Packet) → (packet_at context kind s).end ≡ PacketRead.Packet p
    → packet_kind p ≡ kind
parsed_kind context kind s p e = subst (KindIs kind) e (packet_kind_lem context kind s)

-- a packet's move is of its kind
pub move_kind_lem : (p : Packet) → move_kind (packet_move p) ≡ packet_kind p
move_kind_lem Packet.CPing = refl
move_kind_lem Packet.CPong = refl
move_kind_lem (Packet.Forward forward) = refl
move_kind_lem (Packet.Body part) = refl
move_kind_lem (Packet.GetBody asked) = refl
move_kind_lem (Packet.SendHeaders response) = refl
move_kind_lem (Packet.BodyChunk part) = refl
move_kind_lem (Packet.End reuse) = refl
