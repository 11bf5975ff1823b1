-- The table that an accepted packet leaves: its places are laid over the table from the start on, so those of its headers are the first of them,
-- and those of its attributes stand behind them.
-- Assumes nothing.
use native.Mathlib.Omega.{arith}
use mathlib.Core.Path.{◌≡◌, sym, ap, ◌∙◌}
use mathlib.Core.List.{List, [], ◌++◌, append-nil}
use Prim.Native.Nat.{ℕ, ◌*◌}
use lib.ListN.{length}
use Rattle.wire.specs.Bytes.{part, over}
use Rattle.packet.specs.declared.Direction.{Direction}
use Rattle.wire.proofs.Parts.{over_first, over_second}
use Rattle.connection.specs.declared.Connection.{Connection}
use Rattle.connection.specs.declared.Kind.{Kind}
use Rattle.payload.specs.Forward.{forward_at}
use Rattle.payload.specs.SendHeaders.{send_headers_at}
use Rattle.payload.specs.Kinds.{packet_at, packet_kind}
use Rattle.packet.specs.declared.Forward.{Forward}
use Rattle.packet.specs.declared.SendHeaders.{SendHeaders}
use Rattle.packet.specs.declared.Packet.{Packet}
use Rattle.payload.specs.declared.Context.{Context}
use Rattle.payload.specs.Read.{PacketRead}
use Rattle.payload.proofs.Parsed.{parsed_kind}
use Rattle.payload.proofs.Handed.{forward_handed, send_headers_handed}
use Rattle.reader.specs.Meaning.{accepted, headers_in, attributes_in}
use Rattle.reader.specs.Reading.{context_of, reading, table_after}
use Rattle.reading_laws.proofs.Acceptance.{accepted_is, accepted_fills}
use Rattle.messages.specs.Shown.{header_places, attribute_places}
use Rattle.messages.proofs.Parses.{context_for, packet_context, accepted_parses}

-- the places that a packet has for the table
abbrev places_in : Packet → List ℕ → List ℕ
places_in p s = (packet_at (context_for (packet_kind p)) (packet_kind p) s).places

-- the table with a packet's places
abbrev pub table_of : Packet → List ℕ → List ℕ → List ℕ
table_of p s table = over table 0 (places_in p s)

-- an accepted packet fills the table with its own places
pub table_filled : (d : Direction) (c : Connection) (s table : List ℕ) (p : Packet) (n : ℕ) (next : Connection)
    → reading d c s (length table) ≡ accepted p n next → table_after d c s table ≡ table_of p (part s 0 n) table
table_filled d c s table p n next e =
    let a = accepted_is d c s (length table) p n next e in
    let kind : a.kind ≡ packet_kind p = sym (parsed_kind (context_of d c) a.kind (part s 0 n) p a.fields_are) in
    (accepted_fills d c s table p n next e).0
    ∙ ap (λ (k : Kind). over table 0 (packet_at (context_of d c) k (part s 0 n)).places) kind
    ∙ ap (λ (x : Context). over table 0 (packet_at x (packet_kind p) (part s 0 n)).places)
    (packet_context c d p (accepted_parses d c s (length table) p n next e).parses.way a.allows)

-- a packet's places, parted into those of its headers and those of its attributes
module _ (p : Packet) (s table headers attributes : List ℕ) (are : places_in p s ≡ headers ++ attributes)
    (many : length headers ≡ 2 * headers_in p) where
  -- the places of its headers in the table, whatever its length
  header_places_lem : header_places p (table_of p s table) ≡ headers
  header_places_lem = rw (are, ← many) (over_first table headers attributes)

  -- and those of its attributes
  attribute_places_lem : length attributes ≡ 2 * attributes_in p → attribute_places p (table_of p s table) ≡ attributes
  attribute_places_lem more = rw (are, ← many, ← more) (over_second table headers attributes)

-- a Forward has two places for each header and two for each attribute
pub forward_many : (s : List ℕ) (f : Forward) (e : (forward_at s).end ≡ PacketRead.Packet (Packet.Forward f)) → (let lists = (forward_handed s f e).lists in
    (length lists.of_headers ≡ 2 * f.headers) × (length lists.of_attributes ≡ 2 * f.attributes))
forward_many s f e =
    let lists = (forward_handed s f e).lists in
    (omega (arith, lists.headers_many), omega (arith, lists.attributes_many))

-- they are those in the table
pub forward_table : (s table : List ℕ) (f : Forward) (e : (forward_at s).end ≡ PacketRead.Packet (Packet.Forward f)) → (let lists = (forward_handed s f e).lists in
    let p = Packet.Forward f in
    (header_places p (table_of p s table) ≡ lists.of_headers) × (attribute_places p (table_of p s table) ≡ lists.of_attributes))
forward_table s table f e =
    let lists = (forward_handed s f e).lists in
    let many = forward_many s f e in (
      header_places_lem (Packet.Forward f) s table lists.of_headers lists.of_attributes lists.are many.0,
      attribute_places_lem (Packet.Forward f) s table lists.of_headers lists.of_attributes lists.are many.0 many.1,
    )

-- a Send Headers has two places for each header
pub send_headers_many : (s : List ℕ) (h : SendHeaders) → (send_headers_at s).end ≡ PacketRead.Packet (Packet.SendHeaders h)
    → length (send_headers_at s).places ≡ 2 * h.headers
send_headers_many s h e = omega (arith, (send_headers_handed s h e).headers_many)

-- they are those in the table
pub send_headers_table : (s table : List ℕ) (h : SendHeaders) → (send_headers_at s).end ≡ PacketRead.Packet (Packet.SendHeaders h)
    → header_places (Packet.SendHeaders h) (table_of (Packet.SendHeaders h) s table) ≡ (send_headers_at s).places
send_headers_table s table h e =
    header_places_lem (Packet.SendHeaders h) s table (send_headers_at s).places [] (sym (append-nil (send_headers_at s).places)) (send_headers_many s h e)
