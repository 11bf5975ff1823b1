-- What the crates below say of a packet's places: a packet that was read has as many as it asks for, and at most 328.
-- Assumes nothing.
use mathlib.Core.Path.{◌≡◌, refl, subst}
use mathlib.Core.List.{List}
use Prim.Native.Nat.{ℕ, ◌≤◌}
use native.Mathlib.Omega.{arith}
use lib.ListN.{length}
use Rattle.places.specs.Entries.{max_places}
use Rattle.connection.specs.declared.Kind.{Kind}
use Rattle.payload.specs.Kinds.{packet_at, packet_kind}
use Rattle.packet.specs.declared.Packet.{Packet}
use Rattle.payload.specs.declared.Context.{Context}
use Rattle.payload.specs.Read.{PacketRead}
use Rattle.payload.proofs.Handed.{forward_places, send_headers_places}
use Rattle.payload.proofs.Parsed.{parsed_kind}
use Rattle.reader.specs.Meaning.{places_needed}

-- a packet that was read asks for so many places, at most 328
abbrev pub PlacesFit : ℕ → PacketRead → Type 0
PlacesFit many (PacketRead.Refused n) = Unit
PlacesFit many (PacketRead.Packet packet) = (many ≡ places_needed packet) × (many ≤ max_places)

module _ (context : Context) (s : List ℕ) where
  -- a packet that is read as its own kind
  own_fit : (packet : Packet) → (packet_at context (packet_kind packet) s).end ≡ PacketRead.Packet packet
      → PlacesFit (length (packet_at context (packet_kind packet) s).places) (PacketRead.Packet packet)
  own_fit Packet.CPing e = (refl, omega arith)
  own_fit Packet.CPong e = (refl, omega arith)
  own_fit (Packet.Forward forward) e =
      let f = forward_places s forward e in
      (omega (arith, f.many), omega (arith, f.many, f.headers_most, f.attributes_most))
  own_fit (Packet.Body part) e = (refl, omega arith)
  own_fit (Packet.GetBody asked) e = (refl, omega arith)
  own_fit (Packet.SendHeaders response) e =
      let f = send_headers_places s response e in
      (omega (arith, f.many), omega (arith, f.many, f.headers_most))
  own_fit (Packet.BodyChunk part) e = (refl, omega arith)
  own_fit (Packet.End reuse) e = (refl, omega arith)

  -- every packet that is read is read as its own kind
  read_fit : (kind : Kind) (r : PacketRead) → (packet_at context kind s).end ≡ r → PlacesFit (length (packet_at context kind s).places) r
  read_fit kind (PacketRead.Refused n) e = tt
  read_fit kind (PacketRead.Packet packet) e =
      subst (λ (k : Kind). (packet_at context k s).end ≡ PacketRead.Packet packet → PlacesFit (length (packet_at context k s).places) (PacketRead.Packet packet))
      (parsed_kind context kind s packet e) (own_fit packet) e

  pub places_fit : (kind : Kind) → PlacesFit (length (packet_at context kind s).places) (packet_at context kind s).end
  places_fit kind = read_fit kind (packet_at context kind s).end refl
