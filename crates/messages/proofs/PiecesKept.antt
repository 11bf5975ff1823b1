-- From read to written: the bytes of a Forward or a Send Headers that was read are those of the message that it shows, and none of its pieces
-- has a fault. What it hands out (`forward_handed`, `send_headers_handed`) stands one behind the other, from its code to its last byte, and each field
-- is kept (`FieldsKept`).
-- Assumes nothing.
use native.Mathlib.Omega.{arith}
use mathlib.Core.Path.{◌≡◌, refl, sym, ap, subst, ◌∙◌}
use mathlib.Core.Bool.{true}
use mathlib.Core.List.{List, [], ◌∷◌, ◌++◌}
use Prim.Native.Nat.{ℕ, ◌+◌, ◌≤◌}
use lib.ListN.{length, drop}
use Rattle.wire.specs.Pick.{between}
use Rattle.wire.specs.Bytes.{integer_bytes}
use Rattle.wire.specs.Packet.{packet, after_code_place}
use Rattle.packet.specs.declared.Direction.{Direction}
use Rattle.wire.specs.declared.StringField.{StringField}
use Rattle.wire.specs.Facts.{Bytes}
use Rattle.std.specs.Prelude.{None}
use Rattle.connection.specs.Cycle.{direction_of}
use Rattle.places.specs.Entries.{max_headers}
use Rattle.payload.specs.Code.{code_of}
use Rattle.payload.specs.Forward.{first_method, last_method}
use Rattle.payload.specs.SendHeaders.{least_status, greatest_status, send_headers_at}
use Rattle.packet.specs.declared.Forward.{Forward}
use Rattle.packet.specs.declared.SendHeaders.{SendHeaders}
use Rattle.packet.specs.declared.Packet.{Packet}
use Rattle.payload.proofs.Handed.{forward_handed, send_headers_handed}
use Rattle.building.specs.Fault.{range_fault}
use Rattle.building.specs.Field.{Field}
use Rattle.building.proofs.Faults.{range_most}
use Rattle.building_record.specs.Record.{built_kind}
use Rattle.building_record.specs.declared.BuildingKind.{BuildingKind}
use Rattle.closing.specs.Closing.{last_bytes}
use Rattle.messages.specs.Message.{Header, Attribute, Request, Response, Message, forward, send_headers, message_direction, Fit}
use Rattle.messages.specs.Bytes.{attributes_bytes, request_fields, response_fields, pieces_payload, payload_of, message_bytes}
use Rattle.messages.specs.Shown.{headers_shown, attributes_shown, shown_by}
use Rattle.messages.proofs.Fine.{FieldsFine, HeadersFine, AttributesFine}
use Rattle.messages.proofs.Parses.{Parses, coded_kept}
use Rattle.messages.proofs.FieldsShown.{headers_many}
use Rattle.messages.proofs.FieldsKept.{Held, held_none, held_join, held_rest, FieldsKept, fields_front, fields_last, string_kept, byte_held, integer_held, boolean_held, HeadersKept, headers_kept, attributes_kept}

-- a packet in pieces that was read shows a message whose bytes are the packet; its own fields, its headers, of which there are at most 100, and
-- its attributes have no fault, and each of its numbers fits the call that takes it
pub record PiecesKept (direction : Direction) (s : List ℕ) (m : Message) (own : List Field) (headers : List Header) (attributes : List Attribute) : Type 0 where
  pub bytes_are : message_bytes m ≡ s
  pub way_is : message_direction m ≡ direction
  pub own_fine : FieldsFine own
  pub headers_fine : HeadersFine direction headers
  pub few : length headers ≤ max_headers
  pub attributes_fine : AttributesFine attributes
  pub fit : Fit m

-- that is so of a Forward
abbrev pub RequestKept : List ℕ → Message → Type 0
RequestKept s m =
    (request : Request) × (m ≡ forward request)
    × PiecesKept Direction.ToContainer s m (request_fields request) request.headers request.attributes

-- and of a Send Headers
abbrev pub ResponseKept : List ℕ → Message → Type 0
ResponseKept s m =
    (response : Response) × (m ≡ send_headers response) × PiecesKept Direction.ToServer s m (response_fields response) response.headers []

-- the message that a Forward shows, by where its headers and attributes are
abbrev pub forward_shown : List ℕ → Forward → List ℕ → List ℕ → Message
forward_shown s f headers attributes = shown_by (Packet.Forward f) s headers attributes

-- and that of a Send Headers
abbrev pub send_headers_shown : List ℕ → SendHeaders → List ℕ → Message
send_headers_shown s h headers = shown_by (Packet.SendHeaders h) s headers []

-- a packet whose pieces are kept, one behind the other, from behind its code to its end
pieces_kept : (kind : BuildingKind) (s : List ℕ) {own : List Field} {count next n : ℕ} {places : List ℕ} {middle : ℕ} (attributes : List Attribute)
    (m : Message) → s ≡ packet (direction_of (built_kind kind)) (code_of (built_kind kind) ∷ drop after_code_place s) → message_direction m ≡ direction_of (built_kind kind)
    → payload_of m ≡ pieces_payload kind own (headers_shown s places) attributes → FieldsKept s after_code_place count own
    → Held s count next (integer_bytes n) → n ≤ max_headers → length places ≡ n + n → HeadersKept (direction_of (built_kind kind)) s next places middle
    → Held s middle (length s) (attributes_bytes attributes ++ last_bytes kind) → AttributesFine attributes → Fit m
    → PiecesKept (direction_of (built_kind kind)) s m own (headers_shown s places) attributes
unfolding message_bytes
pieces_kept kind s {own} {count} {next} {n} {places} {middle} attributes m packed way payload fixed counted most placed of_headers rest fine fit =
    let own_many : length (headers_shown s places) ≡ n = headers_many s places n (omega (arith, placed)) in
    let many : Held s count next (integer_bytes (length (headers_shown s places))) =
    subst (λ (k : ℕ). Held s count next (integer_bytes k)) (sym own_many) counted in
    let whole = held_join fixed.held (held_join many (held_join of_headers.held rest)) in
    record {
      bytes_are =
          ap (λ (d : Direction). packet d (payload_of m)) way
          ∙ ap (packet (direction_of (built_kind kind))) (payload ∙ ap (λ (l : List ℕ). code_of (built_kind kind) ∷ l) (sym (held_rest s after_code_place _ whole)))
          ∙ sym packed;
      way_is = way;
      own_fine = fixed.fine;
      headers_fine = of_headers.fine;
      few = omega (arith, own_many, most);
      attributes_fine = fine;
      fit = fit;
    }

-- a number in its range has no fault
range_fine : (low high n : ℕ) → between low high n ≡ true → range_fault low high n ≡ 0
unfolding range_fault
range_fine low high n e = rw e

-- a Forward that was read
pub forward_kept : (s : List ℕ) (f : Forward) → Bytes s → (r : Parses Direction.ToContainer s (Packet.Forward f))
    → (let lists = (forward_handed s f r.fields_are).lists in RequestKept s (forward_shown s f lists.of_headers lists.of_attributes))
forward_kept s f bytes r =
    let h = forward_handed s f r.fields_are in
    let lists = h.lists in
    let in_range : range_fault first_method last_method f.method ≡ 0 = range_fine first_method last_method f.method h.method_range in
    let port = integer_held s h.port_place f.server_port h.ssl_place bytes h.port_read in
    let ssl = boolean_held s h.ssl_place f.is_ssl h.count_place h.ssl_read in
    let attributes = attributes_kept s lists.middle lists.of_attributes (length s) bytes (omega arith) lists.attributes_there in
    let headers =
    headers_kept Direction.ToContainer s h.lists_place None lists.of_headers lists.middle lists.of_length bytes attributes.held.forth
    lists.headers_there in
    let fixed =
    fields_front (record { held = byte_held s after_code_place f.method f.protocol.0 h.method_read; fine = in_range })
    (fields_front (string_kept s f.protocol.0 StringField.Protocol f.req_uri.0 bytes h.protocol_there)
    (fields_front (string_kept s f.req_uri.0 StringField.ReqUri f.remote_addr.0 bytes h.uri_there)
    (fields_front (string_kept s f.remote_addr.0 StringField.RemoteAddr f.remote_host.0 bytes h.addr_there)
    (fields_front (string_kept s f.remote_host.0 StringField.RemoteHost f.server_name.0 bytes h.host_there)
    (fields_front (string_kept s f.server_name.0 StringField.ServerName h.port_place bytes h.name_there)
    (fields_front (record { held = port.0; fine = refl }) (fields_last (record { held = ssl; fine = refl })))))))) in (
      _,
      refl,
      pieces_kept BuildingKind.Forward s (attributes_shown s lists.of_attributes) _ (coded_kept r refl bytes) refl refl fixed
          (integer_held s h.count_place f.headers h.lists_place bytes h.count_read).0 h.headers_most lists.headers_many headers
          attributes.held attributes.fine
          (omega (arith, range_most first_method last_method f.method in_range), port.1, headers.fit, attributes.fit),
    )

-- a Send Headers that was read
pub send_headers_kept : (s : List ℕ) (h : SendHeaders) → Bytes s → Parses Direction.ToServer s (Packet.SendHeaders h)
    → ResponseKept s (send_headers_shown s h (send_headers_at s).places)
send_headers_kept s response bytes r =
    let h = send_headers_handed s response r.fields_are in
    let status = integer_held s after_code_place response.status response.message.0 bytes h.status_read in
    let in_range : range_fault least_status greatest_status response.status ≡ 0 = range_fine least_status greatest_status response.status h.status_range in
    let headers =
    headers_kept Direction.ToServer s h.headers_place None (send_headers_at s).places (length s) None bytes (omega arith)
    h.headers_there in
    let fixed =
    fields_front (record { held = status.0; fine = in_range })
    (fields_last (string_kept s response.message.0 StringField.Message h.count_place bytes h.message_there)) in (
      _,
      refl,
      pieces_kept BuildingKind.SendHeaders s [] _ (coded_kept r refl bytes) refl refl fixed
          (integer_held s h.count_place response.headers h.headers_place bytes h.count_read).0 h.headers_most h.headers_many headers
          (held_none s (length s) (omega arith)) tt (status.1, headers.fit),
    )
