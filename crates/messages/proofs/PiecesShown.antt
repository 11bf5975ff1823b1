-- From written to read, for packets in pieces: a Forward or a Send Headers whose fields have no fault, where it is read, shows the
-- message that was written: at every place that is handed out the field is shown that was written there (`FieldsShown`).
-- Assumes nothing.
use native.Mathlib.Omega.{arith}
use mathlib.Core.Path.{◌≡◌, refl, sym, ap, subst, ◌∙◌}
use mathlib.Core.Bool.{Bool}
use mathlib.Core.List.{List, [], ◌∷◌, ◌++◌, append_assoc}
use Prim.Native.Nat.{ℕ, ◌+◌, ◌≤◌, ◌<◌}
use lib.ListN.{length}
use Rattle.wire.specs.Bytes.{integer_bytes}
use Rattle.wire.specs.Field.{byte_at, integer_at, boolean_at, boolean_bytes}
use Rattle.packet.specs.declared.Direction.{Direction}
use Rattle.wire.specs.declared.StringField.{StringField}
use Rattle.wire.specs.Read.{NumberRead, BooleanRead}
use Rattle.wire.proofs.RoundTrip.{byte_written, integer_written, boolean_written}
use Rattle.std.specs.Prelude.{None}
use Rattle.connection.specs.declared.Kind.{Kind}
use Rattle.connection.specs.Connection.{max_packet}
use Rattle.places.specs.Entries.{max_headers}
use Rattle.attributes.specs.Attributes.{last_mark}
use Rattle.payload.specs.Forward.{forward_at}
use Rattle.payload.specs.SendHeaders.{send_headers_at, greatest_status, least_status}
use Rattle.packet.specs.declared.Forward.{Forward}
use Rattle.packet.specs.declared.SendHeaders.{SendHeaders}
use Rattle.packet.specs.declared.Packet.{Packet}
use Rattle.payload.specs.Read.{PacketRead}
use Rattle.payload.proofs.Handed.{forward_handed, send_headers_handed}
use Rattle.building.specs.Field.{opening, faults_of, fields_bytes}
use Rattle.building.proofs.Sizes.{boolean_one}
use Rattle.building.proofs.Faults.{faultless, range_most}
use Rattle.messages.specs.Message.{Request, Response, forward, send_headers, AttributesFit}
use Rattle.messages.specs.Bytes.{headers_bytes, attributes_bytes, request_fields, response_fields, payload_of, message_bytes}
use Rattle.messages.specs.Shown.{headers_shown, attributes_shown, shown_by, message_shown}
use Rattle.messages.proofs.Fine.{FieldsFine, HeadersFine, AttributesFine}
use Rattle.messages.proofs.Fixed.{Ahead, ahead_next, ahead_holds}
use Rattle.messages.proofs.Tables.{forward_many, forward_table, send_headers_many, send_headers_table}
use Rattle.messages.proofs.RoundTrip.{Shows}
use Rattle.messages.proofs.Texts.{text_bytes}
use Rattle.messages.proofs.FieldsShown.{headers_many, attributes_many, string_shows, headers_show, attributes_show}
use Rattle.wire.specs.Packet.{after_code_place}

-- a byte that was written, where it is read: its value, and the bytes behind it
byte_shows : {s : List ℕ} {at : ℕ} (rest : List ℕ) (n : ℕ) → Ahead s at (n ∷ rest) → {value next : ℕ} → byte_at s at ≡ NumberRead.Number value next
    → (value ≡ n) × Ahead s next rest
byte_shows {s} {at} rest n r {value} {next} there =
    let e : byte_at s at ≡ NumberRead.Number n (at + 1) =
    ahead_holds (λ (l : List ℕ) (i : ℕ). byte_at l i ≡ NumberRead.Number n (i + 1)) (λ a. byte_written a rest n) r in
    let same : NumberRead.Number n (at + 1) ≡ NumberRead.Number value next = sym e ∙ there in
    let value_is : value ≡ n = cc in
    let ends : at + 1 ≡ next = cc in
    (value_is, rw ends at (ahead_next (n ∷ []) rest r))

-- so an integer
integer_shows : {s : List ℕ} {at : ℕ} (rest : List ℕ) (n : ℕ) → n < 65536 → Ahead s at (integer_bytes n ++ rest) → {value next : ℕ}
    → integer_at s at ≡ NumberRead.Number value next → (value ≡ n) × Ahead s next rest
integer_shows {s} {at} rest n small r {value} {next} there =
    let e : integer_at s at ≡ NumberRead.Number n (at + 2) =
    ahead_holds (λ (l : List ℕ) (i : ℕ). integer_at l i ≡ NumberRead.Number n (i + 2)) (λ a. integer_written a rest n small) r in
    let same : NumberRead.Number n (at + 2) ≡ NumberRead.Number value next = sym e ∙ there in
    let value_is : value ≡ n = cc in
    let ends : at + 2 ≡ next = cc in
    (value_is, rw ends at (ahead_next (integer_bytes n) rest r))

-- and a boolean
boolean_shows : {s : List ℕ} {at : ℕ} (rest : List ℕ) (b : Bool) → Ahead s at (boolean_bytes b ++ rest) → {value : Bool} {next : ℕ}
    → boolean_at s at ≡ BooleanRead.Boolean value next → (value ≡ b) × Ahead s next rest
boolean_shows {s} {at} rest b r {value} {next} there =
    let e : boolean_at s at ≡ BooleanRead.Boolean b (at + 1) =
    ahead_holds (λ (l : List ℕ) (i : ℕ). boolean_at l i ≡ BooleanRead.Boolean b (i + 1)) (λ a. boolean_written a rest b) r in
    let same : BooleanRead.Boolean b (at + 1) ≡ BooleanRead.Boolean value next = sym e ∙ there in
    let value_is : value ≡ b = cc in
    let ends : at + 1 ≡ next = cc in
    let last : at + length (boolean_bytes b) ≡ next = omega (arith, ends, boolean_one b) in
    (value_is, subst (λ (i : ℕ). Ahead s i rest) last (ahead_next (boolean_bytes b) rest r))

-- the bytes of a Forward behind its count of headers
abbrev behind_count : Request → List ℕ
behind_count request = headers_bytes Direction.ToContainer request.headers ++ (attributes_bytes request.attributes ++ (last_mark ∷ []))

-- a Forward without fault, behind five bytes
module _ {s : List ℕ} (short : length s ≤ max_packet) (request : Request) (own : FieldsFine (request_fields request))
    (headers_fine : HeadersFine Direction.ToContainer request.headers) (attributes_fine : AttributesFine request.attributes)
    (port_fits : request.port < 65536) (fit : AttributesFit request.attributes) (few : length request.headers ≤ max_headers)
    (stands : Ahead s after_code_place (fields_bytes (request_fields request) ++ (integer_bytes (length request.headers) ++ behind_count request))) where
  -- where it is read, its fields and the places of its lists show the message
  forward_shows : (f : Forward) (e : (forward_at s).end ≡ PacketRead.Packet (Packet.Forward f)) → let lists = (forward_handed s f e).lists in
      shown_by (Packet.Forward f) s lists.of_headers lists.of_attributes ≡ forward request
  forward_shows f e =
      let b : List ℕ = behind_count request in
      let t8 : List ℕ = integer_bytes (length request.headers) ++ b in
      let t7 : List ℕ = boolean_bytes request.ssl ++ t8 in
      let t6 : List ℕ = integer_bytes request.port ++ t7 in
      let t5 : List ℕ = text_bytes request.name ++ t6 in
      let t4 : List ℕ = text_bytes request.host ++ t5 in
      let t3 : List ℕ = text_bytes request.addr ++ t4 in
      let t2 : List ℕ = text_bytes request.uri ++ t3 in
      let t1 : List ℕ = text_bytes request.protocol ++ t2 in
      let none = faultless (faults_of (request_fields request)) own in
      let handed = forward_handed s f e in
      let fields : Ahead s after_code_place (request.method ∷ t1) = simp append_assoc at stands in
      let first = byte_shows t1 request.method fields handed.method_read in
      let r2 = string_shows short t2 StringField.Protocol request.protocol first.1 none.1.0 f.req_uri.0 handed.protocol_there in
      let r3 = string_shows short t3 StringField.ReqUri request.uri r2.1 none.1.1.0 f.remote_addr.0 handed.uri_there in
      let r4 = string_shows short t4 StringField.RemoteAddr request.addr r3.1 none.1.1.1.0 f.remote_host.0 handed.addr_there in
      let r5 = string_shows short t5 StringField.RemoteHost request.host r4.1 none.1.1.1.1.0 f.server_name.0 handed.host_there in
      let r6 = string_shows short t6 StringField.ServerName request.name r5.1 none.1.1.1.1.1.0 handed.port_place handed.name_there in
      let port = integer_shows t7 request.port port_fits r6.1 handed.port_read in
      let ssl = boolean_shows t8 request.ssl port.1 handed.ssl_read in
      let count = integer_shows b (length request.headers) (omega arith) ssl.1 handed.count_read in
      let lists = handed.lists in
      let many : length lists.of_headers ≡ length request.headers + length request.headers = omega (arith, lists.headers_many, count.0) in
      let headers =
      headers_show short (attributes_bytes request.attributes ++ (last_mark ∷ [])) Direction.ToContainer request.headers headers_fine count.1
      lists.of_headers many lists.middle None lists.of_length lists.headers_there in
      let attributes =
      attributes_show short request.attributes attributes_fine fit headers.1 lists.of_attributes (length s) lists.attributes_there in
      rw (headers.0, attributes, r2.0, r3.0, r4.0, r5.0, r6.0, first.0, port.0, ssl.0)

-- a Send Headers without fault, behind five bytes
module _ {s : List ℕ} (short : length s ≤ max_packet) (response : Response) (own : FieldsFine (response_fields response))
    (headers_fine : HeadersFine Direction.ToServer response.headers) (few : length response.headers ≤ max_headers)
    (stands : Ahead s after_code_place
    (fields_bytes (response_fields response)
    ++ (integer_bytes (length response.headers) ++ (headers_bytes Direction.ToServer response.headers ++ [])))) where
  -- where it is read, its fields and the places of its headers show the message
  send_headers_shows : (h : SendHeaders) → (send_headers_at s).end ≡ PacketRead.Packet (Packet.SendHeaders h)
      → shown_by (Packet.SendHeaders h) s (send_headers_at s).places [] ≡ send_headers response
  send_headers_shows h e =
      let t3 : List ℕ = headers_bytes Direction.ToServer response.headers ++ [] in
      let t2 : List ℕ = integer_bytes (length response.headers) ++ t3 in
      let t1 : List ℕ = text_bytes response.message ++ t2 in
      let none = faultless (faults_of (response_fields response)) own in
      let handed = send_headers_handed s h e in
      let fields : Ahead s after_code_place (integer_bytes response.status ++ t1) = simp append_assoc at stands in
      let small : response.status < 65536 = omega (arith, range_most least_status greatest_status response.status none.0) in
      let first = integer_shows t1 response.status small fields handed.status_read in
      let r2 = string_shows short t2 StringField.Message response.message first.1 none.1.0 handed.count_place handed.message_there in
      let count = integer_shows t3 (length response.headers) (omega arith) r2.1 handed.count_read in
      let many : length (send_headers_at s).places ≡ length response.headers + length response.headers =
      omega (arith, handed.headers_many, count.0) in
      let headers =
      headers_show short [] Direction.ToServer response.headers headers_fine count.1 (send_headers_at s).places many (length s)
      None None handed.headers_there in
      rw (headers.0, r2.0, first.0)

-- the bytes of a Forward behind the first five
forward_stands : (request : Request)
    → Ahead (message_bytes (forward request)) after_code_place
    (fields_bytes (request_fields request) ++ (integer_bytes (length request.headers) ++ behind_count request))
unfolding message_bytes
forward_stands request = record { front = opening Kind.Forward (length (payload_of (forward request))); is = refl; place = refl }

-- and those of a Send Headers
send_headers_stands : (response : Response)
    → Ahead (message_bytes (send_headers response)) after_code_place
    (fields_bytes (response_fields response)
    ++ (integer_bytes (length response.headers) ++ (headers_bytes Direction.ToServer response.headers ++ [])))
unfolding message_bytes
send_headers_stands response = record { front = opening Kind.SendHeaders (length (payload_of (send_headers response))); is = refl; place = refl }

-- so a Forward without fault, where it is read, shows the message that was written
pub forward_shown_lem : (request : Request) → FieldsFine (request_fields request) → HeadersFine Direction.ToContainer request.headers
    → AttributesFine request.attributes → request.port < 65536 → AttributesFit request.attributes → length request.headers ≤ max_headers
    → length (message_bytes (forward request)) ≤ max_packet → (f : Forward)
    → (forward_at (message_bytes (forward request))).end ≡ PacketRead.Packet (Packet.Forward f)
    → Shows (Packet.Forward f) (message_bytes (forward request)) (forward request)
unfolding message_shown
forward_shown_lem request own headers_fine attributes_fine port fit few short f e =
    let s : List ℕ = message_bytes (forward request) in
    let lists = (forward_handed s f e).lists in
    let many = forward_many s f e in
    let shows = forward_shows short request own headers_fine attributes_fine port fit few (forward_stands request) f e in
    let headers : headers_shown s lists.of_headers ≡ request.headers = cc in
    let attributes : attributes_shown s lists.of_attributes ≡ request.attributes = cc in
    record {
      asks =
          omega (
            arith,
            headers_many s lists.of_headers f.headers many.0,
            attributes_many s lists.of_attributes f.attributes many.1,
            ap length headers,
            ap length attributes,
          );
      shown = λ table. let places = forward_table s table f e in rw (places.0, places.1) shows;
    }

-- and so does a Send Headers
pub send_headers_shown_lem : (response : Response) → FieldsFine (response_fields response) → HeadersFine Direction.ToServer response.headers
    → length response.headers ≤ max_headers → length (message_bytes (send_headers response)) ≤ max_packet → (h : SendHeaders)
    → (send_headers_at (message_bytes (send_headers response))).end ≡ PacketRead.Packet (Packet.SendHeaders h)
    → Shows (Packet.SendHeaders h) (message_bytes (send_headers response)) (send_headers response)
unfolding message_shown
send_headers_shown_lem response own headers_fine few short h e =
    let s : List ℕ = message_bytes (send_headers response) in
    let shows = send_headers_shows short response own headers_fine few (send_headers_stands response) h e in
    let headers : headers_shown s (send_headers_at s).places ≡ response.headers = cc in
    record {
      asks = omega (arith, headers_many s (send_headers_at s).places h.headers (send_headers_many s h e), ap length headers);
      shown = λ table. rw (send_headers_table s table h e) shows;
    }
