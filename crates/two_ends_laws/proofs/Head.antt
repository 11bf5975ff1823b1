-- While a HEAD is under way no chunk with bytes is in the pipe to the server. The server's end has the mark from the sending of the Forward
-- to the acceptance of its End, so it allows none of the chunks on their way to it but empty ones; and what is on its way to it is what it
-- allows, by `Kept`.
-- Assumes nothing.
use native.Mathlib.Omega.{arith}
use borrow.Author.Tests.{eqb-true}
use mathlib.Core.Path.{◌≡◌, refl, sym, ap, subst, ◌∙◌}
use mathlib.Core.Bool.{Bool, true, false, not}
use mathlib.Core.List.{List, [], ◌∷◌, ◌++◌, append-nil}
use Prim.Native.Nat.{ℕ, ◌+◌}
use lib.Dec.{eqb, leb}
use lib.ListN.{length, get_or}
use lib.Seq.{take-length}
use Rattle.wire.specs.Pick.{pick, both}
use Rattle.wire.specs.Bytes.{part, integer_in}
use Rattle.wire.specs.Field.{byte_at, integer_at}
use Rattle.wire.specs.Packet.{code_place, after_code_place}
use Rattle.wire.specs.Refusal.{cut_short}
use Rattle.wire.specs.Read.{NumberRead}
use Rattle.wire.proofs.Tests.{both_first}
use Rattle.packet.specs.declared.Direction.{Direction}
use Rattle.packet.specs.declared.Forward.{Forward}
use Rattle.packet.specs.declared.Packet.{Packet}
use Rattle.names.specs.Method.{is_head_method}
use Rattle.connection.specs.Connection.{is_idle, is_pinged, is_busy, is_head}
use Rattle.connection.specs.Cycle.{move_kind, direction_of, allowed, after}
use Rattle.connection.specs.declared.State.{State}
use Rattle.connection.specs.declared.Connection.{Connection}
use Rattle.connection.specs.declared.Kind.{Kind}
use Rattle.connection.specs.declared.Move.{Move}
use Rattle.connection.proofs.Commute.{never, wrong_way, idle_mute}
use Rattle.connection.proofs.Head.{marked, head_bare, closed_mute}
use Rattle.places.specs.Entries.{max_places}
use Rattle.payload.specs.Code.{code_of, code_kind, kind_of_code, kind_at}
use Rattle.payload.specs.Kinds.{packet_kind, packet_move}
use Rattle.payload.specs.Handed.{PacketHanded}
use Rattle.payload.specs.Read.{KindRead}
use Rattle.payload.proofs.Handed.{number_found}
use Rattle.payload.proofs.Parsed.{parsed_kind, move_kind_lem}
use Rattle.building.specs.Call.{Outcome, refused, done}
use Rattle.building.specs.Sent.{Written}
use Rattle.reader.specs.Meaning as read
use Rattle.reader.specs.Reading.{parse, context_of, reading, places_of}
use Rattle.reading_laws.proofs.Handed.{accepted_handed}
use Rattle.reading_laws.proofs.Acceptance.{accepted_is}
use Rattle.sends.specs.Send.{Send, call_direction, outcome_of, buffer_of}
use Rattle.two_ends_laws.specs.Ends.{PipePacket, Ends, pipe_of, sender_of, receiver_of, with_sent, with_read, sent_from, Delivery, after_answer, lent}
use Rattle.two_ends_laws.specs.Past.{World, start, Event, send, deliver, entry_of, deliver_from, happen, run, delivered}
use Rattle.two_ends_laws.specs.Readable.{Readable}
use Rattle.two_ends_laws.specs.Made.{packet_by}
use Rattle.two_ends_laws.specs.Head.{head_packet, head_under_way, is_chunk_with_bytes, NoChunkWithBytes, HeadBare}
use Rattle.two_ends_laws.proofs.Moves.{opposite, AllAllowed, after_all, AllGo}
use Rattle.two_ends_laws.proofs.Meeting.{Pipe, empty, next, pipe_goes, Meeting, First, first_of_lem, first_answer}
use Rattle.two_ends_laws.proofs.Sends.{send_made}
use Rattle.two_ends_laws.proofs.Invariant.{Kept, kept_start}
use Rattle.two_ends_laws.proofs.Theorem.{happen_keeps, run_keeps}

-- a state that is Busy is neither Idle nor Pinged
not_idle : (s : State) → is_busy s ≡ true → is_idle s ≡ false
not_idle State.Busy e = refl
not_idle State.Idle e = never e
not_idle State.Pinged e = never e
not_idle State.Closed e = never e

not_pinged : (s : State) → is_busy s ≡ true → is_pinged s ≡ false
not_pinged State.Busy e = refl
not_pinged State.Idle e = never e
not_pinged State.Pinged e = never e
not_pinged State.Closed e = never e

module _ (c : Connection) (head : is_head c ≡ true) where
  busy_now : is_busy c.state ≡ true
  busy_now = both_first (is_busy c.state) c.head head

  -- a move that is allowed keeps the mark, unless it is an End
  mark_kept : (m : Move) → allowed c m ≡ true → (move_kind m ≡ Kind.End → ⊥) → is_head (after c m) ≡ true
  mark_kept Move.CPing f h = never (sym (not_idle c.state busy_now) ∙ both_first (is_idle c.state) true f)
  mark_kept Move.CPong f h = never (sym (not_pinged c.state busy_now) ∙ both_first (is_pinged c.state) true f)
  mark_kept (Move.Forward g) f h = never (sym (not_idle c.state busy_now) ∙ both_first (is_idle c.state) true f)
  mark_kept (Move.Body k) f h = (marked c (Move.Body k) f).counts ∙ head
  mark_kept (Move.GetBody r) f h = (marked c (Move.GetBody r) f).counts ∙ head
  mark_kept Move.SendHeaders f h = (marked c Move.SendHeaders f).counts ∙ head
  mark_kept (Move.BodyChunk k) f h = (marked c (Move.BodyChunk k) f).counts ∙ head
  mark_kept (Move.End reuse) f h = absurd (h refl)

-- a move of the server's is no End
server_no_end : (m : Move) → direction_of (move_kind m) ≡ Direction.ToContainer → move_kind m ≡ Kind.End → ⊥
server_no_end m way e = wrong_way (sym (ap direction_of e) ∙ way)

-- so the server's moves keep the mark
head_on : (c : Connection) (moves : List Move) → AllGo Direction.ToContainer moves → AllAllowed c moves → is_head c ≡ true
    → is_head (after_all c moves) ≡ true
head_on c [] go all head = head
head_on c (m ∷ moves) go all head =
    head_on (after c m) moves go.1 all.1 (mark_kept c head m all.0 (server_no_end m go.0))

-- a move of the container's after which the mark is there found it
head_was : (c : Connection) (m : Move) → direction_of (move_kind m) ≡ Direction.ToServer → allowed c m ≡ true → is_head (after c m) ≡ true
    → is_head c ≡ true
head_was c Move.CPing way f e = never (sym (marked c Move.CPing f).counts ∙ e)
head_was c Move.CPong way f e = never (sym (marked c Move.CPong f).counts ∙ e)
head_was c (Move.Forward g) way f e = wrong_way (sym way)
head_was c (Move.Body k) way f e = sym (marked c (Move.Body k) f).counts ∙ e
head_was c (Move.GetBody r) way f e = sym (marked c (Move.GetBody r) f).counts ∙ e
head_was c Move.SendHeaders way f e = sym (marked c Move.SendHeaders f).counts ∙ e
head_was c (Move.BodyChunk k) way f e = sym (marked c (Move.BodyChunk k) f).counts ∙ e
head_was c (Move.End reuse) way f e = never (sym (marked c (Move.End reuse) f).counts ∙ e)

head_back : (c : Connection) (moves : List Move) → AllGo Direction.ToServer moves → AllAllowed c moves → is_head (after_all c moves) ≡ true
    → is_head c ≡ true
head_back c [] go all e = e
head_back c (m ∷ moves) go all e = head_was c m go.0 all.0 (head_back (after c m) moves go.1 all.1 e)

-- where the container's end has the mark, the server's has it: what is on the way to the container keeps it, and what is on the way back
-- found it
server_has : {server container : Connection} {out back : List PipePacket} → Meeting Direction.ToContainer server container out back
    → is_head container ≡ true → is_head server ≡ true
server_has {server} {container} ends e =
    head_back server ends.replies (pipe_goes ends.on_way_back) ends.sender_allows
    (sym (ap is_head ends.meets) ∙ head_on container ends.moves (pipe_goes ends.on_way) ends.receiver_allows e)

-- the kind of a packet to the server that has the code of a chunk
chunk_code : (c : Connection) (s : List ℕ) (kind : Kind) → kind_at (context_of Direction.ToServer c) s ≡ KindRead.Kind kind
    → get_or s code_place 0 ≡ code_of Kind.BodyChunk → kind ≡ Kind.BodyChunk
unfolding kind_at byte_at code_kind
chunk_code c s kind e code = go (leb (code_place + 1) (length s)) e
  where
    go : (t : Bool) → kind_of_code Direction.ToServer (pick t (NumberRead.Number (get_or s code_place 0) (code_place + 1)) (NumberRead.Refused cut_short)) ≡ KindRead.Kind kind
        → kind ≡ Kind.BodyChunk
    go true q = let same : KindRead.Kind Kind.BodyChunk ≡ KindRead.Kind kind = rw code at q in cc
    go false q = absurd (let z : ◌≡◌ {A = ℕ} 0 1 = cc in omega arith)

-- the move of a chunk that was read: as many bytes as its length says
chunk_says : (s : List ℕ) (p : Packet) (places : List ℕ) → packet_kind p ≡ Kind.BodyChunk → PacketHanded s p places
    → packet_move p ≡ Move.BodyChunk (integer_in s after_code_place)
unfolding integer_at
chunk_says s (Packet.BodyChunk p) places k h =
    ap Move.BodyChunk (sym (number_found 2 (integer_in s after_code_place) s after_code_place p.len p.start.0 h.size_read).0)
chunk_says s Packet.CPing places k h = absurd (let z : ◌≡◌ {A = ℕ} 0 1 = cc in omega arith)
chunk_says s Packet.CPong places k h = absurd (let z : ◌≡◌ {A = ℕ} 0 1 = cc in omega arith)
chunk_says s (Packet.Forward f) places k h = absurd (let z : ◌≡◌ {A = ℕ} 0 1 = cc in omega arith)
chunk_says s (Packet.Body p) places k h = absurd (let z : ◌≡◌ {A = ℕ} 0 1 = cc in omega arith)
chunk_says s (Packet.GetBody asked) places k h = absurd (let z : ◌≡◌ {A = ℕ} 0 1 = cc in omega arith)
chunk_says s (Packet.SendHeaders r) places k h = absurd (let z : ◌≡◌ {A = ℕ} 0 1 = cc in omega arith)
chunk_says s (Packet.End reuse) places k h = absurd (let z : ◌≡◌ {A = ℕ} 0 1 = cc in omega arith)

-- a packet on its way to an end that allows its move and has the mark is no chunk with bytes
bare_packet : (c : Connection) (packet : PipePacket) (m : Move) → Readable Direction.ToServer packet m → allowed c m ≡ true → is_head c ≡ true
    → is_chunk_with_bytes packet.bytes ≡ false
unfolding part
bare_packet c packet m readable f head = go (eqb (get_or s code_place 0) (code_of Kind.BodyChunk)) refl
  where
    s : List ℕ
    s = packet.bytes

    reads : reading Direction.ToServer c s max_places ≡ read.accepted readable.tells (length s) (after c m)
    reads = ap (λ (l : List ℕ). reading Direction.ToServer c l max_places) (sym (append-nil s)) ∙ readable.reads c [] f

    whole : part s 0 (length s) ≡ s
    whole = take-length s

    places : List ℕ
    places = places_of (parse (context_of Direction.ToServer c) s)

    go : (t : Bool) → eqb (get_or s code_place 0) (code_of Kind.BodyChunk) ≡ t → both t (not (eqb (integer_in s after_code_place) 0)) ≡ false
    go false e = refl
    go true e =
        let a = accepted_is Direction.ToServer c s max_places readable.tells (length s) (after c m) reads in
        let handed = accepted_handed Direction.ToServer c s max_places readable.tells (length s) (after c m) reads in
        let kind : a.kind ≡ Kind.BodyChunk =
        chunk_code c s a.kind (ap (kind_at (context_of Direction.ToServer c)) (sym whole) ∙ a.kind_is) (eqb-true _ _ e) in
        let told : packet_kind readable.tells ≡ Kind.BodyChunk =
        parsed_kind (context_of Direction.ToServer c) a.kind (part s 0 (length s)) readable.tells a.fields_are ∙ kind in
        let says : packet_move readable.tells ≡ Move.BodyChunk (integer_in s after_code_place) =
        chunk_says s readable.tells places told (subst (λ (l : List ℕ). PacketHanded l readable.tells places) whole handed) in
        let none : integer_in s after_code_place ≡ 0 =
        head_bare c (integer_in s after_code_place) head (ap (allowed c) (sym says ∙ readable.makes) ∙ f) in
        rw none refl

-- what a move of the container's leaves where the mark is there: the mark, or nothing that the container could still send
data Leaves (c : Connection) (m : Move) : Type 0 where
  stays : is_head (after c m) ≡ true → Leaves c m
  mute : ((n : Move) → direction_of (move_kind n) ≡ Direction.ToServer → allowed (after c m) n ≡ false) → Leaves c m

leaves : (c : Connection) (m : Move) → is_head c ≡ true → allowed c m ≡ true → Leaves c m
leaves c Move.CPing head f = stays (mark_kept c head Move.CPing f (λ e. absurd (let z : ◌≡◌ {A = ℕ} 0 1 = cc in omega arith)))
leaves c Move.CPong head f = stays (mark_kept c head Move.CPong f (λ e. absurd (let z : ◌≡◌ {A = ℕ} 0 1 = cc in omega arith)))
leaves c (Move.Forward g) head f = stays (mark_kept c head (Move.Forward g) f (λ e. absurd (let z : ◌≡◌ {A = ℕ} 0 1 = cc in omega arith)))
leaves c (Move.Body k) head f = stays (mark_kept c head (Move.Body k) f (λ e. absurd (let z : ◌≡◌ {A = ℕ} 0 1 = cc in omega arith)))
leaves c (Move.GetBody r) head f = stays (mark_kept c head (Move.GetBody r) f (λ e. absurd (let z : ◌≡◌ {A = ℕ} 0 1 = cc in omega arith)))
leaves c Move.SendHeaders head f = stays (mark_kept c head Move.SendHeaders f (λ e. absurd (let z : ◌≡◌ {A = ℕ} 0 1 = cc in omega arith)))
leaves c (Move.BodyChunk k) head f = stays (mark_kept c head (Move.BodyChunk k) f (λ e. absurd (let z : ◌≡◌ {A = ℕ} 0 1 = cc in omega arith)))
leaves c (Move.End true) head f = mute (λ n way. idle_mute (after c (Move.End true)) n way refl)
leaves c (Move.End false) head f = mute (λ n way. closed_mute (after c (Move.End false)) n refl)

-- packets behind one after which nothing can be sent: there are none
none_behind : {packets : List PipePacket} {moves : List Move} (c : Connection)
    → ((n : Move) → direction_of (move_kind n) ≡ Direction.ToServer → allowed c n ≡ false) → Pipe Direction.ToServer packets moves → AllAllowed c moves
    → NoChunkWithBytes packets
none_behind c quiet empty all = tt
none_behind c quiet (next {m = n} first later) all = never (sym (quiet n first.way) ∙ all.0)

-- what is on its way to an end that has the mark: no chunk with bytes
bare_pipe : {packets : List PipePacket} {moves : List Move} (c : Connection) → Pipe Direction.ToServer packets moves → AllAllowed c moves
    → is_head c ≡ true → NoChunkWithBytes packets
bare_pipe c empty all head = tt
bare_pipe c (next {packet = packet} {m = m} {later = later} {moves = moves} first rest) all head =
    (bare_packet c packet m first all.0 head, behind (leaves c m head all.0) (λ h. bare_pipe (after c m) rest all.1 h))
  where
    behind : Leaves c m → (is_head (after c m) ≡ true → NoChunkWithBytes later) → NoChunkWithBytes later
    behind (stays h) further = further h
    behind (mute quiet) further = none_behind (after c m) quiet rest all.1

-- a HEAD that is under way is noted at the server's end
abbrev Noted : World → Type 0
Noted w = head_under_way w.past ≡ true → is_head w.ends.at_server ≡ true

-- a packet that goes into a pipe leaves the mark at the server's end
sent_notes : (direction : Direction) (e : Ends) (m : Move) (last : Connection) (out : List PipePacket) → direction_of (move_kind m) ≡ direction
    → allowed (sender_of direction e) m ≡ true → last ≡ after (sender_of direction e) m → is_head e.at_server ≡ true
    → is_head (with_sent direction last out e).at_server ≡ true
sent_notes Direction.ToContainer e m last out way f steps head = ap is_head steps ∙ mark_kept e.at_server head m f (server_no_end m way)
sent_notes Direction.ToServer e m last out way f steps head = head

-- so does one that is refused
refused_notes : (direction : Direction) (e : Ends) (out : List PipePacket) → is_head e.at_server ≡ true
    → is_head (with_sent direction (sender_of direction e) out e).at_server ≡ true
refused_notes Direction.ToContainer e out head = head
refused_notes Direction.ToServer e out head = head

send_notes : (call : Send) (w : World) → Noted w → Noted (happen (send call) w)
send_notes call w noted = go (outcome_of given call) refl
  where
    given : Connection
    given = sender_of (call_direction call) w.ends

    go : (o : Outcome Written) → outcome_of given call ≡ o → head_under_way (entry_of call w.ends o ∷ w.past) ≡ true
        → is_head (sent_from given (call_direction call) call w.ends o).at_server ≡ true
    go (refused n) e h = refused_notes (call_direction call) w.ends (pipe_of (call_direction call) w.ends ++ []) (noted h)
    go (done written) e h =
        let made = send_made given call written e in
        let packet = packet_by call (part (buffer_of given call) 0 written.size) in
        sent_notes (call_direction call) w.ends made.move written.connection (pipe_of (call_direction call) w.ends ++ packet ∷ [])
        made.readable.way made.allows made.steps (noted h)

-- why a HEAD is under way after an accepted packet: it is a HEAD's Forward, or it is no End and one was under way before
told : {G : Type 0} (p : Packet) (before : Bool) → head_packet p before ≡ true
    → ((f : Forward) → p ≡ Packet.Forward f → is_head_method f.method ≡ true → G) → ((packet_kind p ≡ Kind.End → ⊥) → before ≡ true → G) → G
told Packet.CPing before h begins goes = goes (λ e. absurd (let z : ◌≡◌ {A = ℕ} 0 1 = cc in omega arith)) h
told Packet.CPong before h begins goes = goes (λ e. absurd (let z : ◌≡◌ {A = ℕ} 0 1 = cc in omega arith)) h
told (Packet.Forward f) before h begins goes = begins f refl h
told (Packet.Body p) before h begins goes = goes (λ e. absurd (let z : ◌≡◌ {A = ℕ} 0 1 = cc in omega arith)) h
told (Packet.GetBody asked) before h begins goes = goes (λ e. absurd (let z : ◌≡◌ {A = ℕ} 0 1 = cc in omega arith)) h
told (Packet.SendHeaders r) before h begins goes = goes (λ e. absurd (let z : ◌≡◌ {A = ℕ} 0 1 = cc in omega arith)) h
told (Packet.BodyChunk p) before h begins goes = goes (λ e. absurd (let z : ◌≡◌ {A = ℕ} 0 1 = cc in omega arith)) h
told (Packet.End reuse) before h begins goes = never h

-- a packet that is read from a pipe: at the container's end a HEAD's Forward marks it, and with it the server's end is marked; at the
-- server's end the mark stays unless it is an End
read_notes : (direction : Direction) (e : Ends) (packet : PipePacket) (later : List PipePacket) (before : Bool)
    → (first : First direction (sender_of direction e) (receiver_of direction e) packet later (pipe_of (opposite direction) e))
    → (before ≡ true → is_head e.at_server ≡ true) → head_packet first.readable.tells before ≡ true
    → is_head (with_read direction (after (receiver_of direction e) first.move) later e).at_server ≡ true
read_notes Direction.ToContainer e packet later before first noted h =
    let readable = first.readable in
    told readable.tells before h
    (λ f is q. server_has first.rest (ap (λ (x : Move). is_head (after e.at_container x)) (sym readable.makes ∙ ap packet_move is) ∙ q))
    (λ no b. noted b)
read_notes Direction.ToServer e packet later before first noted h =
    let readable = first.readable in
    told readable.tells before h
    (λ f is q. wrong_way (sym readable.way ∙ ap (λ (x : Move). direction_of (move_kind x)) (sym readable.makes ∙ ap packet_move is)))
    (λ no b. mark_kept e.at_server (noted b) first.move first.allows
    (λ k. no (sym (move_kind_lem readable.tells) ∙ ap move_kind readable.makes ∙ k)))

deliver_notes : (direction : Direction) (d : Delivery) (w : World) → Kept w → Noted w → Noted (happen (deliver direction d) w)
deliver_notes direction d w kept noted = go (pipe_of direction w.ends) refl
  where
    go : (pipe : List PipePacket) → pipe_of direction w.ends ≡ pipe → Noted (deliver_from direction d w pipe)
    go [] e = noted
    go (packet ∷ later) e =
        let first = first_of_lem direction w.ends packet later kept.meeting e in
        subst (λ (a : read.Meaning). Noted (record {
          ends = after_answer direction later w.ends a;
          past = delivered packet.bytes (lent d packet later) a ∷ w.past;
        })) (sym (first_answer first d))
        (read_notes direction w.ends packet later (head_under_way w.past) first noted)

-- each event keeps it
happen_notes : (event : Event) (w : World) → Kept w → Noted w → Noted (happen event w)
happen_notes (send call) w kept noted = send_notes call w noted
happen_notes (deliver direction d) w kept noted = deliver_notes direction d w kept noted

-- so does a list of events
run_notes : (events : List Event) (w : World) → Kept w → Noted w → Noted (run events w)
run_notes [] w kept noted = noted
run_notes (event ∷ later) w kept noted = run_notes later (happen event w) (happen_keeps event w kept) (happen_notes event w kept noted)

-- from two fresh ends and empty pipes, whatever happens: while a HEAD is under way no chunk with bytes is in the pipe to the server
pub head_no_body : (events : List Event) → HeadBare (run events start)
head_no_body events =
    let w : World = run events start in
    let kept : Kept w = run_keeps events start kept_start in
    let bare : is_head w.ends.at_server ≡ true → NoChunkWithBytes w.ends.to_server =
    bare_pipe w.ends.at_server kept.meeting.on_way_back kept.meeting.sender_allows in
    record {
      under_way = λ h. bare (run_notes events start kept_start (λ e. never e) h);
      at_server = bare;
      at_container = λ h. bare (server_has kept.meeting h);
    }
