-- What stays so while events happen: the ends meet after what is on the way, and what was counted agrees with the container's connection. A
-- send and a delivery keep it.
-- Assumes nothing.
use mathlib.Core.Path.{◌≡◌, refl, sym, ap, subst, ◌∙◌}
use mathlib.Core.Bool.{true}
use mathlib.Core.List.{List, [], ◌∷◌, ◌++◌, append_assoc, append-nil}
use Prim.Native.Nat.{ℕ}
use lib.ListN.{take}
use Rattle.wire.specs.Bytes.{part}
use Rattle.packet.specs.declared.Direction.{Direction}
use Rattle.connection.specs.Cycle.{allowed, after}
use Rattle.connection.specs.declared.Connection.{Connection}
use Rattle.connection.specs.declared.Move.{Move}
use Rattle.building.specs.Call.{Outcome, refused, done}
use Rattle.building.specs.Sent.{Written}
use Rattle.reader.specs.Meaning as read
use Rattle.sends.specs.Send.{Send, call_direction, outcome_of, buffer_of, body_given}
use Rattle.two_ends_laws.specs.Ends.{PipePacket, Ends, pipe_of, sender_of, receiver_of, with_sent, with_read, sent_from, after_send, all_bytes, Delivery, lent, after_answer}
use Rattle.two_ends_laws.specs.Past.{sent, refused_send, delivered, World, start, send, deliver, entry_of, deliver_from, happen, sent_bytes, received_bytes, held_in, body_bytes_in, RequestBody, requests}
use Rattle.two_ends_laws.specs.Claims.{AllTaken, NoneChanged}
use Rattle.two_ends_laws.specs.Readable.{counting, Readable}
use Rattle.two_ends_laws.specs.Made.{packet_by, Made}
use Rattle.two_ends_laws.proofs.Sends.{send_made}
use Rattle.two_ends_laws.proofs.Meeting.{empty, meeting_sent, EndsMeet, meeting_of, after_sent, after_read, first_of_lem, first_answer}
use Rattle.two_ends_laws.proofs.Counting.{Counted, count_move, reply_holds, reply_counts}

-- the body bytes in a pipe with one packet more
bytes_last : (packets : List PipePacket) (packet : PipePacket) → body_bytes_in (packets ++ packet ∷ []) ≡ body_bytes_in packets ++ held_in packet
bytes_last [] packet = append-nil (held_in packet)
bytes_last (first ∷ packets) packet =
    ap (λ (l : List ℕ). held_in first ++ l) (bytes_last packets packet) ∙ sym (append_assoc (held_in first) (body_bytes_in packets) (held_in packet))

-- what stays so
pub record Kept (w : World) : Type 0 where
  pub meeting : EndsMeet w.ends
  pub taken : AllTaken w.past
  pub unchanged : NoneChanged w.past
  pub bytes : received_bytes w.past ++ body_bytes_in w.ends.to_container ≡ sent_bytes w.past
  pub counted : Counted w.ends.at_container (requests w.past)

-- at the start
pub kept_start : Kept start
kept_start = record {
  meeting = record {
    moves = [];
    replies = [];
    on_way = empty;
    on_way_back = empty;
    receiver_allows = tt;
    sender_allows = tt;
    meets = refl;
  };
  taken = tt;
  unchanged = tt;
  bytes = refl;
  counted = tt;
}

-- a packet that goes into a pipe: the body bytes sent are more by those that it holds
bytes_sent : (direction : Direction) (e : Ends) (c : Connection) (packet : PipePacket) (m : Move) (received before : List ℕ)
    → Readable direction packet m → received ++ body_bytes_in e.to_container ≡ before
    → received ++ body_bytes_in (with_sent direction c (pipe_of direction e ++ packet ∷ []) e).to_container ≡ before ++ held_in packet
bytes_sent Direction.ToContainer e c packet m received before readable b =
    ap (λ (l : List ℕ). received ++ l) (bytes_last e.to_container packet)
    ∙ sym (append_assoc received (body_bytes_in e.to_container) (held_in packet)) ∙ ap (λ (l : List ℕ). l ++ held_in packet) b
bytes_sent Direction.ToServer e c packet m received before readable b =
    b ∙ sym (append-nil before) ∙ ap (λ (l : List ℕ). before ++ l) (sym (reply_holds m (held_in packet) readable.way readable.carries))

-- and the container's connection still knows of the requests
count_sent : (direction : Direction) (e : Ends) (out : List PipePacket) (packet : PipePacket) (m : Move) (before : List RequestBody)
    → Readable direction packet m → allowed (sender_of direction e) m ≡ true → Counted e.at_container before
    → Counted (with_sent direction (after (sender_of direction e) m) out e).at_container before
count_sent Direction.ToContainer e out packet m before readable f i = i
count_sent Direction.ToServer e out packet m before readable f i =
    subst (Counted (after e.at_container m)) (reply_counts m (held_in packet) before readable.way)
    (count_move e.at_container m (held_in packet) before f readable.carries i)

-- a packet that is read from a pipe: the body bytes that it holds are received and no longer in the pipe
bytes_read : (direction : Direction) (e : Ends) (c : Connection) (packet : PipePacket) (later : List PipePacket) (m : Move) (received before : List ℕ)
    → Readable direction packet m → pipe_of direction e ≡ packet ∷ later → received ++ body_bytes_in e.to_container ≡ before
    → (received ++ held_in packet) ++ body_bytes_in (with_read direction c later e).to_container ≡ before
bytes_read Direction.ToContainer e c packet later m received before readable p b =
    append_assoc received (held_in packet) (body_bytes_in later) ∙ ap (λ (l : List PipePacket). received ++ body_bytes_in l) (sym p) ∙ b
bytes_read Direction.ToServer e c packet later m received before readable p b =
    ap (λ (l : List ℕ). (received ++ l) ++ body_bytes_in e.to_container) (reply_holds m (held_in packet) readable.way readable.carries)
    ∙ ap (λ (l : List ℕ). l ++ body_bytes_in e.to_container) (append-nil received) ∙ b

-- and it is counted
count_read : (direction : Direction) (e : Ends) (later : List PipePacket) (packet : PipePacket) (m : Move) (before : List RequestBody)
    → Readable direction packet m → allowed (receiver_of direction e) m ≡ true → Counted e.at_container before
    → Counted (with_read direction (after (receiver_of direction e) m) later e).at_container (counting m (held_in packet) before)
count_read Direction.ToContainer e later packet m before readable f i =
    count_move e.at_container m (held_in packet) before f readable.carries i
count_read Direction.ToServer e later packet m before readable f i =
    subst (Counted e.at_container) (sym (reply_counts m (held_in packet) before readable.way)) i

-- a refused send leaves the ends and the pipes
same_ends : (direction : Direction) (e : Ends) → with_sent direction (sender_of direction e) (pipe_of direction e ++ []) e ≡ e
same_ends Direction.ToContainer e = ap (λ (out : List PipePacket). with_sent Direction.ToContainer e.at_server out e) (append-nil e.to_container)
same_ends Direction.ToServer e = ap (λ (out : List PipePacket). with_sent Direction.ToServer e.at_container out e) (append-nil e.to_server)

-- a send keeps it: refused, the ends and pipes are as they were; done, the packet goes last into its pipe
module _ (call : Send) (w : World) (kept : Kept w) where
  -- the connection that the call is given
  abbrev given : Connection
  given = sender_of (call_direction call) w.ends

  -- the world after the send, by what the call comes to
  abbrev sent_world : Outcome Written → World
  sent_world o = record {
    ends = sent_from given (call_direction call) call w.ends o;
    past = entry_of call w.ends o ∷ w.past;
  }

  -- a refused send
  refused_keeps : (n : ℕ) → outcome_of given call ≡ refused n → Kept (sent_world (refused n))
  refused_keeps n e =
      let same : with_sent (call_direction call) given (pipe_of (call_direction call) w.ends ++ []) w.ends ≡ w.ends = same_ends (call_direction call) w.ends in
      let stays : after_send call w.ends ≡ w.ends = ap (λ (o : Outcome Written). (sent_world o).ends) e ∙ same in
      subst (λ (x : Ends). Kept (record { ends = x; past = refused_send (body_given call) w.ends (after_send call w.ends) ∷ w.past })) (sym same)
      (record {
        meeting = kept.meeting;
        taken = kept.taken;
        unchanged = (sym stays, kept.unchanged);
        bytes = kept.bytes;
        counted = kept.counted;
      })

  -- a send that is done
  done_keeps : (written : Written) → Made given call (part (buffer_of given call) 0 written.size) written.connection
      → Kept (sent_world (done written))
  done_keeps written made =
      let direction : Direction = call_direction call in
      let packet : PipePacket = packet_by call (part (buffer_of given call) 0 written.size) in
      let m : Move = made.move in
      subst (λ (c : Connection). Kept (record {
        ends = with_sent direction c (pipe_of direction w.ends ++ packet ∷ []) w.ends;
        past = sent (body_given call) ∷ w.past;
      })) (sym made.steps)
      (record {
        meeting =
            after_sent direction w.ends (after given m) (pipe_of direction w.ends ++ packet ∷ [])
            (meeting_sent packet m made.readable made.allows (meeting_of direction w.ends kept.meeting));
        taken = kept.taken;
        unchanged = kept.unchanged;
        bytes =
            bytes_sent direction w.ends (after given m) packet m (received_bytes w.past) (sent_bytes w.past) made.readable kept.bytes
            ∙ ap (λ (l : List ℕ). sent_bytes w.past ++ l) made.holds;
        counted =
            count_sent direction w.ends (pipe_of direction w.ends ++ packet ∷ []) packet m (requests w.past) made.readable made.allows kept.counted;
      })

  -- either
  pub send_keeps : Kept (happen (send call) w)
  send_keeps = go (outcome_of given call) refl
    where
      go : (o : Outcome Written) → outcome_of given call ≡ o → Kept (sent_world o)
      go (refused n) e = refused_keeps n e
      go (done written) e = done_keeps written (send_made given call written e)

-- a delivery keeps it: the first packet is accepted and leaves its pipe
module _ (direction : Direction) (d : Delivery) (w : World) (kept : Kept w) where
  -- where there is one
  read_keeps : (packet : PipePacket) (later : List PipePacket) → pipe_of direction w.ends ≡ packet ∷ later
      → Kept (deliver_from direction d w (packet ∷ later))
  read_keeps packet later e =
      let c : Connection = receiver_of direction w.ends in
      let first = first_of_lem direction w.ends packet later kept.meeting e in
      let m : Move = first.move in
      let readable : Readable direction packet m = first.readable in
      let rest : List ℕ = all_bytes (take d.behind later) in
      subst (λ (a : read.Meaning). Kept (record {
        ends = after_answer direction later w.ends a;
        past = delivered packet.bytes (lent d packet later) a ∷ w.past;
      })) (sym (first_answer first d))
      (record {
        meeting = after_read direction w.ends (after c m) later first.rest;
        taken = (refl, kept.taken);
        unchanged = kept.unchanged;
        bytes =
            ap (λ (l : List ℕ). (received_bytes w.past ++ l) ++ body_bytes_in (with_read direction (after c m) later w.ends).to_container) (readable.handed rest)
            ∙ bytes_read direction w.ends (after c m) packet later m (received_bytes w.past) (sent_bytes w.past) readable e kept.bytes;
        counted =
            subst (Counted (with_read direction (after c m) later w.ends).at_container) (sym (readable.counts rest (requests w.past)))
            (count_read direction w.ends later packet m (requests w.past) readable first.allows kept.counted);
      })

  -- on an empty pipe nothing happens
  pub deliver_keeps : Kept (happen (deliver direction d) w)
  deliver_keeps = go (pipe_of direction w.ends) refl
    where
      go : (pipe : List PipePacket) → pipe_of direction w.ends ≡ pipe → Kept (deliver_from direction d w pipe)
      go [] e = kept
      go (packet ∷ later) e = read_keeps packet later e
