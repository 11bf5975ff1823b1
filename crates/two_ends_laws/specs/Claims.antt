-- Demand 3: what holds after any list of events, sentence by sentence.
-- Document 01, 'Two ends and their pipes'.
-- Assumes nothing.
use Rattle.std.specs.Prelude.{◌≡◌, List, [], ◌∷◌, ◌++◌, ℕ, ◌≤◌, length}
use Rattle.connection.specs.declared.State.{State}
use Rattle.reader.specs.Meaning as read
use Rattle.two_ends_laws.specs.Past.{Entry, sent, refused_send, delivered, World, sent_bytes, received_bytes, body_bytes_in, RequestBody, requests}

-- an answer that accepts a packet and takes exactly its bytes
abbrev pub Taken : List ℕ → read.Meaning → Type 0
Taken packet (read.needs n) = ⊥
Taken packet (read.refused n) = ⊥
Taken packet (read.accepted found taken after) = taken ≡ length packet

-- every packet delivered was accepted and exactly its bytes were taken
abbrev pub AllTaken : List Entry → Type 0
AllTaken [] = Unit
AllTaken (sent bytes ∷ before) = AllTaken before
AllTaken (refused_send bytes e f ∷ before) = AllTaken before
AllTaken (delivered packet lent answer ∷ before) = Taken packet answer × AllTaken before

-- a refused send changed neither end and neither pipe
abbrev pub NoneChanged : List Entry → Type 0
NoneChanged [] = Unit
NoneChanged (sent bytes ∷ before) = NoneChanged before
NoneChanged (refused_send bytes e f ∷ before) = (e ≡ f) × NoneChanged before
NoneChanged (delivered packet lent answer ∷ before) = NoneChanged before

-- no request got more than it declared
abbrev pub WithinDeclared : List RequestBody → Type 0
WithinDeclared [] = Unit
WithinDeclared (request ∷ before) = (length request.got ≤ request.declared) × WithinDeclared before

-- the whole of demand 3
pub record Holds (w : World) : Type 0 where
  -- every packet delivered was accepted and exactly its bytes taken
  pub taken : AllTaken w.past
  -- a refused send changed neither end and neither pipe
  pub unchanged : NoneChanged w.past
  -- both pipes empty: the two connections are equal
  pub equal : w.ends.to_container ≡ [] → w.ends.to_server ≡ [] → w.ends.at_server ≡ w.ends.at_container
  -- the server's end Idle: both pipes are empty and the container's end is Idle
  pub idle : w.ends.at_server.state ≡ State.Idle
      → (w.ends.to_container ≡ []) × (w.ends.to_server ≡ []) × (w.ends.at_container.state ≡ State.Idle)
  -- body bytes received, then those in the pipe, are those sent, in order
  pub bytes : received_bytes w.past ++ body_bytes_in w.ends.to_container ≡ sent_bytes w.past
  -- no request got more than it declared
  pub within : WithinDeclared (requests w.past)
