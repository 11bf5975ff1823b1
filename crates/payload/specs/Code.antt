-- What kind a packet is: by its code, or a body packet where it is read as one.
-- Document 01, 'Server to container', 'Container to server' and rows 3, 4 and 5 of 'Refusal numbers'.
-- Assumes nothing.
use Rattle.std.specs.Prelude.{List, ℕ, eqb}
use Rattle.wire.specs.Pick.{pick, either}
use Rattle.wire.specs.Refusal.{code_wrong, code_not_served}
use Rattle.wire.specs.Field.{byte_at}
use Rattle.packet.specs.declared.Direction.{Direction}
use Rattle.wire.specs.Read.{NumberRead}
use Rattle.connection.specs.declared.Kind.{Kind}
use Rattle.payload.specs.declared.Context.{Context}
use Rattle.payload.specs.Read.{KindRead}
use Rattle.wire.specs.Packet.{code_place}

-- the code of a kind; a body packet has none, and 0, which is no kind's code, stands for that
abbrev pub code_of : Kind → ℕ
code_of Kind.CPing = 10
code_of Kind.CPong = 9
code_of Kind.Forward = 2
code_of Kind.Body = 0
code_of Kind.GetBody = 6
code_of Kind.SendHeaders = 4
code_of Kind.BodyChunk = 3
code_of Kind.End = 5

-- Shutdown, which is not served
abbrev pub shutdown_code : ℕ
shutdown_code = 7

-- Ping, which is not served
abbrev pub ping_code : ℕ
ping_code = 8

-- the kind that has a code, in each direction; of the codes from the server, 7 and 8 are 5, and every other one is 4
unfoldable pub code_kind : Direction → ℕ → KindRead
code_kind Direction.ToContainer code =
    pick (eqb code (code_of Kind.Forward)) (KindRead.Kind Kind.Forward)
    (pick (eqb code (code_of Kind.CPing)) (KindRead.Kind Kind.CPing)
    (pick (either (eqb code shutdown_code) (eqb code ping_code)) (KindRead.Refused code_not_served) (KindRead.Refused code_wrong)))
code_kind Direction.ToServer code =
    pick (eqb code (code_of Kind.BodyChunk)) (KindRead.Kind Kind.BodyChunk)
    (pick (eqb code (code_of Kind.SendHeaders)) (KindRead.Kind Kind.SendHeaders)
    (pick (eqb code (code_of Kind.End)) (KindRead.Kind Kind.End)
    (pick (eqb code (code_of Kind.GetBody)) (KindRead.Kind Kind.GetBody)
    (pick (eqb code (code_of Kind.CPong)) (KindRead.Kind Kind.CPong) (KindRead.Refused code_wrong)))))

-- the kind, by the code as read: a payload without one is 3
abbrev pub kind_of_code : Direction → NumberRead → KindRead
kind_of_code direction (NumberRead.Refused n) = KindRead.Refused n
kind_of_code direction (NumberRead.Number code next) = code_kind direction code

-- the kind of a packet that is read as a body packet, or by its code
unfoldable pub kind_at : Context → List ℕ → KindRead
kind_at context s = pick context.body (KindRead.Kind Kind.Body) (kind_of_code context.direction (byte_at s code_place))
