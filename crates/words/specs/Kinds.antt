-- The words of the kinds of packet.
-- The C boundary.
-- Assumes nothing.
use Rattle.std.specs.Prelude.{ℕ}
use Rattle.connection.specs.declared.Kind.{Kind}

abbrev pub kind_word : Kind → ℕ
kind_word Kind.CPing = 1
kind_word Kind.CPong = 2
kind_word Kind.Forward = 3
kind_word Kind.Body = 4
kind_word Kind.GetBody = 5
kind_word Kind.SendHeaders = 6
kind_word Kind.BodyChunk = 7
kind_word Kind.End = 8
