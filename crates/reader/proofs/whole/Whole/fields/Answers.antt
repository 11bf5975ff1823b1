-- `Whole::fields` meets its contract, kind by kind: a packet without headers asks for no places.
-- Assumes nothing.
use mathlib.Core.Path.{refl}
use Rattle.connection.specs.declared.Kind.{Kind}
use Rattle.reader.specs.Reading.{context_of}
use Rattle.reader.proofs.Laws.{plain_is}
use Rattle.reader.proofs.whole.Whole.fields.Goals as goal

pub returns-in_ok-read-in-CPing : goal.returns-in_ok-read-in-CPing
returns-in_ok-read-in-CPing c =
    let a = c.args in
    let all = plain_is (context_of a.self.direction a.self.connection) a.self.connection a.kind Kind.CPing a.self.bytes.now a.table.now _ _ _ c.in-CPing.is refl c.in_ok-read-in-CPing.ensures c.accept.ensures in
    record { result_value = all.0; table_after = all.1 }

pub returns-in_ok-read-in-CPong : goal.returns-in_ok-read-in-CPong
returns-in_ok-read-in-CPong c =
    let a = c.args in
    let all = plain_is (context_of a.self.direction a.self.connection) a.self.connection a.kind Kind.CPong a.self.bytes.now a.table.now _ _ _ c.in-CPong.is refl c.in_ok-read-in-CPong.ensures c.accept-in-CPong.ensures in
    record { result_value = all.0; table_after = all.1 }

pub returns-in_ok-read-in-Body : goal.returns-in_ok-read-in-Body
returns-in_ok-read-in-Body c =
    let a = c.args in
    let all = plain_is (context_of a.self.direction a.self.connection) a.self.connection a.kind Kind.Body a.self.bytes.now a.table.now _ _ _ c.in-Body.is refl c.in_ok-read-in-Body.ensures c.accept-in-Body.ensures in
    record { result_value = all.0; table_after = all.1 }

pub returns-in_ok-read-in-GetBody : goal.returns-in_ok-read-in-GetBody
returns-in_ok-read-in-GetBody c =
    let a = c.args in
    let all = plain_is (context_of a.self.direction a.self.connection) a.self.connection a.kind Kind.GetBody a.self.bytes.now a.table.now _ _ _ c.in-GetBody.is refl c.in_ok-read-in-GetBody.ensures c.accept-in-GetBody.ensures in
    record { result_value = all.0; table_after = all.1 }

pub returns-in_ok-read-in-BodyChunk : goal.returns-in_ok-read-in-BodyChunk
returns-in_ok-read-in-BodyChunk c =
    let a = c.args in
    let all = plain_is (context_of a.self.direction a.self.connection) a.self.connection a.kind Kind.BodyChunk a.self.bytes.now a.table.now _ _ _ c.in-BodyChunk.is refl c.in_ok-read-in-BodyChunk.ensures c.accept-in-BodyChunk.ensures in
    record { result_value = all.0; table_after = all.1 }

pub returns-in_ok-read-in-End : goal.returns-in_ok-read-in-End
returns-in_ok-read-in-End c =
    let a = c.args in
    let all = plain_is (context_of a.self.direction a.self.connection) a.self.connection a.kind Kind.End a.self.bytes.now a.table.now _ _ _ c.in-End.is refl c.in_ok-read-in-End.ensures c.accept-in-End.ensures in
    record { result_value = all.0; table_after = all.1 }
