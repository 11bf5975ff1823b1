-- The mark of HEAD along the cycle: what each move leaves of it, and that no chunk with bytes is allowed where it counts.
-- Assumes nothing.
use mathlib.Core.Path.{◌≡◌, refl, sym, ap, ◌∙◌}
use mathlib.Core.Bool.{Bool, true, false, not}
use Prim.Native.Nat.{ℕ}
use borrow.Author.Tests.{eqb-true}
use Rattle.wire.specs.Pick.{both}
use Rattle.wire.proofs.Tests.{both_first, both_second}
use Rattle.connection.specs.declared.State.{State}
use Rattle.connection.specs.declared.Connection.{Connection}
use Rattle.connection.specs.declared.Move.{Move}
use Rattle.connection.specs.Connection.{is_busy, is_head}
use Rattle.connection.specs.Cycle.{chunk_allowed, in_size, allowed, after}
use Rattle.connection.specs.Facts.{Marked}

-- a move that is allowed in Busy alone, and keeps the mark
stays : (c : Connection) (m : Move) (test size : Bool) → both (both (is_busy c.state) test) size ≡ true → (after c m).head ≡ c.head
    → is_head (after c m) ≡ c.head → ((after c m).head ≡ is_head c) × (is_head (after c m) ≡ is_head c)
stays c m test size f p q =
    let counts : is_head c ≡ c.head = ap (λ (t : Bool). both t c.head) (both_first (is_busy c.state) test (both_first (both (is_busy c.state) test) size f)) in
    (p ∙ sym counts, q ∙ sym counts)

-- what each move leaves of the mark
pub marked : (c : Connection) (m : Move) → allowed c m ≡ true → Marked c m
marked c Move.CPing f = record { in_record = refl; counts = refl }
marked c Move.CPong f = record { in_record = refl; counts = refl }
marked c (Move.Forward g) f = record { in_record = refl; counts = refl }
marked c (Move.Body k) f =
    let s = stays c (Move.Body k) c.due (in_size c (Move.Body k)) f refl refl in
    record { in_record = s.0; counts = s.1 }
marked c (Move.GetBody r) f =
    let s = stays c (Move.GetBody r) (not c.due) true f refl refl in
    record { in_record = s.0; counts = s.1 }
marked c Move.SendHeaders f =
    let s = stays c Move.SendHeaders (not c.headers) true f refl refl in
    record { in_record = s.0; counts = s.1 }
marked c (Move.BodyChunk k) f =
    let s = stays c (Move.BodyChunk k) c.headers (in_size c (Move.BodyChunk k)) f refl refl in
    record { in_record = s.0; counts = s.1 }
marked c (Move.End true) f = record { in_record = refl; counts = refl }
marked c (Move.End false) f = record { in_record = refl; counts = refl }

-- where the request is HEAD a chunk that is allowed is empty
pub head_bare : (c : Connection) (k : ℕ) → is_head c ≡ true → allowed c (Move.BodyChunk k) ≡ true → k ≡ 0
head_bare c k h f =
    eqb-true k 0 (ap (λ (t : Bool). chunk_allowed t k) (sym h) ∙ both_second (both (is_busy c.state) c.headers) (in_size c (Move.BodyChunk k)) f)

-- a connection that is Closed allows nothing
pub closed_mute : (c : Connection) (m : Move) → c.state ≡ State.Closed → allowed c m ≡ false
closed_mute c Move.CPing e = rw e
closed_mute c Move.CPong e = rw e
closed_mute c (Move.Forward f) e = rw e
closed_mute c (Move.Body k) e = rw e
closed_mute c (Move.GetBody r) e = rw e
closed_mute c Move.SendHeaders e = rw e
closed_mute c (Move.BodyChunk k) e = rw e
closed_mute c (Move.End reuse) e = rw e
