-- The facts about the cycle that the theorem on two ends rests on, by the rows of its table. A server's move and a container's move,
-- both of which a connection allows, may be made in either order and come to the same connection; what does not count of a record is
-- not looked at; and a step goes on exactly where the move is allowed.
-- Assumes nothing.
use mathlib.Core.Path.{◌≡◌, refl, sym, ap, ◌∙◌}
use mathlib.Core.Bool.{Bool, true, false, not, false≢true}
use Prim.Native.Nat.{ℕ, ◌≤◌}
use native.Mathlib.Omega.{arith}
use borrow.Author.Tests.{eqb-true, leb-true}
use lib.Dec.{eqb, leb}
use Rattle.wire.specs.Pick.{pick, both}
use Rattle.wire.specs.Refusal.{none, not_now, body_size_wrong}
use Rattle.packet.specs.declared.Direction.{Direction}
use Rattle.wire.proofs.Tests.{both_first, both_second}
use Rattle.connection.specs.declared.State.{State}
use Rattle.connection.specs.declared.Connection.{Connection}
use Rattle.connection.specs.declared.Kind.{Kind}
use Rattle.connection.specs.declared.Move.{Move}
use Rattle.connection.specs.Step.{Step}
use Rattle.connection.specs.Connection.{is_idle, is_pinged, is_busy, rest, with_headers, busy, tidy, body_due}
use Rattle.connection.specs.Cycle.{move_kind, direction_of, in_state, largest_body, size_allowed, chunk_allowed, in_size, allowed, forwarded, after, step_of, number_in, connection_after_step}
use Rattle.connection.specs.Facts.{Commuting, BodyWithin, Ignored}
use Rattle.connection.proofs.Laws.{largest_by, step_by}

-- two constructors are never equal
pub never : {A : Type 0} → false ≡ true → A
never e = absurd (false≢true e)

pub wrong_way : {A : Type 0} → Direction.ToServer ≡ Direction.ToContainer → A
wrong_way e = absurd (let z : ◌≡◌ {A = ℕ} 0 1 = cc in omega arith)

-- where a connection is Idle no move of the container's is allowed
pub idle_mute : (c : Connection) (n : Move) → direction_of (move_kind n) ≡ Direction.ToServer → c.state ≡ State.Idle
    → allowed c n ≡ false
idle_mute c Move.CPing q e = wrong_way (sym q)
idle_mute c Move.CPong q e = rw e
idle_mute c (Move.Forward f) q e = wrong_way (sym q)
idle_mute c (Move.Body k) q e = wrong_way (sym q)
idle_mute c (Move.GetBody r) q e = rw e
idle_mute c Move.SendHeaders q e = rw e
idle_mute c (Move.BodyChunk k) q e = rw e
idle_mute c (Move.End reuse) q e = rw e

-- no move of the server's leads to Idle
pub server_not_idle : (c : Connection) (m : Move) → direction_of (move_kind m) ≡ Direction.ToContainer → (after c m).state ≡ State.Idle → ⊥
server_not_idle c Move.CPing p e = never (ap is_idle e)
server_not_idle c Move.CPong p e = wrong_way p
server_not_idle c (Move.Forward f) p e = never (ap is_idle e)
server_not_idle c (Move.Body k) p e = never (ap is_idle e)
server_not_idle c (Move.GetBody r) p e = wrong_way p
server_not_idle c Move.SendHeaders p e = wrong_way p
server_not_idle c (Move.BodyChunk k) p e = wrong_way p
server_not_idle c (Move.End reuse) p e = wrong_way p

is_idle_lem : (s : State) → is_idle s ≡ true → s ≡ State.Idle
is_idle_lem State.Idle e = refl
is_idle_lem State.Pinged e = never e
is_idle_lem State.Busy e = never e
is_idle_lem State.Closed e = never e

-- the server's moves of Idle: there the container has none
from_idle : (c : Connection) (m n : Move) → direction_of (move_kind n) ≡ Direction.ToServer → both (is_idle c.state) true ≡ true
    → allowed c n ≡ true → Commuting c m n
from_idle c m n q f g =
    never (sym (idle_mute c n q (is_idle_lem c.state (both_first (is_idle c.state) true f))) ∙ g)

-- a record with this state and these answers to whether a body packet is due and headers were sent. With a record's own it is that record,
-- so that a law goes by their values and each row of the table computes.
abbrev at : State → Bool → Bool → Connection → Connection
at s d h c = record { state = s; due = d; headers = h; head = c.head; asked = c.asked; left = c.left }

-- the server's move of Busy, a body packet
from_busy : (s : State) (d h : Bool) (c : Connection) (k : ℕ) (n : Move) → direction_of (move_kind n) ≡ Direction.ToServer
    → allowed (at s d h c) (Move.Body k) ≡ true → allowed (at s d h c) n ≡ true → Commuting (at s d h c) (Move.Body k) n
unfolding largest_body
from_busy State.Busy true false c k Move.SendHeaders q f g = record { first_then = refl; second_then = f; meets = refl }
from_busy State.Busy true true c k (Move.BodyChunk j) q f g = record { first_then = g; second_then = f; meets = refl }
from_busy State.Busy true true c k Move.SendHeaders q f g = never g
from_busy State.Busy true false c k (Move.BodyChunk j) q f g = never g
from_busy State.Busy true h c k (Move.GetBody r) q f g = never g
from_busy State.Busy true true c k (Move.End reuse) q f g = never g
from_busy State.Busy true false c k (Move.End reuse) q f g = never g
from_busy State.Busy true h c k Move.CPong q f g = never g
from_busy State.Busy true h c k Move.CPing q f g = wrong_way (sym q)
from_busy State.Busy true h c k (Move.Forward j) q f g = wrong_way (sym q)
from_busy State.Busy true h c k (Move.Body j) q f g = wrong_way (sym q)
from_busy State.Busy false h c k n q f g = never f
from_busy State.Idle d h c k n q f g = never f
from_busy State.Pinged d h c k n q f g = never f
from_busy State.Closed d h c k n q f g = never f

-- a server's move and a container's move that are both allowed may be made in either order
pub commute : (c : Connection) (m n : Move) → direction_of (move_kind m) ≡ Direction.ToContainer → direction_of (move_kind n) ≡ Direction.ToServer
    → allowed c m ≡ true → allowed c n ≡ true → Commuting c m n
commute c Move.CPing n p q f g = from_idle c Move.CPing n q f g
commute c (Move.Forward k) n p q f g = from_idle c (Move.Forward k) n q f g
commute c (Move.Body k) n p q f g = from_busy c.state c.due c.headers c k n q f g
commute c Move.CPong n p q f g = wrong_way p
commute c (Move.GetBody r) n p q f g = wrong_way p
commute c Move.SendHeaders n p q f g = wrong_way p
commute c (Move.BodyChunk k) n p q f g = wrong_way p
commute c (Move.End reuse) n p q f g = wrong_way p

-- a size that is allowed is at most what may come
size_within : (most k : ℕ) → size_allowed most k ≡ true → k ≤ most
size_within most k e = go (eqb most 0) e
  where
    go : (t : Bool) → pick t (eqb k 0) (both (leb 1 k) (leb k most)) ≡ true → k ≤ most
    go true u = omega (arith, eqb-true k 0 u)
    go false u = leb-true k most (both_second (leb 1 k) (leb k most) u)

-- a body packet that is allowed holds no more than is left, than a packet can hold, and than may come
pub body_within : (c : Connection) (k : ℕ) → allowed c (Move.Body k) ≡ true → BodyWithin c k
body_within c k f =
    let most : largest_body c ≡ _ = largest_by c true (both_first (body_due c) (size_allowed (largest_body c) k) f) in
    let fits : k ≤ largest_body c = size_within (largest_body c) k (both_second (body_due c) (size_allowed (largest_body c) k) f) in
    record {
      of_left = omega arith;
      of_packet = omega arith;
      of_largest = fits;
    }

-- what was asked, kept where a body packet is due, is kept so a second time
busy_twice : (c : Connection) → busy (busy c) ≡ busy c
busy_twice c = go c.due
  where
    go : (d : Bool) → busy (busy (at c.state d c.headers c)) ≡ busy (at c.state d c.headers c)
    go true = refl
    go false = refl

-- after a move nothing is left in what does not count
pub settled : (c : Connection) (m : Move) → after c m ≡ tidy (after c m)
settled c Move.CPing = refl
settled c Move.CPong = refl
settled c (Move.Forward f) = sym (busy_twice (forwarded f))
settled c (Move.Body k) = refl
settled c (Move.GetBody r) = refl
settled c Move.SendHeaders = sym (busy_twice (with_headers true c))
settled c (Move.BodyChunk k) = sym (busy_twice c)
settled c (Move.End true) = refl
settled c (Move.End false) = refl

-- a record and what counts of it have the same state, in Busy the same answer to any test of the three marks due, headers and head, and the
-- same most that may come
same_state : (s : State) (c : Connection) → (tidy (at s c.due c.headers c)).state ≡ s
same_state State.Idle c = refl
same_state State.Pinged c = refl
same_state State.Busy c = refl
same_state State.Closed c = refl

same_test : (test : Bool → Bool → Bool → Bool) (s : State) (c : Connection) → let d = at s c.due c.headers c in
    both (is_busy (tidy d).state) (test (tidy d).due (tidy d).headers (tidy d).head) ≡ both (is_busy s) (test c.due c.headers c.head)
same_test test State.Idle c = refl
same_test test State.Pinged c = refl
same_test test State.Busy c = refl
same_test test State.Closed c = refl

same_largest : (s : State) (d : Bool) (c : Connection) → largest_body (tidy (at s d c.headers c)) ≡ largest_body (at s d c.headers c)
unfolding largest_body
same_largest State.Idle d c = refl
same_largest State.Pinged d c = refl
same_largest State.Busy true c = refl
same_largest State.Busy false c = refl
same_largest State.Closed d c = refl

module _ (c : Connection) where
  state_kept : (tidy c).state ≡ c.state
  state_kept = same_state c.state c

  test_kept : (test : Bool → Bool → Bool → Bool)
      → both (is_busy (tidy c).state) (test (tidy c).due (tidy c).headers (tidy c).head) ≡ both (is_busy c.state) (test c.due c.headers c.head)
  test_kept test = same_test test c.state c

  ignored_state : (k : Kind) → in_state (tidy c) k ≡ in_state c k
  ignored_state Kind.CPing = ap is_idle state_kept
  ignored_state Kind.CPong = ap is_pinged state_kept
  ignored_state Kind.Forward = ap is_idle state_kept
  ignored_state Kind.Body = test_kept (λ d h m. d)
  ignored_state Kind.GetBody = test_kept (λ d h m. not d)
  ignored_state Kind.SendHeaders = test_kept (λ d h m. not h)
  ignored_state Kind.BodyChunk = test_kept (λ d h m. h)
  ignored_state Kind.End = test_kept (λ d h m. both h (not d))

  ignored_size : (m : Move) → in_size (tidy c) m ≡ in_size c m
  ignored_size Move.CPing = refl
  ignored_size Move.CPong = refl
  ignored_size (Move.Forward f) = refl
  ignored_size (Move.Body k) = ap (λ (n : ℕ). size_allowed n k) (same_largest c.state c.due c)
  ignored_size (Move.GetBody r) = refl
  ignored_size Move.SendHeaders = refl
  ignored_size (Move.BodyChunk k) = ap (λ (m : Bool). chunk_allowed m k) (test_kept (λ d h m. m))
  ignored_size (Move.End reuse) = refl

  -- a move that is allowed in Busy alone
  in_busy_lem : (m : Move) (test size : Bool) → both (both (is_busy c.state) test) size ≡ true → after (busy c) m ≡ after c m
      → after (tidy c) m ≡ after c m
  in_busy_lem m test size f e =
      let b : is_busy c.state ≡ true = both_first (is_busy c.state) test (both_first (both (is_busy c.state) test) size f) in
      ap (λ (t : Bool). after (pick t (busy c) (rest c.state)) m) b ∙ e

  ignored_after : (m : Move) → allowed c m ≡ true → after (tidy c) m ≡ after c m
  ignored_after Move.CPing f = refl
  ignored_after Move.CPong f = refl
  ignored_after (Move.Forward n) f = refl
  ignored_after (Move.Body k) f = in_busy_lem (Move.Body k) c.due (in_size c (Move.Body k)) f refl
  ignored_after (Move.GetBody r) f = in_busy_lem (Move.GetBody r) (not c.due) true f refl
  ignored_after Move.SendHeaders f = in_busy_lem Move.SendHeaders (not c.headers) true f (busy_twice (with_headers true c))
  ignored_after (Move.BodyChunk k) f = in_busy_lem (Move.BodyChunk k) c.headers (in_size c (Move.BodyChunk k)) f (busy_twice c)
  ignored_after (Move.End reuse) f = refl

-- a step by what the state and the size say, whose connection matters only where both allow the move
next_same : (a b : Bool) (x y : Connection) → (both a b ≡ true → x ≡ y)
    → pick a (pick b (Step.Next x) (Step.Refused body_size_wrong)) (Step.Refused not_now)
    ≡ pick a (pick b (Step.Next y) (Step.Refused body_size_wrong)) (Step.Refused not_now)
next_same true true x y e = ap Step.Next (e refl)
next_same true false x y e = refl
next_same false b x y e = refl

pub ignored : (c : Connection) (m : Move) → Ignored c m
ignored c m =
    let state : in_state (tidy c) (move_kind m) ≡ in_state c (move_kind m) = ignored_state c (move_kind m) in
    let size : in_size (tidy c) m ≡ in_size c m = ignored_size c m in
    record {
      allows = rw (state, size);
      goes = ignored_after c m;
      steps = step_by (tidy c) m (in_state c (move_kind m)) (in_size c m) state size
          ∙ next_same (in_state c (move_kind m)) (in_size c m) (after (tidy c) m) (after c m) (ignored_after c m)
          ∙ sym (step_by c m (in_state c (move_kind m)) (in_size c m) refl refl);
    }

-- a step goes on where the move is allowed, and to the connection after it
pub step_next : (c : Connection) (m : Move) → allowed c m ≡ true → step_of c m ≡ Step.Next (after c m)
step_next c m f =
    step_by c m true true (both_first (in_state c (move_kind m)) (in_size c m) f) (both_second (in_state c (move_kind m)) (in_size c m) f)

-- and nowhere else
only_next : (a b : Bool) (x d : Connection)
    → pick a (pick b (Step.Next x) (Step.Refused body_size_wrong)) (Step.Refused not_now) ≡ Step.Next d → (both a b ≡ true) × (x ≡ d)
only_next true true x d e = (refl, cc)
only_next true false x d e = absurd (let z : ◌≡◌ {A = ℕ} 0 1 = cc in omega arith)
only_next false b x d e = absurd (let z : ◌≡◌ {A = ℕ} 0 1 = cc in omega arith)

pub step_next_only : (c : Connection) (m : Move) (d : Connection) → step_of c m ≡ Step.Next d → (allowed c m ≡ true) × (after c m ≡ d)
step_next_only c m d e =
    only_next (in_state c (move_kind m)) (in_size c m) (after c m) d (sym (step_by c m (in_state c (move_kind m)) (in_size c m) refl refl) ∙ e)

-- a step is refused with 13 where the state does not allow the kind, and with 14 where it does and the size is wrong
pub step_refused_state : (c : Connection) (m : Move) → in_state c (move_kind m) ≡ false → step_of c m ≡ Step.Refused not_now
step_refused_state c m e = step_by c m false (in_size c m) e refl

pub step_refused_size : (c : Connection) (m : Move) → in_state c (move_kind m) ≡ true → in_size c m ≡ false → step_of c m ≡ Step.Refused body_size_wrong
step_refused_size c m e f = step_by c m true false e f

-- a step's number and connection: refused, its number and the connection as it was; else 0 and the connection after the move
pub step_number : (c : Connection) (m : Move) → number_in (step_of c m) ≡ pick (in_state c (move_kind m)) (pick (in_size c m) none body_size_wrong) not_now
unfolding step_of
step_number c m = go (in_state c (move_kind m)) (in_size c m)
  where
    go : (a b : Bool) → number_in (pick a (pick b (Step.Next (after c m)) (Step.Refused body_size_wrong)) (Step.Refused not_now)) ≡ pick a (pick b none body_size_wrong) not_now
    go true true = refl
    go true false = refl
    go false b = refl

pub step_connection : (c : Connection) (m : Move) → connection_after_step c (step_of c m) ≡ pick (allowed c m) (after c m) c
unfolding step_of
step_connection c m = go (in_state c (move_kind m)) (in_size c m)
  where
    go : (a b : Bool) → connection_after_step c (pick a (pick b (Step.Next (after c m)) (Step.Refused body_size_wrong)) (Step.Refused not_now)) ≡ pick (both a b) (after c m) c
    go true true = refl
    go true false = refl
    go false b = refl
