-- What the container's connection knows of the requests: in Busy the newest one got what it declared but for what is left. Every move that is
-- allowed keeps that, by the rows of the cycle's table.
-- Assumes nothing.
use native.Mathlib.Omega.{arith}
use mathlib.Core.Path.{◌≡◌, refl, subst}
use mathlib.Core.Bool.{Bool, true, false, not, false≢true}
use mathlib.Core.List.{List, [], ◌∷◌}
use Prim.Native.Nat.{ℕ, ◌+◌, ◌-◌, ◌≤◌}
use lib.ListN.{length, length-append}
use Rattle.wire.specs.Pick.{both}
use Rattle.packet.specs.declared.Direction.{Direction}
use Rattle.connection.specs.Connection.{is_busy}
use Rattle.connection.specs.Cycle.{move_kind, direction_of, in_size, allowed, after}
use Rattle.connection.specs.declared.State.{State}
use Rattle.connection.specs.declared.Connection.{Connection}
use Rattle.connection.specs.declared.Move.{Move}
use Rattle.connection.proofs.Commute.{body_within}
use Rattle.two_ends_laws.specs.Past.{RequestBody, gets}
use Rattle.two_ends_laws.specs.Claims.{WithinDeclared}
use Rattle.two_ends_laws.specs.Readable.{Carries, counting}

-- by the state and the bytes left: in Busy there is a request, and what it got and what is left make up what it declared
abbrev CountedIn : State → ℕ → List RequestBody → Type 0
CountedIn State.Idle left before = WithinDeclared before
CountedIn State.Pinged left before = WithinDeclared before
CountedIn State.Closed left before = WithinDeclared before
CountedIn State.Busy left [] = ⊥
CountedIn State.Busy left (request ∷ before) = (length request.got + left ≡ request.declared) × WithinDeclared before

-- what a connection knows of the requests
abbrev pub Counted : Connection → List RequestBody → Type 0
Counted c before = CountedIn c.state c.left.0 before

-- so no request got more than it declared, by the state and the bytes left
within_by : (state : State) (left : ℕ) (before : List RequestBody) → CountedIn state left before → WithinDeclared before
within_by State.Idle left before i = i
within_by State.Pinged left before i = i
within_by State.Closed left before i = i
within_by State.Busy left [] i = absurd i
within_by State.Busy left (request ∷ before) i = (omega arith, i.1)

-- and by the connection
pub counted_within : (c : Connection) (before : List RequestBody) → Counted c before → WithinDeclared before
counted_within c before i = within_by c.state c.left.0 before i

-- a move that only Busy allows, whatever else is tested
in_busy_lem : (state : State) (left : ℕ) (before : List RequestBody) (test size : Bool) → both (both (is_busy state) test) size ≡ true
    → CountedIn state left before → CountedIn State.Busy left before
in_busy_lem State.Busy left before test size f i = i
in_busy_lem State.Idle left before test size f i = absurd (false≢true f)
in_busy_lem State.Pinged left before test size f i = absurd (false≢true f)
in_busy_lem State.Closed left before test size f i = absurd (false≢true f)

-- body bytes that come to the newest request are no longer left
counted_gets : (left : ℕ) (held : List ℕ) (before : List RequestBody) → length held ≤ left → CountedIn State.Busy left before
    → CountedIn State.Busy (left - length held) (gets held before)
counted_gets left held [] h i = absurd i
counted_gets left held (request ∷ before) h i = (omega (arith, length-append request.got held), i.1)

-- every move that a connection allows keeps what it knows
pub count_move : (c : Connection) (m : Move) (held : List ℕ) (before : List RequestBody) → allowed c m ≡ true → Carries m held → Counted c before
    → Counted (after c m) (counting m held before)
count_move c Move.CPing held before f e i = counted_within c before i
count_move c Move.CPong held before f e i = counted_within c before i
count_move c (Move.Forward g) held before f e i = (omega arith, counted_within c before i)
count_move c (Move.Body k) held before f e i =
    subst (λ (n : ℕ). CountedIn State.Busy (c.left.0 - n) (gets held before)) e
    (counted_gets c.left.0 held before (omega (arith, (body_within c k f).of_left))
    (in_busy_lem c.state c.left.0 before c.due (in_size c (Move.Body k)) f i))
count_move c (Move.GetBody r) held before f e i = in_busy_lem c.state c.left.0 before (not c.due) true f i
count_move c Move.SendHeaders held before f e i = in_busy_lem c.state c.left.0 before (not c.headers) true f i
count_move c (Move.BodyChunk k) held before f e i = in_busy_lem c.state c.left.0 before c.headers (in_size c (Move.BodyChunk k)) f i
count_move c (Move.End true) held before f e i = counted_within c before i
count_move c (Move.End false) held before f e i = counted_within c before i

-- the two directions differ
wrong_way : {A : Type 0} → Direction.ToContainer ≡ Direction.ToServer → A
wrong_way e = absurd (let z : ◌≡◌ {A = ℕ} 0 1 = cc in omega arith)

-- what the container sends holds no body bytes
pub reply_holds : (m : Move) (held : List ℕ) → direction_of (move_kind m) ≡ Direction.ToServer → Carries m held → held ≡ []
reply_holds Move.CPing held q e = e
reply_holds Move.CPong held q e = e
reply_holds (Move.Forward f) held q e = e
reply_holds (Move.Body k) held q e = wrong_way q
reply_holds (Move.GetBody r) held q e = e
reply_holds Move.SendHeaders held q e = e
reply_holds (Move.BodyChunk k) held q e = e
reply_holds (Move.End reuse) held q e = e

-- and adds nothing to the requests
pub reply_counts : (m : Move) (held : List ℕ) (before : List RequestBody) → direction_of (move_kind m) ≡ Direction.ToServer → counting m held before ≡ before
reply_counts Move.CPing held before q = refl
reply_counts Move.CPong held before q = refl
reply_counts (Move.Forward f) held before q = wrong_way q
reply_counts (Move.Body k) held before q = wrong_way q
reply_counts (Move.GetBody r) held before q = refl
reply_counts Move.SendHeaders held before q = refl
reply_counts (Move.BodyChunk k) held before q = refl
reply_counts (Move.End reuse) held before q = refl
