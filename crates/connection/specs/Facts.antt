-- What the laws of the cycle say.
-- Assumes nothing.
use Rattle.std.specs.Prelude.{◌≡◌, true, ℕ, ◌≤◌}
use Rattle.connection.specs.declared.Connection.{Connection}
use Rattle.connection.specs.declared.Move.{Move}
use Rattle.connection.specs.Connection.{max_body, tidy, is_head}
use Rattle.connection.specs.Cycle.{largest_body, allowed, after, head_then, step_of}

-- two moves, both of which a connection allows, may be made in either order, and come to the same
pub record Commuting (c : Connection) (m n : Move) : Type 0 where
  pub first_then : allowed (after c m) n ≡ true
  pub second_then : allowed (after c n) m ≡ true
  pub meets : after (after c m) n ≡ after (after c n) m

-- a body packet that is allowed holds no more than is left, than a packet can hold, and than may come
pub record BodyWithin (c : Connection) (k : ℕ) : Type 0 where
  pub of_left : k ≤ c.left.0
  pub of_packet : k ≤ max_body
  pub of_largest : k ≤ largest_body c

-- what does not count is not looked at. Where a move is not allowed, `after` may tell the two records apart; a step does not.
pub record Ignored (c : Connection) (m : Move) : Type 0 where
  pub allows : allowed (tidy c) m ≡ allowed c m
  pub goes : allowed c m ≡ true → after (tidy c) m ≡ after c m
  pub steps : step_of (tidy c) m ≡ step_of c m

-- a move that is allowed leaves the mark of HEAD as `head_then` says: in the record itself, and so as it counts
pub record Marked (c : Connection) (m : Move) : Type 0 where
  pub in_record : (after c m).head ≡ head_then m (is_head c)
  pub counts : is_head (after c m) ≡ head_then m (is_head c)
