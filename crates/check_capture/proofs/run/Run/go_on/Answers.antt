-- `run::Run::go_on` is safe: the place of the check does not fall.
-- Assumes nothing.
use Rattle.checking.proofs.Parts.{taken_there}
use Rattle.check_capture.proofs.run.Run.go_on.Goals as goal

-- src/run.rt:68:22
pub overflow_sub-taken : goal.overflow_sub-taken
overflow_sub-taken c = rw c.go_on-checking.ensures (taken_there c.args.self.now.checking _).1
