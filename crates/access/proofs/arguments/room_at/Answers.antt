-- `room` is this difference.
use mathlib.Core.Path.{refl}
use Rattle.calls.specs.Calls.{room}
use Rattle.access.proofs.arguments.room_at.Goals as goal

pub returns : goal.returns
unfolding room
returns c = refl
