-- Modulo 32, eight times a beat and eight times the beat modulo 4 are the same, so that this is `beat_address`.
use native.Mathlib.Omega.{arith}
use Rattle.calls.specs.Calls.{beat_address}
use Rattle.parts.proofs.beat_address.Goals as goal

pub returns : goal.returns
unfolding beat_address
returns c = omega arith
