-- The megabyte less the start, modulo 2^32, is at most the last less the start exactly if the span holds it, by `within_is`.
use Rattle.std.proofs.Common.{◌+◌, ◌-◌, ◌%◌, ◌^◌, arith}
use Rattle.address_map.proofs.SizeLaws.{within_is}
use Rattle.address_map.proofs.pass.is_within.Goals as goal

pub returns : goal.returns
returns c =
    let a = c.args in
    within_is a.start a.last a.mb ((a.mb + (2 ^ 32 - a.start)) % 2 ^ 32) c.requires.0 c.requires.1 (omega arith) (omega arith) (omega arith)
