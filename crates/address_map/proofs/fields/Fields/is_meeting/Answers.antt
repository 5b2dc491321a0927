-- Two enabled banks meet if each starts no later than the other ends, by `meeting_in`.
use Rattle.std.proofs.Common.{◌≡◌, ◌%◌, arith}
use Rattle.address_map.proofs.PairLaws.{meeting_in}
use Rattle.address_map.proofs.fields.Fields.is_meeting.Goals as goal

pub returns : goal.returns
returns c =
    let n = c.args.n in
    let m = c.args.m in
    let same-n : n % 8 ≡ n = omega (arith, c.requires.0) in
    let same-m : m % 8 ≡ m = omega (arith, c.requires.1) in
    rw (c.is_enabled.ensures, c.is_enabled-2.ensures, c.start.ensures.value, c.last.ensures.value, c.start-2.ensures.value, c.last-2.ensures.value, same-n, same-m)
    (meeting_in c.args.self.now n m c.requires.0 c.requires.1)
