use Rattle.std.proofs.Common.{◌≤◌, ℕ, ◌-◌, List, length, ap, arith, length-append}
use Rattle.rs01_lists.specs.Bytes.{padded, zeros}
use Rattle.rs01_lists.proofs.Padding.{length-zeros, padded-is}
use Rattle.rs01_fakes.proofs.stored.write_bytes.Goals as goal

long_enough : (end : ℕ) (bytes : List ℕ) → end ≤ length (padded end bytes)
long_enough end bytes =
    omega (arith, ap length (padded-is end bytes), length-append bytes (zeros (end - length bytes)), length-zeros (end - length bytes))

pub place-requires : goal.place-requires
place-requires c =
    let long = long_enough c.in-Some.end c.args.bytes.now.items in
    omega (arith, long, c.in-Some.ensures, ap length c.deref_mut.ensures.value, ap length c.in_ok-lengthen.ensures.ok)
