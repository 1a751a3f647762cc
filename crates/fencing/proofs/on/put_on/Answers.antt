-- `fencing::on::put_on` meets its contract: flag by flag, with a fence or without.
use Rattle.std.proofs.Common.{arith, length, ◌≡◌, ◌<◌}
use Rattle.fencing.proofs.Along.{along_no, along_yes}
use Rattle.fencing.proofs.on.put_on.Goals.{then-flag, else-flag}
use Rattle.fencing.proofs.on.put_on.Goals as goal

pub loop-i-preserved : goal.loop-i-preserved
loop-i-preserved c =
    let h : c.loop-i.i < length c.args.flags.now = omega (arith, c.loop-i-test.true, c.told-flags) in
    let g = c.args.g in let r = c.loop-i.result in let flags = c.args.flags.now in
    elim c.if-flag.branch [
      | then-flag w ↦ let p = w.put_fence.ensures in rw w.result-is (along_yes flags g r c.loop-i.i h c.loop-i.invariant w.if-flag.true p.fenced p.grown p.kept)
      | else-flag w ↦ rw w.result-is (along_no flags g r c.loop-i.i h c.loop-i.invariant w.if-flag.false)
    ]
