use Rattle.std.proofs.Common.{◌≡◌}
use Rattle.trial.proofs.write.Given as goal

abbrev pub invariant-loop-i : goal.invariant-loop-i
invariant-loop-i l = l.simulation.play ≡ l.fn.simulation.play
