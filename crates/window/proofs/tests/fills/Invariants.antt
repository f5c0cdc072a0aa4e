use Rattle.std.proofs.Common.{◌≡◌, length}
use Rattle.window.proofs.tests.fills.Given as goal

abbrev pub invariant-loop-page : goal.invariant-loop-page
invariant-loop-page g l = (length l.w.pages ≡ l.page) × (l.w.base ≡ 0)
