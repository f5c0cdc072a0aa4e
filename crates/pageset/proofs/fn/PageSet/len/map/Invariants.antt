use Rattle.std.proofs.Common.{◌≡◌}
use Rattle.pageset.specs.Count.{count}
use Rattle.pageset.specs.Member.{bit_of}
use Rattle.pageset.proofs.fn.PageSet.len.map.Given as goal

abbrev pub ensures : goal.ensures
ensures l r = r ≡ count (bit_of l.word.entry.now) 64
