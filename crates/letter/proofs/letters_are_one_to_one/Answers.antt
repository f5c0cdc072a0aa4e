use Rattle.letter.proofs.Spell.{read_written, written_read}
use Rattle.letter.proofs.letters_are_one_to_one.Goals as goal

pub returns : goal.returns
returns c = record { back = read_written; forth = written_read }
