-- Writing and reading undo each other.
use Rattle.std.specs.Prelude.{◌≡◌, ℕ, ◌^◌, ◌<◌, List, length, Some}
use Rattle.letter.specs.declared.Letter.{Letter}
use Rattle.letter.specs.Words.{letter_of, spelt}

-- a letter that the program can hold: its page number fits 32 bits, and it has 64 words
pub record Fits (l : Letter) : Type 0 where
  pub page : l.page < 2 ^ 32
  pub words : length l.words ≡ 64

-- what is read of what was written is that letter
abbrev pub ReadsWhatWasWritten : Type 0
ReadsWhatWasWritten = (l : Letter) → Fits l → letter_of (spelt l) ≡ Some l

-- what is read as a letter is written as just those words, and the program can hold it
abbrev pub WritesWhatWasRead : Type 0
WritesWhatWasRead = (ws : List ℕ) (l : Letter) → length ws ≡ 72 → letter_of ws ≡ Some l → (spelt l ≡ ws) × Fits l
