-- The spelling of a command is ASCII, so UTF-8, and short.
use Rattle.std.proofs.Common.{ℕ, ◌^◌, ◌<◌, ◌≤◌, Bool, true, false, List, length, IsUtf8, IsAscii, decimal, None, ap, arith, length-append, rules}
use Rattle.std.proofs.lemmas.Str.Ascii.{IsAscii-nil, IsAscii-cons}
use Rattle.std.proofs.lemmas.Fmt.{IsAscii-decimal, length-decimal-le}
use Rattle.std.proofs.lemmas.Str.{IsAscii-append, IsUtf8-from_ascii}
use Rattle.script.specs.declared.Command.{Command}
use Rattle.script.specs.declared.Command.TheVariants.{Fall}
use Rattle.who.specs.Numbers.{numb}
use Rattle.script.specs.Spelling.{side, spelt, Valid, Says}

ruleset ascii = (rules, IsAscii-nil, IsAscii-cons, IsAscii-append, IsAscii-decimal)

ascii_side : (after : Bool) → IsAscii (side after)
ascii_side false = search ascii depth 20
ascii_side true = search ascii depth 20

ascii_spelt : (pages : ℕ) (c : Command) → Valid pages c → IsAscii (spelt c)
ascii_spelt pages (Fall h k a) v = search (ascii, ascii_side a) depth 20
ascii_spelt pages _ v = search ascii depth 20

pub utf8_spelt : (pages : ℕ) (c : Command) → Valid pages c → IsUtf8 (spelt c)
utf8_spelt pages c v = IsUtf8-from_ascii (spelt c) (ascii_spelt pages c v)

length_small : (n : ℕ) → n < 2 ^ 32 → length (decimal n) ≤ 10
length_small n h = length-decimal-le 10 n (omega arith) (omega arith) (omega arith)

length_number : (n : ℕ) → n < 2 ^ 64 → length (decimal n) ≤ 20
length_number n h = length-decimal-le 20 n (omega arith) (omega arith) h

length_side : (after : Bool) → length (side after) ≤ 6
length_side false = omega arith
length_side true = omega arith

pub length_spelt : (pages : ℕ) (c : Command) → Valid pages c → length (spelt c) ≤ 37
length_spelt pages (Fall h k a) v = omega (arith, length-append {A = ℕ}, length_small (numb h) (search rules), length_small, length_side a)
length_spelt pages _ v = omega (arith, length-append {A = ℕ}, length_small, length_number)

-- no command has more than 64 bytes
pub too_long : (pages : ℕ) (bs : List ℕ) → 64 < length bs → Says pages bs None
too_long pages bs l = record { all = λ c v e. absurd (omega (arith, ap length e, length_spelt pages c v)); only = tt }
