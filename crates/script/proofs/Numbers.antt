-- Texts that are numbers, and texts that a space parts.
use Rattle.std.proofs.Common.{◌≡◌, ℕ, suc, ◌^◌, ◌<◌, false, eqb, List, [], ◌∷◌, ◌++◌, length, get_or, Some, None, Ok, Err, decimal, Option, Result, sym, refl, ap, ◌∙◌, inl, inr, suc-le-suc, arith, Bor}
use Rattle.std.proofs.lemmas.Fmt.{decimal_digit, first_decimal, digits_decimal, decimal-digits_value, decimal_nonempty, parse-decimal}
use Rattle.std.proofs.lemmas.Str.Parse.{IsNumeralModel, numerals_by_value, tells_digits, digit_at, parse_plain, not_in_digits}
use Rattle.std.proofs.lemmas.Str.Pattern.{IsSplitOnceResult, split_parts}
use Rattle.std.proofs.lemmas.Bool.{cases_eq, ne_eqb}
use Rattle.std.proofs.lemmas.Option.{same_Some}
use Rattle.std.specs.Str.Parse.{AllDigits, digits_value, ParsesUnsigned}
use Rattle.std.specs.Result.{result_ok}
use Rattle.std.specs.Int.{IsInRange}
use Rattle.script.specs.Reading.{led, Leads, parted, Parts, Plain, Reads}

own : IsNumeralModel (AllDigits 10) (digits_value 10)
own = numerals_by_value _ tells_digits

-- a decimal begins with a digit, and with a nought only where that is all
plain_decimal : (n : ℕ) → n < 2 ^ 64 → Plain (decimal n)
plain_decimal n h = (
  (λ e. omega (arith, digit_at (decimal n) 0 (digits_decimal own n h) (decimal_nonempty n h))),
  λ e. elim (cases_eq n 0) [
    | inl z ↦ rw (z, decimal_digit 0 (omega arith)) (omega arith)
    | inr z ↦ absurd (omega (arith, first_decimal n (omega arith) h))
  ],
)

pub not_plain : (bs : List ℕ) → (Plain bs → ⊥) → Reads (λ n. n < 2 ^ 64) decimal bs None
not_plain bs p = record { all = λ n h e. absurd (p (rw e (plain_decimal n h))); only = tt }

pub parsed : (E : Type 0) (bs : List ℕ) (r : Result ℕ E) → Plain bs → ParsesUnsigned 64 10 bs r → Reads (λ n. n < 2 ^ 64) decimal bs (result_ok r)
parsed E bs (Ok x) p h =
    let q = parse_plain own {E = E} 64 bs (Ok x) h p.0 in
    record {
      all = λ n l e. ap (result_ok {E = E}) (parse-decimal {E = E} 64 n bs (Ok x) l l e h);
      only = rw q.1 (q.0.2, sym (decimal-digits_value own bs q.0.0 q.0.1 (λ e. omega (arith, p.1 e, q.0.1)) q.0.2));
    }
parsed E bs (Err y) p h = record { all = λ n l e. ap (result_ok {E = E}) (parse-decimal {E = E} 64 n bs (Err y) l l e h); only = tt }

-- a text with no space in it
abbrev Solid : List ℕ → Type 0
Solid bs = (i : ℕ) → i < length bs → get_or bs i 0 ≡ 32 → ⊥

solid_rest : (b : ℕ) (bs : List ℕ) → Solid (b ∷ bs) → Solid bs
solid_rest b bs f = λ i h. f (suc i) (suc-le-suc h)

not_space : (b : ℕ) (bs : List ℕ) → Solid (b ∷ bs) → eqb b 32 ≡ false
not_space b bs f = ne_eqb b 32 (f 0 (omega arith))

parted_none : (bs : List ℕ) → Solid bs → parted bs ≡ None
parted_none [] f = refl
parted_none (b ∷ bs) f = rw (not_space b bs f, parted_none bs (solid_rest b bs f)) refl

parted_some : (w rest : List ℕ) → Solid w → parted (w ++ 32 ∷ rest) ≡ Some (w, rest)
parted_some [] rest f = refl
parted_some (b ∷ w) rest f = rw (not_space b w f, parted_some w rest (solid_rest b w f)) refl

pub split : (bs : List ℕ) (r : Option (Bor (List ℕ) × Bor (List ℕ))) → IsSplitOnceResult 32 bs r → Parts bs r
split bs None s = record { are = sym (parted_none bs (split_parts 32 bs None s (omega arith))); whole = tt }
split bs (Some p) s =
    let q = split_parts 32 bs (Some p) s (omega arith) in
    record { are = sym (rw q.0 (parted_some p.0.now p.1.now q.1)); whole = q.0 }

parted_led : (n : ℕ) (rest : List ℕ) → n < 2 ^ 64 → parted (led n rest) ≡ Some (decimal n, rest)
parted_led n rest h = parted_some (decimal n) rest (not_in_digits own (decimal n) 32 (digits_decimal own n h) (λ (d : IsInRange 48 57 32). omega arith))

pub not_led : (bs : List ℕ) → Parts bs None → Leads bs None
not_led bs s = record { all = λ n rest h e. let p = s.are ∙ ap parted e ∙ parted_led n rest h in cc; only = tt }

parts_of_led : (n : ℕ) (bs text : List ℕ) (w rest : Bor (List ℕ)) → n < 2 ^ 64 → Parts bs (Some (w, rest)) → bs ≡ led n text → (w.now ≡ decimal n) × (rest.now ≡ text)
parts_of_led n bs text w rest h s e = let q = same_Some _ _ (s.are ∙ ap parted e ∙ parted_led n text h) in (ap (λ t. t.0) q, ap (λ t. t.1) q)

pub not_led_by : (bs : List ℕ) (w rest : Bor (List ℕ)) → Parts bs (Some (w, rest)) → Reads (λ n. n < 2 ^ 64) decimal w.now None → Leads bs None
not_led_by bs w rest s r = record {
  all = λ n text h e. let z = r.all n h (parts_of_led n bs text w rest h s e).0 in cc;
  only = tt;
}

pub led_by : (bs : List ℕ) (m : ℕ) (w rest : Bor (List ℕ)) → Parts bs (Some (w, rest)) → Reads (λ n. n < 2 ^ 64) decimal w.now (Some m) → Leads bs (Some (m, rest))
led_by bs m w rest s r = record {
  all = λ n text h e. let q = parts_of_led n bs text w rest h s e in let z = r.all n h q.0 in (cc, q.1);
  only = (r.only.0, s.whole ∙ ap (λ (t : List ℕ). t ++ 32 ∷ rest.now) r.only.1);
}
