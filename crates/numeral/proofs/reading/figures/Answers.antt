use Rattle.std.proofs.Common.{◌≡◌, ◌+◌, ◌-◌, ◌*◌, ◌<◌, true, length, get_or, drop, Some, sym, ap, ◌∙◌, arith, rules}
use Rattle.numeral.proofs.Figures.{Unled, digits_more, figure_empty, figure_is, figure_led, figure_not_digits, figure_overflow, plain_from, value_more}
use Rattle.numeral.proofs.reading.figures.Goals as goal
use Rattle.numeral.proofs.reading.figures.Goals.{in_default, in_default-2}
use Rattle.numeral.specs.Numerals.{value_after}
use Rattle.std.proofs.lemmas.List.{drop_all}
use Rattle.std.proofs.lemmas.Bool.{and_left}
use Rattle.std.specs.Str.{all_ascii_digits}

pub returns-in-empty : goal.returns-in-empty
returns-in-empty c = sym (figure_empty c.args.digits.now (search rules))

pub returns-in-empty-2 : goal.returns-in-empty-2
returns-in-empty-2 c = sym (figure_led c.args.digits.now (search rules) (search rules))

pub returns-then-not-is_ascii_digit : goal.returns-then-not-is_ascii_digit
returns-then-not-is_ascii_digit c =
    let ds = c.args.digits.now in
    let i = c.loop-digit.digit-index in
    let more = digits_more ds i c.loop-digit-test.true in
    let other = and_left _ (all_ascii_digits (drop (i + 1) ds)) (sym c.if-not-is_ascii_digit.ensures.value) in
    sym (figure_not_digits ds (sym c.loop-digit.invariant.1 ∙ more ∙ other))

pub returns-in_err-checked_mul : goal.returns-in_err-checked_mul
returns-in_err-checked_mul c =
    c.from_residual.ensures
    ∙ sym (figure_overflow c.args.digits.now c.loop-digit.digit-index c.loop-digit.number
    c.loop-digit-test.true c.loop-digit.invariant.0 (omega (arith, c.in_err-checked_mul.ensures)))

pub returns-in_err-number : goal.returns-in_err-number
returns-in_err-number c =
    c.from_residual-in_err-number.ensures
    ∙ sym (figure_overflow c.args.digits.now c.loop-digit.digit-index c.loop-digit.number
    c.loop-digit-test.true c.loop-digit.invariant.0
    (omega (arith, c.in_err-number.ensures, c.in_ok-checked_mul.ensures)))

pub loop-digit-preserved : goal.loop-digit-preserved
loop-digit-preserved c =
    let ds = c.args.digits.now in
    let i = c.loop-digit.digit-index in
    let sum = c.in_ok-number.ensures in
    let number : c.in_ok-number.number ≡ c.loop-digit.number * 10 + (get_or ds i 0 - 48)
    = omega (arith, c.in_ok-checked_mul.ensures) in
    let value = value_more ds i c.loop-digit.number c.loop-digit-test.true in
    let digit = c.if-not-is_ascii_digit.ensures.value in
    let digits : all_ascii_digits (drop i ds) ≡ all_ascii_digits (drop (i + 1) ds)
    = rw (sym digit) at (digits_more ds i c.loop-digit-test.true) in (
      ap (λ n. value_after n (drop (i + 1) ds)) number ∙ sym value ∙ c.loop-digit.invariant.0,
      sym digits ∙ c.loop-digit.invariant.1,
      omega arith,
    )

pub returns : goal.returns
unfolding value_after
returns c =
    let ds = c.args.digits.now in
    let number = c.loop-digit.number in
    let end = drop_all c.loop-digit.digit-index ds c.loop-digit-test.false in
    let value : value_after 0 ds ≡ number = sym c.loop-digit.invariant.0 ∙ ap (value_after number) end in
    let all : all_ascii_digits ds ≡ true = sym c.loop-digit.invariant.1 ∙ ap all_ascii_digits end in
    let some : 0 < length ds = search rules in
    let unled : Unled ds = elim c.if-digits-lt2.branch [ in_default w ↦ λ led. search rules | in_default-2 w ↦ λ led. absurd (search rules) ] in
    sym (figure_is ds (plain_from ds all some unled) (omega arith) ∙ ap Some value)
