use Rattle.std.proofs.Common.{◌≡◌, ◌+◌, ◌*◌, Some, [], drop, get_or, arith, ap, sym, ◌∙◌}
use Rattle.nb_script.proofs.Common.{digit_value, digits_value, digits_value_after, drop_all}
use Rattle.nb_script.proofs.Numbers.{worth, more_digits, next_digit, fitting, too_large}
use Rattle.nb_script.proofs.words.value.Goals as goal

pub loop-b-preserved : goal.loop-b-preserved
loop-b-preserved c =
    let ds = c.args.digits.now in
    let i = c.loop-b.b-index in
    let digit = worth (get_or ds i 0) (c.requires i 0 (omega arith)) in
    let next : c.in_ok-value.value ≡ c.loop-b.value * 10 + digit_value (get_or ds i 0) = omega (arith, c.in_ok-value.ensures, c.in_ok-checked_mul.ensures, c.from.ensures, digit.0) in
    record {
      fits = omega (arith, c.in_ok-value.ensures);
      reads = ap (λ n. digits_value_after 10 n (drop (i + 1) ds)) next ∙ sym (next_digit c.loop-b.value i ds (omega arith)) ∙ c.loop-b.invariant.reads;
    }

pub returns-in_err-checked_mul : goal.returns-in_err-checked_mul
returns-in_err-checked_mul c =
    let ds = c.args.digits.now in
    let i = c.loop-b.b-index in
    let step = next_digit c.loop-b.value i ds (omega arith) in
    let more = more_digits (c.loop-b.value * 10 + digit_value (get_or ds i 0)) (drop (i + 1) ds) in
    let reads = c.loop-b.invariant.reads in
    c.from_residual.ensures ∙ sym (too_large ds (omega (arith, c.in_err-checked_mul.ensures)))

pub returns-in_err-value : goal.returns-in_err-value
returns-in_err-value c =
    let ds = c.args.digits.now in
    let i = c.loop-b.b-index in
    let digit = worth (get_or ds i 0) (c.requires i 0 (omega arith)) in
    let step = next_digit c.loop-b.value i ds (omega arith) in
    let more = more_digits (c.loop-b.value * 10 + digit_value (get_or ds i 0)) (drop (i + 1) ds) in
    let reads = c.loop-b.invariant.reads in
    c.from_residual-in_err-value.ensures ∙ sym (too_large ds (omega (arith, c.in_err-value.ensures, c.in_ok-checked_mul.ensures, c.from.ensures, digit.0)))

pub returns : goal.returns
returns c =
    let ds = c.args.digits.now in
    let all : drop c.loop-b.b-index ds ≡ [] = drop_all c.loop-b.b-index ds (omega arith) in
    let same : c.loop-b.value ≡ digits_value 10 ds = sym (ap (digits_value_after 10 c.loop-b.value) all) ∙ c.loop-b.invariant.reads in
    ap (λ n. Some n) same ∙ sym (fitting ds (omega (arith, c.loop-b.invariant.fits)))
