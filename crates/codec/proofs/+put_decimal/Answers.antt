-- `codec::put_decimal` meets its contract: below 10 it puts the one digit, from 10 on what it puts of n / 10 and then the last digit.
use Rattle.std.proofs.Common.{◌≤◌, length, arith}
use Rattle.codec.proofs.Decimals.{decimal_one, decimal_more, digits_at_least, one_longer}
use Rattle.codec.proofs.Placed.{put_then}
use Rattle.codec.proofs.+put_decimal.Goals as goal

pub put_digit-requires : goal.put_digit-requires
put_digit-requires t c = let l = digits_at_least c.args.n in omega arith

pub returns-then-n-lt10 : goal.returns-then-n-lt10
returns-then-n-lt10 t c = rw (decimal_one c.args.n (omega arith)) c.put_digit.ensures

pub put_decimal-last-requires : goal.put_decimal-last-requires
put_decimal-last-requires t c = let l = one_longer c.args.n c.if-n-lt10.false in omega arith

pub put_digit-requires-2 : goal.put_digit-requires-2
put_digit-requires-2 t c =
    let l = one_longer c.args.n c.if-n-lt10.false in
    omega (arith, c.put_decimal-last.ensures.end, c.put_decimal-last.auto.out)

pub returns : goal.returns
returns t c =
    let l = one_longer c.args.n c.if-n-lt10.false in
    let inside : c.args.at ≤ length c.args.out.now = omega arith in
    rw (decimal_more c.args.n c.if-n-lt10.false) (put_then inside c.put_decimal-last.ensures c.put_digit-2.ensures)
