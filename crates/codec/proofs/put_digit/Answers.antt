-- `codec::put_digit` meets its contract: it is one byte put.
use Rattle.codec.specs.Decimal.{digit}
use Rattle.codec.proofs.Placed.{put_byte}
use Rattle.codec.proofs.put_digit.Goals as goal

pub returns : goal.returns
returns c = put_byte c.args.at (digit c.args.d) c.args.out.now c.requires.1
