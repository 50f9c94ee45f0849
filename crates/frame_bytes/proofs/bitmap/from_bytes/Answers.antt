-- `frame_bytes::bitmap::from_bytes` meets its contract: the front of the bytes is put at the front of eight zeros.
use mathlib.Core.Path.{sym, ◌∙◌}
use native.Mathlib.Omega.{arith}
use lib.Seq.{length-take-le}
use Rattle.frame.proofs.BitMaps.{map_put}
use Rattle.frame_bytes.proofs.bitmap.from_bytes.Goals as goal

pub slice_bounds-put_bytes-end-2 : goal.slice_bounds-put_bytes-end-2
slice_bounds-put_bytes-end-2 c = sym (length-take-le _ _ c.requires.1)

pub put_bytes-requires : goal.put_bytes-requires
put_bytes-requires c = rw (length-take-le _ _ c.requires.1) (omega arith)

pub returns : goal.returns
returns c = c.put_bytes.ensures.memory ∙ map_put c.args.len c.args.bytes.now c.requires.1
