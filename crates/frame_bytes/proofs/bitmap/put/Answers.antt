-- `frame_bytes::bitmap::put` meets its contract: the front of the map is put at the front of the bytes.
use mathlib.Core.Path.{sym}
use Prim.Native.Nat.{◌≤◌}
use native.Mathlib.Omega.{arith}
use borrow.Author.Rules.{rules}
use lib.ListN.{length}
use lib.Seq.{length-take-le}
use Rattle.frame_bytes.proofs.bitmap.put.Goals as goal
use Rattle.frame_bytes.proofs.bitmap.put.Goals.{After-map-1}

long : (c : After-map-1) → c.args.len ≤ length c.args.map
long c = search rules

pub slice_bounds-put_bytes-end : goal.slice_bounds-put_bytes-end
slice_bounds-put_bytes-end c = sym (length-take-le _ _ (long (goal.at.slice_bounds-put_bytes-end c).After-map-1))

pub put_bytes-requires : goal.put_bytes-requires
put_bytes-requires c = rw (length-take-le _ _ (long (goal.at.put_bytes-requires c).After-map-1)) (omega arith)

pub returns : goal.returns
returns c = c.put_bytes.ensures.memory
