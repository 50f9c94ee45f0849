-- `frame_bytes::writer::write_frame` meets its contract: the three steps leave what WriteFrame says of them.
use mathlib.Core.Path.{◌≡◌, ap, ◌∙◌}
use Prim.Native.Nat.{◌+◌, ◌*◌, ◌≤◌}
use native.Mathlib.Omega.{arith}
use lib.ListN.{length}
use Rattle.codec.specs.Placed.{placed}
use Rattle.frame.specs.Format.{map_length, longest, stands, map_bytes, packed, frame_in}
use Rattle.frame.specs.Bitmap.{standing, map_of, map_bits}
use Rattle.frame.proofs.Widths.{width_small, few_bytes}
use Rattle.frame.proofs.BitMaps.{standing_small}
use Rattle.frame_bytes.proofs.WriteFrame.{map_front, numbers_room, values_room, frame_written, frame_end}
use Rattle.frame_bytes.proofs.writer.write_frame.Goals as goal
use Rattle.frame_bytes.proofs.writer.write_frame.Goals.{After-put, After-put_multipliers, After-standing}

narrow : (c : After-standing) → c.width_of-w.result ≤ 4
narrow c = rw c.width_of-w.ensures (width_small _)

-- no more than 64 numbers of at most four bytes
few : (c : After-standing) → c.width_of-w.result * c.standing.result ≤ 256
few c = few_bytes _ _ (narrow c) (rw c.standing.ensures (standing_small _))

few-values : (c : After-standing) → c.width_of-w.result * length c.args.values.now ≤ 256
few-values c = few_bytes _ _ (narrow c) (omega (arith, c.requires.3))

counted : (c : After-standing) → c.standing.result ≡ standing (map_bits (map_of c.args.multipliers.now))
counted c = rw c.of-map.ensures at c.standing.ensures

-- the bytes with the map
mapped : (c : After-put) → let a = c.args in
    c.put.new.bytes ≡ placed 0 (map_bytes a.n (stands a.multipliers.now)) a.bytes.now
unfolding map_length
mapped c = rw (c.of-map.ensures, map_front c.args.n c.args.multipliers.now c.requires.1) at c.put.ensures

-- and with the multipliers
numbered : (c : After-put_multipliers) → (mapped : let a = c.args in
    c.put.new.bytes ≡ placed 0 (map_bytes a.n (stands a.multipliers.now)) a.bytes.now) → let a = c.args in
    c.put_multipliers.new.bytes
    ≡ placed (map_length a.n) (packed c.width_of-w.result a.multipliers.now) (placed 0 (map_bytes a.n (stands a.multipliers.now)) a.bytes.now)
unfolding map_length
numbered c mapped = rw (mapped) at c.put_multipliers.ensures

pub overflow_mul-end : goal.overflow_mul-end
overflow_mul-end c = omega (arith, few (goal.at.overflow_mul-end c).After-standing)

pub overflow_add-end : goal.overflow_add-end
overflow_add-end c = omega (arith, few (goal.at.overflow_add-end c).After-standing)

pub put-requires : goal.put-requires
unfolding longest
put-requires c = omega arith

pub put_multipliers-requires : goal.put_multipliers-requires
unfolding map_length
put_multipliers-requires c =
    let a = c.args in (
      omega arith,
      c.of-map.ensures,
      rw (mapped (goal.at.put_multipliers-requires c).After-put) (numbers_room _ a.n a.multipliers.now a.values.now (narrow (goal.at.put_multipliers-requires c).After-standing) c.requires.1 c.requires.2 a.bytes.now c.requires.4),
    )

pub put_values-requires : goal.put_values-requires
unfolding map_length
put_values-requires c =
    let a = c.args in
    rw (numbered (goal.at.put_values-requires c).After-put_multipliers (mapped (goal.at.put_values-requires c).After-put))
    (values_room _ a.n a.multipliers.now a.values.now (narrow (goal.at.put_values-requires c).After-standing) c.requires.1 c.requires.2 a.bytes.now c.requires.4 _ (counted (goal.at.put_values-requires c).After-standing))

pub overflow_mul-result : goal.overflow_mul-result
overflow_mul-result c = omega (arith, few-values (goal.at.overflow_mul-result c).After-standing)

pub overflow_add-result : goal.overflow_add-result
overflow_add-result c = omega (arith, few (goal.at.overflow_add-result c).After-standing, few-values (goal.at.overflow_add-result c).After-standing)

pub returns : goal.returns
unfolding map_length
returns c =
    let a = c.args in
    let xs = a.multipliers.now in
    let vs = a.values.now in
    let e = c.width_of-w.ensures in
    record {
      memory =
          rw (numbered (goal.at.returns c).After-put_multipliers (mapped (goal.at.returns c).After-put)) at c.put_values.ensures
          ∙ frame_written _ a.n xs vs (narrow (goal.at.returns c).After-standing) c.requires.1 c.requires.2 a.bytes.now c.requires.4 _ (counted (goal.at.returns c).After-standing)
          ∙ ap (λ k. placed 0 (frame_in k a.n xs vs) a.bytes.now) e;
      end =
          frame_end _ a.n xs vs (narrow (goal.at.returns c).After-standing) c.requires.1 c.requires.2 a.bytes.now c.requires.4 _ (counted (goal.at.returns c).After-standing)
          ∙ ap (λ k. 0 + length (frame_in k a.n xs vs)) e;
    }
