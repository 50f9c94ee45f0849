-- `frame_bytes::reading::read_frame` meets its contract: each return is by the first check of the frame that fails, or all
-- hold and the multipliers and values are filled in.
use mathlib.Core.Path.{◌≡◌, ap, ◌∙◌, subst}
use Prim.Native.Nat.{◌+◌, ◌*◌, ◌/◌, ◌≤◌}
use native.Mathlib.Omega.{arith}
use lib.ListN.{length, drop}
use Rattle.algebra.proofs.Answers.{guard_left, guard_taken}
use Rattle.checks.specs.Largest.{largest}
use Rattle.checks.specs.Sizes.{Judges}
use Rattle.checks.proofs.PassedOn.{refused_on}
use Rattle.frame.specs.Width.{width}
use Rattle.frame.specs.Format.{map_length}
use Rattle.frame.specs.Bitmap.{ClearFrom}
use Rattle.frame.specs.Reading.{numbers_in}
use Rattle.frame.proofs.Widths.{width_small, few_bytes}
use Rattle.frame.proofs.BitMaps.{standing_small}
use Rattle.frame_bytes.specs.Stages.{checks_from, multipliers_from}
use Rattle.frame_bytes.proofs.ReadChecks.{Mapped, Counted, frame_short, frame_padded, frame_other_length, frame_number, frame_good}
use Rattle.frame_bytes.proofs.ReadChecks.{count_records, multipliers_read, values_read, frame_refused, frame_accepted}
use Rattle.frame_bytes.proofs.reading.read_frame.Goals as goal
use Rattle.frame_bytes.proofs.reading.read_frame.Goals.{After-from_bytes-map, After-judged, After-width_of-w, Else-bytes-end, Else-not-unpadded}

-- past the first check the map holds the front of the frame
mapped : (c : After-from_bytes-map) → let a = c.args in
    Mapped a.n a.bytes.now c.from_bytes-map.result
unfolding map_length
mapped c = record { fits = c.if-bytes-len.false; built = c.from_bytes-map.ensures }

-- and its standing bits are counted
counted : (c : After-width_of-w) → (mapped : let a = c.args in
    Mapped a.n a.bytes.now c.from_bytes-map.result) → let a = c.args in
    Counted a.n a.bytes.now c.from_bytes-map.result c.standing-count.result
counted c mapped = record { mapped = mapped; small = c.requires.2; counted = c.standing-count.ensures }

-- no more than 64 numbers of at most four bytes, and no more than 16 values
narrow : (c : After-width_of-w) → c.width_of-w.result ≤ 4
narrow c = rw c.width_of-w.ensures (width_small _)

few : (c : After-width_of-w) → c.width_of-w.result * c.standing-count.result ≤ 256
few c = few_bytes _ _ (narrow c) (rw c.standing-count.ensures (standing_small _))

few-values : (c : After-width_of-w) → c.width_of-w.result * length c.args.values.now ≤ 256
few-values c = few_bytes _ _ (narrow c) (omega (arith, c.requires.4))

-- the bytes that the map tells, counted with the width
counted-bytes : (c : After-width_of-w) → let a = c.args in
    let k = c.standing-count.result in
    let s = length a.values.now in
    (a.n + 7) / 8 + c.width_of-w.result * k + c.width_of-w.result * s ≡ map_length a.n + width a.p * k + width a.p * s
unfolding map_length
counted-bytes c =
    let a = c.args in
    ap (λ w. (a.n + 7) / 8 + w * c.standing-count.result + w * length a.values.now) c.width_of-w.ensures

-- past the second check the frame is as long as its map tells
long : (c : Else-bytes-end) → (counted-bytes : let a = c.args in
    let k = c.standing-count.result in
    let s = length a.values.now in
    (a.n + 7) / 8 + c.width_of-w.result * k + c.width_of-w.result * s ≡ map_length a.n + width a.p * k + width a.p * s) → let a = c.args in
    length a.bytes.now ≡ map_length a.n + width a.p * c.standing-count.result + width a.p * length a.values.now
long c counted-bytes = omega (arith, c.if-bytes-end.false, counted-bytes)

-- past the third no bit stands at n or above
clear : (c : Else-not-unpadded) → ClearFrom c.args.n largest c.from_bytes-map.result
clear c = guard_left c.unpadded.ensures c.if-not-unpadded.false-raw

-- what judging answers, with numbers of the width
answered : (c : After-judged) → let a = c.args in
    Judges
    (checks_from a.p (width a.p) (length a.values.now) a.bytes.now (map_length a.n) c.standing-count.result)
    c.judged.result
unfolding map_length
answered c = rw c.width_of-w.ensures at c.judged.ensures

pub returns-then-bytes-len : goal.returns-then-bytes-len
unfolding map_length
returns-then-bytes-len c =
    let a = c.args in
    frame_refused _ _ _ _ _ (frame_short a.p a.n (length a.values.now) a.bytes.now c.if-bytes-len.true)

pub overflow_mul-end : goal.overflow_mul-end
overflow_mul-end c = omega (arith, few (goal.at.overflow_mul-end c).After-width_of-w)

pub overflow_add-end : goal.overflow_add-end
overflow_add-end c = omega (arith, few (goal.at.overflow_add-end c).After-width_of-w)

pub overflow_mul-w : goal.overflow_mul-w
overflow_mul-w c = omega (arith, few-values (goal.at.overflow_mul-w c).After-width_of-w)

pub overflow_add-end-2 : goal.overflow_add-end-2
overflow_add-end-2 c = omega (arith, few (goal.at.overflow_add-end-2 c).After-width_of-w, few-values (goal.at.overflow_add-end-2 c).After-width_of-w)

pub returns-then-bytes-end : goal.returns-then-bytes-end
returns-then-bytes-end c = frame_refused _ _ _ _ _ (frame_other_length _ _ _ _ _ _ (counted (goal.at.returns-then-bytes-end c).After-width_of-w (mapped (goal.at.returns-then-bytes-end c).After-from_bytes-map)) (λ e. c.if-bytes-end.true (omega (arith, e, counted-bytes (goal.at.returns-then-bytes-end c).After-width_of-w))))

pub returns-then-not-unpadded : goal.returns-then-not-unpadded
returns-then-not-unpadded c =
    let padded = guard_taken c.unpadded.ensures c.if-not-unpadded.true-raw in
    frame_refused _ _ _ _ _ (frame_padded _ _ _ _ _ _ (counted (goal.at.returns-then-not-unpadded c).After-width_of-w (mapped (goal.at.returns-then-not-unpadded c).After-from_bytes-map)) (long (goal.at.returns-then-not-unpadded c).Else-bytes-end (counted-bytes (goal.at.returns-then-not-unpadded c).After-width_of-w)) padded)

pub judged-requires : goal.judged-requires
judged-requires c = (narrow (goal.at.judged-requires c).After-width_of-w, c.if-bytes-end.false)

pub fill-requires : goal.fill-requires
fill-requires c =
    record {
      w_bound = (narrow (goal.at.fill-requires c).After-width_of-w, omega arith);
      map_in_bounds = rw (c.requires.3, ← (count_records c.args.p _ (length c.args.values.now) _ _ _ (counted (goal.at.fill-requires c).After-width_of-w (mapped (goal.at.fill-requires c).After-from_bytes-map)) (clear (goal.at.fill-requires c).Else-not-unpadded))) (omega (arith, c.if-bytes-end.false));
    }

pub fill_values-requires : goal.fill_values-requires
fill_values-requires c = (narrow (goal.at.fill_values-requires c).After-width_of-w, omega (arith, c.if-bytes-end.false))

pub overflow_cast-result : goal.overflow_cast-result
overflow_cast-result c = omega (arith, c.requires.4)

pub returns : goal.returns
unfolding map_length
returns c =
    let good = subst (Judges _) c.in_ok-judged.was (answered (goal.at.returns c).After-judged) in
    let a = c.args in
    let k = c.standing-count.result in
    let map = c.from_bytes-map.result in
    let wide = c.width_of-w.ensures in
    frame_accepted _ _ _ _ _ (frame_good _ _ _ _ _ _ (counted (goal.at.returns c).After-width_of-w (mapped (goal.at.returns c).After-from_bytes-map)) (clear (goal.at.returns c).Else-not-unpadded) (long (goal.at.returns c).Else-bytes-end (counted-bytes (goal.at.returns c).After-width_of-w)) good)
    (c.fill.ensures
    ∙ ap (λ m. multipliers_from c.width_of-w.result map a.bytes.now (map_length a.n) 0 m) c.requires.3
    ∙ ap (λ x. multipliers_from x map a.bytes.now (map_length a.n) 0 a.n) wide
    ∙ multipliers_read a.p _ (length a.values.now) _ _ _ (counted (goal.at.returns c).After-width_of-w (mapped (goal.at.returns c).After-from_bytes-map)))
    (c.fill_values.ensures
    ∙ ap (λ x. numbers_in x (length a.values.now) (drop (map_length a.n + x * k) a.bytes.now)) wide
    ∙ values_read a.p _ _ _ _ _ (counted (goal.at.returns c).After-width_of-w (mapped (goal.at.returns c).After-from_bytes-map)) (clear (goal.at.returns c).Else-not-unpadded))

pub returns-in_err-judged : goal.returns-in_err-judged
returns-in_err-judged c =
    let bad = subst (Judges _) c.in_err-judged.was (answered (goal.at.returns-in_err-judged c).After-judged) in
    rw (refused_on c.from_residual.result c.from_residual.ensures.1) (frame_refused _ _ _ _ _ (frame_number _ _ _ _ _ _ (counted (goal.at.returns-in_err-judged c).After-width_of-w (mapped (goal.at.returns-in_err-judged c).After-from_bytes-map)) (clear (goal.at.returns-in_err-judged c).Else-not-unpadded) (long (goal.at.returns-in_err-judged c).Else-bytes-end (counted-bytes (goal.at.returns-in_err-judged c).After-width_of-w)) bad))
