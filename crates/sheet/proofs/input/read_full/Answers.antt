-- A read's bytes stand behind those that came before it, and the reader lost them next.
use Rattle.std.proofs.Common.{◌≡◌, ℕ, ◌+◌, ◌-◌, ◌≤◌, List, ◌++◌, arith, length, take, slice_range, sym, ap, ◌∙◌, subst, le_refl, drop_at, length-take-le, rules, append_assoc}
use Rattle.std.proofs.lemmas.Slice.{take-put_mid_below}
use Rattle.std.specs.Prelude.{Option, None, Some}
use Rattle.std.specs.Io.KnownBytes.{Consumes}
use borrow.Rule.Slice.PartMut.{put_mid, post_of}
use lib.Seq.{take-add, take-append-le}
use Rattle.sheet.proofs.input.read_full.Goals as goal

-- bytes lost, and then more of them
consumed_then : (xs ys zs : Option (List ℕ)) (bs cs : List ℕ) → Consumes xs ys bs → Consumes ys zs cs → Consumes xs zs (bs ++ cs)
consumed_then None ys zs bs cs p q = p
consumed_then (Some xs) None zs bs cs p q = elim p [ ]
consumed_then (Some xs) (Some ys) None bs cs p q = elim q [ ]
consumed_then (Some xs) (Some ys) (Some zs) bs cs p q = p ∙ ap (λ l. bs ++ l) q ∙ sym (append_assoc bs cs zs)

take_split : (a b : ℕ) (old new : List ℕ) → a ≤ b → take a new ≡ take a old → take a old ++ slice_range new a b ≡ take b new
take_split a b old new h front =
    let same : a + (b - a) ≡ b = omega arith in
    ap (λ l. l ++ slice_range new a b) (sym front) ∙ sym (take-add a (b - a) new) ∙ ap (λ n. take n new) same

slice_range-put_mid : (a k n : ℕ) (xs ys : List ℕ) → a ≤ length xs → n ≤ length ys → slice_range (put_mid a k xs ys) a (a + n) ≡ take n ys
slice_range-put_mid a k n xs ys within fits =
    let same : (a + n) - a ≡ n = omega arith in
    let after = post_of a k xs in
    ap (take ((a + n) - a)) (drop_at (take a xs) (ys ++ after) a (length-take-le a xs within)) ∙ ap (λ m. take m (ys ++ after)) same ∙ take-append-le n ys after fits

pub loop-came-preserved : goal.loop-came-preserved
loop-came-preserved g c =
    let from = c.loop-came.came in
    let size = c.in_ok-size.size in
    let room = length c.loop-came.buffer - from in
    let within = c.loop-came.invariant.within in
    let part = slice_range-put_mid from room size c.loop-came.buffer c.read.new.buf within c.in_ok-size.ensures.bound.0 in
    let joined = take_split from (from + size) c.loop-came.buffer (put_mid from room c.loop-came.buffer c.read.new.buf) (omega arith) (take-put_mid_below _ _ _ _ _ (le_refl _) within) in
    record {
      within = search rules;
      consumed = subst (Consumes _ _) (ap (λ l. take from c.loop-came.buffer ++ l) (sym part) ∙ joined)
          (consumed_then _ _ _ _ _ c.loop-came.invariant.consumed c.in_ok-size.ensures.bytes.0);
    }
