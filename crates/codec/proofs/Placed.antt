-- Bytes put to their place: the length stays, and what was put one after the other was put at once.
use mathlib.Core.Path.{◌≡◌, refl, sym, ap, ◌∙◌}
use mathlib.Core.List.{List, [], ◌∷◌, ◌++◌, append_assoc, append-nil}
use Prim.Native.Nat.{ℕ, suc, ◌+◌, ◌<◌, ◌≤◌}
use native.Mathlib.Nat.{zero-add, add-zero, add_assoc}
use native.Mathlib.Numerals.{add-one}
use native.Mathlib.Omega.{arith}
use lib.ListN.{length, get_or, set, take, drop, length-append, length-drop, take-append-drop}
use lib.Seq.{length-take-le, take-suc, set_at, append_snoc, take_at, drop-append-add, drop-drop, sets, sets-eq}
use Rattle.codec.specs.Placed.{placed, Put}

front_length : (at : ℕ) (new old : List ℕ) → at ≤ length old → length (take at old ++ new) ≡ at + length new
front_length at new old h = length-append (take at old) new ∙ ap (λ (k : ℕ). k + length new) (length-take-le at old h)

-- the length stays
pub placed_length : (at : ℕ) (new old : List ℕ) → at + length new ≤ length old → length (placed at new old) ≡ length old
unfolding placed
placed_length at new old h =
    let before = front_length at new old (omega arith) in
    let after = length-drop (at + length new) old in
    length-append (take at old ++ new) (drop (at + length new) old) ∙ omega arith

pub placed_none : (at : ℕ) (old : List ℕ) → placed at [] old ≡ old
unfolding placed
placed_none at old = rw (append-nil (take at old), add-zero) (take-append-drop at old)

-- at the front
pub placed_front : (new old : List ℕ) → placed 0 new old ≡ new ++ drop (length new) old
unfolding placed
placed_front new old = rw zero-add

-- one behind the other
pub placed_next :
    (at : ℕ) (a b old : List ℕ) → at ≤ length old
    → placed (at + length a) b (placed at a old) ≡ placed at (a ++ b) old
unfolding placed
placed_next at a b old h =
    let front = take at old ++ a in
    let rest = drop (at + length a) old in
    let before : length front ≡ at + length a = front_length at a old h in
    let taken : take (at + length a) (front ++ rest) ≡ front = take_at front rest (at + length a) before in
    let dropped : drop (at + length a + length b) (front ++ rest) ≡ drop (at + (length a + length b)) old =
    ap (λ (k : ℕ). drop (k + length b) (front ++ rest)) (sym before) ∙ drop-append-add front rest (length b)
    ∙ drop-drop (length b) (at + length a) old ∙ ap (λ (k : ℕ). drop k old) (add_assoc at (length a) (length b)) in
    rw (taken, dropped, length-append, append_assoc (take at old) a b)

-- one before the others
pub placed_before :
    (at v : ℕ) (new old : List ℕ) → at + 1 + length new ≤ length old → set (placed (at + 1) new old) at v ≡ placed at (v ∷ new) old
unfolding placed
placed_before at v new old h =
    let place : at + 1 + length new ≡ at + suc (length new) = omega arith in
    let rest = new ++ drop (at + suc (length new)) old in
    rw (place, add-one, take-suc old at 0 (omega arith), append_assoc, append_snoc)
    (set_at (take at old) (get_or old at 0) rest v at (length-take-le at old (omega arith)))
    ∙ sym (append_assoc (take at old) (v ∷ new) (drop (at + suc (length new)) old))

-- a run of stores
pub placed_stores : (at : ℕ) (new old : List ℕ) → at + length new ≤ length old → sets old at new ≡ placed at new old
unfolding placed
placed_stores at new old h = sets-eq new old at h

-- a part of the same length, lent and filled
pub placed_part :
    (at k : ℕ) (new old : List ℕ) → k ≡ length new → take at old ++ (new ++ drop k (drop at old)) ≡ placed at new old
unfolding placed
placed_part at k new old e = rw (e, drop-drop (length new) at old, append_assoc (take at old) new) refl

-- ---- with the place behind

-- one byte
pub put_byte : (at b : ℕ) (xs : List ℕ) → at < length xs → Put at (b ∷ []) xs (set xs at b) (at + 1)
put_byte at b xs h = record { memory = placed_stores at (b ∷ []) xs (omega arith); end = refl }

-- bytes behind bytes
pub put_then :
    {at r s : ℕ} {a b xs ys zs : List ℕ} → at ≤ length xs → Put at a xs ys r → Put r b ys zs s → Put at (a ++ b) xs zs s
put_then {at} {r} {s} {a} {b} {xs} {ys} {zs} h p q =
    record {
      memory = q.memory ∙ rw (p.memory, p.end) (placed_next at a b xs h);
      end = omega (arith, q.end, p.end, length-append a b);
    }
