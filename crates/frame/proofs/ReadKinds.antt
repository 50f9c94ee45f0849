-- The kinds that reading a frame can refuse by: 4, 6, 7 and 8, going through its list of checks. So what is to hold of whatever
-- reading finds need only be shown of multipliers and values, and of those four refusals: never of 9 or 11, say.
use mathlib.Core.List.{List, [], ◌∷◌}
use Prim.Native.Nat.{ℕ}
use native.Mathlib.Omega.{arith}
use Rattle.checks.specs.declared.Refusal.{Refusal}
use Rattle.checks.specs.InOrder.{EveryKind}
use Rattle.checks.proofs.InOrder.{in_order_elim, kind_of_list}
use Rattle.frame.specs.Reading.{frame_numbers, number_checks, frame_checks, ReadingKind, Found, accepted, rejected, read_frame}

number_kinds : (p : ℕ) (ns vs : List ℕ) → EveryKind ReadingKind (number_checks p ns vs)
number_kinds p [] vs = (omega arith, λ _. tt)
number_kinds p (x ∷ ns) vs = (omega arith, λ _. (omega arith, λ _. number_kinds p ns vs))

-- reading refuses by 4, 6, 7 or 8
pub reading_kinds : (p n s : ℕ) (bytes : List ℕ) → EveryKind ReadingKind (frame_checks p n s bytes)
reading_kinds p n s bytes = (omega arith, λ _. (omega arith, λ _. (omega arith, λ _. number_kinds p (frame_numbers p n bytes) _)))

-- so whatever holds of any multipliers and values, and of those refusals, holds of what is found
pub reading_elim :
    (Q : Found → Type 0) (p n s : ℕ) (bytes : List ℕ) → ((xs vs : List ℕ) → Q (accepted xs vs))
    → ((k : Refusal) → ReadingKind k → Q (rejected k)) → Q (read_frame p n s bytes)
unfolding read_frame
reading_elim Q p n s bytes a r =
    in_order_elim _ _ Q (λ _. a _ _) (λ k f. r k (kind_of_list ReadingKind (reading_kinds p n s bytes) f))
