-- What read, write and seal come to: refused by the first check that fails, of the sizes or of what comes after them, or done. Last,
-- what holds where a call told how many values there are.
use mathlib.Core.Path.{◌≡◌, refl, sym, ap, ap₂, ◌∙◌}
use mathlib.Core.List.{List}
use Prim.Native.Nat.{ℕ, ◌*◌, ◌≤◌}
use native.Mathlib.Omega.{arith}
use lib.IntN.{ℤ}
use lib.ListN.{length}
use Rattle.checks.specs.declared.Refusal.{Refusal}
use Rattle.checks.specs.Largest.{FrameSize, WordCount}
use Rattle.checks.specs.Prime.{IsModulus}
use Rattle.checks.specs.Refusal.{IsRefusal}
use Rattle.checks.specs.Told.{results}
use Rattle.checks.specs.Outcome.{Outcome, outcome, untouched}
use Rattle.checks.specs.declared.Refusal.TheVariants.{Length, Number}
use Rattle.checks.specs.InOrder.{passed, ◌else◌, ◌⨾◌, then_checks, AllHold, FirstFailing}
use Rattle.checks.specs.Decide.{long?}
use Rattle.checks.specs.Sizes.{frame_sizes}
use Rattle.checks.proofs.Refusals.{refusal_number_lem}
use Rattle.checks.proofs.InOrder.{none_left, in_order_done, in_order_refused, in_order_elim, in_order_accepted, in_order_map, in_order_then}
use Rattle.checks.proofs.InOrder.{fails_here, hold_and_then, fails_in_front, fails_then, ◌and_then◌, ◌then◌}
use Rattle.words.specs.Words.{Below}
use Rattle.frame.specs.Format.{frame_of}
use Rattle.frame.specs.Reading.{frame_checks, Found, accepted, rejected, read_frame}
use Rattle.frame.specs.Sealing.{sealed}
use Rattle.frame.specs.Calls.{read_outcome, read_rest, read_checks, read_call, write_rest, written, write_checks, write_call}
use Rattle.frame.specs.Calls.{seal_rest, seal_checks, seal_call}

-- the checks of a modulus, a size and a number of words hold
pub sizes_hold : (p n s : ℕ) → IsModulus p → FrameSize n → WordCount s → AllHold (frame_sizes p n s)
sizes_hold p n s ok size words = ok and_then size and_then words and_then none_left

module _ (p n s : ℕ) (bytes xs vs : List ℕ) where
  pub read_no_sizes : {k : Refusal} → FirstFailing (frame_sizes p n s) k → untouched (xs, vs) k ≡ read_call p n s bytes xs vs
  unfolding read_call
  read_no_sizes f = sym (in_order_refused _ _ (fails_in_front (frame_sizes p n s) (λ _. read_rest p n s bytes xs vs) f))

  module _ (sizes : AllHold (frame_sizes p n s)) where
    pub read_refused : {k : Refusal} → FirstFailing (read_rest p n s bytes xs vs) k → untouched (xs, vs) k ≡ read_call p n s bytes xs vs
    unfolding read_call
    read_refused f = sym (in_order_refused _ _ (fails_then (frame_sizes p n s) (λ _. read_rest p n s bytes xs vs) sizes (λ _. f)))

    -- past the lengths it comes to what reading the frame itself finds
    pub read_done : length xs ≡ n → length vs ≡ s → read_outcome s (xs, vs) (read_frame p n s bytes) ≡ read_call p n s bytes xs vs
    unfolding read_call read_frame read_outcome
    read_done l m =
        in_order_map (read_outcome s (xs, vs)) (frame_checks p n s bytes) _ _
        ∙ sym
        (in_order_then (then_checks (frame_sizes p n s) (λ _. long? xs n else Length ⨾ long? vs s else Length ⨾ passed)) (frame_checks p n s bytes) _
        (untouched (xs, vs))
        ∙ in_order_done _ _ _
        (hold_and_then {cs = frame_sizes p n s} {more = λ _. long? xs n else Length ⨾ long? vs s else Length ⨾ passed} sizes
        (λ _. l and_then m and_then none_left)) (λ _. refl))

module _ (p n s : ℕ) (xs vs lent : List ℕ) where
  pub write_no_sizes : {k : Refusal} → FirstFailing (frame_sizes p n s) k → untouched lent k ≡ write_call p n s xs vs lent
  unfolding write_call
  write_no_sizes f = sym (in_order_refused _ _ (fails_in_front (frame_sizes p n s) (λ _. write_rest p n s xs vs lent) f))

  module _ (sizes : AllHold (frame_sizes p n s)) where
    pub write_refused : {k : Refusal} → FirstFailing (write_rest p n s xs vs lent) k → untouched lent k ≡ write_call p n s xs vs lent
    unfolding write_call
    write_refused f = sym (in_order_refused _ _ (fails_then (frame_sizes p n s) (λ _. write_rest p n s xs vs lent) sizes (λ _. f)))

    pub write_done : AllHold (write_rest p n s xs vs lent) → written (frame_of p n xs vs) lent ≡ write_call p n s xs vs lent
    unfolding write_call
    write_done a =
        sym (in_order_done _ _ _ (hold_and_then {cs = frame_sizes p n s} {more = λ _. write_rest p n s xs vs lent} sizes (λ _. a)) (λ _. refl))

module _ (p n s low : ℕ) (zs : List ℤ) (xs lent : List ℕ) where
  pub seal_no_sizes : {k : Refusal} → FirstFailing (frame_sizes p n s) k → untouched lent k ≡ seal_call p n s low zs xs lent
  unfolding seal_call
  seal_no_sizes f = sym (in_order_refused _ _ (fails_in_front (frame_sizes p n s) (λ _. seal_rest p n s low zs xs lent) f))

  module _ (sizes : AllHold (frame_sizes p n s)) where
    pub seal_refused : {k : Refusal} → FirstFailing (seal_rest p n s low zs xs lent) k → untouched lent k ≡ seal_call p n s low zs xs lent
    unfolding seal_call
    seal_refused f = sym (in_order_refused _ _ (fails_then (frame_sizes p n s) (λ _. seal_rest p n s low zs xs lent) sizes (λ _. f)))

    pub seal_done : AllHold (seal_rest p n s low zs xs lent) → outcome (results s) (sealed p n s zs xs) ≡ seal_call p n s low zs xs lent
    unfolding seal_call
    seal_done a =
        sym (in_order_done _ _ _ (hold_and_then {cs = frame_sizes p n s} {more = λ _. seal_rest p n s low zs xs lent} sizes (λ _. a)) (λ _. refl))

    -- "An L of p or more is 4, before the records in sealing" (02, #106): whatever the records
    pub seal_low_refused : length zs ≡ n * s → length xs ≡ n → length lent ≡ s → Below p xs → p ≤ low
        → seal_call p n s low zs xs lent ≡ untouched lent Number
    seal_low_refused h l m b large = sym (seal_refused (h then l then m then b then fails_here (λ c. omega (arith, c))))

-- ---- "All else is accepted"

pub read_accepted : (p n s : ℕ) (bytes xs vs : List ℕ) → AllHold (read_checks p n s bytes xs vs)
    → IsRefusal (read_call p n s bytes xs vs).told.number → ⊥
unfolding read_call
read_accepted p n s bytes xs vs all =
    in_order_accepted _ _ (λ (o : Outcome (List ℕ × List ℕ)). IsRefusal o.told.number → ⊥) all (λ hs h. omega arith)

pub write_accepted : (p n s : ℕ) (xs vs lent : List ℕ) → AllHold (write_checks p n s xs vs lent)
    → IsRefusal (write_call p n s xs vs lent).told.number → ⊥
unfolding write_call
write_accepted p n s xs vs lent all =
    in_order_accepted _ _ (λ (o : Outcome (List ℕ)). IsRefusal o.told.number → ⊥) all (λ hs h. omega arith)

pub seal_accepted : (p n s low : ℕ) (zs : List ℤ) (xs lent : List ℕ) → AllHold (seal_checks p n s low zs xs lent)
    → IsRefusal (seal_call p n s low zs xs lent).told.number → ⊥
unfolding seal_call
seal_accepted p n s low zs xs lent all =
    in_order_accepted _ _ (λ (o : Outcome (List ℕ)). IsRefusal o.told.number → ⊥) all (λ hs h. omega arith)

-- ---- from what a call told

-- the values that seal left, where it told how many there are, are the sealed values
pub seal_told_lem : (p n s low : ℕ) (zs : List ℤ) (xs lent vs : List ℕ) → seal_call p n s low zs xs lent ≡ outcome (results s) vs
    → vs ≡ sealed p n s zs xs
unfolding seal_call
seal_told_lem p n s low zs xs lent vs =
    in_order_elim _ _ (λ (o : Outcome (List ℕ)). o ≡ outcome (results s) vs → vs ≡ sealed p n s zs xs)
    (λ hs e. sym (ap (λ (o : Outcome (List ℕ)). o.lent) e))
    (λ k _ e. absurd (omega (arith, refusal_number_lem k, ap (λ (o : Outcome (List ℕ)). o.told.number) e)))

-- what read told and left, where the sizes hold and n multipliers and s values were lent: what reading found
pub read_told : (p n s : ℕ) (bytes multipliers values xs vs : List ℕ) → AllHold (frame_sizes p n s) → length multipliers ≡ n → length values ≡ s
    → read_call p n s bytes multipliers values ≡ outcome (results s) (xs, vs) → read_frame p n s bytes ≡ accepted xs vs
unfolding read_outcome
read_told p n s bytes multipliers values xs vs sizes long values_long e =
    go (read_frame p n s bytes) (read_done p n s bytes multipliers values sizes long values_long ∙ e)
  where
    go : (f : Found) → read_outcome s (multipliers, values) f ≡ outcome (results s) (xs, vs) → f ≡ accepted xs vs
    go (accepted ys us) q =
        ap₂ accepted (ap (λ (o : Outcome (List ℕ × List ℕ)). o.lent.0) q) (ap (λ (o : Outcome (List ℕ × List ℕ)). o.lent.1) q)
    go (rejected k) q = absurd (omega (arith, refusal_number_lem k, ap (λ (o : Outcome (List ℕ × List ℕ)). o.told.number) q))

-- and the other way round
pub read_as_told : (p n s : ℕ) (bytes multipliers values xs vs : List ℕ) → AllHold (frame_sizes p n s) → length multipliers ≡ n → length values ≡ s
    → read_frame p n s bytes ≡ accepted xs vs → read_call p n s bytes multipliers values ≡ outcome (results s) (xs, vs)
unfolding read_outcome
read_as_told p n s bytes multipliers values xs vs sizes long values_long e =
    sym (read_done p n s bytes multipliers values sizes long values_long) ∙ ap (read_outcome s (multipliers, values)) e
