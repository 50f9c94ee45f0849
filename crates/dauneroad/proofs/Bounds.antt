-- The numbers that the calls tell fit what C gets, so that `200 + k` does: k is at most 64 for tables, boards and logs, 16 for reading and
-- sealing, and 328 for writing and relaying. Each call goes through its checks, and these laws go by whichever way.
use mathlib.Core.Path.{◌≡◌, sym, subst}
use mathlib.Core.List.{List}
use Prim.Native.Nat.{ℕ, ◌≤◌}
use native.Mathlib.Omega.{arith}
use lib.IntN.{ℤ}
use lib.ListN.{length}
use Rattle.algebra.proofs.Choice.{pick_elim}
use Rattle.algebra.proofs.Independent.{count_most}
use Rattle.checks.specs.declared.Refusal.{Refusal}
use Rattle.checks.specs.declared.Refusal.TheVariants.{Withdrawal}
use Rattle.checks.specs.Told.{refused}
use Rattle.checks.specs.Outcome.{Outcome}
use Rattle.checks.proofs.InOrder.{in_order_elim}
use Rattle.checks.proofs.Refusals.{refusal_number_lem}
use Rattle.matrix.specs.Calls.{solution, nearest_fit, quasiinverse_call, kernel_call, solve_call, fit_call, check_call}
use Rattle.matrix.proofs.Stored.{rank_most}
use Rattle.frame.specs.Format.{longest}
use Rattle.frame.specs.Calls.{read_call, write_call, seal_call}
use Rattle.frame.proofs.Lengths.{longest_frame}
use Rattle.ledger.specs.Ledger.{Ledger}
use Rattle.ledger.specs.Board.{modulus_word, size_word, values_word, entries_of, ledger_of, IsBoard}
use Rattle.ledger.specs.Calls.{withdraw_call, show_call}
use Rattle.ledger.proofs.LedgerSteps.{Withdrew, dropped, overlong, withdrew, Showed, answered, unshown, showed}
use Rattle.ledger.proofs.Parse.{words_count}
use Rattle.relay.specs.Calls.{relayed, ledger_relay, relay_call}
use Rattle.relay.proofs.RelayLaws.{relayed_most}
use Rattle.clash.specs.Calls.{clashing, clash_of, clash_call}
use Rattle.dauneroad.specs.Exports.{Small}

-- a refusal's number is small, and so is that of an outcome equal to a small one
small_refusal : (k : Refusal) → Small (refused k)
small_refusal k = omega (arith, refusal_number_lem k)

-- the outcome of a call, and of its code, which equals it
abbrev SmallOutcome : {M : Type 0} → Outcome M → Type 0
SmallOutcome o = Small o.told

carried : {M : Type 0} {o r : Outcome M} → SmallOutcome r → o ≡ r → SmallOutcome o
carried s e = subst SmallOutcome (sym e) s

-- ---- tables

module _ (p m n : ℕ) (a : List ℕ) where
  pub small_quasiinverse : (d columns rows : List ℕ) (o : Outcome (List ℕ × (List ℕ × List ℕ)))
      → o ≡ quasiinverse_call p m n a d columns rows → Small o.told
  unfolding quasiinverse_call
  small_quasiinverse d columns rows o =
      carried
      (in_order_elim _ _ SmallOutcome (λ hs. omega (arith, rank_most p hs.0 m n a, hs.1.0.1)) (λ k f. small_refusal k))

  pub small_kernel : (basis : List ℕ) (o : Outcome (List ℕ)) → o ≡ kernel_call p m n a basis → Small o.told
  unfolding kernel_call
  small_kernel basis o = carried (in_order_elim _ _ SmallOutcome (λ hs. omega (arith, hs.1.0.1)) (λ k f. small_refusal k))

  pub small_solve : (w z u : List ℕ) (o : Outcome (List ℕ × List ℕ)) → o ≡ solve_call p m n a w z u → Small o.told
  unfolding solve_call solution
  small_solve w z u o =
      carried
      (in_order_elim _ _ SmallOutcome
      (λ hs. pick_elim SmallOutcome _ _ _ (λ _. omega (arith, rank_most p hs.0 m n a, hs.1.0.1)) (λ _. omega arith))
      (λ k f. small_refusal k))

  pub small_fit : (w z rest : List ℕ) (o : Outcome (List ℕ × List ℕ)) → o ≡ fit_call p m n a w z rest → Small o.told
  unfolding fit_call nearest_fit
  small_fit w z rest o =
      carried
      (in_order_elim _ _ SmallOutcome (λ hs. omega (arith, rank_most p hs.0 m n a, hs.1.0.1)) (λ k f. small_refusal k))

  pub small_check : (d : List ℕ) (o : Outcome (Unit {0})) → o ≡ check_call p m n a d → Small o.told
  unfolding check_call
  small_check d o =
      carried
      (in_order_elim _ _ SmallOutcome (λ hs. omega (arith, rank_most p hs.0 m n a, hs.1.0.1)) (λ k f. small_refusal k))

-- ---- frames

module _ (p n s : ℕ) where
  pub small_read : (frame xs vs : List ℕ) (o : Outcome (List ℕ × List ℕ)) → o ≡ read_call p n s frame xs vs → Small o.told
  unfolding read_call
  small_read frame xs vs o = carried (in_order_elim _ _ SmallOutcome (λ hs. omega (arith, hs.1.1.0.1)) (λ k f. small_refusal k))

  pub small_write : (xs vs bytes : List ℕ) (o : Outcome (List ℕ)) → o ≡ write_call p n s xs vs bytes → Small o.told
  unfolding write_call longest
  small_write xs vs bytes o =
      carried
      (in_order_elim _ _ SmallOutcome
      (λ hs. omega (arith, hs.1.1.0.1, longest_frame p n s xs vs hs.1.1.1.0 hs.1.1.1.1.0 hs.1.0.1)) (λ k f. small_refusal k))

  pub small_seal : (low : ℕ) (zs : List ℤ) (xs vs : List ℕ) (o : Outcome (List ℕ)) → o ≡ seal_call p n s low zs xs vs → Small o.told
  unfolding seal_call
  small_seal low zs xs vs o = carried (in_order_elim _ _ SmallOutcome (λ hs. omega (arith, hs.1.1.0.1)) (λ k f. small_refusal k))

-- ---- boards

-- on a board at most 64 frames stand
entries_most : (ws : List ℕ) → IsBoard ws → length (ledger_of ws).entries ≤ 64
entries_most ws b = omega (arith, words_count ws, b.count, b.size.1)

withdrew_small : (l : Ledger) (t : ℕ) (r : Outcome Ledger) → length l.entries ≤ 64 → Withdrew l t r → Small r.told
withdrew_small l t r h (dropped s) = omega arith
withdrew_small l t r h overlong = small_refusal Withdrawal

pub small_withdraw : (ws : List ℕ) (t : ℕ) (o : Outcome (List ℕ)) → o ≡ withdraw_call ws t → Small o.told
unfolding withdraw_call
small_withdraw ws t o =
    carried
    (in_order_elim _ _ SmallOutcome (λ hs. withdrew_small (ledger_of ws) t _ (entries_most ws hs.0) (withdrew (ledger_of ws) t))
    (λ k f. small_refusal k))

showed_small : (n : ℕ) (l : Ledger) (r : Outcome (List ℕ × List ℤ)) → n ≤ 64 → Showed n l r → Small r.told
showed_small n l r h (answered lent) = omega arith
showed_small n l r h (unshown lent k e) = small_refusal k

pub small_show : (ws : List ℕ) (low : ℕ) (marks : List ℕ) (zs : List ℤ) (o : Outcome (List ℕ × List ℤ)) → o ≡ show_call ws low marks zs
    → Small o.told
unfolding show_call
small_show ws low marks zs o =
    carried
    (in_order_elim _ _ SmallOutcome
    (λ hs.
    showed_small (size_word ws) (ledger_of ws) _ hs.0.size.1
    (showed (modulus_word ws) hs.0.prime (size_word ws) (values_word ws) (ledger_of ws) low marks zs))
    (λ k f. small_refusal k))

pub small_relay : (ws wanted mix bytes : List ℕ) (o : Outcome (List ℕ × List ℕ)) → o ≡ relay_call ws wanted mix bytes → Small o.told
unfolding relay_call ledger_relay relayed longest
small_relay ws wanted mix bytes o =
    carried
    (in_order_elim _ _ SmallOutcome
    (λ hs.
    in_order_elim _ _ SmallOutcome
    (λ gs.
    omega (
      arith,
      relayed_most (modulus_word ws) hs.0.prime (size_word ws) (values_word ws) (entries_of ws) wanted gs.1.1.1.1.0.0 gs.0 hs.0.size.1,
      hs.0.words.1,
    ))
    (λ k f. small_refusal k))
    (λ k f. small_refusal k))

-- ---- logs

pub small_clash : (p m n s : ℕ) (log marks : List ℕ) (o : Outcome (List ℕ)) → o ≡ clash_call p m n s log marks → Small o.told
unfolding clash_call clash_of
small_clash p m n s log marks o =
    carried
    (in_order_elim _ _ SmallOutcome
    (λ hs.
    pick_elim SmallOutcome _ _ _ (λ _. omega arith) (λ _. omega (arith, count_most m (clashing p hs.0 m n s log), hs.1.0.0)))
    (λ k f. small_refusal k))
