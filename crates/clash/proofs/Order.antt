-- 02, #109: "Order: 1, 2, 12, 3, 4", said of the call: 1 or 2 refuses whatever else is lent, then 12 whatever the lengths and numbers
-- are, then 3 whatever the numbers are, then 4, all with the marks untouched; all else is accepted, and comes to what is defined.
use mathlib.Core.Path.{◌≡◌, sym}
use mathlib.Core.List.{List}
use Prim.Native.Nat.{ℕ, ◌+◌, ◌*◌}
use native.Mathlib.Omega.{arith}
use lib.ListN.{length}
use Rattle.algebra.proofs.Choice.{pick_elim}
use Rattle.checks.specs.declared.Refusal.{Refusal}
use Rattle.checks.specs.declared.Refusal.TheVariants.{Size, Words, Length, Number}
use Rattle.checks.specs.Refusal.{IsRefusal}
use Rattle.checks.specs.Largest.{FrameSize, WordCount}
use Rattle.checks.specs.Prime.{IsModulus}
use Rattle.checks.specs.Outcome.{Outcome, untouched}
use Rattle.checks.specs.InOrder.{Given, AllHold, FirstFailing}
use Rattle.checks.specs.Sizes.{table_sizes}
use Rattle.checks.proofs.InOrder.{fails_here, ◌then◌, or_later, in_order_refused, in_order_accepted, in_order_done}
use Rattle.checks.proofs.TableSizes.{past_sizes, sizes_first}
use Rattle.words.specs.Words.{Below}
use Rattle.clash.specs.Calls.{clash_of, clash_checks, clash_call}
use Rattle.clash.specs.Parts.{Logged}

module _ (p m n s : ℕ) (log marks : List ℕ) where
  -- the refusal by the first check that fails leaves the marks as they were
  pub clash_refused : {k : Refusal} → FirstFailing (clash_checks p m n s log marks) k → untouched marks k ≡ clash_call p m n s log marks
  unfolding clash_call
  clash_refused f = sym (in_order_refused _ _ f)

  -- 1, and 2 for more than 64 rows or columns
  pub clash_sizes : {k : Refusal} → FirstFailing (table_sizes p m n) k → clash_call p m n s log marks ≡ untouched marks k
  clash_sizes f = sym (clash_refused (sizes_first f))

  -- "n of 0 is 2"
  pub clash_no_columns : Given (table_sizes p m n) → n ≡ 0 → clash_call p m n s log marks ≡ untouched marks Size
  clash_no_columns g e = sym (clash_refused (past_sizes g (fails_here (λ size. omega arith))))

  pub clash_words : Given (table_sizes p m n) → FrameSize n → (WordCount s → ⊥) → clash_call p m n s log marks ≡ untouched marks Words
  clash_words g size bad = sym (clash_refused (past_sizes g (size then fails_here bad)))

  pub clash_length : Given (table_sizes p m n) → FrameSize n → WordCount s → (length log ≡ m * (n + s) → length marks ≡ m → ⊥)
      → clash_call p m n s log marks ≡ untouched marks Length
  clash_length g size words bad =
      sym (clash_refused (past_sizes g (size then words then or_later (λ l. fails_here (bad l)))))

  pub clash_number : Given (table_sizes p m n) → FrameSize n → WordCount s → length log ≡ m * (n + s) → length marks ≡ m
      → (Below p log → ⊥) → clash_call p m n s log marks ≡ untouched marks Number
  clash_number g size words l k bad =
      sym (clash_refused (past_sizes g (size then words then l then k then fails_here bad)))

  -- all else is accepted
  pub clash_accepted : AllHold (clash_checks p m n s log marks) → IsRefusal (clash_call p m n s log marks).told.number → ⊥
  unfolding clash_call clash_of
  clash_accepted all =
      in_order_accepted _ _ (λ (o : Outcome (List ℕ)). IsRefusal o.told.number → ⊥) all
      (λ hs. pick_elim (λ (o : Outcome (List ℕ)). IsRefusal o.told.number → ⊥) _ _ _ (λ _ h. omega arith) (λ _ h. omega arith))

  -- ---- what the code is held to where all checks hold

  -- what the checks gave is a log, and a mark a row
  pub log_given : Given (clash_checks p m n s log marks) → Logged p m n s log × (length marks ≡ m)
  log_given (modulus, (sizes, (size, (words, (log_long, (marks_long, (below, _))))))) = (
    record {
      is_modulus = modulus;
      m_most = sizes.0;
      n_size = size;
      s_count = words;
      log_long = log_long;
      log_below = below;
    },
    marks_long,
  )

  pub clash_done : (o : Outcome (List ℕ)) → AllHold (clash_checks p m n s log marks) → ((ok : IsModulus p) → o ≡ clash_of p ok m n s log)
      → o ≡ clash_call p m n s log marks
  unfolding clash_call
  clash_done o all h = sym (in_order_done _ (untouched marks) o all (λ hs. sym (h hs.0)))
