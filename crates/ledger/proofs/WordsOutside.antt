-- s outside 1 to 16 (02, #103): "12, s outside 1 to 16, checked after 2 at open ..; in a board's header it is 11". Open refuses it by 12
-- whatever the length of the words that it is lent, and by 1 or 2 before that; words with such an s in their header are no board, so that
-- take, withdraw and show refuse them by 11. All lent memory is left as it was.
use mathlib.Core.Path.{◌≡◌}
use mathlib.Core.List.{List}
use Prim.Native.Nat.{ℕ}
use lib.IntN.{ℤ}
use Rattle.checks.specs.declared.Refusal.{Refusal}
use Rattle.checks.specs.declared.Refusal.TheVariants.{Modulus, Size, Length, Words, NotBoard}
use Rattle.checks.specs.InOrder.{passed, ◌else◌, ◌⨾◌, FirstFailing}
use Rattle.checks.specs.Outcome.{untouched}
use Rattle.checks.specs.Prime.{IsModulus}
use Rattle.checks.specs.Largest.{FrameSize, WordCount}
use Rattle.checks.specs.Decide.{long?}
use Rattle.checks.specs.Sizes.{frame_sizes}
use Rattle.checks.proofs.InOrder.{fails_here, fails_in_front, in_order_refused, ◌then◌}
use Rattle.ledger.specs.Board.{board_length, values_word}
use Rattle.ledger.specs.Calls.{open_call, take_call, withdraw_call, show_call}
use Rattle.ledger.proofs.WordsCalls.{take_off_board, withdraw_off_board, show_off_board}

-- ---- open

module _ (p n s : ℕ) (ws : List ℕ) where
  sizes_refuse : {k : Refusal} → FirstFailing (frame_sizes p n s) k → open_call p n s ws ≡ untouched ws k
  unfolding open_call
  sizes_refuse f = in_order_refused _ _ (fails_in_front (frame_sizes p n s) (λ _. long? ws (board_length n s) else Length ⨾ passed) f)

  -- 1, whatever n, s and the words
  pub open_modulus_refused : (IsModulus p → ⊥) → open_call p n s ws ≡ untouched ws Modulus
  open_modulus_refused f = sizes_refuse (fails_here f)

  -- 2, whatever s and the words
  pub open_size_refused : IsModulus p → (FrameSize n → ⊥) → open_call p n s ws ≡ untouched ws Size
  open_size_refused ok f = sizes_refuse (ok then fails_here f)

  -- 12, whatever the words
  pub open_words_refused : IsModulus p → FrameSize n → (WordCount s → ⊥) → open_call p n s ws ≡ untouched ws Words
  open_words_refused ok size f = sizes_refuse (ok then size then fails_here f)

-- ---- a board's header

module _ (ws : List ℕ) (outside : WordCount (values_word ws) → ⊥) where
  pub take_words_outside : (frame mix : List ℕ) → take_call ws frame mix ≡ untouched (ws, mix) NotBoard
  take_words_outside = take_off_board ws (λ b. outside b.words)

  pub withdraw_words_outside : (t : ℕ) → withdraw_call ws t ≡ untouched ws NotBoard
  withdraw_words_outside = withdraw_off_board ws (λ b. outside b.words)

  pub show_words_outside : (low : ℕ) (marks : List ℕ) (zs : List ℤ) → show_call ws low marks zs ≡ untouched (marks, zs) NotBoard
  show_words_outside = show_off_board ws (λ b. outside b.words)
