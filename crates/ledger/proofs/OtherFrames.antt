-- Frames that are not of the board's own form: take refuses them by 6, and leaves the board's words and the mix as they were. Those
-- whose numbers have another width than the board's modulus gives them, such as those of before request 111, and those that end in another
-- number of values than the board's records have words. By reading's first checks (frame/proofs/Lengths.antt).
use mathlib.Core.Path.{◌≡◌, ap, ◌∙◌}
use mathlib.Core.List.{List}
use Prim.Native.Nat.{ℕ}
use lib.ListN.{length}
use Rattle.checks.specs.declared.Refusal.TheVariants.{FrameLength}
use Rattle.checks.specs.Told.{refused}
use Rattle.checks.specs.InOrder.{FirstFailing}
use Rattle.checks.specs.Outcome.{outcome, untouched}
use Rattle.checks.proofs.InOrder.{in_order_refused, ◌then◌}
use Rattle.frame.specs.Width.{width}
use Rattle.frame.specs.Format.{frame_in, frame_of}
use Rattle.frame.specs.Reading.{frame_checks}
use Rattle.frame.proofs.Lengths.{other_width_fails, other_words_fails}
use Rattle.ledger.specs.Steps.{ledger_take}
use Rattle.ledger.specs.Board.{modulus_word, size_word, values_word, ledger_of, IsBoard}
use Rattle.ledger.specs.Calls.{laid_out, take_call}
use Rattle.ledger.proofs.Parse.{board_layout}
use Rattle.ledger.proofs.WordsCalls.{take_on_board}

module _ (ws : List ℕ) (b : IsBoard ws) (mix : List ℕ) (room : length mix ≡ size_word ws) where
  -- a frame that reading refuses by 6
  take_six : (frame : List ℕ) → FirstFailing (frame_checks (modulus_word ws) (size_word ws) (values_word ws) frame) FrameLength
      → take_call ws frame mix ≡ untouched (ws, mix) FrameLength
  unfolding ledger_take
  take_six frame f =
      take_on_board ws b frame mix
      ∙ ap (laid_out (modulus_word ws) (size_word ws) (values_word ws)) step
      ∙ ap (λ words. outcome (refused FrameLength) (words, mix)) (board_layout ws b)
    where
      step : ledger_take (modulus_word ws) b.prime (size_word ws) (values_word ws) (ledger_of ws) frame mix ≡ untouched (ledger_of ws, mix) FrameLength
      step = in_order_refused _ _ (room then f)

  module _ (xs vs : List ℕ) (long : length xs ≡ size_word ws) where
    pub take_other_width : (w : ℕ) → length vs ≡ values_word ws → (w ≡ width (modulus_word ws) → ⊥)
        → take_call ws (frame_in w (size_word ws) xs vs) mix ≡ untouched (ws, mix) FrameLength
    take_other_width w values other =
        take_six (frame_in w (size_word ws) xs vs)
        (other_width_fails (modulus_word ws) w (size_word ws) (values_word ws) xs vs long values b.words.0 other)

    pub take_other_words : (length vs ≡ values_word ws → ⊥)
        → take_call ws (frame_of (modulus_word ws) (size_word ws) xs vs) mix ≡ untouched (ws, mix) FrameLength
    take_other_words other =
        take_six (frame_of (modulus_word ws) (size_word ws) xs vs)
        (other_words_fails (modulus_word ws) (size_word ws) (values_word ws) xs vs long other)
