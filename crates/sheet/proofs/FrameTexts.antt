-- What is written for a frame, by what came of it.
use Rattle.std.proofs.Common.{◌≡◌, List, [], ◌∷◌, ◌++◌, ℕ, suc, ◌<◌, Bool, true, false, length, take, refl, sym, ap, ◌∙◌, arith}
use Rattle.std.specs.Prelude.{pos, ltb}
use borrow.Author.Tests.{lt-ltb, le-ltb}
use Rattle.std.proofs.Math.Seq.{take-append_seam, drop-append_seam}
use lib.ListN.{length-take, get_or}
use lib.IntN.{nat_abs}
use Rattle.algebra.specs.Choice.{choose}
use Rattle.checks.specs.declared.Refusal.TheVariants.{FrameLength}
use Rattle.checks.specs.Told.{Told, refused, gives}
use Rattle.codec.specs.BigEndian.{number_from}
use Rattle.ledger.specs.Calls.{take_call}
use Rattle.sheet_text.specs.Input.{frame_start, frame_body}
use Rattle.sheet_heat.specs.Sheet.{cut_line}
use Rattle.sheet_heat.specs.Calls.{taken_line, ending_of, by_input, frames_by_calls}
use Rattle.sheet.specs.Program.{frame_by_calls}

by_body : {A : Type 0} (size : ℕ) (b : Bool) (cut whole : A)
    → by_input (choose b (refused FrameLength) (gives (pos size))) cut cut (λ _. whole) ≡ choose b cut whole
by_body size true cut whole = refl
by_body size false cut whole = refl

module _ (k : ℕ) (ws mix : List ℕ) where
  pub frame_cut : (size : ℕ) (bytes : List ℕ) → length bytes < size → frame_by_calls k ws mix size bytes ≡ cut_line ++ ending_of ws
  unfolding frame_by_calls
  frame_cut size bytes h = rw (lt-ltb (length (take size bytes)) size (omega (arith, length-take size bytes)))

  pub frame_whole : (frame behind : List ℕ) →
      let taken = take_call ws frame mix in
      frame_by_calls k ws mix (length frame) (frame ++ behind)
      ≡ taken_line ws frame mix ++ frames_by_calls k taken.lent.0 taken.lent.1 behind
  unfolding frame_by_calls
  frame_whole frame behind =
      rw (take-append_seam frame behind, drop-append_seam frame behind, le-ltb (length frame) (length frame) (omega arith))

  pub next_end : frames_by_calls (suc k) ws mix [] ≡ ending_of ws
  unfolding frames_by_calls frame_start
  next_end = refl

  pub next_cut : (bytes : List ℕ) → length bytes ≡ 1 → frames_by_calls (suc k) ws mix bytes ≡ cut_line ++ ending_of ws
  unfolding frames_by_calls frame_start
  next_cut [] h = absurd (omega arith)
  next_cut (high ∷ []) h = refl
  next_cut (high ∷ low ∷ bytes) h = absurd (omega arith)

  pub next_frame : (pair behind : List ℕ) (size : ℕ) → length pair ≡ 2 → gives (pos size) ≡ frame_start pair
      → frames_by_calls (suc k) ws mix (pair ++ behind) ≡ frame_by_calls k ws mix size behind
  unfolding frames_by_calls frame_by_calls frame_start frame_body
  next_frame [] behind size h e = absurd (omega arith)
  next_frame (high ∷ []) behind size h e = absurd (omega arith)
  next_frame (high ∷ low ∷ byte ∷ bytes) behind size h e = absurd (omega arith)
  next_frame (high ∷ low ∷ []) behind size h e =
      let told = number_from 0 (high ∷ low ∷ []) in
      by_body told (ltb (length (take told behind)) told) _ _
      ∙ ap (λ n. frame_by_calls k ws mix n behind) (sym (ap (λ (t : Told). nat_abs (get_or t.values 0 (pos 0))) e))
