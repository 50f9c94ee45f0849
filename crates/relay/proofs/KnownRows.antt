-- Two wanted rows whose relay is known beforehand. The zero row is always a combination: the mix is zeros, and so are the values. The row of a
-- standing frame gives that frame's own bytes, with 1 at its position in the mix.
use mathlib.Core.Path.{◌≡◌, refl, sym, ap, ◌∙◌}
use mathlib.Core.List.{List}
use Prim.Native.Nat.{ℕ, ◌≤◌, ◌<◌}
use native.Mathlib.Decide.{dec_lt}
use native.Mathlib.Omega.{arith}
use lib.ListN.{length, get_or, replicate, length-replicate}
use lib.Seq.{ext_get_or}
use lib.Dec.{eqb}
use borrow.Author.Tests.{ne_eqb}
use Rattle.algebra.specs.Choice.{choose}
use Rattle.algebra.specs.Matrix.{unit, mixed}
use Rattle.algebra.specs.Ring.{IsCommutativeRing}
use Rattle.algebra.proofs.Sums as sums
use Rattle.algebra.proofs.Rings as rings
use Rattle.algebra.proofs.Applied as applied
use Rattle.checks.specs.Told.{results}
use Rattle.checks.specs.Outcome.{outcome}
use Rattle.words.proofs.Zeros.{zeros_at}
use Rattle.codec.specs.Placed.{placed}
use Rattle.field.specs.Residue.{reduce, residues, ◌⊗◌}
use Rattle.field.proofs.Field.{residues_field}
use Rattle.field.proofs.Residues.{reduce_injective}
use Rattle.field.proofs.Written.{get_d_tabulate}
use Rattle.frame.specs.Format.{longest, frame_of}
use Rattle.ledger.specs.Ledger.{Entry, no_entry, InSpan, multiplier_rows, value_table}
use Rattle.ledger.specs.Steps.{mix_words}
use Rattle.ledger.specs.Settle.{unit_row_of}
use Rattle.ledger.specs.Board.{IsBoard, modulus_word, size_word, values_word, entries_of}
use Rattle.ledger.specs.Answers.{IsMix}
use Rattle.ledger.proofs.Parse.{board_proper}
use Rattle.ledger.proofs.Shown.{mix_is}
use Rattle.ledger.proofs.Missing.{unit_numbers, unit_residue}
use Rattle.relay.specs.Calls.{combined_values, relayed, relay_call}
use Rattle.relay.specs.Promises.{Lent}
use Rattle.relay.proofs.RelayLaws.{gives_only, implied_only}
use Rattle.relay.proofs.RelayCall.{comes_to}

module _ (ws : List ℕ) (b : IsBoard ws) where
  abbrev p : ℕ
  p = modulus_word ws

  abbrev n : ℕ
  n = size_word ws

  abbrev s : ℕ
  s = values_word ws

  abbrev es : List Entry
  es = entries_of ws

  L : IsCommutativeRing (residues p)
  L = (residues_field p b.prime.prime).ring

  positive : 0 < p
  positive = omega (arith, b.prime.prime.two_or_more)

  -- n numbers below p that are the combination's, then 0, are the mix
  mix_of_lem : (wanted : List ℕ) (c : InSpan p n es wanted) (mix : List ℕ) → length mix ≡ n → ((i : ℕ) → i < n → get_or mix i 0 < p)
      → ((i : ℕ) → i < length es → c.0 i ≡ reduce p (get_or mix i 0)) → ((i : ℕ) → length es ≤ i → i < n → get_or mix i 0 ≡ 0)
      → mix_words p n es c.0 ≡ mix
  mix_of_lem wanted c mix long below same rest =
      ext_get_or 0 (mix_words p n es c.0) mix (told.long ∙ sym long) (λ i h. by_place i (rw told.long at h) (dec_lt i (length es)))
    where
      told : IsMix p n es wanted (mix_words p n es c.0)
      told = mix_is p b.prime n s es (board_proper ws b) wanted c

      by_place : (i : ℕ) → i < n → Dec (i < length es) → get_or (mix_words p n es c.0) i 0 ≡ get_or mix i 0
      by_place i h (yes l) =
          reduce_injective p _ _ (told.below i l) (below i h) (sym (told.only c.0 c.1 i l) ∙ same i l)
      by_place i h (no f) = told.rest i (omega arith) ∙ sym (rest i (omega arith) h)

  -- what is known of a wanted row is what its relay comes to
  known : (wanted mix bytes : List ℕ) → Lent ws wanted mix bytes → (c : InSpan p n es wanted) (m vs : List ℕ)
      → mix_words p n es c.0 ≡ m → combined_values p n s es c.0 ≡ vs
      → relay_call ws wanted mix bytes ≡ outcome (results (length (frame_of p n wanted vs))) (m, placed 0 (frame_of p n wanted vs) bytes)
  unfolding relayed
  known wanted mix bytes lent c m vs e d = comes_to ws wanted mix bytes b lent c ∙ rw (e, d)

  -- ---- "The zero row is always a combination."

  zero_combination : InSpan p n es (replicate n 0)
  zero_combination = (
    λ t. reduce p 0,
    λ j h. ap (reduce p) (zeros_at n j) ∙ sym (applied.zeros_mixed (residues p) L (length es) (λ t. reduce p 0) (multiplier_rows p es) j (λ t l. refl)),
  )

  pub relay_zero : (mix bytes : List ℕ) → length mix ≡ n → length bytes ≡ longest s
      → relay_call ws (replicate n 0) mix bytes
      ≡ outcome (results (length (frame_of p n (replicate n 0) (replicate s 0)))) (replicate n 0, placed 0 (frame_of p n (replicate n 0) (replicate s 0)) bytes)
  unfolding zero_combination
  relay_zero mix bytes l m =
      known (replicate n 0) mix bytes
      (record { wanted_long = length-replicate n 0; mix_long = l; bytes_long = m; below = λ j h. rw (zeros_at n j) positive })
      zero_combination (replicate n 0) (replicate s 0)
      (mix_of_lem (replicate n 0) zero_combination (replicate n 0) (length-replicate n 0) (λ i h. rw (zeros_at n i) positive)
      (λ i h. ap (reduce p) (sym (zeros_at n i))) (λ i h d. zeros_at n i))
      (sym
      (gives_only p b.prime n s es (λ t. reduce p 0) (replicate s 0) (length-replicate s 0) (λ w h. rw (zeros_at s w) positive)
      (λ w h.
      sums.sum_zeros (residues p) L (length es) (λ t. reduce p 0 ⊗ value_table p es t w) (λ t l. rings.zero_times (residues p) L (value_table p es t w))
      ∙ ap (reduce p) (sym (zeros_at s w)))))

  -- ---- the row of a standing frame

  module _ (i : ℕ) (h : i < length es) where
    own_mixed : (j : ℕ) → reduce p (get_or (get_or es i no_entry).multipliers j 0) ≡ mixed (residues p) (length es) (unit (residues p) i) (multiplier_rows p es) j
    unfolding multiplier_rows
    own_mixed j = sym (applied.unit_mixed (residues p) L (length es) (multiplier_rows p es) i j h)

    abbrev own_row : InSpan p n es (get_or es i no_entry).multipliers
    own_row = (unit (residues p) i, λ j l. own_mixed j)

    unit_rest : (t : ℕ) → length es ≤ t → t < n → get_or (unit_row_of n i) t 0 ≡ 0
    unfolding unit_row_of
    unit_rest t l d = get_d_tabulate n (λ j. choose (eqb i j) 1 0) t d ∙ ap (λ a. choose a 1 0) (ne_eqb i t (λ q. omega arith))

    pub relay_own : (mix bytes : List ℕ) → length mix ≡ n → length bytes ≡ longest s →
        let e = get_or es i no_entry in
        let frame = frame_of p n e.multipliers e.values in
        relay_call ws e.multipliers mix bytes ≡ outcome (results (length frame)) (unit_row_of n i, placed 0 frame bytes)
    relay_own mix bytes l m =
        let P = board_proper ws b in
        let e = get_or es i no_entry in
        let unit_row = unit_numbers p b.prime n s i in
        known e.multipliers mix bytes
        (record {
          wanted_long = P.wide i h;
          mix_long = l;
          bytes_long = m;
          below = λ j d. P.below i j h (rw (P.wide i h) at d);
        }) own_row (unit_row_of n i) e.values
        (mix_of_lem e.multipliers own_row (unit_row_of n i) unit_row.long (λ j d. unit_row.below j (rw unit_row.long d))
        (λ t d. sym (unit_residue p b.prime n s i t (omega (arith, P.fits)))) unit_rest)
        (sym
        (implied_only p b.prime n s es P e.multipliers e.values own_row (P.values_long i h)
        (λ w d. P.value_below i w h (rw (P.values_long i h) at d)) (λ x all. all i h)))
