-- What a relay of a proper ledger comes to, by whichever combination: the rows are independent, so that there is one only. Its frame has
-- the values that the combination gives, is met by all that meets the standing frames, and no other with its row is.
use mathlib.Core.Path.{◌≡◌, sym, ap}
use mathlib.Core.List.{List}
use Prim.Native.Nat.{ℕ, ◌≤◌, ◌<◌}
use native.Mathlib.Omega.{arith}
use lib.ListN.{length, get_or}
use Rattle.algebra.specs.Matrix.{Vector}
use Rattle.algebra.proofs.Sums as sums
use Rattle.checks.specs.Largest.{largest}
use Rattle.checks.specs.Prime.{IsModulus}
use Rattle.checks.proofs.InOrder.{none_left, ◌and_then◌, in_order_done}
use Rattle.words.specs.Words.{Below}
use Rattle.field.specs.Residue.{Residue, residues, ◌⊗◌}
use Rattle.field.proofs.Residues.{reduce_of_value, value_below, value_unique}
use Rattle.field.proofs.Written.{length_tabulate, get_d_tabulate, is_tabulate}
use Rattle.frame.specs.Format.{longest}
use Rattle.frame.proofs.Lengths.{longest_frame}
use Rattle.frame.proofs.Round.{Numbers}
use Rattle.ledger.specs.Ledger.{Entry, entry, ledger, InSpan, GivesValues, value_table}
use Rattle.ledger.specs.Proper.{Proper}
use Rattle.ledger.proofs.LedgerLaws.{tabulate_same, combination_once, same_mix, standing_met}
use Rattle.ledger.proofs.TakenFrames.{met_gives_values, given_values_met}
use Rattle.relay.specs.Calls.{combined_value, combined_values, relayed_frame, relayed, ledger_relay}
use Rattle.relay.specs.Promises.{Implied}

module _ (p : ℕ) (ok : IsModulus p) (n s : ℕ) (es : List Entry) where
  positive : 0 < p
  positive = omega (arith, ok.prime.two_or_more)

  -- ---- the values

  value_at : (u : Vector (residues p)) (w : ℕ) → w < s → get_or (combined_values p n s es u) w 0 ≡ (combined_value p n s es u w).value
  value_at u w h = get_d_tabulate s (λ t. (combined_value p n s es u t).value) w h

  pub values_long : (u : Vector (residues p)) → length (combined_values p n s es u) ≡ s
  values_long u = length_tabulate s (λ t. (combined_value p n s es u t).value)

  -- with a row of n numbers below p they are what a frame is written from
  pub frame_numbers_lem : (wanted : List ℕ) (u : Vector (residues p)) → length wanted ≡ n → Below p wanted
      → Numbers p n s wanted (combined_values p n s es u)
  frame_numbers_lem wanted u long below =
      record {
        long = long;
        below = below;
        values_long = values_long u;
        values_below = λ w h.
            let inside : w < s = omega (arith, values_long u) in rw (value_at u w inside) (value_below positive (combined_value p n s es u w));
      }

  -- and the combination gives them
  pub gives_values_lem : (u : Vector (residues p)) → GivesValues p s es u (combined_values p n s es u)
  unfolding combined_value
  gives_values_lem u w h = sym (reduce_of_value (combined_value p n s es u w) (value_at u w h))

  -- s numbers below p that it gives are no others
  pub gives_only : (u : Vector (residues p)) (vs : List ℕ) → length vs ≡ s → Below p vs → GivesValues p s es u vs → vs ≡ combined_values p n s es u
  unfolding combined_value
  gives_only u vs long below g =
      is_tabulate s (λ t. (combined_value p n s es u t).value) vs long
      (λ w h. value_unique p (get_or vs w 0) (combined_value p n s es u w) (below w (omega arith)) (sym (g w h)))

  -- ---- the frame

  -- it is at most as long as the bytes lent for it
  pub relayed_most : (wanted : List ℕ) (u : Vector (residues p)) → length wanted ≡ n → n ≤ largest → length (relayed_frame p n s es wanted u) ≤ longest s
  relayed_most wanted u long small = longest_frame p n s wanted (combined_values p n s es u) long (values_long u) small

  -- all that meets the standing frames meets it
  pub relayed_implied : (wanted : List ℕ) (c : InSpan p n es wanted) → Implied p n s es (entry wanted (combined_values p n s es c.0))
  relayed_implied wanted c x all = given_values_met p ok n s es wanted (combined_values p n s es c.0) x all c (gives_values_lem c.0)

  module _ (proper : Proper p n s es) where
    -- and no other frame with its row is so: some assignment meets the standing frames, and that gives the values
    pub implied_only : (wanted vs : List ℕ) (c : InSpan p n es wanted) → length vs ≡ s → Below p vs → Implied p n s es (entry wanted vs)
        → vs ≡ combined_values p n s es c.0
    implied_only wanted vs c long below implied =
        let (x, all) = standing_met p ok n s es proper in
        gives_only c.0 vs long below (met_gives_values p ok n s es wanted vs x all (implied x all) c)

    -- ---- whichever combination

    same_values : (wanted : List ℕ) (c d : InSpan p n es wanted) → combined_values p n s es c.0 ≡ combined_values p n s es d.0
    unfolding combined_value
    same_values wanted c d =
        tabulate_same s
        (λ w h.
        ap (λ (a : Residue p). a.value)
        (sums.sum_same (residues p) (length es) (λ t. c.0 t ⊗ value_table p es t w) (λ t. d.0 t ⊗ value_table p es t w)
        (λ t l. ap (λ a. a ⊗ value_table p es t w) (combination_once p ok n s es proper wanted c d t l))))

    same_relayed : (wanted bytes : List ℕ) (c d : InSpan p n es wanted) → relayed p n s es wanted bytes c.0 ≡ relayed p n s es wanted bytes d.0
    unfolding relayed
    same_relayed wanted bytes c d =
        let mixes = same_mix p ok n s es proper wanted c d in
        let values = same_values wanted c d in
        rw (mixes, values)

    -- the relay, where 3 and 4 pass and some combination gives the wanted row
    pub relay_done : (wanted mix bytes : List ℕ) → length wanted ≡ n → length mix ≡ n → length bytes ≡ longest s → Below p wanted
        → (c : InSpan p n es wanted) → ledger_relay p ok n s (ledger es) wanted mix bytes ≡ relayed p n s es wanted bytes c.0
    unfolding ledger_relay
    relay_done wanted mix bytes wanted_long mix_long bytes_long below c =
        in_order_done _ _ _ (wanted_long and_then mix_long and_then bytes_long and_then below and_then c and_then none_left)
        (λ (_, (_, (_, (_, (d, _))))). same_relayed wanted bytes d c)
