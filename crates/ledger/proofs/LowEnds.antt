-- What the low end does to show (02, #106), and what it leaves alone. "What counts as a settled record is untouched": two shows of the same
-- words that are not refused answer the same and mark the same, whatever their low ends and whatever is lent to them. "The old reading is L = (p - 1)/2 rounded down":
-- in every list of calls, a show with that low end gives a settled record in 01's own reading, each of its words.
use mathlib.Core.Path.{◌≡◌, sym, ap, ◌∙◌, subst}
use mathlib.Core.List.{List}
use Prim.Native.Nat.{ℕ, ◌<◌}
use native.Mathlib.Omega.{arith}
use lib.IntN.{ℤ}
use Rattle.checks.specs.Prime.{IsModulus}
use Rattle.checks.specs.Refusal.{IsRefusal}
use Rattle.checks.specs.Outcome.{Outcome}
use Rattle.checks.proofs.Refusals.{refusal_number_lem}
use Rattle.checks.proofs.InOrder.{in_order_elim}
use Rattle.field.proofs.Residues.{value_below}
use Rattle.signed.specs.Balanced.{balanced_low, balanced_reading}
use Rattle.signed.proofs.Balanced.{balanced_reading_lem}
use Rattle.frame.specs.Sealing.{word_of}
use Rattle.ledger.specs.Ledger.{Assignment, MeetsAll, Settled}
use Rattle.ledger.specs.Board.{IsBoard, modulus_word, size_word, values_word, entries_of}
use Rattle.ledger.specs.Calls.{open_call, show_call}
use Rattle.ledger.specs.History.{Call}
use Rattle.ledger.specs.Turns.{Turn}
use Rattle.ledger.specs.Demand3.{standing, reply_at}
use Rattle.ledger.proofs.Parse.{board_proper}
use Rattle.ledger.proofs.WordsCalls.{show_on_board}
use Rattle.ledger.proofs.LedgerLaws.{show_accepted}
use Rattle.ledger.proofs.Shown.{shown_given}
use Rattle.ledger.proofs.Demand3.{demand_3}

-- ---- the same answer and the same marks

abbrev Accepted : Outcome (List ℕ × List ℤ) → Type 0
Accepted o = IsRefusal o.told.number → ⊥

-- words that show does not refuse are a board
shown_board : (ws : List ℕ) (low : ℕ) (marks : List ℕ) (zs : List ℤ) → Accepted (show_call ws low marks zs) → IsBoard ws
unfolding show_call
shown_board ws low marks zs =
    in_order_elim _ _ (λ (o : Outcome (List ℕ × List ℤ)). Accepted o → IsBoard ws) (λ hs _. hs.0) (λ k _ f. absurd (f (refusal_number_lem k)))

pub marks_any_low : (ws : List ℕ) (low other : ℕ) (marks ks : List ℕ) (zs ys : List ℤ)
    → Accepted (show_call ws low marks zs) → Accepted (show_call ws other ks ys)
    → ((show_call ws low marks zs).told ≡ (show_call ws other ks ys).told)
    × ((show_call ws low marks zs).lent.0 ≡ (show_call ws other ks ys).lent.0)
marks_any_low ws low other marks ks zs ys f g =
    let b = shown_board ws low marks zs f in
    let P = board_proper ws b in
    let s = show_on_board ws b low marks zs in
    let t = show_on_board ws b other ks ys in
    let (h, l, m) = shown_given (modulus_word ws) b.prime (size_word ws) (values_word ws) (entries_of ws) P low marks zs (subst Accepted s f) in
    let (h', l', m') = shown_given (modulus_word ws) b.prime (size_word ws) (values_word ws) (entries_of ws) P other ks ys (subst Accepted t g) in
    let one = s ∙ show_accepted (modulus_word ws) b.prime (size_word ws) (values_word ws) (entries_of ws) P low marks zs h l m in
    let two = t ∙ show_accepted (modulus_word ws) b.prime (size_word ws) (values_word ws) (entries_of ws) P other ks ys h' l' m' in (
      ap (λ (o : Outcome (List ℕ × List ℤ)). o.told) one ∙ sym (ap (λ (o : Outcome (List ℕ × List ℤ)). o.told) two),
      ap (λ (o : Outcome (List ℕ × List ℤ)). o.lent.0) one ∙ sym (ap (λ (o : Outcome (List ℕ × List ℤ)). o.lent.0) two),
    )

-- ---- the old low end

module _ (p : ℕ) (ok : IsModulus p) (n s : ℕ) (ws : List ℕ) (done : (open_call p n s ws).told.number ≡ 0) where
  pub shows_balanced : {cs : List Call} (t : Turn cs) (marks : List ℕ) (numbers : List ℤ) → t.call ≡ Call.show (balanced_low p) marks numbers
      → (IsRefusal (reply_at p n s ws t).told.number → ⊥) → (j w : ℕ) → j < n → w < s → Settled p n s (standing p ok n s t.before) j
      → (x : Assignment p) → MeetsAll p n s (standing p ok n s t.before) x
      → word_of s (reply_at p n s ws t).numbers j w ≡ balanced_reading p (x j w).value
  shows_balanced {cs} t marks numbers e f j w b h settled x met =
      let positive : 0 < p = omega (arith, ok.prime.two_or_more) in
      ((((demand_3 p ok n s ws done cs).shows t (balanced_low p) marks numbers e f).gives j b).0 settled x met).1 w h
      ∙ balanced_reading_lem p (x j w).value positive (value_below positive (x j w))
