-- Clash after a 9. A frame that take answers 9 has no common assignment with the frames that stand; so a log that has all of these is
-- never answered 0, whatever else it has and in whatever order. And a log of frames that one assignment meets, as those of one console do,
-- is always answered 0.
use mathlib.Core.Path.{◌≡◌, subst}
use mathlib.Core.List.{List}
use Prim.Native.Nat.{ℕ, ◌<◌}
use native.Mathlib.Omega.{arith}
use lib.ListN.{length, get_or}
use Rattle.checks.specs.InOrder.{AllHold}
use Rattle.checks.specs.Outcome.{Outcome}
use Rattle.checks.specs.Prime.{IsModulus}
use Rattle.checks.specs.Told.{results}
use Rattle.checks.specs.Refusal.{refusal_number}
use Rattle.checks.proofs.InOrder.{in_order_elim, kind_of_list}
use Rattle.ledger.specs.Ledger.{Entry, entry, no_entry, Ledger, Assignment, Meets, MeetsAll}
use Rattle.ledger.specs.Board.{modulus_word, size_word, values_word, entries_of, ledger_of}
use Rattle.ledger.specs.Calls.{take_call}
use Rattle.ledger.proofs.LedgerSteps.{Took, new, repeat, conflict, refusal, took}
use Rattle.ledger.proofs.TakenFrames.{met_gives_values}
use Rattle.clash.specs.Calls.{frames_of, clash_checks, clash_call}
use Rattle.clash.specs.Referee.{Conflicts, Logs}
use Rattle.clash.proofs.Frames.{frames_many}
use Rattle.clash.proofs.ClashCall.{clash_call_done}

-- a 9 says that the frame was read, and that no assignment meets it and all standing frames
took_conflict : (p : ℕ) (ok : IsModulus p) (n s : ℕ) (l : Ledger) (frame mix : List ℕ) {r : Outcome (Ledger × List ℕ)}
    → Took p ok n s l frame mix r → r.told.number ≡ 9 → Conflicts p n s l.entries frame
took_conflict p ok n s l frame mix (new xs vs e f) h = absurd (omega arith)
took_conflict p ok n s l frame mix (repeat xs vs e c g) h = absurd (omega arith)
took_conflict p ok n s l frame mix (conflict xs vs e c g) h =
    record {
      multipliers = xs;
      values = vs;
      read = e;
      none = λ x all one. g (met_gives_values p ok n s l.entries xs vs x all one c);
    }
took_conflict p ok n s l frame mix (refusal k i) h = absurd (i.0 h)

-- of the call take, on whatever words
pub nine_conflicts : (ws frame mix : List ℕ) → (take_call ws frame mix).told.number ≡ 9
    → Conflicts (modulus_word ws) (size_word ws) (values_word ws) (entries_of ws) frame
unfolding take_call
nine_conflicts ws frame mix =
    in_order_elim _ _
    (λ (o : Outcome (List ℕ × List ℕ)). o.told.number ≡ 9 → Conflicts (modulus_word ws) (size_word ws) (values_word ws) (entries_of ws) frame)
    (λ hs h.
    took_conflict (modulus_word ws) hs.0.prime (size_word ws) (values_word ws) (ledger_of ws) frame mix
    (took (modulus_word ws) hs.0.prime (size_word ws) (values_word ws) (ledger_of ws) frame mix) h)
    (λ k f h. absurd (kind_of_list (λ q. refusal_number q ≡ 9 → ⊥) ((λ e. omega arith), λ _. tt) f h))

-- "after a 9, hand the log over": with the standing frames and the refused one in it, clash selects some
pub clash_after_nine : (ws frame mix : List ℕ) (c : (take_call ws frame mix).told.number ≡ 9) (m : ℕ) (log marks : List ℕ)
    → AllHold (clash_checks (modulus_word ws) m (size_word ws) (values_word ws) log marks)
    → ((i : ℕ) → i < length (entries_of ws) → Logs m (size_word ws) (values_word ws) log (get_or (entries_of ws) i no_entry))
    → Logs m (size_word ws) (values_word ws) log (entry (nine_conflicts ws frame mix c).multipliers (nine_conflicts ws frame mix c).values)
    → (clash_call (modulus_word ws) m (size_word ws) (values_word ws) log marks).told ≡ results 0 → ⊥
clash_after_nine ws frame mix c m log marks all standing refused zero =
    let p = modulus_word ws in
    let n = size_word ws in
    let s = values_word ws in
    let (x, met) = (clash_call_done p m n s log marks all).zero_exactly.0 zero in
    let logged : (e : Entry) → Logs m n s log e → Meets p n s e x = λ e (i, (l, d)).
    subst (λ f. Meets p n s f x) d (met i (rw (frames_many p m n s log) l)) in
    (nine_conflicts ws frame mix c).none x (λ i l. logged _ (standing i l)) (logged _ refused)

-- frames that one assignment meets never clash
pub honest_log : (p m n s : ℕ) (log marks : List ℕ) → AllHold (clash_checks p m n s log marks)
    → (x : Assignment p) → MeetsAll p n s (frames_of m n s log) x → (clash_call p m n s log marks).told ≡ results 0
honest_log p m n s log marks all x met = (clash_call_done p m n s log marks all).zero_exactly.1 (x, met)
