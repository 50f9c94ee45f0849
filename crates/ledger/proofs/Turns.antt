-- What a turn of a list of calls is, from its step: the state that it left is its step's, its reply is its step's reply, and a
-- list has as many replies as calls. For every machine whose steps reply once, so for the board and for the ledger.
use mathlib.Core.Path.{◌≡◌, refl, ap, ◌∙◌}
use mathlib.Core.List.{List, [], ◌∷◌, ◌++◌}
use Prim.Native.Nat.{ℕ}
use native.Mathlib.Omega.{arith}
use lib.ListN.{length, get_or}
use lib.Seq.{get_or_at}
use Rattle.checks.specs.Prime.{IsModulus}
use Rattle.ledger.specs.History.{Call, After, ledger_step, board_step, run}
use Rattle.ledger.specs.Turns.{Turn, no_reply, reply_of, got, left, answered}
use Rattle.ledger.proofs.LedgerRuns.{run_append}

-- a step has one reply
abbrev pub RepliesOnce : {S : Type 0} → (S → Call → After S) → Type 0
RepliesOnce {S} step = (s : S) (c : Call) → (step s c).replies ≡ reply_of (step s c) ∷ []

pub board_once : RepliesOnce board_step
unfolding board_step
board_once ws (Call.take frame mix) = refl
board_once ws (Call.withdraw t) = refl
board_once ws (Call.show low marks numbers) = refl

pub ledger_once : (p : ℕ) (ok : IsModulus p) (n s : ℕ) → RepliesOnce (ledger_step p ok n s)
unfolding ledger_step
ledger_once p ok n s l (Call.take frame mix) = refl
ledger_once p ok n s l (Call.withdraw t) = refl
ledger_once p ok n s l (Call.show low marks numbers) = refl

module _ {S : Type 0} (step : S → Call → After S) where
  -- the state that a turn left is its step's
  pub turn_left : (s : S) {cs : List Call} (t : Turn cs) → left step s t ≡ (step (got step s t) t.call).state
  unfolding run
  turn_left s t = ap (λ (a : After S). a.state) (run_append step s t.before (t.call ∷ []))

  module _ (once : RepliesOnce step) where
    -- as many replies as calls
    pub replies_many : (s : S) (cs : List Call) → length (run step s cs).replies ≡ length cs
    unfolding run
    replies_many s [] = refl
    replies_many s (c ∷ cs) =
        ap (λ rs. length (rs ++ (run step (step s c).state cs).replies)) (once s c) ∙ omega (arith, replies_many (step s c).state cs)

    -- the reply of a turn is its step's
    pub turn_answered : (s : S) {cs : List Call} (t : Turn cs) → answered step s t ≡ reply_of (step (got step s t) t.call)
    unfolding run
    turn_answered s {cs} t =
        let k = length t.before in
        let one = step (got step s t) t.call in
        let rest = (run step one.state t.behind).replies in
        let front = (run step s t.before).replies in
        ap (λ ds. get_or (run step s ds).replies k no_reply) t.splits
        ∙ ap (λ (a : After S). get_or a.replies k no_reply) (run_append step s t.before (t.call ∷ t.behind))
        ∙ ap (λ rs. get_or (front ++ (rs ++ rest)) k no_reply) (once (got step s t) t.call)
        ∙ get_or_at front (reply_of one) rest no_reply k (replies_many s t.before)
