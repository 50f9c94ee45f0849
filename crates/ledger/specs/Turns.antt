-- A turn of a list of calls: one call of the list, with the state that it got, the state that it left and its reply. Demand 3
-- speaks of every call of a list, and not only of the last one.
use Rattle.std.specs.Prelude.{◌≡◌, List, [], ◌∷◌, ◌++◌, length, get_or}
use Rattle.checks.specs.Told.{done}
use Rattle.ledger.specs.History.{Call, Reply, reply, After, run}

-- a call of the list, with the calls before it and behind it
pub record Turn (cs : List Call) : Type 0 where
  pub before : List Call
  pub call : Call
  pub behind : List Call
  pub splits : cs ≡ before ++ (call ∷ behind)

-- what is read past the end of replies; no call of a list is answered there, since each has its reply
abbrev pub no_reply : Reply
no_reply = reply done [] []

-- the reply of one step
abbrev pub reply_of : {S : Type 0} → After S → Reply
reply_of a = get_or a.replies 0 no_reply

module _ {S : Type 0} (step : S → Call → After S) (s : S) {cs : List Call} (t : Turn cs) where
  -- the state that the call got, from the calls before it
  abbrev pub got : S
  got = (run step s t.before).state

  -- the state that it left
  abbrev pub left : S
  left = (run step s (t.before ++ (t.call ∷ []))).state

  -- its reply: the one that stands in its place among the replies of the whole list
  abbrev pub answered : Reply
  answered = get_or (run step s cs).replies (length t.before) no_reply
