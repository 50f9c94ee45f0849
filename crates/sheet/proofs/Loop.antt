-- The loop over the frames: what is written so far, and what is still to be written, together are what all frames come to.
use Rattle.std.proofs.Common.{◌≡◌, List, [], ◌++◌, ℕ, suc, Bool, true, false, refl, sym, ap, ◌∙◌, subst, append_assoc}
use Rattle.std.specs.Prelude.{Option}
use Rattle.sheet_heat.specs.Calls.{ending_of, frames_by_calls}
use Rattle.sheet.specs.Program.{Reads, Writes, NextText}
use Rattle.sheet.proofs.Streams.{reads_none, reads_then, appended_none, appended_then}

-- the text is written of so many frames that may come, and k more may come
abbrev pub SoFar : (most : ℕ) (ws mix bytes text : List ℕ) (k : ℕ) (ws' mix' left : List ℕ) → Type 0
SoFar most ws mix bytes text k ws' mix' left = frames_by_calls most ws mix bytes ≡ text ++ frames_by_calls k ws' mix' left

-- with what the reader had at the start and has left, and what the writer held and holds
abbrev pub Gone : (known left held holds : Option (List ℕ)) (most : ℕ) (ws mix : List ℕ) (k : ℕ) (ws' mix' : List ℕ) → Type 0
Gone known left held holds most ws mix k ws' mix' =
    Reads known left (λ bytes rest. Writes held holds (λ text. SoFar most ws mix bytes text k ws' mix' rest))

pub gone_none : (known held : Option (List ℕ)) (most : ℕ) (ws mix : List ℕ) → Gone known known held held most ws mix most ws mix
gone_none known held most ws mix = reads_none _ known (λ bytes. ([], appended_none held, refl))

module _ (known mid left held hold holds : Option (List ℕ)) (most k : ℕ) (ws mix us ms ws' mix' : List ℕ)
    (g : Gone known mid held hold most ws mix k us ms) where
  -- one frame more
  pub gone_more : (j : ℕ) (more : Bool) → k ≡ suc j → more ≡ true
      → Reads mid left (λ bytes rest. Writes hold holds (λ text. NextText us ms bytes text more ws' mix' rest))
      → Gone known left held holds most ws mix j ws' mix'
  gone_more j more e b h =
      reads_then _ _ _ known mid left g
      (subst (λ x. Reads mid left (λ bytes rest. Writes hold holds (λ text. NextText us ms bytes text x ws' mix' rest))) b h)
      (λ xs ys zs v w. (
        v.0 ++ w.0,
        appended_then held hold holds v.0 w.0 v.1 w.1,
        v.2 ∙ ap (λ n. v.0 ++ frames_by_calls n us ms ys) e ∙ ap (λ x. v.0 ++ x) (w.2 j) ∙ sym (append_assoc v.0 w.0 _),
      ))

  -- no frame more
  pub gone_last : (j : ℕ) (more : Bool) → k ≡ suc j → more ≡ false
      → Reads mid left (λ bytes rest. Writes hold holds (λ text. NextText us ms bytes text more ws' mix' rest))
      → Reads known left (λ bytes rest. Writes held holds (λ text. frames_by_calls most ws mix bytes ≡ text ++ ending_of ws'))
  gone_last j more e b h =
      reads_then _ _ _ known mid left g
      (subst (λ x. Reads mid left (λ bytes rest. Writes hold holds (λ text. NextText us ms bytes text x ws' mix' rest))) b h)
      (λ xs ys zs v w. (
        v.0 ++ w.0,
        appended_then held hold holds v.0 w.0 v.1 w.1,
        v.2 ∙ ap (λ n. v.0 ++ frames_by_calls n us ms ys) e ∙ ap (λ x. v.0 ++ x) (w.2 j) ∙ sym (append_assoc v.0 w.0 _),
      ))

-- as many as may come
pub gone_all : (known left held holds : Option (List ℕ)) (most k : ℕ) (ws mix ws' mix' : List ℕ) → Gone known left held holds most ws mix k ws' mix'
    → k ≡ 0 → Reads known left (λ bytes rest. Writes held holds (λ text. frames_by_calls most ws mix bytes ≡ text ++ ending_of ws'))
unfolding frames_by_calls
gone_all known left held holds most k ws mix ws' mix' g e = subst (λ n. Gone known left held holds most ws mix n ws' mix') e g
