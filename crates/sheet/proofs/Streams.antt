-- What was read and written in steps, taken together.
use Rattle.std.proofs.Common.{List, [], ◌++◌, ℕ, sym, ap, ◌∙◌, subst, append_assoc, append-nil}
use Rattle.std.specs.Prelude.{Option, None, Some}
use Rattle.std.specs.Io.KnownBytes.{Keeps, Appends, Consumes, IsAtEnd}
use Rattle.sheet.specs.Program.{Reads}

-- ---- the reader

-- bytes lost, and then more of them
pub consumed_then : (xs ys zs : Option (List ℕ)) (bs cs : List ℕ) → Consumes xs ys bs → Consumes ys zs cs → Consumes xs zs (bs ++ cs)
consumed_then None ys zs bs cs p q = p
consumed_then (Some xs) None zs bs cs p q = elim p [ ]
consumed_then (Some xs) (Some ys) None bs cs p q = elim q [ ]
consumed_then (Some xs) (Some ys) (Some zs) bs cs p q = p ∙ ap (λ l. bs ++ l) q ∙ sym (append_assoc bs cs zs)

-- some bytes, and then what was read behind them
pub read_then : (P Q : List ℕ → List ℕ → Type 0) (known mid left : Option (List ℕ)) (bs : List ℕ) → Consumes known mid bs → Reads mid left P
    → ((xs ys : List ℕ) → P xs ys → Q (bs ++ xs) ys) → Reads known left Q
read_then P Q None mid left bs c r f = c
read_then P Q (Some zs) None left bs c r f = elim c [ ]
read_then P Q (Some zs) (Some xs) None bs c r f = elim r [ ]
read_then P Q (Some zs) (Some xs) (Some ys) bs c r f = subst (λ l. Q l ys) (sym c) (f xs ys r)

-- some bytes alone
pub read_some : (Q : List ℕ → List ℕ → Type 0) (known left : Option (List ℕ)) (bs : List ℕ) → Consumes known left bs
    → ((ys : List ℕ) → Q (bs ++ ys) ys) → Reads known left Q
read_some Q None left bs c f = c
read_some Q (Some zs) None bs c f = elim c [ ]
read_some Q (Some zs) (Some ys) bs c f = subst (λ l. Q l ys) (sym c) (f ys)

-- the last bytes
pub read_last : (Q : List ℕ → List ℕ → Type 0) (known left : Option (List ℕ)) (bs : List ℕ) → Consumes known left bs → IsAtEnd left
    → Q bs [] → Reads known left Q
read_last Q None left bs c e q = c
read_last Q (Some zs) None bs c e q = elim c [ ]
read_last Q (Some zs) (Some ys) bs c e q =
    subst (λ l. Q zs l) (sym e) (subst (λ l. Q l []) (sym (c ∙ ap (λ l. bs ++ l) e ∙ append-nil bs)) q)

-- nothing, and one reading after the other
pub reads_none : (P : List ℕ → List ℕ → Type 0) (known : Option (List ℕ)) → ((xs : List ℕ) → P xs xs) → Reads known known P
reads_none P None f = tt
reads_none P (Some xs) f = f xs

pub reads_then : (P Q S : List ℕ → List ℕ → Type 0) (known mid left : Option (List ℕ)) → Reads known mid P → Reads mid left Q
    → ((xs ys zs : List ℕ) → P xs ys → Q ys zs → S xs zs) → Reads known left S
reads_then P Q S None mid left p q f = p
reads_then P Q S (Some xs) None left p q f = elim p [ ]
reads_then P Q S (Some xs) (Some ys) None p q f = elim q [ ]
reads_then P Q S (Some xs) (Some ys) (Some zs) p q f = f xs ys zs p q

-- ---- the writer

pub appended_kept : (a b c : Option (List ℕ)) (text : List ℕ) → Appends a b text → Keeps b c → Appends a c text
appended_kept None b c text p q = p
appended_kept (Some xs) None c text p q = elim p [ ]
appended_kept (Some xs) (Some ys) None text p q = elim q [ ]
appended_kept (Some xs) (Some ys) (Some zs) text p q = q ∙ p

pub appended_none : (a : Option (List ℕ)) → Appends a a []
appended_none None = tt
appended_none (Some xs) = sym (append-nil xs)

pub appended_then : (a b c : Option (List ℕ)) (s t : List ℕ) → Appends a b s → Appends b c t → Appends a c (s ++ t)
appended_then None b c s t p q = p
appended_then (Some xs) None c s t p q = elim p [ ]
appended_then (Some xs) (Some ys) None s t p q = elim q [ ]
appended_then (Some xs) (Some ys) (Some zs) s t p q = q ∙ ap (λ l. l ++ t) p ∙ append_assoc xs s t
