-- What the table of inverses has to be, as a test that is computed over it. A part of the table covers the numbers from its
-- start up to the start of the next part: each has a divisor between 1 and itself, or the next entry of the part is its
-- inverse modulo 2^32. That the numbers with an entry are primes is not asked.
use Rattle.std.specs.Prelude.{◌≡◌, Bool, true, false, List, [], ◌∷◌, ℕ, zero, suc, ◌*◌, ◌-◌, ◌%◌, ◌≤◌, ◌<◌, T, leb, ltb, eqb, get_or, length}

-- products are taken modulo 2^32
abbrev pub word_base : ℕ
word_base = 4294967296

-- both tests
abbrev pub both : Bool → Bool → Bool
both true b = b
both false b = false

-- where to look for divisors: a number below 49,729 that has one has one of these
abbrev pub small : List ℕ
small =
    2 ∷ 3 ∷ 5 ∷ 7 ∷ 11 ∷ 13 ∷ 17 ∷ 19 ∷ 23 ∷ 29 ∷ 31 ∷ 37 ∷ 41 ∷ 43 ∷ 47 ∷ 53 ∷ 59 ∷ 61 ∷ 67 ∷ 71 ∷ 73 ∷ 79 ∷ 83 ∷ 89 ∷ 97
    ∷ 101 ∷ 103 ∷ 107 ∷ 109 ∷ 113 ∷ 127 ∷ 131 ∷ 137 ∷ 139 ∷ 149 ∷ 151 ∷ 157 ∷ 163 ∷ 167 ∷ 173 ∷ 179 ∷ 181 ∷ 191 ∷ 193
    ∷ 197 ∷ 199 ∷ 211 ∷ []

-- the first number of the list that divides n is strictly between 1 and n
unfoldable pub divides : List ℕ → ℕ → Bool
divides [] n = false
divides (d ∷ ds) n = elim (n % d) [ zero ↦ both (ltb 1 d) (ltb d n) | suc r ↦ divides ds n ]

-- a part that has too few entries is filled up with ones, which find nothing
unfoldable pub ones : List ℕ → Bool
ones [] = true
ones (v ∷ vs) = both (eqb v 1) (ones vs)

-- the k numbers from n on: each has the next entry for its inverse modulo 2^32, or else has a divisor; then only ones are left
unfoldable pub covers : ℕ → ℕ → List ℕ → Bool
covers zero n vs = ones vs
covers (suc k) n [] = both (divides small n) (covers k (suc n) [])
covers (suc k) n (v ∷ vs) =
    elim (eqb (n * v % word_base) 1) [ true ↦ covers k (suc n) vs | false ↦ both (divides small n) (covers k (suc n) (v ∷ vs)) ]

-- where each part of the table starts, and at the end where the last one leads
abbrev starts : List ℕ
starts =
    33 ∷ 66 ∷ 132 ∷ 264 ∷ 499 ∷ 751 ∷ 1019 ∷ 1289 ∷ 1567 ∷ 1867 ∷ 2141 ∷ 2437 ∷ 2731 ∷ 3049 ∷ 3371 ∷ 3673 ∷ 4001 ∷ 4289 ∷
    4643 ∷ 4969 ∷ 5303 ∷ 5641 ∷ 5927 ∷ 6277 ∷ 6619 ∷ 6959 ∷ 7307 ∷ 7639 ∷ 7993 ∷ 8329 ∷ 8693 ∷ 9013 ∷ 9371 ∷ 9697 ∷
    10067 ∷ 10391 ∷ 10753 ∷ 11131 ∷ 11497 ∷ 11897 ∷ 12241 ∷ 12569 ∷ 12919 ∷ 13267 ∷ 13679 ∷ 14009 ∷ 14423 ∷ 14759 ∷
    15131 ∷ 15451 ∷ 15797 ∷ 16187 ∷ 16573 ∷ 16979 ∷ 17351 ∷ 17707 ∷ 18061 ∷ 18413 ∷ 18839 ∷ 19267 ∷ 19597 ∷ 19993 ∷
    20353 ∷ 20749 ∷ 21139 ∷ 21503 ∷ 21851 ∷ 22193 ∷ 22621 ∷ 23003 ∷ 23339 ∷ 23747 ∷ 24083 ∷ 24481 ∷ 24923 ∷ 25321 ∷
    25703 ∷ 26107 ∷ 26459 ∷ 26849 ∷ 27253 ∷ 27697 ∷ 28031 ∷ 28463 ∷ 28789 ∷ 29191 ∷ 29581 ∷ 30047 ∷ 30431 ∷ 30841 ∷
    31219 ∷ 31607 ∷ 32059 ∷ 32401 ∷ 32783 ∷ 33151 ∷ 33547 ∷ 33889 ∷ 34313 ∷ 34687 ∷ 35107 ∷ 35521 ∷ 35963 ∷ 36343 ∷
    36739 ∷ 37097 ∷ 37511 ∷ 37907 ∷ 38329 ∷ 38749 ∷ 39161 ∷ 39551 ∷ 39953 ∷ 40423 ∷ 40829 ∷ 41203 ∷ 41609 ∷ 41969 ∷
    42349 ∷ 42703 ∷ 43093 ∷ 43591 ∷ 43997 ∷ 44383 ∷ 44789 ∷ 45233 ∷ 45659 ∷ 46093 ∷ 46507 ∷ []

unfoldable pub start : ℕ → ℕ
start k = get_or starts k 0

-- the list is part k of the table: its start comes first, then the entries; the numbers that it covers are below twice its start
unfoldable pub is_part : ℕ → List ℕ → Bool
is_part k [] = false
is_part k (f ∷ vs) =
    both (eqb f (start k))
    (both (ltb f (start (suc k))) (both (leb (start (suc k)) (2 * f)) (covers (start (suc k) - f) f vs)))

-- a part's start and its 38 entries
abbrev pub part_size : ℕ
part_size = 39

-- what the contract of a part says
pub record Part (k : ℕ) (ws : List ℕ) : Type 0 where
  pub size : length ws ≡ part_size
  pub computed : T (is_part k ws)

-- the product of p with an entry of the part, modulo 2^32, is at most b: so the number of that entry divides p, for b = p / start
pub record Strikes (p b : ℕ) (ws : List ℕ) : Type 0 where
  pub place : ℕ
  pub past_start : 0 < place
  pub inside : place < part_size
  pub low : p * get_or ws place 0 % word_base ≤ b
