-- 01's starred examples hold: those of tables by the theorem of their crate, the frame by that of its crate and the sizes that let it
-- come to read's, those of the board by the test of a heat's frame, on the entries of a fresh board (Heat).
use mathlib.Core.Path.{◌≡◌, refl, ap, ◌∙◌, subst}
use mathlib.Core.Bool.{Bool, true}
use mathlib.Core.Logic.{⊎_elim}
use mathlib.Core.List.Memᴰ
use mathlib.Core.List.{List, [], map, Memᴰ}
use lib.ListN.{length}
use Rattle.algebra.specs.Matrix.{sum, mixed}
use Rattle.checks.specs.Outcome.{Outcome}
use Rattle.codec.specs.BigEndian.{bytes_of}
use Rattle.field.specs.Residue.{reduce, ◌⊕◌, ◌⊗◌}
use Rattle.field.specs.Written.{tabulate}
use Rattle.matrix.specs.Examples.{table_examples}
use Rattle.matrix.proofs.Checker.{◌and◌, every, every_below, both, every_member}
use Rattle.matrix.proofs.CheckedTables.{are_below, are_same, is_prime, same}
use Rattle.matrix.proofs.Examples.{starred_tables_hold}
use Rattle.frame.specs.Examples.{FrameExample, starred_frame, frame_examples, one_byte_frame, two_byte_frame, three_word_frame, request_frames, FrameHolds}
use Rattle.frame.specs.Width.{width}
use Rattle.frame.specs.Format.{map_length, stands, map_byte, map_bytes, packed, value_bytes, frame_in}
use Rattle.frame.proofs.Examples.{starred_frames_read, request_frames_read}
use Rattle.ledger.specs.Calls.{laid_out, take_call}
use Rattle.ledger.specs.Ledger.{value_table}
use Rattle.ledger.specs.Steps.{mix_words}
use Rattle.ledger.proofs.Proper.{empty_proper}
use Rattle.ledger.proofs.Histories.{open_done}
use Rattle.ledger.proofs.WordsCalls.{take_at_layout}
use Rattle.starred.specs.Starred.{BoardExample, board_examples, Starred, table, frame, board, starred, BoardHolds, Holds}
use Rattle.starred.proofs.Sizes.{are_sizes, sizes_checked}
use Rattle.starred.proofs.HeatChecker.{is_combination, gives_values, is_mix, is_answer}
use Rattle.starred.proofs.Heat.{is_written, is_taken, frame_taken}

-- ---- the frame

-- the sizes of every example pass, computed
frame_sizes_lem : every (λ (e : FrameExample). are_sizes e.modulus e.size (length e.values)) frame_examples ≡ true
unfolding every frame_examples starred_frame are_sizes is_prime every_below ◌and◌
frame_sizes_lem = refl

-- so read gives what the example says
starred_frames_hold : (e : FrameExample) → Memᴰ e frame_examples → FrameHolds e
starred_frames_hold e m =
    starred_frames_read e m (sizes_checked e.modulus e.size (length e.values) (every_member _ frame_examples frame_sizes_lem e m)).0

-- and likewise of the frames of 02, #111, on both sides of a width's end, and of the one of three words a record
request_sizes : every (λ (e : FrameExample). are_sizes e.modulus e.size (length e.values)) request_frames ≡ true
unfolding every request_frames one_byte_frame two_byte_frame three_word_frame are_sizes is_prime every_below ◌and◌
request_sizes = refl

pub request_frames_hold : (e : FrameExample) → Memᴰ e request_frames → FrameHolds e
request_frames_hold e m =
    request_frames_read e m (sizes_checked e.modulus e.size (length e.values) (every_member _ request_frames request_sizes e m)).0

-- ---- the board

-- the sizes pass, and the frame where no entries stand
unfoldable passes : BoardExample → Bool
passes e = are_sizes e.modulus e.size e.words and is_taken e.modulus e.size e.words [] [] e.taken

passed_holds : (e : BoardExample) → passes e ≡ true → BoardHolds e
unfolding passes
passed_holds e t ws mix ws_long long =
    let (sizes, taken) = both _ _ t in
    let (ok, size, words) = sizes_checked e.modulus e.size e.words sizes in
    let fresh = empty_proper e.modulus e.size e.words in
    ap (λ (o : Outcome (List _)). take_call o.lent e.taken.bytes mix) (open_done e.modulus e.size e.words ws ok size words ws_long)
    ∙ take_at_layout e.modulus e.size e.words [] ok size words fresh e.taken.bytes mix
    ∙ ap (laid_out e.modulus e.size e.words) (frame_taken e.modulus e.size e.words ok [] [] fresh e.taken taken mix long)

-- every example passes, computed
boards_pass : every passes board_examples ≡ true
unfolding every passes board_examples are_sizes is_prime is_taken is_written is_answer is_mix gives_values is_combination are_below are_same every_below ◌and◌ same
    value_table mix_words sum mixed tabulate reduce ◌⊕◌ ◌⊗◌ frame_in map_bytes map_byte map_length stands packed value_bytes bytes_of width
boards_pass = refl

starred_boards_hold : (e : BoardExample) → Memᴰ e board_examples → BoardHolds e
starred_boards_hold e m = passed_holds e (every_member passes board_examples boards_pass e m)

-- ---- all of them

-- what holds of every member of a list holds of those that are made of them
mapped : {A : Type 0} (f : A → Starred) (xs : List A) → ((a : A) → Memᴰ a xs → Holds (f a))
    → (s : Starred) → Memᴰ s (map f xs) → Holds s
mapped f xs h s m = let (a, i, e) = Memᴰ.of_map f xs m in subst Holds e (h a i)

-- every starred example holds
pub starred_hold : (s : Starred) → Memᴰ s starred → Holds s
unfolding starred
starred_hold s m =
    ⊎_elim (mapped table table_examples starred_tables_hold s)
    (λ r.
    ⊎_elim (mapped frame frame_examples starred_frames_hold s) (mapped board board_examples starred_boards_hold s)
    (Memᴰ.append_cases (map frame frame_examples) r))
    (Memᴰ.append_cases (map table table_examples) m)
