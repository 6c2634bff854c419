-- No raw log is as long as 2^32 bytes: a walk over n bytes meets at most n + 1 events, and the text of each is short.
-- Assumes nothing.
use mathlib.Core.Path.{◌≡◌, refl}
use mathlib.Core.Bool.{Bool, true, false, cond, ◌||◌}
use mathlib.Core.List.{List, [], ◌∷◌, ◌++◌}
use Prim.Native.Nat.{ℕ, zero, suc, ◌+◌, ◌*◌, ◌/◌, ◌^◌, ◌≤◌, ◌<◌}
use native.Mathlib.Omega.{arith}
use lib.ListN.{length, take, drop, length-append, length-take, length-drop}
use lib.Dec.{ltb, eqb}
use Rattle.format.specs.Word.{be32, le32, to_be32, xor, all_ones}
use Rattle.format.specs.Tag.{tag_id, tag_size, tag_delete, tag_type1, tag_type3, tag_length, tag_flipped}
use Rattle.format.specs.Kind.{is_check}
use Rattle.format.specs.Crc.{crc}
use Rattle.format.specs.Walk.{Event, ent, chk, inv, Class, past, invalid, check, entry, class_of, checked, step_of}
use Rattle.format.specs.Walk.{walk_in, walk_from, walk}
use Rattle.format.specs.Log.{log, log_end}
use Rattle.format.specs.Listing.{ascii, decimal, hex_bytes, hex_type, number_line, fetch_input}
use Rattle.format.specs.RawLog.{hex_word, margin, column, id_column, size_column, Named, name_in, type_names}
use Rattle.format.specs.RawLog.{class_names, class_name, tag_name, heading, type_columns, tag_columns, cell, hex_cells}
use Rattle.format.specs.RawLog.{letters, cells, cut_data, data_line, data_lines, full_data, data_of, entry_text}
use Rattle.format.specs.RawLog.{check_text, stop_line, invalid_stop, check_stop, past_stop, stop_text, event_texts}
use Rattle.format.specs.RawLog.{committed_line, block_log, answers_line, answer_line, is_shown, block_logs, raw_log_of}
use Rattle.format.specs.declared.LfsPair.{LfsPair}
use Rattle.text_input.proofs.Short.{decimal_short, number_short, refused_short}
use Rattle.text_log.proofs.PairShown.{shown_long}
use Rattle.std.specs.Prelude.{Err, Ok, Result}
use Rattle.format.specs.declared.Fetched.{Fetched}
use Rattle.format.specs.declared.Refusal.{Refusal}

-- the longer of two
either : (x : Bool) (xs ys : List ℕ) (n : ℕ) → length xs ≤ n → length ys ≤ n → length (cond x xs ys) ≤ n
either true xs ys n h k = h
either false xs ys n h k = k

-- two parts, one behind the other
both : (xs ys : List ℕ) (n m : ℕ) → length xs ≤ n → length ys ≤ m → length (xs ++ ys) ≤ n + m
both xs ys n m h k = omega (arith, length-append xs ys)

-- ---- columns
word_eight : (n : ℕ) → length (hex_word n) ≤ 8
unfolding hex_bytes to_be32
word_eight n = omega arith

column_short : (n : ℕ) → length (column n) ≤ 13
unfolding column margin
column_short n = both (cond (ltb n 10) (ascii "   ") (cond (ltb n 100) (ascii "  ") (cond (ltb n 1_000) (ascii " ")
    [])))
    (decimal n) 3 10
    (either (ltb n 10) (ascii "   ") (cond (ltb n 100) (ascii "  ") (cond (ltb n 1_000) (ascii " ") [])) 3 (omega arith)
    (either (ltb n 100) (ascii "  ") (cond (ltb n 1_000) (ascii " ") []) 3 (omega arith)
    (either (ltb n 1_000) (ascii " ") [] 3 (omega arith) (omega arith))))
    (decimal_short 10 n)

id_short : (t : ℕ) → length (id_column t) ≤ 13
unfolding id_column
id_short t = either (eqb (tag_id t) 0x3ff) (ascii "   .") (column (tag_id t)) 13 (omega arith) (column_short (tag_id t))

size_short : (t : ℕ) → length (size_column t) ≤ 13
unfolding size_column
size_short t = either (tag_delete t) (ascii "   x") (column (tag_size t)) 13 (omega arith) (column_short (tag_size t))

-- every name has twelve columns
abbrev Twelve : List Named → Type 0
Twelve [] = Unit {0}
Twelve (n ∷ ns) = (length n.name ≤ 12) × Twelve ns

name_short : (ns : List Named) (t : ℕ) (other : List ℕ) → Twelve ns → length other ≤ 12 → length (name_in ns t other) ≤
    12
unfolding name_in
name_short [] t other h k = k
name_short (n ∷ ns) t other h k = either (eqb t n.type) n.name (name_in ns t other) 12 h.0
    (name_short ns t other h.1 k)

class_short : (t : ℕ) → length (class_name t) ≤ 12
unfolding class_name
class_short t = name_short class_names t (ascii "unknown     ") (
  omega arith,
  (
    omega arith,
    (
      omega arith,
      (
        omega arith,
        (omega arith, (omega arith, (omega arith, tt))),
      ),
    ),
  ),
) (omega arith)

tag_name_short : (t : ℕ) → length (tag_name t) ≤ 12
unfolding tag_name
tag_name_short t = either (is_check t) (ascii "ccrc        ")
    (name_in type_names (tag_type3 t) (class_name (tag_type1 t))) 12
    (omega arith)
    (name_short type_names (tag_type3 t) (class_name (tag_type1 t)) (
      omega arith,
      (
        omega arith,
        (
          omega arith,
          (
            omega
                arith,
            (
              omega arith,
              (
                omega arith,
                (
                  omega arith,
                  (
                    omega arith,
                    (
                      omega arith,
                      (
                        omega arith,
                        (
                          omega arith,
                          (omega arith, tt),
                        ),
                      ),
                    ),
                  ),
                ),
              ),
            ),
          ),
        ),
      ),
    )
    (class_short (tag_type1 t)))

type_short : (t : ℕ) → length (type_columns t) ≤ 44
unfolding type_columns
type_short t =
    both (hex_type (tag_type3 t)) (ascii "  " ++ (tag_name t ++ (id_column t ++ (ascii " " ++ size_column t)))) 3 41
    (omega
    arith)
    (both (ascii "  ") (tag_name t ++ (id_column t ++ (ascii " " ++ size_column t))) 2 39 (omega arith)
    (both (tag_name t) (id_column t ++ (ascii " " ++ size_column t)) 12 27 (tag_name_short t)
    (both (id_column t) (ascii " " ++ size_column t) 13 14 (id_short t)
    (both (ascii " ") (size_column t) 1 13 (omega arith) (size_short t)))))

tag_short : (at t : ℕ) → length (tag_columns at t) ≤ 64
unfolding tag_columns
tag_short at t =
    both (hex_word at) (ascii ": " ++ (hex_word t ++ (ascii "  " ++ type_columns t))) 8 56 (word_eight at)
    (both (ascii ": ") (hex_word t ++ (ascii "  " ++ type_columns t)) 2 54 (omega arith)
    (both (hex_word t) (ascii "  " ++ type_columns t) 8 46 (word_eight t)
    (both (ascii "  ") (type_columns t) 2 44 (omega arith) (type_short t))))

-- ---- data
cell_short : (l : List ℕ) → length (cell l) ≤ 3
unfolding cell
cell_short [] = omega arith
cell_short (b ∷ l) = omega arith

hex_short : (n : ℕ) (l : List ℕ) → length (hex_cells n l) ≤ 3 * n
unfolding hex_cells
hex_short zero l = omega arith
hex_short (suc n) l = omega (
  arith,
  length-append (cell l) (hex_cells n (drop 1 l)),
  cell_short l,
  hex_short n (drop 1
      l),
)

letters_length : (l : List ℕ) → length (letters l) ≤ length l
unfolding letters
letters_length [] = omega arith
letters_length (b ∷ l) = omega (arith, letters_length l)

cells_short : (n m : ℕ) (l : List ℕ) → length l ≤ m → length (cells n l) ≤ 3 * n + (1 + m)
unfolding cells
cells_short n m l h =
    both (hex_cells n l) (ascii " " ++ letters l) (3 * n) (1 + m) (hex_short n l)
    (both (ascii " ") (letters l) 1 m (omega arith) (omega (arith, letters_length l)))

take_most : (n : ℕ) (l : List ℕ) → length (take n l) ≤ n
take_most n l = omega (arith, length-take n l)

cut_short : (full : Bool) (d : List ℕ) → length (cut_data full d) ≤ 35
unfolding cut_data
cut_short full d = either (full || eqb (length d) 0) [] (ascii "  " ++ cells 8 (take 8 d)) 35 (omega arith)
    (both (ascii "  ") (cells 8 (take 8 d)) 2 33 (omega arith) (cells_short 8 8 (take 8 d) (take_most 8 d)))

line_short : (at : ℕ) (l : List ℕ) → length l ≤ 16 → length (data_line at l) ≤ 82
unfolding data_line
line_short at l h =
    both (ascii "      ") (hex_word at ++ (ascii ": " ++ (cells 16 l ++ ascii "\n"))) 6 76 (omega arith)
    (both (hex_word at) (ascii ": " ++ (cells 16 l ++ ascii "\n")) 8 68 (word_eight at)
    (both (ascii ": ") (cells 16 l ++ ascii "\n") 2 66 (omega arith)
    (both (cells 16 l) (ascii "\n") 65 1 (cells_short 16 16 l h) (omega arith))))

lines_short : (n at : ℕ) (d : List ℕ) → length (data_lines n at d) ≤ n * 82
unfolding data_lines
lines_short zero at d = omega arith
lines_short (suc n) at [] = omega arith
lines_short (suc n) at (b ∷ d) =
    omega (
      arith,
      length-append (data_line at (take 16 (b ∷ d))) (data_lines n (at + 16) (drop 16 (b ∷ d))),
      line_short at (take 16 (b ∷ d)) (take_most 16 (b ∷ d)),
      lines_short n (at + 16) (drop 16 (b ∷ d)),
    )

full_short : (full : Bool) (at : ℕ) (d : List ℕ) → length (full_data full at d) ≤ 5_248
unfolding full_data
full_short full at d = either full (data_lines 64 at d) [] 5_248 (lines_short 64 at d) (omega arith)

-- ---- events
entry_short : (full : Bool) (at t : ℕ) (rest : List ℕ) → length (entry_text full at t rest) ≤ 5_400
unfolding entry_text
entry_short full at t rest =
    let F : List ℕ = full_data full (at + 4) (data_of t rest) in
    omega (
      arith,
      both (tag_columns at t) (cut_data full (data_of t rest) ++ (ascii "\n" ++ F)) 64 5_284 (tag_short at t)
          (both (cut_data full (data_of t rest)) (ascii "\n" ++ F) 35 5_249 (cut_short full (data_of t rest))
          (both (ascii "\n") F 1 5_248 (omega arith) (full_short full (at + 4) (data_of t rest)))),
    )

check_short : (full : Bool) (at t x : ℕ) (rest : List ℕ) → length (check_text full at t x rest) ≤ 5_400
unfolding check_text
check_short full at t x rest =
    let F : List ℕ = full_data full (at + 4) (data_of t rest) in
    omega (
      arith,
      both (tag_columns at t) (ascii "  checksum " ++ (hex_word x ++ (ascii " fits\n" ++ F))) 64 5_273 (tag_short at t)
          (both (ascii "  checksum ") (hex_word x ++ (ascii " fits\n" ++ F)) 11 5_262 (omega arith)
          (both (hex_word x) (ascii " fits\n" ++ F) 8 5_254 (word_eight x)
          (both (ascii " fits\n") F 6 5_248 (omega arith) (full_short full (at + 4) (data_of t rest))))),
    )

stop_line_short : (at : ℕ) (why : List ℕ) → length why ≤ 50 → length (stop_line at why) ≤ 69
unfolding stop_line
stop_line_short at why h =
    both (ascii "stops at ") (hex_word at ++ (ascii ": " ++ why)) 9 60 (omega arith)
    (both (hex_word at) (ascii ": " ++ why) 8 52 (word_eight at) (both (ascii ": ") why 2 50 (omega arith) h))

invalid_short : (at : ℕ) (rest : List ℕ) → length (invalid_stop at rest) ≤ 200
unfolding invalid_stop
invalid_short at rest =
    let W : List ℕ = hex_word (be32 rest) ++ ascii "\n" in
    omega (
      arith,
      stop_line_short at (ascii "no valid tag, the word there is " ++ W)
          (omega (arith, both (hex_word (be32 rest)) (ascii "\n") 8 1 (word_eight (be32 rest)) (omega arith))),
    )

check_stop_short : (at t sum : ℕ) (rest : List ℕ) → length (check_stop at t sum rest) ≤ 200
unfolding check_stop
check_stop_short at t sum rest =
    let x : ℕ = le32 (drop 4 rest) in
    let y : ℕ = crc sum (take 4 rest) in
    let S : List ℕ = stop_line at (ascii "the checksum does not fit\n") in
    omega (
      arith,
      both (tag_columns at t)
          (ascii "  checksum " ++ (hex_word x ++ (ascii " does not fit, computed " ++ (hex_word y ++ (ascii "\n" ++
          S))))) 64
          121 (tag_short at t)
          (both (ascii "  checksum ")
          (hex_word x ++ (ascii " does not fit, computed " ++ (hex_word y ++ (ascii "\n" ++ S)))) 11 110 (omega arith)
          (both (hex_word x) (ascii " does not fit, computed " ++ (hex_word y ++ (ascii "\n" ++ S))) 8 102
          (word_eight x)
          (both (ascii " does not fit, computed ") (hex_word y ++ (ascii "\n" ++ S)) 24 78 (omega arith)
          (both (hex_word y) (ascii "\n" ++ S) 8 70 (word_eight y)
          (both (ascii "\n") S 1 69 (omega arith)
          (stop_line_short at (ascii "the checksum does not fit\n") (omega arith))))))),
    )

past_short : (at t : ℕ) → length (past_stop at t) ≤ 200
unfolding past_stop
past_short at t =
    let S : List ℕ = stop_line at (ascii "the entry passes the end of the block\n") in
    omega (
      arith,
      both (tag_columns at t) (ascii "\n" ++ S) 64 70 (tag_short at t)
          (both (ascii "\n") S 1 69 (omega arith)
          (stop_line_short at (ascii "the entry passes the end of the block\n") (omega arith))),
    )

stop_short : (k : Class) (at t sum : ℕ) (rest : List ℕ) → length (stop_text k at t sum rest) ≤ 200
unfolding stop_text
stop_short past at t sum rest = either (ltb (length rest) 4) (stop_line at (ascii "the block ends\n")) (past_stop at t)
    200
    (omega (arith, stop_line_short at (ascii "the block ends\n") (omega arith))) (past_short at t)
stop_short invalid at t sum rest = invalid_short at rest
stop_short check at t sum rest = check_stop_short at t sum rest
stop_short entry at t sum rest = past_short at t

events_short : (full : Bool) (es : List Event) (at prev sum : ℕ) (rest : List ℕ)
    → length (event_texts full at prev sum rest es) ≤ length es * 5_400 + 200
unfolding event_texts
events_short full [] at prev sum rest = omega (
  arith,
  stop_short (class_of (xor (be32 rest) prev) (length rest)) at
      (xor (be32 rest) prev) sum rest,
)
events_short full (inv ∷ es) at prev sum rest = omega (
  arith,
  stop_short (class_of (xor (be32 rest) prev) (length
      rest)) at (xor (be32 rest) prev) sum rest,
)
events_short full (ent t d ∷ es) at prev sum rest =
    let s : ℕ = crc sum (take (tag_length t) rest) in
    let r : List ℕ = drop (tag_length t) rest in
    omega (
      arith,
      length-append (entry_text full at t rest) (event_texts full (at + tag_length t) t s r es),
      entry_short full at t rest,
      events_short full es (at + tag_length t) t s r,
    )
events_short full (chk t x ∷ es) at prev sum rest =
    let r : List ℕ = drop (tag_length t) rest in
    omega (
      arith,
      length-append (check_text full at t x rest) (event_texts full (at + tag_length t) (tag_flipped t) all_ones r es),
      check_short full at t x rest,
      events_short full es (at + tag_length t) (tag_flipped t) all_ones r,
    )

-- at most one event in a step
walk_few : (n sum prev : ℕ) (rest : List ℕ) → length (walk_in n sum prev rest) ≤ n
unfolding walk_in
walk_few zero sum prev rest = omega arith
walk_few (suc n) sum prev rest = go (λ s p. walk_few n s p (drop (tag_length t) rest)) (class_of t (length rest))
  where
    t : ℕ
    t = xor (be32 rest) prev

    go : ((s p : ℕ) → length (walk_in n s p (drop (tag_length t) rest)) ≤ n) → (k : Class)
        → length (step_of (walk_in n) k t sum rest) ≤ suc n
    go ih past = omega arith
    go ih invalid = omega arith
    go ih entry = let s = crc sum (take (tag_length t) rest) in omega (arith, ih s t)
    go ih check = fit (eqb (crc sum (take 4 rest)) (le32 (drop 4 rest)))
      where
        fit : (q : Bool) → length (checked (walk_in n) q t rest) ≤ suc n
        fit true = omega (arith, ih all_ones (tag_flipped t))
        fit false = omega arith

events_few : (b : List ℕ) → length (walk b) ≤ suc (length b)
unfolding walk walk_from
events_few b = omega (
  arith,
  walk_few (suc (length (drop 4 b))) (crc all_ones (take 4 b)) all_ones (drop 4 b),
  length-drop 4 b,
)

-- ---- a block, and the whole
committed_short : (end : ℕ) → length (committed_line end) ≤ 26
unfolding committed_line
committed_short end = either (eqb end 4) (ascii "nothing is committed\n\n")
    (ascii "committed up to " ++ (hex_word end ++ ascii "\n\n")) 26 (omega arith)
    (both (ascii "committed up to ") (hex_word end ++ ascii "\n\n") 16 10 (omega arith)
    (both (hex_word end) (ascii "\n\n") 8 2 (word_eight end) (omega arith)))

block_short : (full : Bool) (n : ℕ) (b : List ℕ) → length b ≤ 2 ^ 16 → length (block_log full n b) ≤ 353_910_000
unfolding block_log
block_short full n b h =
    let E : List ℕ = event_texts full 4 all_ones (crc all_ones (take 4 b)) (drop 4 b) (walk b) in
    let C : List ℕ = committed_line (log_end (log b)) in
    let v : length E ≤ 353_900_000 = omega
    (arith, events_short full (walk b) 4 all_ones (crc all_ones (take 4 b)) (drop 4 b), events_few b) in
    omega (
      arith,
      both (ascii "block ") (decimal n ++ (number_line (ascii " rev ") (le32 b) ++ (heading ++ (E ++ C)))) 6 353_900_113
          (omega arith)
          (both (decimal n) (number_line (ascii " rev ") (le32 b) ++ (heading ++ (E ++ C))) 10 353_900_103
          (decimal_short 10 n)
          (both (number_line (ascii " rev ") (le32 b)) (heading ++ (E ++ C)) 16 353_900_087
          (number_short (ascii " rev ") (le32 b))
          (both heading (E ++ C) 61 353_900_026 (omega arith)
          (both E C 353_900_000 26 v (committed_short (log_end (log b))))))),
    )

answers_short : (f : Result Fetched Refusal) → length (answer_line f) ≤ 30
unfolding answers_line
answers_short (Err r) = omega (arith, refused_short r)
answers_short (Ok f) =
    both (ascii "block ") (decimal f.dir.pair.n0 ++ ascii " answers\n") 6 24 (omega arith)
    (both (decimal f.dir.pair.n0) (ascii " answers\n") 10 14 (decimal_short 10 f.dir.pair.n0) (omega arith))

blocks_short : (full : Bool) (p : LfsPair) (input : List ℕ) → length (cond (is_shown (length input))
    (block_logs full p input) []) ≤ 707_820_000
unfolding block_logs
blocks_short full p input = go (is_shown (length input)) refl
  where
    go : (x : Bool) → is_shown (length input) ≡ x
        → length (cond x (block_log full p.n0 (take (length input / 2) input)
        ++ block_log full p.n1 (drop (length input / 2) input)) []) ≤ 707_820_000
    go false e = omega arith
    go true e =
        let l = shown_long (length input) e in
        both (block_log full p.n0 (take (length input / 2) input))
        (block_log full p.n1 (drop (length input / 2) input)) 353_910_000 353_910_000
        (block_short full p.n0 (take (length input / 2) input)
        (omega (arith, l.0, l.1, length-take (length input / 2) input)))
        (block_short full p.n1 (drop (length input / 2) input)
        (omega (arith, l.0, l.1, length-drop (length input / 2) input)))

pub raw_short : (full : Bool) (prog : ℕ) (p : LfsPair) (input : List ℕ) → length (raw_log_of full prog p input) < 2 ^ 32
raw_short full prog p input =
    omega (
      arith,
      both (cond (is_shown (length input)) (block_logs full p input) []) (answer_line (fetch_input prog p input))
          707_820_000 30
          (blocks_short full p input) (answers_short (fetch_input prog p input)),
    )
