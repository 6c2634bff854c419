-- The raw log of a pair as text: of each block every tag that its walk meets, where the walk stops and why, and how far
-- the block is committed; at last which block answers. It is a function of the walk's own events, so it shows
-- irregular, torn and foreign blocks too. Document 01 has no such text: columns and names follow littlefs's own script
-- readmdir.py. Assumes nothing.
use Rattle.std.specs.Prelude.{Bool, cond, ◌&&◌, ◌||◌, List, [], ◌∷◌, ◌++◌, ℕ, zero, suc, ◌+◌, ◌-◌, ◌/◌, ◌%◌, length, take, drop, leb, ltb, eqb, Err, Ok, Result}
use Rattle.format.specs.Word.{be32, le32, to_be32, xor, all_ones}
use Rattle.format.specs.Tag.{tag_type1, tag_type3, tag_id, tag_size, tag_delete, tag_length, tag_flipped}
use Rattle.format.specs.Kind.{type_name, type_file, type_directory, type_superblock, type_dir_struct, type_inline_struct}
use Rattle.format.specs.Kind.{type_ctz_struct, type_user_attr, type_splice, type_create, type_delete}
use Rattle.format.specs.Kind.{type_forward, type_tail, type_hard_tail, type_move, no_slot, is_check}
use Rattle.format.specs.Crc.{crc}
use Rattle.format.specs.Walk.{Event, ent, chk, inv, Class, past, invalid, check, entry, class_of, walk}
use Rattle.format.specs.Log.{log, log_end}
use Rattle.format.specs.Listing.{ascii, decimal, hex_byte, hex_bytes, hex_type, number_line, refused_line, fetch_input}
use Rattle.format.specs.declared.LfsPair.{LfsPair}
use Rattle.format.specs.declared.Fetched.{Fetched}
use Rattle.format.specs.declared.Refusal.{Refusal}

-- ---- numbers
-- a word in hex, eight digits
abbrev pub hex_word : ℕ → List ℕ
hex_word n = hex_bytes (to_be32 n)

-- a number below 1,024 in four columns
unfoldable pub margin : ℕ → List ℕ
margin n = cond (ltb n 10) (ascii "   ") (cond (ltb n 100) (ascii "  ") (cond (ltb n 1_000) (ascii " ") []))

unfoldable pub column : ℕ → List ℕ
column n = margin n ++ decimal n

-- An id: a dot for what belongs to no slot.
unfoldable pub id_column : ℕ → List ℕ
id_column t = cond (eqb (tag_id t) no_slot) (ascii "   .") (column (tag_id t))

-- A size: an x for a removal, which has no data.
unfoldable pub size_column : ℕ → List ℕ
size_column t = cond (tag_delete t) (ascii "   x") (column (tag_size t))

-- ---- types by name, in twelve columns
pub record Named : Type 0 where
  pub type : ℕ
  pub name : List ℕ

abbrev pub named : ℕ → List ℕ → Named
named t l = record { type = t; name = l }

-- the name of a type in a list, or another
unfoldable pub name_in : List Named → ℕ → List ℕ → List ℕ
name_in [] t other = other
name_in (n ∷ ns) t other = cond (eqb t n.type) n.name (name_in ns t other)

-- the types that have a name of their own
abbrev pub type_names : List Named
type_names = named type_file (ascii "reg         ")
    ∷ named type_directory (ascii "dir         ")
    ∷ named type_superblock (ascii "superblock  ")
    ∷ named type_dir_struct (ascii "dirstruct   ")
    ∷ named type_inline_struct (ascii "inlinestruct")
    ∷ named type_ctz_struct (ascii "ctzstruct   ")
    ∷ named type_create (ascii "create      ")
    ∷ named type_delete (ascii "delete      ")
    ∷ named type_forward (ascii "fcrc        ")
    ∷ named type_tail (ascii "softtail    ")
    ∷ named type_hard_tail (ascii "hardtail    ")
    ∷ named type_move (ascii "movestate   ")
    ∷ []

-- any other, by its upper three bits: 0x374 is a user attribute
abbrev pub class_names : List Named
class_names = named type_name (ascii "name        ")
    ∷ named 0x200 (ascii "struct      ")
    ∷ named type_user_attr (ascii "userattr    ")
    ∷ named type_splice (ascii "splice      ")
    ∷ named 0x500 (ascii "crc         ")
    ∷ named 0x600 (ascii "tail        ")
    ∷ named 0x700 (ascii "gstate      ")
    ∷ []

unfoldable pub class_name : ℕ → List ℕ
class_name type1 = name_in class_names type1 (ascii "unknown     ")

-- a commit check goes by type2
unfoldable pub tag_name : ℕ → List ℕ
tag_name t = cond (is_check t) (ascii "ccrc        ") (name_in type_names (tag_type3 t) (class_name (tag_type1 t)))

-- ---- a tag: its offset, itself after the XOR, its type, the type's name, id and size
abbrev pub heading : List ℕ
heading = ascii "off       tag       type name          id  len  data\n"

unfoldable pub type_columns : ℕ → List ℕ
type_columns t = hex_type (tag_type3 t) ++ (ascii "  " ++ (tag_name t ++ (id_column t ++ (ascii " " ++ size_column t))))

unfoldable pub tag_columns : ℕ → ℕ → List ℕ
tag_columns at t = hex_word at ++ (ascii ": " ++ (hex_word t ++ (ascii "  " ++ type_columns t)))

-- ---- data: in hex, and as letters where they are letters
-- the first byte in three columns; blank where there is none
unfoldable pub cell : List ℕ → List ℕ
cell [] = ascii "   "
cell (b ∷ l) = hex_byte b ++ ascii " "

-- n places for bytes
unfoldable pub hex_cells : ℕ → List ℕ → List ℕ
hex_cells zero l = []
hex_cells (suc n) l = cell l ++ hex_cells n (drop 1 l)

-- a byte as the letter that it is, or a dot
unfoldable pub letter : ℕ → ℕ
letter b = cond (leb 0x20 b && leb b 0x7e) b 0x2e

unfoldable pub letters : List ℕ → List ℕ
letters [] = []
letters (b ∷ l) = letter b ∷ letters l

unfoldable pub cells : ℕ → List ℕ → List ℕ
cells n l = hex_cells n l ++ (ascii " " ++ letters l)

-- Beside the tag, where the text is not full: the first eight bytes.
unfoldable pub cut_data : Bool → List ℕ → List ℕ
cut_data full d = cond (full || eqb (length d) 0) [] (ascii "  " ++ cells 8 (take 8 d))

-- Below the tag, where it is full: all bytes, sixteen to a line, each line with the offset of its first; at most n
-- lines.
unfoldable pub data_line : ℕ → List ℕ → List ℕ
data_line at l = ascii "      " ++ (hex_word at ++ (ascii ": " ++ (cells 16 l ++ ascii "\n")))

unfoldable pub data_lines : ℕ → ℕ → List ℕ → List ℕ
data_lines zero at d = []
data_lines (suc n) at [] = []
data_lines (suc n) at (b ∷ d) = data_line at (take 16 (b ∷ d)) ++ data_lines n (at + 16) (drop 16 (b ∷ d))

-- a tag has at most 1,022 bytes behind it, so 64 lines are enough
unfoldable pub full_data : Bool → ℕ → List ℕ → List ℕ
full_data full at d = cond full (data_lines 64 at d) []

-- the bytes behind a tag as they stand, `rest` being the block from the tag on
abbrev pub data_of : ℕ → List ℕ → List ℕ
data_of t rest = take (tag_length t - 4) (drop 4 rest)

-- ---- what the walk meets at an offset, `rest` being the block from there on
unfoldable pub entry_text : Bool → ℕ → ℕ → List ℕ → List ℕ
entry_text full at t rest =
    tag_columns at t ++ (cut_data full (data_of t rest) ++ (ascii "\n" ++ full_data full (at + 4) (data_of t rest)))

-- a check that fits, with its checksum
unfoldable pub check_text : Bool → ℕ → ℕ → ℕ → List ℕ → List ℕ
check_text full at t x rest =
    tag_columns at t
    ++ (ascii "  checksum " ++ (hex_word x ++ (ascii " fits\n" ++ full_data full (at + 4) (data_of t rest))))

-- ---- why the walk stops
unfoldable pub stop_line : ℕ → List ℕ → List ℕ
stop_line at why = ascii "stops at " ++ (hex_word at ++ (ascii ": " ++ why))

-- a tag with bit 31 set, and the four bytes that stand there: ff ff ff ff where nothing was written
unfoldable pub invalid_stop : ℕ → List ℕ → List ℕ
invalid_stop at rest = stop_line at (ascii "no valid tag, the word there is " ++ (hex_word (be32 rest) ++ ascii "\n"))

-- a check whose checksum is another than that of the bytes; `sum` is the checksum before its tag
unfoldable pub check_stop : ℕ → ℕ → ℕ → List ℕ → List ℕ
check_stop at t sum rest =
    tag_columns at t
    ++ (ascii "  checksum "
    ++ (hex_word (le32 (drop 4 rest))
    ++ (ascii " does not fit, computed "
    ++ (hex_word (crc sum (take 4 rest)) ++ (ascii "\n" ++ stop_line at (ascii "the checksum does not fit\n"))))))

-- an entry that passes the block, or whose reading would
unfoldable pub past_stop : ℕ → ℕ → List ℕ
past_stop at t = tag_columns at t ++ (ascii "\n" ++ stop_line at (ascii "the entry passes the end of the block\n"))

-- "The walk stops on an invalid tag, on an entry passing the block, or on any read past it", or on a check that doesn't
-- fit: by the walk's own class of the tag t that stands there. A whole entry stops no walk, and has no text of its own.
unfoldable pub stop_text : Class → ℕ → ℕ → ℕ → List ℕ → List ℕ
stop_text past at t sum rest = cond (ltb (length rest) 4) (stop_line at (ascii "the block ends\n")) (past_stop at t)
stop_text invalid at t sum rest = invalid_stop at rest
stop_text check at t sum rest = check_stop at t sum rest
stop_text entry at t sum rest = past_stop at t

-- the same, from the previous tag
abbrev pub stop_behind : ℕ → ℕ → ℕ → List ℕ → List ℕ
stop_behind at prev sum rest =
    stop_text (class_of (xor (be32 rest) prev) (length rest)) at (xor (be32 rest) prev) sum rest

-- ---- a block
-- The events of a walk from an offset on, each as its text, and behind them why there are no more. The previous tag,
-- the checksum and the rest of the block go along as in the walk itself (`step_of` of Walk).
unfoldable pub event_texts : Bool → ℕ → ℕ → ℕ → List ℕ → List Event → List ℕ
event_texts full at prev sum rest [] = stop_behind at prev sum rest
event_texts full at prev sum rest (inv ∷ es) = stop_behind at prev sum rest
event_texts full at prev sum rest (ent t d ∷ es) =
    entry_text full at t rest
    ++ event_texts full (at + tag_length t) t (crc sum (take (tag_length t) rest)) (drop (tag_length t) rest) es
event_texts full at prev sum rest (chk t x ∷ es) =
    check_text full at t x rest
    ++ event_texts full (at + tag_length t) (tag_flipped t) all_ones (drop (tag_length t) rest) es

-- where the committed log ends; an end of 4: there is no commit
unfoldable pub committed_line : ℕ → List ℕ
committed_line end =
    cond (eqb end 4) (ascii "nothing is committed\n\n") (ascii "committed up to " ++ (hex_word end ++ ascii "\n\n"))

-- number and revision, which are the first four bytes; the events; the end
unfoldable pub block_log : Bool → ℕ → List ℕ → List ℕ
block_log full n b =
    ascii "block "
    ++ (decimal n
    ++ (number_line (ascii " rev ") (le32 b)
    ++ (heading
    ++ (event_texts full 4 all_ones (crc all_ones (take 4 b)) (drop 4 b) (walk b) ++ committed_line (log_end (log b))))))

-- ---- the whole text
-- which block answers
unfoldable pub answers_line : ℕ → List ℕ
answers_line n = ascii "block " ++ (decimal n ++ ascii " answers\n")

abbrev pub answer_line : Result Fetched Refusal → List ℕ
answer_line (Err r) = refused_line r
answer_line (Ok f) = answers_line f.dir.pair.n0

-- "Block size 128 to 32,768": an input of a length that can't be two such blocks is refused, and nothing of it is
-- shown.
unfoldable pub is_shown : ℕ → Bool
is_shown len = eqb (len % 2) 0 && leb 256 len && leb len 65_536

unfoldable pub block_logs : Bool → LfsPair → List ℕ → List ℕ
block_logs full p input = block_log full p.n0 (take (length input / 2) input)
    ++ block_log full p.n1 (drop (length input / 2) input)

-- the raw log of a pair of that program size, whose blocks have those numbers
abbrev pub raw_log_of : Bool → ℕ → LfsPair → List ℕ → List ℕ
raw_log_of full prog p input = cond (is_shown (length input)) (block_logs full p input) []
    ++ answer_line (fetch_input prog p input)
